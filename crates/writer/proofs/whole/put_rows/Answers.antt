use Rattle.std.proofs.Common.{◌≡◌, ◌+◌, ◌*◌, ◌<◌, ◌≤◌, length, None, Ok, sym, ap, ◌∙◌, arith, rules, below_more}
use Rattle.std.proofs.lemmas.List.{get_or_default}
use Rattle.routing.specs.Fields.{widths_of}
use Rattle.routing.specs.Lawful.{ends_refusal}
use Rattle.file.specs.Layout.{rows_at}
use Rattle.file.specs.Contents.{blank}
use Rattle.writer.specs.Stages.{put, plan_fields, row_at, row_bytes, row_refusal}
use Rattle.writer.proofs.Joins.{put_next, row_length, rows_length}
use Rattle.writer.proofs.Rooms.{eight_times, row_room}
use Rattle.writer.proofs.Steps.{stage_after, never_both, step_ok, step_changed, row_granted}
use Rattle.writer.proofs.whole.put_rows.Goals as goal

pub returns-in-Err : goal.returns-in-Err
returns-in-Err g c =
    let p = c.args.stage.plan in
    let k = c.loop-rule.rule in
    let stands = c.loop-rule.invariant.stage in
    let fits : ends_refusal (widths_of p.widths) c.row.result ≡ None = rw c.row.ensures (c.requires.lawful k (omega (arith, c.count-rule-end.ensures.of_rows))) in
    let none : row_refusal (stage_after p k) c.row.result (length c.loop-rule.out) ≡ None =
    row_granted (stage_after p k) c.row.result _ (omega (arith, c.requires.room, c.loop-rule.auto.out)) (omega (arith, c.count-rule-end.ensures.of_rows, c.requires.counted)) fits
    in
    let answer = c.row-in-loop-rule.ensures.answer in
    let granted : c.row-in-loop-rule.result ≡ Ok (stage_after p (k + 1)) = step_ok _ none _ _ _ (rw stands at answer) in
    absurd (never_both granted c.in-Err.is)

pub loop-rule-preserved : goal.loop-rule-preserved
loop-rule-preserved g c =
    let p = c.args.stage.plan in
    let d = plan_fields p in
    let rows = g.R.Rules.rows c.args.rules.now in
    let k = c.loop-rule.rule in
    let es = c.row.result in
    let stands = c.loop-rule.invariant.stage in
    let below : k < length rows = omega (arith, c.count-rule-end.ensures.of_rows) in
    let few : d ≤ 8 = p.widths.tested.1 in
    let long : length es ≡ 8 = search rules in
    let fits : ends_refusal (widths_of p.widths) es ≡ None = rw c.row.ensures (c.requires.lawful k below) in
    let none : row_refusal (stage_after p k) es (length c.loop-rule.out) ≡ None =
    row_granted (stage_after p k) es _ (omega (arith, c.requires.room, c.loop-rule.auto.out)) (omega (arith, c.requires.counted)) fits
    in
    let answer = c.row-in-loop-rule.ensures.answer in
    let after = c.row-in-loop-rule.ensures.after in
    let granted : c.row-in-loop-rule.result ≡ Ok (stage_after p (k + 1)) = step_ok _ none _ _ _ (rw stands at answer) in
    let is = c.in-Ok.is in
    let to = row_at (stage_after p k) in
    let one : c.row-in-loop-rule.new.out ≡ put to (row_bytes d es) c.loop-rule.out = step_changed _ none _ _ _ (rw stands at after) in
    let room : to + length (row_bytes d es) ≤ length c.args.out.now =
    omega (arith, row_length d es (omega arith), row_room d p.rules p.size k (length c.args.out.now) (omega (arith, c.requires.counted)) c.requires.room)
    in
    record {
      stage = cc;
      bytes =
          one
          ∙ ap (put to (row_bytes d es)) c.loop-rule.invariant.bytes
          ∙ put_next (row_bytes d) rows (8 * d) k es (rows_at d) to c.args.out.now (c.row.ensures ∙ get_or_default rows k blank es below) below (rows_length d rows k few (omega arith) c.loop-rule.invariant.eights) (omega (arith, eight_times k d)) room;
      eights = below_more _ _ c.loop-rule.invariant.eights (ap length (sym c.row.ensures) ∙ long);
    }
