use Rattle.std.proofs.Common.{◌≡◌, ℕ, ◌<◌, length, get_or, None, sym, ap, ◌∙◌, rules}
use Rattle.routing.specs.Fields.{widths_of}
use Rattle.routing.specs.Lawful.{ends_refusal}
use Rattle.routing.proofs.First.{some_none}
use Rattle.writer.specs.Stages.{put, start_refusal, changed, turned, Planned}
use Rattle.file.specs.Contents.{blank}
use Rattle.writer.specs.Tables.{rows_refusal, table_refusal, file_bytes}
use Rattle.writer.proofs.Steps.{stage_after, start_settled}
use Rattle.writer.proofs.Back.{reads_back, table_put}
use Rattle.writer.proofs.whole.write_table.Goals as goal

pub put_rows-requires-clause-lawful : goal.put_rows-requires-clause-lawful
put_rows-requires-clause-lawful g c k h =
    let ws = widths_of c.in_ok-plan.plan.widths in
    let rows = g.R.Rules.rows c.args.rules.now in
    rw c.start.ensures.answer (some_none (λ r. ends_refusal ws (get_or rows r blank)) (length rows) k h (sym c.in_default.ensures))

pub returns : goal.returns
returns g c =
    let ws = c.args.widths.now in
    let rows = g.R.Rules.rows c.args.rules.now in
    let ds = g.R.Rules.decisions c.args.rules.now in
    let written = g.K.Kind.written in
    let reading = g.K.Kind.reading in
    let size = g.K.Kind.SIZE in
    let code = g.K.Kind.CODE in
    let out = c.args.out.now in
    let p = c.in_ok-plan.plan in
    let n = c.count.ensures.of_rows in
    let plan = c.in_ok-plan.ensures in
    let begun : (start_refusal ws (length rows) size (length out) ≡ None) × Planned ws (length rows) code size p = rw n at plan in
    let l = begun.1 in
    let s = start_settled ws (length rows) size (length out) begun.0 in
    let none : rows_refusal ws rows ≡ None = rw (← l.of_widths) (sym c.in_default.ensures) in
    let fine : table_refusal ws rows size (length out) ≡ None = rw (begun.0, none) in
    let lawful : (k : ℕ) → k < length rows → ends_refusal ws (get_or rows k blank) ≡ None = λ k h. some_none (λ r. ends_refusal ws (get_or rows r blank)) (length rows) k h none in
    let paired = sym n ∙ c.count.ensures.of_decisions in
    let eights = c.put_rows.ensures.eights in
    let first = c.start.ensures.answer in
    let was = c.in_ok-stage.was in
    let turn = c.put_rows.ensures.answer in
    let next : c.in_ok-stage.stage ≡ stage_after p 0 = (let e : c.in_ok-stage.stage ≡ turned c.start.result = cc in e ∙ ap turned first) in
    record {
      answer = search rules;
      after =
          table_put written reading code size ws rows ds s.1 paired s.0 eights lawful g.met.K.Kind.sized p l _ first _ next out _ _ _ c.start.ensures.after c.put_rows.ensures.after c.put_decisions.ensures.after s.2
          ∙ sym (ap (λ r. changed r out (put 0 (file_bytes written code ws rows ds) out)) fine);
      again = λ _. reads_back written reading code size ws rows ds s.1 paired s.0 eights lawful g.met.K.Kind.sized c.put_decisions.ensures.kept;
    }
