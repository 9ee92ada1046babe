use Rattle.std.proofs.Common.{◌≡◌, ◌+◌, ◌<◌, ◌≤◌, length, get_or, None, Ok, sym, refl, ap, ◌∙◌, arith, below_more}
use Rattle.std.proofs.lemmas.Option.{slice_get-get_or}
use Rattle.file.specs.Layout.{decisions_at}
use Rattle.writer.specs.Stages.{put, plan_fields, decision_place, decision_refusal}
use Rattle.writer.proofs.Joins.{put_next}
use Rattle.writer.proofs.Rooms.{decision_room}
use Rattle.writer.proofs.Steps.{stage_after, step_ok, step_changed, decision_granted}
use Rattle.writer.proofs.whole.put_decisions.Goals as goal

pub loop-rule-preserved : goal.loop-rule-preserved
loop-rule-preserved g c =
    let p = c.args.stage.plan in
    let d = plan_fields p in
    let ds = g.R.Rules.decisions c.args.rules.now in
    let written = g.K.Kind.written in
    let x = c.unwrap.result in
    let k = c.loop-rule.rule in
    let stands = c.loop-rule.invariant.stage in
    let below : k < length ds = omega (arith, c.count-rule-end.ensures.of_decisions) in
    let here : (y : g.row.K.Denot) → x ≡ get_or ds k y = λ y. let e = c.unwrap.ensures in let f = c.decision.ensures ∙ slice_get-get_or ds k y below in cc in
    let sized : (y : g.row.K.Denot) → length (written y) ≡ p.size = λ y. g.met.K.Kind.sized y ∙ sym c.requires.of_size in
    let none : decision_refusal (stage_after p k) g.K.Kind.CODE g.K.Kind.SIZE (length c.loop-rule.out) ≡ None =
    decision_granted (stage_after p k) _ _ _ (omega (arith, c.requires.room, c.loop-rule.auto.out)) (omega (arith, c.requires.counted)) (sym c.requires.of_code) (sym c.requires.of_size)
    in
    let answer = c.decision-in-loop-rule.ensures.answer in
    let after = c.decision-in-loop-rule.ensures.after in
    let kept = c.decision-in-loop-rule.ensures.kept in
    let granted : c.decision-in-loop-rule.result ≡ Ok (stage_after p (k + 1)) = step_ok _ none _ _ _ (rw stands at answer) in
    let is = c.in-Ok.is in
    let to = decision_place (stage_after p k) in
    let one : c.decision-in-loop-rule.new.out ≡ put to (written x) c.loop-rule.out = step_changed _ none _ _ _ (rw stands at after) in
    let room : to + length (written x) ≤ length c.args.out.now =
    omega (arith, sized x, decision_room d p.rules p.size k (length c.args.out.now) (omega (arith, c.requires.counted)) c.requires.room)
    in
    let fine : decision_refusal c.loop-rule.stage g.K.Kind.CODE g.K.Kind.SIZE (length c.loop-rule.out) ≡ None = rw stands none in
    record {
      stage = cc;
      bytes =
          one
          ∙ ap (put to (written x)) c.loop-rule.invariant.bytes
          ∙ put_next written ds p.size k x (decisions_at d p.rules) to c.args.out.now (here x) below (λ j l y. sized (get_or ds j y)) refl room;
      kept = below_more (λ j. (y : g.row.K.Denot) → g.K.Kind.reading (written (get_or ds j y)) ≡ get_or ds j y) k c.loop-rule.invariant.kept (λ y. rw (← here y) (kept fine));
    }
