-- Steps that are granted. Assumes nothing.
use Rattle.std.proofs.Common.{◌≡◌, ℕ, ◌+◌, ◌*◌, ◌<◌, ◌≤◌, List, length, None, Option, Result, Ok, Err, MatchResult, ap, ◌∙◌, sym, subst}
use Rattle.std.specs.Bool.{⊤}
use Rattle.std.proofs.lemmas.Bool.{le-ltb, lt-leb, eq-eqb, ltb-false, leb-false, eqb-true, not-false, or_parts}
use Rattle.routing.specs.declared.ends.Ends.{Ends}
use Rattle.routing.specs.Fields.{widths_of}
use Rattle.routing.specs.Lawful.{ends_refusal, widths_refusal}
use Rattle.file.proofs.Refused.{settled, first_none}
use Rattle.file.specs.Layout.{file_length}
use Rattle.writer.specs.Stages.{plan_fields, plan_length, ready_refusal, row_refusal, decision_refusal, row_at, decision_place, step_told, granted, judged, changed, start_refusal}
use Rattle.writer.specs.declared.stage.Plan.{Plan}
use Rattle.writer.specs.declared.stage.Rows.{Rows}
use Rattle.writer.specs.declared.stage.Decisions.{Decisions}
use Rattle.writer.specs.declared.stage.Stage.{Stage}
use Rattle.writer.specs.declared.stage.Refused.{Refused}
use Rattle.writer.proofs.Rooms.{row_room, decision_room}

-- what a step answers, and what it leaves, where no reason speaks against it
module _ {S T : Type 0} (o : Option (ℕ × ℕ)) (none : o ≡ None) where
  pub step_ok : (r : Result T (Refused S)) (s : S) (t : T) → step_told r ≡ judged o s t → r ≡ Ok t
  step_ok r s t e = of r (e ∙ ap (λ x. judged x s t) none)
    where
      of : (q : Result T (Refused S)) → step_told q ≡ granted t → q ≡ Ok t
      of (Ok x) d = cc
      of (Err x) d = cc

-- an answer is one of the two
pub never_both : {S T : Type 0} {r : Result T S} {t : T} {s : S} → r ≡ Ok t → r ≡ Err s → ⊥
never_both e d = subst (λ q. MatchResult q (λ _. ⊤) (λ _. ⊥)) (sym e ∙ d) tt

pub step_changed : (o : Option (ℕ × ℕ)) → o ≡ None → (before after out : List ℕ) → out ≡ changed o before after → out ≡ after
step_changed o none before after out e = e ∙ ap (λ r. changed r before after) none

-- the stage of a plan after k rows, or after k decisions
abbrev pub stage_after : {P : Type 0} → Plan → ℕ → Stage P
stage_after p k = record { plan = p; done = k; phase = record {} }

-- what a step into the file has tested
pub ready_settled : {P : Type 0} (s : Stage P) (room : ℕ) → ready_refusal s room ≡ None → (plan_length s.plan ≤ room) × (s.done < s.plan.rules)
ready_settled s room e =
    let f = first_none _ _ e in
    let r = settled _ _ _ f.0 in
    let l = settled _ _ _ f.1 in
    (ltb-false _ _ r.0, leb-false _ _ l.0)

-- a step into the file that no reason speaks against
pub ready_granted : {P : Type 0} (s : Stage P) (room : ℕ) → plan_length s.plan ≤ room → s.done < s.plan.rules → ready_refusal s room ≡ None
ready_granted s room h i = rw (le-ltb room (plan_length s.plan) h, lt-leb s.plan.rules s.done i)

pub row_granted : (s : Stage Rows) (es : List Ends) (room : ℕ) → plan_length s.plan ≤ room → s.done < s.plan.rules
    → ends_refusal (widths_of s.plan.widths) es ≡ None → row_refusal s es room ≡ None
row_granted s es room h i e = rw (ready_granted s room h i, e)

pub decision_granted : (s : Stage Decisions) (code size room : ℕ) → plan_length s.plan ≤ room → s.done < s.plan.rules → code ≡ s.plan.code → size ≡ s.plan.size
    → decision_refusal s code size room ≡ None
decision_granted s code size room h i e f = rw (ready_granted s room h i, eq-eqb code s.plan.code e, eq-eqb size s.plan.size f)

-- where the next row, and the next decision, has room
pub row_settled : (s : Stage Rows) (es : List Ends) (room : ℕ) → row_refusal s es room ≡ None → row_at s + 8 * plan_fields s.plan ≤ room
row_settled s es room e =
    let r = ready_settled s room (first_none _ _ e).0 in
    row_room (plan_fields s.plan) s.plan.rules s.plan.size s.done room r.1 r.0

pub decision_settled : (s : Stage Decisions) (code size room : ℕ) → decision_refusal s code size room ≡ None → decision_place s + size ≤ room
decision_settled s code size room e =
    let f = first_none _ _ e in
    let r = ready_settled s room f.0 in
    let same : size ≡ s.plan.size = eqb-true _ _ (not-false _ (or_parts _ _ (settled _ _ _ f.1).0).1) in
    rw same (decision_room (plan_fields s.plan) s.plan.rules s.plan.size s.done room r.1 r.0)

-- a start that no reason speaks against
pub start_settled : (ws : List ℕ) (n size room : ℕ) → start_refusal ws n size room ≡ None
    → (widths_refusal ws ≡ None) × (n ≤ 512) × (file_length (length ws) n size ≤ room)
start_settled ws n size room e =
    let f = first_none _ _ e in
    let r = settled _ _ _ f.1 in
    let l = settled _ _ _ r.1 in
    (f.0, ltb-false _ _ r.0, ltb-false _ _ l.0)
