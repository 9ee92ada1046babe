use Rattle.std.proofs.Common.{◌/◌, ◌^◌, ◌<◌, ◌≤◌, sym, ◌∙◌, ⊎_elim, arith, pow_mono}
use native.Mathlib.Nat.{div-eq_of_lt}
use Rattle.std.proofs.lemmas.Nat.{pow_pos, le-div}
use Rattle.std.proofs.lemmas.Bool.{le-leb, lt-ltb, le-ltb, eq-eqb, ne_eqb, cases_lt}
use Rattle.routing.proofs.ends.within.Goals as goal

pub returns-then-width-ge32 : goal.returns-then-width-ge32
returns-then-width-ge32 c =
    le-leb 32 c.args.width c.if-width-ge32.true
    ∙ sym (lt-ltb _ _ (let p : 2 ^ 32 ≤ 2 ^ c.args.width = pow_mono c.if-width-ge32.true in omega (arith, c.ranges.value)))

pub returns-else-width-ge32 : goal.returns-else-width-ge32
returns-else-width-ge32 c =
    let v = c.args.value in
    let m = 2 ^ c.args.width in
    ⊎_elim (λ (h : v < m). eq-eqb (v / m) 0 (div-eq_of_lt h) ∙ sym (lt-ltb v m h))
    (λ (h : m ≤ v). ne_eqb (v / m) 0 (λ e. omega (arith, le-div 1 v m (pow_pos c.args.width) (omega arith))) ∙ sym (le-ltb v m h))
    (cases_lt v m)
