use Rattle.std.proofs.Common.{◌≡◌, ℕ, ◌==◌, ◌<◌, ◌≤◌, true, false, length, get_or, ltb, cond, ⊎_elim, Some, None, ◌∙◌, ap, arith, rules}
use borrow.Author.Tests.{tests}
use Rattle.std.specs.Option.{unwrap_or}
use Rattle.std.specs.List.{position_or_len}
use Rattle.std.proofs.lemmas.Bool.{eq-eqb, ne_eqb, lt-ltb, le-ltb, cases_lt}
use Rattle.std.proofs.lemmas.List.{get_or_past}
use Rattle.std.proofs.lemmas.List.Sums.{position_or_len_is}
use Rattle.std.proofs.lemmas.Iterator.{YieldsList-from_slice}
use Rattle.std.proofs.lemmas.Iterator.Search.{position_from_yields_List}
use Rattle.routing.specs.Fields.{widths_of}
use Rattle.routing.proofs.widths.Widths.fields.Goals as goal

-- a width of 0 lies past the last field, and any other before it
pub returns : goal.returns
returns c =
    let bs = c.bytes.result in
    let ws = widths_of c.args.self in
    let each = c.bytes.ensures.each in
    let before : (k : ℕ) → k < length ws → (get_or bs k 0 == 0) ≡ false =
    λ k h. ne_eqb _ 0 (λ e. omega (arith, each k, c.args.self.tested.2 k h))
    in
    let past : length ws < length bs → (get_or bs (length ws) 0 == 0) ≡ true =
    λ h. eq-eqb _ 0 (each (length ws) ∙ get_or_past ws (length ws) 0 (omega arith))
    in
    let at = position_from_yields_List (λ w. w == 0) _ _ c.position.result c.position.ensures.ran (YieldsList-from_slice bs (cc)) (λ x b q k. search (rules, tests)) in
    let first : position_or_len (λ w. w == 0) bs ≡ length ws = position_or_len_is (λ w. w == 0) bs (length ws) 0 (omega (arith, c.bytes.ensures.long, c.args.self.tested.1)) before past in
    let found : c.position.result ≡ cond (ltb (length ws) 8) (Some (length ws)) None =
    at ∙ ap (λ n. cond (ltb n (length bs)) (Some n) None) first ∙ ap (λ n. cond (ltb (length ws) n) (Some (length ws)) None) c.bytes.ensures.long
    in
    c.unwrap_or.ensures
    ∙ ap (λ o. unwrap_or o 8) found
    ∙ ⊎_elim (λ (h : length ws < 8). rw (lt-ltb (length ws) 8 h)) (λ (h : 8 ≤ length ws). rw (le-ltb (length ws) 8 h) (omega (arith, c.args.self.tested.1))) (cases_lt (length ws) 8)
