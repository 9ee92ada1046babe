-- A rule that tested widths allow is one for the tree. Assumes nothing.
use Rattle.std.proofs.Common.{◌≡◌, ℕ, suc, ◌^◌, ◌<◌, ◌≤◌, false, not, List, length, get_or, take, None, sym, subst, arith, pow_mono}
use Rattle.std.proofs.ByRecursion.{All-from_get_or}
use Rattle.std.proofs.lemmas.List.{get_or-take, length-take-le}
use Rattle.std.proofs.lemmas.Bool.Decides.{nat_tests}
use Rattle.shape.specs.Meaning.{Sound, Proper}
use Rattle.routing.specs.Space.{at}
use Rattle.routing.specs.declared.ends.Ends.{Ends}
use Rattle.routing.specs.Lawful.{Tested, fits, ends_bad, ends_refusal}
use Rattle.routing.proofs.First.{none_below}

-- an interval of a field of at most 32 bits holds a value, and numbers of 32 bits alone
sound : (w : ℕ) (e : Ends) → w ≤ 32 → not (fits w e) ≡ false → Sound e
sound w e l h =
    let p : 2 ^ w ≤ 2 ^ 32 = pow_mono l in
    let up : e.low ≤ e.high = grind (arith, nat_tests) in
    let in-width : e.high < 2 ^ w = grind (arith, nat_tests) in
    (up, omega (arith, in-width, p))

-- where no field is refused, the first ones are the intervals of a rule
pub lawful_proper : (d : ℕ) (ws : List ℕ) (es : List Ends) → d ≡ length ws → Tested ws → length es ≡ 8 → ends_refusal ws es ≡ None → Proper d es
lawful_proper d ws es is t n h =
    let long : length (take d es) ≡ d = length-take-le d es (omega (arith, t.1)) in (
      omega (arith, t.1),
      All-from_get_or Sound (take d es) (record { low = 0; high = 0 })
          (λ k l.
          let lt : k < d = omega (arith, long) in
          let lt' : k < length ws = omega arith in
          subst Sound (sym (get_or-take d es k (record { low = 0; high = 0 }) lt)) (sound (get_or ws k 0) (at es k) (t.2 k lt').1 (none_below (ends_bad ws es) suc (length ws) k lt' h))),
    )
