-- Arrays that a closure makes place by place. Assumes nothing.
use Rattle.std.proofs.Common.{◌≡◌, ℕ, zero, suc, ◌+◌, ◌<◌, ◌≤◌, List, map, get_or, ap, ◌∙◌, ⊎_elim, arith}
use Rattle.std.specs.Array.{IsFromFnResult, IsFromFnResultFrom}
use Rattle.std.specs.Fn.{Called}
use Rattle.std.specs.List.{range_with_len}
use Rattle.std.proofs.lemmas.Bool.{cases_eq}
use Rattle.file.proofs.Parts.{counted_items}
use denote.Param.Members.{Mut}

module _ {F B : Type 0} (g : Mut F (ℕ × Unit {0}) B) (f : F) (h : ℕ → B) (gives : (k : ℕ) (y : B) (q : F) → Called g f (k, tt) y q → (q ≡ f) × (y ≡ h k)) where
  -- each place from i on holds what the closure gives there
  from_place : (ys : List B) (i n : ℕ) → IsFromFnResultFrom g f ys i n → (k : ℕ) (e : B) → i ≤ k → k < i + n → get_or ys k e ≡ h k
  from_place ys i zero r k e low high = absurd (omega arith)
  from_place ys i (suc n) r k e low high =
      let one = gives i r.1 r.0 r.3 in
      ⊎_elim (λ (s : k ≡ i). rw s (r.2.1 e ∙ one.1))
      (λ (s : k ≡ i → ⊥). from_place ys (i + 1) n (rw one.0 at r.4) k e (omega arith) (omega arith))
      (cases_eq k i)

  -- the array is what the closure gives at each place
  pub made : (ys : List B) (n : ℕ) → IsFromFnResult g f ys n → ys ≡ map h (range_with_len 0 n)
  made ys n r =
      counted_items h ys (λ k l x. from_place ys 0 n r.each k x (omega arith) (omega (arith, r.long)))
      ∙ ap (λ m. map h (range_with_len 0 m)) r.long
