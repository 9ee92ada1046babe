-- The first place of a fault, as a loop finds it. Assumes nothing.
use Rattle.std.proofs.Common.{◌≡◌, ℕ, zero, suc, ◌+◌, ◌<◌, ◌≤◌, Bool, true, false, List, [], ◌∷◌, length, get_or, Some, None, Option, sym, refl, ap, ◌∙◌, ⊎_elim, add-one, arith}
use Rattle.std.specs.List.{position, position_or_len, zip}
use Rattle.std.specs.Option.{option_map}
use Rattle.std.proofs.lemmas.List.{get_or_default}
use Rattle.std.proofs.lemmas.Slice.Zip.{get_or-zip}
use Rattle.std.proofs.lemmas.List.Sums.{fails_before_first, passes_at_first}
use Rattle.std.proofs.lemmas.Bool.{cases_eq, cases_lt, lt-ltb, le-ltb}
use Rattle.routing.specs.Firsts.{first_some, first_below, or_else, broken}

or_else_none : (p q : Option ℕ) → or_else p q ≡ None → (p ≡ None) × (q ≡ None)
or_else_none None q e = (refl, e)
or_else_none (Some x) q e = let z : ◌≡◌ {A = ℕ} 0 1 = cc in absurd (omega arith)

broken_none : (b : Bool) (p : ℕ) → broken b p ≡ None → b ≡ false
broken_none false p e = refl
broken_none true p e = let z : ◌≡◌ {A = ℕ} 0 1 = cc in absurd (omega arith)

module _ (f : ℕ → Option ℕ) where
  some_here : (k p : ℕ) → first_some f k ≡ None → f k ≡ Some p → first_some f (suc k) ≡ Some p
  some_here k p e h = rw (e, h)

  -- the first that gives one
  pub some_hit : (n k p : ℕ) → k < n → first_some f k ≡ None → f k ≡ Some p → first_some f n ≡ Some p
  some_hit zero k p h e s = absurd (omega arith)
  some_hit (suc n) k p h e s =
      ⊎_elim (λ (q : k ≡ n). rw (← q) (some_here k p e s))
      (λ (q : k ≡ n → ⊥). let l : k < n = omega arith in rw (some_hit n k p l e s))
      (cases_eq k n)

  -- where there is none, each gives none
  pub some_none : (n k : ℕ) → k < n → first_some f n ≡ None → f k ≡ None
  some_none zero k h e = absurd (omega arith)
  some_none (suc n) k h e =
      let p = or_else_none (first_some f n) (f n) e in
      ⊎_elim (λ (q : k ≡ n). rw q p.1) (λ (q : k ≡ n → ⊥). let l : k < n = omega arith in some_none n k l p.0) (cases_eq k n)

  -- and the other way round
  pub none_all : (n : ℕ) → ((k : ℕ) → k < n → f k ≡ None) → first_some f n ≡ None
  none_all zero h = refl
  none_all (suc n) h = rw (none_all n (λ k l. h k (omega arith)), h n (omega arith))

module _ (bad : ℕ → Bool) (place : ℕ → ℕ) where
  -- where there is none, each passes
  pub none_below : (n k : ℕ) → k < n → first_below bad place n ≡ None → bad k ≡ false
  none_below n k h e = broken_none (bad k) (place k) (some_none (λ j. broken (bad j) (place j)) n k h e)

-- the first that does not pass, where places count from 1
pub found : (bad : ℕ → Bool) (n k : ℕ) → k < n → first_below bad suc k ≡ None → bad k ≡ true → Some (k + 1) ≡ first_below bad suc n
found bad n k h e b = ap Some (add-one k) ∙ sym (some_hit (λ j. broken (bad j) (suc j)) n k (suc k) h e (rw b))

-- each passes, so there is none
pub none_from : (bad : ℕ → Bool) (place : ℕ → ℕ) (n : ℕ) → ((k : ℕ) → k < n → bad k ≡ false) → first_below bad place n ≡ None
none_from bad place n h = none_all (λ j. broken (bad j) (place j)) n (λ k l. rw (h k l))

-- what is mapped from none is none
pub mapped_none : {X Y : Type 0} (f : X → Y) (o : Option X) → option_map f o ≡ None → o ≡ None
mapped_none f None e = refl
mapped_none f (Some x) e = let z : ◌≡◌ {A = ℕ} 0 1 = cc in absurd (omega arith)

-- the first of some items that does not pass, by its place, which counts from 1
pub first_placed : {B : Type 0} (test : B → Bool) (bad : ℕ → Bool) (all : List B) → ((k : ℕ) (x : B) → k < length all → test (get_or all k x) ≡ bad k)
    → option_map (λ k. k + 1) (position test all) ≡ first_below bad suc (length all)
first_placed test bad [] same = refl
first_placed test bad (x ∷ xs) same =
    let n = length (x ∷ xs) in
    let p = position_or_len test (x ∷ xs) in
    let before : (k : ℕ) → k < n → k < p → bad k ≡ false = λ k i h. sym (same k x i) ∙ fails_before_first test (x ∷ xs) k x h in
    ⊎_elim
    (λ (h : p < n).
    rw (lt-ltb p n h) (found bad n p h (none_from bad suc p (λ k i. before k (omega arith) i)) (sym (same p x h) ∙ passes_at_first test (x ∷ xs) x h)))
    (λ (h : n ≤ p). rw (le-ltb p n h) (sym (none_from bad suc n (λ k i. before k i (omega arith)))))
    (cases_lt p n)

-- the same, where it is known how many there are
pub first_of : {B : Type 0} (test : B → Bool) (bad : ℕ → Bool) (n : ℕ) (all : List B) → length all ≡ n
    → ((k : ℕ) (x : B) → k < n → test (get_or all k x) ≡ bad k) → option_map (λ k. k + 1) (position test all) ≡ first_below bad suc n
first_of test bad n all e same = rw (← e) (first_placed test bad all (λ k x h. same k x (omega arith)))

-- a pair of two lists, at whatever defaults
pub pair_at : {A B : Type 0} (xs : List A) (ys : List B) (k : ℕ) (p : A × B) (d : A) (e : B) → k < length xs → k < length ys
    → get_or (zip xs ys) k p ≡ (get_or xs k d, get_or ys k e)
pair_at xs ys k p d e h i = rw (get_or-zip xs ys k p h i, get_or_default xs k p.0 d h, get_or_default ys k p.1 e i)
