-- Ascending lists of cuts. Assumes nothing.
use Rattle.std.proofs.Common.{◌≡◌, ℕ, ◌+◌, ◌<◌, ◌≤◌, ◌⊎◌, List, [], ◌∷◌, refl, inl, inr, ⊎_elim, arith}
use Rattle.std.proofs.lemmas.Bool.{cond-true, cond_both, lt-ltb, ltb-true, ltb-false, eqb-true, eqb-false}
use Rattle.std.proofs.lemmas.Bool.Decides.{nat_tests}
use Rattle.routing.specs.Space.{put}

-- e is one of the cuts
abbrev pub In : ℕ → List ℕ → Type 0
In e [] = ⊥
In e (c ∷ cs) = (e ≡ c) ⊎ In e cs

-- strictly upward, from lo
abbrev pub Up : ℕ → List ℕ → Type 0
Up lo [] = Unit {0}
Up lo (c ∷ cs) = (lo ≤ c) × Up (c + 1) cs

-- each cut is from lo on
pub up_in : (lo e : ℕ) (cs : List ℕ) → Up lo cs → In e cs → lo ≤ e
up_in lo e (c ∷ cs) u i = ⊎_elim (λ q. omega arith) (λ j. omega (arith, up_in (c + 1) e cs u.1 j)) i
up_in lo e [] u i = absurd i

-- x is a cut after a, or not above a
abbrev pub Cut : ℕ → ℕ → List ℕ → Type 0
Cut x a cs = (x ≤ a) ⊎ In x cs

-- the same after the next cut
pub cut_more : (x a b : ℕ) (cs : List ℕ) → a < b → Cut x a (b ∷ cs) → Cut x b cs
cut_more x a b cs k i = ⊎_elim (λ q. inl (omega arith)) (λ j. ⊎_elim (λ q. inl (omega arith)) inr j) i

-- no such x lies strictly between two neighbouring cuts
pub cut_out : (x a b : ℕ) (cs : List ℕ) → Up b (b ∷ cs) → Cut x a (b ∷ cs) → a < x → b ≤ x
cut_out x a b cs u i k = ⊎_elim (λ q. omega arith) (λ j. up_in b x (b ∷ cs) u j) i

-- a cut is the first one, or after it
pub first_cut : (x a : ℕ) (cs : List ℕ) → In x (a ∷ cs) → Cut x a cs
first_cut x a cs i = ⊎_elim (λ q. inl (omega arith)) inr i

-- a number below the first cut goes before it
pub put_before : (x c : ℕ) (cs : List ℕ) → x < c → put x (c ∷ cs) ≡ x ∷ c ∷ cs
put_before x c cs l = cond-true _ _ _ (lt-ltb x c l)

-- the three ways of `put`
pub put_ways :
    (P : List ℕ → Type 0) (x c : ℕ) (cs : List ℕ)
    → (x < c → P (x ∷ c ∷ cs)) → (x ≡ c → P (c ∷ cs)) → (c < x → P (c ∷ put x cs)) → P (put x (c ∷ cs))
put_ways P x c cs before here after =
    cond_both _ _ _ P (λ t. before (ltb-true x c t))
    (λ t. cond_both _ _ _ P (λ s. here (eqb-true x c s)) (λ s. after (omega (arith, ltb-false x c t, eqb-false x c s))))

-- cuts with one more still go upward
pub put_up : (lo x : ℕ) (cs : List ℕ) → lo ≤ x → Up lo cs → Up lo (put x cs)
put_up lo x [] l u = (l, tt)
put_up lo x (c ∷ cs) l u =
    put_ways (Up lo) x c cs (λ b. (l, (omega arith, u.1))) (λ _. u) (λ a. (u.0, put_up (c + 1) x cs (omega arith) u.1))

-- it is one of them
pub put_in : (x : ℕ) (cs : List ℕ) → In x (put x cs)
put_in x [] = inl refl
put_in x (c ∷ cs) = put_ways (In x) x c cs (λ _. inl refl) inl (λ _. inr (put_in x cs))

-- the others still are
pub in_put : (e x : ℕ) (cs : List ℕ) → In e cs → In e (put x cs)
in_put e x [] i = absurd i
in_put e x (c ∷ cs) i =
    put_ways (In e) x c cs (λ _. inr i) (λ _. i) (λ _. ⊎_elim inl (λ j. inr (in_put e x cs j)) i)

-- nothing else is
pub put_only : (e x : ℕ) (cs : List ℕ) → In e (put x cs) → (e ≡ x) ⊎ In e cs
put_only e x [] i = i
put_only e x (c ∷ cs) i =
    put_ways (λ l. In e l → (e ≡ x) ⊎ In e (c ∷ cs)) x c cs (λ _ i. i) (λ _ i. inr i)
    (λ _. ⊎_elim (λ q. inr (inl q)) (λ j. ⊎_elim inl (λ k. inr (inr k)) (put_only e x cs j))) i

-- which of two goes in first does not matter
pub put_swap : (x y : ℕ) (cs : List ℕ) → put x (put y cs) ≡ put y (put x cs)
put_swap x y [] = grind (arith, nat_tests)
put_swap x y (c ∷ cs) = let h = put_swap x y cs in grind (arith, nat_tests)
