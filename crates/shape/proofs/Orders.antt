-- The order of branches and marks. Assumes nothing.
use Rattle.std.proofs.Common.{ℕ, zero, suc, ◌+◌, ◌-◌, ◌≤◌, Bool, List, [], ◌∷◌, filter, sym, refl, subst, arith}
use Rattle.std.proofs.lemmas.Bool.{cond_both}
use Rattle.routing.specs.declared.ends.Ends.{Ends}
use Rattle.shape.specs.Shapes.{Shape, bare, part, piece, rule}
use Rattle.shape.specs.Meaning.{Tidy, OrderIsKept}
use Rattle.shape.proofs.Cuts.{Up}
use Rattle.shape.proofs.Runs.{runs}
use Rattle.shape.proofs.Canon.{Numbered, held, cell, canon, cuts_of, cuts_up}
use Rattle.shape.proofs.Grown.{numbered, grown_canon}

-- numbers that ascend from lo
abbrev Rise : ℕ → List Numbered → Type 0
Rise lo [] = Unit {0}
Rise lo (r ∷ T) = (lo ≤ r.0) × Rise (r.0 + 1) T

-- from a lower number too
rise_less : (lo hi : ℕ) (T : List Numbered) → lo ≤ hi → Rise hi T → Rise lo T
rise_less lo hi [] l u = tt
rise_less lo hi (r ∷ T) l u = (omega arith, u.1)

-- those that pass a test ascend
rise_kept : (p : Numbered → Bool) (lo : ℕ) (T : List Numbered) → Rise lo T → Rise lo (filter p T)
rise_kept p lo [] u = tt
rise_kept p lo (r ∷ T) u =
    let ih = rise_kept p (r.0 + 1) T u.1 in
    cond_both (p r) _ _ (Rise lo) (λ _. (u.0, ih)) (λ _. rise_less lo (r.0 + 1) (filter p T) (omega arith) ih)

-- the numbers of rules ascend
rise_numbered : (n : ℕ) (T : List (List Ends)) → Rise n (numbered n T)
rise_numbered n [] = tt
rise_numbered n (r ∷ T) = (omega arith, rise_less (n + 1) (suc n) _ (omega arith) (rise_numbered (suc n) T))

-- so the marks of a cell do
tidy_cell : (lo : ℕ) (T : List Numbered) → Rise lo T → Tidy zero lo (cell T)
tidy_cell lo [] u = tt
tidy_cell lo (r ∷ T) u = (u.0, refl, tidy_cell (r.0 + 1) T u.1)

-- branches from a lower number on
tidy_less : (k lo hi : ℕ) (sh : Shape) → lo ≤ hi → Tidy (suc k) hi sh → Tidy (suc k) lo sh
tidy_less k lo hi bare l u = tt
tidy_less k lo hi (part (piece a b) below rest) l u = (omega arith, u.1, u.2, u.3)
tidy_less k lo hi (part (rule i) below rest) l u = u

-- the branches of runs go upward and apart
tidy_runs :
    (k : ℕ) (p : ℕ → Bool) (g : ℕ → Shape) → ((a : ℕ) → Tidy k 0 (g a))
    → (lo : ℕ) (cs : List ℕ) → Up lo cs → Tidy (suc k) lo (runs p g cs)
tidy_runs k p g t lo [] u = tt
tidy_runs k p g t lo (a ∷ []) u = tt
tidy_runs k p g t lo (a ∷ (b ∷ cs)) u =
    let R = runs p g (b ∷ cs) in
    let ih : Tidy (suc k) b R = tidy_runs k p g t b (b ∷ cs) (omega arith, u.1.1) in
    cond_both (p a) (part (piece a (b - 1)) (g a) R) R (Tidy (suc k) lo)
    (λ _. (u.0, omega arith, t a, tidy_less k (b - 1 + 1) b R (omega arith) ih))
    (λ _. tidy_less k lo b R (omega arith) ih)

-- so the tree of rules is tidy
tidy_canon : (k m : ℕ) (T : List Numbered) → Rise 0 T → Tidy k 0 (canon k m T)
tidy_canon zero m T u = tidy_cell 0 T u
tidy_canon (suc k) m T u =
    tidy_runs k _ _ (λ a. tidy_canon k (suc m) (held m a T) (rise_kept _ 0 T u)) 0 (cuts_of m T) (cuts_up m T)

-- THE ORDER: branches run upward, marks ascend
pub order_kept : OrderIsKept
order_kept d T ok =
    subst (Tidy d 0) (sym (grown_canon d T ok)) (tidy_canon d 0 (numbered 1 T) (rise_less 0 1 (numbered 1 T) (omega arith) (rise_numbered 1 T)))
