-- The branches and marks of the tree that the cuts tell. Assumes nothing.
use Rattle.std.proofs.Common.{◌≡◌, ℕ, zero, suc, ◌+◌, ◌-◌, ◌<◌, Bool, true, false, cond, ◌&&◌, leb, List, [], ◌∷◌, map, length, filter, sym, refl, ap, ◌∙◌, ap₂, arith}
use Rattle.std.specs.List.{AllByRecursion}
use Rattle.std.proofs.ByRecursion.{All-weaker}
use Rattle.std.proofs.lemmas.Bool.Decides.{nat_tests}
use Rattle.routing.specs.declared.ends.Ends.{Ends}
use Rattle.routing.specs.Rules.{holds}
use Rattle.routing.specs.Space.{at, holding, over, one_more, branches, marks}
use Rattle.shape.specs.Shapes.{Shape, bare, part, piece, branches_of, marks_of}
use Rattle.shape.specs.Meaning.{SpaceIsExact}
use Rattle.shape.proofs.Cuts.{Up}
use Rattle.shape.proofs.Runs.{runs}
use Rattle.shape.proofs.Canon.{Numbered, ends, field, held, some, cell, canon, cuts_of, cuts_up, Ended, ends_cuts, Fenced, Apart, fenced, fenced_more, apart, kept_same}
use Rattle.shape.proofs.Grown.{numbered, grown_canon}

-- the ends of the rules that pass are those that pass
kept_map : (q : List Ends → Bool) (T : List Numbered) → map ends (filter (λ r. q (ends r)) T) ≡ filter q (map ends T)
kept_map q [] = refl
kept_map q (r ∷ T) =
    let K = filter (λ r. q (ends r)) T in
    elim (q (ends r)) as (λ t. map ends (cond t (r ∷ K) K) ≡ cond t (ends r ∷ filter q (map ends T)) (filter q (map ends T)))
    [ true ↦ ap (λ l. ends r ∷ l) (kept_map q T) | false ↦ kept_map q T ]

-- The rules that hold the first number of a run hold all of it.
module _ (m : ℕ) (T : List Numbered) (F : List (List Ends) → ℕ) where
  -- from any cut on
  over_from :
      (a : ℕ) (cs : List ℕ) → Up a (a ∷ cs) → AllByRecursion (Fenced m a cs) T
      → over (λ a b. F (map ends (held m a T))) (a ∷ cs) ≡ over (λ a b. F (holding m a b (map ends T))) (a ∷ cs)
  over_from a [] u e = refl
  over_from a (b ∷ cs) u e =
      let up : Up b (b ∷ cs) = (omega arith, u.1.1) in
      let lt : a < b = omega arith in
      let all : List Ends → Bool = λ r. leb (at r m).low a && leb b ((at r m).high + 1) in
      let same : held m a T ≡ filter (λ r. all (ends r)) T =
      kept_same _ _ T (All-weaker (Apart m a b) (λ r. holds (field m r) a ≡ all (ends r)) (λ r i. grind (arith, nat_tests)) T (apart m T a b cs up e)) in
      ap₂ (λ x y. x + y) (ap (λ l. F (map ends l)) same ∙ ap F (kept_map all T)) (over_from b cs up (fenced_more m T a b cs lt e))

  -- a sum over runs is the sum over pieces
  over_same :
      (cs : List ℕ) → Up 0 cs → AllByRecursion (Ended m cs) T
      → over (λ a b. F (map ends (held m a T))) cs ≡ over (λ a b. F (holding m a b (map ends T))) cs
  over_same [] u e = refl
  over_same (a ∷ cs) u e = over_from a cs (omega arith, u.1) (fenced m T a cs e)

-- a size that adds over the branches of a node, each of which counts for `one` of what is below
sum_runs :
    (size one : Shape → ℕ) → size bare ≡ 0 → ((a b : ℕ) (below rest : Shape) → size (part (piece a b) below rest) ≡ one below + size rest)
    → (p : ℕ → Bool) (g : ℕ → Shape) (f : ℕ → ℕ) → ((a : ℕ) → cond (p a) (one (g a)) 0 ≡ f a)
    → (cs : List ℕ) → size (runs p g cs) ≡ over (λ a b. f a) cs
sum_runs size one none more p g f e [] = none
sum_runs size one none more p g f e (a ∷ []) = none
sum_runs size one none more p g f e (a ∷ (b ∷ cs)) =
    let R = runs p g (b ∷ cs) in
    let sum : size (cond (p a) (part (piece a (b - 1)) (g a) R) R) ≡ cond (p a) (one (g a)) 0 + size R =
    elim (p a) as (λ t. size (cond t (part (piece a (b - 1)) (g a) R) R) ≡ cond t (one (g a)) 0 + size R)
    [ true ↦ more a (b - 1) (g a) R | false ↦ omega arith ] in
    sum ∙ ap₂ (λ x y. x + y) (e a) (sum_runs size one none more p g f e (b ∷ cs))

-- a cell has no branches
branches_cell : (T : List Numbered) → branches_of (cell T) ≡ 0
branches_cell [] = refl
branches_cell (r ∷ T) = omega (arith, branches_cell T)

-- and a mark for each rule
marks_cell : (T : List Numbered) → marks_of (cell T) ≡ length (map ends T)
marks_cell [] = refl
marks_cell (r ∷ T) = omega (arith, marks_cell T)

-- a branch counts where there is a rule
counted : (T : List Numbered) (n : ℕ) → cond (some T) (suc n) 0 ≡ one_more (map ends T) n
counted [] n = refl
counted (r ∷ T) n = refl

-- no rules need no marks
no_marks : (k m : ℕ) → marks k m [] ≡ 0
no_marks zero m = refl
no_marks (suc k) m = refl

-- so marks count in any case
counted_marks : (k m : ℕ) (T : List Numbered) → cond (some T) (marks k m (map ends T)) 0 ≡ marks k m (map ends T)
counted_marks k m [] = sym (no_marks k m)
counted_marks k m (r ∷ T) = refl

-- the branches of the tree of rules
branches_canon : (k m : ℕ) (T : List Numbered) → branches_of (canon k m T) ≡ branches k m (map ends T)
branches_canon zero m T = branches_cell T
branches_canon (suc k) m T =
    let F : List (List Ends) → ℕ = λ L. one_more L (branches k (suc m) L) in
    sum_runs branches_of (λ s. suc (branches_of s)) refl (λ a b s r. omega arith) _ _ (λ a. F (map ends (held m a T)))
    (λ a. ap (λ n. cond (some (held m a T)) (suc n) 0) (branches_canon k (suc m) (held m a T)) ∙ counted (held m a T) _)
    (cuts_of m T)
    ∙ over_same m T F (cuts_of m T) (cuts_up m T) (ends_cuts m T)

-- and its marks
marks_canon : (k m : ℕ) (T : List Numbered) → marks_of (canon k m T) ≡ marks k m (map ends T)
marks_canon zero m T = marks_cell T
marks_canon (suc k) m T =
    let F : List (List Ends) → ℕ = marks k (suc m) in
    sum_runs marks_of marks_of refl (λ a b s r. omega arith) _ _ (λ a. F (map ends (held m a T)))
    (λ a. ap (λ n. cond (some (held m a T)) n 0) (marks_canon k (suc m) (held m a T)) ∙ counted_marks k (suc m) (held m a T))
    (cuts_of m T)
    ∙ over_same m T F (cuts_of m T) (cuts_up m T) (ends_cuts m T)

-- rules without their numbers again
ends_numbered : (n : ℕ) (T : List (List Ends)) → map ends (numbered n T) ≡ T
ends_numbered n [] = refl
ends_numbered n (r ∷ T) = ap (λ l. r ∷ l) (ends_numbered (suc n) T)

-- THE SPACE: the tree takes what the rules need
pub space_exact : SpaceIsExact
space_exact d T ok =
    let e = grown_canon d T ok in
    let s = ends_numbered 1 T in (
      ap branches_of e ∙ branches_canon d 0 (numbered 1 T) ∙ ap (branches d 0) s,
      ap marks_of e ∙ marks_canon d 0 (numbered 1 T) ∙ ap (marks d 0) s,
    )
