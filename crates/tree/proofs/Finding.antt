-- The look-up of a message. Assumes nothing.
use Rattle.std.proofs.Common.{◌≡◌, ℕ, ◌+◌, ◌<◌, ◌≤◌, true, false, cond, ◌&&◌, leb, ◌⊎◌, List, [], ◌∷◌, length, get_or, drop, Some, None, sym, refl, ap, ◌∙◌, subst, inl, inr, ⊎_elim, arith, MatchOption}
use Rattle.std.specs.Option.{option_and_then}
use Rattle.std.proofs.lemmas.Bool.Decides.{nat_tests}
use Rattle.std.proofs.lemmas.Bool.{cond-false}
use Rattle.std.proofs.lemmas.List.{drop_more, drop_all}
use Rattle.shape.specs.Shapes.{piece, rule, Shape, bare, part}
use Rattle.shape.specs.Meaning.{marks_in, branch_at, reached}
use Rattle.tree.specs.Lookups.{seek_in, look_up}
use Rattle.routing.specs.Rules.{holds}
use Rattle.tree.specs.Reads.{Ordered}

-- a branch that begins above x does not hold it, and none after it does
pub seek_none : (x lo : ℕ) (sh : Shape) → x < lo → Ordered lo sh → seek_in x sh ≡ bare
seek_none x lo bare l h = refl
seek_none x lo (part (piece a b) below rest) l h =
    let out : holds (record { low = a; high = b }) x ≡ false = grind (arith, nat_tests) in
    cond-false _ _ _ out ∙ seek_none x (b + 1) rest (omega (arith, h.0, h.1)) h.3
seek_none x lo (part (rule i) below rest) l h = seek_none x (i + 1) rest (omega (arith, h.0)) h.2

-- one field on
pub look_on : (m : List ℕ) (k : ℕ) (sh : Shape) → k < length m → look_up (drop k m) sh ≡ look_up (drop (k + 1) m) (seek_in (get_or m k 0) sh)
look_on m k sh l = ap (λ xs. look_up xs sh) (drop_more m k 0 l)

-- no field is left
pub look_end : (m : List ℕ) (k : ℕ) (sh : Shape) → length m ≤ k → look_up (drop k m) sh ≡ sh
look_end m k sh l = ap (λ xs. look_up xs sh) (drop_all k m l)

-- where no branch holds x the look-up finds nothing, and else what is below it
found_or_not : (x : ℕ) (sh : Shape) → ((branch_at x sh ≡ None) × (seek_in x sh ≡ bare)) ⊎ (branch_at x sh ≡ Some (seek_in x sh))
found_or_not x bare = inl (refl, refl)
found_or_not x (part (piece a b) below rest) =
    elim (leb a x && leb x b) as (λ t. ((cond t (Some below) (branch_at x rest) ≡ None) × (cond t below (seek_in x rest) ≡ bare)) ⊎ (cond t (Some below) (branch_at x rest) ≡ Some (cond t below (seek_in x rest))))
    [ true ↦ inr refl | false ↦ found_or_not x rest ]
found_or_not x (part (rule i) below rest) = found_or_not x rest

-- in nothing nothing is found
look_bare : (vs : List ℕ) → look_up vs bare ≡ bare
look_bare [] = refl
look_bare (v ∷ vs) = look_bare vs

-- the look-up finds the cell that a message reaches
pub looked : (vs : List ℕ) (sh : Shape) (ns : List ℕ) → MatchOption (reached vs sh) (ns ≡ []) (λ c. marks_in c ≡ ns) → marks_in (look_up vs sh) ≡ ns
looked [] sh ns h = h
looked (v ∷ vs) sh ns h =
    ⊎_elim
    (λ n.
    ap (λ u. marks_in (look_up vs u)) n.1 ∙ ap marks_in (look_bare vs) ∙ sym (subst (λ o. MatchOption (option_and_then (reached vs) o) (ns ≡ []) (λ c. marks_in c ≡ ns)) n.0 h))
    (λ s. looked vs (seek_in v sh) ns (subst (λ o. MatchOption (option_and_then (reached vs) o) (ns ≡ []) (λ c. marks_in c ≡ ns)) s h))
    (found_or_not v sh)
