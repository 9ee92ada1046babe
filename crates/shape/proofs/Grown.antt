-- The grown tree is the tree that the cuts tell. Assumes nothing.
use Rattle.std.proofs.Common.{◌≡◌, ℕ, suc, ◌+◌, ◌<◌, List, [], ◌∷◌, ◌++◌, length, take, sym, ap, ◌∙◌, arith}
use Rattle.std.specs.List.{AllByRecursion}
use Rattle.std.proofs.lemmas.List.{append-nil, append_assoc, length-take-le, get_or-take}
use Rattle.std.proofs.ByRecursion.{All-push, All-get_or}
use Rattle.routing.specs.declared.ends.Ends.{Ends}
use Rattle.shape.specs.Shapes.{Shape, insert, grown_from, grown}
use Rattle.shape.specs.Meaning.{Sound, Proper, GrownMore}
use Rattle.shape.proofs.Canon.{Numbered, Whole, canon, canon_none, insert_canon}

-- rules with their numbers, from n
abbrev pub numbered : ℕ → List (List Ends) → List Numbered
numbered n [] = []
numbered n (r ∷ T) = (n, r) ∷ numbered (suc n) T

-- a proper rule has an interval in each field
pub whole : (d n : ℕ) (r : List Ends) → Proper d r → Whole d (n, r)
whole d n r ok m l =
    let none : Ends = record { low = 0; high = 0 } in
    let far : m < length (take d r) = omega (arith, length-take-le d r ok.0) in
    (omega (arith, ok.0), rw get_or-take at (All-get_or Sound (take d r) m none far ok.1))

-- and so have they all, with their numbers
pub all_whole : (d n : ℕ) (T : List (List Ends)) → AllByRecursion (Proper d) T → AllByRecursion (Whole d) (numbered n T)
all_whole d n [] ok = tt
all_whole d n (r ∷ T) ok = (whole d n r ok.0, all_whole d (suc n) T ok.1)

-- rules grown into the tree of rules before them
from_canon :
    (d n : ℕ) (T : List (List Ends)) (U : List Numbered) → AllByRecursion (Proper d) T → AllByRecursion (Whole d) U
    → grown_from d n T (canon d 0 U) ≡ canon d 0 (U ++ numbered n T)
from_canon d n [] U ok w = ap (canon d 0) (sym (append-nil U))
from_canon d n (r ∷ T) U ok w =
    let all = whole d n r ok.0 in
    ap (grown_from d (suc n) T) (insert_canon d d 0 (n, r) U (omega arith) all w)
    ∙ from_canon d (suc n) T (U ++ (n, r) ∷ []) ok.1 (All-push (Whole d) U (n, r) w all)
    ∙ ap (canon d 0) (append_assoc U ((n, r) ∷ []) (numbered (suc n) T))

-- The grown tree is that of its rules.
pub grown_canon : (d : ℕ) (T : List (List Ends)) → AllByRecursion (Proper d) T → grown d T ≡ canon d 0 (numbered 1 T)
grown_canon d T ok = ap (grown_from d 1 T) (sym (canon_none d 0)) ∙ from_canon d 1 T [] ok tt

-- one rule more, from any number on
from_push :
    (d n : ℕ) (T : List (List Ends)) (r : List Ends) (sh : Shape)
    → grown_from d n (T ++ r ∷ []) sh ≡ insert (take d r) (length T + n) (grown_from d n T sh)
from_push d n [] r sh = ap (λ i. insert (take d r) i sh) (omega arith)
from_push d n (s ∷ T) r sh =
    let next = insert (take d s) n sh in
    from_push d (suc n) T r next ∙ ap (λ i. insert (take d r) i (grown_from d (suc n) T next)) (omega arith)

-- ONE RULE MORE is inserted last
pub grown_more_lem : GrownMore
grown_more_lem d T r = from_push d 1 T r _
