-- A rule's ends against a message, pair by pair. Assumes nothing.
use Rattle.std.proofs.Common.{◌≡◌, ℕ, zero, suc, ◌≤◌, Bool, ◌&&◌, List, [], ◌∷◌, length, take, refl, ap, arith}
use Rattle.std.specs.List.{zip, list_all}
use Rattle.routing.specs.declared.ends.Ends.{Ends}
use Rattle.routing.specs.Rules.{holds, matches}

abbrev pub pair_holds : Ends × ℕ → Bool
pair_holds p = holds p.0 p.1

-- each of the first pairs holds
pub all_hold : (d : ℕ) (es : List Ends) (m : List ℕ) → length es ≤ length m → list_all pair_holds (take d (zip es m)) ≡ matches d es m
all_hold zero es m h = refl
all_hold (suc d) [] m h = refl
all_hold (suc d) (e ∷ es) [] h = absurd (omega arith)
all_hold (suc d) (e ∷ es) (v ∷ vs) h = ap (λ b. holds e v && b) (all_hold d es vs (omega arith))
