-- Messages, rules and what decides. Assumes nothing.
use Rattle.std.specs.Prelude.{ℕ, zero, suc, Bool, true, false, cond, ◌&&◌, List, [], ◌∷◌, Some, None, Option, nat_le}
use Rattle.routing.specs.declared.ends.Ends.{Ends}
use Rattle.routing.specs.declared.rule.Rule.{Rule}

-- a value lies in an interval
abbrev pub holds : Ends → ℕ → Bool
holds e v = nat_le e.low v && nat_le v e.high

-- the first fields' values lie in their intervals: a rule's ends against a message
abbrev pub matches : ℕ → List Ends → List ℕ → Bool
matches zero es vs = true
matches (suc d) [] vs = true
matches (suc d) (e ∷ es) [] = false
matches (suc d) (e ∷ es) (v ∷ vs) = holds e v && matches d es vs

-- a rule of a table: it stands until it is struck
pub record Entry (D : Type 0) : Type 0 where
  pub rule : Rule D
  pub stands : Bool

-- the lowest-numbered standing rule that matches, with its number, counted from n, and its decision
module _ {D : Type 0} where
  abbrev pub first : ℕ → ℕ → List (Entry D) → List ℕ → Option (ℕ × D)
  first d n [] m = None
  first d n (e ∷ es) m =
      cond (e.stands && matches d e.rule.ends m) (Some (n, e.rule.decision)) (first d (suc n) es m)

-- the numbers of the rules that match, in order, counted from n
abbrev pub matching : (d n : ℕ) → List (List Ends) → List ℕ → List ℕ
matching d n [] vs = []
matching d n (r ∷ rs) vs = cond (matches d r vs) (n ∷ matching d (suc n) rs vs) (matching d (suc n) rs vs)
