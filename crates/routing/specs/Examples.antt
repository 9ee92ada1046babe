-- Worked examples that compute from the definitions. Assumes nothing.
use Rattle.std.specs.Prelude.{◌≡◌, ℕ, true, List, [], ◌∷◌, Some, None}
use Rattle.routing.specs.declared.ends.Ends.{Ends}
use Rattle.routing.specs.Rules.{Entry, first}
use Rattle.routing.specs.Space.{branches, marks}

abbrev pub run : ℕ → ℕ → Ends
run a b = record { low = a; high = b }

abbrev to : List Ends → ℕ → Entry ℕ
to es q = record { rule = record { ends = es; decision = q }; stands = true }

abbrev pub intervals : List (Entry ℕ) → List (List Ends)
intervals [] = []
intervals (e ∷ es) = e.rule.ends ∷ intervals es

-- four rules of one field of eight bits
abbrev pub four : List (Entry ℕ)
four = to (run 10 60 ∷ []) 5 ∷ to (run 40 90 ∷ []) 7 ∷ to (run 30 70 ∷ []) 5 ∷ to (run 61 120 ∷ []) 7 ∷ []

-- two rules of two fields of four bits
abbrev pub two : List (Entry ℕ)
two = to (run 2 9 ∷ run 3 5 ∷ []) 1 ∷ to (run 5 12 ∷ run 4 8 ∷ []) 2 ∷ []

pub record Worked : Type 0 where
  pub four_branches : branches 1 0 (intervals four) ≡ 6
  pub four_marks : marks 1 0 (intervals four) ≡ 12
  pub two_branches : branches 2 0 (intervals two) ≡ 8
  pub two_marks : marks 2 0 (intervals two) ≡ 6
  -- the whole of 32 bits is one branch: the cut above its high end is no value, and does not wrap
  pub whole : branches 1 0 ((run 0 4294967295 ∷ []) ∷ []) ≡ 1
  pub below : first 1 1 four (9 ∷ []) ≡ None
  pub first_of_three : first 1 1 four (45 ∷ []) ≡ Some (1, 5)
  pub second : first 1 1 four (61 ∷ []) ≡ Some (2, 7)
  pub one_field_of_two : first 2 1 two (3 ∷ 7 ∷ []) ≡ None
  pub both_fields : first 2 1 two (9 ∷ 8 ∷ []) ≡ Some (2, 2)
