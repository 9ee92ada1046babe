-- Worked trees that compute from the definitions. Assumes nothing.
use Rattle.std.specs.Prelude.{◌≡◌, [], ◌∷◌, Some, None}
use Rattle.std.specs.Option.{option_map}
use Rattle.routing.specs.Examples.{run, intervals, four, two}
use Rattle.shape.specs.Shapes.{piece, rule, bare, part, branches_of, marks_of, grown}
use Rattle.shape.specs.Meaning.{reached, marks_in}

pub record WorkedTrees : Type 0 where
  pub four_branches : branches_of (grown 1 (intervals four)) ≡ 6
  pub four_marks : marks_of (grown 1 (intervals four)) ≡ 12
  pub two_branches : branches_of (grown 2 (intervals two)) ≡ 8
  pub two_marks : marks_of (grown 2 (intervals two)) ≡ 6
  -- the whole of 32 bits is one branch that holds both ends
  pub whole : grown 1 ((run 0 4294967295 ∷ []) ∷ []) ≡ part (piece 0 4294967295) (part (rule 1) bare bare) bare
  pub three_match : option_map marks_in (reached (50 ∷ []) (grown 1 (intervals four))) ≡ Some (1 ∷ 2 ∷ 3 ∷ [])
  pub none_matches : reached (121 ∷ []) (grown 1 (intervals four)) ≡ None
  pub both_match : option_map marks_in (reached (9 ∷ 4 ∷ []) (grown 2 (intervals two))) ≡ Some (1 ∷ 2 ∷ [])
