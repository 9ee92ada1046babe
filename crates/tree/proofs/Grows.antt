-- Shapes that take no less room. Assumes nothing.
use Rattle.std.proofs.Common.{◌≤◌, arith}
use Rattle.shape.specs.Shapes.{Label, Shape, part, branches_of, marks_of}

-- A shape that takes no less room.
pub record Grows (a b : Shape) : Type 0 where
  pub branches : branches_of a ≤ branches_of b
  pub marks : marks_of a ≤ marks_of b

-- the same shape
pub same_grows : (sh : Shape) → Grows sh sh
same_grows sh = record { branches = omega arith; marks = omega arith }

-- part by part
pub part_grows : (l : Label) (a a' b b' : Shape) → Grows a a' → Grows b b' → Grows (part l a b) (part l a' b')
part_grows l a a' b b' g h = record { branches = omega arith; marks = omega arith }
