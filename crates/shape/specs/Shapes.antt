-- The shape of a tree, and what a rule does to it. Assumes nothing.
use Rattle.std.specs.Prelude.{ℕ, suc, ◌+◌, ◌-◌, min, max, cond, ◌&&◌, List, [], ◌∷◌, take, ◌==◌, nat_le, nat_lt}
use Rattle.std.proofs.Math.Nat.{ℕ_set}
use Rattle.routing.specs.declared.ends.Ends.{Ends}

-- a branch, by the ends of its piece, or a mark, by the number of its rule
pub data Label : Type 0 where
  piece : (low high : ℕ) → Label
  rule : ℕ → Label
  deriving IsSet as Label-set'

-- The branches of a node or the marks of a cell, in their order, each with what is below it: nothing, for a mark.
pub data Shape : Type 0 where
  bare : Shape
  part : Label → (below rest : Shape) → Shape
  deriving IsSet as Shape-set'

-- equal labels are equal in one way
pub LabelSet : IsSet Label
LabelSet = Label-set' ℕ_set

-- and so are equal shapes
pub ShapeSet : IsSet Shape
ShapeSet = Shape-set' LabelSet

-- whether a label is a branch's, and whether a mark's: 1 or 0
abbrev pub branch_of : Label → ℕ
branch_of (piece low high) = 1
branch_of (rule i) = 0

abbrev pub mark_of : Label → ℕ
mark_of (piece low high) = 0
mark_of (rule i) = 1

-- how many branches, and how many marks
abbrev pub branches_of : Shape → ℕ
branches_of bare = 0
branches_of (part l below rest) = branch_of l + branches_of below + branches_of rest

abbrev pub marks_of : Shape → ℕ
marks_of bare = 0
marks_of (part l below rest) = mark_of l + marks_of below + marks_of rest

-- how many branches or marks stand side by side
abbrev pub siblings : Shape → ℕ
siblings bare = 0
siblings (part l below rest) = 1 + siblings rest

-- the node, after the branch that has x strictly inside is cut in two below x
abbrev pub cut_at : ℕ → Shape → Shape
cut_at x bare = bare
cut_at x (part (piece low high) below rest) =
    cond (nat_lt low x && nat_le x high) (part (piece low (x - 1)) below (part (piece x high) below rest))
    (part (piece low high) below (cut_at x rest))
cut_at x (part (rule i) below rest) = part (rule i) below (cut_at x rest)

-- the mark i, after the others
abbrev pub add_mark : ℕ → Shape → Shape
add_mark i bare = part (rule i) bare bare
add_mark i (part l below rest) = part l below (add_mark i rest)

-- f of what is below each branch within low and high
abbrev pub under : (low high : ℕ) (f : Shape → Shape) → Shape → Shape
under low high f bare = bare
under low high f (part (piece a b) below rest) =
    part (piece a b) (cond (nat_le low a && nat_le b high) (f below) below) (under low high f rest)
under low high f (part (rule i) below rest) = part (rule i) below (under low high f rest)

-- a cut above `high`, unless that is the last number
abbrev pub cut_above : ℕ → Shape → Shape
cut_above high sh = cond (high == 0xffff_ffff) sh (cut_at (high + 1) sh)

-- a new branch, with nothing below, in each gap from `want` to `high`
abbrev pub gaps : (want high : ℕ) → Shape → Shape
gaps want high bare = cond (nat_le want high) (part (piece want high) bare bare) bare
gaps want high (part (piece a b) below rest) =
    cond (nat_le want high)
    (cond (nat_lt want a) (part (piece want (min high (a - 1))) bare (part (piece a b) below (gaps (max want (b + 1)) high rest)))
    (part (piece a b) below (gaps (max want (b + 1)) high rest)))
    (part (piece a b) below rest)
gaps want high (part (rule i) below rest) = part (rule i) below rest

-- the node, with branches that each lie within low and high or outside, and that cover all of low to high
abbrev pub ready : (low high : ℕ) → Shape → Shape
ready low high sh = gaps low high (cut_above high (cut_at low sh))

-- the tree, after the rule i with an interval for each field that is left
abbrev pub insert : List Ends → ℕ → Shape → Shape
insert [] i sh = add_mark i sh
insert (e ∷ es) i sh = under e.low e.high (insert es i) (ready e.low e.high sh)

-- the tree, after rules of d fields in order, numbered from n
abbrev pub grown_from : (d n : ℕ) → List (List Ends) → Shape → Shape
grown_from d n [] sh = sh
grown_from d n (r ∷ rs) sh = grown_from d (suc n) rs (insert (take d r) n sh)

-- the tree of rules of d fields
abbrev pub grown : ℕ → List (List Ends) → Shape
grown d rs = grown_from d 1 rs bare
