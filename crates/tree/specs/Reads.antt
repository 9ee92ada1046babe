-- Trees that are read, and what they take. Assumes nothing.
use Rattle.std.specs.Prelude.{◌≡◌, ℕ, ◌+◌, ◌≤◌, min}
use Rattle.shape.specs.Shapes.{Label, piece, rule, Shape, bare, part, branches_of, marks_of}
use Rattle.tree.specs.Memory.{in_use}
use Rattle.tree.specs.Links.{Records, shape, root, Stands}
use Rattle.tree.specs.declared.records.Store.{Store}
use Rattle.tree.specs.declared.space.Space.{Space}

-- branches run upward from `lo` and do not overlap, and marks ascend from `lo`; so in every node and cell below
abbrev pub Ordered : ℕ → Shape → Type 0
Ordered lo bare = Unit {0}
Ordered lo (part (piece a b) below rest) = (lo ≤ a) × (a ≤ b) × Ordered 0 below × Ordered (b + 1) rest
Ordered lo (part (rule i) below rest) = (lo ≤ i) × Ordered 0 below × Ordered (i + 1) rest

-- At `first` stands the tree t, with d fields left: in order, and no larger than the memory.
pub record Stood (s : Store) (d first : ℕ) (t : Records) : Type 0 where
  pub stands : Stands s d t
  pub from : root t ≡ first
  pub steps : branches_of (shape t) + marks_of (shape t) ≤ in_use s
  pub order : Ordered 0 (shape t)

abbrev pub SomeTree : Store → (d first : ℕ) → Type 0
SomeTree s d first = (t : Records) × Stood s d first t

-- what a shape takes, with p for a branch and q for a mark
abbrev pub label_weight : (p q : ℕ) → Label → ℕ
label_weight p q (piece a b) = p
label_weight p q (rule i) = q

abbrev pub weight : (p q : ℕ) → Shape → ℕ
weight p q bare = 0
weight p q (part l below rest) = label_weight p q l + weight p q below + weight p q rest

-- as far as 64 bits go
abbrev pub sat : ℕ → ℕ
sat n = min n 18446744073709551615

-- A space is what w says: of branches alone, and of marks alone.
pub record Weighs (k : Space) (w : ℕ → ℕ → ℕ) : Type 0 where
  pub branches : k.branches ≡ sat (w 1 0)
  pub marks : k.marks ≡ sat (w 0 1)
