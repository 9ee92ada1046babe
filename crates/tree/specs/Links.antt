-- Trees that stand in the records. Assumes nothing.
use Rattle.std.specs.Prelude.{◌≡◌, ℕ, zero, suc, ◌+◌, ◌-◌, ◌<◌, ◌≤◌, max, cond, List, length, Some, None, Option, ◌==◌}
use Rattle.std.specs.List.{AllByRecursion}
use Rattle.routing.specs.declared.ends.Ends.{Ends}
use Rattle.shape.specs.Shapes.{Label, piece, rule, Shape, bare, part, branches_of, marks_of, gaps}
use Rattle.shape.specs.Meaning.{Upward}
use Rattle.tree.specs.Memory.{look, live, space, one, mark_place, rec, next_of, with_next, Written, Pushed, in_use}
use Rattle.tree.specs.declared.records.Store.{Store}

-- The records of a node or a cell, by their indices, each with those of what is below it.
pub data Records : Type 0 where
  none : Records
  item : (at : ℕ) → Label → (below rest : Records) → Records

-- what they say
abbrev pub shape : Records → Shape
shape none = bare
shape (item at l below rest) = part l (shape below) (shape rest)

-- the link to them
abbrev pub root : Records → ℕ
root none = 0xffff_ffff
root (item at l below rest) = at

-- Of a node with d fields left: with none left it is a cell, and its records are marks.
unfoldable pub place : (d at : ℕ) → ℕ
place d at = cond (d == 0) (mark_place at) at

-- each record is what the tree says
abbrev pub Holds : Store → ℕ → Records → Type 0
Holds s d none = Unit {0}
Holds s d (item at l below rest) =
    (at < 0xffff_ffff) × (look s (place d at) ≡ rec l (root below) (root rest)) × Holds s (d - 1) below × Holds s d rest

-- how often the place k comes in the tree
abbrev pub count : ℕ → Records → ℕ → ℕ
count d none k = 0
count d (item at l below rest) k = one (place d at) k + count (d - 1) below k + count d rest k

-- The tree stands in s: its records are in places that are taken, and no place comes twice.
pub record Stands (s : Store) (d : ℕ) (t : Records) : Type 0 where
  pub holds : Holds s d t
  pub own : (k : ℕ) → count d t k ≤ live s k

-- From s to s', t became t': what t' has more, it has in places that were free, and it has all that were taken since. No record changed
-- but t's and the ones that were taken.
pub record Changed (s s' : Store) (d : ℕ) (t t' : Records) : Type 0 where
  pub holds : Holds s' d t'
  pub grown : (k : ℕ) → count d t' k + live s k ≡ count d t k + live s' k
  pub keeps : (k : ℕ) → count d t k < live s k → look s' k ≡ look s k
  pub spare : (k : ℕ) → live s' k ≡ 0 → (live s k ≡ 0) × (look s' k ≡ look s k)
  pub branches : s'.branches.taken + branches_of (shape t) ≡ s.branches.taken + branches_of (shape t')
  pub marks : s'.marks.taken + marks_of (shape t) ≡ s.marks.taken + marks_of (shape t')
  pub all : space (length s'.branches.records.now) ≡ space (length s.branches.records.now)
  pub all_marks : space (length s'.marks.records.now) ≡ space (length s.marks.records.now)

-- At `first` there is a tree with d fields left, and there is room for as much again.
pub record Copiable (s : Store) (d first : ℕ) (t : Records) : Type 0 where
  pub stands : Stands s d t
  pub from : root t ≡ first
  pub steps : branches_of (shape t) + marks_of (shape t) ≤ in_use s
  pub room : s.branches.taken + branches_of (shape t) ≤ space (length s.branches.records.now)
  pub room_marks : s.marks.taken + marks_of (shape t) ≤ space (length s.marks.records.now)

-- a new tree u with the shape of t
pub record Copied (s s' : Store) (d : ℕ) (t : Records) (r : ℕ) (u : Records) : Type 0 where
  pub change : Changed s s' d none u
  pub same : shape u ≡ shape t
  pub from : root u ≡ r

-- a new record with the label l, over a new tree u with the shape of `below`
pub record CopiedOne (s s' : Store) (d : ℕ) (l : Label) (below : Records) (r : ℕ) (u : Records) : Type 0 where
  pub change : Changed s s' d none (item r l u none)
  pub same : shape u ≡ shape below

-- At `first` there is a tree with d fields left, and there is room for it to become one of the shape sh.
pub record Fits (s : Store) (d first : ℕ) (t : Records) (sh : Shape) : Type 0 where
  pub stands : Stands s d t
  pub from : root t ≡ first
  pub steps : branches_of (shape t) + marks_of (shape t) ≤ in_use s
  pub room : s.branches.taken + branches_of sh ≤ space (length s.branches.records.now) + branches_of (shape t)
  pub room_marks : s.marks.taken + marks_of sh ≤ space (length s.marks.records.now) + marks_of (shape t)

-- From s to s', t became t', of the shape sh, which starts at r; nothing else changed.
pub record Became (s s' : Store) (d : ℕ) (t : Records) (sh : Shape) (r : ℕ) (t' : Records) : Type 0 where
  pub change : Changed s s' d t t'
  pub same : shape t' ≡ sh
  pub from : root t' ≡ r

-- There is a tree at `first` and room for g of it.
abbrev pub Can : Store → (d first : ℕ) → (Shape → Shape) → Type 0
Can s d first g = (t : Records) × Fits s d first t (g (shape t))

-- The tree at `first` became g of itself, at r.
abbrev pub Does : (s s' : Store) (d first r : ℕ) → (Shape → Shape) → Type 0
Does s s' d first r g = (t : Records) → Fits s d first t (g (shape t)) → (u : Records) × Became s s' d t (g (shape t)) r u

-- The same of a node, with any number of fields left.
abbrev pub CanNode : Store → (first : ℕ) → (Shape → Shape) → Type 0
CanNode s first g = (d : ℕ) × (0 < d) × Can s d first g

abbrev pub DoesNode : (s s' : Store) (first r : ℕ) → (Shape → Shape) → Type 0
DoesNode s s' first r g = (d : ℕ) → 0 < d → Does s s' d first r g

-- the gaps from `want` to `high`, but for the one before the first branch
abbrev pub tail : (want high : ℕ) → Shape → Shape
tail want high bare = bare
tail want high (part (piece a b) below rest) = part (piece a b) below (gaps (max want (b + 1)) high rest)
tail want high (part (rule i) below rest) = part (rule i) below rest

-- The gap of a span before some branches; none, where they begin with the span or below.
abbrev pub Gap : Ends → Shape → Option Ends → Type 0
Gap span sh None = gaps span.low span.high sh ≡ tail span.low span.high sh
Gap span sh (Some gap) = gaps span.low span.high sh ≡ part (piece gap.low gap.high) bare (tail span.low span.high sh)

-- A new branch with nothing below came at `new`, from s to s₁, and then follows the one at `at`.
pub record Inserted (s s₁ s₂ : Store) (at : ℕ) (gap : Ends) (new : ℕ) : Type 0 where
  pub small : new < 0xffff_ffff
  pub pushed : Pushed s s₁ new (rec (piece gap.low gap.high) 0xffff_ffff (next_of (look s at)))
  pub written : Written s₁ s₂ at (with_next (look s at) new)

-- the intervals of a rule for the d fields that are left
pub record Intervals (d : ℕ) (es : List Ends) : Type 0 where
  pub fields : d ≡ length es
  pub upward : AllByRecursion Upward es

-- how far it is from `at` to the end of its node or cell, if not more than n
abbrev pub chain : ℕ → Store → (d at : ℕ) → ℕ
chain zero s d at = 0
chain (suc n) s d at = cond (at == 0xffff_ffff) 0 (suc (chain n s d (next_of (look s (place d at)))))
