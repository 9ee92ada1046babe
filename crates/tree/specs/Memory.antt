-- The memory of a tree: what stands at each place, and which places are taken. A branch's place is its index, and a mark's its index
-- and 2 ^ 32 more, so that one number names either. Assumes nothing.
use Rattle.std.specs.Prelude.{◌≡◌, ℕ, ◌+◌, ◌-◌, min, cond, Some, None, Option, List, length, ◌==◌, nat_lt, slice_index_or}
use Rattle.std.proofs.Math.Nat.{ℕ_set}
use Rattle.shape.specs.Shapes.{Label, LabelSet, piece, rule, branch_of, mark_of}
unfoldable pub use Rattle.tree.specs.Pools.{space}
use Rattle.tree.specs.declared.records.Branch.{Branch}
use Rattle.tree.specs.declared.records.Mark.{Mark}
use Rattle.tree.specs.declared.records.Store.{Store}

-- a record: a branch or a mark, the link to what is below it, and the link to the next of its node or cell
pub data Rec : Type 0 where
  rec : Label → (below next : ℕ) → Rec
  deriving IsSet as Rec-set'

pub RecSet : IsSet Rec
RecSet = Rec-set' LabelSet ℕ_set

abbrev pub label_of : Rec → Label
label_of (rec l below next) = l

abbrev pub below_of : Rec → ℕ
below_of (rec l below next) = below

abbrev pub next_of : Rec → ℕ
next_of (rec l below next) = next

abbrev pub with_next : Rec → ℕ → Rec
with_next (rec l below next) n = rec l below n

abbrev pub mark_place : ℕ → ℕ
mark_place i = i + 4294967296

-- 1 at p, else 0
unfoldable pub one : ℕ → ℕ → ℕ
one p k = cond (p == k) 1 0

-- 1 at a place that is taken, where n branches and m marks are, else 0
unfoldable pub live_in : (n m k : ℕ) → ℕ
live_in n m k = cond (nat_lt k 4294967296) (cond (nat_lt k n) 1 0) (cond (nat_lt k (m + 4294967296)) 1 0)

-- how many of u records lie in a slice of n
unfoldable pub top : (u n : ℕ) → ℕ
top u n = min u n

abbrev pub live : Store → ℕ → ℕ
live s k = live_in (top s.branches.taken (length s.branches.records.now)) (top s.marks.taken (length s.marks.records.now)) k

-- how many records are taken
abbrev pub in_use : Store → ℕ
in_use s = s.branches.taken + s.marks.taken

abbrev pub of_branch : Branch → Rec
of_branch b = rec (piece b.low b.high) b.below b.next

-- nothing is below a mark
abbrev pub of_mark : Mark → Rec
of_mark m = rec (rule m.rule) 0xffff_ffff m.next

-- what stands at a place
unfoldable pub look_in : List Branch → List Mark → ℕ → Rec
look_in bs ms k =
    cond (nat_lt k 4294967296) (of_branch (slice_index_or bs k (record { low = 0; high = 0; below = 0; next = 0 })))
    (of_mark (slice_index_or ms (k - 4294967296) (record { rule = 0; next = 0 })))

abbrev pub look : Store → ℕ → Rec
look s k = look_in s.branches.records.now s.marks.records.now k

-- a link as an option
abbrev pub link_of : ℕ → Option ℕ
link_of n = cond (n == 0xffff_ffff) None (Some n)

-- n branches and m marks more are taken
pub record Room (s s' : Store) (n m : ℕ) : Type 0 where
  pub branches : s'.branches.taken ≡ s.branches.taken + n
  pub marks : s'.marks.taken ≡ s.marks.taken + m
  pub all : space (length s'.branches.records.now) ≡ space (length s.branches.records.now)
  pub all_marks : space (length s'.marks.records.now) ≡ space (length s.marks.records.now)

-- the record at p became r
pub record Written (s s' : Store) (p : ℕ) (r : Rec) : Type 0 where
  pub here : look s' p ≡ r
  pub alive : (k : ℕ) → live s' k ≡ live s k
  pub keeps : (k : ℕ) → one p k ≡ 0 → look s' k ≡ look s k
  pub room : Room s s' 0 0

-- the record r came at the new place p
pub record Pushed (s s' : Store) (p : ℕ) (r : Rec) : Type 0 where
  pub here : look s' p ≡ r
  pub alive : (k : ℕ) → live s' k ≡ live s k + one p k
  pub keeps : (k : ℕ) → one p k ≡ 0 → look s' k ≡ look s k
  pub room : Room s s' (branch_of (label_of r)) (mark_of (label_of r))
