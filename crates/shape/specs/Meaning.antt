-- What the tree of a list of rules says. Assumes nothing.
use Rattle.std.specs.Prelude.{◌≡◌, ℕ, zero, suc, ◌+◌, ◌<◌, ◌≤◌, Bool, true, false, cond, ◌&&◌, ◌⊎◌, List, [], ◌∷◌, ◌++◌, map, length, take, Some, None, Option, MatchOption, nat_le}
use Rattle.std.specs.Option.{option_and_then}
use Rattle.std.specs.List.{AllZip, ContainsAt, AllByRecursion}
use Rattle.routing.specs.declared.ends.Ends.{Ends}
use Rattle.routing.specs.Rules.{matches, matching}
use Rattle.routing.specs.Space.{branches, marks}
use Rattle.shape.specs.Shapes.{Label, piece, rule, Shape, bare, part, branches_of, marks_of, insert, grown}

-- an interval that runs upward, or holds one value
abbrev pub Upward : Ends → Type 0
Upward e = e.low ≤ e.high

-- an interval of numbers of 32 bits that is not empty
abbrev pub Sound : Ends → Type 0
Sound e = Upward e × (e.high ≤ 0xffff_ffff)

-- the ends of a rule of d fields; what stands past them is not looked at
abbrev pub Proper : ℕ → List Ends → Type 0
Proper d r = (d ≤ length r) × AllByRecursion Sound (take d r)

-- In a node with d fields left there are branches, which run upward from `lo` and do not overlap; with none
-- left it is a cell, with marks, which ascend from `lo`.
abbrev pub Tidy : (d lo : ℕ) → Shape → Type 0
Tidy d lo bare = Unit {0}
Tidy zero lo (part (piece a b) below rest) = ⊥
Tidy zero lo (part (rule i) below rest) = (lo ≤ i) × (below ≡ bare) × Tidy zero (i + 1) rest
Tidy (suc d) lo (part (piece a b) below rest) = (lo ≤ a) × (a ≤ b) × Tidy d 0 below × Tidy (suc d) (b + 1) rest
Tidy (suc d) lo (part (rule i) below rest) = ⊥

-- what is below the branch that holds v
abbrev pub branch_at : ℕ → Shape → Option Shape
branch_at v bare = None
branch_at v (part (piece a b) below rest) = cond (nat_le a v && nat_le v b) (Some below) (branch_at v rest)
branch_at v (part (rule i) below rest) = branch_at v rest

-- the cell that values reach, one for each field, if there is a branch for each of them
abbrev pub reached : List ℕ → Shape → Option Shape
reached [] sh = Some sh
reached (v ∷ vs) sh = option_and_then (reached vs) (branch_at v sh)

-- the marks of a cell
abbrev pub marks_in : Shape → List ℕ
marks_in bare = []
marks_in (part (piece a b) below rest) = marks_in rest
marks_in (part (rule i) below rest) = i ∷ marks_in rest

-- a cell: the chain of pieces that leads to it, one for each field, and its marks
pub record Cell : Type 0 where
  pub box : List Ends
  pub marks : List ℕ

-- the branch lies within the interval
abbrev pub within : Ends → Label → Bool
within e (piece a b) = nat_le e.low a && nat_le b e.high
within e (rule i) = false

-- the interval of a branch
abbrev pub box_of : Label → Ends
box_of (piece a b) = record { low = a; high = b }
box_of (rule i) = record { low = 0; high = 0 }

-- the cells below branches within the given intervals, one for each field that is left, from the lowest branch
-- up; `pre` is the chain of pieces so far
abbrev pub cells : List Ends → List Ends → Shape → List Cell
cells [] pre sh = record { box = pre; marks = marks_in sh } ∷ []
cells (e ∷ es) pre bare = []
cells (e ∷ es) pre (part l below rest) = cond (within e l) (cells es (pre ++ box_of l ∷ []) below) [] ++ cells (e ∷ es) pre rest

-- the smallest message of a cell
abbrev pub corner : Cell → List ℕ
corner c = map (λ e. e.low) c.box

-- the order of messages: the smaller one has the smaller number at the first place where they differ
abbrev pub Before : List ℕ → List ℕ → Type 0
Before [] ws = ⊥
Before (v ∷ vs) [] = ⊥
Before (v ∷ vs) (w ∷ ws) = (v < w) ⊎ ((v ≡ w) × Before vs ws)

-- each cell's smallest message comes before those of the cells after it
abbrev pub Ascending : List Cell → Type 0
Ascending [] = Unit {0}
Ascending (c ∷ cs) = AllByRecursion (λ later. Before (corner c) (corner later)) cs × Ascending cs

-- all of f lies in e
abbrev pub Inside : Ends → Ends → Type 0
Inside e f = (e.low ≤ f.low) × (f.high ≤ e.high)

-- what is said of a cell within the intervals es, of rules T of d fields: it has a piece for each field, none of
-- them empty, some marks, and these are the rules that match each of its messages
pub record Right (d : ℕ) (T : List (List Ends)) (es : List Ends) (c : Cell) : Type 0 where
  pub long : length c.box ≡ d
  pub upward : AllByRecursion Upward c.box
  pub inside : AllZip Inside es c.box
  pub marked : c.marks ≡ [] → ⊥
  pub told : (v : List ℕ) → length v ≡ d → matches d c.box v ≡ true → c.marks ≡ matching d 1 T v

-- One rule more is inserted into the tree of the rules before it.
abbrev pub GrownMore : Type 0
GrownMore =
    (d : ℕ) (T : List (List Ends)) (r : List Ends) → grown d (T ++ r ∷ []) ≡ insert (take d r) (length T + 1) (grown d T)

-- The tree has the branches and the marks that the rules need.
abbrev pub SpaceIsExact : Type 0
SpaceIsExact =
    (d : ℕ) (T : List (List Ends)) → AllByRecursion (Proper d) T
    → (branches_of (grown d T) ≡ branches d 0 T) × (marks_of (grown d T) ≡ marks d 0 T)

-- Branches run upward and apart, and marks ascend.
abbrev pub OrderIsKept : Type 0
OrderIsKept = (d : ℕ) (T : List (List Ends)) → AllByRecursion (Proper d) T → Tidy d 0 (grown d T)

-- The cell that a message reaches has the numbers of the rules that match it; one that reaches no cell
-- matches no rule.
abbrev pub LookUpIsRight : Type 0
LookUpIsRight =
    (d : ℕ) (T : List (List Ends)) → AllByRecursion (Proper d) T → (v : List ℕ) → d ≤ length v
    → MatchOption (reached (take d v) (grown d T)) (matching d 1 T v ≡ []) (λ c. marks_in c ≡ matching d 1 T v)

-- The cells within given intervals are right, each of them, and come in the order of their smallest messages.
abbrev pub CellsAreRight : Type 0
CellsAreRight =
    (d : ℕ) (T : List (List Ends)) → 1 ≤ d → AllByRecursion (Proper d) T → (es : List Ends) → length es ≡ d
    → AllByRecursion (Right d T es) (cells es [] (grown d T)) × Ascending (cells es [] (grown d T))

-- Each message that a rule matches lies in a cell within the rule's intervals.
abbrev pub CellsCover : Type 0
CellsCover =
    (d : ℕ) (A : List (List Ends)) (r : List Ends) (B : List (List Ends)) → AllByRecursion (Proper d) (A ++ r ∷ B)
    → (v : List ℕ) → length v ≡ d → matches d r v ≡ true
    → (c : Cell) × ContainsAt (cells (take d r) [] (grown d (A ++ r ∷ B))) c × (matches d c.box v ≡ true)
