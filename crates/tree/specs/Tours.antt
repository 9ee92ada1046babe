-- A walk over cells, and how far it has come. Assumes nothing.
use Rattle.std.specs.Prelude.{◌≡◌, ℕ, ◌-◌, ◌<◌, true, false, List, [], ◌∷◌, ◌++◌, length, take, drop, replicate, slice_index}
use Rattle.routing.specs.declared.ends.Ends.{Ends}
use Rattle.shape.specs.Shapes.{Shape, bare, part}
use Rattle.shape.specs.Meaning.{Cell, cells, corner, box_of, marks_in}
use Rattle.tree.specs.Links.{Records, none, item, shape}
use Rattle.tree.specs.Reads.{Stood}
use Rattle.tree.specs.declared.records.Store.{Store}
use Rattle.tree.specs.declared.walk.Walk.{Walk}

-- from this link on stand the marks of these rules
abbrev pub Lists : Store → ℕ → List ℕ → Type 0
Lists s at ns = (u : Records) × Stood s 0 at u × (marks_in (shape u) ≡ ns)

-- the interval of the first of some branches, and the others
abbrev pub top_box : Records → Ends
top_box none = record { low = 0; high = 0 }
top_box (item at l below rest) = box_of l

abbrev pub later : Shape → Shape
later bare = bare
later (part l below rest) = rest

-- the branches that a walk has gone down by, the last first, by their intervals
abbrev pub boxes : List Records → List Ends
boxes [] = []
boxes (r ∷ rs) = boxes rs ++ top_box r ∷ []

-- they stand at the places of the path, and have these low ends
abbrev pub Stack : Store → (d : ℕ) (path lows : List ℕ) → List Records → Type 0
Stack s d path lows [] = Unit {0}
Stack s d path lows (r ∷ rs) =
    Stood s (d - length rs) (slice_index path (length rs)) r × (slice_index path (length rs) < 0xffff_ffff)
    × (slice_index lows (length rs) ≡ (top_box r).low) × Stack s d path lows rs

-- the cells that come after those branches
abbrev pub waiting : List Ends → List Records → List Cell
waiting es [] = []
waiting es (r ∷ rs) = cells (drop (length rs) es) (boxes rs) (later (shape r)) ++ waiting es rs

-- Below k branches of the path the walk stands at `at`, in a node or a cell, and the cells cs are still to come.
pub record Touring (s : Store) (es : List Ends) (path lows : List ℕ) (k at : ℕ) (cs : List Cell) : Type 0 where
  pub node : Records
  pub stack : List Records
  pub height : length stack ≡ k
  pub stood : Stood s (length es - length stack) at node
  pub above : Stack s (length es) path lows stack
  pub come : cells (drop (length stack) es) (boxes stack) (shape node) ++ waiting es stack ≡ cs

-- The walk has gone down by a branch for each field, and the cells cs come after that.
pub record Below (s : Store) (es : List Ends) (path lows : List ℕ) (cs : List Cell) : Type 0 where
  pub stack : List Records
  pub height : length stack ≡ length es
  pub above : Stack s (length es) path lows stack
  pub come : waiting es stack ≡ cs

-- The walk stands at the first of the cells cs: its corner and its marks are told; or there is none.
abbrev pub Reached : Store → List Ends → Walk → List Cell → Type 0
Reached s es w [] = w.found ≡ false
Reached s es w (c ∷ cs) =
    (w.found ≡ true) × (take (length es) w.corner ≡ corner c) × (drop (length es) w.corner ≡ replicate (8 - length es) 0)
    × Lists s w.marks c.marks × Below s es w.path w.corner cs
