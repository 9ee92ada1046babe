-- What a tree says of a message. Assumes nothing.
use Rattle.std.specs.Prelude.{◌≡◌, ℕ, cond, List, [], ◌∷◌}
use Rattle.routing.specs.Rules.{holds}
use Rattle.shape.specs.Shapes.{Shape, bare, part, piece, rule}
use Rattle.tree.specs.Links.{Records, shape}
use Rattle.tree.specs.Reads.{Stood}
use Rattle.tree.specs.declared.records.Store.{Store}

-- what is below the first branch that holds x, or nothing
abbrev pub seek_in : ℕ → Shape → Shape
seek_in x bare = bare
seek_in x (part (piece a b) below rest) = cond (holds (record { low = a; high = b }) x) below (seek_in x rest)
seek_in x (part (rule i) below rest) = seek_in x rest

-- the cell of some values, one for each field, or nothing
abbrev pub look_up : List ℕ → Shape → Shape
look_up [] sh = sh
look_up (x ∷ xs) sh = look_up xs (seek_in x sh)

-- at r stands a tree of the shape sh, with d fields left
pub record Has (s : Store) (d r : ℕ) (sh : Shape) (t : Records) : Type 0 where
  pub stood : Stood s d r t
  pub is : shape t ≡ sh
