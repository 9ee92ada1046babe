-- What a tree means, and the space that it has. Assumes nothing.
use Rattle.std.specs.Prelude.{◌≡◌, ℕ, min, cond, List, length, Some, None, Option, nat_lt}
use Rattle.routing.specs.declared.ends.Ends.{Ends}
use Rattle.routing.specs.Space.{branches, marks}
use Rattle.tree.specs.Memory.{look, live}
use Rattle.tree.specs.Meant.{Meant}
use Rattle.tree.specs.Reads.{sat}
use Rattle.tree.specs.declared.all_match.Tree.{Tree}
use Rattle.tree.specs.declared.all_match.Lack.{Lack}
use Rattle.tree.specs.declared.all_match.Lack.TheVariants.{Branches, Marks}
use Rattle.tree.specs.declared.records.Store.{Store}
use Rattle.tree.specs.declared.space.Space.{Space}

-- the tree's records mean the rules T
abbrev pub Means : Tree → List (List Ends) → Type 0
Means x T = ∥ Meant x.store x.root x.fields T ∥₁

-- the branches and the marks that a tree may use
abbrev pub room_in : Store → Space
room_in s = record { branches = min (length s.branches.records.now) 65536; marks = min (length s.marks.records.now) 1048576 }

abbrev pub room_of : Tree → Space
room_of x = room_in x.store

-- the space that rules need, as far as 64 bits go
abbrev pub need_of : ℕ → List (List Ends) → Space
need_of d T = record { branches = sat (branches d 0 T); marks = sat (marks d 0 T) }

-- what of that is too little for the rules T, by its number: branches go first
abbrev pub lacking : Tree → List (List Ends) → Option ℕ
lacking x T =
    cond (nat_lt (room_of x).branches (branches x.fields 0 T)) (Some 11)
    (cond (nat_lt (room_of x).marks (marks x.fields 0 T)) (Some 12) None)

abbrev pub lack_number : Lack → ℕ
lack_number Branches = 11
lack_number Marks = 12

-- From x to x' no record changed that is not taken afterwards.
abbrev pub Spared : (x x' : Tree) → Type 0
Spared x x' = (k : ℕ) → live x'.store k ≡ 0 → look x'.store k ≡ look x.store k
