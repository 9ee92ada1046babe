-- What the records of a tree mean: some rules. Assumes nothing.
use Rattle.std.specs.Prelude.{◌≡◌, ℕ, ◌≤◌, List}
use Rattle.std.specs.List.{AllByRecursion}
use Rattle.routing.specs.declared.ends.Ends.{Ends}
use Rattle.routing.specs.Space.{branches, marks}
use Rattle.shape.specs.Shapes.{grown}
use Rattle.shape.specs.Meaning.{Proper, Tidy}
use Rattle.tree.specs.Links.{Records, shape, root, Stands}
use Rattle.tree.specs.declared.records.Store.{Store}

-- From the link `first` on the records hold the tree of the rules T of d fields, numbered from 1, and nothing else: as many branches and
-- marks are taken as these rules need. In every node the branches run upward and do not overlap, and in every cell the marks ascend.
pub record Meant (s : Store) (first d : ℕ) (T : List (List Ends)) : Type 0 where
  pub fields : (1 ≤ d) × (d ≤ 8)
  pub proper : AllByRecursion (Proper d) T
  pub branches : s.branches.taken ≡ branches d 0 T
  pub marks : s.marks.taken ≡ marks d 0 T
  pub tidy : Tidy d 0 (grown d T)
  pub records : (t : Records) × Stands s d t × (root t ≡ first) × (shape t ≡ grown d T)

-- They mean some rules. The rules themselves are no part of a tree, so this only says that there are some.
abbrev pub SomeRules : Store → (first d : ℕ) → Type 0
SomeRules s first d = ∥ ((T : List (List Ends)) × Meant s first d T) ∥₁
