use Rattle.std.proofs.Common.{◌≡◌, ℕ, ◌<◌}
use Rattle.tree.specs.Memory.{in_use}
use Rattle.tree.specs.Links.{Records, shape, chain}
use Rattle.tree.specs.Lookups.{seek_in}
use Rattle.tree.specs.Reads.{Stood}
use Rattle.tree.proofs.Reading.{Passing}
use Rattle.tree.proofs.records.Store.seek.Given as goal

abbrev pub invariant-loop-b : goal.invariant-loop-b
invariant-loop-b l =
    (d : ℕ) (t : Records) → 0 < d → Stood l.self d l.first t
    → Passing l.self d l.at (in_use l.self) (λ sh. seek_in l.value sh ≡ seek_in l.value (shape t))

abbrev pub decreases-loop-b : goal.decreases-loop-b
decreases-loop-b l = chain (in_use l.self) l.self 1 l.at
