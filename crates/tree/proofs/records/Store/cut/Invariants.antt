use Rattle.shape.specs.Shapes.{cut_at}
use Rattle.tree.specs.Memory.{in_use}
use Rattle.tree.specs.Links.{Records, shape, Fits, chain}
use Rattle.tree.proofs.Changing.{Walk}
use Rattle.tree.proofs.records.Store.cut.Given as goal

abbrev pub invariant-loop-b : goal.invariant-loop-b
invariant-loop-b l =
    (t : Records) → Fits l.initial.self l.left l.first t (cut_at l.x (shape t))
    → Walk l.initial.self l.left l.first (cut_at l.x) t l.self l.at (in_use l.initial.self) (cut_at l.x)

abbrev pub decreases-loop-b : goal.decreases-loop-b
decreases-loop-b l = chain (in_use l.initial.self) l.self l.left l.at
