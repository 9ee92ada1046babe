use Rattle.std.proofs.Common.{◌+◌, ◌*◌}
use Rattle.shape.specs.Shapes.{under, insert}
use Rattle.tree.specs.Memory.{in_use}
use Rattle.tree.specs.Links.{Records, shape, Fits, chain}
use Rattle.tree.proofs.Changing.{Walk}
use Rattle.tree.proofs.records.Store.+append_descend.Given as goal

abbrev pub decreases-append : goal.decreases-append
decreases-append l = 2 * l.left + 1

abbrev pub decreases-descend : goal.decreases-descend
decreases-descend l = 2 * l.left

abbrev pub invariant-descend-loop-b : goal.invariant-descend-loop-b
invariant-descend-loop-b l =
    (t : Records) → Fits l.initial.self l.left l.first t (under l.ends.low l.ends.high (insert l.rest l.i) (shape t))
    → Walk l.initial.self l.left l.first (under l.ends.low l.ends.high (insert l.rest l.i)) t l.self l.at
    (in_use l.initial.self) (under l.ends.low l.ends.high (insert l.rest l.i))

abbrev pub decreases-descend-loop-b : goal.decreases-descend-loop-b
decreases-descend-loop-b l = chain (in_use l.initial.self) l.self l.left l.at
