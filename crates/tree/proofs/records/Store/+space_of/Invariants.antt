use Rattle.tree.specs.Memory.{in_use}
use Rattle.tree.specs.Links.{Records, shape, chain}
use Rattle.tree.specs.Reads.{Stood, weight}
use Rattle.tree.proofs.Reading.{Passing}
use Rattle.tree.proofs.Weights.{Toward}
use Rattle.tree.proofs.records.Store.+space_of.Given as goal

abbrev pub decreases-space_of : goal.decreases-space_of
decreases-space_of l = l.left

abbrev pub invariant-loop-b : goal.invariant-loop-b
invariant-loop-b l =
    (t : Records) → Stood l.self l.left l.first t
    → Passing l.self l.left l.at (in_use l.self)
    (λ sh. Toward l.sum (λ p q. weight p q sh) (λ p q. weight p q (shape t)))

abbrev pub decreases-loop-b : goal.decreases-loop-b
decreases-loop-b l = chain (in_use l.self) l.self l.left l.at
