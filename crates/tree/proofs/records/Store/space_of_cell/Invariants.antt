use Rattle.tree.specs.Memory.{in_use}
use Rattle.tree.specs.Links.{Records, shape, chain}
use Rattle.tree.specs.Reads.{Stood, weight}
use Rattle.tree.proofs.Reading.{Passing}
use Rattle.tree.proofs.Weights.{Toward}
use Rattle.tree.proofs.records.Store.space_of_cell.Given as goal

abbrev pub invariant-loop-m : goal.invariant-loop-m
invariant-loop-m l =
    (t : Records) → Stood l.self 0 l.first t
    → Passing l.self 0 l.at (in_use l.self)
    (λ sh. Toward l.sum (λ p q. weight p q sh) (λ p q. weight p q (shape t)))

abbrev pub decreases-loop-m : goal.decreases-loop-m
decreases-loop-m l = chain (in_use l.self) l.self 0 l.at
