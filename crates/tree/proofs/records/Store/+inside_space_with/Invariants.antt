use Rattle.std.proofs.Common.{ℕ, ◌+◌, ◌*◌, ◌≤◌}
use Rattle.shape.specs.Shapes.{insert}
use Rattle.tree.specs.Memory.{in_use}
use Rattle.tree.specs.Links.{Records, shape, chain}
use Rattle.tree.specs.Reads.{Stood, weight}
use Rattle.tree.proofs.Reading.{Passing}
use Rattle.tree.proofs.Weights.{Toward, to_make}
use Rattle.tree.proofs.records.Store.+inside_space_with.Given as goal

abbrev pub decreases-inside : goal.decreases-inside
decreases-inside l = 2 * l.left

abbrev pub decreases-space_with : goal.decreases-space_with
decreases-space_with l = 2 * l.left + 1

abbrev pub invariant-space_with-loop-b : goal.invariant-space_with-loop-b
invariant-space_with-loop-b l = record {
  counted : (t : Records) (i : ℕ) → Stood l.self l.left l.first t
      → Passing l.self l.left l.at (in_use l.self)
      (λ sh. Toward l.sum (λ p q. to_make p q l.ends.low l.ends.high (insert l.rest i) l.want sh) (λ p q. weight p q (insert l.rule i (shape t))));
  low : l.ends.low ≤ l.want;
}

abbrev pub decreases-space_with-loop-b : goal.decreases-space_with-loop-b
decreases-space_with-loop-b l = chain (in_use l.self) l.self l.left l.at
