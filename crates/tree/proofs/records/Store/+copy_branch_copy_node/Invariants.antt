use Rattle.std.proofs.Common.{◌+◌, ◌*◌, ◌<◌}
use Rattle.shape.specs.Shapes.{Label}
use Rattle.tree.specs.Memory.{live, look, next_of, in_use}
use Rattle.tree.specs.Links.{Records, place, chain}
use Rattle.tree.proofs.Copies.{Ready, Midway}
use Rattle.tree.proofs.records.Store.+copy_branch_copy_node.Given as goal

abbrev pub decreases-copy_branch : goal.decreases-copy_branch
decreases-copy_branch l = 2 * l.left

abbrev pub decreases-copy_node : goal.decreases-copy_node
decreases-copy_node l = 2 * l.left + 1

-- The record at `at` is copied; the loop goes on to what follows it.
abbrev pub invariant-copy_node-loop-next : goal.invariant-copy_node-loop-next
invariant-copy_node-loop-next l = record {
  alive : 0 < live l.self (place l.left l.at);
  midway :
      (r : Records) (m : Label) (b : Records)
      → Ready l.initial.self l.left (next_of (look l.initial.self (place l.left l.initial.at))) l.initial.last (in_use l.initial.self) r m b
      → Midway l.initial.self l.left l.initial.last r m b l.self (next_of (look l.self (place l.left l.at))) l.last (in_use l.initial.self);
}

abbrev pub decreases-copy_node-loop-next : goal.decreases-copy_node-loop-next
decreases-copy_node-loop-next l = chain (in_use l.initial.self) l.self l.left (next_of (look l.self (place l.left l.at)))
