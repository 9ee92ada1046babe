use Rattle.std.proofs.Common.{ℕ, ◌<◌, ◌≤◌}
use Rattle.tree.specs.Memory.{in_use}
use Rattle.tree.specs.Links.{Records, shape, Fits, tail, chain}
use Rattle.tree.proofs.Changing.{Walk}
use Rattle.tree.proofs.records.Store.fill_after.Given as goal

abbrev pub invariant-loop-b : goal.invariant-loop-b
invariant-loop-b l = record {
  walk : (d : ℕ) (t : Records) → 0 < d → Fits l.initial.self d l.first t (tail l.span.low l.span.high (shape t))
      → Walk l.initial.self d l.first (tail l.span.low l.span.high) t l.self l.at (in_use l.initial.self) (tail l.want l.span.high);
  upward : l.want ≤ l.span.high;
}

abbrev pub decreases-loop-b : goal.decreases-loop-b
decreases-loop-b l = chain (in_use l.initial.self) l.self 1 l.at
