use Rattle.std.proofs.Common.{◌≡◌, ◌-◌, ◌≤◌, List, length, drop, replicate}
use Rattle.shape.specs.Meaning.{Cell}
use Rattle.tree.specs.Tours.{Touring}
use Rattle.tree.proofs.Cells.{turns}
use Rattle.tree.proofs.records.Store.settle.Given as goal

abbrev pub invariant-loop-k : goal.invariant-loop-k
invariant-loop-k l = record {
  walk : (cs : List Cell) → Touring l.self l.within l.initial.path l.initial.corner l.initial.k l.initial.at cs → Touring l.self l.within l.path l.corner l.k l.at cs;
  path : length l.path ≡ 8;
  corner : length l.corner ≡ 8;
  clear : drop (length l.within) l.corner ≡ replicate (8 - length l.within) 0;
  depth : l.k ≤ length l.within;
}

abbrev pub decreases-loop-k : goal.decreases-loop-k
decreases-loop-k l = turns l.self (length l.within) l.path l.k l.at
