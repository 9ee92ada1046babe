use Rattle.std.proofs.Common.{◌≡◌, Some, slice_get}
use Rattle.shape.specs.Shapes.{add_mark}
use Rattle.tree.specs.Memory.{in_use}
use Rattle.tree.specs.Links.{Records, shape, Fits, chain}
use Rattle.tree.proofs.Changing.{Walk}
use Rattle.tree.proofs.records.Store.add_mark.Given as goal

abbrev pub invariant-loop-next : goal.invariant-loop-next
invariant-loop-next l = record {
  walk : (t : Records) → Fits l.initial.self 0 l.first t (add_mark l.i (shape t)) → Walk l.initial.self 0 l.first (add_mark l.i) t l.self l.at (in_use l.initial.self) (add_mark l.i);
  some : l.at ≡ 0xffff_ffff → ⊥;
  read : slice_get l.self.marks.records.now l.at ≡ Some l.last;
}

abbrev pub decreases-loop-next : goal.decreases-loop-next
decreases-loop-next l = chain (in_use l.initial.self) l.self 0 l.at
