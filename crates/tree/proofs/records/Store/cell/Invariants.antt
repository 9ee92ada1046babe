use Rattle.std.proofs.Common.{◌≡◌, ◌-◌, drop}
use Rattle.tree.specs.Links.{Records, shape}
use Rattle.tree.specs.Lookups.{look_up}
use Rattle.tree.specs.Reads.{Stood}
use Rattle.tree.proofs.records.Store.cell.Given as goal

abbrev pub invariant-loop-value : goal.invariant-loop-value
invariant-loop-value l =
    (t : Records) → Stood l.self l.fields l.first t
    → (u : Records) × Stood l.self (l.fields - l.value-index) l.at u × (look_up (drop l.value-index l.value-items) (shape u) ≡ look_up l.value-items (shape t))
