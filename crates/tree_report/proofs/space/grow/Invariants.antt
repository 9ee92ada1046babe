use Rattle.std.proofs.Common.{◌≡◌, ◌+◌, length}
use Rattle.routing.specs.Fields.{widths_of}
use Rattle.tree.specs.Calls.{Next}
use Rattle.tree_report.proofs.space.grow.Given as goal

abbrev pub invariant-loop-rule : goal.invariant-loop-rule
invariant-loop-rule g l = record { next : Next l.tree (l.rule + 1); fields : l.tree.fields ≡ length (widths_of l.widths) }
