use Rattle.std.proofs.Common.{IfSome}
use Rattle.tree.specs.Calls.{Marked, marks_left}
use Rattle.tree_report.proofs.space.print_matching.Given as goal
use denote.Shadow.{shadow}
use denote.Text.{Utf8}

abbrev pub invariant-loop-at : goal.invariant-loop-at
invariant-loop-at g l = record { marked : IfSome l.at (Marked l.tree); text : shadow (Utf8 l.before) }

abbrev pub decreases-loop-at : goal.decreases-loop-at
decreases-loop-at g l = marks_left l.tree l.at
