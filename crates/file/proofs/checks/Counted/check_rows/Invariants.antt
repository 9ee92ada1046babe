use Rattle.std.proofs.Common.{◌≡◌, None}
use Rattle.routing.specs.Firsts.{first_some}
use Rattle.file.specs.Layout.{row_place}
use Rattle.file.proofs.checks.Counted.check_rows.Given as goal

abbrev pub invariant-loop-rule : goal.invariant-loop-rule
invariant-loop-rule l = first_some (row_place l.self.bytes.now) l.rule ≡ None
