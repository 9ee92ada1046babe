use Rattle.std.proofs.Common.{◌≡◌, length, rules}
use Rattle.std.proofs.lemmas.Grind.{common_steps}
use Rattle.std.proofs.Common.{arith}
use Rattle.routing.specs.Fields.{widths_of}
use Rattle.tree.proofs.Lawfuls.{lawful_proper}
use Rattle.tree_report.proofs.space.grow.Goals as goal

pub append-requires-clause-proper : goal.append-requires-clause-proper
append-requires-clause-proper g c =
    let long : length c.row-ends.result ≡ 8 = search rules in
    lawful_proper c.loop-rule.tree.fields (widths_of c.args.widths) c.row-ends.result c.loop-rule.invariant.fields c.args.widths.tested long
    (grind (arith, common_steps))
