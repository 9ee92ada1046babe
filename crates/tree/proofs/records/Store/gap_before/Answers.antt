use Rattle.std.proofs.Common.{arith}
use Rattle.tree.proofs.Frames.{branch_inside}
use Rattle.tree.proofs.Fills.{gap_there, no_gap}
use Rattle.tree.proofs.records.Store.gap_before.Goals as goal

pub follow-requires : goal.follow-requires
follow-requires c =
    λ ne.
    let (d, t, pos, S, e) = c.requires.node in
    branch_inside c.args.self.now d c.args.next t e ne S (λ z. omega (arith, pos, z))

pub returns-then-span-upper : goal.returns-then-span-upper
returns-then-span-upper c d t pos S e =
    gap_there c.args.self.now d c.args.next c.args.span t S e c.in-Some.ensures.more pos _ c.in-Some.ensures.found c.requires.upward c.min.result c.min.ensures c.if-span-upper.true

pub returns : goal.returns
returns c d t pos S e =
    no_gap c.args.self.now d c.args.next c.args.span t S e c.in-Some.ensures.more pos _ c.in-Some.ensures.found c.requires.upward c.if-span-upper.false
