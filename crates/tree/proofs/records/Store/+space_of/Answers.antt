use Rattle.std.proofs.Common.{◌+◌, ◌<◌, refl, arith}
use Rattle.tree.specs.Links.{shape}
use Rattle.tree.specs.Reads.{weight}
use Rattle.tree.proofs.Reading.{begin, stays_branch, seen_branch, ended, below, after, less}
use Rattle.tree.proofs.Weights.{toward_none, toward_more, toward_all, branch_weighs}
use Rattle.tree.proofs.records.Store.+space_of.Goals as goal

pub loop-b-init : goal.loop-b-init
loop-b-init t c u S = begin _ _ _ u _ S (toward_none _ _ (λ p q. refl))

pub follow-requires : goal.follow-requires
follow-requires t c = λ ne. stays_branch (c.loop-b.invariant _ c.requires.1) (omega (arith, c.if-left-eq0.false)) ne

pub space_of-requires : goal.space_of-requires
space_of-requires t c =
    let pos : 0 < c.args.left = omega (arith, c.if-left-eq0.false) in
    let W = c.loop-b.invariant _ c.requires.1 in
    let F = seen_branch W pos c.in-Some.ensures.more c.in-Some.ensures.found in
    (omega (arith, c.decreases), (F.below, below W F))

pub loop-b-smaller : goal.loop-b-smaller
loop-b-smaller t c =
    let pos : 0 < c.args.left = omega (arith, c.if-left-eq0.false) in
    let W = c.loop-b.invariant _ c.requires.1 in
    less W (seen_branch W pos c.in-Some.ensures.more c.in-Some.ensures.found)

pub loop-b-preserved : goal.loop-b-preserved
loop-b-preserved t c u S =
    let pos : 0 < c.args.left = omega (arith, c.if-left-eq0.false) in
    let W = c.loop-b.invariant u S in
    let F = seen_branch W pos c.in-Some.ensures.more c.in-Some.ensures.found in
    after W F _
    (λ T.
    toward_more _ (c.space_of.ensures F.below (below W F)) c.plus-sum.ensures (λ p q. refl)
    (toward_more (λ p q. weight p q (shape F.below) + weight p q (shape F.rest)) branch_weighs c.plus.ensures (λ p q. omega arith) T))

pub returns : goal.returns
returns t c u S = toward_all (λ p q. refl) (ended (c.loop-b.invariant u S) c.in_default.ensures.end)
