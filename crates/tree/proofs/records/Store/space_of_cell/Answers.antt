use Rattle.std.proofs.Common.{refl, ap, arith}
use Rattle.tree.specs.Links.{shape}
use Rattle.tree.specs.Reads.{weight}
use Rattle.tree.proofs.Reading.{begin, stays_mark, seen_mark, ended, after, less, no_below}
use Rattle.tree.proofs.Weights.{toward_none, toward_more, toward_all, mark_weighs}
use Rattle.tree.proofs.records.Store.space_of_cell.Goals as goal

pub loop-m-init : goal.loop-m-init
loop-m-init c u S = begin _ _ _ u _ S (toward_none _ _ (λ p q. refl))

pub follow-requires : goal.follow-requires
follow-requires c = λ ne. stays_mark (c.loop-m.invariant _ c.requires.1) refl ne

pub loop-m-smaller : goal.loop-m-smaller
loop-m-smaller c =
    let W = c.loop-m.invariant _ c.requires.1 in
    less W (seen_mark W refl c.in-Some.ensures.more c.in-Some.ensures.found)

pub loop-m-preserved : goal.loop-m-preserved
loop-m-preserved c u S =
    let W = c.loop-m.invariant u S in
    let F = seen_mark W refl c.in-Some.ensures.more c.in-Some.ensures.found in
    after W F _
    (toward_more _ mark_weighs c.plus-sum.ensures (λ p q. omega (arith, ap (λ b. weight p q (shape b)) (no_below W F))))

pub returns : goal.returns
returns c u S = toward_all (λ p q. refl) (ended (c.loop-m.invariant u S) c.in_default.ensures.end)
