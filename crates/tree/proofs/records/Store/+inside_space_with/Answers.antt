use Rattle.std.proofs.Common.{◌+◌, ◌<◌, ◌≤◌, max, min, sym, ap, ap₂, ◌∙◌, subst, arith, rules}
use Rattle.shape.specs.Shapes.{cut_at, under, cut_above, gaps, insert}
use Rattle.tree.specs.Links.{none, shape}
use Rattle.tree.specs.Reads.{Stood, weight}
use Rattle.tree.proofs.Descends.{first_ends, other_ends, split, no_ends}
use Rattle.tree.proofs.Reading.{begin, stays_branch, seen_branch, ended, at_record, below, after, less, nothing}
use Rattle.tree.proofs.Weights.{marked, weighs_as, weighs_both, new_before, new_after, branch_weighs, mark_weighs, toward_none, turned, finished}
use Rattle.tree.proofs.records.Store.+inside_space_with.Goals as goal

pub space_with-returns-then-left-eq0 : goal.space_with-returns-then-left-eq0
space_with-returns-then-left-eq0 t c u i S =
    weighs_as _
    (λ p q. sym (ap (λ xs. weight p q (insert xs i (shape u))) (no_ends _ _ c.requires.rule.fields c.if-left-eq0.true) ∙ marked p q i (shape u)))
    (weighs_both (c.space_of_cell.ensures u (subst (λ d. Stood c.args.self.now d c.args.first u) c.if-left-eq0.true S)) mark_weighs c.plus.ensures)

pub space_with-loop-b-init : goal.space_with-loop-b-init
space_with-loop-b-init t c =
    let xs = c.args.rule.now in
    let left : 0 < c.args.left = omega (arith, c.if-left-eq0.false) in
    record {
      counted =
          λ u i S.
          begin _ _ _ u _ S
          (toward_none _ _ (λ p q. ap (λ w. weight p q (under (first_ends xs).low (first_ends xs).high (insert (other_ends xs) i) (gaps w (first_ends xs).high (cut_above (first_ends xs).high (cut_at (first_ends xs).low (shape u)))))) c.from-want.ensures ∙ ap (λ ys. weight p q (insert ys i (shape u))) (sym (split _ xs c.requires.rule left).is)));
      low = omega (arith, c.from-want.ensures);
    }

pub space_with-follow-requires : goal.space_with-follow-requires
space_with-follow-requires t c = λ ne. stays_branch (c.loop-b.invariant.counted _ 0 c.requires.tree.1) (omega (arith, c.if-left-eq0.false)) ne

pub space_with-outside-requires-clause-below : goal.space_with-outside-requires-clause-below
space_with-outside-requires-clause-below t c =
    let left : 0 < c.args.left = omega (arith, c.if-left-eq0.false) in
    let W = c.loop-b.invariant.counted _ 0 c.requires.tree.1 in
    let F = seen_branch W left c.in-Some.ensures.more c.in-Some.ensures.found in
    (F.below, below W F)

pub space_with-inside-requires : goal.space_with-inside-requires
space_with-inside-requires t c =
    let left : 0 < c.args.left = omega (arith, c.if-left-eq0.false) in
    let W = c.loop-b.invariant.counted _ 0 c.requires.tree.1 in
    let F = seen_branch W left c.in-Some.ensures.more c.in-Some.ensures.found in
    (omega (arith, c.decreases), (left, ((F.below, below W F), (split _ _ c.requires.rule left).rest)))

pub space_with-loop-b-smaller : goal.space_with-loop-b-smaller
space_with-loop-b-smaller t c =
    let left : 0 < c.args.left = omega (arith, c.if-left-eq0.false) in
    let W = c.loop-b.invariant.counted _ 0 c.requires.tree.1 in
    less W (seen_branch W left c.in-Some.ensures.more c.in-Some.ensures.found)

pub space_with-loop-b-preserved : goal.space_with-loop-b-preserved
space_with-loop-b-preserved t c =
    let left : 0 < c.args.left = omega (arith, c.if-left-eq0.false) in
    let X = split _ c.args.rule.now c.requires.rule left in
    let e = first_ends c.args.rule.now in
    record {
      counted =
          λ u i S.
          let W = c.loop-b.invariant.counted u i S in
          let F = seen_branch W left c.in-Some.ensures.more c.in-Some.ensures.found in
          let new = weighs_both branch_weighs (c.space_with.ensures none i (nothing _ _)) c.plus-new.ensures in
          let gap = new_before c.loop-b.want e.high c.in-Some.b.low _ new c.when-gap.ensures (c.min.ensures ∙ ap₂ min c.past-end.ensures c.from.ensures) in
          let parts = weighs_both (c.outside.ensures F.below (below W F)) (c.inside.ensures F.below i (below W F)) c.plus-parts.ensures in
          let small : c.in-Some.b.high ≤ 0xffff_ffff = search rules in
          after W F _
          (turned e.low e.high (insert (other_ends c.args.rule.now) i) c.loop-b.want _ _ _ (shape F.below) (shape F.rest) X.upward c.loop-b.invariant.low small (at_record W.stood F).order gap parts c.plus-in-Some.ensures c.plus-sum.ensures (c.max-want.ensures ∙ ap (max c.loop-b.want) (c.past.ensures ∙ ap (λ e. e.high + 1) c.ends.ensures)));
      low = omega (arith, c.loop-b.invariant.low, c.max-want.ensures);
    }

pub space_with-returns : goal.space_with-returns
space_with-returns t c u i S =
    let xs = c.args.rule.now in
    let e = first_ends xs in
    let new = weighs_both branch_weighs (c.space_with.ensures none i (nothing _ _)) c.plus-new.ensures in
    let last = new_after c.loop-b.want e.high _ new c.when.ensures c.past-end.ensures in
    finished e.low e.high (insert (other_ends xs) i) c.loop-b.want c.loop-b.invariant.low last c.plus-2.ensures (ended (c.loop-b.invariant.counted u i S) c.in_default.ensures.end)
