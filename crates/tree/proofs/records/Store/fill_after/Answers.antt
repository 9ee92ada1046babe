use Rattle.std.proofs.Common.{refl, arith}
use Rattle.tree.specs.Memory.{in_use}
use Rattle.tree.proofs.Frames.{chain_branch}
use Rattle.tree.proofs.Changing.{pass, start, there_branch, see_branch, stands, less, done, rest_stands}
use Rattle.tree.proofs.Fills.{full, room_gap, gap_is, gap_change, step_two, over_is}
use Rattle.tree.proofs.records.Store.fill_after.Goals as goal

pub loop-b-init : goal.loop-b-init
loop-b-init c = record { walk = λ d t pos K. start _ _ _ _ t K; upward = c.requires.upward }

pub follow-requires : goal.follow-requires
follow-requires c = λ ne. let (d, pos, (t, K)) = c.requires.room in there_branch (c.loop-b.invariant.walk d t pos K) ne pos

pub returns-then-span-b : goal.returns-then-span-b
returns-then-span-b c d pos t K =
    let W = c.loop-b.invariant.walk d t pos K in
    let F = see_branch W c.in-Some.ensures.more pos c.in-Some.ensures.found in
    full c.args.span.low c.args.span.high c.loop-b.want W F c.if-span-b.true

pub gap_before-requires-clause-node : goal.gap_before-requires-clause-node
gap_before-requires-clause-node c =
    let (d, pos, (t, K)) = c.requires.room in
    let W = c.loop-b.invariant.walk d t pos K in
    let F = see_branch W c.in-Some.ensures.more pos c.in-Some.ensures.found in
    (d, F.rest, pos, rest_stands W F, F.rest_from)

pub put_after-requires : goal.put_after-requires
put_after-requires c =
    let (d, pos, (t, K)) = c.requires.room in
    let W = c.loop-b.invariant.walk d t pos K in
    let F = see_branch W c.in-Some.ensures.more pos c.in-Some.ensures.found in
    let G = c.in-Some-gap_before.ensures d F.rest pos (rest_stands W F) F.rest_from in
    record { inside = there_branch W c.in-Some.ensures.more pos; room = room_gap c.args.span.low c.args.span.high c.loop-b.want W F _ c.max-want.ensures _ G }

pub loop-b-smaller-in-Some-gap_before : goal.loop-b-smaller-in-Some-gap_before
loop-b-smaller-in-Some-gap_before c =
    let (d, pos, (t, K)) = c.requires.room in
    let n = in_use c.args.self.now in
    let W = c.loop-b.invariant.walk d t pos K in
    let F = see_branch W c.in-Some.ensures.more pos c.in-Some.ensures.found in
    let G = c.in-Some-gap_before.ensures d F.rest pos (rest_stands W F) F.rest_from in
    let (s₁, (new, N)) = c.put_after.ensures in
    let falls = less W F c.put_after.new.self (gap_change c.args.span.low c.args.span.high c.loop-b.want W F _ c.max-want.ensures _ G s₁ _ new pos N).holds.3.3 in
    omega (arith, falls, chain_branch n c.loop-b.self d c.loop-b.at pos, chain_branch n c.put_after.new.self d c.in-Some.b.next pos)

pub loop-b-preserved-in-Some-gap_before : goal.loop-b-preserved-in-Some-gap_before
loop-b-preserved-in-Some-gap_before c = record {
  walk = λ d t pos K.
      let W = c.loop-b.invariant.walk d t pos K in
      let F = see_branch W c.in-Some.ensures.more pos c.in-Some.ensures.found in
      let G = c.in-Some-gap_before.ensures d F.rest pos (rest_stands W F) F.rest_from in
      let (s₁, (new, N)) = c.put_after.ensures in
      step_two W F _ _ _ _ (gap_change c.args.span.low c.args.span.high c.loop-b.want W F _ c.max-want.ensures _ G s₁ _ new pos N)
      (gap_is c.args.span.low c.args.span.high c.loop-b.want W F _ c.max-want.ensures _ G);
  upward = omega (arith, c.max-want.ensures, c.if-span-b.false, c.loop-b.invariant.upward);
}

pub loop-b-smaller : goal.loop-b-smaller
loop-b-smaller c =
    let (d, pos, (t, K)) = c.requires.room in
    let n = in_use c.args.self.now in
    let W = c.loop-b.invariant.walk d t pos K in
    let F = see_branch W c.in-Some.ensures.more pos c.in-Some.ensures.found in
    omega (arith, less W F c.loop-b.self (stands W F).holds.3, chain_branch n c.loop-b.self d c.loop-b.at pos, chain_branch n c.loop-b.self d c.in-Some.b.next pos)

pub loop-b-preserved : goal.loop-b-preserved
loop-b-preserved c = record {
  walk = λ d t pos K.
      let W = c.loop-b.invariant.walk d t pos K in
      let F = see_branch W c.in-Some.ensures.more pos c.in-Some.ensures.found in
      pass W F _ (over_is c.args.span.low c.args.span.high c.loop-b.want W F _ c.max-want.ensures (c.in_default-gap_before.ensures d F.rest pos (rest_stands W F) F.rest_from));
  upward = omega (arith, c.max-want.ensures, c.if-span-b.false, c.loop-b.invariant.upward);
}

pub returns : goal.returns
returns c d pos t K = done (c.loop-b.invariant.walk d t pos K) refl c.in_default.ensures.end
