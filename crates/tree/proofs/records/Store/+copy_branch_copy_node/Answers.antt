use Rattle.std.proofs.Common.{◌<◌, refl, ap, subst, arith}
use Rattle.shape.specs.Shapes.{branches_of, marks_of}
use Rattle.tree.specs.Memory.{look, next_of, in_use}
use Rattle.tree.specs.Links.{none, shape, place, chain}
use Rattle.tree.proofs.Places.{one_self, at_branch, at_mark, pushed_branch, pushed_mark}
use Rattle.tree.proofs.Frames.{found_branch, found_mark, branch_inside, mark_inside, taken}
use Rattle.tree.proofs.Copies.{new_branch, new_mark, below_copiable, found_copiable, copied_one, copied_none, grows, begun, onto, turn, falls, done}
use Rattle.tree.proofs.Leading.{link_on, link_end}
use Rattle.tree.proofs.Reading.{below}
use Rattle.tree.proofs.records.Store.+copy_branch_copy_node.Goals as goal

pub copy_branch-get-m-requires : goal.copy_branch-get-m-requires
copy_branch-get-m-requires t c =
    let K = c.requires.tree.1 in mark_inside _ _ _ _ K.from c.requires.linked K.stands c.if-left-eq0.true

pub copy_branch-push-requires : goal.copy_branch-push-requires
copy_branch-push-requires t c =
    let K = c.requires.tree.1 in
    let F = found_mark c.args.self.now _ _ _ K.from c.requires.linked K.stands.holds c.if-left-eq0.true c.get-m.ensures in
    omega (arith, K.room_marks, ap (λ t. marks_of (shape t)) F.is)

pub copy_branch-get-b-requires : goal.copy_branch-get-b-requires
copy_branch-get-b-requires t c =
    let K = c.requires.tree.1 in branch_inside _ _ _ _ K.from c.requires.linked K.stands c.if-left-eq0.false

pub copy_branch-copy_node-below-requires : goal.copy_branch-copy_node-below-requires
copy_branch-copy_node-below-requires t c =
    let K = c.requires.tree.1 in
    let F = found_branch c.args.self.now _ _ _ K.from c.requires.linked K.stands.holds c.if-left-eq0.false c.get-b.ensures in
    (omega (arith, c.decreases, c.if-left-eq0.false), (F.below, found_copiable _ _ _ _ _ _ _ K F))

pub copy_branch-push-requires-else-left-eq0 : goal.copy_branch-push-requires-else-left-eq0
copy_branch-push-requires-else-left-eq0 t c =
    let K = c.requires.tree.1 in
    let F = found_branch c.args.self.now _ _ _ K.from c.requires.linked K.stands.holds c.if-left-eq0.false c.get-b.ensures in
    let (u, C) = c.copy_node-below.ensures F.below (found_copiable _ _ _ _ _ _ _ K F) in
    omega (arith, K.room, ap (λ t. branches_of (shape t)) F.is, C.change.branches, ap branches_of C.same, C.change.all)

pub copy_branch-returns-then-left-eq0 : goal.copy_branch-returns-then-left-eq0
copy_branch-returns-then-left-eq0 t c l b rest K =
    let read = at_mark c.args.self.now _ _ _ c.if-left-eq0.true c.get-m.ensures in (
      none,
      copied_one _ _ _ _ _ _ _ _ _ _ _ _ _ _ K.stands.holds read (copied_none _ _ _ _ _ _ _ _ K.stands.holds read)
          c.push.ensures.low
          (new_mark _ _ _ _ _ c.if-left-eq0.true (pushed_mark _ _ _ _ c.push.ensures)),
    )

pub copy_branch-returns-else-left-eq0 : goal.copy_branch-returns-else-left-eq0
copy_branch-returns-else-left-eq0 t c l below rest K =
    let read = at_branch c.args.self.now _ _ _ c.if-left-eq0.false (omega arith) c.get-b.ensures in
    let (u, C) = c.copy_node-below.ensures below (below_copiable _ _ _ _ _ _ _ _ _ K read) in (
      u,
      copied_one _ _ _ _ _ _ _ _ _ _ _ _ _ _ K.stands.holds read C c.push-else-left-eq0.ensures.low
          (new_branch _ _ _ _ _ c.if-left-eq0.false (pushed_branch _ _ _ _ c.push-else-left-eq0.ensures)),
    )

pub copy_node-loop-next-init : goal.copy_node-loop-next-init
copy_node-loop-next-init t c =
    let K = c.requires.1 in
    let ne = c.if-first-eq-NONE.false in
    let p = place c.args.left c.args.first in
    record {
      alive = omega (arith, taken _ _ _ _ K.stands K.from ne, grows _ _ _ _ _ _ K ne c.copy_branch-head.ensures p);
      midway = λ r m b R. record { rest = r; label = m; below = b; ready = R; finish = λ s' r' L. (r', L) };
    }

pub copy_node-copy_branch-new-requires : goal.copy_node-copy_branch-new-requires
copy_node-copy_branch-new-requires t c =
    let B = begun _ _ _ _ _ _ _ c.requires.1 c.if-first-eq-NONE.false c.copy_branch-head.ensures refl in
    let M = onto c.in-Some.ensures (c.loop-next.invariant.midway _ _ _ B.ready) in
    (omega (arith, c.decreases), ((link_on _ _ c.in-Some.ensures).1, (M.rest, M.ready.left)))

pub copy_node-link-requires : goal.copy_node-link-requires
copy_node-link-requires t c =
    let B = begun _ _ _ _ _ _ _ c.requires.1 c.if-first-eq-NONE.false c.copy_branch-head.ensures refl in
    let M = onto c.in-Some.ensures (c.loop-next.invariant.midway _ _ _ B.ready) in
    let ne = (link_on _ _ c.in-Some.ensures).1 in
    let p = place c.args.left c.loop-next.last in
    omega (arith, one_self p, M.ready.own p, grows _ _ _ _ _ _ M.ready.left ne c.copy_branch-new.ensures p)

pub copy_node-loop-next-smaller : goal.copy_node-loop-next-smaller
copy_node-loop-next-smaller t c =
    let B = begun _ _ _ _ _ _ _ c.requires.1 c.if-first-eq-NONE.false c.copy_branch-head.ensures refl in
    let (is, ne) = link_on _ _ c.in-Some.ensures in
    let s = c.copy_branch-head.new.self in
    let left = c.args.left in
    let after = next_of (look c.link.new.self (place left c.in-Some.next)) in
    subst (λ at. chain (in_use s) c.link.new.self left after < chain (in_use s) c.loop-next.self left at) is
    (falls _ _ _ _ _ _ _ _ _ _ _ _ _ _ (onto c.in-Some.ensures (c.loop-next.invariant.midway _ _ _ B.ready)) ne
    c.copy_branch-new.ensures c.link.ensures refl)

pub copy_node-loop-next-preserved : goal.copy_node-loop-next-preserved
copy_node-loop-next-preserved t c =
    let B = begun _ _ _ _ _ _ _ c.requires.1 c.if-first-eq-NONE.false c.copy_branch-head.ensures refl in
    let M = onto c.in-Some.ensures (c.loop-next.invariant.midway _ _ _ B.ready) in
    let K = M.ready.left in
    let ne = (link_on _ _ c.in-Some.ensures).1 in
    let p = place c.args.left c.in-Some.next in
    record {
      alive = omega (arith, taken _ _ _ _ K.stands K.from ne, grows _ _ _ _ _ _ K ne c.copy_branch-new.ensures p, c.link.ensures.alive p);
      midway =
          λ r m b R.
          turn _ _ _ _ _ _ _ _ _ _ _ _ _ _ (onto c.in-Some.ensures (c.loop-next.invariant.midway r m b R)) ne
          c.copy_branch-new.ensures c.link.ensures refl;
    }

pub copy_node-returns : goal.copy_node-returns
copy_node-returns t c tree K =
    let B = begun _ _ _ _ _ _ _ K c.if-first-eq-NONE.false c.copy_branch-head.ensures refl in
    done _ _ _ _ _ _ _ _ _ _ _ B (c.loop-next.invariant.midway _ _ _ B.ready) (link_end _ c.in_default.ensures)
