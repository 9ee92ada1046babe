use Rattle.std.proofs.Common.{◌<◌, length, refl, ap, ⊎_elim, arith, length-set}
use Rattle.shape.specs.Shapes.{branches_of}
use Rattle.tree.specs.Memory.{live}
use Rattle.tree.specs.declared.records.Branch.{Branch}
use Rattle.tree.proofs.Places.{inside_branch, pushed_branch, wrote_branch}
use Rattle.tree.proofs.Copies.{new_branch, written_branch}
use Rattle.tree.proofs.Changing.{start, alive_branch, there_branch, see_branch, stands, pass, less, done}
use Rattle.tree.proofs.Cuts.{cut_past, room, copiable, halved}
use Rattle.tree.proofs.records.Store.cut.Goals as goal

pub loop-b-init : goal.loop-b-init
loop-b-init c t K = start _ _ _ _ t K

pub follow-requires : goal.follow-requires
follow-requires c = λ ne. there_branch (c.loop-b.invariant _ c.requires.room.1) ne c.requires.branches

pub copy_node-copy-requires : goal.copy_node-copy-requires
copy_node-copy-requires c =
    let W = c.loop-b.invariant _ c.requires.room.1 in
    let F = see_branch W c.in-Some.ensures.more c.requires.branches c.in-Some.ensures.found in
    (F.below, copiable W F c.if-b-x.true c.if-x-b.true)

pub push-new-requires : goal.push-new-requires
push-new-requires c =
    let W = c.loop-b.invariant _ c.requires.room.1 in
    let F = see_branch W c.in-Some.ensures.more c.requires.branches c.in-Some.ensures.found in
    let (u, C) = c.copy_node-copy.ensures F.below (copiable W F c.if-b-x.true c.if-x-b.true) in
    omega (arith, room W F c.if-b-x.true c.if-x-b.true, C.change.branches, ap branches_of C.same, C.change.all)

pub set-requires : goal.set-requires
set-requires c =
    let W = c.loop-b.invariant _ c.requires.room.1 in
    let F = see_branch W c.in-Some.ensures.more c.requires.branches c.in-Some.ensures.found in
    let (u, C) = c.copy_node-copy.ensures F.below (copiable W F c.if-b-x.true c.if-x-b.true) in
    let at = c.loop-b.at in
    let still : 0 < live c.copy_node-copy.new.self at = omega (arith, alive_branch W c.in-Some.ensures.more c.requires.branches, C.change.grown at) in
    omega (arith, inside_branch c.copy_node-copy.new.self at (omega (arith, (stands W F).holds.0)) still, ap length c.push-new.ensures.records, length-set {A = Branch})

pub returns-then-x-b : goal.returns-then-x-b
returns-then-x-b c t K =
    let W = c.loop-b.invariant t K in
    let F = see_branch W c.in-Some.ensures.more c.requires.branches c.in-Some.ensures.found in
    let (u, C) = c.copy_node-copy.ensures F.below (copiable W F c.if-b-x.true c.if-x-b.true) in
    halved W F c.if-b-x.true c.if-x-b.true _ _ _ _ _ u C c.push-new.ensures.low
    (new_branch _ _ _ _ _ (λ z. omega (arith, c.requires.branches)) (pushed_branch _ _ _ _ c.push-new.ensures))
    (written_branch _ _ _ _ _ (λ z. omega (arith, c.requires.branches)) (wrote_branch _ _ _ _ (omega (arith, (stands W F).holds.0)) c.set.ensures))

pub loop-b-smaller : goal.loop-b-smaller
loop-b-smaller c =
    let W = c.loop-b.invariant _ c.requires.room.1 in
    let F = see_branch W c.in-Some.ensures.more c.requires.branches c.in-Some.ensures.found in
    less W F _ (stands W F).holds.3

pub loop-b-preserved : goal.loop-b-preserved
loop-b-preserved c t K =
    let W = c.loop-b.invariant t K in
    let F = see_branch W c.in-Some.ensures.more c.requires.branches c.in-Some.ensures.found in
    pass W F _ (cut_past _ _ _ _ _ (λ l h. ⊎_elim (λ a. omega arith) (λ a. omega arith) c.else-b-x.either))

pub returns : goal.returns
returns c t K = done (c.loop-b.invariant t K) refl c.in_default.ensures.end
