use Rattle.std.proofs.Common.{length, refl, ap, arith, length-set}
use Rattle.tree.specs.Links.{shape}
use Rattle.tree.specs.declared.records.Mark.{Mark}
use Rattle.tree.proofs.Places.{pushed_mark, wrote_mark}
use Rattle.tree.proofs.Copies.{new_mark, written_mark}
use Rattle.tree.proofs.Frames.{mark_inside}
use Rattle.tree.proofs.Changing.{start, there_mark, see_mark}
use Rattle.tree.proofs.Leading.{link_on, link_end}
use Rattle.tree.proofs.Adds.{marks_add, first_mark, last_mark, onto, nearer}
use Rattle.tree.proofs.records.Store.add_mark.Goals as goal

pub follow-requires : goal.follow-requires
follow-requires c = λ ne. let (t, K) = c.requires in mark_inside _ 0 _ t K.from ne K.stands refl

pub returns-in_default : goal.returns-in_default
returns-in_default c t K =
    first_mark _ _ _ _ _ t K c.in_default.ensures.end c.push.ensures.low (new_mark _ _ 0 _ _ refl (pushed_mark _ _ _ _ c.push.ensures))

pub loop-next-init : goal.loop-next-init
loop-next-init c = record { walk = start _ _ _ _; some = c.in-Some.ensures.more; read = c.in-Some.ensures.found }

pub get-last-requires : goal.get-last-requires
get-last-requires c =
    let I = c.loop-next.invariant in
    let on = c.in-Some-next.ensures in
    there_mark (onto (I.walk _ c.requires.1) I.some I.read on) (link_on _ _ on).1 refl

pub loop-next-smaller : goal.loop-next-smaller
loop-next-smaller c = let I = c.loop-next.invariant in nearer (I.walk _ c.requires.1) I.some I.read c.in-Some-next.ensures

pub loop-next-preserved : goal.loop-next-preserved
loop-next-preserved c =
    let I = c.loop-next.invariant in
    let on = c.in-Some-next.ensures in
    record { walk = λ t K. onto (I.walk t K) I.some I.read on; some = (link_on _ _ on).1; read = c.get-last.ensures }

pub push-new-requires : goal.push-new-requires
push-new-requires c = let W = c.loop-next.invariant.walk _ c.requires.1 in omega (arith, W.fits.room_marks, marks_add c.args.i (shape W.rest))

pub set-requires : goal.set-requires
set-requires c =
    let I = c.loop-next.invariant in
    omega (arith, there_mark (I.walk _ c.requires.1) I.some refl, ap length c.push-new.ensures.records, length-set {A = Mark})

pub returns : goal.returns
returns c t K =
    let I = c.loop-next.invariant in
    let W = I.walk t K in
    last_mark _ _ _ W (see_mark W I.some refl I.read) (link_end _ c.in_default-next.ensures) c.push-new.ensures.low
    (new_mark _ _ 0 _ _ refl (pushed_mark _ _ _ _ c.push-new.ensures)) (written_mark _ _ 0 _ _ refl (wrote_mark _ _ _ _ c.set.ensures))
