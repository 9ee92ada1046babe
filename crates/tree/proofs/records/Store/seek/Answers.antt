use Rattle.std.proofs.Common.{sym, refl, ◌∙◌, arith}
use Rattle.std.proofs.lemmas.Bool.{cond-true, cond-false}
use Rattle.shape.specs.Shapes.{piece, part}
use Rattle.tree.specs.Memory.{in_use}
use Rattle.tree.specs.Links.{none, shape}
use Rattle.tree.specs.Reads.{Ordered}
use Rattle.tree.proofs.Frames.{chain_branch}
use Rattle.tree.proofs.Reading.{begin, stays_branch, seen_branch, ended, at_record, below, after, less, at_fact, nothing}
use Rattle.tree.proofs.Finding.{seek_none}
use Rattle.tree.proofs.records.Store.seek.Goals as goal

pub loop-b-init : goal.loop-b-init
loop-b-init c d t pos S = begin _ _ _ t _ S refl

pub follow-requires : goal.follow-requires
follow-requires c = λ ne. let (d, pos, (t, S)) = c.requires in stays_branch (c.loop-b.invariant d t pos S) pos ne

pub returns-then-holds : goal.returns-then-holds
returns-then-holds c d t pos S =
    let W = c.loop-b.invariant d t pos S in
    let F = seen_branch W pos c.in-Some.ensures.more c.in-Some.ensures.found in
    let yes = sym c.holds.ensures ∙ c.if-holds.true in
    let here = rw c.ends.ensures at yes in
    (F.below, record { stood = below W F; is = sym (cond-true _ _ _ here) ∙ at_fact W F })

-- the first that begins above ends the search
pub returns-then-value-b : goal.returns-then-value-b
returns-then-value-b c d t pos S =
    let W = c.loop-b.invariant d t pos S in
    let F = seen_branch W pos c.in-Some.ensures.more c.in-Some.ensures.found in
    let o = (at_record W.stood F).order in
    let b = c.in-Some.b in
    let up : Ordered b.low (part (piece b.low b.high) (shape F.below) (shape F.rest)) = (omega arith, o.1, o.2, o.3) in
    (none, record { stood = nothing _ _; is = sym (seek_none c.args.value b.low (part (piece b.low b.high) (shape F.below) (shape F.rest)) c.if-value-b.true up) ∙ at_fact W F })

pub loop-b-smaller : goal.loop-b-smaller
loop-b-smaller c =
    let s = c.args.self.now in
    let (d, pos, (t, S)) = c.requires in
    let W = c.loop-b.invariant d t pos S in
    let F = seen_branch W pos c.in-Some.ensures.more c.in-Some.ensures.found in
    omega (arith, less W F, chain_branch (in_use s) s d c.loop-b.at pos, chain_branch (in_use s) s d c.in-Some.b.next pos)

pub loop-b-preserved : goal.loop-b-preserved
loop-b-preserved c d t pos S =
    let W = c.loop-b.invariant d t pos S in
    let F = seen_branch W pos c.in-Some.ensures.more c.in-Some.ensures.found in
    let no = sym c.holds.ensures ∙ c.if-holds.false in
    let past = rw c.ends.ensures at no in
    after W F _ (λ e. sym (cond-false _ _ _ past) ∙ e)

pub returns : goal.returns
returns c d t pos S = (none, record { stood = nothing _ _; is = ended (c.loop-b.invariant d t pos S) c.in_default.ensures.end })
