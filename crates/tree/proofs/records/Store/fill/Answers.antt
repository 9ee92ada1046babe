use Rattle.std.proofs.Common.{arith}
use Rattle.tree.proofs.Places.{pushed_branch}
use Rattle.tree.proofs.Copies.{new_branch}
use Rattle.tree.proofs.Fills.{tail_fits, first_filled}
use Rattle.tree.proofs.records.Store.fill.Goals as goal

pub returns-in-Some : goal.returns-in-Some
returns-in-Some c d pos t K =
    let (u, B) = c.fill_after.ensures d pos t (tail_fits _ _ _ _ t K _ (c.gap_before-front.ensures d t pos K.stands K.from)) in
    first_filled _ _ _ _ t K _ u B c.in-Some.gap (c.in-Some.ensures d t pos K.stands K.from) _ _ c.push.ensures.low
    (new_branch _ _ d _ _ (λ z. omega (arith, pos, z)) (pushed_branch _ _ _ _ c.push.ensures))
