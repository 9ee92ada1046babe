use Rattle.std.proofs.Common.{sym, subst}
use Rattle.tree.specs.Links.{shape, Fits, Became}
use Rattle.tree.proofs.Descends.{above_some}
use Rattle.tree.proofs.records.Store.cut_above.Goals as goal

pub returns-in-Some : goal.returns-in-Some
returns-in-Some c t K =
    let e = above_some c.args.high c.in-Some.above (shape t) c.in-Some.ensures in
    let (u, B) = c.cut.ensures t (subst (Fits _ _ _ t) e K) in
    (u, subst (λ q. Became c.args.self.now c.cut.new.self c.args.left t q c.args.first u) (sym e) B)
