use Rattle.std.proofs.Common.{arith}
use Rattle.tree.proofs.Places.{place_mark, place_branch, inside_branch, inside_mark, read_branch, read_mark, wrote_branch, wrote_mark}
use Rattle.tree.proofs.records.Store.link.Goals as goal

pub get-m-requires : goal.get-m-requires
get-m-requires c = inside_mark c.args.self.now _ (rw (place_mark _ _ c.if-left-eq0.true) at c.requires)

pub set-requires : goal.set-requires
set-requires c = inside_mark c.args.self.now _ (rw (place_mark _ _ c.if-left-eq0.true) at c.requires)

pub get-b-requires : goal.get-b-requires
get-b-requires c = inside_branch c.args.self.now c.args.at (omega arith) (rw (place_branch _ _ c.if-left-eq0.false) at c.requires)

pub set-requires-else-left-eq0 : goal.set-requires-else-left-eq0
set-requires-else-left-eq0 c = inside_branch c.args.self.now c.args.at (omega arith) (rw (place_branch _ _ c.if-left-eq0.false) at c.requires)

pub returns-then-left-eq0 : goal.returns-then-left-eq0
returns-then-left-eq0 c = rw (place_mark _ _ c.if-left-eq0.true, read_mark c.args.self.now _ _ c.get-m.ensures) (wrote_mark c.args.self.now _ _ _ c.set.ensures)

pub returns-else-left-eq0 : goal.returns-else-left-eq0
returns-else-left-eq0 c =
    rw (place_branch _ _ c.if-left-eq0.false, read_branch c.args.self.now c.args.at _ (omega arith) c.get-b.ensures) (wrote_branch c.args.self.now _ c.args.at _ (omega arith) c.set-else-left-eq0.ensures)
