use Rattle.std.proofs.Common.{sym, arith}
use Rattle.tree.proofs.Places.{read_branch, pushed_branch, wrote_branch}
use Rattle.tree.proofs.records.Store.put_after.Goals as goal

pub returns : goal.returns
returns c =
    let s = c.args.self.now in
    let read = sym (read_branch s c.args.at c.get-b.result (omega arith) c.get-b.ensures) in
    let pushed = pushed_branch s _ _ _ c.push-new.ensures in
    let written = wrote_branch _ _ _ _ (omega arith) c.set.ensures in (
      record { branches = c.push-new.new.self; marks = s.marks },
      (c.push-new.result, record { small = c.push-new.ensures.low; pushed = rw (← read) pushed; written = rw (← read) written }),
    )
