use Rattle.tree.proofs.Cells.{leave, leave_there}
use Rattle.tree.proofs.records.Store.next_cell.Goals as goal

pub get-at-requires : goal.get-at-requires
get-at-requires c = leave_there c.requires.walk.1.1.4 c.requires.some

pub settle-requires-clause-walk : goal.settle-requires-clause-walk
settle-requires-clause-walk c = (c.requires.walk.1.0, leave c.requires.walk.1.1.4 c.requires.some c.get-at.ensures)

pub returns : goal.returns
returns c x cs R = c.settle.ensures cs (leave R.4 c.requires.some c.get-at.ensures)
