use Rattle.std.proofs.Common.{[], length}
use Rattle.std.proofs.lemmas.List.{drop-replicate}
use Rattle.shape.specs.Meaning.{cells}
use Rattle.tree.specs.Links.{shape}
use Rattle.tree.proofs.Cells.{set_out}
use Rattle.tree.proofs.records.Store.first_cell.Goals as goal

pub settle-requires-clause-walk : goal.settle-requires-clause-walk
settle-requires-clause-walk c = (cells c.args.within.now [] (shape c.requires.tree.0), set_out c.requires.tree.0 c.requires.tree.1)

pub settle-requires-clause-clear : goal.settle-requires-clause-clear
settle-requires-clause-clear c = drop-replicate (length c.args.within.now) 8 0
