use Rattle.std.proofs.Common.{arith}
use Rattle.writer.proofs.Again.{bytes_again, reason_again}
use Rattle.writer.proofs.whole.rewrite.Goals as goal

pub returns-clause-after : goal.returns-clause-after
returns-clause-after g c = grind (arith, reason_again, bytes_again g.K.Kind.written g.K.Kind.reading g.K.Kind.SIZE g.met.K.Kind.again)
