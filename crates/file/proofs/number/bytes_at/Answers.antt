use Rattle.std.proofs.Common.{◌+◌, slice_index, rules}
use borrow.Author.Tests.{tests}
use Rattle.file.proofs.Made.{made}
use Rattle.file.proofs.number.bytes_at.Goals as goal

pub returns : goal.returns
returns g c = made _ _ (λ k. slice_index c.args.bytes.now (c.args.at + k)) (λ k y q h. search (rules, tests)) c.from_fn.result _ c.from_fn.ensures.items
