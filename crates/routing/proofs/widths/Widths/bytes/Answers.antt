use Rattle.std.proofs.Common.{◌≡◌, ◌≤◌, length, w64, sym, ◌∙◌}
use Rattle.std.specs.Int.{to_le_bytes}
use Rattle.std.proofs.lemmas.Nat.{le_bytes_8}
use Rattle.routing.specs.Fields.{widths_of}
use Rattle.routing.proofs.Packs.{padded, padded_at, length_padded, padded_number}
use Rattle.routing.proofs.Test.{tested_byte}
use Rattle.routing.proofs.widths.Widths.bytes.Goals as goal

pub returns : goal.returns
returns c =
    let w = c.args.self in
    let ws = widths_of w in
    let few : length ws ≤ 8 = w.tested.1 in
    let same : to_le_bytes w64 w.number ≡ padded ws =
    le_bytes_8 (padded ws) w.number (length_padded ws few) (λ i. rw (padded_at ws i) (tested_byte ws w.tested i)) (sym (padded_number ws few ∙ w.whole))
    in
    let e = c.to_le_bytes.ensures ∙ same in
    record { long = rw e (length_padded ws few); each = λ k. rw e (padded_at ws k) }
