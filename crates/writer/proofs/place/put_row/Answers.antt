use Rattle.std.proofs.Common.{◌+◌, ◌*◌, get_or, refl, ap, ◌∙◌, arith}
use Rattle.std.proofs.lemmas.List.{get_or_default}
use Rattle.file.specs.Layout.{no_ends}
use Rattle.writer.specs.Stages.{put, ends_bytes}
use Rattle.writer.proofs.Joins.{put_next}
use Rattle.writer.proofs.place.put_row.Goals as goal

pub loop-k-preserved : goal.loop-k-preserved
loop-k-preserved c =
    let row = c.args.row.now in
    let k = c.loop-k.k in
    let to = c.args.at + 8 * k in
    let pair = get_or row k no_ends in
    c.put_ends.ensures
    ∙ ap (put to (ends_bytes pair)) c.loop-k.invariant
    ∙ put_next ends_bytes row 8 k pair c.args.at to c.args.out.now (get_or_default row k no_ends pair (omega arith)) (omega arith) (λ _ _ _. refl) (omega arith) (omega arith)
