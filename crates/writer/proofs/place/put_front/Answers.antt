use Rattle.std.proofs.Common.{refl, ap, ◌∙◌, arith}
use Rattle.writer.specs.Stages.{put, head_bytes}
use Rattle.writer.proofs.Puts.{put_put}
use Rattle.writer.proofs.place.put_front.Goals as goal

pub returns : goal.returns
returns c =
    let ws = c.args.widths.now in
    let out = c.args.out.now in
    c.put_bytes-2.ensures
    ∙ ap (put 16 ws) (c.put_bytes.ensures ∙ ap (λ bs. put 0 bs out) c.head.ensures)
    ∙ put_put 0 16 (head_bytes c.args.layout.fields c.args.layout.rules c.args.code) ws out refl (omega arith)
