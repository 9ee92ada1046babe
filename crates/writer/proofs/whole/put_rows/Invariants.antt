use Rattle.std.proofs.Common.{◌≡◌, ℕ, ◌<◌, length, get_or, take}
use Rattle.file.specs.Contents.{blank}
use Rattle.file.specs.Layout.{rows_at}
use Rattle.writer.specs.Stages.{put, plan_fields}
use Rattle.writer.specs.Tables.{rows_bytes}
use Rattle.writer.proofs.Steps.{stage_after}
use Rattle.writer.proofs.whole.put_rows.Given as goal

-- the rows below `rule` stand
abbrev pub invariant-loop-rule : goal.invariant-loop-rule
invariant-loop-rule g l =
    let p = l.initial.stage.plan in
    let d = plan_fields p in
    let rows = g.R.Rules.rows l.rules in record {
      stage : l.stage ≡ stage_after p l.rule;
      bytes : l.out ≡ put (rows_at d) (rows_bytes d (take l.rule rows)) l.initial.out;
      eights : (k : ℕ) → k < l.rule → length (get_or rows k blank) ≡ 8;
    }
