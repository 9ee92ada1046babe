use Rattle.std.proofs.Common.{◌≡◌, ℕ, ◌<◌, get_or, take}
use Rattle.std.specs.List.{flat_map}
use Rattle.file.specs.Layout.{decisions_at}
use Rattle.writer.specs.Stages.{put, plan_fields}
use Rattle.writer.proofs.Steps.{stage_after}
use Rattle.writer.proofs.whole.put_decisions.Given as goal

-- the decisions below `rule` stand, and read as the same again
abbrev pub invariant-loop-rule : goal.invariant-loop-rule
invariant-loop-rule g l =
    let p = l.initial.stage.plan in
    let ds = g.R.Rules.decisions l.rules in
    let written = g.K.Kind.written in record {
      stage : l.stage ≡ stage_after p l.rule;
      bytes : l.out ≡ put (decisions_at (plan_fields p) p.rules) (flat_map written (take l.rule ds)) l.initial.out;
      kept : (k : ℕ) → k < l.rule → (x : g.row.K.Denot) → g.K.Kind.reading (written (get_or ds k x)) ≡ get_or ds k x;
    }
