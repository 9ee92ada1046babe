use Rattle.std.proofs.Common.{ℕ, Option, get_or, ap, ◌∙◌, rules}
use Rattle.routing.specs.Fields.{widths_of}
use Rattle.routing.specs.Firsts.{first_some}
use Rattle.routing.specs.Lawful.{ends_refusal}
use Rattle.file.specs.Contents.{blank}
use Rattle.writer.proofs.Finds.{find_map_first}
use Rattle.writer.proofs.whole.rows_fault.Goals as goal

pub returns : goal.returns
returns g c =
    let bad : ℕ → Option ℕ = λ r. ends_refusal (widths_of c.args.widths) (get_or (g.R.Rules.rows c.args.rules.now) r blank) in
    find_map_first _ _ bad c.count.result (λ x r f k. search rules) _ c.find_map.ensures.runs ∙ ap (first_some bad) c.count.ensures.of_rows
