use Rattle.std.proofs.Common.{◌+◌, ap, ◌∙◌, rules}
use borrow.Author.Tests.{tests}
use Rattle.std.specs.Option.{option_map}
use Rattle.std.proofs.lemmas.List.{get_or_default}
use Rattle.std.proofs.lemmas.Iterator.{YieldsList-from_slice}
use Rattle.std.proofs.lemmas.Iterator.Search.{position_from_yields_List}
use Rattle.routing.specs.Lawful.{width_bad, outside}
use Rattle.routing.proofs.First.{first_placed}
use Rattle.routing.proofs.widths.reads.width_fault.Goals as goal

pub returns : goal.returns
returns c =
    let ws = c.args.widths.now in
    let at = position_from_yields_List (outside 1 32) _ _ c.position.result c.position.ensures.ran (YieldsList-from_slice ws (cc)) (λ x b q k. search (rules, tests)) in
    c.from_one.ensures ∙ ap (option_map (λ k. k + 1)) at ∙ first_placed (outside 1 32) (width_bad ws) ws (λ k x i. ap (outside 1 32) (get_or_default ws k x 0 i))
