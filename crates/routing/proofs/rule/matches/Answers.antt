use Rattle.std.proofs.Common.{◌∙◌, ◌≤◌, length, rules}
use borrow.Author.Tests.{tests}
use Rattle.std.proofs.lemmas.Iterator.{YieldsList-from_slice, YieldsList-from_zip, YieldsList-from_take}
use Rattle.std.proofs.lemmas.Iterator.Search.{all_from_yields_List}
use Rattle.routing.proofs.Matching.{pair_holds, all_hold}
use Rattle.routing.proofs.rule.matches.Goals as goal

pub returns : goal.returns
returns c =
    let es = c.args.ends.now in
    let m = c.args.message in
    let long : length es ≤ length m = search rules in
    all_from_yields_List pair_holds c.all.new.self _ c.all.result c.all.ensures.ran
    (YieldsList-from_take {s = c.take.result} c.args.fields (YieldsList-from_zip {s = c.take.result.iter} (YieldsList-from_slice es (cc)) (YieldsList-from_slice m (cc))) (cc))
    (λ x b q k. search (rules, tests))
    ∙ all_hold c.args.fields es m long
