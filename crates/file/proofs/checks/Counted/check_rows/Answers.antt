use Rattle.std.proofs.Common.{◌≡◌, ◌+◌, ◌-◌, ◌*◌, Some, sym, ap, ◌∙◌, arith}
use Rattle.std.specs.Option.{option_map}
use Rattle.routing.specs.Firsts.{first_some}
use Rattle.routing.proofs.First.{some_hit}
use Rattle.file.specs.declared.layout.Layout.{Layout}
use Rattle.file.specs.Layout.{row_place, low_at}
use Rattle.file.proofs.Refused.{row_placed}
use Rattle.file.proofs.checks.Counted.check_rows.Goals as goal

pub returns-in-Some : goal.returns-in-Some
returns-in-Some c =
    let bs = c.args.self.now.bytes.now in
    let r = c.loop-rule.rule in
    let d = c.args.self.now.layout.fields in
    let here = row_placed bs d r _ _ _ (ap (λ (l : Layout). l.fields) c.args.self.now.of_header) c.requires c.row.ensures c.in-Some.ensures in
    let place : c.row-in-Some.result + 8 * c.from.result - 8 ≡ low_at d (r * d + c.in-Some.field) - 8 = omega arith in
    ap (λ n. Some (9, n)) place
    ∙ sym (ap (option_map (λ n. (9, n))) (some_hit (row_place bs) c.args.self.now.layout.rules r _ c.loop-rule-test.true c.loop-rule.invariant here))

pub returns : goal.returns
returns c =
    let n : c.loop-rule.rule ≡ c.args.self.now.layout.rules = omega arith in
    sym (ap (option_map (λ m. (9, m))) (ap (first_some (row_place c.args.self.now.bytes.now)) (sym n) ∙ c.loop-rule.invariant))
