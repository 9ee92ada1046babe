use Rattle.std.proofs.Common.{◌≡◌, false, length, None, sym, ap, ◌∙◌, arith}
use Rattle.std.proofs.lemmas.Bool.Decides.{nat_tests}
use Rattle.routing.specs.Packing.{packed, unpacked}
use Rattle.routing.specs.Lawful.{outside, width_refusal}
use Rattle.routing.proofs.Test.{tested, unpacked_again}
use Rattle.routing.proofs.widths.Widths.test.Goals as goal

pub invariant_of-result : goal.invariant_of-result
invariant_of-result c =
    let ws = c.args.widths.now in
    let t = tested ws c.if-fields-lt1.false c.if-fields-gt8.false (sym c.in_default.ensures) in
    let e : unpacked c.pack-number.result ≡ ws = ap unpacked c.pack-number.ensures ∙ unpacked_again ws t in
    record { whole = ap packed e ∙ sym c.pack-number.ensures; tested = rw e t }

pub returns : goal.returns
returns c =
    let ws = c.args.widths.now in
    let t = tested ws c.if-fields-lt1.false c.if-fields-gt8.false (sym c.in_default.ensures) in
    let few : outside 1 8 (length ws) ≡ false = grind (arith, nat_tests) in
    let none : width_refusal ws ≡ None = sym c.in_default.ensures in
    (rw (few, none), ap unpacked c.pack-number.ensures ∙ unpacked_again ws t)
