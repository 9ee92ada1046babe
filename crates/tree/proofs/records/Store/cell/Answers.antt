use Rattle.std.proofs.Common.{◌≡◌, ◌+◌, ◌-◌, length, take, drop, sym, ap, ◌∙◌, subst, arith, rules}
use Rattle.std.proofs.lemmas.List.{length-take-le}
use Rattle.tree.specs.Links.{shape}
use Rattle.tree.specs.Lookups.{look_up}
use Rattle.tree.specs.Reads.{Stood}
use Rattle.tree.proofs.Finding.{look_on, look_end}
use Rattle.tree.proofs.records.Store.cell.Goals as goal

pub seek-at-requires : goal.seek-at-requires
seek-at-requires c =
    let (u, U, e) = c.loop-value.invariant c.requires.tree.0 c.requires.tree.1 in
    let n : length c.args.message ≡ 8 = search rules in
    let all = length-take-le c.args.fields c.args.message (omega (arith, n, c.requires.few)) in
    (c.args.fields - c.loop-value.value-index, omega (arith, all), (u, U))

pub loop-value-preserved : goal.loop-value-preserved
loop-value-preserved c t S =
    let d = c.args.fields in
    let k = c.loop-value.value-index in
    let xs = take d c.args.message in
    let (u, U, e) = c.loop-value.invariant t S in
    let n : length c.args.message ≡ 8 = search rules in
    let all = length-take-le d c.args.message (omega (arith, n, c.requires.few)) in
    let (v, H) = c.seek-at.ensures (d - k) u (omega (arith, all)) U in
    let down : d - k - 1 ≡ d - (k + 1) = omega arith in (
      v,
      subst (λ j. Stood c.args.self.now j c.seek-at.result v) down H.stood,
      ap (look_up (drop (k + 1) xs)) H.is ∙ sym (look_on xs k (shape u) c.loop-value-test.true) ∙ e,
    )

pub returns : goal.returns
returns c t S =
    let d = c.args.fields in
    let k = c.loop-value.value-index in
    let (u, U, e) = c.loop-value.invariant t S in
    let n : length c.args.message ≡ 8 = search rules in
    let all = length-take-le d c.args.message (omega (arith, n, c.requires.few)) in
    let none_left : d - k ≡ 0 = omega (arith, all) in (
      u,
      record {
        stood = subst (λ j. Stood c.args.self.now j c.loop-value.at u) none_left U;
        is = sym (look_end (take d c.args.message) k (shape u) c.loop-value-test.false) ∙ e;
      },
    )
