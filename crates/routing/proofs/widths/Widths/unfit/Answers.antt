use Rattle.std.proofs.Common.{◌≡◌, ℕ, ◌+◌, ◌<◌, Bool, not, length, take, get_or, ap, ◌∙◌, arith, rules}
use borrow.Author.Tests.{tests}
use Rattle.std.specs.List.{zip}
use Rattle.std.specs.Option.{option_map}
use Rattle.std.proofs.lemmas.List.{get_or-take, length-take-le}
use Rattle.std.proofs.lemmas.Slice.Zip.{length-zip}
use Rattle.std.proofs.lemmas.Iterator.{YieldsList-from_slice, YieldsList-from_zip, YieldsList-from_take}
use Rattle.std.proofs.lemmas.Iterator.Search.{position_from_yields_List}
use Rattle.routing.specs.declared.ends.Ends.{Ends}
use Rattle.routing.specs.Fields.{widths_of}
use Rattle.routing.specs.Lawful.{ends_bad, fits}
use Rattle.routing.specs.Space.{at}
use Rattle.routing.proofs.First.{first_of, pair_at}
use Rattle.routing.proofs.widths.Widths.unfit.Goals as goal

-- ends and a width that do not go together
abbrev unfit : Ends × ℕ → Bool
unfit p = not (fits p.1 p.0)

pub returns-clause-field : goal.returns-clause-field
returns-clause-field c =
    let es = c.args.ends.now in
    let bs = c.bytes-widths.result in
    let ws = widths_of c.args.self in
    let d = length ws in
    let eight : length es ≡ 8 = search rules in
    let all = take d (zip es bs) in
    let long : length all ≡ d = length-take-le d (zip es bs) (omega (arith, length-zip es bs, c.bytes-widths.ensures.long, c.args.self.tested.1)) in
    let same : (k : ℕ) (p : Ends × ℕ) → k < d → unfit (get_or all k p) ≡ ends_bad ws es k =
    λ k p h.
    rw (get_or-take d (zip es bs) k p h, pair_at es bs k p (record { low = 0; high = 0 }) 0 (omega (arith, c.args.self.tested.1)) (omega (arith, c.bytes-widths.ensures.long, c.args.self.tested.1)))
    (ap (λ w. not (fits w (at es k))) (c.bytes-widths.ensures.each k))
    in
    ap (option_map (λ k. k + 1))
    (position_from_yields_List unfit c.position.new.self _ c.position.result c.position.ensures.ran
    (YieldsList-from_take {s = c.take-fields.result} d
    (YieldsList-from_zip {s = c.take-fields.result.iter} (YieldsList-from_slice es (cc)) (YieldsList-from_slice bs (cc)))
    (cc))
    (λ x b q k. search (rules, tests)))
    ∙ first_of unfit (ends_bad ws es) d all long same
