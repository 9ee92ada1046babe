use Rattle.std.proofs.Common.{◌≡◌, ℕ, ◌+◌, ◌^◌, ◌<◌, Bool, not, ltb, length, get_or, ap, ◌∙◌, arith, rules}
use borrow.Author.Tests.{tests}
use Rattle.std.specs.List.{zip}
use Rattle.std.specs.Option.{option_map}
use Rattle.std.proofs.lemmas.Slice.Zip.{length-zip}
use Rattle.std.proofs.lemmas.Iterator.{YieldsList-from_slice, YieldsList-from_zip}
use Rattle.std.proofs.lemmas.Iterator.Search.{position_from_yields_List}
use Rattle.routing.specs.Fields.{widths_of}
use Rattle.routing.specs.Lawful.{value_bad}
use Rattle.routing.proofs.First.{first_of, pair_at}
use Rattle.routing.proofs.widths.Widths.outside.Goals as goal

-- a value and a width that do not go together
abbrev outside_field : ℕ × ℕ → Bool
outside_field p = not (ltb p.0 (2 ^ p.1))

pub returns-clause-place : goal.returns-clause-place
returns-clause-place c =
    let m = c.args.message.now in
    let bs = c.bytes-widths.result in
    let ws = widths_of c.args.self in
    let eight : length m ≡ 8 = search rules in
    let long : length (zip m bs) ≡ 8 = omega (arith, length-zip m bs, c.bytes-widths.ensures.long) in
    let same : (k : ℕ) (p : ℕ × ℕ) → k < 8 → outside_field (get_or (zip m bs) k p) ≡ value_bad ws m k =
    λ k p h. rw (pair_at m bs k p 0 0 (omega arith) (omega (arith, c.bytes-widths.ensures.long))) (ap (λ w. not (ltb (get_or m k 0) (2 ^ w))) (c.bytes-widths.ensures.each k))
    in
    ap (option_map (λ k. k + 1))
    (position_from_yields_List outside_field c.position.new.self _ c.position.result c.position.ensures.ran
    (YieldsList-from_zip {s = c.zip-places.result} (YieldsList-from_slice m (cc)) (YieldsList-from_slice bs (cc)))
    (λ x b q k. search (rules, tests)))
    ∙ first_of outside_field (value_bad ws m) 8 (zip m bs) long same
