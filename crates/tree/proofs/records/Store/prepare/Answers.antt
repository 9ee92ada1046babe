use Rattle.std.proofs.Common.{ℕ, arith}
use Rattle.shape.specs.Shapes.{Shape, cut_at, cut_above, gaps}
use Rattle.tree.proofs.Grows.{Grows}
use Rattle.tree.proofs.Fills.{gaps_grows}
use Rattle.tree.proofs.Descends.{ahead, onward, chained, above_grows}
use Rattle.tree.proofs.records.Store.prepare.Goals as goal

-- what comes after the first cut
abbrev later : (low high : ℕ) → Shape → Shape
later low high sh = gaps low high (cut_above high sh)

later_grows : (low high : ℕ) (sh : Shape) → Grows sh (later low high sh)
later_grows low high sh =
    let a = above_grows high sh in
    let b = gaps_grows low high (cut_above high sh) in
    record { branches = omega arith; marks = omega arith }

pub cut-requires-clause-room : goal.cut-requires-clause-room
cut-requires-clause-room c =
    let (t, K) = c.requires.room in
    (t, ahead (cut_at c.args.ends.low) (later c.args.ends.low c.args.ends.high) _ _ _ t (later_grows c.args.ends.low c.args.ends.high) K)

pub cut_above-requires-clause-room : goal.cut_above-requires-clause-room
cut_above-requires-clause-room c =
    let cut = cut_at c.args.ends.low in
    let above = cut_above c.args.ends.high in
    let fill = gaps c.args.ends.low c.args.ends.high in
    let later = later c.args.ends.low c.args.ends.high in
    let (t, K) = c.requires.room in
    let (t₁, A) = c.cut.ensures t (ahead cut later _ _ _ t (later_grows c.args.ends.low c.args.ends.high) K) in
    (t₁, ahead above fill _ _ _ t₁ (gaps_grows c.args.ends.low c.args.ends.high) (onward cut later _ _ _ _ _ t t₁ K A))

pub fill-requires-clause-room : goal.fill-requires-clause-room
fill-requires-clause-room c =
    let cut = cut_at c.args.ends.low in
    let above = cut_above c.args.ends.high in
    let fill = gaps c.args.ends.low c.args.ends.high in
    let later = later c.args.ends.low c.args.ends.high in
    let (t, K) = c.requires.room in
    let (t₁, A) = c.cut.ensures t (ahead cut later _ _ _ t (later_grows c.args.ends.low c.args.ends.high) K) in
    let K₁ = onward cut later _ _ _ _ _ t t₁ K A in
    let (t₂, B) = c.cut_above.ensures t₁ (ahead above fill _ _ _ t₁ (gaps_grows c.args.ends.low c.args.ends.high) K₁) in
    (c.args.left, c.requires.branches, (t₂, onward above fill _ _ _ _ _ t₁ t₂ K₁ B))

pub returns : goal.returns
returns c t K =
    let cut = cut_at c.args.ends.low in
    let above = cut_above c.args.ends.high in
    let fill = gaps c.args.ends.low c.args.ends.high in
    let later = later c.args.ends.low c.args.ends.high in
    let (t₁, A) = c.cut.ensures t (ahead cut later _ _ _ t (later_grows c.args.ends.low c.args.ends.high) K) in
    let K₁ = onward cut later _ _ _ _ _ t t₁ K A in
    let (t₂, B) = c.cut_above.ensures t₁ (ahead above fill _ _ _ t₁ (gaps_grows c.args.ends.low c.args.ends.high) K₁) in
    let (t₃, C) = c.fill.ensures c.args.left c.requires.branches t₂ (onward above fill _ _ _ _ _ t₁ t₂ K₁ B) in
    (t₃, chained cut later _ _ _ _ _ _ t t₁ t₃ A (chained above fill _ _ _ _ _ _ t₁ t₂ t₃ B C))
