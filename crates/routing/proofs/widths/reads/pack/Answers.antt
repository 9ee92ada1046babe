use Rattle.std.proofs.Common.{◌-◌, List, ◌++◌, length, drop, replicate, ap, ◌∙◌, arith, ℕ}
use Rattle.std.proofs.lemmas.List.{drop-replicate, length-append, length-drop}
use Rattle.routing.proofs.Packs.{eight, packed_padded}
use Rattle.routing.specs.Packing.{packed}
use Rattle.routing.proofs.widths.reads.pack.Goals as goal

pub returns : goal.returns
returns c =
    let ws = c.args.widths.now in
    let n = length ws - 0 in
    let zeros : List ℕ = replicate 8 0 in
    c.from_le_bytes.ensures
    ∙ eight _ (omega (arith, length-append c.copy_from_slice.new.self (drop n zeros), length-drop n zeros, c.copy_from_slice.ensures.len))
    ∙ ap (λ l. packed (l ++ drop n zeros)) c.copy_from_slice.ensures.after
    ∙ ap (λ l. packed (ws ++ l)) (drop-replicate n 8 0)
    ∙ packed_padded ws (8 - n)
