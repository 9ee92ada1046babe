-- Eight pairs of ends. Assumes nothing.
use Rattle.std.proofs.Common.{◌≡◌, ℕ, ◌<◌, ◌≤◌, cond, ltb, sym, refl, ap, ◌∙◌, ⊎_elim, arith}
use Rattle.std.proofs.lemmas.List.FromFn.{fill_by_all, get_or-map-range_with_len}
use Rattle.std.proofs.lemmas.Bool.{cases_lt, cond-false, le-ltb}
use Rattle.routing.specs.declared.ends.Ends.{Ends}
use Rattle.file.specs.Layout.{no_ends, eight}

-- pairs that are the same as far as they count
pub eight_same : (d : ℕ) (f g : ℕ → Ends) → ((k : ℕ) → k < d → f k ≡ g k) → eight d f ≡ eight d g
eight_same d f g same =
    fill_by_all (λ j. cond (ltb j d) (g j) no_ends) (eight d f) 8 no_ends refl
    (λ k h.
    get_or-map-range_with_len (λ j. cond (ltb j d) (f j) no_ends) 0 8 k k no_ends h (omega arith)
    ∙ ⊎_elim (λ (l : k < d). ap (λ e. cond (ltb k d) e no_ends) (same k l))
    (λ (l : d ≤ k). let b = le-ltb k d l in cond-false _ (f k) no_ends b ∙ sym (cond-false _ (g k) no_ends b))
    (cases_lt k d))
