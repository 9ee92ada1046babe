-- Bytes put at a place of a buffer, one after another. Assumes nothing.
use Rattle.std.proofs.Common.{◌≡◌, ℕ, ◌+◌, ◌≤◌, List, ◌++◌, length, take, drop, sym, ap, ◌∙◌, arith}
use Rattle.std.proofs.lemmas.List.{append_assoc, length-append, length-take-le, take_at, drop_at, drop-drop}
use Rattle.writer.specs.Stages.{put}

-- two puts in a row are one
pub put_put : (at to : ℕ) (xs ys out : List ℕ) → to ≡ at + length xs → to + length ys ≤ length out → put to ys (put at xs out) ≡ put at (xs ++ ys) out
put_put at to xs ys out s h =
    let p = take at out ++ xs in
    let r = drop (at + length xs) out in
    let lp : length p ≡ to = omega (arith, length-append (take at out) xs, length-take-le at out (omega arith)) in
    let n : to + length ys ≡ at + length (xs ++ ys) = omega (arith, length-append xs ys) in
    let d : drop (to + length ys) (p ++ r) ≡ drop (at + length (xs ++ ys)) out =
    sym (drop-drop (length ys) to (p ++ r)) ∙ ap (drop (length ys)) (drop_at p r to lp) ∙ drop-drop (length ys) (at + length xs) out ∙ ap (λ m. drop m out) (omega arith)
    in
    ap (λ o. take to o ++ (ys ++ drop (to + length ys) o)) (sym (append_assoc (take at out) xs r))
    ∙ ap (λ a. a ++ (ys ++ drop (to + length ys) (p ++ r))) (take_at p r to lp)
    ∙ ap (λ b. p ++ (ys ++ b)) d
    ∙ simp append_assoc
