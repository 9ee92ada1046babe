-- Pieces joined to one list. Assumes nothing.
use Rattle.std.proofs.Common.{◌≡◌, ℕ, zero, suc, ◌+◌, ◌*◌, ◌<◌, ◌≤◌, List, [], ◌∷◌, ◌++◌, map, length, get_or, take, drop, sym, refl, ap, ◌∙◌, mul_comm, add-mul, zero-mul, arith}
use Rattle.std.specs.List.{range_with_len, flat_map}
use Rattle.std.proofs.lemmas.Grind.{flat_map-append}
use Rattle.std.proofs.lemmas.List.FromFn.{map-range_with_len_more}
use Rattle.std.proofs.lemmas.List.{length-append, flat_map_more, take-append-drop, take_all, take_more, get_or_default}
use Rattle.std.proofs.Math.Seq.{drop-cons}
use Rattle.routing.specs.declared.ends.Ends.{Ends}
use Rattle.file.specs.Layout.{part}
use Rattle.file.specs.Contents.{blank}
use Rattle.file.proofs.Parts.{part_more}
use Rattle.writer.specs.Stages.{put, ends_bytes, row_bytes}
use Rattle.writer.proofs.Puts.{put_put}

module _ {X : Type 0} (f : X → List ℕ) (xs : List X) where
  -- the piece at place i, with what stands before and behind it
  pub joined_split : (i : ℕ) (x : X) → i < length xs → flat_map f xs ≡ flat_map f (take i xs) ++ (f (get_or xs i x) ++ flat_map f (drop (suc i) xs))
  joined_split i x h = ap (flat_map f) (sym (take-append-drop i xs)) ∙ flat_map-append f (take i xs) (drop i xs) ∙ ap (λ l. flat_map f (take i xs) ++ flat_map f l) (drop-cons xs i x h)

  -- the front with one piece more
  joined_front : (k : ℕ) (x : X) → x ≡ get_or xs k x → k < length xs → flat_map f (take k xs) ++ f x ≡ flat_map f (take (k + 1) xs)
  joined_front k x e h = flat_map_more f [] (take k xs) x ∙ ap (λ y. flat_map f (take k xs ++ y ∷ [])) e ∙ ap (flat_map f) (sym (take_more xs k x h))

-- pieces of one size, as far as place i
pub front_length : {X : Type 0} (f : X → List ℕ) (xs : List X) (i size : ℕ) → i ≤ length xs
    → ((k : ℕ) → k < i → (x : X) → length (f (get_or xs k x)) ≡ size) → length (flat_map f (take i xs)) ≡ i * size
front_length f xs zero size l h = sym (zero-mul size)
front_length f [] (suc i) size l h = absurd (omega arith)
front_length f (y ∷ ys) (suc i) size l h =
    let one = h 0 (omega arith) y in
    let rest = front_length f ys i size (omega arith) (λ k m x. h (suc k) (omega arith) x) in
    length-append (f y) (flat_map f (take i ys)) ∙ omega (arith, add-mul 1 i size)

-- a row of d fields, and each of the first rows
pub row_length : (d : ℕ) (es : List Ends) → d ≤ length es → length (row_bytes d es) ≡ 8 * d
row_length d es h = front_length ends_bytes es d 8 h (λ _ _ _. refl) ∙ mul_comm d 8

pub rows_length : (d : ℕ) (rows : List (List Ends)) (i : ℕ) → d ≤ 8 → i ≤ length rows → ((k : ℕ) → k < i → length (get_or rows k blank) ≡ 8)
    → (k : ℕ) → k < i → (es : List Ends) → length (row_bytes d (get_or rows k es)) ≡ 8 * d
rows_length d rows i few l eights k h es = rw (get_or_default rows k es blank (omega arith)) (row_length d (get_or rows k blank) (omega (arith, eights k h)))

module _ {X : Type 0} (f : X → List ℕ) (xs : List X) (size : ℕ) where
  -- all of them
  pub joined_length : ((k : ℕ) → k < length xs → (x : X) → length (f (get_or xs k x)) ≡ size) → length (flat_map f xs) ≡ length xs * size
  joined_length h = ap (λ l. length (flat_map f l)) (sym (take_all (length xs) xs (omega arith))) ∙ front_length f xs (length xs) size (omega arith) h

  -- one more, put behind those that stand
  pub put_next : (k : ℕ) (x : X) (at to : ℕ) (out : List ℕ) → x ≡ get_or xs k x → k < length xs
      → ((j : ℕ) → j < k → (y : X) → length (f (get_or xs j y)) ≡ size) → to ≡ at + k * size → to + length (f x) ≤ length out
      → put to (f x) (put at (flat_map f (take k xs)) out) ≡ put at (flat_map f (take (k + 1) xs)) out
  put_next k x at to out e h sized s l =
      put_put at to (flat_map f (take k xs)) (f x) out (omega (arith, front_length f xs k size (omega arith) sized)) l ∙ ap (λ bs. put at bs out) (joined_front f xs k x e h)

-- pieces that are the parts of a file, one behind another
pub joined_parts : {X : Type 0} (f : X → List ℕ) (g : ℕ → X) (at size : ℕ) (bs : List ℕ) (m : ℕ)
    → ((j : ℕ) → j < m → f (g j) ≡ part (at + j * size) size bs) → flat_map f (map g (range_with_len 0 m)) ≡ part at (m * size) bs
joined_parts f g at size bs zero h = rw zero-mul
joined_parts f g at size bs (suc m) h =
    let e : m + 1 ≡ suc m = omega arith in
    let s : m * size + size ≡ suc m * size = omega (arith, add-mul 1 m size) in
    ap (λ n. flat_map f (map g (range_with_len 0 n))) (sym e)
    ∙ ap (flat_map f) (map-range_with_len_more g 0 m m (omega arith))
    ∙ sym (flat_map_more f [] (map g (range_with_len 0 m)) (g m))
    ∙ ap (λ l. l ++ f (g m)) (joined_parts f g at size bs m (λ j l. h j (omega arith)))
    ∙ ap (λ l. part at (m * size) bs ++ l) (h m (omega arith))
    ∙ sym (part_more at (m * size) size bs)
    ∙ ap (λ n. part at n bs) s
