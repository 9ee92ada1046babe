-- Parts of a file. Assumes nothing.
use Rattle.std.proofs.Common.{◌≡◌, ℕ, zero, suc, ◌+◌, ◌<◌, ◌≤◌, List, [], ◌∷◌, ◌++◌, map, length, get_or, take, drop, Some, None, sym, refl, ap, ◌∙◌, arith, take-add}
use Rattle.std.specs.List.{range_with_len, slice_get}
use Rattle.std.proofs.lemmas.List.FromFn.{length-map-range_with_len, get_or-map-range_with_len, fill_by_all}
use Rattle.std.proofs.lemmas.Option.{slice_get-get_or, slice_get_past}
use Rattle.std.proofs.lemmas.List.{length-drop, drop-drop, length-take-le, take_at, drop_at, get_or_past}
use Rattle.file.specs.Layout.{part, rules, row_of}
use Rattle.file.specs.Contents.{blank, rows_of, decision_bytes, decisions_of}

module _ {X : Type 0} (f : ℕ → X) (n r : ℕ) where
  -- an item of a list that is made by counting, and none past its end
  pub nth_counted : r < n → slice_get (map f (range_with_len 0 n)) r ≡ Some (f r)
  nth_counted h =
      slice_get-get_or (map f (range_with_len 0 n)) r (f r) (omega (arith, length-map-range_with_len f 0 n)) ∙ ap Some (get_or-map-range_with_len f 0 n r r (f r) h (omega arith))

  pub nth_beyond : n ≤ r → slice_get (map f (range_with_len 0 n)) r ≡ None
  nth_beyond h = slice_get_past (map f (range_with_len 0 n)) r (omega (arith, length-map-range_with_len f 0 n))

-- within a list there is an item
pub nth_there : {X : Type 0} {P : Type 0} (xs : List X) (k : ℕ) → k < length xs → None ≡ slice_get xs k → P
nth_there [] k h e = absurd (omega arith)
nth_there (x ∷ xs) zero h e = let z : ◌≡◌ {A = ℕ} 0 1 = cc in absurd (omega arith)
nth_there (x ∷ xs) (suc k) h e = nth_there xs k (omega arith) e

-- a part in two
pub part_more : (i n m : ℕ) (bs : List ℕ) → part i (n + m) bs ≡ part i n bs ++ part (i + n) m bs
part_more i n m bs = take-add n m (drop i bs) ∙ ap (λ l. part i n bs ++ take m l) (drop-drop n i bs)

pub length_part : (i n : ℕ) (bs : List ℕ) → i + n ≤ length bs → length (part i n bs) ≡ n
length_part i n bs h = length-take-le n (drop i bs) (omega (arith, length-drop i bs))

-- the part that stands behind some bytes
pub part_at : (ps xs qs : List ℕ) (i n : ℕ) → length ps ≡ i → length xs ≡ n → part i n (ps ++ (xs ++ qs)) ≡ xs
part_at ps xs qs i n e f = ap (take n) (drop_at ps (xs ++ qs) i e) ∙ take_at xs qs n f

-- a list is what counting gives, where each item is; no default is at hand
pub counted_items : {X : Type 0} (f : ℕ → X) (xs : List X) → ((k : ℕ) → k < length xs → (x : X) → get_or xs k x ≡ f k)
    → xs ≡ map f (range_with_len 0 (length xs))
counted_items f [] h = refl
counted_items f (x ∷ xs) h =
    fill_by_all f (x ∷ xs) (length (x ∷ xs)) x refl (λ k l. h k l x)

-- as many items as were counted
pub counted_length : {X : Type 0} (f : ℕ → X) (n : ℕ) → length (map f (range_with_len 0 n)) ≡ n
counted_length f n = length-map-range_with_len f 0 n

module _ (bs : List ℕ) (r : ℕ) where
  -- the pairs of a rule that there is, by its number
  pub row_counted : (q : ℕ) → (q ≡ r) × (r < rules bs) → get_or (rows_of bs) r blank ≡ row_of bs q
  row_counted q h = get_or-map-range_with_len (row_of bs) 0 (rules bs) r r blank h.1 (omega arith) ∙ ap (row_of bs) (sym h.0)

  -- and past the last rule
  pub row_beyond : rules bs ≤ r → get_or (rows_of bs) r blank ≡ blank
  row_beyond h = get_or_past (rows_of bs) r blank (omega (arith, length-map-range_with_len (row_of bs) 0 (rules bs)))

  -- the decision of a rule that there is, by its number
  module _ {K : Type 0} (reading : List ℕ → K) (size : ℕ) where
    pub decision_counted : (q : ℕ) → (q ≡ r) × (r < rules bs) → slice_get (decisions_of reading size bs) r ≡ Some (reading (decision_bytes bs size q))
    decision_counted q h =
        nth_counted (λ k. reading (decision_bytes bs size k)) (rules bs) r h.1 ∙ ap (λ k. Some (reading (decision_bytes bs size k))) (sym h.0)

    -- and past the last rule
    pub decision_beyond : rules bs ≤ r → slice_get (decisions_of reading size bs) r ≡ None
    decision_beyond h = nth_beyond (λ k. reading (decision_bytes bs size k)) (rules bs) r h
