-- Numbers of four bytes, written and read. Assumes nothing.
use Rattle.std.proofs.Common.{◌≡◌, ℕ, ◌+◌, ◌<◌, ◌≤◌, List, [], ◌∷◌, ◌++◌, length, get_or, drop, sym, refl, ap, ◌∙◌, ⊎_elim, add-zero, arith}
use Rattle.std.proofs.lemmas.Nat.{be_bytes_4, from_be_bytes-to_be_bytes_4}
use Rattle.std.proofs.lemmas.List.{get_or-append-add, get_or-take, get_or-drop, get_or_past, append_assoc, length-append, length-take}
use Rattle.std.proofs.lemmas.Bool.{cases_lt}
use Rattle.routing.specs.declared.ends.Ends.{Ends}
use Rattle.routing.proofs.Cells.{cells_4}
use Rattle.file.specs.Layout.{byte, four, four_bytes, part, pair, low_at}
use Rattle.writer.specs.Stages.{ends_bytes}
use Rattle.file.proofs.Parts.{part_more, length_part}

-- what is written is read
pub four_back : (n : ℕ) → n < 4294967296 → four (four_bytes n) 0 ≡ n
four_back n h = let e = from_be_bytes-to_be_bytes_4 n h in omega arith

-- wherever it stands
pub four_at_lem : (ps qs : List ℕ) (n i : ℕ) → n < 4294967296 → length ps ≡ i → four (ps ++ (four_bytes n ++ qs)) i ≡ n
four_at_lem ps qs n i h e =
    let bs = four_bytes n ++ qs in
    let b : (j : ℕ) → byte (ps ++ bs) (i + j) ≡ byte bs j = λ j. ap (λ m. byte (ps ++ bs) (m + j)) (sym e) ∙ get_or-append-add ps bs j 0 in
    let b0 : byte (ps ++ bs) i ≡ byte bs 0 = ap (byte (ps ++ bs)) (sym (add-zero i)) ∙ b 0 in
    let b1 = b 1 in
    let b2 = b 2 in
    let b3 = b 3 in
    let w = four_back n h in
    omega arith

-- a pair of ends likewise
pub pair_at : (ps qs : List ℕ) (e : Ends) (bs : List ℕ) (d k : ℕ) → e.low < 4294967296 → e.high < 4294967296
    → bs ≡ ps ++ (ends_bytes e ++ qs) → length ps ≡ low_at d k → pair bs d k ≡ e
pair_at ps qs e bs d k l h s i =
    let at = low_at d k in
    let low = four_bytes e.low in
    let high = four_bytes e.high in
    let p : four bs at ≡ e.low = ap (λ l. four l at) s ∙ four_at_lem ps (high ++ qs) e.low at l i in
    let q : four bs (at + 4) ≡ e.high =
    ap (λ l. four l (at + 4)) (s ∙ sym (append_assoc ps low (high ++ qs))) ∙ four_at_lem (ps ++ low) qs e.high (at + 4) h (omega (arith, length-append ps low))
    in
    λ j. record { low = p j; high = q j }

abbrev pub Bytes : List ℕ → Type 0
Bytes bs = (i : ℕ) → get_or bs i 0 < 256

-- a part of bytes is bytes
pub part_bytes : (bs : List ℕ) (i n : ℕ) → Bytes bs → Bytes (part i n bs)
part_bytes bs i n h k =
    ⊎_elim (λ (l : k < n). omega (arith, get_or-take n (drop i bs) k 0 l, get_or-drop i bs k 0, h (i + k)))
    (λ (l : n ≤ k). omega (arith, get_or_past (part i n bs) k 0 (omega (arith, length-take n (drop i bs)))))
    (cases_lt k n)

-- four bytes of a file are those from a place on
pub part_cells : (bs : List ℕ) (i : ℕ) → i + 4 ≤ length bs → part i 4 bs ≡ byte bs i ∷ byte bs (i + 1) ∷ byte bs (i + 2) ∷ byte bs (i + 3) ∷ []
part_cells bs i l =
    let xs = part i 4 bs in
    let at : (k : ℕ) → k < 4 → get_or xs k 0 ≡ byte bs (i + k) = λ k q. get_or-take 4 (drop i bs) k 0 q ∙ get_or-drop i bs k 0 in
    let e0 : byte xs 0 ≡ byte bs i = at 0 (omega arith) ∙ ap (byte bs) (add-zero i) in
    cells_4 (λ ys. ys ≡ byte ys 0 ∷ byte ys 1 ∷ byte ys 2 ∷ byte ys 3 ∷ []) (λ _ _ _ _. refl) xs (length_part i 4 bs l)
    ∙ rw (e0, at 1 (omega arith), at 2 (omega arith), at 3 (omega arith))

-- what is read, written again, is what stood there
pub four_again : (bs : List ℕ) (i : ℕ) → Bytes bs → i + 4 ≤ length bs → four_bytes (four bs i) ≡ part i 4 bs
four_again bs i h l = be_bytes_4 (part i 4 bs) (four bs i) (length_part i 4 bs l) (part_bytes bs i 4 h) (rw (part_cells bs i l) (omega arith))

pub ends_again : (bs : List ℕ) (d k : ℕ) → Bytes bs → low_at d k + 8 ≤ length bs → ends_bytes (pair bs d k) ≡ part (low_at d k) 8 bs
ends_again bs d k h l =
    let i = low_at d k in
    ap (λ x. x ++ four_bytes (four bs (i + 4))) (four_again bs i h (omega arith))
    ∙ ap (λ y. part i 4 bs ++ y) (four_again bs (i + 4) h (omega arith))
    ∙ sym (part_more i 4 4 bs)
