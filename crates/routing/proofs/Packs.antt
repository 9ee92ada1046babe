-- The bytes of a packed number. Assumes nothing.
use Rattle.std.proofs.Common.{◌≡◌, ℕ, zero, suc, ◌+◌, ◌-◌, ◌*◌, ◌/◌, ◌%◌, ◌<◌, ◌≤◌, false, eqb, List, [], ◌∷◌, ◌++◌, length, get_or, replicate, sym, refl, ◌∙◌, ⊎_elim, arith, w64}
use Rattle.std.specs.Int.{from_le_bytes}
use Rattle.std.proofs.Math.Seq.{get_or-append_right}
use Rattle.std.proofs.lemmas.List.{length-append, length-replicate, get_or_append_left, get_or_past}
use Rattle.std.proofs.lemmas.Bool.{ne_eqb, cases_lt}
use Rattle.routing.specs.Packing.{packed, bytes_up}
use Rattle.routing.proofs.Cells.{cells_8}

packed_zeros : (n : ℕ) → packed (replicate n 0) ≡ 0
packed_zeros zero = refl
packed_zeros (suc n) = omega (arith, packed_zeros n)

-- zeros past the last byte do not count
pub packed_padded : (ws : List ℕ) (n : ℕ) → packed (ws ++ replicate n 0) ≡ packed ws
packed_padded [] n = packed_zeros n
packed_padded (w ∷ ws) n = omega (arith, packed_padded ws n)

-- bytes that are not 0, read back from their number
pub bytes_again : (n : ℕ) (ws : List ℕ) → length ws ≤ n → ((k : ℕ) → k < length ws → (1 ≤ get_or ws k 0) × (get_or ws k 0 < 256))
    → bytes_up n (packed ws) ≡ ws
bytes_again zero [] l h = refl
bytes_again zero (w ∷ ws) l h = absurd (omega arith)
bytes_again (suc n) [] l h = refl
bytes_again (suc n) (w ∷ ws) l h =
    let b = h 0 (omega arith) in
    let low : (w + 256 * packed ws) % 256 ≡ w = omega (arith, b) in
    let high : (w + 256 * packed ws) / 256 ≡ packed ws = omega (arith, b) in
    let some : eqb w 0 ≡ false = ne_eqb w 0 (λ e. omega (arith, b)) in
    rw (low, high, some, bytes_again n ws (omega arith) (λ k i. h (suc k) (omega arith)))

-- with zeros up to eight bytes
abbrev pub padded : List ℕ → List ℕ
padded ws = ws ++ replicate (8 - length ws) 0

zeros_at : (n k : ℕ) → get_or {A = ℕ} (replicate n 0) k 0 ≡ 0
zeros_at zero k = refl
zeros_at (suc n) zero = refl
zeros_at (suc n) (suc k) = zeros_at n k

pub padded_at : (ws : List ℕ) (k : ℕ) → get_or (padded ws) k 0 ≡ get_or ws k 0
padded_at ws k =
    ⊎_elim (λ (h : k < length ws). get_or_append_left ws (replicate (8 - length ws) 0) 0 k h)
    (λ (h : length ws ≤ k).
    get_or-append_right ws (replicate (8 - length ws) 0) k 0 h ∙ zeros_at (8 - length ws) (k - length ws) ∙ sym (get_or_past ws k 0 h))
    (cases_lt k (length ws))

pub length_padded : (ws : List ℕ) → length ws ≤ 8 → length (padded ws) ≡ 8
length_padded ws l = omega (arith, length-append ws (replicate (8 - length ws) 0), length-replicate {A = ℕ} (8 - length ws) 0)

-- the library's number of eight bytes
pub eight : (ws : List ℕ) → length ws ≡ 8 → from_le_bytes w64 ws ≡ packed ws
eight = cells_8 (λ ws. from_le_bytes w64 ws ≡ packed ws) (λ _ _ _ _ _ _ _ _. omega arith)

pub padded_number : (ws : List ℕ) → length ws ≤ 8 → from_le_bytes w64 (padded ws) ≡ packed ws
padded_number ws l = eight (padded ws) (length_padded ws l) ∙ packed_padded ws (8 - length ws)
