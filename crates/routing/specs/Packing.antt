-- Widths in one number: its bytes, from the lowest up. Assumes nothing.
use Rattle.std.specs.Prelude.{ℕ, zero, suc, ◌+◌, ◌*◌, ◌/◌, ◌%◌, cond, List, [], ◌∷◌, ◌==◌}

abbrev pub packed : List ℕ → ℕ
packed [] = 0
packed (w ∷ ws) = w + 256 * packed ws

-- the bytes up to the first that is 0, and n at most
abbrev pub bytes_up : ℕ → ℕ → List ℕ
bytes_up zero p = []
bytes_up (suc n) p = cond (p % 256 == 0) [] (p % 256 ∷ bytes_up n (p / 256))

unfoldable pub unpacked : ℕ → List ℕ
unpacked p = bytes_up 8 p
