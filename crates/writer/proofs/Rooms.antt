-- A buffer that holds the file holds each of its parts. Assumes nothing.
use Rattle.std.proofs.Common.{◌≡◌, ℕ, ◌+◌, ◌*◌, ◌<◌, ◌≤◌, sym, ap, ◌∙◌, mul_assoc, mul_comm, add-mul, arith}
use Rattle.std.proofs.lemmas.Nat.{mul-le}
use Rattle.file.specs.Layout.{file_length, low_at, decisions_at}

-- so many rows of eight bytes a field
pub eight_times : (r d : ℕ) → r * (8 * d) ≡ 8 * (r * d)
eight_times r d = sym (mul_assoc r 8 d) ∙ ap (λ x. x * d) (mul_comm r 8) ∙ mul_assoc 8 r d

pub row_room : (d n size k room : ℕ) → k < n → file_length d n size ≤ room → low_at d (k * d) + 8 * d ≤ room
row_room d n size k room h l = omega (arith, mul-le (k + 1) d n d (omega arith) (omega arith), add-mul k 1 d, mul_comm n d)

pub decision_room : (d n size k room : ℕ) → k < n → file_length d n size ≤ room → decisions_at d n + k * size + size ≤ room
decision_room d n size k room h l = omega (arith, mul-le (k + 1) size n size (omega arith) (omega arith), add-mul k 1 size)
