-- Bytes at the front of a buffer. Assumes nothing.
use Rattle.std.specs.Prelude.{ℕ, List, ◌++◌, length, take, drop}

-- a buffer with some bytes at its front, as far as it reaches, and the others as they were
abbrev pub front : List ℕ → List ℕ → List ℕ
front bs out = take (length out) bs ++ drop (length bs) out
