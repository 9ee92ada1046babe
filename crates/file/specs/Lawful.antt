-- That a file is lawful. Assumes nothing.
use Rattle.std.specs.Prelude.{◌≡◌, ℕ, List, None}
use Rattle.file.specs.Layout.{file_refusal}

-- for decisions of some kind, by its code and its size
abbrev pub Lawful : List ℕ → Type 0
Lawful bs = ∥ ((code : ℕ) × ((size : ℕ) × (file_refusal bs code size ≡ None))) ∥₁
