-- The place of the first thing that is wrong. Assumes nothing.
use Rattle.std.specs.Prelude.{ℕ, zero, suc, Bool, cond, Some, None, Option}

-- a test that failed, by its place
abbrev pub broken : Bool → ℕ → Option ℕ
broken b place = cond b (Some place) None

-- the first of two
abbrev pub or_else : Option ℕ → Option ℕ → Option ℕ
or_else None q = q
or_else (Some p) q = Some p

-- the first place that the numbers below n give
abbrev pub first_some : (ℕ → Option ℕ) → ℕ → Option ℕ
first_some f zero = None
first_some f (suc n) = or_else (first_some f n) (f n)

-- the place of the first of the numbers below n that is bad
abbrev pub first_below : (ℕ → Bool) → (ℕ → ℕ) → ℕ → Option ℕ
first_below bad place = first_some (λ k. broken (bad k) (place k))
