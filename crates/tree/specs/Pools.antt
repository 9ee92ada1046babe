-- Records in a lent slice. Assumes nothing.
use Rattle.std.specs.Prelude.{◌≡◌, ℕ, ◌+◌, ◌<◌, min, length, slice_set}
use Rattle.tree.specs.declared.pool.Pool.{Pool}

-- how many records a slice of n holds at most: each index is below the link to nothing
unfoldable pub space : ℕ → ℕ
space n = min n 0xffff_ffff

-- the record at `at` became r
pub record Sets {R : Type 0} (p p' : Pool R) (at : ℕ) (r : R) : Type 0 where
  pub inside : at < length p.records.now
  pub records : p'.records.now ≡ slice_set p.records.now at r
  pub taken : p'.taken ≡ p.taken

-- r was taken as the next record, at `at`
pub record Pushes {R : Type 0} (p p' : Pool R) (at : ℕ) (r : R) : Type 0 where
  pub first : at ≡ p.taken
  pub inside : at < length p.records.now
  pub low : at < 0xffff_ffff
  pub records : p'.records.now ≡ slice_set p.records.now at r
  pub taken : p'.taken ≡ p.taken + 1
