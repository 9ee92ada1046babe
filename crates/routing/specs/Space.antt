-- The space that rules need: cuts, pieces, branches and marks. Assumes nothing.
use Rattle.std.specs.Prelude.{ℕ, zero, suc, ◌+◌, cond, ◌&&◌, List, [], ◌∷◌, length, ◌==◌, nat_le, nat_lt, slice_index_or}
use Rattle.routing.specs.declared.ends.Ends.{Ends}

-- the interval of a rule at field m, counted from 0
abbrev pub at : List Ends → ℕ → Ends
at es m = slice_index_or es m (record { low = 0; high = 0 })

-- c put into an ascending list, once
abbrev pub put : ℕ → List ℕ → List ℕ
put c [] = c ∷ []
put c (x ∷ xs) = cond (nat_lt c x) (c ∷ x ∷ xs) (cond (c == x) (x ∷ xs) (x ∷ put c xs))

-- the low ends and the numbers one above the high ends, upward
abbrev pub cuts : ℕ → List (List Ends) → List ℕ
cuts m [] = []
cuts m (r ∷ rs) = put (at r m).low (put ((at r m).high + 1) (cuts m rs))

-- the rules that hold the piece from a to just before b
abbrev pub holding : ℕ → ℕ → ℕ → List (List Ends) → List (List Ends)
holding m a b [] = []
holding m a b (r ∷ rs) =
    cond (nat_le (at r m).low a && nat_le b ((at r m).high + 1)) (r ∷ holding m a b rs) (holding m a b rs)

-- the sum of f over the runs from one cut to the next
abbrev pub over : (ℕ → ℕ → ℕ) → List ℕ → ℕ
over f [] = 0
over f (a ∷ []) = 0
over f (a ∷ (b ∷ cs)) = f a b + over f (b ∷ cs)

-- one branch for a piece that lies in some rule, and what is below it
abbrev pub one_more : List (List Ends) → ℕ → ℕ
one_more [] n = 0
one_more (r ∷ rs) n = suc n

-- the branches of rules from field m on, with so many fields left
abbrev pub branches : ℕ → ℕ → List (List Ends) → ℕ
branches zero m rs = 0
branches (suc k) m rs = over (λ a b. one_more (holding m a b rs) (branches k (suc m) (holding m a b rs))) (cuts m rs)

-- the marks of all cells
abbrev pub marks : ℕ → ℕ → List (List Ends) → ℕ
marks zero m rs = length rs
marks (suc k) m rs = over (λ a b. marks k (suc m) (holding m a b rs)) (cuts m rs)
