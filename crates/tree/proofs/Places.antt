-- What a write and a new record do to `look` and `live`. Assumes nothing.
use Rattle.std.proofs.Common.{◌≡◌, ℕ, ◌+◌, ◌-◌, ◌<◌, ◌≤◌, cond, ltb, ◌≢◌, List, length, get_or, set, slice_get, Some, sym, refl, ap, ◌∙◌, ⊎_elim, add-zero, length-set, arith}
use Rattle.std.proofs.lemmas.Bool.Decides.{nat_tests}
use Rattle.std.proofs.lemmas.Bool.{cond-true, cond-false, lt-ltb, le-ltb, cases_lt}
use Rattle.std.proofs.lemmas.List.{get_or-set_same, get_or-set_other}
use Rattle.std.proofs.lemmas.Option.{get_or_from_slice_get}
use Rattle.tree.specs.Pools.{Sets, Pushes}
use Rattle.tree.specs.Memory.{mark_place, one, live_in, top, live, of_branch, of_mark, look_in, look, Written, Pushed}
use Rattle.tree.specs.Links.{place}
use Rattle.tree.specs.declared.records.Store.{Store}
use Rattle.tree.specs.declared.records.Branch.{Branch}
use Rattle.tree.specs.declared.records.Mark.{Mark}
use Rattle.tree.specs.declared.pool.Pool.{Pool}

-- a place counts once at itself
pub one_self : (p : ℕ) → one p p ≡ 1
unfolding one
one_self p = grind (arith, nat_tests)

-- and not elsewhere
pub one_other : (p k : ℕ) → one p k ≡ 0 → k ≢ p
unfolding one
one_other p k h e = grind (arith, nat_tests)

-- with no field left a place is that of a mark
pub place_mark : (d at : ℕ) → d ≡ 0 → place d at ≡ mark_place at
unfolding place
place_mark d at e = grind (arith, nat_tests)

-- else that of a branch
pub place_branch : (d at : ℕ) → (d ≡ 0 → ⊥) → place d at ≡ at
unfolding place
place_branch d at e = grind (arith, nat_tests)

-- a place is taken once at most
pub live_most : (s : Store) (k : ℕ) → live s k ≤ 1
unfolding live_in
live_most s k = grind (arith, nat_tests)

-- a taken branch lies in its slice
live_branch : (u a m k : ℕ) → k < 4294967296 → 0 < live_in (top u a) m k → k < a
unfolding live_in top
live_branch u a m k l h = grind (arith, nat_tests)

-- a taken mark lies in its slice
live_mark : (n u a k : ℕ) → 0 < live_in n (top u a) (k + 4294967296) → k < a
unfolding live_in top
live_mark n u a k h = grind (arith, nat_tests)

-- a taken branch is in the slice of its store
pub inside_branch : (s : Store) (at : ℕ) → at < 4294967296 → 0 < live s at → at < length s.branches.records.now
inside_branch s at l h = live_branch s.branches.taken (length s.branches.records.now) _ at l h

-- so is a taken mark
pub inside_mark : (s : Store) (at : ℕ) → 0 < live s (mark_place at) → at < length s.marks.records.now
inside_mark s at h = live_mark _ s.marks.taken (length s.marks.records.now) at h

-- one branch more
live_one : (n m k : ℕ) → n < 4294967296 → live_in (n + 1) m k ≡ live_in n m k + one n k
unfolding live_in one
live_one n m k h = grind (arith, nat_tests)

-- one mark more
live_one_mark : (n m k : ℕ) → live_in n (m + 1) k ≡ live_in n m k + one (m + 4294967296) k
unfolding live_in one
live_one_mark n m k = grind (arith, nat_tests)

-- all records lie in the slice
top_is : (u a : ℕ) → u ≤ a → top u a ≡ u
unfolding top
top_is u a l = omega arith

-- one record more in a slice of a, which stays as long
live_more : (u a a' m k : ℕ) → u < a → u < 0xffff_ffff → a' ≡ a → live_in (top (u + 1) a') m k ≡ live_in (top u a) m k + one u k
live_more u a a' m k h l e =
    ap (λ n. live_in n m k) (top_is (u + 1) a' (omega arith)) ∙ live_one u m k (omega arith) ∙ ap (λ n. live_in n m k + one u k) (sym (top_is u a (omega arith)))

-- one mark more in a slice
live_more_marks : (n u a a' k : ℕ) → u < a → a' ≡ a → live_in n (top (u + 1) a') k ≡ live_in n (top u a) k + one (u + 4294967296) k
live_more_marks n u a a' k h e =
    ap (λ m. live_in n m k) (top_is (u + 1) a' (omega arith)) ∙ live_one_mark n u k ∙ ap (λ m. live_in n m k + one (u + 4294967296) k) (sym (top_is u a (omega arith)))

-- what stands past the slices
abbrev no_branch : Branch
no_branch = record { low = 0; high = 0; below = 0; next = 0 }

-- and past that of the marks
abbrev no_mark : Mark
no_mark = record { rule = 0; next = 0 }

module _ (bs : List Branch) (ms : List Mark) where
  -- a branch is read at its index
  pub look_branch : (k : ℕ) → k < 4294967296 → look_in bs ms k ≡ of_branch (get_or bs k no_branch)
  unfolding look_in
  look_branch k l = cond-true _ _ _ (lt-ltb k 4294967296 l)

  -- a branch that was written
  pub put_here : (i : ℕ) (b : Branch) → i < 4294967296 → i < length bs → look_in (set bs i b) ms i ≡ of_branch b
  unfolding look_in
  put_here i b l h = cond-true _ _ _ (lt-ltb i 4294967296 l) ∙ ap of_branch (get_or-set_same bs i b _ h)

  -- other places stay
  pub put_other : (i : ℕ) (b : Branch) (k : ℕ) → one i k ≡ 0 → look_in (set bs i b) ms k ≡ look_in bs ms k
  unfolding look_in
  put_other i b k z =
      ap (λ x. cond (ltb k 4294967296) (of_branch x) (of_mark (get_or ms (k - 4294967296) no_mark)))
      (get_or-set_other bs i k b no_branch (one_other i k z))

  -- a mark is read at its index
  pub look_mark : (k : ℕ) → look_in bs ms (k + 4294967296) ≡ of_mark (get_or ms k no_mark)
  unfolding look_in
  look_mark k =
      cond-false _ _ _ (le-ltb (k + 4294967296) 4294967296 (omega arith))
      ∙ ap (λ i. of_mark (get_or ms i no_mark)) (let e : k + 4294967296 - 4294967296 ≡ k = omega arith in e)

  -- a mark that was written
  pub put_mark_here : (i : ℕ) (b : Mark) → i < length ms → look_in bs (set ms i b) (i + 4294967296) ≡ of_mark b
  unfolding look_in
  put_mark_here i b h =
      cond-false _ _ _ (le-ltb (i + 4294967296) 4294967296 (omega arith))
      ∙ ap (λ k. of_mark (get_or (set ms i b) k no_mark)) (let e : i + 4294967296 - 4294967296 ≡ i = omega arith in e)
      ∙ ap of_mark (get_or-set_same ms i b no_mark h)

  -- other places stay
  pub put_mark_other : (i : ℕ) (b : Mark) (k : ℕ) → one (i + 4294967296) k ≡ 0 → look_in bs (set ms i b) k ≡ look_in bs ms k
  unfolding look_in
  put_mark_other i b k z =
      let ne = one_other (i + 4294967296) k z in
      ⊎_elim (λ l. cond-true _ _ _ (lt-ltb k 4294967296 l) ∙ sym (cond-true _ _ _ (lt-ltb k 4294967296 l)))
      (λ l.
      ap (λ x. cond (ltb k 4294967296) (of_branch (get_or bs k no_branch)) (of_mark x))
      (get_or-set_other ms i (k - 4294967296) b no_mark (λ e. ne (omega arith))))
      (cases_lt k 4294967296)

-- WHAT THE POOLS DO, as `look` and `live` have it: a branch that was read
pub read_branch : (s : Store) (at : ℕ) (b : Branch) → at < 4294967296 → slice_get s.branches.records.now at ≡ Some b → look s at ≡ of_branch b
read_branch s at b l e = look_branch _ _ at l ∙ ap of_branch (get_or_from_slice_get _ at b no_branch e)

-- a mark
pub read_mark : (s : Store) (at : ℕ) (m : Mark) → slice_get s.marks.records.now at ≡ Some m → look s (mark_place at) ≡ of_mark m
read_mark s at m e = look_mark _ _ at ∙ ap of_mark (get_or_from_slice_get _ at m no_mark e)

-- the same by the fields that are left
pub at_branch : (s : Store) (d at : ℕ) (b : Branch) → (d ≡ 0 → ⊥) → at < 4294967296 → slice_get s.branches.records.now at ≡ Some b → look s (place d at) ≡ of_branch b
at_branch s d at b n l e = ap (look s) (place_branch d at n) ∙ read_branch s at b l e

-- and of a mark
pub at_mark : (s : Store) (d at : ℕ) (m : Mark) → d ≡ 0 → slice_get s.marks.records.now at ≡ Some m → look s (place d at) ≡ of_mark m
at_mark s d at m z e = ap (look s) (place_mark d at z) ∙ read_mark s at m e

module _ (s : Store) (p : Pool Branch) (at : ℕ) (b : Branch) where
  -- a branch that was set
  pub wrote_branch : at < 4294967296 → Sets s.branches p at b → Written s (record { branches = p; marks = s.marks }) at (of_branch b)
  wrote_branch l W =
      record {
        here = rw W.records (put_here s.branches.records.now s.marks.records.now at b l W.inside);
        alive = λ k. rw (W.taken, W.records) (simp length-set);
        keeps = λ k z. rw W.records (put_other _ _ at b k z);
        room = record { branches = W.taken ∙ sym (add-zero _); marks = sym (add-zero _); all = rw W.records (simp length-set); all_marks = refl };
      }

  -- one that was pushed
  pub pushed_branch : Pushes s.branches p at b → Pushed s (record { branches = p; marks = s.marks }) at (of_branch b)
  pushed_branch P =
      record {
        here = rw P.records (put_here s.branches.records.now s.marks.records.now at b (omega (arith, P.low)) P.inside);
        alive = λ k. rw (P.taken, P.records, P.first) (live_more s.branches.taken _ _ _ k (omega (arith, P.first, P.inside)) (omega (arith, P.first, P.low)) (length-set _ _ _));
        keeps = λ k z. rw P.records (put_other _ _ at b k z);
        room = record { branches = P.taken; marks = sym (add-zero _); all = rw P.records (simp length-set); all_marks = refl };
      }

module _ (s : Store) (p : Pool Mark) (at : ℕ) (m : Mark) where
  -- a mark that was set
  pub wrote_mark : Sets s.marks p at m → Written s (record { branches = s.branches; marks = p }) (mark_place at) (of_mark m)
  wrote_mark W =
      record {
        here = rw W.records (put_mark_here s.branches.records.now s.marks.records.now at m W.inside);
        alive = λ k. rw (W.taken, W.records) (simp length-set);
        keeps = λ k z. rw W.records (put_mark_other _ _ at m k z);
        room = record { branches = sym (add-zero _); marks = W.taken ∙ sym (add-zero _); all = refl; all_marks = rw W.records (simp length-set) };
      }

  -- one that was pushed
  pub pushed_mark : Pushes s.marks p at m → Pushed s (record { branches = s.branches; marks = p }) (mark_place at) (of_mark m)
  pushed_mark P =
      record {
        here = rw P.records (put_mark_here s.branches.records.now s.marks.records.now at m P.inside);
        alive = λ k. rw (P.taken, P.records, P.first) (live_more_marks _ s.marks.taken _ _ k (omega (arith, P.first, P.inside)) (length-set _ _ _));
        keeps = λ k z. rw P.records (put_mark_other _ _ at m k z);
        room = record { branches = sym (add-zero _); marks = P.taken; all = refl; all_marks = rw P.records (simp length-set) };
      }
