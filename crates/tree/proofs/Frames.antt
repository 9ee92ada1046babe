-- Links in a memory that changes elsewhere. Assumes nothing.
use Rattle.std.proofs.Common.{◌≡◌, ℕ, zero, suc, ◌+◌, ◌-◌, ◌<◌, ◌≤◌, cond, eqb, length, slice_get, Some, sym, refl, ap, ◌∙◌, subst, one-add, arith}
use Rattle.std.proofs.lemmas.Bool.{cond-false, ne_eqb}
use Rattle.shape.specs.Shapes.{Label, piece, rule, Shape, part, branches_of, marks_of, siblings, bare}
use Rattle.tree.specs.Memory.{rec, next_of, live, look, Pushed}
use Rattle.tree.specs.Links.{Records, none, item, shape, root, place, Holds, count, Stands, Changed, chain}
use Rattle.tree.specs.declared.records.Store.{Store}
use Rattle.tree.specs.declared.records.Branch.{Branch}
use Rattle.tree.specs.declared.records.Mark.{Mark}
use Rattle.tree.proofs.Places.{one_self, live_most, place_mark, place_branch, inside_branch, inside_mark, at_branch, at_mark}

-- THE FRAME: a tree stands on where the memory keeps its places.
pub kept : (s s' : Store) (d : ℕ) (t : Records) → Holds s d t → ((k : ℕ) → 0 < count d t k → look s' k ≡ look s k) → Holds s' d t
kept s s' d none h same = tt
kept s s' d (item at l below rest) h same = (
  h.0,
  same (place d at) (omega (arith, one_self (place d at))) ∙ h.1,
  kept s s' (d - 1) below h.2 (λ k m. same k (omega arith)),
  kept s s' d rest h.3 (λ k m. same k (omega arith)),
)

-- A link is NONE only to nothing, and else to a record.
pub empty : (s : Store) (d : ℕ) (t : Records) → Holds s d t → root t ≡ 0xffff_ffff → t ≡ none
empty s d none h e = refl
empty s d (item at l below rest) h e = absurd (omega (arith, h.0))

pub record Opened (at : ℕ) (t : Records) : Type 0 where
  pub label : Label
  pub below : Records
  pub rest : Records
  pub is : t ≡ item at label below rest

-- a tree that is there has a first record
pub opened : (at : ℕ) (t : Records) → root t ≡ at → (at ≡ 0xffff_ffff → ⊥) → Opened at t
opened at none e ne = absurd (ne (sym e))
opened at (item a l below rest) e ne = record { label = l; below = below; rest = rest; is = ap (λ i. item i l below rest) e }

-- What a record that was read says of the tree.
pub record Found (at : ℕ) (l : Label) (bel next : ℕ) (t : Records) : Type 0 where
  pub below : Records
  pub rest : Records
  pub is : t ≡ item at l below rest
  pub below_from : root below ≡ bel
  pub rest_from : root rest ≡ next

-- what was read is its first record
pub found :
    (s : Store) (d at : ℕ) (l : Label) (bel next : ℕ) (t : Records)
    → Holds s d t → root t ≡ at → (at ≡ 0xffff_ffff → ⊥) → look s (place d at) ≡ rec l bel next → Found at l bel next t
found s d at l bel next none h e ne r = absurd (ne (sym e))
found s d at l bel next (item a m below rest) h e ne r =
    let q : rec m (root below) (root rest) ≡ rec l bel next = sym h.1 ∙ ap (λ i. look s (place d i)) e ∙ r in
    record { below = below; rest = rest; is = cc; below_from = cc; rest_from = cc }

-- the place of a record is taken
pub taken : (s : Store) (d at : ℕ) (t : Records) → Stands s d t → root t ≡ at → (at ≡ 0xffff_ffff → ⊥) → 0 < live s (place d at)
taken s d at none S e ne = absurd (ne (sym e))
taken s d at (item a l below rest) S e ne =
    subst (λ i. 0 < live s (place d i)) e (omega (arith, one_self (place d a), S.own (place d a)))

-- A node's first record: a branch lies in its slice, and says what was read.
module _ (s : Store) (d at : ℕ) (t : Records) (from : root t ≡ at) (ne : at ≡ 0xffff_ffff → ⊥) where
  -- its index is below the link to nothing
  low_index : Holds s d t → at < 0xffff_ffff
  low_index h = let O = opened at t from ne in (subst (Holds s d) O.is h).0

  pub branch_inside : Stands s d t → (d ≡ 0 → ⊥) → at < length s.branches.records.now
  branch_inside S pos =
      inside_branch s at (omega (arith, low_index S.holds)) (rw (place_branch d at pos) at (taken s d at t S from ne))

  pub found_branch : {b : Branch} → Holds s d t → (d ≡ 0 → ⊥) → slice_get s.branches.records.now at ≡ Some b → Found at (piece b.low b.high) b.below b.next t
  found_branch {b} h pos read = found s d at _ _ _ t h from ne (at_branch s d at b pos (omega (arith, low_index h)) read)

  -- a mark too
  pub mark_inside : Stands s d t → d ≡ 0 → at < length s.marks.records.now
  mark_inside S z = inside_mark s at (rw (place_mark d at z) at (taken s d at t S from ne))

  pub found_mark : {m : Mark} → Holds s d t → d ≡ 0 → slice_get s.marks.records.now at ≡ Some m → Found at (rule m.rule) 0xffff_ffff m.next t
  found_mark {m} h z read = found s d at _ _ _ t h from ne (at_mark s d at m z read)

-- how far a loop over a node has to go
pub chain_is : (s : Store) (d : ℕ) (t : Records) (n : ℕ) → Holds s d t → siblings (shape t) ≤ n → chain n s d (root t) ≡ siblings (shape t)
chain_is s d none zero h le = refl
chain_is s d none (suc n) h le = refl
chain_is s d (item at l below rest) zero h le = absurd (omega arith)
chain_is s d (item at l below rest) (suc n) h le =
    cond-false _ _ _ (ne_eqb at 0xffff_ffff (λ e. omega (arith, h.0)))
    ∙ ap suc (ap (λ r. chain n s d (next_of r)) h.1 ∙ chain_is s d rest n h.3 (omega arith))
    ∙ sym (one-add (siblings (shape rest)))

-- in any node the links are those of branches
pub chain_branch : (n : ℕ) (s : Store) (d at : ℕ) → 0 < d → chain n s d at ≡ chain n s 1 at
chain_branch zero s d at pos = refl
chain_branch (suc n) s d at pos =
    let p : place d at ≡ place 1 at = place_branch d at (λ z. omega arith) ∙ sym (place_branch 1 at (λ z. omega arith)) in
    ap (λ i. cond (eqb at 0xffff_ffff) 0 (suc (chain n s d (next_of (look s i))))) p
    ∙ ap (λ m. cond (eqb at 0xffff_ffff) 0 (suc m)) (chain_branch n s d (next_of (look s (place 1 at))) pos)

-- a node has no more records than its tree
pub few : (t : Shape) → siblings t ≤ branches_of t + marks_of t
few bare = omega arith
few (part (piece low high) below rest) = omega (arith, few rest)
few (part (rule i) below rest) = omega (arith, few rest)

-- nothing has changed
pub unchanged : (s : Store) (d : ℕ) (t : Records) → Holds s d t → Changed s s d t t
unchanged s d t h =
    record {
      holds = h;
      grown = λ k. refl;
      keeps = λ k m. refl;
      spare = λ k z. (z, refl);
      branches = refl;
      marks = refl;
      all = refl;
      all_marks = refl;
    }

-- one change after another
pub then : (s s₁ s₂ : Store) (d : ℕ) (t t₁ t₂ : Records) → Changed s s₁ d t t₁ → Changed s₁ s₂ d t₁ t₂ → Changed s s₂ d t t₂
then s s₁ s₂ d t t₁ t₂ C D =
    record {
      holds = D.holds;
      grown = λ k. omega (arith, C.grown k, D.grown k);
      keeps = λ k m. D.keeps k (omega (arith, C.grown k)) ∙ C.keeps k m;
      spare = λ k z. let d = D.spare k z in let c = C.spare k d.0 in (c.0, d.1 ∙ c.1);
      branches = omega (arith, C.branches, D.branches);
      marks = omega (arith, C.marks, D.marks);
      all = D.all ∙ C.all;
      all_marks = D.all_marks ∙ C.all_marks;
    }

-- a new record over a new tree
pub topped :
    (s s₁ s₂ : Store) (d : ℕ) (u : Records) (r : ℕ) (l : Label)
    → Changed s s₁ (d - 1) none u → r < 0xffff_ffff → Pushed s₁ s₂ (place d r) (rec l (root u) 0xffff_ffff)
    → Changed s s₂ d none (item r l u none)
topped s s₁ s₂ d u r l C low P =
    record {
      holds =
          (low, P.here, kept s₁ s₂ (d - 1) u C.holds (λ k m. P.keeps k (omega (arith, C.grown k, P.alive k, live_most s₂ k))), tt);
      grown = λ k. omega (arith, C.grown k, P.alive k);
      keeps =
          λ k h.
          P.keeps k (omega (arith, C.grown k, P.alive k, live_most s₂ k)) ∙ C.keeps k h;
      spare = λ k z. let c = C.spare k (omega (arith, P.alive k)) in (c.0, P.keeps k (omega (arith, P.alive k)) ∙ c.1);
      branches = omega (arith, C.branches, P.room.branches);
      marks = omega (arith, C.marks, P.room.marks);
      all = P.room.all ∙ C.all;
      all_marks = P.room.all_marks ∙ C.all_marks;
    }
