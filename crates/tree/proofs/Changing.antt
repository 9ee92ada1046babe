-- A loop along the branches of a node, or the marks of a cell, that changes them in place. Assumes nothing.
use Rattle.std.proofs.Common.{◌≡◌, ℕ, ◌-◌, ◌<◌, ◌≤◌, length, slice_get, Some, sym, refl, ap, ◌∙◌, subst, arith}
use Rattle.shape.specs.Shapes.{Label, piece, rule, Shape, bare, part, branch_of, mark_of, branches_of, marks_of, siblings}
use Rattle.tree.specs.Memory.{rec, one, live, look, Written, Pushed, in_use}
use Rattle.tree.specs.Links.{Records, none, item, shape, root, place, Holds, count, Stands, Changed, Fits, Became, chain}
use Rattle.tree.specs.declared.records.Store.{Store}
use Rattle.tree.specs.declared.records.Branch.{Branch}
use Rattle.tree.specs.declared.records.Mark.{Mark}
use Rattle.tree.proofs.Places.{one_self, live_most, place_branch}
use Rattle.tree.proofs.Frames.{kept, empty, Found, taken, branch_inside, found_branch, mark_inside, found_mark, chain_is, few, unchanged, then}

-- A change in what follows a record, which it still follows at the same index.
pub followed :
    (s s' : Store) (d at : ℕ) (l : Label) (below rest rest' : Records) (sh : Shape) (next : ℕ)
    → Stands s d (item at l below rest) → root rest ≡ next → Became s s' d rest sh next rest'
    → Became s s' d (item at l below rest) (part l (shape below) sh) at (item at l below rest')
followed s s' d at l below rest rest' sh next S e B =
    let C = B.change in
    let p = place d at in
    record {
      change =
          record {
            holds = (
              S.holds.0,
              C.keeps p (omega (arith, S.own p, one_self p)) ∙ S.holds.1 ∙ ap (rec l (root below)) (e ∙ sym B.from),
              kept s s' (d - 1) below S.holds.2 (λ k h. C.keeps k (omega (arith, S.own k))),
              C.holds,
            );
            grown = λ k. omega (arith, C.grown k);
            keeps = λ k h. C.keeps k (omega arith);
            spare = C.spare;
            branches = omega (arith, C.branches);
            marks = omega (arith, C.marks);
            all = C.all;
            all_marks = C.all_marks;
          };
      same = ap (part l (shape below)) B.same;
      from = refl;
    }

-- A new record after the one at `at`, over a new tree u; the one at `at` may have another label of its kind.
pub inserted :
    (s s₁ s₂ s₃ : Store) (d at new bel : ℕ) (l l₁ l₂ : Label) (below rest u : Records)
    → Stands s d (item at l below rest) → Changed s s₁ (d - 1) none u → root u ≡ bel → new < 0xffff_ffff
    → Pushed s₁ s₂ (place d new) (rec l₂ bel (root rest)) → Written s₂ s₃ (place d at) (rec l₁ (root below) new)
    → branch_of l₁ ≡ branch_of l → mark_of l₁ ≡ mark_of l
    → Became s s₃ d (item at l below rest) (part l₁ (shape below) (part l₂ (shape u) (shape rest))) at
    (item at l₁ below (item new l₂ u rest))
inserted s s₁ s₂ s₃ d at new bel l l₁ l₂ below rest u S C from low P W eb em =
    let most = live_most s₂ in
    let p = place d at in
    let q = place d new in
    let G = C.grown in
    let keeps : (k : ℕ) → 0 < live s k → one p k ≡ 0 → look s₃ k ≡ look s k =
    λ k a z. W.keeps k z ∙ P.keeps k (omega (arith, P.alive k, most k, G k)) ∙ C.keeps k a in
    record {
      change =
          record {
            holds = (
              S.holds.0,
              W.here,
              kept s s₃ (d - 1) below S.holds.2 (λ k h. keeps k (omega (arith, S.own k)) (omega (arith, S.own k, most k, P.alive k, G k))),
              (
                low,
                W.keeps q (omega (arith, S.own q, most q, P.alive q, G q, one_self q)) ∙ P.here ∙ ap (λ b. rec l₂ b (root rest)) (sym from),
                kept s₁ s₃ (d - 1) u C.holds
                    (λ k h. W.keeps k (omega (arith, S.own k, most k, P.alive k, G k)) ∙ P.keeps k (omega (arith, P.alive k, most k, G k))),
                kept s s₃ d rest S.holds.3 (λ k h. keeps k (omega (arith, S.own k)) (omega (arith, S.own k, most k, P.alive k, G k))),
              ),
            );
            grown = λ k. omega (arith, G k, P.alive k, W.alive k);
            keeps = λ k h. keeps k (omega arith) (omega (arith, S.own k, most k, P.alive k, G k));
            spare =
                λ k z.
                let c = C.spare k (omega (arith, P.alive k, W.alive k)) in
                (c.0, W.keeps k (omega (arith, S.own k, c.0)) ∙ P.keeps k (omega (arith, P.alive k, W.alive k)) ∙ c.1);
            branches = omega (arith, C.branches, P.room.branches, W.room.branches);
            marks = omega (arith, C.marks, P.room.marks, W.room.marks);
            all = W.room.all ∙ P.room.all ∙ C.all;
            all_marks = W.room.all_marks ∙ P.room.all_marks ∙ C.all_marks;
          };
      same = refl;
      from = refl;
    }

-- From s₀ to s the loop has passed, and maybe changed, the records of t before `rest`. It is to make g₀ of
-- t, and what is left of that is to make g of `rest`.
pub record Walk (s₀ : Store) (d first : ℕ) (g₀ : Shape → Shape) (t : Records) (s : Store) (at n : ℕ) (g : Shape → Shape) : Type 0 where
  pub rest : Records
  pub fits : Fits s d at rest (g (shape rest))
  pub turns : siblings (shape rest) ≤ n
  pub finish : (s' : Store) (r' : Records) → Became s s' d rest (g (shape rest)) at r' → (t' : Records) × Became s₀ s' d t (g₀ (shape t)) first t'

-- the loop begins
pub start :
    (s : Store) (d first : ℕ) (g : Shape → Shape) (t : Records) → Fits s d first t (g (shape t)) → Walk s d first g t s first (in_use s) g
start s d first g t K =
    record { rest = t; fits = K; turns = omega (arith, K.steps, few (shape t)); finish = λ s' r' B. (r', B) }

-- What is read on the way.
module _
    {s₀ : Store} {d first : ℕ} {g₀ : Shape → Shape} {t : Records} {s : Store} {at n : ℕ} {g : Shape → Shape}
    (W : Walk s₀ d first g₀ t s at n g) (ne : at ≡ 0xffff_ffff → ⊥) where
  -- the branch at `at` is taken
  pub alive_branch : 0 < d → 0 < live s at
  alive_branch pos = rw (place_branch d at (λ z. omega arith)) at (taken s d at W.rest W.fits.stands W.fits.from ne)

  -- it lies in its slice
  pub there_branch : 0 < d → at < length s.branches.records.now
  there_branch pos = branch_inside s d at W.rest W.fits.from ne W.fits.stands (λ z. omega arith)

  -- and says what was read
  pub see_branch : {b : Branch} → 0 < d → slice_get s.branches.records.now at ≡ Some b → Found at (piece b.low b.high) b.below b.next W.rest
  see_branch pos read = found_branch s d at W.rest W.fits.from ne W.fits.stands.holds (λ z. omega arith) read

  -- so does a mark
  pub there_mark : d ≡ 0 → at < length s.marks.records.now
  there_mark z = mark_inside s d at W.rest W.fits.from ne W.fits.stands z

  pub see_mark : {m : Mark} → d ≡ 0 → slice_get s.marks.records.now at ≡ Some m → Found at (rule m.rule) 0xffff_ffff m.next W.rest
  see_mark z read = found_mark s d at W.rest W.fits.from ne W.fits.stands.holds z read

module _
    {s₀ : Store} {d first : ℕ} {g₀ : Shape → Shape} {t : Records} {s : Store} {at n : ℕ} {g : Shape → Shape} {l : Label} {bel next : ℕ}
    (W : Walk s₀ d first g₀ t s at n g) (F : Found at l bel next W.rest) where
  -- the record with what is left stands
  pub stands : Stands s d (item at l F.below F.rest)
  stands = subst (Stands s d) F.is W.fits.stands

  -- what follows the record stands too
  pub rest_stands : Stands s d F.rest
  rest_stands = record { holds = stands.holds.3; own = λ k. omega (arith, stands.own k) }

  -- and there is room for the work
  pub fits : Fits s d at (item at l F.below F.rest) (g (part l (shape F.below) (shape F.rest)))
  fits = subst (λ r. Fits s d at r (g (shape r))) F.is W.fits

  -- what makes g of the record at `at` and those after it, ends the work
  pub ended :
      (s' : Store) (r' : Records) (sh : Shape) → g (part l (shape F.below) (shape F.rest)) ≡ sh
      → Became s s' d (item at l F.below F.rest) sh at r' → (t' : Records) × Became s₀ s' d t (g₀ (shape t)) first t'
  ended s' r' sh e B =
      W.finish s' r'
      (subst (λ r. Became s s' d r (g (shape r)) at r') (sym F.is)
      (subst (λ q. Became s s' d (item at l F.below F.rest) q at r') (sym e) B))

  -- a turn that leaves the record's rest as it was
  pub step :
      (s₁ : Store) (l' : Label) (b' : Records) (g' : Shape → Shape)
      → Changed s s₁ d (item at l F.below F.rest) (item at l' b' F.rest)
      → g (part l (shape F.below) (shape F.rest)) ≡ part l' (shape b') (g' (shape F.rest))
      → Walk s₀ d first g₀ t s₁ next n g'
  step s₁ l' b' g' C e =
      let own : (k : ℕ) → count d (item at l' b' F.rest) k ≤ live s₁ k = λ k. omega (arith, C.grown k, stands.own k) in
      record {
        rest = F.rest;
        fits =
            record {
              stands = record { holds = C.holds.3; own = λ k. omega (arith, own k) };
              from = F.rest_from;
              steps = omega (arith, fits.steps, C.branches, C.marks);
              room = omega (arith, fits.room, ap branches_of e, C.branches, C.all);
              room_marks = omega (arith, fits.room_marks, ap marks_of e, C.marks, C.all_marks);
            };
        turns = omega (arith, W.turns, ap (λ r. siblings (shape r)) F.is);
        finish =
            λ s' r' B.
            let A = followed s₁ s' d at l' b' F.rest r' _ next (record { holds = C.holds; own = own }) F.rest_from B in
            ended s' (item at l' b' r') _ e
            (record { change = then s s₁ s' d _ _ _ C A.change; same = A.same; from = refl });
      }

  -- one that changes nothing
  pub pass :
      (g' : Shape → Shape) → g (part l (shape F.below) (shape F.rest)) ≡ part l (shape F.below) (g' (shape F.rest))
      → Walk s₀ d first g₀ t s next n g'
  pass g' e = step s l F.below g' (unchanged s d _ stands.holds) e

  -- the measure falls with each turn
  pub less : (s₁ : Store) → Holds s₁ d F.rest → chain n s₁ d next < chain n s d at
  less s₁ H =
      let steps : (s : Store) (a : ℕ) (r : Records) → Holds s d r → root r ≡ a → siblings (shape r) ≤ n → chain n s d a ≡ siblings (shape r) =
      λ s a r H e le. ap (chain n s d) (sym e) ∙ chain_is s d r n H le in
      let fewer = ap (λ r. siblings (shape r)) F.is in
      omega
      (arith, fewer, steps s₁ next F.rest H F.rest_from (omega (arith, W.turns)), steps s at W.rest W.fits.stands.holds W.fits.from W.turns)

-- nothing is left
pub done :
    {s₀ : Store} {d first : ℕ} {g₀ : Shape → Shape} {t : Records} {s : Store} {at n : ℕ} {g : Shape → Shape}
    → Walk s₀ d first g₀ t s at n g → g bare ≡ bare → at ≡ 0xffff_ffff → (t' : Records) × Became s₀ s d t (g₀ (shape t)) first t'
done {d = d} {s = s} {g = g} W z e =
    let end : W.rest ≡ none = empty s d W.rest W.fits.stands.holds (W.fits.from ∙ e) in
    W.finish s W.rest
    (record {
      change = unchanged s d W.rest W.fits.stands.holds;
      same = subst (λ r. shape r ≡ g (shape r)) (sym end) (sym z);
      from = W.fits.from;
    })
