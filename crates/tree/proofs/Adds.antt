-- A mark at the end of a cell. Assumes nothing.
use Rattle.std.proofs.Common.{◌≡◌, ℕ, ◌+◌, ◌<◌, slice_get, Some, sym, refl, ap, ◌∙◌, subst, arith}
use Rattle.shape.specs.Shapes.{Label, rule, Shape, bare, part, branches_of, marks_of, add_mark}
use Rattle.tree.specs.Memory.{rec, link_of, Written, Pushed}
use Rattle.tree.specs.Links.{Records, none, item, shape, place, Fits, Became, chain}
use Rattle.tree.specs.declared.records.Store.{Store}
use Rattle.tree.proofs.Frames.{empty, Found, unchanged, topped}
use Rattle.tree.specs.declared.records.Mark.{Mark}
use Rattle.tree.proofs.Leading.{link_on}
use Rattle.tree.proofs.Changing.{Walk, inserted, stands, ended, see_mark, pass, less}

-- one mark more
pub marks_add : (i : ℕ) (sh : Shape) → marks_of (add_mark i sh) ≡ marks_of sh + 1
marks_add i bare = refl
marks_add i (part l b r) = omega (arith, marks_add i r)

-- and no branch
pub branches_add : (i : ℕ) (sh : Shape) → branches_of (add_mark i sh) ≡ branches_of sh
branches_add i bare = refl
branches_add i (part l b r) = omega (arith, branches_add i r)

-- the first mark of a cell
pub first_mark :
    (s s' : Store) (i first r : ℕ) (t : Records) → Fits s 0 first t (add_mark i (shape t)) → first ≡ 0xffff_ffff → r < 0xffff_ffff
    → Pushed s s' (place 0 r) (rec (rule i) 0xffff_ffff 0xffff_ffff) → (u : Records) × Became s s' 0 t (add_mark i (shape t)) r u
first_mark s s' i first r t K e low P =
    let z : none ≡ t = sym (empty s 0 t K.stands.holds (K.from ∙ e)) in (
      item r (rule i) none none,
      subst (λ t. Became s s' 0 t (add_mark i (shape t)) r (item r (rule i) none none)) z
          (record { change = topped s s s' 0 none r (rule i) (unchanged s _ none tt) low P; same = refl; from = refl }),
    )

-- one after the last
pub last_mark :
    {s₀ : Store} {first i : ℕ} {t : Records} {s : Store} {at n bel next : ℕ} {l : Label} (s₂ s₃ : Store) (new : ℕ)
    → (W : Walk s₀ 0 first (add_mark i) t s at n (add_mark i)) → (F : Found at l bel next W.rest) → next ≡ 0xffff_ffff → new < 0xffff_ffff
    → Pushed s s₂ (place 0 new) (rec (rule i) 0xffff_ffff 0xffff_ffff)
    → Written s₂ s₃ (place 0 at) (rec l bel new)
    → (t' : Records) × Became s₀ s₃ 0 t (add_mark i (shape t)) first t'
last_mark {s₀} {first} {i} {t} {s} {at} {n} {bel} {next} {l} s₂ s₃ new W F e low P Q =
    let S = stands W F in
    let z : F.rest ≡ none = empty s 0 F.rest S.holds.3 (F.rest_from ∙ e) in
    ended W F s₃ _ _ (ap (λ r. part l (shape F.below) (add_mark i (shape r))) z ∙ ap (λ r. part l (shape F.below) (part (rule i) bare (shape r))) (sym z))
    (inserted s s s₂ s₃ 0 at new 0xffff_ffff l l (rule i) F.below F.rest none S (unchanged s _ none tt) refl low
    (subst (λ x. Pushed s s₂ (place 0 new) (rec (rule i) 0xffff_ffff x)) (sym (F.rest_from ∙ e)) P)
    (subst (λ x. Written s₂ s₃ (place 0 at) (rec l x new)) (sym F.below_from) Q)
    refl refl)

-- A turn of the loop goes on from a mark to the next.
module _
    {s : Store} {first i at n next : ℕ} {t : Records} {m : Mark}
    (W : Walk s 0 first (add_mark i) t s at n (add_mark i)) (ne : at ≡ 0xffff_ffff → ⊥)
    (read : slice_get s.marks.records.now at ≡ Some m) (on : Some next ≡ link_of m.next) where
  -- the work is still to be done from there on
  pub onto : Walk s 0 first (add_mark i) t s next n (add_mark i)
  onto =
      subst (λ a. Walk s 0 first (add_mark i) t s a n (add_mark i)) (sym (link_on m.next next on).0)
      (pass W (see_mark W ne refl read) (add_mark i) refl)

  -- and the end is nearer
  pub nearer : chain n s 0 next < chain n s 0 at
  nearer =
      let F = see_mark W ne refl read in
      subst (λ a. chain n s 0 a < chain n s 0 at) (sym (link_on m.next next on).0) (less W F s (stands W F).holds.3)
