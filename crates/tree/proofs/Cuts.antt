-- The cut of a branch in place. Assumes nothing.
use Rattle.std.proofs.Common.{◌≡◌, ℕ, ◌+◌, ◌-◌, ◌<◌, ◌≤◌, false, ◌&&◌, ltb, leb, length, sym, refl, ap, ◌∙◌, subst, arith}
use Rattle.std.proofs.lemmas.Bool.{cond-true, cond-false, lt-ltb, le-leb, and_from}
use Rattle.std.proofs.lemmas.Bool.Decides.{nat_tests}
use Rattle.shape.specs.Shapes.{piece, Shape, part, branches_of, marks_of, cut_at}
use Rattle.tree.specs.Memory.{rec, space, Written, Pushed}
use Rattle.tree.specs.Links.{Records, shape, place, Copiable, Copied, Became}
use Rattle.tree.specs.declared.records.Store.{Store}
use Rattle.tree.proofs.Frames.{Found}
use Rattle.tree.proofs.Changing.{Walk, inserted, stands, fits, ended}

-- a branch that does not have x strictly inside is not cut
pub cut_past :
    (x low high : ℕ) (b r : Shape) → (low < x → x ≤ high → ⊥)
    → cut_at x (part (piece low high) b r) ≡ part (piece low high) b (cut_at x r)
cut_past x low high b r out =
    let e : (ltb low x && leb x high) ≡ false = grind (arith, nat_tests) in cond-false _ _ _ e

-- one that has is cut in two
pub cut_here :
    (x low high : ℕ) (b r : Shape) → low < x → x ≤ high
    → cut_at x (part (piece low high) b r) ≡ part (piece low (x - 1)) b (part (piece x high) b r)
cut_here x low high b r l h = cond-true _ _ _ (and_from _ _ (lt-ltb low x l) (le-leb x high h))

module _
    {s₀ : Store} {d first x : ℕ} {t : Records} {s : Store} {at n low high bel next : ℕ}
    (W : Walk s₀ d first (cut_at x) t s at n (cut_at x)) (F : Found at (piece low high) bel next W.rest) (l : low < x) (h : x ≤ high) where
  -- what becomes of the node
  e : cut_at x (part (piece low high) (shape F.below) (shape F.rest)) ≡ part (piece low (x - 1)) (shape F.below) (part (piece x high) (shape F.below) (shape F.rest))
  e = cut_here x low high (shape F.below) (shape F.rest) l h

  -- there is room for the upper part and the copy
  pub room : s.branches.taken + (1 + branches_of (shape F.below)) ≤ space (length s.branches.records.now)
  room = omega (arith, (fits W F).room, ap branches_of e)

  -- what is below can be copied
  pub copiable : Copiable s (d - 1) bel F.below
  copiable =
      let S = stands W F in
      record {
        stands = record { holds = S.holds.2; own = λ k. omega (arith, S.own k) };
        from = F.below_from;
        steps = omega (arith, (fits W F).steps);
        room = omega (arith, room);
        room_marks = omega (arith, (fits W F).room_marks, ap marks_of e);
      }

  -- the branch is cut, and the loop ends
  pub halved :
      (s₁ s₂ s₃ : Store) (new bel₂ : ℕ) (u : Records) → Copied s s₁ (d - 1) F.below bel₂ u → new < 0xffff_ffff
      → Pushed s₁ s₂ (place d new) (rec (piece x high) bel₂ next) → Written s₂ s₃ (place d at) (rec (piece low (x - 1)) bel new)
      → (t' : Records) × Became s₀ s₃ d t (cut_at x (shape t)) first t'
  halved s₁ s₂ s₃ new bel₂ u C small P Q =
      let sh : Shape → Shape = λ b. part (piece low (x - 1)) (shape F.below) (part (piece x high) b (shape F.rest)) in
      ended W F s₃ _ _ (e ∙ ap sh (sym C.same))
      (inserted s s₁ s₂ s₃ d at new bel₂ _ _ _ F.below F.rest u (stands W F) C.change C.from small
      (subst (λ i. Pushed s₁ s₂ (place d new) (rec (piece x high) bel₂ i)) (sym F.rest_from) P)
      (subst (λ i. Written s₂ s₃ (place d at) (rec (piece low (x - 1)) i new)) (sym F.below_from) Q)
      refl refl)
