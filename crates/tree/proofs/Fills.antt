-- New branches in the gaps of a span. Assumes nothing.
use Rattle.std.proofs.Common.{◌≡◌, ℕ, ◌+◌, ◌-◌, ◌<◌, ◌≤◌, min, max, ltb, leb, length, slice_get, Some, None, Option, sym, refl, ap, ◌∙◌, subst, arith}
use Rattle.std.proofs.lemmas.Bool.{cond-true, cond-false, lt-ltb, le-leb, lt-leb, le-ltb, cond_both}
use Rattle.shape.specs.Shapes.{Label, piece, rule, Shape, bare, part, branches_of, marks_of, siblings, gaps}
use Rattle.tree.specs.Memory.{rec, space, live, Written, Pushed, next_of, with_next, look}
use Rattle.tree.specs.Links.{Records, none, item, shape, root, place, count, Stands, Changed, Fits, Became, tail, Gap, Inserted}
use Rattle.shape.specs.Meaning.{Upward}
use Rattle.routing.specs.declared.ends.Ends.{Ends}
use Rattle.tree.specs.declared.records.Store.{Store}
use Rattle.tree.proofs.Places.{live_most, place_branch}
use Rattle.tree.specs.declared.records.Branch.{Branch}
use Rattle.tree.proofs.Frames.{kept, Found, unchanged, then, found_branch}
use Rattle.tree.proofs.Changing.{Walk, followed, inserted, stands, fits, ended}
use Rattle.tree.proofs.Grows.{Grows, same_grows, part_grows}
use Rattle.tree.proofs.Copies.{new_branch, written_branch}

-- past the interval there is no gap
pub gaps_stop : (w h : ℕ) (r : Shape) → h < w → gaps w h r ≡ r
gaps_stop w h bare l = cond-false _ _ _ (lt-leb w h l)
gaps_stop w h (part (piece a b) below rest) l = cond-false _ _ _ (lt-leb w h l)
gaps_stop w h (part (rule i) below rest) l = refl

-- after all branches what is left is a gap
pub gaps_end : (w h : ℕ) → w ≤ h → gaps w h bare ≡ part (piece w h) bare bare
gaps_end w h l = cond-true _ _ _ (le-leb w h l)

-- a branch that begins at w or below leaves no gap before it
pub gaps_over : (w h a b : ℕ) (below rest : Shape) → w ≤ h → a ≤ w → gaps w h (part (piece a b) below rest) ≡ tail w h (part (piece a b) below rest)
gaps_over w h a b below rest l m = cond-true _ _ _ (le-leb w h l) ∙ cond-false _ _ _ (le-ltb w a m)

-- one that begins above w does
pub gaps_gap :
    (w h a b : ℕ) (below rest : Shape) → w ≤ h → w < a
    → gaps w h (part (piece a b) below rest) ≡ part (piece w (min h (a - 1))) bare (tail w h (part (piece a b) below rest))
gaps_gap w h a b below rest l m = cond-true _ _ _ (le-leb w h l) ∙ cond-true _ _ _ (lt-ltb w a m)

-- filling takes no less room
pub gaps_grows : (w h : ℕ) (sh : Shape) → Grows sh (gaps w h sh)
gaps_grows w h bare =
    let new : Grows bare (part (piece w h) bare bare) = record { branches = omega arith; marks = omega arith } in
    cond_both _ _ _ (Grows bare) (λ _. new) (λ _. same_grows bare)
gaps_grows w h (part (piece a b) below rest) =
    let g = gaps_grows (max w (b + 1)) h rest in
    let new : Grows (part (piece a b) below rest) (part (piece w (min h (a - 1))) bare (part (piece a b) below (gaps (max w (b + 1)) h rest))) =
    record { branches = omega arith; marks = omega arith } in
    cond_both (leb w h) _ _ (Grows (part (piece a b) below rest))
    (λ _. cond_both (ltb w a) _ _ (Grows (part (piece a b) below rest)) (λ _. new) (λ _. part_grows _ _ _ _ _ (same_grows below) g))
    (λ _. same_grows (part (piece a b) below rest))
gaps_grows w h (part (rule i) below rest) = same_grows (part (rule i) below rest)

-- nor without the first gap
pub tail_grows : (w h : ℕ) (sh : Shape) → Grows sh (tail w h sh)
tail_grows w h bare = same_grows bare
tail_grows w h (part (piece a b) below rest) = part_grows _ _ _ _ _ (same_grows below) (gaps_grows _ h rest)
tail_grows w h (part (rule i) below rest) = same_grows (part (rule i) below rest)

-- a new record before a tree
pub fronted :
    (s s' : Store) (d new first : ℕ) (l : Label) (t : Records)
    → Stands s d t → root t ≡ first → new < 0xffff_ffff → Pushed s s' (place d new) (rec l 0xffff_ffff first)
    → Changed s s' d t (item new l none t)
fronted s s' d new first l t S from low P =
    let most = live_most s' in
    record {
      holds = (
        low,
        P.here ∙ ap (rec l 0xffff_ffff) (sym from),
        tt,
        kept s s' d t S.holds (λ k h. P.keeps k (omega (arith, S.own k, P.alive k, most k))),
      );
      grown = λ k. omega (arith, P.alive k);
      keeps = λ k h. P.keeps k (omega (arith, P.alive k, most k));
      spare = λ k z. (omega (arith, P.alive k), P.keeps k (omega (arith, P.alive k)));
      branches = omega (arith, P.room.branches);
      marks = omega (arith, P.room.marks);
      all = P.room.all;
      all_marks = P.room.all_marks;
    }

-- A turn of a loop that puts a new record after the one at `at`, and goes on after both.
module _
    {s₀ : Store} {d first : ℕ} {g₀ : Shape → Shape} {t : Records} {s : Store} {at n : ℕ} {g : Shape → Shape} {l : Label} {bel next : ℕ}
    (W : Walk s₀ d first g₀ t s at n g) (F : Found at l bel next W.rest) where
  -- the record, the new one, and on
  pub step_two :
      (s₁ : Store) (new : ℕ) (m : Label) (g' : Shape → Shape)
      → Changed s s₁ d (item at l F.below F.rest) (item at l F.below (item new m none F.rest))
      → g (part l (shape F.below) (shape F.rest)) ≡ part l (shape F.below) (part m bare (g' (shape F.rest)))
      → Walk s₀ d first g₀ t s₁ next n g'
  step_two s₁ new m g' C e =
      let S = stands W F in
      let K = fits W F in
      let own : (k : ℕ) → count d (item at l F.below (item new m none F.rest)) k ≤ live s₁ k = λ k. omega (arith, C.grown k, S.own k) in
      record {
        rest = F.rest;
        fits =
            record {
              stands = record { holds = C.holds.3.3; own = λ k. omega (arith, own k) };
              from = F.rest_from;
              steps = omega (arith, K.steps, C.branches, C.marks);
              room = omega (arith, K.room, ap branches_of e, C.branches, C.all);
              room_marks = omega (arith, K.room_marks, ap marks_of e, C.marks, C.all_marks);
            };
        turns = omega (arith, W.turns, ap (λ r. siblings (shape r)) F.is);
        finish =
            λ s' r' B.
            let A = followed s₁ s' d new m none F.rest r' _ next (record { holds = C.holds.3; own = λ k. omega (arith, own k) }) F.rest_from B in
            let D = followed s₁ s' d at l F.below _ _ _ new (record { holds = C.holds; own = own }) refl A in
            ended W F s' _ _ e (record { change = then s s₁ s' d _ _ _ C D.change; same = D.same; from = refl });
      }

module _
    (w₀ h w : ℕ) {s₀ : Store} {d first : ℕ} {t : Records} {s : Store} {at n : ℕ} {a b bel next : ℕ}
    (W : Walk s₀ d first (tail w₀ h) t s at n (tail w h)) (F : Found at (piece a b) bel next W.rest) where
  -- the branch at `at` goes to the end of the span
  pub full : h ≤ b → (t' : Records) × Became s₀ s d t (tail w₀ h (shape t)) first t'
  full l =
      let g : h < max w (b + 1) = omega arith in
      ended W F s (item at (piece a b) F.below F.rest) _ (ap (part (piece a b) (shape F.below)) (gaps_stop (max w (b + 1)) h (shape F.rest) g))
      (record { change = unchanged s d _ (stands W F).holds; same = refl; from = refl })

  module _ (w' : ℕ) (is : w' ≡ max w (b + 1)) where
    -- what is to be done after the branch
    next_gaps : tail w h (part (piece a b) (shape F.below) (shape F.rest)) ≡ part (piece a b) (shape F.below) (gaps w' h (shape F.rest))
    next_gaps = ap (λ v. part (piece a b) (shape F.below) (gaps v h (shape F.rest))) (sym is)

    -- no gap comes after it
    pub over_is : Gap (record { low = w'; high = h }) (shape F.rest) None → tail w h (part (piece a b) (shape F.below) (shape F.rest)) ≡ part (piece a b) (shape F.below) (tail w' h (shape F.rest))
    over_is G = next_gaps ∙ ap (part (piece a b) (shape F.below)) G

    -- a gap comes after it
    module _ (gap : Ends) (G : Gap (record { low = w'; high = h }) (shape F.rest) (Some gap)) where
      pub gap_is : tail w h (part (piece a b) (shape F.below) (shape F.rest)) ≡ part (piece a b) (shape F.below) (part (piece gap.low gap.high) bare (tail w' h (shape F.rest)))
      gap_is = next_gaps ∙ ap (part (piece a b) (shape F.below)) G

      pub room_gap : s.branches.taken < space (length s.branches.records.now)
      room_gap = omega (arith, (fits W F).room, ap branches_of gap_is, (tail_grows w' h (shape F.rest)).branches)

      pub gap_change :
          (s₁ s₂ : Store) (new : ℕ) → 0 < d → Inserted s s₁ s₂ at gap new
          → Changed s s₂ d (item at (piece a b) F.below F.rest) (item at (piece a b) F.below (item new (piece gap.low gap.high) none F.rest))
      gap_change s₁ s₂ new pos N =
          let ne : d ≡ 0 → ⊥ = λ z. omega arith in
          let read : look s at ≡ rec (piece a b) (root F.below) (root F.rest) = ap (look s) (sym (place_branch d at ne)) ∙ (stands W F).holds.1 in
          (inserted s s s₁ s₂ d at new 0xffff_ffff _ _ _ F.below F.rest none (stands W F) (unchanged s _ none tt) refl N.small
          (subst (λ i. Pushed s s₁ (place d new) (rec (piece gap.low gap.high) 0xffff_ffff i)) (ap next_of read) (new_branch s s₁ d new _ ne N.pushed))
          (written_branch s₁ s₂ d at _ ne (subst (λ x. Written s₁ s₂ at (with_next x new)) read N.written))
          refl refl).change

-- The gap before a node's branches, by what was read.
module _
    (s : Store) (d next : ℕ) (span : Ends) (t : Records) (S : Stands s d t) (e : root t ≡ next) (ne : next ≡ 0xffff_ffff → ⊥)
    (pos : 0 < d) (b : Branch) (read : slice_get s.branches.records.now next ≡ Some b) (l : Upward span) where
  -- the first of the branches, as it was read
  seen : Found next (piece b.low b.high) b.below b.next t
  seen = found_branch s d next t e ne S.holds (λ z. omega arith) read

  -- it begins above
  pub gap_there : (to : ℕ) → to ≡ min span.high (b.low - 1) → span.low < b.low → Gap span (shape t) (Some (record { low = span.low; high = to }))
  gap_there to is m =
      subst (λ t. Gap span (shape t) (Some (record { low = span.low; high = to }))) (sym seen.is)
      (gaps_gap span.low span.high b.low b.high (shape seen.below) (shape seen.rest) l m ∙ ap (λ n. part (piece span.low n) bare (tail span.low span.high (shape (item next (piece b.low b.high) seen.below seen.rest)))) (sym is))

  -- it begins at or below
  pub no_gap : b.low ≤ span.low → Gap span (shape t) None
  no_gap m = subst (λ t. Gap span (shape t) None) (sym seen.is) (gaps_over span.low span.high b.low b.high (shape seen.below) (shape seen.rest) l m)

-- The gap before the first branch is filled last.
module _ (s : Store) (d first : ℕ) (span : Ends) (t : Records) (K : Fits s d first t (gaps span.low span.high (shape t))) (o : Option Ends) (G : Gap span (shape t) o) where
  -- there is room for the other gaps
  pub tail_fits : Fits s d first t (tail span.low span.high (shape t))
  tail_fits = front o G
    where
      front : (o : Option Ends) → Gap span (shape t) o → Fits s d first t (tail span.low span.high (shape t))
      front None G = subst (Fits s d first t) G K
      front (Some gap) G =
          record { stands = K.stands; from = K.from; steps = K.steps; room = omega (arith, K.room, ap branches_of G); room_marks = omega (arith, K.room_marks, ap marks_of G) }

module _ (s : Store) (d first : ℕ) (span : Ends) (t : Records) (K : Fits s d first t (gaps span.low span.high (shape t))) (s₁ : Store) (t₁ : Records) (B : Became s s₁ d t (tail span.low span.high (shape t)) first t₁) where
  module _ (gap : Ends) (G : Gap span (shape t) (Some gap)) where
    -- a branch before it is the new first
    pub first_filled :
        (s₂ : Store) (r : ℕ) → r < 0xffff_ffff → Pushed s₁ s₂ (place d r) (rec (piece gap.low gap.high) 0xffff_ffff first)
        → (u : Records) × Became s s₂ d t (gaps span.low span.high (shape t)) r u
    first_filled s₂ r low P =
        let S : Stands s₁ d t₁ = record { holds = B.change.holds; own = λ k. omega (arith, K.stands.own k, B.change.grown k) } in (
          item r (piece gap.low gap.high) none t₁,
          record {
            change = then s s₁ s₂ d t t₁ _ B.change (fronted s₁ s₂ d r first (piece gap.low gap.high) t₁ S B.from low P);
            same = ap (part (piece gap.low gap.high) bare) B.same ∙ sym G;
            from = refl;
          },
        )
