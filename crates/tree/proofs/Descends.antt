-- The rest of a rule, below the branches of a node. Assumes nothing.
use Rattle.std.proofs.Common.{◌≡◌, ℕ, ◌+◌, ◌-◌, ◌<◌, Bool, true, false, cond, ◌&&◌, eqb, leb, Some, None, List, [], ◌∷◌, length, get_or, take, drop, sym, refl, ap, ◌∙◌, subst, arith}
use Rattle.std.proofs.lemmas.Bool.{cond-true, cond-false, cond_both, ne_eqb}
use Rattle.std.proofs.lemmas.List.{take_rest}
use Rattle.std.specs.List.{AllByRecursion}
use Rattle.shape.specs.Shapes.{Label, piece, rule, Shape, bare, part, branches_of, marks_of, cut_at, under, cut_above, ready, insert}
use Rattle.shape.specs.Meaning.{Upward}
use Rattle.tree.specs.Memory.{rec, live, Written}
use Rattle.tree.specs.Links.{Records, item, shape, root, place, Stands, Changed, Fits, Became, Intervals}
use Rattle.tree.specs.declared.records.Store.{Store}
use Rattle.routing.specs.declared.ends.Ends.{Ends}
use Rattle.tree.proofs.Places.{one_self, live_most, place_branch}
use Rattle.tree.proofs.Frames.{kept, Found, then}
use Rattle.tree.proofs.Changing.{Walk, stands, fits, step}
use Rattle.tree.proofs.Grows.{Grows, same_grows, part_grows}
use Rattle.tree.proofs.Fills.{gaps_grows}
use Rattle.tree.proofs.Adds.{marks_add, branches_add}

-- each step of an append takes no less room: a cut
pub cut_grows : (x : ℕ) (sh : Shape) → Grows sh (cut_at x sh)
cut_grows x bare = same_grows bare
cut_grows x (part (piece a b) below rest) =
    let halves : Grows (part (piece a b) below rest) (part (piece a (x - 1)) below (part (piece x b) below rest)) =
    record { branches = omega arith; marks = omega arith } in
    cond_both _ _ _ (Grows (part (piece a b) below rest)) (λ _. halves) (λ _. part_grows _ _ _ _ _ (same_grows below) (cut_grows x rest))
cut_grows x (part (rule i) below rest) = part_grows _ _ _ _ _ (same_grows below) (cut_grows x rest)

-- a cut above
pub above_grows : (x : ℕ) (sh : Shape) → Grows sh (cut_above x sh)
above_grows x sh = cond_both _ _ _ (Grows sh) (λ _. same_grows sh) (λ _. cut_grows (x + 1) sh)

-- the work below the branches
pub under_grows : (low high : ℕ) (f : Shape → Shape) → ((sh : Shape) → Grows sh (f sh)) → (sh : Shape) → Grows sh (under low high f sh)
under_grows low high f fg bare = same_grows bare
under_grows low high f fg (part (piece a b) below rest) =
    part_grows _ _ _ _ _ (cond_both _ _ _ (Grows below) (λ _. fg below) (λ _. same_grows below)) (under_grows low high f fg rest)
under_grows low high f fg (part (rule i) below rest) = part_grows _ _ _ _ _ (same_grows below) (under_grows low high f fg rest)

-- cuts and gaps together
pub ready_grows : (low high : ℕ) (sh : Shape) → Grows sh (ready low high sh)
ready_grows low high sh =
    let a = cut_grows low sh in
    let b = above_grows high (cut_at low sh) in
    let c = gaps_grows low high (cut_above high (cut_at low sh)) in
    record { branches = omega arith; marks = omega arith }

pub insert_grows : (fs : List Ends) (i : ℕ) (sh : Shape) → Grows sh (insert fs i sh)
insert_grows [] i sh = record { branches = omega (arith, branches_add i sh); marks = omega (arith, marks_add i sh) }
insert_grows (f ∷ fs) i sh =
    let a = ready_grows f.low f.high sh in
    let b = under_grows f.low f.high (insert fs i) (insert_grows fs i) (ready f.low f.high sh) in
    record { branches = omega arith; marks = omega arith }

-- A change of what is below a record, and its link to that.
pub relinked :
    (s s₁ s₂ : Store) (d at : ℕ) (l : Label) (below rest b' : Records) (sh : Shape) (bel next : ℕ)
    → Stands s d (item at l below rest) → Became s s₁ (d - 1) below sh bel b' → root rest ≡ next
    → Written s₁ s₂ (place d at) (rec l bel next) → Changed s s₂ d (item at l below rest) (item at l b' rest)
relinked s s₁ s₂ d at l below rest b' sh bel next S B e W =
    let C = B.change in
    let most = live_most s in
    let most₁ = live_most s₁ in
    record {
      holds = (
        S.holds.0,
        W.here ∙ ap (λ b. rec l b next) (sym B.from) ∙ ap (rec l (root b')) (sym e),
        kept s₁ s₂ (d - 1) b' C.holds (λ k h. W.keeps k (omega (arith, S.own k, C.grown k, most₁ k))),
        kept s s₂ d rest S.holds.3
            (λ k h. W.keeps k (omega (arith, S.own k, most k)) ∙ C.keeps k (omega (arith, S.own k))),
      );
      grown = λ k. omega (arith, C.grown k, W.alive k);
      keeps = λ k h. W.keeps k (omega (arith, most k)) ∙ C.keeps k (omega arith);
      spare = λ k z. let c = C.spare k (omega (arith, W.alive k)) in (c.0, W.keeps k (omega (arith, S.own k, c.0)) ∙ c.1);
      branches = omega (arith, C.branches, W.room.branches);
      marks = omega (arith, C.marks, W.room.marks);
      all = W.room.all ∙ C.all;
      all_marks = W.room.all_marks ∙ C.all_marks;
    }

module _
    (low high : ℕ) (fs : List Ends) (i : ℕ)
    {s₀ : Store} {d first : ℕ} {t : Records} {s : Store} {at n a b bel next : ℕ}
    (W : Walk s₀ d first (under low high (insert fs i)) t s at n (under low high (insert fs i)))
    (F : Found at (piece a b) bel next W.rest) where
  -- a branch that is not within the interval stays
  pub under_past :
      (leb low a && leb b high) ≡ false
      → under low high (insert fs i) (part (piece a b) (shape F.below) (shape F.rest)) ≡ part (piece a b) (shape F.below) (under low high (insert fs i) (shape F.rest))
  under_past out = ap (λ x. part (piece a b) x (under low high (insert fs i) (shape F.rest))) (cond-false _ _ _ out)

  module _ (ins : (leb low a && leb b high) ≡ true) where
    -- one that is gets the rest of the rule
    pub under_here :
        under low high (insert fs i) (part (piece a b) (shape F.below) (shape F.rest)) ≡ part (piece a b) (insert fs i (shape F.below)) (under low high (insert fs i) (shape F.rest))
    under_here =
        ap (λ x. part (piece a b) x (under low high (insert fs i) (shape F.rest))) (cond-true _ _ _ ins)

    -- there is room for the rest of the rule below it
    pub below_fits : Fits s (d - 1) bel F.below (insert fs i (shape F.below))
    below_fits =
        let S = stands W F in
        let g = under_grows low high (insert fs i) (insert_grows fs i) (shape F.rest) in
        record {
          stands = record { holds = S.holds.2; own = λ k. omega (arith, S.own k) };
          from = F.below_from;
          steps = omega (arith, (fits W F).steps);
          room = omega (arith, (fits W F).room, ap branches_of under_here);
          room_marks = omega (arith, (fits W F).room_marks, ap marks_of under_here);
        }

    -- the branch is still taken after that
    pub alive_after :
        (s₁ : Store) (bel' : ℕ) (b' : Records) → Became s s₁ (d - 1) F.below (insert fs i (shape F.below)) bel' b' → 0 < d → 0 < live s₁ at
    alive_after s₁ bel' b' B pos =
        let p = place d at in
        let S = stands W F in
        let still : 0 < live s₁ p = omega (arith, S.own p, one_self p, B.change.grown p) in
        rw (place_branch d at (λ z. omega arith)) at still

    -- the rest of the rule is below, and linked
    module _
        (s₁ s₂ : Store) (bel' : ℕ) (b' : Records) (B : Became s s₁ (d - 1) F.below (insert fs i (shape F.below)) bel' b')
        (Q : Written s₁ s₂ (place d at) (rec (piece a b) bel' next)) where
      pub turn_change : Changed s s₂ d (item at (piece a b) F.below F.rest) (item at (piece a b) b' F.rest)
      turn_change = relinked s s₁ s₂ d at (piece a b) F.below F.rest b' _ bel' next (stands W F) B F.rest_from Q

      pub turned : Walk s₀ d first (under low high (insert fs i)) t s₂ next n (under low high (insert fs i))
      turned =
          step W F s₂ (piece a b) b' (under low high (insert fs i)) turn_change
          (under_here ∙ ap (λ x. part (piece a b) x (under low high (insert fs i) (shape F.rest))) (sym B.same))

-- Before a step that makes sh of a tree on the way to sh', and after it.
pub weaker : (s : Store) (d first : ℕ) (t : Records) (sh sh' : Shape) → Grows sh sh' → Fits s d first t sh' → Fits s d first t sh
weaker s d first t sh sh' g K =
    record { stands = K.stands; from = K.from; steps = K.steps; room = omega (arith, K.room); room_marks = omega (arith, K.room_marks) }

pub after :
    (s s' : Store) (d first r : ℕ) (t t' : Records) (sh sh' : Shape) → Fits s d first t sh' → Became s s' d t sh r t' → Fits s' d r t' sh'
after s s' d first r t t' sh sh' K B =
    let C = B.change in
    record {
      stands = record { holds = C.holds; own = λ k. omega (arith, K.stands.own k, C.grown k) };
      from = B.from;
      steps = omega (arith, K.steps, C.branches, C.marks);
      room = omega (arith, K.room, C.branches, C.all);
      room_marks = omega (arith, K.room_marks, C.marks, C.all_marks);
    }

-- the cut is where one above says
pub above_some : (high a : ℕ) (sh : Shape) → Some a ≡ cond (eqb high 0xffff_ffff) None (Some (high + 1)) → cut_above high sh ≡ cut_at a sh
above_some high a sh e = by (eqb high 0xffff_ffff) e
  where
    -- by whether it is the last number
    by : (t : Bool) → Some a ≡ cond t None (Some (high + 1)) → cond t sh (cut_at (high + 1) sh) ≡ cut_at a sh
    by true e = let z : ◌≡◌ {A = ℕ} 0 1 = cc in absurd (let n : ⊥ = omega arith in n)
    by false e = let q : high + 1 ≡ a = cc in ap (λ x. cut_at x sh) q

-- below the last number a cut above is a cut
pub above_is : (high : ℕ) (sh : Shape) → (high ≡ 0xffff_ffff → ⊥) → cut_above high sh ≡ cut_at (high + 1) sh
above_is high sh ne = cond-false _ _ _ (ne_eqb high 0xffff_ffff ne)

-- A step that makes g, on the way to h of that.
module _ (g h : Shape → Shape) where
  -- before the step there is room for it
  pub ahead : (s : Store) (d first : ℕ) (t : Records) → ((sh : Shape) → Grows sh (h sh)) → Fits s d first t (h (g (shape t))) → Fits s d first t (g (shape t))
  ahead s d first t grow K = weaker s d first t _ _ (grow (g (shape t))) K

  -- after it there is room for what follows
  pub onward :
      (s s' : Store) (d first r : ℕ) (t t' : Records) → Fits s d first t (h (g (shape t))) → Became s s' d t (g (shape t)) r t' → Fits s' d r t' (h (shape t'))
  onward s s' d first r t t' K B = subst (λ q. Fits s' d r t' (h q)) (sym B.same) (after s s' d first r t t' _ _ K B)

  -- the two together
  pub chained :
      (s s₁ s₂ : Store) (d r r' : ℕ) (t t₁ t₂ : Records)
      → Became s s₁ d t (g (shape t)) r t₁ → Became s₁ s₂ d t₁ (h (shape t₁)) r' t₂ → Became s s₂ d t (h (g (shape t))) r' t₂
  chained s s₁ s₂ d r r' t t₁ t₂ A B =
      record {
        change = then s s₁ s₂ d t t₁ t₂ A.change B.change;
        same = B.same ∙ ap h A.same;
        from = B.from;
      }

-- with no field left, no interval is
pub no_ends : (xs : List Ends) (n : ℕ) → n ≡ length xs → n ≡ 0 → xs ≡ []
no_ends [] n e z = refl
no_ends (x ∷ xs) n e z = absurd (omega arith)

-- the first interval of a rule, and the others
abbrev pub first_ends : List Ends → Ends
first_ends xs = get_or xs 0 (record { low = 0; high = 0 })

abbrev pub other_ends : List Ends → List Ends
other_ends xs = take (length xs - 1) (drop 1 xs)

-- a rule with a field left is its first interval and the others
pub record Split (d : ℕ) (xs : List Ends) : Type 0 where
  pub is : xs ≡ first_ends xs ∷ other_ends xs
  pub upward : Upward (first_ends xs)
  pub rest : Intervals (d - 1) (other_ends xs)

pub split : (d : ℕ) (xs : List Ends) → Intervals d xs → 0 < d → Split d xs
split d [] R pos = absurd (omega (arith, R.fields))
split d (x ∷ xs) R pos =
    let is : x ∷ xs ≡ x ∷ other_ends (x ∷ xs) = ap (λ ys. x ∷ ys) (sym (take_rest (x ∷ xs) 1)) in
    let up = subst (AllByRecursion Upward) is R.upward in
    record { is = is; upward = up.0; rest = record { fields = omega (arith, R.fields, ap length is); upward = up.1 } }
