-- The loop of copy_node. Assumes nothing.
use Rattle.std.proofs.Common.{◌≡◌, ℕ, ◌+◌, ◌-◌, ◌<◌, ◌≤◌, Some, sym, refl, ap, ◌∙◌, subst, arith}
use Rattle.shape.specs.Shapes.{Label, branches_of, marks_of, siblings}
use Rattle.tree.specs.Memory.{one, Rec, rec, next_of, with_next, link_of, mark_place, live, look, Written, Pushed, in_use}
use Rattle.tree.specs.Links.{Records, none, item, shape, root, place, Holds, count, Changed, Copiable, Copied, CopiedOne, chain}
use Rattle.tree.specs.declared.records.Store.{Store}
use Rattle.tree.proofs.Places.{one_self, live_most, place_mark, place_branch}
use Rattle.tree.proofs.Leading.{link_on}
use Rattle.tree.proofs.Frames.{kept, empty, opened, Found, chain_is, few, unchanged, then, topped}

-- copy_branch

-- a new branch at its place
pub new_branch : (s s' : Store) (d at : ℕ) (x : Rec) → (d ≡ 0 → ⊥) → Pushed s s' at x → Pushed s s' (place d at) x
new_branch s s' d at x n P = subst (λ p. Pushed s s' p x) (sym (place_branch d at n)) P

-- a branch that was written at its place
pub written_branch : (s s' : Store) (d at : ℕ) (x : Rec) → (d ≡ 0 → ⊥) → Written s s' at x → Written s s' (place d at) x
written_branch s s' d at x n W = subst (λ p. Written s s' p x) (sym (place_branch d at n)) W

-- a new mark at its place
pub new_mark : (s s' : Store) (d at : ℕ) (x : Rec) → d ≡ 0 → Pushed s s' (mark_place at) x → Pushed s s' (place d at) x
new_mark s s' d at x z P = subst (λ p. Pushed s s' p x) (sym (place_mark d at z)) P

-- a mark that was written at its place
pub written_mark : (s s' : Store) (d at : ℕ) (x : Rec) → d ≡ 0 → Written s s' (mark_place at) x → Written s s' (place d at) x
written_mark s s' d at x z W = subst (λ p. Written s s' p x) (sym (place_mark d at z)) W

-- What is below a record that was read can be copied too.
pub below_copiable :
    (s : Store) (d at : ℕ) (l m : Label) (bel next : ℕ) (below rest : Records)
    → Copiable s d at (item at l below rest) → look s (place d at) ≡ rec m bel next → Copiable s (d - 1) bel below
below_copiable s d at l m bel next below rest K read =
    let q : rec l (root below) (root rest) ≡ rec m bel next = sym K.stands.holds.1 ∙ read in
    record {
      stands = record { holds = K.stands.holds.2; own = λ k. omega (arith, K.stands.own k) };
      from = cc;
      steps = omega (arith, K.steps);
      room = omega (arith, K.room);
      room_marks = omega (arith, K.room_marks);
    }

-- the same, by what was read
pub found_copiable :
    (s : Store) (d at : ℕ) (m : Label) (bel next : ℕ) (t : Records)
    → Copiable s d at t → (F : Found at m bel next t) → Copiable s (d - 1) bel F.below
found_copiable s d at m bel next t K F =
    let J = subst (Copiable s d at) F.is K in
    below_copiable s d at m m bel next F.below F.rest J
    (J.stands.holds.1 ∙ ap (λ b. rec m b (root F.rest)) F.below_from ∙ ap (rec m bel) F.rest_from)

-- a new record over the copy of what is below it
pub copied_one :
    (s s₁ s₂ : Store) (d at r : ℕ) (l m : Label) (bel next new : ℕ) (below rest u : Records)
    → Holds s d (item at l below rest) → look s (place d at) ≡ rec m bel next → Copied s s₁ (d - 1) below new u
    → r < 0xffff_ffff → Pushed s₁ s₂ (place d r) (rec m new 0xffff_ffff) → CopiedOne s s₂ d l below r u
copied_one s s₁ s₂ d at r l m bel next new below rest u H read C low P =
    let q : rec l (root below) (root rest) ≡ rec m bel next = sym H.1 ∙ read in
    let e : rec m new 0xffff_ffff ≡ rec l (root u) 0xffff_ffff = cc C.from in
    record { change = topped s s₁ s₂ d u r l C.change low (subst (Pushed s₁ s₂ (place d r)) e P); same = C.same }

-- below a mark there is nothing
pub copied_none : (s : Store) (d at : ℕ) (l m : Label) (next : ℕ) (below rest : Records)
    → Holds s d (item at l below rest) → look s (place d at) ≡ rec m 0xffff_ffff next → Copied s s (d - 1) below 0xffff_ffff none
copied_none s d at l m next below rest H read =
    let q : rec l (root below) (root rest) ≡ rec m 0xffff_ffff next = sym H.1 ∙ read in
    let e : root below ≡ 0xffff_ffff = cc in
    record { change = unchanged s (d - 1) none tt; same = ap shape (sym (empty s (d - 1) below H.2 e)); from = refl }

-- copy_node

-- what copy_branch promises of the record at `at`
abbrev pub Copies : (s s₁ : Store) (d at new : ℕ) → Type 0
Copies s s₁ d at new =
    (l : Label) (below rest : Records) → Copiable s d at (item at l below rest) → (u : Records) × CopiedOne s s₁ d l below new u

-- what was taken still is
pub grows :
    (s s₁ : Store) (d at new : ℕ) (t : Records)
    → Copiable s d at t → (at ≡ 0xffff_ffff → ⊥) → Copies s s₁ d at new → (k : ℕ) → live s k ≤ live s₁ k
grows s s₁ d at new t K ne copies k =
    let O = opened at t K.from ne in
    let (u, C) = copies O.label O.below O.rest (subst (Copiable s d at) O.is K) in
    omega (arith, C.change.grown k)

-- The record at `last`, with the label l and b below, is the last that is copied, and nothing follows
-- it yet; r, which starts at `at`, is still to be copied, in n turns at most.
pub record Ready (s : Store) (d at last n : ℕ) (r : Records) (l : Label) (b : Records) : Type 0 where
  pub left : Copiable s d at r
  pub built : Holds s d (item last l b none)
  pub own : (k : ℕ) → one (place d last) k + count (d - 1) b k + count d r k ≤ live s k
  pub turns : siblings (shape r) ≤ n

-- A copy of r follows the record at `last`.
pub record Linked (s s' : Store) (d last : ℕ) (l : Label) (b r r' : Records) : Type 0 where
  pub change : Changed s s' d (item last l b none) (item last l b r')
  pub same : shape r' ≡ shape r

-- The record at `at` is copied; what comes after it can still be.
module _
    (s s₁ : Store) (d at new : ℕ) (m : Label) (below rest u : Records)
    (K : Copiable s d at (item at m below rest)) (C : CopiedOne s s₁ d m below new u) where
  pub rest_ready : (at' n : ℕ) → at' ≡ next_of (look s₁ (place d at)) → 1 + siblings (shape rest) ≤ n → Ready s₁ d at' new n rest m u
  rest_ready at' n e le =
      let p = place d at in
      record {
        left =
            record {
              stands =
                  record {
                    holds = kept s s₁ d rest K.stands.holds.3 (λ k h. C.change.keeps k (omega (arith, K.stands.own k)));
                    own = λ k. omega (arith, K.stands.own k, C.change.grown k);
                  };
              from =
                  sym
                  (e
                  ∙ ap next_of
                  (C.change.keeps p (omega (arith, K.stands.own p, one_self p)) ∙ K.stands.holds.1));
              steps = omega (arith, K.steps, C.change.branches, C.change.marks);
              room = omega (arith, K.room, C.change.branches, ap branches_of C.same, C.change.all);
              room_marks = omega (arith, K.room_marks, C.change.marks, ap marks_of C.same, C.change.all_marks);
            };
        built = C.change.holds;
        own = λ k. omega (arith, K.stands.own k, C.change.grown k);
        turns = omega arith;
      }

-- a write elsewhere
pub ready_kept :
    (s s' : Store) (d at last n p : ℕ) (r : Records) (l : Label) (b : Records) (x : Rec)
    → Ready s d at last n r l b → Written s s' p x → ((k : ℕ) → one p k + count d (item last l b r) k ≤ 1)
    → Ready s' d at last n r l b
ready_kept s s' d at last n p r l b x R W apart =
    record {
      left =
          record {
            stands =
                record {
                  holds = kept s s' d r R.left.stands.holds (λ k h. W.keeps k (omega (arith, apart k)));
                  own = λ k. omega (arith, W.alive k, R.left.stands.own k);
                };
            from = R.left.from;
            steps = omega (arith, R.left.steps, W.room.branches, W.room.marks);
            room = omega (arith, R.left.room, W.room.branches, W.room.all);
            room_marks = omega (arith, R.left.room_marks, W.room.marks, W.room.all_marks);
          };
      built = kept s s' d (item last l b none) R.built (λ k h. W.keeps k (omega (arith, apart k)));
      own = λ k. omega (arith, W.alive k, R.own k);
      turns = R.turns;
    }

-- A turn of the loop: the record at `at` is copied to `new`, which then follows `last`.
module _
    (s s₁ s₂ : Store) (d at last n new : ℕ) (l m : Label) (b below u rest : Records)
    (R : Ready s d at last n (item at m below rest) l b)
    (C : CopiedOne s s₁ d m below new u)
    (W : Written s₁ s₂ (place d last) (with_next (look s₁ (place d last)) new)) where
  -- one turn on, the next is ready
  pub ready_more : (at' : ℕ) → at' ≡ next_of (look s₂ (place d at)) → Ready s₂ d at' new n rest m u
  ready_more at' e =
      let most = live_most s₁ in
      let p = place d at in
      let same = W.keeps p (omega (arith, R.own p, C.change.grown p, most p, one_self p)) in
      ready_kept s₁ s₂ d at' new n (place d last) rest m u _
      (rest_ready s s₁ d at new m below rest u R.left C at' n (e ∙ ap next_of same) (omega (arith, R.turns)))
      W (λ k. omega (arith, R.own k, C.change.grown k, most k))

  -- and what follows it then follows the one before
  pub linked_more : (s' : Store) (r' : Records) → Linked s₂ s' d new m u rest r' → Linked s s' d last l b (item at m below rest) (item new m u r')
  linked_more s' r' L =
      let most = live_most s₁ in
      let keeps : (k : ℕ) → one (place d last) k ≡ 0 → 0 < live s k → look s' k ≡ look s k =
      λ k h a.
      L.change.keeps k (omega (arith, C.change.grown k, W.alive k, most k)) ∙ W.keeps k h ∙ C.change.keeps k a in
      let p = place d last in
      let self = one_self p in
      let was : look s₁ p ≡ rec l (root b) 0xffff_ffff =
      C.change.keeps p (omega (arith, R.own p)) ∙ R.built.1 in
      record {
        change =
            record {
              holds = (
                R.built.0,
                L.change.keeps p (omega (arith, R.own p, C.change.grown p, W.alive p, most p))
                    ∙ W.here ∙ ap (λ x. with_next x new) was,
                kept s s' (d - 1) b R.built.2 (λ k h. keeps k (omega (arith, R.own k, most k, C.change.grown k)) (omega (arith, R.own k))),
                L.change.holds,
              );
              grown = λ k. omega (arith, C.change.grown k, W.alive k, L.change.grown k);
              keeps = λ k h. keeps k (omega (arith, most k, C.change.grown k)) (omega arith);
              spare =
                  λ k z.
                  let l = L.change.spare k z in
                  let c = C.change.spare k (omega (arith, W.alive k, l.0)) in
                  (c.0, l.1 ∙ W.keeps k (omega (arith, R.own k, c.0)) ∙ c.1);
              branches = omega (arith, L.change.branches, W.room.branches, C.change.branches);
              marks = omega (arith, L.change.marks, W.room.marks, C.change.marks);
              all = L.change.all ∙ W.room.all ∙ C.change.all;
              all_marks = L.change.all_marks ∙ W.room.all_marks ∙ C.change.all_marks;
            };
        same = cc (L.same, C.same);
      }

-- The loop has copied r₀ but for `rest`; once a copy of that follows the record at `last`, one of r₀
-- follows that at last₀.
pub record Midway (s₀ : Store) (d last₀ : ℕ) (r₀ : Records) (l₀ : Label) (b₀ : Records) (s : Store) (at last n : ℕ) : Type 0 where
  pub rest : Records
  pub label : Label
  pub below : Records
  pub ready : Ready s d at last n rest label below
  pub finish : (s' : Store) (r' : Records) → Linked s s' d last label below rest r' → (r₀' : Records) × Linked s₀ s' d last₀ l₀ b₀ r₀ r₀'

-- it goes on to what follows
pub onto :
    {s₀ : Store} {d last₀ : ℕ} {r₀ : Records} {l₀ : Label} {b₀ : Records} {s : Store} {link last n next : ℕ}
    → Some next ≡ link_of link → Midway s₀ d last₀ r₀ l₀ b₀ s link last n → Midway s₀ d last₀ r₀ l₀ b₀ s next last n
onto {s₀} {d} {last₀} {r₀} {l₀} {b₀} {s} {last = last} {n = n} e M =
    subst (λ at. Midway s₀ d last₀ r₀ l₀ b₀ s at last n) (sym (link_on _ _ e).0) M

-- a turn of the loop copies one record
pub turn :
    (s₀ : Store) (d last₀ : ℕ) (r₀ : Records) (l₀ : Label) (b₀ : Records) (s s₁ s₂ : Store) (at last n new at' : ℕ)
    → Midway s₀ d last₀ r₀ l₀ b₀ s at last n → (at ≡ 0xffff_ffff → ⊥) → Copies s s₁ d at new
    → Written s₁ s₂ (place d last) (with_next (look s₁ (place d last)) new)
    → at' ≡ next_of (look s₂ (place d at)) → Midway s₀ d last₀ r₀ l₀ b₀ s₂ at' new n
turn s₀ d last₀ r₀ l₀ b₀ s s₁ s₂ at last n new at' M ne copies W e =
    let O = opened at M.rest M.ready.left.from ne in
    let R : Ready s d at last n (item at O.label O.below O.rest) M.label M.below =
    subst (λ r. Ready s d at last n r M.label M.below) O.is M.ready in
    let (u, C) = copies O.label O.below O.rest R.left in
    record {
      rest = O.rest;
      label = O.label;
      below = u;
      ready = ready_more s s₁ s₂ d at last n new M.label O.label M.below O.below u O.rest R C W at' e;
      finish =
          λ s' r' L.
          M.finish s' (item new O.label u r')
          (subst (λ r. Linked s s' d last M.label M.below r (item new O.label u r')) (sym O.is)
          (linked_more s s₁ s₂ d at last n new M.label O.label M.below O.below u O.rest R C W s' r' L));
    }

-- and leaves fewer
pub falls :
    (s₀ : Store) (d last₀ : ℕ) (r₀ : Records) (l₀ : Label) (b₀ : Records) (s s₁ s₂ : Store) (at last n new at' : ℕ)
    → Midway s₀ d last₀ r₀ l₀ b₀ s at last n → (at ≡ 0xffff_ffff → ⊥) → Copies s s₁ d at new
    → Written s₁ s₂ (place d last) (with_next (look s₁ (place d last)) new)
    → at' ≡ next_of (look s₂ (place d at)) → chain n s₂ d at' < chain n s d at
unfolding turn
falls s₀ d last₀ r₀ l₀ b₀ s s₁ s₂ at last n new at' M ne copies W e =
    let M' = turn s₀ d last₀ r₀ l₀ b₀ s s₁ s₂ at last n new at' M ne copies W e in
    let O = opened at M.rest M.ready.left.from ne in
    let steps : (t : Store) (a : ℕ) (r : Records) → Copiable t d a r → siblings (shape r) ≤ n → chain n t d a ≡ siblings (shape r) =
    λ t a r K le. ap (chain n t d) (sym K.from) ∙ chain_is t d r n K.stands.holds le in
    omega
    (arith, steps s₂ at' M'.rest M'.ready.left M'.ready.turns, steps s at M.rest M.ready.left M.ready.turns, ap (λ r. siblings (shape r)) O.is)

-- before the loop: the first record is copied
pub record Begun (s s₁ : Store) (d first head at : ℕ) (t : Records) : Type 0 where
  pub label : Label
  pub below : Records
  pub rest : Records
  pub new : Records
  pub is : t ≡ item first label below rest
  pub one : CopiedOne s s₁ d label below head new
  pub ready : Ready s₁ d at head (in_use s₁) rest label new

-- the loop begins after the first record
pub begun :
    (s s₁ : Store) (d first head at : ℕ) (t : Records)
    → Copiable s d first t → (first ≡ 0xffff_ffff → ⊥) → Copies s s₁ d first head
    → at ≡ next_of (look s₁ (place d first)) → Begun s s₁ d first head at t
begun s s₁ d first head at t K ne copies e =
    let O = opened first t K.from ne in
    let J : Copiable s d first (item first O.label O.below O.rest) = subst (Copiable s d first) O.is K in
    let (u, C) = copies O.label O.below O.rest J in
    record {
      label = O.label;
      below = O.below;
      rest = O.rest;
      new = u;
      is = O.is;
      one = C;
      ready =
          rest_ready s s₁ d first head O.label O.below O.rest u J C at (in_use s₁) e
          (omega (arith, J.steps, few (shape (item first O.label O.below O.rest)), C.change.branches, C.change.marks));
    }

-- and after it, nothing is left to copy
pub done :
    (s s₁ s₂ : Store) (d first head at₁ at last n : ℕ) (t : Records) (B : Begun s s₁ d first head at₁ t)
    → Midway s₁ d head B.rest B.label B.new s₂ at last n → at ≡ 0xffff_ffff
    → (u : Records) × Copied s s₂ d t head u
done s s₁ s₂ d first head at₁ at last n t B M e =
    let end : M.rest ≡ none = empty s₂ d M.rest M.ready.left.stands.holds (M.ready.left.from ∙ e) in
    let (r, L) = M.finish s₂ none (record { change = unchanged s₂ d _ M.ready.built; same = ap shape (sym end) }) in (
      item head B.label B.new r,
      record {
        change = then s s₁ s₂ d none _ _ B.one.change L.change;
        same = cc (ap shape B.is, L.same, B.one.same);
        from = refl;
      },
    )
