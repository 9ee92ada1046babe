-- What a rule adds to the space of a node. Assumes nothing.
use Rattle.std.proofs.Common.{◌≡◌, ℕ, ◌+◌, ◌-◌, ◌<◌, ◌≤◌, min, max, Bool, true, false, cond, ◌&&◌, eqb, ltb, leb, ◌⊎◌, sym, refl, ap, ◌∙◌, subst, inl, inr, ⊎_elim, add-zero, arith}
use Rattle.std.proofs.lemmas.Bool.{cond-true, cond-false, cond_both, eq-eqb, lt-ltb, le-ltb, le-leb, lt-leb, and_from, and_left, and_right, cases_lt, cases_eq}
use Rattle.std.proofs.lemmas.Bool.Decides.{nat_tests}
use Rattle.shape.specs.Shapes.{piece, rule, Shape, bare, part, branches_of, marks_of, cut_at, add_mark, under, cut_above, gaps}
use Rattle.tree.specs.Links.{tail}
use Rattle.tree.specs.Reads.{Ordered, weight, sat, Weighs}
use Rattle.tree.specs.declared.space.Space.{Space}
use Rattle.tree.proofs.Cuts.{cut_past, cut_here}
use Rattle.tree.proofs.Descends.{above_is}
use Rattle.tree.proofs.Fills.{gaps_stop, gaps_end, gaps_over, gaps_gap}

-- branches alone
pub branches_weight : (sh : Shape) → branches_of sh ≡ weight 1 0 sh
branches_weight bare = refl
branches_weight (part (piece a b) x y) = omega (arith, branches_weight x, branches_weight y)
branches_weight (part (rule i) x y) = omega (arith, branches_weight x, branches_weight y)

-- marks alone
pub marks_weight : (sh : Shape) → marks_of sh ≡ weight 0 1 sh
marks_weight bare = refl
marks_weight (part (piece a b) x y) = omega (arith, marks_weight x, marks_weight y)
marks_weight (part (rule i) x y) = omega (arith, marks_weight x, marks_weight y)

module _ (p q low high : ℕ) (f : Shape → Shape) where
  -- what a branch is to take, with what follows it
  under_is :
      (a b : ℕ) (below rest : Shape)
      → weight p q (under low high f (part (piece a b) below rest))
      ≡ cond (leb low a && leb b high) (p + weight p q (f below)) (p + weight p q below) + weight p q (under low high f rest)
  under_is a b below rest =
      elim (leb low a && leb b high) as (λ v. p + weight p q (cond v (f below) below) + weight p q (under low high f rest) ≡ cond v (p + weight p q (f below)) (p + weight p q below) + weight p q (under low high f rest))
      [ true ↦ refl | false ↦ refl ]

  -- and with the gap before it
  one_is :
      (w a b : ℕ) (below rest : Shape) → low ≤ w
      → weight p q (under low high f (gaps w high (part (piece a b) below rest)))
      ≡ cond (leb w high && ltb w a) (p + weight p q (f bare)) 0 + cond (leb low a && leb b high) (p + weight p q (f below)) (p + weight p q below)
      + weight p q (under low high f (gaps (max w (b + 1)) high rest))
  one_is w a b below rest le =
      let u = λ (sh : Shape). weight p q (under low high f sh) in
      ⊎_elim
      (λ past.
      let z : cond (leb w high && ltb w a) (p + weight p q (f bare)) 0 ≡ 0 = cond-false _ _ _ (and_left _ _ (lt-leb w high past)) in
      let e = ap u (gaps_stop w high (part (piece a b) below rest) past) ∙ under_is a b below rest in
      let g = ap u (gaps_stop (max w (b + 1)) high rest (omega arith)) in
      omega (arith, z, e, g))
      (λ l.
      ⊎_elim
      (λ m.
      let z : cond (leb w high && ltb w a) (p + weight p q (f bare)) 0 ≡ p + weight p q (f bare) = cond-true _ _ _ (and_from _ _ (le-leb w high l) (lt-ltb w a m)) in
      let e = ap u (gaps_gap w high a b below rest l m) ∙ under_is w (min high (a - 1)) bare (tail w high (part (piece a b) below rest)) in
      let i : cond (leb low w && leb (min high (a - 1)) high) (p + weight p q (f bare)) (p + weight p q bare) ≡ p + weight p q (f bare) = cond-true _ _ _ (and_from _ _ (le-leb low w le) (le-leb (min high (a - 1)) high (omega arith))) in
      let o = under_is a b below (gaps (max w (b + 1)) high rest) in
      omega (arith, z, e, i, o))
      (λ m.
      let z : cond (leb w high && ltb w a) (p + weight p q (f bare)) 0 ≡ 0 = cond-false _ _ _ (and_right _ _ (le-ltb w a m)) in
      let e = ap u (gaps_over w high a b below rest l m) ∙ under_is a b below (gaps (max w (b + 1)) high rest) in
      omega (arith, z, e))
      (cases_lt w a))
      (cases_lt high w)

  -- the last gap
  pub end_is :
      (w : ℕ) → low ≤ w → weight p q (under low high f (gaps w high bare)) ≡ cond (leb w high) (p + weight p q (f bare)) 0
  end_is w le =
      ⊎_elim
      (λ past.
      let z : cond (leb w high) (p + weight p q (f bare)) 0 ≡ 0 = cond-false _ _ _ (lt-leb w high past) in
      ap (λ sh. weight p q (under low high f sh)) (gaps_stop w high bare past) ∙ sym z)
      (λ l.
      let z : cond (leb w high) (p + weight p q (f bare)) 0 ≡ p + weight p q (f bare) = cond-true _ _ _ (le-leb w high l) in
      let i : cond (leb low w && leb high high) (p + weight p q (f bare)) (p + weight p q bare) ≡ p + weight p q (f bare) = cond-true _ _ _ (and_from _ _ (le-leb low w le) (le-leb high high (omega arith))) in
      let e = ap (λ sh. weight p q (under low high f sh)) (gaps_end w high l) ∙ under_is w high bare bare in
      omega (arith, z, i, e))
      (cases_lt high w)

-- the cut above a span
above_past :
    (high a b : ℕ) (below rest : Shape) → (a ≤ high → high < b → ⊥) → b ≤ 0xffff_ffff
    → cut_above high (part (piece a b) below rest) ≡ part (piece a b) below (cut_above high rest)
above_past high a b below rest out small =
    ⊎_elim
    (λ e. cond-true _ _ _ (eq-eqb high 0xffff_ffff e) ∙ sym (ap (part (piece a b) below) (cond-true _ _ _ (eq-eqb high 0xffff_ffff e))))
    (λ ne.
    above_is high (part (piece a b) below rest) ne ∙ cut_past (high + 1) a b below rest (λ l h. out (omega arith) (omega arith))
    ∙ sym (ap (part (piece a b) below) (above_is high rest ne)))
    (cases_eq high 0xffff_ffff)

-- one that has the end and the number after it is cut
above_here :
    (high a b : ℕ) (below rest : Shape) → a ≤ high → high < b → b ≤ 0xffff_ffff
    → cut_above high (part (piece a b) below rest) ≡ part (piece a high) below (part (piece (high + 1) b) below rest)
above_here high a b below rest l h small =
    let e : high + 1 - 1 ≡ high = omega arith in
    above_is high (part (piece a b) below rest) (λ z. omega arith) ∙ cut_here (high + 1) a b below rest (omega arith) (omega arith)
    ∙ ap (λ n. part (piece a n) below (part (piece (high + 1) b) below rest)) e

-- a mark more
pub marked : (p q i : ℕ) (sh : Shape) → weight p q (add_mark i sh) ≡ weight p q sh + q
marked p q i bare = omega arith
marked p q i (part l b r) = omega (arith, marked p q i r)

-- no branch begins below x, so none is cut there
cut_none : (x lo : ℕ) (sh : Shape) → x ≤ lo → Ordered lo sh → cut_at x sh ≡ sh
cut_none x lo bare le h = refl
cut_none x lo (part (piece a b) below rest) le h =
    cut_past x a b below rest (λ l _. omega (arith, h.0)) ∙ ap (part (piece a b) below) (cut_none x (b + 1) rest (omega (arith, h.0, h.1)) h.3)
cut_none x lo (part (rule i) below rest) le h =
    ap (part (rule i) below) (cut_none x (i + 1) rest (omega (arith, h.0)) h.2)

-- nor above
above_none : (high lo : ℕ) (sh : Shape) → high < lo → Ordered lo sh → cut_above high sh ≡ sh
above_none high lo sh l h =
    cond_both (eqb high 0xffff_ffff) sh (cut_at (high + 1) sh) (λ q. q ≡ sh) (λ _. refl) (λ _. cut_none (high + 1) lo sh (omega arith) h)

-- what is made of a node whose branches lie within the interval or outside, with the gaps from w on
abbrev made : (p q low high : ℕ) (f : Shape → Shape) → ℕ → Shape → ℕ
made p q low high f w sh = weight p q (under low high f (gaps w high sh))

-- what is made of a node that is still to be cut
abbrev pub to_make : (p q low high : ℕ) (f : Shape → Shape) → ℕ → Shape → ℕ
to_make p q low high f w sh = made p q low high f w (cut_above high (cut_at low sh))

-- a new branch before `a`, if there is a gap
abbrev pub before : (p q high : ℕ) (f : Shape → Shape) → (w a : ℕ) → ℕ
before p q high f w a = cond (leb w high && ltb w a) (p + weight p q (f bare)) 0

-- the parts of a branch: those outside as they are, the one inside with f of what is below
abbrev pub parts_out : (p q low high a b : ℕ) → Shape → ℕ
parts_out p q low high a b below =
    cond (leb low a && leb b high) 0 (cond (ltb a low && ltb high b) (p + weight p q below + (p + weight p q below)) (p + weight p q below))

-- and the one inside
abbrev pub part_in : (p q low high : ℕ) (f : Shape → Shape) (a b : ℕ) → Shape → ℕ
part_in p q low high f a b below = cond (leb low b && leb a high) (p + weight p q (f below)) 0

module _ (p q low high : ℕ) (f : Shape → Shape) (ord : low ≤ high) where
  -- a branch outside, and one inside
  one_out :
      (w a b : ℕ) (below rest : Shape) → low ≤ w → (low ≤ a → b ≤ high → ⊥)
      → made p q low high f w (part (piece a b) below rest) ≡ before p q high f w a + (p + weight p q below) + made p q low high f (max w (b + 1)) rest
  one_out w a b below rest le out =
      let z : (leb low a && leb b high) ≡ false = grind (arith, nat_tests) in
      let e = cond-false _ (p + weight p q (f below)) (p + weight p q below) z in
      omega (arith, one_is p q low high f w a b below rest le, e)

  -- and one inside
  one_in :
      (w a b : ℕ) (below rest : Shape) → low ≤ w → low ≤ a → b ≤ high
      → made p q low high f w (part (piece a b) below rest) ≡ before p q high f w a + (p + weight p q (f below)) + made p q low high f (max w (b + 1)) rest
  one_in w a b below rest le l h =
      let e = cond-true _ (p + weight p q (f below)) (p + weight p q below) (and_from _ _ (le-leb low a l) (le-leb b high h)) in
      omega (arith, one_is p q low high f w a b below rest le, e)

  -- nothing fits before a branch where all is covered up to there, or past the interval
  no_gap : (w a : ℕ) → (w ≤ high → a ≤ w) → before p q high f w a ≡ 0
  no_gap w a h = let z : (leb w high && ltb w a) ≡ false = grind (arith, nat_tests) in cond-false _ (p + weight p q (f bare)) 0 z

  -- A node with a branch, the others of which lie above it.
  module _ (w a b : ℕ) (below rest : Shape) (le : low ≤ w) (up : a ≤ b) (small : b ≤ 0xffff_ffff) (tidy : Ordered (b + 1) rest) where
    -- what is to be shown of it
    abbrev Counted : Type 0
    Counted =
        to_make p q low high f w (part (piece a b) below rest)
        ≡ before p q high f w a + (parts_out p q low high a b below + part_in p q low high f a b below) + to_make p q low high f (max w (b + 1)) rest

    -- it is not cut, and lies outside or inside
    uncut : (a < low → low ≤ b → ⊥) → (a ≤ high → high < b → ⊥) → cut_above high (cut_at low (part (piece a b) below rest)) ≡ part (piece a b) below (cut_above high (cut_at low rest))
    uncut x y = ap (cut_above high) (cut_past low a b below rest x) ∙ above_past high a b below (cut_at low rest) y small

    -- it lies outside
    all_out : (b < low) ⊎ (high < a) → Counted
    all_out out =
        let x : parts_out p q low high a b below ≡ p + weight p q below = grind (arith, nat_tests) in
        let y : part_in p q low high f a b below ≡ 0 = grind (arith, nat_tests) in
        let e = ap (made p q low high f w) (uncut (λ l h. ⊎_elim (λ i. omega arith) (λ i. omega arith) out) (λ l h. ⊎_elim (λ i. omega arith) (λ i. omega arith) out)) in
        omega (arith, e, x, y, one_out w a b below (cut_above high (cut_at low rest)) le (λ l h. ⊎_elim (λ i. omega arith) (λ i. omega arith) out))

    -- it lies inside
    all_in : low ≤ a → b ≤ high → Counted
    all_in l h =
        let x : parts_out p q low high a b below ≡ 0 = grind (arith, nat_tests) in
        let y : part_in p q low high f a b below ≡ p + weight p q (f below) = grind (arith, nat_tests) in
        let e = ap (made p q low high f w) (uncut (λ i _. omega arith) (λ _ i. omega arith)) in
        omega (arith, e, x, y, one_in w a b below (cut_above high (cut_at low rest)) le l h)

    -- it is cut below the interval, above it, or both
    cut_low : a < low → low ≤ b → b ≤ high → Counted
    cut_low l m h =
        let R = cut_above high (cut_at low rest) in
        let x : parts_out p q low high a b below ≡ p + weight p q below = grind (arith, nat_tests) in
        let y : part_in p q low high f a b below ≡ p + weight p q (f below) = grind (arith, nat_tests) in
        let e =
        ap (cut_above high) (cut_here low a b below rest l m)
        ∙ above_past high a (low - 1) below (part (piece low b) below rest) (λ _ i. omega arith) (omega arith)
        ∙ ap (part (piece a (low - 1)) below) (above_past high low b below rest (λ _ i. omega arith) small)
        ∙ ap (λ r. part (piece a (low - 1)) below (part (piece low b) below (cut_above high r))) (sym (cut_none low (b + 1) rest (omega arith) tidy))
        in
        let k : max w (low - 1 + 1) ≡ w = omega arith in
        let j = ap (λ v. made p q low high f v (part (piece low b) below R)) k in
        omega
        (arith, ap (made p q low high f w) e, x, y, j, no_gap w a (λ _. omega arith), no_gap w low (λ _. omega arith), one_out w a (low - 1) below (part (piece low b) below R) le (λ i _. omega arith), one_in w low b below R le (omega arith) h)

    -- what follows it is not cut
    above_kept : high < b → low ≤ b → cut_above high (cut_at low rest) ≡ rest
    above_kept h m = ap (cut_above high) (cut_none low (b + 1) rest (omega arith) tidy) ∙ above_none high (b + 1) rest (omega arith) tidy

    -- above
    cut_high : low ≤ a → a ≤ high → high < b → Counted
    cut_high l m h =
        let x : parts_out p q low high a b below ≡ p + weight p q below = grind (arith, nat_tests) in
        let y : part_in p q low high f a b below ≡ p + weight p q (f below) = grind (arith, nat_tests) in
        let e =
        ap (cut_above high) (cut_past low a b below rest (λ i _. omega arith))
        ∙ above_here high a b below (cut_at low rest) m h small
        ∙ ap (λ r. part (piece a high) below (part (piece (high + 1) b) below r)) (cut_none low (b + 1) rest (omega arith) tidy)
        in
        let v = max w (high + 1) in
        let k : max v (b + 1) ≡ max w (b + 1) = omega arith in
        let j = ap (λ n. made p q low high f n rest) k in
        let r = ap (made p q low high f (max w (b + 1))) (above_kept h (omega arith)) in
        omega
        (arith, ap (made p q low high f w) e, x, y, j, r, no_gap v (high + 1) (λ i. omega arith), one_in w a high below (part (piece (high + 1) b) below rest) le l (omega arith), one_out v (high + 1) b below rest (omega arith) (λ _ i. omega arith))

    -- on both sides
    cut_both : a < low → high < b → Counted
    cut_both l h =
        let x : parts_out p q low high a b below ≡ p + weight p q below + (p + weight p q below) = grind (arith, nat_tests) in
        let y : part_in p q low high f a b below ≡ p + weight p q (f below) = grind (arith, nat_tests) in
        let top = part (piece (high + 1) b) below rest in
        let e =
        ap (cut_above high) (cut_here low a b below rest l (omega arith))
        ∙ above_past high a (low - 1) below (part (piece low b) below rest) (λ _ i. omega arith) (omega arith)
        ∙ ap (part (piece a (low - 1)) below) (above_here high low b below rest ord h small)
        in
        let k : max w (low - 1 + 1) ≡ w = omega arith in
        let j = ap (λ n. made p q low high f n (part (piece low high) below top)) k in
        let v = max w (high + 1) in
        let k' : max v (b + 1) ≡ max w (b + 1) = omega arith in
        let j' = ap (λ n. made p q low high f n rest) k' in
        let r = ap (made p q low high f (max w (b + 1))) (above_kept h (omega arith)) in
        omega
        (arith, ap (made p q low high f w) e, x, y, j, j', r, no_gap w a (λ _. omega arith), no_gap w low (λ _. omega arith), no_gap v (high + 1) (λ i. omega arith), one_out w a (low - 1) below (part (piece low high) below top) le (λ i _. omega arith), one_in w low high below top le (omega arith) (omega arith), one_out v (high + 1) b below rest (omega arith) (λ _ i. omega arith))

    -- WHAT A BRANCH ADDS: the gap before it, and its parts
    pub counted : Counted
    counted =
        ⊎_elim
        (λ l.
        ⊎_elim (λ m. all_out (inl m)) (λ m. ⊎_elim (cut_both l) (cut_low l m) (cases_lt high b)) (cases_lt b low))
        (λ l. ⊎_elim (λ m. all_out (inr m)) (λ m. ⊎_elim (cut_high l m) (all_in l) (cases_lt high b)) (cases_lt high a))
        (cases_lt a low)

-- A sum is on its way to g, with f still to come.
pub record Toward (k : Space) (f g : ℕ → ℕ → ℕ) : Type 0 where
  pub branches : sat (k.branches + f 1 0) ≡ sat (g 1 0)
  pub marks : sat (k.marks + f 0 1) ≡ sat (g 0 1)
  pub few : k.branches ≤ 18446744073709551615
  pub few_marks : k.marks ≤ 18446744073709551615

-- two spaces together, as far as 64 bits go
abbrev pub plus : Space → Space → Space
plus x y = record { branches = sat (x.branches + y.branches); marks = sat (x.marks + y.marks) }

-- at first nothing is counted
pub toward_none : (f g : ℕ → ℕ → ℕ) → ((p q : ℕ) → f p q ≡ g p q) → Toward (record { branches = 0; marks = 0 }) f g
toward_none f g e = record { branches = omega (arith, e 1 0); marks = omega (arith, e 0 1); few = omega arith; few_marks = omega arith }

-- a part that was to come is added
pub toward_more :
    {k x k' : Space} {w f g : ℕ → ℕ → ℕ} (f' : ℕ → ℕ → ℕ) → Weighs x w → k' ≡ plus k x → ((p q : ℕ) → f p q ≡ w p q + f' p q) → Toward k f g → Toward k' f' g
toward_more f' W e s T =
    let b = ap (λ y. y.branches) e in
    let m = ap (λ y. y.marks) e in
    record {
      branches = omega (arith, s 1 0, b, W.branches, T.branches);
      marks = omega (arith, s 0 1, m, W.marks, T.marks);
      few = omega (arith, b);
      few_marks = omega (arith, m);
    }

-- nothing is to come
pub toward_all : {k : Space} {f g : ℕ → ℕ → ℕ} → ((p q : ℕ) → f p q ≡ 0) → Toward k f g → Weighs k g
toward_all z T = record { branches = omega (arith, z 1 0, T.branches, T.few); marks = omega (arith, z 0 1, T.marks, T.few_marks) }

-- two spaces together
pub weighs_both : {x y k : Space} {v w : ℕ → ℕ → ℕ} → Weighs x v → Weighs y w → k ≡ plus x y → Weighs k (λ p q. v p q + w p q)
weighs_both V W e =
    let b = ap (λ y. y.branches) e in
    let m = ap (λ y. y.marks) e in
    record { branches = omega (arith, b, V.branches, W.branches); marks = omega (arith, m, V.marks, W.marks) }

-- the same by another sum
pub weighs_as : {k : Space} {v : ℕ → ℕ → ℕ} (w : ℕ → ℕ → ℕ) → ((p q : ℕ) → v p q ≡ w p q) → Weighs k v → Weighs k w
weighs_as w e V = record { branches = V.branches ∙ ap sat (e 1 0); marks = V.marks ∙ ap sat (e 0 1) }

-- nothing
pub nothing_weighs : Weighs (record { branches = 0; marks = 0 }) (λ p q. 0)
nothing_weighs = record { branches = refl; marks = refl }

-- one branch
pub branch_weighs : Weighs (record { branches = 1; marks = 0 }) (λ p q. p)
branch_weighs = record { branches = refl; marks = refl }

-- one mark
pub mark_weighs : Weighs (record { branches = 0; marks = 1 }) (λ p q. q)
mark_weighs = record { branches = refl; marks = refl }

-- a space, or nothing
pub weighs_when : (t : Bool) {k r : Space} {v : ℕ → ℕ → ℕ} → Weighs k v → r ≡ cond t k (record { branches = 0; marks = 0 }) → Weighs r (λ p q. cond t (v p q) 0)
weighs_when true {v = v} V e = subst (λ k. Weighs k v) (sym e) V
weighs_when false V e = subst (λ k. Weighs k (λ p q. 0)) (sym e) nothing_weighs

-- a new branch, where there is a gap before one that begins at a
pub new_before :
    (w high a to : ℕ) {v : ℕ → ℕ → ℕ} {k r : Space} → Weighs k v → r ≡ cond (ltb w to) k (record { branches = 0; marks = 0 })
    → to ≡ min (high + 1) a → Weighs r (λ p q. cond (leb w high && ltb w a) (v p q) 0)
new_before w high a to {k = k} V e is =
    let same : ltb w to ≡ (leb w high && ltb w a) = ap (ltb w) is ∙ both w high a in
    weighs_when (leb w high && ltb w a) V (e ∙ ap (λ t. cond t k (record { branches = 0; marks = 0 })) same)
  where
    both : (w high a : ℕ) → ltb w (min (high + 1) a) ≡ (leb w high && ltb w a)
    both w high a = grind (arith, nat_tests)

-- and at the end
pub new_after :
    (w high to : ℕ) {v : ℕ → ℕ → ℕ} {k r : Space} → Weighs k v → r ≡ cond (ltb w to) k (record { branches = 0; marks = 0 })
    → to ≡ high + 1 → Weighs r (λ p q. cond (leb w high) (v p q) 0)
new_after w high to {k = k} V e is =
    let same : ltb w to ≡ leb w high = ap (ltb w) is ∙ past w high in
    weighs_when (leb w high) V (e ∙ ap (λ t. cond t k (record { branches = 0; marks = 0 })) same)
  where
    past : (w high : ℕ) → ltb w (high + 1) ≡ leb w high
    past w high = grind (arith, nat_tests)

-- A TURN OF THE COUNT: the gap before a branch and its parts are added
pub turned :
    (low high : ℕ) (f : Shape → Shape) (w w' a b : ℕ) (below rest : Shape) {k gap parts k₁ k₂ : Space} {g : ℕ → ℕ → ℕ}
    → low ≤ high → low ≤ w → b ≤ 0xffff_ffff → Ordered 0 (part (piece a b) below rest)
    → Weighs gap (λ p q. before p q high f w a) → Weighs parts (λ p q. parts_out p q low high a b below + part_in p q low high f a b below)
    → k₁ ≡ plus k gap → k₂ ≡ plus k₁ parts → w' ≡ max w (b + 1)
    → Toward k (λ p q. to_make p q low high f w (part (piece a b) below rest)) g → Toward k₂ (λ p q. to_make p q low high f w' rest) g
turned low high f w w' a b below rest ord le small tidy G P e₁ e₂ ew T =
    toward_more (λ p q. to_make p q low high f w' rest) P e₂ (λ p q. ap (λ n. parts_out p q low high a b below + part_in p q low high f a b below + to_make p q low high f n rest) (sym ew))
    (toward_more (λ p q. parts_out p q low high a b below + part_in p q low high f a b below + to_make p q low high f (max w (b + 1)) rest) G e₁ (λ p q. omega (arith, counted p q low high f ord w a b below rest le tidy.1 small tidy.3)) T)

-- THE END OF THE COUNT: the last gap is added
pub finished :
    (low high : ℕ) (f : Shape → Shape) (w : ℕ) {k last r : Space} {g : ℕ → ℕ → ℕ}
    → low ≤ w → Weighs last (λ p q. cond (leb w high) (p + weight p q (f bare)) 0) → r ≡ plus k last
    → Toward k (λ p q. to_make p q low high f w bare) g → Weighs r g
finished low high f w le L e T =
    toward_all (λ p q. refl)
    (toward_more (λ p q. 0) L e
    (λ p q. ap (made p q low high f w) (above_none high (high + 1) bare (omega arith) tt) ∙ end_is p q low high f w le ∙ sym (add-zero _)) T)
