-- A node as a list of cuts, and what a cut does to it. Assumes nothing.
use Rattle.std.proofs.Common.{◌≡◌, ℕ, ◌+◌, ◌-◌, ◌<◌, ◌≤◌, min, max, Bool, true, false, cond, ◌&&◌, ◌||◌, eqb, ltb, leb, ◌⊎◌, List, [], ◌∷◌, sym, refl, ap, ◌∙◌, ap₂, inl, inr, ⊎_elim, arith}
use mathlib.Core.Path.{fun_ext}
use Rattle.std.proofs.lemmas.Bool.{cond-true, cond-false, cond_both, lt-ltb, le-ltb, le-leb, lt-leb, and_from, cases_lt, cases_Bool, or_left, or_right, or_from, eqb-true, true≢false}
use Rattle.std.proofs.lemmas.Bool.Decides.{nat_tests}
use Rattle.routing.specs.Space.{put}
use Rattle.shape.specs.Shapes.{Shape, bare, part, piece, rule, cut_at, cut_above, gaps, under}
use Rattle.shape.proofs.Cuts.{In, Up, up_in, Cut, cut_more, cut_out, first_cut, put_before, put_ways}

-- A branch, with g below, for each run of cuts that starts at a number that passes p.
abbrev pub runs : (ℕ → Bool) → (ℕ → Shape) → List ℕ → Shape
runs p g [] = bare
runs p g (a ∷ []) = bare
runs p g (a ∷ (b ∷ cs)) = cond (p a) (part (piece a (b - 1)) (g a) (runs p g (b ∷ cs))) (runs p g (b ∷ cs))

-- the first run is a branch
pub runs_yes :
    (p : ℕ → Bool) (g : ℕ → Shape) (a b : ℕ) (cs : List ℕ) → p a ≡ true
    → runs p g (a ∷ b ∷ cs) ≡ part (piece a (b - 1)) (g a) (runs p g (b ∷ cs))
runs_yes p g a b cs t = cond-true _ _ _ t

-- the first run is none
pub runs_no :
    (p : ℕ → Bool) (g : ℕ → Shape) (a b : ℕ) (cs : List ℕ) → p a ≡ false → runs p g (a ∷ b ∷ cs) ≡ runs p g (b ∷ cs)
runs_no p g a b cs t = cond-false _ _ _ t

-- Within a run p and g do not change, and nothing passes p from the last cut on.
abbrev pub Level : (ℕ → Bool) → (ℕ → Shape) → List ℕ → Type 0
Level p g [] = Unit {0}
Level p g (a ∷ []) = (x : ℕ) → a ≤ x → p x ≡ false
Level p g (a ∷ (b ∷ cs)) = ((x : ℕ) → a ≤ x → x < b → (p x ≡ p a) × (g x ≡ g a)) × Level p g (b ∷ cs)

-- nothing below the first cut passes p
abbrev pub Low : (ℕ → Bool) → List ℕ → Type 0
Low p cs = (x lo : ℕ) → x < lo → Up lo cs → p x ≡ false

-- a cut outside a branch goes on to the rest
pub cut_past :
    (x a b : ℕ) (below rest : Shape) → (a < x → b < x)
    → cut_at x (part (piece a b) below rest) ≡ part (piece a b) below (cut_at x rest)
cut_past x a b below rest out = let e : (ltb a x && leb x b) ≡ false = grind (arith, nat_tests) in cond-false _ _ _ e

-- a cut inside a branch
pub cut_here :
    (x a b : ℕ) (below rest : Shape) → a < x → x ≤ b
    → cut_at x (part (piece a b) below rest) ≡ part (piece a (x - 1)) below (part (piece x b) below rest)
cut_here x a b below rest l h = cond-true _ _ _ (and_from _ _ (lt-ltb a x l) (le-leb x b h))

module _ (p : ℕ → Bool) (g : ℕ → Shape) where
  -- a cut that is not in the first run
  cut_next :
      (x a b : ℕ) (cs cs' : List ℕ) → a < b → (a < x → b ≤ x) → cut_at x (runs p g (b ∷ cs)) ≡ runs p g (b ∷ cs')
      → cut_at x (runs p g (a ∷ b ∷ cs)) ≡ runs p g (a ∷ b ∷ cs')
  cut_next x a b cs cs' l out e =
      let R = runs p g (b ∷ cs) in
      let R' = runs p g (b ∷ cs') in
      let node : Shape → Shape = part (piece a (b - 1)) (g a) in
      elim (p a) as (λ t. cut_at x (cond t (node R) R) ≡ cond t (node R') R')
      [ true ↦ cut_past x a (b - 1) (g a) R (λ k. omega (arith, out k)) ∙ ap node e | false ↦ e ]

  -- a cut before the first one, or at it
  cut_low : (x a : ℕ) (cs : List ℕ) → x ≤ a → Up a (a ∷ cs) → cut_at x (runs p g (a ∷ cs)) ≡ runs p g (a ∷ cs)
  cut_low x a [] l u = refl
  cut_low x a (b ∷ cs) l u =
      cut_next x a b cs cs (omega arith) (λ k. omega arith) (cut_low x b cs (omega arith) (omega arith, u.1.1))

  -- a cut within the first run
  cut_first :
      (x a b : ℕ) (cs : List ℕ) → a < x → x < b → Up b (b ∷ cs) → (p x ≡ p a) × (g x ≡ g a)
      → cut_at x (runs p g (a ∷ b ∷ cs)) ≡ runs p g (a ∷ x ∷ b ∷ cs)
  cut_first x a b cs l h u v =
      let R = runs p g (b ∷ cs) in
      let old : Shape → Shape = part (piece a (b - 1)) (g a) in
      let left : Shape → Shape = part (piece a (x - 1)) (g a) in
      let right : Shape → Shape = part (piece x (b - 1)) (g a) in
      rw (v.0, v.1)
      (elim (p a) as (λ t. cut_at x (cond t (old R) R) ≡ cond t (left (cond t (right R) R)) (cond t (right R) R))
      [ true ↦ cut_here x a (b - 1) (g a) R l (omega arith) | false ↦ cut_low x b cs (omega arith) u ])

  -- a cut from the first one on
  cut_from :
      (x a : ℕ) (cs : List ℕ) → a ≤ x → Up a (a ∷ cs) → Level p g (a ∷ cs)
      → cut_at x (runs p g (a ∷ cs)) ≡ runs p g (put x (a ∷ cs))
  cut_from x a [] l u v =
      put_ways (λ l. bare ≡ runs p g l) x a [] (λ k. absurd (omega arith)) (λ _. refl) (λ _. sym (cond-false _ _ _ (v a (omega arith))))
  cut_from x a (b ∷ cs) l u v =
      put_ways (λ l. cut_at x (runs p g (a ∷ b ∷ cs)) ≡ runs p g l) x a (b ∷ cs) (λ k. absurd (omega arith))
      (λ e. cut_low x a (b ∷ cs) (omega arith) u)
      (λ k. ⊎_elim (λ h. rw (put_before x b cs h) (cut_first x a b cs k h (omega arith, u.1.1) (v.0 x l h)))
      (λ h. put_ways (λ l. cut_at x (runs p g (b ∷ cs)) ≡ runs p g l → cut_at x (runs p g (a ∷ b ∷ cs)) ≡ runs p g (a ∷ l)) x b cs
      (λ k. absurd (omega arith))
      (λ _. cut_next x a b cs cs (omega arith) (λ _. h))
      (λ _. cut_next x a b cs (put x cs) (omega arith) (λ _. h))
      (cut_from x b cs h (omega arith, u.1.1) v.1))
      (cases_lt x b))

  -- A cut of the node is a cut more in the list.
  pub cut_runs :
      (x : ℕ) (cs : List ℕ) → Up 0 cs → Level p g cs → Low p cs
      → cut_at x (runs p g cs) ≡ runs p g (put x cs)
  cut_runs x [] u v low = refl
  cut_runs x (a ∷ cs) u v low =
      ⊎_elim
      (λ l. cut_low x a cs (omega arith) (omega arith, u.1) ∙ sym (cond-false _ _ _ (low x a l (omega arith, u.1))) ∙ ap (runs p g) (sym (put_before x a cs l)))
      (λ l. cut_from x a cs l (omega arith, u.1) v) (cases_lt x a)

  -- a cut past the last one
  cut_high : (x a : ℕ) (cs : List ℕ) → Up a (a ∷ cs) → ((c : ℕ) → In c cs → c ≤ x) → cut_at x (runs p g (a ∷ cs)) ≡ runs p g (a ∷ cs)
  cut_high x a [] u few = refl
  cut_high x a (b ∷ cs) u few =
      cut_next x a b cs cs (omega arith) (λ _. few b (inl refl)) (cut_high x b cs (omega arith, u.1.1) (λ c i. few c (inr i)))

  -- so it changes nothing, whatever the cuts are
  cut_none : (x : ℕ) (cs : List ℕ) → Up 0 cs → ((c : ℕ) → In c cs → c ≤ x) → cut_at x (runs p g cs) ≡ runs p g cs
  cut_none x [] u few = refl
  cut_none x (a ∷ cs) u few = cut_high x a cs (omega arith, u.1) (λ c i. few c (inr i))

  -- A cut above a number is a cut more, also where the number is the last one.
  pub above_runs :
      (h : ℕ) (cs : List ℕ) → Up 0 cs → Level p g cs → Low p cs → ((c : ℕ) → In c cs → c ≤ 0x1_0000_0000)
      → cut_above h (runs p g cs) ≡ runs p g (put (h + 1) cs)
  above_runs h cs u v low few =
      let e = cut_runs (h + 1) cs u v low in
      cond_both (eqb h 0xffff_ffff) (runs p g cs) (cut_at (h + 1) (runs p g cs)) (λ sh. sh ≡ runs p g (put (h + 1) cs))
      (λ t. sym (cut_none (h + 1) cs u (λ c i. omega (arith, few c i, eqb-true h 0xffff_ffff t))) ∙ e) (λ _. e)

-- x is from low to high
abbrev pub between : (low high : ℕ) → ℕ → Bool
between low high x = leb low x && leb x high

-- nothing is left to fill
pub gaps_stop : (w h : ℕ) (sh : Shape) → h < w → gaps w h sh ≡ sh
gaps_stop w h bare l = cond-false _ _ _ (lt-leb w h l)
gaps_stop w h (part (piece a b) below rest) l = cond-false _ _ _ (lt-leb w h l)
gaps_stop w h (part (rule i) below rest) l = refl

-- a branch that has the next number to fill
gaps_over :
    (w v h a b : ℕ) (below rest : Shape) → w ≤ h → a ≤ w → max w (b + 1) ≡ v
    → gaps w h (part (piece a b) below rest) ≡ part (piece a b) below (gaps v h rest)
gaps_over w v h a b below rest l m e =
    rw (← e) (cond-true _ _ _ (le-leb w h l) ∙ cond-false _ _ _ (le-ltb w a m))

-- a gap before a branch
gaps_gap :
    (w h a b z : ℕ) (below rest : Shape) → w ≤ h → w < a → min h (a - 1) ≡ z
    → gaps w h (part (piece a b) below rest) ≡ part (piece w z) bare (part (piece a b) below (gaps (max w (b + 1)) h rest))
gaps_gap w h a b z below rest l m e = rw (← e) (cond-true _ _ _ (le-leb w h l) ∙ cond-true _ _ _ (lt-ltb w a m))

-- what passes p, and all from l to h
abbrev pub filled : (ℕ → Bool) → (l h : ℕ) → ℕ → Bool
filled p l h a = p a || between l h a

-- g, with f of it from l to h
abbrev pub deeper : (ℕ → Shape) → (l h : ℕ) → (Shape → Shape) → ℕ → Shape
deeper g l h f a = cond (between l h a) (f (g a)) (g a)

-- A gap is a run of its own: of two neighbouring runs between l and h one passes p.
abbrev pub Near : (ℕ → Bool) → (l h : ℕ) → List ℕ → Type 0
Near p l h cs = (c : ℕ) → In c cs → l < c → c ≤ h → (p c ≡ true) ⊎ (p (c - 1) ≡ true)

module _ (p : ℕ → Bool) (g : ℕ → Shape) (l h : ℕ) where
  -- above h nothing is filled
  runs_above : (a : ℕ) (cs : List ℕ) → h < a → Up a (a ∷ cs) → runs p g (a ∷ cs) ≡ runs (filled p l h) g (a ∷ cs)
  runs_above a [] k u = refl
  runs_above a (b ∷ cs) k u =
      let same : p a ≡ filled p l h a = grind (arith, nat_tests, cases_Bool (p a)) in
      rw (← same, runs_above b cs (omega arith) (omega arith, u.1.1))

  -- a gap up to h
  gap_last :
      (w a : ℕ) (cs : List ℕ) → w ≤ h → h < a → Up a (a ∷ cs) → gaps w h (runs p g (a ∷ cs)) ≡ part (piece w h) bare (runs p g (a ∷ cs))
  gap_last w a [] k m u = cond-true _ _ _ (le-leb w h k)
  gap_last w a (b ∷ cs) k m u =
      let R = runs p g (b ∷ cs) in
      let node : Shape → Shape = part (piece a (b - 1)) (g a) in
      elim (p a) as (λ t. gaps w h (cond t (node R) R) ≡ part (piece w h) bare (cond t (node R) R)) [
        | true ↦ gaps_gap w h a (b - 1) h (g a) R k (omega arith) (omega arith) ∙ ap (λ r. part (piece w h) bare (node r)) (gaps_stop _ h R (omega arith))
        | false ↦ gap_last w b cs k (omega arith) (omega arith, u.1.1)
      ]

  -- the larger of two
  most : (a : ℕ) → l ≤ a → max l a ≡ a
  most a k = omega arith

  -- a gap up to the next run, or up to h
  gap_first :
      (w b : ℕ) (cs : List ℕ) → w < b → b ≤ h + 1 → Up b (b ∷ cs) → Level p g (b ∷ cs) → ((b ≤ h) → p b ≡ true)
      → gaps w h (runs p g (b ∷ cs)) ≡ part (piece w (b - 1)) bare (gaps b h (runs p g (b ∷ cs)))
  gap_first w b cs m k u v here =
      ⊎_elim
      (λ q. let e : h ≡ b - 1 = omega arith in
      gap_last w b cs (omega arith) q u ∙ ap₂ (λ z r. part (piece w z) bare r) e (sym (gaps_stop b h _ q)))
      (λ q. inside cs u v q)
      (cases_lt h b)
    where
      inside :
          (cs : List ℕ) → Up b (b ∷ cs) → Level p g (b ∷ cs) → b ≤ h
          → gaps w h (runs p g (b ∷ cs)) ≡ part (piece w (b - 1)) bare (gaps b h (runs p g (b ∷ cs)))
      inside [] u v q = absurd (true≢false (sym (here q) ∙ v b (omega arith)))
      inside (c ∷ cs) u v q =
          let R = runs p g (c ∷ cs) in
          rw (runs_yes p g b c cs (here q))
          (gaps_gap w h b (c - 1) (b - 1) (g b) R (omega arith) m (omega arith)
          ∙ ap (λ r. part (piece w (b - 1)) bare r)
          (ap (λ z. part (piece b (c - 1)) (g b) (gaps z h R)) (omega arith) ∙ sym (gaps_over b (max b (c - 1 + 1)) h b (c - 1) (g b) R q (omega arith) refl)))

  -- All that lacks from l to h is filled.
  pub gaps_runs :
      (a : ℕ) (cs : List ℕ) → l ≤ h → ((x : ℕ) → p x ≡ false → g x ≡ bare) → Up a (a ∷ cs) → Level p g (a ∷ cs) → Near p l h (a ∷ cs)
      → Cut l a cs → Cut (h + 1) a cs → gaps (max l a) h (runs p g (a ∷ cs)) ≡ runs (filled p l h) g (a ∷ cs)
  gaps_runs a [] lh none u v near cl ch =
      ⊎_elim (λ q. cond-false _ _ _ (lt-leb (max l a) h (omega arith))) (λ i. absurd i) ch
  gaps_runs a (b ∷ cs) lh none u v near cl ch =
      let up : Up b (b ∷ cs) = (omega arith, u.1.1) in
      let R = runs p g (b ∷ cs) in
      let R' = runs (filled p l h) g (b ∷ cs) in
      let node : Shape → Shape = part (piece a (b - 1)) (g a) in
      let ih : gaps (max l b) h R ≡ R' =
      gaps_runs b cs lh none up v.1 (λ c i. near c (inr i)) (cut_more l a b cs (omega arith) cl) (cut_more (h + 1) a b cs (omega arith) ch) in
      ⊎_elim
      (λ k. gaps_stop (max l a) h _ (omega arith) ∙ runs_above a (b ∷ cs) k u)
      (λ k. ⊎_elim
      (λ t. ap (gaps (max l a) h) (runs_yes p g a b cs t)
      ∙ gaps_over (max l a) (max l b) h a (b - 1) (g a) R (omega arith) (omega arith) (omega arith) ∙ ap node ih
      ∙ sym (runs_yes (filled p l h) g a b cs (or_left _ _ t)))
      (λ t. ⊎_elim
      (λ m. let f : between l h a ≡ false = grind (arith, nat_tests) in
      let e : max l a ≡ max l b = omega (arith, cut_out l a b cs up cl m) in
      ap (gaps (max l a) h) (runs_no p g a b cs t) ∙ ap (λ z. gaps z h R) e ∙ ih ∙ sym (runs_no (filled p l h) g a b cs (or_from _ _ t f)))
      (λ m. let f : between l h a ≡ true = grind (arith, nat_tests) in
      let below : bare ≡ g a = sym (none a t) in
      let next : b ≤ h → p b ≡ true =
      λ q. ⊎_elim (λ y. y) (λ y. absurd (true≢false (sym y ∙ (v.0 (b - 1) (omega arith) (omega arith)).0 ∙ t))) (near b (inr (inl refl)) (omega arith) q) in
      ap (gaps (max l a) h) (runs_no p g a b cs t) ∙ ap (λ z. gaps z h R) (most a m)
      ∙ gap_first a b cs (omega arith) (cut_out (h + 1) a b cs up ch (omega arith)) up v.1 next
      ∙ ap₂ (λ r s. part (piece a (b - 1)) r s) below (ap (λ z. gaps z h R) (sym (most b (omega arith))) ∙ ih)
      ∙ sym (runs_yes (filled p l h) g a b cs (or_right _ _ f)))
      (cases_lt a l))
      (cases_Bool (p a)))
      (cases_lt h a)

  -- the same from any first cut on
  pub gaps_all :
      (cs : List ℕ) → l ≤ h → ((x : ℕ) → p x ≡ false → g x ≡ bare) → Up 0 cs → Level p g cs → Near p l h cs → In l cs → In (h + 1) cs
      → gaps l h (runs p g cs) ≡ runs (filled p l h) g cs
  gaps_all [] lh none u v near il ih = absurd il
  gaps_all (a ∷ cs) lh none u v near il ih =
      let up : Up a (a ∷ cs) = (omega arith, u.1) in
      let e : l ≡ max l a = omega (arith, up_in a l (a ∷ cs) up il) in
      ap (λ w. gaps w h (runs p g (a ∷ cs))) e ∙ gaps_runs a cs lh none up v near (first_cut l a cs il) (first_cut (h + 1) a cs ih)

module _ (p : ℕ → Bool) (g : ℕ → Shape) (l h : ℕ) (f : Shape → Shape) where
  -- from any cut on
  under_from :
      (a : ℕ) (cs : List ℕ) → Up a (a ∷ cs) → Cut (h + 1) a cs → under l h f (runs p g (a ∷ cs)) ≡ runs p (deeper g l h f) (a ∷ cs)
  under_from a [] u c = refl
  under_from a (b ∷ cs) u c =
      let up : Up b (b ∷ cs) = (omega arith, u.1.1) in
      let R = runs p g (b ∷ cs) in
      let R' = runs p (deeper g l h f) (b ∷ cs) in
      let ih : under l h f R ≡ R' = under_from b cs up (cut_more (h + 1) a b cs (omega arith) c) in
      let out : a < h + 1 → b ≤ h + 1 = cut_out (h + 1) a b cs up c in
      let e : (leb l a && leb (b - 1) h) ≡ between l h a = grind (arith, nat_tests) in
      let node : Shape → Shape = part (piece a (b - 1)) (g a) in
      elim (p a) as (λ t. under l h f (cond t (node R) R) ≡ cond t (part (piece a (b - 1)) (deeper g l h f a) R') R')
      [ true ↦ ap₂ (λ t r. part (piece a (b - 1)) (cond t (f (g a)) (g a)) r) e ih | false ↦ ih ]

  -- What is below changes from l to h.
  pub under_runs : (cs : List ℕ) → Up 0 cs → In (h + 1) cs → under l h f (runs p g cs) ≡ runs p (deeper g l h f) cs
  under_runs [] u i = refl
  under_runs (a ∷ cs) u i = under_from a cs (omega arith, u.1) (first_cut (h + 1) a cs i)

-- the same test and the same below give the same node
pub runs_same :
    (p q : ℕ → Bool) (f g : ℕ → Shape) → ((a : ℕ) → p a ≡ q a) → ((a : ℕ) → f a ≡ g a) → (cs : List ℕ) → runs p f cs ≡ runs q g cs
runs_same p q f g e d cs = ap₂ (λ r s. runs r s cs) (fun_ext e) (fun_ext d)
