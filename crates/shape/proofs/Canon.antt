-- The tree that the cuts of numbered rules tell, and that a rule more makes it the tree of one rule more. Assumes nothing.
use Rattle.std.proofs.Common.{◌≡◌, ℕ, zero, suc, ◌+◌, ◌-◌, ◌<◌, ◌≤◌, Bool, true, false, cond, ◌||◌, ◌⊎◌, List, [], ◌∷◌, ◌++◌, map, length, take, drop, filter, sym, refl, ap, ◌∙◌, ap₂, inl, inr, ⊎_elim, arith, drop-cons}
use Rattle.std.specs.List.{AllByRecursion}
use Rattle.std.proofs.lemmas.List.{append-nil, map_push}
use Rattle.std.proofs.lemmas.List.Elements.{filter-append}
use Rattle.std.proofs.ByRecursion.{all_kept_by, All-weaker}
use Rattle.std.proofs.lemmas.Bool.{cond-true, cond-false, cond_both, true≢false}
use Rattle.std.proofs.lemmas.Bool.Decides.{nat_tests}
use Rattle.routing.specs.declared.ends.Ends.{Ends}
use Rattle.routing.specs.Rules.{holds}
use Rattle.routing.specs.Space.{at, put, cuts}
use Rattle.shape.specs.Shapes.{Shape, bare, part, rule, cut_above, gaps, under, ready, add_mark, insert}
use Rattle.shape.specs.Meaning.{Sound}
use Rattle.shape.proofs.Cuts.{In, Up, up_in, Cut, cut_more, cut_out, first_cut, put_up, put_in, in_put, put_only, put_swap}
use Rattle.shape.proofs.Runs.{runs, Level, Low, Near, filled, deeper, between, cut_runs, above_runs, gaps_all, under_runs, runs_same}

-- a rule's ends, with its number
abbrev pub Numbered : Type 0
Numbered = ℕ × List Ends

-- its number
abbrev pub number : Numbered → ℕ
number r = r.0

-- its intervals
abbrev pub ends : Numbered → List Ends
ends r = r.1

-- its interval in field m
abbrev pub field : ℕ → Numbered → Ends
field m r = at (ends r) m

-- the rules that hold x in field m
abbrev pub held : (m x : ℕ) → List Numbered → List Numbered
held m x T = filter (λ r. holds (field m r) x) T

-- there is a rule
abbrev pub some : List Numbered → Bool
some [] = false
some (r ∷ rs) = true

-- the marks of rules
abbrev pub cell : List Numbered → Shape
cell [] = bare
cell (r ∷ rs) = part (rule (number r)) bare (cell rs)

-- the cuts of rules at field m
abbrev pub cuts_of : ℕ → List Numbered → List ℕ
cuts_of m T = cuts m (map ends T)

-- some rule holds x in field m
abbrev pub passes : (m : ℕ) → List Numbered → ℕ → Bool
passes m T x = some (held m x T)

-- what G makes of the rules that hold x in field m
abbrev pub beneath : (m : ℕ) → List Numbered → (List Numbered → Shape) → ℕ → Shape
beneath m T G x = G (held m x T)

-- the tree of rules from field m on, with k fields left
abbrev pub canon : (k m : ℕ) → List Numbered → Shape
canon zero m T = cell T
canon (suc k) m T = runs (passes m T) (beneath m T (canon k (suc m))) (cuts_of m T)

-- cuts go upward
pub cuts_up : (m : ℕ) (T : List Numbered) → Up 0 (cuts_of m T)
cuts_up m [] = tt
cuts_up m (r ∷ T) = put_up 0 _ _ (omega arith) (put_up 0 _ _ (omega arith) (cuts_up m T))

-- both ends of the rule are cuts
abbrev pub Ended : (m : ℕ) (cs : List ℕ) → Numbered → Type 0
Ended m cs r = In (field m r).low cs × In ((field m r).high + 1) cs

-- and still are after one cut more
ends_put : (m x : ℕ) (cs : List ℕ) (T : List Numbered) → AllByRecursion (Ended m cs) T → AllByRecursion (Ended m (put x cs)) T
ends_put m x cs T e = All-weaker (Ended m cs) (Ended m (put x cs)) (λ r i. (in_put _ x cs i.0, in_put _ x cs i.1)) T e

-- among the cuts of rules are their ends
pub ends_cuts : (m : ℕ) (T : List Numbered) → AllByRecursion (Ended m (cuts_of m T)) T
ends_cuts m [] = tt
ends_cuts m (r ∷ T) = (
  (put_in (field m r).low (put ((field m r).high + 1) (cuts_of m T)), in_put _ (field m r).low _ (put_in ((field m r).high + 1) (cuts_of m T))),
  ends_put m _ _ T (ends_put m _ _ T (ends_cuts m T)),
)

-- a rule more is two cuts more
pub cuts_push :
    (m : ℕ) (T : List (List Ends)) (r : List Ends)
    → cuts m (T ++ r ∷ []) ≡ put ((at r m).high + 1) (put (at r m).low (cuts m T))
cuts_push m [] r = put_swap (at r m).low ((at r m).high + 1) []
cuts_push m (s ∷ T) r =
    let l = (at r m).low in
    let h = (at r m).high + 1 in
    let a = (at s m).low in
    let b = (at s m).high + 1 in
    let C = cuts m T in
    ap (λ c. put a (put b c)) (cuts_push m T r)
    ∙ ap (put a) (put_swap b h _ ∙ ap (put h) (put_swap b l C))
    ∙ put_swap a h _ ∙ ap (put h) (put_swap a l _)

-- tests that agree keep the same rules
pub kept_same : (p q : Numbered → Bool) (T : List Numbered) → AllByRecursion (λ r. p r ≡ q r) T → filter p T ≡ filter q T
kept_same p q [] e = refl
kept_same p q (r ∷ T) e = ap₂ (λ t l. cond t (r ∷ l) l) e.0 (kept_same p q T e.1)

-- a test that no rule passes keeps none
pub kept_none : (p : Numbered → Bool) (T : List Numbered) → AllByRecursion (λ r. p r ≡ false) T → filter p T ≡ []
kept_none p [] e = refl
kept_none p (r ∷ T) e = cond-false _ _ _ e.0 ∙ kept_none p T e.1

-- a rule that holds x
some_here : (m x : ℕ) (r : Numbered) (T : List Numbered) → holds (field m r) x ≡ true → passes m (r ∷ T) x ≡ true
some_here m x r T t = ap some (cond-true _ _ _ t)

-- a rule after the first one that holds x
some_later : (m x : ℕ) (r : Numbered) (T : List Numbered) → passes m T x ≡ true → passes m (r ∷ T) x ≡ true
some_later m x r T t = cond_both (holds (field m r) x) (r ∷ held m x T) _ (λ l. some l ≡ true) (λ _. refl) (λ _. t)

-- there is a rule, or one is added
some_push : (T : List Numbered) (r : Numbered) (t : Bool) → (some T || t) ≡ some (T ++ cond t (r ∷ []) [])
some_push [] r true = refl
some_push [] r false = refl
some_push (s ∷ T) r t = refl

-- both ends of the rule are cuts after a, or not above a
abbrev pub Fenced : (m a : ℕ) (cs : List ℕ) → Numbered → Type 0
Fenced m a cs r = Cut (field m r).low a cs × Cut ((field m r).high + 1) a cs

-- neither end of the rule is strictly between a and b
abbrev pub Apart : (m a b : ℕ) → Numbered → Type 0
Apart m a b r = (a < (field m r).low → b ≤ (field m r).low) × (a < (field m r).high + 1 → b ≤ (field m r).high + 1)

module _ (m : ℕ) (T : List Numbered) where
  -- the ends are the first cut, or after it
  pub fenced : (a : ℕ) (cs : List ℕ) → AllByRecursion (Ended m (a ∷ cs)) T → AllByRecursion (Fenced m a cs) T
  fenced a cs e = All-weaker (Ended m (a ∷ cs)) (Fenced m a cs) (λ r i. (first_cut _ a cs i.0, first_cut _ a cs i.1)) T e

  -- the same after the next cut
  pub fenced_more : (a b : ℕ) (cs : List ℕ) → a < b → AllByRecursion (Fenced m a (b ∷ cs)) T → AllByRecursion (Fenced m b cs) T
  fenced_more a b cs k e =
      All-weaker (Fenced m a (b ∷ cs)) (Fenced m b cs) (λ r i. (cut_more _ a b cs k i.0, cut_more _ a b cs k i.1)) T e

  -- no end lies between two neighbouring cuts
  pub apart : (a b : ℕ) (cs : List ℕ) → Up b (b ∷ cs) → AllByRecursion (Fenced m a (b ∷ cs)) T → AllByRecursion (Apart m a b) T
  apart a b cs u e =
      All-weaker (Fenced m a (b ∷ cs)) (Apart m a b) (λ r i. (cut_out _ a b cs u i.0, cut_out _ a b cs u i.1)) T e

  -- between two cuts the same rules hold each number
  held_same : (a b x : ℕ) → a ≤ x → x < b → AllByRecursion (Apart m a b) T → held m x T ≡ held m a T
  held_same a b x k l e =
      kept_same _ _ T (All-weaker (Apart m a b) (λ r. holds (field m r) x ≡ holds (field m r) a) (λ r i. grind (arith, nat_tests)) T e)

  -- no rule holds x
  none_held : (x : ℕ) (P : Numbered → Type 0) → ((r : Numbered) → P r → holds (field m r) x ≡ false) → AllByRecursion P T → passes m T x ≡ false
  none_held x P out e = ap some (kept_none _ T (All-weaker P (λ r. holds (field m r) x ≡ false) out T e))

  -- no rule holds what is below the first cut
  pub low : (cs : List ℕ) → AllByRecursion (Ended m cs) T → Low (passes m T) cs
  low cs e x lo k u = none_held x (Ended m cs) (λ r i. let q = up_in lo _ cs u i.0 in grind (arith, nat_tests)) e

-- The test and what is below do not change within a run.
module _ (m : ℕ) (T : List Numbered) (G : List Numbered → Shape) where
  -- from any cut on
  level_from : (a : ℕ) (cs : List ℕ) → Up a (a ∷ cs) → AllByRecursion (Fenced m a cs) T → Level (passes m T) (beneath m T G) (a ∷ cs)
  level_from a [] u e = λ x k. none_held m T x (Fenced m a []) (λ r i. ⊎_elim (λ q. grind (arith, nat_tests)) absurd i.1) e
  level_from a (b ∷ cs) u e =
      let up : Up b (b ∷ cs) = (omega arith, u.1.1) in (
        λ x k l. let s = held_same m T a b x k l (apart m T a b cs up e) in (ap some s, ap G s),
        level_from b cs up (fenced_more m T a b cs (omega arith) e),
      )

  -- from the first one on
  pub level : (cs : List ℕ) → Up 0 cs → AllByRecursion (Ended m cs) T → Level (passes m T) (beneath m T G) cs
  level [] u e = tt
  level (a ∷ cs) u e = level_from a cs (omega arith, u.1) (fenced m T a cs e)

-- where there is no rule there are none
pub some_none : (T : List Numbered) → some T ≡ false → T ≡ []
some_none [] e = refl
some_none (r ∷ T) e = absurd (true≢false e)

-- a rule with an interval in each of d fields
abbrev pub Whole : ℕ → Numbered → Type 0
Whole d r = (m : ℕ) → m < d → (m < length (ends r)) × Sound (field m r)

-- a rule whose interval in field m is sound
abbrev pub Sound_at : ℕ → Numbered → Type 0
Sound_at m r = Sound (field m r)

-- at a cut some rule starts, or one has just ended
near :
    (m : ℕ) (T : List Numbered) → AllByRecursion (Sound_at m) T → (c : ℕ) → In c (cuts_of m T)
    → (passes m T c ≡ true) ⊎ (passes m T (c - 1) ≡ true)
near m [] w c i = absurd i
near m (r ∷ T) w c i =
    let l = (field m r).low in
    let h = (field m r).high in
    let k = w.0.0 in
    ⊎_elim (λ q. inl (some_here m c r T (grind (arith, nat_tests))))
    (λ j. ⊎_elim (λ q. inr (some_here m (c - 1) r T (grind (arith, nat_tests))))
    (λ j. ⊎_elim (λ t. inl (some_later m c r T t)) (λ t. inr (some_later m (c - 1) r T t)) (near m T w.1 c j))
    (put_only c (h + 1) (cuts_of m T) j))
    (put_only c l (put (h + 1) (cuts_of m T)) i)

-- no cut is past the number after the last one
few : (m : ℕ) (T : List Numbered) → AllByRecursion (Sound_at m) T → (c : ℕ) → In c (cuts_of m T) → c ≤ 0x1_0000_0000
few m [] w c i = absurd i
few m (r ∷ T) w c i =
    let s = w.0 in
    ⊎_elim (λ q. omega arith) (λ j. ⊎_elim (λ q. omega arith) (few m T w.1 c) (put_only c ((field m r).high + 1) (cuts_of m T) j))
    (put_only c (field m r).low (put ((field m r).high + 1) (cuts_of m T)) i)

-- What the insertion of a rule with the interval from l to h does to a node.
module _ (m : ℕ) (T : List Numbered) (G : List Numbered → Shape) (l h : ℕ) (f : Shape → Shape) where
  -- a node of the canonical tree
  node :
      (l ≤ h) × (h ≤ 0xffff_ffff) → AllByRecursion (Sound_at m) T → G [] ≡ bare
      → under l h f (ready l h (runs (passes m T) (beneath m T G) (cuts_of m T)))
      ≡ runs (filled (passes m T) l h) (deeper (beneath m T G) l h f) (put (h + 1) (put l (cuts_of m T)))
  node lh w none =
      let C = cuts_of m T in
      let C₁ = put l C in
      let C₂ = put (h + 1) C₁ in
      let P = passes m T in
      let B = beneath m T G in
      let u = cuts_up m T in
      let u₁ : Up 0 C₁ = put_up 0 l C (omega arith) u in
      let u₂ : Up 0 C₂ = put_up 0 (h + 1) C₁ (omega arith) u₁ in
      let e = ends_cuts m T in
      let e₁ = ends_put m l C T e in
      let e₂ = ends_put m (h + 1) C₁ T e₁ in
      let few₁ : (c : ℕ) → In c C₁ → c ≤ 0x1_0000_0000 = λ c i. ⊎_elim (λ z. omega arith) (few m T w c) (put_only c l C i) in
      let near₂ : Near P l h C₂ =
      λ c i k q. ⊎_elim (λ z. absurd (omega arith)) (λ j. ⊎_elim (λ z. absurd (omega arith)) (near m T w c) (put_only c l C j)) (put_only c (h + 1) C₁ i) in
      ap (λ sh. under l h f (gaps l h (cut_above h sh))) (cut_runs P B l C u (level m T G C u e) (low m T C e))
      ∙ ap (λ sh. under l h f (gaps l h sh)) (above_runs P B h C₁ u₁ (level m T G C₁ u₁ e₁) (low m T C₁ e₁) few₁)
      ∙ ap (under l h f)
      (gaps_all P B l h C₂ lh.0 (λ x t. ap G (some_none _ t) ∙ none) u₂ (level m T G C₂ u₂ e₂) near₂
      (in_put l (h + 1) C₁ (put_in l C)) (put_in (h + 1) C₁))
      ∙ under_runs (filled P l h) B l h f C₂ u₂ (put_in (h + 1) C₁)

-- a rule more is a mark more
cell_push : (T : List Numbered) (r : Numbered) → add_mark (number r) (cell T) ≡ cell (T ++ r ∷ [])
cell_push [] r = refl
cell_push (s ∷ T) r = ap (part (rule (number s)) bare) (cell_push T r)

-- no rules, no tree
pub canon_none : (k m : ℕ) → canon k m [] ≡ bare
canon_none zero m = refl
canon_none (suc k) m = refl

-- what holds x after one rule more
held_push : (m x : ℕ) (T : List Numbered) (r : Numbered) → held m x (T ++ r ∷ []) ≡ held m x T ++ cond (holds (field m r) x) (r ∷ []) []
held_push m x T r = filter-append (λ r. holds (field m r) x) T (r ∷ [])

-- One rule more makes the tree the tree of one rule more.
pub insert_canon :
    (d k m : ℕ) (r : Numbered) (T : List Numbered) → m + k ≡ d → Whole d r → AllByRecursion (Whole d) T
    → insert (take k (drop m (ends r))) (number r) (canon k m T) ≡ canon k m (T ++ r ∷ [])
insert_canon d zero m r T e w ws = cell_push T r
insert_canon d (suc k) m r T e w ws =
    let G = canon k (suc m) in
    let here : m < d = omega arith in
    let l = (field m r).low in
    let h = (field m r).high in
    let f = insert (take k (drop (suc m) (ends r))) (number r) in
    let sound = All-weaker (Whole d) (Sound_at m) (λ r w. (w m here).1) T ws in
    ap (λ es. insert (take (suc k) es) (number r) (canon (suc k) m T)) (drop-cons (ends r) m (record { low = 0; high = 0 }) (w m here).0)
    ∙ node m T G l h f (w m here).1 sound (canon_none k (suc m))
    ∙ runs_same (filled (passes m T) l h) (passes m (T ++ r ∷ [])) (deeper (beneath m T G) l h f) (beneath m (T ++ r ∷ []) G)
    (λ a. some_push (held m a T) r (between l h a) ∙ ap some (sym (held_push m a T r)))
    (λ a.
    let H = held m a T in
    let ih : f (G H) ≡ G (H ++ r ∷ []) = insert_canon d k (suc m) r H (omega arith) w (all_kept_by _ (Whole d) T ws) in
    let wide : deeper (beneath m T G) l h f a ≡ G (H ++ cond (between l h a) (r ∷ []) []) =
    elim (between l h a) as (λ t. cond t (f (G H)) (G H) ≡ G (H ++ cond t (r ∷ []) [])) [ true ↦ ih | false ↦ ap G (sym (append-nil H)) ] in
    wide ∙ ap G (sym (held_push m a T r)))
    (put (h + 1) (put l (cuts_of m T)))
    ∙ ap (runs (passes m (T ++ r ∷ [])) (beneath m (T ++ r ∷ []) G)) (sym (cuts_push m (map ends T) (ends r)) ∙ ap (cuts m) (sym (map_push ends T r)))
