-- What a message reaches. Assumes nothing.
use Rattle.std.proofs.Common.{◌≡◌, ℕ, zero, suc, ◌+◌, ◌-◌, ◌<◌, ◌≤◌, Bool, true, false, cond, ◌&&◌, leb, List, [], ◌∷◌, map, length, take, drop, Some, None, filter, Option, sym, refl, ap, ◌∙◌, ⊎_elim, arith, drop-cons, MatchOption}
use Rattle.std.specs.Option.{option_and_then}
use Rattle.std.specs.List.{AllByRecursion}
use Rattle.std.proofs.ByRecursion.{All-weaker, all_kept_by}
use Rattle.std.proofs.lemmas.Bool.{cond-true, cond-false, cond_both, cases_lt, true≢false}
use Rattle.std.proofs.lemmas.Bool.Decides.{nat_tests}
use Rattle.routing.specs.declared.ends.Ends.{Ends}
use Rattle.routing.specs.Rules.{holds, matches, matching}
use Rattle.shape.specs.Shapes.{Shape, part, piece, grown}
use Rattle.shape.specs.Meaning.{Proper, branch_at, reached, marks_in, LookUpIsRight}
use Rattle.shape.proofs.Cuts.{Up}
use Rattle.shape.proofs.Runs.{runs, Level, Low}
use Rattle.shape.proofs.Canon.{Numbered, ends, field, held, some, some_none, cell, canon, cuts_of, cuts_up, ends_cuts, kept_same, level, low, number, passes, beneath, Whole}
use Rattle.shape.proofs.Grown.{numbered, grown_canon, all_whole}

-- a branch that does not hold v
pub past : (v a b : ℕ) (below rest : Shape) → (a ≤ v → b < v) → branch_at v (part (piece a b) below rest) ≡ branch_at v rest
past v a b below rest out = let e : (leb a v && leb v b) ≡ false = grind (arith, nat_tests) in cond-false _ _ _ e

-- the branch that holds v
pub here : (v a b : ℕ) (below rest : Shape) → a ≤ v → v ≤ b → branch_at v (part (piece a b) below rest) ≡ Some below
here v a b below rest l h = let e : (leb a v && leb v b) ≡ true = grind (arith, nat_tests) in cond-true _ _ _ e

module _ (p : ℕ → Bool) (g : ℕ → Shape) (v : ℕ) where
  -- a run that v is not in
  on : (a b : ℕ) (cs : List ℕ) → a < b → (a ≤ v → b ≤ v) → branch_at v (runs p g (a ∷ b ∷ cs)) ≡ branch_at v (runs p g (b ∷ cs))
  on a b cs l out =
      let R = runs p g (b ∷ cs) in
      elim (p a) as (λ t. branch_at v (cond t (part (piece a (b - 1)) (g a) R) R) ≡ branch_at v R)
      [ true ↦ past v a (b - 1) (g a) R (λ k. omega (arith, out k)) | false ↦ refl ]

  -- v is below all runs
  below_all : (a : ℕ) (cs : List ℕ) → v < a → Up a (a ∷ cs) → branch_at v (runs p g (a ∷ cs)) ≡ None
  below_all a [] l u = refl
  below_all a (b ∷ cs) l u = on a b cs (omega arith) (λ k. omega arith) ∙ below_all b cs (omega arith) (omega arith, u.1.1)

  -- from any cut on
  from : (a : ℕ) (cs : List ℕ) → a ≤ v → Up a (a ∷ cs) → Level p g (a ∷ cs) → branch_at v (runs p g (a ∷ cs)) ≡ cond (p v) (Some (g v)) None
  from a [] l u e = sym (cond-false _ _ _ (e v l))
  from a (b ∷ cs) l u e =
      let up : Up b (b ∷ cs) = (omega arith, u.1.1) in
      let R = runs p g (b ∷ cs) in
      ⊎_elim
      (λ h.
      rw ((e.0 v l h).0, (e.0 v l h).1)
      (elim (p a) as (λ t. branch_at v (cond t (part (piece a (b - 1)) (g a) R) R) ≡ cond t (Some (g a)) None)
      [ true ↦ here v a (b - 1) (g a) R l (omega arith) | false ↦ below_all b cs h up ]))
      (λ h. on a b cs (omega arith) (λ _. h) ∙ from b cs h up e.1)
      (cases_lt v b)

  -- The branch that holds v is there if v passes p, and has g of v below.
  at_runs : (cs : List ℕ) → Up 0 cs → Level p g cs → Low p cs → branch_at v (runs p g cs) ≡ cond (p v) (Some (g v)) None
  at_runs [] u e lo = sym (cond-false _ _ _ (lo v (v + 1) (omega arith) tt))
  at_runs (a ∷ cs) u e lo =
      let up : Up a (a ∷ cs) = (omega arith, u.1) in
      ⊎_elim (λ l. below_all a cs l up ∙ sym (cond-false _ _ _ (lo v a l up))) (λ l. from a cs l up e) (cases_lt v a)

-- the rule matches from field m on, where k fields are left
abbrev meant : (k m : ℕ) (vs : List ℕ) → Numbered → Bool
meant k m vs r = matches k (drop m (ends r)) vs

-- two tests, one after the other
kept_both : (p q : Numbered → Bool) (T : List Numbered) → filter q (filter p T) ≡ filter (λ r. p r && q r) T
kept_both p q [] = refl
kept_both p q (r ∷ T) =
    let K = filter p T in
    let B = filter (λ r. p r && q r) T in
    elim (p r) as (λ t. filter q (cond t (r ∷ K) K) ≡ cond (t && q r) (r ∷ B) B)
    [ true ↦ ap (λ l. cond (q r) (r ∷ l) l) (kept_both p q T) | false ↦ kept_both p q T ]

-- a test that every rule passes
kept_all : (T : List Numbered) → filter (λ _. true) T ≡ T
kept_all [] = refl
kept_all (r ∷ T) = ap (λ l. r ∷ l) (kept_all T)

-- what is found for the rules L, of which there is one where there was one at all
abbrev Found : Option Shape → (L T : List Numbered) → Type 0
Found o L T = MatchOption o (L ≡ []) (λ c. (c ≡ cell L) × (some T ≡ true → some L ≡ true))

-- fewer rules at the start, of which there is one
found_less : (o : Option Shape) (L H T : List Numbered) → some H ≡ true → Found o L H → Found o L T
found_less None L H T t f = f
found_less (Some c) L H T t f = (f.0, λ _. f.1 t)

-- The cell that values reach in the tree of rules is that of the rules that match.
found_canon :
    (d k m : ℕ) (vs : List ℕ) (T : List Numbered) → m + k ≡ d → k ≤ length vs → AllByRecursion (Whole d) T
    → Found (reached (take k vs) (canon k m T)) (filter (meant k m vs) T) T
found_canon d zero m vs T e l w =
    let all = sym (kept_all T) in (ap cell all, λ t. rw (kept_all T) t)
found_canon d (suc k) m [] T e l w = absurd (omega arith)
found_canon d (suc k) m (v ∷ vs) T e l w =
    let here : m < d = omega arith in
    let G = canon k (suc m) in
    let H = held m v T in
    let M = filter (meant k (suc m) vs) H in
    let step : filter (meant (suc k) m (v ∷ vs)) T ≡ M =
    kept_same (meant (suc k) m (v ∷ vs)) (λ r. holds (field m r) v && meant k (suc m) vs r) T
    (All-weaker (Whole d) _
    (λ r w. ap (λ es. matches (suc k) es (v ∷ vs)) (drop-cons (ends r) m (record { low = 0; high = 0 }) (w m here).0)) T w)
    ∙ sym (kept_both (λ r. holds (field m r) v) (meant k (suc m) vs) T) in
    let C = cuts_of m T in
    let found : branch_at v (canon (suc k) m T) ≡ cond (some H) (Some (G H)) None =
    at_runs (passes m T) (beneath m T G) v C (cuts_up m T) (level m T G C (cuts_up m T) (ends_cuts m T)) (low m T C (ends_cuts m T)) in
    rw (step, found)
    (cond_both (some H) (Some (G H)) None (λ o. Found (option_and_then (reached (take k vs)) o) M T)
    (λ t. found_less (reached (take k vs) (G H)) M H T t (found_canon d k (suc m) vs H (omega arith) (omega arith) (all_kept_by _ (Whole d) T w)))
    (λ t. ap (filter (meant k (suc m) vs)) (some_none H t)))

-- the marks of a cell are the numbers of its rules
marks_cell : (T : List Numbered) → marks_in (cell T) ≡ map number T
marks_cell [] = refl
marks_cell (r ∷ T) = ap (λ l. number r ∷ l) (marks_cell T)

-- there are some where there is a rule
marked : (T : List Numbered) → some T ≡ true → marks_in (cell T) ≡ [] → ⊥
marked [] t e = true≢false (sym t)
marked (r ∷ T) t e = let z : ◌≡◌ {A = ℕ} 0 1 = cc in omega arith

-- the numbers of the rules that match
numbers : (d n : ℕ) (T : List (List Ends)) (vs : List ℕ) → map number (filter (meant d 0 vs) (numbered n T)) ≡ matching d n T vs
numbers d n [] vs = refl
numbers d n (r ∷ T) vs =
    let K = filter (meant d 0 vs) (numbered (suc n) T) in
    let M = matching d (suc n) T vs in
    elim (matches d r vs) as (λ t. map number (cond t ((n, r) ∷ K) K) ≡ cond t (n ∷ M) M)
    [ true ↦ ap (λ l. n ∷ l) (numbers d (suc n) T vs) | false ↦ numbers d (suc n) T vs ]

-- what is found, by numbers
read :
    (o : Option Shape) (L T : List Numbered) (M : List ℕ) → map number L ≡ M → Found o L T
    → MatchOption o (M ≡ []) (λ c. (marks_in c ≡ M) × (some T ≡ true → marks_in c ≡ [] → ⊥))
read None L T M e f = sym e ∙ ap (map number) f
read (Some c) L T M e f = (ap marks_in f.0 ∙ marks_cell L ∙ e, λ t q. marked L (f.1 t) (ap marks_in (sym f.0) ∙ q))

-- The cell that a message reaches has the marks of the rules that match, and has one where there is a rule.
pub look_up :
    (d : ℕ) (T : List (List Ends)) → AllByRecursion (Proper d) T → (v : List ℕ) → d ≤ length v
    → MatchOption (reached (take d v) (grown d T)) (matching d 1 T v ≡ [])
    (λ c. (marks_in c ≡ matching d 1 T v) × (some (numbered 1 T) ≡ true → marks_in c ≡ [] → ⊥))
look_up d T ok v l =
    let N = numbered 1 T in
    rw (grown_canon d T ok) (read _ (filter (meant d 0 v) N) N _ (numbers d 1 T v) (found_canon d d 0 v N (omega arith) l (all_whole d 1 T ok)))

-- the first of two facts of what is there
first_of : {X : Type 0} (o : Option X) (P : Type 0) (Q R : X → Type 0) → MatchOption o P (λ x. Q x × R x) → MatchOption o P Q
first_of None P Q R f = f
first_of (Some x) P Q R f = f.0

-- THE LOOK-UP: a message reaches the rules that match it
pub look_up_right : LookUpIsRight
look_up_right d T ok v l = first_of (reached (take d v) (grown d T)) _ _ _ (look_up d T ok v l)
