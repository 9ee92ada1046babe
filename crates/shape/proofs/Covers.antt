-- Each message that a rule matches lies in a cell within the rule's intervals. Assumes nothing.
use Rattle.std.proofs.Common.{◌≡◌, ℕ, suc, ◌+◌, ◌-◌, ◌<◌, ◌≤◌, Bool, true, false, cond, List, [], ◌∷◌, ◌++◌, map, length, take, drop, sym, refl, ap, ◌∙◌, subst, ⊎_elim, arith, drop-cons}
use Rattle.std.specs.List.{ContainsAt, AllByRecursion}
use Rattle.std.proofs.lemmas.List.{length-map, get_or-map}
use Rattle.std.proofs.lemmas.List.Elements.{filter-append}
use Rattle.std.proofs.ByRecursion.{has_push, has_append_left, has_append_right}
use Rattle.std.proofs.lemmas.Bool.{cond-true, and_parts, and_from, le-leb, leb-true, cases_lt, true≢false}
use Rattle.routing.specs.declared.ends.Ends.{Ends}
use Rattle.routing.specs.Rules.{holds, matches}
use Rattle.shape.specs.Shapes.{Label, Shape, part, piece}
use Rattle.shape.specs.Meaning.{Proper, marks_in, Cell, within, box_of, cells, CellsCover}
use Rattle.shape.proofs.Cuts.{In, Up, up_in, Cut, cut_more, cut_out, first_cut}
use Rattle.shape.proofs.Runs.{runs, runs_yes, Level}
use Rattle.shape.proofs.Canon.{Numbered, ends, field, held, some, cell, canon, cuts_of, cuts_up, Ended, ends_cuts, level, passes, beneath, Whole}
use Rattle.shape.proofs.Grown.{numbered, grown_canon, whole}
use Rattle.shape.proofs.Walks.{behind, cells_behind}

-- some cell within es has the message in its box
abbrev Covered : (es : List Ends) (v : List ℕ) → Shape → Type 0
Covered es v sh = (c : Cell) × ContainsAt (cells es [] sh) c × (matches (length v) c.box v ≡ true)

-- a list has f of what another has
has_map : {X Y : Type 0} (f : X → Y) (xs : List X) (x : X) → ContainsAt xs x → ContainsAt (map f xs) (f x)
has_map f xs x h =
    (h.0, omega (arith, h.1, length-map xs f), λ d. get_or-map f xs h.0 x d h.1 ∙ ap f (h.2 x))

-- below the branch that holds the first value
covered_here :
    (f : Ends) (es : List Ends) (a b v : ℕ) (vs : List ℕ) (below rest : Shape) → f.low ≤ a → b ≤ f.high → a ≤ v → v ≤ b
    → Covered es vs below → Covered (f ∷ es) (v ∷ vs) (part (piece a b) below rest)
covered_here f es a b v vs below rest l h p q c =
    let pre = box_of (piece a b) ∷ [] in
    let inside : within f (piece a b) ≡ true = and_from _ _ (le-leb _ a l) (le-leb b _ h) in
    let same = cond-true (within f (piece a b)) (cells es pre below) [] inside ∙ cells_behind es pre [] below in (
      behind pre c.0,
      has_append_left _ _ _ (subst (λ L. ContainsAt L (behind pre c.0)) (sym same) (has_map (behind pre) (cells es [] below) c.0 c.1)),
      and_from _ _ (and_from _ _ (le-leb a v p) (le-leb v b q)) c.2,
    )

-- below a later branch
covered_later :
    (f : Ends) (es : List Ends) (v : List ℕ) (l : Label) (below rest : Shape) → Covered (f ∷ es) v rest → Covered (f ∷ es) v (part l below rest)
covered_later f es v l below rest c = (c.0, has_append_right _ _ c.0 c.1, c.2)

module _ (p : ℕ → Bool) (g : ℕ → Shape) (f : Ends) (es : List Ends) (v : ℕ) (vs : List ℕ) (l : f.low ≤ v) (h : v ≤ f.high) (t : p v ≡ true) (deep : Covered es vs (g v)) where
  -- from any cut on
  covered_from :
      (a : ℕ) (cs : List ℕ) → a ≤ v → Up a (a ∷ cs) → Level p g (a ∷ cs) → Cut f.low a cs → Cut (f.high + 1) a cs
      → Covered (f ∷ es) (v ∷ vs) (runs p g (a ∷ cs))
  covered_from a [] k u e cl ch = absurd (true≢false (sym t ∙ e v k))
  covered_from a (b ∷ cs) k u e cl ch =
      let up : Up b (b ∷ cs) = (omega arith, u.1.1) in
      let R = runs p g (b ∷ cs) in
      ⊎_elim
      (λ q. let same = e.0 v k q in
      let out = cut_out f.low a b cs up cl in
      let low : f.low ≤ a = grind arith in
      subst (Covered (f ∷ es) (v ∷ vs)) (sym (runs_yes p g a b cs (sym same.0 ∙ t)))
      (covered_here f es a (b - 1) v vs (g a) R low (omega (arith, cut_out (f.high + 1) a b cs up ch)) k (omega arith)
      (subst (Covered es vs) same.1 deep)))
      (λ q.
      let later : Covered (f ∷ es) (v ∷ vs) R =
      covered_from b cs q up e.1 (cut_more f.low a b cs (omega arith) cl) (cut_more (f.high + 1) a b cs (omega arith) ch) in
      elim (p a) as (λ t. Covered (f ∷ es) (v ∷ vs) (cond t (part (piece a (b - 1)) (g a) R) R))
      [ true ↦ covered_later f es (v ∷ vs) (piece a (b - 1)) (g a) R later | false ↦ later ])
      (cases_lt v b)

  -- The run that holds the first value leads to a cell.
  covered_runs :
      (cs : List ℕ) → Up 0 cs → Level p g cs → In f.low cs → In (f.high + 1) cs → Covered (f ∷ es) (v ∷ vs) (runs p g cs)
  covered_runs [] u e il ih = absurd il
  covered_runs (a ∷ cs) u e il ih =
      let up : Up a (a ∷ cs) = (omega arith, u.1) in
      covered_from a cs (omega (arith, up_in a f.low (a ∷ cs) up il)) up e (first_cut f.low a cs il) (first_cut (f.high + 1) a cs ih)

-- a rule among others that holds x is among those that do
held_mid :
    (m x : ℕ) (A : List Numbered) (r : Numbered) (B : List Numbered) → holds (field m r) x ≡ true
    → held m x (A ++ r ∷ B) ≡ held m x A ++ r ∷ held m x B
held_mid m x A r B t =
    filter-append (λ r. holds (field m r) x) A (r ∷ B) ∙ ap (λ L. held m x A ++ L) (cond-true _ _ _ t)

-- so there is one
some_mid : (A : List Numbered) (r : Numbered) (B : List Numbered) → some (A ++ r ∷ B) ≡ true
some_mid [] r B = refl
some_mid (s ∷ A) r B = refl

-- what holds of all holds of one among them
all_mid : {X : Type 0} (P : X → Type 0) (A : List X) (r : X) (B : List X) → AllByRecursion P (A ++ r ∷ B) → P r
all_mid P [] r B w = w.0
all_mid P (s ∷ A) r B w = all_mid P A r B w.1

-- In the tree of rules, each message that one of them matches lies in a cell within its intervals.
covered_canon :
    (d m : ℕ) (A : List Numbered) (r : Numbered) (B : List Numbered) (v : List ℕ) → m + length v ≡ d → Whole d r
    → matches (length v) (drop m (ends r)) v ≡ true → Covered (take (length v) (drop m (ends r))) v (canon (length v) m (A ++ r ∷ B))
covered_canon d m A r B [] e w t = (record { box = []; marks = marks_in (cell (A ++ r ∷ B)) }, has_push [] _, refl)
covered_canon d m A r B (x ∷ v) e w t =
    let here : m < d = omega arith in
    let next : suc m + length v ≡ d = omega arith in
    let k = length v in
    let T = A ++ r ∷ B in
    let C = cuts_of m T in
    let G = canon k (suc m) in
    let split = drop-cons (ends r) m (record { low = 0; high = 0 }) (w m here).0 in
    let both = and_parts _ _ (subst (λ es. matches (suc k) es (x ∷ v) ≡ true) split t) in
    let in' = and_parts _ _ both.0 in
    let H = held_mid m x A r B both.0 in
    let deep = subst (λ L. Covered (take k (drop (suc m) (ends r))) v (G L)) (sym H)
    (covered_canon d (suc m) (held m x A) r (held m x B) v next w both.1) in
    let at = all_mid (Ended m C) A r B (ends_cuts m T) in
    subst (λ es. Covered (take (suc k) es) (x ∷ v) (canon (suc k) m T)) (sym split)
    (covered_runs (passes m T) (beneath m T G) (field m r) (take k (drop (suc m) (ends r))) x v (leb-true _ x in'.0) (leb-true x _ in'.1)
    (ap some H ∙ some_mid (held m x A) r (held m x B)) deep C (cuts_up m T) (level m T G C (cuts_up m T) (ends_cuts m T)) at.0 at.1)

-- rules with their numbers, in two parts
numbered_append : (n : ℕ) (A B : List (List Ends)) → numbered n (A ++ B) ≡ numbered n A ++ numbered (length A + n) B
numbered_append n [] B = ap (λ i. numbered i B) (omega arith)
numbered_append n (r ∷ A) B =
    ap (λ L. (n, r) ∷ L) (numbered_append (suc n) A B ∙ ap (λ i. numbered (suc n) A ++ numbered i B) (omega arith))

-- THE COVER: each message of a rule lies in one of its cells
pub cells_cover_lem : CellsCover
cells_cover_lem d A r B ok v e t =
    let n = length A + 1 in
    let tree = grown_canon d (A ++ r ∷ B) ok ∙ ap (canon d 0) (numbered_append 1 A (r ∷ B)) in
    let proper = all_mid (Proper d) A r B ok in
    rw (tree, ← e) (covered_canon d 0 (numbered 1 A) (n, r) (numbered (suc n) B) v (omega arith) (whole d n r proper) (rw e t))
