-- The cells that a walk meets, in its order. Assumes nothing.
use Rattle.std.proofs.Common.{◌≡◌, ℕ, suc, ◌+◌, ◌<◌, ◌≤◌, true, false, cond, List, [], ◌∷◌, ◌++◌, map, length, Some, None, Option, sym, refl, ap, ◌∙◌, subst, ap₂, inl, inr, arith, MatchOption}
use Rattle.std.specs.Option.{option_and_then}
use Rattle.std.specs.List.{AllZip, AllByRecursion}
use Rattle.std.proofs.lemmas.List.{append_assoc, map-append, length-map, take_all}
use Rattle.std.proofs.ByRecursion.{All-append, All-map, All-weaker}
use Rattle.std.proofs.lemmas.Bool.{cond_both, and_parts, and_from, le-leb, leb-true}
use Rattle.routing.specs.declared.ends.Ends.{Ends}
use Rattle.routing.specs.Rules.{matches, matching}
use Rattle.shape.specs.Shapes.{Shape, bare, part, piece, rule, grown}
use Rattle.shape.specs.Meaning.{Upward, Inside, Proper, Tidy, reached, marks_in, Cell, within, box_of, cells, corner, Before, Ascending, Right, CellsAreRight}
use Rattle.shape.proofs.Orders.{order_kept}
use Rattle.shape.proofs.Finds.{past, here, look_up}

-- the cell with more pieces before its own
abbrev pub behind : List Ends → Cell → Cell
behind pre c = record { box = pre ++ c.box; marks = c.marks }

-- the chain of pieces so far is before each cell's own
pub cells_behind : (es pre more : List Ends) (sh : Shape) → cells es (pre ++ more) sh ≡ map (behind pre) (cells es more sh)
cells_behind [] pre more sh = refl
cells_behind (e ∷ es) pre more bare = refl
cells_behind (e ∷ es) pre more (part l below rest) =
    let f = behind pre in
    let X = cells es (more ++ box_of l ∷ []) below in
    let Y = cells (e ∷ es) more rest in
    let deep = ap (λ b. cells es b below) (append_assoc pre more (box_of l ∷ [])) ∙ cells_behind es pre (more ++ box_of l ∷ []) below in
    let split : cond (within e l) (map f X) [] ++ map f Y ≡ map f (cond (within e l) X [] ++ Y) =
    elim (within e l) as (λ t. cond t (map f X) [] ++ map f Y ≡ map f (cond t X [] ++ Y)) [ true ↦ sym (map-append f X Y) | false ↦ refl ] in
    ap₂ (λ x y. cond (within e l) x [] ++ y) deep (cells_behind (e ∷ es) pre more rest) ∙ split

-- what holds of the cells below a branch, if that lies within e, with its piece before theirs
below_branch :
    (P : List Cell → Type 0) (e : Ends) (es : List Ends) (a b : ℕ) (below : Shape)
    → ((e.low ≤ a) × (b ≤ e.high) → P (map (behind (box_of (piece a b) ∷ [])) (cells es [] below))) → P []
    → P (cond (within e (piece a b)) (cells es (box_of (piece a b) ∷ []) below) [])
below_branch P e es a b below some none =
    cond_both (within e (piece a b)) _ [] P
    (λ t. let i = and_parts _ _ t in
    subst P (sym (cells_behind es (box_of (piece a b) ∷ []) [] below)) (some (leb-true _ a i.0, leb-true b _ i.1))) (λ _. none)

-- the first interval is from lo on
abbrev From : ℕ → List Ends → Type 0
From lo [] = Unit {0}
From lo (e ∷ es) = lo ≤ e.low

-- from a lower number too
from_less : (lo hi : ℕ) (es : List Ends) → lo ≤ hi → From hi es → From lo es
from_less lo hi [] l f = tt
from_less lo hi (e ∷ es) l f = omega arith

-- what is seen of a cell from a node: its messages reach its marks
record Seen (es : List Ends) (lo : ℕ) (sh : Shape) (c : Cell) : Type 0 where
  long : length c.box ≡ length es
  upward : AllByRecursion Upward c.box
  inside : AllZip Inside es c.box
  from : From lo c.box
  reaches : (v : List ℕ) → length v ≡ length es → matches (length es) c.box v ≡ true → MatchOption (reached v sh) ⊥ (λ l. marks_in l ≡ c.marks)

-- from the cell itself
seen_here : (lo : ℕ) (sh : Shape) → Seen [] lo sh (record { box = []; marks = marks_in sh })
seen_here lo sh = record { long = refl; upward = tt; inside = tt; from = tt; reaches = reach }
  where
    -- a cell that is met is the one that its messages reach
    reach : (v : List ℕ) → length v ≡ 0 → matches 0 [] v ≡ true → MatchOption (reached v sh) ⊥ (λ l. marks_in l ≡ marks_in sh)
    reach [] l m = refl
    reach (x ∷ v) l m = absurd (omega arith)

module _ (e : Ends) (es : List Ends) (lo a b : ℕ) (below rest : Shape) (k : lo ≤ a) (up : a ≤ b) (c : Cell) where
  -- from the node of a branch above it
  seen_below :
      (e.low ≤ a) × (b ≤ e.high) → Seen es 0 below c
      → Seen (e ∷ es) lo (part (piece a b) below rest) (behind (box_of (piece a b) ∷ []) c)
  seen_below i s = record { long = ap suc s.long; upward = (up, s.upward); inside = (i, s.inside); from = k; reaches = reach }
    where
      -- a cell that is met is the one that its messages reach
      reach :
          (v : List ℕ) → length v ≡ suc (length es) → matches (suc (length es)) (box_of (piece a b) ∷ c.box) v ≡ true
          → MatchOption (reached v (part (piece a b) below rest)) ⊥ (λ l. marks_in l ≡ c.marks)
      reach [] l m = absurd (omega arith)
      reach (x ∷ v) l m =
          let p = and_parts _ _ m in
          let q = and_parts _ _ p.0 in
          subst (λ o. MatchOption (option_and_then (reached v) o) ⊥ (λ l. marks_in l ≡ c.marks))
          (sym (here x a b below rest (leb-true a x q.0) (leb-true x b q.1))) (s.reaches v (omega arith) p.1)

  -- from a node with a lower branch too
  seen_rest : Seen (e ∷ es) (b + 1) rest c → Seen (e ∷ es) lo (part (piece a b) below rest) c
  seen_rest s =
      record {
        long = s.long;
        upward = s.upward;
        inside = s.inside;
        from = from_less lo (b + 1) c.box (omega arith) s.from;
        reaches = λ v l m. reach c.box v s.long s.from l m (s.reaches v l m);
      }
    where
      reach :
          (box : List Ends) (v : List ℕ) → length box ≡ suc (length es) → From (b + 1) box → length v ≡ suc (length es)
          → matches (suc (length es)) box v ≡ true → MatchOption (reached v rest) ⊥ (λ l. marks_in l ≡ c.marks)
          → MatchOption (reached v (part (piece a b) below rest)) ⊥ (λ l. marks_in l ≡ c.marks)
      reach [] v n f l m r = absurd (omega arith)
      reach (g ∷ box) [] n f l m r = absurd (omega arith)
      reach (g ∷ box) (x ∷ v) n f l m r =
          let q = leb-true _ x (and_parts _ _ (and_parts _ _ m).0).0 in
          subst (λ o. MatchOption (option_and_then (reached v) o) ⊥ (λ l. marks_in l ≡ c.marks)) (sym (past x a b below rest (λ _. omega arith))) r

-- The walk sees every cell.
all_seen : (es : List Ends) (lo : ℕ) (sh : Shape) → Tidy (length es) lo sh → AllByRecursion (Seen es lo sh) (cells es [] sh)
all_seen [] lo sh t = (seen_here lo sh, tt)
all_seen (e ∷ es) lo bare t = tt
all_seen (e ∷ es) lo (part (rule i) below rest) t = absurd t
all_seen (e ∷ es) lo (part (piece a b) below rest) t =
    let S = Seen (e ∷ es) lo (part (piece a b) below rest) in
    All-append S _ _
    (below_branch (AllByRecursion S) e es a b below
    (λ i. All-map S _ _ (All-weaker (Seen es 0 below) _ (λ c s. seen_below e es lo a b below rest t.0 t.1 c i s) _ (all_seen es 0 below t.2))) tt)
    (All-weaker (Seen (e ∷ es) (b + 1) rest) S (λ c s. seen_rest e es lo a b below rest t.0 t.1 c s) _ (all_seen (e ∷ es) (b + 1) rest t.3))

-- one list of cells after another
ascending_append :
    (xs ys : List Cell) → Ascending xs → Ascending ys → AllByRecursion (λ x. AllByRecursion (λ y. Before (corner x) (corner y)) ys) xs → Ascending (xs ++ ys)
ascending_append [] ys p q r = q
ascending_append (x ∷ xs) ys p q r = (All-append _ xs ys p.0 r.0, ascending_append xs ys p.1 q r.1)

-- with the same piece before each
ascending_behind : (e : Ends) (cs : List Cell) → Ascending cs → Ascending (map (behind (e ∷ [])) cs)
ascending_behind e [] p = tt
ascending_behind e (c ∷ cs) p =
    (All-map _ (behind (e ∷ [])) cs (All-weaker _ _ (λ x b. inr (refl, b)) cs p.0), ascending_behind e cs p.1)

-- a lower first number
before_from : (a lo : ℕ) (vs : List ℕ) (es : List Ends) → a < lo → From lo es → 0 < length es → Before (a ∷ vs) (map (λ e. e.low) es)
before_from a lo vs [] l f n = absurd (omega arith)
before_from a lo vs (e ∷ es) l f n = inl (omega arith)

-- The walk goes upward.
ascends : (es : List Ends) (lo : ℕ) (sh : Shape) → Tidy (length es) lo sh → Ascending (cells es [] sh)
ascends [] lo sh t = (tt, tt)
ascends (e ∷ es) lo bare t = tt
ascends (e ∷ es) lo (part (rule i) below rest) t = absurd t
ascends (e ∷ es) lo (part (piece a b) below rest) t =
    let Y = cells (e ∷ es) [] rest in
    let P : Cell → Type 0 = λ x. AllByRecursion (λ y. Before (corner x) (corner y)) Y in
    let up = t.1 in
    ascending_append _ Y
    (below_branch Ascending e es a b below (λ _. ascending_behind (box_of (piece a b)) (cells es [] below) (ascends es 0 below t.2)) tt)
    (ascends (e ∷ es) (b + 1) rest t.3)
    (below_branch (AllByRecursion P) e es a b below
    (λ _. All-map P _ _ (All-weaker (Seen es 0 below) _
    (λ c _. All-weaker (Seen (e ∷ es) (b + 1) rest) _ (λ y s. before_from a (b + 1) (corner c) y.box (omega arith) s.from (omega (arith, s.long))) Y (all_seen (e ∷ es) (b + 1) rest t.3))
    _ (all_seen es 0 below t.2))) tt)

-- the smallest message of a cell lies in it
corner_in : (es : List Ends) → AllByRecursion Upward es → matches (length es) es (map (λ e. e.low) es) ≡ true
corner_in [] u = refl
corner_in (e ∷ es) u =
    and_from _ _ (and_from _ _ (le-leb _ _ (omega arith)) (le-leb _ _ u.0)) (corner_in es u.1)

-- what a message finds, where it is known to find these marks
meet :
    (o : Option Shape) (ms : List ℕ) (P : Type 0) (Q : List ℕ → Type 0)
    → MatchOption o ⊥ (λ l. marks_in l ≡ ms) → MatchOption o P (λ l. Q (marks_in l)) → Q ms
meet None ms P Q f g = absurd f
meet (Some l) ms P Q f g = subst Q f g

-- a cell that is seen in the tree of rules, of which there is one, is right
right :
    (d : ℕ) (r : List Ends) (T : List (List Ends)) → AllByRecursion (Proper d) (r ∷ T) → (es : List Ends) → length es ≡ d
    → (c : Cell) → Seen es 0 (grown d (r ∷ T)) c → Right d (r ∷ T) es c
right d r T ok es e c s =
    record {
      long = s.long ∙ e;
      upward = s.upward;
      inside = s.inside;
      marked = (all (corner c) (length-map c.box _ ∙ s.long) (rw (← s.long) (corner_in c.box s.upward))).1;
      told = λ v l m. (all v (l ∙ sym e) (rw e m)).0;
    }
  where
    -- of all cells
    all :
        (v : List ℕ) → length v ≡ length es → matches (length es) c.box v ≡ true
        → (c.marks ≡ matching d 1 (r ∷ T) v) × (c.marks ≡ [] → ⊥)
    all v l m =
        let G = grown d (r ∷ T) in
        let found = meet (reached v G) c.marks _ (λ ms. (ms ≡ matching d 1 (r ∷ T) v) × (true ≡ true → ms ≡ [] → ⊥)) (s.reaches v l m)
        (rw (take_all d v (omega arith)) at (look_up d (r ∷ T) ok v (omega arith))) in
        (found.0, found.1 refl)

-- THE CELLS are right, and come in order
pub cells_right : CellsAreRight
cells_right d [] ge ok [] e = absurd (omega arith)
cells_right d [] ge ok (f ∷ es) e = (tt, tt)
cells_right d (r ∷ T) ge ok es e =
    let G = grown d (r ∷ T) in
    let tidy : Tidy (length es) 0 G = rw e (order_kept d (r ∷ T) ok) in
    (All-weaker (Seen es 0 G) (Right d (r ∷ T) es) (right d r T ok es e) _ (all_seen es 0 G tidy), ascends es 0 G tidy)
