-- What the calls of a tree ask and promise. Assumes nothing.
use Rattle.std.specs.Prelude.{◌≡◌, ℕ, ◌+◌, ◌<◌, List, [], ◌∷◌, ◌++◌, length, take, true, Some, None, Option, IfSome, OnOk, OnErr, Result, MatchResult, ◌≢◌}
use Rattle.std.specs.List.{AllByRecursion}
use Rattle.routing.specs.declared.ends.Ends.{Ends}
use Rattle.routing.specs.Rules.{matching}
use Rattle.routing.specs.Space.{branches, marks}
use Rattle.shape.specs.Shapes.{grown}
use Rattle.shape.specs.Meaning.{Cell, cells, Right, Ascending}
use Rattle.tree.specs.Means.{Means, room_of, need_of, lacking, lack_number, Spared}
use Rattle.tree.specs.Memory.{link_of, in_use}
use Rattle.tree.specs.Links.{chain}
use Rattle.tree.specs.Tours.{Lists, Reached}
use Rattle.tree.specs.declared.all_match.Tree.{Tree}
use Rattle.tree.specs.declared.all_match.Lack.{Lack}
use Rattle.tree.specs.declared.records.Mark.{Mark}
use Rattle.tree.specs.declared.space.Space.{Space}
use Rattle.tree.specs.declared.walk.Walk.{Walk}

-- n is the number of the next rule: one above how many there are
abbrev pub Next : Tree → ℕ → Type 0
Next x n = ∥ ((T : List (List Ends)) × Means x T × (n ≡ length T + 1)) ∥₁

-- the branches and the marks that are taken are those that the rules need
abbrev pub Uses : Tree → Space → Type 0
Uses x r = (T : List (List Ends)) → Means x T → r ≡ record { branches = branches x.fields 0 T; marks = marks x.fields 0 T }

-- the space that the rules need with e
abbrev pub NeedsWith : Tree → List Ends → Space → Type 0
NeedsWith x e r = (T : List (List Ends)) → Means x T → r ≡ need_of x.fields (T ++ e ∷ [])

-- From x to x' the rule e is appended as number n, unless the rules with it lack space; then nothing changes.
pub record Appends (x x' : Tree) (e : List Ends) (n : ℕ) (r : Result (Unit {0}) Lack) : Type 0 where
  pub answer : (T : List (List Ends)) → Means x T → MatchResult r (λ _. lacking x (T ++ e ∷ []) ≡ None) (λ l. lacking x (T ++ e ∷ []) ≡ Some (lack_number l))
  pub granted : (T : List (List Ends)) → Means x T → n ≡ length T + 1 → lacking x (T ++ e ∷ []) ≡ None → Means x' (T ++ e ∷ []) × Spared x x'
  pub refused : (T : List (List Ends)) (number : ℕ) → Means x T → lacking x (T ++ e ∷ []) ≡ Some number → x' ≡ x
  pub ok : OnOk r (Next x' (n + 1))
  pub err : OnErr r (x' ≡ x)
  pub fields : x'.fields ≡ x.fields
  pub room : room_of x' ≡ room_of x

-- from this link on stand some marks, at least one
abbrev pub Marked : Tree → ℕ → Type 0
Marked x at = ((ns : List ℕ) × Lists x.store at ns) × (at ≢ 0xffff_ffff)

-- from a link on stand the marks of these rules, or there is no link and no rule
abbrev pub Leads : Tree → Option ℕ → List ℕ → Type 0
Leads x None ns = ns ≡ []
Leads x (Some at) ns = Lists x.store at ns

-- how many marks there are from a link on, by which a loop over them ends
abbrev pub marks_left : Tree → Option ℕ → ℕ
marks_left x None = 0
marks_left x (Some at) = chain (in_use x.store) x.store 0 at

-- The link r leads to the marks of the rules that match m, in order.
pub record LooksUp (x : Tree) (m : List ℕ) (r : Option ℕ) : Type 0 where
  pub marks : (T : List (List Ends)) → Means x T → Leads x r (matching x.fields 1 T m)
  pub some : IfSome r (Marked x)

-- The first of these marks names a rule, and links to the others.
pub record Reads (x : Tree) (at : ℕ) (r : Mark) : Type 0 where
  pub rest : (ns : List ℕ) → Lists x.store at ns → (rest : List ℕ) × (ns ≡ r.rule ∷ rest) × Leads x (link_of r.next) rest
  pub some : IfSome (link_of r.next) (Marked x)
  pub fewer : marks_left x (link_of r.next) < marks_left x (Some at)

-- the cells of rules T below branches within the intervals es
abbrev pub walked : Tree → List Ends → List (List Ends) → List Cell
walked x es T = cells (take x.fields es) [] (grown x.fields T)

-- a walk stands at a cell
abbrev pub StandsAt : Tree → List Ends → Walk → Type 0
StandsAt x es w = (c : Cell) × ((cs : List Cell) × Reached x.store (take x.fields es) w (c ∷ cs))

-- A walk stands at the first of these cells. They come in the order of their low corners, and each has the marks of the rules that match
-- its messages, at least one.
pub record Begins (x : Tree) (es : List Ends) (r : Walk) : Type 0 where
  pub first : (T : List (List Ends)) → Means x T → Reached x.store (take x.fields es) r (walked x es T)
  pub right : (T : List (List Ends)) → Means x T → AllByRecursion (Right x.fields T (take x.fields es)) (walked x es T) × Ascending (walked x es T)
  pub found : r.found ≡ true → StandsAt x es r

-- It goes on to the next one.
pub record GoesOn (x : Tree) (es : List Ends) (w r : Walk) : Type 0 where
  pub next : (c : Cell) (cs : List Cell) → Reached x.store (take x.fields es) w (c ∷ cs) → Reached x.store (take x.fields es) r cs
  pub found : r.found ≡ true → StandsAt x es r
