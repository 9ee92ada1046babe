-- What the calls of a tree answer, by what those of its store do. Assumes nothing.
use Rattle.std.proofs.Common.{◌≡◌, ℕ, ◌≤◌, List, [], ◌∷◌, length, take, true, IfSome, sym, refl, ap, ◌∙◌, subst, arith}
use Rattle.std.specs.List.{AllByRecursion}
use Rattle.std.proofs.lemmas.List.{length-take-le}
use Rattle.shape.specs.Shapes.{grown}
use Rattle.shape.specs.Meaning.{Cell, cells, marks_in, Right, Ascending}
use Rattle.routing.specs.Rules.{matching}
use Rattle.routing.specs.declared.ends.Ends.{Ends}
use Rattle.tree.specs.Memory.{link_of}
use Rattle.tree.specs.Links.{Records, shape}
use Rattle.tree.specs.Lookups.{look_up, Has}
use Rattle.tree.specs.Reads.{Stood, SomeTree}
use Rattle.tree.specs.Tours.{Reached}
use Rattle.tree.specs.Means.{Means}
use Rattle.tree.specs.Calls.{Leads, Marked, walked, StandsAt}
use Rattle.tree.specs.declared.all_match.Tree.{Tree}
use Rattle.tree.specs.declared.walk.Walk.{Walk}
use Rattle.tree.proofs.Recovers.{recovered, stood, few_fields, some_tree}
use Rattle.tree.proofs.Finding.{looked}
use Rattle.tree.proofs.Leading.{leads, marked, standing}
use Rattle.shape.proofs.Finds.{look_up_right}
use Rattle.shape.proofs.Walks.{cells_right}

-- a tree's records stand
pub tree_stands : (x : Tree) (d : ℕ) → d ≡ x.fields → SomeTree x.store d x.root
tree_stands x d e = subst (λ j. SomeTree x.store j x.root) (sym e) (some_tree x.rules)

-- its rules have eight fields at most
pub tree_few : (x : Tree) → x.fields ≤ 8
tree_few x = (few_fields x.rules).1

-- and one at least
pub tree_some : (x : Tree) → 1 ≤ x.fields
tree_some x = (few_fields x.rules).0

-- the cell of a message has the marks of the rules that match it
pub looks_marks :
    (x : Tree) (message : List ℕ) (at : ℕ) (T : List (List Ends)) → Means x T → length message ≡ 8
    → ((t : Records) → Stood x.store x.fields x.root t → (u : Records) × Has x.store 0 at (look_up (take x.fields message) (shape t)) u)
    → Leads x (link_of at) (matching x.fields 1 T message)
looks_marks x message at T e n H =
    let m = recovered e in
    let d = x.fields in
    let v = take d message in
    let (u, h) = H m.records.0 (stood m) in
    leads x at _
    (u, h.stood, ap marks_in (h.is ∙ ap (look_up v) m.records.3) ∙ looked v (grown d T) _ (look_up_right d T m.proper message (omega (arith, m.fields.1))))

-- a link to a cell that stands leads to a mark, if anywhere
pub looks_some : (x : Tree) (at : ℕ) → ((t : Records) → Stood x.store x.fields x.root t → (u : Records) × Stood x.store 0 at u) → IfSome (link_of at) (Marked x)
looks_some x at H =
    let t = some_tree x.rules in
    let (u, h) = H t.0 t.1 in
    marked x at (marks_in (shape u)) (u, h, refl)

-- a walk from the root on has all cells of the rules before it
pub begins_first :
    (x : Tree) (es : List Ends) (r : Walk) (T : List (List Ends)) (cs : List Cell)
    → ((t : Records) → Stood x.store x.fields x.root t → Reached x.store (take x.fields es) r (cells (take x.fields es) [] (shape t)))
    → Means x T → walked x es T ≡ cs → Reached x.store (take x.fields es) r cs
begins_first x es r T cs H e is =
    let m = recovered e in
    subst (Reached x.store (take x.fields es) r) (ap (cells (take x.fields es) []) m.records.3 ∙ is) (H m.records.0 (stood m))

-- these cells are right, and in order
pub begins_right :
    (x : Tree) (es : List Ends) (T : List (List Ends)) → length es ≡ 8 → Means x T
    → AllByRecursion (Right x.fields T (take x.fields es)) (walked x es T) × Ascending (walked x es T)
begins_right x es T n e =
    let m = recovered e in
    cells_right x.fields T m.fields.0 m.proper (take x.fields es) (length-take-le x.fields es (omega (arith, m.fields.1)))

-- where it has found a cell it stands at one
pub begins_found :
    (x : Tree) (es : List Ends) (r : Walk)
    → ((t : Records) → Stood x.store x.fields x.root t → Reached x.store (take x.fields es) r (cells (take x.fields es) [] (shape t)))
    → r.found ≡ true → StandsAt x es r
begins_found x es r H f =
    let t = some_tree x.rules in
    standing x.store (take x.fields es) r _ (H t.0 t.1) f

-- so does one that went on from a cell
pub goes_found :
    (x : Tree) (es : List Ends) (w r : Walk)
    → ((c : Cell) (cs : List Cell) → Reached x.store (take x.fields es) w (c ∷ cs) → Reached x.store (take x.fields es) r cs)
    → StandsAt x es w → r.found ≡ true → StandsAt x es r
goes_found x es w r on at f = standing x.store (take x.fields es) r at.1.0 (on at.0 at.1.0 at.1.1) f
