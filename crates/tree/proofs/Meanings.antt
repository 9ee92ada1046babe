-- One rule more in a tree that means some rules. Assumes nothing.
use Rattle.std.proofs.Common.{◌≡◌, ℕ, ◌+◌, ◌<◌, ◌≤◌, min, List, [], ◌∷◌, ◌++◌, length, take, Some, None, sym, ap, ◌∙◌, subst, ap₂, arith}
use Rattle.std.proofs.Math.Logic.{∥∥₁_elim}
use native.Mathlib.Bridge.{le_prop}
use native.Mathlib.Nat.{ℕ_set}
use Rattle.std.proofs.ByRecursion.{All-push, All-weaker}
use Rattle.std.specs.List.{AllByRecursion}
use Rattle.std.proofs.lemmas.Bool.Decides.{nat_tests}
use Rattle.shape.specs.Shapes.{Shape, branches_of, marks_of, insert, grown}
use Rattle.shape.specs.Meaning.{Upward, Sound, Proper}
use Rattle.tree.specs.Memory.{space}
use Rattle.tree.specs.Links.{Records, shape, Changed, Fits, Became}
use Rattle.tree.specs.Reads.{weight, sat, Weighs}
use Rattle.tree.specs.Meant.{Meant}
use Rattle.tree.specs.Means.{room_in, room_of, need_of, lacking}
use Rattle.tree.specs.declared.all_match.Tree.{Tree}
use Rattle.routing.specs.Space.{branches, marks}
use Rattle.tree.specs.declared.space.Space.{Space}
use Rattle.tree.specs.declared.records.Store.{Store}
use Rattle.routing.specs.declared.ends.Ends.{Ends}
use Rattle.tree.proofs.Recovers.{sized, stands_prop, read, read_tree, recovered}
use Rattle.tree.proofs.Weights.{branches_weight, marks_weight}
use Rattle.shape.proofs.Counts.{space_exact}
use Rattle.shape.proofs.Orders.{order_kept}
use Rattle.shape.proofs.Grown.{grown_more_lem}

-- intervals that hold a value run upward
pub upward : (es : List Ends) → AllByRecursion Sound es → AllByRecursion Upward es
upward es ok = All-weaker Sound Upward (λ e s. s.0) es ok

-- What lacks, by the space that was counted and the room.
module _ (x : Tree) (T : List (List Ends)) (need room : Space) (counted : need ≡ need_of x.fields T) (all : room ≡ room_of x) where
  -- the same by their parts
  parts :
      (need.branches ≡ sat (branches x.fields 0 T)) × (need.marks ≡ sat (marks x.fields 0 T)) × (room.branches ≡ (room_of x).branches)
      × (room.marks ≡ (room_of x).marks)
  parts = (ap (λ y. y.branches) counted, ap (λ y. y.marks) counted, ap (λ y. y.branches) all, ap (λ y. y.marks) all)

  -- the room suffices
  pub lacks_nothing : need.branches ≤ room.branches → need.marks ≤ room.marks → lacking x T ≡ None
  lacks_nothing l h = let p = parts in grind (arith, nat_tests)

  -- too few branches
  pub lacks_branches : room.branches < need.branches → lacking x T ≡ Some 11
  lacks_branches l = let p = parts in grind (arith, nat_tests)

  -- enough branches, too few marks
  pub lacks_marks : need.branches ≤ room.branches → room.marks < need.marks → lacking x T ≡ Some 12
  lacks_marks l h = let p = parts in grind (arith, nat_tests)

-- the limits are within what the records can index
space_room : (s : Store) → (min (length s.branches.records.now) 65536 ≤ space (length s.branches.records.now)) × (min (length s.marks.records.now) 1048576 ≤ space (length s.marks.records.now))
unfolding space
space_room s = (omega arith, omega arith)

-- The next rule, by its first intervals es and its number n.
module _
    {s : Store} {first d : ℕ} {T : List (List Ends)} (m : Meant s first d T) (e : List Ends) (ok : Proper d e) (es : List Ends) (n : ℕ)
    (front : es ≡ take d e) (next : n ≡ length T + 1) where
  -- the rules with it are all proper
  all_proper : AllByRecursion (Proper d) (T ++ e ∷ [])
  all_proper = All-push (Proper d) T e m.proper ok

  -- the tree with the rule is that of one rule more
  grown_is : insert es n (shape m.records.0) ≡ grown d (T ++ e ∷ [])
  grown_is = ap₂ (λ fs i. insert fs i (shape m.records.0)) front next ∙ ap (insert (take d e) (length T + 1)) m.records.3 ∙ sym (grown_more_lem d T e)

  -- the shape with the rule takes the space that the rules need
  space_is :
      (branches_of (insert es n (shape m.records.0)) ≡ branches d 0 (T ++ e ∷ []))
      × (marks_of (insert es n (shape m.records.0)) ≡ marks d 0 (T ++ e ∷ []))
  space_is =
      let z = space_exact d (T ++ e ∷ []) all_proper in
      (ap branches_of grown_is ∙ z.0, ap marks_of grown_is ∙ z.1)

  -- the count is the space that the rules need with it
  pub need_is : (k : Space) → Weighs k (λ p q. weight p q (insert es n (shape m.records.0))) → k ≡ need_of d (T ++ e ∷ [])
  need_is k W =
      let sh = insert es n (shape m.records.0) in
      let b : k.branches ≡ sat (branches d 0 (T ++ e ∷ [])) = W.branches ∙ ap sat (sym (branches_weight sh) ∙ space_is.0) in
      let c : k.marks ≡ sat (marks d 0 (T ++ e ∷ [])) = W.marks ∙ ap sat (sym (marks_weight sh) ∙ space_is.1) in
      λ i. record { branches = b i; marks = c i }

  -- where nothing lacks, there is room for the rule
  pub rule_fits :
      branches d 0 (T ++ e ∷ []) ≤ (room_in s).branches → marks d 0 (T ++ e ∷ []) ≤ (room_in s).marks
      → Fits s d first m.records.0 (insert es n (shape m.records.0))
  rule_fits l h =
      let z = sized m in
      let r = space_room s in
      let y = space_is in
      record {
        stands = m.records.1;
        from = m.records.2;
        steps = omega (arith, z.0, z.1);
        room = omega (arith, z.0, y.0, r.0);
        room_marks = omega (arith, z.1, y.1, r.1);
      }

  -- and afterwards the records mean the rules with it
  pub meant_more :
      (s' : Store) (r : ℕ) (u : Records) → Became s s' d m.records.0 (insert es n (shape m.records.0)) r u → Meant s' r d (T ++ e ∷ [])
  meant_more s' r u B =
      let z = sized m in
      let y = space_is in
      let C = B.change in
      record {
        fields = m.fields;
        proper = all_proper;
        branches = omega (arith, C.branches, z.0, y.0, ap branches_of B.same);
        marks = omega (arith, C.marks, z.1, y.1, ap marks_of B.same);
        tidy = order_kept d (T ++ e ∷ []) all_proper;
        records = (u, record { holds = C.holds; own = λ k. omega (arith, m.records.1.own k, C.grown k) }, B.from, B.same ∙ grown_is);
      }

-- room for a change has one proof
fits_prop : (s : Store) (d first : ℕ) (t : Records) (sh : Shape) → IsProp (Fits s d first t sh)
fits_prop s d first t sh a b =
    λ i. record {
      stands = stands_prop s d t a.stands b.stands i;
      from = ℕ_set _ _ a.from b.from i;
      steps = le_prop a.steps b.steps i;
      room = le_prop a.room b.room i;
      room_marks = le_prop a.room_marks b.room_marks i;
    }

-- The next rule e, by its first intervals es, where the space that was counted is no more than the room.
pub record Ready (s : Store) (first d : ℕ) (e es : List Ends) (need room : Space) : Type 0 where
  pub proper : Proper d e
  pub front : es ≡ take d e
  pub counted : (T : List (List Ends)) → ∥ Meant s first d T ∥₁ → need ≡ need_of d (T ++ e ∷ [])
  pub all : room ≡ room_in s
  pub few : need.branches ≤ room.branches
  pub few_marks : need.marks ≤ room.marks

module _ {s : Store} {first d : ℕ} {e es : List Ends} {need room : Space} (R : Ready s first d e es need room) (n : ℕ) where
  -- there is room for it in the tree that is read
  pub next_fits :
      ∥ ((T : List (List Ends)) × ∥ Meant s first d T ∥₁ × (n ≡ length T + 1)) ∥₁ → Fits s d first (read s first d) (insert es n (shape (read s first d)))
  next_fits q =
      ∥∥₁_elim q (fits_prop s d first _ _)
      (λ p.
      let m = recovered p.1 in
      let b = ap (λ y. y.branches) (R.counted p.0 p.1) in
      let c = ap (λ y. y.marks) (R.counted p.0 p.1) in
      let f = ap (λ y. y.branches) R.all in
      let g = ap (λ y. y.marks) R.all in
      subst (λ t. Fits s d first t (insert es n (shape t))) (read_tree m)
      (rule_fits m e R.proper es n R.front p.2 (omega (arith, R.few)) (omega (arith, R.few_marks))))

  -- and afterwards the records mean the rules with it
  pub next_meant :
      {T : List (List Ends)} → ∥ Meant s first d T ∥₁ → n ≡ length T + 1
      → (s' : Store) (r : ℕ) (u : Records) → Became s s' d (read s first d) (insert es n (shape (read s first d))) r u
      → Meant s' r d (T ++ e ∷ [])
  next_meant p next s' r u B =
      let m = recovered p in
      meant_more m e R.proper es n R.front next s' r u (subst (λ t. Became s s' d t (insert es n (shape t)) r u) (sym (read_tree m)) B)

-- the room stays
pub room_kept : (s s' : Store) (d : ℕ) (t u : Records) → Changed s s' d t u → room_in s' ≡ room_in s
unfolding space
room_kept s s' d t u C =
    let b : min (length s'.branches.records.now) 65536 ≡ min (length s.branches.records.now) 65536 = omega (arith, C.all) in
    let c : min (length s'.marks.records.now) 1048576 ≡ min (length s.marks.records.now) 1048576 = omega (arith, C.all_marks) in
    λ i. record { branches = b i; marks = c i }
