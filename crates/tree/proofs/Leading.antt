-- Links as options, and walks that have found a cell. Assumes nothing.
use Rattle.std.proofs.Common.{◌≡◌, ℕ, ◌≤◌, true, false, cond, List, [], ◌∷◌, Some, None, IfSome, sym, ap, ◌∙◌, subst, ⊎_elim, arith}
use Rattle.std.proofs.lemmas.Bool.Decides.{eqb_tells}
use Rattle.shape.specs.Meaning.{Cell, marks_in}
use Rattle.tree.specs.Memory.{link_of, in_use}
use Rattle.tree.specs.Links.{shape, chain}
use Rattle.tree.specs.Tours.{Lists, Reached}
use Rattle.tree.specs.Calls.{Leads, Marked, marks_left}
use Rattle.tree.specs.declared.all_match.Tree.{Tree}
use Rattle.tree.specs.declared.records.Store.{Store}
use Rattle.tree.specs.declared.walk.Walk.{Walk}
use Rattle.routing.specs.declared.ends.Ends.{Ends}
use Rattle.tree.proofs.Frames.{empty}

-- an option that leads on has the link itself
pub link_on : (n m : ℕ) → Some m ≡ link_of n → (m ≡ n) × (m ≡ 0xffff_ffff → ⊥)
link_on n m e =
    ⊎_elim (λ y. let z : Some m ≡ None = subst (λ b. Some m ≡ cond b None (Some n)) y.0 e in cc)
    (λ z. let same : Some m ≡ Some n = subst (λ b. Some m ≡ cond b None (Some n)) z.0 e in (cc, λ k. z.1 cc))
    (eqb_tells n 0xffff_ffff)

-- one that does not is the link to nothing
pub link_end : (n : ℕ) → None ≡ link_of n → n ≡ 0xffff_ffff
link_end n e =
    ⊎_elim (λ y. y.1) (λ z. let no : None ≡ Some n = subst (λ b. None ≡ cond b None (Some n)) z.0 e in cc) (eqb_tells n 0xffff_ffff)

module _ (x : Tree) (n : ℕ) (ns : List ℕ) where
  -- marks from a plain link on are marks from the option on
  pub leads : Lists x.store n ns → Leads x (link_of n) ns
  leads L =
      ⊎_elim
      (λ y. subst (λ b. Leads x (cond b None (Some n)) ns) (sym y.0) (sym L.2 ∙ ap (λ t. marks_in (shape t)) (empty x.store 0 L.0 L.1.stands.holds (L.1.from ∙ y.1))))
      (λ z. subst (λ b. Leads x (cond b None (Some n)) ns) (sym z.0) L)
      (eqb_tells n 0xffff_ffff)

  -- where there is a link there is a mark
  pub marked : Lists x.store n ns → IfSome (link_of n) (Marked x)
  marked L =
      ⊎_elim
      (λ y. subst (λ b. IfSome (cond b None (Some n)) (Marked x)) (sym y.0) tt)
      (λ z. subst (λ b. IfSome (cond b None (Some n)) (Marked x)) (sym z.0) ((ns, L), z.1))
      (eqb_tells n 0xffff_ffff)

-- from an option on there are no more marks than from the plain link
pub left_most : (x : Tree) (n : ℕ) → marks_left x (link_of n) ≤ chain (in_use x.store) x.store 0 n
left_most x n =
    let k = in_use x.store in
    ⊎_elim (λ y. subst (λ b. marks_left x (cond b None (Some n)) ≤ chain k x.store 0 n) (sym y.0) (omega arith))
    (λ z. subst (λ b. marks_left x (cond b None (Some n)) ≤ chain k x.store 0 n) (sym z.0) (omega arith)) (eqb_tells n 0xffff_ffff)

-- a walk that has found a cell stands at one
pub standing : (s : Store) (es : List Ends) (w : Walk) (cs : List Cell) → Reached s es w cs → w.found ≡ true → (c : Cell) × ((rest : List Cell) × Reached s es w (c ∷ rest))
standing s es w [] R f = let z : true ≡ false = sym f ∙ R in cc
standing s es w (c ∷ cs) R f = (c, (cs, R))
