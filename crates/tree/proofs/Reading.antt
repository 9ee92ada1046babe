-- A loop along a node or a cell that changes nothing. Assumes nothing.
use Rattle.std.proofs.Common.{◌≡◌, ℕ, ◌+◌, ◌-◌, ◌<◌, ◌≤◌, length, slice_get, Some, sym, refl, ap, ◌∙◌, subst, arith}
use Rattle.shape.specs.Shapes.{Label, piece, rule, Shape, bare, part, siblings}
use Rattle.tree.specs.Memory.{in_use}
use Rattle.tree.specs.Links.{Records, none, item, shape, root, Holds, chain}
use Rattle.tree.specs.Reads.{Ordered, Stood}
use Rattle.tree.specs.declared.records.Store.{Store}
use Rattle.tree.specs.declared.records.Branch.{Branch}
use Rattle.tree.specs.declared.records.Mark.{Mark}
use Rattle.tree.proofs.Frames.{empty, Found, branch_inside, mark_inside, found_branch, found_mark, chain_is, few}

-- At `at` stands what is left of the node, n records at most, and of that P is known.
pub record Passing (s : Store) (d at n : ℕ) (P : Shape → Type 0) : Type 0 where
  pub rest : Records
  pub stood : Stood s d at rest
  pub turns : siblings (shape rest) ≤ n
  pub fact : P (shape rest)

-- the order from a lower number on
pub ordered_less : (lo hi : ℕ) (sh : Shape) → lo ≤ hi → Ordered hi sh → Ordered lo sh
ordered_less lo hi bare le h = tt
ordered_less lo hi (part (piece a b) below rest) le h = (omega arith, h.1, h.2, h.3)
ordered_less lo hi (part (rule i) below rest) le h = (omega arith, h.1, h.2)

-- what is below a record is in order, and so is what follows it
pub ordered_below : (lo : ℕ) (l : Label) (below rest : Shape) → Ordered lo (part l below rest) → Ordered 0 below
ordered_below lo (piece a b) below rest h = h.2
ordered_below lo (rule i) below rest h = h.1

-- and so is what follows it
pub ordered_rest : (lo : ℕ) (l : Label) (below rest : Shape) → Ordered lo (part l below rest) → Ordered 0 rest
ordered_rest lo (piece a b) below rest h = ordered_less 0 (b + 1) rest (omega arith) h.3
ordered_rest lo (rule i) below rest h = ordered_less 0 (i + 1) rest (omega arith) h.2

-- a record's tree, and what is below and after it
module _ {s : Store} {d at : ℕ} {l : Label} {bel next : ℕ} {t : Records} (S : Stood s d at t) (F : Found at l bel next t) where
  -- the record with what is left
  pub at_record : Stood s d at (item at l F.below F.rest)
  at_record = subst (Stood s d at) F.is S

  -- what is below it
  pub stood_below : Stood s (d - 1) bel F.below
  stood_below =
      record {
        stands = record { holds = at_record.stands.holds.2; own = λ k. omega (arith, at_record.stands.own k) };
        from = F.below_from;
        steps = omega (arith, at_record.steps);
        order = ordered_below 0 l (shape F.below) (shape F.rest) at_record.order;
      }

  -- what follows it
  pub stood_rest : Stood s d next F.rest
  stood_rest =
      record {
        stands = record { holds = at_record.stands.holds.3; own = λ k. omega (arith, at_record.stands.own k) };
        from = F.rest_from;
        steps = omega (arith, at_record.steps);
        order = ordered_rest 0 l (shape F.below) (shape F.rest) at_record.order;
      }

-- the loop begins
pub begin : (s : Store) (d first : ℕ) (t : Records) (P : Shape → Type 0) → Stood s d first t → P (shape t) → Passing s d first (in_use s) P
begin s d first t P S h = record { rest = t; stood = S; turns = omega (arith, S.steps, few (shape t)); fact = h }

module _ {s : Store} {d at n : ℕ} {P : Shape → Type 0} (W : Passing s d at n P) where
  -- the branch at `at` lies in its slice
  pub stays_branch : 0 < d → (at ≡ 0xffff_ffff → ⊥) → at < length s.branches.records.now
  stays_branch pos ne = branch_inside s d at W.rest W.stood.from ne W.stood.stands (λ z. omega arith)

  -- so does a mark
  pub stays_mark : d ≡ 0 → (at ≡ 0xffff_ffff → ⊥) → at < length s.marks.records.now
  stays_mark z ne = mark_inside s d at W.rest W.stood.from ne W.stood.stands z

  -- what was read there
  pub seen_branch : {b : Branch} → 0 < d → (at ≡ 0xffff_ffff → ⊥) → slice_get s.branches.records.now at ≡ Some b → Found at (piece b.low b.high) b.below b.next W.rest
  seen_branch pos ne read = found_branch s d at W.rest W.stood.from ne W.stood.stands.holds (λ z. omega arith) read

  -- the same of a mark
  pub seen_mark : {m : Mark} → d ≡ 0 → (at ≡ 0xffff_ffff → ⊥) → slice_get s.marks.records.now at ≡ Some m → Found at (rule m.rule) 0xffff_ffff m.next W.rest
  seen_mark z ne read = found_mark s d at W.rest W.stood.from ne W.stood.stands.holds z read

  -- nothing is left
  pub ended : at ≡ 0xffff_ffff → P bare
  ended e = subst (λ t. P (shape t)) (empty s d W.rest W.stood.stands.holds (W.stood.from ∙ e)) W.fact

  module _ {l : Label} {bel next : ℕ} (F : Found at l bel next W.rest) where
    -- one record less is left after it
    fewer : siblings (shape W.rest) ≡ 1 + siblings (shape F.rest)
    fewer = ap (λ t. siblings (shape t)) F.is

    -- what is below the record
    pub below : Stood s (d - 1) bel F.below
    below = stood_below W.stood F

    -- on to the next record
    pub after : (P' : Shape → Type 0) → (P (part l (shape F.below) (shape F.rest)) → P' (shape F.rest)) → Passing s d next n P'
    after P' h =
        record {
          rest = F.rest;
          stood = stood_rest W.stood F;
          turns = omega (arith, W.turns, fewer);
          fact = h (subst (λ t. P (shape t)) F.is W.fact);
        }

    -- the measure falls with each turn
    pub less : chain n s d next < chain n s d at
    less =
        let steps : (a : ℕ) (r : Records) → Holds s d r → root r ≡ a → siblings (shape r) ≤ n → chain n s d a ≡ siblings (shape r) =
        λ a r H e le. ap (chain n s d) (sym e) ∙ chain_is s d r n H le in
        omega (arith, fewer, steps next F.rest (stood_rest W.stood F).stands.holds F.rest_from (omega (arith, W.turns, fewer)), steps at W.rest W.stood.stands.holds W.stood.from W.turns)

-- below a mark there is nothing
pub no_below : {s : Store} {d at n : ℕ} {P : Shape → Type 0} (W : Passing s d at n P) {l : Label} {next : ℕ} (F : Found at l 0xffff_ffff next W.rest) → F.below ≡ none
no_below {s} {d} W F = let S = below W F in empty s (d - 1) F.below S.stands.holds S.from

-- what is known, at the record that was read
pub at_fact : {s : Store} {d at n : ℕ} {P : Shape → Type 0} (W : Passing s d at n P) {l : Label} {bel next : ℕ} (F : Found at l bel next W.rest) → P (part l (shape F.below) (shape F.rest))
at_fact {P = P} W F = subst (λ t. P (shape t)) F.is W.fact

-- where nothing is
pub nothing : (s : Store) (d : ℕ) → Stood s d 0xffff_ffff none
nothing s d = record { stands = record { holds = tt; own = λ k. omega arith }; from = refl; steps = omega arith; order = tt }
