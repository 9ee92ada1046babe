use Rattle.std.proofs.Common.{◌≡◌, List, [], ◌∷◌, ◌++◌, ◌+◌, Some, None, sym, refl, subst, arith, length, length-append, rules}
use Rattle.std.proofs.Math.Logic.{∥∥₁_map}
use Rattle.std.specs.List.{AllByRecursion}
use Rattle.shape.specs.Meaning.{Upward}
use Rattle.tree.specs.Meant.{Meant}
use Rattle.tree.specs.Means.{Means, lacking}
use Rattle.routing.specs.declared.ends.Ends.{Ends}
use Rattle.tree.proofs.Recovers.{read}
use Rattle.tree.proofs.Meanings.{upward, Ready, next_fits, next_meant, room_kept, lacks_nothing, lacks_branches, lacks_marks}
use Rattle.tree.proofs.all_match.Tree.grow.Goals as goal

-- the rules with the new one
abbrev more : List (List Ends) → List Ends → List (List Ends)
more T e = T ++ e ∷ []

pub append-self-requires : goal.append-self-requires
append-self-requires c =
    let x = c.args.self.now in
    let es = c.args.ends.now in
    let first = c.first_of.ensures in
    let R : Ready x.store x.root x.fields es c.first_of.result.now c.space_with-need.result c.room-room.result = search rules in record {
      room = (read x.store x.root x.fields, next_fits R c.args.number c.requires.means);
      rule = record { fields = sym first.length; upward = subst (AllByRecursion Upward) (sym first.first) (upward _ c.requires.proper.1) };
    }

pub returns-then-need-room : goal.returns-then-need-room
returns-then-need-room c =
    let x = c.args.self.now in
    let told : (T : List (List Ends)) → Means x T → lacking x (more T c.args.ends.now) ≡ Some 11 =
    λ T e. lacks_branches x (more T c.args.ends.now) _ _ (c.space_with-need.ensures T e) c.room-room.ensures c.if-need-room.true in
    record { answer = told; granted = λ T e n h. absurd (cc (told T e)); refused = λ T n e h. refl; ok = tt; err = refl; fields = refl; room = refl }

pub returns-then-need-room-2 : goal.returns-then-need-room-2
returns-then-need-room-2 c =
    let x = c.args.self.now in
    let told : (T : List (List Ends)) → Means x T → lacking x (more T c.args.ends.now) ≡ Some 12 =
    λ T e.
    lacks_marks x (more T c.args.ends.now) _ _ (c.space_with-need.ensures T e) c.room-room.ensures c.if-need-room.false c.if-need-room-2.true in
    record { answer = told; granted = λ T e n h. absurd (cc (told T e)); refused = λ T n e h. refl; ok = tt; err = refl; fields = refl; room = refl }

pub invariant_of-self : goal.invariant_of-self
invariant_of-self c =
    let x = c.args.self.now in
    let es = c.args.ends.now in
    let R : Ready x.store x.root x.fields es c.first_of.result.now c.space_with-need.result c.room-room.result = search rules in
    let (u, B) = c.append-self.ensures (read x.store x.root x.fields) (next_fits R c.args.number c.requires.means) in
    record { rules = ∥∥₁_map c.requires.means (λ p. (more p.0 es, next_meant R c.args.number p.1 p.2 _ _ u B)) }

pub returns : goal.returns
returns c =
    let x = c.args.self.now in
    let es = c.args.ends.now in
    let R : Ready x.store x.root x.fields es c.first_of.result.now c.space_with-need.result c.room-room.result = search rules in
    let (u, B) = c.append-self.ensures (read x.store x.root x.fields) (next_fits R c.args.number c.requires.means) in
    let none : (T : List (List Ends)) → Means x T → lacking x (more T es) ≡ None =
    λ T e. lacks_nothing x (more T es) _ _ (R.counted T e) R.all R.few R.few_marks in
    let means : (T : List (List Ends)) → Means x T → c.args.number ≡ length T + 1 → ∥ Meant c.append-self.new.self c.append-self.result x.fields (more T es) ∥₁ =
    λ T e next. ∣ next_meant R c.args.number e next _ _ u B ∣₁ in
    record {
      answer = none;
      granted = λ T e next _. (means T e next, λ k z. (B.change.spare k z).1);
      refused = λ T n e h. absurd (cc (none T e));
      ok =
          ∥∥₁_map c.requires.means
          (λ p. (more p.0 es, means p.0 p.1 p.2, omega (arith, p.2, length-append p.0 (es ∷ []))));
      err = tt;
      fields = refl;
      room = room_kept x.store c.append-self.new.self x.fields _ u B.change;
    }
