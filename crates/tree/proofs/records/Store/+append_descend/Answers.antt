use Rattle.std.proofs.Common.{◌≡◌, ℕ, ◌<◌, List, ◌∷◌, sym, refl, ◌∙◌, subst, arith}
use Rattle.shape.specs.Shapes.{Shape, under, ready, insert}
use Rattle.tree.specs.Links.{Records, shape, Fits, Became}
use Rattle.tree.specs.declared.records.Store.{Store}
use Rattle.routing.specs.declared.ends.Ends.{Ends}
use Rattle.tree.proofs.Places.{inside_branch, wrote_branch}
use Rattle.tree.proofs.Copies.{written_branch}
use Rattle.tree.proofs.Changing.{start, there_branch, see_branch, stands, pass, less, done}
use Rattle.tree.proofs.Grows.{Grows}
use Rattle.tree.proofs.Descends.{first_ends, other_ends, under_past, below_fits, alive_after, turn_change, turned, split, ahead, onward, chained, under_grows, insert_grows}
use Rattle.tree.proofs.records.Store.+append_descend.Goals as goal

-- with a field left, it is the first interval here and the others below
abbrev here : List Ends → Shape → Shape
here xs = ready (first_ends xs).low (first_ends xs).high

abbrev lower : List Ends → ℕ → Shape → Shape
lower xs i = under (first_ends xs).low (first_ends xs).high (insert (other_ends xs) i)

lower_grows : (xs : List Ends) (i : ℕ) (sh : Shape) → Grows sh (lower xs i sh)
lower_grows xs i sh = under_grows _ _ _ (insert_grows (other_ends xs) i) sh

open_ends : (s : Store) (d first : ℕ) (xs : List Ends) (i : ℕ) (t : Records)
    → xs ≡ first_ends xs ∷ other_ends xs → Fits s d first t (insert xs i (shape t)) → Fits s d first t (lower xs i (here xs (shape t)))
open_ends s d first xs i t e K = subst (λ ys. Fits s d first t (insert ys i (shape t))) e K

pub append-prepare-first-requires-clause-room : goal.append-prepare-first-requires-clause-room
append-prepare-first-requires-clause-room t c =
    let xs = c.args.rule.now in
    let (u, K) = c.requires.room in
    let pos : 0 < c.args.left = omega (arith, c.if-left-eq0.false) in
    let X = split _ xs c.requires.rule pos in
    let J = open_ends _ _ _ xs c.args.i u X.is K in
    (u, ahead (here xs) (lower xs c.args.i) _ _ _ u (lower_grows xs c.args.i) J)

pub append-descend-requires : goal.append-descend-requires
append-descend-requires t c =
    let xs = c.args.rule.now in
    let (u, K) = c.requires.room in
    let pos : 0 < c.args.left = omega (arith, c.if-left-eq0.false) in
    let X = split _ xs c.requires.rule pos in
    let J = open_ends _ _ _ xs c.args.i u X.is K in
    let (v, A) = c.prepare-first.ensures u (ahead (here xs) (lower xs c.args.i) _ _ _ u (lower_grows xs c.args.i) J) in
    (omega (arith, c.decreases), (pos, ((v, onward (here xs) (lower xs c.args.i) _ _ _ _ _ u v J A), X.rest)))

pub append-returns : goal.append-returns
append-returns t c u K =
    let xs = c.args.rule.now in
    let pos : 0 < c.args.left = omega (arith, c.if-left-eq0.false) in
    let X = split _ xs c.requires.rule pos in
    let J = open_ends _ _ _ xs c.args.i u X.is K in
    let (v, A) = c.prepare-first.ensures u (ahead (here xs) (lower xs c.args.i) _ _ _ u (lower_grows xs c.args.i) J) in
    let (w, B) = c.descend.ensures v (onward (here xs) (lower xs c.args.i) _ _ _ _ _ u v J A) in (
      w,
      subst (λ ys. Became c.args.self.now c.descend.new.self c.args.left u (insert ys c.args.i (shape u)) c.prepare-first.result w) (sym X.is)
          (chained (here xs) (lower xs c.args.i) _ _ _ _ _ _ u v w A B),
    )

pub descend-loop-b-init : goal.descend-loop-b-init
descend-loop-b-init t c = start _ _ _ _

pub descend-follow-requires : goal.descend-follow-requires
descend-follow-requires t c = λ ne. there_branch (c.loop-b.invariant _ c.requires.room.1) ne c.requires.branches

pub descend-loop-b-smaller : goal.descend-loop-b-smaller
descend-loop-b-smaller t c =
    let W = c.loop-b.invariant _ c.requires.room.1 in
    let F = see_branch W c.in-Some.ensures.more c.requires.branches c.in-Some.ensures.found in
    less W F _ (stands W F).holds.3

pub descend-loop-b-preserved : goal.descend-loop-b-preserved
descend-loop-b-preserved t c tree K =
    let W = c.loop-b.invariant tree K in
    let F = see_branch W c.in-Some.ensures.more c.requires.branches c.in-Some.ensures.found in
    pass W F _ (under_past c.args.ends.low c.args.ends.high c.args.rest.now c.args.i W F (sym c.is_within.ensures ∙ c.if-is_within.false))

pub descend-append-below-requires : goal.descend-append-below-requires
descend-append-below-requires t c =
    let W = c.loop-b.invariant _ c.requires.room.1 in
    let F = see_branch W c.in-Some.ensures.more c.requires.branches c.in-Some.ensures.found in
    let ins = sym c.is_within.ensures ∙ c.if-is_within.true in
    (omega (arith, c.decreases, c.requires.branches), ((F.below, below_fits c.args.ends.low c.args.ends.high c.args.rest.now c.args.i W F ins), c.requires.rest))

pub descend-set-requires : goal.descend-set-requires
descend-set-requires t c =
    let W = c.loop-b.invariant _ c.requires.room.1 in
    let F = see_branch W c.in-Some.ensures.more c.requires.branches c.in-Some.ensures.found in
    let ins = sym c.is_within.ensures ∙ c.if-is_within.true in
    let (u, B) = c.append-below.ensures F.below (below_fits c.args.ends.low c.args.ends.high c.args.rest.now c.args.i W F ins) in
    inside_branch c.append-below.new.self c.loop-b.at (omega (arith, (stands W F).holds.0)) (alive_after c.args.ends.low c.args.ends.high c.args.rest.now c.args.i W F ins _ _ u B c.requires.branches)

pub descend-loop-b-smaller-then-is_within : goal.descend-loop-b-smaller-then-is_within
descend-loop-b-smaller-then-is_within t c =
    let W = c.loop-b.invariant _ c.requires.room.1 in
    let F = see_branch W c.in-Some.ensures.more c.requires.branches c.in-Some.ensures.found in
    let ins = sym c.is_within.ensures ∙ c.if-is_within.true in
    let (u, B) = c.append-below.ensures F.below (below_fits c.args.ends.low c.args.ends.high c.args.rest.now c.args.i W F ins) in
    let Q = written_branch _ _ c.args.left _ _ (λ z. omega (arith, c.requires.branches)) (wrote_branch _ _ _ _ (omega (arith, (stands W F).holds.0)) c.set.ensures) in
    less W F _ (turn_change c.args.ends.low c.args.ends.high c.args.rest.now c.args.i W F ins _ _ _ u B Q).holds.3

pub descend-loop-b-preserved-then-is_within : goal.descend-loop-b-preserved-then-is_within
descend-loop-b-preserved-then-is_within t c tree K =
    let W = c.loop-b.invariant tree K in
    let F = see_branch W c.in-Some.ensures.more c.requires.branches c.in-Some.ensures.found in
    let ins = sym c.is_within.ensures ∙ c.if-is_within.true in
    let (u, B) = c.append-below.ensures F.below (below_fits c.args.ends.low c.args.ends.high c.args.rest.now c.args.i W F ins) in
    let Q = written_branch _ _ c.args.left _ _ (λ z. omega (arith, c.requires.branches)) (wrote_branch _ _ _ _ (omega (arith, (stands W F).holds.0)) c.set.ensures) in
    turned c.args.ends.low c.args.ends.high c.args.rest.now c.args.i W F ins _ _ _ u B Q

pub descend-returns : goal.descend-returns
descend-returns t c tree K = done (c.loop-b.invariant tree K) refl c.in_default.ensures.end
