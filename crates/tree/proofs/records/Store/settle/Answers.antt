use Rattle.std.proofs.Common.{sym, refl, ◌∙◌, subst, arith, length-set}
use Rattle.std.proofs.lemmas.List.{drop-set-lt}
use Rattle.tree.specs.Tours.{Reached}
use Rattle.tree.proofs.Cells.{there, seen, pass, down, rise, rise_there, ended, arrived}
use Rattle.tree.proofs.records.Store.settle.Goals as goal

pub follow-requires : goal.follow-requires
follow-requires c = λ ne. there (c.loop-k.invariant.walk _ c.requires.walk.1) c.loop-k-test.true ne

pub loop-k-smaller-in-Some-2 : goal.loop-k-smaller-in-Some-2
loop-k-smaller-in-Some-2 c =
    let T = c.loop-k.invariant.walk _ c.requires.walk.1 in
    (pass T c.loop-k-test.true (seen T c.loop-k-test.true c.in-Some.ensures.more c.in-Some.ensures.found) (sym c.is_within.ensures ∙ c.if-is_within.false)).1

pub loop-k-preserved-in-Some-2 : goal.loop-k-preserved-in-Some-2
loop-k-preserved-in-Some-2 c =
    record {
      walk =
          λ cs S.
          let T = c.loop-k.invariant.walk cs S in
          (pass T c.loop-k-test.true (seen T c.loop-k-test.true c.in-Some.ensures.more c.in-Some.ensures.found) (sym c.is_within.ensures ∙ c.if-is_within.false)).0;
      path = c.loop-k.invariant.path;
      corner = c.loop-k.invariant.corner;
      clear = c.loop-k.invariant.clear;
      depth = c.loop-k.invariant.depth;
    }

pub loop-k-smaller-then-is_within : goal.loop-k-smaller-then-is_within
loop-k-smaller-then-is_within c =
    let lt = c.loop-k-test.true in
    let I = c.loop-k.invariant in
    let T = I.walk _ c.requires.walk.1 in
    (down T lt (seen T lt c.in-Some.ensures.more c.in-Some.ensures.found) (omega (arith, I.path, c.requires.few)) (omega (arith, I.corner, c.requires.few)) (sym c.is_within.ensures ∙ c.if-is_within.true)).1

pub loop-k-preserved-then-is_within : goal.loop-k-preserved-then-is_within
loop-k-preserved-then-is_within c =
    let lt = c.loop-k-test.true in
    let I = c.loop-k.invariant in
    record {
      walk =
          λ cs S.
          let T = I.walk cs S in
          (down T lt (seen T lt c.in-Some.ensures.more c.in-Some.ensures.found) (omega (arith, I.path, c.requires.few)) (omega (arith, I.corner, c.requires.few)) (sym c.is_within.ensures ∙ c.if-is_within.true)).0;
      path = length-set _ _ _ ∙ I.path;
      corner = length-set _ _ _ ∙ I.corner;
      clear = drop-set-lt _ _ _ _ lt ∙ I.clear;
      depth = omega arith;
    }

pub returns-in-None : goal.returns-in-None
returns-in-None c cs S =
    subst (Reached c.args.self.now c.args.within.now _) (sym (ended (c.loop-k.invariant.walk cs S) c.if-k-eq0.true c.requires.some c.in-None.ensures.end)) refl

pub get-at-requires : goal.get-at-requires
get-at-requires c = rise_there (c.loop-k.invariant.walk _ c.requires.walk.1) c.loop-k-test.true (omega (arith, c.if-k-eq0.false))

pub loop-k-smaller : goal.loop-k-smaller
loop-k-smaller c =
    (rise (c.loop-k.invariant.walk _ c.requires.walk.1) c.loop-k-test.true (omega (arith, c.if-k-eq0.false)) c.in-None.ensures.end c.get-at.ensures).1

pub loop-k-preserved : goal.loop-k-preserved
loop-k-preserved c =
    record {
      walk = λ cs S. (rise (c.loop-k.invariant.walk cs S) c.loop-k-test.true (omega (arith, c.if-k-eq0.false)) c.in-None.ensures.end c.get-at.ensures).0;
      path = c.loop-k.invariant.path;
      corner = c.loop-k.invariant.corner;
      clear = c.loop-k.invariant.clear;
      depth = omega (arith, c.loop-k.invariant.depth);
    }

pub returns : goal.returns
returns c cs S =
    let I = c.loop-k.invariant in
    arrived (I.walk cs S) (omega (arith, c.loop-k-test.false, I.depth)) I.corner c.requires.few I.clear
