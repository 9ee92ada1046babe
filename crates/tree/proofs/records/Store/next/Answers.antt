use Rattle.std.proofs.Common.{◌≡◌, sym, ap, ◌∙◌, arith}
use Rattle.tree.specs.Memory.{look, next_of, link_of}
use Rattle.tree.specs.Links.{place}
use Rattle.tree.proofs.Places.{place_mark, place_branch, inside_branch, inside_mark, at_branch, at_mark}
use Rattle.tree.proofs.records.Store.next.Goals.{then-left-eq0, else-left-eq0}
use Rattle.tree.proofs.records.Store.next.Goals as goal

pub get-requires : goal.get-requires
get-requires c = inside_mark c.args.self.now _ (rw (place_mark _ _ c.if-left-eq0.true) at c.requires)

pub get-requires-else-left-eq0 : goal.get-requires-else-left-eq0
get-requires-else-left-eq0 c = inside_branch c.args.self.now c.args.at (omega arith) (rw (place_branch _ _ c.if-left-eq0.false) at c.requires)

pub returns : goal.returns
returns c =
    let s = c.args.self.now in
    let is : c.if-left-eq0.next ≡ next_of (look s (place c.args.left c.args.at)) =
    elim c.if-left-eq0.branch [
      | then-left-eq0 w ↦ w.next-is ∙ sym (ap next_of (at_mark s _ _ _ w.if-left-eq0.true w.get.ensures))
      | else-left-eq0 w ↦ w.next-is ∙ sym (ap next_of (at_branch s _ _ _ w.if-left-eq0.false (omega arith) w.get-else-left-eq0.ensures))
    ] in
    c.leads.ensures ∙ ap link_of is
