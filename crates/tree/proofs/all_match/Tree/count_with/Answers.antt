use Rattle.std.proofs.Common.{◌+◌, length, sym, refl, subst}
use Rattle.std.specs.List.{AllByRecursion}
use Rattle.shape.specs.Meaning.{Upward}
use Rattle.tree.proofs.Recovers.{recovered, stood, some_tree}
use Rattle.tree.proofs.Meanings.{upward, need_is}
use Rattle.tree.proofs.all_match.Tree.count_with.Goals as goal

pub space_with-requires : goal.space_with-requires
space_with-requires c =
    let first = c.first_of.ensures in
    record {
      tree = some_tree c.args.self.now.rules;
      rule = record { fields = sym first.length; upward = subst (AllByRecursion Upward) (sym first.first) (upward _ c.requires.1) };
    }

pub returns : goal.returns
returns c T e =
    let m = recovered e in
    need_is m c.args.ends.now c.requires c.first_of.result.now (length T + 1) c.first_of.ensures.first refl c.space_with.result
    (c.space_with.ensures m.records.0 (length T + 1) (stood m))
