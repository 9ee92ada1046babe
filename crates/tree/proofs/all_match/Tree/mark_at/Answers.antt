use Rattle.std.proofs.Common.{◌≡◌, ℕ, List, ◌∷◌, sym, refl, arith}
use Rattle.shape.specs.Meaning.{marks_in}
use Rattle.tree.specs.Links.{shape}
use Rattle.tree.specs.Tours.{Lists}
use Rattle.tree.proofs.Reading.{begin, stays_mark, seen_mark, after, less}
use Rattle.tree.proofs.Leading.{leads, marked, left_most}
use Rattle.tree.proofs.all_match.Tree.mark_at.Goals as goal

pub get-requires : goal.get-requires
get-requires c = stays_mark (begin c.args.self.now.store 0 c.args.at c.requires.0.1.0 (λ _. Unit {0}) c.requires.0.1.1 tt) refl c.requires.1

pub returns : goal.returns
returns c =
    let x = c.args.self.now in
    let others : (ns : List ℕ) → Lists x.store c.args.at ns → (rest : List ℕ) × (ns ≡ c.get.result.rule ∷ rest) × Lists x.store c.get.result.next rest =
    λ ns L.
    let W = begin x.store 0 c.args.at L.0 (λ sh. marks_in sh ≡ ns) L.1 L.2 in
    let F = seen_mark W refl c.requires.1 c.get.ensures in
    let R = after W F (λ sh. ns ≡ c.get.result.rule ∷ marks_in sh) (λ e. sym e) in
    (marks_in (shape R.rest), R.fact, (R.rest, R.stood, refl)) in
    record {
      rest = λ ns L. let (rest, is, M) = others ns L in (rest, is, leads x _ rest M);
      some = let (ns, L) = c.requires.0 in let (rest, is, M) = others ns L in marked x _ rest M;
      fewer =
          let (ns, L) = c.requires.0 in
          let W = begin x.store 0 c.args.at L.0 (λ _. Unit {0}) L.1 tt in
          omega (arith, left_most x c.get.result.next, less W (seen_mark W refl c.requires.1 c.get.ensures));
    }
