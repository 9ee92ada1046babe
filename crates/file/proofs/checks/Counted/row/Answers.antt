use Rattle.std.proofs.Common.{◌+◌, ◌*◌, cond, ltb, ap, ◌∙◌, rules}
use borrow.Author.Tests.{tests}
use Rattle.file.specs.declared.layout.Layout.{Layout}
use Rattle.file.specs.Layout.{row_of, pair, eight, no_ends}
use Rattle.file.proofs.Made.{made}
use Rattle.file.proofs.checks.Counted.row.Goals as goal

pub returns : goal.returns
unfolding row_of
returns c =
    let bs = c.args.self.now.bytes.now in
    let r = c.args.rule in
    let d = c.args.self.now.layout.fields in
    made _ _ (λ k. cond (ltb k d) (pair bs d (r * d + k)) no_ends) (λ k y q h. search (rules, tests)) c.from_fn.result _ c.from_fn.ensures.items
    ∙ ap (λ n. eight n (λ j. pair bs n (r * n + j))) (ap (λ (l : Layout). l.fields) c.args.self.now.of_header)
