use Rattle.std.proofs.Common.{◌≡◌, ◌∙◌, rules, ap, ap₂, codes}
use Rattle.std.proofs.lemmas.Result.{IfOk-weaker}
use Rattle.clap.specs.Words.{App, app_of, new_app, rule_of, with_rule, with_subcommand}
use Rattle.program_words.specs.Grammar.{required, run, make, only_subcommands}
use Rattle.program_words.proofs.read.grammar.Goals as goal

pub returns : goal.returns
returns c =
    let rows_are : rule_of c.required-rows.result ≡ required (codes "rows") = search rules in
    let start_is : rule_of c.required-start.result ≡ required (codes "start") = search rules in
    let make_is : app_of c.in_ok-make.make ≡ make = c.in_ok-make.ensures.shape (search rules)
    ∙ ap₂ with_rule (c.in_ok-arg.ensures.shape (search rules) ∙ ap₂ with_rule c.new-3.ensures.app rows_are) start_is in
    let top_is : app_of c.subcommand_required.result ≡ record (new_app (codes "gumtree")) { top = only_subcommands (new_app (codes "gumtree")).top } = search rules in
    let first_is : app_of c.in_ok-subcommand.field-0 ≡ with_subcommand (record (new_app (codes "gumtree")) { top = only_subcommands (new_app (codes "gumtree")).top }) run.top =
    c.in_ok-subcommand.ensures.shape (search rules) ∙ ap₂ with_subcommand top_is (ap (λ (a : App). a.top) c.new-run.ensures.app) in
    IfOk-weaker c.subcommand-2.result _ _ (λ command h. h.shape (search rules) ∙ ap₂ with_subcommand first_is (ap (λ (a : App). a.top) make_is)) c.subcommand-2.ensures
