use Rattle.std.proofs.Common.{sym, ◌∙◌, subst}
use Rattle.exact_fraction.specs.Number.{◌<ℚ◌, of_ℤ}
use Rattle.std.specs.Prelude.{pos}
use Rattle.decimal18.specs.Bound.{value_of}
use Rattle.sheet_rows.proofs.Rules.{rule_stands}
use Rattle.edit_session.proofs.Deciding.{factor_above}
use Rattle.edit_session.proofs.statement.decide_answer.Goals as goal

pub statement-requires-clause-rule : goal.statement-requires-clause-rule
statement-requires-clause-rule g c =
    rule_stands c.args.sheet.now.rows c.args.t c.unwrap-rule.result c.in_ok-one.ensures.ok.standing.regular (sym c.rule.ensures ∙ c.unwrap-rule.ensures)

pub statement-requires-clause-factor : goal.statement-requires-clause-factor
statement-requires-clause-factor g c =
    subst (λ s. of_ℤ (pos 0) <ℚ value_of s.lo) (sym c.factor-k.ensures.span) (factor_above c.in_ok-nu.nu c.args.level)
