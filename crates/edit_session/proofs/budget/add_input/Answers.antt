use Rattle.std.proofs.Common.{Ok, sym, ◌∙◌, ap}
use Rattle.edit_session.proofs.BudgetNumbers.{adds_stop, input_outside, input_without_value, input_without_variance, input_inside}
use Rattle.edit_session.proofs.Gradients.{number_asked}
use Rattle.edit_session.proofs.budget.add_input.Goals as goal

pub number-id-requires : goal.number-id-requires
number-id-requires g c =
    number_asked c.args.asked.now.sheet.now c.requires.asked.standing c.args.asked.now.numbered c.requires.asked.kept c.args.input.now.name c.requires.there

pub returns-then-not-has-clause-found : goal.returns-then-not-has-clause-found
returns-then-not-has-clause-found g c = λ n is.
    input_outside c.args.asked.now.sheet.now c.requires.asked.standing c.args.asked.now.numbered c.requires.asked.kept c.args.input.now c.requires.there
    c.number-id.result c.number-id.ensures n c.args.y.now is c.args.found.now (sym c.has.ensures ∙ c.if-not-has.true)

pub returns-in_err-value-clause-found : goal.returns-in_err-value-clause-found
returns-in_err-value-clause-found g c = λ n is.
    adds_stop c.from_residual.result c.in_err-value.field-0.0 _ _ _ c.from_residual.ensures.1
    (input_without_value c.args.asked.now.sheet.now c.requires.asked.standing c.args.asked.now.numbered c.requires.asked.kept c.args.input.now c.requires.there
    c.number-id.result c.number-id.ensures n c.args.y.now is c.in_err-value.field-0.0 (sym c.has.ensures ∙ c.if-not-has.false) c.in_err-value.ensures.value)

pub returns-in_err-variance-clause-found : goal.returns-in_err-variance-clause-found
returns-in_err-variance-clause-found g c = λ n is.
    adds_stop c.from_residual-in_err-variance.result c.in_err-variance.field-0.0 _ _ _ c.from_residual-in_err-variance.ensures.1
    (input_without_variance c.args.asked.now.sheet.now c.requires.asked.standing c.args.asked.now.numbered c.requires.asked.kept c.args.input.now c.requires.there
    c.number-id.result c.number-id.ensures n c.args.y.now is c.in_err-variance.field-0.0 c.in_ok-value.value (sym c.has.ensures ∙ c.if-not-has.false) c.in_ok-value.ensures.value c.in_err-variance.ensures)

pub returns-clause-found : goal.returns-clause-found
returns-clause-found g c = λ n is.
    input_inside c.args.asked.now.sheet.now c.requires.asked.standing c.args.asked.now.numbered c.requires.asked.kept c.args.input.now c.requires.there
    c.number-id.result c.number-id.ensures n c.args.y.now is c.args.found.now c.in_ok-value.value c.in_ok-variance.variance c.at.result (sym c.has.ensures ∙ c.if-not-has.false) c.in_ok-value.ensures.value
    c.in_ok-variance.ensures c.at.ensures
    ∙ ap Ok (sym c.in_ok-push.ensures.ok)
