use Rattle.std.proofs.Common.{sym, ◌∙◌, ap, subst}
use Rattle.adjoint_pass.specs.Sensitivities.{gradient_of}
use Rattle.std.specs.Prelude.{bytes_eq}
use Rattle.sheet_rows.specs.Rows.{sheet_of}
use Rattle.sheet_rows.specs.Sheets.{has_quantity}
use Rattle.sheet_model.specs.Budgets.{variances}
use Rattle.sheet_model.specs.Quantities.{quantities}
use Rattle.edit_session.specs.Replies.{all_found, input_in}
use Rattle.edit_session.specs.Asking.{IsGradientIn, StopsAt, goes_on}
use Rattle.edit_session.proofs.BudgetNumbers.{finds_stop, inputs_on, inputs_stop, inputs_end, item_quantity}
use Rattle.edit_session.proofs.Needed.{gradient_by}
use Rattle.edit_session.proofs.budget.inputs_of.Goals as goal

pub add_input-requires-clause-there : goal.add_input-requires-clause-there
add_input-requires-clause-there g c =
    let sheet = c.args.asked.now.sheet.now in
    ap (λ s. has_quantity s c.input-item.result.name) c.loop-input.invariant.0.sheet
    ∙ item_quantity sheet c.as_slice-input-items.result.now c.loop-input.input-index c.input-item.result c.input-item.is c.loop-input-test.true
    (c.as_slice-input-items.ensures ∙ c.in_ok-all.ensures ∙ ap (λ rows. variances (sheet_of rows)) c.rows.ensures.rows)

pub returns-in_err-add_input : goal.returns-in_err-add_input
returns-in_err-add_input g c = λ n is.
    let sheet = c.args.asked.now.sheet.now in
    let dy = gradient_by sheet n in
    let still = c.loop-input.invariant.0.sheet in
    finds_stop c.from_residual-in_err-add_input.result c.in_err-add_input.field-0.0 _ c.from_residual-in_err-add_input.ensures.1
    (subst (StopsAt c.in_err-add_input.field-0.0)
    (c.loop-input.invariant.1 n is ∙ ap (all_found (input_in sheet dy)) (c.as_slice-input-items.ensures ∙ c.in_ok-all.ensures ∙ ap (λ rows. variances (sheet_of rows)) c.rows.ensures.rows))
    (inputs_stop sheet dy c.as_slice-input-items.result.now c.loop-input.input-index c.input-item.result c.input-item.is c.loop-input-test.true
    c.in_err-add_input.field-0.0 c.loop-input.found
    (subst (λ s. StopsAt c.in_err-add_input.field-0.0 (input_in s (gradient_of bytes_eq (quantities s) n) c.input-item.result)) still
    (c.in_err-add_input.ensures.found n (subst (λ s. IsGradientIn s n c.args.y.now) (sym still) is)))))

pub loop-input-preserved : goal.loop-input-preserved
loop-input-preserved g c =
    let sheet = c.args.asked.now.sheet.now in
    let still = c.loop-input.invariant.0.sheet in (
      record { sheet = c.in_ok-add_input.ensures.asked.sheet ∙ still; asked = c.in_ok-add_input.ensures.asked.asked },
      λ n is.
          inputs_on sheet (gradient_by sheet n) c.as_slice-input-items.result.now c.loop-input.input-index c.input-item.result c.input-item.is c.loop-input-test.true
          c.loop-input.found c.add_input.new.found
          (ap (λ s. goes_on c.loop-input.found (input_in s (gradient_of bytes_eq (quantities s) n) c.input-item.result)) (sym still)
          ∙ c.in_ok-add_input.ensures.found n (subst (λ s. IsGradientIn s n c.args.y.now) (sym still) is))
          ∙ c.loop-input.invariant.1 n is,
    )

pub returns : goal.returns
returns g c = λ n is.
    let sheet = c.args.asked.now.sheet.now in
    let dy = gradient_by sheet n in
    ap (all_found (input_in sheet dy)) (sym (c.as_slice-input-items.ensures ∙ c.in_ok-all.ensures ∙ ap (λ rows. variances (sheet_of rows)) c.rows.ensures.rows))
    ∙ sym (c.loop-input.invariant.1 n is)
    ∙ inputs_end sheet dy c.as_slice-input-items.result.now c.loop-input.input-index c.loop-input.found c.loop-input-test.false
