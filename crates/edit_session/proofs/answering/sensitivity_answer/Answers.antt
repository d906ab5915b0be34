use Rattle.std.proofs.Common.{◌≡◌, Ok, sym, ◌∙◌, ap, subst}
use Rattle.covariance.specs.Gradients.{sensitivity}
use Rattle.sheet_rows.specs.Sheets.{has_input}
use Rattle.answers.specs.declared.reply.Answer.TheVariants.{Sensitivity}
use Rattle.sheet_model.specs.Quantities.{quantities}
use Rattle.sheet_model.specs.Numbering.{number_among}
use Rattle.sheet_model.proofs.Inputs.{input_there}
use Rattle.sheet_model.proofs.KeptSheet.{name_kept, number_is}
use Rattle.sheet_model.proofs.Walking.{quantities_in_order}
use Rattle.edit_session.specs.Replies.{and_then, value_in, gradient_in}
use Rattle.edit_session.specs.Asking.{IsGradientIn}
use Rattle.edit_session.proofs.Found.{finds_on}
use Rattle.edit_session.proofs.Needed.{gradient_by, gradient_found, sensitivity_found}
use Rattle.edit_session.proofs.answering.sensitivity_answer.Goals as goal

pub number-requires : goal.number-requires
number-requires g c =
    let now = c.in_ok-gradient.ensures.asked.asked in
    let still : c.gradient.new.self.sheet.now ≡ c.args.sheet.now =
    c.in_ok-gradient.ensures.asked.sheet ∙ c.in_ok-_value.ensures.asked.sheet ∙ c.in_ok-asked.ensures.sheet in
    name_kept (quantities c.gradient.new.self.sheet.now) c.gradient.new.self.numbered (quantities_in_order c.gradient.new.self.sheet.now now.standing) now.kept c.args.x
    (input_there c.gradient.new.self.sheet.now c.args.x (ap (λ s. has_input s c.args.x) still ∙ c.requires.input))

pub returns : goal.returns
returns g c =
    let sheet = c.args.sheet.now in
    let y = c.args.y in
    let x = c.args.x in
    let now = c.in_ok-gradient.ensures.asked.asked in
    let before : c.value.new.self.sheet.now ≡ sheet = c.in_ok-_value.ensures.asked.sheet ∙ c.in_ok-asked.ensures.sheet in
    let still : c.gradient.new.self.sheet.now ≡ sheet = c.in_ok-gradient.ensures.asked.sheet ∙ before in
    let is : IsGradientIn sheet y c.in_ok-gradient.gradient = subst (λ s. IsGradientIn s y c.in_ok-gradient.gradient) before c.in_ok-gradient.ensures.gradient in
    let number : c.number.result ≡ number_among (quantities sheet) x =
    c.number.ensures
    ∙ number_is (quantities c.gradient.new.self.sheet.now) c.gradient.new.self.numbered (quantities_in_order c.gradient.new.self.sheet.now now.standing) now.kept x
    ∙ ap (λ s. number_among (quantities s) x) still in
    finds_on (Ok (Sensitivity y x c.at.result)) (value_in sheet y) c.in_ok-_value._value (λ value. and_then (gradient_in sheet y) (λ dy. Ok (Sensitivity y x (sensitivity dy x))))
    (ap (λ s. value_in s y) (sym c.in_ok-asked.ensures.sheet) ∙ c.in_ok-_value.ensures.value)
    (finds_on (Ok (Sensitivity y x c.at.result)) (gradient_in sheet y) (gradient_by sheet y) (λ dy. Ok (Sensitivity y x (sensitivity dy x)))
    (gradient_found sheet y c.in_ok-gradient.gradient is)
    (ap (λ s. Ok (Sensitivity y x s)) (sym (c.at.ensures ∙ sensitivity_found sheet y x c.in_ok-gradient.gradient c.number.result is (input_there sheet x c.requires.input) number))))
