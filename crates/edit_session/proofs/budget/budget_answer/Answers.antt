use Rattle.std.proofs.Common.{Ok, refl, sym, ◌∙◌, subst}
use Rattle.answers.specs.declared.reply.Answer.TheVariants.{Budget}
use Rattle.edit_session.specs.Asking.{IsGradientIn}
use Rattle.edit_session.proofs.BudgetAnswers.{one_is, inputs_still, no_inputs_still, without_variance, without_inputs, without_parts, without_lines, with_lines}
use Rattle.edit_session.proofs.Found.{stops_empty}
use Rattle.edit_session.proofs.budget.budget_answer.Goals as goal

pub returns-in_err-groups : goal.returns-in_err-groups
returns-in_err-groups g c = stops_empty c.from_residual-in_err-groups.result c.from_residual-in_err-groups.ensures.1 _

pub returns-in_err-variance : goal.returns-in_err-variance
returns-in_err-variance g c =
    let sheet = c.args.sheet.now in
    let y = c.args.y in
    let is = one_is sheet c.in_ok-asked.asked.sheet.now c.value.new.self.sheet.now c.gradient.new.self.sheet.now y c.in_ok-_value._value c.in_ok-gradient.gradient c.in_ok-groups.groups
    c.in_ok-asked.ensures.sheet c.value.ensures.asked.sheet c.gradient.ensures.asked.sheet c.in_ok-gradient.ensures.asked.asked.standing
    c.in_ok-_value.ensures.value c.in_ok-gradient.ensures.gradient c.in_ok-groups.ensures in
    without_variance sheet y _ is c.from_residual-in_err-variance.result c.in_err-variance.field-0.0 c.from_residual-in_err-variance.ensures.1
    (c.in_err-variance.ensures.variance sheet y is.standing is.groups is.gradient)

pub returns-in_err-inputs : goal.returns-in_err-inputs
returns-in_err-inputs g c =
    let sheet = c.args.sheet.now in
    let y = c.args.y in
    let is = one_is sheet c.in_ok-asked.asked.sheet.now c.value.new.self.sheet.now c.gradient.new.self.sheet.now y c.in_ok-_value._value c.in_ok-gradient.gradient c.in_ok-groups.groups
    c.in_ok-asked.ensures.sheet c.value.ensures.asked.sheet c.gradient.ensures.asked.sheet c.in_ok-gradient.ensures.asked.asked.standing
    c.in_ok-_value.ensures.value c.in_ok-gradient.ensures.gradient c.in_ok-groups.ensures in
    let still = c.gradient.ensures.asked.sheet ∙ c.value.ensures.asked.sheet ∙ c.in_ok-asked.ensures.sheet in
    without_inputs sheet y _ is c.from_residual-in_err-inputs.result c.in_err-inputs.field-0.0 c.from_residual-in_err-inputs.ensures.1 c.in_ok-variance.variance (c.in_ok-variance.ensures.variance sheet y is.standing is.groups is.gradient)
    (no_inputs_still sheet c.gradient.new.self.sheet.now y c.in_err-inputs.field-0.0 still
    (c.in_err-inputs.ensures y (subst (λ s. IsGradientIn s y c.in_ok-gradient.gradient) (sym still) is.gradient)))

pub parts_of-requires : goal.parts_of-requires
parts_of-requires g c =
    let sheet = c.args.sheet.now in
    let y = c.args.y in
    let is = one_is sheet c.in_ok-asked.asked.sheet.now c.value.new.self.sheet.now c.gradient.new.self.sheet.now y c.in_ok-_value._value c.in_ok-gradient.gradient c.in_ok-groups.groups
    c.in_ok-asked.ensures.sheet c.value.ensures.asked.sheet c.gradient.ensures.asked.sheet c.in_ok-gradient.ensures.asked.asked.standing
    c.in_ok-_value.ensures.value c.in_ok-gradient.ensures.gradient c.in_ok-groups.ensures in
    is.groups

pub returns-in_err-parts : goal.returns-in_err-parts
returns-in_err-parts g c =
    let sheet = c.args.sheet.now in
    let y = c.args.y in
    let is = one_is sheet c.in_ok-asked.asked.sheet.now c.value.new.self.sheet.now c.gradient.new.self.sheet.now y c.in_ok-_value._value c.in_ok-gradient.gradient c.in_ok-groups.groups
    c.in_ok-asked.ensures.sheet c.value.ensures.asked.sheet c.gradient.ensures.asked.sheet c.in_ok-gradient.ensures.asked.asked.standing
    c.in_ok-_value.ensures.value c.in_ok-gradient.ensures.gradient c.in_ok-groups.ensures in
    let still = c.gradient.ensures.asked.sheet ∙ c.value.ensures.asked.sheet ∙ c.in_ok-asked.ensures.sheet in
    without_parts sheet y _ is c.from_residual-in_err-parts.result c.in_err-parts.field-0.0 c.from_residual-in_err-parts.ensures.1 c.in_ok-variance.variance c.in_ok-inputs.inputs (c.in_ok-variance.ensures.variance sheet y is.standing is.groups is.gradient)
    (inputs_still sheet c.gradient.new.self.sheet.now y c.in_ok-inputs.inputs still
    (c.in_ok-inputs.ensures y (subst (λ s. IsGradientIn s y c.in_ok-gradient.gradient) (sym still) is.gradient)))
    (c.in_err-parts.ensures y is.gradient)

pub returns-in_err-lines : goal.returns-in_err-lines
returns-in_err-lines g c =
    let sheet = c.args.sheet.now in
    let y = c.args.y in
    let is = one_is sheet c.in_ok-asked.asked.sheet.now c.value.new.self.sheet.now c.gradient.new.self.sheet.now y c.in_ok-_value._value c.in_ok-gradient.gradient c.in_ok-groups.groups
    c.in_ok-asked.ensures.sheet c.value.ensures.asked.sheet c.gradient.ensures.asked.sheet c.in_ok-gradient.ensures.asked.asked.standing
    c.in_ok-_value.ensures.value c.in_ok-gradient.ensures.gradient c.in_ok-groups.ensures in
    let still = c.gradient.ensures.asked.sheet ∙ c.value.ensures.asked.sheet ∙ c.in_ok-asked.ensures.sheet in
    without_lines sheet y _ is c.from_residual-in_err-lines.result c.in_err-lines.field-0.0 c.from_residual-in_err-lines.ensures.1 c.in_ok-variance.variance c.in_ok-inputs.inputs c.in_ok-parts.parts (c.in_ok-variance.ensures.variance sheet y is.standing is.groups is.gradient)
    (inputs_still sheet c.gradient.new.self.sheet.now y c.in_ok-inputs.inputs still
    (c.in_ok-inputs.ensures y (subst (λ s. IsGradientIn s y c.in_ok-gradient.gradient) (sym still) is.gradient)))
    (c.in_ok-parts.ensures y is.gradient) c.in_err-lines.ensures

pub returns : goal.returns
returns g c =
    let sheet = c.args.sheet.now in
    let y = c.args.y in
    let is = one_is sheet c.in_ok-asked.asked.sheet.now c.value.new.self.sheet.now c.gradient.new.self.sheet.now y c.in_ok-_value._value c.in_ok-gradient.gradient c.in_ok-groups.groups
    c.in_ok-asked.ensures.sheet c.value.ensures.asked.sheet c.gradient.ensures.asked.sheet c.in_ok-gradient.ensures.asked.asked.standing
    c.in_ok-_value.ensures.value c.in_ok-gradient.ensures.gradient c.in_ok-groups.ensures in
    let still = c.gradient.ensures.asked.sheet ∙ c.value.ensures.asked.sheet ∙ c.in_ok-asked.ensures.sheet in
    with_lines sheet y _ is (Ok (Budget c.in_ok-lines.lines y c.in_ok-variance.variance)) c.in_ok-variance.variance c.in_ok-inputs.inputs c.in_ok-parts.parts c.in_ok-lines.lines
    (c.in_ok-variance.ensures.variance sheet y is.standing is.groups is.gradient)
    (inputs_still sheet c.gradient.new.self.sheet.now y c.in_ok-inputs.inputs still
    (c.in_ok-inputs.ensures y (subst (λ s. IsGradientIn s y c.in_ok-gradient.gradient) (sym still) is.gradient)))
    (c.in_ok-parts.ensures y is.gradient) c.in_ok-lines.ensures refl
