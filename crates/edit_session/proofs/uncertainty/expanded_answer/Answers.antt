use Rattle.std.proofs.Common.{Ok, sym, ◌∙◌, ap}
use Rattle.table_g2.specs.Factors.{factor_span}
use Rattle.round_out.specs.Reports.{expanded_of}
use Rattle.answers.specs.declared.reply.Answer.TheVariants.{Expanded}
use Rattle.edit_session.specs.Replies.{and_then, in_range, variance_in, degrees_in, expanded_by, expanded_in}
use Rattle.edit_session.proofs.Found.{finds_on, stops_with, stops_past}
use Rattle.edit_session.proofs.Needed.{gradient_by, finds_one}
use Rattle.edit_session.proofs.uncertainty.expanded_answer.Goals as goal

pub returns-in_err-nu : goal.returns-in_err-nu
returns-in_err-nu g c =
    let sheet = c.args.sheet.now in
    let y = c.args.y in
    let value = c.in_ok-one.one.value in
    let is = c.in_ok-one.ensures.ok in
    let dy = gradient_by sheet y in
    finds_one sheet y c.in_ok-one.one is (λ value dy. expanded_in sheet y c.args.level value dy) c.from_residual-in_err-nu.result
    (stops_with c.from_residual-in_err-nu.result c.in_err-nu.field-0.0 c.from_residual-in_err-nu.ensures.1 (degrees_in sheet dy) (λ nu. and_then (variance_in sheet dy) (λ v. expanded_by y value v (factor_span nu c.args.level)))
    (c.in_err-nu.ensures.degrees sheet y is.standing is.groups is.gradient))

pub returns-in_err-variance : goal.returns-in_err-variance
returns-in_err-variance g c =
    let sheet = c.args.sheet.now in
    let y = c.args.y in
    let value = c.in_ok-one.one.value in
    let is = c.in_ok-one.ensures.ok in
    let dy = gradient_by sheet y in
    finds_one sheet y c.in_ok-one.one is (λ value dy. expanded_in sheet y c.args.level value dy) c.from_residual-in_err-variance.result
    (finds_on c.from_residual-in_err-variance.result (degrees_in sheet dy) c.in_ok-nu.nu (λ nu. and_then (variance_in sheet dy) (λ v. expanded_by y value v (factor_span nu c.args.level))) (c.in_ok-nu.ensures.degrees sheet y is.standing is.groups is.gradient)
    (stops_with c.from_residual-in_err-variance.result c.in_err-variance.field-0.0 c.from_residual-in_err-variance.ensures.1 (variance_in sheet dy) (λ v. expanded_by y value v (factor_span c.in_ok-nu.nu c.args.level))
    (c.in_err-variance.ensures.variance sheet y is.standing is.groups is.gradient)))

pub returns-in_err-reported : goal.returns-in_err-reported
returns-in_err-reported g c =
    let sheet = c.args.sheet.now in
    let y = c.args.y in
    let value = c.in_ok-one.one.value in
    let is = c.in_ok-one.ensures.ok in
    let dy = gradient_by sheet y in
    finds_one sheet y c.in_ok-one.one is (λ value dy. expanded_in sheet y c.args.level value dy) c.from_residual-in_err-reported.result
    (finds_on c.from_residual-in_err-reported.result (degrees_in sheet dy) c.in_ok-nu.nu (λ nu. and_then (variance_in sheet dy) (λ v. expanded_by y value v (factor_span nu c.args.level))) (c.in_ok-nu.ensures.degrees sheet y is.standing is.groups is.gradient)
    (finds_on c.from_residual-in_err-reported.result (variance_in sheet dy) c.in_ok-variance.variance (λ v. expanded_by y value v (factor_span c.in_ok-nu.nu c.args.level)) (c.in_ok-variance.ensures.variance sheet y is.standing is.groups is.gradient)
    (stops_past c.from_residual-in_err-reported.result c.from_residual-in_err-reported.ensures.1 (in_range (expanded_of value c.in_ok-variance.variance (factor_span c.in_ok-nu.nu c.args.level))) (λ r. Ok (Expanded y r (factor_span c.in_ok-nu.nu c.args.level).lo))
    (ap (λ s. in_range (expanded_of value c.in_ok-variance.variance s)) (sym c.factor-k.ensures.span) ∙ ap in_range (sym c.in_err-reported.ensures.exact)))))

pub returns : goal.returns
returns g c =
    let sheet = c.args.sheet.now in
    let y = c.args.y in
    let value = c.in_ok-one.one.value in
    let is = c.in_ok-one.ensures.ok in
    let dy = gradient_by sheet y in
    finds_one sheet y c.in_ok-one.one is (λ value dy. expanded_in sheet y c.args.level value dy) (Ok (Expanded y c.in_ok-reported.reported c.lo.result))
    (finds_on (Ok (Expanded y c.in_ok-reported.reported c.lo.result)) (degrees_in sheet dy) c.in_ok-nu.nu (λ nu. and_then (variance_in sheet dy) (λ v. expanded_by y value v (factor_span nu c.args.level))) (c.in_ok-nu.ensures.degrees sheet y is.standing is.groups is.gradient)
    (finds_on (Ok (Expanded y c.in_ok-reported.reported c.lo.result)) (variance_in sheet dy) c.in_ok-variance.variance (λ v. expanded_by y value v (factor_span c.in_ok-nu.nu c.args.level)) (c.in_ok-variance.ensures.variance sheet y is.standing is.groups is.gradient)
    (finds_on (Ok (Expanded y c.in_ok-reported.reported c.lo.result)) (in_range (expanded_of value c.in_ok-variance.variance (factor_span c.in_ok-nu.nu c.args.level))) c.in_ok-reported.reported (λ r. Ok (Expanded y r (factor_span c.in_ok-nu.nu c.args.level).lo))
    (ap (λ s. in_range (expanded_of value c.in_ok-variance.variance s)) (sym c.factor-k.ensures.span) ∙ ap in_range (sym c.in_ok-reported.ensures.exact))
    (ap (λ b. Ok (Expanded y c.in_ok-reported.reported b)) (ap (λ s. s.lo) (sym c.factor-k.ensures.span) ∙ sym c.lo.ensures.value)))))
