use Rattle.std.proofs.Common.{Ok, sym, ap}
use Rattle.round_out.specs.Reports.{reported_of}
use Rattle.answers.specs.declared.reply.Answer.TheVariants.{Report}
use Rattle.edit_session.specs.Replies.{and_then, variance_in}
use Rattle.edit_session.proofs.Found.{finds_on, stops_with}
use Rattle.edit_session.proofs.Needed.{gradient_by, finds_one}
use Rattle.edit_session.proofs.uncertainty.report_answer.Goals as goal

pub returns-in_err-variance : goal.returns-in_err-variance
returns-in_err-variance g c =
    let sheet = c.args.sheet.now in
    let is = c.in_ok-one.ensures.ok in
    finds_one sheet c.args.y c.in_ok-one.one is (λ value dy. and_then (variance_in sheet dy) (λ v. Ok (Report c.args.y (reported_of value v))))
    c.from_residual-in_err-variance.result
    (stops_with c.from_residual-in_err-variance.result c.in_err-variance.field-0.0 c.from_residual-in_err-variance.ensures.1
    (variance_in sheet (gradient_by sheet c.args.y)) (λ v. Ok (Report c.args.y (reported_of c.in_ok-one.one.value v)))
    (c.in_err-variance.ensures.variance sheet c.args.y is.standing is.groups is.gradient))

pub returns : goal.returns
returns g c =
    let sheet = c.args.sheet.now in
    let is = c.in_ok-one.ensures.ok in
    finds_one sheet c.args.y c.in_ok-one.one is (λ value dy. and_then (variance_in sheet dy) (λ v. Ok (Report c.args.y (reported_of value v))))
    (Ok (Report c.args.y c.reported.result))
    (finds_on (Ok (Report c.args.y c.reported.result)) (variance_in sheet (gradient_by sheet c.args.y)) c.in_ok-variance.variance
    (λ v. Ok (Report c.args.y (reported_of c.in_ok-one.one.value v)))
    (c.in_ok-variance.ensures.variance sheet c.args.y is.standing is.groups is.gradient) (ap (λ r. Ok (Report c.args.y r)) (sym c.reported.ensures.exact)))
