use Rattle.std.proofs.Common.{Ok, refl}
use Rattle.answers.specs.declared.reply.Answer.TheVariants.{Covariance}
use Rattle.edit_session.specs.Replies.{and_then, covariance_in}
use Rattle.edit_session.proofs.Found.{finds_on, stops_with}
use Rattle.edit_session.proofs.Needed.{gradient_by, finds_two}
use Rattle.edit_session.proofs.uncertainty.covariance_answer.Goals as goal

pub returns-in_err-covariance : goal.returns-in_err-covariance
returns-in_err-covariance g c =
    let sheet = c.args.sheet.now in
    let is = c.in_ok-two.ensures.ok in
    finds_two sheet c.args.y c.args.z c.in_ok-two.two is (λ dy dz. and_then (covariance_in sheet dy dz) (λ s. Ok (Covariance c.args.y c.args.z s)))
    c.from_residual-in_err-covariance.result
    (stops_with c.from_residual-in_err-covariance.result c.in_err-covariance.field-0.0 c.from_residual-in_err-covariance.ensures.1
    (covariance_in sheet (gradient_by sheet c.args.y) (gradient_by sheet c.args.z)) (λ s. Ok (Covariance c.args.y c.args.z s))
    (c.in_err-covariance.ensures sheet c.args.y c.args.z is.standing is.groups is.first is.second))

pub returns : goal.returns
returns g c =
    let sheet = c.args.sheet.now in
    let is = c.in_ok-two.ensures.ok in
    finds_two sheet c.args.y c.args.z c.in_ok-two.two is (λ dy dz. and_then (covariance_in sheet dy dz) (λ s. Ok (Covariance c.args.y c.args.z s)))
    (Ok (Covariance c.args.y c.args.z c.in_ok-covariance.covariance))
    (finds_on (Ok (Covariance c.args.y c.args.z c.in_ok-covariance.covariance)) (covariance_in sheet (gradient_by sheet c.args.y) (gradient_by sheet c.args.z))
    c.in_ok-covariance.covariance (λ s. Ok (Covariance c.args.y c.args.z s))
    (c.in_ok-covariance.ensures sheet c.args.y c.args.z is.standing is.groups is.first is.second) refl)
