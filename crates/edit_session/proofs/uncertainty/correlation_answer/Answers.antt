use Rattle.std.proofs.Common.{Ok, refl, sym, ◌∙◌, ap}
use Rattle.round_out.specs.Searches.{correlation_of}
use Rattle.answers.specs.declared.reply.Answer.TheVariants.{Correlation}
use Rattle.edit_session.specs.Replies.{and_then, in_range, variance_in, covariance_in, correlation_in}
use Rattle.edit_session.proofs.Found.{finds_on, stops_with, stops_past, stops_then, stops_on}
use Rattle.edit_session.proofs.Needed.{gradient_by, finds_two, correlation_is}
use Rattle.edit_session.proofs.uncertainty.correlation_answer.Goals as goal

pub returns-in_err-covariance : goal.returns-in_err-covariance
returns-in_err-covariance g c =
    let sheet = c.args.sheet.now in
    let y = c.args.y in
    let z = c.args.z in
    let is = c.in_ok-two.ensures.ok in
    let dy = gradient_by sheet y in
    let dz = gradient_by sheet z in
    finds_two sheet y z c.in_ok-two.two is (λ dy dz. and_then (correlation_in sheet dy dz) (λ r. Ok (Correlation y z r))) c.from_residual-in_err-covariance.result
    (stops_with c.from_residual-in_err-covariance.result c.in_err-covariance.field-0.0 c.from_residual-in_err-covariance.ensures.1 (correlation_in sheet dy dz) (λ r. Ok (Correlation y z r))
    (stops_then c.in_err-covariance.field-0.0 (covariance_in sheet dy dz) (λ s. and_then (variance_in sheet dy) (λ v. and_then (variance_in sheet dz) (λ w. in_range (correlation_of s v w))))
    (c.in_err-covariance.ensures sheet y z is.standing is.groups is.first is.second)))

pub returns-in_err-first : goal.returns-in_err-first
returns-in_err-first g c =
    let sheet = c.args.sheet.now in
    let y = c.args.y in
    let z = c.args.z in
    let is = c.in_ok-two.ensures.ok in
    let dy = gradient_by sheet y in
    let dz = gradient_by sheet z in
    finds_two sheet y z c.in_ok-two.two is (λ dy dz. and_then (correlation_in sheet dy dz) (λ r. Ok (Correlation y z r))) c.from_residual-in_err-first.result
    (stops_with c.from_residual-in_err-first.result c.in_err-first.field-0.0 c.from_residual-in_err-first.ensures.1 (correlation_in sheet dy dz) (λ r. Ok (Correlation y z r))
    (stops_on c.in_err-first.field-0.0 (covariance_in sheet dy dz) c.in_ok-covariance.covariance (λ s. and_then (variance_in sheet dy) (λ v. and_then (variance_in sheet dz) (λ w. in_range (correlation_of s v w)))) (c.in_ok-covariance.ensures sheet y z is.standing is.groups is.first is.second)
    (stops_then c.in_err-first.field-0.0 (variance_in sheet dy) (λ v. and_then (variance_in sheet dz) (λ w. in_range (correlation_of c.in_ok-covariance.covariance v w)))
    (c.in_err-first.ensures.variance sheet y is.standing is.groups is.first))))

pub returns-in_err-second : goal.returns-in_err-second
returns-in_err-second g c =
    let sheet = c.args.sheet.now in
    let y = c.args.y in
    let z = c.args.z in
    let is = c.in_ok-two.ensures.ok in
    let dy = gradient_by sheet y in
    let dz = gradient_by sheet z in
    finds_two sheet y z c.in_ok-two.two is (λ dy dz. and_then (correlation_in sheet dy dz) (λ r. Ok (Correlation y z r))) c.from_residual-in_err-second.result
    (stops_with c.from_residual-in_err-second.result c.in_err-second.field-0.0 c.from_residual-in_err-second.ensures.1 (correlation_in sheet dy dz) (λ r. Ok (Correlation y z r))
    (stops_on c.in_err-second.field-0.0 (covariance_in sheet dy dz) c.in_ok-covariance.covariance (λ s. and_then (variance_in sheet dy) (λ v. and_then (variance_in sheet dz) (λ w. in_range (correlation_of s v w)))) (c.in_ok-covariance.ensures sheet y z is.standing is.groups is.first is.second)
    (stops_on c.in_err-second.field-0.0 (variance_in sheet dy) c.in_ok-first.first
    (λ v. and_then (variance_in sheet dz) (λ w. in_range (correlation_of c.in_ok-covariance.covariance v w))) (c.in_ok-first.ensures.variance sheet y is.standing is.groups is.first)
    (stops_then c.in_err-second.field-0.0 (variance_in sheet dz) (λ w. in_range (correlation_of c.in_ok-covariance.covariance c.in_ok-first.first w))
    (c.in_err-second.ensures.variance sheet z is.standing is.groups is.second)))))

pub returns-in_err-said : goal.returns-in_err-said
returns-in_err-said g c =
    let sheet = c.args.sheet.now in
    let y = c.args.y in
    let z = c.args.z in
    let is = c.in_ok-two.ensures.ok in
    let dy = gradient_by sheet y in
    let dz = gradient_by sheet z in
    finds_two sheet y z c.in_ok-two.two is (λ dy dz. and_then (correlation_in sheet dy dz) (λ r. Ok (Correlation y z r))) c.from_residual-in_err-said.result
    (stops_past c.from_residual-in_err-said.result c.from_residual-in_err-said.ensures.1 (correlation_in sheet dy dz) (λ r. Ok (Correlation y z r))
    (correlation_is sheet dy dz c.in_ok-covariance.covariance c.in_ok-first.first c.in_ok-second.second (c.in_ok-covariance.ensures sheet y z is.standing is.groups is.first is.second) (c.in_ok-first.ensures.variance sheet y is.standing is.groups is.first) (c.in_ok-second.ensures.variance sheet z is.standing is.groups is.second)
    ∙ ap in_range (sym c.in_err-said.ensures.said)))

pub returns : goal.returns
returns g c =
    let sheet = c.args.sheet.now in
    let y = c.args.y in
    let z = c.args.z in
    let is = c.in_ok-two.ensures.ok in
    let dy = gradient_by sheet y in
    let dz = gradient_by sheet z in
    finds_two sheet y z c.in_ok-two.two is (λ dy dz. and_then (correlation_in sheet dy dz) (λ r. Ok (Correlation y z r))) (Ok (Correlation y z c.in_ok-said.said))
    (finds_on (Ok (Correlation y z c.in_ok-said.said)) (correlation_in sheet dy dz) c.in_ok-said.said (λ r. Ok (Correlation y z r))
    (correlation_is sheet dy dz c.in_ok-covariance.covariance c.in_ok-first.first c.in_ok-second.second (c.in_ok-covariance.ensures sheet y z is.standing is.groups is.first is.second) (c.in_ok-first.ensures.variance sheet y is.standing is.groups is.first) (c.in_ok-second.ensures.variance sheet z is.standing is.groups is.second)
    ∙ ap in_range (sym c.in_ok-said.ensures.said)) refl)
