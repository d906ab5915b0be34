use Rattle.std.proofs.Common.{map, bytes_eq, ◌∙◌, ap}
use Rattle.covariance.specs.Gradients.{found_at}
use Rattle.covariance.specs.Groups.{group_of}
use Rattle.covariance.specs.Variances.{combined_variance_span}
use Rattle.adjoint_pass.specs.Sensitivities.{gradient_of}
use Rattle.sheet_model.specs.Quantities.{quantities}
use Rattle.sheet_model.specs.Groups.{groups}
use Rattle.edit_session.specs.Replies.{variance_in}
use Rattle.edit_session.proofs.Found.{stops_out, overflows, stays_in_range}
use Rattle.edit_session.proofs.LawNumbers.{variance_by_numbers}
use Rattle.edit_session.proofs.law.variance_of.Goals as goal

pub returns-in_err-found-clause-variance : goal.returns-in_err-found-clause-variance
returns-in_err-found-clause-variance g c = λ sheet n h a i.
    stops_out c.from_residual.result c.from_residual.ensures.1 (variance_in sheet (gradient_of bytes_eq (quantities sheet) n))
    (overflows c.in_err-found.field-0.0 (record {}) (record {}) (combined_variance_span (found_at c.args.y.now) (map group_of c.as_slice.result.now))
    (combined_variance_span (gradient_of bytes_eq (quantities sheet) n) (groups sheet)) c.in_err-found.ensures.span
    (ap (combined_variance_span (found_at c.args.y.now)) c.as_slice.ensures ∙ variance_by_numbers sheet h n c.args.y.now c.args.groups.now i a))

pub returns-clause-variance : goal.returns-clause-variance
returns-clause-variance g c = λ sheet n h a i.
    stays_in_range c.in_ok-found.found (record {}) (record {}) (combined_variance_span (found_at c.args.y.now) (map group_of c.as_slice.result.now))
    (combined_variance_span (gradient_of bytes_eq (quantities sheet) n) (groups sheet)) c.in_ok-found.ensures.span
    (ap (combined_variance_span (found_at c.args.y.now)) c.as_slice.ensures ∙ variance_by_numbers sheet h n c.args.y.now c.args.groups.now i a)
