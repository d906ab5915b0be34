use Rattle.std.proofs.Common.{map, bytes_eq, ◌∙◌, ap}
use Rattle.covariance.specs.Gradients.{found_at}
use Rattle.covariance.specs.Groups.{group_of}
use Rattle.covariance.specs.Variances.{combined_covariance_span}
use Rattle.adjoint_pass.specs.Sensitivities.{gradient_of}
use Rattle.sheet_model.specs.Quantities.{quantities}
use Rattle.sheet_model.specs.Groups.{groups}
use Rattle.edit_session.specs.Replies.{covariance_in}
use Rattle.edit_session.proofs.Found.{stops_out, overflows, stays_in_range}
use Rattle.edit_session.proofs.LawNumbers.{covariance_by_numbers}
use Rattle.edit_session.proofs.law.covariance_of.Goals as goal

pub returns-in_err-found : goal.returns-in_err-found
returns-in_err-found g c = λ sheet n m h a i j.
    stops_out c.from_residual.result c.from_residual.ensures.1 (covariance_in sheet (gradient_of bytes_eq (quantities sheet) n) (gradient_of bytes_eq (quantities sheet) m))
    (overflows c.in_err-found.field-0.0 (record {}) (record {}) (combined_covariance_span (found_at c.args.y.now) (found_at c.args.z.now) (map group_of c.as_slice.result.now))
    (combined_covariance_span (gradient_of bytes_eq (quantities sheet) n) (gradient_of bytes_eq (quantities sheet) m) (groups sheet)) c.in_err-found.ensures.span
    (ap (combined_covariance_span (found_at c.args.y.now) (found_at c.args.z.now)) c.as_slice.ensures
    ∙ covariance_by_numbers sheet h n m c.args.y.now c.args.z.now c.args.groups.now i j a))

pub returns : goal.returns
returns g c = λ sheet n m h a i j.
    stays_in_range c.in_ok-found.found (record {}) (record {}) (combined_covariance_span (found_at c.args.y.now) (found_at c.args.z.now) (map group_of c.as_slice.result.now))
    (combined_covariance_span (gradient_of bytes_eq (quantities sheet) n) (gradient_of bytes_eq (quantities sheet) m) (groups sheet)) c.in_ok-found.ensures.span
    (ap (combined_covariance_span (found_at c.args.y.now) (found_at c.args.z.now)) c.as_slice.ensures
    ∙ covariance_by_numbers sheet h n m c.args.y.now c.args.z.now c.args.groups.now i j a)
