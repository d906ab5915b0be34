use Rattle.std.proofs.Common.{◌≡◌, Ok, bytes_eq, ◌∙◌, subst}
use Rattle.adjoint_pass.specs.Sensitivities.{gradient_of}
use Rattle.sheet_rows.specs.Sheets.{IsStanding}
use Rattle.sheet_model.specs.Quantities.{quantities}
use Rattle.edit_session.specs.Replies.{and_then, value_in, gradient_in}
use Rattle.edit_session.specs.Asking.{AreGroupsIn, IsGradientIn, StopsAt, StopsTwo}
use Rattle.edit_session.specs.declared.stop.Stop.TheVariants.{OutOfMemory as NoMemory}
use Rattle.edit_session.proofs.Asking.{stops_second, err_of}
use Rattle.edit_session.proofs.Gradients.{whole_gradient}
use Rattle.edit_session.proofs.asked.of_two.Goals as goal

pub returns-in_err-second-clause-stop : goal.returns-in_err-second-clause-stop
returns-in_err-second-clause-stop g c =
    let sheet = c.args.sheet.now in
    let y = c.args.y.now in
    let z = c.args.z.now in
    let at_start = c.in_ok-asked.ensures.sheet in
    let after_first = c.value.ensures.asked.sheet ∙ at_start in
    let after_second = c.value-2.ensures.asked.sheet ∙ after_first in
    let after_gradient = c.gradient.ensures.asked.sheet ∙ after_second in
    let first = subst (λ s. IsGradientIn s y c.in_ok-first.first) after_second c.in_ok-first.ensures.gradient in
    err_of c.from_residual-in_err-second.result c.in_err-second.field-0.0 (StopsTwo sheet y z) c.from_residual-in_err-second.ensures.1
    (stops_second sheet y z c.in_ok-_first._first c.in_ok-_second._second (gradient_of bytes_eq (quantities sheet) y)
    (subst (λ s. value_in s y ≡ Ok c.in_ok-_first._first) at_start c.in_ok-_first.ensures.value)
    (subst (λ s. value_in s z ≡ Ok c.in_ok-_second._second) after_first c.in_ok-_second.ensures.value)
    (whole_gradient sheet y first.whole) c.in_err-second.field-0.0
    (subst (λ s. StopsAt c.in_err-second.field-0.0 (and_then (value_in s z) (λ value. gradient_in s z))) after_gradient c.in_err-second.ensures.stop))

pub returns-in_err-groups-clause-stop : goal.returns-in_err-groups-clause-stop
returns-in_err-groups-clause-stop g c =
    err_of c.from_residual-in_err-groups.result NoMemory (StopsTwo c.args.sheet.now c.args.y.now c.args.z.now) c.from_residual-in_err-groups.ensures.1 (λ answer. tt)

pub returns-clause-ok : goal.returns-clause-ok
returns-clause-ok g c =
    let at_start = c.in_ok-asked.ensures.sheet in
    let after_first = c.value.ensures.asked.sheet ∙ at_start in
    let after_second = c.value-2.ensures.asked.sheet ∙ after_first in
    let after_gradient = c.gradient.ensures.asked.sheet ∙ after_second in
    let after_both = c.gradient-2.ensures.asked.sheet ∙ after_gradient in
    record {
      standing = subst IsStanding after_both c.in_ok-second.ensures.asked.asked.standing;
      first_value = c.in_ok-_first._first;
      has_first = subst (λ s. value_in s c.args.y.now ≡ Ok c.in_ok-_first._first) at_start c.in_ok-_first.ensures.value;
      second_value = c.in_ok-_second._second;
      has_second = subst (λ s. value_in s c.args.z.now ≡ Ok c.in_ok-_second._second) after_first c.in_ok-_second.ensures.value;
      first = subst (λ s. IsGradientIn s c.args.y.now c.in_ok-first.first) after_second c.in_ok-first.ensures.gradient;
      second = subst (λ s. IsGradientIn s c.args.z.now c.in_ok-second.second) after_gradient c.in_ok-second.ensures.gradient;
      groups = subst (λ s. AreGroupsIn s c.in_ok-groups.groups) after_both c.in_ok-groups.ensures;
    }
