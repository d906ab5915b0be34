use Rattle.std.proofs.Common.{◌≡◌, Ok, ◌∙◌, subst}
use Rattle.sheet_rows.specs.Sheets.{IsStanding}
use Rattle.edit_session.specs.Replies.{value_in}
use Rattle.edit_session.specs.Asking.{AreGroupsIn, IsGradientIn, StopsOne}
use Rattle.edit_session.specs.declared.stop.Stop.TheVariants.{OutOfMemory as NoMemory}
use Rattle.edit_session.proofs.Asking.{err_of}
use Rattle.edit_session.proofs.asked.of_one.Goals as goal

pub returns-in_err-groups-clause-stop : goal.returns-in_err-groups-clause-stop
returns-in_err-groups-clause-stop g c =
    err_of c.from_residual-in_err-groups.result NoMemory (StopsOne c.args.sheet.now c.args.y.now) c.from_residual-in_err-groups.ensures.1 (λ answer. tt)

pub returns-clause-ok : goal.returns-clause-ok
returns-clause-ok g c =
    let at_start = c.in_ok-asked.ensures.sheet in
    let after_value = c.value.ensures.asked.sheet ∙ at_start in
    let after_gradient = c.gradient.ensures.asked.sheet ∙ after_value in
    record {
      standing = subst IsStanding after_gradient c.in_ok-gradient.ensures.asked.asked.standing;
      value = subst (λ s. value_in s c.args.y.now ≡ Ok c.in_ok-value.value) at_start c.in_ok-value.ensures.value;
      gradient = subst (λ s. IsGradientIn s c.args.y.now c.in_ok-gradient.gradient) after_value c.in_ok-gradient.ensures.gradient;
      groups = subst (λ s. AreGroupsIn s c.in_ok-groups.groups) after_gradient c.in_ok-groups.ensures;
    }
