use Rattle.std.proofs.Common.{rules, subst}
use Rattle.round_out.specs.Reports.{IsReportOf}
use Rattle.round_out.specs.declared.digits.Rounded.TheVariants.{Zero, Digits, Unsettled}
use Rattle.round_out.proofs.Reporting.{report_holds, reported_is}
use Rattle.round_out.proofs.report.reported.Goals as goal

pub returns-in-Zero-clause-exact : goal.returns-in-Zero-clause-exact
returns-in-Zero-clause-exact c = reported_is c.args.y.now c.args.v.now Zero _ (search rules) (search rules)

pub returns-in-Zero-clause-holds : goal.returns-in-Zero-clause-holds
returns-in-Zero-clause-holds c = λ x q h k. subst (IsReportOf x q) (search rules) (report_holds c.args.y.now Zero x q h (search rules))

pub returns-in-Unsettled-clause-exact : goal.returns-in-Unsettled-clause-exact
returns-in-Unsettled-clause-exact c = reported_is c.args.y.now c.args.v.now Unsettled _ (search rules) (search rules)

pub returns-in-Digits-clause-exact : goal.returns-in-Digits-clause-exact
returns-in-Digits-clause-exact c =
    reported_is c.args.y.now c.args.v.now (Digits c.in-Digits.m c.in-Digits.e) c.at_digits.result (search rules) (search rules)

pub returns-in-Digits-clause-holds : goal.returns-in-Digits-clause-holds
returns-in-Digits-clause-holds c = λ x q h k.
    subst (IsReportOf x q) (search rules) (report_holds c.args.y.now (Digits c.in-Digits.m c.in-Digits.e) x q h (search rules))
