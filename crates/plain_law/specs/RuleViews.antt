-- The rules, statements and answers that the code holds, as those of the definitions.
use Rattle.std.specs.Prelude.{List, [], ◌∷◌, Option, option_map}
use Rattle.exact_fraction.specs.Number.{ℚ}
use Rattle.exact_law.specs.WrittenRule.{Form, Binary, FourOutcomes, Statement, Pass, ConditionalPass, ConditionalFail, Fail, Rule, Ends, Span, Answer, Yes, No, Unsettled, Decision, Stated, Undecided}
use Rattle.plain_law.specs.Numbers.{number}
use Rattle.plain_law.specs.declared.fraction.Exact.{Exact}
use Rattle.plain_law.specs.declared.rule.Form.{Form as HeldForm}
use Rattle.plain_law.specs.declared.rule.Form.TheVariants.{Binary as HeldBinary, FourOutcomes as HeldFour}
use Rattle.plain_law.specs.declared.rule.Statement.{Statement as HeldStatement}
use Rattle.plain_law.specs.declared.rule.Statement.TheVariants.{Pass as HeldPass, ConditionalPass as HeldConditionalPass, ConditionalFail as HeldConditionalFail, Fail as HeldFail}
use Rattle.plain_law.specs.declared.rule.Rule.{Rule as HeldRule}
use Rattle.plain_law.specs.declared.rule.Distance.{Distance}
use Rattle.plain_law.specs.declared.rule.Distance.TheVariants.{NoLimit, Inside}
use Rattle.plain_law.specs.declared.interval_rule.Ends.{Ends as HeldEnds}
use Rattle.plain_law.specs.declared.interval_rule.Span.{Span as HeldSpan}
use Rattle.plain_law.specs.declared.interval_rule.Answer.{Answer as HeldAnswer}
use Rattle.plain_law.specs.declared.interval_rule.Answer.TheVariants.{Yes as HeldYes, No as HeldNo, Unsettled as HeldUnsettled}
use Rattle.plain_law.specs.declared.interval_rule.Decision.{Decision as HeldDecision}
use Rattle.plain_law.specs.declared.interval_rule.Decision.TheVariants.{Stated as HeldStated, Undecided as HeldUndecided}

abbrev pub form_of : HeldForm → Form
form_of HeldBinary = Binary
form_of HeldFour = FourOutcomes

abbrev pub statement_of : HeldStatement → Statement
statement_of HeldPass = Pass
statement_of HeldConditionalPass = ConditionalPass
statement_of HeldConditionalFail = ConditionalFail
statement_of HeldFail = Fail

abbrev pub limit_of : Option Exact → Option ℚ
limit_of limit = option_map number limit

abbrev pub rule_of : HeldRule → Rule
rule_of rule = record {
  lower = limit_of rule.lower;
  upper = limit_of rule.upper;
  guard = number rule.guard;
  form = form_of rule.form;
}

-- the distances from a limit: none where there is no limit
abbrev pub distances_of : Distance → List ℚ
distances_of NoLimit = []
distances_of (Inside x) = number x ∷ []

abbrev pub ends_of : HeldEnds → Ends
ends_of ends = record { low = number ends.low; high = number ends.high }

abbrev pub span_of : HeldSpan → Span
span_of span = record { distance = ends_of span.distance; square = ends_of span.square }

abbrev pub answer_of : HeldAnswer → Answer
answer_of HeldYes = Yes
answer_of HeldNo = No
answer_of HeldUnsettled = Unsettled

abbrev pub decision_of : HeldDecision → Decision
decision_of (HeldStated statement) = Stated (statement_of statement)
decision_of (HeldUndecided condition) = Undecided condition
