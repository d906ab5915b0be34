-- Distances and answers as the code holds them, in the terms of the exact law.
use Rattle.std.specs.Prelude.{Option, None, Some, List, [], ◌∷◌}
use Rattle.exact_law.specs.WrittenRule.{Ends, Span as ExactSpan, Answer, Yes as ExactYes, No as ExactNo, Unsettled as ExactUnsettled, guarded_over, inside_over, near_over}
use Rattle.fixed_interval.specs.declared.faults.Truth.{Truth}
use Rattle.fixed_interval.specs.declared.faults.Truth.TheVariants.{Yes, No, Unsettled}
use Rattle.guard_band.specs.declared.distances.Distance.{Distance}
use Rattle.guard_band.specs.declared.rule.Condition.{Condition}
use Rattle.guard_band.specs.declared.rule.Condition.TheVariants.{Guarded, Inside, Near}
use Rattle.guard_band.specs.Statements.{ends_of}

abbrev pub answer_of : Truth → Answer
answer_of Yes = ExactYes
answer_of No = ExactNo
answer_of Unsettled = ExactUnsettled

abbrev pub exact_span : Distance → ExactSpan
exact_span d = record { distance = ends_of d.inside; square = ends_of d.square }

abbrev pub exact_spans : Option Distance → List ExactSpan
exact_spans None = []
exact_spans (Some d) = exact_span d ∷ []

-- the condition at one limit, where the square of the guard band has these ends
abbrev pub condition_over : Condition → Ends → ExactSpan → Answer
condition_over Guarded w s = guarded_over w s
condition_over Inside w s = inside_over s
condition_over Near w s = near_over w s
