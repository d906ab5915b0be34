-- The conditions at one limit and at all limits, as the code finds them.
use Rattle.std.specs.Prelude.{◌≡◌, Bool, true, false, cond, if◌then◌else◌, Option, None, Some, [], ◌∷◌, ◌++◌, pos, refl}
use Rattle.std.proofs.Common.{◌∙◌, ap, ap₂}
use Rattle.exact_fraction.specs.Number.{is_at_most_ℚ}
use Rattle.exact_law.specs.WrittenRule.{Answer, Yes as ExactYes, No as ExactNo, Unsettled as ExactUnsettled, Span as ExactSpan, compared, both, either, inside_over, guarded_over, near_over, all_over}
use Rattle.decimal18.specs.Bound.{value_of}
use Rattle.decimal18.proofs.Values.{value-whole}
use Rattle.fixed_interval.specs.Interval.{Interval, point_span}
use Rattle.fixed_interval.specs.Rules.{zero_bound, comparison}
use Rattle.fixed_interval.specs.declared.faults.Truth.{Truth}
use Rattle.fixed_interval.specs.declared.faults.Truth.TheVariants.{Yes, No, Unsettled}
use Rattle.guard_band.specs.declared.distances.Distance.{Distance}
use Rattle.guard_band.specs.Statements.{ends_of}
use Rattle.guard_band.specs.Distances.{answer_of, exact_span, exact_spans}

-- spans are compared as their exact ends are
compared_is : (a b : Interval) → answer_of (comparison a b) ≡ compared (ends_of a) (ends_of b)
unfolding comparison compared
compared_is a b = by (is_at_most_ℚ (value_of a.hi) (value_of b.lo)) (is_at_most_ℚ (value_of a.lo) (value_of b.hi)) where
  by : (s t : Bool) → answer_of (if s then Yes else (if t then Unsettled else No)) ≡ cond s ExactYes (cond t ExactUnsettled ExactNo)
  by true t = refl
  by false true = refl
  by false false = refl

pub inside_is : (z : Interval) (inside : Truth) (d : Distance) → z ≡ point_span zero_bound → inside ≡ comparison z d.inside
    → answer_of inside ≡ inside_over (exact_span d)
unfolding inside_over
inside_is z inside d e f =
    ap answer_of f ∙ ap (λ s. answer_of (comparison s d.inside)) e ∙ compared_is (point_span zero_bound) d.inside
    ∙ ap (λ q. compared (record { low = q; high = q }) (ends_of d.inside)) (value-whole (pos 0))

pub guarded_is : (w z : Interval) (inside reach r : Truth) (d : Distance) → z ≡ point_span zero_bound → inside ≡ comparison z d.inside
    → reach ≡ comparison w d.square → answer_of r ≡ both (answer_of inside) (answer_of reach)
    → answer_of r ≡ guarded_over (ends_of w) (exact_span d)
unfolding guarded_over
guarded_is w z inside reach r d e f g h =
    h ∙ ap₂ both (inside_is z inside d e f) (ap answer_of g ∙ compared_is w d.square)

pub near_is : (w z : Interval) (inside near r : Truth) (d : Distance) → z ≡ point_span zero_bound → inside ≡ comparison z d.inside
    → near ≡ comparison d.square w → answer_of r ≡ either (answer_of inside) (answer_of near)
    → answer_of r ≡ near_over (ends_of w) (exact_span d)
unfolding near_over
near_is w z inside near r d e f g h =
    h ∙ ap₂ either (inside_is z inside d e f) (ap answer_of g ∙ compared_is d.square w)

-- ---- all limits
both_yes : (a : Answer) → a ≡ both a ExactYes
unfolding both
both_yes ExactYes = refl
both_yes ExactNo = refl
both_yes ExactUnsettled = refl

pub at_one : (p : ExactSpan → Answer) (s : ExactSpan) → p s ≡ all_over p (s ∷ [])
unfolding all_over
at_one p s = both_yes (p s)

pub at_none : (p : ExactSpan → Answer) → ExactYes ≡ all_over p []
unfolding all_over
at_none p = refl

pub at_both : (p : ExactSpan → Answer) (lower upper : Option Distance)
    → both (all_over p (exact_spans lower)) (all_over p (exact_spans upper)) ≡ all_over p (exact_spans lower ++ exact_spans upper)
unfolding all_over both
at_both p None upper = refl
at_both p (Some d) upper = ap (λ a. both a (all_over p (exact_spans upper))) (both_back (p (exact_span d))) where
  both_back : (a : Answer) → both a ExactYes ≡ a
  both_back ExactYes = refl
  both_back ExactNo = refl
  both_back ExactUnsettled = refl
