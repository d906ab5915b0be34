-- Statements of conformity: what spans decide is what is said, and it is asked where it means something.
use Rattle.std.specs.Prelude.{◌≡◌, ℕ, pos, List, Option, Some, None, option_map, Ok, Err, refl}
use Rattle.std.specs.Option.{ok_or}
use Rattle.std.proofs.Common.{sym, ◌∙◌, ap, arith}
use Rattle.std.proofs.lemmas.Int.{ints}
use Rattle.exact_fraction.specs.Number.{of_ℤ, ◌≤ℚ◌, ◌<ℚ◌}
use Rattle.exact_fraction.specs.NumberLaws.{≤ℚ_refl, ≤ℚ_trans, ≤ℚ_same}
use Rattle.exact_fraction.proofs.Strict.{<ℚ-≤ℚ}
use Rattle.exact_law.specs.Degrees.{Degrees, NoDegrees, InfiniteDegrees, FiniteDegrees, thousandths, factor, row_of, infinite_row, row}
use Rattle.exact_law.specs.WrittenRule.{Statement, Decision as ExactDecision, Stated, Undecided as UndecidedAt, Pass as ExactPass, ConditionalPass as ExactConditionalPass, ConditionalFail as ExactConditionalFail, Fail as ExactFail}
use Rattle.exact_law.proofs.FactorLaws.{factor-infinite}
use Rattle.decimal18.specs.Bound.{value_of}
use Rattle.fixed_interval.specs.Interval.{Interval}
use Rattle.fixed_interval.specs.declared.faults.Overflow.{Overflow}
use Rattle.round_out.proofs.Tens.{above_zero}
use Rattle.table_g2.specs.Factors.{column, factor_bound, factor_span}
use Rattle.table_g2.specs.declared.known.Level.{Level}
use Rattle.table_g2.specs.declared.known.Level.TheVariants.{L95, L9545, L99}
use Rattle.table_g2.specs.declared.known.Nu.{Nu}
use Rattle.table_g2.specs.declared.known.Nu.TheVariants.{None as NoNu, Infinite, Range}
use Rattle.table_g2.proofs.Enclosed.{factor_value}
use Rattle.guard_band.specs.Statements.{decision_of, decision_over, IsAnswer}
use Rattle.guard_band.specs.declared.rule.Condition.TheVariants.{Guarded, Inside, Near}
use Rattle.guard_band.specs.declared.rule.Rule.{Rule}
use Rattle.guard_band.specs.declared.rule.Said.{Said}
use Rattle.guard_band.specs.declared.rule.Said.TheVariants.{Pass, ConditionalPass, ConditionalFail, Fail, Undecided}
use Rattle.edit_session.specs.Replies.{OutOfRange, in_range, rule_by, said_of, statement_by}

-- ---- factors are above 0
infinite_above : (level : Level) → of_ℤ (pos 0) <ℚ value_of (factor_bound level InfiniteDegrees)
unfolding thousandths row_of infinite_row row
infinite_above L95 = above_zero _ (λ h. omega (arith, ints, h))
infinite_above L9545 = above_zero _ (λ h. omega (arith, ints, h))
infinite_above L99 = above_zero _ (λ h. omega (arith, ints, h))

infinite_least : (level : Level) (d : Degrees) → factor (column level) InfiniteDegrees ≤ℚ factor (column level) d
unfolding factor row_of
infinite_least level NoDegrees = ≤ℚ_refl _
infinite_least level InfiniteDegrees = ≤ℚ_refl _
infinite_least level (FiniteDegrees x) = factor-infinite (column level) x

bound_above : (level : Level) (d : Degrees) → of_ℤ (pos 0) <ℚ value_of (factor_bound level d)
bound_above level d =
    <ℚ-≤ℚ _ _ _ (infinite_above level)
    (≤ℚ_trans _ _ _ (≤ℚ_same _ _ (factor_value level InfiniteDegrees)) (≤ℚ_trans _ _ _ (infinite_least level d) (≤ℚ_same _ _ (sym (factor_value level d)))))

pub factor_above : (nu : Nu) (level : Level) → of_ℤ (pos 0) <ℚ value_of (factor_span nu level).lo
factor_above NoNu level = bound_above level NoDegrees
factor_above Infinite level = bound_above level InfiniteDegrees
factor_above (Range lo None) level = bound_above level InfiniteDegrees
factor_above (Range lo (Some hi)) level = bound_above level (FiniteDegrees (value_of hi))

-- ---- what is said
said_again : (said : Said) → said_of (decision_of said) ≡ said
said_again Pass = refl
said_again ConditionalPass = refl
said_again ConditionalFail = refl
said_again Fail = refl
said_again (Undecided Guarded) = refl
said_again (Undecided Inside) = refl
said_again (Undecided Near) = refl

-- the code's answer is what is said
pub statement_found : (rule : Rule) (value v k : Interval) (said : Said) → IsAnswer {U = ExactDecision} decision_of (decision_over rule value v k) (Ok said)
    → statement_by rule value v k ≡ Ok said
statement_found rule value v k said e = ap (λ o. in_range (ok_or (option_map said_of o) (record {}))) e ∙ ap Ok (said_again said)

pub statement_overflows : (rule : Rule) (value v k : Interval) (fault : Overflow)
    → IsAnswer {U = ExactDecision} decision_of (decision_over rule value v k) (Err fault) → statement_by rule value v k ≡ Err OutOfRange
statement_overflows rule value v k fault e = ap (λ o. in_range (ok_or (option_map said_of o) (record {}))) e

-- a statement that is said is the one that is decided
stated_again : (d : ExactDecision) (s : Statement) → decision_of (said_of d) ≡ Stated s → d ≡ Stated s
stated_again (Stated ExactPass) s e = e
stated_again (Stated ExactConditionalPass) s e = e
stated_again (Stated ExactConditionalFail) s e = e
stated_again (Stated ExactFail) s e = e
stated_again (UndecidedAt n) s e = absurd (cc)

pub decided_by : (rule : Rule) (value v k : Interval) (said : Said) → statement_by rule value v k ≡ Ok said → (s : Statement) → decision_of said ≡ Stated s
    → decision_over rule value v k ≡ Some (Stated s)
decided_by rule value v k said e s f = by (decision_over rule value v k) e where
  by : (o : Option ExactDecision) → in_range (ok_or (option_map said_of o) (record {})) ≡ Ok said → o ≡ Some (Stated s)
  by None g = absurd (cc)
  by (Some d) g =
      let same : said_of d ≡ said = cc in
      ap Some (stated_again d s (ap decision_of same ∙ f))

-- ---- the rule of a tolerance
pub rule_found : (t : List ℕ) (o : Option Rule) (rule : Rule) → rule_by t o ≡ Ok rule → o ≡ Some rule
rule_found t None rule e = absurd (cc)
rule_found t (Some other) rule e =
    let same : other ≡ rule = cc in
    ap Some same
