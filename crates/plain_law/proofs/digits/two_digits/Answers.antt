use Rattle.exact_fraction.proofs.Quotients.{is_zero_ℚ-≡}
use Rattle.exact_law.specs.Rounding.{AreDigitsOf}
use Rattle.plain_law.proofs.digits.two_digits.Goals as goal

pub returns-then-is_zero-clause-digits : goal.returns-then-is_zero-clause-digits
unfolding AreDigitsOf
returns-then-is_zero-clause-digits c = is_zero_ℚ-≡ _ (cc)
