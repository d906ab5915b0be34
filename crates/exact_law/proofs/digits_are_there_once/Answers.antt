use Rattle.exact_law.proofs.RoundingLaws.{two_digits-unique, hundredths-unique}
use Rattle.exact_law.proofs.Digits.{two_digits-exist}
use Rattle.exact_law.proofs.DigitLaws.{digits-exist, digits-unique}
use Rattle.exact_law.proofs.Hundredths.{hundredths-exist, correlation-unique}
use Rattle.exact_law.proofs.Nearest.{two_digits-steps}
use Rattle.exact_law.proofs.digits_are_there_once.Goals as goal

pub returns : goal.returns
returns c = record {
  two_digits = two_digits-exist;
  one_pair = two_digits-unique;
  digits = digits-exist;
  one_digits = digits-unique;
  two_steps = two_digits-steps;
  hundredths = hundredths-exist;
  one_hundredths = hundredths-unique;
  of_variances = λ c v w d h. (h.first, h.second);
  one_correlation = correlation-unique;
}
