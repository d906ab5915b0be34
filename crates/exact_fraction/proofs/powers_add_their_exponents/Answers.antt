use Rattle.exact_fraction.proofs.PowerLaws.{power-zero, power-one, power-+, whole_power-pos, whole_power-negsuc}
use Rattle.exact_fraction.proofs.powers_add_their_exponents.Goals as goal

pub returns : goal.returns
returns c = record {
  zeroth = power-zero;
  first = power-one;
  sum = power-+;
  whole = whole_power-pos;
  negative = whole_power-negsuc;
}
