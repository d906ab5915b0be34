use Rattle.exact_law.proofs.RoundingLaws.{floor-between, at_place-between, two_digits-between, hundredths-between}
use Rattle.exact_law.proofs.what_the_ends_round_to_all_between_do.Goals as goal

pub returns : goal.returns
returns c = record {
  whole_part = floor-between;
  estimate = at_place-between;
  two_digits = two_digits-between;
  hundredths = hundredths-between;
}
