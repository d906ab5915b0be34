use Rattle.fixed_interval.proofs.Sums.{sum_encloses, sum_of-append}
use Rattle.fixed_interval.proofs.laws.sums_enclose.Goals as goal

pub returns : goal.returns
returns c = record { encloses = sum_encloses; goes_on = sum_of-append }
