use Rattle.std.proofs.Common.{arith, refl, ◌-◌}
use Rattle.decimal18.specs.declared.powers.TheConstants.{WIDE_POWERS}
use Rattle.decimal18.proofs.PowerTable.{power_at, power_above}
use Rattle.decimal18.proofs.powers.power_of_ten.Goals as goal

pub returns-else-exponent-lt20-clause-value : goal.returns-else-exponent-lt20-clause-value
returns-else-exponent-lt20-clause-value c = power_at WIDE_POWERS 20 (c.args.exponent - 20) c.args.exponent refl (omega arith) (omega arith)

pub returns-else-exponent-lt20-clause-positive : goal.returns-else-exponent-lt20-clause-positive
returns-else-exponent-lt20-clause-positive c = power_above _ c.args.exponent (returns-else-exponent-lt20-clause-value c)
