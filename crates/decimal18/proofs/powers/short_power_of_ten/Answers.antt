use Rattle.std.proofs.Common.{arith, refl}
use Rattle.decimal18.specs.declared.powers.TheConstants.{POWERS}
use Rattle.decimal18.proofs.PowerTable.{power_at, power_above}
use Rattle.decimal18.proofs.powers.short_power_of_ten.Goals as goal

pub returns-clause-value : goal.returns-clause-value
returns-clause-value c = power_at POWERS 0 c.args.exponent c.args.exponent refl (omega arith) (omega arith)

pub returns-clause-positive : goal.returns-clause-positive
returns-clause-positive c = power_above _ c.args.exponent (returns-clause-value c)
