use Rattle.decimal18.proofs.LiteralBound.{tight}
use Rattle.decimal18.proofs.literal_laws.digits_and_power_decide_bounds.Goals as goal

pub returns : goal.returns
returns c = tight
