use Rattle.table_g2.proofs.Worked.{one_to}
use Rattle.table_g2.proofs.tests.from_one.Goals as goal

pub returns : goal.returns
returns c = record { at_least_one = one_to c.whole.result c.whole.ensures; ordered = tt }
