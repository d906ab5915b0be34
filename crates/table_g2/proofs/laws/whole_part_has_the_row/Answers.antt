use Rattle.table_g2.proofs.Rows.{row_of-floor}
use Rattle.table_g2.proofs.laws.whole_part_has_the_row.Goals as goal

pub returns : goal.returns
returns c = row_of-floor
