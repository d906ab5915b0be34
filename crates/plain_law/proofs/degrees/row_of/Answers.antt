use Rattle.exact_law.specs.Degrees.{row_of, row, first_row, later_rows}
use Rattle.plain_law.proofs.degrees.row_of.Goals as goal

pub returns-in-Finite-clause-row : goal.returns-in-Finite-clause-row
unfolding row_of row first_row later_rows
returns-in-Finite-clause-row c = rw c.in-Finite.is c.row_at.ensures
