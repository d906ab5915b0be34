use Rattle.std.proofs.Common.{refl}
use Rattle.std.specs.Fmt.{digits}
use Rattle.script_lines.proofs.worked.worked_replies.Goals as goal

pub returns-clause-fine : goal.returns-clause-fine
unfolding digits
returns-clause-fine c = refl

pub returns-clause-placed : goal.returns-clause-placed
unfolding digits
returns-clause-placed c = refl

pub returns-clause-row : goal.returns-clause-row
unfolding digits
returns-clause-row c = refl

pub returns-clause-zero_k : goal.returns-clause-zero_k
unfolding digits
returns-clause-zero_k c = refl

pub returns-clause-beta : goal.returns-clause-beta
unfolding digits
returns-clause-beta c = refl

pub returns-clause-level : goal.returns-clause-level
unfolding digits
returns-clause-level c = refl

pub returns-clause-dof_range : goal.returns-clause-dof_range
unfolding digits
returns-clause-dof_range c = refl

pub returns-clause-long : goal.returns-clause-long
unfolding digits
returns-clause-long c = refl

pub returns-clause-full : goal.returns-clause-full
unfolding digits
returns-clause-full c = refl

pub returns-clause-used : goal.returns-clause-used
unfolding digits
returns-clause-used c = refl

pub returns-clause-earlier : goal.returns-clause-earlier
unfolding digits
returns-clause-earlier c = refl

pub returns-clause-undo : goal.returns-clause-undo
unfolding digits
returns-clause-undo c = refl

pub returns-clause-redo : goal.returns-clause-redo
unfolding digits
returns-clause-redo c = refl

pub returns-clause-marks : goal.returns-clause-marks
unfolding digits
returns-clause-marks c = refl

pub returns-clause-mark : goal.returns-clause-mark
unfolding digits
returns-clause-mark c = refl

pub returns-clause-result : goal.returns-clause-result
unfolding digits
returns-clause-result c = refl

pub returns-clause-fault : goal.returns-clause-fault
unfolding digits
returns-clause-fault c = refl

pub returns-clause-value : goal.returns-clause-value
unfolding digits
returns-clause-value c = refl

pub returns-clause-no_rows : goal.returns-clause-no_rows
unfolding digits
returns-clause-no_rows c = refl

pub returns-clause-rows : goal.returns-clause-rows
unfolding digits
returns-clause-rows c = refl

pub returns-clause-long_table : goal.returns-clause-long_table
unfolding digits
returns-clause-long_table c = refl

pub returns-clause-open_table : goal.returns-clause-open_table
unfolding digits
returns-clause-open_table c = refl

pub returns-clause-coefficient : goal.returns-clause-coefficient
unfolding digits
returns-clause-coefficient c = refl

pub returns-clause-few : goal.returns-clause-few
unfolding digits
returns-clause-few c = refl

pub returns-clause-many : goal.returns-clause-many
unfolding digits
returns-clause-many c = refl

pub returns-clause-shape : goal.returns-clause-shape
unfolding digits
returns-clause-shape c = refl

pub returns-clause-wide : goal.returns-clause-wide
unfolding digits
returns-clause-wide c = refl

pub returns-clause-no_correlation : goal.returns-clause-no_correlation
unfolding digits
returns-clause-no_correlation c = refl

pub returns-clause-correlated : goal.returns-clause-correlated
unfolding digits
returns-clause-correlated c = refl

pub returns-clause-table : goal.returns-clause-table
unfolding digits
returns-clause-table c = refl

pub returns-clause-sensitivity : goal.returns-clause-sensitivity
unfolding digits
returns-clause-sensitivity c = refl

pub returns-clause-law_fault : goal.returns-clause-law_fault
unfolding digits
returns-clause-law_fault c = refl

pub returns-clause-query_level : goal.returns-clause-query_level
unfolding digits
returns-clause-query_level c = refl

pub returns-clause-guard : goal.returns-clause-guard
unfolding digits
returns-clause-guard c = refl

pub returns-clause-limits : goal.returns-clause-limits
unfolding digits
returns-clause-limits c = refl
