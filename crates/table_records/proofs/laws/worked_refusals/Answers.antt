use Rattle.std.proofs.Common.{refl}
use Rattle.csv.proofs.OnLiterals.{csv_on_literals}
use Rattle.decimal18.specs.Literal.{parsed}
use Rattle.table_records.specs.Tables.{records_read}
use Rattle.table_records.proofs.laws.worked_refusals.Goals as goal

pub returns-clause-nothing : goal.returns-clause-nothing
unfolding csv_on_literals parsed records_read
returns-clause-nothing c = refl

pub returns-clause-mark : goal.returns-clause-mark
unfolding csv_on_literals parsed records_read
returns-clause-mark c = refl

pub returns-clause-empty_lines : goal.returns-clause-empty_lines
unfolding csv_on_literals parsed records_read
returns-clause-empty_lines c = refl

pub returns-clause-end_of_table : goal.returns-clause-end_of_table
unfolding csv_on_literals parsed records_read
returns-clause-end_of_table c = refl

pub returns-clause-quoted_end : goal.returns-clause-quoted_end
unfolding csv_on_literals parsed records_read
returns-clause-quoted_end c = refl

pub returns-clause-empty_name : goal.returns-clause-empty_name
unfolding csv_on_literals parsed records_read
returns-clause-empty_name c = refl

pub returns-clause-twice : goal.returns-clause-twice
unfolding csv_on_literals parsed records_read
returns-clause-twice c = refl

pub returns-clause-nine : goal.returns-clause-nine
unfolding csv_on_literals parsed records_read
returns-clause-nine c = refl

pub returns-clause-too_long : goal.returns-clause-too_long
unfolding csv_on_literals parsed records_read
returns-clause-too_long c = refl

pub returns-clause-qualified : goal.returns-clause-qualified
unfolding csv_on_literals parsed records_read
returns-clause-qualified c = refl

pub returns-clause-header_first : goal.returns-clause-header_first
unfolding csv_on_literals parsed records_read
returns-clause-header_first c = refl

pub returns-clause-fewer : goal.returns-clause-fewer
unfolding csv_on_literals parsed records_read
returns-clause-fewer c = refl

pub returns-clause-more : goal.returns-clause-more
unfolding csv_on_literals parsed records_read
returns-clause-more c = refl

pub returns-clause-shape_first : goal.returns-clause-shape_first
unfolding csv_on_literals parsed records_read
returns-clause-shape_first c = refl

pub returns-clause-one_by_one : goal.returns-clause-one_by_one
unfolding csv_on_literals parsed records_read
returns-clause-one_by_one c = refl

pub returns-clause-not_number_first : goal.returns-clause-not_number_first
unfolding csv_on_literals parsed records_read
returns-clause-not_number_first c = refl

pub returns-clause-range_first : goal.returns-clause-range_first
unfolding csv_on_literals parsed records_read
returns-clause-range_first c = refl

pub returns-clause-blanks : goal.returns-clause-blanks
unfolding csv_on_literals parsed records_read
returns-clause-blanks c = refl

pub returns-clause-comma_in_quotes : goal.returns-clause-comma_in_quotes
unfolding csv_on_literals parsed records_read
returns-clause-comma_in_quotes c = refl

pub returns-clause-line_feed_in_quotes : goal.returns-clause-line_feed_in_quotes
unfolding csv_on_literals parsed records_read
returns-clause-line_feed_in_quotes c = refl

pub returns-clause-no_comments : goal.returns-clause-no_comments
unfolding csv_on_literals parsed records_read
returns-clause-no_comments c = refl

pub returns-clause-empty_lines_count_not : goal.returns-clause-empty_lines_count_not
unfolding csv_on_literals parsed records_read
returns-clause-empty_lines_count_not c = refl

pub returns-clause-no_columns : goal.returns-clause-no_columns
returns-clause-no_columns c = refl
