use Rattle.std.proofs.Common.{refl}
use Rattle.csv.proofs.OnLiterals.{csv_on_literals}
use Rattle.decimal18.specs.Literal.{parsed}
use Rattle.type_a.specs.Tables.{refusal}
use Rattle.table_records.specs.Tables.{records_read}
use Rattle.row_text.specs.Tables.{table_read}
use Rattle.row_text.proofs.worked.worked_tables.Goals as goal

pub returns-clause-row : goal.returns-clause-row
unfolding csv_on_literals table_read records_read parsed refusal
returns-clause-row c = refl

pub returns-clause-set : goal.returns-clause-set
unfolding csv_on_literals table_read records_read parsed refusal
returns-clause-set c = refl

pub returns-clause-shape : goal.returns-clause-shape
unfolding csv_on_literals table_read records_read parsed refusal
returns-clause-shape c = refl

pub returns-clause-header : goal.returns-clause-header
unfolding csv_on_literals table_read records_read parsed refusal
returns-clause-header c = refl

pub returns-clause-number : goal.returns-clause-number
unfolding csv_on_literals table_read records_read parsed refusal
returns-clause-number c = refl

pub returns-clause-range : goal.returns-clause-range
unfolding csv_on_literals table_read records_read parsed refusal
returns-clause-range c = refl

pub returns-clause-empty : goal.returns-clause-empty
unfolding csv_on_literals table_read records_read parsed refusal
returns-clause-empty c = refl

pub returns-clause-one : goal.returns-clause-one
unfolding csv_on_literals table_read records_read parsed refusal
returns-clause-one c = refl

pub returns-clause-wide : goal.returns-clause-wide
unfolding csv_on_literals table_read records_read parsed refusal
returns-clause-wide c = refl

pub returns-clause-wide_by_places : goal.returns-clause-wide_by_places
unfolding csv_on_literals table_read records_read parsed refusal
returns-clause-wide_by_places c = refl

pub returns-clause-number_first : goal.returns-clause-number_first
unfolding csv_on_literals table_read records_read parsed refusal
returns-clause-number_first c = refl

pub returns-clause-no_name : goal.returns-clause-no_name
unfolding csv_on_literals table_read records_read parsed refusal
returns-clause-no_name c = refl

pub returns-clause-name : goal.returns-clause-name
unfolding csv_on_literals table_read records_read parsed refusal
returns-clause-name c = refl

pub returns-clause-word_more : goal.returns-clause-word_more
unfolding csv_on_literals table_read records_read parsed refusal
returns-clause-word_more c = refl

pub returns-clause-other_word : goal.returns-clause-other_word
unfolding csv_on_literals table_read records_read parsed refusal
returns-clause-other_word c = refl

pub returns-clause-line_first : goal.returns-clause-line_first
unfolding csv_on_literals table_read records_read parsed refusal
returns-clause-line_first c = refl
