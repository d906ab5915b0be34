use Rattle.std.proofs.Common.{refl}
use Rattle.csv.proofs.OnLiterals.{csv_on_literals}
use Rattle.decimal18.specs.Literal.{parsed}
use Rattle.table_records.specs.Tables.{records_read}
use Rattle.table_records.proofs.laws.worked_tables.Goals as goal

pub returns-clause-rows : goal.returns-clause-rows
unfolding csv_on_literals parsed records_read
returns-clause-rows c = refl

pub returns-clause-no_rows : goal.returns-clause-no_rows
unfolding csv_on_literals parsed records_read
returns-clause-no_rows c = refl

pub returns-clause-blanks : goal.returns-clause-blanks
unfolding csv_on_literals parsed records_read
returns-clause-blanks c = refl

pub returns-clause-quotes : goal.returns-clause-quotes
unfolding csv_on_literals parsed records_read
returns-clause-quotes c = refl

pub returns-clause-digit_after_quotes : goal.returns-clause-digit_after_quotes
unfolding csv_on_literals parsed records_read
returns-clause-digit_after_quotes c = refl

pub returns-clause-open_quote : goal.returns-clause-open_quote
unfolding csv_on_literals parsed records_read
returns-clause-open_quote c = refl

pub returns-clause-mark : goal.returns-clause-mark
unfolding csv_on_literals parsed records_read
returns-clause-mark c = refl

pub returns-clause-empty_lines : goal.returns-clause-empty_lines
unfolding csv_on_literals parsed records_read
returns-clause-empty_lines c = refl

pub returns-clause-returns : goal.returns-clause-returns
unfolding csv_on_literals parsed records_read
returns-clause-returns c = refl

pub returns-clause-eight : goal.returns-clause-eight
unfolding csv_on_literals parsed records_read
returns-clause-eight c = refl

pub returns-clause-longest : goal.returns-clause-longest
unfolding csv_on_literals parsed records_read
returns-clause-longest c = refl
