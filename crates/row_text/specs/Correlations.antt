-- What the words after `corr` are as a correlation of the estimates of two inputs (JCGM 100:2008, 5.2.2): its name,
-- the names of the inputs and their correlation coefficient. Only when all words are read is it looked at whether the
-- coefficient is from -1 to 1.
use Rattle.std.specs.Prelude.{ℕ, if◌then◌else◌, List, Ok, Err}
use Rattle.decimal18.specs.Bound.{Bound}
use Rattle.line_text.specs.Words.{Word}
use Rattle.sheet_rows.specs.Rows.{Row, Correlation}
use Rattle.sheet_rows.specs.Regular.{is_coefficient}
use Rattle.sheet_rows.specs.declared.fault.RowFault.TheVariants.{RRange}
use Rattle.row_text.specs.Parts.{Read, then_read, plain_word, name_word, number_word, ended}

abbrev pub coefficient_checked : Bound → Read Bound
coefficient_checked number = if is_coefficient number then Ok number else Err RRange

-- `NAME FIRST SECOND COEFFICIENT`
abbrev pub corr_of : ℕ → List Word → Read Row
corr_of end ws =
    then_read (plain_word end ws) (λ name.
    then_read (name_word end name.rest) (λ first.
    then_read (name_word end first.rest) (λ second.
    then_read (number_word end second.rest) (λ number.
    then_read (ended number.rest) (λ done.
    then_read (coefficient_checked number.item) (λ coefficient.
    Ok (Correlation name.item first.item second.item coefficient)))))))
