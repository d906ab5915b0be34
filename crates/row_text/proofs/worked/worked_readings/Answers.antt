use Rattle.std.proofs.Common.{refl}
use Rattle.decimal18.specs.Literal.{parsed}
use Rattle.type_a.specs.Tables.{refusal}
use Rattle.row_text.specs.Reading.{row_read}
use Rattle.row_text.proofs.worked.worked_readings.Goals as goal

pub returns-clause-row : goal.returns-clause-row
unfolding row_read parsed refusal
returns-clause-row c = refl

pub returns-clause-none : goal.returns-clause-none
unfolding row_read parsed refusal
returns-clause-none c = refl

pub returns-clause-one : goal.returns-clause-one
unfolding row_read parsed refusal
returns-clause-one c = refl

pub returns-clause-few_first : goal.returns-clause-few_first
unfolding row_read parsed refusal
returns-clause-few_first c = refl

pub returns-clause-wide : goal.returns-clause-wide
unfolding row_read parsed refusal
returns-clause-wide c = refl

pub returns-clause-wide_by_places : goal.returns-clause-wide_by_places
unfolding row_read parsed refusal
returns-clause-wide_by_places c = refl

pub returns-clause-number_first : goal.returns-clause-number_first
unfolding row_read parsed refusal
returns-clause-number_first c = refl

pub returns-clause-range_first : goal.returns-clause-range_first
unfolding row_read parsed refusal
returns-clause-range_first c = refl

pub returns-clause-name : goal.returns-clause-name
unfolding row_read parsed refusal
returns-clause-name c = refl

pub returns-clause-no_name : goal.returns-clause-no_name
unfolding row_read parsed refusal
returns-clause-no_name c = refl
