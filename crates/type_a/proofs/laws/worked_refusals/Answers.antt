use Rattle.std.specs.Prelude.{refl}
use Rattle.type_a.specs.Tables.{refusal}
use Rattle.type_a.proofs.laws.worked_refusals.Goals as goal

pub returns-clause-two : goal.returns-clause-two
unfolding refusal
returns-clause-two c = refl

pub returns-clause-thousand : goal.returns-clause-thousand
unfolding refusal
returns-clause-thousand c = refl

pub returns-clause-eight : goal.returns-clause-eight
unfolding refusal
returns-clause-eight c = refl

pub returns-clause-nothing : goal.returns-clause-nothing
unfolding refusal
returns-clause-nothing c = refl

pub returns-clause-one : goal.returns-clause-one
unfolding refusal
returns-clause-one c = refl

pub returns-clause-thousand_and_one : goal.returns-clause-thousand_and_one
unfolding refusal
returns-clause-thousand_and_one c = refl

pub returns-clause-empty : goal.returns-clause-empty
unfolding refusal
returns-clause-empty c = refl

pub returns-clause-nine : goal.returns-clause-nine
unfolding refusal
returns-clause-nine c = refl

pub returns-clause-other_length : goal.returns-clause-other_length
unfolding refusal
returns-clause-other_length c = refl

pub returns-clause-great : goal.returns-clause-great
unfolding refusal
returns-clause-great c = refl

pub returns-clause-fine : goal.returns-clause-fine
unfolding refusal
returns-clause-fine c = refl

pub returns-clause-all_fine : goal.returns-clause-all_fine
unfolding refusal
returns-clause-all_fine c = refl

pub returns-clause-finest_of_all : goal.returns-clause-finest_of_all
unfolding refusal
returns-clause-finest_of_all c = refl

pub returns-clause-second_column : goal.returns-clause-second_column
unfolding refusal
returns-clause-second_column c = refl
