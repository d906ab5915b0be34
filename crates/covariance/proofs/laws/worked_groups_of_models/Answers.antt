use Rattle.std.specs.Prelude.{nat_eq, pos, refl}
use Rattle.exact_fraction.specs.Number.{of_ℤ}
use Rattle.std.proofs.lemmas.Bool.{false≢true}
use Rattle.exact_law.specs.Model.{keys, absent, once, body_of}
use Rattle.exact_law.specs.Law.{inputs_of, inputs_with, stand_in, members, all_members}
use Rattle.exact_law.specs.Renaming.{EachOf}
use Rattle.covariance.specs.Models.{IsInput}
use Rattle.covariance.specs.Worked.{standard}
use Rattle.covariance.proofs.laws.worked_groups_of_models.Goals as goal

pub returns-clause-group : goal.returns-clause-group
unfolding keys absent once inputs_of inputs_with stand_in members all_members
returns-clause-group c = record { apart = refl; regular = (refl, tt); parted = record { inputs_in_groups = refl; members_in_inputs = refl } }

pub returns-clause-none : goal.returns-clause-none
unfolding keys absent once inputs_of inputs_with stand_in members all_members
returns-clause-none c h = false≢true h.parted.inputs_in_groups

pub returns-clause-irregular : goal.returns-clause-irregular
returns-clause-irregular c h = absurd (cc)

pub returns-clause-twice : goal.returns-clause-twice
unfolding keys absent once inputs_of inputs_with stand_in members all_members
returns-clause-twice c h = false≢true h.parted.inputs_in_groups

pub returns-clause-one_key : goal.returns-clause-one_key
unfolding keys absent
returns-clause-one_key c h = false≢true h.apart

pub returns-clause-apart : goal.returns-clause-apart
unfolding absent
returns-clause-apart c = refl

pub returns-clause-first_again : goal.returns-clause-first_again
unfolding absent
returns-clause-first_again c = refl

pub returns-clause-second_again : goal.returns-clause-second_again
unfolding absent
returns-clause-second_again c = refl

input : IsInput nat_eq standard 1
unfolding body_of
input = (of_ℤ (pos 5), refl)

formula : ¬ IsInput nat_eq standard 2
unfolding body_of
formula h = absurd (cc h.1)

pub returns-clause-input : goal.returns-clause-input
returns-clause-input c = input

pub returns-clause-formula : goal.returns-clause-formula
returns-clause-formula c = formula

pub returns-clause-members : goal.returns-clause-members
unfolding EachOf
returns-clause-members c = ((input, tt), ((input, tt), tt))

pub returns-clause-other_member : goal.returns-clause-other_member
unfolding EachOf
returns-clause-other_member c h = formula h.1.0.1.0
