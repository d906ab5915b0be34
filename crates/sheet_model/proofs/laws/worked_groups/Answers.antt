use Rattle.std.proofs.Common.{refl}
use Rattle.exact_law.specs.Law.{inputs_of, inputs_with}
use Rattle.sheet_model.proofs.laws.worked_groups.Goals as goal

pub returns-clause-inputs : goal.returns-clause-inputs
unfolding inputs_of inputs_with
returns-clause-inputs c = refl

pub returns-clause-groups : goal.returns-clause-groups
returns-clause-groups c = refl
