use Rattle.sheet_model.proofs.Budgeted.{names_are_inputs, names_are_there, variances_enclose, groups_are_named}
use Rattle.sheet_model.proofs.laws.budgets_have_the_inputs_and_the_groups.Goals as goal

pub returns : goal.returns
returns c = record {
  inputs = names_are_inputs;
  there = names_are_there;
  enclosed = variances_enclose;
  groups = groups_are_named;
}
