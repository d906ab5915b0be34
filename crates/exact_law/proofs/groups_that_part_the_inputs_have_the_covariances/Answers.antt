use Rattle.exact_law.proofs.Parting.{own_group, between_groups, own_entry, pair_entries, table_entry}
use Rattle.exact_law.proofs.groups_that_part_the_inputs_have_the_covariances.Goals as goal

pub returns : goal.returns
returns g c = record {
  of_the_group = own_group;
  between_groups = between_groups;
  own = own_entry;
  pair = pair_entries;
  table = table_entry;
}
