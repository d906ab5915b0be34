use Rattle.exact_law.proofs.NoValues.{input_has_value, no_quantity, cyclic_no_value}
use Rattle.exact_law.proofs.keys_without_a_value.Goals as goal

pub returns : goal.returns
returns g c = record {
  input = input_has_value;
  no_quantity = no_quantity;
  in_a_cycle = cyclic_no_value;
}
