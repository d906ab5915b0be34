use Rattle.std.specs.Prelude.{◌≡◌, ◌+◌, ◌*◌, ◌≤◌, ◌++◌, drop}
use Rattle.std.specs.Option.{option_map}
use Rattle.budget_table.specs.Budgets.{input_lines}
use Rattle.budget_table.proofs.table.put_inputs.Given as goal

abbrev pub invariant-loop-input : goal.invariant-loop-input
invariant-loop-input g l = record {
  found : option_map (λ more. l.lines ++ more) (input_lines (drop l.input-index l.inputs)) ≡ option_map (λ more. l.initial.lines ++ more) (input_lines l.inputs);
  ticks : l.steps ≤ l.fn.steps + 2 * l.input-index;
}
