use Rattle.std.specs.Prelude.{◌+◌, ◌++◌, drop}
use Rattle.std.proofs.Common.{rules, arith, sym, ◌∙◌, ap}
use Rattle.std.specs.Option.{option_map}
use Rattle.budget_table.specs.Budgets.{input_lines}
use Rattle.budget_table.proofs.Lines.{lines-next}
use Rattle.budget_table.proofs.table.put_inputs.Goals as goal

pub loop-input-preserved : goal.loop-input-preserved
loop-input-preserved g c = record {
  found = ap (λ ls. option_map (λ more. ls ++ more) (input_lines (drop (c.loop-input.input-index + 1) c.args.inputs.now))) (search rules)
      ∙ lines-next c.loop-input.lines c.in-Ok.line c.args.inputs.now c.loop-input.input-index c.input-item.result
      (search rules) (sym c.input-item.is) (search rules)
      ∙ c.loop-input.invariant.found;
  ticks = omega (arith, c.loop-input.invariant.ticks, c.input_line.ensures.ticks);
}
