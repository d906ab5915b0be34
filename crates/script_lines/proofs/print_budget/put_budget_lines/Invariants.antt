use Rattle.std.proofs.Common.{◌≡◌, ◌++◌, drop}
use Rattle.script_lines.specs.Texts.{text_of_budget_lines}
use Rattle.script_lines.proofs.print_budget.put_budget_lines.Given as goal

abbrev pub invariant-loop-line : goal.invariant-loop-line
invariant-loop-line l = record {
  written : l.text ++ text_of_budget_lines (drop l.line-index l.lines) ≡ l.fn.text ++ text_of_budget_lines l.lines;
}
