use Rattle.std.proofs.Common.{◌≡◌, ◌≤◌, ◌-◌, ℕ, List, [], length, take, drop}
use Rattle.script_lines.specs.Items.{Inside}
use Rattle.script_lines.specs.Yields.{Yields}
use Rattle.script_lines.proofs.first.block_lines.Given as goal

abbrev pub invariant-lines : goal.invariant-lines
invariant-lines l = record {
  within : l.at ≤ length l.text;
  rest : l.rest ≡ drop l.at l.text;
  inside : (head : List ℕ) → Yields (Inside head []) l.text [] (Inside head (take l.at l.text)) (drop l.at l.text);
}

abbrev pub decreases-lines : goal.decreases-lines
decreases-lines l = length l.text - l.at
