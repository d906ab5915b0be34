use Rattle.std.proofs.Common.{◌≡◌, ◌*◌, ◌++◌}
use Rattle.script_maker.specs.Draws.{state_after}
use Rattle.script_maker.specs.Scripts.{row_lines}
use Rattle.script_maker.proofs.make.put_rows.Given as goal

abbrev pub invariant-loop-before : goal.invariant-loop-before
invariant-loop-before l = record {
  text : l.text ≡ l.initial.text ++ row_lines l.inputs l.initial.draws.state l.before;
  state : l.draws.state ≡ state_after (2 * l.before) l.initial.draws.state;
}
