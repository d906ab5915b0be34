use Rattle.std.proofs.Common.{◌≡◌, ◌++◌}
use Rattle.script_maker.specs.Draws.{state_after}
use Rattle.script_maker.specs.Scripts.{rounds}
use Rattle.script_maker.proofs.make.put_rounds.Given as goal

abbrev pub invariant-loop-before : goal.invariant-loop-before
invariant-loop-before l = record {
  text : l.text ≡ l.initial.text ++ rounds l.inputs l.rows l.initial.draws.state l.before;
  state : l.draws.state ≡ state_after l.before l.initial.draws.state;
}
