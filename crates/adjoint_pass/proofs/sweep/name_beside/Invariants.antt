use Rattle.std.proofs.Common.{◌≡◌, drop}
use Rattle.adjoint_pass.specs.Gathering.{name_beside}
use Rattle.adjoint_pass.proofs.sweep.name_beside.Given as goal

abbrev pub invariant-loop-at : goal.invariant-loop-at
invariant-loop-at l = name_beside (drop l.at l.fn.names) (drop l.at l.fn.ids) l.fn.n ≡ name_beside l.fn.names l.fn.ids l.fn.n
