use Rattle.std.proofs.Common.{◌≡◌, ◌≤◌, drop}
use Rattle.std.specs.Prelude.{max}
use Rattle.type_a.specs.Tables.{places_in}
use Rattle.type_a.proofs.checks.places_in.Given as goal

abbrev pub invariant-loop-d : goal.invariant-loop-d
invariant-loop-d l = record {
  rest : max l.places (places_in (drop l.d-index l.row)) ≡ places_in l.row;
  most : l.places ≤ 36;
}
