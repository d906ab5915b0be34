use Rattle.std.proofs.Common.{rules}
use Rattle.std.specs.Prelude.{refl}
use Rattle.round_out.proofs.Scaling.{scale_left}
use Rattle.round_out.proofs.scale.place_of.Goals as goal

pub returns-clause-place : goal.returns-clause-place
returns-clause-place c = λ v h. record {
  scale = scale_left v c.args.scale _ c.loop-unit.turns h c.requires.unit refl c.loop-unit.invariant.unit (search rules);
  low = search rules;
  high = search rules;
}
