use Rattle.std.proofs.Common.{rules}
use Rattle.std.specs.Prelude.{refl}
use Rattle.round_out.proofs.Scaling.{odd_scale, even_scale}
use Rattle.round_out.proofs.scale.scale_of.Goals as goal

pub returns-then-places-eq1-clause-scale : goal.returns-then-places-eq1-clause-scale
returns-then-places-eq1-clause-scale c =
    odd_scale c.args.v c.size_of-size.result c.places.result _ (search rules) (search rules) (search rules) refl refl (search rules)

pub returns-clause-scale : goal.returns-clause-scale
returns-clause-scale c =
    even_scale c.args.v c.size_of-size.result c.places.result _ (search rules) (search rules) (search rules) refl refl (search rules)
