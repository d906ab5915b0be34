use Rattle.std.specs.Prelude.{[], pos, refl}
use Rattle.std.proofs.Common.{ap}
use Rattle.exact_fraction.proofs.Ring.{ring, Whole, ◌:*◌}
use Rattle.exact_law.specs.Law.{part}
use Rattle.exact_law.specs.Degrees.{inverse_degrees}
use Rattle.type_b.specs.declared.shape.Dof.TheVariants.{Whole as WholeDegrees}
use Rattle.type_b.specs.Shapes.{inverse_degrees as stated_inverse}
use Rattle.eff_dof.proofs.group_laws.worked_shares.Goals as goal

pub returns : goal.returns
unfolding part inverse_degrees
returns c =
    ap (λ q. record { part = q; inverse_degrees = stated_inverse (WholeDegrees 5) })
    (ring [] ((Whole (pos 3) :* Whole (pos 3)) :* Whole (pos 4)) (Whole (pos 36)) refl)
