use Rattle.std.specs.Prelude.{pos, ◌/◌}
use Rattle.std.proofs.Common.{ap, ap₂, ◌∙◌, rules}
use Rattle.std.proofs.Math.Nat.{one-le-pow}
use Rattle.std.proofs.Math.Dec.{lit≤}
use Rattle.table_g2.proofs.WholePart.{power_fits, whole_part_is}
use Rattle.table_g2.proofs.whole.whole_part.Goals as goal

pub pow-power-requires : goal.pow-power-requires
pow-power-requires c = power_fits c.places.result c.places.ensures.most

pub nonzero_div-result : goal.nonzero_div-result
nonzero_div-result c = rw c.pow-power.ensures (one-le-pow c.places.result 10 (lit≤ tt))

pub returns : goal.returns
returns c =
    whole_part_is c.args.number c.requires
    ∙ ap pos (ap₂ (λ n m. n / m) (search rules) (search rules))
