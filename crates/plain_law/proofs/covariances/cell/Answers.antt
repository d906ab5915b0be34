use Rattle.std.proofs.Common.{◌∙◌, ap, ap₂}
use Rattle.std.proofs.lemmas.Option.{IfSome_then}
use Rattle.exact_fraction.specs.Number.{◌*ℚ◌}
use Rattle.exact_law.specs.Law.{cell}
use Rattle.plain_law.specs.Numbers.{number}
use Rattle.plain_law.proofs.covariances.cell.Goals as goal

pub returns : goal.returns
unfolding cell
returns c =
    IfSome_then c.times-2.result c.times-2.ensures
    (λ r e. e ∙ ap (λ x. x *ℚ number c.args.c) (c.in_ok-times.ensures ∙ ap₂ ◌*ℚ◌ c.unit.ensures c.unit-2.ensures))
