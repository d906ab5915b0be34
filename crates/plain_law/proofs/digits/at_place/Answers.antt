use Rattle.std.proofs.Common.{◌≡◌, ◌∙◌, ap, refl}
use Rattle.std.specs.Int.{w32}
use Rattle.std.proofs.lemmas.Int.{to_z-of_z}
use Rattle.exact_fraction.specs.Number.{of_ℤ, floor_ℚ}
use Rattle.exact_law.specs.Rounding.{at_place}
use Rattle.plain_law.proofs.digits.at_place.Goals as goal

pub returns : goal.returns
unfolding at_place
returns c =
    let e : c.in_ok-place.place.exponent ≡ c.args.exponent = c.in_ok-place.ensures.exponent ∙ to_z-of_z w32 c.args.exponent c.ranges.exponent in
    c.floor.ensures ∙ ap (λ t. of_ℤ (floor_ℚ t))
    (rw (c.in_ok-plus.ensures, c.in_ok-half.ensures.quotient, c.in_ok-over.ensures.quotient, c.in_ok-place.ensures.unit.unit, e) refl)
