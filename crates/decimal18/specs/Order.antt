-- The order of decimal numbers.
use Rattle.std.specs.Prelude.{if◌then◌else◌}
use Rattle.std.specs.declared.cmp.Ordering.{Ordering}
use Rattle.std.specs.declared.cmp.Ordering.TheVariants.{Less, Equal, Greater}
use Rattle.std.specs.Ordering.{nat_cmp, int_cmp, on, then_cmp}
use Rattle.exact_fraction.specs.Number.{ℚ, is_at_most_ℚ}
use Rattle.decimal18.specs.Bound.{Bound, value_of}

-- how x compares with y
unfoldable pub compare_ℚ : ℚ → ℚ → Ordering
compare_ℚ x y = if is_at_most_ℚ x y then (if is_at_most_ℚ y x then Equal else Less) else Greater

-- the order by value; where two forms of one value are not both canonical, their digits tell them apart
unfoldable pub order : Bound → Bound → Ordering
order = then_cmp (on value_of compare_ℚ) (then_cmp (on (λ b. b.coefficient) int_cmp) (on (λ b. b.places) nat_cmp))
