-- A variance as the code holds it: so many squared units of a decimal place.
use Rattle.std.specs.Prelude.{◌≡◌, ◌*◌, ◌≤◌, ◌<◌, pos}
use Rattle.exact_fraction.specs.Number.{ℚ, of_ℤ, ◌*ℚ◌}
use Rattle.exact_law.specs.Rounding.{ten_to}
use Rattle.round_out.specs.declared.scale.Scale.{Scale}

-- 400 v is size / unit squares of the place
pub record IsScale (v : ℚ) (s : Scale) : Type 0 where
  pub positive : 0 < s.unit
  pub same : of_ℤ (pos s.size) *ℚ (ten_to s.exponent *ℚ ten_to s.exponent) ≡ (of_ℤ (pos 400) *ℚ v) *ℚ of_ℤ (pos s.unit)

-- the root of v, in twentieths, has two digits at the place
pub record IsPlace (v : ℚ) (s : Scale) : Type 0 where
  pub scale : IsScale v s
  pub low : 199 * 199 * s.unit ≤ s.size
  pub high : s.size < 1990 * 1990 * s.unit
