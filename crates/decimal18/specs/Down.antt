-- Rounding to a bound, down and up: as relations, and as functions that compute.
use Rattle.std.specs.Prelude.{ℕ, zero, suc, ◌-◌, ◌^◌, ◌&&◌, Bool, nat_lt, if◌then◌else◌, ℤ, pos, neg_ℤ, unsigned_abs, Option, None, Some}
use Rattle.std.specs.Option.{option_map}
use Rattle.exact_fraction.specs.Number.{ℚ, of_ℤ, ◌*ℚ◌, neg_ℚ, ◌≤ℚ◌, is_at_most_ℚ, floor_ℚ}
use Rattle.decimal18.specs.Bound.{Bound, scaled, value_of, canonical, IsBound}

-- b is the greatest bound that is not above x
pub record IsDown (x : ℚ) (b : Bound) : Type 0 where
  pub bound : IsBound b
  pub not_above : value_of b ≤ℚ x
  pub greatest : (c : Bound) → IsBound c → value_of c ≤ℚ x → value_of c ≤ℚ value_of b

-- b is the least bound that is not below x
pub record IsUp (x : ℚ) (b : Bound) : Type 0 where
  pub bound : IsBound b
  pub not_below : x ≤ℚ value_of b
  pub least : (c : Bound) → IsBound c → x ≤ℚ value_of c → value_of b ≤ℚ value_of c

-- the greatest bound of all
abbrev pub top : ℤ
top = pos (10 ^ 18 - 1)

-- x is from the least bound of all to the greatest
pub record IsInRange (x : ℚ) : Type 0 where
  pub low : of_ℤ (neg_ℤ top) ≤ℚ x
  pub high : x ≤ℚ of_ℤ top

-- the test of `IsInRange`
unfoldable pub is_in_range : ℚ → Bool
is_in_range x = is_at_most_ℚ (of_ℤ (neg_ℤ top)) x && is_at_most_ℚ x (of_ℤ top)

-- the coefficient of x when it is cut off, downwards, after p digits after the point
abbrev pub floor_at : ℚ → ℕ → ℤ
floor_at x p = floor_ℚ (x *ℚ of_ℤ (pos (10 ^ p)))

-- at most 18 digits
abbrev pub fits_18_digits : ℤ → Bool
fits_18_digits c = nat_lt (unsigned_abs c) (10 ^ 18)

-- x cut off after as many digits as p, p - 1, .., 0 after the point allow with 18 digits in all
unfoldable pub cut_off : ℚ → ℕ → Bound
cut_off x zero = canonical (floor_at x 0) 0
cut_off x (suc p) =
    if fits_18_digits (floor_at x (suc p)) then canonical (floor_at x (suc p)) (suc p) else cut_off x p

-- the greatest bound not above x
unfoldable pub down : ℚ → Option Bound
down x = if is_in_range x then Some (cut_off x 36) else None

-- the negative, with the same digits
abbrev pub negated : Bound → Bound
negated b = scaled (neg_ℤ b.coefficient) b.places

-- the least bound not below x
unfoldable pub up : ℚ → Option Bound
up x = option_map negated (down (neg_ℚ x))
