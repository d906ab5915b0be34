-- Sizes and their signs, rounding in a direction, and what the first digits of a number say of it.
use Rattle.std.specs.Prelude.{◌≡◌, ◌≢◌, ◌%◌, ◌*◌, ◌+◌, ◌-◌, ◌<◌, ◌≤◌, ◌^◌, ◌↔◌, ◌⊎◌, ℕ, Bool, true, false, ℤ, pos, neg_ℤ, Option}
use Rattle.exact_fraction.specs.Number.{ℚ, neg_ℚ}
use Rattle.decimal18.specs.declared.direction.Direction.{Direction}
use Rattle.decimal18.specs.declared.direction.Direction.TheVariants.{Down, Up}
use Rattle.decimal18.specs.Bound.{Bound, scaled, value_of}
use Rattle.decimal18.specs.Down.{floor_at, down, up}

-- a size with its sign; true is the negative one
abbrev pub signed : Bool → ℕ → ℤ
signed true n = neg_ℤ (pos n)
signed false n = pos n

-- the same of a number
abbrev pub signed_ℚ : Bool → ℚ → ℚ
signed_ℚ true x = neg_ℚ x
signed_ℚ false x = x

-- rounded in a direction
abbrev pub rounded : Direction → ℚ → Option Bound
rounded Down x = down x
rounded Up x = up x

-- `digits` are those of x down to so many places after the point; `lost` says whether x has more
pub record IsCutOff (x : ℚ) (digits places : ℕ) (lost : Bool) : Type 0 where
  pub first : floor_at x places ≡ pos digits
  pub all : (lost ≡ false) ↔ (x ≡ value_of (scaled (pos digits) places))

-- more digits would change no bound: none are lost, or there are 36 places, or 18 digits
pub record IsEnough (digits places : ℕ) (lost : Bool) : Type 0 where
  pub reason : (lost ≡ false) ⊎ ((36 ≤ places) ⊎ (10 ^ 17 ≤ digits))

-- the same number with some zeros less at the end of its digits after the point
pub record IsWithoutZeros (digits places shorter fewer : ℕ) : Type 0 where
  pub zeros : ℕ
  pub after_point : places ≡ fewer + zeros
  pub at_end : digits ≡ shorter * 10 ^ zeros

-- fewer than so many zeros stand at the end of the digits after the point
pub record HasFewZeros (digits places zeros : ℕ) : Type 0 where
  pub few : zeros ≤ places → digits % 10 ^ zeros ≢ 0

-- the first digits of digits at so many places: those that 18 digits and 36 places leave, or all
pub record IsFirst (digits places : ℕ) (lost : Bool) (first fewer : ℕ) (more : Bool) : Type 0 where
  pub count : ℕ
  pub rest : ℕ
  pub at_places : places ≡ fewer + count
  pub split : digits ≡ first * 10 ^ count + rest
  pub below : rest < 10 ^ count
  pub all : (more ≡ false) ↔ ((lost ≡ false) × (rest ≡ 0))
  pub most_digits : first < 10 ^ 18
  pub most_places : fewer ≤ 36
  pub as_many : (count ≡ 0) ⊎ ((36 ≤ fewer) ⊎ (10 ^ 17 ≤ first))

-- the number is above the greatest bound of all, and by less than 1
pub record IsPast (digits places : ℕ) (lost : Bool) : Type 0 where
  pub more : lost ≡ true
  pub whole : places ≡ 0
  pub greatest : digits ≡ 10 ^ 18 - 1

-- what rounding adds to the last digit of a size: 1 away from 0, where there is more than the digits
abbrev pub growth : Bool → Bool → Direction → ℕ
growth true true Down = 1
growth false true Up = 1
growth _ _ _ = 0

-- the digits of `whole` before its last ones, which are below `unit`; `lost` says whether those are not 0
pub record IsPart (whole unit digits : ℕ) (lost : Bool) : Type 0 where
  pub rest : ℕ
  pub split : whole ≡ digits * unit + rest
  pub below : rest < unit
  pub all : (lost ≡ false) ↔ (rest ≡ 0)

-- whether two signs are not the same
abbrev pub differ : Bool → Bool → Bool
differ true true = false
differ true false = true
differ false b = b

-- the size of a signed sum of a size and one that is not greater, whose signs differ or not
abbrev pub joined : Bool → ℕ → ℕ → ℕ
joined true m n = m - n
joined false m n = m + n
