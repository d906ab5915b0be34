-- Whole numbers by their digits before the zeros at their end.
use Rattle.std.specs.Prelude.{◌≡◌, ℕ, ◌*◌, ◌^◌, ◌≤◌, Option, None, Some}
use Rattle.decimal18.specs.declared.significand.Significand.{Significand}

-- the number
abbrev pub number_of : Significand → ℕ
number_of s = s.digits * 10 ^ s.zeros

-- n has more than 18 digits before the zeros at its end
pub record IsLong (n : ℕ) : Type 0 where
  pub least : (c k : ℕ) → n ≡ c * 10 ^ k → 10 ^ 18 ≤ c

-- n, read as digits and zeros; nothing where it is too long
abbrev pub ReadAs : ℕ → Option Significand → Type 0
ReadAs n None = IsLong n
ReadAs n (Some s) = n ≡ number_of s
