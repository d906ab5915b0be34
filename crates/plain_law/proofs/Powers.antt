-- Which numbers have which powers.
use Rattle.std.specs.Prelude.{◌≡◌, ℕ, true, false, not, ℤ, pos, negsuc, ◌≤ℤ◌, unsigned_abs, refl}
use Rattle.std.proofs.Common.{sym, ◌∙◌, ap, arith}
use Rattle.std.proofs.lemmas.Int.{ints}
use Rattle.exact_fraction.specs.Number.{ℚ, is_zero_ℚ}
use Rattle.exact_fraction.specs.Powers.{power}
use Rattle.exact_fraction.proofs.PowerLaws.{base_not_zero}
use Rattle.exact_law.specs.Model.{has_power}

pub has_power_up : (x : ℚ) (z : ℤ) → pos 0 ≤ℤ z → has_power x z ≡ true
unfolding has_power
has_power_up x (pos m) h = refl
has_power_up x (negsuc m) h = absurd (omega (arith, ints))

pub has_power_down : (x y : ℚ) (z : ℤ) (n : ℕ) → n ≡ unsigned_abs z → y ≡ power x n → is_zero_ℚ y ≡ false → has_power x z ≡ true
unfolding has_power
has_power_down x y (pos m) n e f h = refl
has_power_down x y (negsuc m) n e f h =
    ap not (base_not_zero x m (sym (ap is_zero_ℚ (f ∙ ap (power x) e)) ∙ h))
