use Rattle.std.proofs.Common.{◌<◌, ◌≤◌, ◌^◌, ℕ, arith}
use Rattle.std.proofs.Math.Dec.{lit≤}
use Rattle.std.proofs.Math.Nat.{pow-le-pow_right}
use Rattle.program_words.proofs.number.digits_value.Goals as goal

few : (n i : ℕ) → i < n → n ≤ 10 → 10 ^ i ≤ 10 ^ 9
few n i below most = let h : i ≤ 9 = omega arith in pow-le-pow_right {n = 10} (lit≤ tt) h

pub overflow_mul-value : goal.overflow_mul-value
overflow_mul-value c = omega (arith, few _ _ c.loop-digit-test.true c.requires.few)

pub overflow_add-value : goal.overflow_add-value
overflow_add-value c =
    omega (arith, few _ _ c.loop-digit-test.true c.requires.few, c.type_inv.digits c.loop-digit.digit-index)
