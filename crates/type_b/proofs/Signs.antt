-- The tests by digits say what the values are.
use Rattle.std.specs.Prelude.{◌*ℤ◌, ◌^◌}
use Rattle.std.proofs.Common.{◌≡◌, ℕ, not, ℤ, pos, negsuc, sym, ap, arith, refl, ◌∙◌}
use Rattle.std.proofs.lemmas.Bool.{le-leb}
use Rattle.std.proofs.Math.IntN.{*ℤ-one, one}
use lib.Signed.{le_z}
use std.Quotient.{/_rec, /_rec₂}
use Rattle.exact_fraction.specs.Fraction.{is_at_most}
use Rattle.exact_fraction.specs.Number.{is_at_most_ℚ, is_zero_ℚ, of_ℤ}
use Rattle.std.specs.declared.cmp.Ordering.{Ordering}
use Rattle.std.specs.declared.cmp.Ordering.TheVariants.{Less, Equal, Greater}
use Rattle.std.specs.Ordering.{is_gt, is_le}
use Rattle.decimal18.specs.Bound.{Bound, scaled, value_of, IsCanonical}
use Rattle.decimal18.specs.Order.{order}
use Rattle.decimal18.proofs.Values.{value-whole}
use Rattle.fixed_interval.proofs.Least.{is_le_order}
use Rattle.type_b.specs.Shapes.{is_negative, is_zero, is_above_one, below_zero}

at_most_zero : (z : ℤ) (p : ℕ) → below_zero z ≡ not (is_at_most_ℚ (of_ℤ (pos 0)) (value_of (scaled z p)))
unfolding is_at_most_ℚ is_at_most value_of /_rec /_rec₂ one
at_most_zero (pos n) p = sym (ap not (le-leb _ _ (omega arith)))
at_most_zero (negsuc n) p = ap (λ z. not (le_z (pos 0 *ℤ pos (10 ^ p)) z)) (sym (*ℤ-one (negsuc n)))

pub negative_below_zero : (b : Bound) → is_negative b ≡ not (is_at_most_ℚ (of_ℤ (pos 0)) (value_of b))
negative_below_zero b = at_most_zero b.coefficient b.places

pub zero_is_zero : (b : Bound) → is_zero b ≡ is_zero_ℚ (value_of b)
unfolding is_zero_ℚ value_of /_rec
zero_is_zero b = refl

at_most_one : (z : ℤ) (p : ℕ) → le_z z (pos (10 ^ p)) ≡ is_at_most_ℚ (value_of (scaled z p)) (of_ℤ (pos 1))
unfolding is_at_most_ℚ is_at_most value_of /_rec /_rec₂ one
at_most_one z p = ap (λ y. le_z y (pos (10 ^ p))) (sym (*ℤ-one z)) ∙ ap (λ n. le_z (z *ℤ pos 1) (pos n)) (omega arith)

pub above_one : (b : Bound) → is_above_one b ≡ not (is_at_most_ℚ (value_of b) (of_ℤ (pos 1)))
above_one b = ap not (at_most_one b.coefficient b.places)

greater_is_not_at_most : (o : Ordering) → is_gt o ≡ not (is_le o)
greater_is_not_at_most Less = refl
greater_is_not_at_most Equal = refl
greater_is_not_at_most Greater = refl

pub above_by_order : (b one : Bound) → one ≡ scaled (pos 1) 0 → IsCanonical b → IsCanonical one → is_gt (order b one) ≡ is_above_one b
above_by_order b one e m n =
    greater_is_not_at_most (order b one) ∙ ap not (is_le_order b one m n)
    ∙ ap (λ x. not (is_at_most_ℚ (value_of b) x)) (ap value_of e ∙ value-whole (pos 1)) ∙ sym (above_one b)
