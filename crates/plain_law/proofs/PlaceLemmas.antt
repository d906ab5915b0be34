-- Units of places, and squares of them.
use Rattle.std.specs.Prelude.{◌≡◌, ℕ, ◌*◌, Bool, true, pos, ◌+ℤ◌, refl}
use Rattle.std.proofs.Common.{sym, ◌∙◌, ap, subst}
use Rattle.std.proofs.Math.Dec.{lit<}
use Rattle.exact_fraction.specs.Number.{ℚ, of_ℤ, ◌*ℚ◌, ◌/ℚ◌, is_at_most_ℚ, ◌≤ℚ◌, ◌<ℚ◌}
use Rattle.exact_fraction.proofs.OrderLaws.{≤ℚ_left}
use Rattle.exact_fraction.proofs.Quotients.{positive_not_zero, *ℚ-/ℚ}
use Rattle.exact_fraction.specs.Powers.{power}
use Rattle.exact_law.specs.Rounding.{ten_to, scaled_square}
use Rattle.exact_law.proofs.RoundingLaws.{ten_to-next, ten_times}
use Rattle.plain_law.specs.Numbers.{number}
use Rattle.plain_law.specs.declared.place.Place.{Place}
use Rattle.plain_law.specs.DigitViews.{HasUnit}

-- ---- units
pub HasUnit-ones : (q : Place) → q.exponent ≡ pos 0 → number q.unit ≡ of_ℤ (pos 1) → HasUnit q
unfolding ten_to power
HasUnit-ones q e h = record { unit = h ∙ sym (ap ten_to e) }

pub HasUnit-next : (p q : Place) → HasUnit p → q.exponent ≡ (p.exponent +ℤ pos 1) → number q.unit ≡ number p.unit *ℚ of_ℤ (pos 10) → HasUnit q
HasUnit-next p q u e h = record {
  unit = h ∙ ap (λ t. t *ℚ of_ℤ (pos 10)) u.unit ∙ sym (ten_to-next p.exponent) ∙ sym (ap ten_to e);
}

pub HasUnit-previous : (p q : Place) → HasUnit p → p.exponent ≡ (q.exponent +ℤ pos 1) → number q.unit ≡ number p.unit /ℚ of_ℤ (pos 10) → HasUnit q
HasUnit-previous p q u e h = record {
  unit = h ∙ ap (λ t. t /ℚ of_ℤ (pos 10)) (u.unit ∙ ap ten_to e ∙ ten_to-next q.exponent) ∙ *ℚ-/ℚ (ten_to q.exponent) (of_ℤ (pos 10)) (positive_not_zero 10 (lit< tt));
}

-- ---- squares
pub square_of : (r : ℕ) (p : Place) (w v s : ℚ) → HasUnit p → w ≡ of_ℤ (pos (r * r)) → v ≡ number p.unit *ℚ number p.unit → s ≡ w *ℚ v
    → s ≡ scaled_square r p.exponent
unfolding scaled_square
square_of r p w v s u d e f = rw (f, d, e, u.unit) refl

-- ---- tests
pub at_most_by : (x y : ℚ) (b : Bool) → b ≡ is_at_most_ℚ x y → b ≡ true → x ≤ℚ y
at_most_by x y b h e = record { holds = sym h ∙ e }

-- ---- from place to place
pub low_next : (w : ℚ) (p q : Place) → q.exponent ≡ (p.exponent +ℤ pos 1) → scaled_square 1990 p.exponent ≤ℚ w → scaled_square 199 q.exponent ≤ℚ w
low_next w p q e h = ≤ℚ_left _ _ w (ap (scaled_square 199) e ∙ ten_times p.exponent) h

pub high_previous : (w : ℚ) (p q : Place) → p.exponent ≡ (q.exponent +ℤ pos 1) → w <ℚ scaled_square 199 p.exponent → w <ℚ scaled_square 1990 q.exponent
high_previous w p q e h = subst (λ t. w <ℚ t) (ap (scaled_square 199) e ∙ ten_times q.exponent) h
