-- `up` is the mirror of `down`.
use Rattle.std.specs.Prelude.{◌≡◌, zero, suc, ℤ, pos, negsuc, ◌*ℤ◌, neg_ℤ, unsigned_abs, Option, None, Some, refl}
use Rattle.std.specs.Option.{option_map}
use Rattle.std.proofs.Common.{sym, ap, subst, ◌∙◌, arith}
use Rattle.std.proofs.lemmas.Int.{ints}
use Rattle.std.proofs.lemmas.Option.{none-some, same_Some}
use std.Quotient.{eq/, /_set, /_rec, /_elim_prop}
use Rattle.exact_fraction.specs.Fraction as fraction
use Rattle.exact_fraction.specs.Fraction.{Fraction, ◌≈◌}
use Rattle.exact_fraction.specs.FractionLaws.{≈_refl}
use Rattle.exact_fraction.specs.Number.{ℚ, ◌≤ℚ◌, neg_ℚ}
use Rattle.exact_fraction.specs.NumberLaws.{≤ℚ_trans, ≤ℚ_same, neg_ℚ-≤ℚ, of_ℤ-neg}
use Rattle.decimal18.specs.Bound.{Bound, scaled, fraction_of, value_of, IsBound, IsCanonical}
use Rattle.decimal18.specs.Down.{IsDown, IsUp, IsInRange, top, down, up, negated}
use Rattle.decimal18.proofs.Rounding.{down_some, some_down, down_none, none_down}

pub neg-neg : (z : ℤ) → neg_ℤ (neg_ℤ z) ≡ z
neg-neg z = omega (arith, ints)

twice : (q : Fraction) → fraction.negated (fraction.negated q) ≈ q
unfolding fraction.negated
twice q = record { same = ap (λ z. z *ℤ pos q.den) (neg-neg q.num) }

pub neg_ℚ-neg_ℚ : (x : ℚ) → neg_ℚ (neg_ℚ x) ≡ x
unfolding neg_ℚ fraction.negated /_rec
neg_ℚ-neg_ℚ = /_elim_prop (λ x. neg_ℚ (neg_ℚ x) ≡ x) (λ x. /_set _ _) (λ q. eq/ (fraction.negated (fraction.negated q)) q (twice q))

pub value-negated : (b : Bound) → value_of (negated b) ≡ neg_ℚ (value_of b)
unfolding value_of neg_ℚ fraction.negated /_rec
value-negated b = eq/ _ _ (≈_refl (fraction_of (negated b)))

negated-negated : (b : Bound) → negated (negated b) ≡ b
negated-negated b = ap (λ z. scaled z b.places) (neg-neg b.coefficient)

same_size : (z : ℤ) → unsigned_abs (neg_ℤ z) ≡ unsigned_abs z
same_size (pos zero) = refl
same_size (pos (suc n)) = refl
same_size (negsuc n) = refl

IsBound-negated : (b : Bound) → IsBound b → IsBound (negated b)
IsBound-negated b h = record { digits = rw (same_size b.coefficient) h.digits; most = h.most }

pub IsCanonical-negated : (b : Bound) → IsCanonical b → IsCanonical (negated b)
IsCanonical-negated b h = record { least = rw (same_size b.coefficient) h.least }

pub IsInRange-neg_ℚ : (x : ℚ) → IsInRange x → IsInRange (neg_ℚ x)
IsInRange-neg_ℚ x h = record {
  low = ≤ℚ_trans _ _ _ (≤ℚ_same _ _ (of_ℤ-neg top)) (neg_ℚ-≤ℚ _ _ h.high);
  high = ≤ℚ_trans _ _ _ (neg_ℚ-≤ℚ _ _ h.low) (≤ℚ_same _ _ (sym (of_ℤ-neg (neg_ℤ top))));
}

-- ---- the relations are mirrored
IsUp_from_down : (x : ℚ) (b : Bound) → IsDown (neg_ℚ x) b → IsUp x (negated b)
IsUp_from_down x b h = record {
  bound = IsBound-negated b h.bound;
  not_below = ≤ℚ_trans _ _ _ (≤ℚ_same _ _ (sym (neg_ℚ-neg_ℚ x)))
      (≤ℚ_trans _ _ _ (neg_ℚ-≤ℚ _ _ h.not_above) (≤ℚ_same _ _ (sym (value-negated b))));
  least = λ c bound above.
      let g : value_of (negated c) ≤ℚ value_of b =
      h.greatest (negated c) (IsBound-negated c bound) (≤ℚ_trans _ _ _ (≤ℚ_same _ _ (value-negated c)) (neg_ℚ-≤ℚ _ _ above)) in
      ≤ℚ_trans _ _ _ (≤ℚ_same _ _ (value-negated b)) (≤ℚ_trans _ _ _ (neg_ℚ-≤ℚ _ _ g)
      (≤ℚ_same _ _ (ap neg_ℚ (value-negated c) ∙ neg_ℚ-neg_ℚ (value_of c))));
}

IsDown_from_up : (x : ℚ) (b : Bound) → IsUp x b → IsDown (neg_ℚ x) (negated b)
IsDown_from_up x b h = record {
  bound = IsBound-negated b h.bound;
  not_above = ≤ℚ_trans _ _ _ (≤ℚ_same _ _ (value-negated b)) (neg_ℚ-≤ℚ _ _ h.not_below);
  greatest = λ c bound below.
      let g : value_of b ≤ℚ value_of (negated c) =
      h.least (negated c) (IsBound-negated c bound) (≤ℚ_trans _ _ _ (≤ℚ_same _ _ (sym (neg_ℚ-neg_ℚ x)))
      (≤ℚ_trans _ _ _ (neg_ℚ-≤ℚ _ _ below) (≤ℚ_same _ _ (sym (value-negated c))))) in
      ≤ℚ_trans _ _ _ (≤ℚ_same _ _ (sym (neg_ℚ-neg_ℚ (value_of c)) ∙ ap neg_ℚ (sym (value-negated c))))
      (≤ℚ_trans _ _ _ (neg_ℚ-≤ℚ _ _ g) (≤ℚ_same _ _ (sym (value-negated b))));
}

-- ---- the function
pub up_some : (x : ℚ) (b : Bound) → up x ≡ Some b → IsInRange x × IsUp x b × IsCanonical b
unfolding up
up_some x b h = by (down (neg_ℚ x)) refl h where
  by : (o : Option Bound) → down (neg_ℚ x) ≡ o → option_map negated o ≡ Some b → IsInRange x × IsUp x b × IsCanonical b
  by None e f = absurd (none-some b f)
  by (Some c) e f =
      let parts = down_some (neg_ℚ x) c e in
      let g : negated c ≡ b = same_Some (negated c) b f in (
        subst IsInRange (neg_ℚ-neg_ℚ x) (IsInRange-neg_ℚ (neg_ℚ x) parts.0),
        subst (IsUp x) g (IsUp_from_down x c parts.1),
        subst IsCanonical g (IsCanonical-negated c parts.2),
      )

pub some_up : (x : ℚ) (b : Bound) → IsInRange x → IsUp x b → IsCanonical b → up x ≡ Some b
unfolding up
some_up x b range h canonical_b =
    ap (option_map negated) (some_down (neg_ℚ x) (negated b) (IsInRange-neg_ℚ x range) (IsDown_from_up x b h) (IsCanonical-negated b canonical_b))
    ∙ ap Some (negated-negated b)

pub up_none : (x : ℚ) → up x ≡ None → IsInRange x → ⊥
unfolding up
up_none x h range = by (down (neg_ℚ x)) refl h where
  by : (o : Option Bound) → down (neg_ℚ x) ≡ o → option_map negated o ≡ None → ⊥
  by None e f = down_none (neg_ℚ x) e (IsInRange-neg_ℚ x range)
  by (Some c) e f = none-some (negated c) (sym f)

pub none_up : (x : ℚ) → (IsInRange x → ⊥) → up x ≡ None
unfolding up
none_up x h =
    ap (option_map negated) (none_down (neg_ℚ x) (λ range. h (subst IsInRange (neg_ℚ-neg_ℚ x) (IsInRange-neg_ℚ (neg_ℚ x) range))))
