-- The jets of sums, products, quotients and powers, by those of their parts.
use Rattle.std.specs.Prelude.{◌≡◌, ℕ, zero, suc, ◌-◌, Bool, true, false, not, cond, ◌&&◌, ℤ, pos, negsuc, ◌<ℤ◌, unsigned_abs, nat_eq}
use Rattle.std.proofs.Common.{sym, ◌∙◌, ap, ap₂, arith}
use Rattle.std.proofs.lemmas.Bool.{and_from, and_right}
use Rattle.std.proofs.lemmas.Int.{ints}
use Rattle.exact_fraction.specs.Number.{ℚ, of_ℤ, ◌+ℚ◌, ◌*ℚ◌, ◌/ℚ◌, neg_ℚ, is_zero_ℚ, ◌-ℚ◌}
use Rattle.exact_fraction.specs.Powers.{power, whole_power}
use Rattle.exact_law.specs.Model.{Expression, Neg, Add, Sub, Mul, Div, Pow, is_defined, has_power, value, slope, power_slope, unit}
use Rattle.plain_law.specs.declared.fraction.Exact.{Exact}
use Rattle.plain_law.specs.declared.jet.Jet.{Jet}
use Rattle.plain_law.specs.Numbers.{number}
use Rattle.plain_law.specs.Models.{IsJetOf}

-- ---- tests
pub unit_same : (x : ℚ) (n m : ℕ) → nat_eq n m ≡ true → x ≡ of_ℤ (pos 1) → x ≡ unit nat_eq n m
unfolding unit
unit_same x n m h e = e ∙ ap (λ b. cond b (of_ℤ (pos 1)) (of_ℤ (pos 0))) (sym h)

pub unit_other : (x : ℚ) (n m : ℕ) → nat_eq n m ≡ false → x ≡ of_ℤ (pos 0) → x ≡ unit nat_eq n m
unfolding unit
unit_other x n m h e = e ∙ ap (λ b. cond b (of_ℤ (pos 1)) (of_ℤ (pos 0))) (sym h)

-- ---- the operations
pub negative_jet : (v d : ℕ → ℚ) (known : ℕ → Bool) (f : Expression ℕ) (a j : Jet) → IsJetOf v d known f a
    → number j.value ≡ neg_ℚ (number a.value) → number j.slope ≡ neg_ℚ (number a.slope) → IsJetOf v d known (Neg f) j
unfolding is_defined value slope
negative_jet v d known f a j h e k = record {
  defined = h.defined;
  value_is = e ∙ ap neg_ℚ h.value_is;
  slope_is = k ∙ ap neg_ℚ h.slope_is;
}

pub sum_jet : (v d : ℕ → ℚ) (known : ℕ → Bool) (f g : Expression ℕ) (a b j : Jet) → IsJetOf v d known f a → IsJetOf v d known g b
    → number j.value ≡ number a.value +ℚ number b.value → number j.slope ≡ number a.slope +ℚ number b.slope
    → IsJetOf v d known (Add f g) j
unfolding is_defined value slope
sum_jet v d known f g a b j h i e k = record {
  defined = ap₂ (λ x y. x && y) h.defined i.defined;
  value_is = e ∙ ap₂ ◌+ℚ◌ h.value_is i.value_is;
  slope_is = k ∙ ap₂ ◌+ℚ◌ h.slope_is i.slope_is;
}

pub difference_jet : (v d : ℕ → ℚ) (known : ℕ → Bool) (f g : Expression ℕ) (a b j : Jet) → IsJetOf v d known f a → IsJetOf v d known g b
    → number j.value ≡ number a.value -ℚ number b.value → number j.slope ≡ number a.slope -ℚ number b.slope
    → IsJetOf v d known (Sub f g) j
unfolding is_defined value slope
difference_jet v d known f g a b j h i e k = record {
  defined = ap₂ (λ x y. x && y) h.defined i.defined;
  value_is = e ∙ ap₂ (λ x y. x -ℚ y) h.value_is i.value_is;
  slope_is = k ∙ ap₂ (λ x y. x -ℚ y) h.slope_is i.slope_is;
}

pub product_jet : (v d : ℕ → ℚ) (known : ℕ → Bool) (f g : Expression ℕ) (a b j : Jet) (l r : Exact) → IsJetOf v d known f a → IsJetOf v d known g b
    → number j.value ≡ number a.value *ℚ number b.value → number l ≡ number a.slope *ℚ number b.value
    → number r ≡ number a.value *ℚ number b.slope → number j.slope ≡ number l +ℚ number r → IsJetOf v d known (Mul f g) j
unfolding is_defined value slope
product_jet v d known f g a b j l r h i e el er k = record {
  defined = ap₂ (λ x y. x && y) h.defined i.defined;
  value_is = e ∙ ap₂ ◌*ℚ◌ h.value_is i.value_is;
  slope_is = k ∙ ap₂ ◌+ℚ◌ (el ∙ ap₂ ◌*ℚ◌ h.slope_is i.value_is) (er ∙ ap₂ ◌*ℚ◌ h.value_is i.slope_is);
}

pub quotient_jet : (v d : ℕ → ℚ) (known : ℕ → Bool) (f g : Expression ℕ) (a b j : Jet) (s t : Exact) → IsJetOf v d known f a → IsJetOf v d known g b
    → is_zero_ℚ (number b.value) ≡ false → number j.value ≡ number a.value /ℚ number b.value
    → number s ≡ number j.value *ℚ number b.slope → number t ≡ number a.slope -ℚ number s
    → number j.slope ≡ number t /ℚ number b.value → IsJetOf v d known (Div f g) j
unfolding is_defined value slope
quotient_jet v d known f g a b j s t h i z e es et k =
    let value_is = e ∙ ap₂ (λ x y. x /ℚ y) h.value_is i.value_is in
    record {
      defined = and_from _ _ (and_from _ _ h.defined i.defined) (ap not (ap is_zero_ℚ (sym i.value_is) ∙ z));
      value_is = value_is;
      slope_is = k ∙ ap₂ (λ x y. x /ℚ y) (et ∙ ap₂ (λ x y. x -ℚ y) h.slope_is (es ∙ ap₂ ◌*ℚ◌ value_is i.slope_is)) i.value_is;
    }

pub quotient_undefined : (v d : ℕ → ℚ) (known : ℕ → Bool) (f g : Expression ℕ) (b : Jet) → IsJetOf v d known g b
    → is_zero_ℚ (number b.value) ≡ true → is_defined v known (Div f g) ≡ false
unfolding is_defined
quotient_undefined v d known f g b i z =
    and_right (is_defined v known f && is_defined v known g) _ (ap not (ap is_zero_ℚ (sym i.value_is) ∙ z))

pub power_jet : (v d : ℕ → ℚ) (known : ℕ → Bool) (f : Expression ℕ) (n m k : ℤ) (a j : Jet) (s : Exact) → m ≡ n → k ≡ n → IsJetOf v d known f a
    → has_power (number a.value) m ≡ true → number j.value ≡ whole_power (number a.value) m
    → number s ≡ power_slope (number a.value) k → number j.slope ≡ number s *ℚ number a.slope → IsJetOf v d known (Pow f n) j
unfolding is_defined value slope
power_jet v d known f n m k a j s mn kn h p e es g = record {
  defined = ap₂ (λ x y. x && y) h.defined (ap (λ x. has_power x n) (sym h.value_is) ∙ ap (has_power (number a.value)) (sym mn) ∙ p);
  value_is = e ∙ ap (whole_power (number a.value)) mn ∙ ap (λ x. whole_power x n) h.value_is;
  slope_is = g ∙ ap₂ ◌*ℚ◌ (es ∙ ap (power_slope (number a.value)) kn ∙ ap (λ x. power_slope x n) h.value_is) h.slope_is;
}

no_power : (x : ℚ) (n : ℤ) → n <ℤ pos 0 → is_zero_ℚ x ≡ true → has_power x n ≡ false
unfolding has_power
no_power x (pos n) h z = absurd (omega (arith, ints))
no_power x (negsuc n) h z = ap not z

pub power_undefined : (v d : ℕ → ℚ) (known : ℕ → Bool) (f : Expression ℕ) (n : ℤ) (a : Jet) → IsJetOf v d known f a → n <ℤ pos 0
    → is_zero_ℚ (number a.value) ≡ true → is_defined v known (Pow f n) ≡ false
unfolding is_defined
power_undefined v d known f n a h l z =
    and_right (is_defined v known f) _ (ap (λ x. has_power x n) (sym h.value_is) ∙ no_power (number a.value) n l z)

-- ---- the derivative of a power
pub slope_still : (x y : ℚ) (n w : ℤ) → w ≡ n → y ≡ of_ℤ w → n ≡ pos 0 → y ≡ power_slope x n
unfolding power_slope
slope_still x y n w i e h = e ∙ ap of_ℤ (i ∙ h) ∙ sym (ap (power_slope x) h)

pub slope_up : (x y p c : ℚ) (n w : ℤ) (m : ℕ) → w ≡ n → pos 0 <ℤ n → m ≡ unsigned_abs n - 1 → c ≡ of_ℤ w → p ≡ power x m
    → y ≡ c *ℚ p → y ≡ power_slope x n
unfolding power_slope
slope_up x y p c (pos zero) w m j h i g f e = absurd (omega (arith, ints))
slope_up x y p c (pos (suc n)) w m j h i g f e =
    let k : m ≡ n = omega (arith, i) in
    e ∙ ap₂ ◌*ℚ◌ (g ∙ ap of_ℤ j) (f ∙ ap (power x) k)
slope_up x y p c (negsuc n) w m j h i g f e = absurd (omega (arith, ints))

pub slope_down : (x y p q c : ℚ) (n w u : ℤ) → w ≡ n → u ≡ n → n <ℤ pos 0 → c ≡ of_ℤ w → p ≡ whole_power x u → q ≡ c *ℚ p
    → y ≡ q /ℚ x → y ≡ power_slope x n
unfolding power_slope
slope_down x y p q c (pos n) w u j k h g f i e = absurd (omega (arith, ints))
slope_down x y p q c (negsuc n) w u j k h g f i e =
    e ∙ ap (λ t. t /ℚ x) (i ∙ ap₂ ◌*ℚ◌ (g ∙ ap of_ℤ j) (f ∙ ap (whole_power x) k))
