-- The power by halvings does not depend on how many are allowed, once they are enough, so it is the
-- square of the power by the half, times the span where the exponent is odd.
use Rattle.std.specs.Prelude.{◌≡◌, ℕ, zero, suc, ◌+◌, ◌/◌, ◌%◌, ◌<◌, ◌≤◌, ◌==◌, nat_le, true, false, cond, ◌⊎◌, Option, None, Some, Result, Ok, Err, IfOk, ℤ, pos, negsuc, ◌≤ℤ◌, ◌<ℤ◌, ◌≢◌, unsigned_abs, refl, [], ◌∷◌}
use Rattle.std.specs.Option.{ok_or}
use Rattle.std.proofs.Common.{sym, ap, subst, ◌∙◌, arith, inl, inr}
use Rattle.std.proofs.lemmas.Bool.{cond-true, cond-false, le-leb, lt-leb, ne_eqb, cases_lt}
use Rattle.std.proofs.lemmas.Option.{none-some, same_Some}
use Rattle.exact_fraction.specs.Number.{ℚ, of_ℤ, ◌*ℚ◌, ◌/ℚ◌, inv_ℚ}
use Rattle.exact_fraction.specs.Powers.{power, whole_power}
use Rattle.exact_fraction.proofs.PowerLaws.{power-suc, power-one, power-+, whole_power-pos, whole_power-negsuc}
use Rattle.std.proofs.lemmas.Int.{ints}
use Rattle.decimal18.specs.Bound.{Bound}
use Rattle.exact_fraction.proofs.Ring.{◌:*◌, Whole, x0, ring}
use Rattle.fixed_interval.specs.Interval.{Interval, Encloses, point_span}
use Rattle.fixed_interval.specs.declared.faults.ArithFault.{ArithFault}
use Rattle.fixed_interval.specs.Rules.{one_bound, product_span, square_span}
use Rattle.fixed_interval.specs.Powers.{then_span, power_by, power_span, steps_by, power_steps}
use Rattle.fixed_interval.proofs.Enclosures.{one_encloses}
use Rattle.fixed_interval.proofs.Inclusions.{product_span_encloses, square_span_encloses}

-- one halving, with the power by the half
abbrev pub doubled : Interval → ℕ → Option Interval → Option Interval
doubled a k half =
    cond (nat_le k 1) (Some a)
    (cond (k % 2 == 0) (then_span half square_span) (then_span (then_span half square_span) (λ even. product_span even a)))

abbrev pub doubled_steps : ℕ → ℕ → ℕ
doubled_steps k half = cond (nat_le k 1) 0 (cond (k % 2 == 0) (half + 1) (half + 2))

power_same : (n m : ℕ) (a : Interval) (k : ℕ) → k ≤ n → k ≤ m → power_by n a k ≡ power_by m a k
power_same zero zero a k h j = refl
power_same zero (suc m) a k h j = sym (cond-true (nat_le k 1) _ _ (le-leb k 1 (omega arith)))
power_same (suc n) zero a k h j = cond-true (nat_le k 1) _ _ (le-leb k 1 (omega arith))
power_same (suc n) (suc m) a k h j = ap (doubled a k) (power_same n m a (k / 2) (omega arith) (omega arith))

steps_same : (n m k : ℕ) → k ≤ n → k ≤ m → steps_by n k ≡ steps_by m k
steps_same zero zero k h j = refl
steps_same zero (suc m) k h j = sym (cond-true (nat_le k 1) _ _ (le-leb k 1 (omega arith)))
steps_same (suc n) zero k h j = cond-true (nat_le k 1) _ _ (le-leb k 1 (omega arith))
steps_same (suc n) (suc m) k h j = ap (doubled_steps k) (steps_same n m (k / 2) (omega arith) (omega arith))

pub power_of_half : (a : Interval) (k : ℕ) → 0 < k → power_span a k ≡ doubled a k (power_span a (k / 2))
unfolding power_span
power_of_half a zero h = absurd (omega arith)
power_of_half a (suc k) h = ap (doubled a (suc k)) (power_same k (suc k / 2) a (suc k / 2) (omega arith) (omega arith))

pub steps_of_half : (k : ℕ) → 0 < k → power_steps k ≡ doubled_steps k (power_steps (k / 2))
unfolding power_steps
steps_of_half zero h = absurd (omega arith)
steps_of_half (suc k) h = ap (doubled_steps (suc k)) (steps_same k (suc k / 2) (suc k / 2) (omega arith) (omega arith))

-- ---- one halving by cases
pub power_one : (a : Interval) → power_span a 1 ≡ Some a
unfolding power_span
power_one a = refl

pub steps_one : power_steps 1 ≡ 0
unfolding power_steps
steps_one = refl

not_one : (k : ℕ) → 1 < k → nat_le k 1 ≡ false
not_one k h = lt-leb k 1 h

is_even : (k : ℕ) → k % 2 ≡ 0 → (k % 2 == 0) ≡ true
is_even k h = rw h refl

is_odd : (k : ℕ) → (k % 2 ≡ 0 → ⊥) → (k % 2 == 0) ≡ false
is_odd k h = ne_eqb _ _ h

pub power_even : (a : Interval) (k : ℕ) → 1 < k → k % 2 ≡ 0 → power_span a k ≡ then_span (power_span a (k / 2)) square_span
power_even a k h e =
    power_of_half a k (omega arith) ∙ cond-false (nat_le k 1) _ _ (not_one k h) ∙ cond-true (k % 2 == 0) _ _ (is_even k e)

pub power_odd : (a : Interval) (k : ℕ) → 1 < k → (k % 2 ≡ 0 → ⊥)
    → power_span a k ≡ then_span (then_span (power_span a (k / 2)) square_span) (λ even. product_span even a)
power_odd a k h e =
    power_of_half a k (omega arith) ∙ cond-false (nat_le k 1) _ _ (not_one k h) ∙ cond-false (k % 2 == 0) _ _ (is_odd k e)

pub steps_even : (k : ℕ) → 1 < k → k % 2 ≡ 0 → power_steps k ≡ power_steps (k / 2) + 1
steps_even k h e =
    steps_of_half k (omega arith) ∙ cond-false (nat_le k 1) _ _ (not_one k h) ∙ cond-true (k % 2 == 0) _ _ (is_even k e)

pub steps_odd : (k : ℕ) → 1 < k → (k % 2 ≡ 0 → ⊥) → power_steps k ≡ power_steps (k / 2) + 2
steps_odd k h e =
    steps_of_half k (omega arith) ∙ cond-false (nat_le k 1) _ _ (not_one k h) ∙ cond-false (k % 2 == 0) _ _ (is_odd k e)

even_or_odd : (k : ℕ) → (k % 2 ≡ 0) ⊎ (k % 2 ≡ 0 → ⊥)
even_or_odd k = by (cases_lt (k % 2) 1) where
  by : (k % 2 < 1) ⊎ (1 ≤ k % 2) → (k % 2 ≡ 0) ⊎ (k % 2 ≡ 0 → ⊥)
  by (inl h) = inl (omega arith)
  by (inr h) = inr (λ e. omega arith)

-- a square comes after the half
pub steps_of_square : (k : ℕ) → 1 < k → power_steps (k / 2) + 1 ≤ power_steps k
steps_of_square k h = by (even_or_odd k) where
  by : (k % 2 ≡ 0) ⊎ (k % 2 ≡ 0 → ⊥) → power_steps (k / 2) + 1 ≤ power_steps k
  by (inl e) = omega (arith, steps_even k h e)
  by (inr e) = omega (arith, steps_odd k h e)

-- where the square of the half is missing, the power is
pub none_after_half : (a : Interval) (k : ℕ) → 1 < k → then_span (power_span a (k / 2)) square_span ≡ None → power_span a k ≡ None
none_after_half a k h n = by (even_or_odd k) where
  by : (k % 2 ≡ 0) ⊎ (k % 2 ≡ 0 → ⊥) → power_span a k ≡ None
  by (inl e) = power_even a k h e ∙ n
  by (inr e) = power_odd a k h e ∙ ap (λ o. then_span o (λ even. product_span even a)) n

pub none_of_half : (a : Interval) (k : ℕ) → 1 < k → power_span a (k / 2) ≡ None → power_span a k ≡ None
none_of_half a k h n = none_after_half a k h (ap (λ o. then_span o square_span) n)

-- ---- the answers
pub some_of_ok : {E : Type 0} (o : Option Interval) (error : E) (s : Interval) → Ok s ≡ ok_or o error → o ≡ Some s
some_of_ok None error s e = cc
some_of_ok (Some t) error s e = cc

pub none_of_err : {E : Type 0} (o : Option Interval) (error other : E) → Err other ≡ ok_or o error → o ≡ None
none_of_err None error other e = refl
none_of_err (Some t) error other e = cc

pub even_answer : (a half even : Interval) (k : ℕ) → 1 < k → k % 2 ≡ 0 → power_span a (k / 2) ≡ Some half → square_span half ≡ Some even
    → power_span a k ≡ Some even
even_answer a half even k h e f g = power_even a k h e ∙ ap (λ o. then_span o square_span) f ∙ g

pub odd_answer : (a half even : Interval) (k : ℕ) → 1 < k → (k % 2 ≡ 0 → ⊥) → power_span a (k / 2) ≡ Some half → square_span half ≡ Some even
    → power_span a k ≡ product_span even a
odd_answer a half even k h e f g =
    power_odd a k h e ∙ ap (λ o. then_span o (λ even. product_span even a)) (ap (λ o. then_span o square_span) f ∙ g)

pub anyway : {A E : Type 0} (r : Result A E) (P : A → Type 0) → ((x : A) → P x) → IfOk r P
anyway (Ok x) P h = h x
anyway (Err e) P h = tt

-- ---- exact powers
exact_even : (x : ℚ) (k : ℕ) → k % 2 ≡ 0 → power x k ≡ power x (k / 2) *ℚ power x (k / 2)
exact_even x k h =
    let e : k ≡ k / 2 + k / 2 = omega arith in
    ap (power x) e ∙ power-+ x (k / 2) (k / 2)

exact_odd : (x : ℚ) (k : ℕ) → (k % 2 ≡ 0 → ⊥) → power x k ≡ (power x (k / 2) *ℚ power x (k / 2)) *ℚ x
exact_odd x k h =
    let e : k ≡ suc (k / 2 + k / 2) = omega arith in
    ap (power x) e ∙ power-suc x (k / 2 + k / 2) ∙ ap (λ t. t *ℚ x) (power-+ x (k / 2) (k / 2))

-- ---- the span of a power encloses the power
abbrev EnclosesPower : Option Interval → ℚ → Type 0
EnclosesPower o x = (s : Interval) → o ≡ Some s → Encloses s x

squared : (o : Option Interval) (x : ℚ) → EnclosesPower o x → EnclosesPower (then_span o square_span) (x *ℚ x)
squared None x h s e = absurd (none-some s e)
squared (Some t) x h s e = square_span_encloses t s e x (h t refl)

multiplied : (o : Option Interval) (a : Interval) (x q : ℚ) → EnclosesPower o x → Encloses a q
    → EnclosesPower (then_span o (λ even. product_span even a)) (x *ℚ q)
multiplied None a x q h k s e = absurd (none-some s e)
multiplied (Some t) a x q h k s e = product_span_encloses t a s e x q (h t refl) k

enclosed_by : (n : ℕ) (a : Interval) (q : ℚ) → Encloses a q → (k : ℕ) → 0 < k → k ≤ n → EnclosesPower (power_span a k) (power q k)
enclosed_by zero a q h k k0 most = absurd (omega arith)
enclosed_by (suc n) a q h k k0 most =
    by (λ j. enclosed_by n a q h (k / 2) (omega arith) (omega arith)) (cases_lt 1 k) (even_or_odd k) where
      by : (1 < k → EnclosesPower (power_span a (k / 2)) (power q (k / 2))) → (1 < k) ⊎ (k ≤ 1) → (k % 2 ≡ 0) ⊎ (k % 2 ≡ 0 → ⊥) → EnclosesPower (power_span a k) (power q k)
      by half (inl j) (inl e) = rw (power_even a k j e, exact_even q k e) (squared (power_span a (k / 2)) (power q (k / 2)) (half j))
      by half (inl j) (inr e) =
          rw (power_odd a k j e, exact_odd q k e)
          (multiplied (then_span (power_span a (k / 2)) square_span) a _ q (squared (power_span a (k / 2)) (power q (k / 2)) (half j)) h)
      by half (inr j) u =
          let e : k ≡ 1 = omega arith in
          rw (e, power_one a) (λ s f. rw (← same_Some a s f, power-one q) h)

pub power_span_encloses : (a : Interval) (q : ℚ) → Encloses a q → (k : ℕ) → 0 < k → (s : Interval) → power_span a k ≡ Some s
    → Encloses s (power q k)
power_span_encloses a q h k k0 = enclosed_by k a q h k k0 (omega arith)

-- ---- whole powers
pub positive_encloses : (a s : Interval) (k : ℤ) (n : ℕ) → n ≡ unsigned_abs k → pos 0 <ℤ k → power_span a n ≡ Some s
    → (q : ℚ) → Encloses a q → Encloses s (whole_power q k)
positive_encloses a s (pos k) n e h f q j =
    rw (whole_power-pos q k) (power_span_encloses a q j k (omega (arith, ints)) s (rw e at f))
positive_encloses a s (negsuc k) n e h f q j = absurd (omega (arith, ints))

pub negative_encloses : (a s : Interval) (one : Bound) (k : ℤ) (n : ℕ) (r : Result Interval ArithFault) → n ≡ unsigned_abs k → k ≤ℤ pos 0
    → k ≢ pos 0 → power_span a n ≡ Some s → one ≡ one_bound
    → ((x y : ℚ) → Encloses (point_span one) x → Encloses s y → IfOk r (λ t. Encloses t (x /ℚ y)))
    → (q : ℚ) → Encloses a q → IfOk r (λ t. Encloses t (whole_power q k))
negative_encloses a s one (pos k) n r e h m f o g q j = absurd (m (omega (arith, ints)))
negative_encloses a s one (negsuc k) n r e h m f o g q j =
    let y : ℚ = power q (suc k) in
    let inner : Encloses s y = power_span_encloses a q j (suc k) (omega arith) s (rw e at f) in
    subst (λ z. IfOk r (λ t. Encloses t z)) (ring (inv_ℚ y ∷ []) (Whole (pos 1) :* x0) x0 refl ∙ sym (whole_power-negsuc q k)) (g (of_ℤ (pos 1)) y (rw o one_encloses) inner)
