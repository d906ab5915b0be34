-- When a decimal number is a bound, by its digits and its power of ten.
use Rattle.std.specs.Prelude.{◌≡◌, ◌≢◌, ℕ, ◌+◌, ◌-◌, ◌*◌, ◌%◌, ◌^◌, ◌<◌, ◌≤◌, ◌⊎◌, ◌↔◌, Bool, true, false, cond, ℤ, pos, ◌*ℤ◌, unsigned_abs, Option, None, Some, IsSome, IfSome, refl}
use Rattle.std.proofs.Common.{sym, ap, subst, ◌∙◌, arith, rules, inl, inr}
use Rattle.std.proofs.Math.Nat.{le-mul_of_pos_right, pow-suc, eq_of_mul-eq-mul_right}
use Rattle.std.proofs.Math.Pow.{pow-add}
use Rattle.std.proofs.lemmas.Bool.{cases_lt}
use Rattle.std.proofs.lemmas.Bool.Decides.{nat_tests}
use Rattle.std.proofs.lemmas.Int.{unsigned_abs-mul}
use std.Quotient.{eq/}
use Rattle.exact_fraction.specs.Whole.{diff_same, push}
use Rattle.decimal18.specs.Bound.{Bound, scaled, fraction_of, value_of, canonical, IsBound}
use Rattle.decimal18.specs.Digits.{signed}
use Rattle.decimal18.specs.Literal.{is_bound, as_bound}
use Rattle.decimal18.specs.Significand.{IsLong}
use Rattle.decimal18.proofs.Canonical.{IsReduced-canonical, one_canonical, crossed, power_positive}
use Rattle.decimal18.proofs.Zeros.{size_of_signed}
use Rattle.decimal18.proofs.LiteralDigits.{no_zero_last}

-- ---- values
signed_times : (negative : Bool) (m n s t : ℕ) → m * t ≡ n * s → (signed negative m *ℤ pos t) ≡ (signed negative n *ℤ pos s)
signed_times false m n s t h = ap pos h
signed_times true m n s t h = simp push (diff_same _ _ _ _ (omega arith))

pub same_value : (negative : Bool) (m n p q : ℕ) → m * 10 ^ q ≡ n * 10 ^ p → value_of (scaled (signed negative m) p) ≡ value_of (scaled (signed negative n) q)
unfolding value_of
same_value negative m n p q h =
    eq/ (fraction_of (scaled (signed negative m) p)) (fraction_of (scaled (signed negative n) q))
    (record { same = signed_times negative m n (10 ^ p) (10 ^ q) h })

-- equal values by the sizes of their digits
pub sizes : (b : Bound) (negative : Bool) (n p : ℕ) → value_of b ≡ value_of (scaled (signed negative n) p)
    → unsigned_abs b.coefficient * 10 ^ p ≡ n * 10 ^ b.places
sizes b negative n p e =
    sym (unsigned_abs-mul b.coefficient (pos (10 ^ p)))
    ∙ ap unsigned_abs (crossed b (scaled (signed negative n) p) e)
    ∙ unsigned_abs-mul (signed negative n) (pos (10 ^ b.places))
    ∙ ap (λ k. k * 10 ^ b.places) (size_of_signed negative n)

-- ---- the bound of a number, if any
pub same_canonical : (c d : ℤ) (p q : ℕ) → value_of (scaled c p) ≡ value_of (scaled d q) → canonical c p ≡ canonical d q
same_canonical c d p q e =
    let a = IsReduced-canonical c p in
    let b = IsReduced-canonical d q in
    one_canonical _ _ a.canonical b.canonical (a.same ∙ e ∙ sym b.same)

pub same_bound : (c d : ℤ) (p q : ℕ) → value_of (scaled c p) ≡ value_of (scaled d q) → as_bound (scaled c p) ≡ as_bound (scaled d q)
same_bound c d p q e = ap (λ b. cond (is_bound b) (Some b) None) (same_canonical c d p q e)

both_tests : (c : ℤ) (p : ℕ) → unsigned_abs c < 10 ^ 18 → p ≤ 36 → is_bound (scaled c p) ≡ true
both_tests c p few most = grind (arith, nat_tests)

-- in canonical form a bound is a bound
pub in_form : (c : ℤ) (p : ℕ) → IsBound (scaled c p) → as_bound (scaled c p) ≡ Some (canonical c p)
in_form c p h =
    let r = IsReduced-canonical c p in
    let b = canonical c p in
    ap (λ t. cond t (Some b) None) (both_tests b.coefficient b.places (omega (arith, r.smaller, h.digits)) (omega (arith, r.fewer, h.most)))

-- a number is no bound where none has its value
pub no_bound : (c : ℤ) (p : ℕ) → ((b : Bound) → IsBound b → value_of b ≡ value_of (scaled c p) → ⊥) → as_bound (scaled c p) ≡ None
no_bound c p none = by (is_bound (canonical c p)) refl where
  by : (t : Bool) → is_bound (canonical c p) ≡ t → cond t (Some (canonical c p)) None ≡ None
  by false e = refl
  by true e = absurd (none (canonical c p) (record { digits = grind (arith, nat_tests); most = grind (arith, nat_tests) }) (IsReduced-canonical c p).same)

-- ---- digits times a power of ten
-- more powers on the right: x * 10 ^ p ≡ n * 10 ^ r * 10 ^ q with p ≤ r + q
cancel_left : (x n p r q : ℕ) → p ≤ r + q → x * 10 ^ p ≡ n * 10 ^ r * 10 ^ q → x ≡ n * 10 ^ (r + q - p)
cancel_left x n p r q h e =
    let total : 10 ^ r * 10 ^ q ≡ 10 ^ (r + q - p) * 10 ^ p =
    sym (pow-add 10 r q) ∙ ap (λ k. 10 ^ k) (omega arith) ∙ pow-add 10 (r + q - p) p in
    eq_of_mul-eq-mul_right (10 ^ p) (power_positive p) x (n * 10 ^ (r + q - p)) (omega (arith, e, ap (λ t. n * t) total))

-- more powers on the left
cancel_right : (x n p r q : ℕ) → r + q ≤ p → x * 10 ^ p ≡ n * 10 ^ r * 10 ^ q → n ≡ x * 10 ^ (p - (r + q))
cancel_right x n p r q h e =
    let total : 10 ^ p ≡ 10 ^ (p - (r + q)) * (10 ^ r * 10 ^ q) =
    ap (λ k. 10 ^ k) (omega arith) ∙ pow-add 10 (p - (r + q)) (r + q) ∙ ap (λ t. 10 ^ (p - (r + q)) * t) (pow-add 10 r q) in
    let both : 10 ^ r * 10 ^ q ≡ 10 ^ (r + q) = sym (pow-add 10 r q) in
    eq_of_mul-eq-mul_right (10 ^ (r + q)) (power_positive (r + q)) n (x * 10 ^ (p - (r + q)))
    (omega (arith, e, ap (λ t. x * t) total, ap (λ t. n * t) both, ap (λ t. x * 10 ^ (p - (r + q)) * t) both))

at_least : (n k : ℕ) → n ≤ n * 10 ^ k
at_least n k = le-mul_of_pos_right {m = 10 ^ k} n (power_positive k)

-- a long number is no bound, whatever the power
pub long_is_none : (negative : Bool) (n raised lowered : ℕ) → IsLong n → as_bound (scaled (signed negative (n * 10 ^ raised)) lowered) ≡ None
long_is_none negative n raised lowered long = no_bound _ _ none where
  none : (b : Bound) → IsBound b → value_of b ≡ value_of (scaled (signed negative (n * 10 ^ raised)) lowered) → ⊥
  none b h e = by (cases_lt (raised + b.places) lowered) where
    size : unsigned_abs b.coefficient * 10 ^ lowered ≡ n * 10 ^ raised * 10 ^ b.places
    size = sizes b negative (n * 10 ^ raised) lowered e

    by : (raised + b.places < lowered) ⊎ (lowered ≤ raised + b.places) → ⊥
    by (inl k) =
        let d = lowered - (raised + b.places) in
        absurd (omega (arith, h.digits, long.least (unsigned_abs b.coefficient) d (cancel_right (unsigned_abs b.coefficient) n lowered raised b.places (omega arith) size)))
    by (inr k) =
        let d = raised + b.places - lowered in
        absurd (omega (arith, h.digits, long.least n 0 (omega arith), at_least n d, cancel_left (unsigned_abs b.coefficient) n lowered raised b.places k size))

-- too many zeros after the digits
pub wide_is_none : (negative : Bool) (n raised lowered : ℕ) → lowered ≤ raised → 10 ^ 18 ≤ n * 10 ^ (raised - lowered)
    → as_bound (scaled (signed negative (n * 10 ^ raised)) lowered) ≡ None
wide_is_none negative n raised lowered more many = no_bound _ _ none where
  none : (b : Bound) → IsBound b → value_of b ≡ value_of (scaled (signed negative (n * 10 ^ raised)) lowered) → ⊥
  none b h e =
      let size = cancel_left (unsigned_abs b.coefficient) n lowered raised b.places (omega arith) (sizes b negative (n * 10 ^ raised) lowered e) in
      let split : 10 ^ (raised + b.places - lowered) ≡ 10 ^ (raised - lowered) * 10 ^ b.places =
      ap (λ k. 10 ^ k) (omega arith) ∙ pow-add 10 (raised - lowered) b.places in
      let m = n * 10 ^ (raised - lowered) in
      absurd (omega (arith, h.digits, size, ap (λ t. n * t) split, at_least m b.places))

-- too many places for a number whose last digit is not 0
pub deep_is_none : (negative : Bool) (n raised lowered : ℕ) → n % 10 ≢ 0 → raised + 36 < lowered
    → as_bound (scaled (signed negative (n * 10 ^ raised)) lowered) ≡ None
deep_is_none negative n raised lowered last deep = no_bound _ _ none where
  none : (b : Bound) → IsBound b → value_of b ≡ value_of (scaled (signed negative (n * 10 ^ raised)) lowered) → ⊥
  none b h e =
      let x = unsigned_abs b.coefficient in
      let size = cancel_right x n lowered raised b.places (omega (arith, h.most)) (sizes b negative (n * 10 ^ raised) lowered e) in
      let k = lowered - (raised + b.places) - 1 in
      let split : 10 ^ (lowered - (raised + b.places)) ≡ 10 ^ k * 10 =
      ap (λ j. 10 ^ j) (omega (arith, h.most)) ∙ pow-suc 10 k in
      last (omega (arith, size, ap (λ t. x * t) split))

-- digits that are put at the places where the power has them
wide_value : (negative : Bool) (n raised lowered : ℕ) → lowered ≤ raised
    → value_of (scaled (signed negative (n * 10 ^ (raised - lowered))) 0) ≡ value_of (scaled (signed negative (n * 10 ^ raised)) lowered)
wide_value negative n raised lowered h =
    let split : 10 ^ raised ≡ 10 ^ (raised - lowered) * 10 ^ lowered = ap (λ k. 10 ^ k) (omega arith) ∙ pow-add 10 (raised - lowered) lowered in
    same_value negative (n * 10 ^ (raised - lowered)) (n * 10 ^ raised) 0 lowered (omega (arith, ap (λ t. n * t) split))

deep_value : (negative : Bool) (n raised lowered : ℕ) → raised ≤ lowered
    → value_of (scaled (signed negative n) (lowered - raised)) ≡ value_of (scaled (signed negative (n * 10 ^ raised)) lowered)
deep_value negative n raised lowered h =
    let split : 10 ^ lowered ≡ 10 ^ raised * 10 ^ (lowered - raised) = ap (λ k. 10 ^ k) (omega arith) ∙ pow-add 10 raised (lowered - raised) in
    same_value negative n (n * 10 ^ raised) (lowered - raised) lowered (omega (arith, ap (λ t. n * t) split))

zero_value : (negative : Bool) (raised lowered : ℕ)
    → value_of (scaled (signed negative 0) 0) ≡ value_of (scaled (signed negative (0 * 10 ^ raised)) lowered)
zero_value negative raised lowered = same_value negative 0 (0 * 10 ^ raised) 0 lowered (omega arith)

-- ---- the answers of the three cases
pub zero_is : (negative : Bool) (n raised lowered : ℕ) (r : Option Bound) → n ≡ 0 → r ≡ as_bound (scaled (signed negative 0) 0)
    → r ≡ as_bound (scaled (signed negative (n * 10 ^ raised)) lowered)
zero_is negative n raised lowered r e h =
    h ∙ same_bound (signed negative 0) (signed negative (0 * 10 ^ raised)) 0 lowered (zero_value negative raised lowered)
    ∙ ap (λ m. as_bound (scaled (signed negative (m * 10 ^ raised)) lowered)) (sym e)

pub wide_is : (negative : Bool) (n raised lowered m : ℕ) (r : Option Bound) → lowered ≤ raised → m ≡ n * 10 ^ (raised - lowered)
    → r ≡ as_bound (scaled (signed negative m) 0) → r ≡ as_bound (scaled (signed negative (n * 10 ^ raised)) lowered)
wide_is negative n raised lowered m r more e h =
    h ∙ ap (λ k. as_bound (scaled (signed negative k) 0)) e
    ∙ same_bound (signed negative (n * 10 ^ (raised - lowered))) (signed negative (n * 10 ^ raised)) 0 lowered (wide_value negative n raised lowered more)

pub deep_is : (negative : Bool) (n raised lowered : ℕ) (r : Option Bound) → raised ≤ lowered
    → r ≡ as_bound (scaled (signed negative n) (lowered - raised)) → r ≡ as_bound (scaled (signed negative (n * 10 ^ raised)) lowered)
deep_is negative n raised lowered r more h =
    h ∙ same_bound (signed negative n) (signed negative (n * 10 ^ raised)) (lowered - raised) lowered (deep_value negative n raised lowered more)

-- what `Dec::new` answers is the bound of its arguments
pub new_is : (c : ℤ) (p : ℕ) (r : Option Bound) → (IsSome r ↔ IsBound (canonical c p)) → IfSome r (λ b. b ≡ canonical c p)
    → r ≡ as_bound (scaled c p)
new_is c p (Some b) some same =
    let h = some.0 (search rules) in
    ap Some same ∙ sym (ap (λ t. cond t (Some (canonical c p)) None) (both_tests (canonical c p).coefficient (canonical c p).places h.digits h.most))
new_is c p None some same = by (is_bound (canonical c p)) refl where
  by : (t : Bool) → is_bound (canonical c p) ≡ t → None ≡ cond t (Some (canonical c p)) None
  by false e = refl
  by true e =
      let h : IsSome {T = Bound} None = some.1 (record { digits = grind (arith, nat_tests); most = grind (arith, nat_tests) }) in
      absurd (cc)

-- ---- exactly when a number is a bound
none_is_not_some : (o : Option Bound) → o ≡ None → IsSome o → ⊥
none_is_not_some o e h =
    let some : IsSome {T = Bound} None = subst IsSome e h in
    absurd (cc)

pub is_some_bound : (c : ℤ) (p : ℕ) → IsBound (scaled c p) → IsSome (as_bound (scaled c p))
is_some_bound c p h = subst IsSome (sym (in_form c p h)) refl

-- digits that do not end in 0, times a power of ten, by their number and that of the places
pub tight : (n raised lowered : ℕ) → n % 10 ≢ 0
    → IsSome (as_bound (scaled (pos (n * 10 ^ raised)) lowered)) ↔ ((n * 10 ^ (raised - lowered) < 10 ^ 18) × (lowered ≤ raised + 36))
tight n raised lowered last = (to, from) where
  none : as_bound (scaled (signed false (n * 10 ^ raised)) lowered) ≡ None → IsSome (as_bound (scaled (pos (n * 10 ^ raised)) lowered)) → ⊥
  none e = none_is_not_some (as_bound (scaled (pos (n * 10 ^ raised)) lowered)) e

  few : IsSome (as_bound (scaled (pos (n * 10 ^ raised)) lowered)) → n * 10 ^ (raised - lowered) < 10 ^ 18
  few h = by (cases_lt (n * 10 ^ (raised - lowered)) (10 ^ 18)) (cases_lt raised lowered) where
    by : (n * 10 ^ (raised - lowered) < 10 ^ 18) ⊎ (10 ^ 18 ≤ n * 10 ^ (raised - lowered)) → (raised < lowered) ⊎ (lowered ≤ raised) → n * 10 ^ (raised - lowered) < 10 ^ 18
    by (inl k) g = k
    by (inr k) (inl g) =
        let no_zeros : raised - lowered ≡ 0 = omega arith in
        let one : 10 ^ (raised - lowered) ≡ 1 = ap (λ j. 10 ^ j) no_zeros in
        let many : 10 ^ 18 ≤ n = omega (arith, k, ap (λ t. n * t) one) in
        absurd (none (long_is_none false n raised lowered (no_zero_last n last many)) h)
    by (inr k) (inr g) = absurd (none (wide_is_none false n raised lowered g k) h)

  most : IsSome (as_bound (scaled (pos (n * 10 ^ raised)) lowered)) → lowered ≤ raised + 36
  most h = by (cases_lt (raised + 36) lowered) where
    by : (raised + 36 < lowered) ⊎ (lowered ≤ raised + 36) → lowered ≤ raised + 36
    by (inl k) = absurd (none (deep_is_none false n raised lowered last k) h)
    by (inr k) = k

  to : IsSome (as_bound (scaled (pos (n * 10 ^ raised)) lowered)) → (n * 10 ^ (raised - lowered) < 10 ^ 18) × (lowered ≤ raised + 36)
  to h = (few h, most h)

  from : (n * 10 ^ (raised - lowered) < 10 ^ 18) × (lowered ≤ raised + 36) → IsSome (as_bound (scaled (pos (n * 10 ^ raised)) lowered))
  from h = by (cases_lt raised lowered) where
    by : (raised < lowered) ⊎ (lowered ≤ raised) → IsSome (as_bound (scaled (pos (n * 10 ^ raised)) lowered))
    by (inl k) =
        let no_zeros : raised - lowered ≡ 0 = omega arith in
        let one : 10 ^ (raised - lowered) ≡ 1 = ap (λ j. 10 ^ j) no_zeros in
        let small : n < 10 ^ 18 = omega (arith, h.0, ap (λ t. n * t) one) in
        subst IsSome (same_bound (pos n) (pos (n * 10 ^ raised)) (lowered - raised) lowered (deep_value false n raised lowered (omega arith)))
        (is_some_bound (pos n) (lowered - raised) (record { digits = small; most = omega (arith, h.1) }))
    by (inr k) =
        subst IsSome (same_bound (pos (n * 10 ^ (raised - lowered))) (pos (n * 10 ^ raised)) 0 lowered (wide_value false n raised lowered k))
        (is_some_bound (pos (n * 10 ^ (raised - lowered))) 0 (record { digits = h.0; most = omega arith }))
