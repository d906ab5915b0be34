-- Zeros at the end of the digits after the point: taking them away by halving steps, and that the
-- canonical form has none.
use Rattle.std.specs.Prelude.{◌≡◌, ◌≢◌, ℕ, zero, suc, ◌+◌, ◌-◌, ◌*◌, ◌/◌, ◌%◌, ◌^◌, ◌<◌, ◌≤◌, Bool, true, false, pos, ◌*ℤ◌, unsigned_abs, refl}
use Rattle.std.proofs.Common.{sym, ap, subst, ◌∙◌, arith, add-zero}
use Rattle.std.proofs.lemmas.Nat.{mod-mul-add}
use Rattle.std.proofs.Math.Nat.{one-le-pow, mul-pos}
use Rattle.std.proofs.Math.Dec.{lit≤}
use Rattle.std.proofs.Math.Pow.{pow-add}
use Rattle.exact_fraction.specs.Whole.{diff_same, push}
use Rattle.decimal18.specs.Bound.{scaled, value_of, canonical, IsBound, IsCanonical, IsDecimal}
use Rattle.decimal18.specs.Digits.{signed, IsWithoutZeros, HasFewZeros}
use Rattle.decimal18.proofs.Values.{value-shifted}
use Rattle.decimal18.proofs.Canonical.{IsReduced-canonical, one_canonical}

-- ---- steps
pub zeros_twice : (d p e q f r : ℕ) → IsWithoutZeros d p e q → IsWithoutZeros e q f r → IsWithoutZeros d p f r
zeros_twice d p e q f r h k = record {
  zeros = k.zeros + h.zeros;
  after_point = omega (arith, h.after_point, k.after_point);
  at_end = h.at_end ∙ ap (λ n. n * 10 ^ h.zeros) k.at_end ∙ regroup f (10 ^ k.zeros) (10 ^ h.zeros) ∙ ap (λ n. f * n) (sym (pow-add 10 k.zeros h.zeros));
} where
  regroup : (a b c : ℕ) → (a * b) * c ≡ a * (b * c)
  regroup a b c = omega arith

-- t zeros and t zeros are t * t
twice_zero : (d t : ℕ) → 0 < t → d % t ≡ 0 → (d / t) % t ≡ 0 → d % (t * t) ≡ 0
twice_zero d t t0 h k =
    let a : d ≡ d / t * t = whole d t t0 h in
    let b : d / t ≡ d / t / t * t = whole (d / t) t t0 k in
    let e : d ≡ (d / t / t) * (t * t) = a ∙ ap (λ n. n * t) b ∙ regroup (d / t / t) t in
    multiple (d / t / t) (t * t) d (mul-pos t0 t0) e where
      whole : (d t : ℕ) → 0 < t → d % t ≡ 0 → d ≡ d / t * t
      whole d t t0 z = omega arith

      regroup : (a t : ℕ) → (a * t) * t ≡ a * (t * t)
      regroup a t = omega arith

      multiple : (a t d : ℕ) → 0 < t → d ≡ a * t → d % t ≡ 0
      multiple a t d t0 e = rw e (ap (λ n. n % t) (sym (add-zero (a * t))) ∙ mod-mul-add a t 0 t0)

pub power_positive : (k t : ℕ) → t ≡ 10 ^ k → 0 < t
power_positive k t e = rw e (one-le-pow k 10 (lit≤ tt))

pub few_after : (d p k t : ℕ) → t ≡ 10 ^ k → k ≤ p → d % t ≡ 0 → HasFewZeros d p (2 * k) → HasFewZeros (d / t) (p - k) k
few_after d p k t e h z few = record {
  few = λ more last. few.few (omega arith) (subst (λ n. d % n ≡ 0) (square k t e) (twice_zero d t (power_positive k t e) z (subst (λ n. (d / t) % n ≡ 0) (sym e) last)));
} where
  square : (k t : ℕ) → t ≡ 10 ^ k → t * t ≡ 10 ^ (2 * k)
  square k t e = ap (λ n. n * t) e ∙ ap (λ n. 10 ^ k * n) e ∙ sym (pow-add 10 k k) ∙ ap (λ n. 10 ^ n) (omega arith)

-- ---- the canonical form
pub size_of_signed : (negative : Bool) (n : ℕ) → unsigned_abs (signed negative n) ≡ n
size_of_signed true zero = refl
size_of_signed true (suc n) = refl
size_of_signed false n = refl

pub signed_times : (negative : Bool) (n k : ℕ) → (signed negative n *ℤ pos k) ≡ signed negative (n * k)
signed_times true n k = simp push (diff_same _ _ _ _ (omega arith))
signed_times false n k = refl

few_canonical : (negative : Bool) (d p : ℕ) → HasFewZeros d p 1 → IsCanonical (scaled (signed negative d) p)
few_canonical negative d p h = record { least = λ above. subst (λ n. n % 10 ≢ 0) (sym (size_of_signed negative d)) (h.few above) }

pub canonical_without : (negative : Bool) (d p e q : ℕ) → IsWithoutZeros d p e q → HasFewZeros e q 1
    → canonical (signed negative d) p ≡ scaled (signed negative e) q
canonical_without negative d p e q h few =
    let reduced = IsReduced-canonical (signed negative d) p in
    let f : signed negative d ≡ signed negative e *ℤ pos (10 ^ h.zeros) = ap (signed negative) h.at_end ∙ sym (signed_times negative e (10 ^ h.zeros)) in
    one_canonical _ _ reduced.canonical (few_canonical negative e q few)
    (reduced.same ∙ ap (λ n. value_of (scaled (signed negative d) n)) h.after_point ∙ ap (λ z. value_of (scaled z (q + h.zeros))) f
    ∙ value-shifted (signed negative e) q h.zeros)

-- a number whose zeros were taken away is a bound where 18 digits and 36 places suffice
pub bound_without : (negative : Bool) (d p e q : ℕ) → IsWithoutZeros d p e q → HasFewZeros e q 1 → e < 10 ^ 18 → q ≤ 36
    → IsBound (canonical (signed negative d) p)
bound_without negative d p e q h few digits most =
    subst IsBound (sym (canonical_without negative d p e q h few))
    (record { digits = subst (λ n. n < 10 ^ 18) (sym (size_of_signed negative e)) digits; most = most })

pub without_bound : (negative : Bool) (d p e q : ℕ) → IsWithoutZeros d p e q → HasFewZeros e q 1
    → IsBound (canonical (signed negative d) p) → (e < 10 ^ 18) × (q ≤ 36)
without_bound negative d p e q h few bound =
    let b = subst IsBound (canonical_without negative d p e q h few) bound in
    (subst (λ n. n < 10 ^ 18) (size_of_signed negative e) b.digits, b.most)

-- taking zeros away makes no number greater
pub without_smaller : (d p e q : ℕ) → IsWithoutZeros d p e q → e ≤ d
without_smaller d p e q h = le-mul e (10 ^ h.zeros) d h.at_end (one-le-pow h.zeros 10 (lit≤ tt)) where
  le-mul : (e t d : ℕ) → d ≡ e * t → 0 < t → e ≤ d
  le-mul e zero d same t0 = absurd (omega arith)
  le-mul e (suc t) d same t0 = omega arith

-- the number in canonical form
pub decimal_without : (negative : Bool) (d p e q : ℕ) → IsWithoutZeros d p e q → HasFewZeros e q 1 → d < 10 ^ 18 → p ≤ 36
    → IsDecimal (scaled (signed negative e) q)
decimal_without negative d p e q h few digits most = record {
  bound = record {
    digits = subst (λ n. n < 10 ^ 18) (sym (size_of_signed negative e)) (omega (arith, without_smaller d p e q h));
    most = omega (arith, h.after_point);
  };
  canonical = few_canonical negative e q few;
}
