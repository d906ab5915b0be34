-- The text of a bound is read as the bound again.
use Rattle.std.specs.Prelude.{◌≡◌, ℕ, zero, suc, ◌+◌, ◌*◌, ◌/◌, ◌%◌, ◌^◌, ◌<◌, ◌≤◌, true, ℤ, pos, negsuc, ◌⊎◌, unsigned_abs, List, [], ◌∷◌, ◌++◌, length, codes, decimal, None, Ok, refl}
use Rattle.std.proofs.Common.{sym, ap, ◌∙◌, arith, inl, inr, length-append}
use mathlib.Core.List.{append-nil}
use Rattle.std.proofs.Math.Dec.{lit≤}
use Rattle.std.proofs.lemmas.Bool.{cases_lt, and_from}
use Rattle.std.proofs.Math.Nat.{pow-le-pow_right, div-div-eq-div-mul, div-le_self, div-mul-le_self, mul-le-mul_right, pow-suc}
use Rattle.std.proofs.lemmas.Bool.Decides.{nat_tests}
use Rattle.std.proofs.lemmas.Fmt.{digits_decimal, digits_value-decimal, decimal_nonempty, length-decimal-le}
use Rattle.std.proofs.lemmas.List.Folds.{list_all-append}
use Rattle.std.proofs.lemmas.Str.{digit_value_digit}
use Rattle.std.specs.Char.{is_ascii_digit, digit_value}
use Rattle.std.specs.Int.{IsInRange}
use Rattle.std.specs.Str.Parse.{digits_value, digits_value_after}
use Rattle.decimal18.specs.Bound.{Bound, scaled, canonical, IsBound, IsCanonical}
use Rattle.decimal18.specs.Text.{last_digits, sign_of, after_point, text_of}
use Rattle.decimal18.specs.Digits.{signed}
use Rattle.decimal18.specs.Literal.{Sign, Unsigned, Minus, Literal, sign_text, point_text, text_of_literal, are_digits, is_minus, Spells, exact_of, as_bound, in_range, read, parsed}
use Rattle.decimal18.proofs.Canonical.{IsReduced-canonical, one_canonical}
use Rattle.decimal18.proofs.LiteralBound.{in_form}
use Rattle.decimal18.proofs.LiteralDigits.{numerals, digit_in, after-append}
use Rattle.decimal18.proofs.LiteralText.{spelt_read}

-- ---- the last digits
digit_byte : (d : ℕ) → d < 10 → (is_ascii_digit (48 + d) ≡ true) × (digit_value (48 + d) ≡ d)
digit_byte d below =
    let test : is_ascii_digit (48 + d) ≡ true = grind (arith, nat_tests) in
    let range : IsInRange 48 57 (48 + d) = digit_in ((48 + d) ∷ []) 0 (rw test refl) (omega arith) in
    (test, omega (arith, digit_value_digit (48 + d) range))

pub last_are_digits : (p n : ℕ) → are_digits (last_digits p n) ≡ true
last_are_digits zero n = refl
last_are_digits (suc p) n =
    list_all-append is_ascii_digit (last_digits p (n / 10)) ((48 + n % 10) ∷ [])
    ∙ and_from _ _ (last_are_digits p (n / 10)) (and_from _ _ (digit_byte (n % 10) (omega arith)).0 refl)

pub length_last : (p n : ℕ) → length (last_digits p n) ≡ p
length_last zero n = refl
length_last (suc p) n =
    length-append (last_digits p (n / 10)) ((48 + n % 10) ∷ []) ∙ ap (λ k. k + 1) (length_last p (n / 10)) ∙ omega arith

-- the digits before the last ones, then these
pub all_again : (p n : ℕ) → digits_value_after 10 (n / 10 ^ p) (last_digits p n) ≡ n
all_again zero n = omega arith
all_again (suc p) n =
    let leading : n / 10 ^ suc p ≡ n / 10 / 10 ^ p = ap (λ t. n / t) (pow-suc 10 p ∙ turned (10 ^ p)) ∙ sym (div-div-eq-div-mul n 10 (10 ^ p)) in
    after-append (last_digits p (n / 10)) ((48 + n % 10) ∷ []) (n / 10 ^ suc p)
    ∙ ap (λ m. digits_value_after 10 m (last_digits p (n / 10)) * 10 + digit_value (48 + n % 10)) leading
    ∙ ap (λ m. m * 10 + digit_value (48 + n % 10)) (all_again p (n / 10))
    ∙ ap (λ d. n / 10 * 10 + d) (digit_byte (n % 10) (omega arith)).1
    ∙ omega arith where
      turned : (t : ℕ) → t * 10 ≡ 10 * t
      turned t = omega arith

-- ---- the literal that a bound is printed as
sign_printed : ℤ → Sign
sign_printed (pos n) = Unsigned
sign_printed (negsuc n) = Minus

printed : Bound → Literal
unfolding sign_printed
printed b = record {
  sign = sign_printed b.coefficient;
  whole = decimal (unsigned_abs b.coefficient / 10 ^ b.places);
  after_point = last_digits b.places (unsigned_abs b.coefficient);
  exponent = None;
}

sign_same : (c : ℤ) → sign_text (sign_printed c) ≡ sign_of c
unfolding sign_printed
sign_same (pos n) = refl
sign_same (negsuc n) = refl

size_same : (c : ℤ) → signed (is_minus (sign_printed c)) (unsigned_abs c) ≡ c
unfolding sign_printed
size_same (pos n) = refl
size_same (negsuc n) = refl

point_before : (digits : List ℕ) → 0 < length digits → point_text digits ≡ codes "." ++ digits
point_before [] some = absurd (omega arith)
point_before (d ∷ ds) some = refl

pub point_same : (p n : ℕ) → point_text (last_digits p n) ≡ after_point p n
point_same zero n = refl
point_same (suc p) n = point_before (last_digits (suc p) n) (omega (arith, length_last (suc p) n))

text_same : (b : Bound) → text_of_literal (printed b) ≡ text_of b
unfolding printed
text_same b =
    let size = unsigned_abs b.coefficient in
    let whole = decimal (size / 10 ^ b.places) in
    append-nil (sign_text (sign_printed b.coefficient) ++ whole ++ point_text (last_digits b.places size))
    ∙ ap (λ s. s ++ whole ++ point_text (last_digits b.places size)) (sign_same b.coefficient)
    ∙ ap (λ t. sign_of b.coefficient ++ whole ++ t) (point_same b.places size)

printed_spells : (b : Bound) → IsBound b → Spells (text_of b) (printed b)
unfolding printed
printed_spells b h =
    let whole = unsigned_abs b.coefficient / 10 ^ b.places in
    let small : whole < 2 ^ 64 = omega (arith, h.digits, div-le_self (unsigned_abs b.coefficient) (10 ^ b.places)) in
    record {
      written = text_same b;
      whole = digits_decimal numerals whole small;
      some = decimal_nonempty whole small;
      after_point = last_are_digits b.places (unsigned_abs b.coefficient);
      exponent = refl;
    }

exact_same : (b : Bound) → IsBound b → exact_of (printed b) ≡ b
unfolding printed
exact_same b h =
    let size = unsigned_abs b.coefficient in
    let whole = size / 10 ^ b.places in
    let last = last_digits b.places size in
    let sign = is_minus (sign_printed b.coefficient) in
    let value : digits_value 10 (decimal whole ++ last) ≡ size =
    after-append (decimal whole) last 0
    ∙ ap (λ k. digits_value_after 10 k last) (digits_value-decimal numerals whole (omega (arith, h.digits, div-le_self size (10 ^ b.places))))
    ∙ all_again b.places size in
    let times : digits_value 10 (decimal whole ++ last) * 1 ≡ size = omega (arith, value) in
    let places : length last + 0 ≡ b.places = omega (arith, length_last b.places size) in
    ap (λ n. scaled (signed sign n) (length last + 0)) times
    ∙ ap (λ z. scaled z (length last + 0)) (size_same b.coefficient)
    ∙ ap (λ k. scaled b.coefficient k) places

pub read_again : (b : Bound) → IsBound b → IsCanonical b → parsed (text_of b) ≡ Ok b
unfolding parsed
read_again b h least =
    let same : canonical b.coefficient b.places ≡ b =
    one_canonical (canonical b.coefficient b.places) b (IsReduced-canonical b.coefficient b.places).canonical least (IsReduced-canonical b.coefficient b.places).same in
    ap read (spelt_read (text_of b) (printed b) (printed_spells b h))
    ∙ ap (λ x. in_range (as_bound x)) (exact_same b h)
    ∙ ap in_range (in_form b.coefficient b.places h)
    ∙ ap Ok same

-- ---- the length of the text
length_after : (p n : ℕ) → length (after_point p n) ≤ p + 1
length_after zero n = omega arith
length_after (suc p) n = omega (arith, length_last (suc p) n)

length_sign : (c : ℤ) → length (sign_of c) ≤ 1
length_sign (pos n) = omega arith
length_sign (negsuc n) = omega arith

no_quotient : (q t n : ℕ) → q * t ≤ n → n < t → q ≡ 0
no_quotient zero t n h below = refl
no_quotient (suc q) t n h below =
    let more : suc zero * t ≤ suc q * t = mul-le-mul_right t (omega arith) in
    absurd (omega arith)

length_leading : (p n : ℕ) → p ≤ 36 → n < 10 ^ 18 → length (decimal (n / 10 ^ p)) + p ≤ 37
length_leading p n most few = by (cases_lt p 18) where
  small : n / 10 ^ p < 10 ^ 18
  small = omega (arith, div-le_self n (10 ^ p))

  by : (p < 18) ⊎ (18 ≤ p) → length (decimal (n / 10 ^ p)) + p ≤ 37
  by (inl h) = omega (arith, length-decimal-le 18 (n / 10 ^ p) (omega arith) small (omega (arith, small)))
  by (inr h) =
      let power : 10 ^ 18 ≤ 10 ^ p = pow-le-pow_right {n = 10} (lit≤ tt) h in
      let none : n / 10 ^ p < 10 ^ 1 = omega (arith, no_quotient (n / 10 ^ p) (10 ^ p) n (div-mul-le_self n (10 ^ p)) (omega arith)) in
      omega (arith, length-decimal-le 1 (n / 10 ^ p) (omega arith) none (omega (arith, small)))

pub short_text : (b : Bound) → IsBound b → length (text_of b) ≤ 39
short_text b h =
    let size = unsigned_abs b.coefficient in
    let whole = decimal (size / 10 ^ b.places) in
    let leading = length-append (sign_of b.coefficient) whole in
    let all = length-append (sign_of b.coefficient ++ whole) (after_point b.places size) in
    omega (arith, leading, all, length_sign b.coefficient, length_after b.places size, length_leading b.places size h.most h.digits)
