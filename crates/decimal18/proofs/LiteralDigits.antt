-- Whole numbers read digit by digit: their digits before the zeros at their end.
use Rattle.std.proofs.lemmas.Bool.{and_parts, and_from}
use Rattle.std.specs.Prelude.{◌≡◌, ◌≢◌, ℕ, zero, suc, ◌+◌, ◌-◌, ◌*◌, ◌%◌, ◌^◌, ◌<◌, ◌≤◌, Bool, true, false, cond, List, [], ◌∷◌, ◌++◌, length, take, drop, get_or, refl}
use Rattle.std.proofs.lemmas.List.Folds.{list_all-append}
use Rattle.std.proofs.Common.{take-append-drop, subst, sym, ap, ◌∙◌, arith, rules, drop-cons, add-one}
use Rattle.std.proofs.Math.Dec.{lit≤}
use Rattle.std.proofs.Math.Nat.{pow-le-pow_right, mul-le-mul_right, pow-suc}
use Rattle.std.proofs.Math.Pow.{pow-add}
use Rattle.std.specs.List.{prefix_len}
use Rattle.std.specs.Char.{is_ascii_digit, digit_value}
use Rattle.std.specs.Str.Parse.{digits_value, digits_value_after}
use Rattle.std.specs.Int.{IsInRange}
use Rattle.std.proofs.lemmas.Str.{digit_value_digit}
use Rattle.std.proofs.lemmas.Str.Parse.{IsNumeralModel, numerals_by_value, digit_at}
use Rattle.decimal18.specs.Literal.{are_digits}
use Rattle.decimal18.specs.Significand.{IsLong}

pub one_zero_more : (d z : ℕ) → d * 10 ^ z * 10 + 0 ≡ d * 10 ^ (z + 1)
one_zero_more d z = omega (arith, ap (λ n. d * n) (pow-add 10 z 1))

pub one_digit_more : (d z e : ℕ) → d * 10 ^ z * 10 + e ≡ d * 10 ^ (z + 1) + e
one_digit_more d z e = omega (arith, ap (λ n. d * n) (pow-add 10 z 1))

-- a number of more than 18 digits, the last of which is not 0
pub no_zero_last : (n : ℕ) → n % 10 ≢ 0 → 10 ^ 18 ≤ n → IsLong n
no_zero_last n last many = record { least = by } where
  by : (c k : ℕ) → n ≡ c * 10 ^ k → 10 ^ 18 ≤ c
  by c zero e = omega arith
  by c (suc k) e =
      let split : c * 10 ^ (suc k) ≡ c * 10 ^ k * 10 = omega (arith, ap (λ m. c * m) (pow-suc 10 k)) in
      absurd (last (omega arith))

pub long_digit : (n e : ℕ) → e < 10 → IsLong n → IsLong (n * 10 + e)
long_digit n e below long = record { least = by } where
  by : (c k : ℕ) → n * 10 + e ≡ c * 10 ^ k → 10 ^ 18 ≤ c
  by c zero h = omega (arith, long.least n 0 (omega arith))
  by c (suc k) h =
      let split : c * 10 ^ (suc k) ≡ c * 10 ^ k * 10 = omega (arith, ap (λ m. c * m) (pow-suc 10 k)) in
      long.least c k (omega arith)

-- 17 zeros after a digit, and one digit more
pub many_zeros : (d z e : ℕ) → d ≢ 0 → 16 < z → 10 ^ 18 ≤ d * 10 ^ z * 10 + e
many_zeros d z e some many =
    let power : 10 ^ 17 ≤ 10 ^ z = pow-le-pow_right {n = 10} (lit≤ tt) many in
    let times : 1 * 10 ^ z ≤ d * 10 ^ z = mul-le-mul_right (10 ^ z) (omega arith) in
    omega arith

pub numerals : IsNumeralModel (λ ds. are_digits ds ≡ true) (digits_value 10)
numerals = numerals_by_value _ (search rules)

-- a byte of digits is a digit, and its value
pub digit_in : (text : List ℕ) (i : ℕ) → are_digits text ≡ true → i < length text → IsInRange 48 57 (get_or text i 0)
digit_in text i all within = digit_at text i (numerals.to text all) within

pub value_from : (text : List ℕ) (n i : ℕ) → are_digits text ≡ true → i < length text
    → digits_value_after 10 n (drop i text) ≡ digits_value_after 10 (n * 10 + (get_or text i 0 - 48)) (drop (i + 1) text)
value_from text n i all within =
    let same : digit_value (get_or text i 0) ≡ get_or text i 0 - 48 = omega (arith, digit_value_digit (get_or text i 0) (digit_in text i all within)) in
    ap (digits_value_after 10 n) (drop-cons text i 0 within)
    ∙ ap (λ d. digits_value_after 10 (n * 10 + d) (drop (suc i) text)) same
    ∙ ap (λ k. digits_value_after 10 (n * 10 + (get_or text i 0 - 48)) (drop k text)) (sym (add-one i))

-- the value of a digit
pub digit_below : (c : ℕ) → is_ascii_digit c ≡ true → digit_value c < 10
digit_below c h =
    let range : IsInRange 48 57 c = digit_in (c ∷ []) 0 (rw h refl) (omega arith) in
    omega (arith, digit_value_digit c range)

-- more digits leave a long number long
pub long_after : (text : List ℕ) (n : ℕ) → are_digits text ≡ true → IsLong n → IsLong (digits_value_after 10 n text)
long_after [] n all long = long
long_after (c ∷ cs) n all long =
    let parts = and_parts (is_ascii_digit c) (are_digits cs) all in
    long_after cs (n * 10 + digit_value c) parts.1 (long_digit n (digit_value c) (digit_below c parts.0) long)

-- the leading digits are digits
pub leading_is_digits : (text : List ℕ) → are_digits (take (prefix_len is_ascii_digit text) text) ≡ true
leading_is_digits [] = refl
leading_is_digits (c ∷ cs) = by (is_ascii_digit c) refl (leading_is_digits cs) where
  by : (t : Bool) → is_ascii_digit c ≡ t → are_digits (take (prefix_len is_ascii_digit cs) cs) ≡ true
      → are_digits (take (cond t (1 + prefix_len is_ascii_digit cs) 0) (c ∷ cs)) ≡ true
  by false e h = refl
  by true e h =
      let one : 1 + prefix_len is_ascii_digit cs ≡ suc (prefix_len is_ascii_digit cs) = omega arith in
      ap (λ k. are_digits (take k (c ∷ cs))) one ∙ and_from (is_ascii_digit c) (are_digits (take (prefix_len is_ascii_digit cs) cs)) e h

digits_after : (text : List ℕ) (i : ℕ) → are_digits text ≡ true → are_digits (drop i text) ≡ true
digits_after text i all =
    (and_parts (are_digits (take i text)) (are_digits (drop i text))
    (sym (list_all-append is_ascii_digit (take i text) (drop i text)) ∙ ap are_digits (take-append-drop i text) ∙ all)).1

-- a number that is long at one digit of the text is long at its end
pub long_on : (text : List ℕ) (n i v : ℕ) → are_digits text ≡ true → i < length text
    → digits_value_after 10 n (drop i text) ≡ v → IsLong (n * 10 + (get_or text i 0 - 48)) → IsLong v
long_on text n i v all within value long =
    subst IsLong (sym (value_from text n i all within) ∙ value)
    (long_after (drop (i + 1) text) (n * 10 + (get_or text i 0 - 48)) (digits_after text (i + 1) all) long)

-- ---- the digits before the point, then those after it
pub after-append : (xs ys : List ℕ) (n : ℕ) → digits_value_after 10 n (xs ++ ys) ≡ digits_value_after 10 (digits_value_after 10 n xs) ys
after-append [] ys n = refl
after-append (x ∷ xs) ys n = after-append xs ys (n * 10 + digit_value x)

pub parts_value : (whole after : List ℕ) (n m : ℕ) → digits_value 10 whole ≡ n → digits_value_after 10 n after ≡ m
    → digits_value 10 (whole ++ after) ≡ m
parts_value whole after n m e h = after-append whole after 0 ∙ ap (λ k. digits_value_after 10 k after) e ∙ h

pub long_whole : (whole after : List ℕ) → are_digits after ≡ true → IsLong (digits_value 10 whole) → IsLong (digits_value 10 (whole ++ after))
long_whole whole after all long =
    subst IsLong (sym (after-append whole after 0)) (long_after after (digits_value 10 whole) all long)

pub long_parts : (whole after : List ℕ) (n : ℕ) → digits_value 10 whole ≡ n → IsLong (digits_value_after 10 n after)
    → IsLong (digits_value 10 (whole ++ after))
long_parts whole after n e long = subst IsLong (sym (parts_value whole after n _ e refl)) long

-- digits and zeros times one more power
pub more_zeros : (n digits zeros raised : ℕ) → n ≡ digits * 10 ^ zeros → digits * 10 ^ (zeros + raised) ≡ n * 10 ^ raised
more_zeros n digits zeros raised e = omega (arith, ap (λ t. t * 10 ^ raised) e, ap (λ t. digits * t) (pow-add 10 zeros raised))

-- 18 zeros after a digit
pub many_zeros_after : (d z : ℕ) → 0 < d → 18 ≤ z → 10 ^ 18 ≤ d * 10 ^ z
many_zeros_after d z some many =
    let power : 10 ^ 18 ≤ 10 ^ z = pow-le-pow_right {n = 10} (lit≤ tt) many in
    let times : 1 * 10 ^ z ≤ d * 10 ^ z = mul-le-mul_right (10 ^ z) (omega arith) in
    omega arith
