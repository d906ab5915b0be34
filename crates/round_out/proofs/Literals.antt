-- The text of a whole number at a decimal place is a literal, and its value is that number.
use Rattle.std.specs.Prelude.{◌≡◌, ℕ, zero, suc, ◌+◌, ◌*◌, ◌/◌, ◌<◌, ◌^◌, Bool, true, false, ℤ, pos, negsuc, ◌*ℤ◌, unsigned_abs, cond, List, [], ◌∷◌, ◌++◌, length, codes, decimal, replicate, None, refl}
use Rattle.std.proofs.Common.{sym, ◌∙◌, ap, ap₂, subst, arith, append_assoc, length-append}
use Rattle.std.proofs.Math.Nat.{div-le_self, pow-suc}
use Rattle.std.proofs.lemmas.Bool.{and_from}
use Rattle.std.proofs.lemmas.Fmt.{decimal_is_IsNumeral_wide}
use Rattle.std.proofs.lemmas.List.Folds.{list_all-append}
use Rattle.std.proofs.lemmas.Bool.Decides.{Decides-int_eq}
use Rattle.std.specs.Char.{is_ascii_digit}
use Rattle.std.specs.Ordering.{int_eq}
use Rattle.std.specs.Str.Parse.{digits_value, digits_value_after}
use mathlib.Core.List.{append-nil}
use Rattle.exact_fraction.specs.Number.{ℚ, of_ℤ, ◌*ℚ◌}
use Rattle.exact_fraction.specs.NumberLaws.{of_ℤ-*}
use Rattle.exact_fraction.proofs.Quotients.{*ℚ_cancel}
use Rattle.exact_fraction.proofs.Ring.{Whole, ◌:*◌, x0, x1, x2, ring}
use Rattle.line_text.specs.Characters.{digit_zero}
use Rattle.exact_law.specs.Rounding.{ten_to}
use Rattle.decimal18.specs.Bound.{scaled, value_of}
use Rattle.decimal18.specs.Digits.{signed}
use Rattle.decimal18.specs.Literal.{Unsigned, Minus, Sign, Literal, point_text, are_digits, is_minus, Spells, exact_of, IsLiteral}
use Rattle.decimal18.specs.Text.{last_digits, sign_of}
use Rattle.decimal18.proofs.LiteralDigits.{numerals, after-append}
use Rattle.decimal18.proofs.TextAgain.{last_are_digits, length_last, point_same, all_again}
use Rattle.decimal18.proofs.Values.{value-whole}
use Rattle.round_out.specs.Printed.{text_at}
use Rattle.round_out.proofs.Tens.{power_not_zero, cancels, ten_to-inverse, left_place, value_times}

-- ---- a literal without an exponent
sign_before : ℤ → Sign
sign_before (pos n) = Unsigned
sign_before (negsuc n) = Minus

plain : ℤ → List ℕ → List ℕ → Literal
plain c whole after = record { sign = sign_before c; whole = whole; after_point = after; exponent = None }

spells : (c : ℤ) (whole after : List ℕ) → are_digits whole ≡ true → 0 < length whole → are_digits after ≡ true
    → Spells (sign_of c ++ whole ++ point_text after) (plain c whole after)
unfolding plain sign_before
spells (pos n) whole after d s a = record { written = append-nil _; whole = d; some = s; after_point = a; exponent = refl }
spells (negsuc n) whole after d s a = record { written = append-nil _; whole = d; some = s; after_point = a; exponent = refl }

exact : (c : ℤ) (whole after : List ℕ) (k : ℕ) (z : ℤ) → digits_value 10 (whole ++ after) ≡ k → signed (is_minus (sign_before c)) k ≡ z
    → exact_of (plain c whole after) ≡ scaled z (length after)
unfolding plain
exact c whole after k z e f =
    let times : digits_value 10 (whole ++ after) * 1 ≡ k = omega (arith, e) in
    let places : length after + 0 ≡ length after = omega arith in
    ap₂ scaled (ap (λ n. signed (is_minus (sign_before c)) n) times ∙ f) places

is_literal : (c : ℤ) (whole after : List ℕ) (k : ℕ) (z : ℤ) (x : ℚ) → are_digits whole ≡ true → 0 < length whole → are_digits after ≡ true
    → digits_value 10 (whole ++ after) ≡ k → signed (is_minus (sign_before c)) k ≡ z → value_of (scaled z (length after)) ≡ x
    → IsLiteral (sign_of c ++ whole ++ point_text after) x
is_literal c whole after k z x d s a e f g = record {
  literal = plain c whole after;
  spelt = spells c whole after d s a;
  exact = ap value_of (exact c whole after k z e f) ∙ g;
}

-- ---- with a point
size_same : (c : ℤ) → signed (is_minus (sign_before c)) (unsigned_abs c) ≡ c
unfolding sign_before
size_same (pos n) = refl
size_same (negsuc n) = refl

at_places : (c : ℤ) (p : ℕ) → value_of (scaled c (suc p)) ≡ of_ℤ c *ℚ ten_to (negsuc p)
at_places c p =
    *ℚ_cancel _ _ (of_ℤ (pos (10 ^ suc p))) (power_not_zero (suc p))
    (value_times c (suc p)
    ∙ ring (of_ℤ c ∷ []) x0 (x0 :* Whole (pos 1)) refl
    ∙ ap (λ t. of_ℤ c *ℚ t) (sym (ten_to-inverse (negsuc p) (suc p) (cancels p)))
    ∙ ring (of_ℤ c ∷ ten_to (negsuc p) ∷ of_ℤ (pos (10 ^ suc p)) ∷ []) (x0 :* (x1 :* x2)) ((x0 :* x1) :* x2) refl)

places_literal : (c : ℤ) (p : ℕ) → unsigned_abs c < 10 ^ 39 → IsLiteral (text_at c (negsuc p)) (of_ℤ c *ℚ ten_to (negsuc p))
places_literal c p h =
    let size = unsigned_abs c in
    let whole = size / 10 ^ suc p in
    let small : whole < 10 ^ 64 = omega (arith, div-le_self size (10 ^ suc p)) in
    let numeral = decimal_is_IsNumeral_wide whole small in
    let last = last_digits (suc p) size in
    subst (λ t. IsLiteral (sign_of c ++ decimal whole ++ t) (of_ℤ c *ℚ ten_to (negsuc p))) (point_same (suc p) size)
    (is_literal c (decimal whole) last size c _ (numerals.from _ (numeral.0).1) (numeral.0).0 (last_are_digits (suc p) size)
    (after-append (decimal whole) last 0 ∙ ap (λ n. digits_value_after 10 n last) numeral.1 ∙ all_again (suc p) size)
    (size_same c)
    (ap (λ k. value_of (scaled c k)) (length_last (suc p) size) ∙ at_places c p))

-- ---- with zeros
zeros_are_digits : (k : ℕ) → are_digits (replicate k digit_zero) ≡ true
zeros_are_digits zero = refl
zeros_are_digits (suc k) = zeros_are_digits k

zeros_value : (n k : ℕ) → digits_value_after 10 n (replicate k digit_zero) ≡ n * 10 ^ k
zeros_value n zero = omega arith
zeros_value n (suc k) = zeros_value (n * 10 + 0) k ∙ times_ten n (10 ^ k) ∙ ap (λ t. n * t) (sym (pow-suc 10 k)) where
  times_ten : (n t : ℕ) → (n * 10 + 0) * t ≡ n * (t * 10)
  times_ten n t = omega arith

signed_times : (c : ℤ) (t : ℕ) → signed (is_minus (sign_before c)) (unsigned_abs c * t) ≡ (c *ℤ pos t)
unfolding sign_before
signed_times (pos n) t = refl
signed_times (negsuc n) t = refl

zero_literal : (k : ℕ) → IsLiteral (codes "0") (of_ℤ (pos 0) *ℚ ten_to (pos k))
unfolding sign_before
zero_literal k =
    is_literal (pos 0) (codes "0") [] 0 (pos 0) _ refl (omega arith) refl refl refl
    (value-whole (pos 0) ∙ ring (ten_to (pos k) ∷ []) (Whole (pos 0)) (Whole (pos 0) :* x0) refl)

some_literal : (c : ℤ) (k : ℕ) → unsigned_abs c < 10 ^ 39
    → IsLiteral (sign_of c ++ decimal (unsigned_abs c) ++ replicate k digit_zero) (of_ℤ c *ℚ ten_to (pos k))
some_literal c k h =
    let size = unsigned_abs c in
    let zeros = replicate k digit_zero in
    let small : size < 10 ^ 64 = omega arith in
    let numeral = decimal_is_IsNumeral_wide size small in
    subst (λ t. IsLiteral t (of_ℤ c *ℚ ten_to (pos k))) (append-nil (sign_of c ++ (decimal size ++ zeros)) ∙ sym (append_assoc (sign_of c) (decimal size) zeros))
    (is_literal c (decimal size ++ zeros) [] (size * 10 ^ k) (c *ℤ pos (10 ^ k)) _
    (list_all-append is_ascii_digit (decimal size) zeros ∙ and_from _ _ (numerals.from _ (numeral.0).1) (zeros_are_digits k))
    (omega (arith, (numeral.0).0, length-append (decimal size) zeros)) refl
    (ap (λ t. digits_value 10 t) (append-nil (decimal size ++ zeros)) ∙ after-append (decimal size) zeros 0
    ∙ ap (λ n. digits_value_after 10 n zeros) numeral.1 ∙ zeros_value size k)
    (signed_times c (10 ^ k))
    (value-whole (c *ℤ pos (10 ^ k)) ∙ of_ℤ-* c (pos (10 ^ k)) ∙ ap (λ t. of_ℤ c *ℚ t) (sym (left_place k))))

zeros_literal : (c : ℤ) (k : ℕ) → unsigned_abs c < 10 ^ 39 → IsLiteral (text_at c (pos k)) (of_ℤ c *ℚ ten_to (pos k))
zeros_literal c k h = by (int_eq c (pos 0)) refl where
  by : (b : Bool) → int_eq c (pos 0) ≡ b → IsLiteral (cond b (codes "0") (sign_of c ++ decimal (unsigned_abs c) ++ replicate k digit_zero)) (of_ℤ c *ℚ ten_to (pos k))
  by true e = subst (λ z. IsLiteral (codes "0") (of_ℤ z *ℚ ten_to (pos k))) (sym ((Decides-int_eq c (pos 0)).0 e)) (zero_literal k)
  by false e = some_literal c k h

pub text_literal : (c e : ℤ) → unsigned_abs c < 10 ^ 39 → IsLiteral (text_at c e) (of_ℤ c *ℚ ten_to e)
text_literal c (pos k) h = zeros_literal c k h
text_literal c (negsuc p) h = places_literal c p h
