-- The text of a number is one token, whatever stands after it but a letter, a digit, `_` or a point; and a
-- number that was read is an unsigned bound.
use Rattle.std.proofs.lemmas.Bool.{and_parts}
use Rattle.std.specs.Prelude.{◌≡◌, ℕ, zero, suc, ◌+◌, ◌*◌, ◌/◌, ◌%◌, ◌^◌, ◌<◌, ◌==◌, Bool, true, false, cond, nat_lt, ℤ, pos, unsigned_abs, int_div, List, [], ◌∷◌, ◌++◌, length, drop, decimal, Option, None, Some, option_map, refl}
use Rattle.std.proofs.Common.{sym, ap, subst, ◌∙◌, arith, append_assoc, length-append}
use mathlib.Core.List.{append-nil}
use Rattle.std.proofs.Math.Seq.{drop-append_seam}
use Rattle.std.proofs.Math.Nat.{div-le_self}
use Rattle.std.proofs.lemmas.Bool.Decides.{nat_tests}
use Rattle.std.proofs.lemmas.Fmt.{digits_decimal, decimal_nonempty}
use Rattle.std.specs.List.{prefix_len}
use Rattle.std.specs.Char.{is_ascii_digit}
use Rattle.std.specs.Str.Parse.{digits_value}
use Rattle.line_text.proofs.WrittenTexts.{run_whole}
use Rattle.decimal18.proofs.TextAgain.{last_are_digits, length_last}
use Rattle.decimal18.specs.Bound.{Bound, scaled, canonical, IsBound, IsCanonical}
use Rattle.decimal18.specs.Digits.{signed}
use Rattle.decimal18.specs.Text.{last_digits, sign_of, after_point, text_of}
use Rattle.decimal18.specs.Literal.{Sign, Unsigned, Exponent, Literal, is_minus, raised, lowered, are_digits, is_exponent_letter, leading_digits, after_digits, leading_point, after_leading_point, leading_sign, after_sign, exponent_of, unsigned_literal, literal_of, exact_of, is_bound, as_bound, in_range, read, parsed}
use Rattle.decimal18.proofs.Canonical.{IsReduced-canonical}
use Rattle.decimal18.proofs.LiteralDigits.{numerals}
use Rattle.formula_ast.specs.Tokens.{goes_on_run, with_point, point_len, exponent_len, literal_len, bound_in, is_glued}

-- a number that formulas may have: an unsigned bound
pub record IsPrintable (q : Bound) : Type 0 where
  pub bound : IsBound q
  pub canonical : IsCanonical q
  pub size : ℕ
  pub unsigned : q.coefficient ≡ pos size

-- ---- what stands after a token that is not glued
pub no_run : (rest : List ℕ) → is_glued rest ≡ false → prefix_len goes_on_run rest ≡ 0
no_run [] h = refl
no_run (c ∷ cs) h = ap (λ t. cond t (1 + prefix_len goes_on_run cs) 0) h

no_digit : (rest : List ℕ) → is_glued rest ≡ false → prefix_len is_ascii_digit rest ≡ 0
no_digit [] h = refl
no_digit (c ∷ cs) h =
    let no : is_ascii_digit c ≡ false = grind (arith, nat_tests) in
    ap (λ t. cond t (1 + prefix_len is_ascii_digit cs) 0) no

no_point : (rest : List ℕ) → is_glued rest ≡ false → point_len rest ≡ 0
no_point [] h = refl
no_point (c ∷ cs) h =
    let no : (c == 46) ≡ false = grind (arith, nat_tests) in
    ap (λ t. cond t (with_point (prefix_len is_ascii_digit cs)) 0) no

no_exponent : (rest : List ℕ) → is_glued rest ≡ false → exponent_len rest ≡ 0
no_exponent [] h = refl
no_exponent (c ∷ cs) h =
    let no : is_exponent_letter c ≡ false = grind (arith, nat_tests) in
    rw no refl

-- ---- the length of the text of a number
digit_byte : (d : ℕ) → d < 10 → is_ascii_digit (48 + d) ≡ true
digit_byte d below = grind (arith, nat_tests)

after_digit : (p n : ℕ) (rest : List ℕ) → is_glued rest ≡ false → prefix_len is_ascii_digit (after_point p n ++ rest) ≡ 0
after_digit zero n rest h = no_digit rest h
after_digit (suc p) n rest h = refl

point_whole : (p n : ℕ) (rest : List ℕ) → is_glued rest ≡ false → point_len (after_point p n ++ rest) ≡ length (after_point p n)
point_whole zero n rest h = no_point rest h
point_whole (suc p) n rest h =
    ap with_point (run_whole is_ascii_digit (last_digits (suc p) n) rest (last_are_digits (suc p) n) (no_digit rest h))
    ∙ some (length (last_digits (suc p) n)) (omega (arith, length_last (suc p) n)) where
      some : (k : ℕ) → 0 < k → with_point k ≡ suc k
      some zero few = absurd (omega arith)
      some (suc k) few = refl

literal_parts : (text after rest : List ℕ) (w p : ℕ) → prefix_len is_ascii_digit text ≡ w → drop w text ≡ after
    → point_len after ≡ p → drop p after ≡ rest → exponent_len rest ≡ 0 → literal_len text ≡ w + p
literal_parts text after rest w p a b c d e = whole (prefix_len is_ascii_digit text) a where
  whole : (n : ℕ) → n ≡ w → n + point_len (drop n text) + exponent_len (drop (point_len (drop n text)) (drop n text)) ≡ w + p
  whole n h =
      ap (λ m. m + point_len (drop m text) + exponent_len (drop (point_len (drop m text)) (drop m text))) h
      ∙ ap (λ t. w + point_len t + exponent_len (drop (point_len t) t)) b
      ∙ ap (λ m. w + m + exponent_len (drop m after)) c
      ∙ ap (λ t. w + p + exponent_len t) d
      ∙ ap (λ m. w + p + m) e
      ∙ omega arith

-- digits, and what stands after the point
pub numeral_len : (whole : List ℕ) (p n : ℕ) (rest : List ℕ) → are_digits whole ≡ true → is_glued rest ≡ false
    → literal_len ((whole ++ after_point p n) ++ rest) ≡ length (whole ++ after_point p n)
numeral_len whole p n rest digits h =
    let after = after_point p n ++ rest in
    ap literal_len (append_assoc whole (after_point p n) rest)
    ∙ literal_parts (whole ++ after) after rest (length whole) (length (after_point p n))
    (run_whole is_ascii_digit whole after digits (after_digit p n rest h))
    (drop-append_seam whole after)
    (point_whole p n rest h)
    (drop-append_seam (after_point p n) rest)
    (no_exponent rest h)
    ∙ sym (length-append whole (after_point p n))

-- the text begins with a digit
abbrev pub starts_digit : List ℕ → Bool
starts_digit [] = false
starts_digit (c ∷ cs) = is_ascii_digit c

starts : (xs rest : List ℕ) → are_digits xs ≡ true → 0 < length xs → starts_digit (xs ++ rest) ≡ true
starts [] rest all some = absurd (omega arith)
starts (c ∷ cs) rest all some = (and_parts (is_ascii_digit c) (are_digits cs) all).0

-- the text of an unsigned number is the literal at the start
pub record IsNumeral (w : List ℕ) : Type 0 where
  pub begins : starts_digit w ≡ true
  pub whole : (rest : List ℕ) → is_glued rest ≡ false → literal_len (w ++ rest) ≡ length w

whole_numeral : (n p size : ℕ) → n < 2 ^ 64 → IsNumeral (decimal n ++ after_point p size)
whole_numeral n p size small =
    let digits : are_digits (decimal n) ≡ true = digits_decimal numerals n small in
    record {
      begins = starts (decimal n) (after_point p size) digits (decimal_nonempty n small);
      whole = λ rest h. numeral_len (decimal n) p size rest digits h;
    }

pub decimal_numeral : (n : ℕ) → n < 2 ^ 64 → IsNumeral (decimal n)
decimal_numeral n small =
    let digits : are_digits (decimal n) ≡ true = digits_decimal numerals n small in
    subst IsNumeral (nothing (decimal n)) (whole_numeral n 0 0 small) where
      nothing : (xs : List ℕ) → xs ++ after_point 0 0 ≡ xs
      nothing xs = append-nil xs

text_unsigned : (q : Bound) (n : ℕ) → q.coefficient ≡ pos n → decimal (n / 10 ^ q.places) ++ after_point q.places n ≡ text_of q
text_unsigned q n e =
    ap (λ c. sign_of c ++ decimal (unsigned_abs c / 10 ^ q.places) ++ after_point q.places (unsigned_abs c)) (sym e)

pub text_numeral : (q : Bound) → IsPrintable q → IsNumeral (text_of q)
text_numeral q h =
    let few : unsigned_abs q.coefficient ≡ h.size = ap unsigned_abs h.unsigned in
    subst IsNumeral (text_unsigned q h.size h.unsigned)
    (whole_numeral (h.size / 10 ^ q.places) q.places h.size (omega (arith, h.bound.digits, few, div-le_self h.size (10 ^ q.places))))

-- ---- a number that was read
pub sign_kept : (sign : Sign) (text : List ℕ) (l : Literal) → unsigned_literal sign text ≡ Some l → l.sign ≡ sign
sign_kept sign text l h = by (nat_lt 0 (prefix_len is_ascii_digit text)) (exponent_of (after_leading_point (after_digits text))) h where
  by : (t : Bool) (o : Option (Option Exponent))
      → cond t (option_map (λ e. record { sign = sign; whole = leading_digits text; after_point = leading_point (after_digits text); exponent = e }) o) None ≡ Some l
      → l.sign ≡ sign
  by false o e = absurd (cc)
  by true None e = absurd (cc)
  by true (Some x) e =
      let same : record { sign = sign; whole = leading_digits text; after_point = leading_point (after_digits text); exponent = x } ≡ l = cc in
      ap (λ y. y.sign) (sym same)

abbrev IsWhole : ℤ → Type 0
IsWhole c = (n : ℕ) × (c ≡ pos n)

canonical_whole : (p n : ℕ) → IsWhole (canonical (pos n) p).coefficient
canonical_whole zero n = (n, refl)
canonical_whole (suc p) n = by (unsigned_abs (pos n) % 10 == 0) (canonical_whole p (n / 10)) where
  by : (t : Bool) → IsWhole (canonical (pos (n / 10)) p).coefficient
      → IsWhole (cond t (canonical (int_div (pos n) (pos 10)) p) (scaled (pos n) (suc p))).coefficient
  by true h = h
  by false h = (n, refl)

bound_printable : (n p : ℕ) (q : Bound) → as_bound (scaled (pos n) p) ≡ Some q → IsPrintable q
bound_printable n p q h = by (is_bound (canonical (pos n) p)) refl h where
  by : (t : Bool) → is_bound (canonical (pos n) p) ≡ t → cond t (Some (canonical (pos n) p)) None ≡ Some q → IsPrintable q
  by false e g = absurd (cc)
  by true e g =
      let same : canonical (pos n) p ≡ q = cc in
      let whole = canonical_whole p n in
      subst IsPrintable same (record {
        bound = record { digits = grind (arith, nat_tests); most = grind (arith, nat_tests) };
        canonical = (IsReduced-canonical (pos n) p).canonical;
        size = whole.0;
        unsigned = whole.1;
      })

pub digit_no_sign : (c : ℕ) (cs : List ℕ) → is_ascii_digit c ≡ true → leading_sign (c ∷ cs) ≡ Unsigned
digit_no_sign c cs h =
    let plus : (c == 43) ≡ false = grind (arith, nat_tests) in
    let minus : (c == 45) ≡ false = grind (arith, nat_tests) in
    rw (plus, minus) refl

literal_printable : (text : List ℕ) (o : Option Literal) (q : Bound) → ((l : Literal) → o ≡ Some l → l.sign ≡ Unsigned)
    → bound_in (read o) ≡ Some q → IsPrintable q
literal_printable text None q sign h = absurd (cc)
literal_printable text (Some l) q sign h =
    let n = digits_value 10 (l.whole ++ l.after_point) * 10 ^ raised l.exponent in
    let p = length l.after_point + lowered l.exponent in
    let exact : exact_of l ≡ scaled (pos n) p = ap (λ s. scaled (signed (is_minus s) n) p) (sign l refl) in
    bound_printable n p q (some_of (as_bound (scaled (pos n) p)) (ap (λ x. bound_in (in_range (as_bound x))) (sym exact) ∙ h)) where
      some_of : (o : Option Bound) → bound_in (in_range o) ≡ Some q → o ≡ Some q
      some_of None e = absurd (cc)
      some_of (Some b) e = e

-- a literal that begins with a digit is no number, no bound or an unsigned bound
pub read_printable : (c : ℕ) (cs : List ℕ) (q : Bound) → is_ascii_digit c ≡ true → bound_in (parsed (c ∷ cs)) ≡ Some q → IsPrintable q
unfolding parsed
read_printable c cs q d h =
    literal_printable (c ∷ cs) (literal_of (c ∷ cs)) q
    (λ l e. sign_kept (leading_sign (c ∷ cs)) (after_sign (c ∷ cs)) l e ∙ digit_no_sign c cs d) h

pub empty_none : bound_in (parsed []) ≡ None
unfolding parsed
empty_none = refl
