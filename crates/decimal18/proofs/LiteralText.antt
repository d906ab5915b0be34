-- A text is read as a literal exactly where it is that literal's text.
use Rattle.std.proofs.lemmas.Bool.{and_parts}
use Rattle.std.specs.Prelude.{◌≡◌, ℕ, zero, suc, ◌+◌, ◌<◌, ◌≤◌, ◌==◌, ◌&&◌, Bool, true, false, cond, nat_lt, nat_le, List, [], ◌∷◌, ◌++◌, length, take, drop, Option, None, Some, option_map, refl}
use Rattle.std.proofs.Common.{sym, ap, subst, ◌∙◌, arith, append_assoc, take-append-drop}
use Rattle.std.proofs.Math.Seq.{take-append_seam, drop-append_seam}
use mathlib.Core.List.{append-nil}
use Rattle.std.proofs.lemmas.Bool.Decides.{nat_tests}
use Rattle.std.proofs.lemmas.List.Sums.{prefix_len-le-length}
use Rattle.std.proofs.lemmas.List.Folds.{length-prefix_len}
use Rattle.std.specs.List.{prefix_len}
use Rattle.std.specs.Char.{is_ascii_digit}
use Rattle.decimal18.specs.Literal.{Sign, Unsigned, Plus, Minus, Exponent, Literal, sign_text, point_text, exponent_text, text_of_literal, are_digits, is_exponent_letter, are_exponent_digits, is_exponent, Spells, leading_digits, after_digits, leading_sign, after_sign, leading_point, after_leading_point, exponent_of, unsigned_literal, literal_of}
use Rattle.decimal18.proofs.LiteralDigits.{leading_is_digits}

-- ---- what is read is the text
sign_parts : (text : List ℕ) → sign_text (leading_sign text) ++ after_sign text ≡ text
sign_parts [] = refl
sign_parts (c ∷ cs) = by (c == 43) refl (c == 45) refl where
  by : (p : Bool) → (c == 43) ≡ p → (m : Bool) → (c == 45) ≡ m
      → sign_text (cond p Plus (cond m Minus Unsigned)) ++ cond p cs (cond m cs (c ∷ cs)) ≡ c ∷ cs
  by true e m h =
      let same : 43 ≡ c = grind (arith, nat_tests) in
      ap (λ b. b ∷ cs) same
  by false e true h =
      let same : 45 ≡ c = grind (arith, nat_tests) in
      ap (λ b. b ∷ cs) same
  by false e false h = refl

digits_parts : (text : List ℕ) → leading_digits text ++ after_digits text ≡ text
digits_parts text = take-append-drop (prefix_len is_ascii_digit text) text

point_of_digits : (n : ℕ) (text : List ℕ) → n ≤ length text → 0 < n → point_text (take n text) ++ drop n text ≡ 46 ∷ text
point_of_digits zero text h k = absurd (omega arith)
point_of_digits (suc n) [] h k = absurd (omega arith)
point_of_digits (suc n) (c ∷ cs) h k = ap (λ l. 46 ∷ c ∷ l) (take-append-drop n cs)

no_digits : (n : ℕ) (text : List ℕ) → n ≡ 0 → take n text ≡ []
no_digits n text e = rw e refl

point_parts : (text : List ℕ) → point_text (leading_point text) ++ after_leading_point text ≡ text
point_parts [] = refl
point_parts (c ∷ cs) = by (c == 46) refl (nat_lt 0 (prefix_len is_ascii_digit cs)) refl where
  by : (p : Bool) → (c == 46) ≡ p → (m : Bool) → nat_lt 0 (prefix_len is_ascii_digit cs) ≡ m
      → point_text (cond p (leading_digits cs) []) ++ cond (p && m) (after_digits cs) (c ∷ cs) ≡ c ∷ cs
  by true e true h =
      let same : 46 ≡ c = grind (arith, nat_tests) in
      point_of_digits (prefix_len is_ascii_digit cs) cs (prefix_len-le-length is_ascii_digit cs) (grind (arith, nat_tests)) ∙ ap (λ b. b ∷ cs) same
  by true e false h = ap (λ l. point_text l ++ (c ∷ cs)) (no_digits (prefix_len is_ascii_digit cs) cs (grind (arith, nat_tests)))
  by false e m h = refl

-- the exponent that is read has its form and is the text
pub record IsExponentOf (text : List ℕ) (e : Option Exponent) : Type 0 where
  pub written : exponent_text e ≡ text
  pub formed : is_exponent e ≡ true

exponent_parts : (text : List ℕ) (e : Option Exponent) → exponent_of text ≡ Some e → IsExponentOf text e
exponent_parts [] e h =
    let none : None ≡ e = cc in
    subst (λ x. IsExponentOf [] x) none (record { written = refl; formed = refl })
exponent_parts (c ∷ cs) e h = by (is_exponent_letter c && are_exponent_digits (after_sign cs)) refl h where
  found : Exponent
  found = record { letter = c; sign = leading_sign cs; digits = after_sign cs }

  by : (t : Bool) → (is_exponent_letter c && are_exponent_digits (after_sign cs)) ≡ t → cond t (Some (Some found)) None ≡ Some e → IsExponentOf (c ∷ cs) e
  by true k g =
      let same : Some found ≡ e = cc in
      subst (λ x. IsExponentOf (c ∷ cs) x) same (record { written = ap (λ l. c ∷ l) (sign_parts cs); formed = k })
  by false k g = absurd (cc)

leading_point_is_digits : (text : List ℕ) → are_digits (leading_point text) ≡ true
leading_point_is_digits [] = refl
leading_point_is_digits (c ∷ cs) = by (c == 46) where
  by : (p : Bool) → are_digits (cond p (leading_digits cs) []) ≡ true
  by true = leading_is_digits cs
  by false = refl

joined : (a b c d : List ℕ) → a ++ b ++ c ++ d ≡ a ++ (b ++ (c ++ d))
joined a b c d = simp append_assoc

positive_test : (n : ℕ) → 0 < n → nat_lt 0 n ≡ true
positive_test n h = grind (arith, nat_tests)

positive_is : (n : ℕ) → nat_lt 0 n ≡ true → 0 < n
positive_is n h = grind (arith, nat_tests)

unsigned_spells : (sign : Sign) (text : List ℕ) (l : Literal) → unsigned_literal sign text ≡ Some l → Spells (sign_text sign ++ text) l
unsigned_spells sign text l h =
    by (nat_lt 0 (prefix_len is_ascii_digit text)) refl (exponent_of (after_leading_point (after_digits text))) refl h where
      made : Option Exponent → Literal
      made e = record { sign = sign; whole = leading_digits text; after_point = leading_point (after_digits text); exponent = e }

      parts : (e : Option Exponent) → exponent_text e ≡ after_leading_point (after_digits text)
          → sign_text sign ++ (leading_digits text ++ (point_text (leading_point (after_digits text)) ++ exponent_text e)) ≡ sign_text sign ++ text
      parts e k =
          ap (λ t. sign_text sign ++ (leading_digits text ++ (point_text (leading_point (after_digits text)) ++ t))) k
          ∙ ap (λ t. sign_text sign ++ (leading_digits text ++ t)) (point_parts (after_digits text))
          ∙ ap (λ t. sign_text sign ++ t) (digits_parts text)

      by : (t : Bool) → nat_lt 0 (prefix_len is_ascii_digit text) ≡ t
          → (o : Option (Option Exponent)) → exponent_of (after_leading_point (after_digits text)) ≡ o
          → cond t (option_map (λ e. record { sign = sign; whole = leading_digits text; after_point = leading_point (after_digits text); exponent = e }) o) None ≡ Some l
          → Spells (sign_text sign ++ text) l
      by false k o g e = absurd (cc)
      by true k None g e = absurd (cc)
      by true k (Some x) g e =
          let same : record { sign = sign; whole = leading_digits text; after_point = leading_point (after_digits text); exponent = x } ≡ l = cc in
          let exponent = exponent_parts (after_leading_point (after_digits text)) x g in
          subst (λ y. Spells (sign_text sign ++ text) y) same (record {
            written = joined (sign_text sign) (leading_digits text) (point_text (leading_point (after_digits text))) (exponent_text x) ∙ parts x exponent.written;
            whole = leading_is_digits text;
            some = grind (arith, nat_tests, length-prefix_len is_ascii_digit text);
            after_point = leading_point_is_digits (after_digits text);
            exponent = exponent.formed;
          })

-- a literal that is read is spelt by the text
pub read_spelt : (text : List ℕ) (l : Literal) → literal_of text ≡ Some l → Spells text l
read_spelt text l h =
    subst (λ t. Spells t l) (sign_parts text) (unsigned_spells (leading_sign text) (after_sign text) l h)

-- ---- the text of a literal is read as it
digit_is_no_sign : (c : ℕ) (cs : List ℕ) → is_ascii_digit c ≡ true → (leading_sign (c ∷ cs) ≡ Unsigned) × (after_sign (c ∷ cs) ≡ c ∷ cs)
digit_is_no_sign c cs h =
    let plus : (c == 43) ≡ false = grind (arith, nat_tests) in
    let minus : (c == 45) ≡ false = grind (arith, nat_tests) in
    (rw (plus, minus) refl, rw (plus, minus) refl)

-- the text begins with a digit
pub record BeginsWithDigit (text : List ℕ) : Type 0 where
  pub first : ℕ
  pub others : List ℕ
  pub parts : first ∷ others ≡ text
  pub digit : is_ascii_digit first ≡ true

begins : (digits rest : List ℕ) → are_digits digits ≡ true → 0 < length digits → BeginsWithDigit (digits ++ rest)
begins [] rest all some = absurd (omega arith)
begins (c ∷ cs) rest all some = record { first = c; others = cs ++ rest; parts = refl; digit = (and_parts (is_ascii_digit c) (are_digits cs) all).0 }

sign_again : (s : Sign) (text : List ℕ) → BeginsWithDigit text
    → (leading_sign (sign_text s ++ text) ≡ s) × (after_sign (sign_text s ++ text) ≡ text)
sign_again Unsigned text b =
    subst (λ t. (leading_sign t ≡ Unsigned) × (after_sign t ≡ t)) b.parts (digit_is_no_sign b.first b.others b.digit)
sign_again Plus text b = (refl, refl)
sign_again Minus text b = (refl, refl)

run_again : (digits rest : List ℕ) → are_digits digits ≡ true → prefix_len is_ascii_digit rest ≡ 0
    → prefix_len is_ascii_digit (digits ++ rest) ≡ length digits
run_again [] rest all none = none
run_again (c ∷ cs) rest all none =
    let parts = and_parts (is_ascii_digit c) (are_digits cs) all in
    ap (λ t. cond t (1 + prefix_len is_ascii_digit (cs ++ rest)) 0) parts.0 ∙ ap (λ n. 1 + n) (run_again cs rest parts.1 none) ∙ omega arith

digits_again : (digits rest : List ℕ) → are_digits digits ≡ true → prefix_len is_ascii_digit rest ≡ 0
    → (leading_digits (digits ++ rest) ≡ digits) × (after_digits (digits ++ rest) ≡ rest)
digits_again digits rest all none =
    (rw (run_again digits rest all none) (take-append_seam digits rest), rw (run_again digits rest all none) (drop-append_seam digits rest))

-- the text has no digit at its start, and no point
pub record BeginsExponent (text : List ℕ) : Type 0 where
  pub no_digit : prefix_len is_ascii_digit text ≡ 0
  pub no_point : (leading_point text ≡ []) × (after_leading_point text ≡ text)

letter_begins : (c : ℕ) (cs : List ℕ) → is_exponent_letter c ≡ true → BeginsExponent (c ∷ cs)
letter_begins c cs h =
    let digit : is_ascii_digit c ≡ false = grind (arith, nat_tests) in
    let point : (c == 46) ≡ false = grind (arith, nat_tests) in
    record { no_digit = rw digit refl; no_point = (rw point refl, rw point refl) }

exponent_begins : (e : Option Exponent) → is_exponent e ≡ true → BeginsExponent (exponent_text e)
exponent_begins None h = record { no_digit = refl; no_point = (refl, refl) }
exponent_begins (Some e) h = letter_begins e.letter (sign_text e.sign ++ e.digits) (and_parts (is_exponent_letter e.letter) (are_exponent_digits e.digits) h).0

point_begins : (digits rest : List ℕ) → BeginsExponent rest → prefix_len is_ascii_digit (point_text digits ++ rest) ≡ 0
point_begins [] rest b = b.no_digit
point_begins (d ∷ ds) rest b = refl

point_again : (digits rest : List ℕ) → are_digits digits ≡ true → BeginsExponent rest
    → (leading_point (point_text digits ++ rest) ≡ digits) × (after_leading_point (point_text digits ++ rest) ≡ rest)
point_again [] rest all b = b.no_point
point_again (d ∷ ds) rest all b =
    let run = run_again (d ∷ ds) rest all b.no_digit in
    let again = digits_again (d ∷ ds) rest all b.no_digit in
    let some : nat_lt 0 (prefix_len is_ascii_digit (d ∷ ds ++ rest)) ≡ true = positive_test _ (omega (arith, run)) in
    (again.0, ap (λ t. cond t (after_digits (d ∷ ds ++ rest)) (46 ∷ d ∷ ds ++ rest)) some ∙ again.1)

exponent_again : (e : Option Exponent) → is_exponent e ≡ true → exponent_of (exponent_text e) ≡ Some e
exponent_again None h = refl
exponent_again (Some e) h =
    let tests = and_parts (is_exponent_letter e.letter) (are_exponent_digits e.digits) h in
    let digits = and_parts (are_digits e.digits) (nat_lt 0 (length e.digits) && nat_le (length e.digits) 3) tests.1 in
    let some = and_parts (nat_lt 0 (length e.digits)) (nat_le (length e.digits) 3) digits.1 in
    let first = subst BeginsWithDigit (append-nil e.digits) (begins e.digits [] digits.0 (positive_is (length e.digits) some.0)) in
    let again = sign_again e.sign e.digits first in
    rw (again.0, again.1) (ap (λ t. cond t (Some (Some e)) None) h)

assembled : (l : Literal) (t : Bool) (whole point : List ℕ) (o : Option (Option Exponent))
    → t ≡ true → whole ≡ l.whole → point ≡ l.after_point → o ≡ Some l.exponent
    → cond t (option_map (λ e. record { sign = l.sign; whole = whole; after_point = point; exponent = e }) o) None ≡ Some l
assembled l t whole point o a b c d = rw (a, b, c, d) refl

unsigned_again : (l : Literal) → Spells (text_of_literal l) l
    → unsigned_literal l.sign (l.whole ++ (point_text l.after_point ++ exponent_text l.exponent)) ≡ Some l
unsigned_again l h =
    let end = exponent_text l.exponent in
    let rest = point_text l.after_point ++ end in
    let u = l.whole ++ rest in
    let exponent = exponent_begins l.exponent h.exponent in
    let none = point_begins l.after_point end exponent in
    let run = run_again l.whole rest h.whole none in
    let digits = digits_again l.whole rest h.whole none in
    let point = point_again l.after_point end h.after_point exponent in
    assembled
    l (nat_lt 0 (prefix_len is_ascii_digit u)) (leading_digits u) (leading_point (after_digits u)) (exponent_of (after_leading_point (after_digits u)))
    (positive_test _ (omega (arith, run, h.some))) digits.0 (ap leading_point digits.1 ∙ point.0)
    (ap (λ r. exponent_of (after_leading_point r)) digits.1 ∙ ap exponent_of point.1 ∙ exponent_again l.exponent h.exponent)

again : (l : Literal) → Spells (text_of_literal l) l → literal_of (text_of_literal l) ≡ Some l
again l h =
    let rest = point_text l.after_point ++ exponent_text l.exponent in
    let sign = sign_again l.sign (l.whole ++ rest) (begins l.whole rest h.whole h.some) in
    ap literal_of (joined (sign_text l.sign) l.whole (point_text l.after_point) (exponent_text l.exponent))
    ∙ ap (λ s. unsigned_literal s (after_sign (sign_text l.sign ++ (l.whole ++ rest)))) sign.0
    ∙ ap (λ t. unsigned_literal l.sign t) sign.1
    ∙ unsigned_again l h

-- a text that spells a literal is read as it
pub spelt_read : (text : List ℕ) (l : Literal) → Spells text l → literal_of text ≡ Some l
spelt_read text l h = subst (λ t. literal_of t ≡ Some l) h.written (again l (subst (λ t. Spells t l) (sym h.written) h))
