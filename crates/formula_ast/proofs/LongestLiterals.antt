-- The number at the start of a text is the longest literal there.
use Rattle.std.proofs.lemmas.Bool.{and_parts, and_from}
use Rattle.std.specs.Prelude.{◌≡◌, ℕ, zero, suc, ◌+◌, ◌≤◌, ◌<◌, ◌==◌, ◌&&◌, ◌||◌, Bool, true, false, cond, nat_lt, nat_le, min, List, [], ◌∷◌, ◌++◌, length, take, drop, Option, None, Some, IsSome, refl}
use Rattle.std.proofs.Common.{sym, ap, subst, ◌∙◌, arith, append_assoc, length-append, take-append-drop}
use Rattle.std.proofs.Math.Seq.{take-add, drop-append_seam}
use Rattle.std.proofs.lemmas.Bool.Decides.{nat_tests}
use Rattle.std.proofs.lemmas.List.{length-take}
use Rattle.std.specs.List.{prefix_len}
use Rattle.std.specs.Char.{is_ascii_digit}
use Rattle.line_text.proofs.WrittenTexts.{run_whole}
use Rattle.decimal18.specs.Literal.{Sign, Unsigned, Plus, Minus, Exponent, Literal, sign_text, point_text, exponent_text, text_of_literal, are_digits, is_exponent_letter, are_exponent_digits, is_exponent, Spells, leading_sign, after_sign, literal_of}
use Rattle.decimal18.proofs.LiteralText.{read_spelt, spelt_read}
use Rattle.formula_ast.specs.Tokens.{with_point, point_len, sign_len, with_letter, exponent_len, literal_len}
use Rattle.formula_ast.proofs.PrintedNumbers.{sign_kept, digit_no_sign}

-- ---- it is a literal
-- the first digits of a run
record IsRun (digits : List ℕ) (n : ℕ) : Type 0 where
  all : are_digits digits ≡ true
  count : length digits ≡ n

first_digits : (text : List ℕ) (n : ℕ) → n ≤ prefix_len is_ascii_digit text → IsRun (take n text) n
first_digits text zero h = record { all = refl; count = refl }
first_digits [] (suc n) h = absurd (omega arith)
first_digits (c ∷ cs) (suc n) h = by (is_ascii_digit c) refl h (λ k. first_digits cs n k) where
  by : (t : Bool) → is_ascii_digit c ≡ t → suc n ≤ cond t (1 + prefix_len is_ascii_digit cs) 0
      → (n ≤ prefix_len is_ascii_digit cs → IsRun (take n cs) n) → IsRun (c ∷ take n cs) (suc n)
  by false e k f = absurd (omega arith)
  by true e k f =
      let rest = f (omega arith) in
      record { all = and_from (is_ascii_digit c) (are_digits (take n cs)) e rest.all; count = omega (arith, rest.count) }

record IsPointPart (text : List ℕ) : Type 0 where
  digits : List ℕ
  all : are_digits digits ≡ true
  written : point_text digits ≡ take (point_len text) text

point_of : (digits : List ℕ) → 0 < length digits → point_text digits ≡ 46 ∷ digits
point_of [] h = absurd (omega arith)
point_of (d ∷ ds) h = refl

point_part : (text : List ℕ) → IsPointPart text
point_part [] = record { digits = []; all = refl; written = refl }
point_part (c ∷ cs) = by (c == 46) refl (prefix_len is_ascii_digit cs) refl where
  by : (t : Bool) → (c == 46) ≡ t → (n : ℕ) → prefix_len is_ascii_digit cs ≡ n → IsPointPart (c ∷ cs)
  by false e n k = record { digits = []; all = refl; written = ap (λ t. take (cond t (with_point (prefix_len is_ascii_digit cs)) 0) (c ∷ cs)) (sym e) }
  by true e zero k = record {
    digits = [];
    all = refl;
    written = sym (ap (λ t. take (cond t (with_point (prefix_len is_ascii_digit cs)) 0) (c ∷ cs)) e ∙ ap (λ m. take (with_point m) (c ∷ cs)) k);
  }
  by true e (suc n) k =
      let run = first_digits cs (suc n) (omega arith) in
      let point : 46 ≡ c = grind (arith, nat_tests) in
      record {
        digits = take (suc n) cs;
        all = run.all;
        written = point_of (take (suc n) cs) (omega (arith, run.count))
            ∙ ap (λ b. b ∷ take (suc n) cs) point
            ∙ sym (ap (λ t. take (cond t (with_point (prefix_len is_ascii_digit cs)) 0) (c ∷ cs)) e ∙ ap (λ m. take (with_point m) (c ∷ cs)) k);
      }

record IsExponentPart (text : List ℕ) : Type 0 where
  exponent : Option Exponent
  formed : is_exponent exponent ≡ true
  written : exponent_text exponent ≡ take (exponent_len text) text

leading_sign_text : (text : List ℕ) → sign_text (leading_sign text) ≡ take (sign_len text) text
leading_sign_text [] = refl
leading_sign_text (b ∷ bs) = by (b == 43) refl (b == 45) refl where
  by : (p : Bool) → (b == 43) ≡ p → (m : Bool) → (b == 45) ≡ m
      → sign_text (cond p Plus (cond m Minus Unsigned)) ≡ take (cond (p || m) 1 0) (b ∷ bs)
  by true e m h =
      let same : 43 ≡ b = grind (arith, nat_tests) in
      ap (λ c. c ∷ []) same
  by false e true h =
      let same : 45 ≡ b = grind (arith, nat_tests) in
      ap (λ c. c ∷ []) same
  by false e false h = refl

exponent_part : (text : List ℕ) → IsExponentPart text
exponent_part [] = record { exponent = None; formed = refl; written = refl }
exponent_part (c ∷ cs) = by (is_exponent_letter c) refl (min 3 (prefix_len is_ascii_digit (drop (sign_len cs) cs))) refl where
  after : List ℕ
  after = drop (sign_len cs) cs

  by : (t : Bool) → is_exponent_letter c ≡ t → (n : ℕ) → min 3 (prefix_len is_ascii_digit (drop (sign_len cs) cs)) ≡ n → IsExponentPart (c ∷ cs)
  by false e n k = record {
    exponent = None;
    formed = refl;
    written = ap (λ t. take (cond t (with_letter (sign_len cs) (min 3 (prefix_len is_ascii_digit (drop (sign_len cs) cs)))) 0) (c ∷ cs)) (sym e);
  }
  by true e zero k = record {
    exponent = None;
    formed = refl;
    written = sym (ap (λ t. take (cond t (with_letter (sign_len cs) (min 3 (prefix_len is_ascii_digit (drop (sign_len cs) cs)))) 0) (c ∷ cs)) e
        ∙ ap (λ m. take (with_letter (sign_len cs) m) (c ∷ cs)) k);
  }
  by true e (suc n) k =
      let digits = take (suc n) (drop (sign_len cs) cs) in
      let run = first_digits (drop (sign_len cs) cs) (suc n) (omega arith) in
      let some : nat_lt 0 (length digits) ≡ true = grind (arith, nat_tests, run.count) in
      let few : nat_le (length digits) 3 ≡ true = grind (arith, nat_tests, run.count) in
      record {
        exponent = Some (record { letter = c; sign = leading_sign cs; digits = digits });
        formed = and_from (is_exponent_letter c) (are_exponent_digits digits) e
            (and_from (are_digits digits) (nat_lt 0 (length digits) && nat_le (length digits) 3) run.all
            (and_from (nat_lt 0 (length digits)) (nat_le (length digits) 3) some few));
        written = ap (λ t. c ∷ (t ++ digits)) (leading_sign_text cs)
            ∙ ap (λ t. c ∷ t) (sym (take-add (sign_len cs) (suc n) cs))
            ∙ sym (ap (λ t. take (cond t (with_letter (sign_len cs) (min 3 (prefix_len is_ascii_digit (drop (sign_len cs) cs)))) 0) (c ∷ cs)) e
            ∙ ap (λ m. take (with_letter (sign_len cs) m) (c ∷ cs)) k);
      }

drop_more : (n k : ℕ) (text : List ℕ) → drop (n + k) text ≡ drop k (drop n text)
drop_more zero k text = ap (λ m. drop m text) (omega arith)
drop_more (suc n) zero [] =
    let more : suc n + zero ≡ suc n = omega arith in
    ap (λ m. drop {A = ℕ} m []) more
drop_more (suc n) (suc k) [] =
    let more : suc n + suc k ≡ suc (n + suc k) = omega arith in
    ap (λ m. drop {A = ℕ} m []) more
drop_more (suc n) k (c ∷ cs) =
    let more : suc n + k ≡ suc (n + k) = omega arith in
    ap (λ m. drop m (c ∷ cs)) more ∙ drop_more n k cs

is_read : (text : List ℕ) (l : Literal) → Spells text l → IsSome (literal_of text)
is_read text l h = subst (λ o. IsSome o) (sym (spelt_read text l h)) refl

pub number_is_literal : (byte : ℕ) (bytes : List ℕ) → is_ascii_digit byte ≡ true
    → IsSome (literal_of (take (literal_len (byte ∷ bytes)) (byte ∷ bytes)))
number_is_literal byte bytes d =
    let text = byte ∷ bytes in
    let w = prefix_len is_ascii_digit text in
    let p = point_len (drop w text) in
    let e = exponent_len (drop p (drop w text)) in
    let point = point_part (drop w text) in
    let exponent = exponent_part (drop p (drop w text)) in
    let whole = first_digits text w (omega arith) in
    let some : prefix_len is_ascii_digit text ≡ 1 + prefix_len is_ascii_digit bytes = ap (λ t. cond t (1 + prefix_len is_ascii_digit bytes) 0) d in
    let l : Literal = record { sign = Unsigned; whole = take w text; after_point = point.digits; exponent = exponent.exponent } in
    let written : text_of_literal l ≡ take (w + p + e) text =
    ap (λ t. take w text ++ t ++ exponent_text exponent.exponent) point.written
    ∙ ap (λ t. take w text ++ take p (drop w text) ++ t) exponent.written
    ∙ ap (λ t. t ++ take e (drop p (drop w text))) (sym (take-add w p text))
    ∙ ap (λ t. take (w + p) text ++ take e t) (sym (drop_more w p text))
    ∙ sym (take-add (w + p) e text) in
    is_read (take (w + p + e) text) l (record {
      written = written;
      whole = whole.all;
      some = omega (arith, whole.count, some);
      after_point = point.all;
      exponent = exponent.formed;
    })

-- ---- no longer text at the start is one
run_least : (digits rest : List ℕ) → are_digits digits ≡ true → length digits ≤ prefix_len is_ascii_digit (digits ++ rest)
run_least [] rest h = omega arith
run_least (c ∷ cs) rest h =
    let parts = and_parts (is_ascii_digit c) (are_digits cs) h in
    let more = run_least cs rest parts.1 in
    let first : prefix_len is_ascii_digit ((c ∷ cs) ++ rest) ≡ 1 + prefix_len is_ascii_digit (cs ++ rest) =
    ap (λ t. cond t (1 + prefix_len is_ascii_digit (cs ++ rest)) 0) parts.0 in
    omega (arith, first)

with_point_least : (n : ℕ) → 0 < n → suc n ≤ with_point n
with_point_least zero h = absurd (omega arith)
with_point_least (suc n) h = omega arith

with_letter_least : (s n : ℕ) → 0 < n → suc (s + n) ≤ with_letter s n
with_letter_least s zero h = absurd (omega arith)
with_letter_least s (suc n) h = omega arith

sign_again : (s : Sign) (digits rest : List ℕ) → are_digits digits ≡ true → 0 < length digits
    → (sign_len ((sign_text s ++ digits) ++ rest) ≡ length (sign_text s)) × (drop (length (sign_text s)) ((sign_text s ++ digits) ++ rest) ≡ digits ++ rest)
sign_again Plus digits rest h some = (refl, refl)
sign_again Minus digits rest h some = (refl, refl)
sign_again Unsigned [] rest h some = absurd (omega arith)
sign_again Unsigned (c ∷ cs) rest h some =
    let digit = (and_parts (is_ascii_digit c) (are_digits cs) h).0 in
    let no : (c == 43 || c == 45) ≡ false = grind (arith, nat_tests) in
    (ap (λ t. cond t 1 0) no, refl)

exponent_least : (e : Exponent) (rest : List ℕ) → is_exponent (Some e) ≡ true → length (exponent_text (Some e)) ≤ exponent_len (exponent_text (Some e) ++ rest)
exponent_least e rest h =
    let tests = and_parts (is_exponent_letter e.letter) (are_exponent_digits e.digits) h in
    let digits = and_parts (are_digits e.digits) (nat_lt 0 (length e.digits) && nat_le (length e.digits) 3) tests.1 in
    let counts = and_parts (nat_lt 0 (length e.digits)) (nat_le (length e.digits) 3) digits.1 in
    let some : 0 < length e.digits = positive (length e.digits) counts.0 in
    let few : length e.digits ≤ 3 = at_most (length e.digits) counts.1 in
    let text = (sign_text e.sign ++ e.digits) ++ rest in
    let sign = sign_again e.sign e.digits rest digits.0 some in
    let run = run_least e.digits rest digits.0 in
    let n = min 3 (prefix_len is_ascii_digit (e.digits ++ rest)) in
    let whole : exponent_len (e.letter ∷ text) ≡ with_letter (length (sign_text e.sign)) n =
    ap (λ t. cond t (with_letter (sign_len text) (min 3 (prefix_len is_ascii_digit (drop (sign_len text) text)))) 0) tests.0
    ∙ ap (λ m. with_letter m (min 3 (prefix_len is_ascii_digit (drop m text)))) sign.0
    ∙ ap (λ t. with_letter (length (sign_text e.sign)) (min 3 (prefix_len is_ascii_digit t))) sign.1 in
    let least = with_letter_least (length (sign_text e.sign)) n (omega (arith, some, run)) in
    omega (arith, length-append (sign_text e.sign) e.digits, whole, least, few, run) where
      positive : (k : ℕ) → nat_lt 0 k ≡ true → 0 < k
      positive k t = grind (arith, nat_tests)

      at_most : (k : ℕ) → nat_le k 3 ≡ true → k ≤ 3
      at_most k t = grind (arith, nat_tests)

letter_no_digit : (c : ℕ) (cs : List ℕ) → is_exponent_letter c ≡ true
    → (prefix_len is_ascii_digit (c ∷ cs) ≡ 0) × (point_len (c ∷ cs) ≡ 0)
letter_no_digit c cs h =
    let digit : is_ascii_digit c ≡ false = grind (arith, nat_tests) in
    let point : (c == 46) ≡ false = grind (arith, nat_tests) in
    (ap (λ t. cond t (1 + prefix_len is_ascii_digit cs) 0) digit, ap (λ t. cond t (with_point (prefix_len is_ascii_digit cs)) 0) point)

-- the parts of the literal at the start, at least
parts_least : (text after rest : List ℕ) (w p e : ℕ) → prefix_len is_ascii_digit text ≡ w → drop w text ≡ after
    → point_len after ≡ p → drop p after ≡ rest → e ≤ exponent_len rest → w + p + e ≤ literal_len text
parts_least text after rest w p e a b c d least = whole (prefix_len is_ascii_digit text) a where
  whole : (n : ℕ) → n ≡ w → w + p + e ≤ n + point_len (drop n text) + exponent_len (drop (point_len (drop n text)) (drop n text))
  whole n h =
      let same : n + point_len (drop n text) + exponent_len (drop (point_len (drop n text)) (drop n text)) ≡ w + p + exponent_len rest =
      ap (λ m. m + point_len (drop m text) + exponent_len (drop (point_len (drop m text)) (drop m text))) h
      ∙ ap (λ t. w + point_len t + exponent_len (drop (point_len t) t)) b
      ∙ ap (λ m. w + m + exponent_len (drop m after)) c
      ∙ ap (λ t. w + p + exponent_len t) d in
      omega (arith, same, least)

point_parts_least : (text after : List ℕ) (w p : ℕ) → prefix_len is_ascii_digit text ≡ w → drop w text ≡ after
    → p ≤ point_len after → w + p ≤ literal_len text
point_parts_least text after w p a b least =
    let all = parts_least text after (drop (point_len after) after) w (point_len after) 0 a b refl refl (omega arith) in
    omega (arith, all)

digits_least : (text : List ℕ) (w : ℕ) → w ≤ prefix_len is_ascii_digit text → w ≤ literal_len text
digits_least text w least =
    let all = point_parts_least text (drop (prefix_len is_ascii_digit text) text) (prefix_len is_ascii_digit text) 0 refl refl (omega arith) in
    omega (arith, all)

literal_least : (whole point rest : List ℕ) (e : Option Exponent) → are_digits whole ≡ true → are_digits point ≡ true → is_exponent e ≡ true
    → length whole + length (point_text point) + length (exponent_text e) ≤ literal_len (whole ++ (point_text point ++ (exponent_text e ++ rest)))
literal_least whole [] rest None a b f =
    let all = digits_least (whole ++ rest) (length whole) (run_least whole rest a) in
    omega (arith, all)
literal_least whole (d ∷ ds) rest None a b f =
    let after = 46 ∷ ((d ∷ ds) ++ rest) in
    let run = run_least (d ∷ ds) rest b in
    let point = with_point_least (prefix_len is_ascii_digit ((d ∷ ds) ++ rest)) (omega (arith, run)) in
    let all = point_parts_least (whole ++ after) after (length whole) (suc (length (d ∷ ds)))
    (run_whole is_ascii_digit whole after a refl) (drop-append_seam whole after) (omega (arith, point, run)) in
    omega (arith, all)
literal_least whole [] rest (Some e) a b f =
    let letter = (and_parts (is_exponent_letter e.letter) (are_exponent_digits e.digits) f).0 in
    let after = exponent_text (Some e) ++ rest in
    let none = letter_no_digit e.letter ((sign_text e.sign ++ e.digits) ++ rest) letter in
    let all = parts_least (whole ++ after) after after (length whole) 0 (length (exponent_text (Some e)))
    (run_whole is_ascii_digit whole after a none.0) (drop-append_seam whole after) none.1 refl (exponent_least e rest f) in
    omega (arith, all)
literal_least whole (d ∷ ds) rest (Some e) a b f =
    let letter = (and_parts (is_exponent_letter e.letter) (are_exponent_digits e.digits) f).0 in
    let last = exponent_text (Some e) ++ rest in
    let after = 46 ∷ ((d ∷ ds) ++ last) in
    let none = letter_no_digit e.letter ((sign_text e.sign ++ e.digits) ++ rest) letter in
    let run : prefix_len is_ascii_digit ((d ∷ ds) ++ last) ≡ length (d ∷ ds) = run_whole is_ascii_digit (d ∷ ds) last b none.0 in
    let all = parts_least (whole ++ after) after last (length whole) (suc (length (d ∷ ds))) (length (exponent_text (Some e)))
    (run_whole is_ascii_digit whole after a refl) (drop-append_seam whole after) (ap with_point run) (drop-append_seam (46 ∷ d ∷ ds) last) (exponent_least e rest f) in
    omega (arith, all)

spelt_least : (text rest : List ℕ) (l : Literal) → Spells text l → l.sign ≡ Unsigned → length text ≤ literal_len (text ++ rest)
spelt_least text rest l h u =
    let written : (l.whole ++ point_text l.after_point) ++ exponent_text l.exponent ≡ text =
    ap (λ s. sign_text s ++ l.whole ++ point_text l.after_point ++ exponent_text l.exponent) (sym u) ∙ h.written in
    let least = literal_least l.whole l.after_point rest l.exponent h.whole h.after_point h.exponent in
    let count : length text ≡ length l.whole + length (point_text l.after_point) + length (exponent_text l.exponent) =
    ap length (sym written) ∙ length-append (l.whole ++ point_text l.after_point) (exponent_text l.exponent)
    ∙ ap (λ n. n + length (exponent_text l.exponent)) (length-append l.whole (point_text l.after_point)) in
    let same : literal_len (text ++ rest) ≡ literal_len (l.whole ++ (point_text l.after_point ++ (exponent_text l.exponent ++ rest))) =
    ap (λ t. literal_len (t ++ rest)) (sym written) ∙ ap literal_len (regroup l.whole (point_text l.after_point) (exponent_text l.exponent) rest) in
    omega (arith, least, count, same) where
      regroup : (x y z r : List ℕ) → ((x ++ y) ++ z) ++ r ≡ x ++ (y ++ (z ++ r))
      regroup x y z r = simp append_assoc

pub number_is_longest : (byte : ℕ) (bytes : List ℕ) (n : ℕ) → is_ascii_digit byte ≡ true → n ≤ length (byte ∷ bytes)
    → IsSome (literal_of (take n (byte ∷ bytes))) → n ≤ literal_len (byte ∷ bytes)
number_is_longest byte bytes zero d within h = omega arith
number_is_longest byte bytes (suc n) d within h = by (literal_of (byte ∷ take n bytes)) refl h where
  by : (o : Option Literal) → literal_of (byte ∷ take n bytes) ≡ o → IsSome o → suc n ≤ literal_len (byte ∷ bytes)
  by None e k = absurd (cc)
  by (Some l) e k =
      let prefix = byte ∷ take n bytes in
      let rest = drop n bytes in
      let unsigned = sign_kept (leading_sign prefix) (after_sign prefix) l e ∙ digit_no_sign byte (take n bytes) d in
      let least = spelt_least prefix rest l (read_spelt prefix l e) unsigned in
      let whole : prefix ++ rest ≡ byte ∷ bytes = ap (λ t. byte ∷ t) (take-append-drop n bytes) in
      let same : literal_len (prefix ++ rest) ≡ literal_len (byte ∷ bytes) = ap literal_len whole in
      omega (arith, least, same, within, length-take {A = ℕ} n bytes)
