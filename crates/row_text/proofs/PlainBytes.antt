-- The bytes of names and numbers: none is a blank, `#` or `=`, and none needs quotes in a record.
use Rattle.std.proofs.lemmas.Bool.{and_parts, and_from, not-true}
use Rattle.std.proofs.Common.{◌≡◌, ℕ, zero, suc, ◌+◌, ◌/◌, ◌%◌, ◌^◌, ◌<◌, ◌==◌, ◌&&◌, not, Bool, true, false, List, [], ◌∷◌, ◌++◌, length, refl, ◌∙◌, arith, length-append}
use Rattle.std.specs.Prelude.{ℤ, pos, negsuc, unsigned_abs, decimal}
use Rattle.std.specs.List.{list_all, list_any, slice_split, join_with_byte}
use Rattle.std.specs.Char.{is_ascii_digit}
use Rattle.std.proofs.Math.Nat.{div-le_self}
use Rattle.std.proofs.lemmas.Bool.Decides.{nat_tests}
use Rattle.std.proofs.lemmas.Fmt.{digits_decimal, decimal_nonempty}
use Rattle.std.proofs.lemmas.List.Folds.{list_all-append}
use Rattle.std.proofs.lemmas.List.Splits.{join_with_byte-slice_split}
use Rattle.csv.specs.Writing.{default_writer, needs_byte}
use Rattle.decimal18.specs.Bound.{Bound, IsBound}
use Rattle.decimal18.specs.Text.{last_digits, sign_of, after_point, text_of}
use Rattle.decimal18.proofs.LiteralDigits.{numerals}
use Rattle.formula_ast.specs.Names.{begins_name, goes_on_name, is_plain_name, are_name_parts, is_name}
use Rattle.formula_ast.specs.Tokens.{goes_on_run}
use Rattle.formula_ast.specs.Printing.{exponent_text}
use Rattle.line_text.specs.Words.{is_in_word, is_no_hash}
use Rattle.row_text.specs.Reading.{is_in_name}

-- a byte of a field without quotes
abbrev pub is_in_field : ℕ → Bool
is_in_field byte = not (needs_byte default_writer byte)

abbrev pub is_plain : ℕ → Bool
is_plain byte = is_in_word byte && (is_no_hash byte && (is_in_name byte && is_in_field byte))

-- what a plain byte is
record IsPlain (byte : ℕ) : Type 0 where
  in_word : is_in_word byte ≡ true
  no_hash : is_no_hash byte ≡ true
  in_name : is_in_name byte ≡ true
  in_field : is_in_field byte ≡ true

plain_parts : (byte : ℕ) → is_plain byte ≡ true → IsPlain byte
plain_parts byte h =
    let one = and_parts (is_in_word byte) (is_no_hash byte && (is_in_name byte && is_in_field byte)) h in
    let two = and_parts (is_no_hash byte) (is_in_name byte && is_in_field byte) one.1 in
    let three = and_parts (is_in_name byte) (is_in_field byte) two.1 in
    record { in_word = one.0; no_hash = two.0; in_name = three.0; in_field = three.1 }

abbrev pub ArePlain : List ℕ → Type 0
ArePlain text = list_all is_plain text ≡ true

pub weaker : (p q : ℕ → Bool) → ((byte : ℕ) → p byte ≡ true → q byte ≡ true) → (text : List ℕ) → list_all p text ≡ true → list_all q text ≡ true
weaker p q h [] all = refl
weaker p q h (byte ∷ bytes) all =
    let parts = and_parts (p byte) (list_all p bytes) all in
    and_from (q byte) (list_all q bytes) (h byte parts.0) (weaker p q h bytes parts.1)

pub all_in_word : (text : List ℕ) → ArePlain text → list_all is_in_word text ≡ true
all_in_word text all = weaker is_plain is_in_word (λ byte h. (plain_parts byte h).in_word) text all

pub all_no_hash : (text : List ℕ) → ArePlain text → list_all is_no_hash text ≡ true
all_no_hash text all = weaker is_plain is_no_hash (λ byte h. (plain_parts byte h).no_hash) text all

pub all_in_name : (text : List ℕ) → ArePlain text → list_all is_in_name text ≡ true
all_in_name text all = weaker is_plain is_in_name (λ byte h. (plain_parts byte h).in_name) text all

pub no_quotes : (text : List ℕ) → ArePlain text → list_any (needs_byte default_writer) text ≡ false
no_quotes [] all = refl
no_quotes (byte ∷ bytes) all =
    let parts = and_parts (is_plain byte) (list_all is_plain bytes) all in
    rw (not-true (needs_byte default_writer byte) (plain_parts byte parts.0).in_field) (no_quotes bytes parts.1)

pub plain_append : (xs ys : List ℕ) → ArePlain xs → ArePlain ys → ArePlain (xs ++ ys)
plain_append xs ys h k = list_all-append is_plain xs ys ∙ and_from _ _ h k

-- ---- names
run_plain : (byte : ℕ) → goes_on_run byte ≡ true → is_plain byte ≡ true
run_plain byte h = grind (arith, nat_tests)

name_plain : (byte : ℕ) → goes_on_name byte ≡ true → is_plain byte ≡ true
name_plain byte h = grind (arith, nat_tests)

first_plain : (byte : ℕ) → begins_name byte ≡ true → is_plain byte ≡ true
first_plain byte h = grind (arith, nat_tests)

pub runs_plain : (text : List ℕ) → list_all goes_on_run text ≡ true → ArePlain text
runs_plain text all = weaker goes_on_run is_plain run_plain text all

pub names_plain : (text : List ℕ) → is_plain_name text ≡ true → ArePlain text
names_plain [] h = refl
names_plain (byte ∷ bytes) h =
    let parts = and_parts (begins_name byte) _ h in
    let others = and_parts (list_all goes_on_name bytes) _ parts.1 in
    and_from (is_plain byte) (list_all is_plain bytes) (first_plain byte parts.0) (weaker goes_on_name is_plain name_plain bytes others.0)

pub name_some : (text : List ℕ) → is_plain_name text ≡ true → 0 < length text
name_some [] h = absurd (cc)
name_some (byte ∷ bytes) h = omega arith

-- a plain name, or two with a point between them
parts_plain : (parts : List (List ℕ)) → are_name_parts parts ≡ true → ArePlain (join_with_byte 46 parts)
parts_plain [] h = absurd (cc)
parts_plain (plain ∷ []) h = names_plain plain h
parts_plain (table ∷ column ∷ []) h =
    let both = and_parts (is_plain_name table) (is_plain_name column) h in
    plain_append table (46 ∷ column) (names_plain table both.0) (and_from (is_plain 46) (list_all is_plain column) refl (names_plain column both.1))
parts_plain (table ∷ column ∷ other ∷ others) h = absurd (cc)

pub all_names_plain : (text : List ℕ) → is_name text ≡ true → ArePlain text
all_names_plain text h =
    let plain = parts_plain (slice_split (λ byte. byte == 46) text) h in
    rw (join_with_byte-slice_split 46 text) at plain

-- ---- numbers
digit_plain : (byte : ℕ) → is_ascii_digit byte ≡ true → is_plain byte ≡ true
digit_plain byte h = grind (arith, nat_tests)

last_plain : (p n : ℕ) → ArePlain (last_digits p n)
last_plain zero n = refl
last_plain (suc p) n =
    plain_append (last_digits p (n / 10)) ((48 + n % 10) ∷ []) (last_plain p (n / 10))
    (and_from (is_plain (48 + n % 10)) true (digit_plain (48 + n % 10) (digit (n % 10) (omega arith))) refl) where
      digit : (d : ℕ) → d < 10 → is_ascii_digit (48 + d) ≡ true
      digit d below = grind (arith, nat_tests)

point_plain : (p n : ℕ) → ArePlain (after_point p n)
point_plain zero n = refl
point_plain (suc p) n = last_plain (suc p) n

pub decimal_plain : (n : ℕ) → n < 2 ^ 64 → ArePlain (decimal n)
decimal_plain n small = weaker is_ascii_digit is_plain digit_plain (decimal n) (digits_decimal numerals n small)

sign_plain : (k : ℤ) → ArePlain (sign_of k)
sign_plain (pos n) = refl
sign_plain (negsuc n) = refl

some_append : (xs ys : List ℕ) → 0 < length ys → 0 < length (xs ++ ys)
some_append xs ys some = omega (arith, length-append xs ys, some)

some_first : (xs ys : List ℕ) → 0 < length xs → 0 < length (xs ++ ys)
some_first xs ys some = omega (arith, length-append xs ys, some)

whole_small : (b : Bound) → IsBound b → unsigned_abs b.coefficient / 10 ^ b.places < 2 ^ 64
whole_small b h = omega (arith, h.digits, div-le_self (unsigned_abs b.coefficient) (10 ^ b.places))

pub text_plain : (b : Bound) → IsBound b → ArePlain (text_of b)
text_plain b h =
    let size : ℕ = unsigned_abs b.coefficient in
    let whole : ℕ = size / 10 ^ b.places in
    plain_append (sign_of b.coefficient ++ decimal whole) (after_point b.places size)
    (plain_append (sign_of b.coefficient) (decimal whole) (sign_plain b.coefficient) (decimal_plain whole (whole_small b h)))
    (point_plain b.places size)

pub text_some : (b : Bound) → IsBound b → 0 < length (text_of b)
text_some b h =
    let size : ℕ = unsigned_abs b.coefficient in
    let whole : ℕ = size / 10 ^ b.places in
    some_first (sign_of b.coefficient ++ decimal whole) (after_point b.places size)
    (some_append (sign_of b.coefficient) (decimal whole) (decimal_nonempty whole (whole_small b h)))

pub exponent_plain : (k : ℤ) → unsigned_abs k < 2 ^ 64 → ArePlain (exponent_text k)
exponent_plain k small = plain_append (sign_of k) (decimal (unsigned_abs k)) (sign_plain k) (decimal_plain (unsigned_abs k) small)

pub exponent_some : (k : ℤ) → unsigned_abs k < 2 ^ 64 → 0 < length (exponent_text k)
exponent_some k small = some_append (sign_of k) (decimal (unsigned_abs k)) (decimal_nonempty (unsigned_abs k) small)
