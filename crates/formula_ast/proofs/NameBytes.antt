-- Names: the bytes that hold one, what a text is that has a second point, and how long a name is.
use Rattle.std.proofs.lemmas.Bool.{and_parts}
use Rattle.std.proofs.Common.{◌≡◌, ℕ, ◌-◌, ◌<◌, ◌≤◌, ◌==◌, true, false, List, [], ◌∷◌, ◌++◌, length, take, drop, replicate, refl, sym, ◌∙◌, ap, arith, length-append}
use Rattle.std.specs.List.{slice_split, list_all, join_with_byte}
use Rattle.std.proofs.lemmas.List.{length-replicate, drop-replicate, take-append-le, take_all}
use Rattle.std.proofs.lemmas.List.Splits.{length-slice_split, join_with_byte-slice_split}
use Rattle.formula_ast.specs.Names.{begins_name, goes_on_name, is_plain_name, are_name_parts, is_name}
use Rattle.formula_ast.specs.Padded.{IsPadded}

-- bytes written over the start of 49 zeros
pub padded_prefix : (bytes prefix : List ℕ) → length bytes ≤ 49 → prefix ≡ bytes →
    IsPadded (record { text = prefix ++ drop {A = ℕ} (length bytes) (replicate 49 0); len = length bytes })
padded_prefix bytes prefix fits e =
    let n : ℕ = length bytes in
    let after : drop {A = ℕ} n (replicate 49 0) ≡ replicate (49 - n) 0 = drop-replicate n 49 0 in
    let self : n ≤ length bytes = omega arith in
    let whole : take n (bytes ++ replicate (49 - n) 0) ≡ bytes = rw (take-append-le n bytes (replicate (49 - n) 0) self) (take_all n bytes self) in
    rw (e, after) (record {
      fits = fits;
      whole = omega (arith, length-append bytes (replicate (49 - n) 0), length-replicate {A = ℕ} (49 - n) 0);
      zeros = ap (λ t. t ++ replicate (49 - n) 0) (sym whole);
    })

other_part : (plain column : List ℕ) (parts : List (List ℕ)) → 0 < length parts → are_name_parts (plain ∷ column ∷ parts) ≡ false
other_part plain column [] h = absurd (omega arith)
other_part plain column (other ∷ others) h = refl

-- a text with two points is no name
pub two_points : (text plain column rest after : List ℕ) →
    slice_split (λ byte. byte == 46) text ≡ plain ∷ slice_split (λ byte. byte == 46) rest →
    slice_split (λ byte. byte == 46) rest ≡ column ∷ slice_split (λ byte. byte == 46) after → is_name text ≡ false
two_points text plain column rest after e f =
    ap are_name_parts (e ∙ ap (λ parts. plain ∷ parts) f)
    ∙ other_part plain column (slice_split (λ byte. byte == 46) after)
    (omega (arith, length-slice_split (λ byte. byte == 46) after))

-- names are short
pub plain_short : (text : List ℕ) → is_plain_name text ≡ true → length text ≤ 24
plain_short [] h = omega arith
plain_short (byte ∷ bytes) h =
    let few = and_parts (list_all goes_on_name bytes) _ (and_parts (begins_name byte) _ h).1 in
    grind (arith, few.1)

parts_short : (parts : List (List ℕ)) → are_name_parts parts ≡ true → length (join_with_byte 46 parts) ≤ 49
parts_short [] h = absurd (cc)
parts_short (plain ∷ []) h = omega (arith, plain_short plain h)
parts_short (table ∷ column ∷ []) h =
    let both = and_parts (is_plain_name table) _ h in
    omega (arith, plain_short table both.0, plain_short column both.1, length-append table (46 ∷ column))
parts_short (table ∷ column ∷ other ∷ others) h = absurd (cc)

pub name_short : (text : List ℕ) → is_name text ≡ true → length text ≤ 49
name_short text h =
    let short = parts_short (slice_split (λ byte. byte == 46) text) h in
    rw (join_with_byte-slice_split 46 text) at short
