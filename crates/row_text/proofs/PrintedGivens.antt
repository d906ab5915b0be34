-- The printed text of an input is read as the input again.
use Rattle.std.proofs.Common.{append_assoc, ◌≡◌, ℕ, ◌+◌, ◌<◌, ◌≤◌, ◌==◌, ◌||◌, ◌^◌, Bool, true, false, not, cond, nat_le, List, [], ◌∷◌, ◌++◌, length, refl, sym, ◌∙◌, ap, arith, Some, None, Result, Ok, Err}
use Rattle.std.specs.Prelude.{codes, decimal, bytes_eq, option_map}
use Rattle.std.specs.Str.Parse.{digits_value}
use Rattle.std.specs.Fmt.{digits}
use Rattle.std.specs.Char.{is_ascii_digit}
use Rattle.std.proofs.lemmas.Bool.{and_parts, leb-true, le-leb, eqb-true}
use Rattle.std.proofs.lemmas.Bool.Decides.{nat_tests}
use Rattle.std.proofs.lemmas.Fmt.{digits_decimal, digits_value-decimal, decimal_nonempty, length-decimal-le}
use mathlib.Core.List.{append-nil}
use Rattle.decimal18.specs.Bound.{Bound, IsDecimal}
use Rattle.decimal18.specs.Text.{text_of}
use Rattle.decimal18.specs.Literal.{parsed, are_digits}
use Rattle.decimal18.proofs.LiteralDigits.{numerals}
use Rattle.decimal18.proofs.TextAgain.{read_again as bound_again}
use Rattle.formula_ast.specs.Names.{is_plain_name}
use Rattle.line_text.specs.Words.{Word}
use Rattle.line_text.proofs.WrittenTexts.{IsSolid}
use Rattle.type_b.specs.Shapes.{HasDecimals, checked, is_negative, is_level, IsDegrees}
use Rattle.type_b.specs.declared.shape.Shape.{Shape}
use Rattle.type_b.specs.declared.shape.Shape.TheVariants.{Exact, Std, Exp, Norm, Rect, Tri, Trap, Arcsine}
use Rattle.type_b.specs.declared.shape.Dof.{Dof}
use Rattle.type_b.specs.declared.shape.Dof.TheVariants.{Inf, Whole, Rel}
use Rattle.type_b.specs.declared.shape.ShapeFault.{ShapeFault}
use Rattle.type_b.specs.declared.shape.ShapeFault.TheVariants.{Negative, Level}
use Rattle.sheet_rows.specs.Rows.{Given}
use Rattle.row_text.specs.Parts.{then_read, any_word, number_in}
use Rattle.row_text.specs.Givens.{level_of, with_number, with_numbers, with_level, shape_word, whole_of, allowed, dof_of, rel_of, degrees_word, given_of}
use Rattle.row_text.specs.Reading.{row_at, row_from}
use Rattle.sheet_rows.specs.Regular.{IsRegular}
use Rattle.row_text.specs.Printing.{shape_text, degrees_text, printed}
use Rattle.row_text.proofs.PlainBytes.{names_plain, name_some, text_plain, text_some, decimal_plain}
use Rattle.row_text.proofs.PartedWords.{spaced, placed, past, IsWord, AreWords, words-append, spaced-append, words_again, spaced_solid}

-- ---- the words of an input
abbrev shape_words : Shape → List (List ℕ)
shape_words Exact = codes "exact" ∷ []
shape_words (Std u) = codes "std" ∷ text_of u ∷ []
shape_words (Exp expanded k) = codes "exp" ∷ text_of expanded ∷ text_of k ∷ []
shape_words (Norm half level) = codes "norm" ∷ text_of half ∷ decimal level ∷ []
shape_words (Rect half) = codes "rect" ∷ text_of half ∷ []
shape_words (Tri half) = codes "tri" ∷ text_of half ∷ []
shape_words (Trap half beta) = codes "trap" ∷ text_of half ∷ text_of beta ∷ []
shape_words (Arcsine half) = codes "arcsine" ∷ text_of half ∷ []

abbrev degrees_words : Dof → List (List ℕ)
degrees_words Inf = []
degrees_words (Whole n) = codes "dof" ∷ decimal n ∷ []
degrees_words (Rel percent) = codes "rel" ∷ decimal percent ∷ []

two : (w a b : List ℕ) → w ++ (a ++ 32 ∷ (b ++ [])) ≡ w ++ a ++ codes " " ++ b
two w a b = simp (append_assoc, append-nil)

shape_spaced : (s : Shape) → spaced (shape_words s) ≡ 32 ∷ shape_text s
shape_spaced Exact = refl
shape_spaced (Std u) = ap (λ t. codes " std " ++ t) (append-nil (text_of u))
shape_spaced (Exp expanded k) = two (codes " exp ") (text_of expanded) (text_of k)
shape_spaced (Norm half level) = two (codes " norm ") (text_of half) (decimal level)
shape_spaced (Rect half) = ap (λ t. codes " rect " ++ t) (append-nil (text_of half))
shape_spaced (Tri half) = ap (λ t. codes " tri " ++ t) (append-nil (text_of half))
shape_spaced (Trap half beta) = two (codes " trap ") (text_of half) (text_of beta)
shape_spaced (Arcsine half) = ap (λ t. codes " arcsine " ++ t) (append-nil (text_of half))

degrees_spaced : (d : Dof) → spaced (degrees_words d) ≡ degrees_text d
degrees_spaced Inf = refl
degrees_spaced (Whole n) = ap (λ t. codes " dof " ++ t) (append-nil (decimal n))
degrees_spaced (Rel percent) = ap (λ t. codes " rel " ++ t) (append-nil (decimal percent))

-- ---- the level of a normal distribution
abbrev Checked : Type 0
Checked = Result Unit ShapeFault

level_is : (negative t : Bool) → cond {A = Checked} negative (Err Negative) (cond (not t) (Err Level) (Ok tt)) ≡ Ok tt → t ≡ true
level_is true t h = absurd (cc)
level_is false true h = refl
level_is false false h = absurd (cc)

level_small : (level : ℕ) → is_level level ≡ true → level < 2 ^ 64
level_small level h = let few : level < 100 = grind (arith, nat_tests) in omega arith

worded_90 : level_of (decimal 90) ≡ 90
unfolding digits
worded_90 = refl

worded_95 : level_of (decimal 95) ≡ 95
unfolding digits
worded_95 = refl

worded_99 : level_of (decimal 99) ≡ 99
unfolding digits
worded_99 = refl

level_again : (level : ℕ) → is_level level ≡ true → level_of (decimal level) ≡ level
level_again level h = by (level == 90) refl (level == 95) refl (level == 99) refl h where
  told : (n : ℕ) → level ≡ n → level_of (decimal n) ≡ n → level_of (decimal level) ≡ level
  told n e k = rw e k

  by : (a : Bool) → (level == 90) ≡ a → (b : Bool) → (level == 95) ≡ b → (c : Bool) → (level == 99) ≡ c → (a || (b || c)) ≡ true →
      level_of (decimal level) ≡ level
  by true e b f c g h = told 90 (eqb-true level 90 e) worded_90
  by false e true f c g h = told 95 (eqb-true level 95 f) worded_95
  by false e false f true g h = told 99 (eqb-true level 99 g) worded_99
  by false e false f false g h = absurd (cc)

states_level : (half : Bound) (level : ℕ) → checked (Norm half level) ≡ Ok (record {}) → is_level level ≡ true
states_level half level h = level_is (is_negative half) (is_level level) h

-- ---- numbers of degrees of freedom
whole_again : (most n : ℕ) → 0 < most → n < 10 ^ most → n < 2 ^ 64 → whole_of most (decimal n) ≡ Some n
whole_again most n some below small =
    by (digits_decimal numerals n small) (le-leb _ _ (length-decimal-le most n some below small)) (digits_value-decimal numerals n small) where
      by : are_digits (decimal n) ≡ true → nat_le (length (decimal n)) most ≡ true → digits_value 10 (decimal n) ≡ n →
          whole_of most (decimal n) ≡ Some n
      by digits short value = rw (digits, short, value) refl

-- a word of digits is not `inf`
not_inf : (text : List ℕ) → are_digits text ≡ true → bytes_eq text (codes "inf") ≡ false
not_inf [] h = refl
not_inf (byte ∷ bytes) h =
    let digit : is_ascii_digit byte ≡ true = (and_parts (is_ascii_digit byte) (are_digits bytes) h).0 in
    let other : (byte == 105) ≡ false = grind (arith, nat_tests) in
    rw other refl

dof_again : (n : ℕ) → IsDegrees (Whole n) → dof_of (decimal n) ≡ Some (Whole n)
dof_again n h =
    let most : n ≤ 1000000 = leb-true n 1000000 (and_parts (nat_le 1 n) (nat_le n 1000000) h).1 in
    let small : n < 2 ^ 64 = omega arith in
    ap (λ t. cond t (Some Inf) (allowed (option_map Whole (whole_of 7 (decimal n))))) (not_inf (decimal n) (digits_decimal numerals n small))
    ∙ ap (λ o. allowed (option_map Whole o)) (whole_again 7 n (omega arith) (omega arith) small)
    ∙ ap (λ t. cond t (Some (Whole n)) None) h

rel_again : (percent : ℕ) → IsDegrees (Rel percent) → rel_of (decimal percent) ≡ Some (Rel percent)
rel_again percent h =
    let most : percent ≤ 70 = leb-true percent 70 (and_parts (nat_le 1 percent) (nat_le percent 70) h).1 in
    ap (λ o. allowed (option_map Rel o)) (whole_again 2 percent (omega arith) (omega arith) (omega arith))
    ∙ ap (λ t. cond t (Some (Rel percent)) None) h

-- ---- the words are words
pub number_is_word : (a : Bound) → IsDecimal a → IsWord (text_of a)
number_is_word a h = record { plain = text_plain a h.bound; some = text_some a h.bound }

whole_is_word : (n : ℕ) → n < 2 ^ 64 → IsWord (decimal n)
whole_is_word n small = record { plain = decimal_plain n small; some = decimal_nonempty n small }

shape_is_words : (s : Shape) → HasDecimals s → checked s ≡ Ok (record {}) → AreWords (shape_words s)
shape_is_words Exact h k = (record { plain = refl; some = omega arith }, tt)
shape_is_words (Std u) h k = (record { plain = refl; some = omega arith }, (number_is_word u h, tt))
shape_is_words (Exp expanded factor) h k =
    (record { plain = refl; some = omega arith }, (number_is_word expanded h.0, (number_is_word factor h.1, tt)))
shape_is_words (Norm half level) h k =
    (record { plain = refl; some = omega arith }, (number_is_word half h, (whole_is_word level (level_small level (states_level half level k)), tt)))
shape_is_words (Rect half) h k = (record { plain = refl; some = omega arith }, (number_is_word half h, tt))
shape_is_words (Tri half) h k = (record { plain = refl; some = omega arith }, (number_is_word half h, tt))
shape_is_words (Trap half beta) h k =
    (record { plain = refl; some = omega arith }, (number_is_word half h.0, (number_is_word beta h.1, tt)))
shape_is_words (Arcsine half) h k = (record { plain = refl; some = omega arith }, (number_is_word half h, tt))

degrees_are_words : (d : Dof) → IsDegrees d → AreWords (degrees_words d)
degrees_are_words Inf h = tt
degrees_are_words (Whole n) h =
    let most : n ≤ 1000000 = leb-true n 1000000 (and_parts (nat_le 1 n) (nat_le n 1000000) h).1 in
    (record { plain = refl; some = omega arith }, (whole_is_word n (omega arith), tt))
degrees_are_words (Rel percent) h =
    let most : percent ≤ 70 = leb-true percent 70 (and_parts (nat_le 1 percent) (nat_le percent 70) h).1 in
    (record { plain = refl; some = omega arith }, (whole_is_word percent (omega arith), tt))

-- ---- the words are read as what they were written for
one_again : (make : Bound → Shape) (end p : ℕ) (a : Bound) (ws : List Word) → IsDecimal a →
    with_number make end (record { place = p; text = text_of a } ∷ ws) ≡ Ok (record { item = make a; rest = ws })
one_again make end p a ws h =
    ap (λ r. then_read (number_in (record { place = p; text = text_of a }) ws r) (λ x. Ok (record { item = make x.item; rest = x.rest })))
    (bound_again a h.bound h.canonical)

two_again : (make : Bound → Bound → Shape) (end p q : ℕ) (a b : Bound) (ws : List Word) → IsDecimal a → IsDecimal b →
    with_numbers make end (record { place = p; text = text_of a } ∷ record { place = q; text = text_of b } ∷ ws) ≡ Ok (record { item = make a b; rest = ws })
two_again make end p q a b ws h k =
    ap (λ r. then_read (number_in (record { place = p; text = text_of a }) (record { place = q; text = text_of b } ∷ ws) r) (λ x. with_number (make x.item) end x.rest))
    (bound_again a h.bound h.canonical)
    ∙ one_again (make a) end q b ws k

norm_again : (end p q : ℕ) (half : Bound) (level : ℕ) (ws : List Word) → IsDecimal half → is_level level ≡ true →
    with_level Norm end (record { place = p; text = text_of half } ∷ record { place = q; text = decimal level } ∷ ws)
    ≡ Ok (record { item = Norm half level; rest = ws })
norm_again end p q half level ws h k =
    ap (λ r. then_read (number_in (record { place = p; text = text_of half }) (record { place = q; text = decimal level } ∷ ws) r)
    (λ x. then_read (any_word level_of end x.rest) (λ y. Ok (record { item = Norm x.item y.item; rest = y.rest }))))
    (bound_again half h.bound h.canonical)
    ∙ ap (λ n. Ok (record { item = Norm half n; rest = ws })) (level_again level k)

shape_again : (s : Shape) (end at : ℕ) (ws : List (List ℕ)) → HasDecimals s → checked s ≡ Ok (record {}) →
    shape_word end (placed at (shape_words s ++ ws)) ≡ Ok (record { item = s; rest = placed (past at (shape_words s)) ws })
shape_again Exact end at ws h k = refl
shape_again (Std u) end at ws h k = one_again Std end _ u _ h
shape_again (Exp expanded factor) end at ws h k = two_again Exp end _ _ expanded factor _ h.0 h.1
shape_again (Norm half level) end at ws h k = norm_again end _ _ half level _ h (states_level half level k)
shape_again (Rect half) end at ws h k = one_again Rect end _ half _ h
shape_again (Tri half) end at ws h k = one_again Tri end _ half _ h
shape_again (Trap half beta) end at ws h k = two_again Trap end _ _ half beta _ h.0 h.1
shape_again (Arcsine half) end at ws h k = one_again Arcsine end _ half _ h

degrees_again : (d : Dof) (end at : ℕ) → IsDegrees d →
    degrees_word end (placed at (degrees_words d)) ≡ Ok (record { item = Some d; rest = [] })
degrees_again Inf end at h = refl
degrees_again (Whole n) end at h = ap (λ o. Ok (record { item = o; rest = [] })) (dof_again n h)
degrees_again (Rel percent) end at h = ap (λ o. Ok (record { item = o; rest = [] })) (rel_again percent h)

given_again : (end p q : ℕ) (name number : List ℕ) (e : Bound) (s : Shape) (d : Dof) (ws vs : List Word) → is_plain_name name ≡ true →
    parsed number ≡ Ok e → shape_word end ws ≡ Ok (record { item = s; rest = vs }) →
    degrees_word end vs ≡ Ok (record { item = Some d; rest = [] }) → checked s ≡ Ok (record {}) →
    given_of end (record { place = p; text = name } ∷ record { place = q; text = number } ∷ ws) ≡ Ok (Given name e s d)
given_again end p q name number e s d ws vs plain value shape degrees fine = rw (plain, value, shape, degrees, fine) refl

-- ---- the line
abbrev given_words : List ℕ → Bound → Shape → Dof → List (List ℕ)
given_words name e s d = name ∷ text_of e ∷ (shape_words s ++ degrees_words d)

abbrev pub given_line : List ℕ → Bound → Shape → Dof → List ℕ
given_line name e s d = codes "given" ++ spaced (given_words name e s d)

given_are_words : (name : List ℕ) (e : Bound) (s : Shape) (d : Dof) → IsRegular (Given name e s d) → AreWords (codes "given" ∷ given_words name e s d)
given_are_words name e s d h = (
  record { plain = refl; some = omega arith },
  (
    record { plain = names_plain name h.0; some = name_some name h.0 },
    (
      number_is_word e h.1,
      words-append (shape_words s) (degrees_words d) (shape_is_words s h.2 h.3) (degrees_are_words d h.4),
    ),
  ),
)

pub given_solid : (name : List ℕ) (e : Bound) (s : Shape) (d : Dof) → IsRegular (Given name e s d) → IsSolid (given_line name e s d)
given_solid name e s d h = spaced_solid (codes "given") (given_words name e s d) (given_are_words name e s d h)

pub given_row : (name : List ℕ) (e : Bound) (s : Shape) (d : Dof) → IsRegular (Given name e s d) →
    row_from (given_line name e s d) 0 ≡ Ok (Given name e s d)
given_row name e s d h =
    let line : List ℕ = given_line name e s d in
    let at : ℕ = 6 + length name + 1 + length (text_of e) + 1 in
    ap (λ ws. row_at line ws) (words_again (codes "given") (given_words name e s d) 0 (given_are_words name e s d h))
    ∙ given_again (length line) 6 (6 + length name + 1) name (text_of e) e s d (placed at (shape_words s ++ degrees_words d))
    (placed (past at (shape_words s)) (degrees_words d)) h.0 (bound_again e h.1.bound h.1.canonical)
    (shape_again s (length line) at (degrees_words d) h.2 h.3) (degrees_again d (length line) (past at (shape_words s)) h.4) h.3

pub given_text : (name : List ℕ) (e : Bound) (s : Shape) (d : Dof) → printed (Given name e s d) ≡ given_line name e s d
given_text name e s d =
    grouped name (text_of e) (shape_text s) (degrees_text d)
    ∙ ap (λ t. codes "given " ++ (name ++ 32 ∷ (text_of e ++ t))) (sym (spaced-append (shape_words s) (degrees_words d)
    ∙ ap (λ t. t ++ spaced (degrees_words d)) (shape_spaced s) ∙ ap (λ t. 32 ∷ (shape_text s ++ t)) (degrees_spaced d))) where
      grouped : (a b c d : List ℕ) → codes "given " ++ a ++ codes " " ++ b ++ codes " " ++ c ++ d ≡ codes "given " ++ (a ++ 32 ∷ (b ++ 32 ∷ (c ++ d)))
      grouped a b c d = simp append_assoc
