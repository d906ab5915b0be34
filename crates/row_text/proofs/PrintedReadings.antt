-- The printed text of an input by its readings is read as the input again.
use Rattle.std.proofs.Common.{◌≡◌, ℕ, ◌+◌, true, List, [], ◌∷◌, ◌++◌, map, length, refl, sym, ◌∙◌, ap, arith, append_assoc, None, Ok}
use Rattle.std.specs.Prelude.{codes}
use Rattle.decimal18.specs.Bound.{Bound}
use Rattle.decimal18.specs.Text.{text_of}
use Rattle.decimal18.proofs.TextAgain.{read_again as bound_again}
use Rattle.formula_ast.specs.Names.{is_plain_name}
use Rattle.line_text.specs.Words.{Word}
use Rattle.line_text.proofs.WrittenTexts.{IsSolid}
use Rattle.type_a.specs.Tables.{Table, refusal, unless, readings_of}
use Rattle.type_a.specs.Tables.{single}
use Rattle.sheet_rows.specs.Rows.{Readings}
use Rattle.sheet_rows.specs.Regular.{IsRegular, AreDecimals}
use Rattle.row_text.specs.Parts.{then_read, number_of}
use Rattle.row_text.specs.Readings.{numbers_of, readings_of_words}
use Rattle.row_text.specs.Reading.{row_at, row_from}
use Rattle.row_text.specs.Printing.{one_column, numbers_text, printed}
use Rattle.row_text.proofs.PlainBytes.{names_plain, name_some}
use Rattle.row_text.proofs.PartedWords.{spaced, placed, AreWords, words_again, spaced_solid}
use Rattle.row_text.proofs.PrintedGivens.{number_is_word}
use Rattle.row_text.proofs.OneColumn.{table_again, column_decimals}

-- ---- the words of the numbers
abbrev number_words : List Bound → List (List ℕ)
number_words bs = map (λ b. text_of b) bs

are_number_words : (bs : List Bound) → AreDecimals bs → AreWords (number_words bs)
are_number_words [] h = tt
are_number_words (b ∷ bs) h = (number_is_word b h.0, are_number_words bs h.1)

numbers_spaced : (bs : List Bound) → spaced (number_words bs) ≡ numbers_text bs
numbers_spaced [] = refl
numbers_spaced (b ∷ bs) = ap (λ t. 32 ∷ (text_of b ++ t)) (numbers_spaced bs)

numbers_again : (bs : List Bound) (at : ℕ) → AreDecimals bs → numbers_of (placed at (number_words bs)) ≡ Ok bs
numbers_again [] at h = refl
numbers_again (b ∷ bs) at h =
    let ws : List Word = placed (at + length (text_of b) + 1) (number_words bs) in
    ap (λ r. then_read (number_of (record { place = at; text = text_of b }) r) (λ x. then_read (numbers_of ws) (λ xs. Ok (x ∷ xs))))
    (bound_again b h.0.bound h.0.canonical)
    ∙ ap (λ r. then_read r (λ xs. Ok (b ∷ xs))) (numbers_again bs (at + length (text_of b) + 1) h.1)

-- ---- the line
abbrev readings_words : List ℕ → Table → List (List ℕ)
readings_words name t = name ∷ number_words (one_column t)

abbrev pub readings_line : List ℕ → Table → List ℕ
readings_line name t = codes "readings" ++ spaced (readings_words name t)

readings_are_words : (name : List ℕ) (t : Table) → IsRegular (Readings name t) → AreWords (codes "readings" ∷ readings_words name t)
readings_are_words name t h = (
  record { plain = refl; some = omega arith },
  (
    record { plain = names_plain name h.0; some = name_some name h.0 },
    are_number_words (one_column t) (column_decimals t h.3 h.2 h.1),
  ),
)

pub readings_solid : (name : List ℕ) (t : Table) → IsRegular (Readings name t) → IsSolid (readings_line name t)
readings_solid name t h = spaced_solid (codes "readings") (readings_words name t) (readings_are_words name t h)

pub readings_text : (name : List ℕ) (t : Table) → printed (Readings name t) ≡ readings_line name t
readings_text name t =
    append_assoc (codes "readings ") name (numbers_text (one_column t))
    ∙ ap (λ text. codes "readings " ++ (name ++ text)) (sym (numbers_spaced (one_column t)))

readings_again : (end p : ℕ) (name : List ℕ) (bs : List Bound) (ws : List Word) → is_plain_name name ≡ true → numbers_of ws ≡ Ok bs →
    readings_of (single bs) ≡ Ok (single bs) → readings_of_words end (record { place = p; text = name } ∷ ws) ≡ Ok (Readings name (single bs))
readings_again end p name bs ws plain numbers taken = rw (plain, numbers, taken) refl

pub taken_table : (t : Table) → refusal t ≡ None → readings_of t ≡ Ok t
taken_table t h = ap (λ o. unless o t) h

pub readings_row : (name : List ℕ) (t : Table) → IsRegular (Readings name t) → row_from (readings_line name t) 0 ≡ Ok (Readings name t)
readings_row name t h =
    let line : List ℕ = readings_line name t in
    let bs : List Bound = one_column t in
    let same : single bs ≡ t = table_again t h.3 h.2 in
    ap (λ ws. row_at line ws) (words_again (codes "readings") (readings_words name t) 0 (readings_are_words name t h))
    ∙ readings_again (length line) 9 name bs (placed (9 + length name + 1) (number_words bs)) h.0
    (numbers_again bs (9 + length name + 1) (column_decimals t h.3 h.2 h.1)) (taken_table (single bs) (ap refusal same ∙ h.3))
    ∙ ap (λ u. Ok (Readings name u)) same
