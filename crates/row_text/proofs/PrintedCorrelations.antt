-- The printed text of a correlation is read as the correlation again.
use Rattle.std.proofs.Common.{◌≡◌, ℕ, ◌+◌, true, List, [], ◌∷◌, ◌++◌, length, refl, ◌∙◌, ap, arith, append_assoc, Ok}
use Rattle.std.specs.Prelude.{codes}
use mathlib.Core.List.{append-nil}
use Rattle.decimal18.specs.Bound.{Bound}
use Rattle.decimal18.specs.Text.{text_of}
use Rattle.decimal18.specs.Literal.{parsed}
use Rattle.decimal18.proofs.TextAgain.{read_again as bound_again}
use Rattle.formula_ast.specs.Names.{is_plain_name, is_name}
use Rattle.line_text.proofs.WrittenTexts.{IsSolid}
use Rattle.sheet_rows.specs.Rows.{Correlation}
use Rattle.sheet_rows.specs.Regular.{IsRegular, is_coefficient}
use Rattle.row_text.specs.Correlations.{corr_of}
use Rattle.row_text.specs.Reading.{row_at, row_from}
use Rattle.row_text.specs.Printing.{printed}
use Rattle.row_text.proofs.PlainBytes.{names_plain, name_some, all_names_plain}
use Rattle.row_text.proofs.SolidTexts.{named_some}
use Rattle.row_text.proofs.PartedWords.{spaced, IsWord, AreWords, words_again, spaced_solid}
use Rattle.row_text.proofs.PrintedGivens.{number_is_word}

name_is_word : (name : List ℕ) → is_name name ≡ true → IsWord name
name_is_word name h = record { plain = all_names_plain name h; some = named_some name h }

abbrev corr_words : List ℕ → List ℕ → List ℕ → Bound → List (List ℕ)
corr_words name first second r = name ∷ first ∷ second ∷ text_of r ∷ []

abbrev pub corr_line : List ℕ → List ℕ → List ℕ → Bound → List ℕ
corr_line name first second r = codes "corr" ++ spaced (corr_words name first second r)

corr_are_words : (name first second : List ℕ) (r : Bound) → IsRegular (Correlation name first second r) →
    AreWords (codes "corr" ∷ corr_words name first second r)
corr_are_words name first second r h = (
  record { plain = refl; some = omega arith },
  (
    record { plain = names_plain name h.0; some = name_some name h.0 },
    (name_is_word first h.1, (name_is_word second h.2, (number_is_word r h.3, tt))),
  ),
)

pub corr_solid : (name first second : List ℕ) (r : Bound) → IsRegular (Correlation name first second r) → IsSolid (corr_line name first second r)
corr_solid name first second r h = spaced_solid (codes "corr") (corr_words name first second r) (corr_are_words name first second r h)

pub corr_text : (name first second : List ℕ) (r : Bound) → printed (Correlation name first second r) ≡ corr_line name first second r
corr_text name first second r = grouped name first second (text_of r) where
  grouped : (a b c d : List ℕ) → codes "corr " ++ a ++ codes " " ++ b ++ codes " " ++ c ++ codes " " ++ d
      ≡ codes "corr " ++ (a ++ 32 ∷ (b ++ 32 ∷ (c ++ 32 ∷ (d ++ []))))
  grouped a b c d = simp (append_assoc, append-nil)

corr_again : (end p q s u : ℕ) (name first second number : List ℕ) (r : Bound) → is_plain_name name ≡ true → is_name first ≡ true →
    is_name second ≡ true → parsed number ≡ Ok r → is_coefficient r ≡ true →
    corr_of end (record { place = p; text = name } ∷ record { place = q; text = first } ∷ record { place = s; text = second }
    ∷ record { place = u; text = number } ∷ []) ≡ Ok (Correlation name first second r)
corr_again end p q s u name first second number r plain one other value within = rw (plain, one, other, value, within) refl

pub corr_row : (name first second : List ℕ) (r : Bound) → IsRegular (Correlation name first second r) →
    row_from (corr_line name first second r) 0 ≡ Ok (Correlation name first second r)
corr_row name first second r h =
    let line : List ℕ = corr_line name first second r in
    let q : ℕ = 5 + length name + 1 in
    let s : ℕ = q + length first + 1 in
    ap (λ ws. row_at line ws) (words_again (codes "corr") (corr_words name first second r) 0 (corr_are_words name first second r h))
    ∙ corr_again (length line) 5 q s (s + length second + 1) name first second (text_of r) r h.0 h.1 h.2 (bound_again r h.3.bound h.3.canonical) h.4
