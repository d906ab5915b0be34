-- The printed text of a row is read as the row again.
use Rattle.std.proofs.Common.{append_assoc, ◌≡◌, ℕ, ◌+◌, ◌<◌, true, false, List, ◌∷◌, ◌++◌, length, take, drop, refl, sym, ◌∙◌, ap, arith, drop-drop, Ok}
use Rattle.std.specs.Prelude.{codes}
use Rattle.std.specs.List.{list_all, prefix_len}
use Rattle.std.proofs.Math.Seq.{take-append_seam, drop-append_seam}
use Rattle.formula_ast.specs.Names.{is_plain_name}
use Rattle.formula_ast.specs.Trees.{Tree}
use Rattle.formula_ast.specs.Reading.{reading_of}
use Rattle.formula_ast.specs.Printing.{print}
use Rattle.formula_ast.proofs.Again.{read_regular}
use Rattle.line_text.specs.Blanks.{is_blank}
use Rattle.line_text.specs.Words.{written_part}
use Rattle.line_text.proofs.WrittenTexts.{run_whole, IsSolid, solid_written, solid_after, one_word, no_blanks}
use Rattle.sheet_rows.specs.Rows.{Row, Given, Readings, Joint, Correlation, Formula, Tolerance, is_table}
use Rattle.row_text.specs.Reading.{past_blanks, leading_name, is_in_name, begins_equals, let_of, row_at, row_from, row_read}
use Rattle.sheet_rows.specs.Regular.{IsRegular}
use Rattle.row_text.specs.Printing.{printed}
use Rattle.formula_ast.proofs.MovedPlaces.{read_after_blank}
use Rattle.row_text.proofs.PlainBytes.{ArePlain, all_in_word, all_no_hash, all_in_name, names_plain, name_some}
use Rattle.row_text.proofs.SolidTexts.{print_solid}
use Rattle.row_text.proofs.PrintedReadings.{readings_line, readings_text, readings_solid, readings_row}
use Rattle.row_text.proofs.PrintedCorrelations.{corr_line, corr_text, corr_solid, corr_row}
use Rattle.row_text.proofs.PrintedTolerances.{tolerance_line, tolerance_text, tolerance_solid, tolerance_row}
use Rattle.row_text.proofs.PrintedGivens.{given_line, given_text, given_solid, given_row}

-- the printed text, grouped from its end
abbrev let_line : List ℕ → List ℕ → List ℕ
let_line name text = codes "let " ++ (name ++ (codes " = " ++ text))

-- ---- formulas
let_again : (line name : List ℕ) (f : Tree) (at p q : ℕ) → past_blanks line at ≡ p → leading_name (drop p line) ≡ name →
    is_plain_name name ≡ true → past_blanks line (p + length name) ≡ q → begins_equals (drop q line) ≡ true →
    reading_of (drop (q + 1) line) ≡ Ok f → let_of line at ≡ Ok (Formula name f)
let_again line name f at p q start word plain gap equals read = rw (start, word, plain, gap, equals, read) refl

name_again : (name rest : List ℕ) → list_all is_in_name name ≡ true → prefix_len is_in_name rest ≡ 0 → leading_name (name ++ rest) ≡ name
name_again name rest all none =
    ap (λ n. take n (name ++ rest)) (run_whole is_in_name name rest all none) ∙ take-append_seam name rest

-- what stands after the name
after_name : (name rest : List ℕ) (n : ℕ) → drop (4 + length name + n) (codes "let " ++ (name ++ rest)) ≡ drop n rest
after_name name rest n =
    let line : List ℕ = codes "let " ++ (name ++ rest) in
    sym (drop-drop n (4 + length name) line)
    ∙ ap (λ t. drop n t) (sym (drop-drop (length name) 4 line) ∙ drop-append_seam name rest)

formula_row : (name : List ℕ) (f : Tree) → is_plain_name name ≡ true → reading_of (print f) ≡ Ok f →
    row_from (let_line name (print f)) 0 ≡ Ok (Formula name f)
formula_row name f plain read =
    let rest : List ℕ = 32 ∷ 61 ∷ 32 ∷ print f in
    let line : List ℕ = codes "let " ++ (name ++ rest) in
    let all : ArePlain name = names_plain name plain in
    let some : 0 < length name = name_some name plain in
    let start : past_blanks line 3 ≡ 4 = ap (λ n. 3 + (1 + n)) (no_blanks name rest (all_in_word name all) some) in
    let after : drop (4 + length name) line ≡ rest
    = ap (λ n. drop n line) (omega arith) ∙ after_name name rest 0 in
    let gap : past_blanks line (4 + length name) ≡ 4 + length name + 1 = ap (λ t. 4 + length name + prefix_len is_blank t) after in
    let equals : begins_equals (drop (4 + length name + 1) line) ≡ true = ap begins_equals (after_name name rest 1) in
    let text : drop (4 + length name + 1 + 1) line ≡ 32 ∷ print f
    = ap (λ n. drop n line) (omega arith) ∙ after_name name rest 2 in
    ap (λ ws. row_at line ws) (one_word (codes "let") (32 ∷ (name ++ rest)) 0 refl (omega arith) refl)
    ∙ let_again line name f 3 4 (4 + length name + 1) start (name_again name rest (all_in_name name all) refl) plain gap equals
    (ap reading_of text ∙ read_after_blank (print f) f read)

-- ---- rows
formula_solid : (name : List ℕ) (f : Tree) → is_plain_name name ≡ true → IsSolid (print f) → IsSolid (let_line name (print f))
formula_solid name f plain h =
    solid_after (codes "let ") _ refl
    (solid_after name _ (all_no_hash name (names_plain name plain)) (solid_after (codes " = ") (print f) refl h))

formula_text : (name : List ℕ) (f : Tree) → printed (Formula name f) ≡ let_line name (print f)
formula_text name f = grouped (codes "let ") name (codes " = ") (print f) where
  grouped : (a b c d : List ℕ) → a ++ b ++ c ++ d ≡ a ++ (b ++ (c ++ d))
  grouped a b c d = simp append_assoc

-- a line that is the whole of its written part
line_again : (text line : List ℕ) (row : Row) → text ≡ line → IsSolid line → row_from line 0 ≡ Ok row → row_read text 0 ≡ Ok row
unfolding row_read
line_again text line row e solid read =
    ap (λ t. row_from (written_part t) 0) e ∙ ap (λ t. row_from t 0) (solid_written line solid) ∙ read

pub read_again : (row : Row) → IsRegular row → is_table row ≡ false → row_read (printed row) 0 ≡ Ok row
read_again (Given name e s d) h line =
    line_again (printed (Given name e s d)) (given_line name e s d) (Given name e s d) (given_text name e s d) (given_solid name e s d h)
    (given_row name e s d h)
read_again (Readings name t) h line =
    line_again (printed (Readings name t)) (readings_line name t) (Readings name t) (readings_text name t) (readings_solid name t h)
    (readings_row name t h)
read_again (Joint name columns t) h line = absurd (cc line)
read_again (Correlation name first second r) h line =
    line_again (printed (Correlation name first second r)) (corr_line name first second r) (Correlation name first second r)
    (corr_text name first second r) (corr_solid name first second r h) (corr_row name first second r h)
read_again (Formula name f) h line =
    line_again (printed (Formula name f)) (let_line name (print f)) (Formula name f) (formula_text name f)
    (formula_solid name f h.0 (print_solid f (read_regular (print f) f h.1)))
    (formula_row name f h.0 h.1)
read_again (Tolerance name rule) h line =
    line_again (printed (Tolerance name rule)) (tolerance_line name rule) (Tolerance name rule) (tolerance_text name rule)
    (tolerance_solid name rule h) (tolerance_row name rule h)
