-- The quantities and the inputs of rows: the row of each is that of the name before the point.
use Rattle.std.proofs.Common.{◌≡◌, ℕ, Bool, true, false, ◌||◌, ◌&&◌, List, [], ◌∷◌, ◌++◌, refl, sym, ap, ◌∙◌, true≢false, append_assoc}
use Rattle.std.specs.Prelude.{find, bytes_eq}
use Rattle.std.specs.List.{list_any}
use Rattle.std.proofs.Math.Bool.{or-false}
use Rattle.std.proofs.lemmas.Bool.{and_right}
use Rattle.std.proofs.lemmas.List.Folds.{list_any-append}
use Rattle.formula_ast.specs.Names.{is_plain_name}
use Rattle.sheet_rows.specs.Rows.{Row, Given, Readings, Joint, Correlation, Formula, Tolerance, name_of, column_name, column_names, row_part, quantities_of, gives, gives_input}
use Rattle.sheet_rows.specs.Regular.{IsRegular, AreRegular}
use Rattle.sheet_rows.specs.Sheets.{is_named, is_among, quantities_in, is_quantity_in, is_input_in, are_named_once}
use Rattle.sheet_rows.proofs.Parts.{row_part-plain, row_part-column}
use Rattle.sheet_rows.proofs.Tests.{same_name, named_itself}
use Rattle.sheet_rows.proofs.Named.{holds, has_none, has_found}

-- ---- quantities
quantities_append : (xs ys : List Row) → quantities_in (xs ++ ys) ≡ quantities_in xs ++ quantities_in ys
quantities_append [] ys = refl
quantities_append (r ∷ rs) ys =
    ap (λ ns. quantities_of r ++ ns) (quantities_append rs ys) ∙ sym (append_assoc (quantities_of r) (quantities_in rs) (quantities_in ys))

-- the quantities of a row more
pub quantity_append : (xs ys : List Row) (n : List ℕ) → is_quantity_in (xs ++ ys) n ≡ (is_quantity_in xs n || is_quantity_in ys n)
quantity_append xs ys n = ap (list_any (bytes_eq n)) (quantities_append xs ys) ∙ list_any-append (bytes_eq n) (quantities_in xs) (quantities_in ys)

-- a name is a quantity where a row gives it
pub quantity_any : (xs : List Row) (n : List ℕ) → is_quantity_in xs n ≡ list_any (λ r. gives r n) xs
quantity_any [] n = refl
quantity_any (r ∷ rs) n = list_any-append (bytes_eq n) (quantities_of r) (quantities_in rs) ∙ ap (λ b. gives r n || b) (quantity_any rs n)

sole_name : (n name : List ℕ) → is_plain_name name ≡ true → (bytes_eq n name || false) ≡ true → bytes_eq (row_part n) name ≡ true
sole_name n name plain h =
    ap (λ m. bytes_eq (row_part m) name) (same_name n name (sym (or-false (bytes_eq n name)) ∙ h))
    ∙ ap (λ m. bytes_eq m name) (row_part-plain name plain) ∙ named_itself name

column_part : (n table : List ℕ) (columns : List (List ℕ)) → is_plain_name table ≡ true → list_any (bytes_eq n) (column_names table columns) ≡ true
    → bytes_eq (row_part n) table ≡ true
column_part n table [] plain h = absurd (true≢false (sym h))
column_part n table (c ∷ cs) plain h = by (bytes_eq n (column_name table c)) refl h (column_part n table cs plain) where
  by : (t : Bool) → bytes_eq n (column_name table c) ≡ t → (t || list_any (bytes_eq n) (column_names table cs)) ≡ true
      → (list_any (bytes_eq n) (column_names table cs) ≡ true → bytes_eq (row_part n) table ≡ true) → bytes_eq (row_part n) table ≡ true
  by true e g rest =
      ap (λ m. bytes_eq (row_part m) table) (same_name n (column_name table c) e)
      ∙ ap (λ m. bytes_eq m table) (row_part-column table c plain) ∙ named_itself table
  by false e g rest = rest g

-- the row of a quantity is that of the name before the point
pub gives_part : (r : Row) (n : List ℕ) → IsRegular r → gives r n ≡ true → is_named (row_part n) r ≡ true
gives_part (Given name estimate shape dof) n h e = sole_name n name h.0 e
gives_part (Readings name table) n h e = sole_name n name h.0 e
gives_part (Joint name columns table) n h e = column_part n name columns h.0 e
gives_part (Correlation name first second coefficient) n h e = absurd (true≢false (sym e))
gives_part (Formula name formula) n h e = sole_name n name h.0 e
gives_part (Tolerance name rule) n h e = absurd (true≢false (sym e))

gives_named : (r : Row) (n : List ℕ) → IsRegular r → gives r n ≡ (is_named (row_part n) r && gives r n)
gives_named r n h = by (gives r n) refl where
  by : (t : Bool) → gives r n ≡ t → t ≡ (is_named (row_part n) r && t)
  by true e = sym (ap (λ t. t && true) (gives_part r n h e))
  by false e = sym (and_right (is_named (row_part n) r) false refl)

-- the row of that name gives it
pub quantity_named : (xs : List Row) (n : List ℕ) → AreRegular xs → is_quantity_in xs n ≡ list_any (λ r. is_named (row_part n) r && gives r n) xs
quantity_named [] n h = refl
quantity_named (r ∷ rs) n h =
    let first = gives_named r n h.0 in
    let rest = quantity_named rs n h.1 in
    list_any-append (bytes_eq n) (quantities_of r) (quantities_in rs) ∙ (λ j. first j || rest j)

-- the quantities of one row
pub quantity_last : (r : Row) (n : List ℕ) → is_quantity_in (r ∷ []) n ≡ gives r n
quantity_last r n = list_any-append (bytes_eq n) (quantities_of r) [] ∙ or-false (gives r n)

pub quantity_found : (xs : List Row) (n : List ℕ) → AreRegular xs → are_named_once xs ≡ true
    → is_quantity_in xs n ≡ holds (λ r. gives r n) (row_part n) (find (is_named (row_part n)) xs)
quantity_found xs n regular once = quantity_named xs n regular ∙ has_found (λ r. gives r n) (row_part n) xs once

-- ---- inputs
-- an input of a row is one of its quantities
pub input_gives : (r : Row) (n : List ℕ) → gives_input r n ≡ true → gives r n ≡ true
input_gives (Given name estimate shape dof) n e = e
input_gives (Readings name table) n e = e
input_gives (Joint name columns table) n e = e
input_gives (Correlation name first second coefficient) n e = e
input_gives (Formula name formula) n e = absurd (true≢false (sym e))
input_gives (Tolerance name rule) n e = absurd (true≢false (sym e))

input_named : (r : Row) (n : List ℕ) → IsRegular r → gives_input r n ≡ (is_named (row_part n) r && gives_input r n)
input_named r n h = by (gives_input r n) refl where
  by : (t : Bool) → gives_input r n ≡ t → t ≡ (is_named (row_part n) r && t)
  by true e = sym (ap (λ t. t && true) (gives_part r n h (input_gives r n e)))
  by false e = sym (and_right (is_named (row_part n) r) false refl)

inputs_named : (xs : List Row) (n : List ℕ) → AreRegular xs → is_input_in xs n ≡ list_any (λ r. is_named (row_part n) r && gives_input r n) xs
inputs_named [] n h = refl
inputs_named (r ∷ rs) n h =
    let first = input_named r n h.0 in
    let rest = inputs_named rs n h.1 in
    (λ j. first j || rest j)

pub input_found : (xs : List Row) (n : List ℕ) → AreRegular xs → are_named_once xs ≡ true
    → is_input_in xs n ≡ holds (λ r. gives_input r n) (row_part n) (find (is_named (row_part n)) xs)
input_found xs n regular once = inputs_named xs n regular ∙ has_found (λ r. gives_input r n) (row_part n) xs once

pub no_quantity : (xs : List Row) (n : List ℕ) → AreRegular xs → is_among xs (row_part n) ≡ false → is_quantity_in xs n ≡ false
no_quantity xs n regular h = quantity_named xs n regular ∙ has_none (λ r. gives r n) (row_part n) xs h

-- ---- a row more
pub added_has : (rows : List Row) (row : Row) (n : List ℕ) → is_among (rows ++ row ∷ []) n ≡ (is_among rows n || bytes_eq n (name_of row))
added_has rows row n = list_any-append (is_named n) rows (row ∷ []) ∙ ap (λ b. is_among rows n || b) (or-false (bytes_eq n (name_of row)))
