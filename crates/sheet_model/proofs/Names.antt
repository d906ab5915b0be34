-- The names of a sheet's quantities are those that its rows give.
use Rattle.std.specs.Prelude.{◌≡◌, ℕ, ◌+◌, Bool, true, false, List, [], ◌∷◌, ◌++◌, bytes_eq, refl}
use Rattle.std.specs.List.{flat_map, list_any}
use Rattle.std.proofs.Common.{sym, ◌∙◌, ap, ap₂}
use Rattle.std.proofs.lemmas.List.{map-append}
use Rattle.std.proofs.lemmas.Slice.Eq.{bytes_eq-Decides}
use Rattle.type_a.specs.Tables.{Table}
use Rattle.sheet_rows.specs.Rows.{Row, Given, Readings, Joint, Correlation, Formula, Tolerance, column_name, column_names, quantities_of}
use Rattle.sheet_rows.specs.Sheets.{quantities_in, is_quantity_in}
use Rattle.value_cache.specs.Quantities.{Quantity, is_there}
use Rattle.sheet_model.specs.Quantities.{column_quantities, row_quantities}
use Rattle.sheet_model.specs.Walks.{names}

both : (a b : Bool) → (a ≡ true → b ≡ true) → (b ≡ true → a ≡ true) → a ≡ b
both true b f g = sym (f refl)
both false true f g = g refl
both false false f g = refl

named-comm : (a b : List ℕ) → bytes_eq a b ≡ bytes_eq b a
named-comm a b =
    both (bytes_eq a b) (bytes_eq b a)
    (λ e. (bytes_eq-Decides b a).1 (sym ((bytes_eq-Decides a b).0 e)))
    (λ e. (bytes_eq-Decides a b).1 (sym ((bytes_eq-Decides b a).0 e)))

names_of_columns : (name : List ℕ) (table : Table) (place : ℕ) (columns : List (List ℕ))
    → names (column_quantities name table place columns) ≡ column_names name columns
names_of_columns name table place [] = refl
names_of_columns name table place (column ∷ columns) =
    ap (λ ns. column_name name column ∷ ns) (names_of_columns name table (place + 1) columns)

pub row_names : (row : Row) → names (row_quantities row) ≡ quantities_of row
row_names (Given name estimate shape dof) = refl
row_names (Readings name table) = refl
row_names (Joint name columns table) = names_of_columns name table 0 columns
row_names (Correlation name first second coefficient) = refl
row_names (Formula name f) = refl
row_names (Tolerance name rule) = refl

pub all_names : (rows : List Row) → names (flat_map row_quantities rows) ≡ quantities_in rows
all_names [] = refl
all_names (row ∷ rows) =
    map-append (λ (q : Quantity (List ℕ)). q.key) (row_quantities row) (flat_map row_quantities rows)
    ∙ ap₂ (λ a b. a ++ b) (row_names row) (all_names rows)

pub there-named : (qs : List (Quantity (List ℕ))) (n : List ℕ) → is_there bytes_eq qs n ≡ list_any (bytes_eq n) (names qs)
there-named [] n = refl
there-named (q ∷ qs) n = by (bytes_eq q.key n) refl (there-named qs n) where
  by : (same : Bool) → bytes_eq q.key n ≡ same → is_there bytes_eq qs n ≡ list_any (bytes_eq n) (names qs)
      → is_there bytes_eq (q ∷ qs) n ≡ list_any (bytes_eq n) (names (q ∷ qs))
  by true e rest = rw (e, sym (named-comm q.key n) ∙ e) refl
  by false e rest = rw (e, sym (named-comm q.key n) ∙ e) rest

-- a name is that of a quantity exactly where it is one of those that the rows give
pub there-is_quantity : (rows : List Row) (n : List ℕ) → is_there bytes_eq (flat_map row_quantities rows) n ≡ is_quantity_in rows n
there-is_quantity rows n = there-named (flat_map row_quantities rows) n ∙ ap (list_any (bytes_eq n)) (all_names rows)
