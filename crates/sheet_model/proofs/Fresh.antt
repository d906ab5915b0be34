-- A row with a new name has quantities with new names: those of one row differ, and begin with its name.
use Rattle.std.specs.Prelude.{◌≡◌, ℕ, Bool, true, false, ◌&&◌, ◌||◌, not, nat_lt, nat_le, if◌then◌else◌, List, [], ◌∷◌, ◌++◌, length, bytes_eq, refl}
use Rattle.std.specs.List.{list_any, list_all, flat_map}
use Rattle.std.proofs.Common.{sym, ◌∙◌, ap, ap₂}
use Rattle.std.proofs.lemmas.Bool.{true≢false, and_parts, or_parts, and_from, not-true}
use Rattle.std.proofs.lemmas.List.{append_cancel_left}
use Rattle.std.proofs.lemmas.Slice.Eq.{bytes_eq-Decides}
use Rattle.formula_ast.specs.NewNames.{has}
use Rattle.table_records.specs.Header.{most_columns, is_column, are_distinct, is_header}
use Rattle.sheet_rows.specs.Rows.{Row, Given, Readings, Joint, Correlation, Formula, Tolerance, name_of, column_name, column_names, row_part, quantities_of}
use Rattle.sheet_rows.specs.Regular.{IsRegular, AreRegular}
use Rattle.sheet_rows.proofs.Columns.{other_column}
use Rattle.sheet_rows.specs.Sheets.{is_among}
use Rattle.sheet_rows.proofs.Tests.{other_way, same_name, named_itself}
use Rattle.sheet_rows.proofs.Quantities.{gives_part, no_quantity}
use Rattle.value_cache.specs.Quantities.{Quantity, is_there}
use Rattle.value_cache.proofs.Evaluable.{is_there-added}
use Rattle.sheet_model.specs.Quantities.{row_quantities}
use Rattle.sheet_model.specs.Walks.{Quantities, names, AreFresh}
use Rattle.sheet_model.proofs.Names.{row_names, there-is_quantity}

-- ---- the quantities of one row
column_same : (table a b : List ℕ) → column_name table a ≡ column_name table b → a ≡ b
column_same table a b e = let rest : 46 ∷ a ≡ 46 ∷ b = append_cancel_left table (46 ∷ a) (46 ∷ b) e in cc

columns_differ : (table a b : List ℕ) → bytes_eq a b ≡ false → bytes_eq (column_name table a) (column_name table b) ≡ false
columns_differ table a b h =
    sym (other_column (column_name table a) table b (λ e. true≢false (sym ((bytes_eq-Decides a b).1 (column_same table a b e)) ∙ h)))

none_same : (table column : List ℕ) (columns : List (List ℕ)) → has columns column ≡ false
    → has (column_names table columns) (column_name table column) ≡ false
none_same table column [] h = refl
none_same table column (next ∷ columns) h =
    let both = or_parts (bytes_eq next column) (has columns column) h in
    ap₂ (λ a b. a || b) (columns_differ table next column both.0) (none_same table column columns both.1)

pub distinct_columns : (table : List ℕ) (columns : List (List ℕ)) → are_distinct columns ≡ true → are_distinct (column_names table columns) ≡ true
distinct_columns table [] h = refl
distinct_columns table (column ∷ columns) h =
    let both = and_parts (not (has columns column)) (are_distinct columns) h in
    and_from (not (has (column_names table columns) (column_name table column))) (are_distinct (column_names table columns))
    (ap not (none_same table column columns (not-true (has columns column) both.0))) (distinct_columns table columns both.1)

distinct_header : (columns : List (List ℕ)) → is_header columns ≡ true → are_distinct columns ≡ true
distinct_header columns h =
    (and_parts (nat_lt 0 (length columns) && nat_le (length columns) most_columns && list_all is_column columns) (are_distinct columns) h).1

pub distinct_quantities : (row : Row) → IsRegular row → are_distinct (quantities_of row) ≡ true
distinct_quantities (Given name estimate shape dof) h = refl
distinct_quantities (Readings name table) h = refl
distinct_quantities (Joint name columns table) h = distinct_columns name columns (distinct_header columns h.1)
distinct_quantities (Correlation name first second coefficient) h = refl
distinct_quantities (Formula name f) h = refl
distinct_quantities (Tolerance name rule) h = refl

-- ---- distinct quantities with new names
abbrev is_new : Quantities → List ℕ → Bool
is_new qs n = not (is_there bytes_eq qs n)

still_new : (qs : Quantities) (q : Quantity (List ℕ)) (ns : List (List ℕ)) → list_all (is_new qs) ns ≡ true → has ns q.key ≡ false
    → list_all (is_new (qs ++ q ∷ [])) ns ≡ true
still_new qs q [] h k = refl
still_new qs q (n ∷ ns) h k =
    let new = and_parts (is_new qs n) (list_all (is_new qs) ns) h in
    let other = or_parts (bytes_eq n q.key) (has ns q.key) k in
    and_from (is_new (qs ++ q ∷ []) n) (list_all (is_new (qs ++ q ∷ [])) ns)
    (ap not (is_there-added bytes_eq qs q n
    ∙ ap₂ (λ a b. if a then true else b) (not-true (is_there bytes_eq qs n) new.0) (other_way n q.key other.0)))
    (still_new qs q ns new.1 other.1)

fresh_named : (qs more : Quantities) → list_all (is_new qs) (names more) ≡ true → are_distinct (names more) ≡ true → AreFresh qs more
fresh_named qs [] h k = tt
fresh_named qs (q ∷ more) h k =
    let new = and_parts (is_new qs q.key) (list_all (is_new qs) (names more)) h in
    let distinct = and_parts (not (has (names more) q.key)) (are_distinct (names more)) k in (
      not-true (is_there bytes_eq qs q.key) new.0,
      fresh_named (qs ++ q ∷ []) more (still_new qs q (names more) new.1 (not-true (has (names more) q.key) distinct.0)) distinct.1,
    )

-- ---- a row with a new name
-- what holds of each of the names holds of all
pub all_of : (p : List ℕ → Bool) (ns : List (List ℕ)) → ((n : List ℕ) → list_any (bytes_eq n) ns ≡ true → p n ≡ true) → list_all p ns ≡ true
all_of p [] h = refl
all_of p (n ∷ ns) h =
    and_from (p n) (list_all p ns) (h n (ap (λ b. b || list_any (bytes_eq n) ns) (named_itself n)))
    (all_of p ns (λ m e. h m (later (bytes_eq m n) (list_any (bytes_eq m) ns) e)))
  where
    later : (a b : Bool) → b ≡ true → (a || b) ≡ true
    later true b e = refl
    later false b e = e

new_quantities : (before : List Row) (row : Row) → AreRegular before → IsRegular row → is_among before (name_of row) ≡ false
    → list_all (is_new (flat_map row_quantities before)) (quantities_of row) ≡ true
new_quantities before row all regular e =
    all_of (is_new (flat_map row_quantities before)) (quantities_of row)
    (λ n given. ap not (there-is_quantity before n
    ∙ no_quantity before n all (ap (is_among before) (same_name (row_part n) (name_of row) (gives_part row n regular given)) ∙ e)))

pub fresh_by : (before : List Row) (row : Row) → AreRegular before → IsRegular row → is_among before (name_of row) ≡ false
    → AreFresh (flat_map row_quantities before) (row_quantities row)
fresh_by before row all regular e =
    fresh_named (flat_map row_quantities before) (row_quantities row)
    (ap (list_all (is_new (flat_map row_quantities before))) (row_names row) ∙ new_quantities before row all regular e)
    (ap are_distinct (row_names row) ∙ distinct_quantities row regular)
