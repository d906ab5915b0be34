-- How often the names of a sheet's inputs stand among its inputs, and among the members of its groups.
use Rattle.std.specs.Prelude.{◌≡◌, ℕ, suc, ◌+◌, ◌≤◌, Bool, true, false, ◌&&◌, ◌||◌, not, is_some, if◌then◌else◌, List, [], ◌∷◌, ◌++◌, map, None, Some, bytes_eq, refl}
use Rattle.std.specs.List.{list_any, list_all, flat_map}
use Rattle.std.proofs.Common.{sym, ap, ap₂, ◌∙◌, arith}
use Rattle.std.proofs.lemmas.Bool.{true≢false, and_parts, and_from, or_parts, not-true}
use Rattle.std.proofs.lemmas.List.{append-nil}
use Rattle.exact_law.specs.Law.{Column, inputs_of, inputs_with, all_members, members}
use Rattle.formula_ast.specs.Names.{is_plain_name}
use Rattle.type_a.specs.Tables.{Table}
use Rattle.table_records.specs.Header.{are_distinct}
use Rattle.sheet_rows.specs.Rows.{Row, Given, Readings, Joint, Correlation, Formula, Tolerance, name_of, column_name, column_names, row_part, gives, correlated_names, correlates, is_correlatable}
use Rattle.sheet_rows.specs.Regular.{IsRegular, AreRegular}
use Rattle.sheet_rows.proofs.Parts.{row_part-plain}
use Rattle.sheet_rows.specs.Sheets.{is_named, is_among, are_named_once, is_correlatable_in, repeated_name, are_correlatable, is_correlated_apart, are_apart}
use Rattle.sheet_rows.proofs.Tests.{other_way, same_name, named_itself, both_ways_same, all_more}
use Rattle.sheet_rows.proofs.Named.{once_head, once_tail, has_none}
use Rattle.sheet_rows.proofs.RegularRows.{plain_row}
use Rattle.sheet_rows.proofs.Quantities.{gives_part}
use Rattle.value_cache.specs.Quantities.{Quantity}
use Rattle.value_cache.specs.Model.{model_of}
use Rattle.covariance.specs.Groups.{Group, Single, placed, column, exact_group}
use Rattle.sheet_model.specs.Quantities.{column_quantities, row_quantities}
use Rattle.sheet_model.proofs.Fresh.{distinct_quantities}
use Rattle.sheet_model.specs.Groups.{is_correlated, row_groups}
use Rattle.sheet_model.proofs.Counts.{one_if, count, later, count_append, count_absent, count_distinct}

-- ---- inputs
-- the names of a row that are those of inputs: its quantities, or none
abbrev pub input_names : Row → List (List ℕ)
input_names (Given name estimate shape dof) = name ∷ []
input_names (Readings name table) = name ∷ []
input_names (Joint name columns table) = column_names name columns
input_names (Correlation name first second coefficient) = []
input_names (Formula name f) = []
input_names (Tolerance name rule) = []

abbrev pub is_input_of : List ℕ → Row → Bool
is_input_of n row = list_any (bytes_eq n) (input_names row)

-- the name is that of an input of the rows
abbrev pub is_in : List Row → List ℕ → Bool
is_in rows n = list_any (is_input_of n) rows

inputs_of_columns : (name : List ℕ) (table : Table) (place : ℕ) (columns : List (List ℕ)) (qs : List (Quantity (List ℕ)))
    → inputs_of (model_of (column_quantities name table place columns ++ qs)) ≡ column_names name columns ++ inputs_of (model_of qs)
unfolding inputs_of inputs_with
inputs_of_columns name table place [] qs = refl
inputs_of_columns name table place (column ∷ columns) qs =
    ap (λ ns. column_name name column ∷ ns) (inputs_of_columns name table (place + 1) columns qs)

pub inputs_are : (rows : List Row) → inputs_of (model_of (flat_map row_quantities rows)) ≡ flat_map input_names rows
unfolding inputs_of inputs_with
inputs_are [] = refl
inputs_are (Given name estimate shape dof ∷ rows) = ap (λ ns. name ∷ ns) (inputs_are rows)
inputs_are (Readings name table ∷ rows) = ap (λ ns. name ∷ ns) (inputs_are rows)
inputs_are (Joint name columns table ∷ rows) =
    inputs_of_columns name table 0 columns (flat_map row_quantities rows) ∙ ap (λ ns. column_names name columns ++ ns) (inputs_are rows)
inputs_are (Correlation name first second coefficient ∷ rows) = inputs_are rows
inputs_are (Formula name f ∷ rows) = inputs_are rows
inputs_are (Tolerance name rule ∷ rows) = inputs_are rows

-- ---- members
-- the names of the inputs of a row that no correlation has put into a group
abbrev pub own_names : List Row → Row → List (List ℕ)
own_names rows (Given name estimate shape dof) = if is_correlated rows name then [] else name ∷ []
own_names rows (Readings name table) = name ∷ []
own_names rows (Joint name columns table) = column_names name columns
own_names rows (Correlation name first second coefficient) = []
own_names rows (Formula name f) = []
own_names rows (Tolerance name rule) = []

abbrev pub member_names : List Row → Row → List (List ℕ)
member_names rows row = own_names rows row ++ correlated_names row

alone : (t : Bool) (g : Group (List ℕ)) (name : List ℕ) (gs : List (Group (List ℕ))) (ns : List (List ℕ))
    → members (exact_group g) ≡ name ∷ [] → all_members (map exact_group gs) ≡ ns
    → all_members (map exact_group ((if t then [] else g ∷ []) ++ gs)) ≡ ((if t then [] else name ∷ []) ++ []) ++ ns
unfolding all_members
alone true g name gs ns e h = h
alone false g name gs ns e h = ap₂ (λ a b. a ++ b) e h

keys_are : (table : Table) (place : ℕ) (ns : List (List ℕ)) → map (λ (a : Column (List ℕ)). a.key) (map (column table) (placed place ns)) ≡ ns
keys_are table place [] = refl
keys_are table place (n ∷ ns) = ap (λ ms. n ∷ ms) (keys_are table (suc place) ns)

pub members_are : (rows xs : List Row) → all_members (map exact_group (flat_map (row_groups rows) xs)) ≡ flat_map (member_names rows) xs
unfolding all_members members
members_are rows [] = refl
members_are rows (Given name estimate shape dof ∷ xs) =
    alone (is_correlated rows name) (Single name shape dof) name (flat_map (row_groups rows) xs) (flat_map (member_names rows) xs) refl (members_are rows xs)
members_are rows (Readings name table ∷ xs) = ap (λ ns. name ∷ ns) (members_are rows xs)
members_are rows (Joint name columns table ∷ xs) =
    ap₂ (λ a b. a ++ b) (keys_are table 0 (column_names name columns) ∙ sym (append-nil (column_names name columns))) (members_are rows xs)
members_are rows (Correlation name first second coefficient ∷ xs) = ap (λ ns. first ∷ second ∷ ns) (members_are rows xs)
members_are rows (Formula name f ∷ xs) = members_are rows xs
members_are rows (Tolerance name rule ∷ xs) = members_are rows xs

-- ---- a name among the inputs
-- an input of a row is one of its quantities, so that the row is that of the name before the point
pub input_given : (n : List ℕ) (row : Row) → is_input_of n row ≡ true → gives row n ≡ true
input_given n (Given name estimate shape dof) e = e
input_given n (Readings name table) e = e
input_given n (Joint name columns table) e = e
input_given n (Correlation name first second coefficient) e = absurd (true≢false (sym e))
input_given n (Formula name f) e = absurd (true≢false (sym e))
input_given n (Tolerance name rule) e = absurd (true≢false (sym e))

input_part : (n : List ℕ) (row : Row) → IsRegular row → is_input_of n row ≡ true → is_named (row_part n) row ≡ true
input_part n row h e = gives_part row n h (input_given n row e)

distinct_inputs : (row : Row) → IsRegular row → are_distinct (input_names row) ≡ true
distinct_inputs (Given name estimate shape dof) h = refl
distinct_inputs (Readings name table) h = refl
distinct_inputs (Joint name columns table) h = distinct_quantities (Joint name columns table) h
distinct_inputs (Correlation name first second coefficient) h = refl
distinct_inputs (Formula name f) h = refl
distinct_inputs (Tolerance name rule) h = refl

none_given : (n : List ℕ) (row : Row) → IsRegular row → is_named (row_part n) row ≡ false → count n (input_names row) ≡ 0
none_given n row h e = count_absent n (input_names row) (by (is_input_of n row) refl) where
  by : (t : Bool) → is_input_of n row ≡ t → t ≡ false
  by true g = absurd (true≢false (sym (input_part n row h g) ∙ e))
  by false g = refl

one_given : (n : List ℕ) (row : Row) → IsRegular row → is_named (row_part n) row ≡ true → is_input_of n row ≡ true → count n (input_names row) ≡ 1
one_given n row h e there = count_distinct n (input_names row) (distinct_inputs row h) there

-- what no row of the name says, the rows do not say
counted : (f : Row → List (List ℕ)) (n : List ℕ) (x : Row) (xs : List Row) (a b : ℕ) → count n (f x) ≡ a → count n (flat_map f xs) ≡ b
    → count n (flat_map f (x ∷ xs)) ≡ a + b
counted f n x xs a b e h = count_append n (f x) (flat_map f xs) ∙ ap₂ (λ i j. i + j) e h

-- where the row of a name has a property, the rows say of the name what that row says
module _ (f : Row → List (List ℕ)) (p : Row → Bool) (n : List ℕ) (k : ℕ)
    (none : (row : Row) → IsRegular row → is_named (row_part n) row ≡ false → count n (f row) ≡ 0)
    (some : (row : Row) → IsRegular row → is_named (row_part n) row ≡ true → p row ≡ true → count n (f row) ≡ k) where
  none_named : (xs : List Row) → AreRegular xs → is_among xs (row_part n) ≡ false → count n (flat_map f xs) ≡ 0
  none_named [] h e = refl
  none_named (x ∷ xs) h e =
      let both = or_parts (is_named (row_part n) x) (is_among xs (row_part n)) e in
      counted f n x xs 0 0 (none x h.0 both.0) (none_named xs h.1 both.1)

  count_by : (x : Row) (xs : List Row) (t u : Bool) → AreRegular (x ∷ xs) → is_named (row_part n) x ≡ t → p x ≡ u → is_among xs (name_of x) ≡ false
      → ((t && u) || list_any (λ row. is_named (row_part n) row && p row) xs) ≡ true
      → (list_any (λ row. is_named (row_part n) row && p row) xs ≡ true → count n (flat_map f xs) ≡ k)
      → count n (flat_map f (x ∷ xs)) ≡ k
  count_by x xs true true h e g new there rest =
      counted f n x xs k 0 (some x h.0 e g) (none_named xs h.1 (ap (is_among xs) (same_name (row_part n) (name_of x) e) ∙ new)) ∙ omega arith
  count_by x xs true false h e g new there rest =
      absurd (true≢false (sym there ∙ has_none p (row_part n) xs (ap (is_among xs) (same_name (row_part n) (name_of x) e) ∙ new)))
  count_by x xs false u h e g new there rest = counted f n x xs 0 k (none x h.0 e) (rest there) ∙ omega arith

  count_named : (xs : List Row) → AreRegular xs → are_named_once xs ≡ true → list_any (λ row. is_named (row_part n) row && p row) xs ≡ true
      → count n (flat_map f xs) ≡ k
  count_named [] h once there = absurd (true≢false (sym there))
  count_named (x ∷ xs) h once there =
      count_by x xs (is_named (row_part n) x) (p x) h refl refl (once_head x xs once) there (count_named xs h.1 (once_tail x xs once))

-- the row of an input is that of the name before the point
in_named : (n : List ℕ) (xs : List Row) → AreRegular xs → is_in xs n ≡ true → list_any (λ row. is_named (row_part n) row && is_input_of n row) xs ≡ true
in_named n [] h e = e
in_named n (x ∷ xs) h e = by (is_input_of n x) refl e (in_named n xs h.1) where
  by : (t : Bool) → is_input_of n x ≡ t → (t || is_in xs n) ≡ true
      → (is_in xs n ≡ true → list_any (λ row. is_named (row_part n) row && is_input_of n row) xs ≡ true)
      → list_any (λ row. is_named (row_part n) row && is_input_of n row) (x ∷ xs) ≡ true
  by true g k rest =
      ap (λ b. b || list_any (λ row. is_named (row_part n) row && is_input_of n row) xs)
      (and_from (is_named (row_part n) x) (is_input_of n x) (input_part n x h.0 g) g)
  by false g k rest =
      later (is_named (row_part n) x && is_input_of n x) (list_any (λ row. is_named (row_part n) row && is_input_of n row) xs) (rest k)

-- an input's name stands once among the inputs
pub one_input : (n : List ℕ) (xs : List Row) → AreRegular xs → are_named_once xs ≡ true → is_in xs n ≡ true → count n (flat_map input_names xs) ≡ 1
one_input n xs h once there = count_named input_names (is_input_of n) n 1 (none_given n) (one_given n) xs h once (in_named n xs h there)

-- ---- a name among the groups of one row's inputs
at_most_alone : (t : Bool) (n name : List ℕ) → count n (if t then [] else name ∷ []) ≤ count n (name ∷ [])
at_most_alone true n name = omega arith
at_most_alone false n name = omega arith

at_most_inputs : (rows : List Row) (n : List ℕ) (row : Row) → count n (own_names rows row) ≤ count n (input_names row)
at_most_inputs rows n (Given name estimate shape dof) = at_most_alone (is_correlated rows name) n name
at_most_inputs rows n (Readings name table) = omega arith
at_most_inputs rows n (Joint name columns table) = omega arith
at_most_inputs rows n (Correlation name first second coefficient) = omega arith
at_most_inputs rows n (Formula name f) = omega arith
at_most_inputs rows n (Tolerance name rule) = omega arith

none_own : (rows : List Row) (n : List ℕ) (row : Row) → IsRegular row → is_named (row_part n) row ≡ false → count n (own_names rows row) ≡ 0
none_own rows n row h e = omega (arith, at_most_inputs rows n row, none_given n row h e)

none_correlated : (rows : List Row) (n : List ℕ) → row_part n ≡ n → is_correlated rows n ≡ true → (row : Row) → IsRegular row
    → is_named (row_part n) row ≡ true → is_correlatable row ≡ true → count n (own_names rows row) ≡ 0
none_correlated rows n plain c (Given name estimate shape dof) h e f =
    ap (λ b. count n (if b then [] else name ∷ [])) (ap (is_correlated rows) (sym (same_name (row_part n) name e) ∙ plain) ∙ c)
none_correlated rows n plain c (Readings name table) h e f = absurd (true≢false (sym f))
none_correlated rows n plain c (Joint name columns table) h e f = absurd (true≢false (sym f))
none_correlated rows n plain c (Correlation name first second coefficient) h e f = absurd (true≢false (sym f))
none_correlated rows n plain c (Formula name g) h e f = absurd (true≢false (sym f))
none_correlated rows n plain c (Tolerance name rule) h e f = absurd (true≢false (sym f))

-- an input that may be correlated has the name of its row, which has no point
correlatable_plain : (n : List ℕ) (xs : List Row) → AreRegular xs → is_correlatable_in xs n ≡ true → row_part n ≡ n
correlatable_plain n [] h e = absurd (true≢false (sym e))
correlatable_plain n (x ∷ xs) h e = by (is_named n x) refl e (correlatable_plain n xs h.1) where
  by : (t : Bool) → is_named n x ≡ t → ((t && is_correlatable x) || is_correlatable_in xs n) ≡ true
      → (is_correlatable_in xs n ≡ true → row_part n ≡ n) → row_part n ≡ n
  by true g k rest = row_part-plain n (ap is_plain_name (same_name n (name_of x) g) ∙ plain_row x h.0)
  by false g k rest = rest k

-- an input that is correlated is in no group alone
own_correlated : (rows : List Row) (n : List ℕ) (xs : List Row) → is_correlated rows n ≡ true → AreRegular xs → are_named_once xs ≡ true
    → is_correlatable_in xs n ≡ true → count n (flat_map (own_names rows) xs) ≡ 0
own_correlated rows n xs c h once there =
    let plain : row_part n ≡ n = correlatable_plain n xs h there in
    count_named (own_names rows) is_correlatable n 0 (none_own rows n) (none_correlated rows n plain c) xs h once
    (ap (λ m. is_correlatable_in xs m) plain ∙ there)

alone_by : (rows : List Row) (n name : List ℕ) (t u : Bool) → is_correlated rows n ≡ false → is_correlated rows name ≡ t → bytes_eq name n ≡ u
    → count n (if t then [] else name ∷ []) ≡ one_if u + 0
alone_by rows n name true true c e f = absurd (true≢false (sym e ∙ ap (is_correlated rows) (same_name name n f) ∙ c))
alone_by rows n name true false c e f = refl
alone_by rows n name false u c e f = ap (λ b. one_if b + 0) f

same_alone : (rows : List Row) (n : List ℕ) → is_correlated rows n ≡ false → (row : Row) → count n (own_names rows row) ≡ count n (input_names row)
same_alone rows n c (Given name estimate shape dof) = alone_by rows n name (is_correlated rows name) (bytes_eq name n) c refl refl
same_alone rows n c (Readings name table) = refl
same_alone rows n c (Joint name columns table) = refl
same_alone rows n c (Correlation name first second coefficient) = refl
same_alone rows n c (Formula name f) = refl
same_alone rows n c (Tolerance name rule) = refl

-- one that is not stands there as often as among the inputs
own_alone : (rows : List Row) (n : List ℕ) → is_correlated rows n ≡ false → (xs : List Row)
    → count n (flat_map (own_names rows) xs) ≡ count n (flat_map input_names xs)
own_alone rows n c [] = refl
own_alone rows n c (x ∷ xs) =
    counted (own_names rows) n x xs (count n (input_names x)) (count n (flat_map input_names xs)) (same_alone rows n c x) (own_alone rows n c xs)
    ∙ sym (count_append n (input_names x) (flat_map input_names xs))

-- ---- a name among the correlated ones
none_in_pair : (n : List ℕ) (row : Row) → correlates row n ≡ false → count n (correlated_names row) ≡ 0
none_in_pair n (Given name estimate shape dof) e = refl
none_in_pair n (Readings name table) e = refl
none_in_pair n (Joint name columns table) e = refl
none_in_pair n (Correlation name first second coefficient) e =
    let both = or_parts (bytes_eq n first) (bytes_eq n second || false) e in
    let last = or_parts (bytes_eq n second) false both.1 in
    ap₂ (λ a b. one_if a + (one_if b + 0)) (other_way n first both.0) (other_way n second last.0)
none_in_pair n (Formula name f) e = refl
none_in_pair n (Tolerance name rule) e = refl

pair_by : (n first second : List ℕ) (t u : Bool) → bytes_eq n first ≡ t → bytes_eq n second ≡ u → bytes_eq first second ≡ false
    → (t || (u || false)) ≡ true → one_if t + (one_if u + 0) ≡ 1
pair_by n first second true true e f apart h =
    absurd (true≢false (sym (ap (bytes_eq first) (sym (same_name n second f) ∙ same_name n first e) ∙ named_itself first) ∙ apart))
pair_by n first second true false e f apart h = refl
pair_by n first second false true e f apart h = refl
pair_by n first second false false e f apart h = absurd (true≢false (sym h))

different : (first second : List ℕ) (t : Bool) → bytes_eq first second ≡ t → not (is_some (if t then Some second else None)) ≡ true
    → bytes_eq first second ≡ false
different first second true e h = absurd (true≢false (sym h))
different first second false e h = e

one_in_pair : (n : List ℕ) (row : Row) → not (is_some (repeated_name row)) ≡ true → correlates row n ≡ true → count n (correlated_names row) ≡ 1
one_in_pair n (Given name estimate shape dof) h e = absurd (true≢false (sym e))
one_in_pair n (Readings name table) h e = absurd (true≢false (sym e))
one_in_pair n (Joint name columns table) h e = absurd (true≢false (sym e))
one_in_pair n (Correlation name first second coefficient) h e =
    ap₂ (λ a b. one_if a + (one_if b + 0)) (both_ways_same first n) (both_ways_same second n)
    ∙ pair_by n first second (bytes_eq n first) (bytes_eq n second) refl refl (different first second (bytes_eq first second) refl h) e
one_in_pair n (Formula name f) h e = absurd (true≢false (sym e))
one_in_pair n (Tolerance name rule) h e = absurd (true≢false (sym e))

pub none_in_pairs : (n : List ℕ) (xs : List Row) → is_correlated xs n ≡ false → count n (flat_map correlated_names xs) ≡ 0
none_in_pairs n [] e = refl
none_in_pairs n (x ∷ xs) e =
    let both = or_parts (correlates x n) (is_correlated xs n) e in
    counted correlated_names n x xs 0 0 (none_in_pair n x both.0) (none_in_pairs n xs both.1)

-- what holds of all names holds of one of them
pub holds_of_all : (p : List ℕ → Bool) (n : List ℕ) (ms : List (List ℕ)) → list_all p ms ≡ true → list_any (bytes_eq n) ms ≡ true → p n ≡ true
holds_of_all p n [] h e = absurd (true≢false (sym e))
holds_of_all p n (m ∷ ms) h e = by (bytes_eq n m) refl e (holds_of_all p n ms (and_parts (p m) (list_all p ms) h).1) where
  by : (t : Bool) → bytes_eq n m ≡ t → (t || list_any (bytes_eq n) ms) ≡ true → (list_any (bytes_eq n) ms ≡ true → p n ≡ true) → p n ≡ true
  by true q g rest = ap p (same_name n m q) ∙ (and_parts (p m) (list_all p ms) h).0
  by false q g rest = rest g

-- another correlation than `row` with the name, where no row has its name, is any
others : (row : Row) (n : List ℕ) (xs : List Row) → is_among xs (name_of row) ≡ false → is_correlated_apart xs row n ≡ is_correlated xs n
others row n [] e = refl
others row n (x ∷ xs) e =
    let both = or_parts (is_named (name_of row) x) (is_among xs (name_of row)) e in
    ap₂ (λ a b. (not a && correlates x n) || b) both.0 (others row n xs both.1)

not_second : (a b : Bool) → not (a || b) ≡ true → not b ≡ true
not_second true b h = absurd (true≢false (sym h))
not_second false b h = h

apart_tail : (x : Row) (xs : List Row) → list_all (are_apart (x ∷ xs)) (x ∷ xs) ≡ true → list_all (are_apart xs) xs ≡ true
apart_tail x xs h =
    all_more (are_apart (x ∷ xs)) (are_apart xs)
    (λ row. all_more (λ n. not (is_correlated_apart (x ∷ xs) row n)) (λ n. not (is_correlated_apart xs row n))
    (λ n. not_second (not (is_named (name_of row) x) && correlates x n) (is_correlated_apart xs row n)) (correlated_names row))
    xs (and_parts (are_apart (x ∷ xs) x) (list_all (are_apart (x ∷ xs)) xs) h).1

-- the first correlation of a name is the only one
last_pair : (n : List ℕ) (x : Row) (xs : List Row) → are_apart (x ∷ xs) x ≡ true → is_among xs (name_of x) ≡ false → correlates x n ≡ true
    → is_correlated xs n ≡ false
last_pair n x xs h new e =
    let none : not (is_correlated_apart (x ∷ xs) x n) ≡ true = holds_of_all (λ m. not (is_correlated_apart (x ∷ xs) x m)) n (correlated_names x) h e in
    sym (others x n xs new)
    ∙ (or_parts (not (is_named (name_of x) x) && correlates x n) (is_correlated_apart xs x n) (not-true (is_correlated_apart (x ∷ xs) x n) none)).1

pub one_in_pairs : (n : List ℕ) (xs : List Row) → are_named_once xs ≡ true → list_all (are_apart xs) xs ≡ true
    → list_all (λ row. not (is_some (repeated_name row))) xs ≡ true → is_correlated xs n ≡ true → count n (flat_map correlated_names xs) ≡ 1
one_in_pairs n [] once apart twice e = absurd (true≢false (sym e))
one_in_pairs n (x ∷ xs) once apart twice e =
    by (correlates x n) refl e (one_in_pairs n xs (once_tail x xs once) (apart_tail x xs apart) both.1)
  where
    both : (not (is_some (repeated_name x)) ≡ true) × (list_all (λ row. not (is_some (repeated_name row))) xs ≡ true)
    both = and_parts (not (is_some (repeated_name x))) (list_all (λ row. not (is_some (repeated_name row))) xs) twice

    by : (t : Bool) → correlates x n ≡ t → (t || is_correlated xs n) ≡ true
        → (is_correlated xs n ≡ true → count n (flat_map correlated_names xs) ≡ 1) → count n (flat_map correlated_names (x ∷ xs)) ≡ 1
    by true q g rest =
        counted correlated_names n x xs 1 0 (one_in_pair n x both.0 q)
        (none_in_pairs n xs (last_pair n x xs (and_parts (are_apart (x ∷ xs) x) (list_all (are_apart (x ∷ xs)) xs) apart).0 (once_head x xs once) q))
    by false q g rest = counted correlated_names n x xs 0 1 (none_in_pair n x q) (rest g)

-- ---- a name among the members
-- what is correlated may be
pub correlated_may_be : (rows : List Row) (n : List ℕ) (xs : List Row) → list_all (are_correlatable rows) xs ≡ true → is_correlated xs n ≡ true
    → is_correlatable_in rows n ≡ true
correlated_may_be rows n [] h e = absurd (true≢false (sym e))
correlated_may_be rows n (x ∷ xs) h e = by (correlates x n) refl e (correlated_may_be rows n xs both.1) where
  both : (are_correlatable rows x ≡ true) × (list_all (are_correlatable rows) xs ≡ true)
  both = and_parts (are_correlatable rows x) (list_all (are_correlatable rows) xs) h

  by : (t : Bool) → correlates x n ≡ t → (t || is_correlated xs n) ≡ true → (is_correlated xs n ≡ true → is_correlatable_in rows n ≡ true)
      → is_correlatable_in rows n ≡ true
  by true q g rest =
      holds_of_all (is_correlatable_in rows) n (correlated_names x)
      (and_parts (list_all (is_correlatable_in rows) (correlated_names x)) (not (is_some (repeated_name x))) both.0).0 q
  by false q g rest = rest g

four : (a b c d : ℕ) → (a + b) + (c + d) ≡ (a + c) + (b + d)
four a b c d = omega arith

split : (rows : List Row) (n : List ℕ) (xs : List Row)
    → count n (flat_map (member_names rows) xs) ≡ count n (flat_map (own_names rows) xs) + count n (flat_map correlated_names xs)
split rows n [] = refl
split rows n (x ∷ xs) =
    counted (member_names rows) n x xs (count n (own_names rows x) + count n (correlated_names x))
    (count n (flat_map (own_names rows) xs) + count n (flat_map correlated_names xs)) (count_append n (own_names rows x) (correlated_names x)) (split rows n xs)
    ∙ four (count n (own_names rows x)) (count n (correlated_names x)) (count n (flat_map (own_names rows) xs)) (count n (flat_map correlated_names xs))
    ∙ ap₂ (λ a b. a + b) (sym (count_append n (own_names rows x) (flat_map (own_names rows) xs)))
    (sym (count_append n (correlated_names x) (flat_map correlated_names xs)))

-- an input's name stands once among the members of the groups
pub one_member : (rows : List Row) → AreRegular rows → are_named_once rows ≡ true → list_all (are_correlatable rows) rows ≡ true → list_all (are_apart rows) rows ≡ true
    → (n : List ℕ) → is_in rows n ≡ true → count n (flat_map (member_names rows) rows) ≡ 1
one_member rows regular once may apart n there = split rows n rows ∙ by (is_correlated rows n) refl where
  twice : list_all (λ row. not (is_some (repeated_name row))) rows ≡ true
  twice =
      all_more (are_correlatable rows) (λ row. not (is_some (repeated_name row)))
      (λ row h. (and_parts (list_all (is_correlatable_in rows) (correlated_names row)) (not (is_some (repeated_name row))) h).1) rows may

  by : (t : Bool) → is_correlated rows n ≡ t → count n (flat_map (own_names rows) rows) + count n (flat_map correlated_names rows) ≡ 1
  by true e =
      ap₂ (λ a b. a + b) (own_correlated rows n rows e regular once (correlated_may_be rows n rows may e)) (one_in_pairs n rows once apart twice e)
  by false e = ap₂ (λ a b. a + b) (own_alone rows n e rows ∙ one_input n rows regular once there) (none_in_pairs n rows e)

-- ---- which names are those of inputs
pub any_more : (p q : Row → Bool) → ((row : Row) → p row ≡ true → q row ≡ true) → (xs : List Row) → list_any p xs ≡ true → list_any q xs ≡ true
any_more p q h [] e = e
any_more p q h (x ∷ xs) e = by (p x) refl e (any_more p q h xs) where
  by : (t : Bool) → p x ≡ t → (t || list_any p xs) ≡ true → (list_any p xs ≡ true → list_any q xs ≡ true) → (q x || list_any q xs) ≡ true
  by true k g rest = ap (λ b. b || list_any q xs) (h x k)
  by false k g rest = later (q x) (list_any q xs) (rest g)

may_be_input : (n : List ℕ) (row : Row) → (is_named n row && is_correlatable row) ≡ true → is_input_of n row ≡ true
may_be_input n (Given name estimate shape dof) e =
    ap (λ b. b || false) (and_parts (bytes_eq n name) (is_correlatable (Given name estimate shape dof)) e).0
may_be_input n (Readings name table) e = absurd (true≢false (sym (and_parts (bytes_eq n name) false e).1))
may_be_input n (Joint name columns table) e = absurd (true≢false (sym (and_parts (bytes_eq n name) false e).1))
may_be_input n (Correlation name first second coefficient) e = absurd (true≢false (sym (and_parts (bytes_eq n name) false e).1))
may_be_input n (Formula name f) e = absurd (true≢false (sym (and_parts (bytes_eq n name) false e).1))
may_be_input n (Tolerance name rule) e = absurd (true≢false (sym (and_parts (bytes_eq n name) false e).1))

pub correlatable_is_input : (n : List ℕ) (xs : List Row) → is_correlatable_in xs n ≡ true → is_in xs n ≡ true
correlatable_is_input n xs = any_more (λ row. is_named n row && is_correlatable row) (is_input_of n) (may_be_input n) xs
