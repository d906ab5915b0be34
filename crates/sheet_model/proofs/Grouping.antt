-- The groups of a sheet that stands, by the numbers of its quantities.
use Rattle.std.specs.Prelude.{◌≡◌, ℕ, Bool, true, false, ◌||◌, not, is_some, List, [], ◌∷◌, ◌++◌, map, bytes_eq, refl}
use Rattle.std.specs.List.{list_any, list_all, flat_map}
use Rattle.std.proofs.Common.{sym, ◌∙◌, ap, subst}
use Rattle.std.proofs.lemmas.Bool.{and_parts}
use Rattle.std.proofs.lemmas.List.{append_assoc, append-nil, map-append, length-map}
use Rattle.std.proofs.lemmas.List.Folds.{list_any-append}
use Rattle.sheet_rows.specs.Rows.{Row, Sheet, quantities_of, gives, correlated_names}
use Rattle.sheet_rows.specs.Regular.{AreRegular}
use Rattle.sheet_rows.specs.Sheets.{quantities_in, is_quantity_in, is_correlatable_in, repeated_name, are_correlatable, IsStanding}
use Rattle.sheet_rows.proofs.Quantities.{quantity_any}
use Rattle.covariance.specs.Groups.{Group, Single, Pair, Columns}
use Rattle.covariance.specs.Groups.{AreRegular as GroupsAreRegular, IsRegular as GroupIsRegular}
use Rattle.covariance.specs.Renaming.{renamed_group}
use Rattle.sheet_model.specs.Quantities.{quantities}
use Rattle.sheet_model.specs.Groups.{row_groups, groups}
use Rattle.sheet_model.specs.Walks.{names}
use Rattle.sheet_model.specs.Numbering.{number_in, number_among}
use Rattle.sheet_model.specs.Grouping.{AreAmong, CanGroup, numbered_groups, AreGrouped}
use Rattle.sheet_model.proofs.Names.{all_names}
use Rattle.sheet_model.proofs.Fresh.{all_of}
use Rattle.sheet_model.proofs.Counts.{later}
use Rattle.sheet_model.proofs.Members.{is_input_of, input_given, any_more, correlatable_is_input, holds_of_all}
use Rattle.sheet_model.proofs.Parted.{regular_groups}

-- ---- names among others
pub first_among : (names : List (List ℕ)) (n : List ℕ) (ns : List (List ℕ)) → AreAmong names (n ∷ ns)
    → (list_any (bytes_eq n) names ≡ true) × AreAmong names ns
first_among names n ns h = and_parts (list_any (bytes_eq n) names) (list_all (λ m. list_any (bytes_eq m) names) ns) h

-- ---- each name of a row has a number
-- an input that may be correlated is a quantity
pair_quantity : (rows : List Row) (n : List ℕ) → is_correlatable_in rows n ≡ true → is_quantity_in rows n ≡ true
pair_quantity rows n e =
    quantity_any rows n
    ∙ any_more (is_input_of n) (λ row. gives row n) (input_given n) rows (correlatable_is_input n rows e)

in_either : (a b : Bool) (P : Type 0) → (a || b) ≡ true → (a ≡ true → P) → (b ≡ true → P) → P
in_either true b P e f g = f refl
in_either false b P e f g = g e

row_among : (rows : List Row) (row : Row) → ((n : List ℕ) → gives row n ≡ true → is_quantity_in rows n ≡ true) → are_correlatable rows row ≡ true
    → list_all (is_quantity_in rows) (quantities_of row ++ correlated_names row) ≡ true
row_among rows row own may =
    all_of (is_quantity_in rows) (quantities_of row ++ correlated_names row)
    (λ n e. in_either (gives row n) (list_any (bytes_eq n) (correlated_names row)) (is_quantity_in rows n ≡ true)
    (sym (list_any-append (bytes_eq n) (quantities_of row) (correlated_names row)) ∙ e) (own n)
    (λ f. pair_quantity rows n (holds_of_all (is_correlatable_in rows) n (correlated_names row)
    (and_parts (list_all (is_correlatable_in rows) (correlated_names row)) (not (is_some (repeated_name row))) may).0 f)))

rows_among : (rows xs : List Row) → ((n : List ℕ) → list_any (λ row. gives row n) xs ≡ true → is_quantity_in rows n ≡ true)
    → list_all (are_correlatable rows) xs ≡ true → AreRegular xs → CanGroup (quantities_in rows) xs
rows_among rows [] within may regular = tt
rows_among rows (x ∷ xs) within may regular =
    let both = and_parts (are_correlatable rows x) (list_all (are_correlatable rows) xs) may in (
      (regular.0, row_among rows x (λ n e. within n (ap (λ b. b || list_any (λ row. gives row n) xs) e)) both.0),
      rows_among rows xs (λ n e. within n (later (gives x n) (list_any (λ row. gives row n) xs) e)) both.1 regular.1,
    )

can_group : (sheet : Sheet) → IsStanding sheet → CanGroup (quantities_in sheet.rows) sheet.rows
can_group sheet h =
    rows_among sheet.rows sheet.rows (λ n e. quantity_any sheet.rows n ∙ e) h.well_formed.correlatable h.regular

-- ---- the walk
pub grouping_begins : (sheet : Sheet) (ns : List (List ℕ)) → IsStanding sheet → ns ≡ names (quantities sheet) → AreGrouped ns sheet.rows sheet.rows []
grouping_begins sheet ns h e = record {
  can = subst (λ ms. CanGroup ms sheet.rows) (sym (e ∙ all_names sheet.rows)) (can_group sheet h);
  whole = refl;
}

pub grouped_on : (ns : List (List ℕ)) (rows rest : List Row) (row : Row) (old new : List (Group ℕ)) → AreGrouped ns rows (row ∷ rest) old
    → new ≡ old ++ map (renamed_group (number_in ns)) (row_groups rows row) → AreGrouped ns rows rest new
grouped_on ns rows rest row old new are e = record {
  can = are.can.1;
  whole =
      ap (λ gs. gs ++ numbered_groups ns rows rest) e
      ∙ append_assoc old (map (renamed_group (number_in ns)) (row_groups rows row)) (numbered_groups ns rows rest)
      ∙ ap (λ gs. old ++ gs) (sym (map-append (renamed_group (number_in ns)) (row_groups rows row) (flat_map (row_groups rows) rest)))
      ∙ are.whole;
}

pub grouping_ends : (sheet : Sheet) (ns : List (List ℕ)) (found : List (Group ℕ)) → ns ≡ names (quantities sheet) → AreGrouped ns sheet.rows [] found
    → found ≡ map (renamed_group (number_among (quantities sheet))) (groups sheet)
grouping_ends sheet ns found e are =
    sym (append-nil found) ∙ are.whole ∙ ap (λ ms. map (renamed_group (number_in ms)) (groups sheet)) e

-- ---- regular groups
renamed_regular : {K L : Type 0} (f : K → L) (g : Group K) → GroupIsRegular g → GroupIsRegular (renamed_group f g)
renamed_regular f (Single k shape dof) h = h
renamed_regular f (Pair k s m t r) h = h
renamed_regular f (Columns ks table) h = length-map ks f ∙ h

all_renamed_regular : {K L : Type 0} (f : K → L) (gs : List (Group K)) → GroupsAreRegular gs → GroupsAreRegular (map (renamed_group f) gs)
all_renamed_regular f [] h = tt
all_renamed_regular f (g ∷ gs) h = (renamed_regular f g h.0, all_renamed_regular f gs h.1)

pub grouped_regular : (sheet : Sheet) (found : List (Group ℕ)) → IsStanding sheet
    → found ≡ map (renamed_group (number_among (quantities sheet))) (groups sheet) → GroupsAreRegular found
grouped_regular sheet found h e =
    subst GroupsAreRegular (sym e) (all_renamed_regular (number_among (quantities sheet)) (groups sheet) (regular_groups sheet h))
