-- The verdicts, by the places of names.
use Rattle.std.proofs.Common.{◌≡◌, ℕ, zero, suc, Bool, true, false, ◌||◌, ◌&&◌, cond, not, nat_le, List, [], ◌∷◌, ◌++◌, length, take, Option, None, Some, Ok, Err, is_some, refl, sym, ap, ◌∙◌, true≢false, ◌<◌, arith}
use Rattle.std.specs.Prelude.{if◌then◌else◌, position, find, bytes_eq, remove, slice_get, slice_set as set}
use Rattle.std.specs.List.{list_any}
use Rattle.std.specs.Option.{option_map, option_or}
use Rattle.std.proofs.lemmas.List.{take_all}
use Rattle.sheet_rows.specs.declared.edit_fault.EditFault.TheVariants.{RowsFull, Duplicate, Unknown, NotEarlier, NotCorrelatable, AlreadyCorrelated, InUse}
use Rattle.formula_ast.specs.Names.{is_plain_name}
use Rattle.sheet_rows.specs.Regular.{IsRegular, AreRegular}
use Rattle.sheet_rows.proofs.RegularRows.{regular_added, no_row}
use Rattle.sheet_edits.proofs.Regular.{regular_set, regular_taken}
use Rattle.sheet_rows.specs.Rows.{Row, Sheet, row_part, name_of, used_names, gives, correlated_names, is_correlatable}
use Rattle.sheet_edits.specs.Verdicts.{Verdict, first_unknown, first_not_earlier, first_not_correlatable, first_correlated, added, rows_with, set_row, rows_without, removed, rows_before, unless, unless_uses_fail, unless_left, verdict_add, verdict_set, verdict_on_set, is_user_of, verdict_remove, verdict_on_removal}
use Rattle.sheet_rows.specs.Sheets.{is_named, is_among, has_row, is_quantity_in, has_quantity, is_correlatable_in, repeated_name, is_correlated_apart, are_named_once, are_known, are_correlatable, are_apart, row_limit}
use Rattle.sheet_edits.specs.Places.{place_of, is_known_with, is_correlatable_with, stands_before, unless_names_fail}
use Rattle.std.proofs.lemmas.Bool.{lt-leb, or_parts}
use Rattle.sheet_edits.proofs.Conditions.{unless_ok}
use Rattle.sheet_rows.proofs.Tests.{none_all, all_none, same_name, named_itself}
use Rattle.sheet_rows.proofs.Quantities.{quantity_named}
use Rattle.sheet_rows.proofs.Named.{has_before, has_added}
use Rattle.sheet_edits.proofs.Named.{has_set}
use Rattle.sheet_edits.proofs.Correlated.{apart_added, apart_set, correlatable_allowed, allowed_correlatable, apart_allowed, allowed_apart}
use Rattle.sheet_edits.proofs.Positions.{some_same, position-any, before-any, IsFirstAt, first_at, find_agree, find_distinct}

-- ---- the row added
-- rows, and one after them
abbrev pub with_last : List Row → Row → List Row
with_last xs row = xs ++ row ∷ []

added_known : (sheet : Sheet) (row : Row) → AreRegular sheet.rows → IsRegular row → has_row sheet (name_of row) ≡ false
    → (n : List ℕ) → has_quantity (added sheet row) n ≡ is_known_with sheet row n
added_known sheet row regular own new n =
    quantity_named (with_last sheet.rows row) n (regular_added sheet.rows row regular own) ∙ has_added (λ r. gives r n) (row_part n) sheet.rows row new
    ∙ ap (cond (is_named (row_part n) row) (gives row n)) (sym (quantity_named sheet.rows n regular))

pub before_added : (sheet : List Row) (row : Row) → is_among sheet (name_of row) ≡ false → rows_before (name_of row) (with_last sheet row) ≡ sheet
before_added [] row h = ap (λ b. cond b [] (row ∷ [])) (named_itself (name_of row))
before_added (r ∷ rs) row h =
    ap (λ b. cond b [] (r ∷ rows_before (name_of row) (with_last rs row))) (or_parts _ _ h).0
    ∙ ap (λ xs. r ∷ xs) (before_added rs row (or_parts (is_named (name_of row) r) _ h).1)

stands_in : (sheet : Sheet) (at : ℕ) → AreRegular sheet.rows → are_named_once sheet.rows ≡ true → (n : List ℕ)
    → is_quantity_in (take at sheet.rows) n ≡ stands_before sheet at n
stands_in sheet at regular once n =
    let before = sym (before-any (is_named (row_part n)) sheet.rows at) in
    let there = sym (quantity_named sheet.rows n regular) in
    quantity_named (take at sheet.rows) n (regular_taken at sheet.rows regular) ∙ has_before (λ r. gives r n) (row_part n) sheet.rows at once
    ∙ (λ j. before j && there j)

added_stands : (sheet : Sheet) (row : Row) → AreRegular sheet.rows → are_named_once sheet.rows ≡ true → has_row sheet (name_of row) ≡ false → (n : List ℕ)
    → is_quantity_in (rows_before (name_of row) (with_last sheet.rows row)) n ≡ stands_before sheet (length sheet.rows) n
added_stands sheet row regular once h n =
    ap (λ rows. is_quantity_in rows n) (before_added sheet.rows row h ∙ sym (take_all (length sheet.rows) sheet.rows (omega arith)))
    ∙ stands_in sheet (length sheet.rows) regular once n

-- ---- the names of the row
first_failing : (p q : List ℕ → Bool) → ((n : List ℕ) → p n ≡ q n) → (ns : List (List ℕ)) → find (λ n. not (p n)) ns ≡ find (λ n. not (q n)) ns
first_failing p q h ns = find_agree (λ n. not (p n)) (λ n. not (q n)) (λ n. ap not (h n)) ns

-- the names that a row uses, each once, tell the same
names_by : (edited sheet : Sheet) (row : Row) (at : ℕ) (v : Verdict) → ((n : List ℕ) → has_quantity edited n ≡ is_known_with sheet row n)
    → ((n : List ℕ) → is_quantity_in (rows_before (name_of row) edited.rows) n ≡ stands_before sheet at n)
    → ((n : List ℕ) → is_correlatable_in edited.rows n ≡ is_correlatable_with sheet row n)
    → ((n : List ℕ) → is_correlated_apart edited.rows row n ≡ is_correlated_apart sheet.rows row n)
    → unless_uses_fail edited row v ≡ unless_names_fail sheet row at v
names_by edited sheet row at v known earlier correlatable apart =
    let a = first_failing (has_quantity edited) (is_known_with sheet row) known (used_names row) ∙ sym (find_distinct (λ n. not (is_known_with sheet row n)) (used_names row)) in
    let b = first_failing (is_quantity_in (rows_before (name_of row) edited.rows)) (stands_before sheet at) earlier (used_names row) ∙ sym (find_distinct (λ n. not (stands_before sheet at n)) (used_names row)) in
    let c = first_failing (is_correlatable_in edited.rows) (is_correlatable_with sheet row) correlatable (correlated_names row) in
    let d = find_agree (is_correlated_apart edited.rows row) (is_correlated_apart sheet.rows row) apart (correlated_names row) in
    λ j. unless (a j) Unknown (unless (b j) NotEarlier (unless (option_or (c j) (repeated_name row)) NotCorrelatable (unless (d j) AlreadyCorrelated v)))

-- no name of the row is refused, and the verdict goes on
pub record Uses (edited : Sheet) (row : Row) (v w : Verdict) : Type 0 where
  pub known : are_known edited.rows row ≡ true
  pub earlier : are_known (rows_before (name_of row) edited.rows) row ≡ true
  pub correlatable : are_correlatable edited.rows row ≡ true
  pub apart : are_apart edited.rows row ≡ true
  pub rest : v ≡ w

pub uses_ok : (edited : Sheet) (row : Row) (v : Verdict) (e : Sheet) → unless_uses_fail edited row v ≡ Ok e → Uses edited row v (Ok e)
uses_ok edited row v e h =
    let d = unless (first_correlated edited row) AlreadyCorrelated v in
    let c = unless (first_not_correlatable edited row) NotCorrelatable d in
    let b = unless (first_not_earlier edited row) NotEarlier c in
    let known = unless_ok (first_unknown edited row) Unknown b e h in
    let earlier = unless_ok (first_not_earlier edited row) NotEarlier c e known.1 in
    let correlatable = unless_ok (first_not_correlatable edited row) NotCorrelatable d e earlier.1 in
    let apart = unless_ok (first_correlated edited row) AlreadyCorrelated v e correlatable.1 in
    record {
      known = none_all (is_quantity_in edited.rows) (used_names row) known.0;
      earlier = none_all (is_quantity_in (rows_before (name_of row) edited.rows)) (used_names row) earlier.0;
      correlatable = correlatable_allowed edited row correlatable.0;
      apart = apart_allowed edited row apart.0;
      rest = apart.1;
    }

pub ok_uses : (edited : Sheet) (row : Row) (v : Verdict) → are_known edited.rows row ≡ true → are_known (rows_before (name_of row) edited.rows) row ≡ true
    → are_correlatable edited.rows row ≡ true → are_apart edited.rows row ≡ true → unless_uses_fail edited row v ≡ v
ok_uses edited row v known earlier correlatable apart =
    let a = all_none (is_quantity_in edited.rows) (used_names row) known in
    let b = all_none (is_quantity_in (rows_before (name_of row) edited.rows)) (used_names row) earlier in
    let c = allowed_correlatable edited row correlatable in
    let d = allowed_apart edited row apart in
    λ j. unless (a j) Unknown (unless (b j) NotEarlier (unless (c j) NotCorrelatable (unless (d j) AlreadyCorrelated v)))

-- where there is room and the name is new, the names of the row decide
pub add_by_names : (sheet : Sheet) (row : Row) (at : ℕ) → AreRegular sheet.rows → IsRegular row → are_named_once sheet.rows ≡ true → length sheet.rows ≡ at
    → nat_le row_limit (length sheet.rows) ≡ false → has_row sheet (name_of row) ≡ false
    → verdict_add sheet row ≡ unless_names_fail sheet row at (Ok (added sheet row))
add_by_names sheet row at regular own once e full new =
    (λ j. cond (full j) (Err RowsFull) (cond (new j) (Err (Duplicate (name_of row))) (unless_uses_fail (added sheet row) row (Ok (added sheet row)))))
    ∙ names_by (added sheet row) sheet row (length sheet.rows) (Ok (added sheet row)) (added_known sheet row regular own new) (added_stands sheet row regular once new)
    (λ n. has_added is_correlatable n sheet.rows row new) (apart_added sheet.rows row)
    ∙ ap (λ k. unless_names_fail sheet row k (Ok (added sheet row))) e

-- ---- the row set
set_has_by : (row other : Row) (n : List ℕ) (rows rows' : List Row) (t : Bool) → is_named (name_of row) other ≡ t → is_among rows' n ≡ is_among rows n
    → is_among (cond t (row ∷ rows) (other ∷ rows')) n ≡ (is_named n other || is_among rows n)
set_has_by row other n rows rows' true e h = ap (λ m. bytes_eq n m || is_among rows n) (same_name (name_of row) (name_of other) e)
set_has_by row other n rows rows' false e h = ap (λ b. is_named n other || b) h

pub set_has : (sheet : List Row) (row : Row) (n : List ℕ) → is_among (rows_with row sheet) n ≡ is_among sheet n
set_has [] row n = refl
set_has (r ∷ rs) row n = set_has_by row r n rs (rows_with row rs) (is_named (name_of row) r) refl (set_has rs row n)

pub set_known : (sheet : Sheet) (row : Row) → AreRegular sheet.rows → IsRegular row → are_named_once sheet.rows ≡ true → has_row sheet (name_of row) ≡ true
    → (n : List ℕ) → has_quantity (set_row row sheet) n ≡ is_known_with sheet row n
set_known sheet row regular own once there n =
    quantity_named (rows_with row sheet.rows) n (regular_set sheet.rows row regular own) ∙ has_set (λ r. gives r n) (row_part n) sheet.rows row once there
    ∙ ap (cond (is_named (row_part n) row) (gives row n)) (sym (quantity_named sheet.rows n regular))

pub set_correlatable : (sheet : Sheet) (row : Row) → are_named_once sheet.rows ≡ true → has_row sheet (name_of row) ≡ true
    → (n : List ℕ) → is_correlatable_in (rows_with row sheet.rows) n ≡ is_correlatable_with sheet row n
set_correlatable sheet row once there n = has_set is_correlatable n sheet.rows row once there

pub before_set : (sheet : List Row) (row : Row) (at : ℕ) → IsFirstAt (is_named (name_of row)) sheet at → rows_before (name_of row) (rows_with row sheet) ≡ take at sheet
before_set [] row at h = absurd h
before_set (r ∷ rs) row zero h =
    ap (λ b. rows_before (name_of row) (cond b (row ∷ rs) (r ∷ rows_with row rs))) h ∙ ap (λ b. cond b [] (row ∷ rows_before (name_of row) rs)) (named_itself (name_of row))
before_set (r ∷ rs) row (suc at) h =
    ap (λ b. rows_before (name_of row) (cond b (row ∷ rs) (r ∷ rows_with row rs))) h.0
    ∙ ap (λ b. cond b [] (r ∷ rows_before (name_of row) (rows_with row rs))) h.0 ∙ ap (λ xs. r ∷ xs) (before_set rs row at h.1)

set_stands : (sheet : Sheet) (row : Row) (at : ℕ) → AreRegular sheet.rows → are_named_once sheet.rows ≡ true → IsFirstAt (is_named (name_of row)) sheet.rows at → (n : List ℕ)
    → is_quantity_in (rows_before (name_of row) (rows_with row sheet.rows)) n ≡ stands_before sheet at n
set_stands sheet row at regular once h n = ap (λ rows. is_quantity_in rows n) (before_set sheet.rows row at h) ∙ stands_in sheet at regular once n

pub there_at : (p : Row → Bool) (sheet : List Row) (at : ℕ) → position p sheet ≡ Some at → list_any p sheet ≡ true
there_at p sheet at h = sym (position-any p sheet) ∙ ap is_some h

-- where the row is there, its names decide, and what the other rows are left with
pub set_by_names : (sheet : Sheet) (row : Row) (at : ℕ) → AreRegular sheet.rows → IsRegular row → are_named_once sheet.rows ≡ true → place_of sheet (name_of row) ≡ Some at
    → verdict_set sheet row ≡ unless_names_fail sheet row at (unless_left (set_row row sheet) row)
set_by_names sheet row at regular own once place =
    let there = there_at (is_named (name_of row)) sheet.rows at place in
    ap (λ b. cond b (verdict_on_set (set_row row sheet) row) (Err (Unknown (name_of row)))) there
    ∙ names_by (set_row row sheet) sheet row at (unless_left (set_row row sheet) row) (set_known sheet row regular own once there)
    (set_stands sheet row at regular once (first_at (is_named (name_of row)) sheet.rows at place)) (set_correlatable sheet row once there) (apart_set sheet.rows row)

-- ---- the row removed
-- the row that is found has the name
pub found_named : (n : List ℕ) (xs : List Row) (row : Row) → find (is_named n) xs ≡ Some row → n ≡ name_of row
found_named n [] row e = absurd (cc)
found_named n (r ∷ rs) row e = by (is_named n r) refl e (found_named n rs row) where
  by : (t : Bool) → is_named n r ≡ t → cond t (Some r) (find (is_named n) rs) ≡ Some row → (find (is_named n) rs ≡ Some row → n ≡ name_of row) → n ≡ name_of row
  by true f g rest = same_name n (name_of r) f ∙ ap name_of (some_same g)
  by false f g rest = rest g

pub found_any : {X : Type 0} (p : X → Bool) (xs : List X) → is_some (find p xs) ≡ list_any p xs
found_any p [] = refl
found_any p (x ∷ xs) = by (p x) ∙ ap (λ b. p x || b) (found_any p xs)
  where
    by : (t : Bool) → is_some (cond t (Some x) (find p xs)) ≡ (t || is_some (find p xs))
    by true = refl
    by false = refl

pub missing_find : {X : Type 0} (p : X → Bool) (xs : List X) → list_any p xs ≡ false → find p xs ≡ None
missing_find p [] h = refl
missing_find p (x ∷ xs) h = ap (λ b. cond b (Some x) (find p xs)) (or_parts _ _ h).0 ∙ missing_find p xs (or_parts (p x) _ h).1

pub found_at : (sheet : List Row) (n : List ℕ) (at : ℕ) → IsFirstAt (is_named n) sheet at → (row : Row) × (find (is_named n) sheet ≡ Some row) × (n ≡ name_of row)
found_at [] n at h = absurd h
found_at (r ∷ rs) n zero h = (r, ap (λ b. cond b (Some r) (find (is_named n) rs)) h, same_name n (name_of r) h)
found_at (r ∷ rs) n (suc at) h =
    let found = found_at rs n at h.1 in
    (found.0, ap (λ b. cond b (Some r) (find (is_named n) rs)) h.0 ∙ found.1, found.2)

-- its users decide
pub remove_by_users : (sheet : Sheet) (n : List ℕ) (row : Row) → find (is_named n) sheet.rows ≡ Some row
    → verdict_remove sheet n ≡ unless (option_map name_of (find (is_user_of row) sheet.rows)) InUse (Ok (removed n sheet))
remove_by_users sheet n row e = ap (verdict_on_removal sheet n) e

-- a plain name, as the code finds it
pub plain_place : (r : Option (List ℕ)) (text n : List ℕ) → r ≡ (if is_plain_name text then Some text else None) → r ≡ Some n → n ≡ text
plain_place r text n e h = by (is_plain_name text) (sym e ∙ h) where
  by : (t : Bool) → (if t then Some text else None) ≡ Some n → n ≡ text
  by true f = sym (some_same f)
  by false f = absurd (cc)

pub no_plain_place : (sheet : Sheet) (text : List ℕ) (r : Option (List ℕ)) → AreRegular sheet.rows → r ≡ (if is_plain_name text then Some text else None) → r ≡ None
    → None ≡ place_of sheet text
no_plain_place sheet text r regular e h = by (is_plain_name text) refl (sym e ∙ h) where
  none_there : (o : Option ℕ) → is_some o ≡ false → None ≡ o
  none_there None g = refl
  none_there (Some k) g = absurd (cc)

  by : (t : Bool) → is_plain_name text ≡ t → (if t then Some text else None) ≡ None → None ≡ place_of sheet text
  by true f g = absurd (cc)
  by false f g = none_there (place_of sheet text) (position-any (is_named text) sheet.rows ∙ no_row sheet.rows text regular f)

pub never_nowhere : (sheet : Sheet) (n : List ℕ) (at : ℕ) → place_of sheet n ≡ Some at → None ≡ find (is_named n) sheet.rows → ⊥
never_nowhere sheet n at h e =
    let there : list_any (is_named n) sheet.rows ≡ true = sym (position-any (is_named n) sheet.rows) ∙ ap is_some h in
    true≢false (sym there ∙ sym (found_any (is_named n) sheet.rows) ∙ sym (ap is_some e))

pub find_nowhere : (p : Row → Bool) (xs : List Row) → position p xs ≡ None → find p xs ≡ None
find_nowhere p xs h = missing_find p xs (sym (position-any p xs) ∙ ap is_some h)

find_first : (p : Row → Bool) (xs : List Row) (at : ℕ) → IsFirstAt p xs at → slice_get xs at ≡ find p xs
find_first p [] at h = absurd h
find_first p (x ∷ xs) zero h = sym (ap (λ b. cond b (Some x) (find p xs)) h)
find_first p (x ∷ xs) (suc at) h = find_first p xs at h.1 ∙ sym (ap (λ b. cond b (Some x) (find p xs)) h.0)

pub find_place : (p : Row → Bool) (xs : List Row) (at : ℕ) → position p xs ≡ Some at → slice_get xs at ≡ find p xs
find_place p xs at h = find_first p xs at (first_at p xs at h)

pub remove_unknown : (sheet : Sheet) (n : List ℕ) → place_of sheet n ≡ None → verdict_remove sheet n ≡ Err (Unknown n)
remove_unknown sheet n h =
    ap (verdict_on_removal sheet n) (missing_find (is_named n) sheet.rows (sym (position-any (is_named n) sheet.rows) ∙ ap is_some h))

pub set_unknown : (sheet : Sheet) (row : Row) → place_of sheet (name_of row) ≡ None → verdict_set sheet row ≡ Err (Unknown (name_of row))
set_unknown sheet row h =
    ap (λ b. cond b (verdict_on_set (set_row row sheet) row) (Err (Unknown (name_of row))))
    (sym (position-any (is_named (name_of row)) sheet.rows) ∙ ap is_some h)

-- ---- the rows after an edit at a place
pub rows_set : (xs : List Row) (r : Row) (at : ℕ) → IsFirstAt (is_named (name_of r)) xs at → set xs at r ≡ rows_with r xs
rows_set [] r at h = absurd h
rows_set (x ∷ xs) r zero h = sym (ap (λ b. cond b (r ∷ xs) (x ∷ rows_with r xs)) h)
rows_set (x ∷ xs) r (suc at) h = ap (λ rows. x ∷ rows) (rows_set xs r at h.1) ∙ sym (ap (λ b. cond b (r ∷ xs) (x ∷ rows_with r xs)) h.0)

pub rows_removed : (xs : List Row) (n : List ℕ) (at : ℕ) → IsFirstAt (is_named n) xs at → remove xs at ≡ rows_without n xs
rows_removed [] n at h = absurd h
rows_removed (x ∷ xs) n zero h = sym (ap (λ b. cond b xs (x ∷ rows_without n xs)) h)
rows_removed (x ∷ xs) n (suc at) h = ap (λ rows. x ∷ rows) (rows_removed xs n at h.1) ∙ sym (ap (λ b. cond b xs (x ∷ rows_without n xs)) h.0)

pub named_at : (xs : List Row) (n : List ℕ) (at : ℕ) → IsFirstAt (is_named n) xs at → option_map name_of (slice_get xs at) ≡ Some n
named_at [] n at h = absurd h
named_at (x ∷ xs) n zero h = ap Some (sym (same_name n (name_of x) h))
named_at (x ∷ xs) n (suc at) h = named_at xs n at h.1

pub found_row : (xs : List Row) (n : List ℕ) (at : ℕ) (r : Row) → IsFirstAt (is_named n) xs at → slice_get xs at ≡ Some r → find (is_named n) xs ≡ Some r
found_row xs n at r h e = sym (find_first (is_named n) xs at h) ∙ e

-- ---- the answers of the code
pub refused_second : (sheet : Sheet) (row : Row) (names names1 names2 : List (List ℕ)) (at : ℕ) (u w : Option (List ℕ)) (n : List ℕ) (v : Verdict)
    → names1 ≡ names → names2 ≡ names
    → u ≡ find (λ n. not (is_known_with sheet row n)) names1 → u ≡ None → w ≡ find (λ n. not (stands_before sheet at n)) names2 → w ≡ Some n
    → unless (find (λ n. not (is_known_with sheet row n)) names) Unknown (unless (find (λ n. not (stands_before sheet at n)) names) NotEarlier v) ≡ Err (NotEarlier n)
refused_second sheet row names names1 names2 at u w n v b c e f g h =
    let first : find (λ n. not (is_known_with sheet row n)) names ≡ None = sym (ap (find (λ n. not (is_known_with sheet row n))) b) ∙ sym e ∙ f in
    let second : find (λ n. not (stands_before sheet at n)) names ≡ Some n = sym (ap (find (λ n. not (stands_before sheet at n))) c) ∙ sym g ∙ h in
    λ j. unless (first j) Unknown (unless (second j) NotEarlier v)

pub add_duplicate : (sheet : Sheet) (row : Row) → nat_le row_limit (length sheet.rows) ≡ false → is_some (place_of sheet (name_of row)) ≡ true
    → verdict_add sheet row ≡ Err (Duplicate (name_of row))
add_duplicate sheet row full there =
    let h : has_row sheet (name_of row) ≡ true = sym (position-any (is_named (name_of row)) sheet.rows) ∙ there in
    λ j. cond (full j) (Err RowsFull) (cond (h j) (Err (Duplicate (name_of row))) (unless_uses_fail (added sheet row) row (Ok (added sheet row))))

pub new_name : (sheet : Sheet) (n : List ℕ) → is_some (place_of sheet n) ≡ false → has_row sheet n ≡ false
new_name sheet n h = sym (position-any (is_named n) sheet.rows) ∙ h

pub not_full : (sheet : Sheet) (len : ℕ) → len ≡ length sheet.rows → len < 4096 → nat_le row_limit (length sheet.rows) ≡ false
not_full sheet len e h = lt-leb row_limit (length sheet.rows) (omega (arith, e, h))

pub names_no_duplicate : (a b c d : Option (List ℕ)) (sheet : Sheet) (n : List ℕ)
    → unless a Unknown (unless b NotEarlier (unless c NotCorrelatable (unless d AlreadyCorrelated (Ok sheet)))) ≡ Err (Duplicate n) → ⊥
names_no_duplicate None None None None sheet n h = cc
names_no_duplicate None None None (Some m) sheet n h = cc
names_no_duplicate None None (Some m) d sheet n h = cc
names_no_duplicate None (Some m) c d sheet n h = cc
names_no_duplicate (Some m) b c d sheet n h = cc

pub names_not_full : (a b c d : Option (List ℕ)) (sheet : Sheet)
    → unless a Unknown (unless b NotEarlier (unless c NotCorrelatable (unless d AlreadyCorrelated (Ok sheet)))) ≡ Err RowsFull → ⊥
names_not_full None None None None sheet h = cc
names_not_full None None None (Some m) sheet h = cc
names_not_full None None (Some m) d sheet h = cc
names_not_full None (Some m) c d sheet h = cc
names_not_full (Some m) b c d sheet h = cc
