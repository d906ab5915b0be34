-- A row that is set leaves a well-formed sheet well formed, and is refused only where it does not.
use Rattle.std.proofs.Common.{◌≡◌, ℕ, suc, Bool, true, false, ◌||◌, ◌&&◌, cond, not, List, [], ◌∷◌, ◌++◌, length, Option, None, Some, is_some, Ok, Err, refl, sym, ap, ◌∙◌, subst, arith, append_assoc, true≢false}
use Rattle.std.specs.Prelude.{find, bytes_eq}
use Rattle.std.specs.Option.{option_map}
use Rattle.std.specs.List.{list_any, list_all}
use Rattle.std.proofs.lemmas.List.{append-nil}
use Rattle.std.proofs.lemmas.Bool.{and_parts, and_from, and_right, or_parts, or_left, or_right, not_from_true, not_from_false}
use Rattle.sheet_rows.specs.Rows.{Row, Sheet, name_of, row_part, used_names, gives}
use Rattle.sheet_rows.specs.Regular.{IsRegular, AreRegular}
use Rattle.sheet_rows.specs.declared.edit_fault.EditFault.TheVariants.{Unknown, InUse}
use Rattle.sheet_rows.specs.Sheets.{IsWellFormed, is_named, is_among, has_row, is_quantity_in, are_known, are_correlatable, are_apart, are_named_once, are_earlier}
use Rattle.sheet_edits.specs.Verdicts.{IsAccepted, rows_with, set_row, rows_before, unless, is_left_without, unless_left, verdict_on_set, verdict_set}
use Rattle.sheet_edits.proofs.Conditions.{ok_same, unless_ok, cond_err}
use Rattle.sheet_rows.proofs.Tests.{none_of, all_two, all_both, found_of_none, same_name, named_itself}
use Rattle.sheet_rows.proofs.Named.{once_head, once_tail}
use Rattle.sheet_edits.proofs.Correlated.{apart_after_set}
use Rattle.sheet_rows.proofs.Quantities.{quantity_append, quantity_last, gives_part}
use Rattle.sheet_edits.proofs.Verdicts.{set_has, set_known, uses_ok, ok_uses}

-- rows before which the names stand that stood there and are quantities still
still_earlier : (all a b rs : List Row) → ((n : List ℕ) → is_quantity_in a n ≡ true → is_quantity_in all n ≡ true → is_quantity_in b n ≡ true)
    → are_earlier a rs ≡ true → list_all (are_known all) rs ≡ true → are_earlier b rs ≡ true
still_earlier all a b [] h e k = refl
still_earlier all a b (r ∷ rs) h e k =
    let earlier = and_parts (are_known a r) (are_earlier (a ++ r ∷ []) rs) e in
    let known = and_parts (are_known all r) (list_all (are_known all) rs) k in
    and_from (are_known b r) (are_earlier (b ++ r ∷ []) rs)
    (all_two (is_quantity_in a) (is_quantity_in all) (is_quantity_in b) h (used_names r) earlier.0 known.0)
    (still_earlier all (a ++ r ∷ []) (b ++ r ∷ []) rs
    (λ n f g. quantity_append b (r ∷ []) n
    ∙ in_both a b all n (is_quantity_in (r ∷ []) n) (h n) (is_quantity_in a n) refl (sym (quantity_append a (r ∷ []) n) ∙ f) g)
    earlier.1 known.1)
  where
    in_both : (a b all : List Row) (n : List ℕ) (u : Bool) → (is_quantity_in a n ≡ true → is_quantity_in all n ≡ true → is_quantity_in b n ≡ true)
        → (t : Bool) → is_quantity_in a n ≡ t → (t || u) ≡ true → is_quantity_in all n ≡ true → (is_quantity_in b n || u) ≡ true
    in_both a b all n u h true e f g = or_left (is_quantity_in b n) u (h e g)
    in_both a b all n u h false e f g = or_right (is_quantity_in b n) u f

module _ (row : Row) where
  abbrev own : List ℕ
  own = name_of row

  length_by : (t : Bool) (r : Row) (rs rs' : List Row) → length rs' ≡ length rs → length (cond t (row ∷ rs) (r ∷ rs')) ≡ suc (length rs)
  length_by true r rs rs' h = refl
  length_by false r rs rs' h = ap suc h

  length_set : (xs : List Row) → length (rows_with row xs) ≡ length xs
  length_set [] = refl
  length_set (r ∷ rs) = length_by (is_named own r) r rs (rows_with row rs) (length_set rs)

  once_by : (t : Bool) (r : Row) (rs : List Row) → is_named own r ≡ t → are_named_once (rows_with row rs) ≡ are_named_once rs
      → are_named_once (cond t (row ∷ rs) (r ∷ rows_with row rs)) ≡ are_named_once (r ∷ rs)
  once_by true r rs e h = ap (λ n. not (is_among rs n) && are_named_once rs) (same_name own (name_of r) e)
  once_by false r rs e h =
      let same = set_has rs row (name_of r) in
      λ j. not (same j) && h j

  once_set : (xs : List Row) → are_named_once (rows_with row xs) ≡ are_named_once xs
  once_set [] = refl
  once_set (r ∷ rs) = once_by (is_named own r) r rs refl (once_set rs)

  -- ---- the other rows are not left without
  module _ (good : Row → Bool) where
    not_left : (t u : Bool) → (not t && not u) ≡ false → (t || u) ≡ true
    not_left true u h = refl
    not_left false true h = refl
    not_left false false h = absurd (true≢false h)

    own_or_good : (rest : List Row) → list_any (λ o. not (is_named own o) && not (good o)) rest ≡ false → list_all (λ o. is_named own o || good o) rest ≡ true
    own_or_good [] h = refl
    own_or_good (r ∷ rs) h =
        let both = or_parts (not (is_named own r) && not (good r)) (list_any (λ o. not (is_named own o) && not (good o)) rs) h in
        and_from (is_named own r || good r) (list_all (λ o. is_named own o || good o) rs) (not_left (is_named own r) (good r) both.0) (own_or_good rs both.1)

    other_names : (rest : List Row) → is_among rest own ≡ false → list_all (λ o. is_named own o || good o) rest ≡ true → list_all good rest ≡ true
    other_names [] h g = refl
    other_names (r ∷ rs) h g =
        let apart = or_parts (is_named own r) (is_among rs own) h in
        let both = and_parts (is_named own r || good r) (list_all (λ o. is_named own o || good o) rs) g in
        and_from (good r) (list_all good rs) (sym (ap (λ t. t || good r) apart.0) ∙ both.0) (other_names rs apart.1 both.1)

    good_by : (t : Bool) (r : Row) (rs rs' : List Row) → is_named own r ≡ t → is_among rs (name_of r) ≡ false → good row ≡ true
        → (list_all (λ o. is_named own o || good o) rs' ≡ true → list_all good rs' ≡ true)
        → list_all (λ o. is_named own o || good o) (cond t (row ∷ rs) (r ∷ rs')) ≡ true → list_all good (cond t (row ∷ rs) (r ∷ rs')) ≡ true
    good_by true r rs rs' e new itself rest h =
        and_from (good row) (list_all good rs) itself
        (other_names rs (ap (is_among rs) (same_name own (name_of r) e) ∙ new)
        (and_parts (is_named own row || good row) (list_all (λ o. is_named own o || good o) rs) h).1)
    good_by false r rs rs' e new itself rest h =
        let both = and_parts (is_named own r || good r) (list_all (λ o. is_named own o || good o) rs') h in
        and_from (good r) (list_all good rs') (sym (ap (λ t. t || good r) e) ∙ both.0) (rest both.1)

    all_good : (rest : List Row) → are_named_once rest ≡ true → good row ≡ true
        → list_all (λ o. is_named own o || good o) (rows_with row rest) ≡ true → list_all good (rows_with row rest) ≡ true
    all_good [] h itself g = refl
    all_good (r ∷ rs) h itself g =
        good_by (is_named own r) r rs (rows_with row rs) refl (once_head r rs h) itself (all_good rs (once_tail r rs h) itself) g

  -- the row itself is among those of the edited sheet
  from_by : (p : Row → Bool) (t : Bool) (r : Row) (rs rs' : List Row) → (t || is_among rs own) ≡ true
      → (is_among rs own ≡ true → list_all p rs' ≡ true → p row ≡ true) → list_all p (cond t (row ∷ rs) (r ∷ rs')) ≡ true → p row ≡ true
  from_by p true r rs rs' there rest h = (and_parts (p row) (list_all p rs) h).0
  from_by p false r rs rs' there rest h = rest there (and_parts (p r) (list_all p rs') h).1

  known_from : (p : Row → Bool) (rest : List Row) → is_among rest own ≡ true → list_all p (rows_with row rest) ≡ true → p row ≡ true
  known_from p [] there h = absurd (true≢false (sym there))
  known_from p (r ∷ rs) there h = from_by p (is_named own r) r rs (rows_with row rs) there (known_from p rs) h

  -- ---- the rows before
  -- a quantity of the old row is one of the new row, or no more
  after_set : (all before : List Row) (r : Row) → IsRegular r → own ≡ name_of r
      → ((n : List ℕ) → is_named (row_part n) row ≡ true → is_quantity_in all n ≡ gives row n) → (n : List ℕ)
      → is_quantity_in (before ++ r ∷ []) n ≡ true → is_quantity_in all n ≡ true → is_quantity_in (before ++ row ∷ []) n ≡ true
  after_set all before r regular same given n h g =
      quantity_append before (row ∷ []) n
      ∙ after_by (is_quantity_in before n) (gives r n) refl refl
      (sym (ap (λ t. is_quantity_in before n || t) (quantity_last r n)) ∙ sym (quantity_append before (r ∷ []) n) ∙ h)
    where
      after_by : (t u : Bool) → is_quantity_in before n ≡ t → gives r n ≡ u → (t || u) ≡ true
          → (is_quantity_in before n || is_quantity_in (row ∷ []) n) ≡ true
      after_by true u e f k = or_left (is_quantity_in before n) (is_quantity_in (row ∷ []) n) e
      after_by false true e f k =
          let part : is_named (row_part n) row ≡ true = ap (bytes_eq (row_part n)) same ∙ gives_part r n regular f in
          or_right (is_quantity_in before n) (is_quantity_in (row ∷ []) n) (quantity_last row n ∙ sym (given n part) ∙ g)
      after_by false false e f k = absurd (true≢false (sym k))

  here : (before rs : List Row) → are_known (before ++ rows_before own (row ∷ rs)) row ≡ are_known before row
  here before rs =
      ap (λ b. are_known (before ++ cond b [] (row ∷ rows_before own rs)) row) (named_itself own) ∙ ap (λ rows. are_known rows row) (append-nil before)

  there_later : (before rs : List Row) (r : Row) → is_named own r ≡ false
      → are_known (before ++ rows_before own (r ∷ rs)) row ≡ are_known ((before ++ r ∷ []) ++ rows_before own rs) row
  there_later before rs r e =
      ap (λ b. are_known (before ++ cond b [] (r ∷ rows_before own rs)) row) e
      ∙ ap (λ rows. are_known rows row) (sym (append_assoc before (r ∷ []) (rows_before own rs)))

  module _ (all : List Row) (given : (n : List ℕ) → is_named (row_part n) row ≡ true → is_quantity_in all n ≡ gives row n) where
    earlier_by : (before : List Row) (t : Bool) (r : Row) (rs : List Row) → IsRegular r → is_named own r ≡ t → are_earlier before (r ∷ rs) ≡ true → (t || is_among rs own) ≡ true
        → (is_among rs own ≡ true → are_known ((before ++ r ∷ []) ++ rows_before own (rows_with row rs)) row ≡ true
        → list_all (are_known all) (rows_with row rs) ≡ true → are_earlier (before ++ r ∷ []) (rows_with row rs) ≡ true)
        → are_known (before ++ rows_before own (cond t (row ∷ rs) (r ∷ rows_with row rs))) row ≡ true
        → list_all (are_known all) (cond t (row ∷ rs) (r ∷ rows_with row rs)) ≡ true
        → are_earlier before (cond t (row ∷ rs) (r ∷ rows_with row rs)) ≡ true
    earlier_by before true r rs regular e h there rest k m =
        and_from (are_known before row) (are_earlier (before ++ row ∷ []) rs) (sym (here before rs) ∙ k)
        (still_earlier all (before ++ r ∷ []) (before ++ row ∷ []) rs (after_set all before r regular (same_name own (name_of r) e) given)
        (and_parts (are_known before r) (are_earlier (before ++ r ∷ []) rs) h).1 (and_parts (are_known all row) (list_all (are_known all) rs) m).1)
    earlier_by before false r rs regular e h there rest k m =
        and_from (are_known before r) (are_earlier (before ++ r ∷ []) (rows_with row rs)) (and_parts (are_known before r) (are_earlier (before ++ r ∷ []) rs) h).0
        (rest there (sym (there_later before (rows_with row rs) r e) ∙ k) (and_parts (are_known all r) (list_all (are_known all) (rows_with row rs)) m).1)

    earlier_set : (before rest : List Row) → AreRegular rest → are_earlier before rest ≡ true → is_among rest own ≡ true
        → are_known (before ++ rows_before own (rows_with row rest)) row ≡ true → list_all (are_known all) (rows_with row rest) ≡ true
        → are_earlier before (rows_with row rest) ≡ true
    earlier_set before [] regular h there k m = refl
    earlier_set before (r ∷ rs) regular h there k m =
        earlier_by before (is_named own r) r rs regular.0 refl h there
        (earlier_set (before ++ r ∷ []) rs regular.1 (and_parts (are_known before r) (are_earlier (before ++ r ∷ []) rs) h).1) k m

  stands_by : (before : List Row) (t : Bool) (r : Row) (rs : List Row) → is_named own r ≡ t → (t || is_among rs own) ≡ true
      → (is_among rs own ≡ true → are_earlier (before ++ r ∷ []) (rows_with row rs) ≡ true → are_known ((before ++ r ∷ []) ++ rows_before own (rows_with row rs)) row ≡ true)
      → are_earlier before (cond t (row ∷ rs) (r ∷ rows_with row rs)) ≡ true
      → are_known (before ++ rows_before own (cond t (row ∷ rs) (r ∷ rows_with row rs))) row ≡ true
  stands_by before true r rs e there rest h = here before rs ∙ (and_parts (are_known before row) (are_earlier (before ++ row ∷ []) rs) h).0
  stands_by before false r rs e there rest h =
      there_later before (rows_with row rs) r e ∙ rest there (and_parts (are_known before r) (are_earlier (before ++ r ∷ []) (rows_with row rs)) h).1

  stands_from : (before rest : List Row) → is_among rest own ≡ true → are_earlier before (rows_with row rest) ≡ true
      → are_known (before ++ rows_before own (rows_with row rest)) row ≡ true
  stands_from before [] there h = absurd (true≢false (sym there))
  stands_from before (r ∷ rs) there h = stands_by before (is_named own r) r rs refl there (stands_from (before ++ r ∷ []) rs) h

module _ (sheet : Sheet) (row : Row) where
  abbrev edited_rows : List Row
  edited_rows = rows_with row sheet.rows

  set_parts : (edited : Sheet) → verdict_set sheet row ≡ Ok edited → (has_row sheet (name_of row) ≡ true) × (verdict_on_set (set_row row sheet) row ≡ Ok edited)
  set_parts edited h = cond_err (has_row sheet (name_of row)) (Unknown (name_of row)) (verdict_on_set (set_row row sheet) row) edited h

  pub set_there : (edited : Sheet) → verdict_set sheet row ≡ Ok edited → has_row sheet (name_of row) ≡ true
  set_there edited h = (set_parts edited h).0

  module _ (whole : IsWellFormed sheet) where
    abbrev good : Row → Bool
    good o = are_known edited_rows o && are_correlatable edited_rows o

    none_named : (f : Option Row) → option_map name_of f ≡ None → f ≡ None
    none_named None h = refl
    none_named (Some r) h = absurd (true≢false (ap is_some h))

    pub set_accepted : AreRegular sheet.rows → IsRegular row → (edited : Sheet) → verdict_set sheet row ≡ Ok edited → IsAccepted edited (set_row row sheet)
    set_accepted regular own edited h =
        let there = set_parts edited h in
        let free = uses_ok (set_row row sheet) row (unless_left (set_row row sheet) row) edited there.1 in
        let users = unless_ok (option_map name_of (find (is_left_without (set_row row sheet) row) edited_rows)) InUse (Ok (set_row row sheet)) edited free.rest in
        let same : set_row row sheet ≡ edited = ok_same users.1 in
        let left = none_of (is_left_without (set_row row sheet) row) edited_rows
        (none_named (find (is_left_without (set_row row sheet) row) edited_rows) users.0) in
        let both = and_parts (list_all (are_known edited_rows) edited_rows) (list_all (are_correlatable edited_rows) edited_rows)
        (sym (all_both (are_known edited_rows) (are_correlatable edited_rows) edited_rows)
        ∙ all_good row good sheet.rows whole.once (and_from (are_known edited_rows row) (are_correlatable edited_rows row) free.known free.correlatable)
        (own_or_good row good edited_rows left)) in
        let given : (n : List ℕ) → is_named (row_part n) row ≡ true → is_quantity_in edited_rows n ≡ gives row n =
        λ n part. set_known sheet row regular own whole.once there.0 n ∙ ap (λ b. cond b (gives row n) (is_quantity_in sheet.rows n)) part in
        record {
          is = sym same;
          well_formed =
              subst IsWellFormed same
              (record {
                limit = omega (arith, whole.limit, length_set row sheet.rows);
                once = once_set row sheet.rows ∙ whole.once;
                known = both.0;
                earlier = earlier_set row edited_rows given [] sheet.rows regular whole.earlier there.0 free.earlier both.0;
                correlatable = both.1;
                apart = apart_after_set row sheet.rows whole.apart free.apart;
              });
        }

    pub set_complete : has_row sheet (name_of row) ≡ true → IsWellFormed (set_row row sheet) → verdict_set sheet row ≡ Ok (set_row row sheet)
    set_complete there edited =
        let stands = stands_from row [] sheet.rows there edited.earlier in
        let free = ok_uses (set_row row sheet) row (unless_left (set_row row sheet) row) (known_from row (are_known edited_rows) sheet.rows there edited.known) stands
        (known_from row (are_correlatable edited_rows) sheet.rows there edited.correlatable) (known_from row (are_apart edited_rows) sheet.rows there edited.apart) in
        let users : find (is_left_without (set_row row sheet) row) edited_rows ≡ None =
        found_of_none (is_left_without (set_row row sheet) row) edited_rows
        (all_two (are_known edited_rows) (are_correlatable edited_rows) (λ o. not (is_left_without (set_row row sheet) row o))
        (λ o k c. not_from_false (is_left_without (set_row row sheet) row o)
        (and_right (not (is_named (name_of row) o)) (not (good o)) (not_from_true (good o) (and_from (are_known edited_rows o) (are_correlatable edited_rows o) k c))))
        edited_rows edited.known edited.correlatable) in
        ap (λ t. cond t (verdict_on_set (set_row row sheet) row) (Err (Unknown (name_of row)))) there ∙ free
        ∙ ap (λ found. unless (option_map name_of found) InUse (Ok (set_row row sheet))) users
