-- A row that is taken out leaves a well-formed sheet well formed, and is refused only where it does not.
use Rattle.std.proofs.Common.{◌≡◌, ◌≤◌, ℕ, suc, Bool, true, false, ◌||◌, ◌&&◌, cond, not, List, [], ◌∷◌, ◌++◌, length, Option, None, Some, Ok, is_some, refl, sym, ap, ◌∙◌, subst, arith, true≢false}
use Rattle.std.specs.Prelude.{bytes_eq, find}
use Rattle.std.specs.Option.{option_map}
use Rattle.std.specs.List.{list_any, list_all}
use Rattle.sheet_rows.specs.Rows.{Row, Sheet, Given, Readings, Joint, Correlation, Formula, Tolerance, name_of, row_part, used_names, gives, correlated_names, is_correlatable}
use Rattle.sheet_rows.specs.Regular.{IsRegular, AreRegular}
use Rattle.sheet_rows.specs.declared.edit_fault.EditFault.TheVariants.{InUse}
use Rattle.sheet_rows.specs.Sheets.{IsWellFormed, is_named, is_among, has_row, is_quantity_in, is_correlatable_in, repeated_name, are_known, are_correlatable, are_named_once, are_earlier}
use Rattle.sheet_edits.specs.Verdicts.{IsAccepted, rows_without, removed, unless, is_user_of, verdict_remove, verdict_on_removal}
use Rattle.std.proofs.Math.Bool.{or-false}
use Rattle.std.proofs.lemmas.Bool.{and_parts, and_right, or_parts, and_from, not-true}
use Rattle.std.proofs.lemmas.List.Folds.{list_any-append}
use Rattle.sheet_edits.proofs.Conditions.{err_ok, ok_same, unless_ok}
use Rattle.sheet_rows.proofs.Tests.{none_of, same_name}
use Rattle.sheet_edits.proofs.Positions.{some_same}
use Rattle.sheet_rows.proofs.RegularRows.{regular_added}
use Rattle.sheet_edits.proofs.Regular.{regular_removed}
use Rattle.sheet_rows.proofs.RegularRows.{regular_found}
use Rattle.sheet_edits.proofs.Correlated.{correlated_used, part, apart_after_removed}
use Rattle.sheet_rows.proofs.Quantities.{quantity_any, quantity_last, quantity_append, gives_part, no_quantity}
use Rattle.sheet_edits.proofs.Verdicts.{missing_find, found_any, found_named}

module _ (n : List ℕ) where
  -- ---- names
  less_by : (t : Bool) (r : Row) (rs : List Row) (u : List ℕ) → is_among (r ∷ rs) u ≡ false → is_among (rows_without n rs) u ≡ false
      → is_among (cond t rs (r ∷ rows_without n rs)) u ≡ false
  less_by true r rs u h g = (or_parts (is_named u r) (is_among rs u) h).1
  less_by false r rs u h g =
      let first = (or_parts (is_named u r) (is_among rs u) h).0 in
      λ j. first j || g j

  removed_less : (xs : List Row) (u : List ℕ) → is_among xs u ≡ false → is_among (rows_without n xs) u ≡ false
  removed_less [] u h = refl
  removed_less (r ∷ rs) u h = less_by (is_named n r) r rs u h (removed_less rs u (or_parts (is_named u r) (is_among rs u) h).1)

  once_by : (t : Bool) (r : Row) (rs : List Row) → are_named_once (r ∷ rs) ≡ true → are_named_once (rows_without n rs) ≡ true
      → are_named_once (cond t rs (r ∷ rows_without n rs)) ≡ true
  once_by true r rs h g = (and_parts (not (is_among rs (name_of r))) (are_named_once rs) h).1
  once_by false r rs h g =
      and_from (not (is_among (rows_without n rs) (name_of r))) (are_named_once (rows_without n rs))
      (ap not (removed_less rs (name_of r) (not-true (is_among rs (name_of r)) (and_parts (not (is_among rs (name_of r))) (are_named_once rs) h).0))) g

  once_removed : (xs : List Row) → are_named_once xs ≡ true → are_named_once (rows_without n xs) ≡ true
  once_removed [] h = refl
  once_removed (r ∷ rs) h = once_by (is_named n r) r rs h (once_removed rs (and_parts (not (is_among rs (name_of r))) (are_named_once rs) h).1)

  gone_by : (t : Bool) (r : Row) (rs : List Row) → is_named n r ≡ t → are_named_once (r ∷ rs) ≡ true → is_among (rows_without n rs) n ≡ false
      → is_among (cond t rs (r ∷ rows_without n rs)) n ≡ false
  gone_by true r rs e h g =
      ap (is_among rs) (same_name n (name_of r) e) ∙ not-true (is_among rs (name_of r)) (and_parts (not (is_among rs (name_of r))) (are_named_once rs) h).0
  gone_by false r rs e h g = λ j. e j || g j

  -- no other row has the name
  gone : (xs : List Row) → are_named_once xs ≡ true → is_among (rows_without n xs) n ≡ false
  gone [] h = refl
  gone (r ∷ rs) h = gone_by (is_named n r) r rs refl h (gone rs (and_parts (not (is_among rs (name_of r))) (are_named_once rs) h).1)

  length_by : (t : Bool) (r : Row) (rs : List Row) → length (rows_without n rs) ≤ length rs → length (cond t rs (r ∷ rows_without n rs)) ≤ suc (length rs)
  length_by true r rs h = omega arith
  length_by false r rs h = omega (arith, h)

  length_removed : (xs : List Row) → length (rows_without n xs) ≤ length xs
  length_removed [] = omega arith
  length_removed (r ∷ rs) = length_by (is_named n r) r rs (length_removed rs)

module _ (n : List ℕ) (row : Row) where
  -- another row uses a quantity of the row
  abbrev is_user : Row → Bool
  is_user other = is_user_of row other

  -- ---- what the row does not pass is as before without it
  any_by : (f : Row → Bool) (t : Bool) (r : Row) (rs : List Row) → f row ≡ false → cond t (Some r) (find (is_named n) rs) ≡ Some row
      → (find (is_named n) rs ≡ Some row → list_any f (rows_without n rs) ≡ list_any f rs)
      → list_any f (cond t rs (r ∷ rows_without n rs)) ≡ list_any f (r ∷ rs)
  any_by f true r rs h e rest = sym (ap (λ b. b || list_any f rs) (ap f (some_same e) ∙ h))
  any_by f false r rs h e rest = ap (λ b. f r || b) (rest e)

  any_without : (f : Row → Bool) (xs : List Row) → f row ≡ false → find (is_named n) xs ≡ Some row → list_any f (rows_without n xs) ≡ list_any f xs
  any_without f [] h e = refl
  any_without f (r ∷ rs) h e = any_by f (is_named n r) r rs h e (any_without f rs h)

  -- ---- lists with the same quantities but those of the row
  abbrev Agree : List Row → List Row → Type 0
  Agree a b = (u : List ℕ) → gives row u ≡ false → is_quantity_in a u ≡ is_quantity_in b u

  names_agree : (a b : List Row) → Agree a b → (us : List (List ℕ)) → list_any (gives row) us ≡ false → list_all (is_quantity_in a) us ≡ list_all (is_quantity_in b) us
  names_agree a b h [] g = refl
  names_agree a b h (u ∷ us) g =
      let first = h u (or_parts (gives row u) (list_any (gives row) us) g).0 in
      let rest = names_agree a b h us (or_parts (gives row u) (list_any (gives row) us) g).1 in
      λ j. first j && rest j

  known_agree : (a b : List Row) → Agree a b → (other : Row) → is_user other ≡ false → are_known a other ≡ are_known b other
  known_agree a b h other g = names_agree a b h (used_names other) g

  agree_removed : (sheet : List Row) → find (is_named n) sheet ≡ Some row → Agree sheet (rows_without n sheet)
  agree_removed sheet e u f =
      quantity_any sheet u ∙ sym (any_without (λ r. gives r u) sheet f e) ∙ sym (quantity_any (rows_without n sheet) u)

  agree_more : (a b : List Row) (r : Row) → Agree a b → Agree (a ++ r ∷ []) (b ++ r ∷ [])
  agree_more a b r h u f =
      quantity_append a (r ∷ []) u ∙ ap (λ t. t || is_quantity_in (r ∷ []) u) (h u f) ∙ sym (quantity_append b (r ∷ []) u)

  agree_without : (a : List Row) (r : Row) → r ≡ row → Agree (a ++ r ∷ []) a
  agree_without a r e u f =
      quantity_append a (r ∷ []) u ∙ ap (λ t. is_quantity_in a u || t) (quantity_last r u ∙ ap (λ x. gives x u) e ∙ f) ∙ or-false (is_quantity_in a u)

  -- ---- no row uses a quantity of the row
  known_rest : (sheet rest : List Row) → find (is_named n) sheet ≡ Some row → list_any is_user rest ≡ false → list_all (are_known sheet) rest ≡ true
      → list_all (are_known (rows_without n sheet)) rest ≡ true
  known_rest sheet [] e g h = refl
  known_rest sheet (r ∷ rs) e g h =
      and_from (are_known (rows_without n sheet) r) (list_all (are_known (rows_without n sheet)) rs)
      (sym (known_agree sheet (rows_without n sheet) (agree_removed sheet e) r (or_parts (is_user r) (list_any is_user rs) g).0) ∙ (and_parts (are_known sheet r) (list_all (are_known sheet) rs) h).0)
      (known_rest sheet rs e (or_parts (is_user r) (list_any is_user rs) g).1 (and_parts (are_known sheet r) (list_all (are_known sheet) rs) h).1)

  -- an input that may be correlated is a quantity
  correlatable_given : (r : Row) (u : List ℕ) → gives r u ≡ false → (is_named u r && is_correlatable r) ≡ false
  correlatable_given (Given name estimate shape dof) u h =
      ap (λ t. t && is_correlatable (Given name estimate shape dof)) (or_parts (bytes_eq u name) false h).0
  correlatable_given (Readings name table) u h = and_right (bytes_eq u name) false refl
  correlatable_given (Joint name columns table) u h = and_right (bytes_eq u name) false refl
  correlatable_given (Correlation name first second coefficient) u h = and_right (bytes_eq u name) false refl
  correlatable_given (Formula name formula) u h = and_right (bytes_eq u name) false refl
  correlatable_given (Tolerance name rule) u h = and_right (bytes_eq u name) false refl

  -- the inputs that a row correlates are other ones
  correlatable_agree : (sheet : List Row) (us : List (List ℕ)) → find (is_named n) sheet ≡ Some row → list_any (gives row) us ≡ false
      → list_all (is_correlatable_in sheet) us ≡ list_all (is_correlatable_in (rows_without n sheet)) us
  correlatable_agree sheet [] e g = refl
  correlatable_agree sheet (u ∷ us) e g =
      let other = correlatable_given row u (or_parts (gives row u) (list_any (gives row) us) g).0 in
      let first = sym (any_without (λ r. is_named u r && is_correlatable r) sheet other e) in
      let rest = correlatable_agree sheet us e (or_parts (gives row u) (list_any (gives row) us) g).1 in
      λ j. first j && rest j

  correlatable_rest : (sheet rest : List Row) → find (is_named n) sheet ≡ Some row → list_any is_user rest ≡ false → list_all (are_correlatable sheet) rest ≡ true
      → list_all (are_correlatable (rows_without n sheet)) rest ≡ true
  correlatable_rest sheet [] e g h = refl
  correlatable_rest sheet (r ∷ rs) e g h =
      let free = or_parts (is_user r) (list_any is_user rs) g in
      let both = and_parts (are_correlatable sheet r) (list_all (are_correlatable sheet) rs) h in
      and_from (are_correlatable (rows_without n sheet) r) (list_all (are_correlatable (rows_without n sheet)) rs)
      (sym (ap (λ b. b && not (is_some (repeated_name r))) (correlatable_agree sheet (correlated_names r) e (correlated_used r (gives row) free.0))) ∙ both.0)
      (correlatable_rest sheet rs e free.1 both.1)

  earlier_agree : (a b rest : List Row) → Agree a b → list_any is_user rest ≡ false → are_earlier a rest ≡ are_earlier b rest
  earlier_agree a b [] h g = refl
  earlier_agree a b (r ∷ rs) h g =
      let first = known_agree a b h r (or_parts (is_user r) (list_any is_user rs) g).0 in
      let rest = earlier_agree (a ++ r ∷ []) (b ++ r ∷ []) rs (agree_more a b r h) (or_parts (is_user r) (list_any is_user rs) g).1 in
      λ j. first j && rest j

  earlier_by : (before : List Row) (t : Bool) (r : Row) (rs : List Row) → cond t (Some r) (find (is_named n) rs) ≡ Some row → list_any is_user rs ≡ false
      → are_earlier before (r ∷ rs) ≡ true
      → (find (is_named n) rs ≡ Some row → are_earlier (before ++ r ∷ []) (rows_without n rs) ≡ true) → are_earlier before (cond t rs (r ∷ rows_without n rs)) ≡ true
  earlier_by before true r rs e g h i =
      sym (earlier_agree (before ++ r ∷ []) before rs (agree_without before r (some_same e)) g)
      ∙ (and_parts (are_known before r) (are_earlier (before ++ r ∷ []) rs) h).1
  earlier_by before false r rs e g h i =
      and_from (are_known before r) (are_earlier (before ++ r ∷ []) (rows_without n rs)) (and_parts (are_known before r) (are_earlier (before ++ r ∷ []) rs) h).0 (i e)

  earlier_removed : (before rest : List Row) → find (is_named n) rest ≡ Some row → list_any is_user rest ≡ false → are_earlier before rest ≡ true
      → are_earlier before (rows_without n rest) ≡ true
  earlier_removed before [] e g h = refl
  earlier_removed before (r ∷ rs) e g h =
      let free = (or_parts (is_user r) (list_any is_user rs) g).1 in
      earlier_by before (is_named n r) r rs e free h
      (λ f. earlier_removed (before ++ r ∷ []) rs f free (and_parts (are_known before r) (are_earlier (before ++ r ∷ []) rs) h).1)

  -- ---- rows that know their names without the row use no quantity of it
  module _ (own : IsRegular row) (named : n ≡ name_of row) where
    unused_by : (a : List Row) (u : List ℕ) (t : Bool) → gives row u ≡ t → AreRegular a → is_among a n ≡ false → is_quantity_in a u ≡ true → t ≡ false
    unused_by a u false e regular h g = refl
    unused_by a u true e regular h g =
        let part : row_part u ≡ n = same_name (row_part u) (name_of row) (gives_part row u own e) ∙ sym named in
        absurd (true≢false (sym g ∙ no_quantity a u regular (ap (is_among a) part ∙ h)))

    unused : (a : List Row) (us : List (List ℕ)) → AreRegular a → is_among a n ≡ false → list_all (is_quantity_in a) us ≡ true → list_any (gives row) us ≡ false
    unused a [] regular h g = refl
    unused a (u ∷ us) regular h g =
        let both = and_parts (is_quantity_in a u) (list_all (is_quantity_in a) us) g in
        let first = unused_by a u (gives row u) refl regular h both.0 in
        let rest = unused a us regular h both.1 in
        λ j. first j || rest j

    all_unused : (a : List Row) (rest : List Row) → AreRegular a → is_among a n ≡ false → list_all (are_known a) rest ≡ true → list_any is_user rest ≡ false
    all_unused a [] regular h g = refl
    all_unused a (r ∷ rs) regular h g =
        let both = and_parts (are_known a r) (list_all (are_known a) rs) g in
        let first = unused a (used_names r) regular h both.0 in
        let rest = all_unused a rs regular h both.1 in
        λ j. first j || rest j

    users_by : (a before : List Row) (t : Bool) (r : Row) (rs : List Row) → is_named n r ≡ t → AreRegular a → AreRegular before → is_among a n ≡ false → is_among before n ≡ false
        → are_known before r ≡ true → list_all (are_known a) (cond t rs (r ∷ rows_without n rs)) ≡ true
        → (is_named n r ≡ false → list_all (are_known a) (rows_without n rs) ≡ true → list_any is_user rs ≡ false) → list_any is_user (r ∷ rs) ≡ false
    users_by a before true r rs e regular earlier h g k m rest =
        let first = unused before (used_names r) earlier g k in
        let others = all_unused a rs regular h m in
        λ j. first j || others j
    users_by a before false r rs e regular earlier h g k m rest =
        let both = and_parts (are_known a r) (list_all (are_known a) (rows_without n rs)) m in
        let first = unused a (used_names r) regular h both.0 in
        let others = rest e both.1 in
        λ j. first j || others j

    no_users : (a before rest : List Row) → AreRegular a → AreRegular before → AreRegular rest → is_among a n ≡ false → is_among before n ≡ false
        → are_earlier before rest ≡ true → list_all (are_known a) (rows_without n rest) ≡ true → list_any is_user rest ≡ false
    no_users a before [] regular earlier later h g k m = refl
    no_users a before (r ∷ rs) regular earlier later h g k m =
        let without : is_named n r ≡ false → is_among (before ++ r ∷ []) n ≡ false =
        λ e. list_any-append (is_named n) before (r ∷ []) ∙ (λ j. g j || (e j || false)) in
        users_by a before (is_named n r) r rs refl regular earlier h g (and_parts (are_known before r) (are_earlier (before ++ r ∷ []) rs) k).0 m
        (λ e. no_users a (before ++ r ∷ []) rs regular (regular_added before r earlier later.0) later.1 h (without e)
        (and_parts (are_known before r) (are_earlier (before ++ r ∷ []) rs) k).1)

module _ (sheet : Sheet) (n : List ℕ) where
  none_mapped : (f : Option Row) → option_map name_of f ≡ None → f ≡ None
  none_mapped None h = refl
  none_mapped (Some r) h = absurd (true≢false (ap is_some h))

  there_by : (edited : Sheet) (f : Option Row) → find (is_named n) sheet.rows ≡ f → verdict_on_removal sheet n f ≡ Ok edited → has_row sheet n ≡ true
  there_by edited None e h = absurd (err_ok h)
  there_by edited (Some r) e h = sym (found_any (is_named n) sheet.rows) ∙ ap is_some e

  pub remove_there : (edited : Sheet) → verdict_remove sheet n ≡ Ok edited → has_row sheet n ≡ true
  remove_there edited h = there_by edited (find (is_named n) sheet.rows) refl h

  module _ (whole : IsWellFormed sheet) where
    accepted_by : (edited : Sheet) (f : Option Row) → find (is_named n) sheet.rows ≡ f → verdict_on_removal sheet n f ≡ Ok edited
        → IsAccepted edited (removed n sheet)
    accepted_by edited None e h = absurd (err_ok h)
    accepted_by edited (Some row) e h =
        let parts = unless_ok (option_map name_of (find (is_user_of row) sheet.rows)) InUse (Ok (removed n sheet)) edited h in
        let free = none_of (is_user_of row) sheet.rows (none_mapped (find (is_user_of row) sheet.rows) parts.0) in
        let same : removed n sheet ≡ edited = ok_same parts.1 in
        record {
          is = sym same;
          well_formed =
              subst IsWellFormed same
              (record {
                limit = omega (arith, whole.limit, length_removed n sheet.rows);
                once = once_removed n sheet.rows whole.once;
                known = part n (are_known (rows_without n sheet.rows)) sheet.rows (known_rest n row sheet.rows sheet.rows e free whole.known);
                earlier = earlier_removed n row [] sheet.rows e free whole.earlier;
                correlatable =
                    part n (are_correlatable (rows_without n sheet.rows)) sheet.rows (correlatable_rest n row sheet.rows sheet.rows e free whole.correlatable);
                apart = apart_after_removed n sheet.rows whole.apart;
              });
        }

    pub remove_accepted : (edited : Sheet) → verdict_remove sheet n ≡ Ok edited → IsAccepted edited (removed n sheet)
    remove_accepted edited h = accepted_by edited (find (is_named n) sheet.rows) refl h

    module _ (regular : AreRegular sheet.rows) where
      complete_by : (f : Option Row) → find (is_named n) sheet.rows ≡ f → has_row sheet n ≡ true → IsWellFormed (removed n sheet)
          → verdict_on_removal sheet n f ≡ Ok (removed n sheet)
      complete_by None e there edited = absurd (true≢false (sym there ∙ sym (found_any (is_named n) sheet.rows) ∙ ap is_some e))
      complete_by (Some row) e there edited =
          let free = no_users n row (regular_found (is_named n) sheet.rows row regular e) (found_named n sheet.rows row e) (rows_without n sheet.rows) [] sheet.rows
          (regular_removed sheet.rows n regular) tt regular (gone n sheet.rows whole.once) refl whole.earlier edited.known in
          ap (λ f. unless (option_map name_of f) InUse (Ok (removed n sheet))) (missing_find (is_user_of row) sheet.rows free)

      pub remove_complete : has_row sheet n ≡ true → IsWellFormed (removed n sheet) → verdict_remove sheet n ≡ Ok (removed n sheet)
      remove_complete there edited = complete_by (find (is_named n) sheet.rows) refl there edited
