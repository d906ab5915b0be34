-- A row that is added leaves a well-formed sheet well formed, and is refused only where it does not.
use Rattle.std.proofs.Common.{◌≡◌, ℕ, Bool, true, false, ◌||◌, ◌&&◌, cond, not, nat_le, List, [], ◌∷◌, ◌++◌, length, Ok, Err, refl, sym, ap, ◌∙◌, subst, arith, append_assoc}
use Rattle.std.specs.Prelude.{bytes_eq}
use Rattle.std.specs.List.{list_all}
use Rattle.std.proofs.lemmas.List.{length-append, append-nil}
use Rattle.std.proofs.lemmas.List.Folds.{list_all-append, list_any-append}
use Rattle.std.proofs.lemmas.Bool.{lt-leb, leb-false, and_parts, or_parts, and_from, not-true}
use Rattle.sheet_rows.specs.Rows.{Row, Sheet, name_of, used_names, is_correlatable}
use Rattle.sheet_rows.specs.declared.edit_fault.EditFault.TheVariants.{RowsFull, Duplicate}
use Rattle.sheet_rows.specs.Sheets.{IsWellFormed, is_named, is_among, has_row, is_quantity_in, is_correlatable_in, are_known, are_correlatable, are_apart, are_named_once, are_earlier, row_limit}
use Rattle.sheet_edits.specs.Verdicts.{IsAccepted, added, unless_uses_fail, verdict_add}
use Rattle.sheet_edits.proofs.Conditions.{ok_same, cond_ok}
use Rattle.sheet_rows.proofs.Tests.{all_more, other_way}
use Rattle.sheet_rows.proofs.Quantities.{quantity_append, added_has}
use Rattle.sheet_edits.proofs.Verdicts.{with_last, before_added, uses_ok, ok_uses}
use Rattle.sheet_edits.proofs.Correlated.{correlatable_more, apart_after_added}

-- ---- names
once_added : (sheet : List Row) (row : Row) → are_named_once sheet ≡ true → is_among sheet (name_of row) ≡ false → are_named_once (with_last sheet row) ≡ true
once_added [] row h g = refl
once_added (r ∷ rs) row h g =
    let apart : bytes_eq (name_of r) (name_of row) ≡ false = other_way (name_of row) (name_of r) (or_parts (is_named (name_of row) r) (is_among rs (name_of row)) g).0 in
    let new : is_among rs (name_of r) ≡ false = not-true (is_among rs (name_of r)) (and_parts (not (is_among rs (name_of r))) (are_named_once rs) h).0 in
    let still : is_among (with_last rs row) (name_of r) ≡ false = added_has rs row (name_of r) ∙ (λ j. new j || apart j) in
    and_from (not (is_among (with_last rs row) (name_of r))) (are_named_once (with_last rs row)) (ap not still)
    (once_added rs row (and_parts (not (is_among rs (name_of r))) (are_named_once rs) h).1 (or_parts (is_named (name_of row) r) (is_among rs (name_of row)) g).1)

new_from_once : (sheet : List Row) (row : Row) → are_named_once (with_last sheet row) ≡ true → is_among sheet (name_of row) ≡ false
new_from_once [] row h = refl
new_from_once (r ∷ rs) row h =
    let none : is_among (with_last rs row) (name_of r) ≡ false =
    not-true (is_among (with_last rs row) (name_of r)) (and_parts (not (is_among (with_last rs row) (name_of r))) (are_named_once (with_last rs row)) h).0 in
    let apart : bytes_eq (name_of r) (name_of row) ≡ false =
    (or_parts (is_among rs (name_of r)) (bytes_eq (name_of r) (name_of row)) (sym (added_has rs row (name_of r)) ∙ none)).1 in
    let first = other_way (name_of r) (name_of row) apart in
    let rest = new_from_once rs row (and_parts (not (is_among (with_last rs row) (name_of r))) (are_named_once (with_last rs row)) h).1 in
    λ j. first j || rest j

-- ---- names used
pub earlier_append : (before xs : List Row) (row : Row) → are_earlier before (with_last xs row) ≡ (are_earlier before xs && are_known (before ++ xs) row)
earlier_append before [] row = ap (λ b. b && true) (ap (λ rows. are_known rows row) (sym (append-nil before))) ∙ and_true (are_known (before ++ []) row)
  where
    and_true : (b : Bool) → (b && true) ≡ b
    and_true true = refl
    and_true false = refl
earlier_append before (r ∷ rs) row =
    ap (λ b. are_known before r && b)
    (earlier_append (before ++ r ∷ []) rs row ∙ ap (λ rows. are_earlier (before ++ r ∷ []) rs && are_known rows row) (append_assoc before (r ∷ []) rs))
    ∙ more (are_known before r) (are_earlier (before ++ r ∷ []) rs) (are_known (before ++ r ∷ rs) row)
  where
    more : (a b c : Bool) → (a && (b && c)) ≡ ((a && b) && c)
    more true b c = refl
    more false b c = refl

grows : (sheet : List Row) (row : Row) (n : List ℕ) → is_quantity_in sheet n ≡ true → is_quantity_in (with_last sheet row) n ≡ true
grows sheet row n h = quantity_append sheet (row ∷ []) n ∙ ap (λ b. b || is_quantity_in (row ∷ []) n) h

known_added : (sheet : List Row) (row r : Row) → are_known sheet r ≡ true → are_known (with_last sheet row) r ≡ true
known_added sheet row r h = all_more (is_quantity_in sheet) (is_quantity_in (with_last sheet row)) (grows sheet row) (used_names r) h

correlatable_grows : (sheet : List Row) (row : Row) (n : List ℕ) → is_correlatable_in sheet n ≡ true → is_correlatable_in (with_last sheet row) n ≡ true
correlatable_grows sheet row n h =
    list_any-append (λ r. is_named n r && is_correlatable r) sheet (row ∷ []) ∙ ap (λ b. b || is_correlatable_in (row ∷ []) n) h

module _ (sheet : Sheet) (row : Row) (whole : IsWellFormed sheet) where
  abbrev before : List Row
  before = sheet.rows

  abbrev after : List Row
  after = with_last sheet.rows row

  -- each row passes after the edit that passed before it, and the row added
  all_added : (p q : Row → Bool) → ((r : Row) → p r ≡ true → q r ≡ true) → list_all p before ≡ true → q row ≡ true → list_all q after ≡ true
  all_added p q more h own = list_all-append q before (row ∷ []) ∙ and_from (list_all q before) (q row && true) (all_more p q more before h) (and_from (q row) true own refl)

  last_passes : (p : Row → Bool) → list_all p after ≡ true → p row ≡ true
  last_passes p h =
      let both = sym (list_all-append p before (row ∷ [])) ∙ h in
      (and_parts (p row) true (and_parts (list_all p before) (p row && true) both).1).0

  add_keeps : nat_le row_limit (length before) ≡ false → is_among before (name_of row) ≡ false → are_known after row ≡ true → are_known before row ≡ true
      → are_correlatable after row ≡ true → are_apart after row ≡ true → IsWellFormed (added sheet row)
  add_keeps full new known earlier correlatable apart = record {
    limit = omega (arith, leb-false row_limit (length before) full, length-append before (row ∷ []));
    once = once_added before row whole.once new;
    known = all_added (are_known before) (are_known after) (known_added before row) whole.known known;
    earlier = earlier_append [] before row ∙ and_from (are_earlier [] before) (are_known before row) whole.earlier earlier;
    correlatable = all_added (are_correlatable before) (are_correlatable after) (correlatable_more before after (correlatable_grows before row)) whole.correlatable correlatable;
    apart = apart_after_added row before whole.apart apart;
  }

  pub add_accepted : (edited : Sheet) → verdict_add sheet row ≡ Ok edited → IsAccepted edited (added sheet row)
  add_accepted edited h =
      let full = cond_ok (nat_le row_limit (length before)) RowsFull (cond (has_row sheet (name_of row)) (Err (Duplicate (name_of row))) (unless_uses_fail (added sheet row) row (Ok (added sheet row)))) edited h in
      let new = cond_ok (has_row sheet (name_of row)) (Duplicate (name_of row)) (unless_uses_fail (added sheet row) row (Ok (added sheet row))) edited full.1 in
      let free = uses_ok (added sheet row) row (Ok (added sheet row)) edited new.1 in
      let same : added sheet row ≡ edited = ok_same free.rest in
      let stands : are_known before row ≡ true = ap (λ rows. are_known rows row) (sym (before_added before row new.0)) ∙ free.earlier in
      record {
        is = sym same;
        well_formed = subst IsWellFormed same (add_keeps full.0 new.0 free.known stands free.correlatable free.apart);
      }

  pub add_complete : IsWellFormed (added sheet row) → verdict_add sheet row ≡ Ok (added sheet row)
  add_complete edited =
      let full : nat_le row_limit (length before) ≡ false = lt-leb row_limit (length before) (omega (arith, edited.limit, length-append before (row ∷ []))) in
      let new : is_among before (name_of row) ≡ false = new_from_once before row edited.once in
      let stands : are_known before row ≡ true = (and_parts (are_earlier [] before) (are_known before row) (sym (earlier_append [] before row) ∙ edited.earlier)).1 in
      let free = ok_uses (added sheet row) row (Ok (added sheet row)) (last_passes (are_known after) edited.known)
      (ap (λ rows. are_known rows row) (before_added before row new) ∙ stands) (last_passes (are_correlatable after) edited.correlatable)
      (last_passes (are_apart after) edited.apart) in
      λ j. cond (full j) (Err RowsFull) (cond (new j) (Err (Duplicate (name_of row))) (free j))
