-- The entries of the code's map as the rows of a sheet.
use Rattle.std.proofs.Common.{◌≡◌, ℕ, zero, suc, ◌+◌, Bool, cond, not, nat_lt, List, [], ◌∷◌, ◌++◌, map, take, drop, None, Some, refl, sym, ap, ◌∙◌}
use Rattle.std.specs.Prelude.{position, bytes_eq, remove, slice_get, slice_set as set}
use Rattle.std.specs.List.{position_or_len, AllZip}
use Rattle.std.specs.Map.{keys_of, values_of}
use Rattle.std.proofs.lemmas.List.{length-map, map-append, take-map, drop-map}
use Rattle.std.proofs.lemmas.Option.{slice_get-map}
use Rattle.std.specs.Option.{option_map}
use Rattle.indexmap.specs.IndexMap.{insert_entry, set_value_at}
use Rattle.indexmap.proofs.MapLemmas.{Missing-position, insert_entry-absent}
use Rattle.sheet_rows.specs.Rows.{Row, Sheet, name_of}
use Rattle.sheet_rows.specs.Sheets.{is_named}
use Rattle.sheet_edits.specs.Verdicts.{rows_with}
use Rattle.sheet_edits.proofs.Positions.{some_same, IsFirstAt}
use Rattle.sheet_edits.proofs.Verdicts.{rows_set}

-- the sheet of these rows
abbrev pub of_rows : List Row → Sheet
of_rows rows = record { rows = rows }

pol-map : {A B : Type 0} (p : B → Bool) (f : A → B) (xs : List A) → position_or_len p (map f xs) ≡ position_or_len (λ x. p (f x)) xs
pol-map p f [] = refl
pol-map p f (x ∷ xs) = ap (λ n. cond (not (p (f x))) (1 + n) 0) (pol-map p f xs)

position-map : {A B : Type 0} (p : B → Bool) (f : A → B) (xs : List A) → position p (map f xs) ≡ position (λ x. p (f x)) xs
position-map p f xs = λ j. cond (nat_lt (pol-map p f xs j) (length-map xs f j)) (Some (pol-map p f xs j)) None

names_set : (rows : List Row) (i : ℕ) (r : Row) → option_map name_of (slice_get rows i) ≡ Some (name_of r) → map name_of rows ≡ map name_of (set rows i r)
names_set [] i r h = refl
names_set (x ∷ xs) zero r h = ap (λ n. n ∷ map name_of xs) (some_same h)
names_set (x ∷ xs) (suc i) r h = ap (λ ns. name_of x ∷ ns) (names_set xs i r h)

-- `v` is the row of a value
module _ {V : Type 0} (v : V → Row) where
  abbrev rows_in : List (List ℕ × V) → List Row
  rows_in es = map (λ e. v e.1) es

  pub place : (es : List (List ℕ × V)) (n : List ℕ) → keys_of es ≡ map name_of (map (λ e. v e.1) es)
      → position (bytes_eq n) (keys_of es) ≡ position (is_named n) (map (λ e. v e.1) es)
  place es n h = ap (position (bytes_eq n)) h ∙ position-map (bytes_eq n) name_of (rows_in es)

  pub values : (es : List (List ℕ × V)) → map v (values_of es) ≡ map (λ e. v e.1) es
  values [] = refl
  values (e ∷ es) = ap (λ rs. v e.1 ∷ rs) (values es)

  -- a row of a new name is put last
  put : (es : List (List ℕ × V)) (k : List ℕ) (x : V) → position (bytes_eq k) (keys_of es) ≡ None
      → insert_entry bytes_eq es k x ≡ es ++ (k, x) ∷ []
  put es k x h = insert_entry-absent bytes_eq k x es (Missing-position (bytes_eq k) es h).absent

  pub put_rows : (es : List (List ℕ × V)) (k : List ℕ) (x : V) → position (bytes_eq k) (keys_of es) ≡ None
      → map (λ e. v e.1) (insert_entry bytes_eq es k x) ≡ map (λ e. v e.1) es ++ v x ∷ []
  put_rows es k x h = ap rows_in (put es k x h) ∙ map-append (λ e. v e.1) es ((k, x) ∷ [])

  pub put_names : (es : List (List ℕ × V)) (k : List ℕ) (x : V) → position (bytes_eq k) (keys_of es) ≡ None
      → k ≡ name_of (v x) → keys_of es ≡ map name_of (map (λ e. v e.1) es)
      → keys_of (insert_entry bytes_eq es k x) ≡ map name_of (map (λ e. v e.1) (insert_entry bytes_eq es k x))
  put_names es k x h n same =
      ap keys_of (put es k x h) ∙ map-append (λ e. e.0) es ((k, x) ∷ [])
      ∙ (λ j. same j ++ n j ∷ [])
      ∙ sym (ap (map name_of) (put_rows es k x h) ∙ map-append name_of (rows_in es) (v x ∷ []))

  keys_set_value_at : (es : List (List ℕ × V)) (i : ℕ) (x : V) → keys_of (set_value_at es i x) ≡ keys_of es
  keys_set_value_at [] i x = refl
  keys_set_value_at (e ∷ es) zero x = refl
  keys_set_value_at (e ∷ es) (suc i) x = ap (λ ns. e.0 ∷ ns) (keys_set_value_at es i x)

  -- the row at a place is another one
  exchanged : (es : List (List ℕ × V)) (i : ℕ) (x : V) → map (λ e. v e.1) (set_value_at es i x) ≡ set (map (λ e. v e.1) es) i (v x)
  exchanged [] i x = refl
  exchanged (e ∷ es) zero x = refl
  exchanged (e ∷ es) (suc i) x = ap (λ rs. v e.1 ∷ rs) (exchanged es i x)

  pub exchanged_names : (es : List (List ℕ × V)) (i : ℕ) (x : V)
      → option_map name_of (slice_get (map (λ e. v e.1) es) i) ≡ Some (name_of (v x)) → keys_of es ≡ map name_of (map (λ e. v e.1) es)
      → keys_of (set_value_at es i x) ≡ map name_of (map (λ e. v e.1) (set_value_at es i x))
  exchanged_names es i x h same =
      keys_set_value_at es i x ∙ same ∙ names_set (rows_in es) i (v x) h ∙ sym (ap (map name_of) (exchanged es i x))

  pub exchanged_rows : (es : List (List ℕ × V)) (i : ℕ) (x : V) (r : Row) (rows : List Row) → v x ≡ r → map (λ e. v e.1) es ≡ rows
      → IsFirstAt (is_named (name_of r)) rows i → map (λ e. v e.1) (set_value_at es i x) ≡ rows_with r rows
  exchanged_rows es i x r rows e h first = exchanged es i x ∙ (λ j. set (h j) i (e j)) ∙ rows_set rows r i first

  -- the row at a place is taken out
  pub taken : {B : Type 0} (f : List ℕ × V → B) (es : List (List ℕ × V)) (i : ℕ) → map f (remove es i) ≡ remove (map f es) i
  taken f es i =
      map-append f (take i es) (drop (suc i) es) ∙ (λ j. sym (take-map f i es) j ++ sym (drop-map f (suc i) es) j)

  names_taken : (rows : List Row) (i : ℕ) → map name_of (remove rows i) ≡ remove (map name_of rows) i
  names_taken rows i =
      map-append name_of (take i rows) (drop (suc i) rows) ∙ (λ j. sym (take-map name_of i rows) j ++ sym (drop-map name_of (suc i) rows) j)

  pub taken_names : (es : List (List ℕ × V)) (i : ℕ) → keys_of es ≡ map name_of (map (λ e. v e.1) es)
      → keys_of (remove es i) ≡ map name_of (map (λ e. v e.1) (remove es i))
  taken_names es i same =
      taken (λ e. e.0) es i ∙ ap (λ ns. remove ns i) same
      ∙ sym (ap (map name_of) (taken (λ e. v e.1) es i) ∙ names_taken (rows_in es) i)

  -- the row at a place
  pub value_at : (es : List (List ℕ × V)) (i : ℕ) (x : V) → slice_get (values_of es) i ≡ Some x → slice_get (map (λ e. v e.1) es) i ≡ Some (v x)
  value_at es i x h = ap (λ rs. slice_get rs i) (sym (values es)) ∙ slice_get-map v (values_of es) i ∙ ap (option_map v) h

  pub entry_at : (es : List (List ℕ × V)) (i : ℕ) (e : List ℕ × V) → slice_get es i ≡ Some e → slice_get (map (λ f. v f.1) es) i ≡ Some (v e.1)
  entry_at es i e h = slice_get-map (λ f. v f.1) es i ∙ ap (option_map (λ f. v f.1)) h

  -- copies of the entries have the same rows
  module _ (C : List ℕ → List ℕ → Type 0) (D : V → V → Type 0) (sameC : (x y : List ℕ) → C x y → y ≡ x) (sameD : (x y : V) → D x y → v y ≡ v x) where
    pub copied_rows : (es fs : List (List ℕ × V)) → AllZip (λ p q. C p.0 q.0 × D p.1 q.1) es fs → map (λ e. v e.1) fs ≡ map (λ e. v e.1) es
    copied_rows [] [] h = refl
    copied_rows (e ∷ es) [] h = absurd h
    copied_rows [] (f ∷ fs) h = absurd h
    copied_rows (e ∷ es) (f ∷ fs) h = λ j. sameD e.1 f.1 h.0.1 j ∷ copied_rows es fs h.1 j

    copied_keys : (es fs : List (List ℕ × V)) → AllZip (λ p q. C p.0 q.0 × D p.1 q.1) es fs → keys_of fs ≡ keys_of es
    copied_keys [] [] h = refl
    copied_keys (e ∷ es) [] h = absurd h
    copied_keys [] (f ∷ fs) h = absurd h
    copied_keys (e ∷ es) (f ∷ fs) h = λ j. sameC e.0 f.0 h.0.0 j ∷ copied_keys es fs h.1 j

    pub copied_names : (es fs : List (List ℕ × V)) → AllZip (λ p q. C p.0 q.0 × D p.1 q.1) es fs
        → keys_of es ≡ map name_of (map (λ e. v e.1) es) → keys_of fs ≡ map name_of (map (λ e. v e.1) fs)
    copied_names es fs h same = copied_keys es fs h ∙ same ∙ sym (ap (map name_of) (copied_rows es fs h))
