-- What is known of a table that is taken.
use Rattle.std.specs.Prelude.{◌≡◌, ℕ, zero, suc, ◌+◌, ◌<◌, ◌≤◌, Bool, true, false, ◌||◌, cond, nat_lt, List, [], ◌∷◌, length, get_or, Option, Some, None, pos, refl}
use Rattle.std.specs.Global.{Vec}
use Rattle.std.specs.List.{position_from, list_any}
use Rattle.std.proofs.Common.{sym, ◌∙◌, ap, subst, arith}
use Rattle.std.proofs.Math.Nat.{le-max_left, le-max_right, le_trans}
use Rattle.std.proofs.lemmas.Bool.{true≢false}
use Rattle.std.proofs.lemmas.Bool.Decides.{nat_tests}
use Rattle.std.proofs.lemmas.List.{get_or-map, get_or_default}
use Rattle.decimal18.specs.Bound.{Bound, scaled}
use Rattle.type_a.specs.declared.readings.ReadingsFault.{ReadingsFault}
use Rattle.type_a.specs.declared.readings.ReadingsFault.TheVariants.{Shape, Wide}
use Rattle.type_a.specs.Tables.{Record, Table, table_of, width_of, reading_at, places_in, finest, is_misshapen, is_wide, has_wide, first_of, refusal}

-- ---- no test applies
none_first : (fault : ℕ → ReadingsFault) (o : Option ℕ) (later : Option ReadingsFault) → first_of fault o later ≡ None → (o ≡ None) × (later ≡ None)
none_first fault None later h = (refl, h)
none_first fault (Some place) later h = cc h

none_before : (b : Bool) (fault : ReadingsFault) (later : Option ReadingsFault) → cond b (Some fault) later ≡ None → (b ≡ false) × (later ≡ None)
none_before true fault later h = cc h
none_before false fault later h = (refl, h)

pub record Passes (t : Table) : Type 0 where
  pub shape : position_from (is_misshapen (width_of t)) 1 t ≡ None
  pub some : nat_lt (length t) 2 ≡ false
  pub few : nat_lt 1000 (length t) ≡ false
  pub narrow : position_from (has_wide (finest t)) 1 t ≡ None

passes : (t : Table) → refusal t ≡ None → Passes t
unfolding refusal
passes t h =
    let shape = none_first Shape (position_from (is_misshapen (width_of t)) 1 t) _ h in
    let some = none_before (nat_lt (length t) 2) _ _ shape.1 in
    let few = none_before (nat_lt 1000 (length t)) _ _ some.1 in
    let narrow = none_first Wide (position_from (has_wide (finest t)) 1 t) None few.1 in
    record { shape = shape.0; some = some.0; few = few.0; narrow = narrow.0 }

-- ---- for each record, and for each reading
none_passes : {X : Type 0} (p : X → Bool) (i : ℕ) (xs : List X) → position_from p i xs ≡ None → (k : ℕ) (d : X) → k < length xs → p (get_or xs k d) ≡ false
none_passes p i [] h k d l = absurd (omega (arith, l))
none_passes p i (x ∷ xs) h k d l = by (p x) refl k l (λ g j m. none_passes p (i + 1) xs g j d m) where
  by : (b : Bool) → p x ≡ b → (k : ℕ) → k < length (x ∷ xs) → (position_from p (i + 1) xs ≡ None → (j : ℕ) → j < length xs → p (get_or xs j d) ≡ false)
      → p (get_or (x ∷ xs) k d) ≡ false
  by true e k l more = absurd (let g : cond (p x) (Some i) (position_from p (i + 1) xs) ≡ None = h in cc (rw e at g))
  by false e zero l more = e
  by false e (suc k) l more = let g : cond (p x) (Some i) (position_from p (i + 1) xs) ≡ None = h in more (rw e at g) k (omega (arith, l))

none_any : {X : Type 0} (p : X → Bool) (xs : List X) → list_any p xs ≡ false → (k : ℕ) (d : X) → k < length xs → p (get_or xs k d) ≡ false
none_any p [] h k d l = absurd (omega (arith, l))
none_any p (x ∷ xs) h k d l = by (p x) refl k l (λ g j m. none_any p xs g j d m) where
  by : (b : Bool) → p x ≡ b → (k : ℕ) → k < length (x ∷ xs) → (list_any p xs ≡ false → (j : ℕ) → j < length xs → p (get_or xs j d) ≡ false)
      → p (get_or (x ∷ xs) k d) ≡ false
  by true e k l more = absurd (let g : (p x || list_any p xs) ≡ false = h in true≢false (rw e at g))
  by false e zero l more = e
  by false e (suc k) l more = let g : (p x || list_any p xs) ≡ false = h in more (rw e at g) k (omega (arith, l))

same_length : (width : ℕ) (r : Record) → is_misshapen width r ≡ false → length r ≡ width
same_length width r h = grind (arith, nat_tests)

pub at_least_two : (t : Table) → refusal t ≡ None → 2 ≤ length t
at_least_two t h = let some = (passes t h).some in grind (arith, nat_tests)

pub at_most_thousand : (t : Table) → refusal t ≡ None → length t ≤ 1000
at_most_thousand t h = let few = (passes t h).few in grind (arith, nat_tests)

pub length_of_record : (t : Table) → refusal t ≡ None → (row : ℕ) → row < length t → length (get_or t row []) ≡ width_of t
length_of_record t h row l =
    same_length (width_of t) (get_or t row []) (none_passes (is_misshapen (width_of t)) 1 t (passes t h).shape row [] l)

pub narrow_at : (t : Table) → refusal t ≡ None → (row column : ℕ) → row < length t → column < width_of t → is_wide (finest t) (reading_at t row column) ≡ false
narrow_at t h row column l k =
    none_any (is_wide (finest t)) (get_or t row []) (none_passes (has_wide (finest t)) 1 t (passes t h).narrow row [] l) column (scaled (pos 0) 0)
    (subst (λ n. column < n) (sym (length_of_record t h row l)) k)

-- ---- no reading has more places than the finest
places_of : (r : Record) (column : ℕ) → column < length r → (get_or r column (scaled (pos 0) 0)).places ≤ places_in r
places_of [] column l = absurd (omega (arith, l))
places_of (b ∷ bs) zero l = le-max_left b.places (places_in bs)
places_of (b ∷ bs) (suc k) l = le_trans (places_of bs k (omega (arith, l))) (le-max_right b.places (places_in bs))

finest_of : (t : Table) (row : ℕ) → row < length t → places_in (get_or t row []) ≤ finest t
finest_of [] row l = absurd (omega (arith, l))
finest_of (r ∷ rs) zero l = le-max_left (places_in r) (finest rs)
finest_of (r ∷ rs) (suc k) l = le_trans (finest_of rs k (omega (arith, l))) (le-max_right (places_in r) (finest rs))

pub places_at : (t : Table) → refusal t ≡ None → (row column : ℕ) → row < length t → column < width_of t → (reading_at t row column).places ≤ finest t
places_at t h row column l k =
    le_trans (places_of (get_or t row []) column (subst (λ n. column < n) (sym (length_of_record t h row l)) k)) (finest_of t row l)

-- ---- the records of the code's rows
pub record_at : (rows : List (Vec Bound)) (row : ℕ) (d : Vec Bound) → row < length rows → get_or (table_of rows) row [] ≡ (get_or rows row d).items
record_at rows row d l = get_or-map (λ r. r.items) rows row d [] l

pub length_table : (rows : List (Vec Bound)) → length (table_of rows) ≡ length rows
length_table [] = refl
length_table (r ∷ rs) = ap suc (length_table rs)

-- the record v that stands at a row
items_of : (rows : List (Vec Bound)) (row : ℕ) (v : Vec Bound) → row < length rows → v ≡ get_or rows row v → v.items ≡ get_or (table_of rows) row []
items_of rows row v l e = ap (λ r. r.items) e ∙ sym (record_at rows row v l)

row_in : (rows : List (Vec Bound)) (row : ℕ) → row < length rows → row < length (table_of rows)
row_in rows row l = subst (λ n. row < n) (sym (length_table rows)) l

pub column_in : (rows : List (Vec Bound)) (row column : ℕ) (v : Vec Bound) → refusal (table_of rows) ≡ None → row < length rows → v ≡ get_or rows row v
    → column < width_of (table_of rows) → column < length v.items
column_in rows row column v h l e k =
    subst (λ n. column < n) (sym (ap length (items_of rows row v l e) ∙ length_of_record (table_of rows) h row (row_in rows row l))) k

pub reading_is : (rows : List (Vec Bound)) (row column : ℕ) (v : Vec Bound) (d : Bound) → refusal (table_of rows) ≡ None → row < length rows → v ≡ get_or rows row v
    → column < width_of (table_of rows) → d ≡ get_or v.items column d → d ≡ reading_at (table_of rows) row column
reading_is rows row column v d h l e k f =
    f ∙ get_or_default v.items column d (scaled (pos 0) 0) (column_in rows row column v h l e k)
    ∙ ap (λ r. get_or r column (scaled (pos 0) 0)) (items_of rows row v l e)

pub reading_narrow : (rows : List (Vec Bound)) (row column : ℕ) (d : Bound) → refusal (table_of rows) ≡ None → row < length rows
    → column < width_of (table_of rows) → d ≡ reading_at (table_of rows) row column → is_wide (finest (table_of rows)) d ≡ false
reading_narrow rows row column d h l k e =
    ap (is_wide (finest (table_of rows))) e ∙ narrow_at (table_of rows) h row column (row_in rows row l) k

pub below_thousand : (rows : List (Vec Bound)) (i : ℕ) → refusal (table_of rows) ≡ None → i < length rows → i < 1000
below_thousand rows i h l = let most = at_most_thousand (table_of rows) h in let same = length_table rows in omega (arith, most, same, l)
