-- What the rows of a sheet say of its inputs, with one row more.
use Rattle.std.specs.Prelude.{◌≡◌, ℕ, Bool, true, false, ◌||◌, if◌then◌else◌, List, [], ◌∷◌, ◌++◌, Option, Some, Result, Ok, Err, OnOk, bytes_eq, refl}
use Rattle.std.specs.List.{list_any}
use Rattle.std.specs.Map.{lookup}
use Rattle.std.specs.Option.{unwrap_or}
use Rattle.std.proofs.Common.{sym, ◌∙◌, ap, ap₂, subst}
use Rattle.std.proofs.Math.Bool.{or-false}
use Rattle.std.proofs.lemmas.Bool.{or_parts}
use Rattle.std.proofs.lemmas.List.{append_assoc, append-nil}
use Rattle.std.proofs.lemmas.List.Folds.{list_any-append}
use Rattle.decimal18.specs.Bound.{Bound}
use Rattle.type_b.specs.declared.shape.Shape.{Shape}
use Rattle.type_b.specs.declared.shape.Dof.{Dof}
use Rattle.type_b.specs.declared.shape.Shape.TheVariants.{Exact}
use Rattle.sheet_rows.specs.Rows.{Row, Given, Readings, Joint, Correlation, Formula, Tolerance, name_of, correlates}
use Rattle.sheet_rows.specs.Sheets.{is_named, is_among, are_named_once}
use Rattle.sheet_rows.proofs.Tests.{same_name, other_way, both_ways_same}
use Rattle.sheet_rows.proofs.Named.{once_head, once_tail}
use Rattle.sheet_model.specs.Groups.{is_correlated, shape_of_row, shape_in}
use Rattle.sheet_model.specs.Statements.{AreStated, shape_after, StatesMore, IsRead}
use Rattle.sheet_model.specs.declared.statements.Statements.{Statements}

-- ---- names that stand once
pub once_before : (before : List Row) (row : Row) (rest : List Row) → are_named_once (before ++ row ∷ rest) ≡ true → is_among before (name_of row) ≡ false
once_before [] row rest h = refl
once_before (r ∷ rs) row rest h =
    let new = sym (list_any-append (is_named (name_of r)) rs (row ∷ rest)) ∙ once_head r (rs ++ row ∷ rest) h in
    let behind = or_parts (is_among rs (name_of r)) (is_named (name_of r) row || is_among rest (name_of r)) new in
    let other = or_parts (is_named (name_of r) row) (is_among rest (name_of r)) behind.1 in
    ap₂ (λ a b. a || b) (other_way (name_of r) (name_of row) other.0) (once_before rs row rest (once_tail r (rs ++ row ∷ rest) h))

-- ---- shapes
-- no row of the name states one
none_stated : (rows : List Row) (n : List ℕ) → is_among rows n ≡ false → shape_in rows n ≡ Exact
none_stated [] n h = refl
none_stated (r ∷ rs) n h =
    let both = or_parts (is_named n r) (is_among rs n) h in
    ap (λ t. if t then shape_of_row r else shape_in rs n) both.0 ∙ none_stated rs n both.1

last_by : (r row : Row) (rs : List Row) (n : List ℕ) (t : Bool) → is_named n r ≡ t → is_named (name_of row) r ≡ false
    → shape_in (rs ++ row ∷ []) n ≡ (if is_named n row then shape_of_row row else shape_in rs n)
    → (if t then shape_of_row r else shape_in (rs ++ row ∷ []) n)
    ≡ (if is_named n row then shape_of_row row else (if t then shape_of_row r else shape_in rs n))
last_by r row rs n true e other rest =
    let apart : is_named n row ≡ false = ap (λ m. bytes_eq m (name_of row)) (same_name n (name_of r) e) ∙ other_way (name_of row) (name_of r) other in
    sym (ap (λ b. if b then shape_of_row row else shape_of_row r) apart)
last_by r row rs n false e other rest = rest

shape_in_last : (rows : List Row) (row : Row) (n : List ℕ) → is_among rows (name_of row) ≡ false
    → shape_in (rows ++ row ∷ []) n ≡ (if is_named n row then shape_of_row row else shape_in rows n)
shape_in_last [] row n new = refl
shape_in_last (r ∷ rs) row n new =
    let both = or_parts (is_named (name_of row) r) (is_among rs (name_of row)) new in
    last_by r row rs n (is_named n r) refl both.0 (shape_in_last rs row n both.1)

-- a row that states none
unstated : (rows : List Row) (row : Row) (n : List ℕ) (t : Bool) → is_named n row ≡ t → is_among rows (name_of row) ≡ false
    → shape_in rows n ≡ (if t then Exact else shape_in rows n)
unstated rows row n true e new = none_stated rows n (ap (is_among rows) (same_name n (name_of row) e) ∙ new)
unstated rows row n false e new = refl

given_by : (t : Bool) (shape other : Shape) (found : Option Shape) → unwrap_or found Exact ≡ other
    → unwrap_or (if t then Some shape else found) Exact ≡ (if t then shape else other)
given_by true shape other found e = refl
given_by false shape other found e = e

shape_found : (rows : List Row) (row : Row) (n : List ℕ) (found : Option Shape) → is_among rows (name_of row) ≡ false
    → unwrap_or found Exact ≡ shape_in rows n
    → unwrap_or (shape_after row n found) Exact ≡ (if is_named n row then shape_of_row row else shape_in rows n)
shape_found rows (Given name estimate shape dof) n found new e = given_by (bytes_eq n name) shape (shape_in rows n) found e
shape_found rows (Readings name table) n found new e = e ∙ unstated rows (Readings name table) n (bytes_eq n name) refl new
shape_found rows (Joint name columns table) n found new e = e ∙ unstated rows (Joint name columns table) n (bytes_eq n name) refl new
shape_found rows (Correlation name first second r) n found new e =
    e ∙ unstated rows (Correlation name first second r) n (bytes_eq n name) refl new
shape_found rows (Formula name f) n found new e = e ∙ unstated rows (Formula name f) n (bytes_eq n name) refl new
shape_found rows (Tolerance name rule) n found new e = e ∙ unstated rows (Tolerance name rule) n (bytes_eq n name) refl new

-- ---- the walk
stated_more : (before : List Row) (row : Row) (old new : Statements) → is_among before (name_of row) ≡ false → AreStated before old
    → StatesMore old row new → AreStated (before ++ row ∷ []) new
stated_more before row old new apart stated more = record {
  shapes = λ n. ap (λ o. unwrap_or o Exact) (more.shapes n)
      ∙ shape_found before row n (lookup (bytes_eq n) old.shapes.entries) apart (stated.shapes n) ∙ sym (shape_in_last before row n apart);
  correlated = λ n. more.correlated n ∙ ap (λ b. b || correlates row n) (stated.correlated n)
      ∙ sym (list_any-append (λ other. correlates other n) before (row ∷ []) ∙ ap (λ b. is_correlated before n || b) (or-false (correlates row n)));
}

pub reading_begins : (rows : List Row) (found : Statements) → found.shapes.entries ≡ [] → found.correlated.keys ≡ [] → IsRead rows rows found
reading_begins rows found e f = record {
  before = [];
  whole = refl;
  stated = record {
    shapes = λ n. ap (λ es. unwrap_or (lookup (bytes_eq n) es) Exact) e;
    correlated = λ n. ap (list_any (bytes_eq n)) f;
  };
}

pub read_on : (rows rest : List Row) (row : Row) (old new : Statements) → are_named_once rows ≡ true → IsRead rows (row ∷ rest) old
    → StatesMore old row new → IsRead rows rest new
read_on rows rest row old new once read more = record {
  before = read.before ++ row ∷ [];
  whole = append_assoc read.before (row ∷ []) rest ∙ read.whole;
  stated =
      stated_more read.before row old new
      (once_before read.before row rest (subst (λ rs. are_named_once rs ≡ true) (sym read.whole) once)) read.stated more;
}

pub reading_ends : (rows : List Row) (found : Statements) → IsRead rows [] found → AreStated rows found
reading_ends rows found read = subst (λ rs. AreStated rs found) (sym (append-nil read.before) ∙ read.whole) read.stated

-- ---- what a row says
three : (a f s : Bool) → (s || (f || a)) ≡ (a || (f || (s || false)))
three true true true = refl
three true true false = refl
three true false true = refl
three true false false = refl
three false true true = refl
three false true false = refl
three false false true = refl
three false false false = refl

pub given_more : {A E : Type 0} (r : Result A E) (old new : Statements) (name : List ℕ) (estimate : Bound) (shape : Shape) (dof : Dof)
    → OnOk r ((n : List ℕ) → lookup (bytes_eq n) new.shapes.entries ≡ (if bytes_eq name n then Some shape else lookup (bytes_eq n) old.shapes.entries))
    → new.correlated ≡ old.correlated → OnOk r (StatesMore old (Given name estimate shape dof) new)
given_more (Ok x) old new name estimate shape dof h e = record {
  shapes = λ n. h n ∙ ap (λ b. if b then Some shape else lookup (bytes_eq n) old.shapes.entries) (both_ways_same name n);
  correlated = λ n. ap (λ s. list_any (bytes_eq n) s.keys) e ∙ sym (or-false (list_any (bytes_eq n) old.correlated.keys));
}
given_more (Err x) old new name estimate shape dof h e = tt

pub pair_more : {A E : Type 0} (r : Result A E) (old new : Statements) (name first second : List ℕ) (coefficient : Bound)
    → OnOk r ((n : List ℕ) → list_any (bytes_eq n) new.correlated.keys ≡ (bytes_eq second n || (bytes_eq first n || list_any (bytes_eq n) old.correlated.keys)))
    → new.shapes ≡ old.shapes → OnOk r (StatesMore old (Correlation name first second coefficient) new)
pair_more (Ok x) old new name first second coefficient h e = record {
  shapes = λ n. ap (λ s. lookup (bytes_eq n) s.entries) e;
  correlated = λ n. h n
      ∙ ap₂ (λ f s. s || (f || list_any (bytes_eq n) old.correlated.keys)) (both_ways_same first n) (both_ways_same second n)
      ∙ three (list_any (bytes_eq n) old.correlated.keys) (bytes_eq n first) (bytes_eq n second);
}
pair_more (Err x) old new name first second coefficient h e = tt
