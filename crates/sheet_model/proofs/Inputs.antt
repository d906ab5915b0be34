-- The inputs of a sheet that stands are inputs of its model.
use Rattle.std.specs.Prelude.{◌≡◌, ℕ, ◌+◌, Bool, true, false, ◌||◌, if◌then◌else◌, is_some, bytes_eq, List, [], ◌∷◌, ◌++◌, Option, Some, None, refl}
use Rattle.std.specs.List.{list_any, flat_map}
use Rattle.std.specs.Option.{option_or}
use Rattle.std.proofs.Common.{sym, ◌∙◌, ap, subst}
use Rattle.std.proofs.lemmas.Bool.{true≢false}
use Rattle.std.proofs.lemmas.List.{append_assoc, append-nil}
use Rattle.exact_fraction.specs.Number.{ℚ}
use Rattle.exact_law.specs.Model.{Input as ModelInput, body_of as model_body_of}
use Rattle.decimal18.specs.Bound.{value_of}
use Rattle.type_a.specs.Tables.{Table}
use Rattle.type_a.specs.Statistics.{exact_mean}
use Rattle.sheet_rows.specs.Rows.{Row, Given, Readings, Joint, Correlation, Formula, Tolerance, Sheet, gives, gives_input}
use Rattle.sheet_rows.specs.Sheets.{is_input_in, has_input, IsStanding}
use Rattle.sheet_rows.proofs.Quantities.{quantity_any, input_gives}
use Rattle.value_cache.specs.Quantities.{Body, Input, Function, Column, body_of, is_there}
use Rattle.value_cache.specs.Evaluable.{AreInOrder}
use Rattle.value_cache.specs.Model.{model_of}
use Rattle.value_cache.proofs.Evaluable.{is_there-added}
use Rattle.value_cache.proofs.Sound.{model_bodies, model-body_of}
use Rattle.sheet_rows.proofs.Tests.{same_name}
use Rattle.sheet_model.specs.Quantities.{column_quantities, row_quantities, quantities}
use Rattle.sheet_model.specs.Walks.{Quantities}
use Rattle.sheet_model.proofs.Names.{row_names, there-named, there-is_quantity}
use Rattle.sheet_model.proofs.Walking.{quantities_in_order}

-- ---- quantities that are inputs, by an estimate or by readings
abbrev IsInputBody : Option (Body (List ℕ)) → Type 0
IsInputBody None = ⊥
IsInputBody (Some (Input estimate)) = Unit {0}
IsInputBody (Some (Function f key)) = ⊥
IsInputBody (Some (Column t column)) = Unit {0}

abbrev AreInputs : Quantities → Type 0
AreInputs [] = Unit {0}
AreInputs (q ∷ qs) = IsInputBody (Some q.body) × AreInputs qs

input_among : (qs : Quantities) (n : List ℕ) → AreInputs qs → is_there bytes_eq qs n ≡ true → IsInputBody (body_of bytes_eq qs n)
input_among [] n h e = absurd (true≢false (sym e))
input_among (q ∷ qs) n h e = by (bytes_eq q.key n) e (input_among qs n h.1) where
  by : (b : Bool) → is_some (if b then Some q.body else body_of bytes_eq qs n) ≡ true → (is_there bytes_eq qs n ≡ true → IsInputBody (body_of bytes_eq qs n))
      → IsInputBody (if b then Some q.body else body_of bytes_eq qs n)
  by true f rest = h.0
  by false f rest = rest f

column_inputs : (name : List ℕ) (table : Table) (place : ℕ) (columns : List (List ℕ)) → AreInputs (column_quantities name table place columns)
column_inputs name table place [] = tt
column_inputs name table place (column ∷ columns) = (tt, column_inputs name table (place + 1) columns)

there_by_row : (row : Row) (n : List ℕ) → is_there bytes_eq (row_quantities row) n ≡ gives row n
there_by_row row n = there-named (row_quantities row) n ∙ ap (list_any (bytes_eq n)) (row_names row)

row_inputs : (row : Row) (n : List ℕ) → gives_input row n ≡ true → AreInputs (row_quantities row)
row_inputs (Given name estimate shape dof) n e = (tt, tt)
row_inputs (Readings name table) n e = (tt, tt)
row_inputs (Joint name columns table) n e = column_inputs name table 0 columns
row_inputs (Correlation name first second coefficient) n e = tt
row_inputs (Formula name f) n e = absurd (true≢false (sym e))
row_inputs (Tolerance name rule) n e = tt

inputs_there : (rows : List Row) (n : List ℕ) → is_input_in rows n ≡ true → is_there bytes_eq (flat_map row_quantities rows) n ≡ true
inputs_there rows n e = there-is_quantity rows n ∙ quantity_any rows n ∙ any rows e where
  any : (rows : List Row) → list_any (λ row. gives_input row n) rows ≡ true → list_any (λ row. gives row n) rows ≡ true
  any [] e = e
  any (row ∷ rows) e = by (gives_input row n) refl e (any rows) where
    or_true : (b : Bool) → (b || true) ≡ true
    or_true true = refl
    or_true false = refl

    by : (b : Bool) → gives_input row n ≡ b → (b || list_any (λ row. gives_input row n) rows) ≡ true
        → (list_any (λ row. gives_input row n) rows ≡ true → list_any (λ row. gives row n) rows ≡ true)
        → (gives row n || list_any (λ row. gives row n) rows) ≡ true
    by true f h rest = ap (λ b. b || list_any (λ row. gives row n) rows) (input_gives row n f)
    by false f h rest = ap (λ b. gives row n || b) (rest h) ∙ or_true (gives row n)

-- ---- each is found under its name
-- what is among the quantities before is none of those that follow
pub none_again : (done qs : Quantities) (n : List ℕ) → AreInOrder bytes_eq done qs → is_there bytes_eq done n ≡ true → is_there bytes_eq qs n ≡ false
none_again done [] n h e = refl
none_again done (q ∷ qs) n h e =
    by (bytes_eq q.key n) refl (none_again (done ++ q ∷ []) qs n h.2 (is_there-added bytes_eq done q n ∙ ap (λ b. if b then true else bytes_eq q.key n) e)) where
      by : (b : Bool) → bytes_eq q.key n ≡ b → is_there bytes_eq qs n ≡ false → is_some (if b then Some q.body else body_of bytes_eq qs n) ≡ false
      by true f rest = absurd (true≢false (sym e ∙ ap (is_there bytes_eq done) (sym (same_name q.key n f)) ∙ h.0))
      by false f rest = rest

order-split : (done qs more : Quantities) → AreInOrder bytes_eq done (qs ++ more) → AreInOrder bytes_eq (done ++ qs) more
order-split done [] more h = subst (λ d. AreInOrder bytes_eq d more) (sym (append-nil done)) h
order-split done (q ∷ qs) more h =
    subst (λ d. AreInOrder bytes_eq d more) (append_assoc done (q ∷ []) qs) (order-split (done ++ q ∷ []) qs more h.2)

body_of-append : (qs more : Quantities) (n : List ℕ) → body_of bytes_eq (qs ++ more) n ≡ option_or (body_of bytes_eq qs n) (body_of bytes_eq more n)
body_of-append [] more n = refl
body_of-append (q ∷ qs) more n = by (bytes_eq q.key n) (body_of-append qs more n) where
  by : (b : Bool) → body_of bytes_eq (qs ++ more) n ≡ option_or (body_of bytes_eq qs n) (body_of bytes_eq more n)
      → (if b then Some q.body else body_of bytes_eq (qs ++ more) n) ≡ option_or (if b then Some q.body else body_of bytes_eq qs n) (body_of bytes_eq more n)
  by true rest = refl
  by false rest = rest

there_behind : (done qs : Quantities) (n : List ℕ) → is_there bytes_eq qs n ≡ true → is_there bytes_eq (done ++ qs) n ≡ true
there_behind done qs n e = ap is_some (body_of-append done qs n) ∙ at (body_of bytes_eq done n) where
  at : (o : Option (Body (List ℕ))) → is_some (option_or o (body_of bytes_eq qs n)) ≡ true
  at None = e
  at (Some body) = refl

input_found : (done : Quantities) (rows : List Row) (n : List ℕ) → AreInOrder bytes_eq done (flat_map row_quantities rows) → is_input_in rows n ≡ true
    → IsInputBody (body_of bytes_eq (flat_map row_quantities rows) n)
input_found done [] n h e = absurd (true≢false (sym e))
input_found done (row ∷ rows) n h e =
    subst IsInputBody (sym (body_of-append (row_quantities row) (flat_map row_quantities rows) n))
    (by (gives_input row n) refl (is_there bytes_eq (row_quantities row) n) refl e (input_found (done ++ row_quantities row) rows n later)) where
      later : AreInOrder bytes_eq (done ++ row_quantities row) (flat_map row_quantities rows)
      later = order-split done (row_quantities row) (flat_map row_quantities rows) h

      first : (o more : Option (Body (List ℕ))) → IsInputBody o → IsInputBody (option_or o more)
      first None more k = absurd k
      first (Some body) more k = k

      second : (o more : Option (Body (List ℕ))) → is_some o ≡ false → IsInputBody more → IsInputBody (option_or o more)
      second None more f k = k
      second (Some body) more f k = absurd (true≢false f)

      by : (b : Bool) → gives_input row n ≡ b → (there : Bool) → is_there bytes_eq (row_quantities row) n ≡ there
          → (b || is_input_in rows n) ≡ true
          → (is_input_in rows n ≡ true → IsInputBody (body_of bytes_eq (flat_map row_quantities rows) n))
          → IsInputBody (option_or (body_of bytes_eq (row_quantities row) n) (body_of bytes_eq (flat_map row_quantities rows) n))
      by true f there g t rest =
          first (body_of bytes_eq (row_quantities row) n) (body_of bytes_eq (flat_map row_quantities rows) n)
          (input_among (row_quantities row) n (row_inputs row n f) (there_by_row row n ∙ input_gives row n f))
      by false f false g t rest = second (body_of bytes_eq (row_quantities row) n) (body_of bytes_eq (flat_map row_quantities rows) n) g (rest t)
      by false f true g t rest =
          absurd (true≢false (sym (inputs_there rows n t)
          ∙ none_again (done ++ row_quantities row) (flat_map row_quantities rows) n later (there_behind done (row_quantities row) n g)))

-- ---- in the model
pub record IsModelInput (qs : Quantities) (n : List ℕ) : Type 0 where
  pub estimate : ℚ
  pub is : model_body_of bytes_eq (model_of qs) n ≡ Some (ModelInput estimate)

model_input : (qs : Quantities) (n : List ℕ) (o : Option (Body (List ℕ))) → body_of bytes_eq qs n ≡ o → IsInputBody o → IsModelInput qs n
model_input qs n None e h = absurd h
model_input qs n (Some (Input estimate)) e h =
    record { estimate = value_of estimate; is = model-body_of bytes_eq qs n ∙ ap model_bodies e }
model_input qs n (Some (Function f key)) e h = absurd h
model_input qs n (Some (Column t column)) e h =
    record { estimate = exact_mean t column; is = model-body_of bytes_eq qs n ∙ ap model_bodies e }

pub sheet_input : (sheet : Sheet) → IsStanding sheet → (n : List ℕ) → has_input sheet n ≡ true → IsModelInput (quantities sheet) n
sheet_input sheet h n e =
    model_input (quantities sheet) n (body_of bytes_eq (quantities sheet) n) refl (input_found [] sheet.rows n (quantities_in_order sheet h) e)

pub input_there : (sheet : Sheet) (n : List ℕ) → has_input sheet n ≡ true → is_there bytes_eq (quantities sheet) n ≡ true
input_there sheet n e = inputs_there sheet.rows n e
