-- The quantities of the columns of a table that is taken, and the walk over them.
use Rattle.std.specs.Prelude.{◌≡◌, ℕ, ◌+◌, ◌<◌, ◌≤◌, List, [], ◌∷◌, ◌++◌, drop, length, None, refl}
use Rattle.std.proofs.Common.{arith, sym, ◌∙◌, ap, subst, get_or}
use Rattle.std.proofs.lemmas.List.{append_assoc, append-nil, drop_more, drop_all}
use Rattle.type_a.specs.Tables.{Table, width_of, refusal}
use Rattle.sheet_rows.specs.Rows.{column_name}
use Rattle.value_cache.specs.Quantities.{Column, Quantity}
use Rattle.value_cache.specs.Model.{AllHaveExponents}
use Rattle.value_cache.specs.Slots.{body_view, IsPlaceable}
use Rattle.value_cache.specs.declared.body.Body.{Body as CodeBody}
use Rattle.sheet_model.specs.Quantities.{column_quantity, column_quantities}
use Rattle.sheet_model.specs.Walks.{Quantities, AllUseOnly}
use Rattle.sheet_model.specs.Numbering.{AreKept, AreNext, StandsFor, AreWalked}
use Rattle.sheet_model.specs.declared.numbering.Numbered.{Numbered}

-- ---- bodies
pub known_columns : (qs : Quantities) (name : List ℕ) (table : Table) (place : ℕ) (columns : List (List ℕ)) → refusal table ≡ None
    → place + length columns ≤ width_of table → AllUseOnly qs (column_quantities name table place columns)
known_columns qs name table place [] taken within = tt
known_columns qs name table place (column ∷ columns) taken within = (
  record { known = refl; column = record { taken = taken; there = omega (arith, within) } },
  known_columns (qs ++ column_quantity name table (place, column) ∷ []) name table (place + 1) columns taken (omega (arith, within)),
)

pub columns_have_exponents : (name : List ℕ) (table : Table) (place : ℕ) (columns : List (List ℕ)) (qs : Quantities) → AllHaveExponents qs
    → AllHaveExponents (column_quantities name table place columns ++ qs)
columns_have_exponents name table place [] qs h = h
columns_have_exponents name table place (column ∷ columns) qs h = (tt, columns_have_exponents name table (place + 1) columns qs h)

-- ---- quantities that follow others
pub next_first : (all before qs : Quantities) (q : Quantity (List ℕ)) → AreNext all before (q ∷ qs) → AreNext all before (q ∷ [])
next_first all before qs q next = record { rest = qs ++ next.rest; whole = next.whole; order = (next.order.0, next.order.1, tt) }

pub next_rest : (all before qs : Quantities) (q : Quantity (List ℕ)) → AreNext all before (q ∷ qs) → AreNext all (before ++ q ∷ []) qs
next_rest all before qs q next =
    record { rest = next.rest; whole = append_assoc before (q ∷ []) (qs ++ next.rest) ∙ next.whole; order = next.order.2 }

-- ---- the walk over the columns
pub column_stands : (number : List ℕ → ℕ) (name : List ℕ) (table : Table) (place : ℕ) (column : List ℕ) (body : CodeBody)
    → body_view body ≡ Column table place → IsPlaceable body
    → StandsFor number (column_quantity name table (place, column)) (column_name name column) body
column_stands number name table place column body view placeable = record { key = refl; renamed = view; placeable = placeable }

module _ (all before : Quantities) (name : List ℕ) (table : Table) (columns : List (List ℕ)) where
  pub columns_begin : (kept : Numbered) → AreKept all before kept → AreNext all before (column_quantities name table 0 columns)
      → AreWalked all before name table columns 0 kept
  columns_begin kept are next = record {
    done = [];
    are = subst (λ qs. AreKept all qs kept) (sym (append-nil before)) are;
    next = subst (λ qs. AreNext all qs (column_quantities name table 0 columns)) (sym (append-nil before)) next;
    whole = refl;
  }

  left_columns : (place : ℕ) (column : List ℕ) → place < length columns → column ≡ get_or columns place column
      → column_quantities name table place (drop place columns)
      ≡ column_quantity name table (place, column) ∷ column_quantities name table (place + 1) (drop (place + 1) columns)
  left_columns place column there is =
      ap (column_quantities name table place) (drop_more columns place column there ∙ ap (λ first. first ∷ drop (place + 1) columns) (sym is))

  -- what the walk has left begins with the next column
  pub column_next : (place : ℕ) (column : List ℕ) (kept : Numbered) (walked : AreWalked all before name table columns place kept)
      → place < length columns → column ≡ get_or columns place column
      → AreNext all (before ++ walked.done)
      (column_quantity name table (place, column) ∷ column_quantities name table (place + 1) (drop (place + 1) columns))
  column_next place column kept walked there is = subst (AreNext all (before ++ walked.done)) (left_columns place column there is) walked.next

  pub columns_on : (place : ℕ) (column : List ℕ) (old new : Numbered) → AreWalked all before name table columns place old
      → place < length columns → column ≡ get_or columns place column
      → ((done : Quantities) → AreKept all done old → AreNext all done (column_quantity name table (place, column) ∷ [])
      → AreKept all (done ++ column_quantity name table (place, column) ∷ []) new)
      → AreWalked all before name table columns (place + 1) new
  columns_on place column old new walked there is add =
      let q = column_quantity name table (place, column) in
      let rest = column_quantities name table (place + 1) (drop (place + 1) columns) in
      let next = column_next place column old walked there is in
      record {
        done = walked.done ++ q ∷ [];
        are =
            subst (λ qs. AreKept all qs new) (append_assoc before walked.done (q ∷ []))
            (add (before ++ walked.done) walked.are (next_first all (before ++ walked.done) rest q next));
        next =
            subst (λ qs. AreNext all qs rest) (append_assoc before walked.done (q ∷ [])) (next_rest all (before ++ walked.done) rest q next);
        whole =
            append_assoc walked.done (q ∷ []) rest
            ∙ subst (λ left. walked.done ++ left ≡ column_quantities name table 0 columns) (left_columns place column there is) walked.whole;
      }

  pub columns_end : (place : ℕ) (kept : Numbered) → AreWalked all before name table columns place kept → length columns ≤ place
      → AreKept all (before ++ column_quantities name table 0 columns) kept
  columns_end place kept walked past =
      let none : column_quantities name table place (drop place columns) ≡ [] = ap (column_quantities name table place) (drop_all place columns past) in
      subst (λ qs. AreKept all (before ++ qs) kept)
      (sym (append-nil walked.done) ∙ ap (λ left. walked.done ++ left) (sym none) ∙ walked.whole) walked.are
