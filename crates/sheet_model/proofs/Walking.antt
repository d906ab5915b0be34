-- In a sheet that stands each row has new names and uses quantities of the rows before it.
use Rattle.std.specs.Prelude.{◌≡◌, ℕ, suc, ◌+◌, ◌<◌, ◌≤◌, Bool, true, false, ◌||◌, not, bytes_eq, List, [], ◌∷◌, ◌++◌, map, drop, length, refl}
use Rattle.std.specs.List.{AllZip, list_all, flat_map}
use Rattle.std.proofs.Common.{arith, sym, ◌∙◌, ap, ap₂, subst, get_or, drop-cons, add-one}
use Rattle.std.proofs.lemmas.Grind.{flat_map-append}
use Rattle.std.proofs.lemmas.List.{drop_all, append_assoc, append-nil, flat_map_more}
use Rattle.std.proofs.lemmas.Bool.{and_parts, or_parts, and_from, not-true}
use Rattle.formula_ast.specs.Trees.{uses}
use Rattle.formula_ast.specs.Printing.{print}
use Rattle.formula_ast.proofs.Exponents.{read_exponents}
use Rattle.sheet_rows.specs.Rows.{Row, Given, Readings, Joint, Correlation, Formula, Tolerance, Sheet, name_of}
use Rattle.sheet_rows.specs.Sheets.{is_among, is_quantity_in, are_named_once, are_known, are_earlier, IsStanding}
use Rattle.sheet_rows.specs.Regular.{IsRegular, AreRegular}
use Rattle.sheet_rows.proofs.Tests.{other_way, all_none, list_all_agree}
use Rattle.sheet_rows.proofs.RegularRows.{regular_added}
use Rattle.sheet_rows.proofs.Quantities.{added_has}
use Rattle.dep_graph.specs.Nodes.{ids_of}
use Rattle.value_cache.specs.Quantities.{is_there}
use Rattle.value_cache.specs.Model.{AllHaveExponents}
use Rattle.value_cache.specs.Evaluable.{IsEvaluable, AreInOrder}
use Rattle.value_cache.specs.Rules.{numbered, IsGraphOf}
use Rattle.value_cache.specs.Slots.{bodies_of}
use Rattle.value_cache.proofs.Evaluable.{evaluable_empty, evaluable-added}
use Rattle.value_cache.specs.Renaming.{IsRenamed}
use Rattle.sheet_model.specs.Quantities.{row_quantities, quantities}
use Rattle.sheet_model.specs.Walks.{Quantities, AreFresh, AllUseOnly, Follow}
use Rattle.sheet_model.specs.Numbering.{number_among, AreKept, AreNext, CanTake, Takes, IsWalked}
use Rattle.sheet_model.specs.declared.numbering.Numbered.{Numbered}
use Rattle.sheet_model.proofs.Names.{there-is_quantity}
use Rattle.sheet_model.proofs.Fresh.{fresh_by}
use Rattle.sheet_model.proofs.Columns.{known_columns, columns_have_exponents}
use Rattle.sheet_model.proofs.Formulas.{same_names, uses_names}
use Rattle.sheet_model.proofs.Kept.{order-append}

-- ---- rows
pub exponents_of_rows : (rows : List Row) → AreRegular rows → AllHaveExponents (flat_map row_quantities rows)
exponents_of_rows [] h = tt
exponents_of_rows (Given name estimate shape dof ∷ rows) h = (tt, exponents_of_rows rows h.1)
exponents_of_rows (Readings name table ∷ rows) h = (tt, exponents_of_rows rows h.1)
exponents_of_rows (Joint name columns table ∷ rows) h =
    columns_have_exponents name table 0 columns (flat_map row_quantities rows) (exponents_of_rows rows h.1)
exponents_of_rows (Correlation name first second coefficient ∷ rows) h = exponents_of_rows rows h.1
exponents_of_rows (Formula name f ∷ rows) h = (read_exponents (print f) f h.0.1, exponents_of_rows rows h.1)
exponents_of_rows (Tolerance name rule ∷ rows) h = exponents_of_rows rows h.1

-- a regular row whose names are known uses quantities that are there, and its readings are taken
known_by : (before : List Row) (row : Row) → IsRegular row → are_known before row ≡ true → AllUseOnly (flat_map row_quantities before) (row_quantities row)
known_by before (Given name estimate shape dof) regular e = (record { known = refl; column = tt }, tt)
known_by before (Readings name table) regular e =
    (record { known = refl; column = record { taken = regular.3; there = omega (arith, regular.2) } }, tt)
known_by before (Joint name columns table) regular e =
    known_columns (flat_map row_quantities before) name table 0 columns regular.4 (omega (arith, regular.3))
known_by before (Correlation name first second coefficient) regular e = tt
known_by before (Tolerance name rule) regular e = tt
known_by before (Formula name f) regular e = (
  uses_names (flat_map row_quantities before) f
      (all_none (is_there bytes_eq (flat_map row_quantities before)) (uses f)
      (list_all_agree (is_there bytes_eq (flat_map row_quantities before)) (is_quantity_in before) (there-is_quantity before) (uses f) ∙ e)),
  tt,
)

-- ---- the rows of a sheet follow each other
-- no row of these has the name of one of the rows before
abbrev are_apart : List Row → List Row → Bool
are_apart before rest = list_all (λ row. not (is_among before (name_of row))) rest

apart_added : (before : List Row) (row : Row) (rest : List Row) → are_apart before rest ≡ true → is_among rest (name_of row) ≡ false
    → are_apart (before ++ row ∷ []) rest ≡ true
apart_added before row [] e f = refl
apart_added before row (next ∷ rest) e f =
    and_from (not (is_among (before ++ row ∷ []) (name_of next))) (are_apart (before ++ row ∷ []) rest)
    (ap not (added_has before row (name_of next)
    ∙ ap₂ (λ a b. a || b) (not-true (is_among before (name_of next)) (and_parts (not (is_among before (name_of next))) (are_apart before rest) e).0)
    (other_way (name_of row) (name_of next) (or_parts (bytes_eq (name_of row) (name_of next)) (is_among rest (name_of row)) f).0)))
    (apart_added before row rest (and_parts (not (is_among before (name_of next))) (are_apart before rest) e).1 (or_parts (bytes_eq (name_of row) (name_of next)) (is_among rest (name_of row)) f).1)

follow : (before rest : List Row) → are_apart before rest ≡ true → are_named_once rest ≡ true → are_earlier before rest ≡ true
    → AreRegular before → AreRegular rest → Follow before rest
follow before [] apart once earlier all regular = tt
follow before (row ∷ rest) apart once earlier all regular = (
  record {
    fresh =
        fresh_by before row all regular.0
        (not-true (is_among before (name_of row)) (and_parts (not (is_among before (name_of row))) (are_apart before rest) apart).0);
    known = known_by before row regular.0 (and_parts (are_known before row) (are_earlier (before ++ row ∷ []) rest) earlier).0;
    regular = regular.0;
  },
  follow (before ++ row ∷ []) rest
      (apart_added before row rest (and_parts (not (is_among before (name_of row))) (are_apart before rest) apart).1
      (not-true (is_among rest (name_of row)) (and_parts (not (is_among rest (name_of row))) (are_named_once rest) once).0))
      (and_parts (not (is_among rest (name_of row))) (are_named_once rest) once).1
      (and_parts (are_known before row) (are_earlier (before ++ row ∷ []) rest) earlier).1
      (regular_added before row all regular.0) regular.1,
)

none_before : (rows : List Row) → are_apart [] rows ≡ true
none_before [] = refl
none_before (row ∷ rows) = none_before rows

pub rows_follow : (sheet : Sheet) → IsStanding sheet → Follow [] sheet.rows
rows_follow sheet h = follow [] sheet.rows (none_before sheet.rows) h.well_formed.once h.well_formed.earlier tt h.regular

-- ---- the quantities of a sheet can be evaluated
more_evaluable : (qs more : Quantities) → IsEvaluable bytes_eq qs → AreFresh qs more → AllUseOnly qs more → IsEvaluable bytes_eq (qs ++ more)
more_evaluable qs [] h fresh uses = subst (IsEvaluable bytes_eq) (sym (append-nil qs)) h
more_evaluable qs (q ∷ more) h fresh uses =
    subst (IsEvaluable bytes_eq) (append_assoc qs (q ∷ []) more)
    (more_evaluable (qs ++ q ∷ []) more (evaluable-added bytes_eq same_names qs q h fresh.0 uses.0) fresh.1 uses.1)

rows_evaluable : (before rest : List Row) → IsEvaluable bytes_eq (flat_map row_quantities before) → Follow before rest
    → IsEvaluable bytes_eq (flat_map row_quantities (before ++ rest))
rows_evaluable before [] h next = subst (λ rows. IsEvaluable bytes_eq (flat_map row_quantities rows)) (sym (append-nil before)) h
rows_evaluable before (row ∷ rest) h next =
    subst (λ rows. IsEvaluable bytes_eq (flat_map row_quantities rows)) (append_assoc before (row ∷ []) rest)
    (rows_evaluable (before ++ row ∷ []) rest
    (subst (IsEvaluable bytes_eq) (flat_map_more row_quantities [] before row)
    (more_evaluable (flat_map row_quantities before) (row_quantities row) h next.0.fresh next.0.known)) next.1)

pub evaluable : (sheet : Sheet) → IsStanding sheet → IsEvaluable bytes_eq (quantities sheet)
evaluable sheet h = rows_evaluable [] sheet.rows (evaluable_empty bytes_eq) (rows_follow sheet h)

-- ---- each uses those before it alone
pub in_order : (before qs : Quantities) → AreFresh before qs → AllUseOnly before qs → AreInOrder bytes_eq before qs
in_order before [] fresh uses = tt
in_order before (q ∷ qs) fresh uses = (fresh.0, uses.0.known, in_order (before ++ q ∷ []) qs fresh.1 uses.1)

rows_in_order : (before rest : List Row) → Follow before rest → AreInOrder bytes_eq (flat_map row_quantities before) (flat_map row_quantities rest)
rows_in_order before [] next = tt
rows_in_order before (row ∷ rest) next =
    order-append bytes_eq (flat_map row_quantities before) (row_quantities row) (flat_map row_quantities rest)
    (in_order (flat_map row_quantities before) (row_quantities row) next.0.fresh next.0.known)
    (subst (λ qs. AreInOrder bytes_eq qs (flat_map row_quantities rest)) (sym (flat_map_more row_quantities [] before row))
    (rows_in_order (before ++ row ∷ []) rest next.1))

pub quantities_in_order : (sheet : Sheet) → IsStanding sheet → AreInOrder bytes_eq [] (quantities sheet)
quantities_in_order sheet h = rows_in_order [] sheet.rows (rows_follow sheet h)

-- ---- the walk
keeps_none : (all : Quantities) (kept : Numbered) → kept.names.keys ≡ [] → kept.graph ≡ [] → kept.cache ≡ [] → AreKept all [] kept
keeps_none all kept e f g = record {
  named = e;
  ids = ap ids_of f;
  graph =
      subst (λ nodes. IsGraphOf nodes (bodies_of kept.cache)) (sym f)
      (subst (λ slots. IsGraphOf [] (bodies_of slots)) (sym g) (record { placed = λ n. refl; uses = λ n m. refl; earlier = tt }));
  each =
      subst (λ nodes. AllZip (IsRenamed (number_among all)) [] (numbered (bodies_of kept.cache) (ids_of nodes))) (sym f) tt;
}

pub walk_begins : (sheet : Sheet) (rest : List Row) (kept : Numbered) → IsStanding sheet → rest ≡ sheet.rows
    → kept.names.keys ≡ [] → kept.graph ≡ [] → kept.cache ≡ [] → IsWalked sheet.rows rest kept
walk_begins sheet rest kept h e names graph cache = record {
  before = [];
  whole = e;
  are = keeps_none (quantities sheet) kept names graph cache;
  follow = subst (Follow []) (sym e) (rows_follow sheet h);
}

next_row : (rows rest : List Row) (row : Row) (kept : Numbered) (walked : IsWalked rows (row ∷ rest) kept)
    → AreNext (flat_map row_quantities rows) (flat_map row_quantities walked.before) (row_quantities row)
next_row rows rest row kept walked = record {
  rest = flat_map row_quantities rest;
  whole = sym (flat_map-append row_quantities walked.before (row ∷ rest)) ∙ ap (flat_map row_quantities) walked.whole;
  order = in_order (flat_map row_quantities walked.before) (row_quantities row) walked.follow.0.fresh walked.follow.0.known;
}

pub can_take : (rows rest : List Row) (row : Row) (kept : Numbered) → IsWalked rows (row ∷ rest) kept → CanTake kept (row_quantities row)
can_take rows rest row kept walked = record {
  all = flat_map row_quantities rows;
  before = flat_map row_quantities walked.before;
  are = walked.are;
  next = next_row rows rest row kept walked;
}

pub walked_on : (rows rest : List Row) (row : Row) (old new : Numbered) → IsWalked rows (row ∷ rest) old → Takes old (row_quantities row) new
    → IsWalked rows rest new
walked_on rows rest row old new walked takes = record {
  before = walked.before ++ row ∷ [];
  whole = append_assoc walked.before (row ∷ []) rest ∙ walked.whole;
  are =
      subst (λ qs. AreKept (flat_map row_quantities rows) qs new) (flat_map_more row_quantities [] walked.before row)
      (takes (flat_map row_quantities rows) (flat_map row_quantities walked.before) walked.are (next_row rows rest row old walked));
  follow = walked.follow.1;
}

pub walk_ends : (sheet : Sheet) (kept : Numbered) → IsWalked sheet.rows [] kept → AreKept (quantities sheet) (quantities sheet) kept
walk_ends sheet kept walked =
    subst (λ rows. AreKept (quantities sheet) (flat_map row_quantities rows) kept) (sym (append-nil walked.before) ∙ walked.whole) walked.are

-- ---- the rows that are left
pub left_next : {A B : Type 0} (f : A → B) (items : List A) (i : ℕ) (x : A) → x ≡ get_or items i x → i < length items
    → map f (drop i items) ≡ f x ∷ map f (drop (i + 1) items)
left_next f items i x e h =
    rw (add-one i, drop-cons items i x h) (ap (λ y. f y ∷ map f (drop (suc i) items)) (sym e))

pub none_left : {A B : Type 0} (f : A → B) (items : List A) (i : ℕ) → length items ≤ i → map f (drop i items) ≡ []
none_left f items i h = ap (map f) (drop_all i items h)
