-- Each command by which a sheet is built again is carried out, and the sheet comes of it.
use Rattle.std.specs.Prelude.{◌≡◌, ℕ, ◌≤◌, Bool, true, false, ◌&&◌, ◌||◌, not, if◌then◌else◌, List, [], ◌∷◌, ◌++◌, map, length, is_some, Ok, bytes_eq, refl}
use Rattle.std.specs.List.{list_any, list_all}
use Rattle.std.proofs.Common.{sym, ◌∙◌, ap, ap₂, subst, arith, length-append}
use Rattle.std.proofs.lemmas.List.{append_assoc, append-nil, length-map, map-append}
use Rattle.std.proofs.lemmas.List.Folds.{list_any-append, list_all-append}
use Rattle.std.proofs.lemmas.Bool.{true≢false, and_parts, or_parts, and_from, not-true}
use Rattle.sheet_rows.specs.Rows.{Row, Given, Readings, Joint, Correlation, Formula, Tolerance, Sheet, name_of, used_names, gives, correlated_names, correlates, is_correlatable}
use Rattle.sheet_rows.specs.Sheets.{IsWellFormed, row_limit, is_named, is_among, is_quantity_in, is_correlatable_in, repeated_name, are_correlatable, is_correlated_apart, are_apart, are_named_once, are_known, are_earlier}
use Rattle.sheet_edits.specs.Verdicts.{added, rows_with, set_row}
use Rattle.sheet_rows.proofs.Tests.{other_way, all_more, named_itself}
use Rattle.sheet_rows.proofs.Quantities.{quantity_any}
use Rattle.sheet_edits.proofs.Adding.{add_complete}
use Rattle.sheet_edits.proofs.Setting.{set_complete}
use Rattle.answers.specs.declared.reply.Reply.TheVariants.{Fine}
use Rattle.answers.specs.Commands.{Edit, Command, Change, Add, Set}
use Rattle.edit_session.specs.Replies.{reply_to}
use Rattle.edit_session.specs.Machine.{State, initial, accepted, verdict, edited, step}
use Rattle.edit_session.specs.Rebuild.{as_input, additions, users_set, rebuild, state_after, AreFine, IsBuiltBy}

-- the sheet of these rows
abbrev of_rows : List Row → Sheet
of_rows rows = record { rows = rows }

-- ---- names
is_among-append : (a b : List Row) (n : List ℕ) → is_among (a ++ b) n ≡ (is_among a n || is_among b n)
is_among-append a b n = list_any-append (is_named n) a b

-- of rows with different names the earlier ones have different names
once_earlier : (a b : List Row) → are_named_once (a ++ b) ≡ true → are_named_once a ≡ true
once_earlier [] b e = refl
once_earlier (row ∷ a) b e =
    let apart : is_among (a ++ b) (name_of row) ≡ false =
    not-true (is_among (a ++ b) (name_of row)) (and_parts (not (is_among (a ++ b) (name_of row))) (are_named_once (a ++ b)) e).0 in
    and_from (not (is_among a (name_of row))) (are_named_once a)
    (ap not (or_parts (is_among a (name_of row)) (is_among b (name_of row)) (sym (is_among-append a b (name_of row)) ∙ apart)).0)
    (once_earlier a b (and_parts (not (is_among (a ++ b) (name_of row))) (are_named_once (a ++ b)) e).1)

-- no earlier row has the name of a later one
once_new : (a : List Row) (row : Row) (b : List Row) → are_named_once (a ++ row ∷ b) ≡ true → is_among a (name_of row) ≡ false
once_new [] row b e = refl
once_new (first ∷ a) row b e =
    let apart : is_among (a ++ row ∷ b) (name_of first) ≡ false =
    not-true (is_among (a ++ row ∷ b) (name_of first)) (and_parts (not (is_among (a ++ row ∷ b) (name_of first))) (are_named_once (a ++ row ∷ b)) e).0 in
    let other : bytes_eq (name_of first) (name_of row) ≡ false =
    (or_parts (bytes_eq (name_of first) (name_of row)) (is_among b (name_of first)) (or_parts (is_among a (name_of first)) (is_among (row ∷ b) (name_of first)) (sym (is_among-append a (row ∷ b) (name_of first)) ∙ apart)).1).0 in
    ap₂ (λ x y. x || y) (other_way (name_of first) (name_of row) other)
    (once_new a row b (and_parts (not (is_among (a ++ row ∷ b) (name_of first))) (are_named_once (a ++ row ∷ b)) e).1)

or_true : (b : Bool) → (b || true) ≡ true
or_true true = refl
or_true false = refl

has_here : (a : List Row) (row : Row) (b : List Row) (n : List ℕ) → n ≡ name_of row → is_among (a ++ row ∷ b) n ≡ true
has_here [] row b n e = ap (λ t. t || is_among b n) (ap (bytes_eq n) (sym e) ∙ named_itself n)
has_here (first ∷ a) row b n e = ap (λ t. is_named n first || t) (has_here a row b n e) ∙ or_true (is_named n first)

set_here : (a : List Row) (old row : Row) (b : List Row) → name_of row ≡ name_of old → is_among a (name_of row) ≡ false
    → rows_with row (a ++ old ∷ b) ≡ a ++ row ∷ b
set_here [] old row b e new =
    ap (λ t. if t then row ∷ b else old ∷ rows_with row b) (ap (bytes_eq (name_of row)) (sym e) ∙ named_itself (name_of row))
set_here (first ∷ a) old row b e new =
    ap (λ t. if t then row ∷ (a ++ old ∷ b) else first ∷ rows_with row (a ++ old ∷ b)) (or_parts (is_named (name_of row) first) (is_among a (name_of row)) new).0
    ∙ ap (λ rows. first ∷ rows) (set_here a old row b e (or_parts (is_named (name_of row) first) (is_among a (name_of row)) new).1)

-- ---- rows as inputs
name-as_input : (row : Row) → name_of (as_input row) ≡ name_of row
name-as_input (Given name estimate shape dof) = refl
name-as_input (Readings name table) = refl
name-as_input (Joint name columns table) = refl
name-as_input (Correlation name first second coefficient) = refl
name-as_input (Formula name formula) = refl
name-as_input (Tolerance name rule) = refl

known-as_input : (sheet : List Row) (row : Row) → are_known sheet (as_input row) ≡ true
known-as_input sheet (Given name estimate shape dof) = refl
known-as_input sheet (Readings name table) = refl
known-as_input sheet (Joint name columns table) = refl
known-as_input sheet (Correlation name first second coefficient) = refl
known-as_input sheet (Formula name formula) = refl
known-as_input sheet (Tolerance name rule) = refl

correlatable-as_input : (sheet : List Row) (row : Row) → are_correlatable sheet (as_input row) ≡ true
correlatable-as_input sheet (Given name estimate shape dof) = refl
correlatable-as_input sheet (Readings name table) = refl
correlatable-as_input sheet (Joint name columns table) = refl
correlatable-as_input sheet (Correlation name first second coefficient) = refl
correlatable-as_input sheet (Formula name formula) = refl
correlatable-as_input sheet (Tolerance name rule) = refl

correlates-as_input : (row : Row) (n : List ℕ) → correlates (as_input row) n ≡ false
correlates-as_input (Given name estimate shape dof) n = refl
correlates-as_input (Readings name table) n = refl
correlates-as_input (Joint name columns table) n = refl
correlates-as_input (Correlation name first second coefficient) n = refl
correlates-as_input (Formula name formula) n = refl
correlates-as_input (Tolerance name rule) n = refl

apart-as_input : (sheet : List Row) (row : Row) → are_apart sheet (as_input row) ≡ true
apart-as_input sheet (Given name estimate shape dof) = refl
apart-as_input sheet (Readings name table) = refl
apart-as_input sheet (Joint name columns table) = refl
apart-as_input sheet (Correlation name first second coefficient) = refl
apart-as_input sheet (Formula name formula) = refl
apart-as_input sheet (Tolerance name rule) = refl

is_among-inputs : (rows : List Row) (n : List ℕ) → is_among (map as_input rows) n ≡ is_among rows n
is_among-inputs [] n = refl
is_among-inputs (row ∷ rows) n = ap₂ (λ a b. a || b) (ap (bytes_eq n) (name-as_input row)) (is_among-inputs rows n)

once-inputs : (rows : List Row) → are_named_once (map as_input rows) ≡ are_named_once rows
once-inputs [] = refl
once-inputs (row ∷ rows) =
    ap₂ (λ a b. not a && b) (ap (is_among (map as_input rows)) (name-as_input row) ∙ is_among-inputs rows (name_of row)) (once-inputs rows)

-- what holds of each row as an input holds of all
all-inputs : (p : Row → Bool) → ((row : Row) → p (as_input row) ≡ true) → (rows : List Row) → list_all p (map as_input rows) ≡ true
all-inputs p h [] = refl
all-inputs p h (row ∷ rows) = ap₂ (λ a b. a && b) (h row) (all-inputs p h rows)

earlier-inputs : (before rows : List Row) → are_earlier before (map as_input rows) ≡ true
earlier-inputs before [] = refl
earlier-inputs before (row ∷ rows) =
    ap₂ (λ a b. a && b) (known-as_input before row) (earlier-inputs (before ++ as_input row ∷ []) rows)

inputs_well_formed : (rows : List Row) → length rows ≤ row_limit → are_named_once rows ≡ true → IsWellFormed (of_rows (map as_input rows))
inputs_well_formed rows limit once = record {
  limit = subst (λ n. n ≤ row_limit) (sym (length-map rows as_input)) limit;
  once = once-inputs rows ∙ once;
  known = all-inputs (are_known (map as_input rows)) (known-as_input (map as_input rows)) rows;
  earlier = earlier-inputs [] rows;
  correlatable = all-inputs (are_correlatable (map as_input rows)) (correlatable-as_input (map as_input rows)) rows;
  apart = all-inputs (are_apart (map as_input rows)) (apart-as_input (map as_input rows)) rows;
}

-- ---- a sheet whose last rows stand as inputs
is_among-partly : (a b : List Row) (n : List ℕ) → is_among (a ++ map as_input b) n ≡ is_among (a ++ b) n
is_among-partly a b n =
    is_among-append a (map as_input b) n ∙ ap (λ t. is_among a n || t) (is_among-inputs b n) ∙ sym (is_among-append a b n)

once-partly : (a b : List Row) → are_named_once (a ++ map as_input b) ≡ are_named_once (a ++ b)
once-partly [] b = once-inputs b
once-partly (row ∷ a) b = ap₂ (λ x y. not x && y) (is_among-partly a b (name_of row)) (once-partly a b)

-- where a row passes, it passes as an input: then so does a list whose last rows stand as inputs
more : (p : Row → Bool) → ((row : Row) → p row ≡ true → p (as_input row) ≡ true) → (rows : List Row) → list_any p rows ≡ true
    → list_any p (map as_input rows) ≡ true
more p h [] e = e
more p h (row ∷ rows) e = by (p row) refl (more p h rows) e where
  by : (t : Bool) → p row ≡ t → (list_any p rows ≡ true → list_any p (map as_input rows) ≡ true) → (t || list_any p rows) ≡ true
      → list_any p (map as_input (row ∷ rows)) ≡ true
  by true k rest f = ap (λ b. b || list_any p (map as_input rows)) (h row k)
  by false k rest f = ap (λ b. p (as_input row) || b) (rest f) ∙ or_true (p (as_input row))

more-partly : (p : Row → Bool) → ((row : Row) → p row ≡ true → p (as_input row) ≡ true) → (a b : List Row) → list_any p (a ++ b) ≡ true
    → list_any p (a ++ map as_input b) ≡ true
more-partly p h [] b e = more p h b e
more-partly p h (row ∷ a) b e = by (p row) (more-partly p h a b) e where
  by : (t : Bool) → (list_any p (a ++ b) ≡ true → list_any p (a ++ map as_input b) ≡ true) → (t || list_any p (a ++ b)) ≡ true
      → (t || list_any p (a ++ map as_input b)) ≡ true
  by true rest f = refl
  by false rest f = rest f

given-as_input : (n : List ℕ) (row : Row) → gives row n ≡ true → gives (as_input row) n ≡ true
given-as_input n (Given name estimate shape dof) e = e
given-as_input n (Readings name table) e = e
given-as_input n (Joint name columns table) e = e
given-as_input n (Correlation name first second coefficient) e = absurd (true≢false (sym e))
given-as_input n (Formula name f) e = e
given-as_input n (Tolerance name rule) e = e

correlatable-as_input-too : (n : List ℕ) (row : Row) → (is_named n row && is_correlatable row) ≡ true
    → (is_named n (as_input row) && is_correlatable (as_input row)) ≡ true
correlatable-as_input-too n (Given name estimate shape dof) e = e
correlatable-as_input-too n (Readings name table) e = e
correlatable-as_input-too n (Joint name columns table) e = e
correlatable-as_input-too n (Correlation name first second coefficient) e = absurd (true≢false (sym (and_parts (bytes_eq n name) false e).1))
correlatable-as_input-too n (Formula name f) e = absurd (true≢false (sym (and_parts (bytes_eq n name) false e).1))
correlatable-as_input-too n (Tolerance name rule) e = e

-- no row as an input is a correlation
none_apart : (row : Row) (n : List ℕ) (rows : List Row) → is_correlated_apart (map as_input rows) row n ≡ false
none_apart row n [] = refl
none_apart row n (other ∷ rows) =
    ap₂ (λ a b. (not (is_named (name_of row) (as_input other)) && a) || b) (correlates-as_input other n) (none_apart row n rows)
    ∙ ap (λ b. b || false) (and_false (not (is_named (name_of row) (as_input other))))
  where
    and_false : (b : Bool) → (b && false) ≡ false
    and_false true = refl
    and_false false = refl

apart-partly : (a b : List Row) (row : Row) (n : List ℕ) → not (is_correlated_apart (a ++ b) row n) ≡ true
    → not (is_correlated_apart (a ++ map as_input b) row n) ≡ true
apart-partly a b row n e =
    let test : Row → Bool = λ other. not (is_named (name_of row) other) && correlates other n in
    let none : (list_any test a || list_any test b) ≡ false = sym (list_any-append test a b) ∙ not-true (is_correlated_apart (a ++ b) row n) e in
    ap not (list_any-append test a (map as_input b) ∙ ap₂ (λ x y. x || y) (or_parts (list_any test a) (list_any test b) none).0 (none_apart row n b))

earlier-partly : (before a b : List Row) → are_earlier before (a ++ b) ≡ true → are_earlier before (a ++ map as_input b) ≡ true
earlier-partly before [] b e = earlier-inputs before b
earlier-partly before (row ∷ a) b e =
    and_from (are_known before row) (are_earlier (before ++ row ∷ []) (a ++ map as_input b))
    (and_parts (are_known before row) (are_earlier (before ++ row ∷ []) (a ++ b)) e).0
    (earlier-partly (before ++ row ∷ []) a b (and_parts (are_known before row) (are_earlier (before ++ row ∷ []) (a ++ b)) e).1)

partly_well_formed : (a b : List Row) → IsWellFormed (of_rows (a ++ b)) → IsWellFormed (of_rows (a ++ map as_input b))
partly_well_formed a b h = record {
  limit = omega (arith, length-append a (map as_input b), length-append a b, length-map b as_input, h.limit);
  once = once-partly a b ∙ h.once;
  known = all_partly are_known known-as_input (λ row. all_more (is_quantity_in (a ++ b)) (is_quantity_in partly) still_quantity (used_names row)) h.known;
  earlier = earlier-partly [] a b h.earlier;
  correlatable = all_partly are_correlatable correlatable-as_input still_correlatable h.correlatable;
  apart =
      all_partly are_apart apart-as_input
      (λ row. all_more (λ n. not (is_correlated_apart (a ++ b) row n)) (λ n. not (is_correlated_apart partly row n)) (apart-partly a b row) (correlated_names row))
      h.apart;
} where
  partly : List Row
  partly = a ++ map as_input b

  still_quantity : (n : List ℕ) → is_quantity_in (a ++ b) n ≡ true → is_quantity_in partly n ≡ true
  still_quantity n e =
      quantity_any partly n ∙ more-partly (λ row. gives row n) (given-as_input n) a b (sym (quantity_any (a ++ b) n) ∙ e)

  still_correlatable : (row : Row) → are_correlatable (a ++ b) row ≡ true → are_correlatable partly row ≡ true
  still_correlatable row e =
      let parts = and_parts (list_all (is_correlatable_in (a ++ b)) (correlated_names row)) (not (is_some (repeated_name row))) e in
      and_from (list_all (is_correlatable_in partly) (correlated_names row)) (not (is_some (repeated_name row)))
      (all_more (is_correlatable_in (a ++ b)) (is_correlatable_in partly)
      (λ n. more-partly (λ other. is_named n other && is_correlatable other) (correlatable-as_input-too n) a b) (correlated_names row) parts.0)
      parts.1

  -- what holds of each row among all, and of each row as an input, holds of the rows of which the last stand as inputs
  all_partly : (p : List Row → Row → Bool) → ((sheet : List Row) (row : Row) → p sheet (as_input row) ≡ true)
      → ((row : Row) → p (a ++ b) row ≡ true → p partly row ≡ true) → list_all (p (a ++ b)) (a ++ b) ≡ true → list_all (p partly) partly ≡ true
  all_partly p inputs still e =
      list_all-append (p partly) a (map as_input b)
      ∙ and_from (list_all (p partly) a) (list_all (p partly) (map as_input b))
      (all_more (p (a ++ b)) (p partly) still a
      (and_parts (list_all (p (a ++ b)) a) (list_all (p (a ++ b)) b) (sym (list_all-append (p (a ++ b)) a b) ∙ e)).0)
      (all-inputs (p partly) (inputs partly) b)

-- ---- runs
-- from each state with the one sheet the commands are carried out, and lead to the other sheet
abbrev Lead : List Command → Sheet → Sheet → Type 0
Lead commands sheet last = (state : State) → state.present ≡ sheet → AreFine state commands × ((state_after state commands).present ≡ last)

lead_edit : (edit : Edit) (commands : List Command) (sheet next last : Sheet) → verdict sheet edit ≡ Ok next → Lead commands next last
    → Lead (Change edit ∷ commands) sheet last
lead_edit edit commands sheet next last v lead state e =
    let stepped : step state (Change edit) ≡ (accepted state next, Fine) = ap (edited state) (ap (λ present. verdict present edit) e ∙ v) in
    let rest = lead (step state (Change edit)).0 (ap (λ s. s.0.present) stepped) in
    ((ap (λ s. s.1) stepped, rest.0), rest.1)

additions_lead : (done rest : List Row) (commands : List Command) (last : Sheet) → length (done ++ rest) ≤ row_limit
    → are_named_once (done ++ rest) ≡ true → Lead commands (of_rows (map as_input (done ++ rest))) last
    → Lead (additions rest ++ commands) (of_rows (map as_input done)) last
additions_lead done [] commands last limit once lead = subst (λ rows. Lead commands (of_rows (map as_input rows)) last) (append-nil done) lead
additions_lead done (row ∷ rest) commands last limit once lead =
    let longer : (done ++ row ∷ []) ++ rest ≡ done ++ row ∷ rest = append_assoc done (row ∷ []) rest in
    let put : of_rows (map as_input (done ++ row ∷ [])) ≡ added (of_rows (map as_input done)) (as_input row) =
    ap of_rows (map-append as_input done (row ∷ [])) in
    let limit' : length ((done ++ row ∷ []) ++ rest) ≤ row_limit = subst (λ rows. length rows ≤ row_limit) (sym longer) limit in
    let once' : are_named_once ((done ++ row ∷ []) ++ rest) ≡ true = ap are_named_once longer ∙ once in
    let before : IsWellFormed (of_rows (map as_input done)) =
    inputs_well_formed done (omega (arith, length-append done (row ∷ rest), limit)) (once_earlier done (row ∷ rest) once) in
    let after : IsWellFormed (of_rows (map as_input (done ++ row ∷ []))) =
    inputs_well_formed (done ++ row ∷ []) (omega (arith, length-append (done ++ row ∷ []) rest, limit')) (once_earlier (done ++ row ∷ []) rest once') in
    lead_edit (Add (as_input row)) (additions rest ++ commands) (of_rows (map as_input done)) (of_rows (map as_input (done ++ row ∷ []))) last
    (add_complete (of_rows (map as_input done)) (as_input row) before (subst IsWellFormed put after) ∙ ap Ok (sym put))
    (additions_lead (done ++ row ∷ []) rest commands last limit' once'
    (subst (λ rows. Lead commands (of_rows (map as_input rows)) last) (sym longer) lead))

-- a row that stands already
stays : (done rest : List Row) (row : Row)
    → Lead (users_set rest) (of_rows ((done ++ row ∷ []) ++ map as_input rest)) (of_rows ((done ++ row ∷ []) ++ rest))
    → Lead (users_set rest) (of_rows (done ++ row ∷ map as_input rest)) (of_rows (done ++ row ∷ rest))
stays done rest row lead =
    subst (λ rows. Lead (users_set rest) (of_rows rows) (of_rows (done ++ row ∷ rest))) (append_assoc done (row ∷ []) (map as_input rest))
    (subst (λ rows. Lead (users_set rest) (of_rows ((done ++ row ∷ []) ++ map as_input rest)) (of_rows rows)) (append_assoc done (row ∷ []) rest) lead)

-- a row that is set in the place of an input
is_set : (done rest : List Row) (row : Row) → IsWellFormed (of_rows (done ++ row ∷ rest))
    → Lead (users_set rest) (of_rows ((done ++ row ∷ []) ++ map as_input rest)) (of_rows ((done ++ row ∷ []) ++ rest))
    → Lead (Change (Set row) ∷ users_set rest) (of_rows (done ++ as_input row ∷ map as_input rest)) (of_rows (done ++ row ∷ rest))
is_set done rest row h lead =
    let sheet : Sheet = of_rows (done ++ as_input row ∷ map as_input rest) in
    let set : set_row row sheet ≡ of_rows (done ++ row ∷ map as_input rest) =
    ap of_rows (set_here done (as_input row) row (map as_input rest) (sym (name-as_input row)) (once_new done row rest h.once)) in
    let after : IsWellFormed (of_rows (done ++ row ∷ map as_input rest)) =
    subst (λ rows. IsWellFormed (of_rows rows)) (append_assoc done (row ∷ []) (map as_input rest))
    (partly_well_formed (done ++ row ∷ []) rest (subst (λ rows. IsWellFormed (of_rows rows)) (sym (append_assoc done (row ∷ []) rest)) h)) in
    lead_edit (Set row) (users_set rest) sheet (of_rows (done ++ row ∷ map as_input rest)) (of_rows (done ++ row ∷ rest))
    (set_complete sheet row (partly_well_formed done (row ∷ rest) h)
    (has_here done (as_input row) (map as_input rest) (name_of row) (sym (name-as_input row))) (subst IsWellFormed (sym set) after) ∙ ap Ok set)
    (stays done rest row lead)

users_lead : (done rest : List Row) → IsWellFormed (of_rows (done ++ rest))
    → Lead (users_set rest) (of_rows (done ++ map as_input rest)) (of_rows (done ++ rest))
users_lead done [] h = λ state e. (tt, e)
users_lead done (row ∷ rest) h =
    by row (users_lead (done ++ row ∷ []) rest (subst (λ rows. IsWellFormed (of_rows rows)) (sym (append_assoc done (row ∷ []) rest)) h)) h
  where
    by : (row : Row) → Lead (users_set rest) (of_rows ((done ++ row ∷ []) ++ map as_input rest)) (of_rows ((done ++ row ∷ []) ++ rest))
        → IsWellFormed (of_rows (done ++ row ∷ rest))
        → Lead (users_set (row ∷ rest)) (of_rows (done ++ map as_input (row ∷ rest))) (of_rows (done ++ row ∷ rest))
    by (Given name estimate shape dof) lead g = stays done rest (Given name estimate shape dof) lead
    by (Readings name table) lead g = stays done rest (Readings name table) lead
    by (Joint name columns table) lead g = stays done rest (Joint name columns table) lead
    by (Correlation name first second coefficient) lead g = is_set done rest (Correlation name first second coefficient) g lead
    by (Formula name f) lead g = is_set done rest (Formula name f) g lead
    by (Tolerance name rule) lead g = stays done rest (Tolerance name rule) lead

pub rebuilt : (sheet : Sheet) → IsWellFormed sheet → IsBuiltBy (rebuild sheet) sheet
rebuilt sheet h =
    let run = additions_lead [] sheet.rows (users_set sheet.rows) sheet h.limit h.once (users_lead [] sheet.rows h) initial refl in
    record { fine = run.0; built = run.1; reply = λ query. ap (λ present. reply_to present query) run.1 }
