-- What lines give are regular rows.
use Rattle.std.proofs.Common.{◌≡◌, ℕ, suc, ◌+◌, ◌≤◌, ◌==◌, map, ap, Bool, true, false, ◌&&◌, ◌||◌, cond, List, [], ◌∷◌, length, drop, refl, subst, arith, Option, None, Some, Result, Ok, Err, IfOk}
use Rattle.std.specs.Prelude.{codes, bytes_eq, option_map, is_some, IfSome, if◌then◌else◌}
use Rattle.std.proofs.lemmas.Bool.{eqb-true, and_parts}
use Rattle.std.proofs.lemmas.Bool.Decides.{nat_tests}
use Rattle.decimal18.specs.Bound.{Bound, canonical, IsCanonical, IsDecimal}
use Rattle.decimal18.specs.Literal.{Literal, literal_of, exact_of, is_bound, as_bound, read, parsed}
use Rattle.decimal18.specs.declared.literal.NumFault.{NumFault}
use Rattle.decimal18.specs.declared.literal.NumFault.TheVariants.{NotNumber as NoLiteral, NumberRange as NoBound}
use Rattle.decimal18.proofs.Canonical.{IsReduced-canonical}
use Rattle.decimal18.proofs.LiteralRead.{ok_of}
use Rattle.formula_ast.specs.Names.{is_plain_name, is_name}
use Rattle.formula_ast.specs.Trees.{Tree}
use Rattle.formula_ast.specs.Printing.{print}
use Rattle.formula_ast.specs.Reading.{reading_of}
use Rattle.formula_ast.specs.declared.fault.FormulaFault.{FormulaFault}
use Rattle.formula_ast.proofs.Again.{read_again}
use Rattle.line_text.specs.Words.{Word, written_part, words_from}
use Rattle.type_b.specs.Shapes.{HasDecimals, checked, are_degrees, IsDegrees}
use Rattle.type_b.specs.declared.shape.Shape.{Shape}
use Rattle.type_b.specs.declared.shape.Shape.TheVariants.{Std, Exp, Norm, Rect, Tri, Trap, Arcsine}
use Rattle.type_b.specs.declared.shape.Dof.{Dof}
use Rattle.type_b.specs.declared.shape.Dof.TheVariants.{Inf, Whole, Rel}
use Rattle.type_b.specs.declared.shape.ShapeFault.{ShapeFault}
use Rattle.line_text.specs.Memory.{GivesBy}
use Rattle.table_records.specs.Records.{Record, trimmed, records_of}
use Rattle.table_records.specs.Header.{is_header}
use Rattle.table_records.specs.Tables.{Table as Records, then_read as then_records, number_in, numbers_of as fields_read, row_of as row_in, rows_of, names_of, table_in, records_read}
use Rattle.table_records.specs.declared.fault.RecordsFault.{RecordsFault}
use Rattle.table_records.specs.declared.fault.RecordsFault.TheVariants.{Shape as OtherFields}
use Rattle.sheet_rows.specs.Rows.{Row, Readings, Joint, row_of}
use Rattle.sheet_rows.specs.declared.row.Row.{Row as CodeRow}
use Rattle.sheet_rows.specs.declared.fault.RowFault.{RowFault}
use Rattle.type_a.specs.Tables.{Table, width_of, refusal, unless, readings_of}
use Rattle.type_a.specs.Tables.{single}
use Rattle.type_a.specs.declared.readings.ReadingsFault.{ReadingsFault}
use Rattle.type_a.proofs.Accepted.{at_least_two}
use Rattle.row_text.specs.Readings.{numbers_of, table_taken, readings_of_words}
use Rattle.row_text.specs.Tables.{sole_name, head_name, records_taken, below_taken, joint_of, table_at, table_read}
use Rattle.row_text.proofs.Widths.{AreOfWidth, width_is}
use Rattle.row_text.specs.Correlations.{coefficient_checked, corr_of}
use Rattle.row_text.specs.Tolerances.{limit_word, guard_word, form_word, guard_checked, order_checked, tolerance_of}
use Rattle.row_text.specs.Parts.{Read, then_read, Parsed, any_word, plain_word, name_word, number_of, number_word, ended}
use Rattle.row_text.specs.Givens.{kind_of, level_of, with_number, with_numbers, with_level, shape_of_kind, shape_named, shape_word, whole_of, allowed, dof_of, rel_of, degrees_word, shape_checked, degrees_checked, given_of}
use Rattle.row_text.specs.Reading.{past_blanks, leading_name, name_at, equals_at, formula_in, formula_at, let_of, row_at, row_read}
use Rattle.row_text.specs.declared.read_shape.ShapeKind.{ShapeKind}
use Rattle.row_text.specs.declared.read_shape.ShapeKind.TheVariants.{Exact as ExactKind, Std as StdKind, Exp as ExpKind, Norm as NormKind, Rect as RectKind, Tri as TriKind, Trap as TrapKind, Arcsine as ArcsineKind}
use Rattle.sheet_rows.specs.Regular.{IsRegular, AreDecimals, AllAreDecimals, is_coefficient, is_guard, are_ordered}
use Rattle.sheet_rows.specs.declared.fault.RowFault.TheVariants.{Syntax, RRange, GuardRange, LimitOrder, OutOfMemory}

-- ---- numbers
bound_decimal : (c : Bound) (t : Bool) → is_bound c ≡ t → IsCanonical c → (b : Bound) → cond t (Some c) None ≡ Some b → IsDecimal b
bound_decimal c false e least b h = absurd (cc)
bound_decimal c true e least b h =
    let same : c ≡ b = cc in
    subst IsDecimal same (record { bound = record { digits = grind (arith, nat_tests); most = grind (arith, nat_tests) }; canonical = least })

literal_decimal : (o : Option Literal) (b : Bound) → read o ≡ Ok b → IsDecimal b
literal_decimal None b h = absurd (cc)
literal_decimal (Some l) b h =
    let exact : Bound = exact_of l in
    let c : Bound = canonical exact.coefficient exact.places in
    bound_decimal c (is_bound c) refl (IsReduced-canonical exact.coefficient exact.places).canonical b (ok_of (as_bound exact) b h)

parsed_decimal : (text : List ℕ) (b : Bound) → parsed text ≡ Ok b → IsDecimal b
unfolding parsed
parsed_decimal text b h = literal_decimal (literal_of text) b h

-- ---- what is read, part by part
cond_ok : {A : Type 0} (P : A → Type 0) (t : Bool) (a b : Read A) → (t ≡ true → IfOk a P) → IfOk b P → IfOk (cond t a b) P
cond_ok P true a b h k = h refl
cond_ok P false a b h k = k

then_ok : {A B : Type 0} (P : A → Type 0) (Q : B → Type 0) (r : Read A) (next : A → Read B) → IfOk r P →
    ((x : A) → P x → IfOk (next x) Q) → IfOk (then_read r next) Q
then_ok P Q (Err fault) next h k = tt
then_ok P Q (Ok x) next h k = k x h

ok_is : {A : Type 0} (P : A → Type 0) (r : Read A) (x : A) → r ≡ Ok x → IfOk r P → P x
ok_is P r x e h = rw e at h

pub any_ok : {A E : Type 0} (r : Result A E) → IfOk r (λ x. Unit {0})
any_ok (Ok x) = tt
any_ok (Err fault) = tt

plain_ok : (end : ℕ) (ws : List Word) → IfOk (plain_word end ws) (λ x. is_plain_name x.item ≡ true)
plain_ok end [] = tt
plain_ok end (w ∷ ws) =
    cond_ok (λ x. is_plain_name x.item ≡ true) (is_plain_name w.text) (Ok (record { item = w.text; rest = ws })) (Err (Syntax (w.place + 1)))
    (λ plain. plain) tt

name_ok : (end : ℕ) (ws : List Word) → IfOk (name_word end ws) (λ x. is_name x.item ≡ true)
name_ok end [] = tt
name_ok end (w ∷ ws) =
    cond_ok (λ x. is_name x.item ≡ true) (is_name w.text) (Ok (record { item = w.text; rest = ws })) (Err (Syntax (w.place + 1)))
    (λ named. named) tt

literal_ok : (w : Word) (r : Result Bound NumFault) → ((b : Bound) → r ≡ Ok b → IsDecimal b) → IfOk (number_of w r) IsDecimal
literal_ok w (Ok b) h = h b refl
literal_ok w (Err NoLiteral) h = tt
literal_ok w (Err NoBound) h = tt

of_word : (w : Word) → IfOk (number_of w (parsed w.text)) IsDecimal
of_word w = literal_ok w (parsed w.text) (λ b h. parsed_decimal w.text b h)

number_ok : (end : ℕ) (ws : List Word) → IfOk (number_word end ws) (λ x. IsDecimal x.item)
number_ok end [] = tt
number_ok end (w ∷ ws) = then_ok IsDecimal (λ x. IsDecimal x.item) (number_of w (parsed w.text)) _ (of_word w) (λ b d. d)

checked_ok : (r : Result Unit ShapeFault) → IfOk (shape_checked r) (λ done. r ≡ Ok (record {}))
checked_ok (Ok done) = refl
checked_ok (Err fault) = tt

-- ---- shapes
abbrev HasNumbers : Parsed Shape → Type 0
HasNumbers x = HasDecimals x.item

one_ok : (make : Bound → Shape) → ((a : Bound) → IsDecimal a → HasDecimals (make a)) → (end : ℕ) (ws : List Word) →
    IfOk (with_number make end ws) HasNumbers
one_ok make h end ws =
    then_ok (λ x. IsDecimal x.item) HasNumbers (number_word end ws) (λ a. Ok (record { item = make a.item; rest = a.rest })) (number_ok end ws)
    (λ a d. h a.item d)

two_ok : (make : Bound → Bound → Shape) → ((a b : Bound) → IsDecimal a → IsDecimal b → HasDecimals (make a b)) → (end : ℕ) (ws : List Word) →
    IfOk (with_numbers make end ws) HasNumbers
two_ok make h end ws =
    then_ok (λ x. IsDecimal x.item) HasNumbers (number_word end ws) (λ a. with_number (make a.item) end a.rest) (number_ok end ws)
    (λ a d. one_ok (make a.item) (λ b e. h a.item b d e) end a.rest)

level_ok : (make : Bound → ℕ → Shape) → ((a : Bound) (level : ℕ) → IsDecimal a → HasDecimals (make a level)) → (end : ℕ) (ws : List Word) →
    IfOk (with_level make end ws) HasNumbers
level_ok make h end ws =
    then_ok (λ x. IsDecimal x.item) HasNumbers (number_word end ws) _ (number_ok end ws) (λ a d.
    then_ok (λ x. Unit {0}) HasNumbers (any_word level_of end a.rest) (λ level. Ok (record { item = make a.item level.item; rest = level.rest }))
    (any_ok (any_word level_of end a.rest)) (λ level u. h a.item level.item d))

kind_ok : (kind : ShapeKind) (end : ℕ) (ws : List Word) → IfOk (shape_of_kind kind end ws) HasNumbers
kind_ok ExactKind end ws = tt
kind_ok StdKind end ws = one_ok Std (λ a d. d) end ws
kind_ok ExpKind end ws = two_ok Exp (λ a b d e. (d, e)) end ws
kind_ok NormKind end ws = level_ok Norm (λ a level d. d) end ws
kind_ok RectKind end ws = one_ok Rect (λ a d. d) end ws
kind_ok TriKind end ws = one_ok Tri (λ a d. d) end ws
kind_ok TrapKind end ws = two_ok Trap (λ a b d e. (d, e)) end ws
kind_ok ArcsineKind end ws = one_ok Arcsine (λ a d. d) end ws

named_ok : (o : Option ShapeKind) (end : ℕ) (w : Word) (ws : List Word) → IfOk (shape_named o end w ws) HasNumbers
named_ok None end w ws = tt
named_ok (Some kind) end w ws = kind_ok kind end ws

shape_ok : (end : ℕ) (ws : List Word) → IfOk (shape_word end ws) HasNumbers
shape_ok end [] = tt
shape_ok end (w ∷ ws) = named_ok (kind_of w.text) end w ws

-- ---- degrees of freedom
abbrev AreAllowed : Option Dof → Type 0
AreAllowed o = IfSome o IsDegrees

some_allowed : (dof : Dof) (t : Bool) → are_degrees dof ≡ t → AreAllowed (cond t (Some dof) None)
some_allowed dof true e = e
some_allowed dof false e = tt

allowed_ok : (o : Option Dof) → AreAllowed (allowed o)
allowed_ok None = tt
allowed_ok (Some dof) = some_allowed dof (are_degrees dof) refl

dof_ok : (text : List ℕ) → AreAllowed (dof_of text)
dof_ok text = by (bytes_eq text (codes "inf")) (allowed_ok (option_map Whole (whole_of 7 text))) where
  by : (t : Bool) → AreAllowed (allowed (option_map Whole (whole_of 7 text))) →
      AreAllowed (cond t (Some Inf) (allowed (option_map Whole (whole_of 7 text))))
  by true h = refl
  by false h = h

word_ok : (meaning : List ℕ → Option Dof) → ((text : List ℕ) → AreAllowed (meaning text)) → (end : ℕ) (ws : List Word) →
    IfOk (any_word meaning end ws) (λ x. AreAllowed x.item)
word_ok meaning h end [] = tt
word_ok meaning h end (w ∷ ws) = h w.text

degrees_ok : (end : ℕ) (ws : List Word) → IfOk (degrees_word end ws) (λ x. AreAllowed x.item)
degrees_ok end [] = refl
degrees_ok end (w ∷ ws) =
    cond_ok (λ x. AreAllowed x.item) (bytes_eq w.text (codes "dof")) (any_word dof_of end ws) _ (λ e. word_ok dof_of dof_ok end ws)
    (cond_ok (λ x. AreAllowed x.item) (bytes_eq w.text (codes "rel")) (any_word rel_of end ws) (Err (Syntax (w.place + 1)))
    (λ e. word_ok rel_of (λ text. allowed_ok (option_map Rel (whole_of 2 text))) end ws) tt)

stated_ok : (o : Option Dof) → AreAllowed o → IfOk (degrees_checked o) IsDegrees
stated_ok None h = tt
stated_ok (Some dof) h = h

-- ---- rows
given_ok : (end : ℕ) (ws : List Word) → IfOk (given_of end ws) IsRegular
given_ok end ws =
    then_ok (λ x. is_plain_name x.item ≡ true) IsRegular (plain_word end ws) _ (plain_ok end ws) (λ name plain.
    then_ok (λ x. IsDecimal x.item) IsRegular (number_word end name.rest) _ (number_ok end name.rest) (λ estimate decimal.
    then_ok HasNumbers IsRegular (shape_word end estimate.rest) _ (shape_ok end estimate.rest) (λ shape has.
    then_ok (λ x. AreAllowed x.item) IsRegular (degrees_word end shape.rest) _ (degrees_ok end shape.rest) (λ dof allows.
    then_ok (λ x. Unit {0}) IsRegular (ended dof.rest) _ (any_ok (ended dof.rest)) (λ done u.
    then_ok (λ x. checked shape.item ≡ Ok (record {})) IsRegular (shape_checked (checked shape.item)) _ (checked_ok (checked shape.item)) (λ fine states.
    then_ok IsDegrees IsRegular (degrees_checked dof.item) _ (stated_ok dof.item allows) (λ degrees are.
    (plain, decimal, has, states, are))))))))

-- ---- readings
numbers_ok : (ws : List Word) → IfOk (numbers_of ws) AreDecimals
numbers_ok [] = tt
numbers_ok (w ∷ ws) =
    then_ok IsDecimal AreDecimals (number_of w (parsed w.text)) _ (of_word w) (λ b d.
    then_ok AreDecimals AreDecimals (numbers_of ws) _ (numbers_ok ws) (λ bs ds. (d, ds)))

single_decimals : (bs : List Bound) → AreDecimals bs → AllAreDecimals (single bs)
single_decimals [] h = tt
single_decimals (b ∷ bs) h = ((h.0, tt), single_decimals bs h.1)

single_width : (bs : List Bound) → refusal (single bs) ≡ None → width_of (single bs) ≡ 1
single_width [] h = let some : 2 ≤ 0 = at_least_two [] h in absurd (omega (arith, some))
single_width (b ∷ bs) h = refl

IsTable : Table → Table → Type 0
IsTable t u = (t ≡ u) × (refusal t ≡ None)

taken_ok : (o : Option ReadingsFault) (t : Table) → refusal t ≡ o → IfOk (table_taken (unless o t)) (IsTable t)
unfolding IsTable
taken_ok None t e = (refl, e)
taken_ok (Some fault) t e = tt

readings_row : (name : List ℕ) (bs : List Bound) (u : Table) → is_plain_name name ≡ true → AreDecimals bs → IsTable (single bs) u →
    IsRegular (Readings name u)
unfolding IsTable
readings_row name bs u plain decimals taken =
    subst (λ t. IsRegular (Readings name t)) taken.0
    (plain, single_decimals bs decimals, single_width bs taken.1, taken.1)

readings_ok : (end : ℕ) (ws : List Word) → IfOk (readings_of_words end ws) IsRegular
readings_ok end ws =
    then_ok (λ x. is_plain_name x.item ≡ true) IsRegular (plain_word end ws) _ (plain_ok end ws) (λ name plain.
    then_ok AreDecimals IsRegular (numbers_of name.rest) _ (numbers_ok name.rest) (λ numbers decimals.
    then_ok (IsTable (single numbers)) IsRegular (table_taken (readings_of (single numbers))) _ (taken_ok (refusal (single numbers)) (single numbers) refl)
    (λ table taken. readings_row name.item numbers table plain decimals taken)))

-- what the code reads
table_is : (o : Option ReadingsFault) (t u : Table) → refusal t ≡ o → unless o t ≡ Ok u → IsTable t u
unfolding IsTable
table_is None t u e h = let same : t ≡ u = cc in (same, e)
table_is (Some fault) t u e h = absurd (cc)

pub regular_readings : (name : List ℕ) (ws : List Word) (bs : List Bound) (t u : Table) → is_plain_name name ≡ true → numbers_of ws ≡ Ok bs →
    t ≡ single bs → readings_of t ≡ Ok u → IsRegular (Readings name u)
regular_readings name ws bs t u plain numbers same taken =
    readings_row name bs u plain (ok_is AreDecimals (numbers_of ws) bs numbers (numbers_ok ws))
    (subst (λ v. IsTable v u) same (table_is (refusal t) t u refl taken))

-- ---- tables
-- what crate table_records reads
records_then_ok : {A B : Type 0} (P : A → Type 0) (Q : B → Type 0) (r : Result A RecordsFault) (next : A → Result B RecordsFault) → IfOk r P →
    ((x : A) → P x → IfOk (next x) Q) → IfOk (then_records r next) Q
records_then_ok P Q (Err fault) next h k = tt
records_then_ok P Q (Ok x) next h k = k x h

records_cond_ok : {A : Type 0} (P : A → Type 0) (t : Bool) (a b : Result A RecordsFault) → (t ≡ true → IfOk a P) → IfOk b P → IfOk (cond t a b) P
records_cond_ok P true a b h k = h refl
records_cond_ok P false a b h k = k

field_ok : (k : ℕ) (r : Result Bound NumFault) → ((b : Bound) → r ≡ Ok b → IsDecimal b) → IfOk (number_in k r) IsDecimal
field_ok k (Ok b) h = h b refl
field_ok k (Err NoLiteral) h = tt
field_ok k (Err NoBound) h = tt

-- so many bounds in canonical form
abbrev AreDecimalsOf : ℕ → List Bound → Type 0
AreDecimalsOf n bs = AreDecimals bs × (length bs ≡ n)

fields_ok : (k : ℕ) (fields : Record) → IfOk (fields_read k fields) (AreDecimalsOf (length fields))
fields_ok k [] = (tt, refl)
fields_ok k (field ∷ fields) =
    records_then_ok IsDecimal (AreDecimalsOf (suc (length fields))) (number_in k (parsed (trimmed field))) _
    (field_ok k (parsed (trimmed field)) (λ b h. parsed_decimal (trimmed field) b h)) (λ b d.
    records_then_ok (AreDecimalsOf (length fields)) (AreDecimalsOf (suc (length fields))) (fields_read k fields) _ (fields_ok k fields) (λ bs h.
    ((d, h.0), ap suc h.1)))

record_ok : (width k : ℕ) (fields : Record) → IfOk (row_in width k fields) (AreDecimalsOf width)
record_ok width k fields =
    records_cond_ok (AreDecimalsOf width) (length fields == width) (fields_read k fields) (Err (OtherFields k))
    (λ e. subst (λ n. IfOk (fields_read k fields) (AreDecimalsOf n)) (eqb-true (length fields) width e) (fields_ok k fields)) tt

abbrev AreRowsOf : ℕ → Table → Type 0
AreRowsOf width t = AllAreDecimals t × AreOfWidth width t

rows_ok : (width k : ℕ) (records : List Record) → IfOk (rows_of width k records) (AreRowsOf width)
rows_ok width k [] = (tt, tt)
rows_ok width k (r ∷ rs) =
    records_then_ok (AreDecimalsOf width) (AreRowsOf width) (row_in width k r) _ (record_ok width k r) (λ row d.
    records_then_ok (AreRowsOf width) (AreRowsOf width) (rows_of width (k + 1) rs) _ (rows_ok width (k + 1) rs) (λ rows ds.
    ((d.0, ds.0), (d.1, ds.1))))

names_ok : (header : Record) → IfOk (names_of header) (λ names. is_header names ≡ true)
names_ok header =
    records_cond_ok (λ names. is_header names ≡ true) (is_header (map trimmed header)) (Ok (map trimmed header)) (Err (OtherFields 1)) (λ e. e) tt

-- the columns and the numbers of a block
abbrev HasColumns : Records → Type 0
HasColumns t = (is_header t.columns ≡ true) × AreRowsOf (length t.columns) t.rows

table_ok : (records : List Record) → IfOk (table_in records) HasColumns
table_ok [] = tt
table_ok (header ∷ below) =
    records_then_ok (λ names. is_header names ≡ true) HasColumns (names_of header) _ (names_ok header) (λ names h.
    records_then_ok (AreRowsOf (length names)) HasColumns (rows_of (length names) 2 below) _ (rows_ok (length names) 2 below) (λ rows k. (h, k)))

records_ok : (r : Result Records RecordsFault) → IfOk r HasColumns → IfOk (records_taken r) HasColumns
records_ok (Ok records) h = h
records_ok (Err fault) h = tt

below_ok : (o : Option ReadingsFault) (t : Table) → refusal t ≡ o → IfOk (below_taken (unless o t)) (IsTable t)
unfolding IsTable
below_ok None t e = (refl, e)
below_ok (Some fault) t e = tt

joint_row : (name : List ℕ) (records : Records) (u : Table) → is_plain_name name ≡ true → HasColumns records → IsTable records.rows u →
    IsRegular (Joint name records.columns u)
unfolding IsTable
joint_row name records u plain h taken =
    subst (λ t. IsRegular (Joint name records.columns t)) taken.0
    (plain, h.0, h.1.0, width_is (length records.columns) records.rows taken.1 h.1.1, taken.1)

joint_ok : (name block : List ℕ) → is_plain_name name ≡ true → IfOk (joint_of name block) IsRegular
unfolding records_read
joint_ok name block plain =
    then_ok HasColumns IsRegular (records_taken (records_read block)) _ (records_ok (table_in (records_of block)) (table_ok (records_of block))) (λ records h.
    then_ok (IsTable records.rows) IsRegular (below_taken (readings_of records.rows)) _ (below_ok (refusal records.rows) records.rows refl) (λ u taken.
    joint_row name records u plain h taken))

sole_ok : (end : ℕ) (ws : List Word) → IfOk (sole_name end ws) (λ name. is_plain_name name ≡ true)
sole_ok end ws =
    then_ok (λ x. is_plain_name x.item ≡ true) (λ name. is_plain_name name ≡ true) (plain_word end ws) _ (plain_ok end ws) (λ x plain.
    then_ok (λ done. Unit {0}) (λ name. is_plain_name name ≡ true) (ended x.rest) _ (any_ok (ended x.rest)) (λ done u. plain))

head_ok : (end : ℕ) (ws : List Word) → IfOk (head_name end ws) (λ name. is_plain_name name ≡ true)
head_ok end [] = tt
head_ok end (w ∷ ws) =
    cond_ok (λ name. is_plain_name name ≡ true) (bytes_eq w.text (codes "table")) (sole_name end ws) (Err (Syntax (w.place + 1)))
    (λ e. sole_ok end ws) tt

pub table_regular : (line : List ℕ) (ws : List Word) (block : List ℕ) → IfOk (table_at line ws block) IsRegular
table_regular line ws block =
    then_ok (λ name. is_plain_name name ≡ true) IsRegular (head_name (length line) ws) _ (head_ok (length line) ws) (λ name plain.
    joint_ok name block plain)

-- what the code reads
pub gives_regular : (r : Result CodeRow RowFault) (wanted : Read Row) → GivesBy row_of OutOfMemory r wanted → IfOk wanted IsRegular →
    IfOk r (λ row. IsRegular (row_of row))
gives_regular (Ok row) wanted h k = ok_is IsRegular wanted (row_of row) h k
gives_regular (Err fault) wanted h k = tt

-- ---- correlations
coefficient_ok : (b : Bound) → IsDecimal b → IfOk (coefficient_checked b) (λ r. IsDecimal r × (is_coefficient r ≡ true))
coefficient_ok b d =
    cond_ok (λ r. IsDecimal r × (is_coefficient r ≡ true)) (is_coefficient b) (Ok b) (Err RRange) (λ within. (d, within)) tt

corr_ok : (end : ℕ) (ws : List Word) → IfOk (corr_of end ws) IsRegular
corr_ok end ws =
    then_ok (λ x. is_plain_name x.item ≡ true) IsRegular (plain_word end ws) _ (plain_ok end ws) (λ name plain.
    then_ok (λ x. is_name x.item ≡ true) IsRegular (name_word end name.rest) _ (name_ok end name.rest) (λ first one.
    then_ok (λ x. is_name x.item ≡ true) IsRegular (name_word end first.rest) _ (name_ok end first.rest) (λ second other.
    then_ok (λ x. IsDecimal x.item) IsRegular (number_word end second.rest) _ (number_ok end second.rest) (λ number decimal.
    then_ok (λ x. Unit {0}) IsRegular (ended number.rest) _ (any_ok (ended number.rest)) (λ done u.
    then_ok (λ r. IsDecimal r × (is_coefficient r ≡ true)) IsRegular (coefficient_checked number.item) _ (coefficient_ok number.item decimal) (λ r has.
    (plain, one, other, has.0, has.1)))))))

-- ---- rules of conformity
abbrev IsLimit : Parsed (Option Bound) → Type 0
IsLimit x = IfSome x.item IsDecimal

limit_ok : (keyword : List ℕ) (end : ℕ) (ws : List Word) → IfOk (limit_word keyword end ws) IsLimit
limit_ok keyword end [] = tt
limit_ok keyword end (w ∷ ws) =
    cond_ok IsLimit (bytes_eq w.text keyword) (then_read (number_word end ws) (λ limit. Ok (record { item = Some limit.item; rest = limit.rest })))
    (Ok (record { item = None; rest = w ∷ ws }))
    (λ e. then_ok (λ x. IsDecimal x.item) IsLimit (number_word end ws) _ (number_ok end ws) (λ limit decimal. decimal)) tt

with_limit : (limited : Bool) (r : Read (Parsed Bound)) → limited ≡ true → IfOk r (λ x. IsDecimal x.item)
    → IfOk r (λ x. IsDecimal x.item × (limited ≡ true))
with_limit limited (Ok x) e h = (h, e)
with_limit limited (Err fault) e h = tt

guard_ok : (limited : Bool) (end : ℕ) (ws : List Word) → IfOk (guard_word limited end ws) (λ x. IsDecimal x.item × (limited ≡ true))
guard_ok limited end [] = tt
guard_ok limited end (w ∷ ws) =
    let guards : Bool = bytes_eq w.text (codes "guard") in
    cond_ok (λ x. IsDecimal x.item × (limited ≡ true)) (limited && guards) (number_word end ws) (Err (Syntax (w.place + 1)))
    (λ e. with_limit limited (number_word end ws) (and_parts limited guards e).0 (number_ok end ws)) tt

factor_ok : (b : Bound) → IsDecimal b → IfOk (guard_checked b) (λ r. IsDecimal r × (is_guard r ≡ true))
factor_ok b d = cond_ok (λ r. IsDecimal r × (is_guard r ≡ true)) (is_guard b) (Ok b) (Err GuardRange) (λ within. (d, within)) tt

order_ok : (lower upper : Option Bound) → IfOk (order_checked lower upper) (λ done. are_ordered lower upper ≡ true)
order_ok lower upper = cond_ok (λ done. are_ordered lower upper ≡ true) (are_ordered lower upper) (Ok tt) (Err LimitOrder) (λ order. order) tt

tolerance_ok : (end : ℕ) (ws : List Word) → IfOk (tolerance_of end ws) IsRegular
tolerance_ok end ws =
    then_ok (λ x. is_plain_name x.item ≡ true) IsRegular (plain_word end ws) _ (plain_ok end ws) (λ name plain.
    then_ok IsLimit IsRegular (limit_word (codes "lower") end name.rest) _ (limit_ok (codes "lower") end name.rest) (λ lower low.
    then_ok IsLimit IsRegular (limit_word (codes "upper") end lower.rest) _ (limit_ok (codes "upper") end lower.rest) (λ upper high.
    then_ok (λ x. IsDecimal x.item × ((is_some lower.item || is_some upper.item) ≡ true)) IsRegular
    (guard_word (is_some lower.item || is_some upper.item) end upper.rest) _
    (guard_ok (is_some lower.item || is_some upper.item) end upper.rest) (λ guard limited.
    then_ok (λ x. Unit {0}) IsRegular (form_word guard.rest) _ (any_ok (form_word guard.rest)) (λ form u.
    then_ok (λ x. Unit {0}) IsRegular (ended form.rest) _ (any_ok (ended form.rest)) (λ done v.
    then_ok (λ r. IsDecimal r × (is_guard r ≡ true)) IsRegular (guard_checked guard.item) _ (factor_ok guard.item limited.0) (λ factor within.
    then_ok (λ x. are_ordered lower.item upper.item ≡ true) IsRegular (order_checked lower.item upper.item) _ (order_ok lower.item upper.item)
    (λ fine order. (plain, (low, high, within.0), record { limit = limited.1; guard = within.1; order = order })))))))))

-- ---- formulas
-- the printed formula is read as the formula again
abbrev IsReadAgain : Tree → Type 0
IsReadAgain f = reading_of (print f) ≡ Ok f

formula_ok : (at : ℕ) (r : Result Tree FormulaFault) → ((f : Tree) → r ≡ Ok f → IsReadAgain f) → IfOk (formula_in at r) IsReadAgain
formula_ok at (Ok f) h = h f refl
formula_ok at (Err fault) h = tt

let_ok : (line : List ℕ) (at : ℕ) → IfOk (let_of line at) IsRegular
let_ok line at =
    let name : List ℕ = leading_name (drop (past_blanks line at) line) in
    then_ok (λ x. is_plain_name x.item ≡ true) IsRegular (name_at line (past_blanks line at)) _
    (cond_ok (λ x. is_plain_name x.item ≡ true) (is_plain_name name) (Ok (record { item = name; at = past_blanks line at + length name }))
    (Err (Syntax (past_blanks line at + 1))) (λ plain. plain) tt) (λ x plain.
    then_ok (λ start. Unit {0}) IsRegular (equals_at line (past_blanks line x.at)) _ (any_ok (equals_at line (past_blanks line x.at))) (λ start u.
    then_ok IsReadAgain IsRegular (formula_at line start) _
    (formula_ok start (reading_of (drop start line)) (λ f h. read_again (drop start line) f h)) (λ f has.
    (plain, has))))

pub row_regular : (line : List ℕ) (ws : List Word) → IfOk (row_at line ws) IsRegular
row_regular line [] = tt
row_regular line (w ∷ ws) =
    cond_ok IsRegular (bytes_eq w.text (codes "given")) (given_of (length line) ws) _ (λ e. given_ok (length line) ws)
    (cond_ok IsRegular (bytes_eq w.text (codes "readings")) (readings_of_words (length line) ws) _ (λ e. readings_ok (length line) ws)
    (cond_ok IsRegular (bytes_eq w.text (codes "corr")) (corr_of (length line) ws) _ (λ e. corr_ok (length line) ws)
    (cond_ok IsRegular (bytes_eq w.text (codes "let")) (let_of line (w.place + length w.text)) (if bytes_eq w.text (codes "tol") then tolerance_of (length line) ws else Err (Syntax (w.place + 1)))
    (λ e. let_ok line (w.place + length w.text))
    (cond_ok IsRegular (bytes_eq w.text (codes "tol")) (tolerance_of (length line) ws) (Err (Syntax (w.place + 1))) (λ e. tolerance_ok (length line) ws) tt))))

pub read_regular : (line : List ℕ) (from : ℕ) → IfOk (row_read line from) IsRegular
unfolding row_read
read_regular line from = row_regular (written_part line) (words_from (written_part line) from)

pub what_is_read_is_regular : (line : List ℕ) (from : ℕ) (row : Row) → row_read line from ≡ Ok row → IsRegular row
what_is_read_is_regular line from row h = ok_is IsRegular (row_read line from) row h (read_regular line from)

pub what_a_table_is_is_regular : (line : List ℕ) (from : ℕ) (block : List ℕ) (row : Row) → table_read line from block ≡ Ok row → IsRegular row
unfolding table_read
what_a_table_is_is_regular line from block row h =
    ok_is IsRegular (table_read line from block) row h (table_regular (written_part line) (words_from (written_part line) from) block)
