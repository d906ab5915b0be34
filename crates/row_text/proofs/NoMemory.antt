-- What a line gives as a row is never out of memory.
use Rattle.std.proofs.Common.{◌≡◌, ◌≢◌, ℕ, Bool, true, false, cond, ◌||◌, ◌&&◌, nat_lt, List, [], ◌∷◌, ◌+◌, length, drop, map, ◌==◌, Result, Option, None, Some, Ok, Err, IfErr, refl, subst}
use Rattle.std.specs.Prelude.{codes, bytes_eq, is_some, if◌then◌else◌}
use Rattle.std.specs.List.{position_from}
use Rattle.decimal18.specs.Bound.{Bound}
use Rattle.decimal18.specs.Literal.{parsed}
use Rattle.decimal18.specs.declared.literal.NumFault.{NumFault}
use Rattle.decimal18.specs.declared.literal.NumFault.TheVariants.{NotNumber as NoLiteral, NumberRange as NoBound}
use Rattle.formula_ast.specs.Names.{is_plain_name, is_name}
use Rattle.formula_ast.specs.Trees.{Tree}
use Rattle.formula_ast.specs.Reading.{reading_of}
use Rattle.formula_ast.specs.declared.fault.FormulaFault.{FormulaFault}
use Rattle.formula_ast.specs.declared.fault.FormulaFault.TheVariants.{Syntax as FormulaSyntax, UnknownFunction as FormulaFunction, Number as FormulaNumber, BadPower as FormulaPower, TooDeep as FormulaDeep, TooMany as FormulaMany, OutOfMemory as FormulaMemory}
use Rattle.formula_ast.proofs.NoMemory.{never_memory as formula_never}
use Rattle.line_text.specs.Words.{Word, written_part, words_from}
use Rattle.type_b.specs.Shapes.{checked}
use Rattle.type_b.specs.declared.shape.ShapeFault.{ShapeFault}
use Rattle.type_b.specs.declared.shape.ShapeFault.TheVariants.{Negative as NegativeShape, ZeroK as ZeroFactor, Beta as OtherBeta, Level as OtherLevel}
use Rattle.type_b.specs.declared.shape.Shape.{Shape}
use Rattle.type_b.specs.declared.shape.Shape.TheVariants.{Std, Exp, Norm, Rect, Tri, Trap, Arcsine}
use Rattle.type_b.specs.declared.shape.Dof.{Dof}
use Rattle.table_records.specs.Records.{Record, trimmed, records_of}
use Rattle.table_records.specs.Header.{is_header}
use Rattle.table_records.specs.Tables.{Table as Records, then_read as then_records, number_in, numbers_of as fields_read, row_of as row_in, rows_of, names_of, table_in, records_read}
use Rattle.table_records.specs.declared.fault.RecordsFault.{RecordsFault}
use Rattle.table_records.specs.declared.fault.RecordsFault.TheVariants.{Shape as OtherFields}
use Rattle.type_a.specs.Tables.{Table, width_of, finest, is_misshapen, has_wide, first_of, refusal, unless, readings_of}
use Rattle.type_a.specs.Tables.{single}
use Rattle.type_a.specs.declared.readings.ReadingsFault.{ReadingsFault}
use Rattle.type_a.specs.declared.readings.ReadingsFault.TheVariants.{TooFew as FewReadings, TooMany as ManyReadings, Shape as OtherWidth, Wide as WideReading, OutOfMemory as ReadingsMemory}
use Rattle.sheet_rows.specs.Faults.{readings_fault, records_fault}
use Rattle.sheet_rows.specs.Regular.{is_coefficient, is_guard, are_ordered}
use Rattle.row_text.specs.Readings.{numbers_of, table_taken, readings_of_words}
use Rattle.row_text.specs.Tables.{sole_name, head_name, records_taken, below_header, below_taken, joint_of, table_at, table_read}
use Rattle.row_text.specs.Correlations.{coefficient_checked, corr_of}
use Rattle.row_text.specs.Tolerances.{limit_word, guard_word, form_word, guard_checked, order_checked, tolerance_of}
use Rattle.row_text.specs.Parts.{Read, then_read, any_word, plain_word, name_word, number_of, number_word, ended}
use Rattle.row_text.specs.Givens.{kind_of, level_of, with_number, with_numbers, with_level, shape_of_kind, shape_named, shape_word, dof_of, rel_of, degrees_word, shape_checked, degrees_checked, given_of}
use Rattle.row_text.specs.Reading.{past_blanks, leading_name, name_at, begins_equals, equals_at, formula_fault, formula_in, formula_at, let_of, row_at, row_read}
use Rattle.row_text.specs.declared.read_shape.ShapeKind.{ShapeKind}
use Rattle.row_text.specs.declared.read_shape.ShapeKind.TheVariants.{Exact as ExactKind, Std as StdKind, Exp as ExpKind, Norm as NormKind, Rect as RectKind, Tri as TriKind, Trap as TrapKind, Arcsine as ArcsineKind}
use Rattle.sheet_rows.specs.declared.row.Row.{Row as CodeRow}
use Rattle.sheet_rows.specs.declared.fault.RowFault.{RowFault}
use Rattle.sheet_rows.specs.declared.fault.RowFault.TheVariants.{Syntax, NotNumber, NumberRange, UnknownFunction, BadPower, TooDeep, TooManyNodes, Negative, ZeroK, Beta, Level, DofRange, RRange, GuardRange, LimitOrder, TooFew, TooMany, Shape as OtherRecord, Wide, OutOfMemory}

abbrev IsNoMemory : RowFault → Type 0
IsNoMemory OutOfMemory = ⊥
IsNoMemory (Syntax at) = Unit {0}
IsNoMemory (NotNumber at) = Unit {0}
IsNoMemory (NumberRange at) = Unit {0}
IsNoMemory (UnknownFunction at) = Unit {0}
IsNoMemory (BadPower at) = Unit {0}
IsNoMemory (TooDeep at) = Unit {0}
IsNoMemory (TooManyNodes at) = Unit {0}
IsNoMemory Negative = Unit {0}
IsNoMemory ZeroK = Unit {0}
IsNoMemory Beta = Unit {0}
IsNoMemory Level = Unit {0}
IsNoMemory DofRange = Unit {0}
IsNoMemory RRange = Unit {0}
IsNoMemory GuardRange = Unit {0}
IsNoMemory LimitOrder = Unit {0}
IsNoMemory TooFew = Unit {0}
IsNoMemory TooMany = Unit {0}
IsNoMemory (OtherRecord k) = Unit {0}
IsNoMemory (Wide k) = Unit {0}

abbrev IfFailed : {A : Type 0} → Read A → Type 0
IfFailed (Ok x) = Unit {0}
IfFailed (Err fault) = IsNoMemory fault

then_failed : {A B : Type 0} (r : Read A) (next : A → Read B) → IfFailed r → ((x : A) → IfFailed (next x)) → IfFailed (then_read r next)
then_failed (Err fault) next h k = h
then_failed (Ok x) next h k = k x

cond_failed : {A : Type 0} (t : Bool) (a b : Read A) → IfFailed a → IfFailed b → IfFailed (cond t a b)
cond_failed true a b h k = h
cond_failed false a b h k = k

plain_failed : (end : ℕ) (ws : List Word) → IfFailed (plain_word end ws)
plain_failed end [] = tt
plain_failed end (w ∷ ws) = cond_failed (is_plain_name w.text) _ (Err (Syntax (w.place + 1))) tt tt

name_failed : (end : ℕ) (ws : List Word) → IfFailed (name_word end ws)
name_failed end [] = tt
name_failed end (w ∷ ws) = cond_failed (is_name w.text) _ (Err (Syntax (w.place + 1))) tt tt

number_of_failed : (w : Word) (r : Result Bound NumFault) → IfFailed (number_of w r)
number_of_failed w (Ok b) = tt
number_of_failed w (Err NoLiteral) = tt
number_of_failed w (Err NoBound) = tt

number_failed : (end : ℕ) (ws : List Word) → IfFailed (number_word end ws)
number_failed end [] = tt
number_failed end (w ∷ ws) = then_failed (number_of w (parsed w.text)) _ (number_of_failed w (parsed w.text)) (λ b. tt)

word_failed : {A : Type 0} (meaning : List ℕ → A) (end : ℕ) (ws : List Word) → IfFailed (any_word meaning end ws)
word_failed meaning end [] = tt
word_failed meaning end (w ∷ ws) = tt

ended_failed : (ws : List Word) → IfFailed (ended ws)
ended_failed [] = tt
ended_failed (w ∷ ws) = tt

-- ---- inputs
one_failed : (make : Bound → Shape) (end : ℕ) (ws : List Word) → IfFailed (with_number make end ws)
one_failed make end ws = then_failed (number_word end ws) (λ a. Ok (record { item = make a.item; rest = a.rest })) (number_failed end ws) (λ a. tt)

two_failed : (make : Bound → Bound → Shape) (end : ℕ) (ws : List Word) → IfFailed (with_numbers make end ws)
two_failed make end ws =
    then_failed (number_word end ws) (λ a. with_number (make a.item) end a.rest) (number_failed end ws) (λ a. one_failed (make a.item) end a.rest)

level_failed : (make : Bound → ℕ → Shape) (end : ℕ) (ws : List Word) → IfFailed (with_level make end ws)
level_failed make end ws =
    then_failed (number_word end ws) _ (number_failed end ws) (λ a.
    then_failed (any_word level_of end a.rest) (λ level. Ok (record { item = make a.item level.item; rest = level.rest }))
    (word_failed level_of end a.rest) (λ level. tt))

kind_failed : (kind : ShapeKind) (end : ℕ) (ws : List Word) → IfFailed (shape_of_kind kind end ws)
kind_failed ExactKind end ws = tt
kind_failed StdKind end ws = one_failed Std end ws
kind_failed ExpKind end ws = two_failed Exp end ws
kind_failed NormKind end ws = level_failed Norm end ws
kind_failed RectKind end ws = one_failed Rect end ws
kind_failed TriKind end ws = one_failed Tri end ws
kind_failed TrapKind end ws = two_failed Trap end ws
kind_failed ArcsineKind end ws = one_failed Arcsine end ws

named_failed : (o : Option ShapeKind) (end : ℕ) (w : Word) (ws : List Word) → IfFailed (shape_named o end w ws)
named_failed None end w ws = tt
named_failed (Some kind) end w ws = kind_failed kind end ws

shape_failed : (end : ℕ) (ws : List Word) → IfFailed (shape_word end ws)
shape_failed end [] = tt
shape_failed end (w ∷ ws) = named_failed (kind_of w.text) end w ws

degrees_failed : (end : ℕ) (ws : List Word) → IfFailed (degrees_word end ws)
degrees_failed end [] = tt
degrees_failed end (w ∷ ws) =
    cond_failed (bytes_eq w.text (codes "dof")) (any_word dof_of end ws) _ (word_failed dof_of end ws)
    (cond_failed (bytes_eq w.text (codes "rel")) (any_word rel_of end ws) (Err (Syntax (w.place + 1))) (word_failed rel_of end ws) tt)

checked_failed : (r : Result Unit ShapeFault) → IfFailed (shape_checked r)
checked_failed (Ok done) = tt
checked_failed (Err NegativeShape) = tt
checked_failed (Err ZeroFactor) = tt
checked_failed (Err OtherBeta) = tt
checked_failed (Err OtherLevel) = tt

stated_failed : (o : Option Dof) → IfFailed (degrees_checked o)
stated_failed None = tt
stated_failed (Some dof) = tt

given_failed : (end : ℕ) (ws : List Word) → IfFailed (given_of end ws)
given_failed end ws =
    then_failed (plain_word end ws) _ (plain_failed end ws) (λ name.
    then_failed (number_word end name.rest) _ (number_failed end name.rest) (λ estimate.
    then_failed (shape_word end estimate.rest) _ (shape_failed end estimate.rest) (λ shape.
    then_failed (degrees_word end shape.rest) _ (degrees_failed end shape.rest) (λ dof.
    then_failed (ended dof.rest) _ (ended_failed dof.rest) (λ done.
    then_failed (shape_checked (checked shape.item)) _ (checked_failed (checked shape.item)) (λ fine.
    then_failed (degrees_checked dof.item) _ (stated_failed dof.item) (λ degrees. tt)))))))

-- the reading of an input takes no memory
pub given_takes_none : (r : Result CodeRow RowFault) (end : ℕ) (ws : List Word) → IfErr r (λ fault. given_of end ws ≡ Err fault)
    → r ≢ Err OutOfMemory
given_takes_none (Ok row) end ws h e = cc
given_takes_none (Err fault) end ws h e =
    let out : fault ≡ OutOfMemory = cc in
    subst IfFailed (subst (λ f. given_of end ws ≡ Err f) out h) (given_failed end ws)

-- the reading of a correlation takes none either
corr_failed : (end : ℕ) (ws : List Word) → IfFailed (corr_of end ws)
corr_failed end ws =
    then_failed (plain_word end ws) _ (plain_failed end ws) (λ name.
    then_failed (name_word end name.rest) _ (name_failed end name.rest) (λ first.
    then_failed (name_word end first.rest) _ (name_failed end first.rest) (λ second.
    then_failed (number_word end second.rest) _ (number_failed end second.rest) (λ number.
    then_failed (ended number.rest) _ (ended_failed number.rest) (λ done.
    then_failed (coefficient_checked number.item) _ (cond_failed (is_coefficient number.item) (Ok number.item) (Err RRange) tt tt) (λ r. tt))))))

pub corr_takes_none : (r : Result CodeRow RowFault) (end : ℕ) (ws : List Word) → IfErr r (λ fault. corr_of end ws ≡ Err fault)
    → r ≢ Err OutOfMemory
corr_takes_none (Ok row) end ws h e = cc
corr_takes_none (Err fault) end ws h e =
    let out : fault ≡ OutOfMemory = cc in
    subst IfFailed (subst (λ f. corr_of end ws ≡ Err f) out h) (corr_failed end ws)

-- nor does that of a rule of conformity
limit_failed : (keyword : List ℕ) (end : ℕ) (ws : List Word) → IfFailed (limit_word keyword end ws)
limit_failed keyword end [] = tt
limit_failed keyword end (w ∷ ws) =
    cond_failed (bytes_eq w.text keyword) (then_read (number_word end ws) (λ limit. Ok (record { item = Some limit.item; rest = limit.rest })))
    (Ok (record { item = None; rest = w ∷ ws })) (then_failed (number_word end ws) _ (number_failed end ws) (λ limit. tt)) tt

guard_failed : (limited : Bool) (end : ℕ) (ws : List Word) → IfFailed (guard_word limited end ws)
guard_failed limited end [] = tt
guard_failed limited end (w ∷ ws) =
    cond_failed (limited && bytes_eq w.text (codes "guard")) (number_word end ws) (Err (Syntax (w.place + 1))) (number_failed end ws) tt

form_failed : (ws : List Word) → IfFailed (form_word ws)
form_failed [] = tt
form_failed (w ∷ ws) = cond_failed (bytes_eq w.text (codes "four")) _ (Err (Syntax (w.place + 1))) tt tt

tolerance_failed : (end : ℕ) (ws : List Word) → IfFailed (tolerance_of end ws)
tolerance_failed end ws =
    then_failed (plain_word end ws) _ (plain_failed end ws) (λ name.
    then_failed (limit_word (codes "lower") end name.rest) _ (limit_failed (codes "lower") end name.rest) (λ lower.
    then_failed (limit_word (codes "upper") end lower.rest) _ (limit_failed (codes "upper") end lower.rest) (λ upper.
    then_failed (guard_word (is_some lower.item || is_some upper.item) end upper.rest) _
    (guard_failed (is_some lower.item || is_some upper.item) end upper.rest) (λ guard.
    then_failed (form_word guard.rest) _ (form_failed guard.rest) (λ form.
    then_failed (ended form.rest) _ (ended_failed form.rest) (λ done.
    then_failed (guard_checked guard.item) _ (cond_failed (is_guard guard.item) (Ok guard.item) (Err GuardRange) tt tt) (λ factor.
    then_failed (order_checked lower.item upper.item) _ (cond_failed (are_ordered lower.item upper.item) (Ok tt) (Err LimitOrder) tt tt)
    (λ fine. tt))))))))

pub tolerance_takes_none : (r : Result CodeRow RowFault) (end : ℕ) (ws : List Word) → IfErr r (λ fault. tolerance_of end ws ≡ Err fault)
    → r ≢ Err OutOfMemory
tolerance_takes_none (Ok row) end ws h e = cc
tolerance_takes_none (Err fault) end ws h e =
    let out : fault ≡ OutOfMemory = cc in
    subst IfFailed (subst (λ f. tolerance_of end ws ≡ Err f) out h) (tolerance_failed end ws)

-- ---- readings
numbers_failed : (ws : List Word) → IfFailed (numbers_of ws)
numbers_failed [] = tt
numbers_failed (w ∷ ws) =
    then_failed (number_of w (parsed w.text)) _ (number_of_failed w (parsed w.text)) (λ number.
    then_failed (numbers_of ws) _ (numbers_failed ws) (λ numbers. tt))

-- the refusal of a table is not out of memory
abbrev IsNoTableMemory : Option ReadingsFault → Type 0
IsNoTableMemory None = Unit {0}
IsNoTableMemory (Some fault) = IsNoMemory (readings_fault fault)

first_no_memory : (fault : ℕ → ReadingsFault) (o : Option ℕ) (later : Option ReadingsFault) → ((k : ℕ) → IsNoMemory (readings_fault (fault k))) →
    IsNoTableMemory later → IsNoTableMemory (first_of fault o later)
first_no_memory fault None later h k = k
first_no_memory fault (Some place) later h k = h place

cond_no_memory : (t : Bool) (fault : ReadingsFault) (later : Option ReadingsFault) → IsNoMemory (readings_fault fault) → IsNoTableMemory later →
    IsNoTableMemory (cond t (Some fault) later)
cond_no_memory true fault later h k = h
cond_no_memory false fault later h k = k

refusal_no_memory : (t : Table) → IsNoTableMemory (refusal t)
unfolding refusal
refusal_no_memory t =
    first_no_memory OtherWidth (position_from (is_misshapen (width_of t)) 1 t) _ (λ k. tt)
    (cond_no_memory (nat_lt (length t) 2) FewReadings _ tt
    (cond_no_memory (nat_lt 1000 (length t)) ManyReadings _ tt
    (first_no_memory WideReading (position_from (has_wide (finest t)) 1 t) None (λ k. tt) tt)))

unless_failed : (o : Option ReadingsFault) (t : Table) → IsNoTableMemory o → IfFailed (table_taken (unless o t))
unless_failed None t h = tt
unless_failed (Some fault) t h = h

readings_failed : (end : ℕ) (ws : List Word) → IfFailed (readings_of_words end ws)
readings_failed end ws =
    then_failed (plain_word end ws) _ (plain_failed end ws) (λ name.
    then_failed (numbers_of name.rest) _ (numbers_failed name.rest) (λ numbers.
    then_failed (table_taken (readings_of (single numbers))) _ (unless_failed (refusal (single numbers)) (single numbers) (refusal_no_memory (single numbers))) (λ table. tt)))

-- ---- tables
-- what crate table_records reads
abbrev IfRecordsFailed : {A : Type 0} → Result A RecordsFault → Type 0
IfRecordsFailed (Ok x) = Unit {0}
IfRecordsFailed (Err fault) = IsNoMemory (records_fault fault)

records_then_failed : {A B : Type 0} (r : Result A RecordsFault) (next : A → Result B RecordsFault) → IfRecordsFailed r →
    ((x : A) → IfRecordsFailed (next x)) → IfRecordsFailed (then_records r next)
records_then_failed (Err fault) next h k = h
records_then_failed (Ok x) next h k = k x

records_cond_failed : {A : Type 0} (t : Bool) (a b : Result A RecordsFault) → IfRecordsFailed a → IfRecordsFailed b → IfRecordsFailed (cond t a b)
records_cond_failed true a b h k = h
records_cond_failed false a b h k = k

field_failed : (k : ℕ) (r : Result Bound NumFault) → IfRecordsFailed (number_in k r)
field_failed k (Ok b) = tt
field_failed k (Err NoLiteral) = tt
field_failed k (Err NoBound) = tt

fields_failed : (k : ℕ) (fields : Record) → IfRecordsFailed (fields_read k fields)
fields_failed k [] = tt
fields_failed k (field ∷ fields) =
    records_then_failed (number_in k (parsed (trimmed field))) _ (field_failed k (parsed (trimmed field))) (λ b.
    records_then_failed (fields_read k fields) _ (fields_failed k fields) (λ bs. tt))

records_row_failed : (width k : ℕ) (fields : Record) → IfRecordsFailed (row_in width k fields)
records_row_failed width k fields = records_cond_failed (length fields == width) (fields_read k fields) (Err (OtherFields k)) (fields_failed k fields) tt

rows_failed : (width k : ℕ) (records : List Record) → IfRecordsFailed (rows_of width k records)
rows_failed width k [] = tt
rows_failed width k (r ∷ rs) =
    records_then_failed (row_in width k r) _ (records_row_failed width k r) (λ row.
    records_then_failed (rows_of width (k + 1) rs) _ (rows_failed width (k + 1) rs) (λ rows. tt))

names_failed : (header : Record) → IfRecordsFailed (names_of header)
names_failed header = records_cond_failed (is_header (map trimmed header)) (Ok (map trimmed header)) (Err (OtherFields 1)) tt tt

table_failed : (records : List Record) → IfRecordsFailed (table_in records)
table_failed [] = tt
table_failed (header ∷ below) =
    records_then_failed (names_of header) _ (names_failed header) (λ names.
    records_then_failed (rows_of (length names) 2 below) _ (rows_failed (length names) 2 below) (λ rows. tt))

records_failed : (r : Result Records RecordsFault) → IfRecordsFailed r → IfFailed (records_taken r)
records_failed (Ok records) h = tt
records_failed (Err fault) h = h

header_failed : (fault : ReadingsFault) → IsNoMemory (readings_fault fault) → IsNoMemory (below_header fault)
header_failed FewReadings h = tt
header_failed ManyReadings h = tt
header_failed (OtherWidth k) h = tt
header_failed (WideReading k) h = tt
header_failed ReadingsMemory h = h

below_failed : (o : Option ReadingsFault) (t : Table) → IsNoTableMemory o → IfFailed (below_taken (unless o t))
below_failed None t h = tt
below_failed (Some fault) t h = header_failed fault h

joint_failed : (name block : List ℕ) → IfFailed (joint_of name block)
unfolding records_read
joint_failed name block =
    then_failed (records_taken (records_read block)) _ (records_failed (table_in (records_of block)) (table_failed (records_of block))) (λ records.
    then_failed (below_taken (readings_of records.rows)) _ (below_failed (refusal records.rows) records.rows (refusal_no_memory records.rows)) (λ t. tt))

sole_failed : (end : ℕ) (ws : List Word) → IfFailed (sole_name end ws)
sole_failed end ws =
    then_failed (plain_word end ws) _ (plain_failed end ws) (λ name.
    then_failed (ended name.rest) _ (ended_failed name.rest) (λ done. tt))

head_failed : (end : ℕ) (ws : List Word) → IfFailed (head_name end ws)
head_failed end [] = tt
head_failed end (w ∷ ws) = cond_failed (bytes_eq w.text (codes "table")) (sole_name end ws) (Err (Syntax (w.place + 1))) (sole_failed end ws) tt

pub table_never : (line : List ℕ) (ws : List Word) (block : List ℕ) → table_at line ws block ≢ Err OutOfMemory
table_never line ws block h =
    subst IfFailed h (then_failed (head_name (length line) ws) _ (head_failed (length line) ws) (λ name. joint_failed name block))

pub never_table_memory : (line : List ℕ) (from : ℕ) (block : List ℕ) → table_read line from block ≢ Err OutOfMemory
unfolding table_read
never_table_memory line from block = table_never (written_part line) (words_from (written_part line) from) block

-- ---- formulas
fault_failed : (at : ℕ) (fault : FormulaFault) → fault ≢ FormulaMemory → IsNoMemory (formula_fault at fault)
fault_failed at (FormulaSyntax k) h = tt
fault_failed at (FormulaFunction k) h = tt
fault_failed at (FormulaNumber NoLiteral k) h = tt
fault_failed at (FormulaNumber NoBound k) h = tt
fault_failed at (FormulaPower k) h = tt
fault_failed at (FormulaDeep k) h = tt
fault_failed at (FormulaMany k) h = tt
fault_failed at FormulaMemory h = h refl

formula_failed : (at : ℕ) (r : Result Tree FormulaFault) → ((fault : FormulaFault) → r ≡ Err fault → fault ≢ FormulaMemory) → IfFailed (formula_in at r)
formula_failed at (Ok f) h = tt
formula_failed at (Err fault) h = fault_failed at fault (h fault refl)

no_formula_memory : (text : List ℕ) (fault : FormulaFault) → reading_of text ≡ Err fault → fault ≢ FormulaMemory
no_formula_memory text fault h e = formula_never text (rw e at h)

let_failed : (line : List ℕ) (at : ℕ) → IfFailed (let_of line at)
let_failed line at =
    then_failed (name_at line (past_blanks line at)) _ (cond_failed (is_plain_name (leading_name (drop (past_blanks line at) line))) _ (Err (Syntax (past_blanks line at + 1))) tt tt) (λ name.
    then_failed (equals_at line (past_blanks line name.at)) _ (cond_failed (begins_equals (drop (past_blanks line name.at) line)) _ (Err (Syntax (past_blanks line name.at + 1))) tt tt) (λ start.
    then_failed (formula_at line start) _ (formula_failed start (reading_of (drop start line)) (no_formula_memory (drop start line))) (λ f. tt)))

row_failed : (line : List ℕ) (ws : List Word) → IfFailed (row_at line ws)
row_failed line [] = tt
row_failed line (w ∷ ws) =
    cond_failed (bytes_eq w.text (codes "given")) _ _ (given_failed (length line) ws)
    (cond_failed (bytes_eq w.text (codes "readings")) _ _ (readings_failed (length line) ws)
    (cond_failed (bytes_eq w.text (codes "corr")) _ _ (corr_failed (length line) ws)
    (cond_failed (bytes_eq w.text (codes "let")) (let_of line (w.place + length w.text)) (if bytes_eq w.text (codes "tol") then tolerance_of (length line) ws else Err (Syntax (w.place + 1)))
    (let_failed line (w.place + length w.text))
    (cond_failed (bytes_eq w.text (codes "tol")) (tolerance_of (length line) ws) (Err (Syntax (w.place + 1))) (tolerance_failed (length line) ws) tt))))

pub row_never : (line : List ℕ) (ws : List Word) → row_at line ws ≢ Err OutOfMemory
row_never line ws h = subst IfFailed h (row_failed line ws)

pub never_memory : (line : List ℕ) (from : ℕ) → row_read line from ≢ Err OutOfMemory
unfolding row_read
never_memory line from = row_never (written_part line) (words_from (written_part line) from)
