-- What the words after `given` are as an input: its name, its estimate, the shape of its uncertainty and the degrees
-- of freedom of that. Only when all words are read are the rules looked at whose refusals have no place.
use Rattle.std.specs.Prelude.{ℕ, ◌+◌, ◌&&◌, nat_le, if◌then◌else◌, List, [], ◌∷◌, length, Option, Some, None, option_map, Result, Ok, Err, bytes_eq, codes}
use Rattle.std.specs.Str.Parse.{digits_value}
use Rattle.decimal18.specs.Bound.{Bound}
use Rattle.decimal18.specs.Literal.{are_digits}
use Rattle.line_text.specs.Words.{Word}
use Rattle.type_b.specs.Shapes.{checked, are_degrees}
use Rattle.type_b.specs.declared.shape.Shape.{Shape}
use Rattle.type_b.specs.declared.shape.Shape.TheVariants.{Exact, Std, Exp, Norm, Rect, Tri, Trap, Arcsine}
use Rattle.type_b.specs.declared.shape.Dof.{Dof}
use Rattle.type_b.specs.declared.shape.Dof.TheVariants.{Inf, Whole, Rel}
use Rattle.type_b.specs.declared.shape.ShapeFault.{ShapeFault}
use Rattle.sheet_rows.specs.Rows.{Row, Given}
use Rattle.sheet_rows.specs.Faults.{shape_fault}
use Rattle.row_text.specs.Parts.{Read, then_read, Parsed, any_word, plain_word, number_word, ended}
use Rattle.row_text.specs.declared.read_shape.ShapeKind.{ShapeKind}
use Rattle.row_text.specs.declared.read_shape.ShapeKind.TheVariants.{Exact as ExactKind, Std as StdKind, Exp as ExpKind, Norm as NormKind, Rect as RectKind, Tri as TriKind, Trap as TrapKind, Arcsine as ArcsineKind}
use Rattle.sheet_rows.specs.declared.fault.RowFault.TheVariants.{Syntax, DofRange}

-- ---- shapes
-- the kind of shape that the word names
abbrev pub kind_of : List ℕ → Option ShapeKind
kind_of text =
    if bytes_eq text (codes "exact") then Some ExactKind else
    if bytes_eq text (codes "std") then Some StdKind else
    if bytes_eq text (codes "exp") then Some ExpKind else
    if bytes_eq text (codes "norm") then Some NormKind else
    if bytes_eq text (codes "rect") then Some RectKind else
    if bytes_eq text (codes "tri") then Some TriKind else
    if bytes_eq text (codes "trap") then Some TrapKind else
    if bytes_eq text (codes "arcsine") then Some ArcsineKind else None

-- the level of confidence that the word says, in percent; 0, which is none, where it says none
abbrev pub level_of : List ℕ → ℕ
level_of text =
    if bytes_eq text (codes "90") then 90 else
    if bytes_eq text (codes "95") then 95 else
    if bytes_eq text (codes "99") then 99 else 0

-- a shape of one number
abbrev pub with_number : (Bound → Shape) → ℕ → List Word → Read (Parsed Shape)
with_number make end ws = then_read (number_word end ws) (λ a. Ok (record { item = make a.item; rest = a.rest }))

-- a shape of two numbers
abbrev pub with_numbers : (Bound → Bound → Shape) → ℕ → List Word → Read (Parsed Shape)
with_numbers make end ws =
    then_read (number_word end ws) (λ a. with_number (make a.item) end a.rest)

-- a shape of a number and a level, for which any word may stand
abbrev pub with_level : (Bound → ℕ → Shape) → ℕ → List Word → Read (Parsed Shape)
with_level make end ws =
    then_read (number_word end ws) (λ a.
    then_read (any_word level_of end a.rest) (λ level. Ok (record { item = make a.item level.item; rest = level.rest })))

-- the shape of this kind, with its parameters
abbrev pub shape_of_kind : ShapeKind → ℕ → List Word → Read (Parsed Shape)
shape_of_kind ExactKind end ws = Ok (record { item = Exact; rest = ws })
shape_of_kind StdKind end ws = with_number Std end ws
shape_of_kind ExpKind end ws = with_numbers Exp end ws
shape_of_kind NormKind end ws = with_level Norm end ws
shape_of_kind RectKind end ws = with_number Rect end ws
shape_of_kind TriKind end ws = with_number Tri end ws
shape_of_kind TrapKind end ws = with_numbers Trap end ws
shape_of_kind ArcsineKind end ws = with_number Arcsine end ws

abbrev pub shape_named : Option ShapeKind → ℕ → Word → List Word → Read (Parsed Shape)
shape_named None end w ws = Err (Syntax (w.place + 1))
shape_named (Some kind) end w ws = shape_of_kind kind end ws

abbrev pub shape_word : ℕ → List Word → Read (Parsed Shape)
shape_word end [] = Err (Syntax (end + 1))
shape_word end (w ∷ ws) = shape_named (kind_of w.text) end w ws

-- ---- degrees of freedom
-- the number that the word writes with digits, at most `most`
abbrev pub whole_of : ℕ → List ℕ → Option ℕ
whole_of most text = if are_digits text && nat_le (length text) most then Some (digits_value 10 text) else None

-- the degrees, where an input may have them
abbrev pub allowed : Option Dof → Option Dof
allowed None = None
allowed (Some dof) = if are_degrees dof then Some dof else None

-- what the word after `dof` says: a number of at most seven digits, or `inf`
abbrev pub dof_of : List ℕ → Option Dof
dof_of text = if bytes_eq text (codes "inf") then Some Inf else allowed (option_map Whole (whole_of 7 text))

-- what the word after `rel` says: a number of percent of at most two digits
abbrev pub rel_of : List ℕ → Option Dof
rel_of text = allowed (option_map Rel (whole_of 2 text))

-- `dof` or `rel` with the word after it, which may be any; infinitely many degrees where no word is left. Degrees that
-- no input may have are read as none
abbrev pub degrees_word : ℕ → List Word → Read (Parsed (Option Dof))
degrees_word end [] = Ok (record { item = Some Inf; rest = [] })
degrees_word end (w ∷ ws) =
    if bytes_eq w.text (codes "dof") then any_word dof_of end ws else
    if bytes_eq w.text (codes "rel") then any_word rel_of end ws else
    Err (Syntax (w.place + 1))

-- ---- refusals without a place
-- a shape that states an uncertainty
abbrev pub shape_checked : Result Unit ShapeFault → Read Unit
shape_checked (Ok done) = Ok done
shape_checked (Err fault) = Err (shape_fault fault)

-- degrees that were read as none are out of range
abbrev pub degrees_checked : Option Dof → Read Dof
degrees_checked None = Err DofRange
degrees_checked (Some dof) = Ok dof

-- ---- `NAME ESTIMATE SHAPE`, with or without degrees of freedom
abbrev pub given_of : ℕ → List Word → Read Row
given_of end ws =
    then_read (plain_word end ws) (λ name.
    then_read (number_word end name.rest) (λ estimate.
    then_read (shape_word end estimate.rest) (λ shape.
    then_read (degrees_word end shape.rest) (λ dof.
    then_read (ended dof.rest) (λ done.
    then_read (shape_checked (checked shape.item)) (λ fine.
    then_read (degrees_checked dof.item) (λ degrees. Ok (Given name.item estimate.item shape.item degrees))))))))
