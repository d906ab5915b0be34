-- Small sheets, by which the definitions can be read. A name is a letter, by its number in ASCII: A is 65.
use Rattle.std.specs.Prelude.{ℕ, List, [], ◌∷◌, ◌++◌, map, pos, None, Some}
use Rattle.decimal18.specs.Bound.{Bound, scaled}
use Rattle.formula_ast.specs.Trees.{Variable}
use Rattle.type_b.specs.declared.shape.Shape.TheVariants.{Std, Rect}
use Rattle.type_b.specs.declared.shape.Dof.TheVariants.{Inf, Whole}
use Rattle.guard_band.specs.declared.rule.Form.TheVariants.{Binary}
use Rattle.sheet_rows.specs.Rows.{Row, Sheet, Given, Readings, Joint, Correlation, Formula, Tolerance, column_name}

abbrev pub named : ℕ → List ℕ
named letter = letter ∷ []

abbrev pub whole : ℕ → Bound
whole n = scaled (pos n) 0

-- an input with a standard deviation of 1, and one that states half a width
abbrev pub std : ℕ → Row
std letter = Given (named letter) (whole 10) (Std (whole 1)) Inf

abbrev pub rect : ℕ → Row
rect letter = Given (named letter) (whole 10) (Rect (whole 1)) Inf

-- as `std`, with five degrees of freedom
abbrev pub std_of_five : ℕ → Row
std_of_five letter = Given (named letter) (whole 10) (Std (whole 1)) (Whole 5)

-- an input with the readings 1 and 2
abbrev pub readings : ℕ → Row
readings letter = Readings (named letter) ((whole 1 ∷ []) ∷ (whole 2 ∷ []) ∷ [])

-- inputs with the joint readings 1 and 2 each, in these columns
abbrev pub table : ℕ → List ℕ → Row
table letter columns = Joint (named letter) (map named columns) (map (λ c. whole 1) columns ∷ map (λ c. whole 2) columns ∷ [])

-- the quantity that is a column of a table
abbrev pub same_as_column : ℕ → ℕ → ℕ → Row
same_as_column letter other column = Formula (named letter) (Variable (column_name (named other) (named column)))

-- the correlation of two inputs, in tenths
abbrev pub correlation : ℕ → ℕ → ℕ → ℕ → Row
correlation letter first second tenths = Correlation (named letter) (named first) (named second) (scaled (pos tenths) 1)

-- the rule with this upper limit alone, and a guard band of one expanded uncertainty
abbrev pub at_most : ℕ → ℕ → Row
at_most letter limit = Tolerance (named letter) (record { lower = None; upper = Some (whole limit); guard = whole 1; form = Binary })

-- the quantity that is another one
abbrev pub same_as : ℕ → ℕ → Row
same_as letter other = Formula (named letter) (Variable (named other))

abbrev pub sheet : List Row → Sheet
sheet rows = record { rows = rows }

-- the inputs A, B and C, of which B and C may be correlated
abbrev pub inputs : List Row
inputs = rect 65 ∷ std 66 ∷ std 67 ∷ []

-- their correlation P
abbrev pub correlated : List Row
correlated = inputs ++ correlation 80 66 67 5 ∷ []

-- and the inputs D and E
abbrev pub more_inputs : List Row
more_inputs = correlated ++ std 68 ∷ std 69 ∷ []
