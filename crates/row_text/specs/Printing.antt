-- The printed text of a row: single blanks between its words, and numbers in their own form. A table is printed as
-- the line that opens it, its block and the line that ends it: fields with commas between them, without blanks or quotes.
use Rattle.std.specs.Prelude.{ℕ, List, [], ◌∷◌, ◌++◌, map, get_or, Option, None, Some, pos, codes, decimal}
use Rattle.std.specs.List.{join_with_byte}
use Rattle.csv.specs.Writing.{comma}
use Rattle.decimal18.specs.Bound.{Bound, scaled}
use Rattle.decimal18.specs.Text.{text_of}
use Rattle.formula_ast.specs.Printing.{print}
use Rattle.type_b.specs.declared.shape.Shape.{Shape}
use Rattle.type_b.specs.declared.shape.Shape.TheVariants.{Exact, Std, Exp, Norm, Rect, Tri, Trap, Arcsine}
use Rattle.type_b.specs.declared.shape.Dof.{Dof}
use Rattle.type_b.specs.declared.shape.Dof.TheVariants.{Inf, Whole, Rel}
use Rattle.type_a.specs.Tables.{Record, Table}
use Rattle.guard_band.specs.declared.rule.Form.{Form}
use Rattle.guard_band.specs.declared.rule.Form.TheVariants.{Binary, Four}
use Rattle.guard_band.specs.declared.rule.Rule.{Rule}
use Rattle.sheet_rows.specs.Rows.{Row, Given, Readings, Joint, Correlation, Formula, Tolerance}

abbrev pub shape_text : Shape → List ℕ
shape_text Exact = codes "exact"
shape_text (Std u) = codes "std " ++ text_of u
shape_text (Exp expanded k) = codes "exp " ++ text_of expanded ++ codes " " ++ text_of k
shape_text (Norm half level) = codes "norm " ++ text_of half ++ codes " " ++ decimal level
shape_text (Rect half) = codes "rect " ++ text_of half
shape_text (Tri half) = codes "tri " ++ text_of half
shape_text (Trap half beta) = codes "trap " ++ text_of half ++ codes " " ++ text_of beta
shape_text (Arcsine half) = codes "arcsine " ++ text_of half

-- nothing where they are infinitely many
abbrev pub degrees_text : Dof → List ℕ
degrees_text Inf = []
degrees_text (Whole n) = codes " dof " ++ decimal n
degrees_text (Rel percent) = codes " rel " ++ decimal percent

-- the readings of a table of one column
abbrev pub one_column : Table → List Bound
one_column t = map (λ r. get_or r 0 (scaled (pos 0) 0)) t

-- the numbers, each after a blank
abbrev pub numbers_text : List Bound → List ℕ
numbers_text [] = []
numbers_text (b ∷ bs) = codes " " ++ text_of b ++ numbers_text bs

-- ---- tables
-- the fields of a record
abbrev pub number_fields : Record → List (List ℕ)
number_fields r = map (λ b. text_of b) r

-- a line of fields
abbrev pub line_of_fields : List (List ℕ) → List ℕ
line_of_fields fields = join_with_byte comma fields ++ codes "\n"

-- the records, a line each
abbrev pub records_text : Table → List ℕ
records_text [] = []
records_text (r ∷ rs) = line_of_fields (number_fields r) ++ records_text rs

-- the line that opens a table
abbrev pub head_text : List ℕ → List ℕ
head_text name = codes "table " ++ name

-- the lines of its block
abbrev pub block_text : List (List ℕ) → Table → List ℕ
block_text columns t = line_of_fields columns ++ records_text t

-- ---- rules of conformity
-- the limit after this word, where there is one
abbrev pub limit_text : List ℕ → Option Bound → List ℕ
limit_text word None = []
limit_text word (Some limit) = word ++ text_of limit

-- nothing for two outcomes
abbrev pub form_text : Form → List ℕ
form_text Binary = []
form_text Four = codes " four"

abbrev pub rule_text : Rule → List ℕ
rule_text rule =
    limit_text (codes " lower ") rule.lower ++ limit_text (codes " upper ") rule.upper ++ codes " guard " ++ text_of rule.guard
    ++ form_text rule.form

-- ---- rows
abbrev pub printed : Row → List ℕ
printed (Given name estimate shape dof) =
    codes "given " ++ name ++ codes " " ++ text_of estimate ++ codes " " ++ shape_text shape ++ degrees_text dof
printed (Readings name table) = codes "readings " ++ name ++ numbers_text (one_column table)
printed (Joint name columns table) = head_text name ++ codes "\n" ++ block_text columns table ++ codes "end"
printed (Correlation name first second coefficient) =
    codes "corr " ++ name ++ codes " " ++ first ++ codes " " ++ second ++ codes " " ++ text_of coefficient
printed (Formula name f) = codes "let " ++ name ++ codes " = " ++ print f
printed (Tolerance name rule) = codes "tol " ++ name ++ rule_text rule
