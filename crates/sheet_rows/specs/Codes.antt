-- Rows and sheets have codes, by which a proof tells them apart: a formula is written after its parts, without
-- parentheses.
use Rattle.std.specs.Prelude.{◌≡◌, ℕ, zero, suc, ℤ, List, [], ◌∷◌, ◌++◌, Option, Some, None, refl}
use Rattle.std.specs.Coded.{Coded, code_by, coded×, coded⊎, coded_list, coded_option, coded_ℕ, coded_ℤ}
use Rattle.std.proofs.Common.{◌⊎◌, inl, inr, sym, ◌∙◌, ap}
use Rattle.std.proofs.lemmas.List.{append_assoc, append-nil}
use Rattle.decimal18.specs.Bound.{Bound, scaled}
use Rattle.type_b.specs.declared.shape.Shape.{Shape}
use Rattle.type_b.specs.declared.shape.Shape.TheVariants.{Exact, Std, Exp, Norm, Rect, Tri, Trap, Arcsine}
use Rattle.type_b.specs.declared.shape.Dof.{Dof}
use Rattle.type_b.specs.declared.shape.Dof.TheVariants.{Inf, Whole, Rel}
use Rattle.formula_ast.specs.Trees.{Tree, Number, Variable, Opposite, Joined, Raised}
use Rattle.formula_ast.specs.declared.token.Sign.{Sign}
use Rattle.formula_ast.specs.declared.token.Sign.TheVariants.{Plus, Minus, Times, Over}
use Rattle.type_a.specs.Tables.{Table}
use Rattle.guard_band.specs.declared.rule.Form.{Form}
use Rattle.guard_band.specs.declared.rule.Form.TheVariants.{Binary, Four}
use Rattle.guard_band.specs.declared.rule.Rule.{Rule}
use Rattle.sheet_rows.specs.Rows.{Row, Given, Readings, Joint, Correlation, Formula, Tolerance, Sheet}

coded_bound : Coded Bound
coded_bound = code_by (ℤ × ℕ) (coded× coded_ℤ coded_ℕ) (λ b. (b.coefficient, b.places)) (λ p. scaled p.0 p.1) (λ _. refl)

-- ---- formulas
-- a step: a number, a name, or what is made of the formulas before it
data Step : Type 0 where
  Put : Bound → Step
  Name : List ℕ → Step
  Negate : Step
  Join : Sign → Step
  Raise : ℤ → Step

number_of : Sign → ℕ
number_of Plus = 0
number_of Minus = 1
number_of Times = 2
number_of Over = 3

sign_of : ℕ → Sign
sign_of zero = Plus
sign_of (suc zero) = Minus
sign_of (suc (suc zero)) = Times
sign_of (suc (suc (suc n))) = Over

sign_again : (s : Sign) → sign_of (number_of s) ≡ s
unfolding number_of sign_of
sign_again Plus = refl
sign_again Minus = refl
sign_again Times = refl
sign_again Over = refl

abbrev Parts : Type 0
Parts = Bound ⊎ (List ℕ ⊎ (ℕ ⊎ (Option ℤ)))

parts_of : Step → Parts
parts_of (Put q) = inl q
parts_of (Name n) = inr (inl n)
parts_of (Join s) = inr (inr (inl (number_of s)))
parts_of (Raise k) = inr (inr (inr (Some k)))
parts_of Negate = inr (inr (inr None))

step_of : Parts → Step
step_of (inl q) = Put q
step_of (inr (inl n)) = Name n
step_of (inr (inr (inl n))) = Join (sign_of n)
step_of (inr (inr (inr (Some k)))) = Raise k
step_of (inr (inr (inr None))) = Negate

step_again : (s : Step) → step_of (parts_of s) ≡ s
unfolding parts_of step_of
step_again (Put q) = refl
step_again (Name n) = refl
step_again (Join s) = ap Join (sign_again s)
step_again (Raise k) = refl
step_again Negate = refl

coded_step : Coded Step
coded_step =
    code_by Parts (coded⊎ coded_bound (coded⊎ (coded_list coded_ℕ) (coded⊎ coded_ℕ (coded_option coded_ℤ)))) parts_of step_of step_again

steps_of : Tree → List Step
steps_of (Number q) = Put q ∷ []
steps_of (Variable n) = Name n ∷ []
steps_of (Opposite a) = steps_of a ++ Negate ∷ []
steps_of (Joined s a b) = steps_of a ++ (steps_of b ++ Join s ∷ [])
steps_of (Raised a k) = steps_of a ++ Raise k ∷ []

-- the formulas that steps leave, the newest first
after : List Step → List Tree → List Tree
after [] made = made
after (Put q ∷ steps) made = after steps (Number q ∷ made)
after (Name n ∷ steps) made = after steps (Variable n ∷ made)
after (Negate ∷ steps) [] = []
after (Negate ∷ steps) (a ∷ made) = after steps (Opposite a ∷ made)
after (Raise k ∷ steps) [] = []
after (Raise k ∷ steps) (a ∷ made) = after steps (Raised a k ∷ made)
after (Join s ∷ steps) [] = []
after (Join s ∷ steps) (b ∷ []) = []
after (Join s ∷ steps) (b ∷ a ∷ made) = after steps (Joined s a b ∷ made)

first_of : List Tree → Tree
first_of [] = Variable []
first_of (f ∷ made) = f

tree_after : List Step → Tree
tree_after steps = first_of (after steps [])

after-steps_of : (f : Tree) (steps : List Step) (made : List Tree) → after (steps_of f ++ steps) made ≡ after steps (f ∷ made)
unfolding steps_of after
after-steps_of (Number q) steps made = refl
after-steps_of (Variable n) steps made = refl
after-steps_of (Opposite a) steps made =
    ap (λ xs. after xs made) (append_assoc (steps_of a) (Negate ∷ []) steps) ∙ after-steps_of a (Negate ∷ steps) made
after-steps_of (Joined s a b) steps made =
    ap (λ xs. after xs made) (append_assoc (steps_of a) (steps_of b ++ Join s ∷ []) steps)
    ∙ after-steps_of a ((steps_of b ++ Join s ∷ []) ++ steps) made
    ∙ ap (λ xs. after xs (a ∷ made)) (append_assoc (steps_of b) (Join s ∷ []) steps)
    ∙ after-steps_of b (Join s ∷ steps) (a ∷ made)
after-steps_of (Raised a k) steps made =
    ap (λ xs. after xs made) (append_assoc (steps_of a) (Raise k ∷ []) steps) ∙ after-steps_of a (Raise k ∷ steps) made

tree_again : (f : Tree) → tree_after (steps_of f) ≡ f
unfolding tree_after first_of after
tree_again f =
    ap (λ steps. first_of (after steps [])) (sym (append-nil (steps_of f)))
    ∙ ap first_of (after-steps_of f [] [])

coded_tree : Coded Tree
coded_tree = code_by (List Step) (coded_list coded_step) steps_of tree_after tree_again

-- ---- rows
-- a shape: at most one number, two numbers, or a number and a level
abbrev ShapeParts : Type 0
ShapeParts = Option Bound ⊎ (Bound ⊎ (Bound ⊎ (Bound ⊎ ((Bound × Bound) ⊎ ((Bound × Bound) ⊎ (Bound × ℕ))))))

parts_of_shape : Shape → ShapeParts
parts_of_shape Exact = inl None
parts_of_shape (Std u) = inl (Some u)
parts_of_shape (Rect half) = inr (inl half)
parts_of_shape (Tri half) = inr (inr (inl half))
parts_of_shape (Arcsine half) = inr (inr (inr (inl half)))
parts_of_shape (Exp expanded k) = inr (inr (inr (inr (inl (expanded, k)))))
parts_of_shape (Trap half beta) = inr (inr (inr (inr (inr (inl (half, beta))))))
parts_of_shape (Norm half level) = inr (inr (inr (inr (inr (inr (half, level))))))

shape_of : ShapeParts → Shape
shape_of (inl None) = Exact
shape_of (inl (Some u)) = Std u
shape_of (inr (inl half)) = Rect half
shape_of (inr (inr (inl half))) = Tri half
shape_of (inr (inr (inr (inl half)))) = Arcsine half
shape_of (inr (inr (inr (inr (inl (expanded, k)))))) = Exp expanded k
shape_of (inr (inr (inr (inr (inr (inl (half, beta))))))) = Trap half beta
shape_of (inr (inr (inr (inr (inr (inr (half, level))))))) = Norm half level

shape_again : (s : Shape) → shape_of (parts_of_shape s) ≡ s
unfolding parts_of_shape shape_of
shape_again Exact = refl
shape_again (Std u) = refl
shape_again (Rect half) = refl
shape_again (Tri half) = refl
shape_again (Arcsine half) = refl
shape_again (Exp expanded k) = refl
shape_again (Trap half beta) = refl
shape_again (Norm half level) = refl

coded_shape : Coded Shape
coded_shape =
    code_by ShapeParts
    (coded⊎ (coded_option coded_bound) (coded⊎ coded_bound (coded⊎ coded_bound (coded⊎ coded_bound
    (coded⊎ (coded× coded_bound coded_bound) (coded⊎ (coded× coded_bound coded_bound) (coded× coded_bound coded_ℕ)))))))
    parts_of_shape shape_of shape_again

abbrev DofParts : Type 0
DofParts = Option (ℕ ⊎ ℕ)

parts_of_dof : Dof → DofParts
parts_of_dof Inf = None
parts_of_dof (Whole n) = Some (inl n)
parts_of_dof (Rel percent) = Some (inr percent)

dof_of : DofParts → Dof
dof_of None = Inf
dof_of (Some (inl n)) = Whole n
dof_of (Some (inr percent)) = Rel percent

dof_again : (d : Dof) → dof_of (parts_of_dof d) ≡ d
unfolding parts_of_dof dof_of
dof_again Inf = refl
dof_again (Whole n) = refl
dof_again (Rel percent) = refl

coded_dof : Coded Dof
coded_dof = code_by DofParts (coded_option (coded⊎ coded_ℕ coded_ℕ)) parts_of_dof dof_of dof_again

-- the rule of a tolerance: a form by its number, beside the three numbers
number_of_form : Form → ℕ
number_of_form Binary = 0
number_of_form Four = 1

form_of : ℕ → Form
form_of zero = Binary
form_of (suc n) = Four

form_again : (form : Form) → form_of (number_of_form form) ≡ form
unfolding number_of_form form_of
form_again Binary = refl
form_again Four = refl

coded_form : Coded Form
coded_form = code_by ℕ coded_ℕ number_of_form form_of form_again

coded_rule : Coded Rule
coded_rule =
    code_by (Option Bound × (Option Bound × (Bound × Form)))
    (coded× (coded_option coded_bound) (coded× (coded_option coded_bound) (coded× coded_bound coded_form)))
    (λ rule. (rule.lower, (rule.upper, (rule.guard, rule.form))))
    (λ parts. record { lower = parts.0; upper = parts.1.0; guard = parts.1.1.0; form = parts.1.1.1 }) (λ _. refl)

abbrev Fields : Type 0
Fields =
    (List ℕ × (Bound × (Shape × Dof)))
    ⊎ ((List ℕ × Table) ⊎ ((List ℕ × (List (List ℕ) × Table)) ⊎ ((List ℕ × (List ℕ × (List ℕ × Bound))) ⊎ ((List ℕ × Tree) ⊎ (List ℕ × Rule)))))

fields_of : Row → Fields
fields_of (Given name estimate shape dof) = inl (name, (estimate, (shape, dof)))
fields_of (Readings name table) = inr (inl (name, table))
fields_of (Joint name columns table) = inr (inr (inl (name, (columns, table))))
fields_of (Correlation name first second coefficient) = inr (inr (inr (inl (name, (first, (second, coefficient))))))
fields_of (Formula name formula) = inr (inr (inr (inr (inl (name, formula)))))
fields_of (Tolerance name rule) = inr (inr (inr (inr (inr (name, rule)))))

row_of_fields : Fields → Row
row_of_fields (inl (name, (estimate, (shape, dof)))) = Given name estimate shape dof
row_of_fields (inr (inl (name, table))) = Readings name table
row_of_fields (inr (inr (inl (name, (columns, table))))) = Joint name columns table
row_of_fields (inr (inr (inr (inl (name, (first, (second, coefficient))))))) = Correlation name first second coefficient
row_of_fields (inr (inr (inr (inr (inl (name, formula)))))) = Formula name formula
row_of_fields (inr (inr (inr (inr (inr (name, rule)))))) = Tolerance name rule

row_again : (row : Row) → row_of_fields (fields_of row) ≡ row
unfolding fields_of row_of_fields
row_again (Given name estimate shape dof) = refl
row_again (Readings name table) = refl
row_again (Joint name columns table) = refl
row_again (Correlation name first second coefficient) = refl
row_again (Formula name formula) = refl
row_again (Tolerance name rule) = refl

pub coded_row : Coded Row
coded_row =
    code_by Fields
    (coded⊎ (coded× (coded_list coded_ℕ) (coded× coded_bound (coded× coded_shape coded_dof)))
    (coded⊎ (coded× (coded_list coded_ℕ) (coded_list (coded_list coded_bound)))
    (coded⊎ (coded× (coded_list coded_ℕ) (coded× (coded_list (coded_list coded_ℕ)) (coded_list (coded_list coded_bound))))
    (coded⊎ (coded× (coded_list coded_ℕ) (coded× (coded_list coded_ℕ) (coded× (coded_list coded_ℕ) coded_bound)))
    (coded⊎ (coded× (coded_list coded_ℕ) coded_tree) (coded× (coded_list coded_ℕ) coded_rule))))))
    fields_of row_of_fields row_again

-- ---- sheets
pub coded_sheet : Coded Sheet
coded_sheet = code_by (List Row) (coded_list coded_row) (λ sheet. sheet.rows) (λ rows. record { rows = rows }) (λ _. refl)
