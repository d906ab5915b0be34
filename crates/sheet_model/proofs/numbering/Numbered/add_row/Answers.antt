use Rattle.std.proofs.Common.{ℕ, ◌<◌, List, OnOk, ◌∷◌, [], arith, sym, ap, subst, refl}
use Rattle.formula_ast.specs.Views.{tree_of}
use Rattle.formula_ast.specs.Printing.{print}
use Rattle.formula_ast.proofs.Exponents.{read_exponents}
use Rattle.type_a.specs.Tables.{width_of}
use Rattle.sheet_rows.specs.Rows.{row_of}
use Rattle.sheet_rows.specs.Regular.{IsRegular}
use Rattle.value_cache.specs.Quantities.{Input, Column, Quantity}
use Rattle.sheet_model.specs.Quantities.{row_quantities}
use Rattle.sheet_model.specs.Numbering.{Takes}
use Rattle.sheet_model.proofs.Kept.{takes_on}
use Rattle.sheet_model.proofs.numbering.Numbered.add_row.Goals as goal

pub add_formula-requires-clause-exponents : goal.add_formula-requires-clause-exponents
add_formula-requires-clause-exponents c =
    let regular = subst (λ row. IsRegular (row_of row)) c.in-Formula.is c.requires.regular in
    read_exponents (print (tree_of c.in-Formula.formula.value)) (tree_of c.in-Formula.formula.value) regular.1

pub returns-in-Given : goal.returns-in-Given
returns-in-Given c =
    let q : Quantity (List ℕ) = record { key = c.in-Given.name; body = Input c.in-Given.estimate } in
    subst (λ row. OnOk c.add.result (Takes c.args.self.now (row_quantities (row_of row)) c.add.new.self)) (sym c.in-Given.is)
    (takes_on c.add.result c.args.self.now c.add.new.self (q ∷ [])
    (λ all before are next. c.add.ensures all before q are next (record { key = refl; renamed = refl; placeable = tt })))

pub returns-in_ok-clone-in-Readings : goal.returns-in_ok-clone-in-Readings
returns-in_ok-clone-in-Readings c =
    let regular = subst (λ row. IsRegular (row_of row)) c.in-Readings.is c.requires.regular in
    let within : 0 < width_of c.in_ok-clone-in-Readings.field-0.value = subst (λ t. 0 < width_of t) (sym c.in_ok-clone-in-Readings.ensures.cases) (omega (arith, regular.2)) in
    let q : Quantity (List ℕ) = record { key = c.in-Readings.name; body = Column c.in-Readings.readings.value 0 } in
    subst (λ row. OnOk c.add-in-Readings.result (Takes c.args.self.now (row_quantities (row_of row)) c.add-in-Readings.new.self)) (sym c.in-Readings.is)
    (takes_on c.add-in-Readings.result c.args.self.now c.add-in-Readings.new.self (q ∷ [])
    (λ all before are next. c.add-in-Readings.ensures all before q are next
    (record { key = refl; renamed = ap (λ t. Column t 0) c.in_ok-clone-in-Readings.ensures.cases; placeable = within })))
