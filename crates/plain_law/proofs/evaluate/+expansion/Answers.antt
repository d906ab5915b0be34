use Rattle.std.specs.Prelude.{nat_eq, refl}
use Rattle.std.specs.Option.{is_some}
use Rattle.std.proofs.lemmas.Int.{to_z-of_z}
use Rattle.std.proofs.Common.{rules, w8, sym, ◌∙◌, ap, ap₂, arith}
use Rattle.exact_law.specs.Model.{Neg, Add, Sub, Mul, Div, Pow, estimate, is_input, expansion, replaced, unit}
use Rattle.plain_law.specs.Numbers.{number}
use Rattle.plain_law.specs.Models.{expression, rows}
use Rattle.plain_law.proofs.Sizes.{model_size, size}
use Rattle.plain_law.proofs.Expansions.{looked_up, looked_past, body_of-found, body_of-missing, formula_size, falls, expansion-formula, expansion-input, expansion-missing, expansion-zero, estimate-input, is_input-input, is_input-formula, is_input-missing, key_jet, key_undefined, number_jet, along, along_jet, failed, add_left, add_right, sub_left, sub_right, mul_left, mul_right, div_left, div_right, neg_part, pow_part, replaced_add, replaced_sub, replaced_mul, replaced_div, replaced_neg, replaced_pow, replaced_key, replaced_num}
use Rattle.plain_law.proofs.evaluate.+expansion.Goals as goal

pub jet_at-jet_of-requires : goal.jet_at-jet_of-requires
jet_at-jet_of-requires t c =
    let m = c.args.model.now in
    let at = looked_up m c.args.key c.in-Some-Formula.field-0.now c.in-Some-Formula.ensures.lookup.0 c.in-Some-Formula.ensures.lookup.1 in
    let l = falls c.args.depth (model_size m) (size c.in-Some-Formula.formula) c.if-depth-gt0.true
    (formula_size m c.args.key c.in-Some-Formula.field-0.now c.in-Some-Formula.formula at c.in-Some-Formula.field-0-is) in
    (search (rules, l), tt)

pub jet_at-returns-then-depth-gt0 : goal.jet_at-returns-then-depth-gt0
jet_at-returns-then-depth-gt0 t c =
    let m = c.args.model.now in
    let at = looked_up m c.args.key c.in-Some-Formula.field-0.now c.in-Some-Formula.ensures.lookup.0 c.in-Some-Formula.ensures.lookup.1 in
    along _ _ _ _ _ _
    (expansion-formula (rows m) c.args.depth c.args.key (expression c.in-Some-Formula.formula) c.if-depth-gt0.true
    (body_of-found m c.args.key c.in-Some-Formula.field-0.now _ at c.in-Some-Formula.field-0-is))
    c.jet_of.ensures

pub jet_at-returns-else-depth-gt0 : goal.jet_at-returns-else-depth-gt0
jet_at-returns-else-depth-gt0 t c =
    let m = c.args.model.now in
    let k = c.args.key in
    let f = c.in-Some-Formula in
    let at = body_of-found m k f.field-0.now _ (looked_up m k f.field-0.now f.ensures.lookup.0 f.ensures.lookup.1) f.field-0-is in
    key_undefined (estimate nat_eq (rows m)) (is_input nat_eq (rows m)) _ k (expansion-zero (rows m) c.args.depth k (omega (arith, c.if-depth-gt0.false)))
    (is_input-formula (rows m) k (expression f.formula) at)

pub jet_at-returns-in-Some-Input : goal.jet_at-returns-in-Some-Input
jet_at-returns-in-Some-Input t c =
    let m = c.args.model.now in
    let k = c.args.key in
    let f = c.in-Some-Input in
    let at = body_of-found m k f.field-0.now _ (looked_up m k f.field-0.now f.ensures.lookup.0 f.ensures.lookup.1) f.field-0-is in
    key_jet (estimate nat_eq (rows m)) (unit nat_eq c.args.along) (is_input nat_eq (rows m)) _ k _
    (expansion-input (rows m) c.args.depth k (number f.estimate) at) (is_input-input (rows m) k (number f.estimate) at)
    (estimate-input (rows m) k (number f.estimate) at) c.unit.ensures

pub jet_at-returns-in-None : goal.jet_at-returns-in-None
jet_at-returns-in-None t c =
    let m = c.args.model.now in
    let k = c.args.key in
    let at = body_of-missing m k (looked_past m k (ap is_some (sym c.in-None.is) ∙ c.get.ensures.lookup.0)) in
    key_undefined (estimate nat_eq (rows m)) (is_input nat_eq (rows m)) _ k (expansion-missing (rows m) c.args.depth k at) (is_input-missing (rows m) k at)

pub jet_of-returns-in_err-jet_of-in-Neg : goal.jet_of-returns-in_err-jet_of-in-Neg
jet_of-returns-in_err-jet_of-in-Neg t c =
    failed (estimate nat_eq (rows c.args.model.now)) (unit nat_eq c.args.along) (is_input nat_eq (rows c.args.model.now)) (replaced (expansion nat_eq (rows c.args.model.now) c.args.depth) (expression c.deref.result.now)) _ _ _ _ c.from_residual.ensures.1
    (replaced_neg (expansion nat_eq (rows c.args.model.now) c.args.depth) (expression c.args.formula.now) (expression c.deref.result.now) (ap expression c.in-Neg.is ∙ ap (λ a. Neg (expression a)) (sym c.deref.ensures)))
    (neg_part (estimate nat_eq (rows c.args.model.now)) (is_input nat_eq (rows c.args.model.now)) (replaced (expansion nat_eq (rows c.args.model.now) c.args.depth) (expression c.deref.result.now))) c.in_err-jet_of-in-Neg.ensures

pub jet_of-returns-in_ok-jet_of-in-Neg : goal.jet_of-returns-in_ok-jet_of-in-Neg
jet_of-returns-in_ok-jet_of-in-Neg t c =
    along_jet (estimate nat_eq (rows c.args.model.now)) (unit nat_eq c.args.along) (is_input nat_eq (rows c.args.model.now)) _ _ _
    (replaced_neg (expansion nat_eq (rows c.args.model.now) c.args.depth) (expression c.args.formula.now) (expression c.deref.result.now) (ap expression c.in-Neg.is ∙ ap (λ a. Neg (expression a)) (sym c.deref.ensures)))
    (c.negative.ensures (estimate nat_eq (rows c.args.model.now)) (unit nat_eq c.args.along) (is_input nat_eq (rows c.args.model.now)) _ c.in_ok-jet_of-in-Neg.ensures)

pub jet_of-returns-in_err-jet_of-in-Pow : goal.jet_of-returns-in_err-jet_of-in-Pow
jet_of-returns-in_err-jet_of-in-Pow t c =
    failed (estimate nat_eq (rows c.args.model.now)) (unit nat_eq c.args.along) (is_input nat_eq (rows c.args.model.now)) (replaced (expansion nat_eq (rows c.args.model.now) c.args.depth) (expression c.deref-in-Pow.result.now)) _ _ _ _ c.from_residual-in_err-jet_of-in-Pow.ensures.1
    (replaced_pow (expansion nat_eq (rows c.args.model.now) c.args.depth) (expression c.args.formula.now) (expression c.deref-in-Pow.result.now) c.in-Pow.exponent (ap expression c.in-Pow.is ∙ ap (λ a. Pow (expression a) c.in-Pow.exponent) (sym c.deref-in-Pow.ensures)))
    (pow_part (estimate nat_eq (rows c.args.model.now)) (is_input nat_eq (rows c.args.model.now)) (replaced (expansion nat_eq (rows c.args.model.now) c.args.depth) (expression c.deref-in-Pow.result.now)) _) c.in_err-jet_of-in-Pow.ensures

pub jet_of-returns-in_ok-jet_of-in-Pow : goal.jet_of-returns-in_ok-jet_of-in-Pow
jet_of-returns-in_ok-jet_of-in-Pow t c =
    along (estimate nat_eq (rows c.args.model.now)) (unit nat_eq c.args.along) (is_input nat_eq (rows c.args.model.now)) _ _ _
    (replaced_pow (expansion nat_eq (rows c.args.model.now) c.args.depth) (expression c.args.formula.now) (expression c.deref-in-Pow.result.now)
    c.in-Pow.exponent (ap expression c.in-Pow.is ∙ ap (λ a. Pow (expression a) c.in-Pow.exponent) (sym c.deref-in-Pow.ensures))
    ∙ ap (λ n. Pow (replaced (expansion nat_eq (rows c.args.model.now) c.args.depth) (expression c.deref-in-Pow.result.now)) n)
    (sym (to_z-of_z w8 c.in-Pow.exponent (search rules))))
    (c.power.ensures (estimate nat_eq (rows c.args.model.now)) (unit nat_eq c.args.along) (is_input nat_eq (rows c.args.model.now)) _ c.in_ok-jet_of-in-Pow.ensures)

pub jet_of-returns-in_err-left-in-Add : goal.jet_of-returns-in_err-left-in-Add
jet_of-returns-in_err-left-in-Add t c =
    failed (estimate nat_eq (rows c.args.model.now)) (unit nat_eq c.args.along) (is_input nat_eq (rows c.args.model.now)) (replaced (expansion nat_eq (rows c.args.model.now) c.args.depth) (expression c.deref-in-Add.result.now)) _ _ _ _ c.from_residual-in_err-left-in-Add.ensures.1
    (replaced_add (expansion nat_eq (rows c.args.model.now) c.args.depth) (expression c.args.formula.now) (expression c.deref-in-Add.result.now) (expression c.in-Add.b.value)
    (ap expression c.in-Add.is ∙ ap (λ a. Add (expression a) (expression c.in-Add.b.value)) (sym c.deref-in-Add.ensures)))
    (add_left (estimate nat_eq (rows c.args.model.now)) (is_input nat_eq (rows c.args.model.now)) (replaced (expansion nat_eq (rows c.args.model.now) c.args.depth) (expression c.deref-in-Add.result.now)) _) c.in_err-left-in-Add.ensures

pub jet_of-returns-in_err-jet_of-in-Add : goal.jet_of-returns-in_err-jet_of-in-Add
jet_of-returns-in_err-jet_of-in-Add t c =
    failed (estimate nat_eq (rows c.args.model.now)) (unit nat_eq c.args.along) (is_input nat_eq (rows c.args.model.now)) (replaced (expansion nat_eq (rows c.args.model.now) c.args.depth) (expression c.deref-in-Add-2.result.now)) _ _ _ _ c.from_residual-in_err-jet_of-in-Add.ensures.1
    (replaced_add (expansion nat_eq (rows c.args.model.now) c.args.depth) (expression c.args.formula.now) (expression c.deref-in-Add.result.now) (expression c.deref-in-Add-2.result.now)
    (ap expression c.in-Add.is ∙ ap₂ (λ a b. Add (expression a) (expression b)) (sym c.deref-in-Add.ensures) (sym c.deref-in-Add-2.ensures)))
    (add_right (estimate nat_eq (rows c.args.model.now)) (is_input nat_eq (rows c.args.model.now)) _ (replaced (expansion nat_eq (rows c.args.model.now) c.args.depth) (expression c.deref-in-Add-2.result.now))) c.in_err-jet_of-in-Add.ensures

pub jet_of-returns-in_ok-jet_of-in-Add : goal.jet_of-returns-in_ok-jet_of-in-Add
jet_of-returns-in_ok-jet_of-in-Add t c =
    along (estimate nat_eq (rows c.args.model.now)) (unit nat_eq c.args.along) (is_input nat_eq (rows c.args.model.now)) _ _ _
    (replaced_add (expansion nat_eq (rows c.args.model.now) c.args.depth) (expression c.args.formula.now) (expression c.deref-in-Add.result.now) (expression c.deref-in-Add-2.result.now) (ap expression c.in-Add.is ∙ ap₂ (λ a b. Add (expression a) (expression b)) (sym c.deref-in-Add.ensures) (sym c.deref-in-Add-2.ensures)))
    (c.fitted.ensures (estimate nat_eq (rows c.args.model.now)) (unit nat_eq c.args.along) (is_input nat_eq (rows c.args.model.now)) _ (c.sum.ensures (estimate nat_eq (rows c.args.model.now)) (unit nat_eq c.args.along) (is_input nat_eq (rows c.args.model.now)) _ _ c.in_ok-left-in-Add.ensures c.in_ok-jet_of-in-Add.ensures))

pub jet_of-returns-in_err-left-in-Sub : goal.jet_of-returns-in_err-left-in-Sub
jet_of-returns-in_err-left-in-Sub t c =
    failed (estimate nat_eq (rows c.args.model.now)) (unit nat_eq c.args.along) (is_input nat_eq (rows c.args.model.now)) (replaced (expansion nat_eq (rows c.args.model.now) c.args.depth) (expression c.deref-in-Sub.result.now)) _ _ _ _ c.from_residual-in_err-left-in-Sub.ensures.1
    (replaced_sub (expansion nat_eq (rows c.args.model.now) c.args.depth) (expression c.args.formula.now) (expression c.deref-in-Sub.result.now) (expression c.in-Sub.b.value)
    (ap expression c.in-Sub.is ∙ ap (λ a. Sub (expression a) (expression c.in-Sub.b.value)) (sym c.deref-in-Sub.ensures)))
    (sub_left (estimate nat_eq (rows c.args.model.now)) (is_input nat_eq (rows c.args.model.now)) (replaced (expansion nat_eq (rows c.args.model.now) c.args.depth) (expression c.deref-in-Sub.result.now)) _) c.in_err-left-in-Sub.ensures

pub jet_of-returns-in_err-jet_of-in-Sub : goal.jet_of-returns-in_err-jet_of-in-Sub
jet_of-returns-in_err-jet_of-in-Sub t c =
    failed (estimate nat_eq (rows c.args.model.now)) (unit nat_eq c.args.along) (is_input nat_eq (rows c.args.model.now)) (replaced (expansion nat_eq (rows c.args.model.now) c.args.depth) (expression c.deref-in-Sub-2.result.now)) _ _ _ _ c.from_residual-in_err-jet_of-in-Sub.ensures.1
    (replaced_sub (expansion nat_eq (rows c.args.model.now) c.args.depth) (expression c.args.formula.now) (expression c.deref-in-Sub.result.now) (expression c.deref-in-Sub-2.result.now)
    (ap expression c.in-Sub.is ∙ ap₂ (λ a b. Sub (expression a) (expression b)) (sym c.deref-in-Sub.ensures) (sym c.deref-in-Sub-2.ensures)))
    (sub_right (estimate nat_eq (rows c.args.model.now)) (is_input nat_eq (rows c.args.model.now)) _ (replaced (expansion nat_eq (rows c.args.model.now) c.args.depth) (expression c.deref-in-Sub-2.result.now))) c.in_err-jet_of-in-Sub.ensures

pub jet_of-returns-in_ok-jet_of-in-Sub : goal.jet_of-returns-in_ok-jet_of-in-Sub
jet_of-returns-in_ok-jet_of-in-Sub t c =
    along (estimate nat_eq (rows c.args.model.now)) (unit nat_eq c.args.along) (is_input nat_eq (rows c.args.model.now)) _ _ _
    (replaced_sub (expansion nat_eq (rows c.args.model.now) c.args.depth) (expression c.args.formula.now) (expression c.deref-in-Sub.result.now) (expression c.deref-in-Sub-2.result.now) (ap expression c.in-Sub.is ∙ ap₂ (λ a b. Sub (expression a) (expression b)) (sym c.deref-in-Sub.ensures) (sym c.deref-in-Sub-2.ensures)))
    (c.fitted-in-Sub.ensures (estimate nat_eq (rows c.args.model.now)) (unit nat_eq c.args.along) (is_input nat_eq (rows c.args.model.now)) _ (c.difference.ensures (estimate nat_eq (rows c.args.model.now)) (unit nat_eq c.args.along) (is_input nat_eq (rows c.args.model.now)) _ _ c.in_ok-left-in-Sub.ensures c.in_ok-jet_of-in-Sub.ensures))

pub jet_of-returns-in_err-left-in-Mul : goal.jet_of-returns-in_err-left-in-Mul
jet_of-returns-in_err-left-in-Mul t c =
    failed (estimate nat_eq (rows c.args.model.now)) (unit nat_eq c.args.along) (is_input nat_eq (rows c.args.model.now)) (replaced (expansion nat_eq (rows c.args.model.now) c.args.depth) (expression c.deref-in-Mul.result.now)) _ _ _ _ c.from_residual-in_err-left-in-Mul.ensures.1
    (replaced_mul (expansion nat_eq (rows c.args.model.now) c.args.depth) (expression c.args.formula.now) (expression c.deref-in-Mul.result.now) (expression c.in-Mul.b.value)
    (ap expression c.in-Mul.is ∙ ap (λ a. Mul (expression a) (expression c.in-Mul.b.value)) (sym c.deref-in-Mul.ensures)))
    (mul_left (estimate nat_eq (rows c.args.model.now)) (is_input nat_eq (rows c.args.model.now)) (replaced (expansion nat_eq (rows c.args.model.now) c.args.depth) (expression c.deref-in-Mul.result.now)) _) c.in_err-left-in-Mul.ensures

pub jet_of-returns-in_err-jet_of-in-Mul : goal.jet_of-returns-in_err-jet_of-in-Mul
jet_of-returns-in_err-jet_of-in-Mul t c =
    failed (estimate nat_eq (rows c.args.model.now)) (unit nat_eq c.args.along) (is_input nat_eq (rows c.args.model.now)) (replaced (expansion nat_eq (rows c.args.model.now) c.args.depth) (expression c.deref-in-Mul-2.result.now)) _ _ _ _ c.from_residual-in_err-jet_of-in-Mul.ensures.1
    (replaced_mul (expansion nat_eq (rows c.args.model.now) c.args.depth) (expression c.args.formula.now) (expression c.deref-in-Mul.result.now) (expression c.deref-in-Mul-2.result.now)
    (ap expression c.in-Mul.is ∙ ap₂ (λ a b. Mul (expression a) (expression b)) (sym c.deref-in-Mul.ensures) (sym c.deref-in-Mul-2.ensures)))
    (mul_right (estimate nat_eq (rows c.args.model.now)) (is_input nat_eq (rows c.args.model.now)) _ (replaced (expansion nat_eq (rows c.args.model.now) c.args.depth) (expression c.deref-in-Mul-2.result.now))) c.in_err-jet_of-in-Mul.ensures

pub jet_of-returns-in_ok-jet_of-in-Mul : goal.jet_of-returns-in_ok-jet_of-in-Mul
jet_of-returns-in_ok-jet_of-in-Mul t c =
    along (estimate nat_eq (rows c.args.model.now)) (unit nat_eq c.args.along) (is_input nat_eq (rows c.args.model.now)) _ _ _
    (replaced_mul (expansion nat_eq (rows c.args.model.now) c.args.depth) (expression c.args.formula.now) (expression c.deref-in-Mul.result.now) (expression c.deref-in-Mul-2.result.now) (ap expression c.in-Mul.is ∙ ap₂ (λ a b. Mul (expression a) (expression b)) (sym c.deref-in-Mul.ensures) (sym c.deref-in-Mul-2.ensures)))
    (c.fitted-in-Mul.ensures (estimate nat_eq (rows c.args.model.now)) (unit nat_eq c.args.along) (is_input nat_eq (rows c.args.model.now)) _ (c.product.ensures (estimate nat_eq (rows c.args.model.now)) (unit nat_eq c.args.along) (is_input nat_eq (rows c.args.model.now)) _ _ c.in_ok-left-in-Mul.ensures c.in_ok-jet_of-in-Mul.ensures))

pub jet_of-returns-in_err-left-in-Div : goal.jet_of-returns-in_err-left-in-Div
jet_of-returns-in_err-left-in-Div t c =
    failed (estimate nat_eq (rows c.args.model.now)) (unit nat_eq c.args.along) (is_input nat_eq (rows c.args.model.now)) (replaced (expansion nat_eq (rows c.args.model.now) c.args.depth) (expression c.deref-in-Div.result.now)) _ _ _ _ c.from_residual-in_err-left-in-Div.ensures.1
    (replaced_div (expansion nat_eq (rows c.args.model.now) c.args.depth) (expression c.args.formula.now) (expression c.deref-in-Div.result.now) (expression c.in-Div.b.value)
    (ap expression c.in-Div.is ∙ ap (λ a. Div (expression a) (expression c.in-Div.b.value)) (sym c.deref-in-Div.ensures)))
    (div_left (estimate nat_eq (rows c.args.model.now)) (is_input nat_eq (rows c.args.model.now)) (replaced (expansion nat_eq (rows c.args.model.now) c.args.depth) (expression c.deref-in-Div.result.now)) _) c.in_err-left-in-Div.ensures

pub jet_of-returns-in_err-jet_of-in-Div : goal.jet_of-returns-in_err-jet_of-in-Div
jet_of-returns-in_err-jet_of-in-Div t c =
    failed (estimate nat_eq (rows c.args.model.now)) (unit nat_eq c.args.along) (is_input nat_eq (rows c.args.model.now)) (replaced (expansion nat_eq (rows c.args.model.now) c.args.depth) (expression c.deref-in-Div-2.result.now)) _ _ _ _ c.from_residual-in_err-jet_of-in-Div.ensures.1
    (replaced_div (expansion nat_eq (rows c.args.model.now) c.args.depth) (expression c.args.formula.now) (expression c.deref-in-Div.result.now) (expression c.deref-in-Div-2.result.now)
    (ap expression c.in-Div.is ∙ ap₂ (λ a b. Div (expression a) (expression b)) (sym c.deref-in-Div.ensures) (sym c.deref-in-Div-2.ensures)))
    (div_right (estimate nat_eq (rows c.args.model.now)) (is_input nat_eq (rows c.args.model.now)) _ (replaced (expansion nat_eq (rows c.args.model.now) c.args.depth) (expression c.deref-in-Div-2.result.now))) c.in_err-jet_of-in-Div.ensures

pub jet_of-returns-in_ok-jet_of-in-Div : goal.jet_of-returns-in_ok-jet_of-in-Div
jet_of-returns-in_ok-jet_of-in-Div t c =
    along (estimate nat_eq (rows c.args.model.now)) (unit nat_eq c.args.along) (is_input nat_eq (rows c.args.model.now)) _ _ _
    (replaced_div (expansion nat_eq (rows c.args.model.now) c.args.depth) (expression c.args.formula.now) (expression c.deref-in-Div.result.now) (expression c.deref-in-Div-2.result.now) (ap expression c.in-Div.is ∙ ap₂ (λ a b. Div (expression a) (expression b)) (sym c.deref-in-Div.ensures) (sym c.deref-in-Div-2.ensures)))
    (c.quotient.ensures (estimate nat_eq (rows c.args.model.now)) (unit nat_eq c.args.along) (is_input nat_eq (rows c.args.model.now)) _ _ c.in_ok-left-in-Div.ensures c.in_ok-jet_of-in-Div.ensures)

pub jet_of-returns-in-Num : goal.jet_of-returns-in-Num
jet_of-returns-in-Num t c =
    number_jet _ _ _ _ (number c.in-Num.number) _ (replaced_num (expansion nat_eq (rows c.args.model.now) c.args.depth) (expression c.args.formula.now) (number c.in-Num.number) (ap expression c.in-Num.is)) refl c.whole.ensures

pub jet_of-returns-in-Key : goal.jet_of-returns-in-Key
jet_of-returns-in-Key t c =
    along _ _ _ _ _ _ (replaced_key (expansion nat_eq (rows c.args.model.now) c.args.depth) (expression c.args.formula.now) c.in-Key.key (ap expression c.in-Key.is)) c.jet_at.ensures
