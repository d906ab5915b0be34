use Rattle.std.proofs.Common.{arith, Some}
use Rattle.std.proofs.lemmas.Int.{ints}
use Rattle.formula_ast.specs.Views.{tree_of}
use Rattle.formula_ast.specs.declared.token.Sign.TheVariants.{Plus, Minus, Times, Over}
use Rattle.formula_box.proofs.Ticks.{power_ticks}
use Rattle.formula_box.proofs.Parting.{joined_part, power_part}
use Rattle.formula_box.proofs.differentiation.+part_from.Goals as goal

pub returns-in_ok-value-in-Add-clause-part : goal.returns-in_ok-value-in-Add-clause-part
returns-in_ok-value-in-Add-clause-part g t c =
    rw (c.in-Add.is, ← c.deref-in-Add.ensures, ← c.deref-in-Add-2.ensures)
    (joined_part (g.E.Env.given c.args.env.now) c.args.by.now c.args.uses.now c.part_from-in-Add.new.uses Plus (tree_of c.deref-in-Add.result.now) (tree_of c.deref-in-Add-2.result.now)
    c.in_ok-a-in-Add.a c.in_ok-b-in-Add.b (record { value = c.in_ok-value-in-Add.value; slope = c.slope_of_sum-slope.result })
    c.in_ok-a-in-Add.ensures.part c.in_ok-a-in-Add.ensures.counted c.in_ok-b-in-Add.ensures.part c.in_ok-value-in-Add.ensures.span
    c.slope_of_sum-slope.ensures.used (c.slope_of_sum-slope.ensures.span (Some c.in_ok-a-in-Add.a.value) (Some c.in_ok-b-in-Add.b.value) (Some c.in_ok-value-in-Add.value)))

pub returns-in_ok-value-in-Sub-clause-part : goal.returns-in_ok-value-in-Sub-clause-part
returns-in_ok-value-in-Sub-clause-part g t c =
    rw (c.in-Sub.is, ← c.deref-in-Sub.ensures, ← c.deref-in-Sub-2.ensures)
    (joined_part (g.E.Env.given c.args.env.now) c.args.by.now c.args.uses.now c.part_from-in-Sub.new.uses Minus (tree_of c.deref-in-Sub.result.now) (tree_of c.deref-in-Sub-2.result.now)
    c.in_ok-a-in-Sub.a c.in_ok-b-in-Sub.b (record { value = c.in_ok-value-in-Sub.value; slope = c.slope_of_difference-slope.result })
    c.in_ok-a-in-Sub.ensures.part c.in_ok-a-in-Sub.ensures.counted c.in_ok-b-in-Sub.ensures.part c.in_ok-value-in-Sub.ensures.span
    c.slope_of_difference-slope.ensures.used (c.slope_of_difference-slope.ensures.span (Some c.in_ok-a-in-Sub.a.value) (Some c.in_ok-b-in-Sub.b.value) (Some c.in_ok-value-in-Sub.value)))

pub returns-in_ok-value-in-Mul-clause-part : goal.returns-in_ok-value-in-Mul-clause-part
returns-in_ok-value-in-Mul-clause-part g t c =
    rw (c.in-Mul.is, ← c.deref-in-Mul.ensures, ← c.deref-in-Mul-2.ensures)
    (joined_part (g.E.Env.given c.args.env.now) c.args.by.now c.args.uses.now c.part_from-in-Mul.new.uses Times (tree_of c.deref-in-Mul.result.now) (tree_of c.deref-in-Mul-2.result.now)
    c.in_ok-a-in-Mul.a c.in_ok-b-in-Mul.b (record { value = c.in_ok-value-in-Mul.value; slope = c.slope_of_product-slope.result })
    c.in_ok-a-in-Mul.ensures.part c.in_ok-a-in-Mul.ensures.counted c.in_ok-b-in-Mul.ensures.part c.in_ok-value-in-Mul.ensures.span
    c.slope_of_product-slope.ensures.used (c.slope_of_product-slope.ensures.span (Some c.in_ok-value-in-Mul.value)))

pub returns-in_ok-value-in-Div-clause-part : goal.returns-in_ok-value-in-Div-clause-part
returns-in_ok-value-in-Div-clause-part g t c =
    rw (c.in-Div.is, ← c.deref-in-Div.ensures, ← c.deref-in-Div-2.ensures)
    (joined_part (g.E.Env.given c.args.env.now) c.args.by.now c.args.uses.now c.part_from-in-Div.new.uses Over (tree_of c.deref-in-Div.result.now) (tree_of c.deref-in-Div-2.result.now)
    c.in_ok-a-in-Div.a c.in_ok-b-in-Div.b (record { value = c.in_ok-value-in-Div.value; slope = c.slope_of_quotient-slope.result })
    c.in_ok-a-in-Div.ensures.part c.in_ok-a-in-Div.ensures.counted c.in_ok-b-in-Div.ensures.part c.in_ok-value-in-Div.ensures.span
    c.slope_of_quotient-slope.ensures.used (c.slope_of_quotient-slope.ensures.span (Some c.in_ok-a-in-Div.a.value)))

pub returns-in_ok-value-in-Pow-clause-part : goal.returns-in_ok-value-in-Pow-clause-part
returns-in_ok-value-in-Pow-clause-part g t c =
    rw (c.in-Pow.is, ← c.deref-in-Pow.ensures)
    (power_part (g.E.Env.given c.args.env.now) c.args.by.now c.args.uses.now c.in-Pow.k _ _ (tree_of c.deref-in-Pow.result.now)
    c.in_ok-a-in-Pow.a (record { value = c.in_ok-value-in-Pow.value; slope = c.slope_of_power-slope.result }) (omega (arith, ints)) (omega (arith, ints))
    c.in_ok-a-in-Pow.ensures.part c.in_ok-value-in-Pow.ensures.span
    c.slope_of_power-slope.ensures.used c.slope_of_power-slope.ensures.span)

pub returns-in_err-value-in-Pow-clause-ticks : goal.returns-in_err-value-in-Pow-clause-ticks
returns-in_err-value-in-Pow-clause-ticks g t c =
    rw (c.in-Pow.is, ← c.deref-in-Pow.ensures)
    (power_ticks (tree_of c.deref-in-Pow.result.now) c.in-Pow.k _ c.args.steps.now c.part_from-in-Pow.new.steps c.whole_power.new.steps
    (rw c.in-Pow.is at c.requires).1 (omega (arith, ints)) c.part_from-in-Pow.ensures.ticks c.whole_power.ensures.ticks)
