use Rattle.std.proofs.Common.{rules}
use Rattle.formula_ast.specs.Views.{tree_of}
use Rattle.formula_ast.specs.declared.token.Sign.TheVariants.{Plus, Minus, Times, Over}
use Rattle.formula_box.proofs.Shortcuts.{added_slope, left_factor, dividend_alone, right_factor, operand_ticks, operand_ticks_right}
use Rattle.formula_box.proofs.defined.+slope_in.Goals as goal

pub returns-in-Add-clause-slope : goal.returns-in-Add-clause-slope
returns-in-Add-clause-slope g t c =
    rw c.in-Add.is
    (added_slope (g.E.Env.given c.args.env.now) c.args.by.now Plus (tree_of c.in-Add.a.value) (tree_of c.in-Add.b.value) c.slope_in-a-in-Add.result c.slope_in-b.result
    c.slope_of_sum.result (rw c.in-Add.is at c.requires.defined) (rw c.deref-in-Add.ensures at c.slope_in-a-in-Add.ensures.slope)
    (rw c.deref-in-Add-2.ensures at c.slope_in-b.ensures.slope) c.slope_of_sum.ensures.used c.slope_of_sum.ensures.span)

pub returns-in-Sub-clause-slope : goal.returns-in-Sub-clause-slope
returns-in-Sub-clause-slope g t c =
    rw c.in-Sub.is
    (added_slope (g.E.Env.given c.args.env.now) c.args.by.now Minus (tree_of c.in-Sub.a.value) (tree_of c.in-Sub.b.value) c.slope_in-a-in-Sub.result c.slope_in-b-in-Sub.result
    c.slope_of_difference.result (rw c.in-Sub.is at c.requires.defined) (rw c.deref-in-Sub.ensures at c.slope_in-a-in-Sub.ensures.slope)
    (rw c.deref-in-Sub-2.ensures at c.slope_in-b-in-Sub.ensures.slope) c.slope_of_difference.ensures.used c.slope_of_difference.ensures.span)

-- the name is not in the second factor
pub returns-then-not-occurs-clause-slope : goal.returns-then-not-occurs-clause-slope
returns-then-not-occurs-clause-slope g t c =
    rw c.in-Mul.is
    (left_factor (g.E.Env.given c.args.env.now) c.args.by.now (tree_of c.in-Mul.a.value) (tree_of c.in-Mul.b.value) c.slope_in-a-then-not-occurs.result
    c.slope_times_value.result c.occurs.result (rw c.in-Mul.is at c.requires.defined)
    (rw c.deref-then-not-occurs.ensures at c.slope_in-a-then-not-occurs.ensures.slope) (rw c.deref-in-Mul.ensures at c.occurs.ensures) (search rules)
    c.slope_times_value.ensures.used (rw c.deref-then-not-occurs-2.ensures at c.slope_times_value.ensures.span))

pub returns-then-not-occurs-clause-ticks : goal.returns-then-not-occurs-clause-ticks
returns-then-not-occurs-clause-ticks g t c =
    rw c.in-Mul.is
    (operand_ticks Times (tree_of c.in-Mul.a.value) (tree_of c.in-Mul.b.value) c.args.steps.now c.slope_in-a-then-not-occurs.new.steps c.slope_times_value.new.steps
    (rw c.in-Mul.is at c.requires.exponents).1 (rw c.deref-then-not-occurs.ensures at c.slope_in-a-then-not-occurs.ensures.ticks)
    (rw c.deref-then-not-occurs-2.ensures at c.slope_times_value.ensures.ticks))

-- it is not in the first
pub returns-then-not-occurs-2-clause-slope : goal.returns-then-not-occurs-2-clause-slope
returns-then-not-occurs-2-clause-slope g t c =
    rw c.in-Mul.is
    (right_factor (g.E.Env.given c.args.env.now) c.args.by.now (tree_of c.in-Mul.a.value) (tree_of c.in-Mul.b.value) c.slope_in-b-then-not-occurs-2.result
    c.value_times_slope.result c.occurs.result c.occurs-in-Mul.result (rw c.in-Mul.is at c.requires.defined)
    (rw c.deref-then-not-occurs-2-2.ensures at c.slope_in-b-then-not-occurs-2.ensures.slope)
    (rw c.deref-in-Mul.ensures at c.occurs.ensures) (search rules) (rw c.deref-in-Mul-2.ensures at c.occurs-in-Mul.ensures) (search rules)
    c.value_times_slope.ensures.used (rw c.deref-then-not-occurs-2-3.ensures at c.value_times_slope.ensures.span))

pub returns-then-not-occurs-2-clause-ticks : goal.returns-then-not-occurs-2-clause-ticks
returns-then-not-occurs-2-clause-ticks g t c =
    rw c.in-Mul.is
    (operand_ticks_right Times (tree_of c.in-Mul.a.value) (tree_of c.in-Mul.b.value) c.args.steps.now c.slope_in-b-then-not-occurs-2.new.steps c.value_times_slope.new.steps
    (rw c.in-Mul.is at c.requires.exponents).0 (rw c.deref-then-not-occurs-2-2.ensures at c.slope_in-b-then-not-occurs-2.ensures.ticks)
    (rw c.deref-then-not-occurs-2-3.ensures at c.value_times_slope.ensures.ticks))

-- it is not in the divisor
pub returns-then-not-occurs-3-clause-slope : goal.returns-then-not-occurs-3-clause-slope
returns-then-not-occurs-3-clause-slope g t c =
    rw c.in-Div.is
    (dividend_alone (g.E.Env.given c.args.env.now) c.args.by.now (tree_of c.in-Div.a.value) (tree_of c.in-Div.b.value) c.slope_in-a-then-not-occurs-3.result
    c.slope_over_value.result c.occurs-in-Div.result (rw c.in-Div.is at c.requires.defined)
    (rw c.deref-then-not-occurs-3.ensures at c.slope_in-a-then-not-occurs-3.ensures.slope) (rw c.deref-in-Div.ensures at c.occurs-in-Div.ensures) (search rules)
    c.slope_over_value.ensures.used (rw c.deref-then-not-occurs-3-2.ensures at c.slope_over_value.ensures.span))

pub returns-then-not-occurs-3-clause-ticks : goal.returns-then-not-occurs-3-clause-ticks
returns-then-not-occurs-3-clause-ticks g t c =
    rw c.in-Div.is
    (operand_ticks Over (tree_of c.in-Div.a.value) (tree_of c.in-Div.b.value) c.args.steps.now c.slope_in-a-then-not-occurs-3.new.steps c.slope_over_value.new.steps
    (rw c.in-Div.is at c.requires.exponents).1 (rw c.deref-then-not-occurs-3.ensures at c.slope_in-a-then-not-occurs-3.ensures.ticks)
    (rw c.deref-then-not-occurs-3-2.ensures at c.slope_over_value.ensures.ticks))
