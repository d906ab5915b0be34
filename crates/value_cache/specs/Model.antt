-- The exact side: the quantities as a model of the measurement, and the value of a quantity's expanded formula.
use Rattle.std.specs.Prelude.{◌≡◌, Bool, true, List, map, [], ◌∷◌}
use Rattle.exact_law.specs.Model.{Row, Key, Body as ModelBody, Input as ModelInput, Formula as ModelFormula, replaced, has_value, exact_value}
use Rattle.decimal18.specs.Bound.{value_of}
use Rattle.fixed_interval.specs.Interval.{Interval, Encloses}
use Rattle.formula_ast.specs.Trees.{HasExponents}
use Rattle.formula_box.specs.Exact.{expression_of}
use Rattle.type_a.specs.Statistics.{exact_mean}
use Rattle.value_cache.specs.Quantities.{Body, Input, Function, Column, Quantity}

-- an input by its estimate, a formula over the quantities for which its names stand, and a column as an input
-- by its mean (JCGM 100:2008, 4.2.1)
abbrev pub model_body : {K : Type 0} → Body K → ModelBody K
model_body (Input estimate) = ModelInput (value_of estimate)
model_body (Function f key) = ModelFormula (replaced (λ n. Key (key n)) (expression_of f))
model_body (Column t column) = ModelInput (exact_mean t column)

abbrev pub model_row : {K : Type 0} → Quantity K → Row K
model_row q = record { key = q.key; body = model_body q.body }

abbrev pub model_of : {K : Type 0} → List (Quantity K) → List (Row K)
model_of qs = map model_row qs

-- the value of the quantity's expanded formula is defined, and the interval encloses it
pub record HasValueIn {K : Type 0} (same : K → K → Bool) (qs : List (Quantity K)) (n : K) (s : Interval) : Type 0 where
  pub defined : has_value same (model_of qs) n ≡ true
  pub enclosed : Encloses s (exact_value same (model_of qs) n)

-- the exponents in a body's formula are from -9 to 9 and not 0. Of a column nothing is asked: where its mean
-- has a span at all, the span encloses it
abbrev pub BodyHasExponents : {K : Type 0} → Body K → Type 0
BodyHasExponents (Input estimate) = Unit {0}
BodyHasExponents (Function f key) = HasExponents f
BodyHasExponents (Column t column) = Unit {0}

abbrev pub AllHaveExponents : {K : Type 0} → List (Quantity K) → Type 0
AllHaveExponents [] = Unit {0}
AllHaveExponents (q ∷ qs) = BodyHasExponents q.body × AllHaveExponents qs
