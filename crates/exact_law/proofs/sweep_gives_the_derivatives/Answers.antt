use Rattle.exact_law.specs.Model.{exact_value, unit, sweep}
use Rattle.exact_law.proofs.ChainRule.{gradient, sweep-backward}
use Rattle.exact_law.proofs.sweep_gives_the_derivatives.Goals as goal

pub returns : goal.returns
returns g c = record {
  of_sweep = λ same law model rows o y y1.
      gradient same law model rows o.of_model o.in_order y y1 (sweep same (exact_value same model) rows (λ n. unit same n y))
      (sweep-backward same law (exact_value same model) rows y o.in_order);
  of_equations = λ same law model rows o y y1. gradient same law model rows o.of_model o.in_order y y1;
}
