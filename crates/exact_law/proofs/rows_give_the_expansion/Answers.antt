use Rattle.exact_law.proofs.ChainRule.{value_by_rows, has_value_by_rows, slope_by_rows}
use Rattle.exact_law.proofs.rows_give_the_expansion.Goals as goal

pub returns : goal.returns
returns g c = λ same law model rows o m f m1 h. record {
  value_is = value_by_rows same law model rows o.of_model o.in_order m f m1 h;
  defined = has_value_by_rows same law model rows o.of_model o.in_order m f m1 h;
  slope_is = slope_by_rows same law model rows o.of_model o.in_order m f m1 h;
}
