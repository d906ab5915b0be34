use Rattle.exact_law.proofs.ChainRule.{outside_cone}
use Rattle.exact_law.proofs.inputs_outside_the_cone_have_no_share.Goals as goal

pub returns : goal.returns
returns g c = λ same law model rows o y y1 i q h e. outside_cone same law model rows o.of_model o.in_order y y1 i q h e
