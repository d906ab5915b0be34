use Rattle.std.proofs.Common.{◌∙◌}
use Rattle.type_b.proofs.Signs.{above_by_order}
use Rattle.type_b.proofs.shape.is_above_one.Goals as goal

pub returns : goal.returns
returns c = c.gt.ensures ∙ above_by_order _ _ c.whole-one.ensures c.places.ensures.canonical c.places-2.ensures.canonical
