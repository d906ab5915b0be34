use Rattle.std.proofs.Common.{◌+◌, ◌*◌}
use Rattle.plain_law.proofs.Sizes.{size, model_size}
use Rattle.plain_law.proofs.evaluate.+expansion.Given as goal

abbrev pub decreases-jet_at : goal.decreases-jet_at
decreases-jet_at l = l.depth * (1 + model_size l.model.now)

abbrev pub decreases-jet_of : goal.decreases-jet_of
decreases-jet_of l = l.depth * (1 + model_size l.model.now) + size l.formula.now
