use Rattle.eff_dof.proofs.PartsOfGroups.{variance-combined}
use Rattle.eff_dof.proofs.group_laws.parts_have_the_variance.Goals as goal

pub returns : goal.returns
returns g c = λ y groups. variance-combined y groups
