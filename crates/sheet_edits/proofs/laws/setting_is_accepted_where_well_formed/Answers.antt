use Rattle.sheet_edits.proofs.Setting.{set_accepted, set_there, set_complete}
use Rattle.sheet_edits.proofs.laws.setting_is_accepted_where_well_formed.Goals as goal

pub returns-clause-accepted : goal.returns-clause-accepted
returns-clause-accepted c = λ sheet row h g. set_accepted sheet row h.well_formed h.regular g

pub returns-clause-there : goal.returns-clause-there
returns-clause-there c = set_there

pub returns-clause-well_formed : goal.returns-clause-well_formed
returns-clause-well_formed c = set_complete
