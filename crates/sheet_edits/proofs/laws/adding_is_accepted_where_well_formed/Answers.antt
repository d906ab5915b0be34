use Rattle.sheet_edits.proofs.Adding.{add_accepted, add_complete}
use Rattle.sheet_edits.proofs.laws.adding_is_accepted_where_well_formed.Goals as goal

pub returns-clause-accepted : goal.returns-clause-accepted
returns-clause-accepted c = add_accepted

pub returns-clause-well_formed : goal.returns-clause-well_formed
returns-clause-well_formed c = add_complete
