use Rattle.sheet_edits.proofs.Removing.{remove_accepted, remove_there, remove_complete}
use Rattle.sheet_edits.proofs.laws.removing_is_accepted_where_well_formed.Goals as goal

pub returns-clause-accepted : goal.returns-clause-accepted
returns-clause-accepted c = remove_accepted

pub returns-clause-there : goal.returns-clause-there
returns-clause-there c = remove_there

pub returns-clause-well_formed : goal.returns-clause-well_formed
returns-clause-well_formed c = λ sheet n h. remove_complete sheet n h.well_formed h.regular
