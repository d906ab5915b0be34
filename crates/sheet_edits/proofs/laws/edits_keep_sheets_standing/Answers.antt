use Rattle.sheet_edits.proofs.Keeping.{add_stands, set_stands, remove_stands}
use Rattle.sheet_edits.proofs.laws.edits_keep_sheets_standing.Goals as goal

pub returns-clause-add : goal.returns-clause-add
returns-clause-add c = add_stands

pub returns-clause-set : goal.returns-clause-set
returns-clause-set c = set_stands

pub returns-clause-remove : goal.returns-clause-remove
returns-clause-remove c = remove_stands
