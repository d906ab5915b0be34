use Rattle.edit_session.proofs.Standing.{initial_stands, step_stands}
use Rattle.edit_session.proofs.laws.sheets_keep_standing.Goals as goal

pub returns-clause-initial : goal.returns-clause-initial
returns-clause-initial c = initial_stands

pub returns-clause-step : goal.returns-clause-step
returns-clause-step c = λ state command h regular. step_stands state command h regular
