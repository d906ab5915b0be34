use Rattle.edit_session.proofs.ReplyLaws.{unknown_exactly, unknown_tells}
use Rattle.edit_session.proofs.laws.names_of_quantities_have_values.Goals as goal

pub returns-clause-value : goal.returns-clause-value
returns-clause-value c = λ sheet h name. unknown_exactly sheet h name

pub returns-clause-query : goal.returns-clause-query
returns-clause-query c = λ sheet h query name. unknown_tells sheet h query name
