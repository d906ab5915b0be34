use Rattle.decimal18.proofs.TextAgain.{read_again, short_text}
use Rattle.decimal18.proofs.literal_laws.printed_bounds_are_read_again.Goals as goal

pub returns-clause-again : goal.returns-clause-again
returns-clause-again c = read_again

pub returns-clause-short : goal.returns-clause-short
returns-clause-short c = short_text
