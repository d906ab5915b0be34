use Rattle.formula_ast.proofs.Sound.{read_spelt}
use Rattle.formula_ast.proofs.Complete.{spelt_read, spell_one, one_writing}
use Rattle.formula_ast.proofs.laws.reading_is_the_grammars.Goals as goal

pub returns-clause-spelt : goal.returns-clause-spelt
returns-clause-spelt c = read_spelt

pub returns-clause-read : goal.returns-clause-read
returns-clause-read c = spelt_read

pub returns-clause-one : goal.returns-clause-one
returns-clause-one c = spell_one

pub returns-clause-one_way : goal.returns-clause-one_way
returns-clause-one_way c = one_writing
