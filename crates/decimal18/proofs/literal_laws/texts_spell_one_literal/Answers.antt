use Rattle.decimal18.proofs.LiteralRead.{one_value}
use Rattle.decimal18.proofs.LiteralText.{read_spelt, spelt_read}
use Rattle.decimal18.proofs.literal_laws.texts_spell_one_literal.Goals as goal

pub returns-clause-read : goal.returns-clause-read
returns-clause-read c = λ text l. (read_spelt text l, spelt_read text l)

pub returns-clause-one : goal.returns-clause-one
returns-clause-one c = one_value
