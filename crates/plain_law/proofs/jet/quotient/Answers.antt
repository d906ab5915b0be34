use Rattle.std.proofs.Common.{sym, ◌∙◌}
use Rattle.plain_law.proofs.Jets.{quotient_undefined}
use Rattle.plain_law.proofs.jet.quotient.Goals as goal

pub returns-then-is_zero : goal.returns-then-is_zero
returns-then-is_zero c v d known f g h i = quotient_undefined v d known f g c.args.b i (sym c.is_zero.ensures ∙ c.if-is_zero.true)
