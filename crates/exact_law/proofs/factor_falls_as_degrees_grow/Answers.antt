use Rattle.exact_law.proofs.FactorLaws.{factor-falls, factor-from_100, factor-infinite}
use Rattle.exact_law.proofs.factor_falls_as_degrees_grow.Goals as goal

pub returns : goal.returns
returns c = record { falls = factor-falls; from_100 = factor-from_100; least = factor-infinite }
