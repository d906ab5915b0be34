use Rattle.std.proofs.Common.{rules}
use Rattle.value_cache.proofs.Numbers.{number-later}
use Rattle.value_cache.proofs.through.number_of.Goals as goal

pub loop-at-preserved : goal.loop-at-preserved
loop-at-preserved c = search (rules, number-later)
