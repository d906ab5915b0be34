use Rattle.std.specs.Prelude.{Some}
use Rattle.std.proofs.Common.{◌∙◌, ap}
use Rattle.fixed_interval.proofs.Sums.{there}
use Rattle.guard_band.proofs.Decisions.{decided_is}
use Rattle.guard_band.proofs.Exact.{statement_is_exact}
use Rattle.guard_band.proofs.decide.statement.Goals as goal

pub returns-clause-exact : goal.returns-clause-exact
returns-clause-exact g c =
    decided_is c.args.rule.now c.args.y.now c.args.v.now c.args.k.now c.in-Ok.band c.in-Ok-above.lower c.in-Ok-below.upper
    c.holds_for_all-guarded.result c.holds_for_all-inside.result c.holds_for_all-near.result c.said.result
    (there _ _ _ c.in-Ok.ensures.span) c.in-Ok-above.ensures.found c.in-Ok-below.ensures.found
    c.holds_for_all-guarded.ensures c.holds_for_all-inside.ensures c.holds_for_all-near.ensures c.said.ensures

pub returns-clause-holds : goal.returns-clause-holds
returns-clause-holds g c =
    λ x u f h i j s e.
    statement_is_exact c.args.rule.now c.args.y.now c.args.v.now c.args.k.now s (returns-clause-exact g c ∙ ap Some e) x u f h i j
