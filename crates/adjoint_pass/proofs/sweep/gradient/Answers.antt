use Rattle.std.specs.Prelude.{◌+◌, ◌≤◌}
use Rattle.std.proofs.Common.{◌∙◌, subst}
use Rattle.value_cache.specs.Slots.{bodies_of}
use Rattle.adjoint_pass.specs.Costs.{gradient_cost}
use Rattle.adjoint_pass.proofs.sweep.gradient.Goals as goal

pub returns-clause-ticks : goal.returns-clause-ticks
returns-clause-ticks g c =
    λ cone is.
    subst (λ list. c.sweep.new.steps ≤ c.args.steps.now + gradient_cost (bodies_of c.args.cache.now) list)
    (c.as_slice.ensures ∙ c.cones_are_lists.ensures c.args.graph.now c.args.y c.in_ok-cone.cone cone c.in_ok-cone.ensures is) c.sweep.ensures.ticks
