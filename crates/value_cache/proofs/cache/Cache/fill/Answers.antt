use Rattle.std.proofs.Common.{arith, subst, ◌≡◌, ◌<◌, ◌-◌, ℕ, suc, length}
use Rattle.value_cache.specs.Slots.{bodies_of, cells_of}
use Rattle.value_cache.proofs.Filling.{IsFilled, ready, filled-step}
use Rattle.value_cache.proofs.cache.Cache.fill.Goals as goal

pub freshen-requires-clause-ready : goal.freshen-requires-clause-ready
freshen-requires-clause-ready g c =
    let i : ℕ = c.loop-at.at - 1 in
    let next : c.loop-at.at ≡ suc i = omega (arith, c.loop-at-test.true) in
    let low : i < length c.args.list.now = omega (arith, c.loop-at-test.true, c.loop-at.auto.at) in
    ready (bodies_of c.args.self.now) (bodies_of c.loop-at.self) (cells_of c.args.self.now) (cells_of c.loop-at.self) c.args.list.now c.args.steps.now i c.loop-at.steps
    c.index-list-at.result c.requires.falling
    (subst (λ at. IsFilled (bodies_of c.args.self.now) (cells_of c.args.self.now) c.args.list.now c.args.steps.now at (bodies_of c.loop-at.self) (cells_of c.loop-at.self) c.loop-at.steps) next c.loop-at.invariant)
    low c.index-list-at.is

pub loop-at-preserved : goal.loop-at-preserved
loop-at-preserved g c =
    let i : ℕ = c.loop-at.at - 1 in
    let next : c.loop-at.at ≡ suc i = omega (arith, c.loop-at-test.true) in
    let low : i < length c.args.list.now = omega (arith, c.loop-at-test.true, c.loop-at.auto.at) in
    filled-step (bodies_of c.args.self.now) (bodies_of c.loop-at.self) (bodies_of c.freshen.new.self) (cells_of c.args.self.now) (cells_of c.loop-at.self) (cells_of c.freshen.new.self)
    c.args.list.now c.args.steps.now i c.loop-at.steps c.freshen.new.steps c.index-list-at.result
    (subst (λ at. IsFilled (bodies_of c.args.self.now) (cells_of c.args.self.now) c.args.list.now c.args.steps.now at (bodies_of c.loop-at.self) (cells_of c.loop-at.self) c.loop-at.steps) next c.loop-at.invariant)
    low c.index-list-at.is c.freshen.ensures.bodies c.freshen.ensures.kept c.freshen.ensures.others c.freshen.ensures.found c.freshen.ensures.ticks
