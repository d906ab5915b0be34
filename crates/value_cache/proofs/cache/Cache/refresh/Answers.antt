use Rattle.std.proofs.Common.{arith, ap, sym, subst, ◌∙◌, ◌≡◌, ℕ, List}
use Rattle.std.specs.Option.{is_some}
use Rattle.dep_graph.specs.Nodes.{has}
use Rattle.value_cache.specs.Rules.{AreFalling, work}
use Rattle.value_cache.specs.Slots.{bodies_of, cells_of}
use Rattle.value_cache.proofs.Orders.{chain-found, way-of}
use Rattle.value_cache.proofs.cache.Cache.refresh.Goals as goal

pub returns-in-Some-clause-fresh : goal.returns-in-Some-clause-fresh
returns-in-Some-clause-fresh g c =
    λ n r.
    chain-found c.args.graph.now (bodies_of c.args.self.now) (cells_of c.args.self.now) c.requires.graph c.peek.ensures.right r.chain c.args.id n
    (ap is_some (sym c.peek.ensures.cell ∙ c.in-Some.is)) r.is

pub fill-requires-clause-placed : goal.fill-requires-clause-placed
fill-requires-clause-placed g c =
    λ n h.
    (way-of c.args.graph.now (bodies_of c.args.self.now) c.args.id c.in_ok-cone.cone c.requires.graph c.in_ok-cone.ensures).placed n
    (ap (λ l. has l n) (sym c.as_slice.ensures) ∙ h)

pub fill-requires-clause-falling : goal.fill-requires-clause-falling
fill-requires-clause-falling g c =
    subst (AreFalling (bodies_of c.args.self.now)) (sym c.as_slice.ensures)
    ((way-of c.args.graph.now (bodies_of c.args.self.now) c.args.id c.in_ok-cone.cone c.requires.graph c.in_ok-cone.ensures).falling)

pub returns-clause-ticks : goal.returns-clause-ticks
returns-clause-ticks g c = λ cone is.
    let cost : List ℕ → ℕ = work (bodies_of c.args.self.now) (cells_of c.args.self.now) in
    let same : c.as_slice.result.now ≡ cone = c.as_slice.ensures ∙ c.cones_are_lists.ensures c.args.graph.now c.args.id c.in_ok-cone.cone cone c.in_ok-cone.ensures is in
    omega (arith, c.fill.ensures.ticks, ap cost same)
