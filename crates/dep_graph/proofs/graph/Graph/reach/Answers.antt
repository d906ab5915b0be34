use Rattle.std.proofs.Common.{rules, ap, sym, ◌∙◌, arith, ◌≡◌, List, get_or, nat_eq, ℕ, ◌≤◌, length}
use Rattle.std.proofs.lemmas.Grind.{common_steps}
use Rattle.std.proofs.lemmas.List.{length-map}
use Rattle.std.specs.Cmp.{nat_eq_equiv}
use Rattle.std.proofs.lemmas.Map.Steps.{length-le_from_keys}
use Rattle.indexmap.specs.IndexSet.{insert_all}
use Rattle.dep_graph.specs.Nodes.{has, ids_of}
use Rattle.dep_graph.specs.Reaching.{next_in}
use Rattle.dep_graph.specs.Views.{IsGraph}
use Rattle.dep_graph.proofs.Chains.{next-there}
use Rattle.dep_graph.proofs.Entries.{there}
use Rattle.dep_graph.proofs.Searches.{search-step, searched}
use Rattle.dep_graph.proofs.graph.Graph.reach.Goals as goal

-- no more are found than there are nodes
pub loop-at-smaller : goal.loop-at-smaller
loop-at-smaller c =
    let few : length c.loop-at.found.keys ≤ length c.self.inside.nodes.entries =
    length-le_from_keys nat_eq_equiv c.loop-at.found.keys c.self.inside.nodes.entries c.len.ensures.unique
    (λ q h. there c.self.inside.nodes.entries q (ap (λ nodes. has (ids_of nodes) q) c.self.view_is ∙ c.loop-at.invariant.within q h)) in
    let long : length c.args.self.now ≡ length c.self.inside.nodes.entries = ap length (sym c.self.view_is) ∙ length-map _ _ in
    omega (arith, few, long, c.loop-at-test.true)

pub loop-at-preserved : goal.loop-at-preserved
loop-at-preserved c =
    let next : ℕ → List ℕ = next_in c.args.way c.args.self.now in
    let step = search-step next c.args.id (ids_of c.args.self.now) c.loop-at.at c.loop-at.found.keys c.loop-at.invariant (search rules)
    (λ n h. next-there c.args.way c.args.self.now (rw (← c.self.view_is) c.self.invariant.whole) (get_or c.loop-at.found.keys c.loop-at.at 0) n h) in
    let here : get_or c.loop-at.found.keys c.loop-at.at 0 ≡ c.index-as_slice-at.result = grind (arith, common_steps) in
    let new : c.add_next.new.found.keys ≡ insert_all nat_eq c.loop-at.found.keys (next (get_or c.loop-at.found.keys c.loop-at.at 0)) = rw here (search rules) in
    rw new (search (rules, step))

pub returns-clause-closure : goal.returns-clause-closure
returns-clause-closure c =
    let all : c.loop-at.at ≡ length c.loop-at.found.keys = omega (arith, c.loop-at.invariant.place, c.loop-at-test.false, c.len.ensures.len) in
    searched (next_in c.args.way c.args.self.now) c.args.id (ids_of c.args.self.now) c.loop-at.found.keys (rw all at c.loop-at.invariant)

pub returns-clause-once : goal.returns-clause-once
returns-clause-once c = rw (← c.self.view_is) c.self.invariant.once
