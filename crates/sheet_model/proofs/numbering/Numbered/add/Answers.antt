use Rattle.std.proofs.Common.{nat_eq, if◌then◌else◌, Some, insert, sym, ◌∙◌, ap, ap₂}
use Rattle.dep_graph.specs.Nodes.{has, ids_of}
use Rattle.value_cache.specs.Slots.{body_view, bodies_of}
use Rattle.sheet_model.proofs.Kept.{new_id, no_body, uses_there, added}
use Rattle.sheet_model.proofs.numbering.Numbered.add.Goals as goal

pub add_node-requires-clause-new : goal.add_node-requires-clause-new
add_node-requires-clause-new c =
    let can = c.requires.can in
    ap (has (ids_of c.args.self.now.graph)) c.len-place.ensures.len ∙ new_id can.all can.before c.requires.quantity c.args.self.now can.are can.next

pub add_node-requires-clause-used : goal.add_node-requires-clause-used
add_node-requires-clause-used c =
    let can = c.requires.can in
    λ n e. uses_there can.all can.before c.requires.quantity c.args.self.now can.are can.next c.args.name c.args.body c.requires.stands n
    (ap (λ ns. has ns n) (sym c.numbers_in.ensures) ∙ e)

pub place-requires-clause-new : goal.place-requires-clause-new
place-requires-clause-new c =
    let can = c.requires.can in
    ap (bodies_of c.args.self.now.cache) c.len-place.ensures.len ∙ no_body can.all can.before c.requires.quantity c.args.self.now can.are can.next

pub returns : goal.returns
returns c = λ all before q are next stands.
    added all before q c.args.self.now are next c.args.name c.args.body stands _ c.in_ok-insert.ensures.keys
    (c.in_ok-add_node.ensures.ok
    ∙ ap₂ (λ k us. insert c.args.self.now.graph k (record { id = k; uses = us })) c.len-place.ensures.len c.numbers_in.ensures)
    (λ n. c.in_ok-place.ensures.bodies n
    ∙ ap (λ k. if nat_eq n k then Some (body_view c.args.body) else bodies_of c.args.self.now.cache n) c.len-place.ensures.len)
