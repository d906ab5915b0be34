use Rattle.std.proofs.Common.{rules, ap, sym, ◌∙◌, ◌≡◌, ℕ, true, false, true≢false, List, insert}
use Rattle.dep_graph.specs.Nodes.{Node, has, ids_of}
use Rattle.dep_graph.specs.Views.{nodes_of, extended}
use Rattle.dep_graph.specs.declared.graph.Edges.{Edges}
use Rattle.dep_graph.proofs.Entries.{absent, placed}
use Rattle.dep_graph.proofs.Inserting.{whose, ids-placed, is-added, added, added-nodes}
use Rattle.dep_graph.proofs.graph.Graph.add_node.Goals as goal

pub shift_insert-requires-clause-below_len : goal.shift_insert-requires-clause-below_len
shift_insert-requires-clause-below_len c = λ there.
    let es = c.self.inside.nodes.entries in
    let new : has (ids_of (nodes_of c.self.inside.nodes.entries)) c.args.id ≡ false = rw (← c.self.view_is) at c.requires.new in
    absurd (true≢false (sym (rw (absent es c.args.id new) at there)))

pub write_users-requires : goal.write_users-requires
write_users-requires c =
    let es = c.self.inside.nodes.entries in
    let new : has (ids_of (nodes_of c.self.inside.nodes.entries)) c.args.id ≡ false = rw (← c.self.view_is) at c.requires.new in
    let used : (n : ℕ) → has c.in_ok-from_slice.field-0.items n ≡ true → has (ids_of (nodes_of c.self.inside.nodes.entries)) n ≡ true =
    λ n h. ap (λ nodes. has (ids_of nodes) n) c.self.view_is ∙ c.requires.used n (ap (λ ns. has ns n) (sym c.in_ok-from_slice.ensures.ok) ∙ h) in
    let edges : Edges = record { uses = c.in_ok-from_slice.field-0; users = c.new.result } in
    let put : c.shift_insert.new.self.entries ≡ insert es c.args.at (c.args.id, edges) = c.in_ok-shift_insert.ensures.entries ∙ placed es c.args.at c.args.id edges new in
    record {
      there = λ n h.
          let among : has c.args.uses.now n ≡ true = ap (λ ns. has ns n) (sym (whose (extended c.args.self.now c.args.at c.args.id) c.in_ok-lists.lists.items c.args.uses.now c.in_ok-lists.ensures)) ∙ h in
          ap (λ l. has (ids_of (nodes_of l)) n) put ∙ ids-placed es c.args.at c.args.id edges new n (ap (λ nodes. has (ids_of nodes) n) c.self.view_is ∙ c.requires.used n among);
    }

pub invariant_of-self-2 : goal.invariant_of-self-2
invariant_of-self-2 c =
    let es = c.self.inside.nodes.entries in
    let new : has (ids_of (nodes_of c.self.inside.nodes.entries)) c.args.id ≡ false = rw (← c.self.view_is) at c.requires.new in
    let used : (n : ℕ) → has c.in_ok-from_slice.field-0.items n ≡ true → has (ids_of (nodes_of c.self.inside.nodes.entries)) n ≡ true =
    λ n h. ap (λ nodes. has (ids_of nodes) n) c.self.view_is ∙ c.requires.used n (ap (λ ns. has ns n) (sym c.in_ok-from_slice.ensures.ok) ∙ h) in
    let edges : Edges = record { uses = c.in_ok-from_slice.field-0; users = c.new.result } in
    let put : c.shift_insert.new.self.entries ≡ insert es c.args.at (c.args.id, edges) = c.in_ok-shift_insert.ensures.entries ∙ placed es c.args.at c.args.id edges new in
    let is = is-added es c.args.at c.args.id edges c.shift_insert.new.self.entries c.write_users.new.nodes.entries c.in_ok-lists.lists.items c.args.self.now c.args.uses.now
    c.self.view_is c.in_ok-from_slice.ensures.ok put c.in_ok-lists.ensures c.write_users.ensures.nodes c.write_users.ensures.users in
    added es c.args.at c.args.id edges c.write_users.new.nodes.entries c.self.invariant new used c.new.ensures.items is

pub returns-clause-ok : goal.returns-clause-ok
returns-clause-ok c =
    let es = c.self.inside.nodes.entries in
    let new : has (ids_of (nodes_of c.self.inside.nodes.entries)) c.args.id ≡ false = rw (← c.self.view_is) at c.requires.new in
    let used : (n : ℕ) → has c.in_ok-from_slice.field-0.items n ≡ true → has (ids_of (nodes_of c.self.inside.nodes.entries)) n ≡ true =
    λ n h. ap (λ nodes. has (ids_of nodes) n) c.self.view_is ∙ c.requires.used n (ap (λ ns. has ns n) (sym c.in_ok-from_slice.ensures.ok) ∙ h) in
    let edges : Edges = record { uses = c.in_ok-from_slice.field-0; users = c.new.result } in
    let put : c.shift_insert.new.self.entries ≡ insert es c.args.at (c.args.id, edges) = c.in_ok-shift_insert.ensures.entries ∙ placed es c.args.at c.args.id edges new in
    let is = is-added es c.args.at c.args.id edges c.shift_insert.new.self.entries c.write_users.new.nodes.entries c.in_ok-lists.lists.items c.args.self.now c.args.uses.now
    c.self.view_is c.in_ok-from_slice.ensures.ok put c.in_ok-lists.ensures c.write_users.ensures.nodes c.write_users.ensures.users in
    added-nodes es c.args.at c.args.id edges c.write_users.new.nodes.entries is
    ∙ ap (λ (nodes : List Node). insert nodes c.args.at (record { id = c.args.id; uses = c.in_ok-from_slice.field-0.items })) c.self.view_is
    ∙ ap (λ (uses : List ℕ). insert c.args.self.now c.args.at (record { id = c.args.id; uses = uses })) c.in_ok-from_slice.ensures.ok
