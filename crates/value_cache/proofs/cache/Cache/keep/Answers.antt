use Rattle.std.proofs.Common.{◌≡◌, true, None, Some, is_some, ap, sym, ◌∙◌}
use Rattle.std.specs.Option.{option_map}
use Rattle.value_cache.specs.Rules.{cell_by}
use Rattle.value_cache.specs.Slots.{Slots, body_view, bodies_of, cells_of}
use Rattle.value_cache.proofs.Rules.{right-found}
use Rattle.value_cache.proofs.cache.Cache.keep.Goals as goal

pub invariant_of-self : goal.invariant_of-self
invariant_of-self c =
    let old : Slots = c.self.inside.slots.entries in
    let placed : is_some (bodies_of old c.args.id) ≡ true = rw (← c.self.view_is) at c.requires.placed in
    let none : cells_of old c.args.id ≡ None = rw (← c.self.view_is) at c.requires.none in
    let right : cell_by (cells_of old) c.args.id (bodies_of old c.args.id) ≡ Some c.args.cell = rw (← c.self.view_is) at c.requires.right in
    record {
      placeable = λ n body e. c.self.invariant.placeable n body (sym (c.write.ensures.bodies n) ∙ e);
      right = right-found (bodies_of old) _ (cells_of old) _ c.args.id c.args.cell none right (λ n. ap (option_map body_view) (c.write.ensures.bodies n))
          (c.write.ensures.cells placed) c.self.invariant.right;
    }
