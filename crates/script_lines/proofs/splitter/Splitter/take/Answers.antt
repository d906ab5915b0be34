use Rattle.std.proofs.Common.{◌∷◌, [], drop, IfSome, ap, ◌∙◌, subst}
use Rattle.script_lines.specs.Items.{Outside, last_items, no_items}
use Rattle.script_lines.specs.Yields.{Yields}
use Rattle.script_lines.proofs.ItemSteps.{item_taken}
use Rattle.script_lines.proofs.splitter.Splitter.take.Goals as goal

pub returns-clause-whole : goal.returns-clause-whole
returns-clause-whole c =
    item_taken c.self.inside.vec.items c.args.self.now c.after.result.now c.self.inside.at c.in-Some.first.len c.in-Some.first.item (c.after.ensures.is ∙ ap (drop c.self.inside.at) c.deref.ensures.value) c.self.view_is
    (subst (λ o. IfSome o (λ first. Yields Outside c.after.result.now (first.item ∷ []) Outside (drop first.len c.after.result.now)))
    c.in-Some.is c.in_ok-first.ensures.some)
    no_items

pub returns-clause-items : goal.returns-clause-items
returns-clause-items c =
    item_taken c.self.inside.vec.items c.args.self.now c.after.result.now c.self.inside.at c.in-Some.first.len c.in-Some.first.item (c.after.ensures.is ∙ ap (drop c.self.inside.at) c.deref.ensures.value) c.self.view_is
    (subst (λ o. IfSome o (λ first. Yields Outside c.after.result.now (first.item ∷ []) Outside (drop first.len c.after.result.now)))
    c.in-Some.is c.in_ok-first.ensures.some)
    last_items
