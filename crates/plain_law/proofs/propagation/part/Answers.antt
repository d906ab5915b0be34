use Rattle.std.specs.Prelude.{nat_eq}
use Rattle.std.proofs.Common.{◌∙◌, ap, ap₂, sym}
use Rattle.std.proofs.lemmas.Option.{IfSome_then}
use Rattle.exact_fraction.specs.Number.{◌+ℚ◌}
use Rattle.exact_law.specs.Law.{part_of}
use Rattle.exact_law.specs.Law.{part as exact_part}
use Rattle.plain_law.specs.Models.{rows}
use Rattle.plain_law.specs.Groups.{group_of}
use Rattle.plain_law.proofs.propagation.part.Goals as goal

pub returns-in-Own : goal.returns-in-Own
unfolding part_of exact_part
returns-in-Own c = IfSome_then c.weighted.result c.weighted.ensures (λ r e. e ∙ sym (ap (λ g. part_of nat_eq (rows c.args.model.now) (group_of g) c.args.y) c.in-Own.is))

pub returns-in_ok-plus-in-Pair : goal.returns-in_ok-plus-in-Pair
unfolding part_of exact_part
returns-in_ok-plus-in-Pair c =
    IfSome_then c.plus-in-Pair-2.result c.plus-in-Pair-2.ensures
    (λ x e. e
    ∙ ap₂ ◌+ℚ◌
    (c.in_ok-own-in-Pair-2.ensures ∙ ap₂ ◌+ℚ◌ c.in_ok-own-in-Pair.ensures c.in_ok-weighted-in-Pair.ensures)
    (c.in_ok-plus-in-Pair.ensures ∙ ap₂ ◌+ℚ◌ c.in_ok-shared-in-Pair.ensures c.in_ok-weighted-in-Pair-2.ensures)
    ∙ sym (ap (λ g. part_of nat_eq (rows c.args.model.now) (group_of g) c.args.y) c.in-Pair.is))

pub returns-in-Joint : goal.returns-in-Joint
unfolding part_of exact_part
returns-in-Joint c = IfSome_then c.table_part.result c.table_part.ensures (λ r e. e ∙ sym (ap (λ g. part_of nat_eq (rows c.args.model.now) (group_of g) c.args.y) c.in-Joint.is))
