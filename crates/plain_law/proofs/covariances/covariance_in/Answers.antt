use Rattle.std.specs.Prelude.{nat_eq}
use Rattle.std.proofs.Common.{◌∙◌, ap, ap₂, sym}
use Rattle.std.proofs.lemmas.Option.{IfSome_then}
use Rattle.exact_fraction.specs.Number.{◌+ℚ◌}
use Rattle.exact_law.specs.Law.{covariance_in}
use Rattle.plain_law.specs.Groups.{group_of}
use Rattle.plain_law.proofs.covariances.covariance_in.Goals as goal

pub returns-in-Own : goal.returns-in-Own
unfolding covariance_in
returns-in-Own c =
    IfSome_then c.cell.result c.cell.ensures (λ r e. e ∙ sym (ap (λ g. covariance_in nat_eq (group_of g) c.args.i c.args.j) c.in-Own.is))

pub returns-in_ok-plus-in-Pair : goal.returns-in_ok-plus-in-Pair
unfolding covariance_in
returns-in_ok-plus-in-Pair c =
    IfSome_then c.plus-in-Pair-2.result c.plus-in-Pair-2.ensures
    (λ x e. e
    ∙ ap₂ ◌+ℚ◌
    (c.in_ok-own-in-Pair-2.ensures ∙ ap₂ ◌+ℚ◌ c.in_ok-own-in-Pair.ensures c.in_ok-cell-in-Pair.ensures)
    (c.in_ok-plus-in-Pair.ensures ∙ ap₂ ◌+ℚ◌ c.in_ok-shared-in-Pair.ensures c.in_ok-cell-in-Pair-2.ensures)
    ∙ sym (ap (λ g. covariance_in nat_eq (group_of g) c.args.i c.args.j) c.in-Pair.is))

pub returns-in-Joint : goal.returns-in-Joint
unfolding covariance_in
returns-in-Joint c =
    IfSome_then c.in_table.result c.in_table.ensures (λ r e. e ∙ sym (ap (λ g. covariance_in nat_eq (group_of g) c.args.i c.args.j) c.in-Joint.is))
