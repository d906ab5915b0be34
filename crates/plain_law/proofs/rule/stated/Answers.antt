use Rattle.std.proofs.Common.{◌∙◌}
use Rattle.plain_law.specs.Numbers.{number}
use Rattle.plain_law.specs.RuleViews.{distances_of, rule_of}
use Rattle.plain_law.proofs.RuleLemmas.{stated_with, joined_with}
use Rattle.plain_law.proofs.rule.stated.Goals as goal

pub returns : goal.returns
returns c =
    c.stated_by.ensures
    ∙ stated_with (rule_of c.args.rule.now) (number c.args.estimate) (number c.args.factor) (number c.args.variance)
    (number c.in_ok-square.square) (distances_of c.in_ok-above_lower.field-0) (distances_of c.in_ok-below_upper.field-0)
    _ _ _ c.in_ok-square.ensures c.in_ok-above_lower.ensures c.in_ok-below_upper.ensures
    (joined_with c.joined.ensures.guarded c.in_ok-lower.ensures.guarded c.in_ok-upper.ensures.guarded)
    (joined_with c.joined.ensures.inside c.in_ok-lower.ensures.inside c.in_ok-upper.ensures.inside)
    (joined_with c.joined.ensures.near c.in_ok-lower.ensures.near c.in_ok-upper.ensures.near)
