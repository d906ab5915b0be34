use Rattle.std.proofs.Common.{◌∙◌, ap₂}
use Rattle.exact_law.specs.WrittenRule.{both}
use Rattle.guard_band.proofs.Joined.{at_both}
use Rattle.guard_band.proofs.decide.holds_for_all.Goals as goal

pub returns : goal.returns
returns c =
    c.both.ensures ∙ ap₂ both c.holds_at.ensures c.holds_at-2.ensures
    ∙ at_both _ c.args.lower.now c.args.upper.now
