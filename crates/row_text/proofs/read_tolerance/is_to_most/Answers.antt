use Rattle.std.proofs.Common.{◌∙◌, ap, pos}
use Rattle.exact_fraction.specs.Number.{is_at_most_ℚ}
use Rattle.decimal18.specs.Bound.{value_of}
use Rattle.decimal18.proofs.Values.{value-whole}
use Rattle.row_text.proofs.read_tolerance.is_to_most.Goals as goal

pub returns : goal.returns
returns c =
    c.is_at_most.ensures
    ∙ ap (is_at_most_ℚ (value_of c.args.number)) (ap value_of c.whole.ensures ∙ value-whole (pos 3))
