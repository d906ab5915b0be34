use Rattle.std.specs.Prelude.{◌≡◌, true, pos, refl}
use Rattle.std.proofs.Common.{rules, ◌∙◌, ap}
use std.Quotient.{/_rec, /_rec₂}
use Rattle.exact_fraction.specs.Fraction.{is_at_most}
use Rattle.exact_fraction.specs.Number.{is_at_most_ℚ}
use Rattle.decimal18.specs.Bound.{scaled, value_of}
use Rattle.sheet_rows.specs.Regular.{is_guard}
use Rattle.edit_session.proofs.law_tests.tolerance.Goals as goal

one_is_guard : is_guard (scaled (pos 1) 0) ≡ true
unfolding value_of is_at_most_ℚ is_at_most /_rec₂ /_rec
one_is_guard = refl

pub returns : goal.returns
returns c = (
  search rules,
  (tt, search rules, search rules),
  record { limit = refl; guard = ap is_guard c.whole-2.ensures ∙ one_is_guard; order = refl },
)
