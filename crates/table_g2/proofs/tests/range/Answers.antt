use Rattle.std.proofs.Common.{sym, ◌∙◌, rules}
use Rattle.exact_fraction.specs.NumberLaws.{≤ℚ_trans}
use Rattle.table_g2.proofs.Worked.{one_to}
use Rattle.table_g2.proofs.tests.range.Goals as goal

pub returns : goal.returns
returns c = record {
  at_least_one = ≤ℚ_trans _ _ _ (one_to c.whole.result c.whole.ensures) (record { holds = sym c.is_at_most.ensures ∙ search rules });
  ordered = record { holds = sym c.is_at_most-2.ensures ∙ search rules };
}
