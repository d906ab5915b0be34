use Rattle.exact_law.proofs.RuleLaws.{all_guarded-agree, all_inside-agree, all_near-agree, decision-stated}
use Rattle.exact_law.proofs.what_is_settled_over_intervals_is_exact.Goals as goal

pub returns : goal.returns
returns c = record {
  guarded = all_guarded-agree;
  inside = all_inside-agree;
  near = all_near-agree;
  statement = decision-stated;
}
