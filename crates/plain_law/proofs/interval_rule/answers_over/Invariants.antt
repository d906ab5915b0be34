use Rattle.std.proofs.Common.{◌≡◌, map, drop}
use Rattle.exact_law.specs.WrittenRule.{all_over, both, guarded_over, inside_over, near_over}
use Rattle.plain_law.specs.RuleViews.{answer_of, ends_of, span_of}
use Rattle.plain_law.proofs.interval_rule.answers_over.Given as goal

abbrev pub invariant-loop-span : goal.invariant-loop-span
invariant-loop-span l = record {
  guarded : both (answer_of l.answers.guarded) (all_over (guarded_over (ends_of l.square)) (map span_of (drop l.span-index l.spans)))
      ≡ all_over (guarded_over (ends_of l.square)) (map span_of l.spans);
  inside : both (answer_of l.answers.inside) (all_over inside_over (map span_of (drop l.span-index l.spans))) ≡ all_over inside_over (map span_of l.spans);
  near : both (answer_of l.answers.near) (all_over (near_over (ends_of l.square)) (map span_of (drop l.span-index l.spans)))
      ≡ all_over (near_over (ends_of l.square)) (map span_of l.spans);
}
