use Rattle.std.proofs.Common.{arith}
use Rattle.exact_law.specs.WrittenRule.{guarded_over, inside_over, near_over}
use Rattle.plain_law.specs.RuleViews.{ends_of}
use Rattle.plain_law.proofs.RuleLemmas.{yes_both, all_over-next, all_over-end}
use Rattle.plain_law.proofs.interval_rule.answers_over.Goals as goal

pub loop-span-init : goal.loop-span-init
loop-span-init c = record { guarded = yes_both _; inside = yes_both _; near = yes_both _ }

pub loop-span-preserved : goal.loop-span-preserved
loop-span-preserved c = record {
  guarded = rw c.joined-answers.ensures.guarded
      (all_over-next (guarded_over (ends_of c.args.square)) c.args.spans.now c.loop-span.span-index c.span-item.result _ _ _ (omega arith)
      c.span-item.is c.in_ok-answers_at.ensures.guarded c.loop-span.invariant.guarded);
  inside = rw c.joined-answers.ensures.inside
      (all_over-next inside_over c.args.spans.now c.loop-span.span-index c.span-item.result _ _ _ (omega arith)
      c.span-item.is c.in_ok-answers_at.ensures.inside c.loop-span.invariant.inside);
  near = rw c.joined-answers.ensures.near
      (all_over-next (near_over (ends_of c.args.square)) c.args.spans.now c.loop-span.span-index c.span-item.result _ _ _ (omega arith)
      c.span-item.is c.in_ok-answers_at.ensures.near c.loop-span.invariant.near);
}

pub returns-clause-guarded : goal.returns-clause-guarded
returns-clause-guarded c =
    all_over-end (guarded_over (ends_of c.args.square)) c.args.spans.now c.loop-span.span-index _ _ (omega arith) c.loop-span.invariant.guarded

pub returns-clause-inside : goal.returns-clause-inside
returns-clause-inside c = all_over-end inside_over c.args.spans.now c.loop-span.span-index _ _ (omega arith) c.loop-span.invariant.inside

pub returns-clause-near : goal.returns-clause-near
returns-clause-near c =
    all_over-end (near_over (ends_of c.args.square)) c.args.spans.now c.loop-span.span-index _ _ (omega arith) c.loop-span.invariant.near
