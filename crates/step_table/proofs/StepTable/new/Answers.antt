use Rattle.std.proofs.Common.{arith, refl, ◌-◌}
use Rattle.step_table.proofs.Places.{rising_from, not_rising}
use Rattle.step_table.proofs.StepTable.new.Goals as goal

pub returns-then-keys-place-clause-rising : goal.returns-then-keys-place-clause-rising
returns-then-keys-place-clause-rising g c =
    (λ h. cc, λ h. absurd (not_rising c.args.keys (c.loop-place.place - 1) c.loop-place.place (omega arith) (omega arith) c.if-keys-place.true h))

pub invariant_of-result : goal.invariant_of-result
invariant_of-result g c = rising_from _ (λ k within. c.loop-place.invariant k (omega arith))

pub returns-clause-rising : goal.returns-clause-rising
returns-clause-rising g c = (λ _. invariant_of-result g c, λ _. refl)
