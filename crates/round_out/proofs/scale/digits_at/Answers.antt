use Rattle.std.proofs.Common.{rules, arith, subst}
use Rattle.std.specs.Prelude.{◌≡◌, ◌≤◌, ◌*◌}
use Rattle.exact_law.specs.Rounding.{least_root}
use Rattle.round_out.proofs.Scaling.{digits_are}
use Rattle.round_out.proofs.scale.digits_at.Goals as goal

pub returns-then-place-root : goal.returns-then-place-root
returns-then-place-root c = λ v h.
    digits_are v c.args.place c.loop-m.m h c.loop-m.invariant.least (search rules) c.loop-m.invariant.low (search rules)

pub returns : goal.returns
returns c = λ v h.
    let last : c.loop-m.m ≡ 99 = search rules in
    digits_are v c.args.place 99 h (omega arith) (omega arith)
    (subst (λ m. least_root m * least_root m * c.args.place.unit ≤ c.args.place.size) last c.loop-m.invariant.low) c.requires.high
