use Rattle.std.proofs.Common.{rules, arith, ◌≡◌, ◌<◌, ◌≤◌, ◌*◌, ◌-◌, sym, subst}
use Rattle.decimal18.proofs.Canonical.{power_positive}
use Rattle.round_out.proofs.Hundredths.{hundredths_are, none_far, at_most_one, power_small, ends_small, one_small}
use Rattle.round_out.proofs.coefficient.hundredths_of.Goals as goal

pub returns-then-places-gt22-clause-root : goal.returns-then-places-gt22-clause-root
returns-then-places-gt22-clause-root c = none_far c.args.square c.requires.not_negative (search rules) (search rules)

pub pow-unit-requires : goal.pow-unit-requires
pow-unit-requires c = let small = power_small c.places-2.result (search rules) in omega arith

pub overflow_mul-end-in-loop-m-2 : goal.overflow_mul-end-in-loop-m-2
overflow_mul-end-in-loop-m-2 c =
    let small = ends_small c.loop-m.m c.places-2.result c.pow-unit.result (search rules) (search rules) c.pow-unit.ensures in
    search rules

pub returns-then-size-end-clause-root : goal.returns-then-size-end-clause-root
returns-then-size-end-clause-root c =
    hundredths_are c.args.square _ c.pow-unit.result c.loop-m.m c.requires.not_negative (search rules) (search rules) c.loop-m.invariant.low (search rules)

pub returns-clause-root : goal.returns-clause-root
returns-clause-root c =
    let last : c.loop-m.m ≡ 100 = search rules in
    hundredths_are c.args.square (c.unsigned_abs.result * 40000) c.pow-unit.result 100 c.requires.not_negative (search rules) (search rules)
    (subst (λ m. (2 * m - 1) * (2 * m - 1) * c.pow-unit.result ≤ c.unsigned_abs.result * 40000) last c.loop-m.invariant.low)
    (one_small _ _ (subst (λ t. 0 < t) (sym c.pow-unit.ensures) (power_positive c.places-2.result))
    (at_most_one c.args.square _ c.pow-unit.result c.requires.not_negative c.requires.at_most_one (search rules) (search rules)))
