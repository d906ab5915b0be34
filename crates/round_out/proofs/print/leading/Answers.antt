use Rattle.std.proofs.Common.{◌<◌, ◌≤◌, ◌^◌, sym, arith, subst}
use Rattle.std.proofs.Math.Dec.{lit≤}
use Rattle.std.proofs.Math.Nat.{div-eq_of_lt, pow-le-pow_right}
use Rattle.decimal18.proofs.Canonical.{power_positive}
use Rattle.round_out.proofs.print.leading.Goals as goal

pub returns-then-count-gt38 : goal.returns-then-count-gt38
returns-then-count-gt38 c =
    let many : 39 ≤ c.args.count = omega arith in
    let most : 10 ^ 39 ≤ 10 ^ c.args.count = pow-le-pow_right {n = 10} (lit≤ tt) many in
    let below : c.args.size < 10 ^ c.args.count = omega arith in
    sym (div-eq_of_lt below)

pub pow-requires : goal.pow-requires
pow-requires c =
    let few : c.args.count ≤ 38 = omega arith in
    let most : 10 ^ c.args.count ≤ 10 ^ 38 = pow-le-pow_right {n = 10} (lit≤ tt) few in
    omega arith

pub nonzero_div-result : goal.nonzero_div-result
nonzero_div-result c = subst (λ t. 0 < t) (sym c.pow.ensures) (power_positive c.args.count)
