use Rattle.std.proofs.Common.{◌≤◌, ◌^◌, sym, ◌∙◌, arith}
use Rattle.std.specs.Prelude.{unsigned_abs}
use Rattle.std.proofs.lemmas.Bool.{le-leb}
use Rattle.std.proofs.Math.Dec.{lit≤}
use Rattle.std.proofs.Math.Nat.{pow-le-pow_right}
use Rattle.row_text.proofs.read_corr.is_coefficient.Goals as goal

pub returns-then-places-ge18 : goal.returns-then-places-ge18
returns-then-places-ge18 c =
    let many : 18 ≤ c.args.number.places = omega (arith, c.if-places-ge18.true, c.places-places.ensures.value) in
    let great : 10 ^ 18 ≤ 10 ^ c.args.number.places = pow-le-pow_right {n = 10} (lit≤ tt) many in
    let small = rw c.coefficient.ensures.value at c.coefficient.ensures.digits in
    let within : unsigned_abs c.args.number.coefficient ≤ 10 ^ c.args.number.places = omega (arith, small, great) in
    le-leb _ _ c.if-places-ge18.true ∙ sym (le-leb _ _ within)
