use Rattle.std.proofs.Common.{rules}
use Rattle.round_out.proofs.Units.{few_digits, whole_at, rounded_at, far_at, power_within}
use Rattle.round_out.proofs.estimate.units_at.Goals as goal

pub product-requires : goal.product-requires
product-requires c = few_digits _ c.unsigned_abs.result c.unsigned_abs.result c.power_of_ten.result (search rules) (search rules) (search rules)

pub returns-then-after-le0 : goal.returns-then-after-le0
returns-then-after-le0 c =
    whole_at c.args.number _ c.digits_after-after.result c.args.e c.places.result c.unsigned_abs.result c.power_of_ten.result
    (search rules) (search rules) (search rules) (search rules) (search rules) (search rules)

pub returns-then-after-gt18 : goal.returns-then-after-gt18
returns-then-after-gt18 c =
    far_at c.args.number c.digits_after-after.result c.args.e c.places.result (search rules) (search rules) (search rules) (search rules)

pub nearest-requires-clause-positive : goal.nearest-requires-clause-positive
nearest-requires-clause-positive c = (power_within c.unsigned_abs-2.result 18 _ c.power_of_ten-2.ensures (search rules)).0

pub nearest-requires-clause-most : goal.nearest-requires-clause-most
nearest-requires-clause-most c = (power_within c.unsigned_abs-2.result 18 _ c.power_of_ten-2.ensures (search rules)).1

pub returns : goal.returns
returns c =
    rounded_at c.args.number _ c.digits_after-after.result c.args.e c.places.result c.unsigned_abs-2.result c.power_of_ten-2.result
    (search rules) (search rules) (search rules) (search rules) (search rules) (search rules)
