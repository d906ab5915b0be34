use Rattle.decimal18.specs.Digits.{signed}
use Rattle.decimal18.proofs.LiteralBound.{new_is}
use Rattle.decimal18.proofs.literal.signed_bound.Goals as goal

pub returns : goal.returns
returns c =
    new_is (signed c.args.negative c.args.digits) c.args.places c.from_magnitude.result
    c.from_magnitude.ensures.valid c.from_magnitude.ensures.value
