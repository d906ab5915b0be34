use Rattle.std.proofs.Common.{rules, ◌≡◌, ◌+◌, None, length, sym, ap, ◌∙◌}
use Rattle.decimal18.specs.Bound.{scaled}
use Rattle.decimal18.specs.Digits.{signed}
use Rattle.decimal18.specs.Literal.{as_bound}
use Rattle.decimal18.specs.Significand.{number_of}
use Rattle.decimal18.proofs.LiteralBound.{long_is_none}
use Rattle.decimal18.proofs.LiteralDigits.{parts_value, long_whole, long_parts, more_zeros}
use Rattle.decimal18.proofs.literal.exact_bound.Goals as goal

pub returns-in_err-append : goal.returns-in_err-append
returns-in_err-append c =
    let none : c.from_residual.result ≡ None = search rules in
    rw none (sym (long_is_none
    c.args.negative _ c.args.power.raised (length c.args.after_point.now + c.args.power.lowered)
    (long_whole c.args.whole.now c.args.after_point.now c.requires.after_point (rw c.in_err-append.was at c.append.ensures.read))))

pub returns-in_err-size : goal.returns-in_err-size
returns-in_err-size c =
    let none : c.from_residual-in_err-size.result ≡ None = search rules in
    rw none (sym (long_is_none
    c.args.negative _ c.args.power.raised (length c.args.after_point.now + c.args.power.lowered)
    (long_parts c.args.whole.now c.args.after_point.now (number_of c.in_ok-append.field-0)
    (rw c.in_ok-append.was at c.append.ensures.read) (rw c.in_err-size.was at c.append-2.ensures.read))))

pub returns : goal.returns
returns c =
    let n = number_of c.in_ok-size.size in
    let e = parts_value
    c.args.whole.now c.args.after_point.now (number_of c.in_ok-append.field-0) n
    (rw c.in_ok-append.was at c.append.ensures.read) (rw c.in_ok-size.was at c.append-2.ensures.read) in
    c.scaled_bound.ensures
    ∙ ap (λ m. as_bound (scaled (signed c.args.negative m) (length c.args.after_point.now + c.args.power.lowered)))
    (more_zeros _ c.in_ok-size.size.digits c.in_ok-size.size.zeros c.args.power.raised e)
