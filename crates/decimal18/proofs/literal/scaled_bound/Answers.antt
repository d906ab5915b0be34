use Rattle.std.proofs.Common.{rules, ◌≡◌, None, arith, sym}
use Rattle.decimal18.proofs.LiteralBound.{zero_is, wide_is, deep_is, wide_is_none, deep_is_none}
use Rattle.decimal18.proofs.literal.scaled_bound.Goals as goal

pub returns-then-digits-eq0 : goal.returns-then-digits-eq0
returns-then-digits-eq0 c =
    zero_is c.args.negative c.args.digits c.args.raised c.args.lowered _ c.if-digits-eq0.true c.signed_bound.ensures

pub returns-in_err-with_zeros : goal.returns-in_err-with_zeros
returns-in_err-with_zeros c =
    let none : c.from_residual.result ≡ None = search rules in
    rw none (sym (wide_is_none
    c.args.negative c.args.digits c.args.raised c.args.lowered c.if-raised-lowered.true (c.with_zeros.ensures.none c.in_err-with_zeros.was)))

pub returns-then-raised-lowered : goal.returns-then-raised-lowered
returns-then-raised-lowered c =
    wide_is
    c.args.negative c.args.digits c.args.raised c.args.lowered _ _ c.if-raised-lowered.true
    (rw c.in_ok-with_zeros.was at c.with_zeros.ensures.value).0 c.signed_bound-then-raised-lowered.ensures

pub returns-then-lowered-raised-gt-MOST_PLACES : goal.returns-then-lowered-raised-gt-MOST_PLACES
returns-then-lowered-raised-gt-MOST_PLACES c =
    sym (deep_is_none
    c.args.negative c.args.digits c.args.raised c.args.lowered (λ h. c.if-digits-eq0.false (c.requires.ended h)) (omega arith))

pub returns : goal.returns
returns c =
    deep_is c.args.negative c.args.digits c.args.raised c.args.lowered _ (omega arith) c.signed_bound-2.ensures
