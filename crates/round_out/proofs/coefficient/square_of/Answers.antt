use Rattle.fixed_interval.proofs.Sums.{missing, there}
use Rattle.round_out.proofs.Coefficients.{quotient_there, quotient_missing, no_first, no_second, no_product, square_there, in_order, within_one}
use Rattle.round_out.proofs.coefficient.square_of.Goals as goal

pub returns-in_default-clause-span : goal.returns-in_default-clause-span
returns-in_default-clause-span g c =
    no_first _ _ _ _ (quotient_missing c.args.c.now c.args.v.now _ c.requires.positive.first c.in_default.ensures.span)

pub returns-in_default-div-clause-span : goal.returns-in_default-div-clause-span
returns-in_default-div-clause-span g c =
    no_second _ _ _ _ _ (quotient_there c.args.c.now c.args.v.now _ c.requires.positive.first c.in-Ok.ensures.span)
    (quotient_missing c.args.c.now c.args.w.now _ c.requires.positive.second c.in_default-div.ensures.span)

pub returns-in_default-mul-clause-span : goal.returns-in_default-mul-clause-span
returns-in_default-mul-clause-span g c =
    no_product _ _ _ _ _ _ (quotient_there c.args.c.now c.args.v.now _ c.requires.positive.first c.in-Ok.ensures.span)
    (quotient_there c.args.c.now c.args.w.now _ c.requires.positive.second c.in-Ok-div.ensures.span)
    (missing _ _ _ c.in_default-mul.ensures.span)

pub cut-requires : goal.cut-requires
cut-requires g c = record { ordered = in_order _ _ c.whole.ensures c.whole-2.ensures }

pub returns-clause-span : goal.returns-clause-span
returns-clause-span g c =
    square_there _ _ _ _ _ _ _ _ _ _ (quotient_there c.args.c.now c.args.v.now _ c.requires.positive.first c.in-Ok.ensures.span)
    (quotient_there c.args.c.now c.args.w.now _ c.requires.positive.second c.in-Ok-div.ensures.span)
    (there _ _ _ c.in-Ok-mul.ensures.span) c.whole.ensures c.whole-2.ensures c.cut.ensures.span

pub returns-clause-within : goal.returns-clause-within
returns-clause-within g c = within_one _ _ _ _ c.whole.ensures c.whole-2.ensures c.cut.ensures.span
