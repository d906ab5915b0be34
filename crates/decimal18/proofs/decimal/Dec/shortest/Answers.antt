use Rattle.std.proofs.Common.{◌≡◌, arith, sym, ap, subst, ◌∙◌, w64, to_z, of_z}
use Rattle.std.proofs.lemmas.Int.{ints}
use Rattle.decimal18.specs.Bound.{scaled, IsDecimal}
use Rattle.decimal18.proofs.Zeros.{canonical_without, decimal_without, without_smaller}
use Rattle.decimal18.proofs.decimal.Dec.shortest.Goals as goal

pub with_sign-requires : goal.with_sign-requires
with_sign-requires c = omega (arith, c.requires.digits, without_smaller _ _ _ _ c.without_zeros-short.ensures.same)

pub invariant_of-result : goal.invariant_of-result
invariant_of-result c =
    let short = c.without_zeros-short in
    let decimal = decimal_without c.args.negative _ _ _ _ short.ensures.same short.ensures.few c.requires.digits c.requires.places in
    let e : to_z w64 (of_z w64 c.with_sign.result) ≡ c.with_sign.result = omega (arith, ints) in
    subst (λ z. IsDecimal (scaled z short.result.places)) (sym (e ∙ c.with_sign.ensures)) decimal

pub returns : goal.returns
returns c =
    let e : to_z w64 (of_z w64 c.with_sign.result) ≡ c.with_sign.result = omega (arith, ints) in
    ap (λ z. scaled z c.without_zeros-short.result.places) (e ∙ c.with_sign.ensures)
    ∙ sym (canonical_without c.args.negative _ _ _ _ c.without_zeros-short.ensures.same c.without_zeros-short.ensures.few)
