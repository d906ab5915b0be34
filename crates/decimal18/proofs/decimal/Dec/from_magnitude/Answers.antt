use Rattle.std.proofs.Common.{◌≡◌, refl, arith, sym, ap, ◌∙◌, w64, to_z, of_z}
use Rattle.std.proofs.lemmas.Bool.{false≢true}
use Rattle.std.proofs.lemmas.Int.{ints}
use Rattle.decimal18.specs.Bound.{scaled}
use Rattle.decimal18.proofs.Zeros.{canonical_without, bound_without, without_bound}
use Rattle.decimal18.proofs.decimal.Dec.from_magnitude.Goals as goal
use Rattle.decimal18.proofs.decimal.Dec.from_magnitude.Goals.{then-size-ge-LIMIT-via-then-size-ge-LIMIT, then-size-ge-LIMIT-via-else-size-ge-LIMIT+then-size-gt36}

pub returns-then-size-ge-LIMIT-clause-valid : goal.returns-then-size-ge-LIMIT-clause-valid
returns-then-size-ge-LIMIT-clause-valid c = (
  λ h. absurd (false≢true h),
  λ bound.
      let fits = without_bound c.args.negative _ _ _ _ c.without_zeros-size.ensures.same c.without_zeros-size.ensures.few bound in
      elim c.then-size-ge-LIMIT.branch [
        | then-size-ge-LIMIT-via-then-size-ge-LIMIT w ↦ absurd (omega (arith, fits.0))
        | then-size-ge-LIMIT-via-else-size-ge-LIMIT+then-size-gt36 w ↦ absurd (omega (arith, fits.1))
      ],
)

pub returns-clause-valid : goal.returns-clause-valid
returns-clause-valid c = (
  λ _. bound_without c.args.negative _ _ _ _ c.without_zeros-size.ensures.same c.without_zeros-size.ensures.few (omega arith) (omega arith),
  λ _. refl,
)

pub returns-clause-value : goal.returns-clause-value
returns-clause-value c =
    let e : to_z w64 (of_z w64 c.with_sign.result) ≡ c.with_sign.result = omega (arith, ints) in
    ap (λ z. scaled z c.without_zeros-size.result.places) (e ∙ c.with_sign.ensures)
    ∙ sym (canonical_without c.args.negative _ _ _ _ c.without_zeros-size.ensures.same c.without_zeros-size.ensures.few)
