use Rattle.std.specs.Prelude.{◌≡◌, ◌*ℤ◌, ◌+◌}
use Rattle.std.proofs.Common.{ap, ap₂, arith, w64, to_z, of_z, ◌∙◌}
use Rattle.std.proofs.lemmas.Int.{to_z-of_z}
use Rattle.fixed_interval.proofs.ExactSpans.{product_value}
use Rattle.fixed_interval.proofs.exact.exact_product.Goals as goal

pub returns-clause-value : goal.returns-clause-value
returns-clause-value c =
    let left : to_z w64 (of_z w64 c.coefficient.result) ≡ c.args.a.coefficient = grind (arith, to_z-of_z, c.coefficient.ensures.value) in
    let right : to_z w64 (of_z w64 c.coefficient-2.result) ≡ c.args.b.coefficient = grind (arith, to_z-of_z, c.coefficient-2.ensures.value) in
    product_value c.args.a c.args.b _ _ c.new.result
    (ap (λ z. to_z w64 (of_z w64 z)) c.in_ok-coefficient.ensures.1 ∙ to_z-of_z w64 _ c.in_ok-coefficient.ensures.0 ∙ ap₂ (λ m n. m *ℤ n) left right)
    (ap₂ (λ m n. m + n) c.places.ensures.value c.places-2.ensures.value) c.new.ensures.value
