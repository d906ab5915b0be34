use Rattle.std.proofs.Common.{◌∙◌, ap, sym, ◌*◌, ◌+◌}
use Rattle.std.specs.Prelude.{Bool, pos}
use Rattle.decimal18.specs.Bound.{scaled, value_of}
use Rattle.decimal18.specs.Digits.{rounded, signed, signed_ℚ}
use Rattle.decimal18.proofs.CutOff.{exact_cut}
use Rattle.decimal18.proofs.Products.{product_at}
use Rattle.decimal18.proofs.product.product.Goals as goal

pub returns : goal.returns
returns c =
    let digits = c.size.result * c.size-2.result in
    let places = c.places.result + c.places-2.result in
    c.round.ensures _ (exact_cut digits places)
    ∙ ap (λ (negative : Bool). rounded c.args.direction (signed_ℚ negative (value_of (scaled (pos digits) places)))) c.differ-negative.ensures
    ∙ ap (rounded c.args.direction)
    (product_at c.args.a.coefficient c.args.b.coefficient c.is_negative.result c.is_negative-2.result c.size.result c.size-2.result
    c.args.a.places c.args.b.places c.places.result c.places-2.result
    (c.is_negative.ensures ∙ ap (signed c.is_negative.result) (sym c.size.ensures.value))
    (c.is_negative-2.ensures ∙ ap (signed c.is_negative-2.result) (sym c.size-2.ensures.value))
    c.places.ensures.value c.places-2.ensures.value)
