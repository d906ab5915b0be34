use Rattle.std.proofs.Common.{arith, ◌∙◌, ap, ◌-◌, ◌^◌, ◌≡◌, min}
use Rattle.std.proofs.lemmas.Int.{ints}
use Rattle.decimal18.proofs.Compared.{both_above, both_below, first_below, second_below}
use Rattle.decimal18.proofs.order.compare.Goals as goal

pub returns-then-coefficient-lt0-2 : goal.returns-then-coefficient-lt0-2
returns-then-coefficient-lt0-2 c =
    let k = c.args.b.places - c.args.a.places in
    let zeros : c.min-zeros.result ≡ min k 19 = omega arith in
    both_below c.args.a.coefficient c.args.b.coefficient c.size.result c.size-2.result c.args.a.places c.args.b.places k c.power_of_ten.result c.cmp.result
    (omega arith) (c.power_of_ten.ensures.value ∙ ap (λ i. 10 ^ i) zeros) c.size-2.ensures.digits c.size.ensures.value c.size-2.ensures.value
    (omega (arith, ints)) (omega (arith, ints)) c.cmp.ensures

pub returns-else-coefficient-lt0-2 : goal.returns-else-coefficient-lt0-2
returns-else-coefficient-lt0-2 c =
    first_below c.args.a.coefficient c.args.b.coefficient c.args.a.places c.args.b.places (c.args.b.places - c.args.a.places) (omega arith)
    (omega (arith, ints)) (omega (arith, ints))

pub returns-then-coefficient-lt0-3 : goal.returns-then-coefficient-lt0-3
returns-then-coefficient-lt0-3 c =
    second_below c.args.a.coefficient c.args.b.coefficient c.args.a.places c.args.b.places (c.args.b.places - c.args.a.places) (omega arith)
    (omega (arith, ints)) (omega (arith, ints))

pub returns-else-coefficient-lt0-3 : goal.returns-else-coefficient-lt0-3
returns-else-coefficient-lt0-3 c =
    let k = c.args.b.places - c.args.a.places in
    let zeros : c.min-zeros.result ≡ min k 19 = omega arith in
    both_above c.args.a.coefficient c.args.b.coefficient c.size.result c.size-2.result c.args.a.places c.args.b.places k c.power_of_ten.result
    c.cmp-else-coefficient-lt0-3.result
    (omega arith) (c.power_of_ten.ensures.value ∙ ap (λ i. 10 ^ i) zeros) c.size-2.ensures.digits c.size.ensures.value c.size-2.ensures.value
    (omega (arith, ints)) (omega (arith, ints)) c.cmp-else-coefficient-lt0-3.ensures
