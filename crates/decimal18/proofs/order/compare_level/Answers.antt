use Rattle.std.proofs.Common.{arith, ap, ◌∙◌, ◌≡◌, w64, to_z, of_z}
use Rattle.std.proofs.lemmas.Cmp.{int_ranked}
use Rattle.std.proofs.lemmas.Int.{ints}
use Rattle.std.specs.Ordering.{int_cmp}
use Rattle.decimal18.proofs.Compared.{level}
use Rattle.decimal18.proofs.order.compare_level.Goals as goal

pub returns : goal.returns
returns c =
    let a : to_z w64 (of_z w64 c.coefficient.result) ≡ c.args.a.coefficient = omega (arith, ints, c.coefficient.ensures) in
    let b : to_z w64 (of_z w64 c.coefficient-2.result) ≡ c.args.b.coefficient = omega (arith, ints, c.coefficient-2.ensures) in
    level c.args.a.coefficient c.args.b.coefficient c.args.a.places c.args.b.places c.cmp.result c.requires
    (int_ranked c.args.a.coefficient c.args.b.coefficient c.cmp.result
    (c.cmp.ensures ∙ ap (λ z. int_cmp z (to_z w64 (of_z w64 c.coefficient-2.result))) a ∙ ap (λ z. int_cmp c.args.a.coefficient z) b))
