use Rattle.std.specs.Prelude.{◌≡◌, pos}
use Rattle.std.proofs.Common.{ap, arith, w64, to_z, of_z, ◌∙◌}
use Rattle.std.proofs.lemmas.Int.{to_z-of_z}
use lib.Signed.{le_z}
use Rattle.fixed_interval.proofs.Signs.{not_positive_test}
use Rattle.fixed_interval.proofs.bounds.is_not_positive.Goals as goal

pub returns : goal.returns
returns c =
    let same : to_z w64 (of_z w64 c.coefficient.result) ≡ c.args.a.coefficient = grind (arith, to_z-of_z, c.coefficient.ensures.value) in
    ap (λ z. le_z z (pos 0)) same ∙ not_positive_test c.args.a
