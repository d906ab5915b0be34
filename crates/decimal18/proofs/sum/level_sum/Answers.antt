use Rattle.std.proofs.Common.{◌∙◌, ap, arith, sym, ◌≡◌, ◌+ℤ◌, ℤ, w64, to_z, of_z}
use Rattle.std.proofs.lemmas.Int.{ints}
use Rattle.decimal18.specs.Digits.{rounded, signed}
use Rattle.decimal18.proofs.CutOff.{exact_cut_at}
use Rattle.decimal18.proofs.Sums.{level_sum}
use Rattle.decimal18.proofs.sum.level_sum.Goals as goal

pub returns : goal.returns
returns c =
    let s : ℤ = to_z w64 (of_z w64 (to_z w64 (of_z w64 c.coefficient.result) +ℤ to_z w64 (of_z w64 c.coefficient-2.result))) in
    let all : s ≡ c.args.a.coefficient +ℤ c.args.b.coefficient = omega (arith, ints, c.coefficient.ensures, c.coefficient-2.ensures) in
    c.round.ensures _ (exact_cut_at c.unsigned_abs.result c.args.b.places _ c.places.ensures.value)
    ∙ ap (rounded c.args.direction) (level_sum c.args.a.coefficient c.args.b.coefficient s c.is_negative.result c.unsigned_abs.result c.args.a.places c.args.b.places
    all (c.is_negative.ensures ∙ ap (signed c.is_negative.result) (sym c.unsigned_abs.ensures.value)) c.requires)
