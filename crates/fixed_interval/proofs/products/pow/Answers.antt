use Rattle.std.specs.Prelude.{◌≡◌, unsigned_abs}
use Rattle.std.proofs.Common.{arith, sym, ◌∙◌}
use Rattle.std.proofs.lemmas.Int.{ints}
use Rattle.fixed_interval.specs.Powers.{power_span}
use Rattle.fixed_interval.proofs.Halving.{some_of_ok, positive_encloses, negative_encloses}
use Rattle.fixed_interval.proofs.products.pow.Goals as goal

pub returns-then-k-gt0-clause-encloses : goal.returns-then-k-gt0-clause-encloses
returns-then-k-gt0-clause-encloses g c =
    let size : c.unsigned_abs.result ≡ unsigned_abs c.args.k = omega (arith, ints) in
    positive_encloses c.args.a.now c.in-Ok.power c.args.k c.unsigned_abs.result size (omega (arith, ints))
    (some_of_ok (power_span c.args.a.now c.unsigned_abs.result) _ c.in-Ok.power (sym c.in-Ok.is ∙ c.whole_power.ensures.span))

pub returns-clause-encloses : goal.returns-clause-encloses
returns-clause-encloses g c =
    let size : c.unsigned_abs.result ≡ unsigned_abs c.args.k = omega (arith, ints) in
    negative_encloses c.args.a.now c.in-Ok.power c.whole.result c.args.k c.unsigned_abs.result c.div.result size (omega (arith, ints))
    c.requires.nonzero
    (some_of_ok (power_span c.args.a.now c.unsigned_abs.result) _ c.in-Ok.power (sym c.in-Ok.is ∙ c.whole_power.ensures.span))
    c.whole.ensures (rw c.point-one.ensures.span at c.div.ensures.encloses)
