use Rattle.std.proofs.Common.{arith}
use Rattle.std.proofs.lemmas.Int.{to_z-of_z}
use Rattle.std.specs.Prelude.{ℤ, ◌≡◌, ◌≤ℤ◌}
use Rattle.exact_fraction.specs.Number.{◌≤ℚ◌}
use Rattle.decimal18.specs.Bound.{Bound, scaled, value_of}
use Rattle.decimal18.proofs.Values.{value-rises}
use Rattle.formula_box.proofs.tests.whole_ends.Goals as goal

in_order : (a b : Bound) (m n : ℤ) → a ≡ scaled m 0 → b ≡ scaled n 0 → m ≤ℤ n → value_of a ≤ℚ value_of b
in_order a b m n e f h = rw (e, f) (value-rises m n 0 h)

pub ends-requires : goal.ends-requires
ends-requires g c = record {
  ordered = in_order c.in-Some.low c.in-Some-new.high c.args.lo c.args.hi (grind (arith, to_z-of_z, c.in-Some.ensures.value))
      (grind (arith, to_z-of_z, c.in-Some-new.ensures.value)) (search arith);
}
