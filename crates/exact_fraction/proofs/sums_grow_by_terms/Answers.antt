use Rattle.std.proofs.Common.{refl}
use Rattle.exact_fraction.specs.Sums.{total, below}
use Rattle.exact_fraction.proofs.sums_grow_by_terms.Goals as goal

pub returns : goal.returns
unfolding total below
returns c c' = record {
  nothing = λ f. refl;
  one_more = λ f x xs. refl;
  below_zero = λ f. refl;
  below_next = λ f n. refl;
}
