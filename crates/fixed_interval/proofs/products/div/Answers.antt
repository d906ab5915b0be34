use Rattle.fixed_interval.proofs.Inclusions.{quotient_by_zero, quotient_without_zero, quotient_encloses}
use Rattle.fixed_interval.proofs.products.div.Goals as goal

pub returns-then-holds_zero-clause-span : goal.returns-then-holds_zero-clause-span
returns-then-holds_zero-clause-span g c = quotient_by_zero _ _ (cc)

pub returns-clause-span : goal.returns-clause-span
returns-clause-span g c = let e = quotient_without_zero c.args.a.now c.args.b.now (cc) in cc

pub returns-clause-encloses : goal.returns-clause-encloses
returns-clause-encloses g c = quotient_encloses _ _ _ (returns-clause-span g c)
