use Rattle.fixed_interval.proofs.Enclosures.{answer_has}
use Rattle.fixed_interval.proofs.Squares.{square_with_zero, square_without_zero}
use Rattle.fixed_interval.proofs.Inclusions.{square_span_encloses}
use Rattle.fixed_interval.proofs.products.sqr.Goals as goal

pub returns-then-holds_zero-clause-span : goal.returns-then-holds_zero-clause-span
returns-then-holds_zero-clause-span g c = let e = square_with_zero c.args.a.now (cc) in cc

pub returns-then-holds_zero-clause-encloses : goal.returns-then-holds_zero-clause-encloses
returns-then-holds_zero-clause-encloses g c = λ q h.
    answer_has _ _ _ (returns-then-holds_zero-clause-span g c) _ (λ s e. square_span_encloses _ s e q h)

pub returns-clause-span : goal.returns-clause-span
returns-clause-span g c = let e = square_without_zero c.args.a.now c.holds_zero.ensures.ordered (cc) in cc

pub returns-clause-encloses : goal.returns-clause-encloses
returns-clause-encloses g c = λ q h. answer_has _ _ _ (returns-clause-span g c) _ (λ s e. square_span_encloses _ s e q h)
