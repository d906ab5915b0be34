use Rattle.decimal18.proofs.Canonical.{IsReduced-canonical, one_canonical}
use Rattle.decimal18.proofs.laws.one_canonical_form.Goals as goal

pub returns-clause-value : goal.returns-clause-value
returns-clause-value c = λ z p. (IsReduced-canonical z p).same

pub returns-clause-canonical : goal.returns-clause-canonical
returns-clause-canonical c = λ z p. (IsReduced-canonical z p).canonical

pub returns-clause-one : goal.returns-clause-one
returns-clause-one c = one_canonical
