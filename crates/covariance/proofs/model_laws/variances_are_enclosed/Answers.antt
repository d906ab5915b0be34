use Rattle.exact_law.specs.Law.{law as exact_law}
use Rattle.covariance.specs.Groups.{exact_group}
use Rattle.std.specs.Prelude.{map}
use Rattle.covariance.specs.Variances.{combined_variance_span}
use Rattle.covariance.proofs.Models.{law_variance_holds, there_encloses}
use Rattle.covariance.proofs.NotNegative.{variance-from_zero, some-from_zero}
use Rattle.covariance.proofs.model_laws.variances_are_enclosed.Goals as goal

pub returns-clause-enclosed : goal.returns-clause-enclosed
returns-clause-enclosed g c same law model groups a k y h =
    there_encloses (combined_variance_span y groups) (exact_law same model (map exact_group groups) k k) (law_variance_holds same law model groups a k y h)

pub returns-clause-not_negative : goal.returns-clause-not_negative
returns-clause-not_negative g c groups y = some-from_zero (combined_variance_span y groups) (variance-from_zero groups y)
