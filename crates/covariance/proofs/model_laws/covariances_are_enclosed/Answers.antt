use Rattle.exact_law.specs.Law.{law as exact_law}
use Rattle.covariance.specs.Groups.{exact_group}
use Rattle.std.specs.Prelude.{map}
use Rattle.covariance.specs.Variances.{combined_covariance_span}
use Rattle.covariance.proofs.Models.{law_covariance_holds, law_is_within, there_encloses}
use Rattle.covariance.proofs.model_laws.covariances_are_enclosed.Goals as goal

pub returns-clause-enclosed : goal.returns-clause-enclosed
returns-clause-enclosed g c same law model groups a k m y z h i =
    there_encloses (combined_covariance_span y z groups) (exact_law same model (map exact_group groups) k m)
    (law_covariance_holds same law model groups a k m y z h i)

pub returns-clause-schwarz : goal.returns-clause-schwarz
returns-clause-schwarz g c = law_is_within
