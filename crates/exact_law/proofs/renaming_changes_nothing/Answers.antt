use Rattle.exact_law.specs.Renaming.{Passes}
use Rattle.exact_law.proofs.RenamingLaws.{covariance-renamed, exact_value-renamed, has_value-renamed, exact_slope-renamed, law-renamed, part_of-renamed, share_of-renamed, degrees_of-renamed}
use Rattle.exact_law.proofs.renaming_changes_nothing.Goals as goal

pub returns : goal.returns
returns g c = record {
  covariances = λ same same' rename p. covariance-renamed same same' rename (Passes p);
  values = λ same same' rename p. exact_value-renamed same same' rename (Passes p);
  defined = λ same same' rename p. has_value-renamed same same' rename (Passes p);
  sensitivities = λ same same' rename p. exact_slope-renamed same same' rename (Passes p);
  laws = λ same same' rename p. law-renamed same same' rename (Passes p);
  parts = λ same same' rename p. part_of-renamed same same' rename (Passes p);
  shares = λ same same' rename p. share_of-renamed same same' rename (Passes p);
  degrees = λ same same' rename p. degrees_of-renamed same same' rename (Passes p);
}
