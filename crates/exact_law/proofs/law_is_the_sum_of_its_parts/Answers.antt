use Rattle.exact_law.specs.Law.{law, part_of, inputs_of}
use Rattle.exact_law.specs.Model.{exact_slope}
use Rattle.exact_law.proofs.Split.{law_split, part-not_negative, declared_sound}
use Rattle.exact_law.proofs.Schwarz.{law-not_negative, law_of-sym, law_schwarz, law_difference}
use Rattle.exact_law.proofs.law_is_the_sum_of_its_parts.Goals as goal

pub returns : goal.returns
unfolding law part_of
returns g c = record {
  sum = λ same law model groups h y.
      law_split same law (inputs_of model) (exact_slope same model y) (exact_slope same model y) groups h;
  of_two = λ same law model groups h y z.
      law_split same law (inputs_of model) (exact_slope same model y) (exact_slope same model z) groups h;
  part_not_negative = λ same model g h y. part-not_negative g (exact_slope same model y) h;
  not_negative = λ same law model groups h y.
      law-not_negative same law (inputs_of model) groups (exact_slope same model y) h;
  symmetric = λ same law model groups h y z.
      law_of-sym same law (inputs_of model) groups (exact_slope same model y) (exact_slope same model z) h;
  schwarz = λ same law model groups h y z.
      law_schwarz same law (inputs_of model) groups (exact_slope same model y) (exact_slope same model z) h;
  difference_not_negative = λ same law model groups h y z k m.
      law_difference same law (inputs_of model) groups (exact_slope same model y) (exact_slope same model z) k m h;
  declared_pair = declared_sound;
}
