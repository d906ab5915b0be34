-- The groups of a sheet that stands are groups of its model.
use Rattle.std.specs.Prelude.{◌≡◌, ℕ, true, false, if◌then◌else◌, bytes_eq, List, [], ◌∷◌, ◌++◌, refl}
use Rattle.std.proofs.Common.{sym, ◌∙◌, ap}
use Rattle.std.proofs.lemmas.Bool.{and_from}
use Rattle.exact_law.specs.Model.{keys, absent}
use Rattle.sheet_rows.specs.Rows.{Sheet}
use Rattle.sheet_rows.specs.Sheets.{IsStanding}
use Rattle.sheet_rows.proofs.Tests.{named_itself}
use Rattle.value_cache.specs.Quantities.{Quantity, is_there}
use Rattle.value_cache.specs.Evaluable.{AreInOrder}
use Rattle.value_cache.specs.Model.{model_of}
use Rattle.value_cache.proofs.Evaluable.{is_there-added}
use Rattle.covariance.specs.Models.{are_apart, AreGroupsOf}
use Rattle.sheet_model.specs.Quantities.{quantities}
use Rattle.sheet_model.specs.Groups.{groups}
use Rattle.sheet_model.specs.Walks.{Quantities, names}
use Rattle.sheet_model.proofs.Names.{there-named}
use Rattle.sheet_model.proofs.Walking.{quantities_in_order}
use Rattle.sheet_model.proofs.Inputs.{none_again}
use Rattle.sheet_model.proofs.Counts.{count_absent, absent_counted}
use Rattle.sheet_model.proofs.Parted.{parted, regular_groups}

model_keys : (qs : Quantities) → keys (model_of qs) ≡ names qs
unfolding keys
model_keys [] = refl
model_keys (q ∷ qs) = ap (λ ns. q.key ∷ ns) (model_keys qs)

there_last : (done : Quantities) (q : Quantity (List ℕ)) → is_there bytes_eq done q.key ≡ false → is_there bytes_eq (done ++ q ∷ []) q.key ≡ true
there_last done q new =
    is_there-added bytes_eq done q q.key ∙ ap (λ t. if t then true else bytes_eq q.key q.key) new ∙ named_itself q.key

-- quantities in order have names of their own
names_apart : (done qs : Quantities) → AreInOrder bytes_eq done qs → are_apart bytes_eq (names qs) ≡ true
names_apart done [] h = refl
names_apart done (q ∷ qs) h =
    and_from (absent bytes_eq q.key (names qs)) (are_apart bytes_eq (names qs))
    (absent_counted q.key (names qs)
    (count_absent q.key (names qs) (sym (there-named qs q.key) ∙ none_again (done ++ q ∷ []) qs q.key h.2 (there_last done q h.0))))
    (names_apart (done ++ q ∷ []) qs h.2)

pub sheet_groups : (sheet : Sheet) → IsStanding sheet → AreGroupsOf bytes_eq (model_of (quantities sheet)) (groups sheet)
sheet_groups sheet h = record {
  apart = ap (are_apart bytes_eq) (model_keys (quantities sheet)) ∙ names_apart [] (quantities sheet) (quantities_in_order sheet h);
  regular = regular_groups sheet h;
  parted = parted sheet h;
}
