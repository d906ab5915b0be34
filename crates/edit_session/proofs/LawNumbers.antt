-- What the code finds of the law of propagation by numbers is what the definitions say by names.
use Rattle.std.specs.Prelude.{◌≡◌, ℕ, true, bytes_eq, is_some, List, Option, Some, None, refl}
use Rattle.std.proofs.Common.{sym, ◌∙◌, ap}
use Rattle.exact_law.specs.Model.{Input as ModelInput}
use Rattle.covariance.specs.Gradients.{Gradient, found_at}
use Rattle.covariance.specs.Groups.{Group}
use Rattle.covariance.specs.Models.{IsInput, EachMember}
use Rattle.covariance.specs.Variances.{combined_variance_span, combined_covariance_span}
use Rattle.covariance.proofs.Models.{members_are_inputs}
use Rattle.covariance.proofs.Renamed.{each_member_then, variance-renamed, covariance-renamed}
use Rattle.eff_dof.specs.GroupParts.{known_degrees_of}
use Rattle.eff_dof.proofs.OfModels.{known-renamed}
use Rattle.sheet_rows.specs.Rows.{Sheet}
use Rattle.sheet_rows.specs.Sheets.{IsStanding}
use Rattle.value_cache.specs.Quantities.{Body, body_of, is_there}
use Rattle.value_cache.specs.Model.{model_of}
use Rattle.value_cache.proofs.Sound.{model_bodies, model-body_of}
use Rattle.adjoint_pass.specs.Sensitivities.{gradient_of}
use Rattle.sheet_model.specs.Quantities.{quantities}
use Rattle.sheet_model.specs.Walks.{Quantities}
use Rattle.sheet_model.specs.Groups.{groups}
use Rattle.sheet_model.specs.Numbering.{number_among}
use Rattle.sheet_model.proofs.Formulas.{same_names}
use Rattle.sheet_model.proofs.SheetGroups.{sheet_groups}
use Rattle.edit_session.specs.Asking.{IsGradientIn, AreGroupsIn}

-- an input of the model is a quantity
input_is_there : (qs : Quantities) (n : List ℕ) → IsInput bytes_eq (model_of qs) n → is_there bytes_eq qs n ≡ true
input_is_there qs n i = by (body_of bytes_eq qs n) (sym (model-body_of bytes_eq qs n) ∙ i.1) where
  by : (b : Option (Body (List ℕ))) → model_bodies b ≡ Some (ModelInput i.0) → is_some b ≡ true
  by None f = absurd (cc)
  by (Some b) f = refl

module _ (sheet : Sheet) (h : IsStanding sheet) where
  -- at each member of the groups the sensitivities are the same
  pub members_agree : (y : List ℕ) (found : Gradient) → IsGradientIn sheet y found
      → EachMember (λ n. found_at found (number_among (quantities sheet) n) ≡ gradient_of bytes_eq (quantities sheet) y n) (groups sheet)
  members_agree y found g =
      each_member_then (IsInput bytes_eq (model_of (quantities sheet)))
      (λ n. found_at found (number_among (quantities sheet) n) ≡ gradient_of bytes_eq (quantities sheet) y n)
      (λ n i. g.each n (input_is_there (quantities sheet) n i)) (groups sheet)
      (members_are_inputs bytes_eq same_names (model_of (quantities sheet)) (groups sheet) (sheet_groups sheet h))

  pub variance_by_numbers : (y : List ℕ) (found : Gradient) (gs : List (Group ℕ)) → IsGradientIn sheet y found → AreGroupsIn sheet gs
      → combined_variance_span (found_at found) gs ≡ combined_variance_span (gradient_of bytes_eq (quantities sheet) y) (groups sheet)
  variance_by_numbers y found gs g a =
      ap (combined_variance_span (found_at found)) a.are
      ∙ variance-renamed (number_among (quantities sheet)) (groups sheet) (gradient_of bytes_eq (quantities sheet) y) (found_at found) (members_agree y found g)

  pub covariance_by_numbers : (y z : List ℕ) (first second : Gradient) (gs : List (Group ℕ)) → IsGradientIn sheet y first → IsGradientIn sheet z second
      → AreGroupsIn sheet gs
      → combined_covariance_span (found_at first) (found_at second) gs
      ≡ combined_covariance_span (gradient_of bytes_eq (quantities sheet) y) (gradient_of bytes_eq (quantities sheet) z) (groups sheet)
  covariance_by_numbers y z first second gs f g a =
      ap (combined_covariance_span (found_at first) (found_at second)) a.are
      ∙ covariance-renamed (number_among (quantities sheet)) (groups sheet) (gradient_of bytes_eq (quantities sheet) y) (gradient_of bytes_eq (quantities sheet) z)
      (found_at first) (found_at second) (members_agree y first f) (members_agree z second g)

  pub degrees_by_numbers : (y : List ℕ) (found : Gradient) (gs : List (Group ℕ)) → IsGradientIn sheet y found → AreGroupsIn sheet gs
      → known_degrees_of (found_at found) gs ≡ known_degrees_of (gradient_of bytes_eq (quantities sheet) y) (groups sheet)
  degrees_by_numbers y found gs g a =
      ap (known_degrees_of (found_at found)) a.are
      ∙ known-renamed (number_among (quantities sheet)) (groups sheet) (gradient_of bytes_eq (quantities sheet) y) (found_at found) (members_agree y found g)
