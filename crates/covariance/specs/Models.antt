-- What ties spans to a model of the exact law: sensitivities that enclose its derivatives, and groups of its inputs.
use Rattle.std.specs.Prelude.{◌≡◌, Bool, true, ◌&&◌, List, [], ◌∷◌, map, Some}
use Rattle.exact_fraction.specs.Number.{ℚ}
use Rattle.exact_law.specs.Model.{Row, Input, body_of, keys, absent, exact_slope}
use Rattle.exact_law.specs.Law.{inputs_of, PartTheInputs}
use Rattle.exact_law.specs.Renaming.{EachOf}
use Rattle.fixed_interval.specs.Interval.{Encloses}
use Rattle.covariance.specs.Gradients.{Spans, sensitivity}
use Rattle.covariance.specs.Groups.{Group, AreRegular, members, exact_group}

-- the span of the sensitivity to each input of the model encloses the derivative of the expanded formula of k by it
-- (JCGM 100:2008, 5.1.3). Of other keys it says nothing
abbrev pub EnclosesSlopes : {K : Type 0} → (K → K → Bool) → List (Row K) → K → Spans K → Type 0
EnclosesSlopes same model k y =
    (i : _) (q : ℚ) → body_of same model i ≡ Some (Input q) → Encloses (sensitivity y i) (exact_slope same model k i)

-- i is an input of the model
abbrev pub IsInput : {K : Type 0} → (K → K → Bool) → List (Row K) → K → Type 0
IsInput same model i = (q : ℚ) × (body_of same model i ≡ Some (Input q))

-- no two of the keys are the same
abbrev pub are_apart : {K : Type 0} → (K → K → Bool) → List K → Bool
are_apart same [] = true
are_apart same (k ∷ ks) = absent same k ks && are_apart same ks

-- the groups of the inputs of a model
pub record AreGroupsOf {K : Type 0} (same : K → K → Bool) (model : List (Row K)) (groups : List (Group K)) : Type 0 where
  -- each quantity of the model has a key of its own
  pub apart : are_apart same (keys model) ≡ true
  -- what each states of its members is right
  pub regular : AreRegular groups
  -- each input is a member of one of them, and stands once there
  pub parted : PartTheInputs same (inputs_of model) (map exact_group groups)

-- P holds of each member of the groups
abbrev pub EachMember : {K : Type 0} → (K → Type 0) → List (Group K) → Type 0
EachMember P [] = Unit {0}
EachMember P (g ∷ gs) = EachOf P (members g) × EachMember P gs
