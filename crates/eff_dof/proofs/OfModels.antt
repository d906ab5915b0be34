-- The degrees of groups of a model's inputs allow those of the exact law, and are the same under other keys.
use Rattle.std.specs.Prelude.{◌≡◌, Bool, List, [], ◌∷◌, map, Ok, refl}
use Rattle.std.proofs.Common.{sym, ◌∙◌, ap, ap₂, subst}
use Rattle.exact_fraction.specs.Number.{ℚ}
use Rattle.exact_fraction.specs.Sums.{total}
use Rattle.exact_law.specs.Model.{IsSameTest, Row, exact_slope}
use Rattle.exact_law.specs.Law.{inputs_of, law, part, part_of}
use Rattle.exact_law.specs.Degrees.{effective, share_of, shares_of, degrees_of}
use Rattle.exact_law.proofs.RenamingLaws.{total-map}
use Rattle.exact_law.proofs.Split.{law_split}
use Rattle.table_g2.specs.Known.{Allows}
use Rattle.table_g2.specs.declared.known.Nu.{Nu}
use Rattle.covariance.specs.Gradients.{Spans, AllEnclose}
use Rattle.covariance.specs.Groups.{Group, Single, Pair, Columns, AreRegular, exact_group}
use Rattle.covariance.specs.Renaming.{renamed_group}
use Rattle.covariance.specs.Variances.{meets}
use Rattle.covariance.specs.Models.{EnclosesSlopes, IsInput, AreGroupsOf, EachMember}
use Rattle.covariance.proofs.Enclosed.{group_variance_holds, no_part}
use Rattle.covariance.proofs.Models.{are_sound, members_are_inputs, part_holds, no_part_of}
use Rattle.covariance.proofs.Renamed.{spans-renamed, group_variance-renamed, meets-renamed}
use Rattle.eff_dof.specs.Parts.{exact_degrees}
use Rattle.eff_dof.specs.GroupParts as eff
use Rattle.eff_dof.specs.GroupParts.{degrees_of_group, AllGroups, HaveDegrees, part_by, all_there, parts_of, known_by_parts, known_degrees_of, share_by}
use Rattle.eff_dof.proofs.GroupShares.{IsExactly, share, degrees_enclosed}

-- ---- for exact sensitivities to all keys
parts_by_slopes : {K : Type 0} (y : Spans K) (u : K → ℚ) → AllEnclose y u → (gs : List (Group K)) → AreRegular gs
    → AllGroups (IsExactly y (λ g. part (exact_group g) u u)) gs
parts_by_slopes y u h [] r = tt
parts_by_slopes y u h (g ∷ gs) r =
    (record { enclosed = group_variance_holds g r.0 y u h; outside = no_part g r.0 y u u h }, parts_by_slopes y u h gs r.1)

shares_are : {K : Type 0} (u : K → ℚ) (gs : List (Group K)) → map (share (λ g. part (exact_group g) u u)) gs ≡ map (share_by u) (map exact_group gs)
shares_are u [] = refl
shares_are u (g ∷ gs) = ap (λ ss. share_by u (exact_group g) ∷ ss) (shares_are u gs)

pub degrees_for_slopes : {K : Type 0} (y : Spans K) (groups : List (Group K)) → AreRegular groups → HaveDegrees groups → (nu : Nu) → known_degrees_of y groups ≡ Ok nu
    → (u : K → ℚ) → AllEnclose y u → Allows nu (exact_degrees (map (share_by u) (map exact_group groups)))
degrees_for_slopes y groups r d nu e u h =
    subst (λ ss. Allows nu (exact_degrees ss)) (shares_are u groups)
    (degrees_enclosed y (λ g. part (exact_group g) u u) groups d (parts_by_slopes y u h groups r) nu e)

-- ---- in a model
module _ {K : Type 0} (same : K → K → Bool) (model : List (Row K)) (k : K) where
  parts_in_model : (y : Spans K) → EnclosesSlopes same model k y → (gs : List (Group K)) → AreRegular gs → EachMember (IsInput same model) gs
      → AllGroups (IsExactly y (λ g. part_of same model (exact_group g) k)) gs
  parts_in_model y h [] r o = tt
  parts_in_model y h (g ∷ gs) r o =
      (record { enclosed = part_holds same model g r.0 o.0 k y h; outside = no_part_of same model g r.0 o.0 k y h }, parts_in_model y h gs r.1 o.1)

  shares_in_model : (gs : List (Group K)) → map (share (λ g. part_of same model (exact_group g) k)) gs ≡ shares_of same model k (map exact_group gs)
  unfolding shares_of share_of
  shares_in_model [] = refl
  shares_in_model (g ∷ gs) = ap (λ ss. share (λ h. part_of same model (exact_group h) k) g ∷ ss) (shares_in_model gs)

  law-parts : IsSameTest same → (gs : List (Group K)) → AreGroupsOf same model gs
      → total (λ s. s.part) (map (share (λ g. part_of same model (exact_group g) k)) gs) ≡ law same model (map exact_group gs) k k
  unfolding law part_of
  law-parts is gs a =
      total-map (share (λ g. part_of same model (exact_group g) k)) (λ s. s.part) gs
      ∙ sym (total-map exact_group (λ g. part g (exact_slope same model k) (exact_slope same model k)) gs)
      ∙ sym (law_split same is (inputs_of model) (exact_slope same model k) (exact_slope same model k) (map exact_group gs) (are_sound same model gs a))

  degrees-are : IsSameTest same → (gs : List (Group K)) → AreGroupsOf same model gs
      → exact_degrees (map (share (λ g. part_of same model (exact_group g) k)) gs) ≡ degrees_of same model (map exact_group gs) k
  unfolding degrees_of
  degrees-are is gs a = ap₂ effective (law-parts is gs a) (shares_in_model gs)

  pub degrees_in_model : IsSameTest same → (groups : List (Group K)) → AreGroupsOf same model groups → HaveDegrees groups
      → (y : Spans K) → EnclosesSlopes same model k y → (nu : Nu) → known_degrees_of y groups ≡ Ok nu
      → Allows nu (degrees_of same model (map exact_group groups) k)
  degrees_in_model is groups a d y h nu e =
      subst (Allows nu) (degrees-are is groups a)
      (degrees_enclosed y (λ g. part_of same model (exact_group g) k) groups d (parts_in_model y h groups a.regular (members_are_inputs same is model groups a)) nu e)

-- ---- other keys
degrees-renamed : {K L : Type 0} (f : K → L) (g : Group K) → degrees_of_group (renamed_group f g) ≡ degrees_of_group g
degrees-renamed f (Single k shape dof) = refl
degrees-renamed f (Pair k s m t r) = refl
degrees-renamed f (Columns ks readings) = refl

pub known-renamed : {K L : Type 0} (f : K → L) (groups : List (Group K)) (y : Spans K) (z : Spans L) → EachMember (λ k. z (f k) ≡ y k) groups
    → known_degrees_of z (map (renamed_group f) groups) ≡ known_degrees_of y groups
unfolding known_degrees_of
known-renamed f groups y z o =
    ap (λ ps. known_by_parts (all_there ps))
    (spans-renamed f (λ k. z (f k) ≡ y k) (meets y) (meets z) (eff.part_of y) (eff.part_of z) (λ g e. meets-renamed f g y z e)
    (λ g e. ap₂ part_by (degrees-renamed f g) (group_variance-renamed f g y z e)) groups o)
