use Rattle.std.specs.Prelude.{◌≡◌, map, length, Result, Err}
use Rattle.std.proofs.Common.{sym, ◌∙◌, ap, subst, arith}
use Rattle.table_g2.specs.declared.known.Nu.{Nu}
use Rattle.covariance.specs.Gradients.{found_at}
use Rattle.covariance.specs.Groups.{group_of}
use Rattle.eff_dof.specs.declared.fault.DegreesFault.{DegreesFault}
use Rattle.eff_dof.specs.Degrees.{known_degrees}
use Rattle.eff_dof.specs.Parts.{AreParts}
use Rattle.eff_dof.proofs.PartsOfGroups.{are_parts, parts-few}
use Rattle.eff_dof.proofs.GroupShares.{known_missing, known_there}
use Rattle.eff_dof.proofs.OfModels.{degrees_for_slopes}
use Rattle.eff_dof.proofs.groups.degrees.Goals as goal

same_fault : (a b : DegreesFault) → ◌≡◌ {A = Result Nu DegreesFault} (Err a) (Err b) → a ≡ b
same_fault a b e = cc

pub returns-in-Err-clause-overflow : goal.returns-in-Err-clause-overflow
returns-in-Err-clause-overflow g c = λ e.
    known_missing (found_at c.args.y.now) (map group_of c.args.groups.now) (c.in-Err.ensures.overflow (ap Err (same_fault _ _ e)))

pub effective-requires : goal.effective-requires
effective-requires g c = record {
  parts = subst AreParts (sym c.as_slice.ensures.value)
      (are_parts (found_at c.args.y.now) (map group_of c.args.groups.now) c.in-Ok.parts.items c.requires.degrees c.in-Ok.ensures.ok);
}

pub returns-in_default-clause-overflow : goal.returns-in_default-clause-overflow
returns-in_default-clause-overflow g c = λ e.
    known_there (found_at c.args.y.now) (map group_of c.args.groups.now) c.in-Ok.parts.items c.in-Ok.ensures.ok
    ∙ ap known_degrees (sym c.as_slice.ensures.value) ∙ sym c.in_default.ensures.exact

pub returns-clause-exact : goal.returns-clause-exact
returns-clause-exact g c =
    known_there (found_at c.args.y.now) (map group_of c.args.groups.now) c.in-Ok.parts.items c.in-Ok.ensures.ok
    ∙ ap known_degrees (sym c.as_slice.ensures.value) ∙ sym c.in-Ok-effective.ensures.exact

pub returns-clause-holds : goal.returns-clause-holds
returns-clause-holds g c =
    degrees_for_slopes (found_at c.args.y.now) (map group_of c.args.groups.now) c.requires.regular c.requires.degrees c.in-Ok-effective.nu (returns-clause-exact g c)

pub returns-in_default-clause-ticks : goal.returns-in_default-clause-ticks
returns-in_default-clause-ticks g c =
    omega (
      arith,
      c.in-Ok.ensures.ticks,
      c.in_default.ensures.ticks,
      parts-few (found_at c.args.y.now) (map group_of c.args.groups.now) c.in-Ok.parts.items c.in-Ok.ensures.ok,
      ap length c.as_slice.ensures.value,
    )

pub returns-clause-ticks : goal.returns-clause-ticks
returns-clause-ticks g c =
    omega (
      arith,
      c.in-Ok.ensures.ticks,
      c.in-Ok-effective.ensures.ticks,
      parts-few (found_at c.args.y.now) (map group_of c.args.groups.now) c.in-Ok.parts.items c.in-Ok.ensures.ok,
      ap length c.as_slice.ensures.value,
    )
