use Rattle.std.specs.Prelude.{Ok}
use Rattle.std.proofs.Common.{sym, ◌∙◌, ap}
use Rattle.fixed_interval.proofs.Sums.{there}
use Rattle.type_b.specs.Shapes.{is_zero}
use Rattle.table_g2.specs.declared.known.Nu.TheVariants.{None as NoNu, Infinite}
use Rattle.eff_dof.specs.Degrees.{variance_span}
use Rattle.eff_dof.proofs.Counted.{parts_within, whole_above}
use Rattle.eff_dof.proofs.Sound.{degrees_sound, are_degrees, refused_degrees, known_missing, known_none, known_infinite, known_out, known_range}
use Rattle.eff_dof.proofs.known.effective.Goals as goal

pub returns-in_err-whole-clause-exact : goal.returns-in_err-whole-clause-exact
returns-in_err-whole-clause-exact g c =
    refused_degrees _ c.from_residual.ensures.0 _ (known_missing c.args.parts.now _ _ c.in_err-whole.ensures.span)

pub returns-then-is_zero-clause-exact : goal.returns-then-is_zero-clause-exact
returns-then-is_zero-clause-exact g c =
    known_none c.args.parts.now c.in_ok-whole.whole _ c.in_ok-whole.ensures.span (sym (ap is_zero c.hi.ensures.value) ∙ sym c.is_zero.ensures ∙ c.if-is_zero.true)

pub returns-then-is_zero-clause-holds : goal.returns-then-is_zero-clause-holds
returns-then-is_zero-clause-holds g c = λ exact k.
    degrees_sound c.args.parts.now exact (Ok NoNu) (returns-then-is_zero-clause-exact g c) c.requires.parts k

pub returns-in_default-clause-exact : goal.returns-in_default-clause-exact
returns-in_default-clause-exact g c =
    known_infinite c.args.parts.now c.in_ok-whole.whole _ c.in_ok-whole.ensures.span (sym (ap is_zero c.hi.ensures.value) ∙ sym c.is_zero.ensures ∙ c.if-is_zero.false)
    (sym c.in_default.ensures.value)

pub returns-in_default-clause-holds : goal.returns-in_default-clause-holds
returns-in_default-clause-holds g c = λ exact k.
    degrees_sound c.args.parts.now exact (Ok Infinite) (returns-in_default-clause-exact g c) c.requires.parts k

pub inverse-requires-clause-parts : goal.inverse-requires-clause-parts
inverse-requires-clause-parts g c =
    parts_within c.args.parts.now c.requires.parts c.least_degrees.ensures.ordered c.in_ok-whole.whole
    (there (variance_span c.args.parts.now) c.in_ok-whole.whole _ c.in_ok-whole.ensures.span)

pub inverse-requires-clause-positive : goal.inverse-requires-clause-positive
inverse-requires-clause-positive g c =
    whole_above c.args.parts.now c.requires.parts c.least_degrees.ensures.ordered c.in_ok-whole.whole
    (there (variance_span c.args.parts.now) c.in_ok-whole.whole _ c.in_ok-whole.ensures.span)
    (sym (ap is_zero c.hi.ensures.value) ∙ sym c.is_zero.ensures ∙ c.if-is_zero.false)

pub returns-in_err-inverse-clause-exact : goal.returns-in_err-inverse-clause-exact
returns-in_err-inverse-clause-exact g c =
    refused_degrees _ c.from_residual-in_err-inverse.ensures.0 _
    (known_out c.args.parts.now c.in_ok-whole.whole _ c.in_ok-whole.ensures.span (sym (ap is_zero c.hi.ensures.value) ∙ sym c.is_zero.ensures ∙ c.if-is_zero.false)
    c.in-Some.least (sym c.in-Some.ensures.value) _ c.in_err-inverse.ensures.span)

pub returns-clause-exact : goal.returns-clause-exact
returns-clause-exact g c =
    known_range c.args.parts.now c.in_ok-whole.whole _ c.in_ok-whole.ensures.span (sym (ap is_zero c.hi.ensures.value) ∙ sym c.is_zero.ensures ∙ c.if-is_zero.false)
    c.in-Some.least (sym c.in-Some.ensures.value) c.in_ok-inverse.inverse c.in_ok-inverse.ensures.span c.range.result c.range.ensures

pub returns-clause-holds : goal.returns-clause-holds
returns-clause-holds g c = λ exact k.
    degrees_sound c.args.parts.now exact (Ok c.range.result) (returns-clause-exact g c) c.requires.parts k

pub returns-clause-degrees : goal.returns-clause-degrees
returns-clause-degrees g c = are_degrees c.args.parts.now (Ok c.range.result) (returns-clause-exact g c) c.requires.parts
