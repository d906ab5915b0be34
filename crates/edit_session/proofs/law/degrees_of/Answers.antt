use Rattle.std.proofs.Common.{Err, ◌∙◌, ap, sym}
use Rattle.covariance.specs.Gradients.{found_at}
use Rattle.eff_dof.specs.GroupParts.{known_degrees_of}
use Rattle.edit_session.specs.Replies.{in_range}
use Rattle.edit_session.proofs.LawNumbers.{degrees_by_numbers}
use Rattle.edit_session.proofs.law.degrees_of.Goals as goal

pub returns-in-Ok-clause-degrees : goal.returns-in-Ok-clause-degrees
returns-in-Ok-clause-degrees g c = λ sheet n h a i.
    ap in_range
    (sym (ap (known_degrees_of (found_at c.args.y.now)) c.as_slice.ensures ∙ degrees_by_numbers sheet h n c.args.y.now c.args.groups.now i a)
    ∙ c.in-Ok.ensures.exact)

pub returns-in-Err-Overflow-clause-degrees : goal.returns-in-Err-Overflow-clause-degrees
returns-in-Err-Overflow-clause-degrees g c = λ sheet n h a i.
    ap in_range
    (sym (ap (known_degrees_of (found_at c.args.y.now)) c.as_slice.ensures ∙ degrees_by_numbers sheet h n c.args.y.now c.args.groups.now i a)
    ∙ c.degrees.ensures.overflow (c.in-Err-Overflow.is ∙ ap Err c.in-Err-Overflow.field-0-is))
