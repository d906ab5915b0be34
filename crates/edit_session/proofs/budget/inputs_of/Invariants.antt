use Rattle.std.proofs.Common.{◌≡◌, ℕ, List, bytes_eq, drop}
use Rattle.adjoint_pass.specs.Sensitivities.{gradient_of}
use Rattle.sheet_model.specs.Quantities.{quantities}
use Rattle.edit_session.specs.Replies.{all_found, input_in}
use Rattle.edit_session.specs.Asking.{IsGradientIn, IsStillAsked, goes_on}
use Rattle.edit_session.proofs.budget.inputs_of.Given as goal

abbrev pub invariant-loop-input : goal.invariant-loop-input
invariant-loop-input g l =
    IsStillAsked l.initial.asked l.asked
    × ((n : List ℕ) → IsGradientIn l.initial.asked.sheet.now n l.y
    → goes_on l.found (all_found (input_in l.initial.asked.sheet.now (gradient_of bytes_eq (quantities l.initial.asked.sheet.now) n)) (drop l.input-index l.input-items))
    ≡ all_found (input_in l.initial.asked.sheet.now (gradient_of bytes_eq (quantities l.initial.asked.sheet.now) n)) l.input-items)
