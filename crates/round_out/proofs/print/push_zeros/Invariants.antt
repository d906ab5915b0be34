use Rattle.std.proofs.Common.{◌≡◌, ◌++◌, replicate}
use Rattle.line_text.specs.Characters.{digit_zero}
use Rattle.round_out.proofs.print.push_zeros.Given as goal

-- the zeros that are still to be put
abbrev pub invariant-loop-left : goal.invariant-loop-left
invariant-loop-left l = record { text : l.text ++ replicate l.left digit_zero ≡ l.initial.text ++ replicate l.count digit_zero }

abbrev pub decreases-loop-left : goal.decreases-loop-left
decreases-loop-left l = l.left
