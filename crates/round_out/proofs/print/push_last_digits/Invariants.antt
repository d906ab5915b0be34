use Rattle.std.proofs.Common.{◌≡◌, ◌++◌}
use Rattle.decimal18.specs.Text.{last_digits}
use Rattle.round_out.proofs.print.push_last_digits.Given as goal

-- the digits that are still to be put
abbrev pub invariant-loop-place : goal.invariant-loop-place
invariant-loop-place l = record { text : l.text ++ last_digits l.place l.size ≡ l.initial.text ++ last_digits l.count l.size }

abbrev pub decreases-loop-place : goal.decreases-loop-place
decreases-loop-place l = l.place
