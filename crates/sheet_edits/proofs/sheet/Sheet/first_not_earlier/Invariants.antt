use Rattle.std.proofs.Common.{◌≡◌, drop, not}
use Rattle.std.specs.Prelude.{find}
use Rattle.sheet_edits.specs.Places.{stands_before}
use Rattle.sheet_edits.proofs.sheet.Sheet.first_not_earlier.Given as goal

abbrev pub invariant-loop-name : goal.invariant-loop-name
invariant-loop-name l = find (λ n. not (stands_before l.self l.at n)) (drop l.name-index l.names) ≡ find (λ n. not (stands_before l.self l.at n)) l.names
