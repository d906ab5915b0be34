use Rattle.std.proofs.Common.{◌≡◌, map, drop}
use Rattle.exact_law.specs.Degrees.{row_at}
use Rattle.plain_law.specs.Numbers.{number}
use Rattle.plain_law.specs.DegreeViews.{factors_of}
use Rattle.plain_law.proofs.degrees.row_at.Given as goal

abbrev pub invariant-loop-next : goal.invariant-loop-next
invariant-loop-next l =
    row_at (number l.degrees) (factors_of l.row) (map factors_of (drop l.next-index l.rows))
    ≡ row_at (number l.degrees) (factors_of l.fn.first) (map factors_of l.rows)
