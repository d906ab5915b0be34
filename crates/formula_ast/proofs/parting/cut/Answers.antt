use Rattle.std.proofs.Common.{◌+◌}
use Rattle.std.proofs.lemmas.List.{take_rest}
use Rattle.formula_ast.proofs.Cuts.{cut_at, cut_nowhere}
use Rattle.formula_ast.proofs.parting.cut.Goals as goal

pub returns-then-byte-at-clause-parts : goal.returns-then-byte-at-clause-parts
returns-then-byte-at-clause-parts c =
    rw (take_rest c.args.text.now (c.loop-i.i + 1))
    (cut_at _ _ _ c.loop-i-test.true (record { free = c.loop-i.invariant }) c.if-byte-at.true)

pub returns-clause-parts : goal.returns-clause-parts
returns-clause-parts c = cut_nowhere _ _ _ c.loop-i-test.false (record { free = c.loop-i.invariant })
