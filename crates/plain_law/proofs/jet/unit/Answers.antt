use Rattle.std.proofs.Common.{eq-eqb}
use Rattle.std.proofs.lemmas.Bool.{ne_eqb}
use Rattle.plain_law.proofs.Jets.{unit_same, unit_other}
use Rattle.plain_law.proofs.jet.unit.Goals as goal

pub returns-then-along-key : goal.returns-then-along-key
returns-then-along-key c = unit_same _ c.args.along c.args.key (eq-eqb _ _ c.if-along-key.true) c.whole.ensures

pub returns : goal.returns
returns c = unit_other _ c.args.along c.args.key (ne_eqb _ _ c.if-along-key.false) c.whole-2.ensures
