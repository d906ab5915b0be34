use Rattle.std.proofs.Common.{arith, ap, ◌∙◌, rules}
use Rattle.std.specs.Prelude.{Some}
use Rattle.decimal18.proofs.CutOff.{rounded_exact}
use Rattle.decimal18.proofs.round.round.Goals as goal

pub returns-then-not-lost : goal.returns-then-not-lost
returns-then-not-lost c = λ x h.
    ap Some c.shortest.ensures ∙ rounded_exact x c.args.digits c.args.places c.args.lost c.args.negative c.args.direction (search rules) h (omega arith) (omega arith)
