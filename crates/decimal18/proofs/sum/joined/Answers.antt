use Rattle.std.proofs.Common.{sym, subst, ◌∙◌, ◌*◌, ◌+◌, ◌-◌, ◌/◌}
use Rattle.std.proofs.lemmas.Bool.{true≢false}
use Rattle.decimal18.specs.Digits.{joined, IsPart}
use Rattle.decimal18.proofs.Sums.{joined_part, apart_part}
use Rattle.decimal18.proofs.sum.joined.Goals as goal
use Rattle.decimal18.proofs.sum.joined.Goals.{then-lost, else-lost}

pub returns : goal.returns
returns c =
    subst (λ t. IsPart (joined t (c.args.lead * c.args.unit) c.args.size) c.args.unit (c.args.lead + c.args.size / c.args.unit) c.has_more-lost.result) (sym c.if-apart.false)
    (joined_part c.args.lead c.args.size c.args.unit c.has_more-lost.result c.requires.unit c.has_more-lost.ensures)

pub returns-then-apart : goal.returns-then-apart
returns-then-apart c =
    subst (λ t. IsPart (joined t (c.args.lead * c.args.unit) c.args.size) c.args.unit (c.args.lead - c.args.size / c.args.unit - c.if-lost.borrowed) c.has_more-lost.result)
    (sym c.if-apart.true)
    (elim c.if-lost.branch [
      | then-lost w ↦ apart_part c.args.lead c.args.size c.args.unit c.if-lost.borrowed c.has_more-lost.result c.requires.unit c.requires.lead c.has_more-lost.ensures
          (λ _. w.borrowed-is) (λ e. absurd (true≢false (sym w.if-lost.true ∙ e)))
      | else-lost w ↦ apart_part c.args.lead c.args.size c.args.unit c.if-lost.borrowed c.has_more-lost.result c.requires.unit c.requires.lead c.has_more-lost.ensures
          (λ e. absurd (true≢false (sym e ∙ w.if-lost.false))) (λ _. w.borrowed-is)
    ])
