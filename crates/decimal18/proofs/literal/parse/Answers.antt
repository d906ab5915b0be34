use Rattle.std.proofs.Common.{sym, ap, ◌∙◌}
use Rattle.decimal18.specs.Literal.{leading_sign, unsigned_literal, read, parsed}
use Rattle.decimal18.proofs.LiteralRead.{if_value, not_number, number_range}
use Rattle.decimal18.proofs.literal.parse.Goals as goal

pub returns-clause-exact : goal.returns-clause-exact
unfolding parsed
returns-clause-exact c =
    c.parse_unsigned.ensures (leading_sign c.args.text.now) (sym c.split_sign-negative.ensures.negative)
    ∙ ap (λ t. read (unsigned_literal (leading_sign c.args.text.now) t)) c.split_sign-negative.ensures.rest

pub returns-clause-value : goal.returns-clause-value
returns-clause-value c = if_value c.args.text.now _ (returns-clause-exact c)

pub returns-clause-not_number : goal.returns-clause-not_number
returns-clause-not_number c = rw (returns-clause-exact c) (not_number c.args.text.now)

pub returns-clause-number_range : goal.returns-clause-number_range
returns-clause-number_range c = rw (returns-clause-exact c) (number_range c.args.text.now)
