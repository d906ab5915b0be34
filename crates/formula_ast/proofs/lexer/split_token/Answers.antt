use Rattle.std.proofs.Common.{drop}
use Rattle.formula_ast.proofs.FirstTokenSteps.{passed, first_token_of, small_kind}
use Rattle.formula_ast.proofs.lexer.split_token.Goals as goal

pub returns-clause-first : goal.returns-clause-first
returns-clause-first c =
    first_token_of c.args.text.now c.skip_blanks.result.now c.first_token-token.result.len c.first_token-token.result.kind
    c.requires.some c.first_token-token.ensures.len c.first_token-token.ensures.kind c.first_token-token.ensures.within
    (rw (c.skip_blanks.ensures.is, c.after.ensures.is) (passed (drop c.first_token-token.result.len c.args.text.now)))

pub returns-clause-small : goal.returns-clause-small
returns-clause-small c = rw c.first_token-token.ensures.kind (small_kind c.args.text.now)

pub returns-clause-tight : goal.returns-clause-tight
returns-clause-tight c = rw c.skip_blanks.ensures.is (passed c.after.result.now).tight
