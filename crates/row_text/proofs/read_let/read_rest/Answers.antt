use Rattle.std.proofs.Common.{arith}
use Rattle.std.proofs.lemmas.Option.{IfSome_then}
use Rattle.formula_ast.specs.Refusals.{place_of}
use Rattle.formula_ast.specs.Views.{tree_of}
use Rattle.formula_ast.proofs.Again.{read_again}
use Rattle.row_text.proofs.read_let.read_rest.Goals as goal

pub located-requires : goal.located-requires
located-requires c =
    IfSome_then (place_of c.in-Err.fault) c.in-Err.ensures.within (λ k within. omega (arith, within, c.after.ensures.length, c.requires))

pub returns-in-Ok-clause-again : goal.returns-in-Ok-clause-again
returns-in-Ok-clause-again c = read_again c.after.result.now (tree_of c.in-Ok.formula) c.in-Ok.ensures.exact
