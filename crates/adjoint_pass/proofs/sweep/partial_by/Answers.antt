use Rattle.std.proofs.Common.{sym, ◌∙◌}
use Rattle.formula_ast.specs.Views.{tree_of}
use Rattle.value_cache.specs.Slots.{bodies_of, cells_of}
use Rattle.adjoint_pass.proofs.Rows.{row_value}
use Rattle.adjoint_pass.proofs.sweep.partial_by.Goals as goal

pub partial_where_defined-requires-clause-defined :
    goal.partial_where_defined-requires-clause-defined
partial_where_defined-requires-clause-defined g c =
    row_value (bodies_of c.args.through.now.cache.now) (cells_of c.args.through.now.cache.now) c.has_span.ensures.right c.args.m (tree_of c.args.formula.now)
    c.args.through.now.names.now c.args.through.now.ids.now c.requires.numbered c.requires.row (sym c.has_span.ensures.span ∙ c.if-has_span.true)
