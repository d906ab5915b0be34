use Rattle.std.proofs.Common.{◌∙◌, ap₂}
use Rattle.formula_ast.specs.Views.{tree_of}
use Rattle.value_cache.specs.Slots.{cells_of}
use Rattle.adjoint_pass.specs.Gathering.{name_beside}
use Rattle.adjoint_pass.proofs.Rows.{no_name, named}
use Rattle.adjoint_pass.proofs.sweep.formula_part.Goals as goal

pub returns-in_default-clause-span : goal.returns-in_default-clause-span
returns-in_default-clause-span g c =
    no_name (cells_of c.args.through.now.cache.now) (tree_of c.args.formula.now) c.args.through.now.names.now c.args.through.now.ids.now c.requires.numbered
    c.args.n c.zero.result
    (c.in_default.ensures ∙ ap₂ (λ ms ids. name_beside ms ids c.args.n) c.as_slice.ensures c.as_slice-2.ensures) c.zero.ensures.span

pub returns-clause-span : goal.returns-clause-span
returns-clause-span g c =
    named (cells_of c.args.through.now.cache.now) (tree_of c.args.formula.now) c.args.through.now.names.now c.args.through.now.ids.now c.requires.numbered
    c.args.n c.in-Some.name c.partial_by.result
    (c.in-Some.ensures ∙ ap₂ (λ ms ids. name_beside ms ids c.args.n) c.as_slice.ensures c.as_slice-2.ensures) c.partial_by.ensures.span
