use Rattle.std.proofs.Common.{Some, sym, ◌∙◌, ap}
use Rattle.std.specs.Option.{option_map}
use Rattle.formula_ast.specs.Views.{tree_of}
use Rattle.type_a.specs.Statistics.{mean_span}
use Rattle.value_cache.specs.Evaluations.{evaluation_of_body, evaluation_of_formula}
use Rattle.value_cache.specs.Slots.{body_view, bodies_of, cells_of, key_by}
use Rattle.value_cache.specs.declared.evaluation.Evaluation.TheVariants.{Enclosed}
use Rattle.value_cache.proofs.Rules.{cell-evaluates}
use Rattle.value_cache.proofs.cache.Cache.work_out.Goals as goal

pub returns-in-Point-clause-cell : goal.returns-in-Point-clause-cell
returns-in-Point-clause-cell g c =
    let cells = cells_of c.args.self.now in
    cell-evaluates cells c.args.id (bodies_of c.args.self.now c.args.id) c.requires.ready
    ∙ ap (evaluation_of_body cells c.args.id) (c.body.ensures.body ∙ ap (λ b. Some (body_view b)) c.in-Point.is)
    ∙ ap (λ s. Some (Enclosed s)) (sym c.point.ensures.span)

pub returns-in-Column-clause-cell : goal.returns-in-Column-clause-cell
returns-in-Column-clause-cell g c =
    let cells = cells_of c.args.self.now in
    cell-evaluates cells c.args.id (bodies_of c.args.self.now c.args.id) c.requires.ready
    ∙ ap (evaluation_of_body cells c.args.id) (c.body.ensures.body ∙ ap (λ b. Some (body_view b)) c.in-Column.is)
    ∙ ap (λ t. option_map Enclosed (mean_span t c.in-Column.column)) (sym c.deref.ensures)
    ∙ ap (option_map Enclosed) (sym c.mean.ensures.span)

pub returns-in-Formula-clause-cell : goal.returns-in-Formula-clause-cell
returns-in-Formula-clause-cell g c =
    let cells = cells_of c.args.self.now in
    cell-evaluates cells c.args.id (bodies_of c.args.self.now c.args.id) c.requires.ready
    ∙ ap (evaluation_of_body cells c.args.id) (c.body.ensures.body ∙ ap (λ b. Some (body_view b)) c.in-Formula.is)
    ∙ ap (λ f. evaluation_of_formula (λ n. cells (key_by c.in-Formula.names c.in-Formula.ids n)) c.args.id (tree_of f)) (sym c.deref-in-Formula.ensures)
    ∙ c.evaluate.ensures.value
