use Rattle.std.proofs.Common.{Err, sym, ◌∙◌, ap, is_some}
use Rattle.formula_ast.specs.Views.{tree_of}
use Rattle.value_cache.specs.Slots.{cells_of, key_by}
use Rattle.value_cache.proofs.Numbers.{evaluated-span, evaluated-arith, evaluated-among, ready-evaluates}
use Rattle.value_cache.proofs.cache.Cache.evaluate.Goals as goal

pub unwrap-requires : goal.unwrap-requires
unwrap-requires g c =
    let cells = cells_of c.args.self.now in
    let f = tree_of c.args.formula.now in
    let among = evaluated-among cells c.args.row f c.args.names.now c.args.ids.now c.in-Err-NoValue.field-0-0 c.requires.numbered
    (ap Err (sym c.in-Err-NoValue.field-0-is) ∙ sym c.in-Err-NoValue.is ∙ c.eval.ensures.span) in
    ap is_some (c.first_fault.ensures ∙ sym among) ∙ ready-evaluates cells c.args.row f (key_by c.args.names.now c.args.ids.now) c.requires.ready

pub returns-in-Ok-clause-value : goal.returns-in-Ok-clause-value
returns-in-Ok-clause-value g c =
    evaluated-span (cells_of c.args.self.now) c.args.row (tree_of c.args.formula.now) c.args.names.now c.args.ids.now c.in-Ok.span c.requires.numbered
    (sym c.in-Ok.is ∙ c.eval.ensures.span)

pub returns-in-Err-Arith-clause-value : goal.returns-in-Err-Arith-clause-value
returns-in-Err-Arith-clause-value g c =
    evaluated-arith (cells_of c.args.self.now) c.args.row (tree_of c.args.formula.now) c.args.names.now c.args.ids.now c.in-Err-Arith.fault c.requires.numbered
    (ap Err (sym c.in-Err-Arith.field-0-is) ∙ sym c.in-Err-Arith.is ∙ c.eval.ensures.span)

pub returns-in-Err-NoValue-clause-value : goal.returns-in-Err-NoValue-clause-value
returns-in-Err-NoValue-clause-value g c =
    evaluated-among (cells_of c.args.self.now) c.args.row (tree_of c.args.formula.now) c.args.names.now c.args.ids.now c.in-Err-NoValue.field-0-0 c.requires.numbered
    (ap Err (sym c.in-Err-NoValue.field-0-is) ∙ sym c.in-Err-NoValue.is ∙ c.eval.ensures.span)
    ∙ sym c.first_fault.ensures
    ∙ c.unwrap.ensures
