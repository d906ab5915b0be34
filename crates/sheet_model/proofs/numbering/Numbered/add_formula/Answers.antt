use Rattle.std.proofs.Common.{ℕ, List, ◌∷◌, [], ◌∙◌, ap, refl}
use Rattle.formula_ast.specs.Trees.{names_of}
use Rattle.formula_ast.specs.Views.{tree_of}
use Rattle.value_cache.specs.Quantities.{Quantity, by_names}
use Rattle.sheet_model.specs.Numbering.{number_in}
use Rattle.sheet_model.proofs.Formulas.{names_kept, formula_follows, numbers_placeable}
use Rattle.sheet_model.proofs.Kept.{takes_on}
use Rattle.sheet_model.proofs.numbering.Numbered.add_formula.Goals as goal

pub numbers-requires : goal.numbers-requires
numbers-requires c =
    let can = c.requires.next in
    names_kept can.all can.before c.args.name (tree_of c.args.formula.now.value) c.args.self.now can.are can.next _
    (c.in_ok-used.ensures ∙ ap (λ f. names_of (tree_of f)) c.deref.ensures)

pub add-requires : goal.add-requires
add-requires c =
    let can = c.requires.next in
    let same = ap tree_of c.in_ok-clone.ensures.cases in
    let used = c.in_ok-used.ensures ∙ ap (λ f. names_of (tree_of f)) c.deref.ensures in
    record {
      quantity = record { key = c.args.name; body = by_names (tree_of c.args.formula.now.value) };
      can = can;
      stands =
          formula_follows can.all can.before c.args.name (tree_of c.args.formula.now.value) c.args.self.now can.are can.next _ _ _ _ refl
          (numbers_placeable (number_in c.args.self.now.names.keys) (tree_of c.args.formula.now.value) _ _ _ c.requires.exponents same used c.in_ok-ids.ensures)
          same used c.in_ok-ids.ensures;
    }

pub returns : goal.returns
returns c =
    let q : Quantity (List ℕ) = record { key = c.args.name; body = by_names (tree_of c.args.formula.now.value) } in
    let same = ap tree_of c.in_ok-clone.ensures.cases in
    let used = c.in_ok-used.ensures ∙ ap (λ f. names_of (tree_of f)) c.deref.ensures in
    takes_on c.add.result c.args.self.now c.add.new.self (q ∷ [])
    (λ all before are next. c.add.ensures all before q are next
    (formula_follows all before c.args.name (tree_of c.args.formula.now.value) c.args.self.now are next _ _ _ _ refl
    (numbers_placeable (number_in c.args.self.now.names.keys) (tree_of c.args.formula.now.value) _ _ _ c.requires.exponents same used c.in_ok-ids.ensures)
    same used c.in_ok-ids.ensures))
