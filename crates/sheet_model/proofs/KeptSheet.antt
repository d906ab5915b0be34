-- What the code keeps of a sheet by numbers, while cells are found, is what the definitions say by names.
use Rattle.std.specs.Prelude.{◌≡◌, ℕ, zero, suc, Bool, true, if◌then◌else◌, is_some, bytes_eq, nat_eq, List, [], ◌∷◌, length, slice_get, Option, Some, None, Ok, Err, refl}
use Rattle.std.specs.List.{AllZip}
use Rattle.std.specs.Option.{option_map, option_or}
use Rattle.std.proofs.Common.{sym, ◌∙◌, ap, ap₂, subst}
use Rattle.std.proofs.lemmas.Option.{same_Some}
use Rattle.fixed_interval.specs.Interval.{Interval}
use Rattle.fixed_interval.specs.declared.faults.ArithFault.{ArithFault}
use Rattle.formula_ast.specs.Trees.{Tree, uses}
use Rattle.formula_box.specs.Values.{Answer, span_of}
use Rattle.formula_box.specs.declared.fault.EvalFault.TheVariants.{Arith, NoValue}
use Rattle.type_a.specs.Statistics.{mean_span}
use mathlib.Core.Path.{fun_ext}
use Rattle.dep_graph.specs.Nodes.{Node, has, ids_of}
use Rattle.value_cache.specs.Quantities.{Body, Input, Function, Column, Quantity, body_of, is_there}
use Rattle.value_cache.specs.Evaluations.{Named, is_fault, first_fault, settled, evaluation_of_body, evaluation_through, evaluation_of, span_in}
use Rattle.value_cache.specs.Evaluable.{AreInOrder}
use Rattle.value_cache.specs.Renaming.{IsRenamed, AreRenamed}
use Rattle.value_cache.specs.Rules.{AreRight, numbered, IsGraphOf}
use Rattle.value_cache.specs.Slots.{Slots, bodies_of, cells_of}
use Rattle.value_cache.proofs.Orders.{right-evaluation}
use Rattle.value_cache.proofs.Graphs.{graph-same}
use Rattle.value_cache.specs.declared.evaluation.Evaluation.{Evaluation}
use Rattle.value_cache.specs.declared.evaluation.Evaluation.TheVariants.{Enclosed, Fault}
use Rattle.sheet_model.specs.Walks.{Quantities, names}
use Rattle.sheet_model.specs.Numbering.{number_in, number_among, quantities_by, AreKept}
use Rattle.sheet_model.specs.declared.numbering.Numbered.{Numbered}
use Rattle.sheet_model.proofs.Names.{there-named}
use Rattle.sheet_model.proofs.Numbers.{is_in, number_there, numbers_apart}
use Rattle.sheet_model.proofs.Kept.{has_mapped}

-- ---- what is kept stays so while cells are found
pub kept_still : (all done : Quantities) (old new : Numbered) → new.names ≡ old.names → new.graph ≡ old.graph
    → ((n : ℕ) → bodies_of new.cache n ≡ bodies_of old.cache n) → AreKept all done old → AreKept all done new
kept_still all done old new named graph same are =
    let bodies : bodies_of new.cache ≡ bodies_of old.cache = fun_ext same in
    record {
      named = ap (λ ns. ns.keys) named ∙ are.named;
      ids = ap ids_of graph ∙ are.ids;
      graph =
          subst (λ g. IsGraphOf g (bodies_of new.cache)) (sym graph)
          (graph-same old.graph (bodies_of old.cache) (bodies_of new.cache) same are.graph);
      each = subst (AllZip (IsRenamed (number_among all)) done) (sym (ap₂ (λ b g. numbered b (ids_of g)) bodies graph)) are.each;
    }

pub evaluation_still : (old new : Numbered) (id : ℕ) (cell : Evaluation ℕ) → new.graph ≡ old.graph
    → ((n : ℕ) → bodies_of new.cache n ≡ bodies_of old.cache n) → evaluation_of nat_eq (quantities_by old) id ≡ Some cell
    → evaluation_of nat_eq (quantities_by new) id ≡ Some cell
evaluation_still old new id cell graph same e =
    let bodies : bodies_of new.cache ≡ bodies_of old.cache = fun_ext same in
    ap₂ (λ b g. evaluation_of nat_eq (numbered b (ids_of g)) id) bodies graph ∙ e

-- ---- a cell that is right is the evaluation of its quantity
pub cell_evaluates : (graph : List Node) (old new : Slots) → IsGraphOf graph (bodies_of old) → ((n : ℕ) → bodies_of new n ≡ bodies_of old n)
    → AreRight (bodies_of new) (cells_of new) → (id : ℕ) (cell : Evaluation ℕ) → cells_of new id ≡ Some cell
    → evaluation_of nat_eq (numbered (bodies_of old) (ids_of graph)) id ≡ Some cell
cell_evaluates graph old new is same right id cell found =
    let bodies : bodies_of new ≡ bodies_of old = fun_ext same in
    subst (λ b. evaluation_of nat_eq (numbered b (ids_of graph)) id ≡ Some cell) bodies
    (right-evaluation graph (bodies_of new) (cells_of new) (graph-same graph (bodies_of old) (bodies_of new) same is) right id cell found)

-- ---- the row in which a fault arose is that of a quantity
module _ {K : Type 0} (same : K → K → Bool) (qs : List (Quantity K)) where
  -- a fault is that of a row that is there
  abbrev IsOfRow : Option (Evaluation K) → Type 0
  IsOfRow None = Unit {0}
  IsOfRow (Some (Enclosed s)) = Unit {0}
  IsOfRow (Some (Fault fault row)) = is_there same qs row ≡ true

  first_of_row : (found : Named K) (ns : List (List ℕ)) → ((n : List ℕ) → IsOfRow (found n)) → IsOfRow (first_fault found ns)
  first_of_row found [] h = tt
  first_of_row found (n ∷ ns) h = by (found n) (h n) (first_of_row found ns h) where
    by : (o : Option (Evaluation K)) → IsOfRow o → IsOfRow (first_fault found ns) → IsOfRow (option_or (if is_fault o then o else None) (first_fault found ns))
    by None k rest = rest
    by (Some (Enclosed s)) k rest = rest
    by (Some (Fault fault row)) k rest = k

  formula_of_row : (found : Named K) (n : K) (f : Tree) (r : Answer) → is_there same qs n ≡ true → ((m : List ℕ) → IsOfRow (found m))
      → IsOfRow (settled found n f r)
  formula_of_row found n f (Ok s) there h = tt
  formula_of_row found n f (Err (Arith fault)) there h = there
  formula_of_row found n f (Err (NoValue k)) there h = first_of_row found (uses f) h

  mean_of_row : (o : Option Interval) → IsOfRow (option_map Enclosed o)
  mean_of_row None = tt
  mean_of_row (Some s) = tt

  through_of_row : (k : ℕ) (n : K) → IsOfRow (evaluation_through same qs k n)
  through_of_row zero n = tt
  through_of_row (suc k) n = by (body_of same qs n) refl (through_of_row k) where
    by : (o : Option (Body K)) → body_of same qs n ≡ o → ((m : K) → IsOfRow (evaluation_through same qs k m))
        → IsOfRow (evaluation_of_body (evaluation_through same qs k) n o)
    by None e h = tt
    by (Some (Input estimate)) e h = tt
    by (Some (Column t column)) e h = mean_of_row (mean_span t column)
    by (Some (Function f key)) e h =
        formula_of_row (λ m. evaluation_through same qs k (key m)) n f (span_of (λ m. span_in (evaluation_through same qs k (key m))) f)
        (ap is_some e) (λ m. h (key m))

  pub fault_of_row : (n : K) (fault : ArithFault) (row : K) → evaluation_of same qs n ≡ Some (Fault fault row) → is_there same qs row ≡ true
  unfolding evaluation_of
  fault_of_row n fault row e = subst IsOfRow e (through_of_row (length qs) n)

-- ---- what is kept of a sheet
module _ (qs : Quantities) (kept : Numbered) (order : AreInOrder bytes_eq [] qs) (are : AreKept qs qs kept) where
  pub renamed : AreRenamed bytes_eq nat_eq (number_among qs) qs (quantities_by kept)
  renamed = record {
    in_order = order;
    each = are.each;
    apart = record {
      apart = λ a b there here. numbers_apart (names qs) a b (sym (there-named qs a) ∙ there) (sym (there-named qs b) ∙ here);
    };
  }

  pub name_kept : (n : List ℕ) → is_there bytes_eq qs n ≡ true → is_in kept.names.keys n ≡ true
  name_kept n there = ap (λ ns. is_in ns n) are.named ∙ sym (there-named qs n) ∙ there

  pub number_is : (n : List ℕ) → number_in kept.names.keys n ≡ number_among qs n
  number_is n = ap (λ ns. number_in ns n) are.named

  pub id_there : (n : List ℕ) → is_there bytes_eq qs n ≡ true → has (ids_of kept.graph) (number_in kept.names.keys n) ≡ true
  id_there n there =
      ap₂ has are.ids (number_is n) ∙ has_mapped (number_among qs) (names qs) n (sym (there-named qs n) ∙ there)

  -- the name of the number of a quantity
  pub name_back : (row name : List ℕ) (id : ℕ) → is_there bytes_eq qs row ≡ true → id ≡ number_among qs row → slice_get kept.names.keys id ≡ Some name
      → name ≡ row
  name_back row name id there is found =
      same_Some name row (sym found ∙ ap₂ slice_get are.named is ∙ number_there (names qs) row (sym (there-named qs row) ∙ there))
