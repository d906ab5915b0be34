-- Quantities in order under new keys, as when the names of a sheet become the numbers of a graph.
use Rattle.std.specs.Prelude.{◌≡◌, ℕ, Bool, List, [], map}
use Rattle.std.specs.List.{AllZip}
use Rattle.exact_law.specs.Renaming.{KeepsApart, Passes}
use Rattle.formula_ast.specs.Trees.{uses}
use Rattle.value_cache.specs.Quantities.{Body, Input, Function, Column, Quantity, is_there}
use Rattle.value_cache.specs.Evaluable.{AreInOrder}
use Rattle.value_cache.specs.declared.evaluation.Evaluation.{Evaluation}
use Rattle.value_cache.specs.declared.evaluation.Evaluation.TheVariants.{Enclosed, Fault}

-- b is the first body, where the names of its formula stand for the new keys
abbrev pub IsRenamedBody : {K L : Type 0} → (K → L) → Body K → Body L → Type 0
IsRenamedBody rename (Input estimate) b = b ≡ Input estimate
IsRenamedBody {K} {L} rename (Function f key) b =
    (other : List ℕ → L) × (b ≡ Function f other) × (map other (uses f) ≡ map rename (map key (uses f)))
IsRenamedBody rename (Column t column) b = b ≡ Column t column

pub record IsRenamed {K L : Type 0} (rename : K → L) (q : Quantity K) (r : Quantity L) : Type 0 where
  pub key : r.key ≡ rename q.key
  pub body : IsRenamedBody rename q.body r.body

-- quantities in order, and the same under new keys, by which they can be told apart as before
pub record AreRenamed {K L : Type 0} (same : K → K → Bool) (same' : L → L → Bool) (rename : K → L) (qs : List (Quantity K)) (rs : List (Quantity L)) : Type 0 where
  pub in_order : AreInOrder same [] qs
  pub each : AllZip (IsRenamed rename) qs rs
  pub apart : KeepsApart same same' rename (Passes (is_there same qs))

-- the fault of a quantity under its new key
abbrev pub renamed_evaluation : {K L : Type 0} → (K → L) → Evaluation K → Evaluation L
renamed_evaluation rename (Enclosed s) = Enclosed s
renamed_evaluation rename (Fault fault row) = Fault fault (rename row)
