-- Evaluations under new keys.
use Rattle.std.specs.Prelude.{◌≡◌, ℕ, zero, suc, Bool, true, false, if◌then◌else◌, List, [], ◌∷◌, map, length, reverse, Option, Some, None, Ok, Err, is_some, refl}
use Rattle.std.specs.List.{AllByRecursion, AllZip}
use Rattle.std.specs.Option.{option_or, option_map}
use Rattle.std.proofs.Common.{sym, ◌∙◌, ap, subst}
use Rattle.std.proofs.lemmas.List.{reverse-reverse}
use Rattle.exact_law.specs.Model.{IsSameTest}
use Rattle.exact_law.specs.Renaming.{KeepsApart, Passes}
use Rattle.fixed_interval.specs.Interval.{Interval}
use Rattle.formula_ast.specs.Trees.{Tree, uses}
use Rattle.type_a.specs.Statistics.{mean_span}
use Rattle.formula_box.specs.Values.{Answer}
use Rattle.formula_box.specs.declared.fault.EvalFault.TheVariants.{Arith, NoValue}
use Rattle.value_cache.specs.Quantities.{Body, Input, Function, Column, Quantity, body_of, is_there, used_by}
use Rattle.value_cache.specs.Evaluations.{Found, Named, span_in, is_fault, first_fault, settled, evaluation_of_formula, evaluation_of_body, evaluation_through, evaluation_of}
use Rattle.value_cache.specs.Evaluable.{AreInOrder}
use Rattle.value_cache.specs.declared.evaluation.Evaluation.{Evaluation}
use Rattle.value_cache.specs.declared.evaluation.Evaluation.TheVariants.{Enclosed, Fault}
use Rattle.value_cache.specs.Renaming.{IsRenamedBody, IsRenamed, AreRenamed, renamed_evaluation}
use Rattle.adjoint_pass.proofs.Lists.{all_weaker, all_from_both, all_unmapped, all_reversed}
use Rattle.adjoint_pass.proofs.Zips.{length-zip, zip_with_all}
use Rattle.adjoint_pass.proofs.Order.{IsLastFirst, reversed, known_all, known_later}
use Rattle.adjoint_pass.proofs.Formulas.{names_of_uses, span_same}

-- ---- keys that are there
-- the quantity is there, and so is each that it uses
abbrev pub IsKnown : {K : Type 0} → (K → K → Bool) → List (Quantity K) → Quantity K → Type 0
IsKnown same qs q = (is_there same qs q.key ≡ true) × AllByRecursion (Passes (is_there same qs)) (used_by q.body)

itself_there : {K : Type 0} (same : K → K → Bool) → IsSameTest same → (q : Quantity K) (qs : List (Quantity K)) → is_there same (q ∷ qs) q.key ≡ true
itself_there same law q qs = ap (λ b. is_some (if b then Some q.body else body_of same qs q.key)) (law.complete q.key)

all_known_last_first : {K : Type 0} (same : K → K → Bool) → IsSameTest same → (rs : List (Quantity K)) → IsLastFirst same rs → AllByRecursion (IsKnown same rs) rs
all_known_last_first same law [] h = tt
all_known_last_first same law (q ∷ qs) h = (
  (itself_there same law q qs, all_weaker _ _ (λ n. known_later same q qs n) (used_by q.body) (known_all same qs (used_by q.body) h.1)),
  all_weaker (IsKnown same qs) (IsKnown same (q ∷ qs))
      (λ r k. (known_later same q qs r.key k.0, all_weaker _ _ (λ n. known_later same q qs n) (used_by r.body) k.1)) qs
      (all_known_last_first same law qs h.2),
)

pub all_known : {K : Type 0} (same : K → K → Bool) → IsSameTest same → (qs : List (Quantity K)) → AreInOrder same [] qs → AllByRecursion (IsKnown same qs) qs
all_known same law qs o =
    let rev = reversed same law qs o in
    let later = λ (n : _) (e : is_there same (reverse qs) n ≡ true). sym (ap is_some (rev.bodies n)) ∙ e in
    subst (AllByRecursion (IsKnown same qs)) (reverse-reverse qs)
    (all_reversed (IsKnown same qs) (reverse qs)
    (all_weaker (IsKnown same (reverse qs)) (IsKnown same qs)
    (λ q k. (later q.key k.0, all_weaker _ _ later (used_by q.body) k.1)) (reverse qs)
    (all_known_last_first same law (reverse qs) rev.last_first)))

-- ---- the names of a formula under new keys
same_maps : {X Y : Type 0} (f g : X → Y) (xs : List X) → map f xs ≡ map g xs → AllByRecursion (λ x. f x ≡ g x) xs
same_maps f g [] e = tt
same_maps f g (x ∷ xs) e = (cc, same_maps f g xs (cc))

map-map : {X Y Z : Type 0} (f : X → Y) (g : Y → Z) (xs : List X) → map g (map f xs) ≡ map (λ x. g (f x)) xs
map-map f g [] = refl
map-map f g (x ∷ xs) = ap (λ ys. g (f x) ∷ ys) (map-map f g xs)

-- each name stands for a key that passes, and for its new name
pub each_name : {K L : Type 0} (rename : K → L) (P : K → Type 0) (f : Tree) (key : List ℕ → K) (other : List ℕ → L)
    → map other (uses f) ≡ map rename (map key (uses f)) → AllByRecursion P (map key (uses f))
    → AllByRecursion (λ n. P (key n) × (other n ≡ rename (key n))) (uses f)
each_name rename P f key other e h =
    all_from_both (λ n. P (key n)) (λ n. other n ≡ rename (key n)) _ (λ n p r. (p, r)) (uses f) (all_unmapped P key (uses f) h)
    (same_maps other (λ n. rename (key n)) (uses f) (e ∙ map-map key rename (uses f)))

-- ---- evaluations
pub span-renamed : {K L : Type 0} (rename : K → L) (o : Option (Evaluation K)) → span_in (option_map (renamed_evaluation rename) o) ≡ span_in o
span-renamed rename None = refl
span-renamed rename (Some (Fault fault row)) = refl
span-renamed rename (Some (Enclosed s)) = refl

fault-renamed : {K L : Type 0} (rename : K → L) (found : Named K) (others : Named L) (ns : List (List ℕ))
    → AllByRecursion (λ n. others n ≡ option_map (renamed_evaluation rename) (found n)) ns
    → first_fault others ns ≡ option_map (renamed_evaluation rename) (first_fault found ns)
fault-renamed rename found others [] h = refl
fault-renamed rename found others (n ∷ ns) h = rw h.0 (by (found n) (fault-renamed rename found others ns h.1)) where
  by : (o : Option (Evaluation _)) → first_fault others ns ≡ option_map (renamed_evaluation rename) (first_fault found ns)
      → option_or (if is_fault (option_map (renamed_evaluation rename) o) then option_map (renamed_evaluation rename) o else None) (first_fault others ns)
      ≡ option_map (renamed_evaluation rename) (option_or (if is_fault o then o else None) (first_fault found ns))
  by None rest = rest
  by (Some (Fault fault row)) rest = refl
  by (Some (Enclosed s)) rest = rest

settled-renamed : {K L : Type 0} (rename : K → L) (found : Named K) (others : Named L) (row : K) (f : Tree) (r : Answer)
    → first_fault others (uses f) ≡ option_map (renamed_evaluation rename) (first_fault found (uses f))
    → settled others (rename row) f r ≡ option_map (renamed_evaluation rename) (settled found row f r)
settled-renamed rename found others row f (Ok s) h = refl
settled-renamed rename found others row f (Err (Arith fault)) h = refl
settled-renamed rename found others row f (Err (NoValue k)) h = h

formula-renamed : {K L : Type 0} (rename : K → L) (found : Named K) (others : Named L) (row : K) (f : Tree)
    → AllByRecursion (λ n. others n ≡ option_map (renamed_evaluation rename) (found n)) (uses f)
    → evaluation_of_formula others (rename row) f ≡ option_map (renamed_evaluation rename) (evaluation_of_formula found row f)
formula-renamed rename found others row f h =
    ap (settled others (rename row) f)
    (span_same (λ n. span_in (others n)) (λ n. span_in (found n)) f
    (names_of_uses _ f (all_weaker _ (λ n. span_in (others n) ≡ span_in (found n)) (λ n e. ap span_in e ∙ span-renamed rename (found n)) (uses f) h)))
    ∙ settled-renamed rename found others row f _ (fault-renamed rename found others (uses f) h)

mean-renamed : {K L : Type 0} (rename : K → L) (o : Option Interval)
    → ◌≡◌ {A = Option (Evaluation L)} (option_map Enclosed o) (option_map (renamed_evaluation rename) (option_map Enclosed o))
mean-renamed rename None = refl
mean-renamed rename (Some s) = refl

-- what is found under keys that pass is found under their new names
abbrev Agree : {K L : Type 0} → (K → L) → (K → Type 0) → Found K → Found L → Type 0
Agree rename P found others = (n : _) → P n → others (rename n) ≡ option_map (renamed_evaluation rename) (found n)

body-renamed : {K L : Type 0} (rename : K → L) (P : K → Type 0) (found : Found K) (others : Found L) → Agree rename P found others
    → (row : K) (b : Body K) (b' : Body L) → IsRenamedBody rename b b' → AllByRecursion P (used_by b)
    → evaluation_of_body others (rename row) (Some b') ≡ option_map (renamed_evaluation rename) (evaluation_of_body found row (Some b))
body-renamed rename P found others agree row (Input estimate) b' r h = ap (λ b. evaluation_of_body others (rename row) (Some b)) r
body-renamed rename P found others agree row (Function f key) b' r h =
    ap (λ b. evaluation_of_body others (rename row) (Some b)) r.1
    ∙ formula-renamed rename (λ n. found (key n)) (λ n. others (r.0 n)) row f
    (all_weaker (λ n. P (key n) × (r.0 n ≡ rename (key n))) _ (λ n e. ap others e.1 ∙ agree (key n) e.0) (uses f)
    (each_name rename P f key r.0 r.2 h))
body-renamed rename P found others agree row (Column t column) b' r h =
    ap (λ b. evaluation_of_body others (rename row) (Some b)) r ∙ mean-renamed rename (mean_span t column)

-- ---- bodies by keys
abbrev AreAlike : {K L : Type 0} → (K → L) → (K → Type 0) → Option (Body K) → Option (Body L) → Type 0
AreAlike rename P None None = Unit {0}
AreAlike rename P None (Some b') = ⊥
AreAlike rename P (Some b) None = ⊥
AreAlike rename P (Some b) (Some b') = IsRenamedBody rename b b' × AllByRecursion P (used_by b)

-- a quantity under its new key, where it and all that it uses pass
pub record IsRenamedOn {K L : Type 0} (rename : K → L) (P : K → Type 0) (q : Quantity K) (r : Quantity L) : Type 0 where
  pub key : r.key ≡ rename q.key
  pub body : IsRenamedBody rename q.body r.body
  pub passes : P q.key
  pub uses_pass : AllByRecursion P (used_by q.body)

pub each_renamed : {K L : Type 0} (same : K → K → Bool) → IsSameTest same → (same' : L → L → Bool) (rename : K → L) (qs : List (Quantity K)) (rs : List (Quantity L))
    → AreRenamed same same' rename qs rs → AllZip (IsRenamedOn rename (Passes (is_there same qs))) qs rs
each_renamed same law same' rename qs rs h =
    zip_with_all (IsKnown same qs) (IsRenamed rename) (IsRenamedOn rename (Passes (is_there same qs)))
    (λ q r known e. record { key = e.key; body = e.body; passes = known.0; uses_pass = known.1 }) qs rs (all_known same law qs h.in_order) h.each

bodies-renamed : {K L : Type 0} (same : K → K → Bool) (same' : L → L → Bool) (rename : K → L) (P : K → Type 0) → KeepsApart same same' rename P
    → (qs : List (Quantity K)) (rs : List (Quantity L)) → AllZip (IsRenamedOn rename P) qs rs
    → (n : K) → P n → AreAlike rename P (body_of same qs n) (body_of same' rs (rename n))
bodies-renamed same same' rename P apart [] [] z n p = tt
bodies-renamed same same' rename P apart [] (r ∷ rs) z n p = absurd z
bodies-renamed same same' rename P apart (q ∷ qs) [] z n p = absurd z
bodies-renamed same same' rename P apart (q ∷ qs) (r ∷ rs) z n p =
    rw ((z.0).key, apart.apart q.key n (z.0).passes p) (by (same q.key n) (bodies-renamed same same' rename P apart qs rs z.1 n p)) where
      by : (b : Bool) → AreAlike rename P (body_of same qs n) (body_of same' rs (rename n))
          → AreAlike rename P (if b then Some q.body else body_of same qs n) (if b then Some r.body else body_of same' rs (rename n))
      by true rest = ((z.0).body, (z.0).uses_pass)
      by false rest = rest

through-renamed : {K L : Type 0} (same : K → K → Bool) (same' : L → L → Bool) (rename : K → L) (P : K → Type 0) → KeepsApart same same' rename P
    → (qs : List (Quantity K)) (rs : List (Quantity L)) → AllZip (IsRenamedOn rename P) qs rs
    → (k : ℕ) → Agree rename P (evaluation_through same qs k) (evaluation_through same' rs k)
through-renamed same same' rename P apart qs rs z zero n p = refl
through-renamed same same' rename P apart qs rs z (suc k) n p =
    by (body_of same qs n) (body_of same' rs (rename n)) (bodies-renamed same same' rename P apart qs rs z n p)
    (through-renamed same same' rename P apart qs rs z k) where
      by : (b : Option (Body _)) (b' : Option (Body _)) → AreAlike rename P b b' → Agree rename P (evaluation_through same qs k) (evaluation_through same' rs k)
          → evaluation_of_body (evaluation_through same' rs k) (rename n) b'
          ≡ option_map (renamed_evaluation rename) (evaluation_of_body (evaluation_through same qs k) n b)
      by None None a agree = refl
      by None (Some b') a agree = absurd a
      by (Some b) None a agree = absurd a
      by (Some b) (Some b') a agree =
          body-renamed rename P (evaluation_through same qs k) (evaluation_through same' rs k) agree n b b' a.0 a.1

pub evaluation_of-renamed : {K L : Type 0} (same : K → K → Bool) → IsSameTest same → (same' : L → L → Bool) (rename : K → L) (qs : List (Quantity K)) (rs : List (Quantity L))
    → AreRenamed same same' rename qs rs → (n : K) → is_there same qs n ≡ true
    → evaluation_of same' rs (rename n) ≡ option_map (renamed_evaluation rename) (evaluation_of same qs n)
unfolding evaluation_of
evaluation_of-renamed same law same' rename qs rs h n there =
    ap (λ k. evaluation_through same' rs k (rename n)) (sym (length-zip (IsRenamed rename) qs rs h.each))
    ∙ through-renamed same same' rename (Passes (is_there same qs)) h.apart qs rs (each_renamed same law same' rename qs rs h) (length qs) n there
