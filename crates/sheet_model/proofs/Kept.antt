-- The quantities that the code keeps, with one more.
use Rattle.std.specs.Prelude.{◌≡◌, ℕ, Bool, true, false, ◌||◌, not, if◌then◌else◌, is_some, nat_eq, bytes_eq, List, [], ◌∷◌, ◌++◌, map, length, insert, Option, Some, None, Result, Ok, Err, OnOk, refl}
use Rattle.std.specs.List.{AllZip}
use Rattle.std.proofs.Common.{sym, ◌∙◌, ap, ap₂, subst, arith}
use Rattle.std.proofs.lemmas.Bool.{true≢false, or_left, or_right}
use Rattle.std.proofs.lemmas.Bool.Decides.{nat_tests}
use Rattle.std.proofs.lemmas.List.{append_assoc, append-nil, map-append, length-map}
use Rattle.std.proofs.lemmas.List.Edits.{insert_end}
use Rattle.std.proofs.lemmas.List.Folds.{list_any-append}
use Rattle.std.proofs.lemmas.Option.{none-some}
use Rattle.indexmap.specs.IndexSet.{insert_key}
use Rattle.dep_graph.specs.Nodes.{Node, has, ids_of}
use Rattle.formula_ast.specs.Views.{tree_of}
use Rattle.value_cache.specs.Quantities.{Body, Input, Function, Column, Quantity, is_there, first_unknown, used_by}
use Rattle.value_cache.specs.Evaluable.{AreInOrder}
use Rattle.value_cache.specs.Rules.{Bodies, before, numbered, IsGraphOf}
use Rattle.value_cache.specs.Slots.{body_view, IsPlaceable, bodies_of}
use Rattle.value_cache.specs.declared.body.Body.{Body as CodeBody}
use Rattle.value_cache.specs.declared.body.Body.TheVariants.{Point, Column as CodeColumn, Formula as CodeFormula}
use Rattle.value_cache.proofs.Rules.{has-first}
use Rattle.value_cache.proofs.Numbers.{numbers-used}
use Rattle.value_cache.proofs.Orders.{numbered-last}
use Rattle.value_cache.proofs.Graphs.{graph-added}
use Rattle.value_cache.specs.Renaming.{IsRenamedBody, IsRenamed}
use Rattle.sheet_rows.proofs.Tests.{named_itself, same_name}
use Rattle.sheet_model.specs.Walks.{Quantities, names}
use Rattle.sheet_model.specs.Numbering.{number_in, number_among, quantities_by, numbers_in, AreKept, AreNext, Takes, StandsFor}
use Rattle.sheet_model.specs.declared.numbering.Numbered.{Numbered}
use Rattle.sheet_model.proofs.Names.{there-named}
use Rattle.sheet_model.proofs.Numbers.{is_in, number_new, numbers_apart}

-- ---- numbers of names
itself : (k : ℕ) → nat_eq k k ≡ true
itself k = grind (arith, nat_tests)

-- a name of the list has a number among theirs
pub has_mapped : (number : List ℕ → ℕ) (ns : List (List ℕ)) (n : List ℕ) → is_in ns n ≡ true → has (map number ns) (number n) ≡ true
has_mapped number [] n e = absurd (true≢false (sym e))
has_mapped number (m ∷ ns) n e = by (bytes_eq n m) refl e (has_mapped number ns n) where
  by : (b : Bool) → bytes_eq n m ≡ b → (b || is_in ns n) ≡ true → (is_in ns n ≡ true → has (map number ns) (number n) ≡ true)
      → (nat_eq (number n) (number m) || has (map number ns) (number n)) ≡ true
  by true f h rest =
      or_left (nat_eq (number n) (number m)) (has (map number ns) (number n))
      (ap (λ k. nat_eq (number n) (number k)) (sym (same_name n m f)) ∙ itself (number n))
  by false f h rest = or_right (nat_eq (number n) (number m)) (has (map number ns) (number n)) (rest h)

-- among the numbers of some of the names is that of a name exactly where it is one of them
pub has_number : (all ns : List (List ℕ)) (n : List ℕ) → ((m : List ℕ) → is_in ns m ≡ true → is_in all m ≡ true) → is_in all n ≡ true
    → has (map (number_in all) ns) (number_in all n) ≡ is_in ns n
has_number all [] n within there = refl
has_number all (m ∷ ns) n within there =
    ap₂ (λ a b. a || b) (numbers_apart all n m there (within m (or_left (bytes_eq m m) (is_in ns m) (named_itself m))))
    (has_number all ns n (λ k e. within k (or_right (bytes_eq k m) (is_in ns k) e)) there)

numbered-same : (bodies others : Bodies) (ns : List ℕ) → ((n : ℕ) → has ns n ≡ true → bodies n ≡ others n) → numbered bodies ns ≡ numbered others ns
numbered-same bodies others [] same = refl
numbered-same bodies others (n ∷ ns) same =
    ap₂ (before n) (same n (has-first n ns)) (numbered-same bodies others ns (λ m e. same m (or_right (nat_eq m n) (has ns m) e)))

-- ---- orders
pub order-append : {K : Type 0} (same : K → K → Bool) (done qs more : List (Quantity K)) → AreInOrder same done qs → AreInOrder same (done ++ qs) more
    → AreInOrder same done (qs ++ more)
order-append same done [] more h k = subst (λ d. AreInOrder same d more) (append-nil done) k
order-append same done (q ∷ qs) more h k =
    (h.0, h.1, order-append same (done ++ q ∷ []) qs more h.2 (subst (λ d. AreInOrder same d more) (sym (append_assoc done (q ∷ []) qs)) k))

zip-append : {A B : Type 0} (R : A → B → Type 0) (xs : List A) (ys : List B) (x : A) (y : B) → AllZip R xs ys → R x y
    → AllZip R (xs ++ x ∷ []) (ys ++ y ∷ [])
zip-append R [] [] x y h r = (r, tt)
zip-append R [] (b ∷ ys) x y h r = absurd h
zip-append R (a ∷ xs) [] x y h r = absurd h
zip-append R (a ∷ xs) (b ∷ ys) x y h r = (h.0, zip-append R xs ys x y h.1 r)

-- ---- what a body uses
pub uses-renamed : (number : List ℕ → ℕ) (b : Body (List ℕ)) (c : Body ℕ) → IsRenamedBody number b c → used_by c ≡ map number (used_by b)
uses-renamed number (Input estimate) c e = ap used_by e
uses-renamed number (Function f key) c e = ap used_by e.1 ∙ e.2
uses-renamed number (Column t column) c e = ap used_by e

uses_placed : (body : CodeBody) → IsPlaceable body → (m : ℕ) → has (numbers_in body) m ≡ has (used_by (body_view body)) m
uses_placed (Point estimate) h m = refl
uses_placed (CodeColumn readings column) h m = refl
uses_placed (CodeFormula formula used ids) h m = numbers-used (tree_of formula.value) used ids h m

-- what is known has a number
known_numbers : (number : List ℕ → ℕ) (qs : Quantities) (ks : List (List ℕ)) → first_unknown bytes_eq qs ks ≡ None → (m : ℕ)
    → has (map number ks) m ≡ true → has (map number (names qs)) m ≡ true
known_numbers number qs [] e m h = absurd (true≢false (sym h))
known_numbers number qs (k ∷ ks) e m h =
    by (is_there bytes_eq qs k) refl e (nat_eq m (number k)) refl h (λ none. known_numbers number qs ks none m) where
      by : (there : Bool) → is_there bytes_eq qs k ≡ there → (if not there then Some k else first_unknown bytes_eq qs ks) ≡ None
          → (b : Bool) → nat_eq m (number k) ≡ b → (b || has (map number ks) m) ≡ true
          → (first_unknown bytes_eq qs ks ≡ None → has (map number ks) m ≡ true → has (map number (names qs)) m ≡ true)
          → has (map number (names qs)) m ≡ true
      by false f none b g h rest = absurd (none-some k (sym none))
      by true f none false g h rest = rest none h
      by true f none true g h rest =
          let same : m ≡ number k = grind (arith, nat_tests) in
          ap (has (map number (names qs))) same ∙ has_mapped number (names qs) k (sym (there-named qs k) ∙ f)

-- ---- one quantity more
pub names_split : (all done : Quantities) (q : Quantity (List ℕ)) (next : AreNext all done (q ∷ [])) → names all ≡ names done ++ q.key ∷ names next.rest
names_split all done q next = ap names (sym next.whole) ∙ map-append (λ (p : Quantity (List ℕ)). p.key) done (q ∷ next.rest)

module _ (all done : Quantities) (q : Quantity (List ℕ)) (kept : Numbered) (are : AreKept all done kept) (next : AreNext all done (q ∷ [])) where
  -- the number of the new quantity
  abbrev id : ℕ
  id = length kept.names.keys

  new_name : is_in (names done) q.key ≡ false
  new_name = sym (there-named done q.key) ∙ next.order.0

  split : (n : List ℕ) → is_in (names all) n ≡ (is_in (names done) n || (bytes_eq n q.key || is_in (names next.rest) n))
  split n = ap (is_in_of n) (names_split all done q next) ∙ list_any-append (bytes_eq n) (names done) (q.key ∷ names next.rest) where
    is_in_of : List ℕ → List (List ℕ) → Bool
    is_in_of n ns = is_in ns n

  new_number : number_among all q.key ≡ id
  new_number =
      ap (λ ns. number_in ns q.key) (names_split all done q next) ∙ number_new (names done) (names next.rest) q.key new_name
      ∙ ap length (sym are.named)

  pub new_id : has (ids_of kept.graph) id ≡ false
  new_id =
      ap₂ has are.ids (sym new_number)
      ∙ has_number (names all) (names done) q.key
      (λ m e. split m ∙ or_left (is_in (names done) m) (bytes_eq m q.key || is_in (names next.rest) m) e)
      (split q.key
      ∙ or_right (is_in (names done) q.key) (bytes_eq q.key q.key || is_in (names next.rest) q.key)
      (or_left (bytes_eq q.key q.key) (is_in (names next.rest) q.key) (named_itself q.key)))
      ∙ new_name

  pub as_many : length kept.graph ≡ id
  as_many =
      sym (length-map kept.graph (λ node. node.id)) ∙ ap length are.ids ∙ length-map (names done) (number_among all) ∙ ap length (sym are.named)

  pub no_body : bodies_of kept.cache id ≡ None
  no_body = none (bodies_of kept.cache id) (sym (are.graph.placed id) ∙ new_id) where
    none : (o : Option (Body ℕ)) → is_some o ≡ false → o ≡ None
    none None e = refl
    none (Some body) e = absurd (true≢false e)

  pub uses_there : (name : List ℕ) (body : CodeBody) → StandsFor (number_among all) q name body → (m : ℕ) → has (numbers_in body) m ≡ true
      → has (ids_of kept.graph) m ≡ true
  uses_there name body stands m e =
      ap (λ ns. has ns m) are.ids
      ∙ known_numbers (number_among all) done (used_by q.body) next.order.1 m
      (ap (λ us. has us m) (sym (uses-renamed (number_among all) q.body (body_view body) stands.renamed))
      ∙ sym (uses_placed body stands.placeable m) ∙ e)

  module _ (name : List ℕ) (body : CodeBody) (stands : StandsFor (number_among all) q name body) (new : Numbered)
      (names_are : new.names.keys ≡ insert_key bytes_eq kept.names.keys name)
      (graph_is : new.graph ≡ insert kept.graph id (record { id = id; uses = numbers_in body }))
      (bodies_are : (n : ℕ) → bodies_of new.cache n ≡ (if nat_eq n id then Some (body_view body) else bodies_of kept.cache n)) where
    abbrev node : Node
    node = record { id = id; uses = numbers_in body }

    grown : new.graph ≡ kept.graph ++ node ∷ []
    grown = graph_is ∙ ap (λ k. insert kept.graph k node) (sym as_many) ∙ insert_end kept.graph node

    ids_grown : ids_of new.graph ≡ ids_of kept.graph ++ id ∷ []
    ids_grown = ap ids_of grown ∙ map-append (λ (n : Node). n.id) kept.graph (node ∷ [])

    names_grown : new.names.keys ≡ names (done ++ q ∷ [])
    names_grown =
        names_are ∙ ap₂ (insert_key bytes_eq) are.named (sym stands.key)
        ∙ ap (λ b. if b then names done else names done ++ q.key ∷ []) new_name
        ∙ sym (map-append (λ (p : Quantity (List ℕ)). p.key) done (q ∷ []))

    -- the body of a number that was there is as it was
    old_body : (n : ℕ) → has (ids_of kept.graph) n ≡ true → bodies_of new.cache n ≡ bodies_of kept.cache n
    old_body n e = bodies_are n ∙ ap (λ b. if b then Some (body_view body) else bodies_of kept.cache n) (other (nat_eq n id) refl) where
      other : (b : Bool) → nat_eq n id ≡ b → b ≡ false
      other false f = refl
      other true f = let same : n ≡ id = grind (arith, nat_tests) in absurd (true≢false (sym e ∙ ap (has (ids_of kept.graph)) same ∙ new_id))

    new_body : bodies_of new.cache id ≡ Some (body_view body)
    new_body = bodies_are id ∙ ap (λ b. if b then Some (body_view body) else bodies_of kept.cache id) (itself id)

    quantities_grown : quantities_by new ≡ quantities_by kept ++ record { key = id; body = body_view body } ∷ []
    quantities_grown =
        ap (numbered (bodies_of new.cache)) ids_grown
        ∙ numbered-last (bodies_of new.cache) (ids_of kept.graph) id (body_view body) new_body
        ∙ ap (λ qs. qs ++ record { key = id; body = body_view body } ∷ [])
        (numbered-same (bodies_of new.cache) (bodies_of kept.cache) (ids_of kept.graph) old_body)

    pub added : AreKept all (done ++ q ∷ []) new
    added = record {
      named = names_grown;
      ids =
          ids_grown ∙ ap₂ (λ ns n. ns ++ n ∷ []) are.ids (sym new_number)
          ∙ sym (map-append (number_among all) (names done) (q.key ∷ []))
          ∙ ap (map (number_among all)) (sym (map-append (λ (p : Quantity (List ℕ)). p.key) done (q ∷ [])));
      graph =
          subst (λ nodes. IsGraphOf nodes (bodies_of new.cache)) (sym grown)
          (graph-added kept.graph (bodies_of kept.cache) (bodies_of new.cache) node (body_view body) are.graph no_body bodies_are
          (uses_placed body stands.placeable) (uses_there name body stands));
      each =
          subst (AllZip (IsRenamed (number_among all)) (done ++ q ∷ [])) (sym quantities_grown)
          (zip-append (IsRenamed (number_among all)) done (quantities_by kept) q (record { key = id; body = body_view body }) are.each
          (record { key = sym new_number; body = stands.renamed }));
    }

-- where a call that was answered keeps the quantities more, whatever is kept before, it takes them
pub takes_on : {A E : Type 0} (r : Result A E) (old new : Numbered) (qs : Quantities)
    → ((all done : Quantities) → AreKept all done old → AreNext all done qs → OnOk r (AreKept all (done ++ qs) new)) → OnOk r (Takes old qs new)
takes_on (Ok x) old new qs h = h
takes_on (Err e) old new qs h = tt
