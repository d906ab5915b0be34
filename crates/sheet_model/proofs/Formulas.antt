-- Formulas by names, and the numbers for which their names stand.
use Rattle.std.specs.Prelude.{◌≡◌, ℕ, Bool, true, false, ◌||◌, not, if◌then◌else◌, is_some, bytes_eq, List, [], ◌∷◌, map, length, find, Some, None, refl}
use Rattle.std.specs.List.{list_any, list_all}
use Rattle.std.specs.Option.{unwrap_or}
use Rattle.std.proofs.Common.{sym, ◌∙◌, ap, ap₂, subst}
use Rattle.std.proofs.lemmas.Bool.{true≢false, and_parts}
use Rattle.std.proofs.lemmas.List.{map-id, length-map}
use Rattle.std.proofs.lemmas.Slice.Eq.{bytes_eq-Decides}
use Rattle.exact_law.specs.Model.{IsSameTest}
use Rattle.formula_ast.specs.Trees.{Tree, HasExponents, uses, distinct, names_of}
use Rattle.value_cache.specs.Quantities.{Function, is_there, first_unknown, by_names}
use Rattle.value_cache.specs.Evaluable.{UsesOnly}
use Rattle.value_cache.specs.Slots.{id_of, key_by, body_view, IsNumbered, IsPlaceable}
use Rattle.value_cache.specs.declared.body.Body.{Body as CodeBody}
use Rattle.value_cache.proofs.Names.{find-distinct}
use Rattle.sheet_rows.proofs.Tests.{same_name, none_all, list_all_agree}
use Rattle.sheet_model.specs.Walks.{Quantities, names}
use Rattle.sheet_model.specs.Numbering.{number_in, number_among, AreKept, AreNext, StandsFor}
use Rattle.sheet_model.specs.declared.numbering.Numbered.{Numbered}
use Rattle.sheet_model.proofs.Names.{there-named}
use Rattle.sheet_model.proofs.Numbers.{is_in, number_kept}
use Rattle.sheet_model.proofs.Kept.{names_split}

pub same_names : IsSameTest bytes_eq
same_names = record { sound = λ a b e. (bytes_eq-Decides a b).0 e; complete = λ a. (bytes_eq-Decides a a).1 refl }

-- a formula by names uses what its names name
pub uses_names : (qs : Quantities) (f : Tree) → first_unknown bytes_eq qs (uses f) ≡ None → UsesOnly bytes_eq qs (by_names f)
uses_names qs f e = record { known = ap (first_unknown bytes_eq qs) (map-id (uses f)) ∙ e; column = tt }

-- ---- the distinct names of a formula
any-find : {X : Type 0} (p : X → Bool) (xs : List X) → list_any p xs ≡ is_some (find p xs)
any-find p [] = refl
any-find p (x ∷ xs) = by (p x) (any-find p xs) where
  by : (b : Bool) → list_any p xs ≡ is_some (find p xs) → (b || list_any p xs) ≡ is_some (if b then Some x else find p xs)
  by true rest = refl
  by false rest = rest

any-distinct : (p : List ℕ → Bool) (ns : List (List ℕ)) → list_any p (distinct ns) ≡ list_any p ns
any-distinct p ns = any-find p (distinct ns) ∙ ap is_some (find-distinct p ns) ∙ sym (any-find p ns)

-- ---- the number beside a name
key_of : (number : List ℕ → ℕ) (ns : List (List ℕ)) (n : List ℕ) → is_in ns n ≡ true → key_by ns (map number ns) n ≡ number n
key_of number [] n e = absurd (true≢false (sym e))
key_of number (m ∷ ns) n e = by (bytes_eq n m) refl e (key_of number ns n) where
  by : (b : Bool) → bytes_eq n m ≡ b → (b || is_in ns n) ≡ true → (is_in ns n ≡ true → key_by ns (map number ns) n ≡ number n)
      → unwrap_or (if b then Some (number m) else id_of ns (map number ns) n) 0 ≡ number n
  by true f h rest = ap number (sym (same_name n m f))
  by false f h rest = rest h

-- what holds of each of the names holds of their images
mapped_same : (f g : List ℕ → ℕ) (ns : List (List ℕ)) → ((n : List ℕ) → is_in ns n ≡ true → f n ≡ g n) → map f ns ≡ map g ns
mapped_same f g [] same = refl
mapped_same f g (n ∷ ns) same =
    ap₂ (λ k ks. k ∷ ks) (same n (ap (λ b. b || is_in ns n) ((bytes_eq-Decides n n).1 refl)))
    (mapped_same f g ns (λ m e. same m (later (bytes_eq m n) (is_in ns m) e)))
  where
    later : (a b : Bool) → b ≡ true → (a || b) ≡ true
    later true b e = refl
    later false b e = e

-- the body of a formula, with the numbers of its names, stands for it
formula_stands : (number : List ℕ → ℕ) (name : List ℕ) (f g : Tree) (body : CodeBody) (ns : List (List ℕ)) (ids : List ℕ)
    → body_view body ≡ Function g (key_by ns ids) → IsPlaceable body → g ≡ f → ns ≡ names_of f → ids ≡ map number ns
    → StandsFor number (record { key = name; body = by_names f }) name body
formula_stands number name f g body ns ids view placeable same distinct_names numbers = record {
  key = refl;
  renamed = (
    key_by ns ids,
    view ∙ ap (λ t. Function t (key_by ns ids)) same,
    ap₂ (λ ms ks. map (key_by ms ks) (uses f)) distinct_names (numbers ∙ ap (map number) distinct_names)
        ∙ mapped_same (key_by (names_of f) (map number (names_of f))) number (uses f)
        (λ n e. key_of number (names_of f) n (any-distinct (bytes_eq n) (uses f) ∙ e))
        ∙ ap (map number) (sym (map-id (uses f))),
  );
  placeable = placeable;
}

-- ---- a formula that follows what the code keeps
module _ (all before : Quantities) (name : List ℕ) (f : Tree) (kept : Numbered) (are : AreKept all before kept)
    (next : AreNext all before (record { key = name; body = by_names f } ∷ [])) where
  -- each of its names has a number
  pub names_kept : (ns : List (List ℕ)) → ns ≡ names_of f → list_all (λ n. list_any (bytes_eq n) kept.names.keys) ns ≡ true
  names_kept ns e =
      ap (list_all (λ n. is_in kept.names.keys n)) e
      ∙ list_all_agree (λ n. is_in kept.names.keys n) (is_there bytes_eq before) (λ n. ap (λ ks. is_in ks n) are.named ∙ sym (there-named before n)) (names_of f)
      ∙ none_all (is_there bytes_eq before) (names_of f)
      (find-distinct (λ n. not (is_there bytes_eq before n)) (uses f)
      ∙ sym (ap (first_unknown bytes_eq before) (map-id (uses f))) ∙ next.order.1)

  -- and this is its number among all
  numbers_among : (ns : List (List ℕ)) → ns ≡ names_of f → map (number_in kept.names.keys) ns ≡ map (number_among all) ns
  numbers_among ns e =
      mapped_same (number_in kept.names.keys) (number_among all) ns
      (λ n there. let known = one_of n ns there (names_kept ns e) in
      ap (λ ks. number_in ks n) are.named
      ∙ sym (number_kept (names before) _ n (ap (λ ks. is_in ks n) (sym are.named) ∙ known))
      ∙ ap (λ ks. number_in ks n) (sym (names_split all before (record { key = name; body = by_names f }) next)))
    where
      one_of : (n : List ℕ) (ns : List (List ℕ)) → is_in ns n ≡ true → list_all (λ m. is_in kept.names.keys m) ns ≡ true → is_in kept.names.keys n ≡ true
      one_of n [] there h = absurd (true≢false (sym there))
      one_of n (m ∷ ns) there h =
          by (bytes_eq n m) refl there (λ t. one_of n ns t (and_parts (is_in kept.names.keys m) (list_all (λ k. is_in kept.names.keys k) ns) h).1) where
            by : (b : Bool) → bytes_eq n m ≡ b → (b || is_in ns n) ≡ true → (is_in ns n ≡ true → is_in kept.names.keys n ≡ true) → is_in kept.names.keys n ≡ true
            by true f t rest = ap (is_in kept.names.keys) (same_name n m f) ∙ (and_parts (is_in kept.names.keys m) (list_all (λ k. is_in kept.names.keys k) ns) h).0
            by false f t rest = rest t

  pub formula_follows : (g : Tree) (body : CodeBody) (ns : List (List ℕ)) (ids : List ℕ)
      → body_view body ≡ Function g (key_by ns ids) → IsPlaceable body → g ≡ f → ns ≡ names_of f → ids ≡ map (number_in kept.names.keys) ns
      → StandsFor (number_among all) (record { key = name; body = by_names f }) name body
  formula_follows g body ns ids view placeable same distinct_names are_numbers =
      formula_stands (number_among all) name f g body ns ids view placeable same distinct_names (are_numbers ∙ numbers_among ns distinct_names)

-- the numbers of its names are as many as these
pub numbers_placeable : (number : List ℕ → ℕ) (f g : Tree) (ns : List (List ℕ)) (ids : List ℕ) → HasExponents f → g ≡ f → ns ≡ names_of f
    → ids ≡ map number ns → IsNumbered g ns ids
numbers_placeable number f g ns ids h same distinct_names are_numbers = record {
  exponents = subst HasExponents (sym same) h;
  named = distinct_names ∙ ap names_of (sym same);
  numbers = ap length are_numbers ∙ length-map ns number;
}
