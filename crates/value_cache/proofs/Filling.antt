-- Finding cells from the end of a list, each of which uses those after it alone.
use Rattle.std.specs.Prelude.{◌≡◌, ℕ, zero, suc, ◌+◌, ◌≤◌, ◌<◌, Bool, true, false, ◌||◌, if◌then◌else◌, nat_eq, List, [], ◌∷◌, drop, length, get_or, is_some, Option, Some, None, refl}
use Rattle.std.proofs.Common.{arith, sym, ◌∙◌, ap, subst}
use Rattle.std.proofs.lemmas.Bool.{true≢false, or_parts}
use Rattle.std.proofs.lemmas.Bool.Decides.{nat_tests}
use Rattle.std.proofs.lemmas.List.Sums.{sum_by-cons}
use Rattle.dep_graph.proofs.Searches.{or-cases}
use Rattle.dep_graph.specs.Nodes.{has}
use Rattle.value_cache.specs.Evaluations.{Found}
use Rattle.value_cache.specs.Rules.{Bodies, uses_of, are_found, cost_of, work, AreKept, AreFalling}
use Rattle.value_cache.specs.declared.evaluation.Evaluation.{Evaluation}
use Rattle.value_cache.proofs.Rules.{found-from}

-- ---- lists
drop-here : (xs : List ℕ) (i x : ℕ) → i < length xs → x ≡ get_or xs i x → drop i xs ≡ x ∷ drop (suc i) xs
drop-here [] i x low at = absurd (omega (arith, low))
drop-here (y ∷ xs) zero x low at = ap (λ y. y ∷ xs) (sym at)
drop-here (y ∷ xs) (suc i) x low at = drop-here xs i x (omega (arith, low)) at

falling-drop : (bodies : Bodies) (list : List ℕ) (i : ℕ) → AreFalling bodies list → AreFalling bodies (drop i list)
falling-drop bodies [] zero falling = tt
falling-drop bodies [] (suc i) falling = tt
falling-drop bodies (x ∷ list) zero falling = falling
falling-drop bodies (x ∷ list) (suc i) falling = falling-drop bodies list i falling.1

-- ---- the walk
-- those from `at` on have cells, and nothing else has changed
pub record IsFilled (placed : Bodies) (old : Found ℕ) (list : List ℕ) (start at : ℕ) (new : Bodies) (now : Found ℕ) (steps : ℕ) : Type 0 where
  pub bodies : (n : ℕ) → new n ≡ placed n
  pub kept : AreKept old now
  pub others : (n : ℕ) → has (drop at list) n ≡ false → now n ≡ old n
  pub found : (n : ℕ) → has (drop at list) n ≡ true → is_some (now n) ≡ true
  pub ticks : steps ≤ start + work placed old (drop at list)

pub ready : (placed new : Bodies) (old now : Found ℕ) (list : List ℕ) (start i steps x : ℕ) → AreFalling placed list → IsFilled placed old list start (suc i) new now steps
    → i < length list → x ≡ get_or list i x → are_found now (uses_of (new x)) ≡ true
ready placed new old now list start i steps x falling f low at =
    let first : AreFalling placed (x ∷ drop (suc i) list) = subst (AreFalling placed) (drop-here list i x low at) (falling-drop placed list i falling) in
    found-from now (uses_of (new x)) (λ m used. f.found m (first.0 m (ap (λ b. has (uses_of b) m) (sym (f.bodies x)) ∙ used)))

-- what has no cell now had none before
work-less : (placed new : Bodies) (old now : Found ℕ) (x : ℕ) → AreKept old now → new x ≡ placed x → work new now (x ∷ []) ≤ work placed old (x ∷ [])
work-less placed new old now x kept same = by (old x) refl (now x) refl where
  by : (o : Option (Evaluation ℕ)) → old x ≡ o → (n : Option (Evaluation ℕ)) → now x ≡ n → work new now (x ∷ []) ≤ work placed old (x ∷ [])
  by (Some c) q n r = rw (q, kept x c q) (omega arith)
  by None q None r = rw (q, r, same) (omega arith)
  by None q (Some c) r = rw (q, r) (omega arith)

work-cons : (placed : Bodies) (old : Found ℕ) (x : ℕ) (xs : List ℕ) → work placed old (x ∷ xs) ≡ work placed old (x ∷ []) + work placed old xs
work-cons placed old x xs =
    let f : ℕ → ℕ = λ n. if is_some (old n) then 0 else cost_of (placed n) in
    omega (arith, sum_by-cons f x xs, sum_by-cons f x [])

pub filled-step : (placed new last : Bodies) (old now after : Found ℕ) (list : List ℕ) (start i steps more x : ℕ) → IsFilled placed old list start (suc i) new now steps
    → i < length list → x ≡ get_or list i x → ((n : ℕ) → last n ≡ new n) → AreKept now after → ((n : ℕ) → nat_eq n x ≡ false → after n ≡ now n)
    → is_some (after x) ≡ true → more ≤ steps + work new now (x ∷ []) → IsFilled placed old list start i last after more
filled-step placed new last old now after list start i steps more x f low at bodies kept others found ticks =
    let here : drop i list ≡ x ∷ drop (suc i) list = drop-here list i x low at in
    let split : (n : ℕ) → has (drop i list) n ≡ (nat_eq n x || has (drop (suc i) list) n) = λ n. ap (λ l. has l n) here in
    let cost : work placed old (drop i list) ≡ work placed old (x ∷ []) + work placed old (drop (suc i) list) =
    ap (work placed old) here ∙ work-cons placed old x (drop (suc i) list) in
    record {
      bodies = λ n. bodies n ∙ f.bodies n;
      kept = λ n cell h. kept n cell (f.kept n cell h);
      others = λ n h. let both = or_parts (nat_eq n x) (has (drop (suc i) list) n) (sym (split n) ∙ h) in others n both.0 ∙ f.others n both.1;
      found = λ n h. or-cases (nat_eq n x) (has (drop (suc i) list) n) (sym (split n) ∙ h)
          (λ e. let same : x ≡ n = grind (arith, nat_tests) in ap (λ n. is_some (after n)) (sym same) ∙ found)
          (λ t. still n (now n) refl (f.found n t));
      ticks = omega (arith, ticks, f.ticks, cost, work-less placed new old now x f.kept (f.bodies x));
    }
  where
    still : (n : ℕ) (o : Option (Evaluation ℕ)) → now n ≡ o → is_some (now n) ≡ true → is_some (after n) ≡ true
    still n None q h = absurd (true≢false (sym h ∙ ap is_some q))
    still n (Some c) q h = ap is_some (kept n c q)
