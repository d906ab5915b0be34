-- The terms that users bring, found from the last user to the first.
use Rattle.std.specs.Prelude.{◌≡◌, ℕ, ◌+◌, ◌-◌, ◌≤◌, ◌<◌, Bool, true, false, if◌then◌else◌, List, [], ◌∷◌, ◌++◌, map, reverse, take, get_or, length, sum_by, is_some, is_err, Option, None, Result, Err, refl}
use Rattle.std.specs.Option.{ok_or}
use Rattle.std.proofs.Common.{arith, sym, ◌∙◌, ap, subst}
use Rattle.std.proofs.lemmas.List.{take_more, take_all, reverse-append}
use Rattle.std.proofs.lemmas.List.Sums.{sum_by-append}
use Rattle.fixed_interval.specs.Interval.{Interval}
use Rattle.fixed_interval.specs.Sums.{sum_after, Continues}
use Rattle.fixed_interval.specs.declared.faults.Overflow.{Overflow}
use Rattle.fixed_interval.proofs.SumLoops.{Leaves, refused_one}
use Rattle.covariance.specs.Gradients.{Spans}
use Rattle.value_cache.specs.Evaluations.{Found}
use Rattle.value_cache.specs.Rules.{Bodies}
use Rattle.adjoint_pass.specs.Costs.{term_cost}
use Rattle.adjoint_pass.specs.Gathering.{found_among, gathered, term_at}

-- the users before a place, the last first
abbrev pub users_before : List ℕ → ℕ → List ℕ
users_before us at = reverse (take at us)

users_before-next : (us : List ℕ) (at m : ℕ) → 0 < at → at ≤ length us → m ≡ get_or us (at - 1) m → users_before us at ≡ m ∷ users_before us (at - 1)
users_before-next us at m some within is =
    let e : at ≡ at - 1 + 1 = omega arith in
    ap (users_before us) e ∙ ap reverse (take_more us (at - 1) m (omega arith)) ∙ reverse-append (take (at - 1) us) (get_or us (at - 1) m ∷ [])
    ∙ ap (λ k. k ∷ users_before us (at - 1)) (sym is)

-- one user more
found-cons : (found : Spans ℕ) (m : ℕ) (ms : List ℕ) → found_among found (m ∷ ms) ≡ found_among found (m ∷ []) ++ found_among found ms
found-cons found m ms = by (is_some (found m)) where
  by : (b : Bool) → (if b then m ∷ found_among found ms else found_among found ms) ≡ (if b then m ∷ [] else []) ++ found_among found ms
  by true = refl
  by false = refl

gathered-cons : (bodies : Bodies) (cells : Found ℕ) (found : Spans ℕ) (n m : ℕ) (ms : List ℕ)
    → gathered bodies cells found n (m ∷ ms) ≡ gathered bodies cells found n (m ∷ []) ++ gathered bodies cells found n ms
gathered-cons bodies cells found n m ms = by (is_some (found m)) where
  rest : List (Option Interval)
  rest = gathered bodies cells found n ms

  by : (b : Bool) → map (term_at bodies cells found n) (if b then m ∷ found_among found ms else found_among found ms)
      ≡ map (term_at bodies cells found n) (if b then m ∷ [] else []) ++ map (term_at bodies cells found n) (found_among found ms)
  by true = refl
  by false = refl

pub gathered-next : (bodies : Bodies) (cells : Found ℕ) (found : Spans ℕ) (n : ℕ) (us : List ℕ) (at m : ℕ) → 0 < at → at ≤ length us → m ≡ get_or us (at - 1) m
    → gathered bodies cells found n (users_before us at)
    ≡ gathered bodies cells found n (m ∷ []) ++ gathered bodies cells found n (users_before us (at - 1))
gathered-next bodies cells found n us at m some within is =
    ap (gathered bodies cells found n) (users_before-next us at m some within is) ∙ gathered-cons bodies cells found n m (users_before us (at - 1))

pub gathered-all : (bodies : Bodies) (cells : Found ℕ) (found : Spans ℕ) (n : ℕ) (us : List ℕ) (at : ℕ) → length us ≤ at
    → gathered bodies cells found n (users_before us at) ≡ gathered bodies cells found n (reverse us)
gathered-all bodies cells found n us at past = ap (λ l. gathered bodies cells found n (reverse l)) (take_all at us past)

-- what these cost
abbrev pub cost_of_found : Bodies → Spans ℕ → List ℕ → ℕ
cost_of_found bodies found ms = sum_by (λ m. term_cost (bodies m)) (found_among found ms)

pub cost-next : (bodies : Bodies) (found : Spans ℕ) (us : List ℕ) (at m : ℕ) → 0 < at → at ≤ length us → m ≡ get_or us (at - 1) m
    → cost_of_found bodies found (users_before us at) ≡ cost_of_found bodies found (m ∷ []) + cost_of_found bodies found (users_before us (at - 1))
cost-next bodies found us at m some within is =
    ap (cost_of_found bodies found) (users_before-next us at m some within is)
    ∙ ap (sum_by (λ k. term_cost (bodies k))) (found-cons found m (users_before us (at - 1)))
    ∙ sum_by-append (λ k. term_cost (bodies k)) (found_among found (m ∷ [])) (found_among found (users_before us (at - 1)))

pub cost-all : (bodies : Bodies) (found : Spans ℕ) (us : List ℕ) (at : ℕ) → length us ≤ at
    → cost_of_found bodies found (users_before us at) ≡ cost_of_found bodies found (reverse us)
cost-all bodies found us at past = ap (λ l. cost_of_found bodies found (reverse l)) (take_all at us past)

-- of one user: what it brings where its own sensitivity is found, and nothing where it is not
pub one_gathered : (bodies : Bodies) (cells : Found ℕ) (found : Spans ℕ) (n m : ℕ) → is_some (found m) ≡ true
    → gathered bodies cells found n (m ∷ []) ≡ term_at bodies cells found n m ∷ []
one_gathered bodies cells found n m h = ap (λ b. map (term_at bodies cells found n) (if b then m ∷ [] else [])) h

pub none_gathered : (bodies : Bodies) (cells : Found ℕ) (found : Spans ℕ) (n m : ℕ) → is_some (found m) ≡ false
    → gathered bodies cells found n (m ∷ []) ≡ []
none_gathered bodies cells found n m h = ap (λ b. map (term_at bodies cells found n) (if b then m ∷ [] else [])) h

pub one_cost : (bodies : Bodies) (found : Spans ℕ) (m : ℕ) → is_some (found m) ≡ true → cost_of_found bodies found (m ∷ []) ≡ term_cost (bodies m)
one_cost bodies found m h =
    ap (λ b. sum_by (λ k. term_cost (bodies k)) (if b then m ∷ [] else [])) h ∙ omega arith

-- ---- the sum
pub refused_user : (bodies : Bodies) (cells : Found ℕ) (found : Spans ℕ) (n m : ℕ) (r : Result (Option Interval) Overflow) → is_err r ≡ true → (sum : Option Interval)
    (x e : Overflow) → Err x ≡ ok_or (term_at bodies cells found n m) e → is_some (found m) ≡ true → Continues sum (gathered bodies cells found n (m ∷ [])) r
refused_user bodies cells found n m r i sum x e h there =
    subst (λ ts. Continues sum ts r) (sym (one_gathered bodies cells found n m there)) (refused_one r i sum (term_at bodies cells found n m) x e h)

-- before the first user
pub all_left : (bodies : Bodies) (cells : Found ℕ) (found : Spans ℕ) (n : ℕ) (us : List ℕ)
    → Leaves None (gathered bodies cells found n (users_before us (length us))) None (gathered bodies cells found n (reverse us))
all_left bodies cells found n us more = ap (λ ts. sum_after None (ts ++ more)) (gathered-all bodies cells found n us (length us) (omega arith))
