-- Chains turned round: what uses, and what is used.
use Rattle.std.proofs.Common.{arith, ap, sym, ◌∙◌, true≢false, ◌≡◌, ◌||◌, true, false, ℕ, Bool, List, [], ◌∷◌, ◌++◌, nat_eq, refl}
use Rattle.std.proofs.lemmas.Bool.Decides.{nat_tests}
use Rattle.std.proofs.lemmas.Bool.{or_right}
use Rattle.dep_graph.specs.Nodes.{Node, has, ids_of, uses_in, users_in, AreOnce, IsWhole}
use Rattle.dep_graph.specs.Reaching.{IsChain, Reaches, DependsOn, next_in}
use Rattle.dep_graph.specs.declared.way.Way.{Way}
use Rattle.dep_graph.specs.declared.way.Way.TheVariants.{Uses, Users}
use Rattle.dep_graph.proofs.Searches.{chain-more}

pub reach-turned : (next back : ℕ → List ℕ) → ((y n : ℕ) → has (next y) n ≡ true → has (back n) y ≡ true) → (ms : List ℕ) (y n : ℕ) → IsChain next y ms n → Reaches back n y
reach-turned next back turn [] y n c = record { chain = []; is = sym c }
reach-turned next back turn (m ∷ ms) y n c =
    let far = reach-turned next back turn ms m n c.1 in
    record { chain = far.chain ++ y ∷ []; is = chain-more back far.chain n m y far.is (turn y m c.0) }

-- a node that uses n is one of its users
pub used-user : (nodes : List Node) (y n : ℕ) → has (uses_in nodes y) n ≡ true → has (users_in nodes n) y ≡ true
used-user [] y n h = h
used-user (node ∷ nodes) y n h = by (nat_eq y node.id) (has node.uses n) refl refl (used-user nodes y n)
  where
    by : (e u : Bool) → nat_eq y node.id ≡ e → has node.uses n ≡ u → (has (uses_in nodes y) n ≡ true → has (users_in nodes n) y ≡ true) → has (users_in (node ∷ nodes) n) y ≡ true
    by true true q r more = rw r (rw q refl)
    by true false q r more = let t : has node.uses n ≡ true = rw q at h in absurd (true≢false (sym t ∙ r))
    by false true q r more = rw r (or_right (nat_eq y node.id) (has (users_in nodes n) y) (more (rw q at h)))
    by false false q r more = rw r (more (rw q at h))

pub user-node : (nodes : List Node) (y n : ℕ) → has (users_in nodes n) y ≡ true → has (ids_of nodes) y ≡ true
user-node [] y n h = h
user-node (node ∷ nodes) y n h = by (has node.uses n) refl (user-node nodes y n)
  where
    keep : (a b c : Bool) → (b ≡ true → c ≡ true) → (a || b) ≡ true → (a || c) ≡ true
    keep true b c more h = refl
    keep false b c more h = more h

    by : (u : Bool) → has node.uses n ≡ u → (has (users_in nodes n) y ≡ true → has (ids_of nodes) y ≡ true) → has (ids_of (node ∷ nodes)) y ≡ true
    by true r more = keep (nat_eq y node.id) (has (users_in nodes n) y) (has (ids_of nodes) y) more (rw r at h)
    by false r more = or_right (nat_eq y node.id) (has (ids_of nodes) y) (more (rw r at h))

-- a user of n uses it, where no two nodes have one id
pub user-uses : (nodes : List Node) → AreOnce nodes → (y n : ℕ) → has (users_in nodes n) y ≡ true → has (uses_in nodes y) n ≡ true
user-uses [] once y n h = h
user-uses (node ∷ nodes) once y n h = by (nat_eq y node.id) (has node.uses n) refl refl (user-uses nodes once.1 y n)
  where
    gone : nat_eq y node.id ≡ true → has (users_in nodes n) y ≡ true → has (uses_in (node ∷ nodes) y) n ≡ true
    gone q t = let e : y ≡ node.id = grind (arith, nat_tests) in absurd (true≢false (sym (user-node nodes y n t) ∙ ap (has (ids_of nodes)) e ∙ once.0))

    by : (e u : Bool) → nat_eq y node.id ≡ e → has node.uses n ≡ u → (has (users_in nodes n) y ≡ true → has (uses_in nodes y) n ≡ true) → has (uses_in (node ∷ nodes) y) n ≡ true
    by true true q r more = rw q r
    by true false q r more = gone q (rw r at h)
    by false true q r more = rw q (more (let t : (nat_eq y node.id || has (users_in nodes n) y) ≡ true = rw r at h in rw q at t))
    by false false q r more = rw q (more (rw r at h))

pub users-depend : (nodes : List Node) → AreOnce nodes → (y n : ℕ) → Reaches (users_in nodes) n y → DependsOn nodes y n
users-depend nodes once y n r = reach-turned (users_in nodes) (uses_in nodes) (λ k m h. user-uses nodes once m k h) r.chain n y r.is

pub depend-users : (nodes : List Node) (y n : ℕ) → DependsOn nodes y n → Reaches (users_in nodes) n y
depend-users nodes y n r = reach-turned (uses_in nodes) (users_in nodes) (λ k m h. used-user nodes k m h) r.chain y n r.is

-- what is next to a node is there
pub next-there : (way : Way) (nodes : List Node) → IsWhole nodes → (y n : ℕ) → has (next_in way nodes y) n ≡ true → has (ids_of nodes) n ≡ true
next-there Uses nodes whole y n h = whole.used y n h
next-there Users nodes whole y n h = user-node nodes n y h
