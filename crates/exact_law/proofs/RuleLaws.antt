-- A condition of the written rule that is settled over intervals is so for what lies in them.
use Rattle.std.specs.Prelude.{◌≡◌, Bool, true, false, cond, ◌&&◌, ◌||◌, List, [], ◌∷◌, pos, refl}
use Rattle.std.proofs.Common.{sym, ◌∙◌}
use Rattle.std.proofs.lemmas.Bool.{true≢false}
use Rattle.exact_fraction.specs.Number.{ℚ, of_ℤ, ◌*ℚ◌, is_at_most_ℚ}
use Rattle.exact_fraction.specs.NumberLaws.{≤ℚ_refl, ≤ℚ_trans}
use Rattle.exact_fraction.proofs.Strict.{below_by}
use Rattle.exact_law.specs.WrittenRule.{Form, Binary, FourOutcomes, Statement, is_inside, is_guarded, is_near, all_of, stated_by, stated_at, Ends, IsWithin, Answer, Yes, No, Unsettled, compared, both, either, Span, inside_over, guarded_over, near_over, all_over, Stated, decided, decision_by, decision, AllWithin, Agrees}

-- ---- tests of the order
compared-agrees : (x y : ℚ) (a b : Ends) → IsWithin x a → IsWithin y b → Agrees (compared a b) (is_at_most_ℚ x y)
unfolding compared Agrees
compared-agrees x y a b h k = by (is_at_most_ℚ a.high b.low) (is_at_most_ℚ a.low b.high) refl refl where
  by : (s t : Bool) → is_at_most_ℚ a.high b.low ≡ s → is_at_most_ℚ a.low b.high ≡ t
      → Agrees (cond s Yes (cond t Unsettled No)) (is_at_most_ℚ x y)
  by true t e f = (≤ℚ_trans x a.high y h.below (≤ℚ_trans a.high b.low y (record { holds = e }) k.above)).holds
  by false true e f = tt
  by false false e f =
      (below_by y x
      (λ g. true≢false (sym (≤ℚ_trans a.low x b.high h.above (≤ℚ_trans x y b.high g k.below)).holds ∙ f))).not_above

-- ---- joined answers
both-agrees : (a b : Answer) (p q : Bool) → Agrees a p → Agrees b q → Agrees (both a b) (p && q)
unfolding both Agrees
both-agrees No b p q h k = rw h refl
both-agrees Yes Yes p q h k = rw (h, k) refl
both-agrees Yes No p q h k = rw (h, k) refl
both-agrees Yes Unsettled p q h k = tt
both-agrees Unsettled No p q h k = rw k (by p) where
  by : (p : Bool) → (p && false) ≡ false
  by true = refl
  by false = refl
both-agrees Unsettled Yes p q h k = tt
both-agrees Unsettled Unsettled p q h k = tt

either-agrees : (a b : Answer) (p q : Bool) → Agrees a p → Agrees b q → Agrees (either a b) (p || q)
unfolding either Agrees
either-agrees Yes b p q h k = rw h refl
either-agrees No Yes p q h k = rw (h, k) refl
either-agrees No No p q h k = rw (h, k) refl
either-agrees No Unsettled p q h k = tt
either-agrees Unsettled Yes p q h k = rw k (by p) where
  by : (p : Bool) → (p || true) ≡ true
  by true = refl
  by false = refl
either-agrees Unsettled No p q h k = tt
either-agrees Unsettled Unsettled p q h k = tt

-- ---- the conditions
zero-within : IsWithin (of_ℤ (pos 0)) (record { low = of_ℤ (pos 0); high = of_ℤ (pos 0) })
zero-within = record { above = ≤ℚ_refl _; below = ≤ℚ_refl _ }

pub inside-agrees : (d : ℚ) (s : Span) → IsWithin d s.distance → Agrees (inside_over s) (is_inside d)
unfolding inside_over is_inside
inside-agrees d s h = compared-agrees (of_ℤ (pos 0)) d _ s.distance zero-within h

guarded-agrees : (w : ℚ) (ends : Ends) → IsWithin w ends → (d : ℚ) (s : Span) → IsWithin d s.distance → IsWithin (d *ℚ d) s.square
    → Agrees (guarded_over ends s) (is_guarded w d)
unfolding guarded_over is_guarded
guarded-agrees w ends v d s h k = both-agrees _ _ _ _ (inside-agrees d s h) (compared-agrees w (d *ℚ d) ends s.square v k)

near-agrees : (w : ℚ) (ends : Ends) → IsWithin w ends → (d : ℚ) (s : Span) → IsWithin d s.distance → IsWithin (d *ℚ d) s.square
    → Agrees (near_over ends s) (is_near w d)
unfolding near_over is_near
near-agrees w ends v d s h k = either-agrees _ _ _ _ (inside-agrees d s h) (compared-agrees (d *ℚ d) w s.square ends k v)

all-agree : (p : ℚ → Bool) (f : Span → Answer)
    → ((d : ℚ) (s : Span) → IsWithin d s.distance → IsWithin (d *ℚ d) s.square → Agrees (f s) (p d))
    → (ds : List ℚ) (ss : List Span) → AllWithin ds ss → Agrees (all_over f ss) (all_of p ds)
unfolding all_over all_of AllWithin Agrees
all-agree p f h [] [] k = refl
all-agree p f h [] (s ∷ ss) k = absurd k
all-agree p f h (d ∷ ds) [] k = absurd k
all-agree p f h (d ∷ ds) (s ∷ ss) k = both-agrees (f s) _ (p d) _ (h d s k.0 k.1) (all-agree p f h ds ss k.2)

-- ---- the statement
decision_by-agrees : (form : Form) (a b c : Answer) (p q r : Bool) → Agrees a p → Agrees b q → Agrees c r
    → (s : Statement) → decision_by form a b c ≡ Stated s → stated_by form p q r ≡ s
unfolding decision_by decided stated_by Agrees
decision_by-agrees Binary Yes b c p q r h k l s e = rw h (cc)
decision_by-agrees Binary No b c p q r h k l s e = rw h (cc)
decision_by-agrees Binary Unsettled b c p q r h k l s e = absurd (cc)
decision_by-agrees FourOutcomes Yes b c p q r h k l s e = rw h (cc)
decision_by-agrees FourOutcomes Unsettled b c p q r h k l s e = absurd (cc)
decision_by-agrees FourOutcomes No Yes c p q r h k l s e = rw (h, k) (cc)
decision_by-agrees FourOutcomes No Unsettled c p q r h k l s e = absurd (cc)
decision_by-agrees FourOutcomes No No Yes p q r h k l s e = rw (h, k, l) (cc)
decision_by-agrees FourOutcomes No No Unsettled p q r h k l s e = absurd (cc)
decision_by-agrees FourOutcomes No No No p q r h k l s e = rw (h, k, l) (cc)

pub all_guarded-agree : (w : ℚ) (ends : Ends) (ds : List ℚ) (ss : List Span) → IsWithin w ends → AllWithin ds ss
    → Agrees (all_over (guarded_over ends) ss) (all_of (is_guarded w) ds)
all_guarded-agree w ends ds ss v h = all-agree (is_guarded w) (guarded_over ends) (guarded-agrees w ends v) ds ss h

pub all_inside-agree : (ds : List ℚ) (ss : List Span) → AllWithin ds ss → Agrees (all_over inside_over ss) (all_of is_inside ds)
all_inside-agree ds ss h = all-agree is_inside inside_over (λ d s k _. inside-agrees d s k) ds ss h

pub all_near-agree : (w : ℚ) (ends : Ends) (ds : List ℚ) (ss : List Span) → IsWithin w ends → AllWithin ds ss
    → Agrees (all_over (near_over ends) ss) (all_of (is_near w) ds)
all_near-agree w ends ds ss v h = all-agree (is_near w) (near_over ends) (near-agrees w ends v) ds ss h

pub decision-stated : (form : Form) (w : ℚ) (ends : Ends) (ds : List ℚ) (ss : List Span) (s : Statement)
    → IsWithin w ends → AllWithin ds ss → decision form ends ss ≡ Stated s → stated_at form w ds ≡ s
unfolding decision stated_at
decision-stated form w ends ds ss s v h e =
    decision_by-agrees form _ _ _ _ _ _ (all_guarded-agree w ends ds ss v h) (all_inside-agree ds ss h) (all_near-agree w ends ds ss v h) s e
