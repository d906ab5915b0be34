-- The record that a refusal of readings names is one of the table's.
use Rattle.std.proofs.Common.{◌≡◌, ℕ, suc, ◌+◌, ◌<◌, ◌≤◌, Bool, true, false, cond, nat_lt, List, [], ◌∷◌, length, Option, None, Some, Err, refl, arith}
use Rattle.std.specs.Prelude.{IfSome}
use Rattle.std.specs.List.{position_from}
use Rattle.type_a.specs.Tables.{Table, width_of, finest, is_misshapen, has_wide, first_of, refusal, unless, readings_of}
use Rattle.type_a.specs.declared.readings.ReadingsFault.{ReadingsFault}
use Rattle.type_a.specs.declared.readings.ReadingsFault.TheVariants.{TooFew, TooMany, Shape, Wide, OutOfMemory}

position_within : {A : Type 0} (p : A → Bool) (i : ℕ) (xs : List A) (k : ℕ) → position_from p i xs ≡ Some k → k < i + length xs
position_within p i [] k h = absurd (cc h)
position_within p i (x ∷ xs) k h = by (p x) h (λ e. position_within p (i + 1) xs k e) where
  by : (b : Bool) → cond b (Some i) (position_from p (i + 1) xs) ≡ Some k → (position_from p (i + 1) xs ≡ Some k → k < i + 1 + length xs)
      → k < i + suc (length xs)
  by true e later = let same : i ≡ k = cc e in omega (arith, same)
  by false e later = omega (arith, later e)

-- the place of the fault is at most this
abbrev PlaceWithin : ℕ → ReadingsFault → Type 0
PlaceWithin n (Shape k) = k ≤ n
PlaceWithin n (Wide k) = k ≤ n
PlaceWithin n TooFew = Unit {0}
PlaceWithin n TooMany = Unit {0}
PlaceWithin n OutOfMemory = Unit {0}

abbrev IfPlaced : ℕ → Option ReadingsFault → Type 0
IfPlaced n o = IfSome o (PlaceWithin n)

first_within : (n : ℕ) (fault : ℕ → ReadingsFault) (o : Option ℕ) (later : Option ReadingsFault) → ((k : ℕ) → o ≡ Some k → PlaceWithin n (fault k)) →
    IfPlaced n later → IfPlaced n (first_of fault o later)
first_within n fault None later h k = k
first_within n fault (Some place) later h k = h place refl

cond_within : (n : ℕ) (t : Bool) (fault : ReadingsFault) (later : Option ReadingsFault) → PlaceWithin n fault → IfPlaced n later →
    IfPlaced n (cond t (Some fault) later)
cond_within n true fault later h k = h
cond_within n false fault later h k = k

refusal_within : (t : Table) → IfPlaced (length t) (refusal t)
unfolding refusal
refusal_within t =
    let n : ℕ = length t in
    first_within n Shape (position_from (is_misshapen (width_of t)) 1 t) _ (λ k e. omega (arith, position_within _ 1 t k e))
    (cond_within n (nat_lt n 2) TooFew _ tt
    (cond_within n (nat_lt 1000 n) TooMany _ tt
    (first_within n Wide (position_from (has_wide (finest t)) 1 t) None (λ k e. omega (arith, position_within _ 1 t k e)) tt)))

of_refused : (n : ℕ) (o : Option ReadingsFault) (t : Table) (fault : ReadingsFault) → IfPlaced n o → unless o t ≡ Err fault → PlaceWithin n fault
of_refused n None t fault h e = absurd (cc e)
of_refused n (Some other) t fault h e = let same : other ≡ fault = cc e in rw same at h

pub shape_within : (t : Table) (fault : ReadingsFault) (k : ℕ) → fault ≡ Shape k → readings_of t ≡ Err fault → k ≤ length t
shape_within t fault k same e = rw same at (of_refused (length t) (refusal t) t fault (refusal_within t) e)

pub wide_within : (t : Table) (fault : ReadingsFault) (k : ℕ) → fault ≡ Wide k → readings_of t ≡ Err fault → k ≤ length t
wide_within t fault k same e = rw same at (of_refused (length t) (refusal t) t fault (refusal_within t) e)
