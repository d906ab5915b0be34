-- Names and their numbers, which are their places in a list.
use Rattle.std.specs.Prelude.{◌≡◌, ℕ, suc, ◌+◌, ◌<◌, Bool, true, false, not, ◌||◌, nat_eq, nat_lt, cond, List, [], ◌∷◌, ◌++◌, length, slice_get, position, Some, None, bytes_eq, refl}
use Rattle.std.specs.List.{list_any}
use Rattle.std.proofs.Common.{sym, ◌∙◌, ap, arith}
use Rattle.std.proofs.lemmas.Bool.{true≢false}
use Rattle.std.proofs.lemmas.Bool.Decides.{nat_tests}
use Rattle.std.proofs.lemmas.Option.{same_Some, none-some}
use Rattle.std.proofs.lemmas.Slice.Eq.{bytes_eq-Decides}
use Rattle.sheet_model.specs.Numbering.{number_in}

abbrev pub is_in : List (List ℕ) → List ℕ → Bool
is_in ns n = list_any (bytes_eq n) ns

-- ---- a name that is there
pub number_there : (ns : List (List ℕ)) (n : List ℕ) → is_in ns n ≡ true → slice_get ns (number_in ns n) ≡ Some n
number_there [] n e = absurd (true≢false (sym e))
number_there (m ∷ ns) n e = by (bytes_eq n m) refl e (number_there ns n) where
  by : (b : Bool) → bytes_eq n m ≡ b → (b || is_in ns n) ≡ true → (is_in ns n ≡ true → slice_get ns (number_in ns n) ≡ Some n)
      → slice_get (m ∷ ns) (cond (not b) (1 + number_in ns n) 0) ≡ Some n
  by true f h rest = ap Some (sym ((bytes_eq-Decides n m).0 f))
  by false f h rest = let e : 1 + number_in ns n ≡ suc (number_in ns n) = omega arith in rw e (rest h)

pub number_within : (ns : List (List ℕ)) (n : List ℕ) → is_in ns n ≡ true → number_in ns n < length ns
number_within [] n e = absurd (true≢false (sym e))
number_within (m ∷ ns) n e = by (bytes_eq n m) e (number_within ns n) where
  by : (b : Bool) → (b || is_in ns n) ≡ true → (is_in ns n ≡ true → number_in ns n < length ns)
      → cond (not b) (1 + number_in ns n) 0 < suc (length ns)
  by true h rest = omega arith
  by false h rest = let k = rest h in omega arith

-- it keeps its number where more names are put last
pub number_kept : (ns more : List (List ℕ)) (n : List ℕ) → is_in ns n ≡ true → number_in (ns ++ more) n ≡ number_in ns n
number_kept [] more n e = absurd (true≢false (sym e))
number_kept (m ∷ ns) more n e = by (bytes_eq n m) e (number_kept ns more n) where
  by : (b : Bool) → (b || is_in ns n) ≡ true → (is_in ns n ≡ true → number_in (ns ++ more) n ≡ number_in ns n)
      → cond (not b) (1 + number_in (ns ++ more) n) 0 ≡ cond (not b) (1 + number_in ns n) 0
  by true h rest = refl
  by false h rest = ap (λ k. 1 + k) (rest h)

-- ---- a name that is not there, and is put last
pub number_new : (ns more : List (List ℕ)) (n : List ℕ) → is_in ns n ≡ false → number_in (ns ++ n ∷ more) n ≡ length ns
number_new [] more n e = ap (λ b. cond (not b) (1 + number_in more n) 0) ((bytes_eq-Decides n n).1 refl)
number_new (m ∷ ns) more n e = by (bytes_eq n m) e (number_new ns more n) where
  by : (b : Bool) → (b || is_in ns n) ≡ false → (is_in ns n ≡ false → number_in (ns ++ n ∷ more) n ≡ length ns)
      → cond (not b) (1 + number_in (ns ++ n ∷ more) n) 0 ≡ suc (length ns)
  by true h rest = absurd (true≢false h)
  by false h rest = let k = rest h in omega arith

-- a name that is not there has the number after the last
pub number_missing : (ns : List (List ℕ)) (n : List ℕ) → is_in ns n ≡ false → number_in ns n ≡ length ns
number_missing [] n e = refl
number_missing (m ∷ ns) n e = by (bytes_eq n m) e (number_missing ns n) where
  by : (b : Bool) → (b || is_in ns n) ≡ false → (is_in ns n ≡ false → number_in ns n ≡ length ns)
      → cond (not b) (1 + number_in ns n) 0 ≡ suc (length ns)
  by true h rest = absurd (true≢false h)
  by false h rest = let k = rest h in omega arith

-- ---- two names that are there have one number exactly where they are one name
pub numbers_apart : (ns : List (List ℕ)) (a b : List ℕ) → is_in ns a ≡ true → is_in ns b ≡ true
    → nat_eq (number_in ns a) (number_in ns b) ≡ bytes_eq a b
numbers_apart ns a b h k = by (bytes_eq a b) refl (nat_eq (number_in ns a) (number_in ns b)) refl where
  by : (s : Bool) → bytes_eq a b ≡ s → (t : Bool) → nat_eq (number_in ns a) (number_in ns b) ≡ t → t ≡ s
  by true e true f = refl
  by false e false f = refl
  by true e false f =
      let same : number_in ns a ≡ number_in ns b = ap (number_in ns) ((bytes_eq-Decides a b).0 e) in
      absurd (grind (arith, nat_tests))
  by false e true f =
      let same : number_in ns a ≡ number_in ns b = grind (arith, nat_tests) in
      let one : a ≡ b = same_Some a b (sym (number_there ns a h) ∙ ap (slice_get ns) same ∙ number_there ns b k) in
      absurd (true≢false (sym ((bytes_eq-Decides a b).1 one) ∙ e))

-- ---- what a look-up finds
pub looked_up : (ns : List (List ℕ)) (n : List ℕ) (i : ℕ) → position (bytes_eq n) ns ≡ Some i → i ≡ number_in ns n
looked_up ns n i e = by (nat_lt (number_in ns n) (length ns)) e where
  by : (b : Bool) → cond b (Some (number_in ns n)) None ≡ Some i → i ≡ number_in ns n
  by true f = sym (same_Some (number_in ns n) i f)
  by false f = absurd (none-some i f)
