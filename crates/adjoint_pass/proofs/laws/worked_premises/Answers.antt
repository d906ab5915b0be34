use Rattle.std.specs.Prelude.{◌≡◌, ◌⊎◌, ℕ, Bool, true, false, List, nat_eq, bytes_eq, codes, if◌then◌else◌, is_some, Some, None, pos, refl}
use Rattle.std.proofs.Common.{sym, ◌∙◌, ap₂, inl, inr}
use Rattle.std.proofs.lemmas.Bool.{true≢false}
use Rattle.decimal18.specs.Bound.{scaled}
use Rattle.value_cache.specs.Quantities.{Input, is_there}
use Rattle.value_cache.proofs.Names.{same_names}
use Rattle.adjoint_pass.specs.Worked.{first_byte, pair, squared}
use Rattle.adjoint_pass.proofs.laws.worked_premises.Goals as goal

pub returns-clause-in_order : goal.returns-clause-in_order
returns-clause-in_order c = (refl, refl, (refl, refl, (refl, refl, (refl, refl, tt))))

pub returns-clause-exponents : goal.returns-clause-exponents
returns-clause-exponents c = (tt, ((tt, tt), ((tt, tt), ((tt, tt), tt))))

pub returns-clause-apart : goal.returns-clause-apart
returns-clause-apart c = (tt, (λ m n. refl, (λ m n. refl, (λ m n. refl, tt))))

-- the names of the pair
one_of : (a : List ℕ) → is_there bytes_eq pair a ≡ true → (codes "X" ≡ a) ⊎ (codes "A" ≡ a)
one_of a h = by (bytes_eq (codes "X") a) (bytes_eq (codes "A") a) refl refl h where
  by : (s t : Bool) → bytes_eq (codes "X") a ≡ s → bytes_eq (codes "A") a ≡ t
      → is_some (if s then Some (Input (scaled (pos 3) 0)) else (if t then Some squared.body else None)) ≡ true
      → (codes "X" ≡ a) ⊎ (codes "A" ≡ a)
  by true t e f g = inl (same_names.sound (codes "X") a e)
  by false true e f g = inr (same_names.sound (codes "A") a f)
  by false false e f g = absurd (true≢false (sym g))

same_apart : (a b : List ℕ) → (codes "X" ≡ a) ⊎ (codes "A" ≡ a) → (codes "X" ≡ b) ⊎ (codes "A" ≡ b)
    → nat_eq (first_byte a) (first_byte b) ≡ bytes_eq a b
same_apart a b (inl e) (inl f) = ap₂ (λ m n. nat_eq (first_byte m) (first_byte n)) (sym e) (sym f) ∙ ap₂ bytes_eq e f
same_apart a b (inl e) (inr f) = ap₂ (λ m n. nat_eq (first_byte m) (first_byte n)) (sym e) (sym f) ∙ ap₂ bytes_eq e f
same_apart a b (inr e) (inl f) = ap₂ (λ m n. nat_eq (first_byte m) (first_byte n)) (sym e) (sym f) ∙ ap₂ bytes_eq e f
same_apart a b (inr e) (inr f) = ap₂ (λ m n. nat_eq (first_byte m) (first_byte n)) (sym e) (sym f) ∙ ap₂ bytes_eq e f

pub returns-clause-renamed : goal.returns-clause-renamed
returns-clause-renamed c = record {
  in_order = (refl, refl, (refl, refl, tt));
  each = (record { key = refl; body = refl }, (record { key = refl; body = (first_byte, refl, refl) }, tt));
  apart = record { apart = λ a b pa pb. same_apart a b (one_of a pa) (one_of b pb) };
}
