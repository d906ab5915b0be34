-- The numbers of a script that words ask for are in their ranges.
use Rattle.std.proofs.Common.{◌≡◌, ◌∷◌, [], ◌≤◌, ◌&&◌, refl, arith, Bool, true, false, cond, ℕ, List, Option, Some, None, IfSome, codes}
use Rattle.std.specs.Prelude.{nat_lt, nat_le, length}
use Rattle.std.specs.Option.{option_map, option_and_then}
use Rattle.std.specs.Str.{bytes_eq}
use Rattle.std.specs.Str.Parse.{digits_value}
use Rattle.std.proofs.lemmas.Bool.Decides.{nat_tests}
use Rattle.program_words.specs.declared.asked.Asked.TheVariants.{Run, Make}
use Rattle.program_words.specs.Numbers.{are_digits, within, number_of}
use Rattle.program_words.specs.Words.{Options, made_of, options_of, asked_of, IsInRange}

within_ends : (least most m n : ℕ) → within least most m ≡ Some n → (least ≤ n) × (n ≤ most)
within_ends least most m n h = by (nat_le least m) refl (nat_le m most) refl h
  where
    some_same : {x y : ℕ} → Some x ≡ Some y → x ≡ y
    some_same k = cc

    by : (a : Bool) → nat_le least m ≡ a → (b : Bool) → nat_le m most ≡ b → cond (a && b) (Some m) None ≡ Some n → (least ≤ n) × (n ≤ most)
    by false e b f k = cc
    by true e false f k = cc
    by true e true f k = let same : m ≡ n = some_same k in (grind (arith, nat_tests), grind (arith, nat_tests))

number_ends : (digits least most : ℕ) (text : List ℕ) (n : ℕ) → number_of digits least most text ≡ Some n → (least ≤ n) × (n ≤ most)
number_ends digits least most text n h =
    by (are_digits text && (nat_lt 0 (length text) && nat_le (length text) digits)) h
  where
    by : (b : Bool) → cond b (within least most (digits_value 10 text)) None ≡ Some n → (least ≤ n) × (n ≤ most)
    by true k = within_ends least most (digits_value 10 text) n k
    by false k = cc

made_in_range : (v : Options) → IfSome (made_of v) IsInRange
made_in_range v = by_rows (number_of 4 2 4096 v.rows) refl
  where
    by_start : (n : ℕ) → number_of 4 2 4096 v.rows ≡ Some n → (o : Option ℕ) → number_of 10 0 2147483647 v.start ≡ o
        → IfSome (option_map (λ start. Make n start) o) IsInRange
    by_start n e None f = tt
    by_start n e (Some s) f =
        let rows = number_ends 4 2 4096 v.rows n e in
        let start = number_ends 10 0 2147483647 v.start s f in
        (rows.0, rows.1, omega (arith, start.1))

    by_rows : (o : Option ℕ) → number_of 4 2 4096 v.rows ≡ o
        → IfSome (option_and_then (λ rows. option_map (λ start. Make rows start) (number_of 10 0 2147483647 v.start)) o) IsInRange
    by_rows None e = tt
    by_rows (Some n) e = by_start n e (number_of 10 0 2147483647 v.start) refl

pub asked_in_range : (words : List (List ℕ)) → IfSome (asked_of words) IsInRange
asked_in_range [] = tt
asked_in_range (p ∷ []) = tt
asked_in_range (p ∷ word ∷ []) = by (bytes_eq word (codes "run"))
  where
    by : (b : Bool) → IfSome (cond b (Some Run) None) IsInRange
    by true = tt
    by false = tt
asked_in_range (p ∷ word ∷ option ∷ options) = by (bytes_eq word (codes "make")) (options_of (option ∷ options))
  where
    by : (b : Bool) (o : Option Options) → IfSome (cond b (option_and_then made_of o) None) IsInRange
    by false o = tt
    by true None = tt
    by true (Some v) = made_in_range v
