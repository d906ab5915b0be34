-- What stands before the first byte of a kind, and before the last blanks.
use Rattle.std.proofs.Common.{◌≡◌, ℕ, zero, suc, ◌<◌, ◌==◌, ◌&&◌, Bool, true, false, not, cond, List, [], ◌∷◌, length, take, get_or, Option, None, Some, refl, sym, ap, arith, le_refl}
use Rattle.std.specs.List.{prefix_len}
use Rattle.std.specs.Option.{unwrap_or}
use Rattle.std.proofs.lemmas.Bool.Decides.{nat_tests}
use Rattle.std.proofs.lemmas.List.Sums.{prefix_len_is}
use Rattle.memchr.specs.Find.{IsFirstByte, is_byte}
use Rattle.line_text.specs.Blanks.{is_blank, written_len}

-- ---- the first byte of a kind
other : (is : Bool) → ¬ (is ≡ true) → not is ≡ true
other true differs = absurd (differs refl)
other false _ = refl

this : (is : Bool) → is ≡ true → not is ≡ false
this is e = ap not e

-- as many bytes stand before the one that was found as are no such byte
pub before_first : (byte : ℕ) (text : List ℕ) (found : Option ℕ) → IsFirstByte (is_byte byte) text found →
    unwrap_or found (length text) ≡ prefix_len (λ b. not (b == byte)) text
before_first byte text None none =
    sym (prefix_len_is (λ b. not (b == byte)) text (length text) 0 (le_refl (length text))
    (λ k within. other (get_or text k 0 == byte) (none k (omega arith) within)) (λ more. absurd (omega arith)))
before_first byte text (Some at) first =
    sym (prefix_len_is (λ b. not (b == byte)) text at 0 (omega (arith, first.0.high))
    (λ k within. other (get_or text k 0 == byte) (first.0.before k (omega arith) within))
    (λ _. this (get_or text at 0 == byte) first.1))

-- ---- the last byte that is no blank
blank_step : (byte : ℕ) (more less : ℕ) → more ≡ less → cond (is_blank byte && more == 0) 0 (suc more) ≡ cond (is_blank byte && less == 0) 0 (suc less)
blank_step byte more less e = rw e refl

end_step : (blank : Bool) (more : ℕ) → cond (blank && suc more == 0) 0 (suc (suc more)) ≡ suc (suc more)
end_step true more =
    let some : (suc more == 0) ≡ false = grind (arith, nat_tests) in
    rw some refl
end_step false more = refl

abbrev sole : Bool → ℕ
sole blank = cond (blank && 0 == 0) 0 1

last_blank : (blank : Bool) → blank ≡ true → sole blank ≡ 0
last_blank blank e = ap sole e

last_other : (blank : Bool) → blank ≡ false → sole blank ≡ 1
last_other blank e = ap sole e

-- a blank at the end changes nothing
pub without_blank : (text : List ℕ) (n : ℕ) → n < length text → is_blank (get_or text n 0) ≡ true →
    written_len (take (suc n) text) ≡ written_len (take n text)
without_blank [] n within blank = absurd (omega arith)
without_blank (byte ∷ bytes) zero within blank = last_blank (is_blank byte) blank
without_blank (byte ∷ bytes) (suc n) within blank =
    blank_step byte (written_len (take (suc n) bytes)) (written_len (take n bytes)) (without_blank bytes n (omega arith) blank)

-- another byte at the end is the last
pub with_other : (text : List ℕ) (n : ℕ) → n < length text → is_blank (get_or text n 0) ≡ false →
    written_len (take (suc n) text) ≡ suc n
with_other [] n within other = absurd (omega arith)
with_other (byte ∷ bytes) zero within other = last_other (is_blank byte) other
with_other (byte ∷ bytes) (suc n) within other =
    let rest = with_other bytes n (omega arith) other in
    rw rest (end_step (is_blank byte) n)
