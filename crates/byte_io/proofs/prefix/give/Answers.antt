use Rattle.std.proofs.Common.{◌≡◌, ℕ, ◌+◌, ◌-◌, List, ◌∙◌, ap, sym, take, drop, ◌++◌, length, take-append-drop}
use Rattle.std.proofs.Math.Seq.{take-add}
use Rattle.std.proofs.lemmas.List.{take_rest, drop-drop}
use Rattle.byte_io.proofs.prefix.give.Goals as goal

-- `to` begins with the n bytes that stand in `bytes` from place `at` on
abbrev IsCopied : List ℕ → List ℕ → ℕ → ℕ → Type 0
IsCopied bytes to at n = take n to ≡ take n (take (length bytes - at) (drop at bytes))

prefix : (bytes to : List ℕ) (at n : ℕ) → IsCopied bytes to at n → take n (drop at bytes) ≡ take n to
prefix bytes to at n copied = sym (copied ∙ ap (take n) (take_rest bytes at))

taken : (bytes to : List ℕ) (at n : ℕ) → IsCopied bytes to at n → take (at + n) bytes ≡ take at bytes ++ take n to
taken bytes to at n copied = take-add at n bytes ∙ ap (λ l. take at bytes ++ l) (prefix bytes to at n copied)

left : (bytes to : List ℕ) (at n : ℕ) → IsCopied bytes to at n → drop at bytes ≡ take n to ++ drop (at + n) bytes
left bytes to at n copied =
    rw (← prefix bytes to at n copied, ← drop-drop n at bytes) (sym (take-append-drop n (drop at bytes)))

pub returns-clause-taken : goal.returns-clause-taken
returns-clause-taken c = taken c.args.bytes.now c.copy_prefix.new.to c.args.at c.copy_prefix.result c.copy_prefix.ensures.prefix

pub returns-clause-left : goal.returns-clause-left
returns-clause-left c = left c.args.bytes.now c.copy_prefix.new.to c.args.at c.copy_prefix.result c.copy_prefix.ensures.prefix
