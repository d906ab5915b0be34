-- What several reads took.
use Rattle.std.proofs.Common.{◌≡◌, ℕ, ◌+◌, ◌≤◌, List, [], ◌++◌, length, take, Option, Some, None, IfSome, refl, ap, ◌∙◌, arith, length-append}
use Rattle.std.proofs.lemmas.List.{length-take-le}
use Rattle.std.proofs.KnownBytes.{Appends-nil, Appends-trans, Appends-kept, Consumes-nil, Consumes-trans, Consumes-kept, Consumes-whole}
use Rattle.std.specs.Io.KnownBytes.{Appends, Consumes, Keeps, IsAtEnd}
use Rattle.byte_io.specs.Source.{Took}

-- before the first read
pub Took-nothing : (count : ℕ) (taken left : Option (List ℕ)) → Took count count taken taken left left []
Took-nothing count taken left = record { counted = omega arith; appended = Appends-nil taken; consumed = Consumes-nil left }

-- reads, and then more reads
pub Took-trans : {a b c : ℕ} {taken taken' taken'' left left' left'' : Option (List ℕ)} {first second : List ℕ}
    → Took a b taken taken' left left' first → Took b c taken' taken'' left' left'' second → Took a c taken taken'' left left'' (first ++ second)
Took-trans {first} {second} p q = record {
  counted = omega (arith, p.counted, q.counted, length-append first second);
  appended = Appends-trans _ _ _ first second p.appended q.appended;
  consumed = Consumes-trans _ _ _ first second p.consumed q.consumed;
}

-- one read that gave n bytes
pub Took-read : (a b n : ℕ) (taken taken' left left' : Option (List ℕ)) (piece : List ℕ)
    → n ≤ length piece → b ≡ a + n → Appends taken taken' (take n piece) → Consumes left left' (take n piece) → Took a b taken taken' left left' (take n piece)
Took-read a b n taken taken' left left' piece within counted appended consumed = record {
  counted = omega (arith, counted, length-take-le n piece within);
  appended = appended;
  consumed = consumed;
}

-- reads, and then one that gave n bytes
pub Took-more : (a b c n : ℕ) (taken taken' taken'' left left' left'' : Option (List ℕ)) (bytes piece : List ℕ)
    → Took a b taken taken' left left' bytes → n ≤ length piece → c ≡ b + n → Appends taken' taken'' (take n piece) → Consumes left' left'' (take n piece)
    → Took a c taken taken'' left left'' (bytes ++ take n piece)
Took-more a b c n taken taken' taken'' left left' left'' bytes piece took within counted appended consumed =
    Took-trans took (Took-read b c n taken' taken'' left' left'' piece within counted appended consumed)

-- reads, and then one that failed
pub Took-failed : (a b c : ℕ) (taken taken' taken'' left left' left'' : Option (List ℕ)) (bytes : List ℕ)
    → Took a b taken taken' left left' bytes → c ≡ b → Keeps taken' taken'' → Keeps left' left'' → Took a c taken taken'' left left'' bytes
Took-failed a b c taken taken' taken'' left left' left'' bytes took same kept kept' = record {
  counted = same ∙ took.counted;
  appended = Appends-kept _ _ _ bytes took.appended kept;
  consumed = Consumes-kept _ _ _ bytes took.consumed kept';
}

-- a source that has none left gave all that it told
pub Took-all : {a b : ℕ} {taken taken' left left' : Option (List ℕ)} {bytes : List ℕ}
    → Took a b taken taken' left left' bytes → IsAtEnd left' → IfSome left (λ all. bytes ≡ all)
Took-all {left} {left'} {bytes} took end = Consumes-whole left left' bytes (λ all. bytes ≡ all) took.consumed end refl

-- a source took no more than it told to be left
pub Took-length : {a b : ℕ} {taken taken' left left' : Option (List ℕ)} {bytes : List ℕ}
    → Took a b taken taken' left left' bytes → IfSome left (λ all. length bytes ≤ length all)
Took-length {left} {left'} {bytes} took = shorter left left' bytes took.consumed
  where
    shorter : (left left' : Option (List ℕ)) (bytes : List ℕ) → Consumes left left' bytes → IfSome left (λ all. length bytes ≤ length all)
    shorter None left' bytes consumed = tt
    shorter (Some all) None bytes consumed = absurd consumed
    shorter (Some all) (Some rest) bytes consumed = omega (arith, ap length consumed, length-append bytes rest)

-- a read gives no byte where none is left
pub none_given : (left' : Option (List ℕ)) (piece : List ℕ) (n : ℕ) → n ≤ length piece → Consumes (Some []) left' (take n piece) → n ≡ 0
none_given None piece n within consumed = absurd consumed
none_given (Some rest) piece n within consumed =
    omega (arith, ap length consumed, length-append (take n piece) rest, length-take-le n piece within)

pub ruleset source_steps = (Took-nothing, Took-trans, Took-read, Took-more, Took-failed, Took-all, Took-length, none_given)
