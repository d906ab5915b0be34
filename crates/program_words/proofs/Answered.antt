-- What is made of the words by what `clap` finds in them is what they ask for.
use Rattle.std.proofs.Common.{◌≡◌, ◌∙◌, ◌∷◌, [], refl, sym, ap, ap₂, Bool, true, false, cond, ℕ, List, Option, Some, None, codes, ◌&&◌}
use Rattle.std.specs.Option.{option_map, option_and_then}
use Rattle.std.specs.Str.{bytes_eq}
use Rattle.std.proofs.lemmas.Slice.Eq.{bytes_eq-Decides}
use Rattle.clap.specs.Words.{Text, subcommand_of, takes}
use Rattle.program_words.specs.declared.asked.Asked.{Asked}
use Rattle.program_words.specs.declared.asked.Asked.TheVariants.{Run, Make}
use Rattle.program_words.specs.Numbers.{number_of}
use Rattle.program_words.specs.Words.{Options, made_of, options_of, asked_of}
use Rattle.program_words.specs.Grammar.{gumtree, options_found, are_same, confirmed, confirmed_of}
use Rattle.program_words.proofs.Forms.{IsPlain, IsTaken, number_plain, options_taken, run_taken}

equal : (xs ys : Text) → bytes_eq xs ys ≡ true → xs ≡ ys
equal xs ys h = (bytes_eq-Decides xs ys).0 h

-- ---- options that ask for a script are numbers
rows_plain : (v : Options) (a : Asked) → made_of v ≡ Some a → IsPlain v.rows
rows_plain v a h = by (number_of 4 2 4096 v.rows) refl h
  where
    by : (o : Option ℕ) → number_of 4 2 4096 v.rows ≡ o
        → option_and_then (λ rows. option_map (λ start. Make rows start) (number_of 10 0 2147483647 v.start)) o ≡ Some a → IsPlain v.rows
    by None e k = cc
    by (Some n) e k = number_plain 4 2 4096 v.rows n e

start_plain : (v : Options) (a : Asked) → made_of v ≡ Some a → IsPlain v.start
start_plain v a h = by_rows (number_of 4 2 4096 v.rows) h
  where
    by_start : (n : ℕ) (o : Option ℕ) → number_of 10 0 2147483647 v.start ≡ o → option_map (λ start. Make n start) o ≡ Some a → IsPlain v.start
    by_start n None e k = cc
    by_start n (Some s) e k = number_plain 10 0 2147483647 v.start s e

    by_rows : (o : Option ℕ) → option_and_then (λ rows. option_map (λ start. Make rows start) (number_of 10 0 2147483647 v.start)) o ≡ Some a → IsPlain v.start
    by_rows None k = cc
    by_rows (Some n) k = by_start n (number_of 10 0 2147483647 v.start) refl k

make_taken : (p : Text) (words : List Text) (v : Options) (a : Asked) → options_of words ≡ Some v → made_of v ≡ Some a → IsTaken p words v.rows v.start
make_taken p words v a h k = options_taken p words v h (rows_plain v a k) (start_plain v a k)

-- ---- the options that were found
same_self : (v : Options) → are_same v v ≡ true
same_self v = rw ((bytes_eq-Decides v.rows v.rows).1 refl, (bytes_eq-Decides v.start v.start).1 refl) refl

not_confirmed : (found : Option Options) → confirmed found None ≡ None
not_confirmed None = refl
not_confirmed (Some f) = refl

none_made : (found : Option Options) (v : Options) → made_of v ≡ None → confirmed found (Some v) ≡ None
none_made None v h = refl
none_made (Some f) v h = by_rows (bytes_eq f.rows v.rows) refl
  where
    by_start : bytes_eq f.rows v.rows ≡ true → (b : Bool) → bytes_eq f.start v.start ≡ b → cond b (made_of f) None ≡ None
    by_start e false g = refl
    by_start e true g =
        let same : f ≡ v = ap₂ (λ n s. record { rows = n; start = s }) (equal f.rows v.rows e) (equal f.start v.start g) in
        ap made_of same ∙ h

    by_rows : (b : Bool) → bytes_eq f.rows v.rows ≡ b → cond (b && bytes_eq f.start v.start) (made_of f) None ≡ None
    by_rows false e = refl
    by_rows true e = by_start e (bytes_eq f.start v.start) refl

on_make : (p : Text) (words : List Text) → confirmed (options_found (subcommand_of gumtree (p ∷ codes "make" ∷ words))) (options_of words)
    ≡ option_and_then made_of (options_of words)
on_make p words = by (options_of words) refl
  where
    found : Option Options
    found = options_found (subcommand_of gumtree (p ∷ codes "make" ∷ words))

    by_made : (v : Options) → options_of words ≡ Some v → (o : Option Asked) → made_of v ≡ o
        → confirmed (options_found (subcommand_of gumtree (p ∷ codes "make" ∷ words))) (Some v) ≡ made_of v
    by_made v e None k = none_made (options_found (subcommand_of gumtree (p ∷ codes "make" ∷ words))) v k ∙ sym k
    by_made v e (Some a) k =
        ap (λ f. confirmed f (Some v)) (make_taken p words v a e k).found ∙ ap (λ b. cond b (made_of v) None) (same_self v)

    by : (o : Option Options) → options_of words ≡ o
        → confirmed (options_found (subcommand_of gumtree (p ∷ codes "make" ∷ words))) o ≡ option_and_then made_of o
    by None e = not_confirmed (options_found (subcommand_of gumtree (p ∷ codes "make" ∷ words)))
    by (Some v) e = by_made v e (made_of v) refl

pub answered : (words : List Text) → confirmed_of (options_found (subcommand_of gumtree words)) words ≡ asked_of words
answered [] = refl
answered (p ∷ []) = refl
answered (p ∷ word ∷ []) = refl
answered (p ∷ word ∷ option ∷ options) = by (bytes_eq word (codes "make")) refl
  where
    by : (b : Bool) → bytes_eq word (codes "make") ≡ b
        → cond b (confirmed (options_found (subcommand_of gumtree (p ∷ word ∷ option ∷ options))) (options_of (option ∷ options))) None
        ≡ cond b (option_and_then made_of (options_of (option ∷ options))) None
    by false e = refl
    by true e = ap (λ w. confirmed (options_found (subcommand_of gumtree (p ∷ w ∷ option ∷ options))) (options_of (option ∷ options)))
        (equal word (codes "make") e) ∙ on_make p (option ∷ options)

-- ---- words that `clap` does not take ask for nothing
asking_taken : (words : List Text) (a : Asked) → asked_of words ≡ Some a → takes gumtree words ≡ true
asking_taken [] a h = cc
asking_taken (p ∷ []) a h = cc
asking_taken (p ∷ word ∷ []) a h = by (bytes_eq word (codes "run")) refl h
  where
    by : (b : Bool) → bytes_eq word (codes "run") ≡ b → cond b (Some Run) None ≡ Some a → takes gumtree (p ∷ word ∷ []) ≡ true
    by false e k = cc
    by true e k = ap (λ w. takes gumtree (p ∷ w ∷ [])) (equal word (codes "run") e) ∙ run_taken p
asking_taken (p ∷ word ∷ option ∷ options) a h = by (bytes_eq word (codes "make")) refl h
  where
    on_options : (o : Option Options) → options_of (option ∷ options) ≡ o → option_and_then made_of o ≡ Some a
        → takes gumtree (p ∷ codes "make" ∷ option ∷ options) ≡ true
    on_options None e k = cc
    on_options (Some v) e k = (make_taken p (option ∷ options) v a e k).takes

    by : (b : Bool) → bytes_eq word (codes "make") ≡ b → cond b (option_and_then made_of (options_of (option ∷ options))) None ≡ Some a
        → takes gumtree (p ∷ word ∷ option ∷ options) ≡ true
    by false e k = cc
    by true e k = ap (λ w. takes gumtree (p ∷ w ∷ option ∷ options)) (equal word (codes "make") e)
        ∙ on_options (options_of (option ∷ options)) refl k

pub not_taken : (words : List Text) → (takes gumtree words ≡ true → ⊥) → asked_of words ≡ None
not_taken words h = by (asked_of words) refl
  where
    by : (o : Option Asked) → asked_of words ≡ o → asked_of words ≡ None
    by None e = e
    by (Some a) e = absurd (h (asking_taken words a e))
