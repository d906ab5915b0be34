-- The forms of words that are accepted, each of which `clap` takes, with the values that it finds.
use Rattle.std.proofs.Common.{◌≡◌, ◌∙◌, ◌⊎◌, inl, inr, ◌==◌, ◌&&◌, ◌++◌, refl, sym, ap, subst, arith, ℕ, Bool, true, false, cond, List, [], ◌∷◌, length, take, drop, Option, Some, None, codes}
use Rattle.std.specs.Prelude.{nat_lt, nat_le}
use Rattle.std.specs.Option.{option_map, option_and_then}
use Rattle.std.specs.Str.{bytes_eq}
use Rattle.std.specs.Str.Parse.{digits_value}
use Rattle.std.specs.Char.{is_ascii_digit}
use Rattle.std.specs.List.{list_all}
use Rattle.std.proofs.lemmas.Bool.Decides.{nat_tests}
use Rattle.std.proofs.lemmas.Slice.Eq.{bytes_eq-Decides}
use Rattle.std.proofs.lemmas.List.{take-append-drop}
use Rattle.clap.specs.Lexer.{long_of, short_of}
use Rattle.clap.specs.Words.{Text, subcommand_of, takes}
use Rattle.clap.proofs.OnLiterals.{clap_on_literals}
use Rattle.program_words.specs.Numbers.{within, number_of}
use Rattle.program_words.specs.Words.{Taken, next_word, same_word, value_after, option_taken, rows_taken, start_taken, Options, at_end, rows_then_start, start_then_rows, or_else, options_of}
use Rattle.program_words.specs.Grammar.{gumtree, options_found}

-- ---- words that begin with no minus sign
pub record IsPlain (text : List ℕ) : Type 0 where
  pub dashes : bytes_eq text (45 ∷ 45 ∷ []) ≡ false
  pub long : long_of text ≡ None
  pub short : short_of text ≡ None

no_minus : (byte : ℕ) → is_ascii_digit byte ≡ true → (byte == 45) ≡ false
no_minus byte h = grind (arith, nat_tests)

plain_of : (byte : ℕ) (bytes : List ℕ) → (byte == 45) ≡ false → IsPlain (byte ∷ bytes)
plain_of byte bytes e = record { dashes = rw e refl; long = rw e refl; short = rw e refl }

pub number_plain : (digits least most : ℕ) (text : List ℕ) (n : ℕ) → number_of digits least most text ≡ Some n → IsPlain text
number_plain digits least most [] n h = cc
number_plain digits least most (byte ∷ bytes) n h = plain_of byte bytes (by (is_ascii_digit byte) refl h)
  where
    by : (b : Bool) → is_ascii_digit byte ≡ b
        → cond ((b && list_all is_ascii_digit bytes) && (nat_lt 0 (length (byte ∷ bytes)) && nat_le (length (byte ∷ bytes)) digits))
        (within least most (digits_value 10 (byte ∷ bytes))) None ≡ Some n → (byte == 45) ≡ false
    by true e k = no_minus byte e
    by false e k = cc

-- ---- the eight forms
-- `clap` takes the words, and finds these values in them
pub record IsTaken (program : Text) (words : List Text) (rows start : Text) : Type 0 where
  pub takes : takes gumtree (program ∷ codes "make" ∷ words) ≡ true
  pub found : options_found (subcommand_of gumtree (program ∷ codes "make" ∷ words)) ≡ Some (record { rows = rows; start = start })

rows2_start2 : (p n s : Text) → IsPlain n → IsPlain s → IsTaken p (codes "--rows" ∷ n ∷ codes "--start" ∷ s ∷ []) n s
unfolding clap_on_literals
rows2_start2 p n s h k = record { takes = rw (h.dashes, h.long, h.short, k.dashes, k.long, k.short) refl; found = rw (h.dashes, h.long, h.short, k.dashes, k.long, k.short) refl }

rows2_start1 : (p n s : Text) → IsPlain n → IsTaken p (codes "--rows" ∷ n ∷ (codes "--start=" ++ s) ∷ []) n s
unfolding clap_on_literals
rows2_start1 p n s h = record { takes = rw (h.dashes, h.long, h.short) refl; found = rw (h.dashes, h.long, h.short) refl }

rows1_start2 : (p n s : Text) → IsPlain s → IsTaken p ((codes "--rows=" ++ n) ∷ codes "--start" ∷ s ∷ []) n s
unfolding clap_on_literals
rows1_start2 p n s k = record { takes = rw (k.dashes, k.long, k.short) refl; found = rw (k.dashes, k.long, k.short) refl }

rows1_start1 : (p n s : Text) → IsTaken p ((codes "--rows=" ++ n) ∷ (codes "--start=" ++ s) ∷ []) n s
unfolding clap_on_literals
rows1_start1 p n s = record { takes = refl; found = refl }

start2_rows2 : (p n s : Text) → IsPlain n → IsPlain s → IsTaken p (codes "--start" ∷ s ∷ codes "--rows" ∷ n ∷ []) n s
unfolding clap_on_literals
start2_rows2 p n s h k = record { takes = rw (k.dashes, k.long, k.short, h.dashes, h.long, h.short) refl; found = rw (k.dashes, k.long, k.short, h.dashes, h.long, h.short) refl }

start2_rows1 : (p n s : Text) → IsPlain s → IsTaken p (codes "--start" ∷ s ∷ (codes "--rows=" ++ n) ∷ []) n s
unfolding clap_on_literals
start2_rows1 p n s k = record { takes = rw (k.dashes, k.long, k.short) refl; found = rw (k.dashes, k.long, k.short) refl }

start1_rows2 : (p n s : Text) → IsPlain n → IsTaken p ((codes "--start=" ++ s) ∷ codes "--rows" ∷ n ∷ []) n s
unfolding clap_on_literals
start1_rows2 p n s h = record { takes = rw (h.dashes, h.long, h.short) refl; found = rw (h.dashes, h.long, h.short) refl }

start1_rows1 : (p n s : Text) → IsTaken p ((codes "--start=" ++ s) ∷ (codes "--rows=" ++ n) ∷ []) n s
unfolding clap_on_literals
start1_rows1 p n s = record { takes = refl; found = refl }

pub run_taken : (p : Text) → takes gumtree (p ∷ codes "run" ∷ []) ≡ true
unfolding clap_on_literals
run_taken p = refl

-- ---- an option that stands first is one of the two forms
some_same : {A : Type 0} {x y : A} → Some x ≡ Some y → x ≡ y
some_same h = cc

abbrev IsOption : Text → Text → List Text → Taken → Type 0
IsOption name head words t = (words ≡ name ∷ t.value ∷ t.rest) ⊎ (words ≡ (head ++ t.value) ∷ t.rest)

in_two_words : (name head word : Text) (words : List Text) (t : Taken) → word ≡ name → next_word words ≡ Some t → IsOption name head (word ∷ words) t
in_two_words name head word [] t e h = cc
in_two_words name head word (value ∷ rest) t e h =
    subst (λ u. IsOption name head (word ∷ value ∷ rest) u) (some_same h) (inl (ap (λ w. w ∷ value ∷ rest) e))

in_one_word : (name head word : Text) (words : List Text) (t : Taken) → option_map (same_word words) (value_after head word) ≡ Some t
    → IsOption name head (word ∷ words) t
in_one_word name head word words t h = by (bytes_eq (take (length head) word) head) refl h
  where
    by : (b : Bool) → bytes_eq (take (length head) word) head ≡ b
        → option_map (same_word words) (cond b (Some (drop (length head) word)) None) ≡ Some t → IsOption name head (word ∷ words) t
    by false e k = cc
    by true e k =
        let front : take (length head) word ≡ head = (bytes_eq-Decides (take (length head) word) head).0 e in
        let whole : word ≡ head ++ drop (length head) word =
        sym (take-append-drop (length head) word) ∙ ap (λ front. front ++ drop (length head) word) front in
        subst (λ u. IsOption name head (word ∷ words) u) (some_same k) (inr (ap (λ w. w ∷ words) whole))

is_option : (name head : Text) (words : List Text) (t : Taken) → option_taken name head words ≡ Some t → IsOption name head words t
is_option name head [] t h = cc
is_option name head (word ∷ words) t h = by (bytes_eq word name) refl h
  where
    by : (b : Bool) → bytes_eq word name ≡ b → cond b (next_word words) (option_map (same_word words) (value_after head word)) ≡ Some t
        → IsOption name head (word ∷ words) t
    by true e k = in_two_words name head word words t ((bytes_eq-Decides word name).0 e) k
    by false e k = in_one_word name head word words t k

-- ---- so the words are one of the eight
at_the_end : (o v : Options) (words : List Text) → at_end o words ≡ Some v → words ≡ []
at_the_end o v [] h = refl
at_the_end o v (word ∷ words) h = cc

the_options : (o v : Options) (words : List Text) → at_end o words ≡ Some v → o ≡ v
the_options o v [] h = some_same h
the_options o v (word ∷ words) h = cc

by_rows : (p : Text) (words : List Text) (a b : Taken) → IsPlain a.value → IsPlain b.value
    → IsOption (codes "--rows") (codes "--rows=") words a → IsOption (codes "--start") (codes "--start=") a.rest b → b.rest ≡ []
    → IsTaken p words a.value b.value
by_rows p words a b h k (inl e) (inl f) end =
    subst (λ ws. IsTaken p ws a.value b.value)
    (sym (e ∙ ap (λ ws. codes "--rows" ∷ a.value ∷ ws) (f ∙ ap (λ ws. codes "--start" ∷ b.value ∷ ws) end))) (rows2_start2 p a.value b.value h k)
by_rows p words a b h k (inl e) (inr f) end =
    subst (λ ws. IsTaken p ws a.value b.value)
    (sym (e ∙ ap (λ ws. codes "--rows" ∷ a.value ∷ ws) (f ∙ ap (λ ws. (codes "--start=" ++ b.value) ∷ ws) end))) (rows2_start1 p a.value b.value h)
by_rows p words a b h k (inr e) (inl f) end =
    subst (λ ws. IsTaken p ws a.value b.value)
    (sym (e ∙ ap (λ ws. (codes "--rows=" ++ a.value) ∷ ws) (f ∙ ap (λ ws. codes "--start" ∷ b.value ∷ ws) end))) (rows1_start2 p a.value b.value k)
by_rows p words a b h k (inr e) (inr f) end =
    subst (λ ws. IsTaken p ws a.value b.value)
    (sym (e ∙ ap (λ ws. (codes "--rows=" ++ a.value) ∷ ws) (f ∙ ap (λ ws. (codes "--start=" ++ b.value) ∷ ws) end))) (rows1_start1 p a.value b.value)

by_start : (p : Text) (words : List Text) (a b : Taken) → IsPlain a.value → IsPlain b.value
    → IsOption (codes "--start") (codes "--start=") words b → IsOption (codes "--rows") (codes "--rows=") b.rest a → a.rest ≡ []
    → IsTaken p words a.value b.value
by_start p words a b h k (inl f) (inl e) end =
    subst (λ ws. IsTaken p ws a.value b.value)
    (sym (f ∙ ap (λ ws. codes "--start" ∷ b.value ∷ ws) (e ∙ ap (λ ws. codes "--rows" ∷ a.value ∷ ws) end))) (start2_rows2 p a.value b.value h k)
by_start p words a b h k (inl f) (inr e) end =
    subst (λ ws. IsTaken p ws a.value b.value)
    (sym (f ∙ ap (λ ws. codes "--start" ∷ b.value ∷ ws) (e ∙ ap (λ ws. (codes "--rows=" ++ a.value) ∷ ws) end))) (start2_rows1 p a.value b.value k)
by_start p words a b h k (inr f) (inl e) end =
    subst (λ ws. IsTaken p ws a.value b.value)
    (sym (f ∙ ap (λ ws. (codes "--start=" ++ b.value) ∷ ws) (e ∙ ap (λ ws. codes "--rows" ∷ a.value ∷ ws) end))) (start1_rows2 p a.value b.value h)
by_start p words a b h k (inr f) (inr e) end =
    subst (λ ws. IsTaken p ws a.value b.value)
    (sym (f ∙ ap (λ ws. (codes "--start=" ++ b.value) ∷ ws) (e ∙ ap (λ ws. (codes "--rows=" ++ a.value) ∷ ws) end))) (start1_rows1 p a.value b.value)

abbrev pub Taking : Text → List Text → Options → Type 0
Taking p words v = IsPlain v.rows → IsPlain v.start → IsTaken p words v.rows v.start

rows_first : (p : Text) (words : List Text) (v : Options) → rows_then_start words ≡ Some v → Taking p words v
rows_first p words v h = on_rows (rows_taken words) refl h
  where
    on_start : (a : Taken) → rows_taken words ≡ Some a → (o : Option Taken) → start_taken a.rest ≡ o
        → option_and_then (λ b. at_end (record { rows = a.value; start = b.value }) b.rest) o ≡ Some v → Taking p words v
    on_start a e None f k = cc
    on_start a e (Some b) f k =
        subst (λ u. Taking p words u) (the_options _ v b.rest k)
        (λ i j. by_rows p words a b i j (is_option (codes "--rows") (codes "--rows=") words a e)
        (is_option (codes "--start") (codes "--start=") a.rest b f) (at_the_end _ v b.rest k))

    on_rows : (o : Option Taken) → rows_taken words ≡ o
        → option_and_then (λ a. option_and_then (λ b. at_end (record { rows = a.value; start = b.value }) b.rest) (start_taken a.rest)) o ≡ Some v
        → Taking p words v
    on_rows None e k = cc
    on_rows (Some a) e k = on_start a e (start_taken a.rest) refl k

start_first : (p : Text) (words : List Text) (v : Options) → start_then_rows words ≡ Some v → Taking p words v
start_first p words v h = on_start (start_taken words) refl h
  where
    on_rows : (b : Taken) → start_taken words ≡ Some b → (o : Option Taken) → rows_taken b.rest ≡ o
        → option_and_then (λ a. at_end (record { rows = a.value; start = b.value }) a.rest) o ≡ Some v → Taking p words v
    on_rows b e None f k = cc
    on_rows b e (Some a) f k =
        subst (λ u. Taking p words u) (the_options _ v a.rest k)
        (λ i j. by_start p words a b i j (is_option (codes "--start") (codes "--start=") words b e)
        (is_option (codes "--rows") (codes "--rows=") b.rest a f) (at_the_end _ v a.rest k))

    on_start : (o : Option Taken) → start_taken words ≡ o
        → option_and_then (λ b. option_and_then (λ a. at_end (record { rows = a.value; start = b.value }) a.rest) (rows_taken b.rest)) o ≡ Some v
        → Taking p words v
    on_start None e k = cc
    on_start (Some b) e k = on_rows b e (rows_taken b.rest) refl k

pub options_taken : (p : Text) (words : List Text) (v : Options) → options_of words ≡ Some v → Taking p words v
options_taken p words v h = by (rows_then_start words) refl h
  where
    by : (o : Option Options) → rows_then_start words ≡ o → or_else o (start_then_rows words) ≡ Some v → Taking p words v
    by (Some u) e k = rows_first p words v (e ∙ k)
    by None e k = start_first p words v k
