-- Texts with a comma between each two, from the first one on.
use Rattle.std.proofs.Common.{append_assoc, ◌≡◌, ◌<◌, ◌≤◌, ◌+◌, ℕ, List, [], ◌∷◌, ◌++◌, length, drop, get_or, sym, ap, ◌∙◌, arith}
use Rattle.std.specs.Prelude.{codes, pos}
use mathlib.Core.List.{append-nil}
use Rattle.std.specs.List.{join_with_byte}
use Rattle.std.proofs.lemmas.List.{drop_more, drop_all}
use Rattle.csv.specs.Writing.{comma}
use Rattle.decimal18.specs.Bound.{Bound, scaled}
use Rattle.decimal18.specs.Text.{text_of}
use Rattle.type_a.specs.Tables.{Record}
use Rattle.row_text.specs.Printing.{number_fields}

-- the texts, each after a comma
abbrev pub after_commas : List (List ℕ) → List ℕ
after_commas [] = []
after_commas (t ∷ ts) = comma ∷ (t ++ after_commas ts)

pub joined_first : (t : List ℕ) (ts : List (List ℕ)) → join_with_byte comma (t ∷ ts) ≡ t ++ after_commas ts
joined_first t [] = sym (append-nil t)
joined_first t (u ∷ us) = ap (λ rest. t ++ comma ∷ rest) (joined_first u us)

joined_at_end : (old t : List ℕ) (ts : List (List ℕ)) → (old ++ t) ++ after_commas ts ≡ old ++ join_with_byte comma (t ∷ ts)
joined_at_end old t ts = rw (joined_first t ts) (append_assoc old t (after_commas ts))

-- all texts, put at the end of a text one by one
pub texts_put : (old first out t : List ℕ) (ts all : List (List ℕ)) (i : ℕ) → all ≡ t ∷ ts → first ≡ old ++ t → length ts ≤ i
    → out ++ after_commas (drop i ts) ≡ first ++ after_commas ts → out ≡ old ++ join_with_byte comma all
texts_put old first out t ts all i e put past h =
    sym (append-nil out) ∙ ap (λ us. out ++ after_commas us) (sym (drop_all i ts past)) ∙ h
    ∙ ap (λ u. u ++ after_commas ts) put ∙ joined_at_end old t ts ∙ ap (λ us. old ++ join_with_byte comma us) (sym e)

-- a number of a record, put at the end of a text after those before it
pub number_put : (out new : List ℕ) (r : Record) (column : ℕ) (b : Bound) → new ≡ out ++ codes "," ++ text_of b → column < length r
    → b ≡ get_or r column (scaled (pos 0) 0)
    → new ++ after_commas (number_fields (drop (column + 1) r)) ≡ out ++ after_commas (number_fields (drop column r))
number_put out new r column b put within e =
    let rest : List ℕ = after_commas (number_fields (drop (column + 1) r)) in
    ap (λ t. t ++ rest) put ∙ append_assoc (out ++ codes ",") (text_of b) rest ∙ append_assoc out (codes ",") (text_of b ++ rest)
    ∙ ap (λ x. out ++ comma ∷ (text_of x ++ rest)) e
    ∙ ap (λ bs. out ++ after_commas (number_fields bs)) (sym (drop_more r column (scaled (pos 0) 0) within))

numbers_joined : (old : List ℕ) (r : Record) → 0 < length r →
    (old ++ text_of (get_or r 0 (scaled (pos 0) 0))) ++ after_commas (number_fields (drop 1 r)) ≡ old ++ join_with_byte comma (number_fields r)
numbers_joined old [] some = absurd (omega (arith, some))
numbers_joined old (b ∷ bs) some = joined_at_end old (text_of b) (number_fields bs)

-- all numbers of a record, of which the first is put without a comma
pub numbers_put : (old first out : List ℕ) (r : Record) (column : ℕ) (b : Bound) → 0 < length r → b ≡ get_or r 0 (scaled (pos 0) 0)
    → first ≡ old ++ [] ++ text_of b → length r ≤ column
    → out ++ after_commas (number_fields (drop column r)) ≡ first ++ after_commas (number_fields (drop 1 r))
    → out ≡ old ++ join_with_byte comma (number_fields r)
numbers_put old first out r column b some e put past all =
    sym (append-nil out) ∙ ap (λ bs. out ++ after_commas (number_fields bs)) (sym (drop_all column r past)) ∙ all
    ∙ ap (λ t. t ++ after_commas (number_fields (drop 1 r))) (put ∙ ap (λ t. t ++ text_of b) (append-nil old) ∙ ap (λ x. old ++ text_of x) e)
    ∙ numbers_joined old r some
