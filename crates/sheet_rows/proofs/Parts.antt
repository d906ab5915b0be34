-- The name of the row of a quantity: a plain name has no point.
use Rattle.std.proofs.Common.{◌≡◌, ℕ, ◌+◌, ◌≤◌, ◌++◌, length, take, drop, slice_set, length-append, arith, ◌==◌, Bool, true, false, List, [], ◌∷◌, get_or, refl, sym, ap, ◌∙◌}
use Rattle.std.specs.Prelude.{Option, Some, None, if◌then◌else◌}
use Rattle.std.specs.List.{slice_split, list_all, All, join_with_byte}
use Rattle.std.proofs.lemmas.Bool.{and_parts, and_from, ne_eqb}
use Rattle.std.proofs.lemmas.List.Splits.{slice_split_at, slice_split_none, join_with_byte-slice_split}
use Rattle.std.proofs.lemmas.List.{append_assoc, length-drop, length-set, take_more_set}
use Rattle.std.proofs.lemmas.Slice.{take-put_mid}
use borrow.Rule.Slice.PartMut.{put_mid}
use Rattle.std.proofs.lemmas.List.Elements.{All-cons}
use Rattle.std.proofs.Math.Seq.{take-append_seam}
use Rattle.formula_ast.specs.Names.{begins_name, goes_on_name, is_plain_name, are_name_parts, is_name}
use Rattle.sheet_rows.specs.Rows.{column_name, row_part}

-- a byte that a test accepts is not one that it refuses
pub not_refused : (test : ℕ → Bool) (byte other : ℕ) → test byte ≡ true → test other ≡ false → (byte == other) ≡ false
not_refused test byte other h k = ne_eqb byte other (λ e. absurd (cc (h, k, ap test e)))

all_free : (bs : List ℕ) → list_all goes_on_name bs ≡ true → All (λ byte. (byte == 46) ≡ false) bs
all_free [] h = λ k d below. absurd (omega (arith, below))
all_free (b ∷ bs) h =
    let both = and_parts (goes_on_name b) (list_all goes_on_name bs) h in
    All-cons (λ byte. (byte == 46) ≡ false) b bs (not_refused goes_on_name b 46 both.0 refl) (all_free bs both.1)

pub free : (n : List ℕ) → is_plain_name n ≡ true → All (λ byte. (byte == 46) ≡ false) n
free [] h = λ k d below. absurd (omega (arith, below))
free (b ∷ bs) h =
    let both = and_parts (begins_name b) _ h in
    All-cons (λ byte. (byte == 46) ≡ false) b bs (not_refused begins_name b 46 both.0 refl) (all_free bs (and_parts (list_all goes_on_name bs) _ both.1).0)

plain_parts : (n : List ℕ) → is_plain_name n ≡ true → slice_split (λ byte. byte == 46) n ≡ n ∷ []
plain_parts n h = slice_split_none (λ byte. byte == 46) n (free n h)

pub row_part-plain : (n : List ℕ) → is_plain_name n ≡ true → row_part n ≡ n
row_part-plain n h = ap (λ ps. get_or ps 0 []) (plain_parts n h)

column_parts : (t c : List ℕ) → is_plain_name t ≡ true
    → slice_split (λ byte. byte == 46) (column_name t c) ≡ t ∷ slice_split (λ byte. byte == 46) c
column_parts t c h = slice_split_at (λ byte. byte == 46) t 46 c (free t h) refl

pub row_part-column : (t c : List ℕ) → is_plain_name t ≡ true → row_part (column_name t c) ≡ t
row_part-column t c h = ap (λ ps. get_or ps 0 []) (column_parts t c h)

pub row_part-first : (n part : List ℕ) (rest : List (List ℕ)) → slice_split (λ byte. byte == 46) n ≡ part ∷ rest → row_part n ≡ part
row_part-first n part rest e = ap (λ ps. get_or ps 0 []) e

-- where a name has no point, its row has that name
pub row_part-whole : (n part : List ℕ) → slice_split (λ byte. byte == 46) n ≡ part ∷ [] → part ≡ n
row_part-whole n part e = ap (join_with_byte 46) (sym e) ∙ join_with_byte-slice_split 46 n

pub column_is_name : (t c : List ℕ) → is_plain_name t ≡ true → is_plain_name c ≡ true → is_name (column_name t c) ≡ true
column_is_name t c h k = ap are_name_parts (column_parts t c h ∙ ap (λ ps. t ∷ ps) (plain_parts c k)) ∙ and_from _ _ h k

-- ---- the text of a column's name is a name
pub new_there : (text : List ℕ) (r : Option (List ℕ)) (t c : List ℕ) → r ≡ (if is_name text then Some text else None) → text ≡ column_name t c
    → is_plain_name t ≡ true → is_plain_name c ≡ true → r ≡ Some (column_name t c)
new_there text r t c f e h k = rw (f, e, column_is_name t c h k) refl

pub new_is : (text n : List ℕ) (r : Option (List ℕ)) (t c : List ℕ) → r ≡ (if is_name text then Some text else None) → r ≡ Some n
    → text ≡ column_name t c → is_plain_name t ≡ true → is_plain_name c ≡ true → n ≡ column_name t c
new_is text n r t c f g e h k = let there = new_there text r t c f e h k in cc

-- bytes put over the start of a text, then a point, then bytes
pub built : (t c a b z : List ℕ) (k : ℕ) → a ≡ t → b ≡ c → length t + 1 + length c ≤ length z
    → take (length t + 1 + length c) (put_mid (length t + 1) k (slice_set (a ++ drop (length t) z) (length t) 46) b) ≡ column_name t c
built t c a b z k e f h =
    let long : length (t ++ drop (length t) z) ≡ length z = omega (arith, h, length-append t (drop (length t) z), length-drop (length t) z) in
    let set_long : length (slice_set (t ++ drop (length t) z) (length t) 46) ≡ length z = length-set (t ++ drop (length t) z) (length t) 46 ∙ long in
    let start : take (length t + 1) (slice_set (t ++ drop (length t) z) (length t) 46) ≡ t ++ 46 ∷ [] =
    take_more_set (t ++ drop (length t) z) (length t) 46 (omega (arith, h, long)) ∙ ap (λ xs. xs ++ 46 ∷ []) (take-append_seam t (drop (length t) z)) in
    (λ j. take (length t + 1 + length c) (put_mid (length t + 1) k (slice_set (e j ++ drop (length t) z) (length t) 46) (f j)))
    ∙ take-put_mid (length t + 1) k (slice_set (t ++ drop (length t) z) (length t) 46) c (length t + 1 + length c) refl (omega (arith, h, set_long))
    ∙ ap (λ xs. xs ++ c) start ∙ append_assoc t (46 ∷ []) c
