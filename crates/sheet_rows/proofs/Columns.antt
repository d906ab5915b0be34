-- Names of columns: that of the table, a point, and that of the column.
use Rattle.std.proofs.Common.{◌≡◌, ℕ, suc, ◌+◌, ◌-◌, ◌<◌, ◌≤◌, Bool, true, false, not, bytes_eq, length, List, [], ◌∷◌, ◌++◌, slice_index_or, refl, sym, ap, ◌∙◌, arith, length-append}
use Rattle.std.specs.Prelude.{take, drop}
use Rattle.std.proofs.lemmas.Slice.Eq.{bytes_eq-Decides}
use Rattle.std.proofs.lemmas.List.{take-append-drop, drop_more, take_all, length-drop}
use Rattle.std.proofs.Math.Seq.{take-append_seam}
use Rattle.sheet_rows.specs.Rows.{column_name}

same : (xs ys : List ℕ) → bytes_eq xs ys ≡ true → xs ≡ ys
same xs ys h = (bytes_eq-Decides xs ys).0 h

pub is_false : (b : Bool) → (b ≡ true → ⊥) → false ≡ b
is_false true h = absurd (h refl)
is_false false h = refl

-- what a test for another text has told
pub is_other : (r b : Bool) → r ≡ not b → r ≡ true → b ≡ false
is_other r true e h = absurd (cc)
is_other r false e h = refl

pub is_same : (r b : Bool) → r ≡ not b → r ≡ false → b ≡ true
is_same r true e h = refl
is_same r false e h = absurd (cc)

pub other_column : (n t c : List ℕ) → (n ≡ column_name t c → ⊥) → false ≡ bytes_eq n (column_name t c)
other_column n t c h = is_false _ (λ e. h (same n (column_name t c) e))

-- ---- a name with a point after that of the table
joined : (n t : List ℕ) → length t < length n → bytes_eq (take (length t) n) t ≡ true → slice_index_or n (length t) 0 ≡ 46
    → t ++ 46 ∷ drop (length t + 1) n ≡ n
joined n t short first point =
    let rest : drop (length t) n ≡ 46 ∷ drop (length t + 1) n = drop_more n (length t) 0 short ∙ ap (λ b. b ∷ drop (length t + 1) n) point in
    (λ j. sym (same (take (length t) n) t first) j ++ sym rest j) ∙ take-append-drop (length t) n

after_next : (t c : List ℕ) → drop (suc (length t)) (column_name t c) ≡ c
after_next [] c = refl
after_next (b ∷ bs) c = after_next bs c

after_point : (t c : List ℕ) → drop (length t + 1) (column_name t c) ≡ c
after_point t c = let next : length t + 1 ≡ suc (length t) = omega arith in ap (λ k. drop k (column_name t c)) next ∙ after_next t c

point_there : (t c : List ℕ) → slice_index_or (column_name t c) (length t) 0 ≡ 46
point_there [] c = refl
point_there (b ∷ bs) c = point_there bs c

pub too_short : (n t c : List ℕ) → length n ≤ length t → n ≡ column_name t c → ⊥
too_short n t c h e = absurd (omega (arith, h, ap length e ∙ length-append t (46 ∷ c)))

pub other_table : (n t c : List ℕ) → bytes_eq (take (length t) n) t ≡ false → n ≡ column_name t c → ⊥
other_table n t c h e =
    absurd (cc (h, (bytes_eq-Decides (take (length t) n) t).1 (ap (take (length t)) e ∙ take-append_seam t (46 ∷ c))))

pub no_point : (n t c : List ℕ) → (slice_index_or n (length t) 0 ≡ 46 → ⊥) → n ≡ column_name t c → ⊥
no_point n t c h e = h (ap (λ m. slice_index_or m (length t) 0) e ∙ point_there t c)

pub by_column : (n t c : List ℕ) (k : ℕ) → length t < length n → bytes_eq (take (length t) n) t ≡ true → slice_index_or n (length t) 0 ≡ 46
    → k ≡ length n - (length t + 1) → bytes_eq (take k (drop (length t + 1) n)) c ≡ bytes_eq n (column_name t c)
by_column n t c k short first point e =
    let all : take k (drop (length t + 1) n) ≡ drop (length t + 1) n = take_all k (drop (length t + 1) n) (omega (arith, e, length-drop (length t + 1) n)) in
    ap (λ m. bytes_eq m c) all ∙ by (bytes_eq (drop (length t + 1) n) c) refl where
      by : (b : Bool) → bytes_eq (drop (length t + 1) n) c ≡ b → b ≡ bytes_eq n (column_name t c)
      by true h = sym ((bytes_eq-Decides n (column_name t c)).1 (sym (joined n t short first point) ∙ ap (column_name t) (same _ c h)))
      by false h = other_column n t c (λ e. absurd (cc (h, (bytes_eq-Decides (drop (length t + 1) n) c).1 (ap (drop (length t + 1)) e ∙ after_point t c))))
