-- The records of a table that is taken have as many readings as the first one.
use Rattle.std.proofs.Common.{◌≡◌, ℕ, suc, ◌<◌, [], ◌∷◌, length, get_or, None, ◌∙◌, arith}
use Rattle.type_a.specs.Tables.{Table, width_of, refusal}
use Rattle.type_a.proofs.Accepted.{length_of_record, at_least_two}

-- each record has so many readings
abbrev pub AreOfWidth : ℕ → Table → Type 0
AreOfWidth width [] = Unit {0}
AreOfWidth width (r ∷ rs) = (length r ≡ width) × AreOfWidth width rs

each_row : (width : ℕ) (t : Table) → ((row : ℕ) → row < length t → length (get_or t row []) ≡ width) → AreOfWidth width t
each_row width [] h = tt
each_row width (r ∷ rs) h = (h 0 (omega arith), each_row width rs (λ row l. h (suc row) (omega (arith, l))))

pub are_of_width : (width : ℕ) (t : Table) → refusal t ≡ None → width_of t ≡ width → AreOfWidth width t
are_of_width width t taken e = each_row width t (λ row l. length_of_record t taken row l ∙ e)

pub width_is : (width : ℕ) (t : Table) → refusal t ≡ None → AreOfWidth width t → width_of t ≡ width
width_is width [] taken h = absurd (omega (arith, at_least_two [] taken))
width_is width (r ∷ rs) taken h = h.0
