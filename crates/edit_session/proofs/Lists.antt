-- What the code's lists are as those of a state, after each change of them.
use Rattle.std.specs.Prelude.{◌≡◌, ℕ, Bool, true, false, List, [], ◌∷◌, ◌++◌, reverse, bytes_eq, refl}
use Rattle.std.proofs.Common.{ap}
use Rattle.std.proofs.lemmas.List.{reverse-append}
use Rattle.indexmap.specs.IndexMap.{insert_entry}
use Rattle.sheet_rows.specs.Rows.{Sheet}
use Rattle.edit_session.specs.Machine.{Marks, with_mark}

pub future-with : (future : List Sheet) (sheet : Sheet) → reverse (future ++ sheet ∷ []) ≡ sheet ∷ reverse future
future-with future sheet = reverse-append future (sheet ∷ [])

pub with-mark : (marks : Marks) (name : List ℕ) (sheet : Sheet) → with_mark marks name sheet ≡ insert_entry bytes_eq marks name sheet
with-mark [] name sheet = refl
with-mark (mark ∷ marks) name sheet = by (bytes_eq name mark.0) refl (with-mark marks name sheet) where
  by : (same : Bool) → bytes_eq name mark.0 ≡ same → with_mark marks name sheet ≡ insert_entry bytes_eq marks name sheet
      → with_mark (mark ∷ marks) name sheet ≡ insert_entry bytes_eq (mark ∷ marks) name sheet
  by true e rest = rw (e) refl
  by false e rest = rw (e) (ap (λ others. mark ∷ others) rest)
