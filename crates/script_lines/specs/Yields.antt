-- What stands at the start of a text, whatever comes after the text.
use Rattle.std.specs.Prelude.{◌≡◌, ℕ, List, ◌++◌}
use Rattle.script_lines.specs.Items.{Region, parts_of, items_by}
use Rattle.script_lines.specs.declared.item.Item.{Item}

-- a text in the region `from` gives these items, and then what `left` gives in the region `next`
pub record Yields (from : Region) (text : List ℕ) (items : List Item) (next : Region) (left : List ℕ) : Type 0 where
  pub yields : (last : Region → List ℕ → List Item) (rest : List ℕ)
      → items_by last from (parts_of (text ++ rest)) ≡ items ++ items_by last next (parts_of (left ++ rest))
