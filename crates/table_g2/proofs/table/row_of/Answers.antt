use Rattle.table_g2.proofs.Rows.{row_of-found, some_place}
use Rattle.table_g2.proofs.table.row_of.Goals as goal

pub unwrap-place-requires : goal.unwrap-place-requires
unwrap-place-requires c = some_place _ c.whole_part.result c.whole_part.ensures c.requires _ c.table_g2-table.ensures.degrees _ c.at_or_below.ensures.none

pub returns : goal.returns
returns c =
    row_of-found _ c.whole_part.result c.whole_part.ensures _ c.table_g2-table.ensures.degrees _ c.table_g2-table.ensures.factors
    _ c.at_or_below.ensures.place _ c.unwrap-place.ensures _
