use Rattle.std.proofs.Common.{◌≡◌, ◌++◌, map, drop}
use Rattle.sheet_rows.specs.Rows.{row_of}
use Rattle.sheet_rows.specs.Regular.{AreRegular}
use Rattle.script_lines.specs.Texts.{text_of_rows}
use Rattle.script_lines.proofs.print.put_rows.Given as goal

abbrev pub invariant-loop-row : goal.invariant-loop-row
invariant-loop-row l = record {
  written :
      l.text ++ text_of_rows (map (λ row. row_of row.value) (drop l.row-index l.rows))
      ≡ l.fn.text ++ text_of_rows (map (λ row. row_of row.value) l.rows);
  regular : AreRegular (map (λ row. row_of row.value) (drop l.row-index l.rows));
}
