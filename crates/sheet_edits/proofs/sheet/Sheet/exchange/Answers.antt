use Rattle.std.proofs.Common.{List, ◌∙◌, ap, sym, subst, refl}
use Rattle.std.specs.Prelude.{slice_get}
use Rattle.std.specs.Option.{option_map}
use Rattle.sheet_rows.specs.Rows.{Row, Sheet, row_of, name_of}
use Rattle.sheet_rows.specs.Sheets.{is_named, IsStanding}
use Rattle.sheet_edits.specs.Places.{code_name}
use Rattle.sheet_edits.proofs.Positions.{first_at}
use Rattle.sheet_edits.proofs.Entries.{of_rows, exchanged_rows, exchanged_names, value_at}
use Rattle.sheet_edits.proofs.Verdicts.{named_at, found_row}
use Rattle.sheet_edits.proofs.sheet.Sheet.exchange.Goals as goal

pub invariant_of-self : goal.invariant_of-self
invariant_of-self c =
    let es = c.self.inside.rows.entries in
    let sheet = c.args.self.now in
    let own = code_name c.args.row.value in
    let rows_are = ap (λ (s : Sheet). s.rows) c.self.view_is in
    let first = first_at (is_named own) sheet.rows c.args.at c.requires.there in
    record {
      names =
          exchanged_names (λ r. row_of r.value) es c.args.at c.replace.new.dest
          (rw (c.replace.ensures.after) (ap (λ (rows : List Row). option_map name_of (slice_get rows c.args.at)) rows_are ∙ named_at sheet.rows own c.args.at first))
          c.self.invariant.names;
      standing =
          subst (λ (rows : List Row). IsStanding (of_rows rows))
          (sym (exchanged_rows (λ r. row_of r.value) es c.args.at c.replace.new.dest (row_of c.args.row.value) sheet.rows
          (rw (c.replace.ensures.after) refl) rows_are first))
          c.requires.standing;
    }

pub returns-clause-old : goal.returns-clause-old
returns-clause-old c =
    let es = c.self.inside.rows.entries in
    let sheet = c.args.self.now in
    let own = code_name c.args.row.value in
    let rows_are = ap (λ (s : Sheet). s.rows) c.self.view_is in
    let first = first_at (is_named own) sheet.rows c.args.at c.requires.there in
    rw (c.replace.ensures.value)
    (found_row sheet.rows own c.args.at (row_of c.index_mut.result.now.value) first
    (ap (λ (rows : List Row). slice_get rows c.args.at) (sym rows_are)
    ∙ value_at (λ r. row_of r.value) es c.args.at c.index_mut.result.now c.index_mut.ensures.value))

pub returns-clause-new : goal.returns-clause-new
returns-clause-new c =
    let es = c.self.inside.rows.entries in
    let sheet = c.args.self.now in
    let own = code_name c.args.row.value in
    let rows_are = ap (λ (s : Sheet). s.rows) c.self.view_is in
    let first = first_at (is_named own) sheet.rows c.args.at c.requires.there in
    ap of_rows
    (exchanged_rows (λ r. row_of r.value) es c.args.at c.replace.new.dest (row_of c.args.row.value) sheet.rows
    (rw (c.replace.ensures.after) refl) rows_are first)
