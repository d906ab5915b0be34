use Rattle.std.proofs.Common.{◌≡◌, true, false, nat_le, is_some, sym, ap, ◌∙◌, length, Ok}
use Rattle.std.proofs.lemmas.List.{length-map}
use Rattle.sheet_rows.specs.Rows.{row_of, name_of}
use Rattle.sheet_rows.specs.Sheets.{row_limit}
use Rattle.sheet_edits.specs.Verdicts.{added, verdict_add}
use Rattle.sheet_edits.specs.Places.{place_of}
use Rattle.sheet_edits.proofs.Verdicts.{not_full, add_duplicate, add_by_names, names_no_duplicate, names_not_full, new_name}
use Rattle.sheet_edits.proofs.Keeping.{add_stands, verdict_stands, checked_verdict}
use Rattle.sheet_edits.proofs.sheet.Sheet.check_added.Goals as goal

pub returns-then-is_some-clause-verdict : goal.returns-then-is_some-clause-verdict
returns-then-is_some-clause-verdict c =
    let sheet = c.args.self.now in
    let row = row_of c.args.row.now in
    let full : nat_le row_limit (length sheet.rows) ≡ false =
    not_full sheet (length c.rows.result.now) (sym (length-map c.rows.result.now (λ r. row_of r.value)) ∙ ap length c.rows.ensures.rows) c.if-rows-ge-ROW_LIMIT.false in
    let there : is_some (place_of sheet (name_of row)) ≡ true =
    ap (λ n. is_some (place_of sheet n)) (sym c.name.ensures) ∙ sym (ap is_some c.place_of.ensures) ∙ sym c.is_some.ensures ∙ c.if-is_some.true in
    λ memory. rw (c.name-then-is_some.ensures) (add_duplicate sheet row full there)

pub returns-clause-verdict : goal.returns-clause-verdict
returns-clause-verdict c =
    let sheet = c.args.self.now in
    let row = row_of c.args.row.now in
    let full : nat_le row_limit (length sheet.rows) ≡ false =
    not_full sheet (length c.rows.result.now) (sym (length-map c.rows.result.now (λ r. row_of r.value)) ∙ ap length c.rows.ensures.rows) c.if-rows-ge-ROW_LIMIT.false in
    let new : is_some (place_of sheet (name_of row)) ≡ false =
    ap (λ n. is_some (place_of sheet n)) (sym c.name.ensures) ∙ sym (ap is_some c.place_of.ensures) ∙ sym c.is_some.ensures ∙ c.if-is_some.false in
    rw (add_by_names sheet row c.len.result c.rows.ensures.standing.regular c.requires c.rows.ensures.standing.well_formed.once (sym c.len.ensures) full (new_name sheet (name_of row) new)) (checked_verdict c.check_names.result (added sheet row) _ (c.check_names.ensures (Ok (added sheet row))))

pub returns-then-is_some-clause-full : goal.returns-then-is_some-clause-full
returns-then-is_some-clause-full c =
    let sheet = c.args.self.now in
    let row = row_of c.args.row.now in
    let full : nat_le row_limit (length sheet.rows) ≡ false =
    not_full sheet (length c.rows.result.now) (sym (length-map c.rows.result.now (λ r. row_of r.value)) ∙ ap length c.rows.ensures.rows) c.if-rows-ge-ROW_LIMIT.false in
    let there : is_some (place_of sheet (name_of row)) ≡ true =
    ap (λ n. is_some (place_of sheet n)) (sym c.name.ensures) ∙ sym (ap is_some c.place_of.ensures) ∙ sym c.is_some.ensures ∙ c.if-is_some.true in
    let duplicate = add_duplicate sheet row full there in
    λ h. absurd (cc (sym duplicate ∙ h))

pub returns-clause-full : goal.returns-clause-full
returns-clause-full c =
    let sheet = c.args.self.now in
    let row = row_of c.args.row.now in
    let full : nat_le row_limit (length sheet.rows) ≡ false =
    not_full sheet (length c.rows.result.now) (sym (length-map c.rows.result.now (λ r. row_of r.value)) ∙ ap length c.rows.ensures.rows) c.if-rows-ge-ROW_LIMIT.false in
    let new : is_some (place_of sheet (name_of row)) ≡ false =
    ap (λ n. is_some (place_of sheet n)) (sym c.name.ensures) ∙ sym (ap is_some c.place_of.ensures) ∙ sym c.is_some.ensures ∙ c.if-is_some.false in
    λ h. absurd (names_not_full _ _ _ _ (added sheet row)
    (sym (add_by_names sheet row c.len.result c.rows.ensures.standing.regular c.requires c.rows.ensures.standing.well_formed.once (sym c.len.ensures) full (new_name sheet (name_of row) new)) ∙ h))

pub returns-clause-duplicate : goal.returns-clause-duplicate
returns-clause-duplicate c =
    let sheet = c.args.self.now in
    let row = row_of c.args.row.now in
    let full : nat_le row_limit (length sheet.rows) ≡ false =
    not_full sheet (length c.rows.result.now) (sym (length-map c.rows.result.now (λ r. row_of r.value)) ∙ ap length c.rows.ensures.rows) c.if-rows-ge-ROW_LIMIT.false in
    let new : is_some (place_of sheet (name_of row)) ≡ false =
    ap (λ n. is_some (place_of sheet n)) (sym c.name.ensures) ∙ sym (ap is_some c.place_of.ensures) ∙ sym c.is_some.ensures ∙ c.if-is_some.false in
    λ n h. absurd (names_no_duplicate _ _ _ _ (added sheet row) n
    (sym (add_by_names sheet row c.len.result c.rows.ensures.standing.regular c.requires c.rows.ensures.standing.well_formed.once (sym c.len.ensures) full (new_name sheet (name_of row) new)) ∙ h))

pub returns-clause-standing : goal.returns-clause-standing
returns-clause-standing c =
    let sheet = c.args.self.now in
    let row = row_of c.args.row.now in
    verdict_stands c.check_names.result (added sheet row) (verdict_add sheet row)
    (λ edited. add_stands sheet edited row c.rows.ensures.standing c.requires) (returns-clause-verdict c)
