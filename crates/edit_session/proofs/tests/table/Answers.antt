use Rattle.std.specs.Prelude.{◌≡◌, ℕ, ◌<◌, ◌^◌, true, codes, pos, List, [], ◌∷◌, Result, Ok}
use Rattle.std.proofs.Common.{rules, refl, sym, ◌∙◌, ap, subst, lit<, lit≤, arith}
use Rattle.csv.proofs.OnLiterals.{csv_on_literals}
use Rattle.decimal18.specs.Bound.{IsDecimal, scaled}
use Rattle.decimal18.specs.Literal.{parsed}
use Rattle.formula_ast.specs.Names.{is_plain_name}
use Rattle.type_a.specs.Tables.{Table, refusal, readings_of, table_of as table_of_rows}
use Rattle.table_records.specs.Tables.{records_read, table_of}
use Rattle.sheet_rows.specs.Rows.{Joint}
use Rattle.sheet_rows.specs.Regular.{IsRegular}
use Rattle.edit_session.proofs.tests.table.Goals as goal

rows : Table
rows = (scaled (pos 1) 0 ∷ scaled (pos 3) 0 ∷ []) ∷ (scaled (pos 3) 0 ∷ scaled (pos 5) 0 ∷ []) ∷ []

columns : List (List ℕ)
columns = (65 ∷ []) ∷ (66 ∷ []) ∷ []

read : records_read (codes "A,B\n1,3\n3,5\n") ≡ Ok (record { columns = columns; rows = rows })
unfolding csv_on_literals parsed records_read rows columns
read = refl

same_ok : {A E : Type 0} (x y : A) → ◌≡◌ {A = Result A E} (Ok x) (Ok y) → x ≡ y
same_ok x y e = cc

decimal : (n : ℕ) → n < 10 ^ 18 → IsDecimal (scaled (pos n) 0)
decimal n small = record {
  bound = record { digits = small; most = lit≤ tt };
  canonical = record { least = λ h. absurd (omega (arith, h)) };
}

regular : (name : List ℕ) → is_plain_name name ≡ true → IsRegular (Joint name columns rows)
unfolding rows columns refusal
regular name plain = (
  plain,
  refl,
  ((decimal 1 (lit< tt), (decimal 3 (lit< tt), tt)), ((decimal 3 (lit< tt), (decimal 5 (lit< tt), tt)), tt)),
  refl,
  refl,
)

taken : (t : Table) → readings_of rows ≡ Ok t → rows ≡ t
unfolding rows refusal
taken t e = same_ok rows t e

pub returns : goal.returns
returns c =
    let table : record { columns = columns; rows = rows } ≡ table_of c.in-Ok.records = same_ok _ _ (sym read ∙ c.in-Ok.ensures.exact) in
    let is : rows ≡ c.in_ok-new.field-0.value = taken _ (ap readings_of (ap (λ t. t.rows) table ∙ ap table_of_rows (sym c.as_slice.ensures.value)) ∙ c.in-Ok-new.ensures ∙ ap Ok (sym c.in_ok-new.ensures.ok)) in
    subst (λ ns. IsRegular (Joint c.in_ok-name.name ns c.in_ok-new.field-0.value)) (ap (λ t. t.columns) table)
    (subst (λ t. IsRegular (Joint c.in_ok-name.name columns t)) is (regular c.in_ok-name.name (search rules)))
