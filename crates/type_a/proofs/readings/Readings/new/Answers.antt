use Rattle.std.specs.Prelude.{◌≡◌, Ok, None}
use Rattle.std.proofs.Common.{sym, ◌∙◌, ap, subst}
use Rattle.std.specs.List.{position_from}
use Rattle.type_a.specs.Tables.{table_of, finest, has_wide, refusal, unless}
use Rattle.type_a.proofs.Accepted.{length_table}
use Rattle.type_a.proofs.Refusals.{no_shape, refused_shape, refused_few, refused_many, refused_wide, accepted}
use Rattle.type_a.proofs.readings.Readings.new.Goals as goal

pub returns-in-Some : goal.returns-in-Some
returns-in-Some c = λ _. refused_shape (table_of c.args.rows.now) c.width.result c.in-Some.place c.first_misshapen.result c.width.ensures c.first_misshapen.ensures c.in-Some.is

pub returns-then-rows-lt-LEAST_RECORDS : goal.returns-then-rows-lt-LEAST_RECORDS
returns-then-rows-lt-LEAST_RECORDS c = λ _.
    refused_few (table_of c.args.rows.now)
    (no_shape (table_of c.args.rows.now) c.width.result c.first_misshapen.result c.width.ensures c.first_misshapen.ensures c.in_default.not-Some)
    (rw (← length_table c.args.rows.now) at c.if-rows-lt-LEAST_RECORDS.true)

pub returns-then-rows-gt-MOST_RECORDS : goal.returns-then-rows-gt-MOST_RECORDS
returns-then-rows-gt-MOST_RECORDS c = λ _.
    refused_many (table_of c.args.rows.now)
    (no_shape (table_of c.args.rows.now) c.width.result c.first_misshapen.result c.width.ensures c.first_misshapen.ensures c.in_default.not-Some)
    (rw (← length_table c.args.rows.now) at c.if-rows-gt-MOST_RECORDS.true)

pub returns-in-Some-first_wide : goal.returns-in-Some-first_wide
returns-in-Some-first_wide c = λ _.
    refused_wide (table_of c.args.rows.now) c.in-Some-first_wide.place
    (no_shape (table_of c.args.rows.now) c.width.result c.first_misshapen.result c.width.ensures c.first_misshapen.ensures c.in_default.not-Some)
    (rw (← length_table c.args.rows.now) at c.if-rows-lt-LEAST_RECORDS.false)
    (rw (← length_table c.args.rows.now) at c.if-rows-gt-MOST_RECORDS.false)
    (ap (λ p. position_from (has_wide p) 1 (table_of c.args.rows.now)) (sym c.finest-places.ensures.value) ∙ sym c.first_wide.ensures ∙ c.in-Some-first_wide.is)

pub invariant_of-result : goal.invariant_of-result
invariant_of-result c =
    let same = c.in-Ok.ensures in
    record {
      taken = subst (λ t. refusal t ≡ None) (sym same) (accepted (table_of c.args.rows.now) c.width.result c.first_misshapen.result c.finest-places.result c.first_wide.result
          c.width.ensures c.first_misshapen.ensures c.in_default.not-Some
          (rw (← length_table c.args.rows.now) at c.if-rows-lt-LEAST_RECORDS.false) (rw (← length_table c.args.rows.now) at c.if-rows-gt-MOST_RECORDS.false)
          c.finest-places.ensures.value c.first_wide.ensures c.in_default-first_wide.not-Some);
      finest = c.finest-places.ensures.value ∙ ap finest (sym same);
      most = c.finest-places.ensures.most;
    }

pub returns : goal.returns
returns c =
    ap (λ r. unless r (table_of c.args.rows.now)) (accepted (table_of c.args.rows.now) c.width.result c.first_misshapen.result c.finest-places.result c.first_wide.result
    c.width.ensures c.first_misshapen.ensures c.in_default.not-Some
    (rw (← length_table c.args.rows.now) at c.if-rows-lt-LEAST_RECORDS.false) (rw (← length_table c.args.rows.now) at c.if-rows-gt-MOST_RECORDS.false)
    c.finest-places.ensures.value c.first_wide.ensures c.in_default-first_wide.not-Some)
    ∙ ap (λ t. Ok t) (sym c.in-Ok.ensures)
