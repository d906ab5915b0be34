use Rattle.std.specs.Prelude.{◌≡◌, ℕ, zero, suc, true, [], ◌∷◌, nat_eq, refl}
use Rattle.std.proofs.lemmas.Bool.{true≢false}
use Rattle.std.proofs.Common.{sym}
use Rattle.exact_law.specs.Model.{uses, replaced, body_of, body_uses, absent}
use Rattle.exact_law.specs.Law.{members, all_members}
use Rattle.exact_law.specs.Renaming.{EachOf, EachKey, EachBodyKey, EachRowKey, EachMember, renamed, renamed_body, renamed_rows, renamed_columns, renamed_group, renamed_groups}
use Rattle.exact_law.specs.WorkedRows.{first_column, second_column, cycle, in_cycle}
use Rattle.exact_law.proofs.worked.worked_premises.Goals as goal

cyclic_each : (n : ℕ) → in_cycle n ≡ true → body_uses in_cycle (body_of nat_eq cycle n) ≡ true
unfolding in_cycle body_of body_uses uses
cyclic_each zero h = refl
cyclic_each (suc zero) h = refl
cyclic_each (suc (suc n)) h = absurd (true≢false (sym h))

pub returns : goal.returns
unfolding absent uses replaced body_of body_uses members all_members EachOf EachKey EachBodyKey EachRowKey EachMember renamed renamed_body renamed_rows renamed_columns renamed_group renamed_groups
returns c = record {
  columns = (
    record { before = []; after = second_column ∷ []; is_one = refl; absent_before = refl; absent_after = refl },
    record { before = first_column ∷ []; after = []; is_one = refl; absent_before = refl; absent_after = refl },
  );
  cyclic = record { each_uses_one = cyclic_each };
  keys_of_rows = (refl, refl, (refl, (refl, refl), (refl, (refl, refl), (refl, (refl, refl), (refl, (refl, refl), (refl, refl, (refl, refl, (refl, refl, (refl, tt, (refl, tt, (refl, tt, tt)))))))))));
  keys_of_groups = ((refl, (refl, tt)), (refl, (refl, tt)));
  renamed = refl;
  renamed_groups = refl;
}
