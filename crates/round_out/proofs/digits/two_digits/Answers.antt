use Rattle.std.proofs.Common.{rules, ap, of_z, w8}
use Rattle.std.specs.Prelude.{Some}
use Rattle.exact_law.specs.Rounding.{Zero as ExactZero, Two}
use Rattle.round_out.proofs.Ends.{all_between, ends_zero, from_zero, have_two, apart_two}
use Rattle.round_out.proofs.Searching.{digits_are_found}
use Rattle.round_out.specs.declared.digits.Rounded.TheVariants.{Zero, Digits, Unsettled}
use Rattle.round_out.proofs.digits.two_digits.Goals as goal
use Rattle.round_out.proofs.digits.two_digits.Goals.{then-low-high-via-then-low-high, then-low-high-via-else-low-high+then-low-high-2}

pub returns-then-coefficient-le0-clause-exact : goal.returns-then-coefficient-le0-clause-exact
returns-then-coefficient-le0-clause-exact c = ends_zero c.args.v.now (search rules) c.requires.not_negative (search rules)

pub returns-then-coefficient-le0-clause-holds : goal.returns-then-coefficient-le0-clause-holds
returns-then-coefficient-le0-clause-holds c =
    all_between c.args.v.now (Some ExactZero) (ends_zero c.args.v.now (search rules) c.requires.not_negative (search rules))

pub returns-then-coefficient-le0-2-clause-exact : goal.returns-then-coefficient-le0-2-clause-exact
returns-then-coefficient-le0-2-clause-exact c = from_zero c.args.v.now (search rules) c.requires.not_negative (search rules)

pub returns-then-low-high-clause-exact : goal.returns-then-low-high-clause-exact
returns-then-low-high-clause-exact c =
    apart_two c.args.v.now c.digits_of-low.result.m c.digits_of-high.result.m c.digits_of-low.result.e c.digits_of-high.result.e (search rules) (search rules)
    (λ g h. elim c.then-low-high.branch [
      | then-low-high-via-then-low-high w ↦ w.if-low-high.true g
      | then-low-high-via-else-low-high+then-low-high-2 w ↦ w.if-low-high-2.true (ap (of_z w8) h)
    ])

pub returns-clause-exact : goal.returns-clause-exact
returns-clause-exact c = have_two c.args.v.now _ _ (search rules) (search rules)

pub returns-clause-holds : goal.returns-clause-holds
returns-clause-holds c = all_between c.args.v.now (Some (Two _ _)) (have_two c.args.v.now _ _ (search rules) (search rules))

pub returns-then-coefficient-le0-clause-said : goal.returns-then-coefficient-le0-clause-said
returns-then-coefficient-le0-clause-said c =
    digits_are_found c.args.v.now Zero (returns-then-coefficient-le0-clause-exact c) tt

pub returns-then-coefficient-le0-2-clause-said : goal.returns-then-coefficient-le0-2-clause-said
returns-then-coefficient-le0-2-clause-said c =
    digits_are_found c.args.v.now Unsettled (returns-then-coefficient-le0-2-clause-exact c) tt

pub returns-then-low-high-clause-said : goal.returns-then-low-high-clause-said
returns-then-low-high-clause-said c =
    digits_are_found c.args.v.now Unsettled (returns-then-low-high-clause-exact c) tt

pub returns-clause-said : goal.returns-clause-said
returns-clause-said c =
    digits_are_found c.args.v.now (Digits _ _) (returns-clause-exact c) (search rules, search rules)
