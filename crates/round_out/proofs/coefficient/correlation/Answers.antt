use Rattle.std.proofs.Common.{rules, inl, inr}
use Rattle.fixed_interval.proofs.Sums.{missing, there}
use Rattle.round_out.proofs.Said.{zero_span, no_zero_span, positive, not_positive, said_is, either_zero, said_is_true}
use Rattle.round_out.proofs.Saying.{coefficient_is_found}
use Rattle.round_out.proofs.coefficient.correlation.Goals as goal
use Rattle.round_out.proofs.coefficient.correlation.Goals.{then-coefficient-le0-via-then-coefficient-le0, then-coefficient-le0-via-else-coefficient-le0+then-coefficient-le0-2, then-coefficient-le0-3-via-then-coefficient-le0-3, then-coefficient-le0-3-via-else-coefficient-le0-3+then-coefficient-le0-4}

pub returns-then-coefficient-le0-clause-exact : goal.returns-then-coefficient-le0-clause-exact
returns-then-coefficient-le0-clause-exact g c =
    elim c.then-coefficient-le0.branch [
      | then-coefficient-le0-via-then-coefficient-le0 w ↦ inl (zero_span c.args.vy.now (search rules) c.requires.first (search rules))
      | then-coefficient-le0-via-else-coefficient-le0+then-coefficient-le0-2 w ↦ inr (zero_span c.args.vz.now (search rules) c.requires.second (search rules))
    ]

pub returns-then-coefficient-le0-clause-holds : goal.returns-then-coefficient-le0-clause-holds
returns-then-coefficient-le0-clause-holds g c =
    λ x y z h k l s. either_zero c.args.vy.now c.args.vz.now (returns-then-coefficient-le0-clause-exact g c) y z k l

pub returns-then-coefficient-le0-3-clause-exact : goal.returns-then-coefficient-le0-3-clause-exact
returns-then-coefficient-le0-3-clause-exact g c = record {
  first = no_zero_span c.args.vy.now (search rules);
  second = no_zero_span c.args.vz.now (search rules);
  nothing = λ p. elim c.then-coefficient-le0-3.branch [
    | then-coefficient-le0-3-via-then-coefficient-le0-3 w ↦ absurd (not_positive c.args.vy.now (search rules) p.first)
    | then-coefficient-le0-3-via-else-coefficient-le0-3+then-coefficient-le0-4 w ↦ absurd (not_positive c.args.vz.now (search rules) p.second)
  ];
}

pub square_of-requires : goal.square_of-requires
square_of-requires g c = record { positive = positive c.args.vy.now c.args.vz.now (search rules) (search rules) }

pub returns-in_default-clause-exact : goal.returns-in_default-clause-exact
returns-in_default-clause-exact g c = (
  positive c.args.vy.now c.args.vz.now (search rules) (search rules),
  missing _ _ _ c.in_default.ensures.span,
)

pub returns-clause-exact : goal.returns-clause-exact
returns-clause-exact g c =
    said_is c.args.c.now c.args.vy.now c.args.vz.now c.in-Ok.square c.said.result
    (no_zero_span c.args.vy.now (search rules)) (no_zero_span c.args.vz.now (search rules))
    (positive c.args.vy.now c.args.vz.now (search rules) (search rules))
    (there _ _ _ c.in-Ok.ensures.span) c.said.ensures

pub returns-clause-holds : goal.returns-clause-holds
returns-clause-holds g c =
    said_is_true c.args.c.now c.args.vy.now c.args.vz.now c.in-Ok.square c.said.result
    (positive c.args.vy.now c.args.vz.now (search rules) (search rules))
    (there _ _ _ c.in-Ok.ensures.span) c.said.ensures

pub returns-then-coefficient-le0-clause-said : goal.returns-then-coefficient-le0-clause-said
returns-then-coefficient-le0-clause-said g c =
    coefficient_is_found c.args.c.now c.args.vy.now c.args.vz.now _ (returns-then-coefficient-le0-clause-exact g c)

pub returns-then-coefficient-le0-3-clause-said : goal.returns-then-coefficient-le0-3-clause-said
returns-then-coefficient-le0-3-clause-said g c =
    coefficient_is_found c.args.c.now c.args.vy.now c.args.vz.now _ (returns-then-coefficient-le0-3-clause-exact g c)

pub returns-in_default-clause-said : goal.returns-in_default-clause-said
returns-in_default-clause-said g c =
    coefficient_is_found c.args.c.now c.args.vy.now c.args.vz.now _ (returns-in_default-clause-exact g c)

pub returns-clause-said : goal.returns-clause-said
returns-clause-said g c =
    coefficient_is_found c.args.c.now c.args.vy.now c.args.vz.now _ (returns-clause-exact g c)
