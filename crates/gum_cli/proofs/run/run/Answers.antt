use Rattle.std.proofs.Common.{[], arith, inl, inr}
use Rattle.byte_io.proofs.SourceLemmas.{Took-nothing}
use Rattle.byte_io.proofs.SinkLemmas.{Wrote-nothing}
use Rattle.gum_cli.proofs.run.run.Goals as goal

-- where the words are not read, nothing was taken and nothing written
pub returns-in_default-clause-cut_off : goal.returns-in_default-clause-cut_off
returns-in_default-clause-cut_off g c =
    λ _. record {
      script = [];
      took = Took-nothing _ _ _;
      wrote = record { many = 0; within = omega arith; wrote = Wrote-nothing _ _ };
    }

-- a write fails only where the count of faults rises
pub returns-in-Some-Make-clause-made_whole : goal.returns-in-Some-Make-clause-made_whole
returns-in-Some-Make-clause-made_whole g c =
    λ _ _ _ none. elim c.write_script.ensures.endings [
      | inl done ↦ inl done
      | inr other ↦ elim other [
        | inl fault ↦ absurd (none (c.write_script.ensures.write_fault fault))
        | inr memory ↦ inr memory
      ]
    ]
