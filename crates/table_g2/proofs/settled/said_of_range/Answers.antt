use Rattle.std.specs.Prelude.{refl}
use Rattle.std.proofs.Common.{◌∙◌, ap₂, sym}
use Rattle.std.specs.declared.cmp.Ordering.TheVariants.{Less, Equal, Greater}
use Rattle.table_g2.specs.Said.{said_of_range}
use Rattle.table_g2.proofs.SaidRanges.{compared, as_said, upper_end}
use Rattle.table_g2.proofs.settled.said_of_range.Goals as goal

pub whole_part-requires-in-Less : goal.whole_part-requires-in-Less
whole_part-requires-in-Less c = upper_end c.args.lo c.in-Some.hi _ c.in-Some.is c.requires

pub returns-in-Less : goal.returns-in-Less
returns-in-Less c =
    as_said c.args.lo c.in-Some.hi _ c.in-Some.is Less
    (compared c.args.lo c.whole-limit.result Less c.whole-limit.ensures c.places.ensures.canonical c.places-2.ensures.canonical c.in-Less.ensures) _
    (c.said_of_whole_parts.ensures ∙ ap₂ (said_of_range Less) (sym c.whole_part.ensures) (sym c.whole_part-in-Less.ensures))

pub returns-in-Equal : goal.returns-in-Equal
returns-in-Equal c =
    as_said c.args.lo c.in-Some.hi _ c.in-Some.is Equal
    (compared c.args.lo c.whole-limit.result Equal c.whole-limit.ensures c.places.ensures.canonical c.places-2.ensures.canonical c.in-Equal.ensures) _ refl

pub returns-in-Greater : goal.returns-in-Greater
returns-in-Greater c =
    as_said c.args.lo c.in-Some.hi _ c.in-Some.is Greater
    (compared c.args.lo c.whole-limit.result Greater c.whole-limit.ensures c.places.ensures.canonical c.places-2.ensures.canonical c.in-Greater.ensures) _ refl
