use Rattle.std.proofs.Common.{refl, arith}
use Rattle.sheet_edits.proofs.laws.the_empty_sheet_stands.Goals as goal

pub returns : goal.returns
returns c =
    record {
      well_formed = record { limit = omega arith; once = refl; known = refl; earlier = refl; correlatable = refl; apart = refl };
      regular = tt;
    }
