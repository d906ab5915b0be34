use Rattle.std.proofs.Common.{length}
use Rattle.line_text.specs.Words.{words_left}
use Rattle.row_text.proofs.NoMemory.{given_takes_none, corr_takes_none, tolerance_takes_none}
use Rattle.row_text.proofs.read.read_begun_row.Goals as goal

pub returns-then-eq-clause-memory : goal.returns-then-eq-clause-memory
returns-then-eq-clause-memory c =
    λ h. absurd (given_takes_none c.read_given.result (length c.args.words.line) (words_left c.args.words) c.read_given.ensures.err h)

pub returns-then-eq-3-clause-memory : goal.returns-then-eq-3-clause-memory
returns-then-eq-3-clause-memory c =
    λ h. absurd (corr_takes_none c.read_corr.result (length c.args.words.line) (words_left c.args.words) c.read_corr.ensures.err h)

pub returns-then-eq-5-clause-memory : goal.returns-then-eq-5-clause-memory
returns-then-eq-5-clause-memory c =
    λ h. absurd (tolerance_takes_none c.read_tolerance.result (length c.args.words.line) (words_left c.args.words) c.read_tolerance.ensures.err h)
