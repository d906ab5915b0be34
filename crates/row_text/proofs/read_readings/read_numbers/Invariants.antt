use Rattle.line_text.specs.Words.{words_left}
use Rattle.row_text.specs.Readings.{numbers_of}
use Rattle.row_text.proofs.ReadNumbers.{AreRead}
use Rattle.row_text.proofs.read_readings.read_numbers.Given as goal

abbrev pub invariant-loop-word : goal.invariant-loop-word
invariant-loop-word l = AreRead (numbers_of (words_left l.fn.words)) l.numbers.items (words_left l.words)
