-- What a source in memory is told to do.
use Rattle.std.specs.Prelude.{ℕ, List, drop}
use Rattle.byte_io.specs.declared.memory_source.MemorySource.{MemorySource}

-- the numbers of the reads that are to fail
abbrev pub failing_calls : MemorySource → List ℕ
failing_calls source = source.schedule.fails.items

-- the number of reads so far, which stays at the last number
abbrev pub calls_made : MemorySource → ℕ
calls_made source = source.schedule.calls

-- the lengths of the pieces that are still to come
abbrev pub piece_lengths : MemorySource → List ℕ
piece_lengths source = drop source.given source.pieces.items
