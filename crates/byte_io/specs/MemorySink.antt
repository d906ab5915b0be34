-- What a sink in memory is told to do.
use Rattle.std.specs.Prelude.{ℕ, List}
use Rattle.byte_io.specs.declared.memory_sink.MemorySink.{MemorySink}

-- the numbers of the writes that are to fail
abbrev pub failing_calls : MemorySink → List ℕ
failing_calls sink = sink.schedule.fails.items

-- the number of writes so far, which stays at the last number
abbrev pub calls_made : MemorySink → ℕ
calls_made sink = sink.schedule.calls
