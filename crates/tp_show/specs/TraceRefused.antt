-- Why bytes are no trace.
use Rattle.std.specs.Prelude.{ℕ, List}
use Rattle.std.specs.Str.Lines.{lines}
use Rattle.tp_show.specs.declared.trace.TraceRefusal.{TraceRefusal}
use Rattle.tp_show.specs.declared.trace.TraceRefusal.TheVariants.{BadLine, NoMemory}
use Rattle.tp_show.specs.Trace.{IsFirstBadLine}

-- when each refusal comes; want of memory may come at any time
abbrev pub IsTraceRefusal : List ℕ → TraceRefusal → Type 0
IsTraceRefusal bytes (BadLine line) = IsFirstBadLine (lines bytes) line
IsTraceRefusal bytes NoMemory = Unit {0}
