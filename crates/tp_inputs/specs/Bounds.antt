-- What the states of a span, and the head of a line, come to at most.
use Rattle.std.specs.Prelude.{ℕ, ◌^◌, ◌<◌, ◌≤◌, List, length}
use Rattle.tp_inputs.specs.declared.span.Span.{Span}
use Rattle.tp_inputs.specs.declared.span.Span.TheVariants.{States, Others}
use Rattle.tp_inputs.specs.declared.span.LineHead.{LineHead}
use Rattle.tp_inputs.specs.declared.span.LineHead.TheVariants.{Speaks, Silent, Unheard}

-- a first state that isn't past the last, and a last state behind which there is one more
abbrev pub IsSpan : Span → Type 0
IsSpan (States a b) = (a ≤ b) × (b < 2 ^ 63)
IsSpan Others = Unit {0}

-- the head is within its line
abbrev pub HeadBounds : List ℕ → LineHead → Type 0
HeadBounds line (Speaks span n) = IsSpan span × (n ≤ length line)
HeadBounds line Silent = Unit {0}
HeadBounds line Unheard = Unit {0}
