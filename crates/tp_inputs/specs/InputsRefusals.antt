-- When a text of inputs is refused.
use Rattle.std.specs.Prelude.{ℕ, List}
use Rattle.std.specs.Str.Lines.{lines}
use Rattle.tp_inputs.specs.declared.fault.LineFault.TheVariants.{Bad, Twice, TooLong}
use Rattle.tp_inputs.specs.declared.refusal.InputsRefusal.{InputsRefusal}
use Rattle.tp_inputs.specs.declared.refusal.InputsRefusal.TheVariants as r
use Rattle.tp_inputs.specs.Table.{IsFirstFault}

-- when each refusal comes; want of memory may come at any time
abbrev pub IsInputsRefusal : List ℕ → InputsRefusal → Type 0
IsInputsRefusal bytes (r.BadLine line) = IsFirstFault (lines bytes) line Bad
IsInputsRefusal bytes (r.TwicePort line) = IsFirstFault (lines bytes) line Twice
IsInputsRefusal bytes (r.TooLong line) = IsFirstFault (lines bytes) line TooLong
IsInputsRefusal bytes r.NoMemory = Unit {0}
