-- The plain table that a table of inputs stands for, and what the code answers of a line.
use Rattle.std.specs.Prelude.{ℕ, List, if◌then◌else◌}
use Rattle.tp_value.specs.Read.{tree}
use Rattle.tp_meaning.specs.Inputs.{InputTable}
use Rattle.tp_inputs.specs.declared.inputs.Inputs.{Inputs}
use Rattle.tp_inputs.specs.declared.part.FoundPart.{FoundPart}
use Rattle.tp_inputs.specs.declared.part.FoundPart.TheVariants as p
use Rattle.tp_inputs.specs.declared.fault.LineFault.TheVariants.{Bad, Twice, TooLong}
use Rattle.tp_inputs.specs.declared.refusal.InputsRefusal.{InputsRefusal}
use Rattle.tp_inputs.specs.declared.refusal.InputsRefusal.TheVariants as r
use Rattle.tp_inputs.specs.declared.refusal.LineRefusal.{LineRefusal}
use Rattle.tp_inputs.specs.declared.refusal.LineRefusal.TheVariants as l
use Rattle.tp_inputs.specs.declared.span.Span.{Span}
use Rattle.tp_inputs.specs.declared.span.LineHead.{LineHead}
use Rattle.tp_inputs.specs.FirstPart.{InputPart, Blank, Given, Faulty}
use Rattle.tp_inputs.specs.Table.{BeginsFault, StopsAt, HasFault}
use Rattle.tp_inputs.specs.Model.{table_of}
use Rattle.tp_inputs.specs.Spans.{is_given}

abbrev pub inputs_of : Inputs → InputTable
inputs_of t = table_of t.ports

-- the part that the code found, in a line that speaks for this span behind this table
abbrev pub part_of : Span → InputTable → FoundPart → InputPart
part_of span table p.Blank = Blank
part_of span table (p.Pair port value len) =
    if is_given table span port then Faulty Twice else Given port (tree value) len
part_of span table (p.Valueless port fault) =
    if is_given table span port then Faulty Twice else Faulty fault
part_of span table (p.Fault fault) = Faulty fault

-- the refusal of a text whose line with that number is refused so
abbrev pub refusal_in : LineRefusal → ℕ → InputsRefusal
refusal_in (l.Fault Bad) line = r.BadLine line
refusal_in (l.Fault Twice) line = r.TwicePort line
refusal_in (l.Fault TooLong) line = r.TooLong line
refusal_in l.NoMemory line = r.NoMemory

-- the fault that comes first in the rest of a line, behind this table, unless memory ran out
abbrev pub IsPartRefusal : Span → InputTable → List ℕ → LineRefusal → Type 0
IsPartRefusal span table z (l.Fault fault) = BeginsFault span table z fault
IsPartRefusal span table z l.NoMemory = Unit {0}

-- the fault of what is left of a line, unless memory ran out
abbrev pub IsPairsRefusal : Span → InputTable → List ℕ → LineRefusal → Type 0
IsPairsRefusal span table z (l.Fault fault) = StopsAt span z table fault
IsPairsRefusal span table z l.NoMemory = Unit {0}

-- what was answered of a line, unless memory ran out
abbrev pub IsLineRefusal : LineHead → List ℕ → InputTable → LineRefusal → Type 0
IsLineRefusal head line table (l.Fault fault) = HasFault head line table fault
IsLineRefusal head line table l.NoMemory = Unit {0}
