-- Checked programs and tables of inputs are printable, and what their runs print can be read by a
-- trace.
use Rattle.std.specs.Prelude.{ℕ, List, All, Ok}
use Rattle.tp_lex.specs.declared.token.Token.{Token}
use Rattle.tp_lex.specs.Tokens.{AreTokens}
use Rattle.tp_lex.specs.Names.{token_names}
use Rattle.tp_tree.specs.Tree.{SourceTree}
use Rattle.tp_tree.specs.Names.{source_names}
use Rattle.tp_meaning.specs.Syntax.{Definition}
use Rattle.tp_meaning.specs.Interval.{ProgramTree}
use Rattle.tp_meaning.specs.Inputs.{InputTable}
use Rattle.tp_inputs.specs.Table.{IsInputsText}
use Rattle.tp_store.specs.Known.{Variable}
use Rattle.tp_scene.specs.Scene.{Scene}
use Rattle.tp_residual.specs.Residual.{residual_phrase}
use Rattle.tp_check.specs.Program.{ChecksTo}
use Rattle.tp_show.specs.declared.turn.Picture.{Picture}
use Rattle.tp_show.specs.declared.turn.Turn.{Turn}
use Rattle.tp_show.specs.Line.{line_parts, IsOneLine}
use Rattle.tp_show.specs.FactsOf.{AreFactsOf}
use Rattle.tp_show.specs.Trace.{IsVariableName}
use Rattle.tp_show.specs.TraceOfRun.{IsPartWithinLimits, HasNameOnOneLine, NamesPortOnOneLine}
use Rattle.tp_run.specs.History.{Plan, RunEndsWith, end_store}
use Rattle.tp_run_laws.specs.Printable.{DefinitionIsPrintable, ProgramIsPrintable, EntriesArePrintable, InputsArePrintable}

-- Each name among the tokens of a text is a variable's name.
abbrev pub TokenNamesAreOfVariables : Type 0
TokenNamesAreOfVariables =
    (bytes : List ℕ) (tokens : List Token) → AreTokens bytes tokens
    → All IsVariableName (token_names tokens)

-- A program that is made of a source with each name on one line is printable.
abbrev pub CheckedProgramsArePrintable : Type 0
CheckedProgramsArePrintable =
    (source : SourceTree) (program : ProgramTree) → ChecksTo source (Ok program)
    → All IsOneLine (source_names source) → ProgramIsPrintable program

-- So is a table of inputs.
abbrev pub TablesArePrintable : Type 0
TablesArePrintable =
    (bytes : List ℕ) (table : InputTable) → IsInputsText bytes table → InputsArePrintable table

-- A residual phrase stands on one line where the scene and the definitions are printable, and the
-- variables' names do.
abbrev pub ResidualsAreOneLine : Type 0
ResidualsAreOneLine =
    (variables : List Variable) (definitions : List Definition) (s : Scene)
    → All HasNameOnOneLine variables → All DefinitionIsPrintable definitions
    → EntriesArePrintable s.root.entries → IsOneLine (residual_phrase variables definitions s)

-- what is written of the picture is within the limits, where its facts are those of the variables
-- with these names, in order and without a clash
abbrev pub IsWrittenWithinLimits : (names : List (List ℕ)) → Picture → Type 0
IsWrittenWithinLimits names picture =
    AreFactsOf names picture.facts → All IsPartWithinLimits (line_parts picture.facts)

-- Of a run: what is written of its states is within the limits, and the variables that are known at
-- its end, and the port that its answer names, have their names on one line.
pub record RunIsPrintable (plan : Plan) (pictures : List Picture) (turn : Turn)
    (end : RunEndsWith plan pictures turn) : Type 0 where
  pub limits : All (IsWrittenWithinLimits plan.program.globals) pictures
  pub variables : All HasNameOnOneLine (end_store plan pictures turn end).variables
  pub port : NamesPortOnOneLine turn

-- Each run of a printable program with printable inputs is so.
abbrev pub RunsArePrintable : Type 0
RunsArePrintable =
    (plan : Plan) → ProgramIsPrintable plan.program → InputsArePrintable plan.inputs
    → (pictures : List Picture) (turn : Turn) (end : RunEndsWith plan pictures turn)
    → RunIsPrintable plan pictures turn end
