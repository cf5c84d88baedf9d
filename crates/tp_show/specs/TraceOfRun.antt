-- The printed text of a run is a trace, which tells the facts of its states.
use Rattle.std.specs.Prelude.{◌≡◌, ◌⊎◌, Result, Ok, Err, ℕ, suc, ◌<◌, ◌≤◌, true, List, [], ◌∷◌, ◌++◌, map, length, All}
use Rattle.std.specs.List.{flat_map}
use Rattle.tp_value.specs.Number.{IsNumber}
use Rattle.tp_value.specs.Limits.{index_limit, path_limit, length_limit, IsWithinLimits}
use Rattle.tp_value.specs.declared.path.Path.{Path}
use Rattle.tp_value.specs.declared.path.Fact.{Fact}
use Rattle.tp_value.specs.declared.value.Shape.{Shape}
use Rattle.tp_value.specs.declared.value.Shape.TheVariants.{Num, Truth, Items}
use Rattle.tp_store.specs.Known.{Variable}
use Rattle.tp_show.specs.declared.turn.Picture.{Picture}
use Rattle.tp_show.specs.declared.turn.Turn.{Turn}
use Rattle.tp_show.specs.declared.turn.Turn.TheVariants.{Went, Finished, Contradictory, Undetermined, StateLimit, InputMissing, Over}
use Rattle.tp_show.specs.declared.named_fact.NamedFact.{NamedFact}
use Rattle.tp_show.specs.declared.trace.TraceRefusal.{TraceRefusal}
use Rattle.tp_show.specs.declared.trace.TraceRefusal.TheVariants.{NoMemory}
use Rattle.tp_show.specs.Texts.{global_name, last_words, end_line}
use Rattle.tp_show.specs.Line.{LinePartTree, valued, measured, line_parts, picture_lines, IsOneLine, fed_line}
use Rattle.tp_show.specs.FactsOf.{AreFactsOf, pictures_text}
use Rattle.tp_show.specs.Trace.{named_facts, IsVariableName, is_passed_over, IsTraceText}

-- names of variables, of which none stands twice
pub record AreVariableNames (names : List (List ℕ)) : Type 0 where
  pub each : All IsVariableName names
  pub apart : (i j : ℕ) → i < length names → j < length names
      → global_name names i ≡ global_name names j → i ≡ j

-- the index isn't too large
abbrev pub IsWithinIndexLimit : ℕ → Type 0
IsWithinIndexLimit i = i ≤ index_limit

-- the path isn't too long, and no index is too large
pub record IsPathWithinLimits (path : Path) : Type 0 where
  pub few : length path.at ≤ path_limit
  pub indices : All IsWithinIndexLimit path.at

-- the path of a part, and its value or length, are within the limits
abbrev pub IsPartWithinLimits : LinePartTree → Type 0
IsPartWithinLimits (valued path t) = IsPathWithinLimits path × IsWithinLimits t
IsPartWithinLimits (measured path n) = IsPathWithinLimits path × (n ≤ length_limit)

-- the number, or the length, is within the limits
abbrev pub IsShapeWithinLimits : Shape → Type 0
IsShapeWithinLimits (Num n) = IsNumber n
IsShapeWithinLimits (Truth b) = Unit {0}
IsShapeWithinLimits (Items n) = n ≤ length_limit

-- the fact's path, and its number or length, are within the limits
pub record IsFactWithinLimits (f : Fact) : Type 0 where
  pub path : IsPathWithinLimits f.path
  pub shape : IsShapeWithinLimits f.shape

-- What is written of facts within the limits is within them too.
abbrev pub FactsAreWrittenWithinLimits : Type 0
FactsAreWrittenWithinLimits =
    (names : List (List ℕ)) (facts : List Fact) → AreFactsOf names facts
    → All IsFactWithinLimits facts → All IsPartWithinLimits (line_parts facts)

-- a picture whose line can be read as that of a state: its facts are those of the variables with
-- these names, in order and without a clash, and what is written of them is within the limits
pub record IsReadable (names : List (List ℕ)) (picture : Picture) : Type 0 where
  pub facts : AreFactsOf names picture.facts
  pub limits : All IsPartWithinLimits (line_parts picture.facts)

-- a state as it is printed: its picture, and the further lines that stand behind the picture's
pub record PrintedState : Type 0 where
  pub picture : Picture
  pub further : List (List ℕ)

-- the picture's lines, and then the further ones
abbrev pub printed_state_lines : (names : List (List ℕ)) → PrintedState → List ℕ
printed_state_lines names printed =
    picture_lines names printed.picture ++ flat_map fed_line printed.further

-- of several states
abbrev pub printed_states_text : (names : List (List ℕ)) → List PrintedState → List ℕ
printed_states_text names states = flat_map (printed_state_lines names) states

-- a line that a trace passes over, without its line feed
abbrev pub IsFurtherLine : List ℕ → Type 0
IsFurtherLine line = IsOneLine line × (is_passed_over line ≡ true)

-- the picture can be read, and the further lines are passed over
pub record IsPrinted (names : List (List ℕ)) (printed : PrintedState) : Type 0 where
  pub picture : IsReadable names printed.picture
  pub further : All IsFurtherLine printed.further

-- the pictures' numbers count from this one
abbrev pub CountFrom : ℕ → List Picture → Type 0
CountFrom n [] = Unit {0}
CountFrom n (picture ∷ more) = (picture.state ≡ n) × CountFrom (suc n) more

-- the end line, on one line, of a run with these globals that gives some last answer; or nothing,
-- where it goes on
abbrev pub IsEnding : (globals : List (List ℕ)) → List ℕ → Type 0
IsEnding globals end =
    (known : List Variable) × (reductions : ℕ) × (turn : Turn)
    × IsOneLine (last_words globals known reductions turn)
    × (end ≡ end_line globals known reductions turn)

-- the port that the answer names, if it names one, has its name on one line
abbrev pub NamesPortOnOneLine : Turn → Type 0
NamesPortOnOneLine Went = Unit {0}
NamesPortOnOneLine (Finished length) = Unit {0}
NamesPortOnOneLine (Contradictory state clash) = Unit {0}
NamesPortOnOneLine (Undetermined state cell) = Unit {0}
NamesPortOnOneLine (StateLimit states) = Unit {0}
NamesPortOnOneLine (InputMissing state port) = IsOneLine port
NamesPortOnOneLine (Over state limit) = Unit {0}

abbrev pub HasNameOnOneLine : Variable → Type 0
HasNameOnOneLine variable = IsOneLine variable.name

-- An end line stands on one line where the names that it may give do: those of the variables that
-- are known, and that of a port.
abbrev pub EndLinesAreOneLine : Type 0
EndLinesAreOneLine =
    (names : List (List ℕ)) → AreVariableNames names → (known : List Variable)
    → All HasNameOnOneLine known → (reductions : ℕ) (turn : Turn) → NamesPortOnOneLine turn
    → IsOneLine (last_words names known reductions turn)

-- The texts of one or more states with the numbers 0, 1, .., one after another, and then nothing or
-- an end line, are a trace. Its states have the facts of the pictures.
abbrev pub PrintedStatesAreTrace : Type 0
PrintedStatesAreTrace =
    (names : List (List ℕ)) → AreVariableNames names → (states : List PrintedState)
    → All (IsPrinted names) states → CountFrom 0 (map (λ s. s.picture) states) → 0 < length states
    → (end : List ℕ) → IsEnding names end
    → IsTraceText (printed_states_text names states ++ end)
    (map (λ s. named_facts names s.picture) states)

-- The same of pictures with no further lines.
abbrev pub PicturesAreTrace : Type 0
PicturesAreTrace =
    (names : List (List ℕ)) → AreVariableNames names → (pictures : List Picture)
    → All (IsReadable names) pictures → CountFrom 0 pictures → 0 < length pictures
    → (end : List ℕ) → IsEnding names end
    → IsTraceText (pictures_text names pictures ++ end) (map (named_facts names) pictures)

pub record TracesTellFacts : Type 0 where
  pub printed : PrintedStatesAreTrace
  pub pictures : PicturesAreTrace
  pub limits : FactsAreWrittenWithinLimits
  pub end_lines : EndLinesAreOneLine

-- What reading a text comes to that is of one or more such states, with further lines behind each
-- or without, and then nothing or an end line: it gives exactly the facts of the pictures, and is
-- refused for want of memory alone.
abbrev pub ReadsPrinted : List ℕ → Result (List (List NamedFact)) TraceRefusal → Type 0
ReadsPrinted bytes result = (names : List (List ℕ)) → AreVariableNames names
    → (states : List PrintedState) → All (IsPrinted names) states
    → CountFrom 0 (map (λ s. s.picture) states) → 0 < length states
    → (end : List ℕ) → IsEnding names end → bytes ≡ printed_states_text names states ++ end
    → (result ≡ Ok (map (λ s. named_facts names s.picture) states)) ⊎ (result ≡ Err NoMemory)
