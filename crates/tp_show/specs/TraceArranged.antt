-- The parts of a state's line may stand in any order: they give the same facts.
use Rattle.std.specs.Prelude.{◌≡◌, ◌⊎◌, Result, Ok, Err, ℕ, ◌<◌, List, [], ◌∷◌, ◌++◌, map, length, All, codes}
use Rattle.std.specs.List.{flat_map}
use Rattle.std.specs.List.Sorted.{IsPermutation}
use Rattle.tp_decide.specs.Read.{shows_of}
use Rattle.tp_show.specs.declared.named_fact.NamedFact.{NamedFact}
use Rattle.tp_show.specs.declared.trace.TraceRefusal.{TraceRefusal}
use Rattle.tp_show.specs.declared.trace.TraceRefusal.TheVariants.{NoMemory}
use Rattle.tp_show.specs.Line.{LinePartTree, line_parts, ToldState, told_lines, fed_line}
use Rattle.tp_show.specs.Trace.{TracePart, named_facts, SpellsPart, state_opening, IsStateLine}
use Rattle.tp_show.specs.TraceOfRun.{AreVariableNames, PrintedState, IsPrinted, CountFrom, IsEnding}

-- a part, with a text that spells it
pub record PartText : Type 0 where
  pub text : List ℕ
  pub part : TracePart
  pub spelled : SpellsPart text part

-- the line of the state with this number that has these parts
abbrev pub parts_line : (number : ℕ) → List PartText → List ℕ
parts_line number parts = state_opening number ++ flat_map (λ p. codes " " ++ p.text) parts

-- Where some parts make the line of a state, they do in every order, with the same facts in some
-- order.
abbrev pub OrderOfPartsTellsNothing : Type 0
OrderOfPartsTellsNothing =
    (number : ℕ) (parts other : List PartText) → IsPermutation parts other
    → (facts : List NamedFact) → IsStateLine number (parts_line number parts) facts
    → (again : List NamedFact) × IsPermutation facts again
    × IsStateLine number (parts_line number other) again

-- a state as it is printed, but for the parts of its line, which are these
pub record ArrangedState : Type 0 where
  pub printed : PrintedState
  pub parts : List LinePartTree

-- they are the parts that are printed, in some order
pub record IsArranged (names : List (List ℕ)) (arranged : ArrangedState) : Type 0 where
  pub printed : IsPrinted names arranged.printed
  pub parts : IsPermutation (line_parts arranged.printed.picture.facts) arranged.parts

-- its number, these parts, and what it shows
abbrev pub arranged_told : ArrangedState → ToldState
arranged_told arranged =
    record {
      state = arranged.printed.picture.state;
      parts = arranged.parts;
      shows = shows_of arranged.printed.picture.shows;
    }

-- the lines of such a state, and then the further ones
abbrev pub arranged_lines : (names : List (List ℕ)) → ArrangedState → List ℕ
arranged_lines names arranged =
    told_lines names (arranged_told arranged) ++ flat_map fed_line arranged.printed.further

-- of several states
abbrev pub arranged_text : (names : List (List ℕ)) → List ArrangedState → List ℕ
arranged_text names states = flat_map (arranged_lines names) states

-- so many states, each with the facts of its picture in some order
abbrev pub HaveFactsOf : (names : List (List ℕ)) → List ArrangedState → List (List NamedFact)
    → Type 0
HaveFactsOf names [] [] = Unit {0}
HaveFactsOf names [] (facts ∷ more) = ⊥
HaveFactsOf names (arranged ∷ states) [] = ⊥
HaveFactsOf names (arranged ∷ states) (facts ∷ more) =
    IsPermutation (named_facts names arranged.printed.picture) facts
    × HaveFactsOf names states more

-- What reading a text comes to that is of one or more such states, and then nothing or an end line:
-- it gives the facts of the pictures, in whatever order the parts of each line stand, and is
-- refused for want of memory alone.
abbrev pub ReadsArranged : List ℕ → Result (List (List NamedFact)) TraceRefusal → Type 0
ReadsArranged bytes result = (names : List (List ℕ)) → AreVariableNames names
    → (states : List ArrangedState) → All (IsArranged names) states
    → CountFrom 0 (map (λ a. a.printed.picture) states) → 0 < length states
    → (end : List ℕ) → IsEnding names end → bytes ≡ arranged_text names states ++ end
    → ((read : List (List NamedFact)) × (result ≡ Ok read) × HaveFactsOf names states read)
    ⊎ (result ≡ Err NoMemory)
