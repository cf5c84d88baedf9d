-- That the text of a run can be read back in one way only, and what it tells of its states.
use Rattle.std.specs.Prelude.{◌≡◌, ◌↔◌, ℕ, List, ◌++◌, map, All}
use Rattle.tp_value.specs.Tree.{Tree}
use Rattle.tp_value.specs.declared.path.Fact.{Fact}
use Rattle.tp_store.specs.Facts.{AgreesWithAll}
use Rattle.tp_decide.specs.Read.{shows_of}
use Rattle.tp_show.specs.declared.turn.Picture.{Picture}
use Rattle.tp_show.specs.Line.{line_parts, ToldState, told_text}
use Rattle.tp_show.specs.FactsOf.{AreFactsOf, pictures_text}
use Rattle.tp_show.specs.Told.{AreNames, IsPictureInRange, IsToldOf, HasPart, IsEndLine}

-- What the lines of states tell before an end line is read back in one way only, and so is the end
-- line.
abbrev pub TextsAreReadOnce : Type 0
TextsAreReadOnce =
    (names : List (List ℕ)) → AreNames names → (told other : List ToldState)
    → All (IsToldOf names) told → All (IsToldOf names) other
    → (end last : List ℕ) → IsEndLine names end → IsEndLine names last
    → told_text names told ++ end ≡ told_text names other ++ last
    → (told ≡ other) × (end ≡ last)

-- What is told of facts in order and without a clash says as much as the facts: values agree with
-- the one exactly where they agree with the other.
abbrev pub PartsTellFacts : Type 0
PartsTellFacts =
    (names : List (List ℕ)) (facts : List Fact) → AreFactsOf names facts → (values : ℕ → Tree)
    → AgreesWithAll values facts ↔ All (HasPart values) (line_parts facts)

pub record TextsTell : Type 0 where
  pub once : TextsAreReadOnce
  pub facts : PartsTellFacts

-- a state of which these facts are known, in order and without a clash, of the variables with these
-- names
pub record IsStateOf (names : List (List ℕ)) (picture : Picture) : Type 0 where
  pub facts : AreFactsOf names picture.facts
  pub range : IsPictureInRange picture

-- a state's number, its facts and its shows
pub record Shown : Type 0 where
  pub state : ℕ
  pub facts : List Fact
  pub shows : List (List Tree)

abbrev pub shown_states : List Picture → List Shown
shown_states pictures =
    map (λ (p : Picture). record { state = p.state; facts = p.facts; shows = shows_of p.shows })
    pictures

-- Two runs with one text have the same states with the same facts and the same shows, and end in
-- the same words.
abbrev pub TextShowsStates : Type 0
TextShowsStates =
    (names : List (List ℕ)) → AreNames names → (ps qs : List Picture) → All (IsStateOf names) ps
    → All (IsStateOf names) qs
    → (end last : List ℕ) → IsEndLine names end → IsEndLine names last
    → pictures_text names ps ++ end ≡ pictures_text names qs ++ last
    → (shown_states ps ≡ shown_states qs) × (end ≡ last)
