-- A text has one outcome as a trace.
use Rattle.std.specs.Prelude.{◌≡◌, ℕ, ◌<◌, ◌^◌, List, length}
use Rattle.tp_show.specs.declared.named_fact.NamedFact.{NamedFact}
use Rattle.tp_show.specs.Trace.{IsTrace, IsFirstBadLine}

-- fewer lines than 64 bits count are a trace of one list of states
abbrev pub OneTrace : Type 0
OneTrace =
    (texts : List (List ℕ)) → length texts < 2 ^ 64 → (states other : List (List NamedFact))
    → IsTrace texts states → IsTrace texts other → states ≡ other

abbrev pub OneBadLine : Type 0
OneBadLine =
    (texts : List (List ℕ)) (line other : ℕ) → IsFirstBadLine texts line
    → IsFirstBadLine texts other → line ≡ other

-- a trace has no bad line
abbrev pub NoBadTrace : Type 0
NoBadTrace =
    (texts : List (List ℕ)) (states : List (List NamedFact)) (line : ℕ) → IsTrace texts states
    → ¬ IsFirstBadLine texts line

pub record TracesAreReadOnce : Type 0 where
  pub trace : OneTrace
  pub bad_line : OneBadLine
  pub apart : NoBadTrace
