-- What a run stands for, and what its answers say of every interval.
use Rattle.std.specs.Prelude.{◌≡◌, ◌↔◌, ℕ, suc, ◌<◌, ◌≤◌, [], length}
use Rattle.tp_meaning.specs.Course.{Course, Shows, Part, ◌⊕◌, shown_at}
use Rattle.tp_meaning.specs.Holds.{Holds}
use Rattle.tp_meaning.specs.Interval.{kinds_of, KeepsLasting}
use Rattle.tp_decide.specs.Read.{shows_of}
use Rattle.tp_scene.specs.StandsFor.{StandsFor, context_of}
use Rattle.tp_show.specs.declared.turn.Picture.{Picture}
use Rattle.tp_show.specs.declared.turn.Turn.{Turn}
use Rattle.tp_show.specs.declared.turn.Turn.TheVariants.{Went, Finished, Contradictory, Undetermined, StateLimit, InputMissing, Over}
use Rattle.tp_run.specs.History.{Plan, globals_of, setting, AgreesWithFacts}
use Rattle.tp_run.specs.Standing.{Standing, open_at, answered, spent}

-- the intervals, with what is shown on them, that the states still to come are free to be; the next
-- one has this number
abbrev pub StandingFor : Plan → ℕ → Standing → Course → Part
StandingFor plan n (open_at m) s a b S = StandsFor (setting plan n) (globals_of plan) m s a b S
StandingFor plan n (answered turn m) s a b S = ⊥
StandingFor plan n spent s a b S = ⊥

-- before its first state a run stands for exactly the intervals on which the formula holds, with
-- what is shown on them
abbrev pub StandsForItsProgram : Plan → Standing → Type 0
StandsForItsProgram plan standing =
    (s : Course) (a b : ℕ) (S : Shows) → StandingFor plan 0 standing s a b S
    ↔ ((a ≤ b) × ((d : ℕ) × Holds (context_of (setting plan 0)) d plan.program.main [] s a b S))

-- A run that stood at `old` before state n made that state, with this picture, and stands at `new`;
-- or it ended with this answer. Said of the intervals on which static variables keep their values
-- and whose first state has the number n. Where the run went on, it stood for an interval exactly
-- where there is a next state, the first one agrees with the picture and shows what that has, and
-- the run stands for the rest now. Where it finished: exactly where there is no next state, the one
-- state agrees with the picture, and that is what is shown. Where it met a clash, or an input was
-- missing, it stood for none.
abbrev pub AnswerMeans : Plan → ℕ → Standing → Standing → Picture → Turn → Type 0
AnswerMeans plan n (open_at m) new picture Went =
    (s : Course) (a b : ℕ) (S : Shows) → KeepsLasting (kinds_of plan.program.globals) s a b
    → (s a).own ≡ n
    → StandingFor plan n (open_at m) s a b S
    ↔ ((a < b) × AgreesWithFacts s a picture.facts
    × ((U : Shows) × (S ≡ shown_at a (shows_of picture.shows) ⊕ U)
    × StandingFor plan (suc n) new s (suc a) b U))
AnswerMeans plan n (open_at m) new picture (Finished length) =
    (s : Course) (a b : ℕ) (S : Shows) → KeepsLasting (kinds_of plan.program.globals) s a b
    → (s a).own ≡ n
    → StandingFor plan n (open_at m) s a b S
    ↔ ((a ≡ b) × AgreesWithFacts s a picture.facts × (S ≡ shown_at a (shows_of picture.shows)))
AnswerMeans plan n (open_at m) new picture (Contradictory state clash) =
    (s : Course) (a b : ℕ) (S : Shows) → (s a).own ≡ n → StandingFor plan n (open_at m) s a b S → ⊥
AnswerMeans plan n (open_at m) new picture (InputMissing state port) =
    (s : Course) (a b : ℕ) (S : Shows) → (s a).own ≡ n → StandingFor plan n (open_at m) s a b S → ⊥
AnswerMeans plan n (open_at m) new picture (Undetermined state cell) = Unit {0}
AnswerMeans plan n (open_at m) new picture (StateLimit states) = Unit {0}
AnswerMeans plan n (open_at m) new picture (Over state limit) = Unit {0}
AnswerMeans plan n (answered last m) new picture turn = Unit {0}
AnswerMeans plan n spent new picture turn = Unit {0}
