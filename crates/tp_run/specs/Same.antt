-- What is the same of a state, and of a run, in each order of picks: pictures, cells and ends.
use Rattle.std.specs.Prelude.{◌≡◌, ℕ, List, [], ◌∷◌, slice_get}
use Rattle.tp_store.specs.Known.{Variable}
use Rattle.tp_decide.specs.Read.{shows_of}
use Rattle.tp_scene.specs.declared.answer.Cell.{Cell}
use Rattle.tp_show.specs.declared.turn.Picture.{Picture}
use Rattle.tp_show.specs.declared.turn.Turn.{Turn}
use Rattle.tp_show.specs.declared.turn.Turn.TheVariants.{Went, Finished, Contradictory, Undetermined, StateLimit, InputMissing, Over}
use Rattle.tp_run.specs.History.{RunEndsWith, end_store, Plan, globals_of}
use Rattle.tp_step_laws.specs.Maps.{Renaming, FixesBelow, renamed_cell}

-- Two pictures have the same number, the same facts, the same shows, and as many reductions.
pub record SamePicture (p q : Picture) : Type 0 where
  pub state : q.state ≡ p.state
  pub facts : q.facts ≡ p.facts
  pub shows : shows_of q.shows ≡ shows_of p.shows
  pub reductions : q.reductions ≡ p.reductions

-- so many pictures, which are the same one by one
abbrev pub SamePictures : List Picture → List Picture → Type 0
SamePictures [] [] = Unit {0}
SamePictures [] (q ∷ qs) = ⊥
SamePictures (p ∷ ps) [] = ⊥
SamePictures (p ∷ ps) (q ∷ qs) = SamePicture p q × SamePictures ps qs

-- The same cell, up to the numbers of regions and locals; each local keeps its name and kind in the
-- variables of the other store.
abbrev pub SameCell : (globals : ℕ) (xs ys : List Variable) → Cell → Cell → Type 0
SameCell globals xs ys c d =
    (ρ : Renaming) × FixesBelow globals ρ.local
    × ((i : ℕ) → slice_get ys (ρ.local.to i) ≡ slice_get xs i)
    × (d ≡ renamed_cell ρ c)

-- the state with this number fails: it meets a clash, misses an input or passes a limit
abbrev pub FailsIn : ℕ → Turn → Type 0
FailsIn n Went = ⊥
FailsIn n (Finished length) = ⊥
FailsIn n (Contradictory state clash) = state ≡ n
FailsIn n (Undetermined state cell) = ⊥
FailsIn n (StateLimit states) = ⊥
FailsIn n (InputMissing state port) = state ≡ n
FailsIn n (Over state limit) = state ≡ n

-- The same end, at a cell of the same name. Where a state fails it is free which of its failures is
-- named.
abbrev pub SameEnd : (globals : ℕ) (xs ys : List Variable) → Turn → Turn → Type 0
SameEnd globals xs ys Went turn = turn ≡ Went
SameEnd globals xs ys (Finished n) turn = turn ≡ Finished n
SameEnd globals xs ys (Contradictory state clash) turn = FailsIn state turn
SameEnd globals xs ys (Undetermined state cell) turn =
    (d : Cell) × (turn ≡ Undetermined state d) × SameCell globals xs ys cell d
SameEnd globals xs ys (StateLimit states) turn = turn ≡ StateLimit states
SameEnd globals xs ys (InputMissing state port) turn = FailsIn state turn
SameEnd globals xs ys (Over state limit) turn = FailsIn state turn

-- two runs of a plan end the same
abbrev pub EndTheSame : (plan : Plan) (ps : List Picture) (turn : Turn) → RunEndsWith plan ps turn
    → (qs : List Picture) (other : Turn) → RunEndsWith plan qs other → Type 0
EndTheSame plan ps turn run qs other another =
    SameEnd (globals_of plan) (end_store plan ps turn run).variables
    (end_store plan qs other another).variables turn other

-- The end isn't a failure: the run finishes, is open at a cell, or has settled as many states as it
-- may.
abbrev pub FailsNowhere : Turn → Type 0
FailsNowhere Went = ⊥
FailsNowhere (Finished length) = Unit {0}
FailsNowhere (Contradictory state clash) = ⊥
FailsNowhere (Undetermined state cell) = Unit {0}
FailsNowhere (StateLimit states) = Unit {0}
FailsNowhere (InputMissing state port) = ⊥
FailsNowhere (Over state limit) = ⊥
