-- What a formula reads: its own part of the course and of the environment, wherever that part lies,
-- and nothing else.
use Rattle.std.specs.Prelude.{◌≡◌, ℕ, suc, ◌≤◌, ◌<◌, [], ◌∷◌}
use Rattle.tp_meaning.specs.Syntax.{FormulaTree}
use Rattle.tp_meaning.specs.Course.{Course, Shows}
use Rattle.tp_meaning.specs.Value.{Meaning, fixed, varying, Env}
use Rattle.tp_meaning.specs.Holds.{Context, Holds}

-- The positions j from a to b go to positions at j: the next one to the next one.
abbrev pub InStep : (ℕ → ℕ) → ℕ → ℕ → Type 0
InStep at a b = (j : ℕ) → a ≤ j → j < b → at (suc j) ≡ suc (at j)

-- what the second means where the positions go is what the first means
abbrev pub MeaningMoved : (ℕ → ℕ) → ℕ → ℕ → Meaning → Meaning → Type 0
MeaningMoved at a b (fixed t) (fixed u) = u ≡ t
MeaningMoved at a b (varying f) (varying g) = (j : ℕ) → a ≤ j → j ≤ b → g (at j) ≡ f j
MeaningMoved at a b _ _ = ⊥

abbrev pub EnvMoved : (ℕ → ℕ) → ℕ → ℕ → Env → Env → Type 0
EnvMoved at a b [] [] = Unit {0}
EnvMoved at a b (m ∷ ms) (n ∷ ns) = MeaningMoved at a b m n × EnvMoved at a b ms ns
EnvMoved at a b _ _ = ⊥

-- the states are the same there
abbrev pub CourseMoved : (ℕ → ℕ) → ℕ → ℕ → Course → Course → Type 0
CourseMoved at a b s t = (j : ℕ) → a ≤ j → j ≤ b → t (at j) ≡ s j

-- nothing is shown outside of the interval from a to b
pub record IsWithin (a b : ℕ) (S : Shows) : Type 0 where
  pub before : (j : ℕ) → j < a → S j ≡ []
  pub after : (j : ℕ) → b < j → S j ≡ []

-- the same is shown there, and nothing elsewhere
pub record ShowsMoved (at : ℕ → ℕ) (a b : ℕ) (S T : Shows) : Type 0 where
  pub there : (j : ℕ) → a ≤ j → j ≤ b → T (at j) ≡ S j
  pub elsewhere : IsWithin (at a) (at b) T

abbrev pub MeaningsMove : Type 0
MeaningsMove =
    (w : Context) (d : ℕ) (f : FormulaTree) (at : ℕ → ℕ) (env env' : Env) (s s' : Course) (a b : ℕ)
    (S S' : Shows) → a ≤ b →
    InStep at a b → EnvMoved at a b env env' → CourseMoved at a b s s' → ShowsMoved at a b S S' →
    Holds w d f env s a b S → Holds w d f env' s' (at a) (at b) S'

-- the same without a move: what lies outside of the interval plays no part
abbrev pub MeaningsReadTheirPart : Type 0
MeaningsReadTheirPart =
    (w : Context) (d : ℕ) (f : FormulaTree) (env env' : Env) (s s' : Course) (a b : ℕ) (S : Shows)
    → a ≤ b →
    EnvMoved (λ j. j) a b env env' → CourseMoved (λ j. j) a b s s' → Holds w d f env s a b S
    → Holds w d f env' s' a b S

abbrev pub NothingShownOutside : Type 0
NothingShownOutside =
    (w : Context) (d : ℕ) (f : FormulaTree) (env : Env) (s : Course) (a b : ℕ) (S : Shows) → a ≤ b
    → Holds w d f env s a b S → IsWithin a b S
