-- What a scene says of an interval and of what is shown on it.
use Rattle.std.specs.Prelude.{◌≡◌, ℕ, suc, ◌<◌, IsTrue, [], ◌∷◌}
use Rattle.tp_meaning.specs.Syntax.{FormulaTree}
use Rattle.tp_meaning.specs.Course.{Course, Shows, Part, blank, shown_at, woven, Rising}
use Rattle.tp_meaning.specs.Bindings.{Locals, meanings_of}
use Rattle.tp_meaning.specs.Holds.{Context, Holds, Joined, Chopped, Projected}
use Rattle.tp_scene.specs.Scene.{Bindings, Side, Ending, Going, Head, marked, Leaf, Do, Later, Shown, Holder, Split, SplitProject, Closed, Opened, Running, Entries, none, leaf, node, Region}

-- a course, and the locals' values, at the cuts
abbrev pub at_cuts : {A : Type 0} → (ℕ → ℕ) → (ℕ → A) → ℕ → A
at_cuts c s = λ k. s (c k)

abbrev pub locals_at_cuts : (ℕ → ℕ) → Locals → Locals
locals_at_cuts c locals = λ y k. locals y (c k)

-- the interval from a to b has no next state, or has one
abbrev pub IsSo : Side → ℕ → ℕ → Type 0
IsSo Ending a b = a ≡ b
IsSo Going a b = a < b

-- the marks of a region are true of the interval
abbrev pub MarksHold : Head → ℕ → ℕ → Type 0
MarksHold h a b = (z : Side) → IsTrue (marked z h) → IsSo z a b

-- what is said, at a depth of calls, of a part of a course, where the locals have these values
abbrev pub Claim : Type 1
Claim = (depth : ℕ) → Locals → Course → Part

-- `globals` is the number of global variables; those with a greater number are locals.
module _ (w : Context) (globals : ℕ) where
  abbrev pub FormulaSays : FormulaTree → Bindings → Claim
  FormulaSays f env d locals s a b S = Holds w d f (meanings_of globals s locals env) s a b S

  abbrev pub LeafSays : Leaf → Claim
  LeafSays (Do f env) d locals s a b S = FormulaSays f env d locals s a b S
  LeafSays (Later f env) d locals s a b S = (a < b) × FormulaSays f env d locals s (suc a) b S
  LeafSays (Shown vs) d locals s a b S = S ≡ shown_at a (vs ∷ [])

  -- a projection of the piece, whose outer part is as `O` says on the course of the cut states
  abbrev pub OpenedSays : FormulaTree → Bindings → Claim → Claim
  OpenedSays f env O d locals s =
      Projected (λ i j T. FormulaSays f env d locals s i j T)
      (λ c i j V. O d (locals_at_cuts c locals) (at_cuts c s) i j V)

  -- the same, where there is a first piece, which is as `I` says
  abbrev pub RunningSays : FormulaTree → Bindings → Claim → Claim → Claim
  RunningSays f env I O d locals s a b S =
      (c : ℕ → ℕ) × (m : ℕ) × (V : Shows) × (T : ℕ → Shows)
      × Rising c × (c 0 ≡ a) × (c (suc m) ≡ b)
      × I d locals s (c 0) (c 1) (T 0)
      × ((j : ℕ) → 0 < j → j < suc m → FormulaSays f env d locals s (c j) (c (suc j)) (T j))
      × O d (locals_at_cuts c locals) (at_cuts c s) 0 (suc m) V × (S ≡ woven (suc m) 0 c V T)

  -- a part from the first state on as `I` says, and the rest as `A` says; they share a state
  abbrev pub SplitSays : Claim → Claim → Claim
  SplitSays I A d locals s = Chopped (I d locals s) (A d locals s)

  -- where `I` and `O` are what the region that is held and the second one say
  abbrev pub HolderSays : Holder → Claim → Claim → Claim
  HolderSays (Split f env) I O = SplitSays I (FormulaSays f env)
  HolderSays (SplitProject f env) I O = SplitSays I (OpenedSays f env O)
  HolderSays Closed I O = λ d locals s a b S. I d locals s a a S
  HolderSays (Opened f env) I O = OpenedSays f env I
  HolderSays (Running f env) I O = RunningSays f env I O

  -- The entries each hold, and their shows are joined in order.
  abbrev pub Says : Entries → Claim
  Says none d locals s a b S = S ≡ blank
  Says (leaf id l rest) d locals s a b S =
      Joined (LeafSays l d locals s) (Says rest d locals s) a b S
  Says (node id k h held g second rest) d locals s a b S =
      Joined (HolderSays k (λ d' l' s' i j V. MarksHold h i j × Says held d' l' s' i j V)
      (λ d' l' s' i j V. MarksHold g i j × Says second d' l' s' i j V) d locals s)
      (Says rest d locals s) a b S

  abbrev pub RegionSays : Region → Claim
  RegionSays r d locals s a b S = MarksHold r.head a b × Says r.entries d locals s a b S
