-- What a scene and a store stand for.
use Rattle.std.specs.Prelude.{ℕ, suc, ◌≤◌, List, [], ◌∷◌, drop}
use Rattle.tp_value.specs.declared.path.Fact.{Fact}
use Rattle.tp_meaning.specs.Course.{Course, Shows}
use Rattle.tp_meaning.specs.Bindings.{Locals}
use Rattle.tp_meaning.specs.Holds.{Context, Lasts}
use Rattle.tp_store.specs.Facts.{AgreesWithAll}
use Rattle.tp_store.specs.Known.{Variable, facts_below}
use Rattle.tp_eval.specs.Right.{values_at}
use Rattle.tp_scene.specs.Says.{RegionSays}
use Rattle.tp_scene.specs.Pick.{Setting, Moment}

-- each static local keeps one value; the first local has the number n
abbrev pub AllLast : (locals : List Variable) → (n : ℕ) → Locals → Type 0
AllLast [] n values = Unit {0}
AllLast (x ∷ xs) n values = Lasts x.lasting (values n) × AllLast xs (suc n) values

abbrev pub locals_of : (globals : ℕ) → List Variable → List Variable
locals_of globals xs = drop globals xs

abbrev pub context_of : Setting → Context
context_of w = record { defs = w.defs; inputs = w.inputs }

-- Scene and store stand for the interval from a to b of a course, and for what is shown on it: some
-- values of the locals, of which static ones keep theirs, make the first state agree with the
-- store, and the root hold at some depth.
pub record StandsFor (w : Setting) (globals : ℕ) (m : Moment) (s : Course) (a b : ℕ)
    (S : Shows) : Type 0 where
  pub in_order : a ≤ b
  pub locals : Locals
  pub last : AllLast (locals_of globals m.store.variables) globals locals
  pub agrees : AgreesWithAll (values_at globals s locals a) m.store.facts
  pub depth : ℕ
  pub says : RegionSays (context_of w) globals m.scene.root depth locals s a b S

-- the state agrees with the facts of the globals
abbrev pub AgreesWithGlobals : (globals : ℕ) → Course → ℕ → List Fact → Type 0
AgreesWithGlobals globals s a facts = AgreesWithAll (s a).values (facts_below globals facts)
