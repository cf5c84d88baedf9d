-- What is to be done with an item, and what carrying it out answers.
use Rattle.std.specs.Prelude.{◌≡◌, ℕ, ◌<◌, List, [], Option, Some, None, Result, Ok, Err}
use Rattle.tp_value.specs.declared.path.Fact.{Fact}
use Rattle.tp_store.specs.Answers.{Adds, IsRefusal}
use Rattle.tp_store.specs.Known.{Addition, Contents, NoClash}
use Rattle.tp_store.specs.declared.add.AddRefusal.{AddRefusal}
use Rattle.tp_meaning.specs.Syntax.{FormulaTree}
use Rattle.tp_scene.specs.Scene.{Bindings, Do}
use Rattle.tp_scene.specs.Step.{Reduction, PickOutcome, reduces, rests, Numbers, knows}
use Rattle.tp_scene.specs.Pick.{Setting, Moment, outcome_of, HasAdded}
use Rattle.tp_decide.specs.declared.decision.Decision.{Decision}
use Rattle.tp_decide.specs.declared.decision.Decision.TheVariants as decision
use Rattle.tp_decide.specs.declared.holder.HolderDecision.{HolderDecision}
use Rattle.tp_decide.specs.declared.holder.HolderKind.{HolderKind}
use Rattle.tp_decide.specs.declared.bound_formula.BoundFormula.{BoundFormula}
use Rattle.tp_decide.specs.Decided.{decided_outcome}
use Rattle.tp_decide.specs.ReadBound.{formula_of, env_of}
use Rattle.tp_decide.specs.Fits.{SetsVariables}
use Rattle.tp_decide.specs.Holders.{IsOfKind, kind_of, holder_decided}
use Rattle.tp_slots.specs.Bound.{IsDueUnder}
use Rattle.tp_slots.specs.Plain.{What, bare, holds, gone, Slots, head_at, other_head, second_of, entries_at}
use Rattle.tp_slots.specs.Read.{slots_of, item_what}
use Rattle.tp_slots.specs.Reductions.{IsBare}
use Rattle.tp_slots.specs.Kept.{outcome_in, numbers_in}
use Rattle.tp_slots.specs.declared.scene.Scene.{Scene}
use Rattle.tp_step.specs.Answers.{Tries, moment_of}
use Rattle.tp_step.specs.declared.step.Choice.{Choice}
use Rattle.tp_step.specs.declared.step.Choice.TheVariants as choice
use Rattle.tp_step.specs.declared.answer.Tried.{Tried}

-- the kind of the item with a region that stands in a slot
abbrev pub kind_in : What → Option HolderKind
kind_in (bare l) = None
kind_in (holds k r q) = Some (kind_of k)
kind_in (gone by) = None

-- the formula is what is due in a slot, or nothing is due there
abbrev pub IsDueIn : What → Option BoundFormula → Type 0
IsDueIn x (Some bound) = x ≡ bare (Do (formula_of bound) (env_of bound))
IsDueIn x None = (f : FormulaTree) (env : Bindings) → x ≡ bare (Do f env) → ⊥

-- what a decision on it stands for
abbrev pub held_decided : Slots → What → Numbers → HolderDecision → PickOutcome
held_decided s (bare l) n d = rests
held_decided s (holds k r q) n d =
    holder_decided k (record { head = head_at s r; entries = entries_at s r })
    (record { head = other_head s q; entries = second_of (entries_at s) q }) n d
held_decided s (gone by) n d = rests

-- a decision on an item of that kind
abbrev pub FitsHolder : What → HolderDecision → Type 0
FitsHolder (bare l) d = ⊥
FitsHolder (holds k r q) d = IsOfKind (kind_of k) d
FitsHolder (gone by) d = ⊥

-- what a decision on the item t, which holds a region, stands for
abbrev pub holder_outcome : Contents → Scene → (t : ℕ) → HolderDecision → PickOutcome
holder_outcome k s t d = held_decided (slots_of s) (item_what s t) (numbers_in k s) d

-- Where a name is bound, it is under the bindings of what is due in the slot.
abbrev pub BindsThere : What → Decision → Type 0
BindsThere x (decision.Becomes news mark) = Unit {0}
BindsThere x (decision.Splits first after) = Unit {0}
BindsThere x (decision.Opens outer piece) = Unit {0}
BindsThere x (decision.Binds name lasting body) = IsDueUnder (env_of body) x
BindsThere x (decision.Sets p v) = Unit {0}
BindsThere x (decision.Measures p k) = Unit {0}
BindsThere x (decision.Shares to k news) = Unit {0}
BindsThere x (decision.Waits first other) = Unit {0}
BindsThere x decision.Rests = Unit {0}
BindsThere x (decision.Clashes c) = Unit {0}
BindsThere x (decision.Misses port) = Unit {0}
BindsThere x (decision.Passes k) = Unit {0}

-- What was chosen for the item t stands for its outcome.
abbrev pub IsChoice : Setting → Contents → Scene → (t : ℕ) → Choice → Type 0
IsChoice w k s t (choice.Leaf d) =
    IsBare (item_what s t) × SetsVariables k.variables d
    × (outcome_in w k s t ≡ decided_outcome k.facts (numbers_in k s) d)
    × BindsThere (item_what s t) d
IsChoice w k s t (choice.Holder d) =
    FitsHolder (item_what s t) d × (outcome_in w k s t ≡ holder_outcome k s t d)

-- Where the item t has this outcome, this is what a try of it answers and leaves.
abbrev pub Carries : PickOutcome → (room : ℕ) → Moment → (t : ℕ) → Moment → Tried → Type 0
Carries o room m t next tried =
    (w : Setting) → outcome_of w m.store m.scene t ≡ o → Tries w room m t next tried

-- The same of what a decision stands for, of what one on an item with a region does, and of a
-- reduction that brings no fact, local or mark; whatever is known.
abbrev pub CarriesDecision : Decision → (room : ℕ) → (old new : Scene) → (t : ℕ) → Tried → Type 0
CarriesDecision d room old new t tried =
    (k : Contents) → NoClash k.facts
    → Carries (decided_outcome k.facts (numbers_in k old) d) room (moment_of old k) t
    (moment_of new k) tried

abbrev pub CarriesHolder : HolderDecision → (room : ℕ) → (old new : Scene) → (t : ℕ) → Tried
    → Type 0
CarriesHolder d room old new t tried =
    (k : Contents) → NoClash k.facts
    → Carries (holder_outcome k old t d) room (moment_of old k) t (moment_of new k) tried

-- a reduction that gives items and regions alone
pub record GivesItemsAlone (r : Reduction) : Type 0 where
  pub local : r.local ≡ None
  pub mark : r.mark ≡ None
  pub facts : r.facts ≡ []

abbrev pub CarriesMove : (room : ℕ) → (old new : Scene) → (t : ℕ) → Tried → Type 0
CarriesMove room old new t tried =
    (k : Contents) (r : Reduction) → NoClash k.facts → GivesItemsAlone r
    → Carries (reduces r) room (moment_of old k) t (moment_of new k) tried

-- Facts that were added are what a try of the item t answers, and it leaves no item in its place.
abbrev pub CarriesFacts : List Fact → (old new : Scene) → (t : ℕ) → Tried → Type 0
CarriesFacts facts old new t tried =
    (room : ℕ) (k j : Contents) → 0 < room → HasAdded k facts None j
    → Carries (knows facts) room (moment_of old k) t (moment_of new j) tried

-- The item's outcome is what the decision stands for, by some setting and some store.
abbrev pub IsHolderOutcome : Scene → (t : ℕ) → HolderDecision → Type 0
IsHolderOutcome s t d =
    (w : Setting) × (k : Contents) × (outcome_in w k s t ≡ holder_outcome k s t d)

-- what a store says of adding facts, without adding them
abbrev pub AllowsAddition : Addition → Result (Unit {0}) AddRefusal → Type 0
AllowsAddition o (Ok u) = Adds o
AllowsAddition o (Err refusal) = IsRefusal o refusal
