-- A new local in place of an item that is due.
use Rattle.std.specs.Prelude.{◌≡◌, ℕ, Bool, List, [], ◌∷◌, ◌++◌, get_or, slice_set, None}
use Rattle.tp_meaning.specs.Syntax.{place_binding}
use Rattle.tp_scene.specs.Scene as S
use Rattle.tp_scene.specs.Scene.{Bindings}
use Rattle.tp_decide.specs.declared.decision.Leaf.TheVariants as leaf
use Rattle.tp_decide.specs.declared.bound_formula.BoundFormula.{BoundFormula}
use Rattle.tp_slots.specs.Plain as plain
use Rattle.tp_slots.specs.declared.scene.Slot.{Slot}
use Rattle.tp_slots.specs.declared.scene.What.{What}
use Rattle.tp_slots.specs.declared.scene.What.TheVariants as what

-- a formula is due in a slot, under these bindings
abbrev pub IsDueUnder : Bindings → plain.What → Type 0
IsDueUnder env (plain.bare (S.Do f e)) = env ≡ e
IsDueUnder env (plain.bare (S.Later f e)) = ⊥
IsDueUnder env (plain.bare (S.Shown vs)) = ⊥
IsDueUnder env (plain.holds k r q) = ⊥
IsDueUnder env (plain.gone by) = ⊥

-- the bindings, and last that of a new local with this number
abbrev pub bound_last : Bindings → (number : ℕ) → (lasting : Bool) → Bindings
bound_last env n lasting =
    env ++ place_binding (record { var = record { number = n; lasting = lasting }; at = [] }) ∷ []

-- the slot of the item, as the code has it
abbrev pub slot_in : List Slot → (t : ℕ) → Slot
slot_in xs t = get_or xs t (record { home = 0; after = None; what = what.Gone 0 0 })

-- the same slot, with something else in it
abbrev pub slot_with : Slot → What → Slot
slot_with x w = record { home = x.home; after = x.after; what = w }

-- The formula was taken out of the slot of the item t; the item `next` stands in its place.
pub record IsTakenOut (t next : ℕ) (old : List Slot) (x : BoundFormula) (new : List Slot)
    : Type 0 where
  pub was : slot_in old t ≡ slot_with (slot_in old t) (what.Leaf (leaf.Do x))
  pub slots : new ≡ slice_set old t (slot_with (slot_in old t) (what.Gone next 1))
