-- How many tasks a walk has.
use Rattle.std.specs.Prelude.{ℕ, zero, suc, ◌+◌, List, [], ◌∷◌, length, Option, Some, None}
use Rattle.tp_slots.specs.Plain.{What, bare, holds, gone, Slots, slot_at, region_slot}
use Rattle.tp_slots.specs.Read.{slots_of}
use Rattle.tp_slots.specs.declared.scene.Scene.{Scene}
use Rattle.tp_slots.specs.declared.walk.WalkTask.{WalkTask}
use Rattle.tp_slots.specs.declared.walk.WalkTask.TheVariants.{Visit, Tell}

abbrev pub sum_over : (ℕ → ℕ) → List ℕ → ℕ
sum_over cost [] = 0
sum_over cost (t ∷ ts) = cost t + sum_over cost ts

abbrev pub second_cost : (ℕ → ℕ) → Option ℕ → ℕ
second_cost deeper None = 0
second_cost deeper (Some q) = deeper q

abbrev pub what_cost : (deeper each : ℕ → ℕ) → What → ℕ
what_cost deeper each (bare l) = 0
what_cost deeper each (holds k r q) = suc (deeper r + second_cost deeper q)
what_cost deeper each (gone by) = sum_over each by

abbrev pub cost_in : Slots → (deeper : ℕ → ℕ) → ℕ → (t : ℕ) → ℕ
cost_in s deeper zero t = 0
cost_in s deeper (suc n) t = suc (what_cost deeper (cost_in s deeper n) (slot_at s t).what)

abbrev pub region_cost : Slots → ℕ → (r : ℕ) → ℕ
region_cost s zero r = 0
region_cost s (suc n) r =
    sum_over (cost_in s (region_cost s n) (length s.slots)) (region_slot s r).roots

abbrev pub cost_of : Slots → ℕ → ℕ
cost_of s t = cost_in s (region_cost s (length s.regions)) (length s.slots) t

abbrev pub cost_at : Slots → ℕ → ℕ
cost_at s r = region_cost s (length s.regions) r

abbrev pub task_cost : Slots → WalkTask → ℕ
task_cost s (Visit t) = cost_of s t
task_cost s (Tell t) = 1

abbrev pub tasks_cost : Slots → List WalkTask → ℕ
tasks_cost s [] = 0
tasks_cost s (x ∷ xs) = task_cost s x + tasks_cost s xs

-- of the code's scene
abbrev pub left_cost : Scene → List WalkTask → ℕ
left_cost s xs = tasks_cost (slots_of s) xs
