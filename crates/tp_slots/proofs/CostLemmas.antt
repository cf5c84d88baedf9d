-- The tasks of the walk become less.
use Rattle.std.proofs.Common.{◌≡◌, ℕ, suc, ◌+◌, ◌≤◌, ◌<◌, List, [], ◌∷◌, ◌++◌, length, get_or, Option, ap, sym, ◌∙◌, arith}
use Rattle.std.proofs.lemmas.List.{length-map}
use Rattle.tp_scene.specs.Scene as S
use Rattle.tp_slots.specs.Plain as plain
use Rattle.tp_slots.specs.Plain.{IsOrdered, slot_at, region_slot}
use Rattle.tp_slots.specs.Walk.{visits}
use Rattle.tp_slots.specs.Cost.{second_cost, what_cost, cost_of, cost_at, task_cost, tasks_cost}
use Rattle.tp_slots.specs.Read.{slot_of, region_slot_of, slots_of}
use Rattle.tp_slots.specs.declared.walk.WalkTask.{WalkTask}
use Rattle.tp_slots.specs.declared.walk.WalkTask.TheVariants.{Tell}
use Rattle.tp_slots.proofs.Costs.{item_cost, roots_cost, cost_append, cost_visits}
use Rattle.tp_slots.proofs.WalkLemmas.{roots_are}
use Rattle.tp_slots.specs.declared.scene.Scene.{Scene}
use Rattle.tp_slots.specs.declared.scene.Region.{Region}

pub region_tasks : (s : Scene) (r : ℕ) (x : Region) (old new : List WalkTask) → IsOrdered (slots_of s) → r < length s.regions.items → x ≡ get_or s.regions.items r x → new ≡ old ++ visits x.roots.items
    → tasks_cost (slots_of s) new ≡ cost_at (slots_of s) r + tasks_cost (slots_of s) old
region_tasks s r x old new sound l e f =
    let n = length-map s.regions.items region_slot_of in
    let a = ap (tasks_cost (slots_of s)) (f ∙ ap (λ ids. old ++ visits ids) (roots_are s r x l e)) in
    let b = cost_append (slots_of s) old (visits (region_slot (slots_of s) r).roots) in
    let c = cost_visits (slots_of s) (region_slot (slots_of s) r).roots in
    let d = roots_cost (slots_of s) sound r (omega (arith, n, l)) in
    omega (arith, a, b, c, d)

pub enter_tasks : (s : Scene) (r t : ℕ) (x : Region) (old mid new : List WalkTask) → IsOrdered (slots_of s) → r < length s.regions.items → x ≡ get_or s.regions.items r x → mid ≡ old ++ Tell t ∷ [] → new ≡ mid ++ visits x.roots.items
    → tasks_cost (slots_of s) new ≡ suc (cost_at (slots_of s) r + tasks_cost (slots_of s) old)
enter_tasks s r t x old mid new sound l e f g =
    let a = region_tasks s r x mid new sound l e g in
    let b = ap (tasks_cost (slots_of s)) f ∙ cost_append (slots_of s) old (Tell t ∷ []) in
    omega (arith, a, b)

-- what an item costs is more than what follows of it
pub less : (s : Scene) (t : ℕ) (w : plain.What) → IsOrdered (slots_of s) → t < length s.slots.items → w ≡ (slot_at (slots_of s) t).what → cost_of (slots_of s) t ≡ suc (what_cost (cost_at (slots_of s)) (cost_of (slots_of s)) w)
less s t w sound l e =
    let n = length-map s.slots.items slot_of in
    item_cost (slots_of s) sound t (omega (arith, n, l)) ∙ ap (λ w. suc (what_cost (cost_at (slots_of s)) (cost_of (slots_of s)) w)) (sym e)

pub one_less : (s : Scene) (t : ℕ) (l : S.Leaf) (w : plain.What) (left : ℕ) → IsOrdered (slots_of s) → t < length s.slots.items → w ≡ (slot_at (slots_of s) t).what → w ≡ plain.bare l → left < cost_of (slots_of s) t + left
one_less s t l w left sound a e f = let c = less s t w sound a e in omega (arith, c)

pub held_less : (s : Scene) (t : ℕ) (k : S.Holder) (r : ℕ) (q : Option ℕ) (w : plain.What) (left new : ℕ) → IsOrdered (slots_of s) → t < length s.slots.items → w ≡ (slot_at (slots_of s) t).what → w ≡ plain.holds k r q
    → new ≤ suc (cost_at (slots_of s) r + second_cost (cost_at (slots_of s)) q + left) → new < cost_of (slots_of s) t + left
held_less s t k r q w left new sound a e f l =
    let c = less s t w sound a e in
    let d = ap (what_cost (cost_at (slots_of s)) (cost_of (slots_of s))) f in
    omega (arith, c, d, l)

pub gone_less : (s : Scene) (t : ℕ) (by : List ℕ) (w : plain.What) (old new : List WalkTask) → IsOrdered (slots_of s) → t < length s.slots.items → w ≡ (slot_at (slots_of s) t).what → w ≡ plain.gone by → new ≡ old ++ visits by
    → tasks_cost (slots_of s) new < cost_of (slots_of s) t + tasks_cost (slots_of s) old
gone_less s t by w old new sound a e f g =
    let c = less s t w sound a e in
    let d = ap (what_cost (cost_at (slots_of s)) (cost_of (slots_of s))) f in
    let b = ap (tasks_cost (slots_of s)) g ∙ cost_append (slots_of s) old (visits by) in
    let h = cost_visits (slots_of s) by in
    omega (arith, b, c, d, h)

pub popped_cost : (s : Scene) (x : WalkTask) (old new : List WalkTask) → old ≡ new ++ x ∷ [] → tasks_cost (slots_of s) old ≡ task_cost (slots_of s) x + tasks_cost (slots_of s) new
popped_cost s x old new e = let a = ap (tasks_cost (slots_of s)) e ∙ cost_append (slots_of s) new (x ∷ []) in omega (arith, a)
