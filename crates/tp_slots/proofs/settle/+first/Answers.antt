-- From item to item, by what each knows to come after it.
use Rattle.std.proofs.Common.{◌≡◌, ℕ, ◌+◌, ◌<◌, List, [], ◌∷◌, take, length, get_or, Some, None, refl, ap, sym, ◌∙◌, subst, arith, rules}
use Rattle.std.proofs.lemmas.List.{get_or-map, length-map}
use Rattle.std.proofs.Math.Seq.{take-length}
use Rattle.tp_slots.specs.Plain as plain
use Rattle.tp_slots.specs.Plain.{slot_at, region_slot}
use Rattle.tp_slots.specs.Cost.{cost_of, sum_over}
use Rattle.tp_slots.specs.Kept.{IsWellKept}
use Rattle.tp_slots.specs.Read.{afters_of, region_slot_of, slot_of, slots_of, what_of}
use Rattle.tp_slots.specs.Settled.{first_waiting, standing, stands_by, first_in}
use Rattle.tp_slots.specs.Threads.{after_at, AreLast}
use Rattle.tp_slots.specs.Walk.{live_in, live_of}
use Rattle.tp_slots.specs.declared.scene.Scene.{Scene}
use Rattle.tp_slots.specs.declared.scene.Slot.{Slot}
use Rattle.tp_slots.proofs.Firsts.{AreToVisit, begin_visit, none_waits, one_waits, found, in_place, afterwards, nothing_left, measure_is, cost_after, in_at, last_at, none_up_to, some_at}
use Rattle.tp_slots.proofs.Seeing.{slot_read}
use Rattle.tp_slots.proofs.Walking.{region_live}
use Rattle.tp_slots.proofs.WalkLemmas.{roots_are}
use Rattle.tp_slots.proofs.settle.+first.Goals as goal

-- what the code reads of an item
module _ (s : Scene) (t : ℕ) (x : Slot) (i : t < length (slots_of s).slots) (is : x ≡ get_or s.slots.items t x) where
  within : t < length s.slots.items
  within = let e = length-map s.slots.items slot_of in omega (arith, e, i)

  what_read : what_of x.what ≡ (slot_at (slots_of s) t).what
  what_read = ap (λ (y : plain.Slot). y.what) (ap slot_of is ∙ slot_read s t x within)

  after_read : x.after ≡ after_at (afters_of s) t
  after_read = ap (λ (y : Slot). y.after) is ∙ sym (get_or-map (λ (y : Slot). y.after) s.slots.items t x None within)

-- what is visited after an item, and how much is left then
module _ (s : Scene) (k : IsWellKept s) (root t : ℕ) (rest : List ℕ) (v : AreToVisit (slots_of s) (afters_of s) (first_waiting s) root (t ∷ rest)) (x : Slot) (is : x ≡ get_or s.slots.items t x) where
  abbrev Next : ℕ → Type 0
  Next u = (later : List ℕ) × AreToVisit (slots_of s) (afters_of s) (first_waiting s) root (u ∷ later) × (sum_over (cost_of (slots_of s)) (u ∷ later) < sum_over (cost_of (slots_of s)) (t ∷ rest))

  abbrev left : ℕ → ℕ
  left u = cost_of (slots_of s) u + cost_after (cost_of (slots_of s)) (afters_of s) (cost_of (slots_of s) root) u

  waits : None ≡ first_waiting s (standing s t (what_of x.what)) → None ≡ first_waiting s (standing s t (slot_at (slots_of s) t).what)
  waits e = e ∙ ap (λ w. first_waiting s (standing s t w)) (what_read s t x v.inside.1 is)

  next_in : (u : ℕ) → None ≡ first_waiting s (standing s t (what_of x.what)) → Some u ≡ first_in (stands_by (what_of x.what)) → Next u
  next_in u held by =
      in_place (slots_of s) (afters_of s) k.shape.ordered k.threads (first_waiting s) (none_waits s) (one_waits s) root t rest v u
      (sym (by ∙ ap (λ w. first_in (stands_by w)) (what_read s t x v.inside.1 is))) (sym (waits held))

  next_after : (u : ℕ) → None ≡ first_waiting s (standing s t (what_of x.what)) → None ≡ first_in (stands_by (what_of x.what)) → x.after ≡ Some u → Next u
  next_after u held by next =
      afterwards (slots_of s) (afters_of s) k.shape.ordered k.threads (first_waiting s) (none_waits s) (one_waits s) root t rest v u
      (sym (by ∙ ap (λ w. first_in (stands_by w)) (what_read s t x v.inside.1 is))) (sym (after_read s t x v.inside.1 is) ∙ next) (sym (waits held))

  less : (u : ℕ) → Next u → left u < left t
  less u x =
      let old = measure_is (slots_of s) (afters_of s) k.shape.ordered k.threads (first_waiting s) (none_waits s) (one_waits s) root t rest v in
      let new = measure_is (slots_of s) (afters_of s) k.shape.ordered k.threads (first_waiting s) (none_waits s) (one_waits s) root u x.0 x.1 in
      let l = x.2 in
      omega (arith, old, new, l)

pub first_from-walk-init : goal.first_from-walk-init
first_from-walk-init t c =
    let s = c.args.scene.now in
    let l = c.requires.item in
    let n = length-map s.slots.items slot_of in
    ([], begin_visit (slots_of s) (afters_of s) c.requires.kept.shape.ordered c.requires.kept.threads (first_waiting s) (none_waits s) (one_waits s) c.args.root (omega (arith, l, n)) c.requires.last)

pub first_from-returns-in-Some : goal.first_from-returns-in-Some
first_from-returns-in-Some t c =
    let s = c.args.scene.now in
    let v = c.walk.invariant.1 in
    let read = what_read s c.walk.at c.index-slot.result.now v.inside.1 c.index-slot.ensures in
    let held = c.in-Some.ensures ∙ ap (λ w. first_waiting s (standing s c.walk.at w)) read in
    sym (found (slots_of s) (afters_of s) c.requires.kept.shape.ordered c.requires.kept.threads (first_waiting s) (none_waits s) (one_waits s) c.args.root c.walk.at c.walk.invariant.0 v c.in-Some.found (sym held))

pub first_from-returns-in-None-after : goal.first_from-returns-in-None-after
first_from-returns-in-None-after t c =
    let s = c.args.scene.now in
    let v = c.walk.invariant.1 in
    let read = what_read s c.walk.at c.index-slot.result.now v.inside.1 c.index-slot.ensures in
    let held = c.in_default.ensures ∙ ap (λ w. first_waiting s (standing s c.walk.at w)) read in
    let by = c.in-None.ensures ∙ ap (λ w. first_in (stands_by w)) read in
    let next = sym (after_read s c.walk.at c.index-slot.result.now v.inside.1 c.index-slot.ensures) ∙ c.in-None-after.is in
    sym (nothing_left (slots_of s) (afters_of s) c.requires.kept.shape.ordered c.requires.kept.threads (first_waiting s) (none_waits s) (one_waits s) c.args.root c.walk.at c.walk.invariant.0 v refl (sym by) next (sym held))

pub first_from-walk-preserved-in-Some-first_by : goal.first_from-walk-preserved-in-Some-first_by
first_from-walk-preserved-in-Some-first_by t c =
    let x = next_in c.args.scene.now c.requires.kept c.args.root c.walk.at c.walk.invariant.0 c.walk.invariant.1 c.index-slot.result.now c.index-slot.ensures c.in-Some-first_by.first c.in_default.ensures c.in-Some-first_by.ensures in
    (x.0, x.1)

pub first_from-walk-smaller-in-Some-first_by : goal.first_from-walk-smaller-in-Some-first_by
first_from-walk-smaller-in-Some-first_by t c =
    less c.args.scene.now c.requires.kept c.args.root c.walk.at c.walk.invariant.0 c.walk.invariant.1 c.index-slot.result.now c.index-slot.ensures c.in-Some-first_by.first
    (next_in c.args.scene.now c.requires.kept c.args.root c.walk.at c.walk.invariant.0 c.walk.invariant.1 c.index-slot.result.now c.index-slot.ensures c.in-Some-first_by.first c.in_default.ensures c.in-Some-first_by.ensures)

pub first_from-walk-preserved : goal.first_from-walk-preserved
first_from-walk-preserved t c =
    let x = next_after c.args.scene.now c.requires.kept c.args.root c.walk.at c.walk.invariant.0 c.walk.invariant.1 c.index-slot.result.now c.index-slot.ensures c.in-Some-after.next c.in_default.ensures c.in-None.ensures c.in-Some-after.is in
    (x.0, x.1)

pub first_from-walk-smaller : goal.first_from-walk-smaller
first_from-walk-smaller t c =
    less c.args.scene.now c.requires.kept c.args.root c.walk.at c.walk.invariant.0 c.walk.invariant.1 c.index-slot.result.now c.index-slot.ensures c.in-Some-after.next
    (next_after c.args.scene.now c.requires.kept c.args.root c.walk.at c.walk.invariant.0 c.walk.invariant.1 c.index-slot.result.now c.index-slot.ensures c.in-Some-after.next c.in_default.ensures c.in-None.ensures c.in-Some-after.is)

pub first_inside-first_from-requires : goal.first_inside-first_from-requires
first_inside-first_from-requires t c =
    let s = c.args.scene.now in
    let r = c.requires.region in
    let e = length-map s.regions.items region_slot_of in
    let n = length-map s.slots.items slot_of in
    let roots = roots_are s c.args.region c.index-here.result.now r c.index-here.ensures in
    let l : c.loop-i.i < length c.index-here.result.now.roots.items = search rules in
    let inside = subst (plain.AreIn (slots_of s) 0 c.args.region) (sym roots) (c.requires.kept.shape.ordered.regions c.args.region (omega (arith, r, e))) in
    let last = subst (AreLast (afters_of s)) (sym roots) (c.requires.kept.threads.roots c.args.region (omega (arith, r, e))) in
    let x = in_at (slots_of s) 0 c.args.region c.index-here.result.now.roots.items c.loop-i.i c.index.result.now l inside in
    let y = last_at (afters_of s) c.index-here.result.now.roots.items c.loop-i.i c.index.result.now l last in
    let a = subst (λ k. k < length (slots_of s).slots) (sym c.index.ensures) x.0 in
    let b = subst (λ k. (slot_at (slots_of s) k).home ≡ c.args.region) (sym c.index.ensures) x.1 in
    let z = subst (λ k. after_at (afters_of s) k ≡ None) (sym c.index.ensures) y in
    (omega (arith, b, r, e), (c.requires.kept, (omega (arith, a, n), z)))

pub first_inside-returns-in-Some : goal.first_inside-returns-in-Some
first_inside-returns-in-Some t c =
    let s = c.args.scene.now in
    let r = c.requires.region in
    let e = length-map s.regions.items region_slot_of in
    let roots = roots_are s c.args.region c.index-here.result.now r c.index-here.ensures in
    let ids = c.index-here.result.now.roots.items in
    let l : c.loop-i.i < length ids = search rules in
    let all = region_live (slots_of s) c.requires.kept.shape.ordered c.args.region (omega (arith, r, e)) ∙ ap (live_in (slots_of s)) (sym roots) in
    let here = c.in-Some.ensures ∙ ap (λ k. first_waiting s (live_of (slots_of s) k)) c.index.ensures in
    sym (ap (first_waiting s) all ∙ some_at s ids c.loop-i.i c.index.result.now l c.loop-i.invariant c.in-Some.found (sym here))

pub first_inside-loop-i-preserved : goal.first_inside-loop-i-preserved
first_inside-loop-i-preserved t c =
    let s = c.args.scene.now in
    let ids = c.index-here.result.now.roots.items in
    let l : c.loop-i.i < length ids = search rules in
    let here = c.in_default.ensures ∙ ap (λ k. first_waiting s (live_of (slots_of s) k)) c.index.ensures in
    none_up_to s ids c.loop-i.i c.index.result.now l c.loop-i.invariant (sym here)

pub first_inside-returns : goal.first_inside-returns
first_inside-returns t c =
    let s = c.args.scene.now in
    let r = c.requires.region in
    let e = length-map s.regions.items region_slot_of in
    let roots = roots_are s c.args.region c.index-here.result.now r c.index-here.ensures in
    let ids = c.index-here.result.now.roots.items in
    let n : c.loop-i.i ≡ length ids = search rules in
    let whole = ap (λ k. take k ids) n ∙ take-length ids in
    let all = region_live (slots_of s) c.requires.kept.shape.ordered c.args.region (omega (arith, r, e)) ∙ ap (live_in (slots_of s)) (sym roots) in
    sym (ap (first_waiting s) all ∙ (ap (λ xs. first_waiting s (live_in (slots_of s) xs)) (sym whole) ∙ c.loop-i.invariant))

pub first_held-returns-in-Leaf : goal.first_held-returns-in-Leaf
first_held-returns-in-Leaf t c = c.or_itself.ensures [] refl ∙ ap (λ w. first_waiting c.args.scene.now (standing c.args.scene.now c.args.item (what_of w))) (sym c.in-Leaf.is)
