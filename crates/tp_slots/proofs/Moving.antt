-- An item with a region is reduced.
use Rattle.std.proofs.Common.{◌≡◌, ℕ, ◌+◌, ◌<◌, ◌&&◌, Bool, true, false, eqb, List, [], ◌∷◌, ◌++◌, map, length, Option, Some, None, refl, ap, sym, ◌∙◌, subst, arith}
use Rattle.std.specs.Prelude.{if◌then◌else◌}
use Rattle.std.proofs.lemmas.Bool.{eqb-false, or_parts}
use Rattle.std.proofs.lemmas.List.{length-map}
use Rattle.tp_meaning.specs.Syntax.{FormulaTree, more}
use Rattle.tp_store.specs.Known.{Contents}
use Rattle.tp_scene.specs.declared.answer.Cell.{Cell}
use Rattle.tp_scene.specs.declared.answer.Cell.TheVariants.{End}
use Rattle.tp_scene.specs.Scene as S
use Rattle.tp_scene.specs.Scene.{Bindings, Ending, Going, Side, Holder, Split, SplitProject, Closed, Opened, Running, leaf, none, new_head, marked, risen, Place, held_place, closed_then, opened_then, running_then, has}
use Rattle.tp_scene.specs.Step.{Reduction, PickOutcome, reduces, rests, waits, by_status}
use Rattle.tp_scene.specs.Pick.{Setting, outcome_of, numbers_of, scene_after}
use Rattle.tp_slots.specs.Plain.{What, bare, holds, gone, RegionSlot, Slots, slot_at, head_at, entries_at, WhatFits}
use Rattle.tp_slots.specs.Places.{holder_at, HeldBy, place_outward}
use Rattle.tp_slots.specs.Picked.{what_step, held_step, first_held, IsHolding}
use Rattle.tp_slots.specs.Flags.{flags_in}
use Rattle.tp_slots.specs.Kept.{IsWellKept}
use Rattle.tp_slots.specs.Lives.{lives_in, leads_to}
use Rattle.tp_slots.specs.Row.{begun, stepped, held_after, AllBelow}
use Rattle.tp_slots.specs.Reductions.{AreBare, CanMove, moved_inner, moved_outs, IsReduced, IsAfter}
use Rattle.tp_slots.specs.Threads.{afters_then}
use Rattle.tp_slots.specs.Read.{afters_of, slot_of, region_slot_of, slots_of, scene_of, holders_of, ends_of, goes_of, flags_of}
use Rattle.tp_slots.proofs.Living.{lives_outward}
use Rattle.tp_slots.proofs.PlaceLemmas.{held_is, pick_is}
use Rattle.tp_slots.proofs.Instances.{close_step, close_rise, close_told, open_step, open_rise, open_told, run_step, run_rise, run_told}
use Rattle.tp_slots.proofs.Changing.{lives_within, scene_put, put_kept, ends_low, goes_low}
use Rattle.tp_slots.proofs.Seeing.{flags_kept}
use Rattle.tp_slots.proofs.Looking.{closed_leaves, opened_leaves, running_leaves}
use Rattle.tp_slots.specs.declared.scene.Scene.{Scene}

-- what each becomes: closed, with the formula behind it due; closed, with the outer region open; and
-- running, with the next piece begun
abbrev pub split_reduced : Slots → FormulaTree → Bindings → ℕ → Reduction
split_reduced s f env p = record {
  news = closed_then (0 + length s.slots) (record { head = head_at s p; entries = entries_at s p }) (leaf (1 + length s.slots) (S.Do f env) none);
  items = 2;
  regions = 0;
  local = None;
  mark = None;
  facts = [];
}

abbrev pub project_reduced : Slots → FormulaTree → Bindings → ℕ → ℕ → Reduction
project_reduced s f env p q = record {
  news = closed_then (0 + length s.slots) (record { head = head_at s p; entries = entries_at s p }) (opened_then (1 + length s.slots) (record { head = head_at s q; entries = entries_at s q }) f env none);
  items = 2;
  regions = 0;
  local = None;
  mark = None;
  facts = [];
}

abbrev pub opened_reduced : Slots → FormulaTree → Bindings → ℕ → Reduction
opened_reduced s f env q = record {
  news = running_then (2 + length s.slots) (record { head = new_head (length s.regions); entries = leaf (0 + length s.slots) (S.Do f env) (leaf (1 + length s.slots) (S.Do more env) none) }) (record { head = head_at s q; entries = entries_at s q }) f env none;
  items = 3;
  regions = 1;
  local = None;
  mark = None;
  facts = [];
}

-- what is reduced by the status of a region
stops : (g e : Bool) (x : PickOutcome) (c : Cell) (r : Reduction) → (if g then rests else (if e then x else waits c None)) ≡ reduces r → (g ≡ false) × (e ≡ true) × (x ≡ reduces r)
stops true e x c r h = absurd (cc)
stops false true x c r h = (refl, refl, h)
stops false false x c r h = absurd (cc)

goes_on : (g e : Bool) (x : PickOutcome) (c : Cell) (r : Reduction) → (if g then x else (if e then rests else waits c None)) ≡ reduces r → x ≡ reduces r
goes_on true e x c r h = h
goes_on false true x c r h = absurd (cc)
goes_on false false x c r h = absurd (cc)

pub closes : (q : Place) (x : PickOutcome) (r : Reduction) → by_status q rests x ≡ reduces r → (q.is Going ≡ false) × (q.is Ending ≡ true) × (x ≡ reduces r)
closes q x r h = stops (q.is Going) (q.is Ending) x (End q.region q.depth) r h

pub begins : (q : Place) (x : PickOutcome) (r : Reduction) → by_status q x rests ≡ reduces r → x ≡ reduces r
begins q x r h = goes_on (q.is Going) (q.is Ending) x (End q.region q.depth) r h

pub same_reduction : (a b : Reduction) → reduces a ≡ reduces b → a ≡ b
same_reduction a b h = cc

module _ (s : Scene) (t : ℕ) (kept : IsWellKept s) (lives : has t (scene_of s).root.entries ≡ true) where
  pub within : t < length (slots_of s).slots
  within = let a = lives_within s t kept.shape.ordered lives in let e = length-map s.slots.items slot_of in omega (arith, a, e)

  abbrev pub at_place : Place
  at_place = place_outward (slots_of s) (holders_of s) (slot_at (slots_of s) t).home

  -- the outcome is that of its slot
  pub stepped_as : (w : Setting) (k : Contents) (v : What) → (slot_at (slots_of s) t).what ≡ v → outcome_of w k (scene_of s) t ≡ what_step w k.facts (slots_of s) v at_place (numbers_of (scene_of s) k.variables)
  stepped_as w k v is =
      pick_is (slots_of s) (holders_of s) kept.shape.ordered kept.shape.held w k.facts t (numbers_of (scene_of s) k.variables) lives
      ∙ ap (λ v. what_step w k.facts (slots_of s) v at_place (numbers_of (scene_of s) k.variables)) is

  -- a region that doesn't go has no flag
  not_going : (k : Holder) (p : ℕ) → p < length (slots_of s).regions → (held_place k (head_at (slots_of s) p) (entries_at (slots_of s) p) at_place).is Going ≡ false → flags_in (goes_of s) p ≡ false
  not_going k p l e = kept.going p l ∙ (or_parts _ _ (or_parts _ _ e).1).1

  -- a region that ends, by its place
  held_ends : (k : Holder) (p : ℕ) (o : Option ℕ) → (slot_at (slots_of s) t).what ≡ holds k p o → (held_place k (head_at (slots_of s) p) (entries_at (slots_of s) p) at_place).is Ending ≡ true → (place_outward (slots_of s) (holders_of s) p).is Ending ≡ true
  held_ends k p o is e =
      ap (λ (x : Place). x.is Ending)
      (held_is (slots_of s) (holders_of s) kept.shape.ordered kept.shape.held t (slot_at (slots_of s) t).home p k o within (λ j. record { home = (slot_at (slots_of s) t).home; what = is j }))
      ∙ e

  -- the outer region of a projection that follows a split isn't live
  pub asleep_second : (f : FormulaTree) (env : Bindings) (p q : ℕ) → (slot_at (slots_of s) t).what ≡ holds (SplitProject f env) p (Some q) → holder_at (holders_of s) q ≡ t → eqb p q ≡ false → q < length (slots_of s).regions → 0 < q
      → lives_in (slots_of s) (holders_of s) q ≡ false
  asleep_second f env p q is h e l a =
      lives_outward (slots_of s) (holders_of s) kept.shape.ordered kept.shape.held q a l
      ∙ (ap (λ i. leads_to (slot_at (slots_of s) i).what q && lives_in (slots_of s) (holders_of s) (slot_at (slots_of s) i).home) h
      ∙ (ap (λ v. leads_to v q && lives_in (slots_of s) (holders_of s) (slot_at (slots_of s) t).home) is ∙ rw e refl))

  module _ (next : Scene) (n : ℕ) where
    abbrev Put : (inner outs : List What) → Type 0
    Put inner outs =
        (slots_of next ≡ stepped (slots_of s) t None inner outs) × (holders_of next ≡ held_after (slots_of s) inner outs (holders_of s))
        × (ends_of next ≡ ends_of s ++ map (λ (x : RegionSlot). false) (begun n (length inner))) × (goes_of next ≡ goes_of s ++ map (λ (x : RegionSlot). false) (begun n (length inner)))
        × (next.looks ≡ s.looks) × (afters_of next ≡ afters_then (afters_of s) (length inner) (length outs) t)

    abbrev Done : Type 0
    Done = IsWellKept next × IsAfter t (scene_of s) (scene_of next)

    split_done : (f : FormulaTree) (env : Bindings) (p : ℕ) → (slot_at (slots_of s) t).what ≡ holds (Split f env) p None → Put [] (holds Closed p None ∷ bare (S.Do f env) ∷ []) → IsReduced (scene_of s) t → Done
    split_done f env p is put red =
        let made : Reduction = split_reduced (slots_of s) f env p in
        let step = close_step (slots_of s) t p f env kept.shape.ordered within is in
        let fit = subst (λ v. WhatFits (slots_of s) (slot_at (slots_of s) t).home t v) is (kept.shape.ordered.items t within).1 in
        let was = closes (held_place (Split f env) (head_at (slots_of s) p) (entries_at (slots_of s) p) at_place) (reduces made) red.2 (sym (stepped_as red.0 red.1 (holds (Split f env) p None) is) ∙ red.3) in
        let low = not_going (Split f env) p fit.0.1 was.0 in (
          put_kept s t [] (holds Closed p None ∷ bare (S.Do f env) ∷ []) kept lives step next n put.0 put.1 put.2 put.3
              (close_rise (slots_of s) t p f env kept.shape.ordered within is Ending (flags_in (ends_of s)) (λ e. absurd (cc)))
              (close_rise (slots_of s) t p f env kept.shape.ordered within is Going (flags_in (goes_of s)) (λ e. low))
              (closed_leaves (slots_of s) (holders_of s) t kept.shape (λ y. flags_in (flags_of y s)) (flags_kept s kept) p f env (held_ends (Split f env) p None is was.1)) put.4 put.5,
          (λ w k r e. let q = closes (held_place (Split f env) (head_at (slots_of s) p) (entries_at (slots_of s) p) at_place) (reduces made) r (sym (stepped_as w k (holds (Split f env) p None) is) ∙ e) in
              scene_put s t None [] (holds Closed p None ∷ bare (S.Do f env) ∷ []) kept lives step next n put.0 put.1 put.2 put.3 made
              (sym (close_told (slots_of s) t p f env kept.shape.ordered within is)) refl refl refl
              ∙ ap (λ r. scene_after t r (scene_of s)) (same_reduction made r q.2)),
        )

    project_done : (f : FormulaTree) (env : Bindings) (p q : ℕ) → (slot_at (slots_of s) t).what ≡ holds (SplitProject f env) p (Some q) → Put [] (holds Closed p None ∷ holds (Opened f env) q None ∷ []) → IsReduced (scene_of s) t → Done
    project_done f env p q is put red =
        let made : Reduction = project_reduced (slots_of s) f env p q in
        let by = subst (λ v. HeldBy (holders_of s) t v) is (kept.shape.held.by t within) in
        let other = eqb-false p q by.1.1 in
        let step = open_step (slots_of s) t p q f env kept.shape.ordered within is other in
        let fit = subst (λ v. WhatFits (slots_of s) (slot_at (slots_of s) t).home t v) is (kept.shape.ordered.items t within).1 in
        let was = closes (held_place (SplitProject f env) (head_at (slots_of s) p) (entries_at (slots_of s) p) at_place) (reduces made) red.2 (sym (stepped_as red.0 red.1 (holds (SplitProject f env) p (Some q)) is) ∙ red.3) in
        let low = not_going (SplitProject f env) p fit.0.1 was.0 in
        let above = fit.1.1.0 in
        let sleeps = asleep_second f env p q is by.1.0 by.1.1 fit.1.1.1 (omega (arith, above)) in (
          put_kept s t [] (holds Closed p None ∷ holds (Opened f env) q None ∷ []) kept lives step next n put.0 put.1 put.2 put.3
              (open_rise (slots_of s) t p q f env kept.shape.ordered within is other Ending (flags_in (ends_of s)) (λ e. absurd (cc)) (kept.quiet_ends q fit.1.1.1 sleeps))
              (open_rise (slots_of s) t p q f env kept.shape.ordered within is other Going (flags_in (goes_of s)) (λ e. low) (kept.quiet_goes q fit.1.1.1 sleeps))
              (opened_leaves (slots_of s) (holders_of s) t kept.shape (λ y. flags_in (flags_of y s)) (flags_kept s kept) p q f env (omega (arith, above)) by.1.0 is by.1.1 (held_ends (SplitProject f env) p (Some q) is was.1)) put.4 put.5,
          (λ w k r e. let x = closes (held_place (SplitProject f env) (head_at (slots_of s) p) (entries_at (slots_of s) p) at_place) (reduces made) r (sym (stepped_as w k (holds (SplitProject f env) p (Some q)) is) ∙ e) in
              scene_put s t None [] (holds Closed p None ∷ holds (Opened f env) q None ∷ []) kept lives step next n put.0 put.1 put.2 put.3 made
              (sym (open_told (slots_of s) t p q f env kept.shape.ordered within is other)) refl refl refl
              ∙ ap (λ r. scene_after t r (scene_of s)) (same_reduction made r x.2)),
        )

    opened_done : (f : FormulaTree) (env : Bindings) (q : ℕ) → (slot_at (slots_of s) t).what ≡ holds (Opened f env) q None → Put (bare (S.Do f env) ∷ bare (S.Do more env) ∷ []) (holds (Running f env) (length (slots_of s).regions) (Some q) ∷ []) → Done
    opened_done f env q is put =
        let made : Reduction = opened_reduced (slots_of s) f env q in
        let ins = bare (S.Do f env) ∷ bare (S.Do more env) ∷ [] in
        let outs = holds (Running f env) (length (slots_of s).regions) (Some q) ∷ [] in
        let fit = subst (λ v. WhatFits (slots_of s) (slot_at (slots_of s) t).home t v) is (kept.shape.ordered.items t within).1 in
        let above = fit.0.0 in
        let by = subst (λ v. HeldBy (holders_of s) t v) is (kept.shape.held.by t within) in
        let step = run_step (slots_of s) t q f env kept.shape.ordered within is in (
          put_kept s t ins outs kept lives step next n put.0 put.1 put.2 put.3
              (run_rise (slots_of s) t q f env kept.shape.ordered within is Ending (flags_in (ends_of s)) (ends_low s t None ins outs kept lives step next n put.0 put.1 put.2 put.3 (length (slots_of s).regions) (omega arith)))
              (run_rise (slots_of s) t q f env kept.shape.ordered within is Going (flags_in (goes_of s)) (goes_low s t None ins outs kept lives step next n put.0 put.1 put.2 put.3 (length (slots_of s).regions) (omega arith)))
              (running_leaves (slots_of s) (holders_of s) t kept.shape (λ y. flags_in (flags_of y s)) (flags_kept s kept) q f env (omega (arith, above)) by.0 is) put.4 put.5,
          (λ w k r e. let x = begins (held_place (Opened f env) (head_at (slots_of s) q) (entries_at (slots_of s) q) at_place) (reduces made) r (sym (stepped_as w k (holds (Opened f env) q None) is) ∙ e) in
              scene_put s t None ins outs kept lives step next n put.0 put.1 put.2 put.3 made
              (sym (run_told (slots_of s) t q f env kept.shape.ordered within is)) refl refl refl
              ∙ ap (λ r. scene_after t r (scene_of s)) (same_reduction made r x)),
        )

    pub moved_done : (v : What) → (slot_at (slots_of s) t).what ≡ v → CanMove v → Put (moved_inner v) (moved_outs v (length (slots_of s).regions)) → IsReduced (scene_of s) t → Done
    moved_done (bare l) is can put red = absurd can
    moved_done (gone by) is can put red = absurd can
    moved_done (holds (Split f env) p None) is can put red = split_done f env p is put red
    moved_done (holds (Split f env) p (Some q)) is can put red = absurd can
    moved_done (holds (SplitProject f env) p None) is can put red = absurd can
    moved_done (holds (SplitProject f env) p (Some q)) is can put red = project_done f env p q is put red
    moved_done (holds Closed p o) is can put red = absurd can
    moved_done (holds (Opened f env) p None) is can put red = opened_done f env p is put
    moved_done (holds (Opened f env) p (Some q)) is can put red = absurd can
    moved_done (holds (Running f env) p o) is can put red = absurd can

-- what is put has its regions among those that there are
pub moves_bare : (v : What) → AreBare (moved_inner v)
moves_bare (bare l) = tt
moves_bare (gone by) = tt
moves_bare (holds (Split f env) p o) = tt
moves_bare (holds (SplitProject f env) p o) = tt
moves_bare (holds Closed p o) = tt
moves_bare (holds (Opened f env) p o) = (tt, (tt, tt))
moves_bare (holds (Running f env) p o) = tt

pub moves_below : (s : Slots) (home t : ℕ) (v : What) → WhatFits s home t v → AllBelow (length s.regions + length (begun 0 (length (moved_inner v)))) (moved_outs v (length s.regions))
moves_below s home t (bare l) f = tt
moves_below s home t (gone by) f = tt
moves_below s home t (holds (Split g env) p o) f = let a = f.0.1 in (omega (arith, a), (tt, tt))
moves_below s home t (holds (SplitProject g env) p None) f = tt
moves_below s home t (holds (SplitProject g env) p (Some q)) f = let a = f.0.1 in let b = f.1.1.1 in (omega (arith, a), (omega (arith, b), tt))
moves_below s home t (holds Closed p o) f = tt
moves_below s home t (holds (Opened g env) p o) f = let a = f.0.1 in ((omega arith, omega (arith, a)), tt)
moves_below s home t (holds (Running g env) p o) f = tt

-- Picking an item that holds a region, by that region's place.
module _ (s : Scene) (t : ℕ) (kept : IsWellKept s) (lives : has t (scene_of s).root.entries ≡ true) where
  pub held_within : (v : What) → (slot_at (slots_of s) t).what ≡ v → IsHolding v → first_held v < length s.regions.items
  held_within (bare l) is h = absurd h
  held_within (gone by) is h = absurd h
  held_within (holds k r q) is h =
      let fit = subst (λ v. WhatFits (slots_of s) (slot_at (slots_of s) t).home t v) is (kept.shape.ordered.items t (within s t kept lives)).1 in
      let a = fit.0.1 in
      let e = length-map s.regions.items region_slot_of in
      omega (arith, a, e)

  pub held_as : (w : Setting) (k : Contents) (v : What) → (slot_at (slots_of s) t).what ≡ v → IsHolding v
      → outcome_of w k (scene_of s) t ≡ held_step w k.facts (slots_of s) v (place_outward (slots_of s) (holders_of s) (first_held v)) (numbers_of (scene_of s) k.variables)
  held_as w k (bare l) is h = absurd h
  held_as w k (gone by) is h = absurd h
  held_as w k (holds h r q) is i =
      stepped_as s t kept lives w k (holds h r q) is
      ∙ ap (λ p. held_step w k.facts (slots_of s) (holds h r q) p (numbers_of (scene_of s) k.variables))
      (sym (held_is (slots_of s) (holders_of s) kept.shape.ordered kept.shape.held t (slot_at (slots_of s) t).home r h q (within s t kept lives) (λ j. record { home = (slot_at (slots_of s) t).home; what = is j })))
