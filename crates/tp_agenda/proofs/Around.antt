-- What stands around a region, and what an item of it holds, by number.
use Rattle.std.proofs.Common.{◌≡◌, ℕ, zero, suc, ◌<◌, true, false, eqb, ◌+◌, List, [], ◌∷◌, ◌++◌, length, take, get_or, slice_get, Option, Some, None, refl, ap, sym, ◌∙◌, subst, inl, inr, arith, append_assoc}
use Rattle.std.proofs.lemmas.Bool.{eqb-true, or_cases, false≢true}
use Rattle.std.proofs.lemmas.List.{append-nil, take_more}
use Rattle.tp_scene.specs.Scene.{Head, Holder, Entries, none, leaf, node}
use Rattle.tp_scene.specs.Regions.{Role, HoldsRegion, by_split, by_split_project, by_closed, by_opened, by_running, by_running_second, past_leaf, past_node, LiveRegion, the_root, the_held, IsTail, all_entries, after_leaf, after_node}
use Rattle.tp_scene.specs.RegionLaws.{StartsWith, StandsLive}
use Rattle.tp_step_laws.specs.Near.{StandsAround}
use Rattle.tp_slots.specs.Plain.{What, bare, holds, gone, Slot, Slots, slot_at, other_head, entries_at, scene_in, has_second, WhatFits, IsLive, IsOrdered}
use Rattle.tp_slots.specs.Shown.{AreShown}
use Rattle.tp_slots.specs.Places.{holder_at, HeldBy, HoldsByNumber, AreHeld}
use Rattle.tp_slots.specs.Lives.{has_own}
use Rattle.tp_slots.specs.Own.{own_ids, own_inside}
use Rattle.tp_slots.specs.Kept.{IsWellKept}
use Rattle.tp_slots.specs.Read.{holders_of, item_what, slots_of}
use Rattle.tp_slots.specs.declared.scene.Scene.{Scene}
use Rattle.tp_slots.proofs.Showing.{all_shown}
use Rattle.tp_agenda.specs.Held.{IsAmong}
use Rattle.tp_agenda.specs.Outward.{region_around, other_held, held_by_what, held_by_items}

-- places in lists
pub among_left : (xs ys : List ℕ) (x : ℕ) → IsAmong xs x → IsAmong (xs ++ ys) x
among_left [] ys x (i, e) = absurd (cc)
among_left (z ∷ zs) ys x (zero, e) = (0, e)
among_left (z ∷ zs) ys x (suc i, e) = let r = among_left zs ys x (i, e) in (suc r.0, r.1)

pub among_right : (xs ys : List ℕ) (x : ℕ) → IsAmong ys x → IsAmong (xs ++ ys) x
among_right [] ys x a = a
among_right (z ∷ zs) ys x a = let r = among_right zs ys x a in (suc r.0, r.1)

module _ (s : Slots) (hs : List ℕ) (sound : IsOrdered s) (known : AreHeld s hs) where
  -- the region r is held by an item of the region p
  abbrev pub IsInside : (p r : ℕ) → Type 0
  IsInside p r = (0 < r) × ((slot_at s (holder_at hs r)).home ≡ p)

  first_inside : (id p r : ℕ) (k : Holder) (o : Option ℕ) → id < length s.slots → slot_at s id ≡ record { home = p; what = holds k r o } → IsInside p r
  first_inside id p r k o l e =
      let fit = subst (λ (x : Slot). WhatFits s x.home id x.what) e (sound.items id l).1 in
      let h = subst (λ (x : Slot). HeldBy hs id x.what) e (known.by id l) in
      let above = fit.0.0 in
      (omega (arith, above), ap (λ i. (slot_at s i).home) h.0 ∙ ap (λ (x : Slot). x.home) e)

  second_inside : (id p r q : ℕ) (k : Holder) → id < length s.slots → slot_at s id ≡ record { home = p; what = holds k r (Some q) } → IsInside p q
  second_inside id p r q k l e =
      let fit = subst (λ (x : Slot). WhatFits s x.home id x.what) e (sound.items id l).1 in
      let h = subst (λ (x : Slot). HeldBy hs id x.what) e (known.by id l) in
      let above = fit.1.1.0 in
      (omega (arith, above), ap (λ i. (slot_at s i).home) h.1.0 ∙ ap (λ (x : Slot). x.home) e)

  other_inside : (id p r : ℕ) (k : Holder) (o : Option ℕ) (g : Head) → (has_second k ≡ false → ⊥) → id < length s.slots → slot_at s id ≡ record { home = p; what = holds k r o } → g ≡ other_head s o → IsInside p g.number
  other_inside id p r k None g two l e is = absurd (two (subst (λ (x : Slot). WhatFits s x.home id x.what) e (sound.items id l).1).1)
  other_inside id p r k (Some q) g two l e is = subst (IsInside p) (sym (ap (λ (x : Head). x.number) is)) (second_inside id p r q k l e)

  -- a region that an item holds is shown, and stands in that of the item
  held_shown : (p : ℕ) (es : Entries) (role : Role) (i : Head) (held : Entries) → HoldsRegion es role i held → AreShown s p es → AreShown s i.number held × IsInside p i.number
  held_shown p _ _ _ _ (by_split {id = id} {h = h}) a = (a.7, first_inside id p h.number _ a.1 a.0 a.2)
  held_shown p _ _ _ _ (by_split_project {id = id} {h = h}) a = (a.7, first_inside id p h.number _ a.1 a.0 a.2)
  held_shown p _ _ _ _ (by_closed {id = id} {h = h}) a = (a.7, first_inside id p h.number _ a.1 a.0 a.2)
  held_shown p _ _ _ _ (by_opened {id = id} {h = h}) a = (a.7, first_inside id p h.number _ a.1 a.0 a.2)
  held_shown p _ _ _ _ (by_running {id = id} {h = h}) a = (a.7, first_inside id p h.number _ a.1 a.0 a.2)
  held_shown p _ _ _ _ (by_running_second {id = id} {h = h} {g = g}) a = (a.8, other_inside id p h.number _ a.1 g (λ e. false≢true (sym e)) a.0 a.2 a.5)
  held_shown p _ role i held (past_leaf in_it) a = held_shown p _ role i held in_it a.2
  held_shown p _ role i held (past_node in_it) a = held_shown p _ role i held in_it a.9

  -- so is each live region
  live_shown : (h : Head) (es : Entries) → LiveRegion (scene_in s) h es → AreShown s h.number es
  live_shown _ _ the_root = all_shown s sound 0 sound.root
  live_shown _ _ (the_held {h = h} {es = es} {role = role} {i = i} {held = held} x in_it) = (held_shown h.number es role i held in_it (live_shown h es x)).0

  pub stands_inside : (r p : ℕ) → StandsAround (scene_in s) r p → IsInside p r
  stands_inside r p x =
      subst (λ n. IsInside n r) x.numbered (subst (IsInside x.head.number) x.named (held_shown x.head.number x.entries x.role x.inner x.held x.holds (live_shown x.head x.entries x.around)).1)

  -- and each item of it stands there
  tail_shown : (p : ℕ) (tail es : Entries) → IsTail tail es → AreShown s p es → AreShown s p tail
  tail_shown p _ _ all_entries a = a
  tail_shown p tail _ (after_leaf t) a = (tail_shown p _ _ t a).2
  tail_shown p tail _ (after_node t) a = (tail_shown p _ _ t a).9

  first_home : (p t : ℕ) (tail : Entries) → StartsWith t tail → AreShown s p tail → (slot_at s t).home ≡ p
  first_home p t none e a = absurd e
  first_home p t (leaf id l rest) e a = ap (λ n. (slot_at s n).home) (sym e) ∙ ap (λ (x : Slot). x.home) a.1
  first_home p t (node id k h held g second rest) e a = ap (λ n. (slot_at s n).home) (sym e) ∙ ap (λ (x : Slot). x.home) a.2

  pub stands_home : (t : ℕ) (x : StandsLive (scene_in s) t) → (slot_at s t).home ≡ x.head.number
  stands_home t x = first_home x.head.number t x.tail x.first (tail_shown x.head.number x.tail x.entries x.is_tail (live_shown x.head x.entries x.region))

own_listed : (t : ℕ) (es : Entries) → has_own t es ≡ true → IsAmong (own_ids es) t
own_listed t none e = absurd (false≢true e)
own_listed t (leaf id l rest) e = elim (or_cases (eqb id t) (has_own t rest) e) [
  | inl a ↦ (0, ap Some (eqb-true id t a))
  | inr a ↦ (let r = own_listed t rest a in (suc r.0, r.1))
]
own_listed t (node id k h held g second rest) e = elim (or_cases (eqb id t) (has_own t rest) e) [
  | inl a ↦ (0, ap Some (eqb-true id t a))
  | inr a ↦ (let r = own_listed t rest a in (suc r.0, r.1))
]

holder_live : (w : What) (r : ℕ) → HoldsByNumber w r → IsLive w
holder_live (bare l) r h = absurd h
holder_live (holds k p o) r h = tt
holder_live (gone by) r h = absurd h

held_listed : (w : What) (r : ℕ) → HoldsByNumber w r → IsAmong (held_by_what w) r
held_listed (bare l) r h = absurd h
held_listed (holds k p o) r (inl e) = (0, ap Some e)
held_listed (holds k p o) r (inr e) = (1, ap (λ o. slice_get (p ∷ other_held o) 1) e)
held_listed (gone by) r h = absurd h

items_listed : (s : Scene) (ts : List ℕ) (t r : ℕ) → IsAmong ts t → IsAmong (held_by_what (item_what s t)) r → IsAmong (held_by_items s ts) r
items_listed s [] t r (i, e) a = absurd (cc)
items_listed s (u ∷ ts) t r (zero, e) a = let same : u ≡ t = cc in among_left (held_by_what (item_what s u)) (held_by_items s ts) r (subst (λ n. IsAmong (held_by_what (item_what s n)) r) (sym same) a)
items_listed s (u ∷ ts) t r (suc i, e) a = among_right (held_by_what (item_what s u)) (held_by_items s ts) r (items_listed s ts t r (i, e) a)

held_apart : (s : Scene) (xs ys : List ℕ) → held_by_items s (xs ++ ys) ≡ held_by_items s xs ++ held_by_items s ys
held_apart s [] ys = refl
held_apart s (x ∷ xs) ys = ap (λ zs. held_by_what (item_what s x) ++ zs) (held_apart s xs ys) ∙ sym (append_assoc (held_by_what (item_what s x)) (held_by_items s xs) (held_by_items s ys))

-- one item more
pub held_more : (s : Scene) (ts : List ℕ) (i : ℕ) → i < length ts → held_by_items s (take (i + 1) ts) ≡ held_by_items s (take i ts) ++ held_by_what (item_what s (get_or ts i 0))
held_more s ts i l =
    let t = get_or ts i 0 in
    ap (held_by_items s) (take_more ts i 0 l) ∙ (held_apart s (take i ts) (t ∷ []) ∙ ap (λ zs. held_by_items s (take i ts) ++ zs) (append-nil (held_by_what (item_what s t))))

-- What the items of a region hold are the regions in it.
pub inside_listed : (s : Scene) → IsWellKept s → (r : ℕ) → 0 < r → r < length (slots_of s).regions → IsAmong (held_by_items s (own_inside s (region_around s r))) r
inside_listed s kept r above within =
    let t = holder_at (holders_of s) r in
    let h = kept.shape.held.holders r above within in
    let w = (slot_at (slots_of s) t).what in
    items_listed s (own_inside s (region_around s r)) t r (own_listed t (entries_at (slots_of s) (region_around s r)) (kept.shape.own t h.0 (holder_live w r h.1))) (held_listed w r h.1)
