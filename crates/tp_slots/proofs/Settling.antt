-- What is shown, and what isn't settled, in walk order.
use Rattle.std.proofs.Common.{◌≡◌, ℕ, zero, suc, ◌<◌, Bool, true, false, List, [], ◌∷◌, ◌++◌, length, map, get_or, Option, Some, None, refl, ap, sym, ◌∙◌, subst, arith}
use Rattle.std.specs.Prelude.{filter}
use Rattle.std.specs.List.{All}
use Rattle.std.proofs.lemmas.Bool.{both_ways}
use Rattle.std.proofs.lemmas.List.{append_assoc}
use Rattle.std.proofs.lemmas.List.Elements.{filter-append}
use Rattle.tp_scene.specs.Scene.{Leaf, Do, Later, Shown, Holder, Head, Entries, none, leaf, node, second_lives, only_if, held_place, second_place}
use Rattle.tp_scene.specs.LiveItems.{live_items}
use Rattle.tp_scene.specs.Rest.{is_unsettled, holds_back, unsettled_items}
use Rattle.tp_scene.specs.Advance.{shown_in}
use Rattle.tp_slots.specs.Plain.{What, bare, holds, gone, Slot, Slots, slot_at, other_head, second_of, entries_at, has_second, WhatFits, IsOrdered}
use Rattle.tp_slots.specs.Read.{slot_of, slots_of, what_of}
use Rattle.tp_slots.specs.Shown.{AreShown}
use Rattle.tp_slots.specs.declared.scene.Scene.{Scene}
use Rattle.tp_slots.specs.declared.scene.Slot as R
use Rattle.tp_slots.specs.Places.{place_outward, AreHeld}
use Rattle.tp_slots.specs.Settled.{what_shows, leaf_shows, shows_at, what_waits, item_waits}
use Rattle.tp_slots.specs.Row.{AreBelow}
use Rattle.tp_slots.proofs.PutEdits.{second_has}
use Rattle.tp_slots.proofs.PlaceLemmas.{held_is, second_is}

pub shows_append : (s : Slots) (xs ys : List ℕ) → shows_at s (xs ++ ys) ≡ shows_at s xs ++ shows_at s ys
shows_append s [] ys = refl
shows_append s (t ∷ ts) ys = ap (λ l. what_shows (slot_at s t).what ++ l) (shows_append s ts ys) ∙ sym (append_assoc (what_shows (slot_at s t).what) (shows_at s ts) (shows_at s ys))

shows_if : (s : Slots) (b : Bool) (xs : List ℕ) → shows_at s (only_if b xs) ≡ only_if b (shows_at s xs)
shows_if s true xs = refl
shows_if s false xs = refl

leaf_shown : (id : ℕ) (l : Leaf) (rest : Entries) → shown_in (leaf id l rest) ≡ leaf_shows l ++ shown_in rest
leaf_shown id (Do f env) rest = refl
leaf_shown id (Later f env) rest = refl
leaf_shown id (Shown vs) rest = refl

pub shown_is : (s : Slots) (r : ℕ) (es : Entries) → AreShown s r es → shown_in es ≡ shows_at s (live_items es)
shown_is s r none a = refl
shown_is s r (leaf id l rest) a =
    leaf_shown id l rest ∙ (let e = shown_is s r rest a.2 in let w = ap (λ (x : Slot). what_shows x.what) (sym a.1) in λ i. w i ++ e i)
shown_is s r (node id k h held g second rest) a =
    let x = shown_is s g.number second a.8 in
    let y = shown_is s h.number held a.7 in
    let z = shown_is s r rest a.9 in
    let w = ap (λ (x : Slot). what_shows x.what) (sym a.2) in
    let first = only_if (second_lives k) (live_items second) in
    (λ i. (only_if (second_lives k) (x i) ++ y i) ++ (w i ++ z i))
    ∙ sym (shows_append s (first ++ live_items held) (id ∷ live_items rest)
    ∙ ap (λ l. l ++ shows_at s (id ∷ live_items rest)) (shows_append s first (live_items held) ∙ ap (λ l. l ++ shows_at s (live_items held)) (shows_if s (second_lives k) (live_items second))))

-- where nothing is to be shown
nothing_at : (xs : List R.Slot) → All (λ (x : R.Slot). what_shows (what_of x.what) ≡ []) xs → (t : ℕ) → what_shows (get_or (map slot_of xs) t (record { home = 0; what = gone [] })).what ≡ []
nothing_at [] a t = refl
nothing_at (x ∷ xs) a zero = a 0 x (omega arith)
nothing_at (x ∷ xs) a (suc t) = nothing_at xs (λ k d l. a (suc k) d (omega (arith, l))) t

pub nothing_shown : (s : Scene) → All (λ (x : R.Slot). what_shows (what_of x.what) ≡ []) s.slots.items → (ids : List ℕ) → shows_at (slots_of s) ids ≡ []
nothing_shown s a [] = refl
nothing_shown s a (t ∷ ts) = let here = nothing_at s.slots.items a t in let rest = nothing_shown s a ts in λ i. here i ++ rest i

filter_if : (p : ℕ → Bool) (b : Bool) (xs : List ℕ) → filter p (only_if b xs) ≡ only_if b (filter p xs)
filter_if p true xs = refl
filter_if p false xs = refl

filter_first : (p : ℕ → Bool) (b : Bool) (t : ℕ) (ts : List ℕ) → p t ≡ b → filter p (t ∷ ts) ≡ only_if b (t ∷ []) ++ filter p ts
filter_first p true t ts e = rw e refl
filter_first p false t ts e = rw e refl

module _ (s : Slots) (hs : List ℕ) (sound : IsOrdered s) (known : AreHeld s hs) where
  pub second_unsettled : (id r : ℕ) (k : Holder) (h : ℕ) (o : Option ℕ) (g : Head) (second : Entries) → id < length s.slots → slot_at s id ≡ record { home = r; what = holds k h o } → g ≡ other_head s o → second ≡ second_of (entries_at s) o → second_lives k ≡ true
      → second_place g second (place_outward s hs r) ≡ place_outward s hs g.number
  second_unsettled id r k h None g second l e a b u = absurd (both_ways (has_second k) (subst (λ (x : Slot). WhatFits s x.home id x.what) e (sound.items id l).1).1 (second_has k u))
  second_unsettled id r k h (Some p) g second l e a b u =
      let x = (second_is s hs sound known id r h p k l e).1 in
      let n : g.number ≡ p = ap (λ (y : Head). y.number) a in
      (λ i. second_place (a i) (b i) (place_outward s hs r)) ∙ (sym x ∙ ap (place_outward s hs) (sym n))

  only_same : (b : Bool) (xs ys : List ℕ) → (b ≡ true → xs ≡ ys) → only_if b xs ≡ only_if b ys
  only_same true xs ys h = h refl
  only_same false xs ys h = refl

  pub unsettled_is : (r : ℕ) (es : Entries) → AreShown s r es → unsettled_items es (place_outward s hs r) ≡ filter (item_waits s hs) (live_items es)
  unsettled_is r none a = refl
  unsettled_is r (leaf id l rest) a =
      ap (λ ns. only_if (is_unsettled l) (id ∷ []) ++ ns) (unsettled_is r rest a.2)
      ∙ sym (filter_first (item_waits s hs) (is_unsettled l) id (live_items rest) (ap (λ (x : Slot). what_waits s hs x.what) a.1))
  unsettled_is r (node id k h held g second rest) a =
      let at = held_is s hs sound known id r h.number k a.1 a.0 a.2 in
      let e = a.3 in
      let d = a.4 in
      let p : held_place k h held (place_outward s hs r) ≡ place_outward s hs h.number = (λ i. held_place k (e i) (d i) (place_outward s hs r)) ∙ sym at in
      let x = only_same (second_lives k) (unsettled_items second (second_place g second (place_outward s hs r))) (filter (item_waits s hs) (live_items second))
      (λ u. ap (unsettled_items second) (second_unsettled id r k h.number a.1 g second a.0 a.2 a.5 a.6 u) ∙ unsettled_is g.number second a.8) in
      let y = ap (unsettled_items held) p ∙ unsettled_is h.number held a.7 in
      let z = unsettled_is r rest a.9 in
      let w = ap (holds_back k) p in
      let first = only_if (second_lives k) (live_items second) in
      (λ i. (x i ++ y i) ++ (only_if (w i) (id ∷ []) ++ z i))
      ∙ sym (filter-append (item_waits s hs) (first ++ live_items held) (id ∷ live_items rest)
      ∙ ((λ i. filter-append (item_waits s hs) first (live_items held) i ++ filter_first (item_waits s hs) (holds_back k (place_outward s hs h.number)) id (live_items rest) (ap (λ (x : Slot). what_waits s hs x.what) a.2) i)
      ∙ ap (λ l. (l ++ filter (item_waits s hs) (live_items held)) ++ (only_if (holds_back k (place_outward s hs h.number)) (id ∷ []) ++ filter (item_waits s hs) (live_items rest))) (filter_if (item_waits s hs) (second_lives k) (live_items second))))

pub what_below : (s : Slots) (home t : ℕ) (w : What) → WhatFits s home t w → AreBelow (length s.regions) w
what_below s home t (bare l) f = tt
what_below s home t (gone by) f = tt
what_below s home t (holds k p None) f = f.0.1
what_below s home t (holds k p (Some q)) f = (f.0.1, f.1.1.1)
