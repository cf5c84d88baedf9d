-- A due item's formula is taken out of its slot, and put back, or stands in the place of the item with one binding more.
use Rattle.std.proofs.Common.{◌≡◌, ℕ, ◌<◌, List, [], ◌∷◌, ◌++◌, map, length, Option, None, refl, ap, sym, ◌∙◌, subst}
use Rattle.std.specs.Prelude.{slice_set}
use Rattle.std.proofs.lemmas.List.{get_or-map, length-map, map-append, set-get_or, get_or-set_same, set-set}
use Rattle.tp_scene.specs.Scene as S
use Rattle.tp_scene.specs.Pick.{scene_after}
use Rattle.tp_decide.specs.declared.decision.Leaf.TheVariants.{Do}
use Rattle.tp_decide.specs.declared.bound_formula.BoundFormula.{BoundFormula}
use Rattle.tp_decide.specs.ReadBound.{env_of, formula_of}
use Rattle.tp_slots.specs.Bound.{IsDueUnder, IsTakenOut, slot_in, slot_with}
use Rattle.tp_slots.specs.Kept.{IsUnchanged, IsWellKept, Lives}
use Rattle.tp_slots.specs.News.{new_items}
use Rattle.tp_slots.specs.Plain as plain
use Rattle.tp_slots.specs.Read.{ends_of, goes_of, holders_of, item_what, region_slot_of, scene_of, slot_of, slots_of, what_of}
use Rattle.tp_slots.specs.Reductions.{IsBare, becomes_leaves}
use Rattle.tp_slots.specs.Replace.{gone_at, home_in}
use Rattle.tp_slots.specs.Row.{stepped}
use Rattle.tp_slots.specs.Threads.{after_at}
use Rattle.tp_slots.specs.declared.scene.Region.{Region}
use Rattle.tp_slots.specs.declared.scene.Scene.{Scene}
use Rattle.tp_slots.specs.declared.scene.Slot.{Slot}
use Rattle.tp_slots.specs.declared.scene.What.TheVariants.{Leaf, Gone}
use Rattle.tp_slots.proofs.Changing.{lives_within, same_slots}
use Rattle.tp_slots.proofs.Lists.{after_is, gone_is, home_is}
use Rattle.tp_slots.proofs.Unmarked.{one_stepped, unmarked_leaves_kept, unmarked_leaves_news, unmarked_leaves_scene}

-- what stands in a slot, as the code has it
pub read_in : (s : Scene) (t : ℕ) → t < length s.slots.items → what_of (slot_in s.slots.items t).what ≡ item_what s t
read_in s t l = ap (λ (x : plain.Slot). x.what) (sym (get_or-map slot_of s.slots.items t (record { home = 0; after = None; what = Gone 0 0 }) (record { home = 0; what = plain.gone [] }) l))

-- the same, where nothing was changed
pub same_what : (s s' : Scene) (t : ℕ) → IsUnchanged s s' → item_what s' t ≡ item_what s t
same_what s s' t same = ap (λ (x : plain.Slots). (plain.slot_at x t).what) (same_slots s s' same)

-- a formula that is due is an item without a region
pub due_is_bare : (env : S.Bindings) (x : plain.What) → IsDueUnder env x → IsBare x
due_is_bare env (plain.bare l) h = tt
due_is_bare env (plain.holds k r q) h = absurd h
due_is_bare env (plain.gone by) h = absurd h

module _ (t next : ℕ) (old mid : List Slot) (taken : BoundFormula) (within : t < length old) (out : IsTakenOut t next old taken mid) where
  emptied : slot_in mid t ≡ slot_with (slot_in old t) (Gone next 1)
  emptied = ap (λ xs. slot_in xs t) out.slots ∙ get_or-set_same old t (slot_with (slot_in old t) (Gone next 1)) (record { home = 0; after = None; what = Gone 0 0 }) within

  all_back : (new : List Slot) → new ≡ slice_set mid t (slot_with (slot_in mid t) (Leaf (Do taken))) → new ≡ old
  all_back new is =
      let x = slot_in old t in
      let same : slot_with (slot_in mid t) (Leaf (Do taken)) ≡ x = ap (λ y. slot_with y (Leaf (Do taken))) emptied ∙ sym out.was in
      is ∙ ap (slice_set mid t) same ∙ ap (λ xs. slice_set xs t x) out.slots ∙ set-set old t (slot_with x (Gone next 1)) x ∙ set-get_or old t (record { home = 0; after = None; what = Gone 0 0 })

  module _ (bound : BoundFormula) (new : List Slot) (is : new ≡ mid ++ slot_with (slot_in mid t) (Leaf (Do bound)) ∷ []) where
    -- one item more, where that one was
    pub more_slots : map slot_of new ≡ gone_at (map slot_of old) t (next ∷ []) ++ record { home = home_in (map slot_of old) t; what = plain.bare (S.Do (formula_of bound) (env_of bound)) } ∷ []
    more_slots =
        let d : Slot = record { home = 0; after = None; what = Gone 0 0 } in
        let due = plain.bare (S.Do (formula_of bound) (env_of bound)) in
        let gone : map slot_of mid ≡ gone_at (map slot_of old) t (next ∷ []) = ap (map slot_of) out.slots ∙ gone_is old t d (Gone next 1) (next ∷ []) within refl in
        let home : (slot_in mid t).home ≡ home_in (map slot_of old) t = ap (λ (x : Slot). x.home) emptied ∙ home_is old t d within in
        ap (map slot_of) is ∙ map-append slot_of mid (slot_with (slot_in mid t) (Leaf (Do bound)) ∷ []) ∙ (λ i. gone i ++ record { home = home i; what = due } ∷ [])

    pub more_afters : map (λ (x : Slot). x.after) new ≡ map (λ (x : Slot). x.after) old ++ after_at (map (λ (x : Slot). x.after) old) t ∷ []
    more_afters =
        let d : Slot = record { home = 0; after = None; what = Gone 0 0 } in
        let after : Slot → Option ℕ = λ x. x.after in
        let all : map after mid ≡ map after old = ap (map after) out.slots ∙ after_is old t d (Gone next 1) within in
        let one : (slot_in mid t).after ≡ after_at (map after old) t = ap after emptied ∙ sym (get_or-map after old t d None within) in
        ap (map after) is ∙ map-append after mid (slot_with (slot_in mid t) (Leaf (Do bound)) ∷ []) ∙ (λ i. all i ++ one i ∷ [])

-- where room was made before
pub out_before : (s r : Scene) (t k : ℕ) (taken : BoundFormula) (mid : List Slot) → IsUnchanged s r → IsTakenOut t k r.slots.items taken mid → IsTakenOut t k s.slots.items taken mid
out_before s r t k taken mid same out = subst (λ xs. IsTakenOut t k xs taken mid) same.slots out

-- nothing was changed in the end
pub back_unchanged : (s new : Scene) (t k : ℕ) (taken : BoundFormula) (mid : List Slot) → IsWellKept s → Lives s t → IsTakenOut t k s.slots.items taken mid → new.slots.items ≡ slice_set mid t (slot_with (slot_in mid t) (Leaf (Do taken))) → new.regions.items ≡ s.regions.items → IsUnchanged s new
back_unchanged s new t k taken mid kept lives out slots regions = record {
  slots = all_back t k s.slots.items mid taken (lives_within s t kept.shape.ordered lives) out new.slots.items slots;
  regions = regions;
}

module _ (s : Scene) (t k : ℕ) (taken : BoundFormula) (mid : List Slot) (kept : IsWellKept s) (lives : Lives s t) (out : IsTakenOut t k s.slots.items taken mid) where
  -- the bindings of what was taken out
  pub env_there : (env : S.Bindings) → IsDueUnder env (item_what s t) → env ≡ env_of taken
  env_there env due =
      let is : item_what s t ≡ plain.bare (S.Do (formula_of taken) (env_of taken)) = sym (read_in s t (lives_within s t kept.shape.ordered lives)) ∙ ap (λ (x : Slot). what_of x.what) out.was in
      let same : IsDueUnder env (plain.bare (S.Do (formula_of taken) (env_of taken))) = subst (IsDueUnder env) is due in
      same

  module _ (free : IsBare (item_what s t)) (number : k ≡ length s.slots.items) (bound : BoundFormula) (next : Scene) (items : next.slots.items ≡ mid ++ slot_with (slot_in mid t) (Leaf (Do bound)) ∷ [])
      (regions : next.regions.items ≡ s.regions.items) where
    within : t < length s.slots.items
    within = lives_within s t kept.shape.ordered lives

    slots : slots_of next ≡ stepped (slots_of s) t None [] (plain.bare (S.Do (formula_of bound) (env_of bound)) ∷ [])
    slots =
        let due = plain.bare (S.Do (formula_of bound) (env_of bound)) in
        let all : List plain.Slot = map slot_of next.slots.items in
        (λ i. record { slots = all; regions = map region_slot_of (regions i) })
        ∙ one_stepped (slots_of s) t k due all (more_slots t k s.slots.items mid taken within out bound next.slots.items items) (number ∙ sym (length-map s.slots.items slot_of))

    holders : holders_of next ≡ holders_of s
    holders = ap (map (λ (x : Region). x.holder)) regions

    ends : ends_of next ≡ ends_of s
    ends = ap (map (λ (x : Region). x.ends_now)) regions

    goes : goes_of next ≡ goes_of s
    goes = ap (map (λ (x : Region). x.goes_now)) regions

    pub more_kept : next.looks ≡ s.looks → IsWellKept next
    more_kept looks =
        unmarked_leaves_kept s t (plain.bare (S.Do (formula_of bound) (env_of bound)) ∷ []) kept lives free (tt, tt) next slots holders ends goes looks
        (more_afters t k s.slots.items mid taken within out bound next.slots.items items)

    pub more_scene : scene_of next ≡ scene_after t (becomes_leaves (scene_of s) (plain.bare (S.Do (formula_of bound) (env_of bound)) ∷ []) None) (scene_of s)
    more_scene = unmarked_leaves_scene s t (plain.bare (S.Do (formula_of bound) (env_of bound)) ∷ []) kept lives free (tt, tt) next slots holders ends goes

    pub more_news : new_items (scene_of s) (scene_of next) ≡ length (slots_of s).slots ∷ []
    more_news = unmarked_leaves_news s t (plain.bare (S.Do (formula_of bound) (env_of bound)) ∷ []) kept lives free (tt, tt) next slots holders ends goes
