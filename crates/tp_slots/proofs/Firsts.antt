-- The first item that waits, found by what each item knows to come after it.
use Rattle.std.proofs.Common.{◌≡◌, ℕ, zero, suc, ◌+◌, ◌≤◌, ◌<◌, Bool, true, false, List, [], ◌∷◌, ◌++◌, length, get_or, take, drop, Option, Some, None, refl, ap, sym, ◌∙◌, subst, arith}
use Rattle.std.specs.Prelude.{filter}
use Rattle.std.proofs.lemmas.List.{append_assoc, append-nil, drop_more, take_more, take-append-drop}
use Rattle.std.proofs.lemmas.List.Elements.{filter-append}
use Rattle.tp_scene.specs.Scene.{only_if, second_lives}
use Rattle.tp_scene.specs.LiveItems.{live_items}
use Rattle.tp_slots.specs.Plain.{What, bare, holds, gone, Slots, slot_at, second_of, entries_at, AreIn, WhatFits, IsOrdered}
use Rattle.tp_slots.specs.Cost.{sum_over, second_cost, what_cost, cost_of, cost_at}
use Rattle.tp_slots.specs.Threads.{after_at, first_or, AreLinked, AreLast, IsLinked, AreThreaded}
use Rattle.tp_slots.specs.Read.{slots_of, holders_of}
use Rattle.tp_slots.specs.Settled.{first_in, item_waits, first_waiting, standing_in, stands_by}
use Rattle.tp_slots.specs.Walk.{live_of, live_in}
use Rattle.tp_slots.specs.declared.scene.Scene.{Scene}
use Rattle.tp_slots.proofs.Walking.{region_live, bare_live, gone_live, holder_live}
use Rattle.tp_slots.proofs.Costs.{item_cost}

-- the first of two lists
none_first : (xs ys : List ℕ) → first_in xs ≡ None → first_in (xs ++ ys) ≡ first_in ys
none_first [] ys e = refl
none_first (x ∷ xs) ys e = absurd (cc)

some_first : (xs ys : List ℕ) (f : ℕ) → first_in xs ≡ Some f → first_in (xs ++ ys) ≡ Some f
some_first [] ys f e = absurd (cc)
some_first (x ∷ xs) ys f e = e

module _ (s : Scene) where
  abbrev p : ℕ → Bool
  p = item_waits (slots_of s) (holders_of s)

  pub none_waits : (xs ys : List ℕ) → first_waiting s xs ≡ None → first_waiting s (xs ++ ys) ≡ first_waiting s ys
  none_waits xs ys e = ap first_in (filter-append p xs ys) ∙ none_first (filter p xs) (filter p ys) e

  pub one_waits : (xs ys : List ℕ) (f : ℕ) → first_waiting s xs ≡ Some f → first_waiting s (xs ++ ys) ≡ Some f
  one_waits xs ys f e = ap first_in (filter-append p xs ys) ∙ some_first (filter p xs) (filter p ys) f e

  pub itself : (t : ℕ) → p t ≡ true → first_waiting s (t ∷ []) ≡ Some t
  itself t e = rw e refl

  pub not_itself : (t : ℕ) → p t ≡ false → first_waiting s (t ∷ []) ≡ None
  not_itself t e = rw e refl

-- What an item stands for: what stands in its slot, or the items in its place.
pub live_split : (s : Slots) → IsOrdered s → (t : ℕ) → t < length s.slots → (w : What) → (slot_at s t).what ≡ w → live_of s t ≡ standing_in s t w ++ live_in s (stands_by w)
live_split s sound t l (bare x) e = bare_live s sound t x l e
live_split s sound t l (gone by) e = gone_live s sound t by l e
live_split s sound t l (holds k r q) e =
    let f = subst (λ w. WhatFits s (slot_at s t).home t w) e (sound.items t l).1 in
    let first = only_if (second_lives k) (live_items (second_of (entries_at s) q)) in
    holder_live s sound t k r q l e ∙ (ap (λ ns. (first ++ ns) ++ t ∷ []) (sym (region_live s sound r f.0.1)) ∙ sym (append-nil ((first ++ live_items (entries_at s r)) ++ t ∷ [])))

live_both : (s : Slots) (xs ys : List ℕ) → live_in s (xs ++ ys) ≡ live_in s xs ++ live_in s ys
live_both s [] ys = refl
live_both s (x ∷ xs) ys = ap (λ ns. live_of s x ++ ns) (live_both s xs ys) ∙ sym (append_assoc (live_of s x) (live_in s xs) (live_in s ys))

linked_both : (ns : List (Option ℕ)) (xs ys : List ℕ) (end : Option ℕ) → AreLinked ns xs (first_or ys end) → AreLinked ns ys end → AreLinked ns (xs ++ ys) end
linked_both ns [] ys end a b = b
linked_both ns (x ∷ xs) ys end a b = (a.0 ∙ sym (first_both xs), linked_both ns xs ys end a.1 b)
  where
    first_both : (xs : List ℕ) → first_or (xs ++ ys) end ≡ first_or xs (first_or ys end)
    first_both [] = refl
    first_both (x ∷ xs) = refl

in_both : (s : Slots) (home : ℕ) (xs ys : List ℕ) → AreIn s 0 home xs → AreIn s 0 home ys → AreIn s 0 home (xs ++ ys)
in_both s home [] ys a b = b
in_both s home (x ∷ xs) ys a b = (a.0, a.1, a.2, in_both s home xs ys a.3 b)

in_weaker : (s : Slots) (from home : ℕ) (xs : List ℕ) → AreIn s from home xs → AreIn s 0 home xs
in_weaker s from home [] a = tt
in_weaker s from home (x ∷ xs) a = (omega arith, a.1, a.2, in_weaker s from home xs a.3)

sum_both : (f : ℕ → ℕ) (xs ys : List ℕ) → sum_over f (xs ++ ys) ≡ sum_over f xs + sum_over f ys
sum_both f [] ys = omega arith
sum_both f (x ∷ xs) ys = let e = sum_both f xs ys in omega (arith, e)

-- what is still to be visited after an item costs this much
abbrev pub cost_after : (each : ℕ → ℕ) → List (Option ℕ) → (fuel t : ℕ) → ℕ
cost_after each ns zero t = 0
cost_after each ns (suc n) t = second_cost (λ u. each u + cost_after each ns n u) (after_at ns t)

cost_is : (each : ℕ → ℕ) (ns : List (Option ℕ)) (rest : List ℕ) (t n : ℕ) → AreLinked ns (t ∷ rest) None → length rest ≤ n → cost_after each ns n t ≡ sum_over each rest
cost_is each ns [] t zero a l = refl
cost_is each ns [] t (suc n) a l = ap (second_cost (λ u. each u + cost_after each ns n u)) a.0
cost_is each ns (u ∷ us) t zero a l = absurd (omega (arith, l))
cost_is each ns (u ∷ us) t (suc n) a l = ap (second_cost (λ u. each u + cost_after each ns n u)) a.0 ∙ ap (λ c. each u + c) (cost_is each ns us u n a.1 (omega (arith, l)))

-- These items are still to be visited, of what the root stands for: those before wait for nothing.
pub record AreToVisit (s : Slots) (ns : List (Option ℕ)) (find : List ℕ → Option ℕ) (root : ℕ) (ids : List ℕ) : Type 0 where
  pub linked : AreLinked ns ids None
  pub inside : AreIn s 0 (slot_at s root).home ids
  pub first : find (live_in s ids) ≡ find (live_of s root)
  pub cost : sum_over (cost_of s) ids ≤ cost_of s root

module _ (s : Slots) (ns : List (Option ℕ)) (sound : IsOrdered s) (threads : AreThreaded s ns) where
  many : (home : ℕ) (xs : List ℕ) → AreIn s 0 home xs → length xs ≤ sum_over (cost_of s) xs
  many home [] a = omega arith
  many home (x ∷ xs) a = let c = item_cost s sound x a.1 in let d = many home xs a.3 in omega (arith, c, d)

  module _ (find : List ℕ → Option ℕ) (none : (xs ys : List ℕ) → find xs ≡ None → find (xs ++ ys) ≡ find ys) (some : (xs ys : List ℕ) (f : ℕ) → find xs ≡ Some f → find (xs ++ ys) ≡ Some f) (root : ℕ) where
    pub begin_visit : root < length s.slots → after_at ns root ≡ None → AreToVisit s ns find root (root ∷ [])
    begin_visit l e = record {
      linked = (e, tt);
      inside = (omega arith, l, refl, tt);
      first = ap find (append-nil (live_of s root));
      cost = omega arith;
    }

    module _ (t : ℕ) (rest : List ℕ) (v : AreToVisit s ns find root (t ∷ rest)) where
      abbrev what : What
      what = (slot_at s t).what

      all_live : live_in s (t ∷ rest) ≡ standing_in s t what ++ (live_in s (stands_by what) ++ live_in s rest)
      all_live =
          ap (λ xs. xs ++ live_in s rest) (live_split s sound t v.inside.1 what refl)
          ∙ append_assoc (standing_in s t what) (live_in s (stands_by what)) (live_in s rest)

      pub found : (f : ℕ) → find (standing_in s t what) ≡ Some f → find (live_of s root) ≡ Some f
      found f e = sym v.first ∙ (ap find all_live ∙ some (standing_in s t what) (live_in s (stands_by what) ++ live_in s rest) f e)

      by_cost : (w : What) → what_cost (cost_at s) (cost_of s) w ≡ what_cost (cost_at s) (cost_of s) what → sum_over (cost_of s) (stands_by w) ≤ what_cost (cost_at s) (cost_of s) what
      by_cost (bare l) e = omega arith
      by_cost (holds k r q) e = omega arith
      by_cost (gone by) e = omega (arith, e)

      less : sum_over (cost_of s) (stands_by what ++ rest) < sum_over (cost_of s) (t ∷ rest)
      less =
          let a = sum_both (cost_of s) (stands_by what) rest in
          let b = by_cost what refl in
          let c = item_cost s sound t v.inside.1 in
          omega (arith, a, b, c)

      by_linked : (w : What) → IsLinked ns t w → AreLinked ns (stands_by w) (after_at ns t)
      by_linked (bare l) h = tt
      by_linked (holds k r q) h = tt
      by_linked (gone by) h = h

      by_inside : (w : What) → WhatFits s (slot_at s t).home t w → AreIn s 0 (slot_at s t).home (stands_by w)
      by_inside (bare l) h = tt
      by_inside (holds k r q) h = tt
      by_inside (gone by) h = in_weaker s (suc t) (slot_at s t).home by h

      pub goes_on : find (standing_in s t what) ≡ None → AreToVisit s ns find root (stands_by what ++ rest)
      goes_on e =
          let small = less in
          let before = v.cost in
          record {
            linked = linked_both ns (stands_by what) rest None (subst (AreLinked ns (stands_by what)) v.linked.0 (by_linked what (threads.items t v.inside.1))) v.linked.1;
            inside = in_both s (slot_at s root).home (stands_by what) rest (subst (λ h. AreIn s 0 h (stands_by what)) v.inside.2 (by_inside what (sound.items t v.inside.1).1)) v.inside.3;
            first = ap find (live_both s (stands_by what) rest) ∙ (sym (none (standing_in s t what) (live_in s (stands_by what) ++ live_in s rest) e) ∙ (sym (ap find all_live) ∙ v.first));
            cost = omega (arith, small, before);
          }

      pub measure_is : cost_of s t + cost_after (cost_of s) ns (cost_of s root) t ≡ sum_over (cost_of s) (t ∷ rest)
      measure_is =
          let a = many (slot_at s root).home rest v.inside.3 in
          let b = v.cost in
          ap (λ c. cost_of s t + c) (cost_is (cost_of s) ns rest t (cost_of s root) v.linked (omega (arith, a, b)))

      -- the next one is the first in its place, or else what comes after it
      pub in_place : (u : ℕ) → first_in (stands_by what) ≡ Some u → find (standing_in s t what) ≡ None
          → (later : List ℕ) × AreToVisit s ns find root (u ∷ later) × (sum_over (cost_of s) (u ∷ later) < sum_over (cost_of s) (t ∷ rest))
      in_place u e n = by (stands_by what) refl e
        where
          by : (ids : List ℕ) → stands_by what ≡ ids → first_in ids ≡ Some u → (later : List ℕ) × AreToVisit s ns find root (u ∷ later) × (sum_over (cost_of s) (u ∷ later) < sum_over (cost_of s) (t ∷ rest))
          by [] is e = absurd (cc)
          by (x ∷ xs) is e =
              let same : x ≡ u = cc in
              let all : stands_by what ++ rest ≡ u ∷ (xs ++ rest) = ap (λ ids. ids ++ rest) is ∙ ap (λ y. y ∷ (xs ++ rest)) same in
              (xs ++ rest, subst (AreToVisit s ns find root) all (goes_on n), subst (λ ids. sum_over (cost_of s) ids < sum_over (cost_of s) (t ∷ rest)) all less)

      only_rest : first_in (stands_by what) ≡ None → stands_by what ++ rest ≡ rest
      only_rest e = by (stands_by what) e
        where
          by : (ids : List ℕ) → first_in ids ≡ None → ids ++ rest ≡ rest
          by [] e = refl
          by (x ∷ xs) e = absurd (cc)

      pub afterwards : (u : ℕ) → first_in (stands_by what) ≡ None → after_at ns t ≡ Some u → find (standing_in s t what) ≡ None
          → (later : List ℕ) × AreToVisit s ns find root (u ∷ later) × (sum_over (cost_of s) (u ∷ later) < sum_over (cost_of s) (t ∷ rest))
      afterwards u e o n = by rest refl
        where
          by : (ids : List ℕ) → rest ≡ ids → (later : List ℕ) × AreToVisit s ns find root (u ∷ later) × (sum_over (cost_of s) (u ∷ later) < sum_over (cost_of s) (t ∷ rest))
          by [] is = let never : Some u ≡ None = sym o ∙ (v.linked.0 ∙ ap (λ ids. first_or ids None) is) in absurd (cc)
          by (x ∷ xs) is =
              let so : Some x ≡ Some u = sym (v.linked.0 ∙ ap (λ ids. first_or ids None) is) ∙ o in
              let same : x ≡ u = cc in
              let all : stands_by what ++ rest ≡ u ∷ xs = only_rest e ∙ (is ∙ ap (λ y. y ∷ xs) same) in
              (xs, subst (AreToVisit s ns find root) all (goes_on n), subst (λ ids. sum_over (cost_of s) ids < sum_over (cost_of s) (t ∷ rest)) all less)

      pub nothing_left : find [] ≡ None → first_in (stands_by what) ≡ None → after_at ns t ≡ None → find (standing_in s t what) ≡ None → find (live_of s root) ≡ None
      nothing_left empty e o n = by rest refl
        where
          by : (ids : List ℕ) → rest ≡ ids → find (live_of s root) ≡ None
          by (x ∷ xs) is = let never : Some x ≡ None = sym (v.linked.0 ∙ ap (λ ids. first_or ids None) is) ∙ o in absurd (cc)
          by [] is = sym (goes_on n).first ∙ (ap (λ ids. find (live_in s ids)) (only_rest e ∙ is) ∙ empty)

-- one by one
pub in_at : (s : Slots) (from home : ℕ) (ids : List ℕ) (i d : ℕ) → i < length ids → AreIn s from home ids → (get_or ids i d < length s.slots) × ((slot_at s (get_or ids i d)).home ≡ home)
in_at s from home [] i d l a = absurd (omega (arith, l))
in_at s from home (x ∷ xs) zero d l a = (a.1, a.2)
in_at s from home (x ∷ xs) (suc i) d l a = in_at s from home xs i d (omega (arith, l)) a.3

pub last_at : (ns : List (Option ℕ)) (ids : List ℕ) (i d : ℕ) → i < length ids → AreLast ns ids → after_at ns (get_or ids i d) ≡ None
last_at ns [] i d l a = absurd (omega (arith, l))
last_at ns (x ∷ xs) zero d l a = a.0
last_at ns (x ∷ xs) (suc i) d l a = last_at ns xs i d (omega (arith, l)) a.1

module _ (s : Scene) (ids : List ℕ) (i d : ℕ) (l : i < length ids) (e : first_waiting s (live_in (slots_of s) (take i ids)) ≡ None) where
  abbrev here : ℕ
  here = get_or ids i d

  pub none_up_to : first_waiting s (live_of (slots_of s) here) ≡ None → first_waiting s (live_in (slots_of s) (take (i + 1) ids)) ≡ None
  none_up_to h =
      ap (λ xs. first_waiting s (live_in (slots_of s) xs)) (take_more ids i d l)
      ∙ (ap (first_waiting s) (live_both (slots_of s) (take i ids) (here ∷ []))
      ∙ (none_waits s (live_in (slots_of s) (take i ids)) (live_of (slots_of s) here ++ []) e ∙ (ap (first_waiting s) (append-nil (live_of (slots_of s) here)) ∙ h)))

  pub some_at : (f : ℕ) → first_waiting s (live_of (slots_of s) here) ≡ Some f → first_waiting s (live_in (slots_of s) ids) ≡ Some f
  some_at f h =
      ap (λ xs. first_waiting s (live_in (slots_of s) xs)) (sym (take-append-drop i ids) ∙ ap (λ xs. take i ids ++ xs) (drop_more ids i d l))
      ∙ (ap (first_waiting s) (live_both (slots_of s) (take i ids) (here ∷ drop (i + 1) ids))
      ∙ (none_waits s (live_in (slots_of s) (take i ids)) (live_of (slots_of s) here ++ live_in (slots_of s) (drop (i + 1) ids)) e
      ∙ one_waits s (live_of (slots_of s) here) (live_in (slots_of s) (drop (i + 1) ids)) f h))
