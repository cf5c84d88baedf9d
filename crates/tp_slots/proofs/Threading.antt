-- What is visited after each item, where new ones are put.
use Rattle.std.proofs.Common.{◌≡◌, ℕ, zero, suc, ◌+◌, ◌-◌, ◌≤◌, ◌<◌, List, [], ◌∷◌, ◌++◌, length, get_or, false, Option, Some, None, refl, ap, sym, ◌∙◌, subst, arith}
use Rattle.std.specs.List.{range_with_len}
use Rattle.std.proofs.lemmas.List.{append_assoc, get_or_at, get_or_append_left, length-append}
use Rattle.tp_slots.specs.Plain.{What, bare, holds, gone, Slots, slot_at, AreIn, WhatFits}
use Rattle.tp_slots.specs.Reductions.{AreBare}
use Rattle.tp_slots.specs.Row.{begun}
use Rattle.tp_slots.specs.Threads.{after_at, first_or, AreLinked, IsLinked, AreLast, link, links, nothing_after, afters_then}
use Rattle.tp_slots.proofs.Told.{ItemsFit}

-- items that were there keep what is visited after them
pub linked_still : (s : Slots) (ns ns' : List (Option ℕ)) (from home : ℕ) (by : List ℕ) (end : Option ℕ) → ((k : ℕ) → k < length s.slots → after_at ns' k ≡ after_at ns k) → AreIn s from home by → AreLinked ns by end → AreLinked ns' by end
linked_still s ns ns' from home [] end same a h = tt
linked_still s ns ns' from home (u ∷ us) end same a h = (same u a.1 ∙ h.0, linked_still s ns ns' from home us end same a.3 h.1)

pub last_still : (s : Slots) (ns ns' : List (Option ℕ)) (from home : ℕ) (ids : List ℕ) → ((k : ℕ) → k < length s.slots → after_at ns' k ≡ after_at ns k) → AreIn s from home ids → AreLast ns ids → AreLast ns' ids
last_still s ns ns' from home [] same a h = tt
last_still s ns ns' from home (u ∷ us) same a h = (same u a.1 ∙ h.0, last_still s ns ns' from home us same a.3 h.1)

pub what_still : (s : Slots) (ns ns' : List (Option ℕ)) (t : ℕ) (w : What) → t < length s.slots → ((k : ℕ) → k < length s.slots → after_at ns' k ≡ after_at ns k) → WhatFits s (slot_at s t).home t w → IsLinked ns t w → IsLinked ns' t w
what_still s ns ns' t (bare l) inside same f h = tt
what_still s ns ns' t (holds k r q) inside same f h = tt
what_still s ns ns' t (gone by) inside same f h = subst (AreLinked ns' by) (sym (same t inside)) (linked_still s ns ns' (suc t) (slot_at s t).home by (after_at ns t) same f h)

first_link : (from n : ℕ) (end : Option ℕ) → link from n end ≡ first_or (range_with_len (from + 1) n) end
first_link from zero end = refl
first_link from (suc n) end = refl

one_longer : (pre : List (Option ℕ)) (x : Option ℕ) (from : ℕ) → length pre ≡ from → length (pre ++ x ∷ []) ≡ from + 1
one_longer pre x from e = let a = length-append pre (x ∷ []) in omega (arith, a, e)

-- the new ones are linked
pub linked_new : (n from : ℕ) (pre : List (Option ℕ)) (end : Option ℕ) → length pre ≡ from → AreLinked (pre ++ links from n end) (range_with_len from n) end
linked_new zero from pre end e = tt
linked_new (suc n) from pre end e = (
  get_or_at pre (link from n end) (links (from + 1) n end) None from e ∙ first_link from n end,
  subst (λ (ns : List (Option ℕ)). AreLinked ns (range_with_len (from + 1) n) end) (append_assoc pre (link from n end ∷ []) (links (from + 1) n end))
      (linked_new n (from + 1) (pre ++ link from n end ∷ []) end (one_longer pre (link from n end) from e)),
)

-- and nothing is visited after those that begin a region
pub last_new : (n from : ℕ) (pre more : List (Option ℕ)) → length pre ≡ from → AreLast (pre ++ (nothing_after n ++ more)) (range_with_len from n)
last_new zero from pre more e = tt
last_new (suc n) from pre more e = (
  get_or_at pre None (nothing_after n ++ more) None from e,
  subst (λ (ns : List (Option ℕ)). AreLast ns (range_with_len (from + 1) n)) (append_assoc pre (None ∷ []) (nothing_after n ++ more)) (last_new n (from + 1) (pre ++ None ∷ []) more (one_longer pre None from e)),
)

pub nothing_count : (n : ℕ) → length (nothing_after n) ≡ n
nothing_count zero = refl
nothing_count (suc n) = ap suc (nothing_count n)

pub nothing_more : (n : ℕ) → nothing_after (n + 1) ≡ nothing_after n ++ None ∷ []
nothing_more n = subst (λ m. nothing_after m ≡ nothing_after n ++ None ∷ []) (let e : suc n ≡ n + 1 = omega arith in e) (by n)
  where
    by : (n : ℕ) → nothing_after (suc n) ≡ nothing_after n ++ None ∷ []
    by zero = refl
    by (suc n) = ap (λ xs. None ∷ xs) (by n)

module _ (ns : List (Option ℕ)) (i o t : ℕ) where
  pub old_after : (k : ℕ) → k < length ns → after_at (afters_then ns i o t) k ≡ after_at ns k
  old_after k l = get_or_append_left ns (nothing_after i ++ links (length ns + i) o (after_at ns t)) None k l

  pub inner_last : AreLast (afters_then ns i o t) (range_with_len (length ns) i)
  inner_last = last_new i (length ns) ns (links (length ns + i) o (after_at ns t)) refl

  pub outs_linked : AreLinked (afters_then ns i o t) (range_with_len (length ns + i) o) (after_at ns t)
  outs_linked =
      let n : length (ns ++ nothing_after i) ≡ length ns + i = length-append ns (nothing_after i) ∙ ap (λ k. length ns + k) (nothing_count i) in
      subst (λ (xs : List (Option ℕ)). AreLinked xs (range_with_len (length ns + i) o) (after_at ns t)) (append_assoc ns (nothing_after i) (links (length ns + i) o (after_at ns t)))
      (linked_new o (length ns + i) (ns ++ nothing_after i) (after_at ns t) n)

-- new items have no others in their place
pub bare_linked : (ns : List (Option ℕ)) (x i : ℕ) (ws : List What) → AreBare ws → IsLinked ns x (get_or ws i (gone []))
bare_linked ns x i [] b = tt
bare_linked ns x zero (bare l ∷ ws) b = tt
bare_linked ns x zero (holds k p o ∷ ws) b = tt
bare_linked ns x zero (gone by ∷ ws) b = absurd b.0
bare_linked ns x (suc i) (bare l ∷ ws) b = bare_linked ns x i ws b.1
bare_linked ns x (suc i) (holds k p o ∷ ws) b = absurd b.0
bare_linked ns x (suc i) (gone by ∷ ws) b = absurd b.0

pub fit_linked : (z : Slots) (home : ℕ) (ns : List (Option ℕ)) (x i : ℕ) (ws : List What) → ItemsFit z home ws → IsLinked ns x (get_or ws i (gone []))
fit_linked z home ns x i [] f = tt
fit_linked z home ns x zero (bare l ∷ ws) f = tt
fit_linked z home ns x zero (holds k p o ∷ ws) f = tt
fit_linked z home ns x zero (gone by ∷ ws) f = absurd f.0
fit_linked z home ns x (suc i) (w ∷ ws) f = fit_linked z home ns x i ws f.1

pub begun_last : (ns : List (Option ℕ)) (n c i : ℕ) → AreLast ns (range_with_len n c) → AreLast ns (get_or (begun n c) i (record { ends = false; goes = false; roots = [] })).roots
begun_last ns n zero i h = tt
begun_last ns n (suc c) zero h = h
begun_last ns n (suc c) (suc i) h = tt

-- one more of the new ones, of which so many are left
pub links_more : (last left : ℕ) (end after : Option ℕ) → 0 < left → left ≤ last → (left - 1 ≡ 0 → after ≡ end) → ((left - 1 ≡ 0 → ⊥) → after ≡ Some (last - (left - 1)))
    → after ∷ links (last - (left - 1)) (left - 1) end ≡ links (last - left) left end
links_more last zero end after a b h g = absurd (omega (arith, a))
links_more last (suc k) end after a b h g =
    let e : suc k - 1 ≡ k = omega arith in
    let f : last - k ≡ last - suc k + 1 = omega (arith, b) in
    let same = by k (λ z. h (e ∙ z)) (λ no. g (λ z. no (sym e ∙ z)) ∙ ap (λ m. Some (last - m)) e) f in
    let from = ap (λ m. last - m) e ∙ f in
    λ i. same i ∷ links (from i) (e i) end
  where
    by : (k : ℕ) → (k ≡ 0 → after ≡ end) → ((k ≡ 0 → ⊥) → after ≡ Some (last - k)) → last - k ≡ last - suc k + 1 → after ≡ link (last - suc k) k end
    by zero h g f = h refl
    by (suc j) h g f = g (λ z. absurd (omega (arith, z))) ∙ ap Some f
