-- In which order what stands in an item's place is visited.
use Rattle.std.specs.Prelude.{◌≡◌, ℕ, zero, suc, ◌+◌, ◌<◌, List, [], ◌∷◌, ◌++◌, length, get_or, Option, Some, None}
use Rattle.tp_slots.specs.Plain.{What, bare, holds, gone, Slots, slot_at, region_slot}

-- what is visited after the item, if anything is
abbrev pub after_at : List (Option ℕ) → (t : ℕ) → Option ℕ
after_at ns t = get_or ns t None

-- the first of these, or else that one
abbrev pub first_or : List ℕ → Option ℕ → Option ℕ
first_or [] o = o
first_or (t ∷ ts) o = Some t

-- Each of these items is visited after the one before it, and after the last one `end` is.
abbrev pub AreLinked : List (Option ℕ) → List ℕ → (end : Option ℕ) → Type 0
AreLinked ns [] end = Unit {0}
AreLinked ns (t ∷ ts) end = (after_at ns t ≡ first_or ts end) × AreLinked ns ts end

-- The items in an item's place are visited where it was to be.
abbrev pub IsLinked : List (Option ℕ) → (t : ℕ) → What → Type 0
IsLinked ns t (bare l) = Unit {0}
IsLinked ns t (holds k r q) = Unit {0}
IsLinked ns t (gone by) = AreLinked ns by (after_at ns t)

-- after these nothing is visited
abbrev pub AreLast : List (Option ℕ) → List ℕ → Type 0
AreLast ns [] = Unit {0}
AreLast ns (t ∷ ts) = (after_at ns t ≡ None) × AreLast ns ts

-- Of each item it is known what is visited after it, of what stands in the place of one with which
-- its region began.
pub record AreThreaded (s : Slots) (ns : List (Option ℕ)) : Type 0 where
  pub items : (t : ℕ) → t < length s.slots → IsLinked ns t (slot_at s t).what
  pub roots : (r : ℕ) → r < length s.regions → AreLast ns (region_slot s r).roots

-- what is visited after so many new items, of which the first has this number: after each but the
-- last the next one, and after that one `end`
abbrev pub link : (from more : ℕ) → (end : Option ℕ) → Option ℕ
link from zero end = end
link from (suc n) end = Some (from + 1)

abbrev pub links : (from count : ℕ) → (end : Option ℕ) → List (Option ℕ)
links from zero end = []
links from (suc n) end = link from n end ∷ links (from + 1) n end

-- nothing, after so many
abbrev pub nothing_after : (count : ℕ) → List (Option ℕ)
nothing_after zero = []
nothing_after (suc n) = None ∷ nothing_after n

-- The same where so many new items begin a region, and then so many stand in place of the item t.
abbrev pub afters_then : List (Option ℕ) → (inner outs t : ℕ) → List (Option ℕ)
afters_then ns i o t = ns ++ (nothing_after i ++ links (length ns + i) o (after_at ns t))
