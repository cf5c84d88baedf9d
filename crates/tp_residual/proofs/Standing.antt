-- The items of a region itself, as the code lists them, and how its entries are spelled by them.
use Rattle.std.proofs.Common.{◌≡◌, ℕ, zero, suc, ◌+◌, ◌-◌, ◌≤◌, ◌<◌, true, List, [], ◌∷◌, ◌++◌, length, get_or, refl, ap, sym, ◌∙◌, subst, codes, arith}
use Rattle.std.specs.List.{range_with_len}
use Rattle.std.proofs.lemmas.List.{append_assoc, length-map}
use Rattle.tp_tree.specs.Tree.{PhraseTrees, truth}
use Rattle.tp_tree.specs.Levels.{not_level, kind_level}
use Rattle.tp_tree.specs.Spelling.{kind_spelling, operands_spelling}
use Rattle.tp_kernel.specs.Read.{definitions_of}
use Rattle.tp_scene.specs.Scene.{Entries, none, leaf, node}
use Rattle.tp_slots.specs.Plain as plain
use Rattle.tp_slots.specs.Plain.{Slots, region_slot, of_what, entries_at, AreIn, WhatFits, IsOrdered, IsLive}
use Rattle.tp_slots.specs.Walk.{item_front}
use Rattle.tp_slots.specs.Own.{own_ids, own_for, own_in, own_inside}
use Rattle.tp_slots.specs.Shown.{AreShown}
use Rattle.tp_slots.specs.Read.{slot_of, region_slot_of, slots_of, what_of, item_home}
use Rattle.tp_slots.specs.declared.scene.Scene.{Scene}
use Rattle.tp_slots.specs.declared.scene.Region.{Region}
use Rattle.tp_slots.specs.declared.scene.Slot.{Slot}
use Rattle.tp_slots.proofs.Walking.{item_is, entries_are}
use Rattle.tp_slots.proofs.WalkLemmas.{roots_are}
use Rattle.tp_slots.proofs.Showing.{all_shown}
use Rattle.tp_residual.proofs.Conjunctions.{only_item}
use Rattle.tp_residual.specs.Phrases.{all_kind}
use Rattle.tp_residual.specs.Parts.{enclosed}
use Rattle.tp_residual.specs.Residual.{due_kind, split_kind, entries_phrases}
use Rattle.tp_residual.specs.Seen.{what_kind, item_kind, item_level_in, item_spelling, items_spelling, region_entries_of, region_kind, region_spelling}
use Rattle.tp_residual.specs.declared.scene.Residue.{Residue}
use Rattle.tp_slots.proofs.OwnItems.{in_order_own, item_of_region, slot_is}

live_own : (s : Slots) (t : ℕ) (w : plain.What) → IsLive w → own_ids (of_what s (entries_at s) (item_front s) t w none) ≡ t ∷ []
live_own s t (plain.bare l) a = refl
live_own s t (plain.holds k r q) a = refl
live_own s t (plain.gone by) a = absurd a

module _ (s : Scene) (sound : IsOrdered (slots_of s)) (t : ℕ) (x : Slot) (l : t < length s.slots.items) (is : x ≡ get_or s.slots.items t x) where
  within : t < length (slots_of s).slots
  within = let n = length-map s.slots.items slot_of in omega (arith, n, l)

  -- what stands in a slot fits there
  pub slot_fits : WhatFits (slots_of s) (item_home s t) t (what_of x.what)
  slot_fits = subst (WhatFits (slots_of s) (item_home s t) t) (sym (slot_is s t x l is)) (sound.items t within).1

  own_what : own_for (slots_of s) t ≡ own_ids (of_what (slots_of s) (entries_at (slots_of s)) (item_front (slots_of s)) t (what_of x.what) none)
  own_what = ap own_ids (item_is (slots_of s) sound t none within) ∙ ap (λ w. own_ids (of_what (slots_of s) (entries_at (slots_of s)) (item_front (slots_of s)) t w none)) (sym (slot_is s t x l is))

  -- an item that isn't gone stands for itself
  pub live_written : (out new : List ℕ) → IsLive (what_of x.what) → new ≡ out ++ t ∷ [] → new ≡ out ++ own_for (slots_of s) t
  live_written out new a e = e ∙ ap (λ ns. out ++ ns) (sym (own_what ∙ live_own (slots_of s) t (what_of x.what) a))

  -- one that is gone for those that stand in its place
  pub gone_own : (first count : ℕ) → what_of x.what ≡ plain.gone (range_with_len first count) → own_in (slots_of s) (range_with_len first count) ≡ own_for (slots_of s) t
  gone_own first count e =
      sym (own_what ∙ (ap (λ w. own_ids (of_what (slots_of s) (entries_at (slots_of s)) (item_front (slots_of s)) t w none)) e ∙ in_order_own (slots_of s) (range_with_len first count)))

  in_range : (z : Slots) (low home first count i : ℕ) → AreIn z low home (range_with_len first count) → i < count → (low ≤ first + i) × (first + i < length z.slots)
  in_range z low home first zero i a c = absurd (omega (arith, c))
  in_range z low home first (suc n) zero a c = (let b = a.0 in omega (arith, b), let b = a.1 in omega (arith, b))
  in_range z low home first (suc n) (suc i) a c = let b = in_range z low home (first + 1) n i a.3 (omega (arith, c)) in let d = b.0 in let e = b.1 in (omega (arith, d), omega (arith, e))

  pub gone_item : (first count i : ℕ) → what_of x.what ≡ plain.gone (range_with_len first count) → i < count → (t < first + i) × (first + i < length s.slots.items)
  gone_item first count i e c =
      let n = length-map s.slots.items slot_of in
      let a = in_range (slots_of s) (suc t) (item_home s t) first count i (subst (WhatFits (slots_of s) (item_home s t) t) e slot_fits) c in
      let b = a.0 in
      let d = a.1 in
      (omega (arith, b), omega (arith, n, d))

  -- a region that it holds is inside of its own
  pub held_inside : (k : plain.What) → what_of x.what ≡ k → WhatFits (slots_of s) (item_home s t) t k
  held_inside k e = subst (WhatFits (slots_of s) (item_home s t) t) e slot_fits

-- one more of those that stand in the place of an item
pub one_of_gone : (s : Slots) (first count i : ℕ) (out new begin : List ℕ) → i < count → out ++ own_in s (range_with_len (first + i) (count - i)) ≡ begin → new ≡ out ++ own_for s (first + i)
    → new ++ own_in s (range_with_len (first + (i + 1)) (count - (i + 1))) ≡ begin
one_of_gone s first count i out new begin l e f =
    let n : count - i ≡ suc (count - (i + 1)) = omega (arith, l) in
    let m : first + (i + 1) ≡ first + i + 1 = omega arith in
    ap (λ ns. ns ++ own_in s (range_with_len (first + (i + 1)) (count - (i + 1)))) f
    ∙ (append_assoc out (own_for s (first + i)) (own_in s (range_with_len (first + (i + 1)) (count - (i + 1))))
    ∙ (ap (λ j. out ++ (own_for s (first + i) ++ own_in s (range_with_len j (count - (i + 1))))) m
    ∙ (ap (λ j. out ++ own_in s (range_with_len (first + i) j)) (sym n) ∙ e)))

-- the items that a region began with stand for its own
pub roots_own : (s : Scene) (r : ℕ) (x : Region) → IsOrdered (slots_of s) → r < length s.regions.items → x ≡ get_or s.regions.items r x → (own_in (slots_of s) x.roots.items ≡ own_inside s r) × AreIn (slots_of s) 0 r x.roots.items
roots_own s r x sound l e =
    let z = slots_of s in
    let n = length-map s.regions.items region_slot_of in
    let within : r < length z.regions = omega (arith, n, l) in
    let f = roots_are s r x l e in (
      ap (own_in z) f ∙ sym (ap own_ids (entries_are z sound r within) ∙ in_order_own z (region_slot z r).roots),
      subst (AreIn z 0 r) (sym f) (sound.regions r within),
    )

pub root_within : (s : Scene) (r i : ℕ) (ids : List ℕ) (t : ℕ) → AreIn (slots_of s) 0 r ids → i < length ids → t ≡ get_or ids i t → t < length s.slots.items
root_within s r i ids t a l e = let n = length-map s.slots.items slot_of in let b = subst (λ u. u < length (slots_of s).slots) (sym e) (by_place i ids a l) in omega (arith, n, b)
  where
    by_place : (i : ℕ) (ids : List ℕ) → AreIn (slots_of s) 0 r ids → i < length ids → get_or ids i t < length (slots_of s).slots
    by_place i [] a l = absurd (omega (arith, l))
    by_place zero (u ∷ us) a l = a.1
    by_place (suc i) (u ∷ us) a l = by_place i us a.3 (omega (arith, l))

get_or_any : (xs : List ℕ) (i d e : ℕ) → i < length xs → get_or xs i d ≡ get_or xs i e
get_or_any [] i d e l = absurd (omega (arith, l))
get_or_any (x ∷ xs) zero d e l = refl
get_or_any (x ∷ xs) (suc i) d e l = get_or_any xs i d e (omega (arith, l))

-- items as they are read by their places
pub root_item : (s : Scene) (r i : ℕ) (x : Region) (ids : List ℕ) → IsOrdered (slots_of s) → r < length s.regions.items → x ≡ get_or s.regions.items r x → ids ≡ x.roots.items → i < length ids → get_or ids i 0 < length s.slots.items
root_item s r i x ids sound l e f n = root_within s r i ids (get_or ids i 0) (subst (AreIn (slots_of s) 0 r) (sym f) (roots_own s r x sound l e).1) n (get_or_any ids i 0 (get_or ids i 0) n)

pub own_item : (s : Scene) (r i : ℕ) (ids : List ℕ) → IsOrdered (slots_of s) → r < length s.regions.items → ids ≡ own_inside s r → i < length ids → (get_or ids i 0 < length s.slots.items) × (item_home s (get_or ids i 0) ≡ r)
own_item s r i ids sound l e n = item_of_region s r i ids (get_or ids i 0) sound l e n (get_or_any ids i 0 (get_or ids i 0) n)

pub only_place : (ids : List ℕ) → 1 ≤ length ids → length ids < 2 → ids ≡ get_or ids 0 0 ∷ []
only_place ids a b = only_item ids (get_or ids 0 0) a b (get_or_any ids 0 0 (get_or ids 0 0) (omega (arith, a)))

pub no_place : (ids : List ℕ) → length ids < 1 → ids ≡ []
no_place [] l = refl
no_place (t ∷ ts) l = absurd (omega (arith, l))

-- what was written is spelled in another way
pub as_spelled : (out new a b : List ℕ) → a ≡ b → new ≡ out ++ a → new ≡ out ++ b
as_spelled out new a b e f = f ∙ ap (λ text. out ++ text) e

-- The entries of a region, by how many there are.
shown : (s : Scene) (r : ℕ) → IsOrdered (slots_of s) → r < length s.regions.items → AreShown (slots_of s) r (region_entries_of s r)
shown s r sound l = let n = length-map s.regions.items region_slot_of in all_shown (slots_of s) sound r (omega (arith, n, l))

module _ (x : Residue) where
  abbrev seen : Slots
  seen = slots_of x.scene.now

  abbrev phrases : Entries → PhraseTrees
  phrases es = entries_phrases x.store.now.variables (definitions_of x.defs.now) es

  -- an entry is the phrase that its item is
  leaf_is : (r id : ℕ) (l : _) (rest : Entries) → AreShown seen r (leaf id l rest) → item_kind x id ≡ due_kind x.store.now.variables (definitions_of x.defs.now) l
  leaf_is r id l rest a = ap (λ (y : plain.Slot). what_kind x.store.now.variables (definitions_of x.defs.now) seen y.what) a.1

  node_is : (r id : ℕ) (k : _) (h : _) (held : Entries) (g : _) (second rest : Entries) → AreShown seen r (node id k h held g second rest)
      → item_kind x id ≡ split_kind x.store.now.variables (definitions_of x.defs.now) k (all_kind (phrases held)) (all_kind (phrases second))
  node_is r id k h held g second rest a =
      let b = a.4 in
      let d = a.6 in
      ap (λ (y : plain.Slot). what_kind x.store.now.variables (definitions_of x.defs.now) seen y.what) a.2
      ∙ sym (λ i. split_kind x.store.now.variables (definitions_of x.defs.now) k (all_kind (phrases (b i))) (all_kind (phrases (d i))))

  kind_of_none : (es : Entries) → own_ids es ≡ [] → all_kind (phrases es) ≡ truth true
  kind_of_none none e = refl
  kind_of_none (leaf id l rest) e = absurd (cc e)
  kind_of_none (node id k h held g second rest) e = absurd (cc e)

  kind_of_one : (r t : ℕ) (es : Entries) → AreShown seen r es → own_ids es ≡ t ∷ [] → item_kind x t ≡ all_kind (phrases es)
  kind_of_one r t none a e = absurd (cc e)
  kind_of_one r t (leaf id l none) a e = let i : id ≡ t = cc e in ap (item_kind x) (sym i) ∙ leaf_is r id l none a
  kind_of_one r t (leaf id l (leaf id' l' rest)) a e = absurd (cc e)
  kind_of_one r t (leaf id l (node id' k h held g second rest)) a e = absurd (cc e)
  kind_of_one r t (node id k h held g second none) a e = let i : id ≡ t = cc e in ap (item_kind x) (sym i) ∙ node_is r id k h held g second none a
  kind_of_one r t (node id k h held g second (leaf id' l' rest)) a e = absurd (cc e)
  kind_of_one r t (node id k h held g second (node id' k' h' held' g' second' rest)) a e = absurd (cc e)

  level_of_several : (es : Entries) → 2 ≤ length (own_ids es) → 7 ≡ kind_level (all_kind (phrases es))
  level_of_several none e = absurd (omega (arith, e))
  level_of_several (leaf id l none) e = absurd (omega (arith, e))
  level_of_several (leaf id l (leaf id' l' rest)) e = refl
  level_of_several (leaf id l (node id' k h held g second rest)) e = refl
  level_of_several (node id k h held g second none) e = absurd (omega (arith, e))
  level_of_several (node id k h held g second (leaf id' l' rest)) e = refl
  level_of_several (node id k h held g second (node id' k' h' held' g' second' rest)) e = refl

  text_of_each : (r : ℕ) (opening : List ℕ) (es : Entries) → AreShown seen r es → items_spelling x opening (own_ids es) ≡ operands_spelling opening (codes " and ") not_level (phrases es)
  text_of_each r opening none a = refl
  text_of_each r opening (leaf id l rest) a =
      let b = leaf_is r id l rest a in let c = text_of_each r (codes " and ") rest a.2 in (λ i. opening ++ enclosed not_level (kind_level (b i)) (kind_spelling (b i)) ++ c i)
  text_of_each r opening (node id k h held g second rest) a =
      let b = node_is r id k h held g second rest a in let c = text_of_each r (codes " and ") rest a.9 in (λ i. opening ++ enclosed not_level (kind_level (b i)) (kind_spelling (b i)) ++ c i)

  listed : (es : Entries) → 2 ≤ length (own_ids es) → operands_spelling [] (codes " and ") not_level (phrases es) ≡ kind_spelling (all_kind (phrases es))
  listed none n = absurd (omega (arith, n))
  listed (leaf id l none) n = absurd (omega (arith, n))
  listed (leaf id l (leaf id' l' rest)) n = refl
  listed (leaf id l (node id' k' h' held' g' second' rest)) n = refl
  listed (node id k h held g second none) n = absurd (omega (arith, n))
  listed (node id k h held g second (leaf id' l' rest)) n = refl
  listed (node id k h held g second (node id' k' h' held' g' second' rest)) n = refl

  none_is : (r : ℕ) (ids : List ℕ) → ids ≡ own_inside x.scene.now r → ids ≡ [] → region_kind x r ≡ truth true
  none_is r ids e f = kind_of_none (region_entries_of x.scene.now r) (sym e ∙ f)

  one_is : (r t : ℕ) (ids : List ℕ) → IsOrdered seen → r < length x.scene.now.regions.items → ids ≡ own_inside x.scene.now r → ids ≡ t ∷ [] → item_kind x t ≡ region_kind x r
  one_is r t ids sound l e f = kind_of_one r t (region_entries_of x.scene.now r) (shown x.scene.now r sound l) (sym e ∙ f)

  pub none_level : (r : ℕ) (ids : List ℕ) → ids ≡ own_inside x.scene.now r → ids ≡ [] → 0 ≡ kind_level (region_kind x r)
  none_level r ids e f = ap kind_level (sym (none_is r ids e f))

  pub one_level : (r t : ℕ) (ids : List ℕ) → IsOrdered seen → r < length x.scene.now.regions.items → ids ≡ own_inside x.scene.now r → ids ≡ t ∷ [] → item_level_in x t ≡ kind_level (region_kind x r)
  one_level r t ids sound l e f = ap kind_level (one_is r t ids sound l e f)

  pub several_level : (r : ℕ) (ids : List ℕ) → ids ≡ own_inside x.scene.now r → 2 ≤ length ids → 7 ≡ kind_level (region_kind x r)
  several_level r ids e l = level_of_several (region_entries_of x.scene.now r) (subst (λ ns. 2 ≤ length ns) e l)

  pub none_written : (r : ℕ) (ids : List ℕ) → ids ≡ own_inside x.scene.now r → ids ≡ [] → region_spelling x r ≡ codes "true"
  none_written r ids e f = ap kind_spelling (none_is r ids e f)

  pub one_written : (r t : ℕ) (ids : List ℕ) → IsOrdered seen → r < length x.scene.now.regions.items → ids ≡ own_inside x.scene.now r → ids ≡ t ∷ [] → item_spelling x t ≡ region_spelling x r
  one_written r t ids sound l e f = ap kind_spelling (one_is r t ids sound l e f)

  pub several_written : (r : ℕ) (ids : List ℕ) → IsOrdered seen → r < length x.scene.now.regions.items → ids ≡ own_inside x.scene.now r → 2 ≤ length ids → items_spelling x [] ids ≡ region_spelling x r
  several_written r ids sound l e n =
      let es = region_entries_of x.scene.now r in
      ap (items_spelling x []) e ∙ (text_of_each r [] es (shown x.scene.now r sound l) ∙ listed es (subst (λ ns. 2 ≤ length ns) e n))
