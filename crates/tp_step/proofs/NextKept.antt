-- The scene whose slots are those of numbered entries has these entries, and is well kept.
use Rattle.std.proofs.Common.{◌≡◌, ℕ, zero, suc, ◌+◌, ◌<◌, ◌||◌, ◌&&◌, Bool, true, false, cond, List, [], ◌∷◌, ◌++◌, map, length, get_or, Option, Some, None, refl, ap, sym, ◌∙◌, subst, arith}
use Rattle.std.proofs.lemmas.List.{append-nil, length-map}
use Rattle.tp_scene.specs.Scene.{Side, Ending, Going, Head, new_head, marked, risen, rises, second_lives, Entries, none, leaf, node}
use Rattle.tp_scene.specs.Scene as S
use Rattle.tp_scene.specs.Fits.{AreNumbers, item_numbers, region_numbers}
use Rattle.tp_scene.specs.Advance.{items_in, regions_in, numbered, due, advanced}
use Rattle.tp_slots.specs.Plain.{Slot, RegionSlot, Slots, slot_at, region_slot, head_at, other_head, entries_at, scene_in, has_second, AreIn, IsLive, IsOrdered}
use Rattle.tp_slots.specs.Places.{AreHeld}
use Rattle.tp_slots.specs.Flags.{flags_in}
use Rattle.tp_slots.specs.Kept.{IsNumberedOnce, IsShaped, IsWellKept}
use Rattle.tp_slots.specs.Looks.{LooksAreRight}
use Rattle.tp_slots.specs.Own.{own_ids}
use Rattle.tp_slots.specs.Shown.{AreShown}
use Rattle.tp_step.specs.Successors.{AreUnlinked, slots_for, FullRegion, full_regions, unmarked_region, regions_for, inside_numbered, HasRegion, inside_ids}
use Rattle.tp_slots.specs.Read.{afters_of, slot_of, region_slot_of, slots_of, holders_of, ends_of, goes_of, scene_of}
use Rattle.tp_slots.specs.declared.scene.Scene.{Scene}
use Rattle.tp_slots.specs.declared.scene.Region.{Region}
use Rattle.tp_step.proofs.Carrying.{slots_count, regions_count}
use Rattle.tp_slots.proofs.Showing.{all_shown}
use Rattle.tp_step.proofs.NextShape.{slots_with, holders_with, AreUnmarked, AreStored, IsItemRight, IsRegionRight, read_items, own_stored, item_found, region_found}
use Rattle.tp_step.proofs.NextStored.{stored}
use Rattle.tp_step.proofs.Unlinked.{live_linked, unlinked_last, own_live}
use Rattle.tp_scene.proofs.NextNumbers.{items_once, regions_once, item_given, region_given}

-- regions of which nothing is known
abbrev ArePlain : List FullRegion → Type 0
ArePlain [] = Unit {0}
ArePlain (x ∷ xs) = (x ≡ unmarked_region x.holder x.slot.roots) × ArePlain xs

plain_append : (xs ys : List FullRegion) → ArePlain xs → ArePlain ys → ArePlain (xs ++ ys)
plain_append [] ys a b = b
plain_append (x ∷ xs) ys a b = (a.0, plain_append xs ys a.1 b)

plain_second : (b : Bool) (x : FullRegion) → x ≡ unmarked_region x.holder x.slot.roots → ArePlain (cond b (x ∷ []) [])
plain_second true x e = (e, tt)
plain_second false x e = tt

plain_regions : (es : Entries) → ArePlain (regions_for es)
plain_regions none = tt
plain_regions (leaf id l rest) = plain_regions rest
plain_regions (node id k h held g second rest) =
    let x = unmarked_region id (own_ids second) in (
      refl,
      plain_append (regions_for held) (cond (has_second k) (x ∷ []) [] ++ (regions_for second ++ regions_for rest)) (plain_regions held)
          (plain_append (cond (has_second k) (x ∷ []) []) (regions_for second ++ regions_for rest) (plain_second (has_second k) x refl) (plain_append (regions_for second) (regions_for rest) (plain_regions second) (plain_regions rest))),
    )

-- a flag that such regions don't have
unset : (f : FullRegion → Bool) → ((x : FullRegion) → x ≡ unmarked_region x.holder x.slot.roots → f x ≡ false) → (xs : List FullRegion) → ArePlain xs → (r : ℕ) → get_or (map f xs) r false ≡ false
unset f w [] a r = refl
unset f w (x ∷ xs) a zero = w x a.0
unset f w (x ∷ xs) a (suc r) = unset f w xs a.1 r

slot_plain : (xs : List FullRegion) → ArePlain xs → (r : ℕ)
    → get_or (map (λ x. x.slot) xs) r (record { ends = false; goes = false; roots = [] }) ≡ record { ends = false; goes = false; roots = (get_or (map (λ x. x.slot) xs) r (record { ends = false; goes = false; roots = [] })).roots }
slot_plain [] a r = refl
slot_plain (x ∷ xs) a zero = ap (λ (y : FullRegion). y.slot) a.0
slot_plain (x ∷ xs) a (suc r) = slot_plain xs a.1 r

region_slots_are : (xs : List Region) → map region_slot_of xs ≡ map (λ x. x.slot) (full_regions xs)
region_slots_are [] = refl
region_slots_are (x ∷ xs) = ap (λ l. region_slot_of x ∷ l) (region_slots_are xs)

holders_are : (xs : List Region) → map (λ x. x.holder) xs ≡ map (λ x. x.holder) (full_regions xs)
holders_are [] = refl
holders_are (x ∷ xs) = ap (λ l. x.holder ∷ l) (holders_are xs)

ends_are : (xs : List Region) → map (λ x. x.ends_now) xs ≡ map (λ x. x.ends_now) (full_regions xs)
ends_are [] = refl
ends_are (x ∷ xs) = ap (λ l. x.ends_now ∷ l) (ends_are xs)

goes_are : (xs : List Region) → map (λ x. x.goes_now) xs ≡ map (λ x. x.goes_now) (full_regions xs)
goes_are [] = refl
goes_are (x ∷ xs) = ap (λ l. x.goes_now ∷ l) (goes_are xs)

no_or : (a b c d e : Bool) → b ≡ false → d ≡ false → e ≡ false → ((a && b) || ((c && d) || e)) ≡ false
no_or true b true d e x y w = (λ i. x i || (y i || w i))
no_or true b false d e x y w = (λ i. x i || w i)
no_or false b true d e x y w = (λ i. y i || w i)
no_or false b false d e x y w = w

not_marked : (y : Side) (n : ℕ) → marked y (new_head n) ≡ false
not_marked Ending n = refl
not_marked Going n = refl

-- where no region is marked, nothing rises
module _ (z : Slots) (plain : (r : ℕ) → head_at z r ≡ new_head r) where
  head_unmarked : (y : Side) (h : Head) → h ≡ head_at z h.number → marked y h ≡ false
  head_unmarked y h e = ap (marked y) (e ∙ plain h.number) ∙ not_marked y h.number

  other_unmarked : (y : Side) (g : Head) (q : Option ℕ) → g ≡ other_head z q → marked y g ≡ false
  other_unmarked y g None e = ap (marked y) e ∙ not_marked y 0
  other_unmarked y g (Some p) e = ap (marked y) (e ∙ plain p) ∙ not_marked y p

  none_rises : (y : Side) (r : ℕ) (es : Entries) → AreShown z r es → risen y es ≡ false
  none_rises y r none a = refl
  none_rises y r (leaf id l rest) a = none_rises y r rest a.2
  none_rises y r (node id k h held g second rest) a =
      no_or (rises k y) (marked y h || risen y held) (second_lives k) (marked y g || risen y second) (risen y rest)
      (let u = head_unmarked y h a.3 in let v = none_rises y h.number held a.7 in λ i. u i || v i)
      (let u = other_unmarked y g a.1 a.5 in let v = none_rises y g.number second a.8 in λ i. u i || v i)
      (none_rises y r rest a.9)

module _ (fs : Entries) (plain : AreUnmarked fs) where
  abbrev pub es : Entries
  es = numbered 0 1 fs

  abbrev pub ss : List Slot
  ss = slots_for 0 es

  abbrev pub root : FullRegion
  root = unmarked_region 0 (own_ids es)

  abbrev pub rs : List FullRegion
  rs = root ∷ regions_for es

  abbrev pub z : Slots
  z = slots_with ss rs

  all_stored : AreStored ss rs 0 es
  all_stored = stored ss rs 0 0 1 fs [] [] (root ∷ []) [] plain (append-nil ss) refl (ap (λ l. root ∷ l) (append-nil (regions_for es))) refl (omega arith)

  item_count : length ss ≡ items_in fs
  item_count = slots_count 0 0 1 fs

  region_count : length rs ≡ 1 + regions_in fs
  region_count = let c = regions_count 0 1 fs in omega (arith, c)

  slot_count : length z.regions ≡ 1 + regions_in fs
  slot_count = length-map rs (λ x. x.slot) ∙ region_count

  root_read : entries_at z 0 ≡ es
  root_read = read_items ss rs 0 (length (map (λ (x : FullRegion). x.slot) (regions_for es))) (length ss) es all_stored (let c = length-map (regions_for es) (λ (x : FullRegion). x.slot) in omega (arith, c)) (omega arith)

  right : (t : ℕ) → t < length z.slots → IsItemRight ss rs t
  right t l = item_found ss rs 0 es es all_stored (λ x o. o) root_read (omega arith) t (item_given fs t (let c = item_count in omega (arith, c, l)))

  held_right : (r : ℕ) → 0 < r → r < length z.regions → IsRegionRight ss rs r
  held_right r a l = region_found ss rs 0 es all_stored r (region_given fs r a (let c = slot_count in omega (arith, c, l)))

  ordered : IsOrdered z
  ordered = record {
    items = λ t l. let x = right t l in (x.home, x.fits);
    regions = λ r l. roots r l;
    root = omega arith;
  }
    where
      roots : (r : ℕ) → r < length z.regions → AreIn z 0 r (region_slot z r).roots
      roots zero l = own_stored ss rs 0 es all_stored
      roots (suc r) l = (held_right (suc r) (omega arith) l).roots

  numbers : IsNumberedOnce z
  numbers = record {
    items = (let c = item_count in let e = root_read in subst (λ n. AreNumbers n (item_numbers (entries_at z 0))) (sym c) (subst (λ xs. AreNumbers (items_in fs) (item_numbers xs)) (sym e) (items_once fs)));
    regions = (let c = slot_count in let e = root_read in subst (λ n. AreNumbers n (0 ∷ region_numbers (entries_at z 0))) (sym c) (subst (λ xs. AreNumbers (1 + regions_in fs) (0 ∷ region_numbers xs)) (sym e) (regions_once fs)));
  }

  held : AreHeld z (holders_with rs)
  held = record {
    count = length-map rs (λ x. x.holder) ∙ sym (length-map rs (λ x. x.slot));
    by = λ t l. (right t l).held;
    holders = λ r a l. let x = held_right r a l in (x.inside, x.holder);
  }

  -- none is gone
  pub all_own : (t : ℕ) → t < length z.slots → IsLive (slot_at z t).what
  all_own t l = let x = right t l in own_live z (slot_at z t).home t (entries_at z (slot_at z t).home) (all_shown z ordered (slot_at z t).home x.home) x.own

  pub shape : IsShaped z (holders_with rs)
  shape = record { ordered = ordered; numbers = numbers; own = λ t l i. (right t l).own; held = held }

  plain_rs : ArePlain rs
  plain_rs = (refl, plain_regions es)

  no_head : (r : ℕ) → head_at z r ≡ new_head r
  no_head r = ap (λ (x : RegionSlot). record { number = r; ends = x.ends; goes = x.goes }) (slot_plain rs plain_rs r)

  -- no flag is set, and none is to be set
  pub no_ends : (r : ℕ) → flags_in (map (λ x. x.ends_now) rs) r ≡ false
  no_ends r = unset (λ x. x.ends_now) (λ x e. ap (λ (y : FullRegion). y.ends_now) e) rs plain_rs r

  pub no_goes : (r : ℕ) → flags_in (map (λ x. x.goes_now) rs) r ≡ false
  no_goes r = unset (λ x. x.goes_now) (λ x e. ap (λ (y : FullRegion). y.goes_now) e) rs plain_rs r

  pub no_status : (y : Side) (r : ℕ) → r < length z.regions → false ≡ (marked y (head_at z r) || risen y (entries_at z r))
  no_status y r l =
      let u = ap (marked y) (no_head r) ∙ not_marked y r in
      let v = none_rises z no_head y r (entries_at z r) (all_shown z ordered r l) in
      λ i. sym u i || sym v i

  pub scene_is : (s : S.Scene) → fs ≡ due s.root.entries → scene_in z ≡ advanced s
  scene_is s e =
      let a = root_read in
      let b = item_count in
      let c = slot_count in
      (λ i. record { root = record { head = new_head 0; entries = a i }; next_item = b i; next_region = c i })
      ∙ (λ i. record { root = record { head = new_head 0; entries = numbered 0 1 (e i) }; next_item = items_in (e i); next_region = 1 + regions_in (e i) })

-- The same for the code's scene.
module _ (fs : Entries) (unmarked : AreUnmarked fs) (first next : Scene) (no_items : first.slots.items ≡ []) (no_regions : first.regions.items ≡ []) (x : HasRegion 0 (inside_ids first fs) fs first next) where
  inside : inside_numbered first fs ≡ es fs unmarked
  inside = λ i. numbered (length (no_items i)) (length (no_regions i) + 1) fs

  slots_are : map slot_of next.slots.items ≡ ss fs unmarked
  slots_are = x.slots ∙ (let e = inside in λ i. map slot_of (no_items i) ++ slots_for (length (no_regions i)) (e i))

  regions_are : full_regions next.regions.items ≡ rs fs unmarked
  regions_are = x.regions ∙ (let e = inside in λ i. full_regions (no_regions i) ++ unmarked_region 0 (own_ids (e i)) ∷ regions_for (e i))

  is_slots : slots_of next ≡ z fs unmarked
  is_slots = let a = slots_are in let b = region_slots_are next.regions.items ∙ ap (map (λ x. x.slot)) regions_are in λ i. record { slots = a i; regions = b i }

  is_holders : holders_of next ≡ holders_with (rs fs unmarked)
  is_holders = holders_are next.regions.items ∙ ap (map (λ x. x.holder)) regions_are

  ends_unset : (r : ℕ) → flags_in (ends_of next) r ≡ false
  ends_unset r = ap (λ xs. get_or xs r false) (ends_are next.regions.items ∙ ap (map (λ x. x.ends_now)) regions_are) ∙ no_ends fs unmarked r

  goes_unset : (r : ℕ) → flags_in (goes_of next) r ≡ false
  goes_unset r = ap (λ xs. get_or xs r false) (goes_are next.regions.items ∙ ap (map (λ x. x.goes_now)) regions_are) ∙ no_goes fs unmarked r

  status : (y : Side) (r : ℕ) → r < length (slots_of next).regions → false ≡ (marked y (head_at (slots_of next) r) || risen y (entries_at (slots_of next) r))
  status y = subst (λ (s : Slots). (r : ℕ) → r < length s.regions → false ≡ (marked y (head_at s r) || risen y (entries_at s r))) (sym is_slots) (no_status fs unmarked y)

  shape_next : IsShaped (slots_of next) (holders_of next)
  shape_next = subst (λ s. IsShaped s (holders_of next)) (sym is_slots) (subst (λ h. IsShaped (z fs unmarked) h) (sym is_holders) (shape fs unmarked))

  live_next : (t : ℕ) → t < length next.slots.items → IsLive (slot_at (slots_of next) t).what
  live_next t l = subst (λ (s : Slots). IsLive (slot_at s t).what) (sym is_slots) (all_own fs unmarked t (subst (λ (s : Slots). t < length s.slots) is_slots (let e = length-map next.slots.items slot_of in omega (arith, e, l))))

  pub next_kept : LooksAreRight (slots_of next) (holders_of next) next.looks → AreUnlinked next → IsWellKept next
  next_kept looks ends = record {
    shape = shape_next;
    threads = record {
      items = λ t l. live_linked (afters_of next) t (slot_at (slots_of next) t).what (live_next t (let e = length-map next.slots.items slot_of in omega (arith, e, l)));
      roots = λ r l. unlinked_last (afters_of next) ends (region_slot (slots_of next) r).roots;
    };
    ending = λ r l. ends_unset r ∙ status Ending r l;
    going = λ r l. goes_unset r ∙ status Going r l;
    quiet_ends = λ r l e. ends_unset r;
    quiet_goes = λ r l e. goes_unset r;
    looks = looks;
  }

  pub next_scene : (s : S.Scene) → fs ≡ due s.root.entries → scene_of next ≡ advanced s
  next_scene s e = ap scene_in is_slots ∙ scene_is fs unmarked s e
