-- Flags after a step: what rises from an item's place is the same, but for a mark, whose flag is still to be set.
use Rattle.std.proofs.Common.{◌≡◌, ℕ, ◌≤◌, ◌<◌, ◌||◌, true, eqb, length, Option, Some, None, refl, ap, sym, ◌∙◌, arith, inl, inr}
use Rattle.std.proofs.lemmas.Bool.{cases_Bool, cases_lt, eq-eqb, ne_eqb, or_left, cond-true}
use Rattle.tp_scene.specs.Scene.{Side, Ending, Going, marked, Head, Entries, append}
use Rattle.tp_scene.specs.Pick.{mark_head}
use Rattle.tp_slots.specs.Plain.{What, Slots, slot_at, head_at, entries_at, IsOrdered}
use Rattle.tp_slots.specs.Edit.{one_place, one_mark, Follows}
use Rattle.tp_slots.specs.Flags.{Flags, FlagsAreRight, risen_by, FlagHolds, FlagsHold, rises_what, Pending, FlagsFollow}
use Rattle.tp_slots.proofs.Read.{region_edited}
use Rattle.tp_slots.proofs.Showing.{all_shown}
use Rattle.tp_slots.proofs.Flagging.{flags_right, flags_hold, edit_rises}

-- these entries rise as what they replace
abbrev pub RisesSame : Side → Flags → What → Entries → Type 0
RisesSame z f w e = (rest : Entries) → risen_by z f (append e rest) ≡ (rises_what z f w || risen_by z f rest)

module _ (s s' : Slots) (t : ℕ) (e : Entries) (m : Option Side) (sound : IsOrdered s) (sound' : IsOrdered s') (follows : Follows 0 s s' (one_place t e) (one_mark (slot_at s t).home m)) (z : Side) (f : Flags) where
  old_rises : RisesSame z f (slot_at s t).what e → (r : ℕ) → r < length s.regions → risen_by z f (entries_at s' r) ≡ risen_by z f (entries_at s r)
  old_rises same r l =
      ap (risen_by z f) (region_edited s s' (one_place t e) (one_mark (slot_at s t).home m) 0 sound follows (length s.regions) (length s'.regions) r (omega arith) (omega arith) (omega arith) l)
      ∙ edit_rises s sound z f t e (one_mark (slot_at s t).home m) same r (entries_at s r) (all_shown s sound r l)

  old_holds : RisesSame z f (slot_at s t).what e → (r : ℕ) → r < length s.regions → marked z (mark_head (one_mark (slot_at s t).home m r) (head_at s r)) ≡ marked z (head_at s r) → FlagHolds s z f r → FlagHolds s' z f r
  old_holds same r l u h =
      let a = ap (marked z) (follows.heads r l (omega arith)) ∙ u in
      let b = old_rises same r l in
      h ∙ (λ i. sym a i || sym b i)

  all_hold : ((r : ℕ) → r < length s.regions → FlagHolds s' z f r) → ((r : ℕ) → length s.regions ≤ r → r < length s'.regions → FlagHolds s' z f r) → FlagsHold s' z f
  all_hold old new r l = elim (cases_lt r (length s.regions)) [ inl a ↦ old r a | inr a ↦ new r a l ]

  -- Without a mark of that side the flags stay as they are.
  pub row_kept : RisesSame z f (slot_at s t).what e → ((h : Head) → marked z (mark_head m h) ≡ marked z h) → ((r : ℕ) → length s.regions ≤ r → r < length s'.regions → FlagHolds s' z f r) → FlagsAreRight s z f → FlagsAreRight s' z f
  row_kept same other new right = flags_right s' sound' z f (all_hold
      (λ r l. old_holds same r l (unmarked r (head_at s r)) (flags_hold s sound z f right r l)) new)
    where
      unmarked : (r : ℕ) (h : Head) → marked z (mark_head (one_mark (slot_at s t).home m r) h) ≡ marked z h
      unmarked r h = elim (cases_Bool (eqb r (slot_at s t).home)) [ inl c ↦ rw c (other h) | inr c ↦ rw c refl ]

  set_marked : (h : Head) → m ≡ Some z → marked z (mark_head m h) ≡ true
  set_marked h c = ap (λ n. marked z (mark_head n h)) c ∙ by_side z
    where
      by_side : (z : Side) → marked z (mark_head (Some z) h) ≡ true
      by_side Ending = refl
      by_side Going = refl

  -- With one the flag is set outward.
  pub row_marked : (slot_at s t).home < length s.regions → RisesSame z f (slot_at s t).what e → m ≡ Some z
      → ((r : ℕ) → length s.regions ≤ r → r < length s'.regions → FlagHolds s' z f r) → FlagsAreRight s z f → Pending s' z f (slot_at s t).home
  row_marked within same c new right =
      let home = (slot_at s t).home in (
        λ r l apart. elim (cases_lt r (length s.regions)) [
          | inl a ↦ (let n = ne_eqb r home apart in old_holds same r a (rw n refl) (flags_hold s sound z f right r a))
          | inr a ↦ new r a l
        ],
        or_left (marked z (head_at s' home)) _ (ap (marked z) (follows.heads home within (omega arith)) ∙ (ap (λ o. marked z (mark_head o (head_at s home))) (cond-true (eqb home home) m None (eq-eqb home home refl)) ∙ set_marked (head_at s home) c)),
      )

module _ (s s' : Slots) (t : ℕ) (e : Entries) (sound : IsOrdered s) (sound' : IsOrdered s') (f : Flags) (within : (slot_at s t).home < length s.regions) where
  -- So they follow the mark.
  pub row_follows : (m : Option Side) → Follows 0 s s' (one_place t e) (one_mark (slot_at s t).home m) → (z : Side) → RisesSame z f (slot_at s t).what e
      → ((r : ℕ) → length s.regions ≤ r → r < length s'.regions → FlagHolds s' z f r) → FlagsAreRight s z f → FlagsFollow s' m (slot_at s t).home z f
  row_follows None follows z same new right = row_kept s s' t e None sound sound' follows z f same (λ h. refl) new right
  row_follows (Some Ending) follows Ending same new right = row_marked s s' t e (Some Ending) sound sound' follows Ending f within same refl new right
  row_follows (Some Ending) follows Going same new right = row_kept s s' t e (Some Ending) sound sound' follows Going f same (λ h. refl) new right
  row_follows (Some Going) follows Ending same new right = row_kept s s' t e (Some Going) sound sound' follows Ending f same (λ h. refl) new right
  row_follows (Some Going) follows Going same new right = row_marked s s' t e (Some Going) sound sound' follows Going f within same refl new right
