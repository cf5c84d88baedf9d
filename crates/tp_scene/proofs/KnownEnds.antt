-- An item waits for undecided cells alone: the end of a region is open where its status on both sides is, since no other live region has its number.
use Rattle.std.proofs.Common.{◌≡◌, ◌⊎◌, ℕ, ◌+◌, ◌≤◌, true, false, ◌&&◌, eqb, List, ◌∷◌, Option, Some, None, refl, sym, ◌∙◌, subst, arith, inl, inr}
use Rattle.std.proofs.lemmas.Bool.{cond_both, and_parts, both_ways, false≢true}
use Rattle.tp_value.specs.declared.path.Fact.{Fact}
use Rattle.tp_store.specs.Known.{NoClash}
use Rattle.tp_scene.specs.declared.answer.Cell.{Cell}
use Rattle.tp_scene.specs.declared.answer.Cell.TheVariants.{Part, End}
use Rattle.tp_scene.specs.Scene.{Side, Ending, Going, Head, Leaf, Holder, Entries, none, leaf, node, Scene, second_lives, has, Place, root_place, held_place, second_place}
use Rattle.tp_scene.specs.Regions.{Role, HoldsRegion, past_leaf, past_node, LiveRegion, the_root, the_held}
use Rattle.tp_scene.specs.RegionLaws.{place_through, computed_place}
use Rattle.tp_scene.specs.Step.{PickOutcome, reduces, waits, rests, clashes, misses, passes, Numbers, leaf_step, holder_step}
use Rattle.tp_scene.specs.Pick.{Setting, Moment, pick, numbers_of}
use Rattle.tp_scene.specs.Rest.{is_unsettled, holds_back}
use Rattle.tp_scene.specs.Fits.{region_numbers}
use Rattle.tp_scene.specs.Cells.{IsKnownEnd, IsDecided}
use Rattle.tp_scene.specs.CellLaws.{WaitsAreForUndecided}
use Rattle.tp_scene.proofs.Frame.{region}
use Rattle.tp_scene.proofs.Count.{one_if, count_first, one_there, numbers_once}
use Rattle.tp_scene.proofs.PutNumbers.{regions, regions_node}
use Rattle.tp_scene.proofs.Standing.{live_number, StandsIn, standing_counted, standing_from_root}
use Rattle.tp_scene.proofs.WaitRows.{IsUndecided, IsOpenAt, ForOther, Answers, leaf_answers, holder_answers}
use Rattle.tp_scene.proofs.StatusRules.{status_is_least}

-- A live region with this number that stands in the entries of a region of that place is so on this side.
abbrev pub KnownIn : (number : ℕ) → Side → Entries → Place → Type 0
KnownIn r z = StandsIn (λ (q : Place). (q.region ≡ r) × (q.is z ≡ true))

-- or the region itself
abbrev pub KnownAt : (number : ℕ) → Side → Entries → Place → Type 0
KnownAt r z es p = ((p.region ≡ r) × (p.is z ≡ true)) ⊎ KnownIn r z es p

pub known_counted : (r : ℕ) (z : Side) (es : Entries) (p : Place) → KnownIn r z es p → 1 ≤ regions r es
known_counted r z = standing_counted (λ (q : Place). (q.region ≡ r) × (q.is z ≡ true)) r (λ q u. u.0)

-- a number stands once at most among those of a region and of the regions in it
abbrev pub StandsOnce : Entries → Place → Type 0
StandsOnce es p = (x : ℕ) → one_if x p.region + regions x es ≤ 1

pub at_counted : (r : ℕ) (z : Side) (es : Entries) (p : Place) → KnownAt r z es p → 1 ≤ one_if r p.region + regions r es
at_counted r z es p (inl u) = let o = one_there r p.region (sym u.0) in omega (arith, o)
at_counted r z es p (inr u) = let i = known_counted r z es p u in omega (arith, i)

module _ (facts : List Fact) where
  -- the cell is an undecided path, or the end of a region that stands there and isn't known
  abbrev pub IsOpenIn : Entries → Place → Cell → Type 0
  IsOpenIn es p (Part q) = IsUndecided facts q
  IsOpenIn es p (End r depth) = (1 ≤ one_if r p.region + regions r es) × ((z : Side) → KnownAt r z es p → ⊥)

  open_here : (es : Entries) (p : Place) → StandsOnce es p → (c : Cell) → IsOpenAt facts p c → IsOpenIn es p c
  open_here es p once (Part q) u = u
  open_here es p once (End r depth) u =
      let o = one_there r p.region (sym u.0) in
      let most = once r in
      (omega (arith, o), λ z k. elim k [ inl x ↦ unknown z (x.1) | inr x ↦ (let i = known_counted r z es p x in omega (arith, i, o, most)) ])
    where
      unknown : (z : Side) → p.is z ≡ true → ⊥
      unknown Ending e = both_ways (p.is Ending) (u.1) e
      unknown Going e = both_ways (p.is Going) (u.2) e

  module _ (id : ℕ) (k : Holder) (h : Head) (held : Entries) (g : Head) (second rest : Entries) (p : Place) (once : StandsOnce (node id k h held g second rest) p) where
    abbrev q : Place
    q = held_place k h held p

    abbrev s : Place
    s = second_place g second p

    held_once : StandsOnce held q
    held_once x = let o = once x in let n = regions_node x id k h held g second rest in omega (arith, o, n)

    second_once : second_lives k ≡ true → StandsOnce second s
    second_once live x = let o = once x in let n = regions_node x id k h held g second rest in let l = live_number x k g live in omega (arith, o, n, l)

    rest_once : StandsOnce rest p
    rest_once x = let o = once x in let n = regions_node x id k h held g second rest in omega (arith, o, n)

    -- what is open in a part is open in all, where what would make it known is known in the part
    from_part : (part : Entries) (in_part : Place)
        → ((r : ℕ) → one_if r in_part.region + regions r part ≤ one_if r p.region + regions r (node id k h held g second rest))
        → ((r : ℕ) (z : Side) → 1 ≤ one_if r in_part.region + regions r part → KnownAt r z (node id k h held g second rest) p → KnownAt r z part in_part)
        → (c : Cell) → IsOpenIn part in_part c → IsOpenIn (node id k h held g second rest) p c
    from_part part in_part more known (Part x) u = u
    from_part part in_part more known (End r depth) u = (let m = more r in omega (arith, m, u.0), λ z all. u.1 z (known r z u.0 all))

    from_held : (c : Cell) → IsOpenIn held q c → IsOpenIn (node id k h held g second rest) p c
    from_held = from_part held q (λ r. let n = regions_node r id k h held g second rest in omega (arith, n)) (λ r z here known.
        let n = regions_node r id k h held g second rest in
        let most = once r in
        elim known [
          | inl a ↦ absurd (let o = one_there r p.region (sym a.0) in omega (arith, n, o, here, most))
          | inr a ↦ elim a [
            | inl b ↦ b
            | inr b ↦ elim b [
              | inl d ↦ absurd (let l = live_number r k g d.0 in let i = at_counted r z second s d.1 in omega (arith, n, l, i, here, most))
              | inr d ↦ absurd (let i = known_counted r z rest p d in omega (arith, n, i, here, most))
            ]
          ]
        ])

    from_second : second_lives k ≡ true → (c : Cell) → IsOpenIn second s c → IsOpenIn (node id k h held g second rest) p c
    from_second live = from_part second s (λ r. let n = regions_node r id k h held g second rest in let l = live_number r k g live in omega (arith, n, l)) (λ r z here known.
        let n = regions_node r id k h held g second rest in
        let l = live_number r k g live in
        let most = once r in
        elim known [
          | inl a ↦ absurd (let o = one_there r p.region (sym a.0) in omega (arith, n, l, o, here, most))
          | inr a ↦ elim a [
            | inl b ↦ absurd (let i = at_counted r z held q b in omega (arith, n, l, i, here, most))
            | inr b ↦ elim b [
              | inl d ↦ d.1
              | inr d ↦ absurd (let i = known_counted r z rest p d in omega (arith, n, l, i, here, most))
            ]
          ]
        ])

    from_rest : (c : Cell) → IsOpenIn rest p c → IsOpenIn (node id k h held g second rest) p c
    from_rest = from_part rest p (λ r. let n = regions_node r id k h held g second rest in omega (arith, n)) (λ r z here known.
        let n = regions_node r id k h held g second rest in
        let most = once r in
        elim known [
          | inl a ↦ inl a
          | inr a ↦ elim a [
            | inl b ↦ absurd (let i = at_counted r z held q b in omega (arith, n, i, here, most))
            | inr b ↦ elim b [
              | inl d ↦ absurd (let l = live_number r k g d.0 in let i = at_counted r z second s d.1 in omega (arith, n, l, i, here, most))
              | inr d ↦ inr d
            ]
          ]
        ])

  -- what an outcome waits for is open
  abbrev pub WaitsOpenly : Entries → Place → PickOutcome → Type 0
  WaitsOpenly es p (reduces r) = Unit {0}
  WaitsOpenly es p (waits first other) = IsOpenIn es p first × ForOther (IsOpenIn es p) other
  WaitsOpenly es p rests = Unit {0}
  WaitsOpenly es p (clashes c) = Unit {0}
  WaitsOpenly es p (misses port) = Unit {0}
  WaitsOpenly es p (passes k) = Unit {0}

  other_openly : (P Q : Cell → Type 0) → ((c : Cell) → P c → Q c) → (other : Option Cell) → ForOther P other → ForOther Q other
  other_openly P Q f None u = tt
  other_openly P Q f (Some c) u = f c u

  openly : (es fs : Entries) (p q : Place) → ((c : Cell) → IsOpenIn es p c → IsOpenIn fs q c) → (o : PickOutcome) → WaitsOpenly es p o → WaitsOpenly fs q o
  openly es fs p q f (waits first other) u = (f first u.0, other_openly (IsOpenIn es p) (IsOpenIn fs q) f other u.1)
  openly es fs p q f o u = tt

  answers_openly : (apart : NoClash facts) (Idle : Type 0) (es : Entries) (p : Place) → StandsOnce es p → (o : PickOutcome) → Answers facts apart Idle p o → WaitsOpenly es p o
  answers_openly apart Idle es p once (waits first other) u = (open_here es p once first u.0, other_openly (IsOpenAt facts p) (IsOpenIn es p) (open_here es p once) other u.1)
  answers_openly apart Idle es p once o u = tt

  pick_openly : (w : Setting) (apart : NoClash facts) (t : ℕ) (es : Entries) (p : Place) (n : Numbers) → StandsOnce es p → WaitsOpenly es p (pick w facts t es p n)
  pick_openly w apart t none p n once = tt
  pick_openly w apart t (leaf id l rest) p n once =
      cond_both (eqb id t) (leaf_step w.defs w.inputs w.state facts l p n) (pick w facts t rest p n) (WaitsOpenly (leaf id l rest) p)
      (λ _. answers_openly apart (is_unsettled l ≡ false) (leaf id l rest) p once _ (leaf_answers facts apart w.defs w.inputs w.state l p n))
      (λ _. openly rest (leaf id l rest) p p (same_open id l rest p) _ (pick_openly w apart t rest p n once))
    where
      same_open : (id : ℕ) (l : Leaf) (rest : Entries) (p : Place) (c : Cell) → IsOpenIn rest p c → IsOpenIn (leaf id l rest) p c
      same_open id l rest p (Part x) u = u
      same_open id l rest p (End r depth) u = u
  pick_openly w apart t (node id k h held g second rest) p n once =
      let whole = node id k h held g second rest in
      let inside = held_place k h held p in
      let beside = second_place g second p in
      cond_both (eqb id t) (holder_step w.defs w.inputs w.state facts k (region h held) (region g second) inside n) _ (WaitsOpenly whole p)
      (λ _. openly held whole inside p (from_held id k h held g second rest p once) _
      (answers_openly apart (holds_back k inside ≡ false) held inside (held_once id k h held g second rest p once) _ (holder_answers facts apart w.defs w.inputs w.state k (region h held) (region g second) inside n)))
      (λ _. cond_both (second_lives k && has t second) (pick w facts t second beside n) _ (WaitsOpenly whole p)
      (λ l. let live = (and_parts (second_lives k) (has t second) l).0 in
      openly second whole beside p (from_second id k h held g second rest p once live) _ (pick_openly w apart t second beside n (second_once id k h held g second rest p once live)))
      (λ _. cond_both (has t held) (pick w facts t held inside n) (pick w facts t rest p n) (WaitsOpenly whole p)
      (λ _. openly held whole inside p (from_held id k h held g second rest p once) _ (pick_openly w apart t held inside n (held_once id k h held g second rest p once)))
      (λ _. openly rest whole p p (from_rest id k h held g second rest p once) _ (pick_openly w apart t rest p n (rest_once id k h held g second rest p once)))))

number_through : (p : Place) (es : Entries) (role : Role) (i : Head) (held : Entries) (in_it : HoldsRegion es role i held) → (place_through in_it p).region ≡ i.number
number_through p _ role i held (past_leaf in_it) = number_through p _ role i held in_it
number_through p _ role i held (past_node in_it) = number_through p _ role i held in_it
number_through p _ _ _ _ x = refl

pub number_in : (s : Scene) (h : Head) (es : Entries) (x : LiveRegion s h es) → (computed_place x).region ≡ h.number
number_in s _ _ the_root = refl
number_in s _ _ (the_held {es = es} {role = role} {i = i} {held = held} x in_it) = number_through (computed_place x) es role i held in_it

pub end_known : (s : Scene) (r : ℕ) (k : IsKnownEnd s r) → KnownAt r k.side s.root.entries (root_place s.root)
end_known s r k = standing_from_root (λ (q : Place). (q.region ≡ r) × (q.is k.side ≡ true)) s k.head k.entries k.region
    (inl (number_in s k.head k.entries k.region ∙ k.numbered, (status_is_least s k.head k.entries k.region k.side).1 k.status))

not_decided : (m : Moment) (c : Cell) → IsOpenIn m.store.facts m.scene.root.entries (root_place m.scene.root) c → IsDecided m c → ⊥
not_decided m (Part q) u (inl x) = let a = x.1 in let b = u.0 in cc
not_decided m (Part q) u (inr x) = false≢true (sym u.1 ∙ x)
not_decided m (End r depth) u k = u.1 k.side (end_known m.scene r k)

other_not_decided : (m : Moment) (other : Option Cell) → ForOther (IsOpenIn m.store.facts m.scene.root.entries (root_place m.scene.root)) other → (c : Cell) → other ≡ Some c → IsDecided m c → ⊥
other_not_decided m None u c e = absurd (cc)
other_not_decided m (Some x) u c e = let same : x ≡ c = cc in not_decided m c (subst (λ (y : Cell). IsOpenIn m.store.facts m.scene.root.entries (root_place m.scene.root) y) same u)

pub waits_are_for_undecided : WaitsAreForUndecided
waits_are_for_undecided w kinds m t first other sound e =
    let p = root_place m.scene.root in
    let es = m.scene.root.entries in
    let numbers = numbers_once m.scene.next_region (p.region ∷ region_numbers es) sound.moment.regions in
    let once : StandsOnce es p = λ x. let o = numbers.once x in let f = count_first x p.region (region_numbers es) in omega (arith, o, f) in
    let u = subst (λ (o : PickOutcome). WaitsOpenly m.store.facts es p o) e (pick_openly m.store.facts w sound.store.no_clash t es p (numbers_of m.scene m.store.variables) once) in
    record { not_first = not_decided m first u.0; not_other = other_not_decided m other u.1 }
