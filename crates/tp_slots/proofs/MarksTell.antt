-- The mark of a number is that of the live region that has it, since one at most has it.
use Rattle.std.proofs.Common.{◌≡◌, ◌⊎◌, inl, inr, ℕ, ◌+◌, ◌≤◌, Bool, true, false, eqb, List, ◌∷◌, Option, Some, None, refl, ap, ap₂, sym, ◌∙◌, subst, arith, if◌then◌else◌}
use Rattle.std.specs.Option.{option_map}
use Rattle.std.proofs.lemmas.Bool.{both_ways, false_from_ne_true, eq-eqb, eqb-true}
use Rattle.tp_meaning.specs.Syntax.{Definition}
use Rattle.tp_store.specs.Known.{Variable}
use Rattle.tp_scene.specs.Scene.{Side, Ending, Going, Head, Holder, Entries, none, leaf, node, second_lives, Place, root_place, held_place, second_place}
use Rattle.tp_scene.specs.Scene as S
use Rattle.tp_scene.specs.Regions.{Role, HoldsRegion, by_split, by_split_project, by_closed, by_opened, by_running, by_running_second, past_leaf, past_node, LiveRegion, the_root, the_held, IsTail, all_entries, after_leaf, after_node}
use Rattle.tp_scene.specs.Status.{HasStatus}
use Rattle.tp_scene.specs.RegionLaws.{place_through, computed_place}
use Rattle.tp_scene.specs.Pick.{Setting, Moment}
use Rattle.tp_scene.specs.Fits.{IsCalm, EntriesFit, second_number, region_numbers}
use Rattle.tp_scene.specs.Laws.{IsSound}
use Rattle.tp_scene.specs.Cells.{IsKnownEnd}
use Rattle.tp_scene.specs.Seen.{IsLiveNumber, regions_around}
use Rattle.tp_scene.proofs.Count.{one_if, count, count_first, one_there, numbers_once}
use Rattle.tp_scene.proofs.PutNumbers.{regions, regions_node}
use Rattle.tp_scene.proofs.StatusRules.{held_by, status_is_least}
use Rattle.tp_scene.proofs.NewsFit.{entries_calm}
use Rattle.tp_scene.proofs.Standing.{live_number, StandsIn, standing_counted, standing_from_root}
use Rattle.tp_scene.proofs.KnownEnds.{number_in}
use Rattle.tp_scene.proofs.KnownStays.{holding, holding_second, place_by}
use Rattle.tp_slots.specs.Status.{either_place, place_found, place_in_scene, status, region_mark}
use Rattle.tp_slots.specs.MarksTell.{MarkTells, MarksTell, MarksTellStatus}
use Rattle.tp_slots.specs.declared.scene.Mark.{Mark}
use Rattle.tp_slots.specs.declared.scene.Mark.TheVariants.{Open, Ends, Goes}
use Rattle.tp_slots.proofs.Marks.{status_ends, status_goes, status_open}

-- Said of one number.
module _ (r : ℕ) where
  -- a live region with this number, of that place, stands in entries of a region of place p
  abbrev IsPlaced : (q : Place) → Place → Type 0
  IsPlaced q o = (o.region ≡ r) × (o ≡ q)

  abbrev PlacedIn : Place → Entries → Place → Type 0
  PlacedIn q = StandsIn (IsPlaced q)

  placed_counted : (q : Place) (es : Entries) (p : Place) → PlacedIn q es p → 1 ≤ regions r es
  placed_counted q = standing_counted (IsPlaced q) r (λ o u. u.0)

  another : (n : ℕ) → one_if r n ≡ 0 → eqb n r ≡ false
  another n z = false_from_ne_true (eqb n r) (λ e. let o = one_there r n (sym (eqb-true n r e)) in absurd (omega (arith, z, o)))

  second_none : (k : Holder) (g : Head) (second : Entries) (p : Place) → count r (second_number k g) ≡ 0 → place_found r second (second_place g second p) ≡ None
      → (if second_lives k then (if eqb g.number r then Some (second_place g second p) else place_found r second (second_place g second p)) else None) ≡ None
  second_none k g second p z b = go (second_lives k) refl
    where
      go : (live : Bool) → second_lives k ≡ live → (if live then (if eqb g.number r then Some (second_place g second p) else place_found r second (second_place g second p)) else None) ≡ None
      go false e = refl
      go true e =
          let l = live_number r k g e in
          let a : eqb g.number r ≡ false = another g.number (omega (arith, l, z)) in
          rw (a, b) refl

  -- where none is counted none is found
  none_placed : (es : Entries) (p : Place) → regions r es ≡ 0 → place_found r es p ≡ None
  none_placed none p z = refl
  none_placed (leaf id l rest) p z = none_placed rest p z
  none_placed (node id k h held g second rest) p z =
      let n = regions_node r id k h held g second rest in
      let a : eqb h.number r ≡ false = another h.number (omega (arith, n, z)) in
      let b = none_placed held (held_place k h held p) (omega (arith, n, z)) in
      let d = none_placed rest p (omega (arith, n, z)) in
      rw (a, b) (ap₂ either_place (second_none k g second p (omega (arith, n, z)) (none_placed second (second_place g second p) (omega (arith, n, z)))) d)

  -- the one that stands there is found
  placed_found : (q : Place) (es : Entries) (p : Place) → regions r es ≤ 1 → PlacedIn q es p → place_found r es p ≡ Some q
  placed_found q none p most x = absurd x
  placed_found q (leaf id l rest) p most x = placed_found q rest p most x
  placed_found q (node id k h held g second rest) p most x =
      let n = regions_node r id k h held g second rest in
      elim x [
        | inl y ↦ elim y [
          | inl u ↦ (let a : eqb h.number r ≡ true = eq-eqb h.number r u.0 in rw a (ap Some u.1))
          | inr u ↦ (let i = placed_counted q held (held_place k h held p) u in
              let a : eqb h.number r ≡ false = another h.number (omega (arith, n, i, most)) in
              let f = placed_found q held (held_place k h held p) (omega (arith, n, most)) u in
              rw (a, f) refl)
        ]
        | inr y ↦ elim y [
          | inl v ↦ (let l = live_number r k g v.0 in elim (v.1) [
            | inl u ↦ (let o = one_there r g.number (sym u.0) in
                let a : eqb h.number r ≡ false = another h.number (omega (arith, n, l, o, most)) in
                let b = none_placed held (held_place k h held p) (omega (arith, n, l, o, most)) in
                let c : eqb g.number r ≡ true = eq-eqb g.number r u.0 in
                let d = v.0 in
                rw (a, b, d, c) (ap Some u.1))
            | inr u ↦ (let i = placed_counted q second (second_place g second p) u in
                let a : eqb h.number r ≡ false = another h.number (omega (arith, n, l, i, most)) in
                let b = none_placed held (held_place k h held p) (omega (arith, n, l, i, most)) in
                let c : eqb g.number r ≡ false = another g.number (omega (arith, n, l, i, most)) in
                let f = placed_found q second (second_place g second p) (omega (arith, n, most)) u in
                let d = v.0 in
                rw (a, b, d, c, f) refl)
          ])
          | inr v ↦ (let i = placed_counted q rest p v in
              let a : eqb h.number r ≡ false = another h.number (omega (arith, n, i, most)) in
              let b = none_placed held (held_place k h held p) (omega (arith, n, i, most)) in
              let f = placed_found q rest p (omega (arith, n, most)) v in
              rw (a, b) (ap₂ either_place (second_none k g second p (omega (arith, n, i, most)) (none_placed second (second_place g second p) (omega (arith, n, i, most)))) f))
        ]
      ]

  -- what is found is the place of a live region with this number
  record Found (s : S.Scene) (q : Place) : Type 0 where
    head : Head
    entries : Entries
    region : LiveRegion s head entries
    numbered : head.number ≡ r
    placed : computed_place region ≡ q

  found_one : (s : S.Scene) (q : Place) (h : Head) (es : Entries) (x : LiveRegion s h es) (b : Bool) → eqb h.number r ≡ b → (o : Option Place) → (o ≡ Some q → Found s q) → (if b then Some (computed_place x) else o) ≡ Some q → Found s q
  found_one s q h es x true e o up f = let same : computed_place x ≡ q = cc f in record { head = h; entries = es; region = x; numbered = eqb-true h.number r e; placed = same }
  found_one s q h es x false e o up f = up f

  found_either : (s : S.Scene) (q : Place) (a b : Option Place) → (a ≡ Some q → Found s q) → (b ≡ Some q → Found s q) → either_place a b ≡ Some q → Found s q
  found_either s q (Some p) b f g e = f e
  found_either s q None b f g e = g e

  found_in : (s : S.Scene) (q : Place) (left : Entries) (h : Head) (es : Entries) (x : LiveRegion s h es) → IsTail left es → place_found r left (computed_place x) ≡ Some q → Found s q
  found_in s q none h es x tail e = absurd (cc e)
  found_in s q (leaf id l rest) h es x tail e = found_in s q rest h es x (after_leaf tail) e
  found_in s q (node id k i held g second rest) h es x tail e =
      let p = computed_place x in
      found_either s q _ _ (first (found_in s q held)) (found_either s q _ _ (beside (found_in s q second) (second_lives k) refl) (found_in s q rest h es x (after_node tail))) e
    where
      first : ((h : Head) (es : Entries) (x : LiveRegion s h es) → IsTail held es → place_found r held (computed_place x) ≡ Some q → Found s q) → (if eqb i.number r then Some (held_place k i held (computed_place x)) else place_found r held (held_place k i held (computed_place x))) ≡ Some q → Found s q
      first up f =
          let a = holding k id i held g second rest in
          let there = the_held x (held_by tail a.in_it) in
          let same : held_place k i held (computed_place x) ≡ computed_place there = sym (place_by tail a.in_it (computed_place x) ∙ a.place (computed_place x)) in
          let f' : (if eqb i.number r then Some (computed_place there) else place_found r held (computed_place there)) ≡ Some q = subst (λ (p : Place). (if eqb i.number r then Some p else place_found r held p) ≡ Some q) same f in
          found_one s q i held there (eqb i.number r) refl _ (up i held there all_entries) f'

      beside : ((h : Head) (es : Entries) (x : LiveRegion s h es) → IsTail second es → place_found r second (computed_place x) ≡ Some q → Found s q) → (live : Bool) → second_lives k ≡ live → (if live then (if eqb g.number r then Some (second_place g second (computed_place x)) else place_found r second (second_place g second (computed_place x))) else None) ≡ Some q → Found s q
      beside up false l f = absurd (cc f)
      beside up true l f =
          let a = holding_second k id i held g second rest l in
          let there = the_held x (held_by tail a.in_it) in
          let same : second_place g second (computed_place x) ≡ computed_place there = sym (place_by tail a.in_it (computed_place x) ∙ a.place (computed_place x)) in
          let f' : (if eqb g.number r then Some (computed_place there) else place_found r second (computed_place there)) ≡ Some q = subst (λ (p : Place). (if eqb g.number r then Some p else place_found r second p) ≡ Some q) same f in
          found_one s q g second there (eqb g.number r) refl _ (up g second there all_entries) f'

  found_there : (s : S.Scene) (q : Place) → place_in_scene r s ≡ Some q → Found s q
  found_there s q e = found_one s q s.root.head s.root.entries the_root (eqb s.root.head.number r) refl _ (found_in s q s.root.entries s.root.head s.root.entries the_root all_entries) e

-- the status that a mark stands for
ends_by : (q : Place) → Some (status q) ≡ Some Ends → q.is Ending ≡ true
ends_by q = go (q.is Ending) (q.is Going)
  where
    go : (a b : Bool) → Some (if a then Ends else (if b then Goes else Open)) ≡ Some Ends → a ≡ true
    go true b e = refl
    go false true e = absurd (cc e)
    go false false e = absurd (cc e)

goes_by : (q : Place) → Some (status q) ≡ Some Goes → q.is Going ≡ true
goes_by q = go (q.is Ending) (q.is Going)
  where
    go : (a b : Bool) → Some (if a then Ends else (if b then Goes else Open)) ≡ Some Goes → b ≡ true
    go true b e = absurd (cc e)
    go false true e = refl
    go false false e = absurd (cc e)

open_by : (q : Place) → Some (status q) ≡ Some Open → (z : Side) → q.is z ≡ false
open_by q e z = go (q.is Ending) (q.is Going) refl refl e z
  where
    go : (a b : Bool) → q.is Ending ≡ a → q.is Going ≡ b → Some (if a then Ends else (if b then Goes else Open)) ≡ Some Open → (z : Side) → q.is z ≡ false
    go true b x y e z = absurd (cc e)
    go false true x y e z = absurd (cc e)
    go false false x y e Ending = x
    go false false x y e Going = y

-- where entries fit, those of a region in them do
fit_inside : (defs : List Definition) (kinds : List Bool) (variables : List Variable) (p : Place) (es : Entries) (role : Role) (i : Head) (held : Entries) (in_it : HoldsRegion es role i held) → EntriesFit defs kinds variables es p → EntriesFit defs kinds variables held (place_through in_it p)
fit_inside defs kinds variables p _ _ _ _ by_split fit = fit.1
fit_inside defs kinds variables p _ _ _ _ by_split_project fit = fit.1
fit_inside defs kinds variables p _ _ _ _ by_closed fit = fit.1
fit_inside defs kinds variables p _ _ _ _ by_opened fit = fit.1
fit_inside defs kinds variables p _ _ _ _ by_running fit = fit.1
fit_inside defs kinds variables p _ _ _ _ by_running_second fit = fit.0.1
fit_inside defs kinds variables p _ role i held (past_leaf in_it) fit = fit_inside defs kinds variables p _ role i held in_it fit.1
fit_inside defs kinds variables p _ role i held (past_node in_it) fit = fit_inside defs kinds variables p _ role i held in_it fit.2

module _ (w : Setting) (kinds : List Bool) (m : Moment) (sound : IsSound w kinds m) where
  abbrev s : S.Scene
  s = m.scene

  once : (r : ℕ) → one_if r s.root.head.number + regions r s.root.entries ≤ 1
  once r = let f = count_first r s.root.head.number (region_numbers s.root.entries) in
      let most = (numbers_once s.next_region (s.root.head.number ∷ region_numbers s.root.entries) sound.moment.regions).once r in
      omega (arith, f, most)

  place_of : (h : Head) (es : Entries) (x : LiveRegion s h es) → place_in_scene h.number s ≡ Some (computed_place x)
  place_of h es x =
      let r = h.number in
      let q = computed_place x in
      let root = root_place s.root in
      let by : Bool → Option Place = λ b. if b then Some root else place_found r s.root.entries root in
      elim (standing_from_root (IsPlaced r q) s h es x (inl (number_in s h es x, refl))) [
        | inl u ↦ ap by (eq-eqb s.root.head.number r u.0) ∙ ap Some u.1
        | inr u ↦ (let c = placed_counted r q s.root.entries root u in
            let o = once r in
            ap by (another r s.root.head.number (omega (arith, c, o))) ∙ placed_found r q s.root.entries root (omega (arith, o)) u)
      ]

  fit_of : (h : Head) (es : Entries) (x : LiveRegion s h es) → EntriesFit w.defs kinds m.store.variables es (computed_place x)
  fit_of _ _ the_root = sound.moment.entries
  fit_of _ _ (the_held {h = h} {es = es} {role = role} {i = i} {held = held} x in_it) = fit_inside w.defs kinds m.store.variables (computed_place x) es role i held in_it (fit_of h es x)

  mark_of : (h : Head) (es : Entries) (x : LiveRegion s h es) → region_mark h.number s ≡ Some (status (computed_place x))
  mark_of h es x = ap (option_map status) (place_of h es x)

  tells : (h : Head) (es : Entries) (x : LiveRegion s h es) → MarkTells s h es x
  tells h es x =
      let q = computed_place x in
      let e = mark_of h es x in
      let least = status_is_least s h es x in
      let calm : IsCalm q = entries_calm w.defs kinds m.store.variables es q (fit_of h es x) in
      record {
        ends = (λ t. (least Ending).0 (ends_by q (sym e ∙ t)), λ y. e ∙ ap Some (sym (status_ends q ((least Ending).1 y))));
        goes = (
          λ t. (least Going).0 (goes_by q (sym e ∙ t)),
          λ y. (let g : q.is Going ≡ true = (least Going).1 y in
              e ∙ ap Some (sym (status_goes q (false_from_ne_true (q.is Ending) (λ z. calm z g)) g))),
        );
        unknown = (
          λ t z y. both_ways (q.is z) (open_by q (sym e ∙ t) z) ((least z).1 y),
          λ never. e ∙ ap Some (sym (status_open q (false_from_ne_true (q.is Ending) (λ y. never Ending ((least Ending).0 y))) (false_from_ne_true (q.is Going) (λ y. never Going ((least Going).0 y))))),
        );
      }

  -- a number that has a mark is that of a live region
  found_by : (r : ℕ) (x : Mark) → region_mark r s ≡ Some x → (q : Place) × Found r s q × (region_mark r s ≡ Some (status q))
  found_by r x e = go (place_in_scene r s) refl
    where
      go : (o : Option Place) → place_in_scene r s ≡ o → (q : Place) × Found r s q × (region_mark r s ≡ Some (status q))
      go None y = let z : option_map status (place_in_scene r s) ≡ None = ap (option_map status) y in absurd (cc (z, e))
      go (Some q) y = (q, found_there r s q y, ap (option_map status) y)

  known_mark : (h : Head) (es : Entries) (x : LiveRegion s h es) (z : Side) → HasStatus s z h es x → (region_mark h.number s ≡ Some Ends) ⊎ (region_mark h.number s ≡ Some Goes)
  known_mark h es x Ending y = inl ((tells h es x).ends.1 y)
  known_mark h es x Going y = inr ((tells h es x).goes.1 y)

  -- of a live region's number
  live_mark : (r depth : ℕ) (l : IsLiveNumber s r depth) → region_mark r s ≡ Some (status (computed_place l.region))
  live_mark r depth l = subst (λ (n : ℕ). region_mark n s ≡ Some (status (computed_place l.region))) l.numbered (mark_of l.head l.entries l.region)

  of_found : (r : ℕ) (q : Place) → Found r s q → (z : Side) → q.is z ≡ true → IsKnownEnd s r
  of_found r q f z e = record {
    head = f.head;
    entries = f.entries;
    region = f.region;
    numbered = f.numbered;
    side = z;
    status = (status_is_least s f.head f.entries f.region z).0 (ap (λ (p : Place). p.is z) f.placed ∙ e);
  }

  known_by : (r : ℕ) → (region_mark r s ≡ Some Ends) ⊎ (region_mark r s ≡ Some Goes) → IsKnownEnd s r
  known_by r (inl y) = let f = found_by r Ends y in of_found r f.0 f.1 Ending (ends_by f.0 (sym f.2 ∙ y))
  known_by r (inr y) = let f = found_by r Goes y in of_found r f.0 f.1 Going (goes_by f.0 (sym f.2 ∙ y))

  by_known : (r : ℕ) → IsKnownEnd s r → (region_mark r s ≡ Some Ends) ⊎ (region_mark r s ≡ Some Goes)
  by_known r k = subst (λ (n : ℕ). (region_mark n s ≡ Some Ends) ⊎ (region_mark n s ≡ Some Goes)) k.numbered (known_mark k.head k.entries k.region k.side k.status)

  found_live : (r : ℕ) (q : Place) → Found r s q → (depth : ℕ) × IsLiveNumber s r depth
  found_live r q f = (regions_around f.region, record { head = f.head; entries = f.entries; region = f.region; numbered = f.numbered; deep = refl })

  unmarked : (r : ℕ) → ((depth : ℕ) → IsLiveNumber s r depth → ⊥) → region_mark r s ≡ None
  unmarked r never = go (place_in_scene r s) refl
    where
      go : (o : Option Place) → place_in_scene r s ≡ o → region_mark r s ≡ None
      go None y = ap (option_map status) y
      go (Some q) y = let l = found_live r q (found_there r s q y) in absurd (never l.0 l.1)

  open_mark : (r : ℕ) → (IsKnownEnd s r → ⊥) → (x : Mark) → region_mark r s ≡ Some x → region_mark r s ≡ Some Open
  open_mark r never Open e = e
  open_mark r never Ends e = absurd (never (known_by r (inl e)))
  open_mark r never Goes e = absurd (never (known_by r (inr e)))

  open_unknown : (r : ℕ) → region_mark r s ≡ Some Open → IsKnownEnd s r → ⊥
  open_unknown r e k = elim (by_known r k) [ inl y ↦ cc (e, y) | inr y ↦ cc (e, y) ]

  tell : (r : ℕ) → MarksTell s r
  tell r = record {
    none = (λ e depth l. (let y = live_mark r depth l in cc (e, y)), unmarked r);
    unknown = (
      λ e. (let f = found_by r Open e in (found_live r f.0 f.1, open_unknown r e)),
      λ l. open_mark r l.1 (status (computed_place l.0.1.region)) (live_mark r l.0.0 l.0.1),
    );
    known = (known_by r, by_known r);
  }

pub marks_tell_status : MarksTellStatus
marks_tell_status w kinds m sound = (tells w kinds m sound, tell w kinds m sound)
