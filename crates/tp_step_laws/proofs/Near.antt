-- What a mark makes known leads outward to where the marked region leads.
use Rattle.std.proofs.Common.{◌≡◌, ◌⊎◌, inl, inr, ℕ, Bool, true, false, List, refl, ap, sym, ◌∙◌, subst, arith}
use Rattle.std.specs.Option.{is_some}
use Rattle.std.proofs.lemmas.Bool.{cases_Bool, or_cases, both_ways, false≢true}
use Rattle.tp_value.specs.declared.path.Fact.{Fact}
use Rattle.tp_scene.specs.Scene.{Side, Ending, Going, other_side, Head, marked, Entries, none, new_head, Scene, Place, root_place}
use Rattle.tp_scene.specs.Regions.{Role, left_region, closed_region, inner_region, outer_region, HoldsRegion, by_split, by_split_project, by_closed, by_opened, by_running, by_running_second, past_leaf, past_node, LiveRegion, the_root, the_held}
use Rattle.tp_scene.specs.RegionLaws.{StandsLive}
use Rattle.tp_scene.specs.Status.{HasStatus, marked_to_end, left_ends, inner_ends, closed_ends, marked_to_go, left_goes, inner_goes, outer_takes, outer_gives}
use Rattle.tp_scene.specs.RegionLaws.{place_through, computed_place}
use Rattle.tp_scene.specs.Step.{Reduction, PickOutcome, reduces, Numbers}
use Rattle.tp_scene.specs.Pick.{Setting, Moment, Reduces, numbers_of}
use Rattle.tp_scene.specs.Cells.{IsKnownEnd}
use Rattle.tp_scene.specs.Fits.{IsCalm}
use Rattle.tp_scene.specs.Laws.{IsSound}
use Rattle.tp_scene.proofs.Plain.{FreshLeaves, Plain, IsPlain, leaf_plain}
use Rattle.tp_scene.proofs.StatusRules.{status_is_least}
use Rattle.tp_scene.proofs.StepsFit.{steps_fit}
use Rattle.tp_scene.proofs.Grown.{not_both}
use Rattle.tp_scene.proofs.KnownEnds.{KnownAt, end_known}
use Rattle.tp_scene.proofs.KnownStays.{root_put}
use Rattle.tp_step_laws.specs.Edits.{Edit, marks, head_after, single, Thing, of_leaf, of_holder, edit_of}
use Rattle.tp_step_laws.specs.Near.{StandsAround, IsNewlyKnown, LeadsOutward, arrived, outward, MarkedStepsEndNear}
use Rattle.tp_step_laws.proofs.Bridge.{IsMade, holder_made}
use Rattle.tp_step_laws.proofs.Where.{Picked}
use Rattle.tp_step_laws.proofs.PickedItem.{PickedItem, picked_item}
use Rattle.tp_step_laws.proofs.Marked.{AllCalm, calm_fit, calm_here}
use Rattle.tp_step_laws.proofs.MarkAlone.{MarkAlone, leaf_alone}
use Rattle.tp_step_laws.proofs.OneAround.{RegionsStandOnce, regions_stand_once, status_of_number}
use Rattle.tp_step_laws.proofs.Backward.{NoHolder, IsLeaf, no_holder, home_number, live_here, marks_stand, RegionBefore, was_held, was_live}

-- a region in calm entries is calm
calm_inside : (p : Place) (es : Entries) (role : Role) (i : Head) (held : Entries) (in_it : HoldsRegion es role i held) → AllCalm es p → AllCalm held (place_through in_it p)
calm_inside p _ _ _ _ by_split calm = calm.0
calm_inside p _ _ _ _ by_split_project calm = calm.0
calm_inside p _ _ _ _ by_closed calm = calm.0
calm_inside p _ _ _ _ by_opened calm = calm.0
calm_inside p _ _ _ _ by_running calm = calm.0
calm_inside p _ _ _ _ by_running_second calm = calm.1 refl
calm_inside p _ role i held (past_leaf in_it) calm = calm_inside p _ role i held in_it calm
calm_inside p _ role i held (past_node in_it) calm = calm_inside p _ role i held in_it calm.2

all_calm : (s : Scene) → AllCalm s.root.entries (root_place s.root) → (h : Head) (es : Entries) (x : LiveRegion s h es) → AllCalm es (computed_place x)
all_calm s calm _ _ the_root = calm
all_calm s calm _ _ (the_held {h = h} {es = es} {role = role} {i = i} {held = held} x in_it) = calm_inside (computed_place x) es role i held in_it (all_calm s calm h es x)

-- one step more at the outer end
further : (before after : Scene) (r q p : ℕ) → LeadsOutward before after r q → StandsAround after q p → IsNewlyKnown before after p → LeadsOutward before after r p
further before after r _ p (arrived new) around known = outward new around (arrived known)
further before after r q p (outward {p = p'} new one leads) around known = outward new one (further before after p' q p leads around known)

-- what a step that sets a mark picks holds no region,
marks_leaf : (w : Setting) (facts : List Fact) (n : Numbers) (s : Reduction) (x : Thing) (q : Place) → is_some s.mark ≡ true → Picked w facts n x q (reduces s) → IsLeaf x
marks_leaf w facts n s (of_leaf l) q has o = tt
marks_leaf w facts n s (of_holder k held) q has o =
    let made : IsMade w facts n s o.0 o.1 o.2 o.3 k _ = holder_made w facts n s o.0 o.1 o.2 o.3 k held in
    let unmarked = (made (sym o.4)).1 in
    absurd (false≢true (sym (ap is_some unmarked) ∙ has))

-- and becomes new leaves
makes_leaves : (w : Setting) (facts : List Fact) (n : Numbers) (s : Reduction) (x : Thing) (q : Place) → is_some s.mark ≡ true → Picked w facts n x q (reduces s)
    → FreshLeaves n 0 ((edit_of x n s).make (new_head 0) none (new_head 0) none) s.items
makes_leaves w facts n s (of_leaf l) q has o =
    let plain : Plain q n s = subst (λ (u : PickOutcome). IsPlain facts q n u) (sym o) (leaf_plain facts q n w.defs w.inputs w.state l) in
    let alone : MarkAlone (reduces s) = subst (λ (u : PickOutcome). MarkAlone u) (sym o) (leaf_alone w.defs w.inputs w.state facts l q n) in
    let zero = alone has in
    elim (plain.news) [ inl a ↦ a.0 | inr a ↦ (let one = a.2 in absurd (omega (arith, zero, one))) ]
makes_leaves w facts n s (of_holder k held) q has o = absurd (marks_leaf w facts n s (of_holder k held) q has o)

module _ (w : Setting) (kinds : List Bool) (m : Moment) (t : ℕ) (s : Reduction) (next : Moment) (sound : IsSound w kinds m) (step : Reduces w m t s next) (has : is_some s.mark ≡ true) where
  abbrev here : PickedItem w m t s next
  here = picked_item w kinds m t s next sound step

  abbrev e : Edit
  e = edit_of here.thing (numbers_of m.scene m.store.variables) s

  fresh : FreshLeaves (numbers_of m.scene m.store.variables) 0 (e.make (new_head 0) none (new_head 0) none) s.items
  fresh = makes_leaves w m.store.facts (numbers_of m.scene m.store.variables) s here.thing here.place has here.gives

  plain : NoHolder t m.scene.root.entries
  plain = no_holder t m.scene.root.entries here.thing here.place (root_place m.scene.root) (marks_leaf w m.store.facts (numbers_of m.scene m.store.variables) s here.thing here.place has here.gives) here.at

  sound_next : IsSound w kinds next
  sound_next = steps_fit w kinds m t s next sound step

  -- the live region that one of the next scene was
  abbrev WasThere : Head → Entries → Type 0
  WasThere h xs = RegionBefore t e (numbers_of m.scene m.store.variables) s.items fresh m.scene next.scene plain here.root_after h xs

  abbrev before : (h : Head) (xs : Entries) → LiveRegion next.scene h xs → WasThere h xs
  before = was_live t e (numbers_of m.scene m.store.variables) s.items fresh m.scene next.scene plain here.root_after

  once : RegionsStandOnce m.scene
  once = regions_stand_once w kinds m sound

  once_next : RegionsStandOnce next.scene
  once_next = regions_stand_once w kinds next sound_next

  calm_next : (h : Head) (xs : Entries) (y : LiveRegion next.scene h xs) → IsCalm (computed_place y)
  calm_next h xs y = calm_here xs (computed_place y) (all_calm next.scene (calm_fit w.defs kinds next.store.variables next.scene.root.entries (root_place next.scene.root) sound_next.moment.entries) h xs y)

  -- of that region it was known whether it ends or goes
  abbrev KnownBefore : (h : Head) (xs : Entries) → LiveRegion next.scene h xs → Type 0
  KnownBefore h xs y = (z : Side) × HasStatus m.scene z (before h xs y).head (before h xs y).entries (before h xs y).region

  abbrev NewlyKnown : ℕ → Type 0
  NewlyKnown r = IsNewlyKnown m.scene next.scene r

  number_was : (h : Head) (xs : Entries) (y : LiveRegion next.scene h xs) → (before h xs y).head.number ≡ h.number
  number_was h xs y = sym (ap (λ (a : Head). a.number) (before h xs y).is_head)

  abbrev known_was : (h : Head) (xs : Entries) (y : LiveRegion next.scene h xs) → KnownBefore h xs y → IsKnownEnd m.scene h.number
  known_was h xs y k = let b = before h xs y in record { head = b.head; entries = b.entries; region = b.region; numbered = number_was h xs y; side = k.0; status = k.1 }

  -- what is known stays so, and no region both ends and goes; so what is so now wasn't known on the other side
  not_other : (h : Head) (xs : Entries) (y : LiveRegion next.scene h xs) (z : Side) → HasStatus next.scene z h xs y → HasStatus m.scene (other_side z) (before h xs y).head (before h xs y).entries (before h xs y).region → ⊥
  not_other h xs y z d was =
      let r = h.number in
      let u = other_side z in
      let stays : KnownAt r u next.scene.root.entries (root_place next.scene.root) = subst (λ (a : Scene). KnownAt r u a.root.entries (root_place a.root)) (sym step.scene)
      (root_put r u w m.store.facts (numbers_of m.scene m.store.variables) t s m.scene step.outcome (end_known m.scene r (known_was h xs y (u, was)))) in
      not_both z (computed_place y) (calm_next h xs y) ((status_is_least next.scene h xs y z).1 d) (status_of_number next.scene once_next r u stays h xs y refl)

  same_side : (h : Head) (xs : Entries) (y : LiveRegion next.scene h xs) (z : Side) → HasStatus next.scene z h xs y → KnownBefore h xs y → HasStatus m.scene z (before h xs y).head (before h xs y).entries (before h xs y).region
  same_side h xs y Ending d (Ending, was) = was
  same_side h xs y Ending d (Going, was) = absurd (not_other h xs y Ending d was)
  same_side h xs y Going d (Ending, was) = absurd (not_other h xs y Going d was)
  same_side h xs y Going d (Going, was) = was

  decide : (h : Head) (xs : Entries) (y : LiveRegion next.scene h xs) → KnownBefore h xs y ⊎ (KnownBefore h xs y → ⊥)
  decide h xs y =
      let b = before h xs y in
      let least = status_is_least m.scene b.head b.entries b.region in
      elim (cases_Bool ((computed_place b.region).is Ending)) [
        | inl e ↦ inl (Ending, (least Ending).0 e)
        | inr e ↦ elim (cases_Bool ((computed_place b.region).is Going)) [
          | inl g ↦ inl (Going, (least Going).0 g)
          | inr g ↦ inr (neither e g)
        ]
      ]
    where
      neither : (computed_place (before h xs y).region).is Ending ≡ false → (computed_place (before h xs y).region).is Going ≡ false → KnownBefore h xs y → ⊥
      neither e g (Ending, d) = both_ways _ e ((status_is_least m.scene (before h xs y).head (before h xs y).entries (before h xs y).region Ending).1 d)
      neither e g (Going, d) = both_ways _ g ((status_is_least m.scene (before h xs y).head (before h xs y).entries (before h xs y).region Going).1 d)

  -- what wasn't known of that region wasn't known of its number
  new : (h : Head) (xs : Entries) (y : LiveRegion next.scene h xs) (z : Side) → HasStatus next.scene z h xs y → (KnownBefore h xs y → ⊥) → NewlyKnown h.number
  new h xs y z d unknown =
      let b = before h xs y in
      record {
        now = record { head = h; entries = xs; region = y; numbered = refl; side = z; status = d };
        not_before = λ k. unknown (k.side, (status_is_least m.scene b.head b.entries b.region k.side).0 (status_of_number m.scene once h.number k.side (end_known m.scene h.number k) b.head b.entries b.region (number_was h xs y)));
      }

  -- outward from a region to one with this number, through regions that are newly known
  abbrev LeadsFromAround : (h : Head) (xs : Entries) → LiveRegion next.scene h xs → ℕ → Type 0
  LeadsFromAround _ _ the_root top = ⊥
  LeadsFromAround _ _ (the_held {h = h} {es = xs} y in_it) top = NewlyKnown h.number × ((h.number ≡ top) ⊎ LeadsFromAround h xs y top)

  abbrev LeadsFrom : (h : Head) (xs : Entries) → LiveRegion next.scene h xs → ℕ → Type 0
  LeadsFrom h xs y top = NewlyKnown h.number × ((h.number ≡ top) ⊎ LeadsFromAround h xs y top)

  from_leads : (h : Head) (xs : Entries) (y : LiveRegion next.scene h xs) (top : ℕ) → LeadsFrom h xs y top → LeadsOutward m.scene next.scene h.number top
  from_leads h _ the_root top (known, inl same) = subst (λ (k : ℕ). LeadsOutward m.scene next.scene h.number k) same (arrived known)
  from_leads h _ the_root top (known, inr up) = absurd up
  from_leads i _ (the_held y in_it) top (known, inl same) = subst (λ (k : ℕ). LeadsOutward m.scene next.scene i.number k) same (arrived known)
  from_leads _ _ (the_held {h = h} {es = xs} {role = role} {i = i} {held = held} y in_it) top (known, inr up) =
      outward known (record { head = h; entries = xs; around = y; numbered = refl; role = role; inner = i; held = held; holds = in_it; named = refl }) (from_leads h xs y top up)

  module _ (home : StandsLive m.scene t) where
    abbrev KnownOrNear : (h : Head) (xs : Entries) → LiveRegion next.scene h xs → Type 0
    KnownOrNear h xs y = KnownBefore h xs y ⊎ ((top : ℕ) × LeadsOutward m.scene next.scene home.head.number top × LeadsFrom h xs y top)

    -- By the rules of status: of a mark, which was there before or is that of the step,
    start : (z : Side) (h : Head) (xs : Entries) (y : LiveRegion next.scene h xs) → HasStatus next.scene z h xs y → marked z h ≡ true → KnownOrNear h xs y
    start z h xs y d on =
        let b = before h xs y in
        elim (was_marked z b.head b.entries (subst (λ (a : Head). marked z a ≡ true) b.is_head on)) [
          | inl u ↦ inl (z, rule z b.head b.entries b.region u)
          | inr u ↦ elim (decide h xs y) [
            | inl k ↦ inl k
            | inr unknown ↦ (let known = new h xs y z d unknown in
                let there : b.head.number ≡ here.place.region = home_number t m.scene here.thing here.place here.at b.head b.entries b.region (marks_stand t e z b.entries u) in
                let same : h.number ≡ home.head.number = sym (number_was h xs y) ∙ there ∙ sym (home_number t m.scene here.thing here.place here.at home.head home.entries home.region (live_here t m.scene home)) in
                inr (h.number, subst (λ (k : ℕ). LeadsOutward m.scene next.scene k h.number) same (arrived known), (known, inl refl)))
          ]
        ]
      where
        was_marked : (z : Side) (a : Head) (ys : Entries) → marked z (head_after (single t e) ys a) ≡ true → (marked z a ≡ true) ⊎ (marks (single t e) z ys ≡ true)
        was_marked Ending a ys u = or_cases a.ends (marks (single t e) Ending ys) u
        was_marked Going a ys u = or_cases a.goes (marks (single t e) Going ys) u

        rule : (z : Side) (a : Head) (ys : Entries) (x : LiveRegion m.scene a ys) → marked z a ≡ true → HasStatus m.scene z a ys x
        rule Ending a ys x u = marked_to_end x u
        rule Going a ys x u = marked_to_go x u

    -- from the region around,
    sink : (role : Role) (z : Side) → ((c : Scene) (h i : Head) (xs held : Entries) (x : LiveRegion c h xs) (in_it : HoldsRegion xs role i held) → HasStatus c z h xs x → HasStatus c z i held (the_held x in_it))
        → (h i : Head) (xs held : Entries) (y : LiveRegion next.scene h xs) (in_it : HoldsRegion xs role i held) → HasStatus next.scene z h xs y → KnownOrNear h xs y → KnownOrNear i held (the_held y in_it)
    sink role z rule h i xs held y in_it d (inl k) =
        let b = before h xs y in
        let f = was_held t e (numbers_of m.scene m.store.variables) s.items fresh m.scene next.scene plain here.root_after h xs b role i held in_it in
        inl (z, rule m.scene b.head f.head b.entries f.entries b.region f.holds (same_side h xs y z d k))
    sink role z rule h i xs held y in_it d (inr (top, leads, from)) = elim (decide i held (the_held y in_it)) [
      | inl k ↦ inl k
      | inr unknown ↦ inr (top, leads, (new i held (the_held y in_it) z (rule next.scene h i xs held y in_it d) unknown, inr from))
    ]

    -- and from a region held in it, which is then the last that both lead to, or leads on to this one.
    rise : (role : Role) (z : Side) → ((c : Scene) (h i : Head) (xs held : Entries) (x : LiveRegion c h xs) (in_it : HoldsRegion xs role i held) → HasStatus c z i held (the_held x in_it) → HasStatus c z h xs x)
        → (h i : Head) (xs held : Entries) (y : LiveRegion next.scene h xs) (in_it : HoldsRegion xs role i held) → HasStatus next.scene z i held (the_held y in_it) → KnownOrNear i held (the_held y in_it) → KnownOrNear h xs y
    rise role z rule h i xs held y in_it d (inl k) =
        let b = before h xs y in
        let f = was_held t e (numbers_of m.scene m.store.variables) s.items fresh m.scene next.scene plain here.root_after h xs b role i held in_it in
        inl (z, rule m.scene b.head f.head b.entries f.entries b.region f.holds (same_side i held (the_held y in_it) z d k))
    rise role z rule h i xs held y in_it d (inr (top, leads, (known, inl same))) = elim (decide h xs y) [
      | inl k ↦ inl k
      | inr unknown ↦ (let now = new h xs y z (rule next.scene h i xs held y in_it d) unknown in
          inr (
            h.number,
            further m.scene next.scene home.head.number top h.number leads (record { head = h; entries = xs; around = y; numbered = refl; role = role; inner = i; held = held; holds = in_it; named = same }) now,
            (now, inl refl),
          ))
    ]
    rise role z rule h i xs held y in_it d (inr (top, leads, (known, inr up))) = inr (top, leads, up)

    -- A region that ends or goes was known before, or leads to where the marked one leads.
    claim : (z : Side) (h : Head) (xs : Entries) (y : LiveRegion next.scene h xs) → HasStatus next.scene z h xs y → KnownOrNear h xs y
    claim _ h xs _ (marked_to_end y u) = start Ending h xs y (marked_to_end y u) u
    claim _ h xs _ (marked_to_go y u) = start Going h xs y (marked_to_go y u) u
    claim _ _ _ _ (left_ends {h = h} {i = i} {es = xs} {held = held} y in_it d) = sink left_region Ending (λ c h i xs held x f. left_ends x f) h i xs held y in_it d (claim Ending h xs y d)
    claim _ _ _ _ (inner_ends {h = h} {i = i} {es = xs} {held = held} y in_it d) = sink inner_region Ending (λ c h i xs held x f. inner_ends x f) h i xs held y in_it d (claim Ending h xs y d)
    claim _ _ _ _ (outer_takes {z = z} {h = h} {i = i} {es = xs} {held = held} y in_it d) = sink outer_region z (λ c h i xs held x f. outer_takes x f) h i xs held y in_it d (claim z h xs y d)
    claim _ _ _ _ (closed_ends {h = h} {i = i} {es = xs} {held = held} y in_it) =
        let b = before h xs y in
        let f = was_held t e (numbers_of m.scene m.store.variables) s.items fresh m.scene next.scene plain here.root_after h xs b closed_region i held in_it in
        inl (Ending, closed_ends b.region f.holds)
    claim _ _ _ _ (left_goes {h = h} {i = i} {es = xs} {held = held} y in_it d) = rise left_region Going (λ c h i xs held x f. left_goes x f) h i xs held y in_it d (claim Going i held (the_held y in_it) d)
    claim _ _ _ _ (inner_goes {h = h} {i = i} {es = xs} {held = held} y in_it d) = rise inner_region Going (λ c h i xs held x f. inner_goes x f) h i xs held y in_it d (claim Going i held (the_held y in_it) d)
    claim _ _ _ _ (outer_gives {z = z} {h = h} {i = i} {es = xs} {held = held} y in_it d) = rise outer_region z (λ c h i xs held x f. outer_gives x f) h i xs held y in_it d (claim z i held (the_held y in_it) d)

pub marked_steps_end_near : MarkedStepsEndNear
marked_steps_end_near w kinds m t s next sound step has home r known =
    let k = known.now in
    let b = before w kinds m t s next sound step has k.head k.entries k.region in
    elim (claim w kinds m t s next sound step has home k.side k.head k.entries k.region k.status) [
      | inl u ↦ absurd (known.not_before (subst (λ (j : ℕ). IsKnownEnd m.scene j) k.numbered (known_was w kinds m t s next sound step has k.head k.entries k.region u)))
      | inr u ↦ (u.0, u.1, subst (λ (j : ℕ). LeadsOutward m.scene next.scene j u.0) k.numbered (from_leads w kinds m t s next sound step has k.head k.entries k.region u.0 u.2))
    ]
