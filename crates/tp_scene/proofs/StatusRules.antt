-- The computed status is the least that the rules give.
use Rattle.std.proofs.Common.{◌≡◌, ◌⊎◌, ℕ, true, ◌||◌, ◌&&◌, refl, inl, inr}
use Rattle.std.proofs.lemmas.Bool.{or_cases, or_left, or_right, and_parts, false≢true}
use Rattle.tp_meaning.specs.Syntax.{FormulaTree}
use Rattle.tp_scene.specs.Scene.{Bindings, Side, Ending, Going, Head, marked, Holder, Split, SplitProject, Closed, Opened, Running, Entries, none, leaf, node, Scene, second_lives, rises, sinks, forced, risen, Place, held_place}
use Rattle.tp_scene.proofs.Grown.{held_covered, second_covered}
use Rattle.tp_scene.specs.Regions.{Role, left_region, closed_region, inner_region, outer_region, HoldsRegion, by_split, by_split_project, by_closed, by_opened, by_running, by_running_second, past_leaf, past_node, LiveRegion, the_root, the_held, IsTail, all_entries, after_leaf, after_node}
use Rattle.tp_scene.specs.Status.{HasStatus, marked_to_end, left_ends, inner_ends, closed_ends, marked_to_go, left_goes, inner_goes, outer_takes, outer_gives}
use Rattle.tp_scene.specs.RegionLaws.{place_through, computed_place, StatusIsLeast}

-- what a region of a role makes of the region around, takes from it, and is by itself
abbrev pub GivesUp : Role → Side → Type 0
GivesUp left_region Ending = ⊥
GivesUp left_region Going = Unit {0}
GivesUp closed_region z = ⊥
GivesUp inner_region Ending = ⊥
GivesUp inner_region Going = Unit {0}
GivesUp outer_region z = Unit {0}

abbrev pub TakesDown : Role → Side → Type 0
TakesDown left_region Ending = Unit {0}
TakesDown left_region Going = ⊥
TakesDown closed_region z = ⊥
TakesDown inner_region Ending = Unit {0}
TakesDown inner_region Going = ⊥
TakesDown outer_region z = Unit {0}

abbrev pub IsForced : Role → Side → Type 0
IsForced left_region z = ⊥
IsForced closed_region Ending = Unit {0}
IsForced closed_region Going = ⊥
IsForced inner_region z = ⊥
IsForced outer_region z = ⊥

pub given_up : (z : Side) (es : Entries) (role : Role) (i : Head) (held : Entries) → HoldsRegion es role i held → GivesUp role z → (marked z i || risen z held) ≡ true → risen z es ≡ true
given_up Going _ _ _ _ (by_split {h = h} {held = held}) u e = or_left (h.goes || risen Going held) _ e
given_up Going _ _ _ _ (by_split_project {h = h} {held = held}) u e = or_left (h.goes || risen Going held) _ e
given_up z _ _ _ _ (by_opened {h = h} {held = held}) u e = or_left (marked z h || risen z held) _ e
given_up Going _ _ _ _ (by_running {h = h} {held = held}) u e = or_left (h.goes || risen Going held) _ e
given_up z _ _ _ _ (by_running_second {f = f} {env = env} {h = h} {g = g} {held = held} {second = second}) u e =
    or_right (rises (Running f env) z && (marked z h || risen z held)) _ (or_left (marked z g || risen z second) _ e)
given_up z _ role i held (past_leaf in_it) u e = given_up z _ role i held in_it u e
given_up z _ role i held (past_node {k = k} {i = j} {g = g} {first = first} {second = second} in_it) u e =
    or_right (rises k z && (marked z j || risen z first)) _ (or_right (second_lives k && (marked z g || risen z second)) _ (given_up z _ role i held in_it u e))
given_up z _ _ _ _ x u e = absurd u

pub taken_down : (z : Side) (p : Place) (es : Entries) (role : Role) (i : Head) (held : Entries) (in_it : HoldsRegion es role i held) → TakesDown role z → p.is z ≡ true → (place_through in_it p).is z ≡ true
taken_down Going p _ _ _ _ by_split u e = absurd u
taken_down Going p _ _ _ _ by_split_project u e = absurd u
taken_down z p _ _ _ _ by_closed u e = absurd u
taken_down Going p _ _ _ _ by_running u e = absurd u
taken_down z p _ role i held (past_leaf in_it) u e = taken_down z p _ role i held in_it u e
taken_down z p _ role i held (past_node in_it) u e = taken_down z p _ role i held in_it u e
taken_down z p _ _ _ _ x u e = or_left (p.is z) _ e

pub forced_so : (z : Side) (p : Place) (es : Entries) (role : Role) (i : Head) (held : Entries) (in_it : HoldsRegion es role i held) → IsForced role z → (place_through in_it p).is z ≡ true
forced_so Ending p _ _ _ _ by_closed u = refl
forced_so z p _ role i held (past_leaf in_it) u = forced_so z p _ role i held in_it u
forced_so z p _ role i held (past_node in_it) u = forced_so z p _ role i held in_it u
forced_so z p _ _ _ _ x u = absurd u

-- a region is what it is marked and what rises in it
pub held_so : (z : Side) (p : Place) (es : Entries) (role : Role) (i : Head) (held : Entries) (in_it : HoldsRegion es role i held) → (marked z i || risen z held) ≡ true → (place_through in_it p).is z ≡ true
held_so z p _ _ _ _ (by_split {f = f} {env = env} {h = h} {held = held}) e = held_covered (Split f env) h held p z e
held_so z p _ _ _ _ (by_split_project {f = f} {env = env} {h = h} {held = held}) e = held_covered (SplitProject f env) h held p z e
held_so z p _ _ _ _ (by_closed {h = h} {held = held}) e = held_covered Closed h held p z e
held_so z p _ _ _ _ (by_opened {f = f} {env = env} {h = h} {held = held}) e = held_covered (Opened f env) h held p z e
held_so z p _ _ _ _ (by_running {f = f} {env = env} {h = h} {held = held}) e = held_covered (Running f env) h held p z e
held_so z p _ _ _ _ (by_running_second {g = g} {second = second}) e = second_covered g second p z e
held_so z p _ role i held (past_leaf in_it) e = held_so z p _ role i held in_it e
held_so z p _ role i held (past_node in_it) e = held_so z p _ role i held in_it e

-- and nothing else than these make it so
abbrev Comes : Role → Side → Place → Head → Entries → Type 0
Comes role z p i held = (TakesDown role z × (p.is z ≡ true)) ⊎ (IsForced role z ⊎ ((marked z i || risen z held) ≡ true))

comes_held : (k : Holder) (role : Role) (z : Side) (p : Place) (h : Head) (held : Entries) → (sinks k z ≡ true → TakesDown role z) → (forced k z ≡ true → IsForced role z) → (held_place k h held p).is z ≡ true → Comes role z p h held
comes_held k role z p h held sink force e = elim (or_cases (sinks k z && p.is z) _ e) [
  | inl u ↦ (let v = and_parts (sinks k z) (p.is z) u in inl (sink v.0, v.1))
  | inr u ↦ elim (or_cases (forced k z) _ u) [ inl v ↦ inr (inl (force v)) | inr v ↦ inr (inr v) ]
]

left_sinks : (z : Side) (f : FormulaTree) (env : Bindings) → sinks (Split f env) z ≡ true → TakesDown left_region z
left_sinks Ending f env e = tt
left_sinks Going f env e = absurd (false≢true e)

project_sinks : (z : Side) (f : FormulaTree) (env : Bindings) → sinks (SplitProject f env) z ≡ true → TakesDown left_region z
project_sinks Ending f env e = tt
project_sinks Going f env e = absurd (false≢true e)

inner_sinks : (z : Side) (f : FormulaTree) (env : Bindings) → sinks (Running f env) z ≡ true → TakesDown inner_region z
inner_sinks Ending f env e = tt
inner_sinks Going f env e = absurd (false≢true e)

closed_forced : (z : Side) → forced Closed z ≡ true → IsForced closed_region z
closed_forced Ending e = tt
closed_forced Going e = absurd (false≢true e)

comes_from : (z : Side) (p : Place) (es : Entries) (role : Role) (i : Head) (held : Entries) (in_it : HoldsRegion es role i held) → (place_through in_it p).is z ≡ true → Comes role z p i held
comes_from z p _ _ _ _ (by_split {f = f} {env = env} {h = h} {held = held}) e = comes_held (Split f env) left_region z p h held (left_sinks z f env) (λ u. absurd (false≢true u)) e
comes_from z p _ _ _ _ (by_split_project {f = f} {env = env} {h = h} {held = held}) e = comes_held (SplitProject f env) left_region z p h held (project_sinks z f env) (λ u. absurd (false≢true u)) e
comes_from z p _ _ _ _ (by_closed {h = h} {held = held}) e = comes_held Closed closed_region z p h held (λ u. absurd (false≢true u)) (closed_forced z) e
comes_from z p _ _ _ _ (by_opened {f = f} {env = env} {h = h} {held = held}) e = comes_held (Opened f env) outer_region z p h held (λ u. tt) (λ u. absurd (false≢true u)) e
comes_from z p _ _ _ _ (by_running {f = f} {env = env} {h = h} {held = held}) e = comes_held (Running f env) inner_region z p h held (inner_sinks z f env) (λ u. absurd (false≢true u)) e
comes_from z p _ _ _ _ (by_running_second {g = g} {second = second}) e = elim (or_cases (p.is z) _ e) [ inl u ↦ inl (tt, u) | inr u ↦ inr (inr u) ]
comes_from z p _ role i held (past_leaf in_it) e = comes_from z p _ role i held in_it e
comes_from z p _ role i held (past_node in_it) e = comes_from z p _ role i held in_it e

-- what an item of a tail holds, an item of the whole holds
abbrev pub held_by : {left es : Entries} {role : Role} {i : Head} {held : Entries} → IsTail left es → HoldsRegion left role i held → HoldsRegion es role i held
held_by all_entries in_it = in_it
held_by (after_leaf s) in_it = held_by s (past_leaf in_it)
held_by (after_node s) in_it = held_by s (past_node in_it)

module _ (s : Scene) where
  -- the rules by roles
  rule_up : (role : Role) (z : Side) (h i : Head) (es held : Entries) (x : LiveRegion s h es) (in_it : HoldsRegion es role i held) → GivesUp role z → HasStatus s z i held (the_held x in_it) → HasStatus s z h es x
  rule_up left_region Going h i es held x in_it u d = left_goes x in_it d
  rule_up inner_region Going h i es held x in_it u d = inner_goes x in_it d
  rule_up outer_region z h i es held x in_it u d = outer_gives x in_it d
  rule_up y z h i es held x in_it u d = absurd u

  rule_down : (role : Role) (z : Side) (h i : Head) (es held : Entries) (x : LiveRegion s h es) (in_it : HoldsRegion es role i held) → TakesDown role z → HasStatus s z h es x → HasStatus s z i held (the_held x in_it)
  rule_down left_region Ending h i es held x in_it u d = left_ends x in_it d
  rule_down inner_region Ending h i es held x in_it u d = inner_ends x in_it d
  rule_down outer_region z h i es held x in_it u d = outer_takes x in_it d
  rule_down y z h i es held x in_it u d = absurd u

  rule_forced : (role : Role) (z : Side) (h i : Head) (es held : Entries) (x : LiveRegion s h es) (in_it : HoldsRegion es role i held) → IsForced role z → HasStatus s z i held (the_held x in_it)
  rule_forced closed_region Ending h i es held x in_it u = closed_ends x in_it
  rule_forced y z h i es held x in_it u = absurd u

  rule_marked : (z : Side) (h : Head) (es : Entries) (x : LiveRegion s h es) → marked z h ≡ true → HasStatus s z h es x
  rule_marked Ending h es x e = marked_to_end x e
  rule_marked Going h es x e = marked_to_go x e

  -- what rises is so by the rules
  module _ (z : Side) (id : ℕ) (h : Head) (held : Entries) (g : Head) (second rest : Entries) where
    first_held : (k : Holder) → rises k z ≡ true → (role : Role) × HoldsRegion (node id k h held g second rest) role h held × GivesUp role z
    first_held (Split f env) e = (left_region, by_split, goes_up z f env e)
      where
        goes_up : (y : Side) (f : FormulaTree) (env : Bindings) → rises (Split f env) y ≡ true → GivesUp left_region y
        goes_up Ending f env e = false≢true e
        goes_up Going f env e = tt
    first_held (SplitProject f env) e = (left_region, by_split_project, goes_up z f env e)
      where
        goes_up : (y : Side) (f : FormulaTree) (env : Bindings) → rises (SplitProject f env) y ≡ true → GivesUp left_region y
        goes_up Ending f env e = false≢true e
        goes_up Going f env e = tt
    first_held Closed e = absurd (false≢true e)
    first_held (Opened f env) e = (outer_region, by_opened, tt)
    first_held (Running f env) e = (inner_region, by_running, goes_up z f env e)
      where
        goes_up : (y : Side) (f : FormulaTree) (env : Bindings) → rises (Running f env) y ≡ true → GivesUp inner_region y
        goes_up Ending f env e = false≢true e
        goes_up Going f env e = tt

    second_held : (k : Holder) → second_lives k ≡ true → HoldsRegion (node id k h held g second rest) outer_region g second
    second_held (Running f env) e = by_running_second
    second_held k e = absurd (false≢true e)

  rises_by_rules : (left : Entries) (z : Side) (h : Head) (es : Entries) (x : LiveRegion s h es) → IsTail left es → risen z left ≡ true → HasStatus s z h es x
  rises_by_rules none z h es x sfx e = absurd (false≢true e)
  rises_by_rules (leaf id l rest) z h es x sfx e = rises_by_rules rest z h es x (after_leaf sfx) e
  rises_by_rules (node id k i held g second rest) z h es x sfx e = elim (or_cases (rises k z && (marked z i || risen z held)) _ e) [
    | inl u ↦ (let v = and_parts (rises k z) (marked z i || risen z held) u in
        let r = first_held z id i held g second rest k v.0 in
        let y = the_held x (held_by sfx r.1) in
        rule_up r.0 z h i es held x (held_by sfx r.1) r.2 (elim (or_cases (marked z i) (risen z held) v.1) [ inl m ↦ rule_marked z i held y m | inr q ↦ rises_by_rules held z i held y all_entries q ]))
    | inr u ↦ elim (or_cases (second_lives k && (marked z g || risen z second)) _ u) [
      | inl v ↦ (let w = and_parts (second_lives k) (marked z g || risen z second) v in
          let in_it = held_by sfx (second_held z id i held g second rest k w.0) in
          let y = the_held x in_it in
          outer_gives x in_it (elim (or_cases (marked z g) (risen z second) w.1) [ inl m ↦ rule_marked z g second y m | inr q ↦ rises_by_rules second z g second y all_entries q ]))
      | inr v ↦ rises_by_rules rest z h es x (after_node sfx) v
    ]
  ]

  own_by_rules : (z : Side) (h : Head) (es : Entries) (x : LiveRegion s h es) → (marked z h || risen z es) ≡ true → HasStatus s z h es x
  own_by_rules z h es x e = elim (or_cases (marked z h) (risen z es) e) [ inl m ↦ rule_marked z h es x m | inr q ↦ rises_by_rules es z h es x all_entries q ]

  -- what is computed is so by the rules
  computed_by_rules : (z : Side) (h : Head) (es : Entries) (x : LiveRegion s h es) → (computed_place x).is z ≡ true → HasStatus s z h es x
  computed_by_rules z _ _ the_root e = own_by_rules z s.root.head s.root.entries the_root e
  computed_by_rules z _ _ (the_held {h = h} {es = es} {role = role} {i = i} {held = held} x in_it) e = elim (comes_from z (computed_place x) es role i held in_it e) [
    | inl u ↦ rule_down role z h i es held x in_it u.0 (computed_by_rules z h es x u.1)
    | inr u ↦ elim u [ inl f ↦ rule_forced role z h i es held x in_it f | inr o ↦ own_by_rules z i held (the_held x in_it) o ]
  ]

  own_so : (z : Side) (h : Head) (es : Entries) (x : LiveRegion s h es) → (marked z h || risen z es) ≡ true → (computed_place x).is z ≡ true
  own_so z _ _ the_root e = e
  own_so z _ _ (the_held {es = es} {role = role} {i = i} {held = held} x in_it) e = held_so z (computed_place x) es role i held in_it e

  -- a region that makes the one around it so
  up_so : (role : Role) (z : Side) (h i : Head) (es held : Entries) (x : LiveRegion s h es) (in_it : HoldsRegion es role i held) → GivesUp role z
      → (IsForced role z → ⊥) → (computed_place (the_held x in_it)).is z ≡ true → (computed_place x).is z ≡ true
  up_so role z h i es held x in_it up free e = elim (comes_from z (computed_place x) es role i held in_it e) [
    | inl u ↦ u.1
    | inr u ↦ elim u [ inl f ↦ absurd (free f) | inr o ↦ own_so z h es x (or_right (marked z h) _ (given_up z es role i held in_it up o)) ]
  ]

  -- and what is so by the rules is computed
  rules_computed : (z : Side) (h : Head) (es : Entries) (x : LiveRegion s h es) → HasStatus s z h es x → (computed_place x).is z ≡ true
  rules_computed _ _ _ _ (marked_to_end {h = h} {es = es} x m) = own_so Ending h es x (or_left h.ends _ m)
  rules_computed _ _ _ _ (left_ends {h = h} {i = i} {es = es} {held = held} x in_it d) = taken_down Ending (computed_place x) es left_region i held in_it tt (rules_computed Ending h es x d)
  rules_computed _ _ _ _ (inner_ends {h = h} {i = i} {es = es} {held = held} x in_it d) = taken_down Ending (computed_place x) es inner_region i held in_it tt (rules_computed Ending h es x d)
  rules_computed _ _ _ _ (closed_ends {h = h} {i = i} {es = es} {held = held} x in_it) = forced_so Ending (computed_place x) es closed_region i held in_it tt
  rules_computed _ _ _ _ (marked_to_go {h = h} {es = es} x m) = own_so Going h es x (or_left h.goes _ m)
  rules_computed _ _ _ _ (left_goes {h = h} {i = i} {es = es} {held = held} x in_it d) = up_so left_region Going h i es held x in_it tt (λ f. f) (rules_computed Going i held (the_held x in_it) d)
  rules_computed _ _ _ _ (inner_goes {h = h} {i = i} {es = es} {held = held} x in_it d) = up_so inner_region Going h i es held x in_it tt (λ f. f) (rules_computed Going i held (the_held x in_it) d)
  rules_computed _ _ _ _ (outer_takes {z = z} {h = h} {i = i} {es = es} {held = held} x in_it d) = taken_down z (computed_place x) es outer_region i held in_it tt (rules_computed z h es x d)
  rules_computed _ _ _ _ (outer_gives {z = z} {h = h} {i = i} {es = es} {held = held} x in_it d) = up_so outer_region z h i es held x in_it tt (λ f. f) (rules_computed z i held (the_held x in_it) d)

pub status_is_least : StatusIsLeast
status_is_least s h es x z = (computed_by_rules s z h es x, rules_computed s z h es x)
