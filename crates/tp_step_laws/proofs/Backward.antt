-- The live regions of a scene after an edit of a leaf, each by that of the scene before.
use Rattle.std.proofs.Common.{◌≡◌, ◌⊎◌, inl, inr, ℕ, suc, Bool, true, false, ◌&&◌, cond, eqb, Some, None, refl, ap, sym, ◌∙◌, subst}
use Rattle.std.proofs.lemmas.Bool.{cases_Bool, or_cases, or_left, or_right, or_parts, both_ways, false≢true, eq-eqb}
use Rattle.tp_scene.specs.Scene.{Side, Head, Leaf, Holder, Split, SplitProject, Closed, Opened, Running, Entries, none, leaf, node, new_head, second_lives, has, append, Scene, Place, root_place, held_place, second_place}
use Rattle.tp_scene.specs.Regions.{Role, HoldsRegion, by_split, by_split_project, by_closed, by_opened, by_running, by_running_second, past_leaf, past_node, LiveRegion, the_root, the_held, IsTail, all_entries, after_leaf, after_node}
use Rattle.tp_scene.specs.RegionLaws.{StartsWith, StandsLive}
use Rattle.tp_scene.specs.RegionLaws.{place_through, computed_place}
use Rattle.tp_scene.specs.Step.{Numbers}
use Rattle.tp_scene.proofs.Plain.{FreshLeaves}
use Rattle.tp_scene.proofs.KnownEnds.{number_in}
use Rattle.tp_step_laws.specs.Edits as E
use Rattle.tp_step_laws.specs.Edits.{Edit, sets, marks, head_after, leaf_after, edited, single, Thing, of_leaf, of_holder, occurs, At, this_leaf, this_node, in_first, in_second}
use Rattle.tp_step_laws.proofs.Bridge.{not_live}

-- what holds no region
abbrev pub IsLeaf : Thing → Type 0
IsLeaf (of_leaf l) = Unit {0}
IsLeaf (of_holder k held) = ⊥

-- Said of an item that stands at one place.
module _ (t : ℕ) where
  -- it isn't one that holds a region
  abbrev pub NoHolder : Entries → Type 0
  NoHolder none = Unit {0}
  NoHolder (leaf id l rest) = NoHolder rest
  NoHolder (node id k h held g second rest) = (eqb id t ≡ false) × NoHolder held × NoHolder second × NoHolder rest

  absent_holder : (es : Entries) → occurs t es ≡ false → NoHolder es
  absent_holder none a = tt
  absent_holder (leaf id l rest) a = absent_holder rest (or_parts (eqb id t) _ a).1
  absent_holder (node id k h held g second rest) a =
      let d = or_parts (eqb id t) _ a in let c = or_parts (occurs t held) _ d.1 in let b = or_parts (occurs t second) (occurs t rest) c.1 in
      (d.0, absent_holder held c.0, absent_holder second b.0, absent_holder rest b.1)

  pub no_holder : (es : Entries) (x : Thing) (q p : Place) → IsLeaf x → At t x q es p → NoHolder es
  no_holder none x q p is at = elim at [ ]
  no_holder (leaf id l rest) x q p is (this_leaf a b) = absent_holder rest b
  no_holder (leaf id l rest) x q p is (E.past_leaf a at) = no_holder rest x q p is at
  no_holder (node id k h held g second rest) x q p is (this_node a b d f) = absurd is
  no_holder (node id k h held g second rest) x q p is (in_first a at d f) = (a, no_holder held x q (held_place k h held p) is at, absent_holder second d, absent_holder rest f)
  no_holder (node id k h held g second rest) x q p is (in_second a l b at f) = (a, absent_holder held b, no_holder second x q (second_place g second p) is at, absent_holder rest f)
  no_holder (node id k h held g second rest) x q p is (E.past_node a b d at) = (a, absent_holder held b, absent_holder second d, no_holder rest x q p is at)

  -- it is an item of the region itself
  abbrev pub StandsHere : Entries → Type 0
  StandsHere none = ⊥
  StandsHere (leaf id l rest) = (eqb id t ≡ true) ⊎ StandsHere rest
  StandsHere (node id k h held g second rest) = (eqb id t ≡ true) ⊎ StandsHere rest

  here_lives : (es : Entries) → StandsHere es → has t es ≡ true
  here_lives none x = absurd x
  here_lives (leaf id l rest) (inl e) = or_left (eqb id t) _ e
  here_lives (leaf id l rest) (inr x) = or_right (eqb id t) _ (here_lives rest x)
  here_lives (node id k h held g second rest) (inl e) = or_left (eqb id t) _ e
  here_lives (node id k h held g second rest) (inr x) = or_right (eqb id t) _ (or_right (second_lives k && has t second) _ (or_right (has t held) _ (here_lives rest x)))

  -- what stands nowhere isn't live
  gone : {X : Type 0} → (es : Entries) → has t es ≡ true → occurs t es ≡ false → X
  gone es e a = absurd (both_ways (has t es) (not_live t es a) e)

  here_place : (es : Entries) (x : Thing) (q p : Place) → StandsHere es → At t x q es p → q ≡ p
  here_place none x q p here at = absurd here
  here_place (leaf id l rest) x q p here (this_leaf a b) = refl
  here_place (leaf id l rest) x q p (inl e) (E.past_leaf a at) = absurd (both_ways (eqb id t) a e)
  here_place (leaf id l rest) x q p (inr y) (E.past_leaf a at) = here_place rest x q p y at
  here_place (node id k h held g second rest) x q p here (this_node a b d f) = refl
  here_place (node id k h held g second rest) x q p (inl e) (in_first a at d f) = absurd (both_ways (eqb id t) a e)
  here_place (node id k h held g second rest) x q p (inr y) (in_first a at d f) = gone rest (here_lives rest y) f
  here_place (node id k h held g second rest) x q p (inl e) (in_second a l b at f) = absurd (both_ways (eqb id t) a e)
  here_place (node id k h held g second rest) x q p (inr y) (in_second a l b at f) = gone rest (here_lives rest y) f
  here_place (node id k h held g second rest) x q p (inl e) (E.past_node a b d at) = absurd (both_ways (eqb id t) a e)
  here_place (node id k h held g second rest) x q p (inr y) (E.past_node a b d at) = here_place rest x q p y at

  lives_first : (k : Holder) (id : ℕ) (h : Head) (held : Entries) (g : Head) (second rest : Entries) → has t held ≡ true → has t (node id k h held g second rest) ≡ true
  lives_first k id h held g second rest e = or_right (eqb id t) _ (or_right (second_lives k && has t second) _ (or_left (has t held) _ e))

  -- what lives in a region that an item holds
  lives_around : (es : Entries) (role : Role) (i : Head) (held : Entries) → HoldsRegion es role i held → has t held ≡ true → has t es ≡ true
  lives_around _ _ _ _ (by_split {id = id} {f = f} {env = env} {h = h} {g = g} {held = held} {second = second} {rest = rest}) e = lives_first (Split f env) id h held g second rest e
  lives_around _ _ _ _ (by_split_project {id = id} {f = f} {env = env} {h = h} {g = g} {held = held} {second = second} {rest = rest}) e = lives_first (SplitProject f env) id h held g second rest e
  lives_around _ _ _ _ (by_closed {id = id} {h = h} {g = g} {held = held} {second = second} {rest = rest}) e = lives_first Closed id h held g second rest e
  lives_around _ _ _ _ (by_opened {id = id} {f = f} {env = env} {h = h} {g = g} {held = held} {second = second} {rest = rest}) e = lives_first (Opened f env) id h held g second rest e
  lives_around _ _ _ _ (by_running {id = id} {f = f} {env = env} {h = h} {g = g} {held = held} {second = second} {rest = rest}) e = lives_first (Running f env) id h held g second rest e
  lives_around _ _ _ _ (by_running_second {id = id} {second = second}) e = or_right (eqb id t) _ (or_left (has t second) _ e)
  lives_around _ role i held (past_leaf {id = id} in_it) e = or_right (eqb id t) _ (lives_around _ role i held in_it e)
  lives_around _ role i held (past_node {id = id} {k = k} {first = first} {second = second} in_it) e = or_right (eqb id t) _ (or_right (second_lives k && has t second) _ (or_right (has t first) _ (lives_around _ role i held in_it e)))

  -- stands in there
  at_first : (k : Holder) (id : ℕ) (h : Head) (held : Entries) (g : Head) (second rest : Entries) (x : Thing) (q p : Place) → has t held ≡ true → At t x q (node id k h held g second rest) p → At t x q held (held_place k h held p)
  at_first k id h held g second rest x q p e (this_node a b d f) = gone held e b
  at_first k id h held g second rest x q p e (in_first a at d f) = at
  at_first k id h held g second rest x q p e (in_second a l b at f) = gone held e b
  at_first k id h held g second rest x q p e (E.past_node a b d at) = gone held e b

  at_beside : (k : Holder) (id : ℕ) (h : Head) (held : Entries) (g : Head) (second rest : Entries) (x : Thing) (q p : Place) → has t second ≡ true → At t x q (node id k h held g second rest) p → At t x q second (second_place g second p)
  at_beside k id h held g second rest x q p e (this_node a b d f) = gone second e d
  at_beside k id h held g second rest x q p e (in_first a at d f) = gone second e d
  at_beside k id h held g second rest x q p e (in_second a l b at f) = at
  at_beside k id h held g second rest x q p e (E.past_node a b d at) = gone second e d

  at_later : (k : Holder) (id : ℕ) (h : Head) (held : Entries) (g : Head) (second rest : Entries) (x : Thing) (q p : Place) → has t rest ≡ true → At t x q (node id k h held g second rest) p → At t x q rest p
  at_later k id h held g second rest x q p e (this_node a b d f) = gone rest e f
  at_later k id h held g second rest x q p e (in_first a at d f) = gone rest e f
  at_later k id h held g second rest x q p e (in_second a l b at f) = gone rest e f
  at_later k id h held g second rest x q p e (E.past_node a b d at) = at

  at_after : (id : ℕ) (l : Leaf) (rest : Entries) (x : Thing) (q p : Place) → has t rest ≡ true → At t x q (leaf id l rest) p → At t x q rest p
  at_after id l rest x q p e (this_leaf a b) = gone rest e b
  at_after id l rest x q p e (E.past_leaf a at) = at

  at_inside : (x : Thing) (q p : Place) (es : Entries) (role : Role) (i : Head) (held : Entries) (in_it : HoldsRegion es role i held) → has t held ≡ true → At t x q es p → At t x q held (place_through in_it p)
  at_inside x q p _ _ _ _ (by_split {id = id} {f = f} {env = env} {h = h} {g = g} {held = held} {second = second} {rest = rest}) e at = at_first (Split f env) id h held g second rest x q p e at
  at_inside x q p _ _ _ _ (by_split_project {id = id} {f = f} {env = env} {h = h} {g = g} {held = held} {second = second} {rest = rest}) e at = at_first (SplitProject f env) id h held g second rest x q p e at
  at_inside x q p _ _ _ _ (by_closed {id = id} {h = h} {g = g} {held = held} {second = second} {rest = rest}) e at = at_first Closed id h held g second rest x q p e at
  at_inside x q p _ _ _ _ (by_opened {id = id} {f = f} {env = env} {h = h} {g = g} {held = held} {second = second} {rest = rest}) e at = at_first (Opened f env) id h held g second rest x q p e at
  at_inside x q p _ _ _ _ (by_running {id = id} {f = f} {env = env} {h = h} {g = g} {held = held} {second = second} {rest = rest}) e at = at_first (Running f env) id h held g second rest x q p e at
  at_inside x q p _ _ _ _ (by_running_second {id = id} {f = f} {env = env} {h = h} {g = g} {held = held} {second = second} {rest = rest}) e at = at_beside (Running f env) id h held g second rest x q p e at
  at_inside x q p _ role i held (past_leaf {id = id} {l = l} {rest = rest} in_it) e at = at_inside x q p rest role i held in_it e (at_after id l rest x q p (lives_around rest role i held in_it e) at)
  at_inside x q p _ role i held (past_node {id = id} {k = k} {i = j} {g = g} {first = first} {second = second} {rest = rest} in_it) e at = at_inside x q p rest role i held in_it e (at_later k id j first g second rest x q p (lives_around rest role i held in_it e) at)

  -- a live region in which it stands has the number of its place
  module _ (s : Scene) (x : Thing) (q : Place) (at : At t x q s.root.entries (root_place s.root)) where
    at_region : (h : Head) (es : Entries) (y : LiveRegion s h es) → has t es ≡ true → At t x q es (computed_place y)
    at_region _ _ the_root e = at
    at_region _ _ (the_held {h = h} {es = es} {role = role} {i = i} {held = held} y in_it) e = at_inside x q (computed_place y) es role i held in_it e (at_region h es y (lives_around es role i held in_it e))

    pub home_number : (h : Head) (es : Entries) (y : LiveRegion s h es) → StandsHere es → h.number ≡ q.region
    home_number h es y here = sym (number_in s h es y) ∙ ap (λ (p : Place). p.region) (sym (here_place es x q (computed_place y) here (at_region h es y (here_lives es here))))

  starts_here : (tail : Entries) → StartsWith t tail → StandsHere tail
  starts_here none e = absurd e
  starts_here (leaf id l rest) e = inl (eq-eqb id t e)
  starts_here (node id k h held g second rest) e = inl (eq-eqb id t e)

  here_by : (tail es : Entries) → IsTail tail es → StandsHere tail → StandsHere es
  here_by _ _ all_entries x = x
  here_by _ es (after_leaf {id = id} {l = l} {rest = rest} s) x = here_by (leaf id l rest) es s (inr x)
  here_by _ es (after_node {id = id} {k = k} {h = h} {g = g} {held = held} {second = second} {rest = rest} s) x = here_by (node id k h held g second rest) es s (inr x)

  pub live_here : (s : Scene) (y : StandsLive s t) → StandsHere y.entries
  live_here s y = here_by y.tail y.entries y.is_tail (starts_here y.tail y.first)

  module _ (e : Edit) where
    sets_one : (z : Side) (id : ℕ) → sets z (cond (eqb id t) (Some e) None) ≡ true → eqb id t ≡ true
    sets_one z id x = go (eqb id t) x
      where
        go : (b : Bool) → sets z (cond b (Some e) None) ≡ true → b ≡ true
        go true x = refl
        go false x = absurd (false≢true x)

    -- it is the item that marks
    pub marks_stand : (z : Side) (es : Entries) → marks (single t e) z es ≡ true → StandsHere es
    marks_stand z none x = absurd (false≢true x)
    marks_stand z (leaf id l rest) x = elim (or_cases (sets z (single t e id)) _ x) [ inl a ↦ inl (sets_one z id a) | inr a ↦ inr (marks_stand z rest a) ]
    marks_stand z (node id k h held g second rest) x = elim (or_cases (sets z (single t e id)) _ x) [ inl a ↦ inl (sets_one z id a) | inr a ↦ inr (marks_stand z rest a) ]

    -- Said where the edit makes new leaves.
    module _ (n : Numbers) (to : ℕ) (fresh : FreshLeaves n 0 (e.make (new_head 0) none (new_head 0) none) to) where
      past_leaves : (from : ℕ) (xs ys : Entries) (role : Role) (i : Head) (held : Entries) → FreshLeaves n from xs to → HoldsRegion (append xs ys) role i held → HoldsRegion ys role i held
      past_leaves from none ys role i held a x = x
      past_leaves from (leaf id l xs) ys role i held a (past_leaf x) = past_leaves (suc from) xs ys role i held a.1 x
      past_leaves from (node id k h i g s xs) ys role j held a x = absurd a

      -- the region that it was
      pub record HeldBefore (es : Entries) (role : Role) (i : Head) (held : Entries) : Type 0 where
        pub head : Head
        pub entries : Entries
        pub holds : HoldsRegion es role head entries
        pub is_head : i ≡ head_after (single t e) entries head
        pub is_entries : held ≡ edited (single t e) entries
        pub plain : NoHolder entries

      was_past : (id : ℕ) (l : Leaf) (rest : Entries) (role : Role) (i : Head) (held : Entries) → HeldBefore rest role i held → HeldBefore (leaf id l rest) role i held
      was_past id l rest role i held x = record { head = x.head; entries = x.entries; holds = past_leaf x.holds; is_head = x.is_head; is_entries = x.is_entries; plain = x.plain }

      was_node : (id : ℕ) (k : Holder) (h h' : Head) (held held' : Entries) (g g' : Head) (second second' rest rest' : Entries) (role : Role) (i : Head) (inside : Entries)
          → h' ≡ head_after (single t e) held h → held' ≡ edited (single t e) held → NoHolder held → g' ≡ head_after (single t e) second g → second' ≡ edited (single t e) second → NoHolder second
          → (HoldsRegion rest' role i inside → HeldBefore rest role i inside) → HoldsRegion (node id k h' held' g' second' rest') role i inside → HeldBefore (node id k h held g second rest) role i inside
      was_node id _ h h' held held' g g' second second' rest rest' role i inside a b c d f v next by_split = record { head = h; entries = held; holds = by_split; is_head = a; is_entries = b; plain = c }
      was_node id _ h h' held held' g g' second second' rest rest' role i inside a b c d f v next by_split_project = record { head = h; entries = held; holds = by_split_project; is_head = a; is_entries = b; plain = c }
      was_node id _ h h' held held' g g' second second' rest rest' role i inside a b c d f v next by_closed = record { head = h; entries = held; holds = by_closed; is_head = a; is_entries = b; plain = c }
      was_node id _ h h' held held' g g' second second' rest rest' role i inside a b c d f v next by_opened = record { head = h; entries = held; holds = by_opened; is_head = a; is_entries = b; plain = c }
      was_node id _ h h' held held' g g' second second' rest rest' role i inside a b c d f v next by_running = record { head = h; entries = held; holds = by_running; is_head = a; is_entries = b; plain = c }
      was_node id _ h h' held held' g g' second second' rest rest' role i inside a b c d f v next by_running_second = record { head = g; entries = second; holds = by_running_second; is_head = d; is_entries = f; plain = v }
      was_node id k h h' held held' g g' second second' rest rest' role i inside a b c d f v next (past_node x) =
          let w = next x in
          record { head = w.head; entries = w.entries; holds = past_node w.holds; is_head = w.is_head; is_entries = w.is_entries; plain = w.plain }

      was : (es : Entries) (role : Role) (i : Head) (held : Entries) → NoHolder es → HoldsRegion (edited (single t e) es) role i held → HeldBefore es role i held
      was none role i held unheld x = elim x [ ]
      was (leaf id l rest) role i held unheld x = elim (cases_Bool (eqb id t)) [
        | inl c ↦ was_past id l rest role i held (was rest role i held unheld (past_leaves 0 (e.make (new_head 0) none (new_head 0) none) (edited (single t e) rest) role i held fresh (rw c at x)))
        | inr c ↦ was_past id l rest role i held (was rest role i held unheld (after (edited (single t e) rest) (rw c at x)))
      ]
        where
          after : (ys : Entries) → HoldsRegion (leaf id l ys) role i held → HoldsRegion ys role i held
          after ys (past_leaf y) = y
      was (node id k h i g s rest) role j held unheld x =
          was_node id k h (head_after (single t e) i h) i (edited (single t e) i) g (head_after (single t e) s g) s (edited (single t e) s) rest (edited (single t e) rest) role j held refl refl unheld.1 refl refl unheld.2 (was rest role j held unheld.3) (rw unheld.0 at x)

      -- and the live region that it was
      module _ (before after : Scene) (plain : NoHolder before.root.entries) (is_root : after.root ≡ record { head = head_after (single t e) before.root.entries before.root.head; entries = edited (single t e) before.root.entries }) where
        pub record RegionBefore (h : Head) (es : Entries) : Type 0 where
          pub head : Head
          pub entries : Entries
          pub region : LiveRegion before head entries
          pub is_head : h ≡ head_after (single t e) entries head
          pub is_entries : es ≡ edited (single t e) entries
          pub plain_there : NoHolder entries

        pub was_held : (h : Head) (es : Entries) (w : RegionBefore h es) (role : Role) (i : Head) (held : Entries) → HoldsRegion es role i held → HeldBefore w.entries role i held
        was_held h es w role i held in_it = was w.entries role i held w.plain_there (subst (λ (xs : Entries). HoldsRegion xs role i held) w.is_entries in_it)

        abbrev pub was_inside : (h : Head) (es : Entries) (w : RegionBefore h es) (role : Role) (i : Head) (held : Entries) → HoldsRegion es role i held → RegionBefore i held
        was_inside h es w role i held in_it =
            let f = was_held h es w role i held in_it in
            record { head = f.head; entries = f.entries; region = the_held w.region f.holds; is_head = f.is_head; is_entries = f.is_entries; plain_there = f.plain }

        abbrev pub was_live : (h : Head) (es : Entries) → LiveRegion after h es → RegionBefore h es
        was_live _ _ the_root = record {
          head = before.root.head;
          entries = before.root.entries;
          region = the_root;
          is_head = λ j. (is_root j).head;
          is_entries = λ j. (is_root j).entries;
          plain_there = plain;
        }
        was_live _ _ (the_held {h = h} {es = es} {role = role} {i = i} {held = held} y in_it) = was_inside h es (was_live h es y) role i held in_it
