-- An item of a live region is picked at the region's place; and the end that it waits for is that of a live region.
use Rattle.std.proofs.Common.{◌≡◌, ℕ, suc, ◌+◌, ◌≤◌, true, false, ◌&&◌, eqb, List, Option, Some, None, refl, sym, ◌∙◌, subst, arith}
use Rattle.std.proofs.lemmas.Bool.{cond_both, or_left, or_right, and_parts, eq-eqb, cond-true}
use Rattle.tp_value.specs.declared.path.Fact.{Fact}
use Rattle.tp_store.specs.Known.{NoClash}
use Rattle.tp_scene.specs.declared.answer.Cell.{Cell}
use Rattle.tp_scene.specs.declared.answer.Cell.TheVariants.{Part, End}
use Rattle.tp_scene.specs.Scene.{Head, Split, SplitProject, Closed, Opened, Running, Entries, none, leaf, node, Scene, second_lives, has, Place, root_place, held_place, second_place}
use Rattle.tp_scene.specs.Regions.{Role, HoldsRegion, by_split, by_split_project, by_closed, by_opened, by_running, by_running_second, past_leaf, past_node, LiveRegion, the_root, the_held, IsTail, all_entries, after_leaf, after_node}
use Rattle.tp_scene.specs.RegionLaws.{place_through, computed_place}
use Rattle.tp_scene.specs.Step.{PickOutcome, reduces, waits, rests, clashes, misses, passes, Numbers, leaf_step, holder_step}
use Rattle.tp_scene.specs.Pick.{Setting, pick, numbers_of}
use Rattle.tp_scene.specs.Rest.{is_unsettled, holds_back}
use Rattle.tp_scene.specs.Fits.{item_numbers}
use Rattle.tp_scene.specs.Seen.{PicksSeePlaces, regions_around, NamesCell, WaitedEndsAreLive}
use Rattle.tp_scene.proofs.Frame.{region}
use Rattle.tp_scene.proofs.Risen.{pick_here}
use Rattle.tp_scene.proofs.Count.{numbers_once}
use Rattle.tp_scene.proofs.PutNumbers.{items, items_leaf, items_node}
use Rattle.tp_scene.proofs.NamedItem.{LeadsTo, to_rest_leaf, to_rest_node, to_held, to_second}
use Rattle.tp_scene.proofs.WaitRows.{IsOpenAt, ForOther, Answers, leaf_answers, holder_answers}
use Rattle.tp_scene.proofs.StatusRules.{held_by}
use Rattle.tp_scene.proofs.KnownEnds.{number_in}
use Rattle.tp_scene.proofs.KnownStays.{holding, holding_second, place_by}

-- an item of a held region is an item of the entries around
pub lives_around : (t : ℕ) (es : Entries) (role : Role) (i : Head) (held : Entries) → HoldsRegion es role i held → has t held ≡ true → has t es ≡ true
lives_around t _ _ _ _ (by_split {id = id} {held = held}) e = or_right (eqb id t) _ (or_left (has t held) _ e)
lives_around t _ _ _ _ (by_split_project {id = id} {held = held}) e = or_right (eqb id t) _ (or_left (has t held) _ e)
lives_around t _ _ _ _ (by_closed {id = id} {held = held}) e = or_right (eqb id t) _ (or_left (has t held) _ e)
lives_around t _ _ _ _ (by_opened {id = id} {held = held}) e = or_right (eqb id t) _ (or_left (has t held) _ e)
lives_around t _ _ _ _ (by_running {id = id} {held = held} {second = second}) e = or_right (eqb id t) _ (or_right (has t second) _ (or_left (has t held) _ e))
lives_around t _ _ _ _ (by_running_second {id = id} {second = second}) e = or_right (eqb id t) _ (or_left (has t second) _ e)
lives_around t _ role i held (past_leaf {id = id} {rest = rest} in_it) e = or_right (eqb id t) _ (lives_around t rest role i held in_it e)
lives_around t _ role i held (past_node {id = id} {k = k} {first = first} {second = second} {rest = rest} in_it) e =
    or_right (eqb id t) _ (or_right (second_lives k && has t second) _ (or_right (has t first) _ (lives_around t rest role i held in_it e)))

module _ (w : Setting) (facts : List Fact) (t : ℕ) (n : Numbers) where
  joined : (es fs gs : Entries) (p q r : Place) → LeadsTo w facts t n es p fs q → LeadsTo w facts t n fs q gs r → LeadsTo w facts t n es p gs r
  joined es fs gs p q r a b = record { lives = a.lives; once = b.once; same = a.same ∙ b.same }

  -- into a region that an item holds
  to_region : (es : Entries) (role : Role) (i : Head) (held : Entries) (in_it : HoldsRegion es role i held) (p : Place) → items t es ≤ 1 → has t held ≡ true → LeadsTo w facts t n es p held (place_through in_it p)
  to_region _ _ _ _ (by_split {id = id} {f = f} {env = env} {h = h} {g = g} {held = held} {second = second} {rest = rest}) p most lives = to_held w facts t n id (Split f env) h held g second rest p most lives
  to_region _ _ _ _ (by_split_project {id = id} {f = f} {env = env} {h = h} {g = g} {held = held} {second = second} {rest = rest}) p most lives = to_held w facts t n id (SplitProject f env) h held g second rest p most lives
  to_region _ _ _ _ (by_closed {id = id} {h = h} {g = g} {held = held} {second = second} {rest = rest}) p most lives = to_held w facts t n id Closed h held g second rest p most lives
  to_region _ _ _ _ (by_opened {id = id} {f = f} {env = env} {h = h} {g = g} {held = held} {second = second} {rest = rest}) p most lives = to_held w facts t n id (Opened f env) h held g second rest p most lives
  to_region _ _ _ _ (by_running {id = id} {f = f} {env = env} {h = h} {g = g} {held = held} {second = second} {rest = rest}) p most lives = to_held w facts t n id (Running f env) h held g second rest p most lives
  to_region _ _ _ _ (by_running_second {id = id} {f = f} {env = env} {h = h} {g = g} {held = held} {second = second} {rest = rest}) p most lives = to_second w facts t n id (Running f env) h held g second rest p most refl lives
  to_region _ role i held (past_leaf {id = id} {l = l} {rest = rest} in_it) p most lives =
      let num = items_leaf t id l rest in
      let deeper = to_region rest role i held in_it p (omega (arith, most, num)) lives in
      joined (leaf id l rest) rest held p p (place_through in_it p) (to_rest_leaf w facts t n id l rest p deeper.lives most) deeper
  to_region _ role i held (past_node {id = id} {k = k} {i = h} {g = g} {first = first} {second = second} {rest = rest} in_it) p most lives =
      let num = items_node t id k h first g second rest in
      let deeper = to_region rest role i held in_it p (omega (arith, most, num)) lives in
      joined (node id k h first g second rest) rest held p p (place_through in_it p) (to_rest_node w facts t n id k h first g second rest p most deeper.lives) deeper

  -- to a tail
  to_tail : (left es : Entries) → IsTail left es → (p : Place) → items t es ≤ 1 → has t left ≡ true → LeadsTo w facts t n es p left p
  to_tail _ _ (all_entries {es = es}) p most lives = record { lives = lives; once = most; same = refl }
  to_tail _ _ (after_leaf {id = id} {l = l} {rest = rest} {es = es} tail) p most lives =
      let before = to_tail (leaf id l rest) es tail p most (or_right (eqb id t) (has t rest) lives) in
      joined es (leaf id l rest) rest p p p before (to_rest_leaf w facts t n id l rest p lives before.once)
  to_tail _ _ (after_node {id = id} {k = k} {h = h} {g = g} {held = held} {second = second} {rest = rest} {es = es} tail) p most lives =
      let before = to_tail (node id k h held g second rest) es tail p most (or_right (eqb id t) _ (or_right (second_lives k && has t second) _ (or_right (has t held) _ lives))) in
      joined es (node id k h held g second rest) rest p p p before (to_rest_node w facts t n id k h held g second rest p before.once lives)

  -- from the root to a live region
  from_root : (s : Scene) (h : Head) (es : Entries) (x : LiveRegion s h es) → items t s.root.entries ≤ 1 → has t es ≡ true → LeadsTo w facts t n s.root.entries (root_place s.root) es (computed_place x)
  from_root s _ _ the_root most lives = record { lives = lives; once = most; same = refl }
  from_root s _ _ (the_held {h = h} {es = es} {role = role} {i = i} {held = held} x in_it) most lives =
      let around = from_root s h es x most (lives_around t es role i held in_it lives) in
      joined s.root.entries es held (root_place s.root) (computed_place x) (place_through in_it (computed_place x)) around (to_region es role i held in_it (computed_place x) around.once lives)

  -- from the root to a tail of a live region's entries
  pub to_item : (s : Scene) (h : Head) (es left : Entries) (x : LiveRegion s h es) → IsTail left es → items t s.root.entries ≤ 1 → has t left ≡ true → (has t es ≡ true)
      → pick w facts t s.root.entries (root_place s.root) n ≡ pick w facts t left (computed_place x) n
  to_item s h es left x tail most lives there =
      let a = from_root s h es x most there in
      let b = to_tail left es tail (computed_place x) a.once lives in
      a.same ∙ b.same

-- an item of a tail is an item of the whole
pub lives_whole : (t : ℕ) (left es : Entries) → IsTail left es → has t left ≡ true → has t es ≡ true
lives_whole t _ _ all_entries e = e
lives_whole t _ _ (after_leaf {id = id} {l = l} {rest = rest} {es = es} tail) e = lives_whole t (leaf id l rest) es tail (or_right (eqb id t) (has t rest) e)
lives_whole t _ _ (after_node {id = id} {k = k} {h = h} {g = g} {held = held} {second = second} {rest = rest} {es = es} tail) e =
    lives_whole t (node id k h held g second rest) es tail (or_right (eqb id t) _ (or_right (second_lives k && has t second) _ (or_right (has t held) _ e)))

pub picks_see_places : PicksSeePlaces
picks_see_places w kinds m sound h es x =
    let numbers = numbers_of m.scene m.store.variables in
    let facts = m.store.facts in
    let once = numbers_once m.scene.next_item (item_numbers m.scene.root.entries) sound.moment.items in
    record {
      leaves = λ t l rest tail.
          let is : eqb t t ≡ true = eq-eqb t t refl in
          let here : has t (leaf t l rest) ≡ true = or_left (eqb t t) (has t rest) is in
          to_item w facts t numbers m.scene h es (leaf t l rest) x tail (once.once t) here (lives_whole t (leaf t l rest) es tail here)
          ∙ cond-true (eqb t t) (leaf_step w.defs w.inputs w.state facts l (computed_place x) numbers) (pick w facts t rest (computed_place x) numbers) is;
      holders = λ t k i held g second rest tail.
          let is : eqb t t ≡ true = eq-eqb t t refl in
          let here : has t (node t k i held g second rest) ≡ true = or_left (eqb t t) _ is in
          to_item w facts t numbers m.scene h es (node t k i held g second rest) x tail (once.once t) here (lives_whole t (node t k i held g second rest) es tail here)
          ∙ pick_here w facts t t k i held g second rest (computed_place x) numbers is;
    }

deep_through : (p : Place) (es : Entries) (role : Role) (i : Head) (held : Entries) (in_it : HoldsRegion es role i held) → (place_through in_it p).depth ≡ p.depth + 1
deep_through p _ role i held (past_leaf in_it) = deep_through p _ role i held in_it
deep_through p _ role i held (past_node in_it) = deep_through p _ role i held in_it
deep_through p _ _ _ _ x = refl

deep_in : (s : Scene) (h : Head) (es : Entries) (x : LiveRegion s h es) → regions_around x ≡ (computed_place x).depth
deep_in s _ _ the_root = refl
deep_in s _ _ (the_held {h = h} {es = es} {role = role} {i = i} {held = held} x in_it) =
    let a = deep_in s h es x in
    let b = deep_through (computed_place x) es role i held in_it in
    let e : suc (regions_around x) ≡ (place_through in_it (computed_place x)).depth = omega (arith, a, b) in
    e

module _ (w : Setting) (facts : List Fact) (apart : NoClash facts) (s : Scene) (t : ℕ) (n : Numbers) where
  -- the cells that an outcome waits for are paths, or ends of live regions
  abbrev Named : PickOutcome → Type 0
  Named (reduces r) = Unit {0}
  Named (waits first other) = NamesCell s first × ForOther (NamesCell s) other
  Named rests = Unit {0}
  Named (clashes c) = Unit {0}
  Named (misses port) = Unit {0}
  Named (passes k) = Unit {0}

  cell_named : (h : Head) (es : Entries) (x : LiveRegion s h es) (c : Cell) → IsOpenAt facts (computed_place x) c → NamesCell s c
  cell_named h es x (Part q) u = tt
  cell_named h es x (End number depth) u = record { head = h; entries = es; region = x; numbered = sym (number_in s h es x) ∙ u.0; deep = deep_in s h es x ∙ u.3 }

  other_named : (h : Head) (es : Entries) (x : LiveRegion s h es) (other : Option Cell) → ForOther (IsOpenAt facts (computed_place x)) other → ForOther (NamesCell s) other
  other_named h es x None u = tt
  other_named h es x (Some c) u = cell_named h es x c u

  answers_named : (Idle : Type 0) (h : Head) (es : Entries) (x : LiveRegion s h es) (o : PickOutcome) → Answers facts apart Idle (computed_place x) o → Named o
  answers_named Idle h es x (waits first other) u = (cell_named h es x first u.0, other_named h es x other u.1)
  answers_named Idle h es x o u = tt

  pub pick_named : (left : Entries) (h : Head) (es : Entries) (x : LiveRegion s h es) → IsTail left es → Named (pick w facts t left (computed_place x) n)
  pick_named none h es x tail = tt
  pick_named (leaf id l rest) h es x tail =
      cond_both (eqb id t) (leaf_step w.defs w.inputs w.state facts l (computed_place x) n) (pick w facts t rest (computed_place x) n) Named
      (λ _. answers_named (is_unsettled l ≡ false) h es x _ (leaf_answers facts apart w.defs w.inputs w.state l (computed_place x) n))
      (λ _. pick_named rest h es x (after_leaf tail))
  pick_named (node id k i held g second rest) h es x tail =
      let a = holding k id i held g second rest in
      let inner = the_held x (held_by tail a.in_it) in
      let same : computed_place inner ≡ held_place k i held (computed_place x) = place_by tail a.in_it (computed_place x) ∙ a.place (computed_place x) in
      cond_both (eqb id t) (holder_step w.defs w.inputs w.state facts k (region i held) (region g second) (held_place k i held (computed_place x)) n) _ Named
      (λ _. subst (λ (p : Place). Named (holder_step w.defs w.inputs w.state facts k (region i held) (region g second) p n)) same
      (answers_named (holds_back k (computed_place inner) ≡ false) i held inner _ (holder_answers facts apart w.defs w.inputs w.state k (region i held) (region g second) (computed_place inner) n)))
      (λ _. cond_both (second_lives k && has t second) (pick w facts t second (second_place g second (computed_place x)) n) _ Named
      (λ l. let b = holding_second k id i held g second rest (and_parts (second_lives k) (has t second) l).0 in
      let outer = the_held x (held_by tail b.in_it) in
      let other : computed_place outer ≡ second_place g second (computed_place x) = place_by tail b.in_it (computed_place x) ∙ b.place (computed_place x) in
      subst (λ (p : Place). Named (pick w facts t second p n)) other (pick_named second g second outer all_entries))
      (λ _. cond_both (has t held) (pick w facts t held (held_place k i held (computed_place x)) n) (pick w facts t rest (computed_place x) n) Named
      (λ _. subst (λ (p : Place). Named (pick w facts t held p n)) same (pick_named held i held inner all_entries))
      (λ _. pick_named rest h es x (after_node tail))))

other_is : (s : Scene) (other : Option Cell) → ForOther (NamesCell s) other → (c : Cell) → other ≡ Some c → NamesCell s c
other_is s None u c e = absurd (cc)
other_is s (Some x) u c e = let same : x ≡ c = cc in subst (λ (y : Cell). NamesCell s y) same u

pub waited_ends_are_live : WaitedEndsAreLive
waited_ends_are_live w kinds m t first other sound e =
    let u = subst (λ (o : PickOutcome). Named w m.store.facts sound.store.no_clash m.scene t (numbers_of m.scene m.store.variables) o) e
    (pick_named w m.store.facts sound.store.no_clash m.scene t (numbers_of m.scene m.store.variables) m.scene.root.entries m.scene.root.head m.scene.root.entries the_root all_entries) in
    record { names_first = u.0; names_other = other_is m.scene other u.1 }
