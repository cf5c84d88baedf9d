-- Two items that both have a step, in either order.
use Rattle.std.proofs.Common.{◌≡◌, ◌⊎◌, inl, inr, ℕ, zero, suc, ◌<◌, Bool, true, List, [], ◌∷◌, length, slice_get, refl, ap, sym, ◌∙◌, subst, arith}
use Rattle.std.specs.Prelude.{Some}
use Rattle.std.proofs.lemmas.Bool.{cond_both}
use Rattle.tp_value.specs.declared.path.Fact.{Fact}
use Rattle.tp_meaning.specs.Syntax.{more}
use Rattle.tp_scene.specs.Scene.{Bindings, Side, Head, Leaf, Do, Holder, Split, SplitProject, Closed, Opened, Running, Entries, none, leaf, node, new_head, no_region, Region, Scene, has, Place, root_place, held_place, second_place}
use Rattle.tp_scene.specs.Step.{Reduction, PickOutcome, reduces, waits, rests, Numbers, holder_step}
use Rattle.tp_scene.specs.Pick.{Setting, Moment, pick, numbers_of, Reduces}
use Rattle.tp_scene.specs.Fits.{kinds_in}
use Rattle.tp_scene.specs.Laws.{IsSound}
use Rattle.tp_scene.proofs.Frame.{region}
use Rattle.tp_scene.proofs.Below.{variable_below, kinds_length, HolderBelow, IfSecond, Below, entries_below}
use Rattle.tp_step_laws.specs.Edits.{Edit, GrowsThing, Thing, of_leaf, of_holder, At, this_leaf, past_leaf, this_node, in_first, in_second, past_node, edit_of}
use Rattle.tp_step_laws.specs.Rows.{holder_make, IsFailure}
use Rattle.tp_step_laws.specs.Renaming.{IfRegion, renamed_holder, renamed_head, renamed_second, renamed_entries, renamed_place, renamed_reduction, FactsAlike, Renamed}
use Rattle.tp_step_laws.specs.Maps.{Renaming, FixesBelow}
use Rattle.tp_step_laws.specs.Orders.{IsOrderly}
use Rattle.tp_step_laws.proofs.RenamePick.{pick_to}
use Rattle.tp_step_laws.proofs.Where.{item_below, picked}
use Rattle.tp_step_laws.proofs.Again.{numbers, SameStep, Again}
use Rattle.tp_step_laws.proofs.Swap.{before, inverted, back_entries, fixed_holder, fixed_head, fixed_entries, MadeAlike}
use Rattle.tp_step_laws.proofs.Blocks.{count_local, block, renumbered, kept_less, alike_facts}

-- how many items and regions a holder's step takes
abbrev made_items : Holder → ℕ
made_items (Split f env) = 2
made_items (SplitProject f env) = 2
made_items Closed = 0
made_items (Opened f env) = 3
made_items (Running f env) = 0

abbrev made_regions : Holder → ℕ
made_regions (Opened f env) = 1
made_regions _ = 0

abbrev Counts : Holder → Reduction → PickOutcome → Type 0
Counts k r o = o ≡ reduces r → (r.items ≡ made_items k) × (r.regions ≡ made_regions k)

counts : (w : Setting) (facts : List Fact) (n : Numbers) (r : Reduction) (h g : Region) (k : Holder) (q : Place) → Counts k r (holder_step w.defs w.inputs w.state facts k h g q n)
counts w facts n r h g Closed q = λ e. absurd (cc)
counts w facts n r h g (Opened f env) q = cond_both (q.is _) _ _ (Counts (Opened f env) r) (λ _ e. (cc, cc)) (λ _. cond_both (q.is _) _ _ (Counts (Opened f env) r) (λ _ e. absurd (cc)) (λ _ e. absurd (cc)))
counts w facts n r h g (Running f env) q = λ e. absurd (cc)
counts w facts n r h g k q = cond_both (q.is _) _ _ (Counts k r) (λ _ e. absurd (cc)) (λ _. cond_both (q.is _) _ _ (Counts k r) (λ _ e. (cc, cc)) (λ _ e. absurd (cc)))

-- a thing whose paths are of lesser variables
abbrev ThingBelow : ℕ → Thing → Type 0
ThingBelow n (of_leaf l) = Unit {0}
ThingBelow n (of_holder k held) = HolderBelow n k

if_lives : (n : ℕ) (k : Holder) (X : Type 0) → Rattle.tp_scene.specs.Scene.second_lives k ≡ true → IfSecond k X → X
if_lives n (Running f env) X e h = h
if_lives n k X e h = absurd (cc)

thing_below : (n t : ℕ) (es : Entries) (x : Thing) (q p : Place) → At t x q es p → Below n es → ThingBelow n x
thing_below n t none x q p at b = elim at [ ]
thing_below n t (leaf id l rest) x q p (this_leaf a c) b = tt
thing_below n t (leaf id l rest) x q p (past_leaf a at) b = thing_below n t rest x q p at b.1
thing_below n t (node id k h i g s rest) x q p (this_node a c d f) b = b.0
thing_below n t (node id k h i g s rest) x q p (in_first a at d f) b = thing_below n t i x q _ at b.1
thing_below n t (node id k h i g s rest) x q p (in_second a l c at f) b = thing_below n t s x q _ at (if_lives n k (Below n s) l b.2)
thing_below n t (node id k h i g s rest) x q p (past_node a c d at) b = thing_below n t rest x q p at b.3

-- the bindings of a holder's formula
abbrev envs : Holder → Bindings
envs (Split f env) = env
envs (SplitProject f env) = env
envs Closed = []
envs (Opened f env) = env
envs (Running f env) = env

-- what a holder becomes, with renamed numbers and regions
make_to : (ρ : Renaming) (n n' : Numbers) (k : Holder) → renamed_holder ρ k ≡ k → ((i : ℕ) → i < made_items k → n'.item i ≡ ρ.item.to (n.item i)) → (0 < made_regions k → n'.region ≡ ρ.region.to n.region)
    → (h : Head) (i : Entries) (g : Head) (s : Entries) → renamed_entries ρ (holder_make k n h i g s) ≡ holder_make k n' (renamed_head ρ h) (renamed_entries ρ i) (renamed_second ρ k g) (renamed_entries ρ s)
make_to ρ n n' (Split f env) e a r h i g s = (λ j. node (sym (a 0 (omega arith)) j) Closed (renamed_head ρ h) (renamed_entries ρ i) no_region none (leaf (sym (a 1 (omega arith)) j) (Do f (envs (e j))) none))
make_to ρ n n' (SplitProject f env) e a r h i g s = (λ j. node (sym (a 0 (omega arith)) j) Closed (renamed_head ρ h) (renamed_entries ρ i) no_region none (node (sym (a 1 (omega arith)) j) (Opened f (envs (e j))) (renamed_head ρ g) (renamed_entries ρ s) no_region none none))
make_to ρ n n' (Opened f env) e a r h i g s =
    (λ j. node (sym (a 2 (omega arith)) j) (Running f (envs (e j))) (new_head (sym (r (omega arith)) j)) (leaf (sym (a 0 (omega arith)) j) (Do f (envs (e j))) (leaf (sym (a 1 (omega arith)) j) (Do more (envs (e j))) none)) (renamed_head ρ h) (renamed_entries ρ i) none)
make_to ρ n n' k e a r h i g s = refl

-- the result of the other item after a step
pub result : (gs : List Fact) (x y : Thing) (n : Numbers) (r : Reduction) (o : PickOutcome) → Again gs x y n (reduces r) o → ((s : Reduction) × (o ≡ reduces s) × SameStep gs x y n r s) ⊎ IsFailure o
result gs x y n r (reduces s) h = inl (s, refl, h)
result gs x y n r (waits first other) h = absurd h
result gs x y n r rests h = absurd h
result gs x y n r o h = inr tt

pub like_made : (ρ : Renaming) (x y : Thing) (e f : Edit) → GrowsThing x y → MadeAlike ρ x e f → MadeAlike ρ y e f
like_made ρ (of_leaf l) (of_leaf m) e f like h = h
like_made ρ (of_holder k held) (of_holder k' held') e f like h = subst (λ (x : Holder). MadeAlike ρ (of_holder x held') e f) (sym like.0) h
like_made ρ x y e f like h = absurd like

region_if : (ρ : Renaming) (n n' : Numbers) (k j : ℕ) → j ≡ k → IfRegion ρ n n' j → 0 < k → n'.region ≡ ρ.region.to n.region
region_if ρ n n' k zero e h l = absurd (omega (arith, e, l))
region_if ρ n n' k (suc j) e h l = h

module _ (w : Setting) (kinds : List Bool) (m : Moment) (orderly : IsOrderly w kinds m) where
  abbrev pub sound : IsSound w kinds m
  sound = orderly.sound

  abbrev pub n : Numbers
  n = numbers w kinds m sound

  abbrev pub es : Entries
  es = m.scene.root.entries

  abbrev pub at_root : Place
  at_root = root_place m.scene.root

  below : Below (length m.store.variables) es
  below = entries_below m.store.variables w.defs kinds es at_root sound.moment.entries

  -- what has the moment's numbers stays as it is where two blocks change places
  module _ (r s : Reduction) where
    abbrev ρ : Renaming
    ρ = block m r s

    pub fi : FixesBelow m.scene.next_item ρ.item
    fi i h = before m.scene.next_item r.items s.items i h

    pub fr : FixesBelow m.scene.next_region ρ.region
    fr i h = before m.scene.next_region r.regions s.regions i h

    pub fl : FixesBelow (length m.store.variables) ρ.local
    fl i h = before (length m.store.variables) (count_local r.local) (count_local s.local) i h

    pub es_fixed : renamed_entries ρ es ≡ es
    es_fixed = fixed_entries ρ m.scene.next_item m.scene.next_region (length m.store.variables) fi fr fl es sound.moment.items sound.moment.regions.2 below orderly.bound

    pub head_fixed : renamed_head ρ m.scene.root.head ≡ m.scene.root.head
    head_fixed = fixed_head ρ m.scene.next_item m.scene.next_region (length m.store.variables) fi fr fl m.scene.root.head sound.moment.regions.0

    pub place_fixed : renamed_place ρ at_root ≡ at_root
    place_fixed = λ j. record { region = fr m.scene.root.head.number sound.moment.regions.0 j; depth = 0; is = at_root.is }

    pub facts_fixed : FactsAlike ρ m.store.facts m.store.facts
    facts_fixed = alike_facts m.store.variables ρ fl m.store.facts m.store.facts (λ p. refl) (λ p sh h. kept_less m.store.variables m.store.facts sound.store.facts p sh h)

    thing_fixed : (t : ℕ) (k : Holder) (held q : Place) → At t (of_holder k held) q es at_root → renamed_holder ρ k ≡ k
    thing_fixed t k held q at = fixed_holder ρ m.scene.next_item m.scene.next_region (length m.store.variables) fi fr fl k (thing_below (length m.store.variables) t es (of_holder k held) q at_root at below)

    pub globals_fixed : FixesBelow (length kinds) ρ.local
    globals_fixed i h = fl i (kinds_less kinds (kinds_in m.store.variables) sound.store.globals (length m.store.variables) (kinds_length m.store.variables) i h)
      where
        some_kind : (ks : List Bool) (i : ℕ) → i < length ks → (b : Bool) × (slice_get ks i ≡ Some b)
        some_kind [] i h = absurd (omega (arith, h))
        some_kind (k ∷ ks) zero h = (k, refl)
        some_kind (k ∷ ks) (suc i) h = some_kind ks i (omega (arith, h))

        kinds_less : (ks all : List Bool) → ((i : ℕ) (b : Bool) → slice_get ks i ≡ Some b → slice_get all i ≡ Some b) → (l : ℕ) → length all ≡ l → (i : ℕ) → i < length ks → i < l
        kinds_less ks all h l e i k = let x = some_kind ks i k in let q = variable_below all i x.0 (h i x.0 x.1) in omega (arith, q, e)

    -- an item's reduction with the numbers that it takes after another step
    pub renumber : (t u : ℕ) (next : Moment) → has t es ≡ true → pick w m.store.facts t es at_root n ≡ reduces r → Reduces w m u s next
        → pick w m.store.facts t es at_root (numbers_of next.scene next.store.variables) ≡ reduces (renamed_reduction ρ r)
    renumber t u next live e step =
        let n' = numbers_of next.scene next.store.variables in
        let a = pick_to ρ n n' w kinds sound.definitions globals_fixed m.store.facts m.store.facts sound.store.no_clash sound.store.no_clash facts_fixed m.store.variables t es at_root sound.moment.entries in
        let b = subst (λ (x : Place). Renamed ρ n n' (pick w m.store.facts t es at_root n) (pick w m.store.facts (ρ.item.to t) (renamed_entries ρ es) x n')) place_fixed a in
        let c = subst (λ (x : Entries). Renamed ρ n n' (pick w m.store.facts t es at_root n) (pick w m.store.facts (ρ.item.to t) x at_root n')) es_fixed b in
        let d = subst (λ (x : ℕ). Renamed ρ n n' (pick w m.store.facts t es at_root n) (pick w m.store.facts x es at_root n')) (fi t (item_below m.scene.next_item t es sound.moment.items live)) c in
        subst (λ (o : PickOutcome). Renamed ρ n n' o (pick w m.store.facts t es at_root n')) e d (renumbered w m u r s next step)

    -- and the edits that both are, with these numbers and those of the moment
    pub edits_alike : (t u : ℕ) (next : Moment) → (x : Thing) (q : Place) → At t x q es at_root → pick w m.store.facts t es at_root n ≡ reduces r → Reduces w m u s next
        → MadeAlike ρ x (edit_of x n r) (edit_of x (numbers_of next.scene next.store.variables) (renamed_reduction ρ r))
    edits_alike t u next (of_leaf l) q at e step = refl
    edits_alike t u next (of_holder k held) q at e step = λ h i g y.
        let x = picked w m.store.facts n t es (of_holder k held) q at_root at in
        let c = counts w m.store.facts n r (region x.0 x.1) (region x.2 x.3) k held (sym x.4 ∙ e) in
        let a = renumbered w m u r s next step in
        make_to ρ n (numbers_of next.scene next.store.variables) k (thing_fixed t k held q at) (λ j l. let z = c.0 in a.items j (omega (arith, l, z)))
        (λ l. region_if ρ n (numbers_of next.scene next.store.variables) (made_regions k) r.regions c.1 a.region l) h i g y

    -- the other way round: from the numbers after the step to those of the moment
    pub edits_back : (t u : ℕ) (next : Moment) → (x : Thing) (q : Place) → At t x q es at_root → pick w m.store.facts t es at_root n ≡ reduces r → Reduces w m u s next
        → MadeAlike (inverted ρ) x (edit_of x (numbers_of next.scene next.store.variables) (renamed_reduction ρ r)) (edit_of x n r)
    edits_back t u next (of_leaf l) q at e step = back_entries (inverted ρ) r.news
    edits_back t u next (of_holder k held) q at e step = λ h i g y.
        let x = picked w m.store.facts n t es (of_holder k held) q at_root at in
        let c = counts w m.store.facts n r (region x.0 x.1) (region x.2 x.3) k held (sym x.4 ∙ e) in
        let a = renumbered w m u r s next step in
        let fixed : renamed_holder (inverted ρ) k ≡ k = fixed_holder (inverted ρ) m.scene.next_item m.scene.next_region (length m.store.variables)
        (λ i h. before m.scene.next_item s.items r.items i h) (λ i h. before m.scene.next_region s.regions r.regions i h) (λ i h. before (length m.store.variables) (count_local s.local) (count_local r.local) i h)
        k (thing_below (length m.store.variables) t es (of_holder k held) q at_root at below) in
        make_to (inverted ρ) (numbers_of next.scene next.store.variables) n k fixed
        (λ j l. let z = c.0 in sym (ap ρ.item.back (a.items j (omega (arith, l, z))) ∙ ρ.item.undone (n.item j)))
        (λ l. sym (ap ρ.region.back (region_if ρ n (numbers_of next.scene next.store.variables) (made_regions k) r.regions c.1 a.region l) ∙ ρ.region.undone n.region)) h i g y
