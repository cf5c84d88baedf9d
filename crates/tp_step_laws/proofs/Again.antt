-- After another item's step an item gives the same, or something bad.
use Rattle.std.proofs.Common.{◌≡◌, ◌≢◌, inl, inr, ℕ, ◌+◌, Bool, true, false, eqb, List, [], ◌∷◌, refl, ap, ap₂, sym, ◌∙◌, subst, arith}
use Rattle.std.proofs.lemmas.Bool.{or_cases, or_left, or_right, eqb-true, false_from_ne_true}
use Rattle.tp_value.specs.declared.path.Fact.{Fact}
use Rattle.tp_meaning.specs.Syntax.{BindingTree, place_binding, known_binding}
use Rattle.tp_store.specs.Known.{NoClash}
use Rattle.tp_scene.specs.Scene.{Bindings, Head, marked, Leaf, Do, Later, Shown, Holder, Split, SplitProject, Closed, Opened, Running, Entries, none, leaf, node, Region, Scene, has, risen, Place, root_place}
use Rattle.tp_scene.specs.Step.{Reduction, PickOutcome, reduces, waits, rests, clashes, misses, passes, Numbers, leaf_step, holder_step}
use Rattle.tp_scene.specs.Pick.{Setting, Moment, pick, numbers_of, HasAdded, Reduces}
use Rattle.tp_scene.specs.Fits.{IsCalm}
use Rattle.tp_scene.specs.Laws.{IsSound}
use Rattle.tp_step_laws.specs.Edits.{Edit, head_after, edited, single, Natural, GrowsThing, Stays, Carry, New, Thing, of_leaf, of_holder, At, edit_of}
use Rattle.tp_step_laws.specs.Rows.{Grows, IsFailure, SameFacts, GrownTo, HolderGrown}
use Rattle.tp_step_laws.specs.Outcomes.{KnowsMore}
use Rattle.tp_step_laws.specs.Within.{LengthsAreWithin}
use Rattle.tp_step_laws.specs.Renaming.{renamed_binding, renamed_bindings, renamed_leaf, renamed_holder, renamed_second, renamed_entries, Renamed}
use Rattle.tp_step_laws.specs.Maps.{Renaming}
use Rattle.tp_step_laws.specs.Orders.{FailuresStay}
use Rattle.tp_step_laws.specs.Others.{OthersStandAsBefore}
use Rattle.tp_step_laws.proofs.Orderly.{steps_stay_orderly}
use Rattle.tp_step_laws.proofs.FactsGrow.{kept_before}
use Rattle.tp_step_laws.proofs.Stay.{head_grows, status_up, remains}
use Rattle.tp_step_laws.proofs.Bridge.{at_live, put_is_edit}
use Rattle.tp_step_laws.proofs.EqGrow.{nothing_new}
use Rattle.tp_step_laws.proofs.RowsGrow.{leaf_rows_grow, holder_rows_grow}
use Rattle.tp_step_laws.proofs.AdvanceAlike.{same_numbers}
use Rattle.tp_step_laws.proofs.RenamePick.{pick_to}
use Rattle.tp_step_laws.proofs.Where.{at_of, item_below, CalmThing, at_calm, Picked, picked, owed}

-- The renaming that changes nothing.
abbrev pub no_renaming : Renaming
no_renaming = record { item = same_numbers; region = same_numbers; local = same_numbers }

same_binding : (b : BindingTree) → renamed_binding no_renaming b ≡ b
same_binding (place_binding p) = refl
same_binding (known_binding t) = refl

same_bindings : (env : Bindings) → renamed_bindings no_renaming env ≡ env
same_bindings [] = refl
same_bindings (b ∷ env) = ap₂ (λ x xs. x ∷ xs) (same_binding b) (same_bindings env)

same_leaf : (l : Leaf) → renamed_leaf no_renaming l ≡ l
same_leaf (Do f env) = ap (Do f) (same_bindings env)
same_leaf (Later f env) = ap (Later f) (same_bindings env)
same_leaf (Shown vs) = refl

same_holder : (k : Holder) → renamed_holder no_renaming k ≡ k
same_holder (Split f env) = ap (Split f) (same_bindings env)
same_holder (SplitProject f env) = ap (SplitProject f) (same_bindings env)
same_holder Closed = refl
same_holder (Opened f env) = ap (Opened f) (same_bindings env)
same_holder (Running f env) = ap (Running f) (same_bindings env)

same_second : (k : Holder) (g : Head) → renamed_second no_renaming k g ≡ g
same_second (Split f env) g = refl
same_second k g = refl

pub same_entries : (es : Entries) → renamed_entries no_renaming es ≡ es
same_entries none = refl
same_entries (leaf id l rest) = λ j. leaf id (same_leaf l j) (same_entries rest j)
same_entries (node id k h i g s rest) = λ j. node id (same_holder k j) h (same_entries i j) (same_second k g j) (same_entries s j) (same_entries rest j)

-- what isn't a reduction is the same whatever the numbers of new things
pub bad_anyhow : (ρ : Renaming) (n n' : Numbers) (o u : PickOutcome) → Renamed ρ n n' o u → IsFailure o → IsFailure u
bad_anyhow ρ n n' (clashes c) u h b = subst (λ (x : PickOutcome). IsFailure x) (sym h) tt
bad_anyhow ρ n n' (misses port) u h b = subst (λ (x : PickOutcome). IsFailure x) (sym h) tt
bad_anyhow ρ n n' (passes k) u h b = subst (λ (x : PickOutcome). IsFailure x) (sym h) tt
bad_anyhow ρ n n' o u h b = elim b [ ]

-- the same step, but for the regions that are carried and for facts that are known
pub record SameStep (gs : List Fact) (x y : Thing) (n : Numbers) (r s : Reduction) : Type 0 where
  pub edit : edit_of y n s ≡ edit_of x n r
  pub items : s.items ≡ r.items
  pub regions : s.regions ≡ r.regions
  pub local : s.local ≡ r.local
  pub facts : SameFacts gs r.facts s.facts

-- a reduction stays so, or it becomes bad; and what is bad stays bad
abbrev pub AgainReduces : List Fact → Thing → Thing → Numbers → Reduction → PickOutcome → Type 0
AgainReduces gs x y n r (reduces s) = SameStep gs x y n r s
AgainReduces gs x y n r (waits first other) = ⊥
AgainReduces gs x y n r rests = ⊥
AgainReduces gs x y n r (clashes c) = Unit {0}
AgainReduces gs x y n r (misses port) = Unit {0}
AgainReduces gs x y n r (passes k) = Unit {0}

abbrev pub Again : List Fact → Thing → Thing → Numbers → PickOutcome → PickOutcome → Type 0
Again gs x y n (reduces r) o = AgainReduces gs x y n r o
Again gs x y n (waits first other) o = Unit {0}
Again gs x y n rests o = Unit {0}
Again gs x y n (clashes c) o = IsFailure o
Again gs x y n (misses port) o = IsFailure o
Again gs x y n (passes k) o = IsFailure o

leaf_again : (gs : List Fact) (l : Leaf) (n : Numbers) (o u : PickOutcome) → GrownTo gs o u → Again gs (of_leaf l) (of_leaf l) n o u
leaf_again gs l n (reduces r) (reduces s) h = record { edit = λ j. record { mark = h.mark j; make = λ a b c d. h.news j }; items = h.items; regions = h.regions; local = h.local; facts = h.facts }
leaf_again gs l n (waits first other) u h = tt
leaf_again gs l n rests u h = tt
leaf_again gs l n o x h = h

holder_again : (gs : List Fact) → NoClash gs → (k : Holder) (p q : Place) (n : Numbers) (h : Head) (i : Entries) (g : Head) (s : Entries) (o u : PickOutcome) → HolderGrown k n h i g s o u → Again gs (of_holder k p) (of_holder k q) n o u
holder_again gs gc k p q n h i g s (reduces r) u e = subst (λ (x : PickOutcome). Again gs (of_holder k p) (of_holder k q) n (reduces r) x) (sym e.0) (record { edit = refl; items = refl; regions = refl; local = refl; facts = subst (λ (l : List Fact). SameFacts gs l l) (sym e.1) (nothing_new gs gc) })
holder_again gs gc k p q n h i g s (waits first other) u e = tt
holder_again gs gc k p q n h i g s rests u e = tt
holder_again gs gc k p q n h i g s o u e = absurd e

module _ (w : Setting) (fs gs : List Fact) (fc : NoClash fs) (gc : NoClash gs) (knows : KnowsMore fs gs) (within : LengthsAreWithin gs) (n : Numbers) where
  -- where a thing knows as much or more it gives the same, or it is bad
  pub thing_again : (x y : Thing) (p q : Place) → GrowsThing x y → Grows p q → IsCalm q → CalmThing y → (o u : PickOutcome) → Picked w fs n x p o → Picked w gs n y q u → Again gs x y n o u
  thing_again (of_leaf l) (of_leaf m) p q like up calm held o u a b =
      let e : u ≡ leaf_step w.defs w.inputs w.state gs l q n = b ∙ ap (λ (x : Leaf). leaf_step w.defs w.inputs w.state gs x q n) like in
      let g : GrownTo gs o u = subst (λ (x : PickOutcome). GrownTo gs x u) (sym a) (subst (λ (y : PickOutcome). GrownTo gs (leaf_step w.defs w.inputs w.state fs l p n) y) (sym e) (leaf_rows_grow w fs gs fc gc knows within l p q n up calm)) in
      subst (λ (x : Leaf). Again gs (of_leaf l) (of_leaf x) n o u) (sym like) (leaf_again gs l n o u g)
  thing_again (of_holder k held) (of_holder k' held') p q like up calm c o u a b =
      let e : u ≡ holder_step w.defs w.inputs w.state gs k (record { head = b.0; entries = b.1 }) (record { head = b.2; entries = b.3 }) held' n = b.4 ∙ ap (λ (x : Holder). holder_step w.defs w.inputs w.state gs x (record { head = b.0; entries = b.1 }) (record { head = b.2; entries = b.3 }) held' n) like.0 in
      let g = holder_rows_grow w fs gs k n held held' like.1 c a.0 a.1 a.2 a.3 b.0 b.1 b.2 b.3 in
      let h : HolderGrown k n b.0 b.1 b.2 b.3 o u = subst (λ (x : PickOutcome). HolderGrown k n b.0 b.1 b.2 b.3 x u) (sym a.4) (subst (λ (y : PickOutcome). HolderGrown k n b.0 b.1 b.2 b.3 (holder_step w.defs w.inputs w.state fs k (record { head = a.0; entries = a.1 }) (record { head = a.2; entries = a.3 }) held n) y) (sym e) g) in
      subst (λ (x : Holder). Again gs (of_holder k held) (of_holder x held') n o u) (sym like.0) (holder_again gs gc k held held' n b.0 b.1 b.2 b.3 o u h)
  thing_again x y p q like up calm c o u a b = absurd like

-- The entries of a region after an edit, and where the other item stands there.
module _ (t u : ℕ) (tu : eqb t u ≡ false) (h : Head) (es : Entries) (e : Edit) (new : New u e) (x : Thing) (p : Place) where
  abbrev root : Region
  root = record { head = h; entries = es }

  abbrev after : Region
  after = record { head = head_after (single t e) es h; entries = edited (single t e) es }

  pub root_grows : At t x p es (root_place root) → Carry u e x → Grows (root_place root) (root_place after)
  root_grows at carry = record {
    region = refl;
    depth = refl;
    sides = λ z y. elim (or_cases (marked z h) (risen z es) y) [
      | inl a ↦ or_left (marked z (head_after (single t e) es h)) _ (head_grows (single t e) es h z a)
      | inr a ↦ or_right (marked z (head_after (single t e) es h)) _ (status_up t u e new es x p (root_place root) at carry z a)
    ];
  }

  pub stays : At t x p es (root_place root) → Carry u e x → (y : Thing) (q : Place) → At u y q es (root_place root) → Stays u y q (edited (single t e) es) (root_place after)
  stays at carry y q au = remains t u e tu new es x p y q (root_place root) (root_place after) at carry au (root_grows at carry)

-- Said of a step of the item t in a sound moment, and of another item that is live.
module _ (w : Setting) (kinds : List Bool) (m : Moment) (sound : IsSound w kinds m) where
  abbrev pub numbers : Numbers
  numbers = numbers_of m.scene m.store.variables

  abbrev pub entries : Entries
  entries = m.scene.root.entries

  -- new numbers aren't those of live items
  pub fresh : (u : ℕ) → has u entries ≡ true → (c i : ℕ) → eqb (i + (m.scene.next_item + c)) u ≡ false
  fresh u live c i = let b = item_below m.scene.next_item u entries sound.moment.items live in
      false_from_ne_true (eqb (i + (m.scene.next_item + c)) u) (λ e. let q : i + (m.scene.next_item + c) ≡ u = eqb-true (i + (m.scene.next_item + c)) u e in absurd (omega arith))

  pub fresh_now : (u : ℕ) → has u entries ≡ true → (i : ℕ) → eqb (numbers.item i) u ≡ false
  fresh_now u live i = let q : i + (m.scene.next_item + 0) ≡ i + m.scene.next_item = omega arith in ap (λ j. eqb j u) (sym q) ∙ fresh u live 0 i

  pub record Moves (t u : ℕ) (r : Reduction) (next : Moment) : Type 0 where
    pub thing : Thing
    pub place : Place
    pub at : At t thing place entries (root_place m.scene.root)
    pub root : next.scene.root ≡ record { head = head_after (single t (edit_of thing numbers r)) entries m.scene.root.head; entries = edited (single t (edit_of thing numbers r)) entries }
    pub new : New u (edit_of thing numbers r)
    pub carry : Carry u (edit_of thing numbers r) thing
    pub natural : (f : Edit) → Natural (single u f) (edit_of thing numbers r)
    pub other : Thing
    pub other_place : Place
    pub other_at : At u other other_place entries (root_place m.scene.root)
    pub there : Stays u other other_place next.scene.root.entries (root_place next.scene.root)

  abbrev pub moves : (t u : ℕ) → t ≢ u → (r : Reduction) (next : Moment) → Reduces w m t r next → has u entries ≡ true → Moves t u r next
  moves t u ne r next step live =
      let a = at_of m.scene.next_item t entries (root_place m.scene.root) sound.moment.items step.lives in
      let b = at_of m.scene.next_item u entries (root_place m.scene.root) sound.moment.items live in
      let o = owed w m.store.facts numbers u (fresh_now u live) a.0 a.1 (pick w m.store.facts t entries (root_place m.scene.root) numbers) r (picked w m.store.facts numbers t entries a.0 a.1 (root_place m.scene.root) a.2) step.outcome in
      let put = put_is_edit w m.store.facts t numbers r entries (root_place m.scene.root) a.0 a.1 a.2 step.outcome in
      let e = edit_of a.0 numbers r in
      let root : next.scene.root ≡ record { head = head_after (single t e) entries m.scene.root.head; entries = edited (single t e) entries } =
      ap (λ (s : Scene). s.root) step.scene ∙ (λ j. record { head = put.1 m.scene.root.head j; entries = put.0 j }) in
      let tu : eqb t u ≡ false = false_from_ne_true (eqb t u) (λ q. ne (eqb-true t u q)) in
      let s = stays t u tu m.scene.root.head entries e o.new a.0 a.1 a.2 o.carry b.0 b.1 b.2 in
      record {
        thing = a.0;
        place = a.1;
        at = a.2;
        root = root;
        new = o.new;
        carry = o.carry;
        natural = o.natural;
        other = b.0;
        other_place = b.1;
        other_at = b.2;
        there = subst (λ (x : Region). Stays u b.0 b.1 x.entries (root_place x)) (sym root) s;
      }

  pub knows_after : (r : Reduction) (next : Moment) → HasAdded m.store r.facts r.local next.store → KnowsMore m.store.facts next.store.facts
  knows_after r next added p sh h = added.kept p ∙ kept_before m.store.facts r.facts p sh h

  -- the other item after the step, with any numbers for what is new
  pub again : (t u : ℕ) (r : Reduction) (next : Moment) → Reduces w m t r next → IsSound w kinds next → LengthsAreWithin next.store.facts → (v : Moves t u r next) → (n : Numbers)
      → Again next.store.facts v.other v.there.thing n (pick w m.store.facts u entries (root_place m.scene.root) n) (pick w next.store.facts u next.scene.root.entries (root_place next.scene.root) n)
  again t u r next step after within v n =
      let calm = at_calm w.defs kinds next.store.variables u next.scene.root.entries v.there.thing v.there.place (root_place next.scene.root) v.there.at after.moment.entries in
      thing_again w m.store.facts next.store.facts sound.store.no_clash after.store.no_clash (knows_after r next step.store) within n v.other v.there.thing v.other_place v.there.place v.there.like v.there.more calm.0 calm.1 _ _
      (picked w m.store.facts n u entries v.other v.other_place (root_place m.scene.root) v.other_at)
      (picked w next.store.facts n u next.scene.root.entries v.there.thing v.there.place (root_place next.scene.root) v.there.at)

  -- what is bad is so with any numbers for what is new
  pub bad_with : (u : ℕ) (n n' : Numbers) → IsFailure (pick w m.store.facts u entries (root_place m.scene.root) n) → IsFailure (pick w m.store.facts u entries (root_place m.scene.root) n')
  bad_with u n n' b = bad_anyhow no_renaming n n' _ _
      (subst (λ (es : Entries). Renamed no_renaming n n' (pick w m.store.facts u entries (root_place m.scene.root) n) (pick w m.store.facts u es (root_place m.scene.root) n')) (same_entries entries)
      (pick_to no_renaming n n' w kinds sound.definitions (λ i l. refl) m.store.facts m.store.facts sound.store.no_clash sound.store.no_clash (λ p. refl) m.store.variables u entries (root_place m.scene.root) sound.moment.entries))
      b

pub again_bad : (gs : List Fact) (x y : Thing) (n : Numbers) (o u : PickOutcome) → Again gs x y n o u → IsFailure o → IsFailure u
again_bad gs x y n (clashes c) u h b = h
again_bad gs x y n (misses port) u h b = h
again_bad gs x y n (passes k) u h b = h
again_bad gs x y n o u h b = elim b [ ]

-- What is bad stays bad, where steps leave lengths within the limit.
pub failures_stay : FailuresStay
failures_stay w kinds m next t u ne orderly step bad =
    let sound = orderly.sound in
    let after = steps_stay_orderly w kinds m t step.0 next orderly step.1 in
    let v = moves w kinds m sound t u ne step.0 next step.1 bad.0 in
    let n = numbers_of next.scene next.store.variables in (
      at_live u next.scene.root.entries v.there.thing v.there.place (root_place next.scene.root) v.there.at,
      again_bad next.store.facts v.other v.there.thing n _ _ (again w kinds m sound t u step.0 next step.1 after.sound after.lengths v n) (bad_with w kinds m sound u (numbers_of m.scene m.store.variables) n bad.1),
    )

-- What isn't picked stays what it is.
pub others_stand_as_before : OthersStandAsBefore
others_stand_as_before w kinds m next t u ne sound step live =
    let v = moves w kinds m sound t u ne step.0 next step.1 live in
    record { thing = v.other; place = v.other_place; before = v.other_at; after = v.there }
