-- Where an item is bad after another one's step, that one is bad after its step.
use Rattle.std.proofs.Common.{◌≡◌, ◌≢◌, inl, inr, ℕ, Bool, true, false, eqb, List, refl, ap, sym, ◌∙◌, subst}
use Rattle.std.specs.Prelude.{Some}
use Rattle.std.proofs.lemmas.Bool.{or_left, eqb-true, false_from_ne_true}
use Rattle.tp_value.specs.declared.path.Fact.{Fact}
use Rattle.tp_store.specs.Facts.{kept_shape}
use Rattle.tp_store.specs.Known.{NoClash, is_none, adds, addition}
use Rattle.tp_store.proofs.Members.{In, in_kept, kept_in, NoClash-filter}
use Rattle.tp_store.proofs.Adding.{adds_all, given_in}
use Rattle.tp_scene.specs.Scene.{Side, other_side, Ending, Going, marked, Leaf, Holder, Entries, none, leaf, node, Region, Place, root_place}
use Rattle.tp_scene.specs.Step.{Reduction, PickOutcome, reduces, Numbers, leaf_step, holder_step}
use Rattle.tp_scene.specs.Pick.{Setting, Moment, pick, outcome_of, Reduces}
use Rattle.tp_scene.specs.Fits.{IsCalm}
use Rattle.tp_step_laws.specs.Edits.{Edit, is_side, head_after, edited, single, Thing, of_leaf, of_holder, GrowsThing, At, this_leaf, past_leaf, this_node, in_first, in_second, past_node, edit_of}
use Rattle.tp_step_laws.specs.Rows.{Grows, IsFailure, HolderGrown}
use Rattle.tp_step_laws.specs.Outcomes.{KnowsMore}
use Rattle.tp_step_laws.specs.Within.{LeafWithin, EntriesWithin}
use Rattle.tp_step_laws.specs.Renaming.{renamed_region, renamed_entries}
use Rattle.tp_step_laws.specs.Orders.{IsOrderly, FailuresAreMutual}
use Rattle.tp_step_laws.proofs.Orderly.{steps_stay_orderly}
use Rattle.tp_step_laws.proofs.RowsGrow.{holder_rows_grow}
use Rattle.tp_step_laws.proofs.Where.{CalmThing, Picked, picked, at_calm}
use Rattle.tp_step_laws.proofs.Again.{Moves, root_grows, knows_after}
use Rattle.tp_step_laws.proofs.GivenAlike.{root_to}
use Rattle.tp_step_laws.proofs.Marked.{AllCalm, calm_fit, calm_back, marked_after, marked_calm}
use Rattle.tp_step_laws.proofs.Blocks.{block, fixed_facts, either_kept, KnowsThree}
use Rattle.tp_step_laws.proofs.Diamond.{fl}
use Rattle.tp_step_laws.proofs.GoodRows.{leaf_good}
use Rattle.tp_step_laws.proofs.Commute.{after, half, lives_there, both, both_step, both_root, three, facts_of, out_there, owes, outer, swapped_root, S, ES, P, v, na, sa, fa, Result}

side_is : (z : Side) → is_side z (Some z) ≡ true
side_is Ending = refl
side_is Going = refl

abbrev ThingWithin : Thing → Type 0
ThingWithin (of_leaf l) = LeafWithin l
ThingWithin (of_holder k held) = Unit {0}

at_within : (t : ℕ) (es : Entries) (x : Thing) (q p : Place) → At t x q es p → EntriesWithin es → ThingWithin x
at_within t none x q p at h = elim at [ ]
at_within t (leaf id l rest) x q p (this_leaf a b) h = h.0
at_within t (leaf id l rest) x q p (past_leaf a at) h = at_within t rest x q p at h.1
at_within t (node id k hd i g s rest) x q p (this_node a b c d) h = tt
at_within t (node id k hd i g s rest) x q p (in_first a at c d) h = at_within t i x q _ at h.1
at_within t (node id k hd i g s rest) x q p (in_second a l b at d) h = at_within t s x q _ at h.2
at_within t (node id k hd i g s rest) x q p (past_node a b c at) h = at_within t rest x q p at h.3

module _ (w : Setting) (kinds : List Bool) (m : Moment) (orderly : IsOrderly w kinds m)
    (t u : ℕ) (ne : t ≢ u) (en : u ≢ t) (r s : Reduction) (a b : Moment) (st : Reduces w m t r a) (su : Reduces w m u s b) (oa : IsOrderly w kinds a) (ob : IsOrderly w kinds b)
    (y : Result w kinds m orderly u t en s r b su st.lives st.outcome ob) where
  abbrev A : Moves w kinds m (S w kinds m orderly) t u r a
  A = v w kinds m orderly t u ne r s a st su.lives su.outcome oa

  abbrev second : Moment
  second = both w kinds m orderly u t en s r b su st.lives st.outcome ob y

  after_both : IsOrderly w kinds second
  after_both = steps_stay_orderly w kinds b t (y.0) second ob (both_step w kinds m orderly u t en s r b su st.lives st.outcome ob y)

  abbrev FA : Edit
  FA = fa w kinds m orderly t u ne r s a st su.lives su.outcome oa

  abbrev SA : Reduction
  SA = sa w kinds m orderly t u ne r s a st su.lives su.outcome oa

  abbrev NA : Numbers
  NA = na w kinds m orderly t u ne r s a st su.lives su.outcome oa

  same_root : second.scene.root ≡ renamed_region (block m r s) (after u FA a.scene.root)
  same_root =
      both_root w kinds m orderly u t en s r b su st.lives st.outcome ob y
      ∙ sym (ap (renamed_region (block m r s)) (ap (after u FA) A.root ∙ swapped_root w kinds m orderly t u ne en r s a b st su oa ob) ∙ outer w kinds m orderly t u ne en r s a b st su oa ob)

  calm_after : AllCalm (edited (single u FA) a.scene.root.entries) (root_place (after u FA a.scene.root))
  calm_after =
      let ρ = block m r s in
      let c : AllCalm second.scene.root.entries (root_place second.scene.root) = calm_fit w.defs kinds second.store.variables second.scene.root.entries (root_place second.scene.root) after_both.sound.moment.entries in
      let d = subst (λ (x : Region). AllCalm x.entries (root_place x)) same_root c in
      calm_back ρ (edited (single u FA) a.scene.root.entries) (root_place (after u FA a.scene.root))
      (subst (λ (p : Place). AllCalm (renamed_entries ρ (edited (single u FA) a.scene.root.entries)) p) (root_to ρ (after u FA a.scene.root)) d)

  abbrev T : KnowsThree m.store.facts s.facts r.facts second.store.facts
  T = three w kinds m orderly u t en s r b su st.lives st.outcome ob y

  knows_both : KnowsMore a.store.facts second.store.facts
  knows_both p sh h = elim (either_kept m.store.facts r.facts p sh (sym (st.store.kept p) ∙ h)) [ inl i ↦ T.one p sh i | inr i ↦ T.three p sh i ]

  -- what u added is known where both have stepped
  added_known_there : (xs : List Fact) → NoClash xs → addition m.store.facts xs ≡ adds SA.facts → (f : Fact) → In f xs → In f second.store.facts
  added_known_there xs single e f i =
      let l : SA.facts ≡ s.facts = fixed_facts m.store.variables (block m s r) (fl w kinds m orderly s r) s.facts (facts_of w kinds m orderly u s su.outcome) in
      let d = adds_all m.store.facts xs SA.facts e in
      elim (given_in m.store.facts xs SA.facts d f i) [
        | inl j ↦ kept_in second.store.facts f.path f.shape (T.one f.path f.shape (in_kept m.store.facts f orderly.sound.store.no_clash j))
        | inr j ↦ (let apart : NoClash SA.facts = subst (λ (n : List Fact). NoClash n) d.new (NoClash-filter (λ (g : Fact). is_none (kept_shape m.store.facts g.path)) xs single) in
            kept_in second.store.facts f.path f.shape (T.two f.path f.shape (ap (λ n. kept_shape n f.path) (sym l) ∙ in_kept SA.facts f apart j)))
      ]

  -- the mark of a leaf's reduction
  mark_ok : (l : Leaf) (q : Place) → At u (of_leaf l) q a.scene.root.entries (root_place a.scene.root) → (z : Side) → is_side z FA.mark ≡ true → q.is (other_side z) ≡ true → ⊥
  mark_ok l q at z e o =
      let O = owes w kinds m orderly t u ne r s a st su.lives su.outcome oa in
      let ut : eqb u t ≡ false = false_from_ne_true (eqb u t) (λ x. en (eqb-true u t x)) in
      marked_calm u t FA O.new z e a.scene.root.entries (of_leaf l) q (root_place a.scene.root) (root_place (after u FA a.scene.root)) at tt calm_after
      (root_grows u t ut a.scene.root.head a.scene.root.entries FA O.new (of_leaf l) q at tt)
      (λ x. or_left (marked z (head_after (single u FA) a.scene.root.entries a.scene.root.head)) _ (marked_after u t FA O.new z e a.scene.root.entries a.scene.root.head x)) o

  go : (x x' : Thing) (p q : Place) → GrowsThing x x' → Grows p q → IsCalm q → CalmThing x' → ThingWithin x → At u x' q a.scene.root.entries (root_place a.scene.root) → FA.mark ≡ (edit_of x NA SA).mark → (o o' : PickOutcome)
      → Picked w m.store.facts NA x p o → o ≡ reduces SA → Picked w a.store.facts NA x' q o' → IsFailure o' → ⊥
  go (of_leaf l) (of_leaf l') p q like up calm held small at mark o o' k e k' bad =
      leaf_good w m.store.facts a.store.facts second.store.facts orderly.sound.store.no_clash oa.sound.store.no_clash after_both.sound.store.no_clash
      (knows_after w kinds m orderly.sound r a st.store) knows_both oa.lengths orderly.inputs p q NA up calm l small SA (sym k ∙ e)
      (λ z x i. mark_ok l' q at z (ap (is_side z) (mark ∙ x) ∙ side_is z) i) added_known_there
      (subst (λ (x : PickOutcome). IsFailure x) (k' ∙ ap (λ (x : Leaf). leaf_step w.defs w.inputs w.state a.store.facts x q NA) like) bad)
  go (of_holder k held) (of_holder k' held') p q like up calm c small at mark o o' z e z' bad =
      let g = holder_rows_grow w m.store.facts a.store.facts k NA held held' like.1 c z.0 z.1 z.2 z.3 z'.0 z'.1 z'.2 z'.3 in
      let h = subst (λ (x : PickOutcome). HolderGrown k NA z'.0 z'.1 z'.2 z'.3 x (holder_step w.defs w.inputs w.state a.store.facts k (record { head = z'.0; entries = z'.1 }) (record { head = z'.2; entries = z'.3 }) held' NA)) (sym z.4 ∙ e) g in
      let i = z'.4 ∙ ap (λ (x : Holder). holder_step w.defs w.inputs w.state a.store.facts x (record { head = z'.0; entries = z'.1 }) (record { head = z'.2; entries = z'.3 }) held' NA) like.0 ∙ h.0 in
      subst (λ (x : PickOutcome). IsFailure x) i bad
  go x y p q like up calm held small at mark o o' k e z bad = absurd like

  pub isnt_bad : IsFailure (outcome_of w a.store a.scene u) → ⊥
  isnt_bad bad =
      let c = at_calm w.defs kinds a.store.variables u a.scene.root.entries A.there.thing A.there.place (root_place a.scene.root) A.there.at oa.sound.moment.entries in
      go A.other A.there.thing A.other_place A.there.place A.there.like A.there.more c.0 c.1 (at_within u (ES w kinds m orderly) A.other A.other_place (P w kinds m orderly) A.other_at orderly.bound) A.there.at refl
      (pick w m.store.facts u (ES w kinds m orderly) (P w kinds m orderly) NA) (outcome_of w a.store a.scene u)
      (picked w m.store.facts NA u (ES w kinds m orderly) A.other A.other_place (P w kinds m orderly) A.other_at) (out_there w kinds m orderly t u ne r s a st su.lives su.outcome oa)
      (picked w a.store.facts NA u a.scene.root.entries A.there.thing A.there.place (root_place a.scene.root) A.there.at) bad

pub failures_are_mutual : FailuresAreMutual
failures_are_mutual w kinds m a b t u ne orderly st su bad =
    let en : u ≢ t = λ q. ne (sym q) in
    let oa = steps_stay_orderly w kinds m t st.0 a orderly st.1 in
    let ob = steps_stay_orderly w kinds m u su.0 b orderly su.1 in
    elim (half w kinds m orderly u t en su.0 st.0 b su.1 st.1.lives st.1.outcome ob) [
      | inl y ↦ absurd (isnt_bad w kinds m orderly t u ne en st.0 su.0 a b st.1 su.1 oa ob y bad.1)
      | inr z ↦ (lives_there w kinds m orderly u t en su.0 st.0 b su.1 st.1.lives st.1.outcome ob, z)
    ]
