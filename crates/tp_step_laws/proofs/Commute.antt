-- Two steps commute, up to numbers: assembled.
use Rattle.std.proofs.Common.{◌≡◌, ◌≢◌, ◌⊎◌, inl, inr, ℕ, ◌+◌, ◌<◌, Bool, true, false, eqb, List, ◌++◌, length, slice_get, refl, ap, ap₂, sym, ◌∙◌, subst, arith}
use Rattle.std.specs.Prelude.{Some}
use Rattle.std.proofs.lemmas.Bool.{eqb-true, false_from_ne_true}
use Rattle.tp_value.specs.declared.value.Shape.{Shape}
use Rattle.tp_value.specs.declared.path.Path.{Path}
use Rattle.tp_store.specs.Facts.{kept_shape}
use Rattle.tp_store.specs.Known.{Variable, AreOfVariables}
use Rattle.tp_scene.specs.Scene.{Entries, Region, has, Place, root_place}
use Rattle.tp_scene.specs.Step.{Reduction, PickOutcome, reduces, Numbers}
use Rattle.tp_scene.specs.Pick.{Setting, Moment, pick, numbers_of, outcome_of, scene_after, with_local, Reduces}
use Rattle.tp_scene.specs.Laws.{IsSound}
use Rattle.tp_scene.proofs.NewFacts.{IsOfVariables, picked_facts}
use Rattle.tp_step_laws.specs.Edits.{Edit, head_after, edited, single, Thing, of_leaf, of_holder, At, edit_of}
use Rattle.tp_step_laws.specs.Rows.{IsFailure}
use Rattle.tp_step_laws.specs.Renaming.{renamed_region, renamed_reduction}
use Rattle.tp_step_laws.specs.Maps.{Renaming}
use Rattle.tp_step_laws.specs.Alike.{AlikeBy}
use Rattle.tp_step_laws.specs.Orders.{IsOrderly, MeetsFailure, BothOrders, FailuresAreMutual, Commute}
use Rattle.tp_step_laws.proofs.Orderly.{steps_stay_orderly}
use Rattle.tp_step_laws.proofs.FactsGrow.{kept_before}
use Rattle.tp_step_laws.proofs.Fuse.{edits_commute}
use Rattle.tp_step_laws.proofs.Stay.{like_same, grows_same}
use Rattle.tp_step_laws.proofs.Bridge.{at_live, put_is_edit}
use Rattle.tp_step_laws.proofs.Where.{picked, Owed, owed, at_calm, item_below}
use Rattle.tp_step_laws.proofs.Again.{fresh, SameStep, Again, Moves, moves, again, stays, thing_again, knows_after}
use Rattle.tp_step_laws.proofs.Swap.{beyond, MadeAlike, head_to, edited_to}
use Rattle.tp_step_laws.proofs.Blocks.{count_local, locals_count, block, next_items, next_regions, fixed_facts, kept_less, alike_facts, either_kept, KnowsThree, same_three, locals_moved}
use Rattle.tp_step_laws.proofs.Diamond.{sound, n, es, at_root, fi, fl, globals_fixed, es_fixed, head_fixed, renumber, edits_alike, edits_back, result, like_made}

-- a region after an edit
abbrev pub after : ℕ → Edit → Region → Region
after t e r = record { head = head_after (single t e) r.entries r.head; entries = edited (single t e) r.entries }

after_to : (ρ : Renaming) (t : ℕ) (e f : Edit) → f.mark ≡ e.mark → (r : Region) (x : Thing) (q p : Place) → At t x q r.entries p → MadeAlike ρ x e f → renamed_region ρ (after t e r) ≡ after (ρ.item.to t) f (renamed_region ρ r)
after_to ρ t e f mark r x q p at made = λ j. record { head = head_to ρ t e f mark r.entries r.head j; entries = edited_to ρ t e f mark r.entries x q p at made j }

same_mark : (ρ : Renaming) (x : Thing) (a b : Numbers) (r : Reduction) → (edit_of x b (renamed_reduction ρ r)).mark ≡ (edit_of x a r).mark
same_mark ρ (of_leaf l) a b r = refl
same_mark ρ (of_holder k held) a b r = refl

module _ (w : Setting) (kinds : List Bool) (m : Moment) (orderly : IsOrderly w kinds m) where
  abbrev pub S : IsSound w kinds m
  S = sound w kinds m orderly

  abbrev pub N : Numbers
  N = n w kinds m orderly

  abbrev pub ES : Entries
  ES = es w kinds m orderly

  abbrev pub P : Place
  P = at_root w kinds m orderly

  pub facts_of : (t : ℕ) (r : Reduction) → pick w m.store.facts t ES P N ≡ reduces r → AreOfVariables m.store.variables r.facts
  facts_of t r e = subst (λ (o : PickOutcome). IsOfVariables m.store.facts kinds m.store.variables (λ x h. S.store.globals x.number x.lasting h) o) e
      (picked_facts m.store.facts kinds m.store.variables (λ x h. S.store.globals x.number x.lasting h) w S.definitions t ES P N S.moment.entries)

  -- Said of the item t, whose step leads to `a`, and of the item u, which has a step too.
  module _ (t u : ℕ) (ne : t ≢ u) (r s : Reduction) (a : Moment) (step : Reduces w m t r a) (live : has u ES ≡ true) (out : pick w m.store.facts u ES P N ≡ reduces s) (oa : IsOrderly w kinds a) where
    abbrev pub v : Moves w kinds m S t u r a
    v = moves w kinds m S t u ne r a step live

    abbrev pub na : Numbers
    na = numbers_of a.scene a.store.variables

    abbrev pub sa : Reduction
    sa = renamed_reduction (block m s r) s

    abbrev pub e : Edit
    e = edit_of v.thing N r

    abbrev pub fa : Edit
    fa = edit_of v.other na sa

    pub out_there : pick w m.store.facts u ES P na ≡ reduces sa
    out_there = renumber w kinds m orderly s r u t a live out step

    abbrev pub Result : Type 0
    Result = (x : Reduction) × (outcome_of w a.store a.scene u ≡ reduces x) × SameStep a.store.facts v.other v.there.thing na sa x

    pub half : Result ⊎ IsFailure (outcome_of w a.store a.scene u)
    half = result a.store.facts v.other v.there.thing na sa (outcome_of w a.store a.scene u)
        (subst (λ (o : PickOutcome). Again a.store.facts v.other v.there.thing na o (outcome_of w a.store a.scene u)) out_there (again w kinds m S t u r a step oa.sound oa.lengths v na))

    pub lives_there : has u a.scene.root.entries ≡ true
    lives_there = at_live u a.scene.root.entries v.there.thing v.there.place (root_place a.scene.root) v.there.at

    -- what the other one owes of t
    pub fresh_a : (i : ℕ) → eqb (na.item i) t ≡ false
    fresh_a i = let q = next_items w m t r r a step in let z : i + (m.scene.next_item + r.items) ≡ i + a.scene.next_item = omega (arith, q) in ap (λ j. eqb j t) (sym z) ∙ fresh w kinds m S t step.lives r.items i

    pub owes : Owed w m.store.facts na t fresh_a v.other sa
    owes = owed w m.store.facts na t fresh_a v.other v.other_place (pick w m.store.facts u ES P na) sa (picked w m.store.facts na u ES v.other v.other_place P v.other_at) out_there

    module _ (x : Result) where
      abbrev pub both : Moment
      both = record { scene = scene_after u x.0 a.scene; store = record { facts = a.store.facts ++ x.0.facts; variables = with_local x.0.local a.store.variables } }

      pub both_step : Reduces w a u x.0 both
      both_step = record { lives = lives_there; outcome = x.1; scene = refl; store = record { kept = λ p. refl; no_clash = x.2.facts.apart; variables = refl } }

      pub both_root : both.scene.root ≡ after u fa (after t e m.scene.root)
      both_root =
          let p = put_is_edit w a.store.facts u na x.0 a.scene.root.entries (root_place a.scene.root) v.there.thing v.there.place v.there.at x.1 in
          (λ j. record { head = p.1 a.scene.root.head j; entries = p.0 j })
          ∙ ap (λ (f : Edit). after u f a.scene.root) x.2.edit
          ∙ ap (after u fa) v.root

      pub both_items : both.scene.next_item ≡ m.scene.next_item + r.items + s.items
      both_items = let q = next_items w m t r r a step in let z = x.2.items in omega (arith, q, z)

      pub both_regions : both.scene.next_region ≡ m.scene.next_region + r.regions + s.regions
      both_regions = let q = next_regions w m t r r a step in let z = x.2.regions in omega (arith, q, z)

      pub both_variables : both.store.variables ≡ with_local s.local (with_local r.local m.store.variables)
      both_variables = ap₂ with_local x.2.local step.store.variables

      own_facts : (p : Path) (sh : Shape) → kept_shape r.facts p ≡ Some sh → kept_shape (m.store.facts ++ r.facts) p ≡ Some sh
      own_facts =
          let calm = at_calm w.defs kinds m.store.variables t ES v.thing v.place P v.at S.moment.entries in
          let o = pick w m.store.facts t ES P N in
          let g : Again m.store.facts v.thing v.thing N o o = thing_again w m.store.facts m.store.facts S.store.no_clash S.store.no_clash (λ p sh h. h) orderly.lengths N v.thing v.thing v.place v.place (like_same v.thing) (grows_same v.place) calm.0 calm.1 o o
          (picked w m.store.facts N t ES v.thing v.place P v.at) (picked w m.store.facts N t ES v.thing v.place P v.at) in
          let h : Again m.store.facts v.thing v.thing N (reduces r) (reduces r) = subst (λ (o : PickOutcome). Again m.store.facts v.thing v.thing N o o) step.outcome g in
          h.facts.each

      pub same_facts : sa.facts ≡ s.facts
      same_facts = fixed_facts m.store.variables (block m s r) (fl w kinds m orderly s r) s.facts (facts_of u s out)

      pub three : KnowsThree m.store.facts r.facts s.facts both.store.facts
      three = record {
        one = λ p sh h. kept_before a.store.facts x.0.facts p sh (knows_after w kinds m S r a step.store p sh h);
        two = λ p sh h. kept_before a.store.facts x.0.facts p sh (step.store.kept p ∙ own_facts p sh h);
        three = λ p sh h. x.2.facts.each p sh (ap (λ l. kept_shape l p) same_facts ∙ h);
        from = λ p sh h. elim (either_kept a.store.facts sa.facts p sh (sym (x.2.facts.shapes p) ∙ h)) [
          | inl i ↦ elim (either_kept m.store.facts r.facts p sh (sym (step.store.kept p) ∙ i)) [ inl j ↦ inl j | inr j ↦ inr (inl j) ]
          | inr i ↦ inr (inr (ap (λ l. kept_shape l p) (sym same_facts) ∙ i))
        ];
      }

  module _ (t u : ℕ) (ne : t ≢ u) (en : u ≢ t) (r s : Reduction) (a b : Moment) (st : Reduces w m t r a) (su : Reduces w m u s b) (oa : IsOrderly w kinds a) (ob : IsOrderly w kinds b) where
    abbrev pub σ : Renaming
    σ = block m r s

    abbrev pub A : Moves w kinds m S t u r a
    A = v t u ne r s a st su.lives su.outcome oa

    abbrev pub FA : Edit
    FA = fa t u ne r s a st su.lives su.outcome oa

    abbrev pub F : Edit
    F = edit_of A.other N s

    abbrev pub EB : Edit
    EB = fa u t en s r b su st.lives st.outcome ob

    abbrev pub E : Edit
    E = e t u ne r s a st su.lives su.outcome oa

    tu : eqb t u ≡ false
    tu = false_from_ne_true (eqb t u) (λ q. ne (eqb-true t u q))

    ut : eqb u t ≡ false
    ut = false_from_ne_true (eqb u t) (λ q. en (eqb-true u t q))

    pub swapped_root : after u FA (after t E m.scene.root) ≡ after t E (after u FA m.scene.root)
    swapped_root = let c = edits_commute t u E FA tu (A.natural FA) ((owes t u ne r s a st su.lives su.outcome oa).natural E) ES m.scene.root.head in λ j. record { head = c.1 j; entries = c.0 j }

    root_fixed : renamed_region σ m.scene.root ≡ m.scene.root
    root_fixed = λ j. record { head = head_fixed w kinds m orderly r s j; entries = es_fixed w kinds m orderly r s j }

    inner : renamed_region σ (after u FA m.scene.root) ≡ after u F m.scene.root
    inner =
        after_to σ u FA F (sym (same_mark (block m s r) A.other N (numbers_of a.scene a.store.variables) s)) m.scene.root A.other A.other_place P A.other_at (edits_back w kinds m orderly s r u t a A.other A.other_place A.other_at su.outcome st)
        ∙ (λ j. after (fi w kinds m orderly r s u (item_small u su.lives) j) F (root_fixed j))
      where
        item_small : (i : ℕ) → has i ES ≡ true → i < m.scene.next_item
        item_small i h = item_below m.scene.next_item i ES S.moment.items h

    pub outer : renamed_region σ (after t E (after u FA m.scene.root)) ≡ after t EB (after u F m.scene.root)
    outer =
        let z = stays u t ut m.scene.root.head ES FA (owes t u ne r s a st su.lives su.outcome oa).new A.other A.other_place A.other_at (owes t u ne r s a st su.lives su.outcome oa).carry A.thing A.place A.at in
        after_to σ t E EB (same_mark σ A.thing N (numbers_of b.scene b.store.variables) r) (after u FA m.scene.root) z.thing z.place (root_place (after u FA m.scene.root)) z.at
        (like_made σ A.thing z.thing E EB z.like (edits_alike w kinds m orderly r s t u b A.thing A.place A.at st.outcome su))
        ∙ (λ j. after (fi w kinds m orderly r s t (item_below m.scene.next_item t ES S.moment.items st.lives) j) EB (inner j))

    module _ (x : Result t u ne r s a st su.lives su.outcome oa) (y : Result u t en s r b su st.lives st.outcome ob) where
      abbrev first : Moment
      first = both t u ne r s a st su.lives su.outcome oa x

      abbrev second : Moment
      second = both u t en s r b su st.lives st.outcome ob y

      roots : second.scene.root ≡ renamed_region σ first.scene.root
      roots = both_root u t en s r b su st.lives st.outcome ob y ∙ sym (ap (renamed_region σ) (both_root t u ne r s a st su.lives su.outcome oa x ∙ swapped_root) ∙ outer)

      pub orders_alike : AlikeBy (length kinds) σ first second
      orders_alike =
          let i = both_items t u ne r s a st su.lives su.outcome oa x in
          let i' = both_items u t en s r b su st.lives st.outcome ob y in
          let g = both_regions t u ne r s a st su.lives su.outcome oa x in
          let g' = both_regions u t en s r b su st.lives st.outcome ob y in
          let k = both_variables t u ne r s a st su.lives su.outcome oa x in
          let k' = both_variables u t en s r b su st.lives st.outcome ob y in
          let c = ap length k ∙ locals_count s.local (with_local r.local m.store.variables) in
          let c' = ap length k' ∙ locals_count r.local (with_local s.local m.store.variables) in
          let d = locals_count r.local m.store.variables in
          let d' = locals_count s.local m.store.variables in
          let three_first = three t u ne r s a st su.lives su.outcome oa x in
          let three_second = three u t en s r b su st.lives st.outcome ob y in
          record {
            root = roots;
            next_item = omega (arith, i, i');
            next_region = omega (arith, g, g');
            count = omega (arith, c, c', d, d');
            variables = λ j. ap (λ (l : List Variable). slice_get l (σ.local.to j)) k' ∙ locals_moved m.store.variables r.local s.local j ∙ ap (λ (l : List Variable). slice_get l j) (sym k);
            facts = alike_facts m.store.variables σ (fl w kinds m orderly r s) first.store.facts second.store.facts (same_three m.store.facts r.facts s.facts first.store.facts second.store.facts three_first three_second)
                (λ p sh h. elim (three_first.from p sh h) [
                  | inl q ↦ kept_less m.store.variables m.store.facts S.store.facts p sh q
                  | inr q ↦ elim q [ inl z ↦ kept_less m.store.variables r.facts (facts_of t r st.outcome) p sh z | inr z ↦ kept_less m.store.variables s.facts (facts_of u s su.outcome) p sh z ]
                ]);
            items_fixed = λ j h. beyond m.scene.next_item r.items s.items j (omega (arith, h, i));
            regions_fixed = λ j h. beyond m.scene.next_region r.regions s.regions j (omega (arith, h, g));
            locals_fixed = λ j h. beyond (length m.store.variables) (count_local r.local) (count_local s.local) j (omega (arith, h, c, d));
            globals_fixed = globals_fixed w kinds m orderly r s;
          }

      pub orders : BothOrders w (length kinds) a b t u
      orders = record {
        first = first;
        second = second;
        then_other = (x.0, both_step t u ne r s a st su.lives su.outcome oa x);
        other_then = (y.0, both_step u t en s r b su st.lives st.outcome ob y);
        alike = (σ, orders_alike);
      }

pub commute : FailuresAreMutual → Commute
commute each w kinds m a b t u ne orderly st su =
    let en : u ≢ t = λ q. ne (sym q) in
    let oa = steps_stay_orderly w kinds m t st.0 a orderly st.1 in
    let ob = steps_stay_orderly w kinds m u su.0 b orderly su.1 in
    elim (half w kinds m orderly t u ne st.0 su.0 a st.1 su.1.lives su.1.outcome oa) [
      | inl x ↦ elim (half w kinds m orderly u t en su.0 st.0 b su.1 st.1.lives st.1.outcome ob) [
        | inl y ↦ inl (orders w kinds m orderly t u ne en st.0 su.0 a b st.1 su.1 oa ob x y)
        | inr bad ↦ (let z : MeetsFailure w b t = (lives_there w kinds m orderly u t en su.0 st.0 b su.1 st.1.lives st.1.outcome ob, bad) in inr (each w kinds m b a u t en orderly su st z, z))
      ]
      | inr bad ↦ (let z : MeetsFailure w a u = (lives_there w kinds m orderly t u ne st.0 su.0 a st.1 su.1.lives su.1.outcome oa, bad) in inr (z, each w kinds m a b t u ne orderly st su z))
    ]
