-- A step without a mark makes known no end of a region that was live.
use Rattle.std.proofs.Common.{◌≡◌, ◌⊎◌, inl, inr, ℕ, suc, ◌+◌, ◌≤◌, Bool, true, false, ◌||◌, ◌&&◌, cond, eqb, List, [], ◌∷◌, Some, None, refl, ap, sym, ◌∙◌, subst, arith}
use Rattle.std.proofs.lemmas.Bool.{cond_both, or_cases, or_left, or_right, and_parts, and_from, both_ways, false≢true}
use Rattle.tp_value.specs.declared.path.Fact.{Fact}
use Rattle.tp_store.specs.Known.{Variable}
use Rattle.tp_scene.specs.Scene.{Side, Ending, Going, Head, marked, Leaf, Holder, Split, SplitProject, Closed, Opened, Running, Entries, none, leaf, node, new_head, no_region, second_lives, append, rises, risen, Region, Place, root_place, held_place, second_place}
use Rattle.tp_scene.specs.Regions.{past_leaf, past_node}
use Rattle.tp_scene.specs.Step.{Reduction, PickOutcome, reduces, waits, rests, clashes, misses, passes, Numbers, leaf_step, holder_step}
use Rattle.tp_scene.specs.Pick.{Setting, Moment, Reduces, numbers_of}
use Rattle.tp_scene.specs.Fits.{Dormant, EntriesFit, second_number, region_numbers}
use Rattle.tp_scene.specs.Laws.{IsSound}
use Rattle.tp_scene.proofs.Frame.{region}
use Rattle.tp_scene.proofs.Count.{one_if, count, count_first, one_there, numbers_once}
use Rattle.tp_scene.proofs.PutNumbers.{regions, regions_node}
use Rattle.tp_scene.proofs.Keep.{live_fits}
use Rattle.tp_scene.proofs.Plain.{FreshLeaves, IsNewHolder, Plain, IsPlain, leaf_plain}
use Rattle.tp_scene.proofs.PutStatus.{dormant_head, dormant_risen}
use Rattle.tp_scene.proofs.Standing.{live_number, StandsIn, standing_counted, standing_from_root}
use Rattle.tp_scene.proofs.KnownEnds.{KnownIn, KnownAt, known_counted, number_in, end_known}
use Rattle.tp_scene.proofs.KnownStays.{More, held_more, second_more, known_more, known_end}
use Rattle.tp_step_laws.specs.Rows.{holder_make}
use Rattle.tp_step_laws.specs.Edits.{Edit, is_side, sets, marks, head_after, edited, single, Thing, of_leaf, of_holder, At, this_leaf, past_leaf, this_node, in_first, in_second, past_node, edit_of}
use Rattle.tp_step_laws.specs.Unmarked.{UnmarkedStepsEndNothing}
use Rattle.tp_step_laws.proofs.Stay.{absent_head, absent}
use Rattle.tp_step_laws.proofs.Where.{Picked}
use Rattle.tp_step_laws.proofs.PickedItem.{PickedItem, picked_item}

-- Said of one number of a region.
module _ (r : ℕ) where
  -- a live region that stands there has this number
  abbrev LiveIn : Entries → Place → Type 0
  LiveIn = StandsIn (λ (q : Place). q.region ≡ r)

  live_counted : (es : Entries) (p : Place) → LiveIn es p → 1 ≤ regions r es
  live_counted = standing_counted (λ (q : Place). q.region ≡ r) r (λ q e. e)

  -- no dormant region that stands there has it
  abbrev Awake : Entries → Type 0
  Awake none = Unit {0}
  Awake (leaf id l rest) = Awake rest
  Awake (node id k h held g second rest) =
      (second_lives k ≡ false → (count r (second_number k g) ≡ 0) × (regions r second ≡ 0)) × Awake held × Awake second × Awake rest

  awake_none : (es : Entries) → regions r es ≡ 0 → Awake es
  awake_none none e = tt
  awake_none (leaf id l rest) e = awake_none rest e
  awake_none (node id k h held g second rest) e =
      let n = regions_node r id k h held g second rest in
      ((λ _. (omega (arith, n, e), omega (arith, n, e))), awake_none held (omega (arith, n, e)), awake_none second (omega (arith, n, e)), awake_none rest (omega (arith, n, e)))

  awake_live : (es : Entries) (p : Place) → regions r es ≤ 1 → LiveIn es p → Awake es
  awake_live none p most x = tt
  awake_live (leaf id l rest) p most x = awake_live rest p most x
  awake_live (node id k h held g second rest) p most x =
      let n = regions_node r id k h held g second rest in
      elim x [
        | inl y ↦ elim y [
          | inl u ↦ (let o = one_there r h.number (sym u) in
              ((λ _. (omega (arith, n, o, most), omega (arith, n, o, most))), awake_none held (omega (arith, n, o, most)), awake_none second (omega (arith, n, o, most)), awake_none rest (omega (arith, n, o, most))))
          | inr u ↦ (let i = live_counted held _ u in
              ((λ _. (omega (arith, n, i, most), omega (arith, n, i, most))), awake_live held _ (omega (arith, n, most)) u, awake_none second (omega (arith, n, i, most)), awake_none rest (omega (arith, n, i, most))))
        ]
        | inr y ↦ elim y [
          | inl v ↦ (let live = live_number r k g v.0 in elim (v.1) [
            | inl u ↦ (let o = one_there r g.number (sym u) in
                ((λ e. absurd (both_ways (second_lives k) e v.0)), awake_none held (omega (arith, n, live, o, most)), awake_none second (omega (arith, n, live, o, most)), awake_none rest (omega (arith, n, live, o, most))))
            | inr u ↦ (let i = live_counted second _ u in
                ((λ e. absurd (both_ways (second_lives k) e v.0)), awake_none held (omega (arith, n, i, most)), awake_live second _ (omega (arith, n, most)) u, awake_none rest (omega (arith, n, i, most))))
          ])
          | inr v ↦ (let i = live_counted rest p v in
              ((λ _. (omega (arith, n, i, most), omega (arith, n, i, most))), awake_none held (omega (arith, n, i, most)), awake_none second (omega (arith, n, i, most)), awake_live rest p (omega (arith, n, most)) v))
        ]
      ]

-- which holder has a step, by the place of the region that it holds
abbrev CanStep : Holder → Place → Type 0
CanStep (Split f env) held = held.is Ending ≡ true
CanStep (SplitProject f env) held = held.is Ending ≡ true
CanStep Closed held = ⊥
CanStep (Opened f env) held = Unit {0}
CanStep (Running f env) held = ⊥

abbrev StepsIf : Type 0 → PickOutcome → Type 0
StepsIf X (reduces s) = X
StepsIf X (waits first other) = Unit {0}
StepsIf X rests = Unit {0}
StepsIf X (clashes c) = Unit {0}
StepsIf X (misses port) = Unit {0}
StepsIf X (passes k) = Unit {0}

can_step : (w : Setting) (facts : List Fact) (k : Holder) (a b : Region) (held : Place) (n : Numbers) → StepsIf (CanStep k held) (holder_step w.defs w.inputs w.state facts k a b held n)
can_step w facts (Split f env) a b held n = cond_both (held.is Going) _ _ (StepsIf (CanStep (Split f env) held)) (λ _. tt) (λ _. cond_both (held.is Ending) _ _ (StepsIf (CanStep (Split f env) held)) (λ e. e) (λ _. tt))
can_step w facts (SplitProject f env) a b held n = cond_both (held.is Going) _ _ (StepsIf (CanStep (SplitProject f env) held)) (λ _. tt) (λ _. cond_both (held.is Ending) _ _ (StepsIf (CanStep (SplitProject f env) held)) (λ e. e) (λ _. tt))
can_step w facts Closed a b held n = tt
can_step w facts (Opened f env) a b held n = cond_both (held.is Going) _ _ (StepsIf (CanStep (Opened f env) held)) (λ _. tt) (λ _. cond_both (held.is Ending) _ _ (StepsIf (CanStep (Opened f env) held)) (λ _. tt) (λ _. tt))
can_step w facts (Running f env) a b held n = tt

-- An edit without a mark leaves the heads of regions.
module _ (t : ℕ) (e : Edit) (unmarked : e.mark ≡ None) where
  sets_none : (y : Side) (b : Bool) → sets y (cond b (Some e) None) ≡ false
  sets_none Ending true = ap (is_side Ending) unmarked
  sets_none Going true = ap (is_side Going) unmarked
  sets_none y false = refl

  marks_none : (es : Entries) (y : Side) → marks (single t e) y es ≡ false
  marks_none none y = refl
  marks_none (leaf id l rest) y = rw (sets_none y (eqb id t)) (marks_none rest y)
  marks_none (node id k h i g s rest) y = rw (sets_none y (eqb id t)) (marks_none rest y)

  same_head : (es : Entries) (h : Head) → head_after (single t e) es h ≡ h
  same_head es h = λ x. record {
    number = h.number;
    ends = (ap (λ b. h.ends || b) (marks_none es Ending) ∙ or_none h.ends) x;
    goes = (ap (λ b. h.goes || b) (marks_none es Going) ∙ or_none h.goes) x;
  }
    where
      or_none : (b : Bool) → (b || false) ≡ b
      or_none true = refl
      or_none false = refl

unmarked_head : (n : ℕ) (y : Side) → marked y (new_head n) ≡ false
unmarked_head n Ending = refl
unmarked_head n Going = refl

or_goes : (a b c d : Bool) → (a ≡ true → c ≡ true) → (b ≡ true → d ≡ true) → (a || b) ≡ true → (c || d) ≡ true
or_goes a b c d f g e = elim (or_cases a b e) [ inl x ↦ or_left c d (f x) | inr x ↦ or_right c d (g x) ]

and_goes : (a b d : Bool) → (b ≡ true → d ≡ true) → (a && b) ≡ true → (a && d) ≡ true
and_goes a b d g e = let x = and_parts a b e in and_from a d x.0 (g x.1)

-- new leaves, and a new region, raise and hold nothing
leaves_risen : (n : Numbers) (from to : ℕ) (es rest : Entries) (y : Side) → FreshLeaves n from es to → risen y (append es rest) ≡ risen y rest
leaves_risen n from to none rest y h = refl
leaves_risen n from to (leaf id l es) rest y h = leaves_risen n (suc from) to es rest y h.1
leaves_risen n from to (node id k hd i g s es) rest y h = absurd h

region_risen : (k : Holder) → IsNewHolder k → (a b c : ℕ) (l : Leaf) (rest : Entries) (y : Side) → risen y (node a k (new_head c) (leaf b l none) no_region none rest) ≡ risen y rest
region_risen (Split f env) h a b c l rest Ending = refl
region_risen (Split f env) h a b c l rest Going = refl
region_risen (SplitProject f env) h a b c l rest y = absurd h
region_risen Closed h a b c l rest y = absurd h
region_risen (Opened f env) h a b c l rest Ending = refl
region_risen (Opened f env) h a b c l rest Going = refl
region_risen (Running f env) h a b c l rest y = absurd h

plain_risen : (p : Place) (n : Numbers) (s : Reduction) → Plain p n s → (rest : Entries) (y : Side) → risen y (append s.news rest) ≡ risen y rest
plain_risen p n s h rest y = elim (h.news) [
  | inl a ↦ leaves_risen n 0 s.items s.news rest y a.0
  | inr a ↦ ap (λ (es : Entries). risen y (append es rest)) a.0.is ∙ region_risen a.0.holder a.0.is_new (n.item 1) (n.item 0) n.region a.0.item rest y
]

-- Said of a number that isn't that of a new region, and of a side.
module _ (n : Numbers) (r : ℕ) (z : Side) (old : n.region ≡ r → ⊥) where
  leaves_known : (from to : ℕ) (es rest : Entries) (p : Place) → FreshLeaves n from es to → KnownIn r z (append es rest) p → KnownIn r z rest p
  leaves_known from to none rest p h x = x
  leaves_known from to (leaf id l es) rest p h x = leaves_known (suc from) to es rest p h.1 x
  leaves_known from to (node id k hd i g s es) rest p h x = absurd h

  new_known : (k : Holder) → IsNewHolder k → (a b : ℕ) (l : Leaf) (rest : Entries) (p : Place) → KnownIn r z (node a k (new_head n.region) (leaf b l none) no_region none rest) p → KnownIn r z rest p
  new_known (Split f env) h a b l rest p x = elim x [
    | inl y ↦ elim y [ inl u ↦ absurd (old u.0) | inr u ↦ absurd u ]
    | inr y ↦ elim y [ inl u ↦ absurd (false≢true u.0) | inr u ↦ u ]
  ]
  new_known (SplitProject f env) h a b l rest p x = absurd h
  new_known Closed h a b l rest p x = absurd h
  new_known (Opened f env) h a b l rest p x = elim x [
    | inl y ↦ elim y [ inl u ↦ absurd (old u.0) | inr u ↦ absurd u ]
    | inr y ↦ elim y [ inl u ↦ absurd (false≢true u.0) | inr u ↦ u ]
  ]
  new_known (Running f env) h a b l rest p x = absurd h

  plain_known : (q : Place) (s : Reduction) → Plain q n s → (rest : Entries) (p : Place) → KnownIn r z (append s.news rest) p → KnownIn r z rest p
  plain_known q s h rest p x = elim (h.news) [
    | inl a ↦ leaves_known 0 s.items s.news rest p a.0 x
    | inr a ↦ new_known a.0.holder a.0.is_new (n.item 1) (n.item 0) a.0.item rest p (subst (λ (es : Entries). KnownIn r z (append es rest) p) a.0.is x)
  ]

module _ (w : Setting) (kinds : List Bool) (variables : List Variable) (n : Numbers) where
  -- what a holder becomes raises nothing new
  holder_risen : (k : Holder) (id : ℕ) (h : Head) (i : Entries) (g : Head) (s rest : Entries) (p : Place) → CanStep k (held_place k h i p) → EntriesFit w.defs kinds variables (node id k h i g s rest) p
      → (y : Side) → risen y (append (holder_make k n h i g s) rest) ≡ true → risen y (node id k h i g s rest) ≡ true
  holder_risen (Split f env) id h i g s rest p can fit y e = or_right (rises (Split f env) y && (marked y h || risen y i)) (risen y rest) e
  holder_risen (SplitProject f env) id h i g s rest p can fit y e =
      let dormant : Dormant g s = fit.0.1.0 in
      or_right (rises (SplitProject f env) y && (marked y h || risen y i)) (risen y rest) (rw (dormant_head g s dormant y, dormant_risen g s dormant y) at e)
  holder_risen Closed id h i g s rest p can fit y e = absurd can
  holder_risen (Opened f env) id h i g s rest p can fit Ending e = e
  holder_risen (Opened f env) id h i g s rest p can fit Going e = e
  holder_risen (Running f env) id h i g s rest p can fit y e = absurd can

  module _ (r : ℕ) (z : Side) (old : n.region ≡ r → ⊥) where
    -- a region that is known in a place is known in one that is more
    known_on : (h : Head) (es : Entries) (p' p : Place) → More p' p → ((h.number ≡ r) × (p'.is z ≡ true)) ⊎ KnownIn r z es p' → ((h.number ≡ r) × (p.is z ≡ true)) ⊎ KnownIn r z es p
    known_on h es p' p more (inl u) = inl (u.0, more z u.1)
    known_on h es p' p more (inr u) = inr (known_more r z es p' p more u)

    closed_less : (k : Holder) (h : Head) (i : Entries) (p' p : Place) → (held_place k h i p).is Ending ≡ true → ((marked Going h || risen Going i) ≡ true → (held_place k h i p).is Going ≡ true) → More (held_place Closed h i p') (held_place k h i p)
    closed_less k h i p' p ends goes Ending e = ends
    closed_less k h i p' p ends goes Going e = goes e

    holder_known : (k : Holder) (id : ℕ) (h : Head) (i : Entries) (g : Head) (s rest : Entries) (p' p : Place) → CanStep k (held_place k h i p) → Awake r (node id k h i g s rest) → More p' p
        → KnownIn r z (append (holder_make k n h i g s) rest) p' → KnownIn r z (node id k h i g s rest) p
    holder_known (Split f env) id h i g s rest p' p can awake more x = elim x [
      | inl y ↦ inl (known_on h i (held_place Closed h i p') (held_place (Split f env) h i p) (closed_less (Split f env) h i p' p can (λ e. e)) y)
      | inr y ↦ elim y [ inl u ↦ absurd (false≢true u.0) | inr u ↦ inr (inr (known_more r z rest p' p more u)) ]
    ]
    holder_known (SplitProject f env) id h i g s rest p' p can awake more x =
        let free = awake.0 refl in
        elim x [
          | inl y ↦ inl (known_on h i (held_place Closed h i p') (held_place (SplitProject f env) h i p) (closed_less (SplitProject f env) h i p' p can (λ e. e)) y)
          | inr y ↦ elim y [
            | inl u ↦ absurd (false≢true u.0)
            | inr u ↦ elim u [
              | inl v ↦ elim v [
                | inl a ↦ (let o = one_there r g.number (sym a.0) in let f = count_first r g.number [] in let zero = free.0 in absurd (omega (arith, o, f, zero)))
                | inr a ↦ (let c = known_counted r z s _ a in let zero = free.1 in absurd (omega (arith, c, zero)))
              ]
              | inr v ↦ elim v [ inl a ↦ absurd (false≢true a.0) | inr a ↦ inr (inr (known_more r z rest p' p more a)) ]
            ]
          ]
        ]
    holder_known Closed id h i g s rest p' p can awake more x = absurd can
    holder_known (Opened f env) id h i g s rest p' p can awake more x = elim x [
      | inl y ↦ elim y [ inl u ↦ absurd (old u.0) | inr u ↦ absurd u ]
      | inr y ↦ elim y [
        | inl u ↦ inl (known_on h i (second_place h i p') (held_place (Opened f env) h i p) (λ a e. or_goes (p'.is a) _ (p.is a) _ (more a) (λ b. b) e) u.1)
        | inr u ↦ inr (inr (known_more r z rest p' p more u))
      ]
    ]
    holder_known (Running f env) id h i g s rest p' p can awake more x = absurd can

  -- Said of a reduction of the item t.
  module _ (facts : List Fact) (s : Reduction) (unmarked : s.mark ≡ None) (t : ℕ) where
    abbrev edit : Thing → Edit
    edit x = edit_of x n s

    edit_unmarked : (x : Thing) → (edit x).mark ≡ None
    edit_unmarked (of_leaf l) = unmarked
    edit_unmarked (of_holder k held) = refl

    plain_of : (l : Leaf) (q : Place) → reduces s ≡ leaf_step w.defs w.inputs w.state facts l q n → Plain q n s
    plain_of l q e = subst (λ (o : PickOutcome). IsPlain facts q n o) (sym e) (leaf_plain facts q n w.defs w.inputs w.state l)

    can_of : (k : Holder) (held : Place) (q : Place) → Picked w facts n (of_holder k held) q (reduces s) → CanStep k held
    can_of k held q x = subst (λ (o : PickOutcome). StepsIf (CanStep k held) o) (sym x.4) (can_step w facts k (region x.0 x.1) (region x.2 x.3) held n)

    unrisen : (es : Entries) (x : Thing) (q p : Place) → At t x q es p → Picked w facts n x q (reduces s) → EntriesFit w.defs kinds variables es p → (y : Side) → risen y (edited (single t (edit x)) es) ≡ true → risen y es ≡ true
    unrisen none x q p at o fit y = elim at [ ]
    unrisen (leaf id l rest) x q p (this_leaf a b) o fit y = rw (a, absent t (edit (of_leaf l)) rest b) (λ e. sym (plain_risen p n s (plain_of l p o) rest y) ∙ e)
    unrisen (leaf id l rest) x q p (past_leaf a at) o fit y = rw a (unrisen rest x q p at o fit.1 y)
    unrisen (node id k h i g s' rest) x q p (this_node a b d f) o fit y =
        let e = edit (of_holder k (held_place k h i p)) in
        rw (a, absent_head t e i h b, absent t e i b, absent_head t e s' g d, absent t e s' d, absent t e rest f) (holder_risen k id h i g s' rest p (can_of k (held_place k h i p) p o) fit y)
    unrisen (node id k h i g s' rest) x q p (in_first a at d f) o fit y =
        let e = edit x in
        rw (a, same_head t e (edit_unmarked x) i h, absent_head t e s' g d, absent t e s' d, absent t e rest f)
        (or_goes _ _ (rises k y && (marked y h || risen y i)) _ (and_goes (rises k y) _ (marked y h || risen y i) (or_goes (marked y h) _ (marked y h) (risen y i) (λ b. b) (unrisen i x q _ at o fit.1 y))) (λ b. b))
    unrisen (node id k h i g s' rest) x q p (in_second a l b at f) o fit y =
        let e = edit x in
        rw (a, absent_head t e i h b, absent t e i b, same_head t e (edit_unmarked x) s' g, absent t e rest f)
        (or_goes (rises k y && (marked y h || risen y i)) _ (rises k y && (marked y h || risen y i)) _ (λ b. b)
        (or_goes _ (risen y rest) (second_lives k && (marked y g || risen y s')) (risen y rest)
        (and_goes (second_lives k) _ (marked y g || risen y s') (or_goes (marked y g) _ (marked y g) (risen y s') (λ b. b) (unrisen s' x q _ at o (live_fits w.defs kinds variables k i _ _ _ l fit.0) y))) (λ b. b)))
    unrisen (node id k h i g s' rest) x q p (past_node a b d at) o fit y =
        let e = edit x in
        rw (a, absent_head t e i h b, absent t e i b, absent_head t e s' g d, absent t e s' d)
        (or_goes (rises k y && (marked y h || risen y i)) _ (rises k y && (marked y h || risen y i)) _ (λ b. b)
        (or_goes (second_lives k && (marked y g || risen y s')) _ (second_lives k && (marked y g || risen y s')) (risen y rest) (λ b. b) (unrisen rest x q p at o fit.2 y)))

    module _ (r : ℕ) (z : Side) (old : n.region ≡ r → ⊥) where
      -- a holder that isn't picked, whose regions and whose neighbours know no more
      node_back : (k : Holder) (id : ℕ) (h : Head) (i i' : Entries) (g : Head) (s' s2 rest rest' : Entries) (p p' : Place) → More p' p
          → ((y : Side) → risen y i' ≡ true → risen y i ≡ true) → ((y : Side) → risen y s2 ≡ true → risen y s' ≡ true)
          → ((a : Place) → More a (held_place k h i p) → KnownIn r z i' a → KnownIn r z i (held_place k h i p))
          → ((a : Place) → second_lives k ≡ true → More a (second_place g s' p) → KnownIn r z s2 a → KnownIn r z s' (second_place g s' p))
          → (KnownIn r z rest' p' → KnownIn r z rest p)
          → KnownIn r z (node id k h i' g s2 rest') p' → KnownIn r z (node id k h i g s' rest) p
      node_back k id h i i' g s' s2 rest rest' p p' more ri rs bi bs br x =
          let in_held = held_more k h h i' i p' p more (λ y e. or_goes (marked y h) (risen y i') (marked y h) (risen y i) (λ b. b) (ri y) e) in
          let in_second = second_more g g s2 s' p' p more (λ y e. or_goes (marked y g) (risen y s2) (marked y g) (risen y s') (λ b. b) (rs y) e) in
          elim x [
            | inl y ↦ inl (elim y [ inl u ↦ inl (u.0, in_held z u.1) | inr u ↦ inr (bi _ in_held u) ])
            | inr y ↦ elim y [
              | inl v ↦ inr (inl (v.0, elim (v.1) [ inl u ↦ inl (u.0, in_second z u.1) | inr u ↦ inr (bs _ v.0 in_second u) ]))
              | inr v ↦ inr (inr (br v))
            ]
          ]

      known_back : (es : Entries) (x : Thing) (q p p' : Place) → At t x q es p → Picked w facts n x q (reduces s) → EntriesFit w.defs kinds variables es p → Awake r es → More p' p
          → KnownIn r z (edited (single t (edit x)) es) p' → KnownIn r z es p
      known_back none x q p p' at o fit awake more = elim at [ ]
      known_back (leaf id l rest) x q p p' (this_leaf a b) o fit awake more =
          rw (a, absent t (edit (of_leaf l)) rest b) (λ y. known_more r z rest p' p more (plain_known n r z old p s (plain_of l p o) rest p' y))
      known_back (leaf id l rest) x q p p' (past_leaf a at) o fit awake more = rw a (known_back rest x q p p' at o fit.1 awake more)
      known_back (node id k h i g s' rest) x q p p' (this_node a b d f) o fit awake more =
          let e = edit (of_holder k (held_place k h i p)) in
          rw (a, absent_head t e i h b, absent t e i b, absent_head t e s' g d, absent t e s' d, absent t e rest f) (holder_known r z old k id h i g s' rest p' p (can_of k (held_place k h i p) p o) awake more)
      known_back (node id k h i g s' rest) x q p p' (in_first a at d f) o fit awake more =
          let e = edit x in
          rw (a, same_head t e (edit_unmarked x) i h, absent_head t e s' g d, absent t e s' d, absent t e rest f)
          (node_back k id h i (edited (single t e) i) g s' s' rest rest p p' more (unrisen i x q _ at o fit.1) (λ y b. b)
          (λ a m y. known_back i x q (held_place k h i p) a at o fit.1 awake.1 m y) (λ a l m y. known_more r z s' a (second_place g s' p) m y) (known_more r z rest p' p more))
      known_back (node id k h i g s' rest) x q p p' (in_second a l b at f) o fit awake more =
          let e = edit x in
          let there = live_fits w.defs kinds variables k i _ _ _ l fit.0 in
          rw (a, absent_head t e i h b, absent t e i b, same_head t e (edit_unmarked x) s' g, absent t e rest f)
          (node_back k id h i i g s' (edited (single t e) s') rest rest p p' more (λ y b. b) (unrisen s' x q _ at o there)
          (λ a m y. known_more r z i a (held_place k h i p) m y) (λ a l m y. known_back s' x q (second_place g s' p) a at o there awake.2 m y) (known_more r z rest p' p more))
      known_back (node id k h i g s' rest) x q p p' (past_node a b d at) o fit awake more =
          let e = edit x in
          rw (a, absent_head t e i h b, absent t e i b, absent_head t e s' g d, absent t e s' d)
          (node_back k id h i i g s' s' rest (edited (single t e) rest) p p' more (λ y b. b) (λ y b. b)
          (λ a m y. known_more r z i a (held_place k h i p) m y) (λ a l m y. known_more r z s' a (second_place g s' p) m y) (known_back rest x q p p' at o fit.2 awake.3 more))

module _ (w : Setting) (kinds : List Bool) (m : Moment) (t : ℕ) (s : Reduction) (next : Moment) (sound : IsSound w kinds m) (step : Reduces w m t s next) (unmarked : s.mark ≡ None) where
  abbrev root : Head
  root = m.scene.root.head

  abbrev here : PickedItem w m t s next
  here = picked_item w kinds m t s next sound step

  abbrev e : Edit
  e = edit_of here.thing (numbers_of m.scene m.store.variables) s

  e_unmarked : e.mark ≡ None
  e_unmarked = edit_unmarked w kinds m.store.variables (numbers_of m.scene m.store.variables) m.store.facts s unmarked t here.thing

  abbrev after : Region
  after = record { head = head_after (single t e) m.scene.root.entries root; entries = edited (single t e) m.scene.root.entries }

  root_less : More (root_place after) (root_place m.scene.root)
  root_less y = or_goes (marked y (head_after (single t e) m.scene.root.entries root)) (risen y (edited (single t e) m.scene.root.entries)) (marked y root) (risen y m.scene.root.entries) (subst (λ (h : Head). marked y h ≡ true → marked y root ≡ true) (sym (same_head t e e_unmarked m.scene.root.entries root)) (λ b. b))
      (unrisen w kinds m.store.variables (numbers_of m.scene m.store.variables) m.store.facts s unmarked t m.scene.root.entries here.thing here.place (root_place m.scene.root) here.at here.gives sound.moment.entries y)

  once : (r : ℕ) → one_if r root.number + regions r m.scene.root.entries ≤ 1
  once r = let f = count_first r root.number (region_numbers m.scene.root.entries) in
      let most = (numbers_once m.scene.next_region (root.number ∷ region_numbers m.scene.root.entries) sound.moment.regions).once r in
      omega (arith, f, most)

  module _ (r : ℕ) (live : (root.number ≡ r) ⊎ LiveIn r m.scene.root.entries (root_place m.scene.root)) where
    awake : Awake r m.scene.root.entries
    awake = elim live [
      | inl y ↦ (let o = one_there r root.number (sym y) in let most = once r in awake_none r m.scene.root.entries (omega (arith, o, most)))
      | inr y ↦ (let most = once r in awake_live r m.scene.root.entries (root_place m.scene.root) (omega (arith, most)) y)
    ]

    counted : 1 ≤ one_if r root.number + regions r m.scene.root.entries
    counted = elim live [
      | inl y ↦ (let o = one_there r root.number (sym y) in omega (arith, o))
      | inr y ↦ (let c = live_counted r m.scene.root.entries (root_place m.scene.root) y in omega (arith, c))
    ]

    old : (numbers_of m.scene m.store.variables).region ≡ r → ⊥
    old same =
        let f = count_first r root.number (region_numbers m.scene.root.entries) in
        let c = counted in
        let below = (numbers_once m.scene.next_region (root.number ∷ region_numbers m.scene.root.entries) sound.moment.regions).under r (omega (arith, f, c)) in
        absurd (omega (arith, below, same))

    at_back : (z : Side) → KnownAt r z next.scene.root.entries (root_place next.scene.root) → KnownAt r z m.scene.root.entries (root_place m.scene.root)
    at_back z x = elim (subst (λ (a : Region). KnownAt r z a.entries (root_place a)) here.root_after x) [
      | inl y ↦ inl (y.0, root_less z y.1)
      | inr y ↦ inr (known_back w kinds m.store.variables (numbers_of m.scene m.store.variables) m.store.facts s unmarked t r z old m.scene.root.entries here.thing here.place (root_place m.scene.root) (root_place after) here.at here.gives sound.moment.entries awake root_less y)
    ]

pub unmarked_steps_end_nothing : UnmarkedStepsEndNothing
unmarked_steps_end_nothing w kinds m t s next sound step unmarked r depth live known =
    let stands = standing_from_root (λ (q : Place). q.region ≡ r) m.scene live.head live.entries live.region (inl (number_in m.scene live.head live.entries live.region ∙ live.numbered)) in
    known_end m.scene r known.side (at_back w kinds m t s next sound step unmarked r stands known.side (end_known next.scene r known))
