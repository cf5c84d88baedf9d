-- A decided cell stays decided: facts are kept, and a live region keeps its number and its status through every reduction.
use Rattle.std.proofs.Common.{◌≡◌, ◌⊎◌, ℕ, Bool, true, false, ◌||◌, ◌&&◌, cond, eqb, List, [], ◌∷◌, ◌++◌, Some, refl, sym, ◌∙◌, subst, inl, inr}
use Rattle.std.proofs.lemmas.Bool.{cond_both, cases_Bool, or_cases, or_left, or_right, and_parts, and_from, both_ways, cond-false, false≢true}
use Rattle.tp_value.specs.declared.value.Shape.{Shape}
use Rattle.tp_value.specs.declared.path.Path.{Path}
use Rattle.tp_value.specs.declared.path.Fact.{Fact}
use Rattle.tp_store.specs.Facts.{same_path, kept_shape}
use Rattle.tp_store.proofs.Members.{in_kept, kept_in, excluded_by, excluded_from}
use Rattle.tp_scene.specs.declared.answer.Cell.TheVariants.{Part, End}
use Rattle.tp_scene.specs.Scene.{Side, Ending, Going, Head, marked, Holder, Split, SplitProject, Closed, Opened, Running, Entries, none, leaf, node, Scene, second_lives, has, append, sinks, forced, risen, Place, root_place, held_place, second_place}
use Rattle.tp_scene.specs.Regions.{Role, left_region, closed_region, inner_region, outer_region, HoldsRegion, by_split, by_split_project, by_closed, by_opened, by_running, by_running_second, past_leaf, past_node, LiveRegion, the_root, the_held, IsTail, all_entries, after_leaf, after_node}
use Rattle.tp_scene.specs.RegionLaws.{place_through, computed_place}
use Rattle.tp_scene.specs.Step.{Reduction, PickOutcome, by_status, reduces, waits, rests, clashes, misses, passes, Numbers, leaf_step, holder_step}
use Rattle.tp_scene.specs.Pick.{Setting, pick, mark_at, put, numbers_of, scene_after}
use Rattle.tp_scene.specs.Cells.{IsKnownEnd}
use Rattle.tp_scene.specs.CellLaws.{DecidedStays}
use Rattle.tp_scene.proofs.Frame.{region}
use Rattle.tp_scene.proofs.Risen.{StatusKept, status_put, status_marked, pick_here, pick_second, pick_first, pick_later}
use Rattle.tp_scene.proofs.PutNumbers.{marked_number}
use Rattle.tp_scene.proofs.StatusRules.{held_by, status_is_least}
use Rattle.tp_scene.proofs.KnownEnds.{KnownIn, KnownAt, end_known}

-- what is so in the one place is so in the other
abbrev pub More : Place → Place → Type 0
More p p' = (x : Side) → p.is x ≡ true → p'.is x ≡ true

abbrev pub OwnMore : Head → Entries → Head → Entries → Type 0
OwnMore h es h' es' = (x : Side) → (marked x h || risen x es) ≡ true → (marked x h' || risen x es') ≡ true

pub held_more : (k : Holder) (h h' : Head) (held held' : Entries) (p p' : Place) → More p p' → OwnMore h held h' held' → More (held_place k h held p) (held_place k h' held' p')
held_more k h h' held held' p p' more own x e = elim (or_cases (sinks k x && p.is x) _ e) [
  | inl u ↦ (let v = and_parts (sinks k x) (p.is x) u in or_left (sinks k x && p'.is x) _ (and_from (sinks k x) (p'.is x) v.0 (more x v.1)))
  | inr u ↦ or_right (sinks k x && p'.is x) _ (elim (or_cases (forced k x) _ u) [ inl v ↦ or_left (forced k x) _ v | inr v ↦ or_right (forced k x) _ (own x v) ])
]

pub second_more : (g g' : Head) (second second' : Entries) (p p' : Place) → More p p' → OwnMore g second g' second' → More (second_place g second p) (second_place g' second' p')
second_more g g' second second' p p' more own x e = elim (or_cases (p.is x) _ e) [ inl u ↦ or_left (p'.is x) _ (more x u) | inr u ↦ or_right (p'.is x) _ (own x u) ]

module _ (r : ℕ) (z : Side) where
  pub known_more : (es : Entries) (p p' : Place) → More p p' → KnownIn r z es p → KnownIn r z es p'
  known_more none p p' more k = k
  known_more (leaf id l rest) p p' more k = known_more rest p p' more k
  known_more (node id k h held g second rest) p p' more x =
      let in_held = held_more k h h held held p p' more (λ y e. e) in
      let in_second = second_more g g second second p p' more (λ y e. e) in
      elim x [
        | inl y ↦ inl (elim y [ inl u ↦ inl (u.0, in_held z u.1) | inr u ↦ inr (known_more held (held_place k h held p) (held_place k h held p') in_held u) ])
        | inr y ↦ elim y [
          | inl v ↦ inr (inl (v.0, elim (v.1) [ inl u ↦ inl (u.0, in_second z u.1) | inr u ↦ inr (known_more second (second_place g second p) (second_place g second p') in_second u) ]))
          | inr v ↦ inr (inr (known_more rest p p' more v))
        ]
      ]

  known_append : (xs ys : Entries) (p : Place) → KnownIn r z ys p → KnownIn r z (append xs ys) p
  known_append none ys p k = k
  known_append (leaf id l rest) ys p k = known_append rest ys p k
  known_append (node id k h held g second rest) ys p x = inr (inr (known_append rest ys p x))

  -- a region that is known, of that place, is known in a place that is more
  region_more : (h h' : Head) (es : Entries) (p p' : Place) → h'.number ≡ h.number → More p p' → ((h.number ≡ r) × (p.is z ≡ true)) ⊎ KnownIn r z es p → ((h'.number ≡ r) × (p'.is z ≡ true)) ⊎ KnownIn r z es p'
  region_more h h' es p p' same more (inl u) = inl (same ∙ u.0, more z u.1)
  region_more h h' es p p' same more (inr u) = inr (known_more es p p' more u)

  module _ (w : Setting) (facts : List Fact) (n : Numbers) where
    -- what is known in a holder and behind it is known in what the holder becomes
    abbrev HolderKeeps : Entries → Entries → Place → Place → PickOutcome → Type 0
    HolderKeeps es rest p p' (reduces s) = KnownIn r z es p → KnownIn r z (append s.news rest) p'
    HolderKeeps es rest p p' (waits first other) = Unit {0}
    HolderKeeps es rest p p' rests = Unit {0}
    HolderKeeps es rest p p' (clashes c) = Unit {0}
    HolderKeeps es rest p p' (misses port) = Unit {0}
    HolderKeeps es rest p p' (passes k) = Unit {0}

    -- a region that ends and doesn't go is as it was when it is closed
    closed_more : (q : Place) (h : Head) (held : Entries) (p : Place) → q.is Going ≡ false → More q (held_place Closed h held p)
    closed_more q h held p g Ending e = refl
    closed_more q h held p g Going e = absurd (both_ways (q.is Going) g e)

    -- of a left region, which rests where it goes
    left_keeps : (es rest : Entries) (p p' q : Place) (o : PickOutcome) → (q.is Going ≡ false → HolderKeeps es rest p p' o) → HolderKeeps es rest p p' (by_status q rests o)
    left_keeps es rest p p' q o h =
        cond_both (q.is Going) _ _ (HolderKeeps es rest p p') (λ _. tt) (λ e. cond_both (q.is Ending) _ _ (HolderKeeps es rest p p') (λ _. h e) (λ _. tt))

    holder_keeps : (k : Holder) (id : ℕ) (h : Head) (held : Entries) (g : Head) (second rest : Entries) (p p' : Place) → More p p'
        → HolderKeeps (node id k h held g second rest) rest p p' (holder_step w.defs w.inputs w.state facts k (region h held) (region g second) (held_place k h held p) n)
    holder_keeps (Split f env) id h held g second rest p p' more =
        let q = held_place (Split f env) h held p in
        left_keeps (node id (Split f env) h held g second rest) rest p p' q _ (λ e x. elim x [
          | inl y ↦ inl (region_more h h held q (held_place Closed h held p') refl (closed_more q h held p' e) y)
          | inr y ↦ elim y [ inl v ↦ absurd (false≢true v.0) | inr v ↦ inr (inr (known_more rest p p' more v)) ]
        ])
    holder_keeps (SplitProject f env) id h held g second rest p p' more =
        let q = held_place (SplitProject f env) h held p in
        left_keeps (node id (SplitProject f env) h held g second rest) rest p p' q _ (λ e x. elim x [
          | inl y ↦ inl (region_more h h held q (held_place Closed h held p') refl (closed_more q h held p' e) y)
          | inr y ↦ elim y [ inl v ↦ absurd (false≢true v.0) | inr v ↦ inr (inr (inr (inr (known_more rest p p' more v)))) ]
        ])
    holder_keeps (Opened f env) id h held g second rest p p' more =
        let q = held_place (Opened f env) h held p in
        let kept = HolderKeeps (node id (Opened f env) h held g second rest) rest p p' in
        let outer : More q (second_place h held p') = λ x e. elim (or_cases (p.is x) _ e) [ inl u ↦ or_left (p'.is x) _ (more x u) | inr u ↦ or_right (p'.is x) _ u ] in
        cond_both (q.is Going) _ _ kept
        (λ _ x. elim x [
          | inl y ↦ inr (inl (refl, region_more h h held q (second_place h held p') refl outer y))
          | inr y ↦ elim y [ inl v ↦ absurd (false≢true v.0) | inr v ↦ inr (inr (known_more rest p p' more v)) ]
        ])
        (λ _. cond_both (q.is Ending) _ _ kept (λ _. tt) (λ _. tt))
    holder_keeps k id h held g second rest p p' more = tt

    -- Said of a reduction of the item t.
    module _ (t : ℕ) (s : Reduction) where
      own_put : (h : Head) (es : Entries) (p : Place) → pick w facts t es p n ≡ reduces s → OwnMore h es (mark_at t s.mark h es) (put t s.mark s.news es)
      own_put h es p e x = status_marked w facts t 0 Closed h none h none none x s.mark h es (put t s.mark s.news es) (rises x)
        where
          rises : (y : Side) → risen y es ≡ true → risen y (put t s.mark s.news es) ≡ true
          rises = subst (λ (o : PickOutcome). StatusKept t o es) e (status_put w facts t es p n)

      pub known_put : (es : Entries) (p p' : Place) → More p p' → pick w facts t es p n ≡ reduces s → KnownIn r z es p → KnownIn r z (put t s.mark s.news es) p'
      known_put none p p' more e k = absurd k
      known_put (leaf id l rest) p p' more e k = elim (cases_Bool (eqb id t)) [
        | inl c ↦ rw c (known_append s.news rest p' (known_more rest p p' more k))
        | inr c ↦ rw c (known_put rest p p' more (sym (cond-false (eqb id t) (leaf_step w.defs w.inputs w.state facts l p n) (pick w facts t rest p n) c) ∙ e) k)
      ]
      known_put (node id k h held g second rest) p p' more e x =
          let q = held_place k h held p in
          let b = second_place g second p in
          elim (cases_Bool (eqb id t)) [
            | inl c ↦ rw c (subst (λ (o : PickOutcome). HolderKeeps (node id k h held g second rest) rest p p' o) (sym (pick_here w facts t id k h held g second rest p n c) ∙ e) (holder_keeps k id h held g second rest p p' more) x)
            | inr c ↦ elim (cases_Bool (second_lives k && has t second)) [
              | inl l ↦ (let e2 = sym (pick_second w facts t id k h held g second rest p n c l) ∙ e in
                  let into = second_more g (mark_at t s.mark g second) second (put t s.mark s.news second) p p' more (own_put g second b e2) in
                  rw (c, l) (elim x [
                    | inl y ↦ inl (region_more h h held q (held_place k h held p') refl (held_more k h h held held p p' more (λ y e. e)) y)
                    | inr y ↦ elim y [
                      | inl v ↦ inr (inl (
                        v.0,
                        elim (v.1) [
                          | inl u ↦ inl (marked_number t s.mark g second ∙ u.0, into z u.1)
                          | inr u ↦ inr (known_put second b (second_place (mark_at t s.mark g second) (put t s.mark s.news second) p') into e2 u)
                        ],
                      ))
                      | inr v ↦ inr (inr (known_more rest p p' more v))
                    ]
                  ]))
              | inr l ↦ elim (cases_Bool (has t held)) [
                | inl d ↦ (let e2 = sym (pick_first w facts t id k h held g second rest p n c l d) ∙ e in
                    let into = held_more k h (mark_at t s.mark h held) held (put t s.mark s.news held) p p' more (own_put h held q e2) in
                    rw (c, l, d) (elim x [
                      | inl y ↦ inl (elim y [
                        | inl u ↦ inl (marked_number t s.mark h held ∙ u.0, into z u.1)
                        | inr u ↦ inr (known_put held q (held_place k (mark_at t s.mark h held) (put t s.mark s.news held) p') into e2 u)
                      ])
                      | inr y ↦ elim y [
                        | inl v ↦ inr (inl (v.0, region_more g g second b (second_place g second p') refl (second_more g g second second p p' more (λ y e. e)) v.1))
                        | inr v ↦ inr (inr (known_more rest p p' more v))
                      ]
                    ]))
                | inr d ↦ (let e2 = sym (pick_later w facts t id k h held g second rest p n c l d) ∙ e in
                    rw (c, l, d) (elim x [
                      | inl y ↦ inl (region_more h h held q (held_place k h held p') refl (held_more k h h held held p p' more (λ y e. e)) y)
                      | inr y ↦ elim y [
                        | inl v ↦ inr (inl (v.0, region_more g g second b (second_place g second p') refl (second_more g g second second p p' more (λ y e. e)) v.1))
                        | inr v ↦ inr (inr (known_put rest p p' more e2 v))
                      ]
                    ]))
              ]
            ]
          ]

      pub root_put : (m : Scene) → pick w facts t m.root.entries (root_place m.root) n ≡ reduces s → KnownAt r z m.root.entries (root_place m.root)
          → KnownAt r z (scene_after t s m).root.entries (root_place (scene_after t s m).root)
      root_put m e x =
          let more = own_put m.root.head m.root.entries (root_place m.root) e in
          elim x [
            | inl u ↦ inl (marked_number t s.mark m.root.head m.root.entries ∙ u.0, more z u.1)
            | inr u ↦ inr (known_put m.root.entries (root_place m.root) (root_place (scene_after t s m).root) more e u)
          ]

-- a place where a region is known is that of a live region
pub place_by : {left es : Entries} {role : Role} {i : Head} {held : Entries} (sfx : IsTail left es) (in_it : HoldsRegion left role i held) (p : Place) → place_through (held_by sfx in_it) p ≡ place_through in_it p
place_by all_entries in_it p = refl
place_by (after_leaf s) in_it p = place_by s (past_leaf in_it) p
place_by (after_node s) in_it p = place_by s (past_node in_it) p

pub record Holding (k : Holder) (es : Entries) (h : Head) (held : Entries) : Type 0 where
  pub role : Role
  pub in_it : HoldsRegion es role h held
  pub place : (p : Place) → place_through in_it p ≡ held_place k h held p

pub holding : (k : Holder) (id : ℕ) (h : Head) (held : Entries) (g : Head) (second rest : Entries) → Holding k (node id k h held g second rest) h held
holding (Split f env) id h held g second rest = record { role = left_region; in_it = by_split; place = λ p. refl }
holding (SplitProject f env) id h held g second rest = record { role = left_region; in_it = by_split_project; place = λ p. refl }
holding Closed id h held g second rest = record { role = closed_region; in_it = by_closed; place = λ p. refl }
holding (Opened f env) id h held g second rest = record { role = outer_region; in_it = by_opened; place = λ p. refl }
holding (Running f env) id h held g second rest = record { role = inner_region; in_it = by_running; place = λ p. refl }

pub record HoldingSecond (es : Entries) (g : Head) (second : Entries) : Type 0 where
  pub in_it : HoldsRegion es outer_region g second
  pub place : (p : Place) → place_through in_it p ≡ second_place g second p

pub holding_second : (k : Holder) (id : ℕ) (h : Head) (held : Entries) (g : Head) (second rest : Entries) → second_lives k ≡ true → HoldingSecond (node id k h held g second rest) g second
holding_second (Running f env) id h held g second rest e = record { in_it = by_running_second; place = λ p. refl }
holding_second k id h held g second rest e = absurd (false≢true e)

module _ (s : Scene) (r : ℕ) (z : Side) where
  this_region : (h : Head) (es : Entries) (x : LiveRegion s h es) → h.number ≡ r → (computed_place x).is z ≡ true → IsKnownEnd s r
  this_region h es x same e = record { head = h; entries = es; region = x; numbered = same; side = z; status = (status_is_least s h es x z).0 e }

  region_found : (left : Entries) (h : Head) (es : Entries) (x : LiveRegion s h es) → IsTail left es → KnownIn r z left (computed_place x) → IsKnownEnd s r
  region_found none h es x sfx u = absurd u
  region_found (leaf id l rest) h es x sfx u = region_found rest h es x (after_leaf sfx) u
  region_found (node id k i held g second rest) h es x sfx u = elim u [
    | inl y ↦ (let a = holding k id i held g second rest in
        let there = the_held x (held_by sfx a.in_it) in
        let same : computed_place there ≡ held_place k i held (computed_place x) = place_by sfx a.in_it (computed_place x) ∙ a.place (computed_place x) in
        elim y [
          | inl v ↦ this_region i held there v.0 (subst (λ (p : Place). p.is z ≡ true) (sym same) v.1)
          | inr v ↦ region_found held i held there all_entries (subst (λ (p : Place). KnownIn r z held p) (sym same) v)
        ])
    | inr y ↦ elim y [
      | inl b ↦ (let a = holding_second k id i held g second rest b.0 in
          let there = the_held x (held_by sfx a.in_it) in
          let same : computed_place there ≡ second_place g second (computed_place x) = place_by sfx a.in_it (computed_place x) ∙ a.place (computed_place x) in
          elim (b.1) [
            | inl v ↦ this_region g second there v.0 (subst (λ (p : Place). p.is z ≡ true) (sym same) v.1)
            | inr v ↦ region_found second g second there all_entries (subst (λ (p : Place). KnownIn r z second p) (sym same) v)
          ])
      | inr b ↦ region_found rest h es x (after_node sfx) b
    ]
  ]

  pub known_end : KnownAt r z s.root.entries (root_place s.root) → IsKnownEnd s r
  known_end (inl u) = this_region s.root.head s.root.entries the_root u.0 u.1
  known_end (inr u) = region_found s.root.entries s.root.head s.root.entries the_root all_entries u

-- what was kept is kept where more is appended
kept_first : (fs gs : List Fact) (p : Path) (sh : Shape) → kept_shape fs p ≡ Some sh → kept_shape (fs ++ gs) p ≡ Some sh
kept_first [] gs p sh h = absurd (cc)
kept_first (f ∷ fs) gs p sh h =
    let P : Bool → Type 0 = λ b. cond b (Some f.shape) (kept_shape fs p) ≡ Some sh → cond b (Some f.shape) (kept_shape (fs ++ gs) p) ≡ Some sh in
    let cases : P (same_path f.path p) = elim (same_path f.path p) as P [ true ↦ λ e. e | false ↦ λ e. kept_first fs gs p sh e ] in
    cases h

pub decided_stays : DecidedStays
decided_stays w kinds m t r next sound red (Part p) (inl x) = inl (x.0, red.store.kept p ∙ kept_first m.store.facts r.facts p x.0 x.1)
decided_stays w kinds m t r next sound red (Part p) (inr x) =
    let by = excluded_by m.store.facts p x in
    let f = by.0 in
    let kept = red.store.kept f.path ∙ kept_first m.store.facts r.facts f.path f.shape (in_kept m.store.facts f sound.store.no_clash by.1) in
    inr (excluded_from next.store.facts p f (kept_in next.store.facts f.path f.shape kept) by.2)
decided_stays w kinds m t r next sound red (End number depth) k =
    subst (λ (s : Scene). IsKnownEnd s number) (sym red.scene)
    (known_end (scene_after t r m.scene) number k.side
    (root_put number k.side w m.store.facts (numbers_of m.scene m.store.variables) t r m.scene red.outcome (end_known m.scene number k)))
