-- Inner regions go on, or have a `more` to be picked, after a step.
use Rattle.std.proofs.Common.{◌≡◌, ◌⊎◌, ℕ, suc, Bool, true, false, ◌||◌, ◌&&◌, eqb, List, [], Some, None, refl, ap, sym, ◌∙◌, subst, inl, inr}
use Rattle.std.specs.Prelude.{IsTrue}
use Rattle.std.proofs.lemmas.Bool.{cond_both, cases_Bool, or_cases, or_left, or_right, and_parts, and_from, false≢true, cond-true, cond-false}
use Rattle.tp_meaning.specs.Syntax.{Definition, more}
use Rattle.tp_value.specs.declared.path.Fact.{Fact}
use Rattle.tp_store.specs.Known.{Variable}
use Rattle.tp_scene.specs.Scene.{Bindings, Side, Ending, Going, Head, marked, Leaf, Do, Holder, Split, SplitProject, Closed, Opened, Running, Entries, none, leaf, node, new_head, no_region, second_lives, has, has_here, append, sinks, forced, risen, Place, held_place, second_place}
use Rattle.tp_scene.specs.Step.{Reduction, PickOutcome, reduces, waits, rests, clashes, misses, passes, Numbers, leaf_step, holder_step}
use Rattle.tp_scene.specs.declared.answer.Clash.TheVariants.{Marks}
use Rattle.tp_scene.specs.Pick.{Setting, pick, mark_at, put}
use Rattle.tp_scene.specs.Fits.{IsCalm, Dormant, HasMore, InnersGo, HolderFits, EntriesFit}
use Rattle.tp_scene.proofs.Frame.{region}
use Rattle.tp_scene.proofs.Keep.{live_fits}
use Rattle.tp_scene.proofs.Risen.{StatusKept, status_put, status_marked, pick_here, pick_second, pick_first, pick_later}
use Rattle.tp_scene.proofs.NewsFit.{entries_calm}
use Rattle.tp_scene.proofs.Plain.{FreshLeaves, IsNewHolder, Plain, IsPlain, leaf_plain}
use Rattle.tp_scene.proofs.PutStatus.{mark_at_set}

-- what one place is the other is
abbrev pub Up : Place → Place → Type 0
Up p p' = (x : Side) → p.is x ≡ true → p'.is x ≡ true

held_up : (k : Holder) (h h' : Head) (held held' : Entries) (p p' : Place) → Up p p' → ((x : Side) → (marked x h || risen x held) ≡ true → (marked x h' || risen x held') ≡ true) → Up (held_place k h held p) (held_place k h' held' p')
held_up k h h' held held' p p' up on x e = elim (or_cases (sinks k x && p.is x) _ e) [
  | inl u ↦ (let v = and_parts (sinks k x) (p.is x) u in or_left (sinks k x && p'.is x) _ (and_from (sinks k x) (p'.is x) v.0 (up x v.1)))
  | inr u ↦ or_right (sinks k x && p'.is x) _ (elim (or_cases (forced k x) _ u) [ inl v ↦ or_left (forced k x) _ v | inr v ↦ or_right (forced k x) _ (on x v) ])
]

second_up : (h h' : Head) (held held' : Entries) (p p' : Place) → Up p p' → ((x : Side) → (marked x h || risen x held) ≡ true → (marked x h' || risen x held') ≡ true) → Up (second_place h held p) (second_place h' held' p')
second_up h h' held held' p p' up on x e = elim (or_cases (p.is x) _ e) [ inl u ↦ or_left (p'.is x) _ (up x u) | inr u ↦ or_right (p'.is x) _ (on x u) ]

more_later : (id : ℕ) (l : Leaf) (rest : Entries) → HasMore rest → HasMore (leaf id l rest)
more_later id (Do more env) rest h = tt
more_later id l rest h = h

more_first : (id : ℕ) (l : Leaf) (rest : Entries) → HasMore (leaf id l rest) → ((env : Bindings) × (l ≡ Do more env)) ⊎ HasMore rest
more_first id (Do more env) rest h = inl (env, refl)
more_first id l rest h = inr h

more_append : (news rest : Entries) → HasMore rest → HasMore (append news rest)
more_append none rest h = h
more_append (leaf id l news) rest h = more_later id l (append news rest) (more_append news rest h)
more_append (node id k hd held g second news) rest h = more_append news rest h

-- the parts of what is asked of a holder
module _ (id : ℕ) (h : Head) (held : Entries) (g : Head) (second rest : Entries) (p : Place) where
  abbrev GoesOn : Holder → Type 0
  GoesOn k = IsTrue ((held_place k h held p).is Going) ⊎ HasMore held

  inners_held : (k : Holder) → InnersGo (node id k h held g second rest) p → InnersGo held (held_place k h held p)
  inners_held (Running f env) i = i.2
  inners_held k i = i.0

  inners_rest : (k : Holder) → InnersGo (node id k h held g second rest) p → InnersGo rest p
  inners_rest (Running f env) i = i.3
  inners_rest k i = i.1

  inners_second : (k : Holder) → second_lives k ≡ true → InnersGo (node id k h held g second rest) p → GoesOn k × InnersGo second (second_place g second p)
  inners_second (Running f env) e i = (i.0, i.1)
  inners_second k e i = absurd (false≢true e)

  inners_make : (k : Holder) → (second_lives k ≡ true → GoesOn k × InnersGo second (second_place g second p)) → InnersGo held (held_place k h held p) → InnersGo rest p → InnersGo (node id k h held g second rest) p
  inners_make (Running f env) live i r = let l = live refl in (l.0, l.1, i, r)
  inners_make k live i r = (i, r)

inners_up : (es : Entries) (p p' : Place) → Up p p' → InnersGo es p → InnersGo es p'
inners_up none p p' up i = tt
inners_up (leaf id l rest) p p' up i = inners_up rest p p' up i
inners_up (node id k h held g second rest) p p' up i = inners_make id h held g second rest p' k
    (λ live. let x = inners_second id h held g second rest p k live i in (
      elim (x.0) [ inl e ↦ inl (held_up k h h held held p p' up (λ x e. e) Going e) | inr m ↦ inr m ],
      inners_up second (second_place g second p) (second_place g second p') (second_up g g second second p p' up (λ x e. e)) x.1,
    ))
    (inners_up held (held_place k h held p) (held_place k h held p') (held_up k h h held held p p' up (λ x e. e)) (inners_held id h held g second rest p k i))
    (inners_up rest p p' up (inners_rest id h held g second rest p k i))

-- in a dormant region there is none
pub dormant_inners : (h : Head) (es : Entries) (p : Place) → Dormant h es → InnersGo es p
dormant_inners h none p d = tt
dormant_inners h (leaf id (Do f env) rest) p d = dormant_inners h rest p d
dormant_inners h (node id (Split f env) i held g second rest) p d = (dormant_inners i held _ d.0, dormant_inners h rest p d.1)
dormant_inners h (node id (SplitProject f env) i held g second rest) p d = (dormant_inners i held _ d.0, dormant_inners h rest p d.2)
dormant_inners h es p d = elim d [ ]

leaves_inners : (n : Numbers) (from to : ℕ) (es rest : Entries) (p : Place) → FreshLeaves n from es to → InnersGo rest p → InnersGo (append es rest) p
leaves_inners n from to none rest p h i = i
leaves_inners n from to (leaf id l es) rest p h i = leaves_inners n (suc from) to es rest p h.1 i
leaves_inners n from to (node id k hd held g second es) rest p h i = elim h [ ]

new_inners : (k : Holder) → IsNewHolder k → (a b : ℕ) (h : Head) (l : Leaf) (rest : Entries) (p : Place) → InnersGo rest p → InnersGo (node a k h (leaf b l none) no_region none rest) p
new_inners (Split f env) u a b h l rest p i = (tt, i)
new_inners (Opened f env) u a b h l rest p i = (tt, i)
new_inners k u a b h l rest p i = elim u [ ]

plain_inners : (q : Place) (n : Numbers) (r : Reduction) → Plain q n r → (rest : Entries) (p : Place) → InnersGo rest p → InnersGo (append r.news rest) p
plain_inners q n r h rest p i = elim (h.news) [
  | inl u ↦ leaves_inners n 0 r.items r.news rest p u.0 i
  | inr u ↦ subst (λ (es : Entries). InnersGo (append es rest) p) (sym u.0.is) (new_inners u.0.holder u.0.is_new (n.item 1) (n.item 0) (new_head n.region) u.0.item rest p i)
]

module _ (w : Setting) (facts : List Fact) (defs : List Definition) (kinds : List Bool) (variables : List Variable) (n : Numbers) where
  abbrev HolderInners : PickOutcome → Entries → Place → Type 0
  HolderInners (reduces r) rest p = InnersGo (append r.news rest) p
  HolderInners (waits first other) rest p = Unit {0}
  HolderInners rests rest p = Unit {0}
  HolderInners (clashes c) rest p = Unit {0}
  HolderInners (misses port) rest p = Unit {0}
  HolderInners (passes k) rest p = Unit {0}

  -- a region that ends is closed
  closed_up : (h : Head) (held : Entries) (q p' : Place) → IsCalm q → q.is Ending ≡ true → Up q (held_place Closed h held p')
  closed_up h held q p' calm e Ending u = refl
  closed_up h held q p' calm e Going u = absurd (calm e u)

  holder_inners : (k : Holder) (h : Head) (held : Entries) (g : Head) (second : Entries) (p p' : Place) (id : ℕ) (rest : Entries) (X Y : Type 0) → Up p p'
      → HolderFits defs kinds variables k held (held_place k h held p) (Dormant g second × X) Y → EntriesFit defs kinds variables held (held_place k h held p)
      → InnersGo (node id k h held g second rest) p → InnersGo rest p'
      → HolderInners (holder_step w.defs w.inputs w.state facts k (region h held) (region g second) (held_place k h held p) n) rest p'
  holder_inners (Split f env) h held g second p p' id rest X Y up hf fit i r =
      let q = held_place (Split f env) h held p in
      cond_both (q.is Going) _ _ (λ o. HolderInners o rest p') (λ _. tt) (λ _. cond_both (q.is Ending) _ _ (λ o. HolderInners o rest p')
      (λ e. (inners_up held q (held_place Closed h held p') (closed_up h held q p' (entries_calm defs kinds variables held q fit) e) i.0, r)) (λ _. tt))
  holder_inners (SplitProject f env) h held g second p p' id rest X Y up hf fit i r =
      let q = held_place (SplitProject f env) h held p in
      cond_both (q.is Going) _ _ (λ o. HolderInners o rest p') (λ _. tt) (λ _. cond_both (q.is Ending) _ _ (λ o. HolderInners o rest p')
      (λ e. (inners_up held q (held_place Closed h held p') (closed_up h held q p' (entries_calm defs kinds variables held q fit) e) i.0, (dormant_inners g second _ hf.1.0, r))) (λ _. tt))
  holder_inners (Opened f env) h held g second p p' id rest X Y up hf fit i r =
      let q = held_place (Opened f env) h held p in
      cond_both (q.is Going) _ _ (λ o. HolderInners o rest p')
      (λ _. (inr (more_later (n.item 0) (Do f env) (leaf (n.item 1) (Do more env) none) tt), inners_up held q (second_place h held p') (λ x e. elim (or_cases (p.is x) _ e) [ inl u ↦ or_left (p'.is x) _ (up x u) | inr u ↦ or_right (p'.is x) _ u ]) i.0, tt, r))
      (λ _. cond_both (q.is Ending) _ _ (λ o. HolderInners o rest p') (λ _. tt) (λ _. tt))
  holder_inners k h held g second p p' id rest X Y up hf fit i r = tt

  module _ (t : ℕ) (r : Reduction) where
    goes_marked : (p : Place) (env : Bindings) → leaf_step w.defs w.inputs w.state facts (Do more env) p n ≡ reduces r → r.mark ≡ Some Going
    goes_marked p env e = go (p.is Ending) refl where
      go : (b : Bool) → p.is Ending ≡ b → r.mark ≡ Some Going
      go true u = absurd (let q : clashes (Marks p.depth) ≡ reduces r = rw u at e in cc)
      go false u = let q : reduces (record { news = none; items = 0; regions = 0; local = None; mark = Some Going; facts = [] }) ≡ reduces r = rw u at e in cc

    more_put : (es : Entries) (p : Place) → pick w facts t es p n ≡ reduces r → HasMore es → HasMore (put t r.mark r.news es) ⊎ ((has_here t es ≡ true) × (r.mark ≡ Some Going))
    more_put none p e m = elim m [ ]
    more_put (leaf id l rest) p e m = elim (cases_Bool (eqb id t)) [
      | inl c ↦ (let s = leaf_step w.defs w.inputs w.state facts l p n in
          let q : s ≡ reduces r = sym (cond-true (eqb id t) s (pick w facts t rest p n) c) ∙ e in
          elim (more_first id l rest m) [
            | inl x ↦ inr (or_left (eqb id t) _ c, goes_marked p x.0 (ap (λ (i : Leaf). leaf_step w.defs w.inputs w.state facts i p n) (sym x.1) ∙ q))
            | inr x ↦ inl (rw c (more_append r.news rest x))
          ])
      | inr c ↦ elim (more_first id l rest m) [
        | inl x ↦ inl (rw c (subst (λ (i : Leaf). HasMore (leaf id i (put t r.mark r.news rest))) (sym x.1) tt))
        | inr x ↦ elim (more_put rest p (sym (cond-false (eqb id t) (leaf_step w.defs w.inputs w.state facts l p n) (pick w facts t rest p n) c) ∙ e) x) [
          | inl y ↦ inl (rw c (more_later id l (put t r.mark r.news rest) y))
          | inr y ↦ inr (or_right (eqb id t) _ y.0, y.1)
        ]
      ]
    ]
    more_put (node id k h held g second rest) p e m = elim (cases_Bool (eqb id t)) [
      | inl c ↦ inl (rw c (more_append r.news rest m))
      | inr c ↦ elim (cases_Bool (second_lives k && has t second)) [
        | inl l ↦ inl (rw (c, l) m)
        | inr l ↦ elim (cases_Bool (has t held)) [
          | inl d ↦ inl (rw (c, l, d) m)
          | inr d ↦ elim (more_put rest p (sym (pick_later w facts t id k h held g second rest p n c l d) ∙ e) m) [
            | inl y ↦ inl (rw (c, l, d) y)
            | inr y ↦ inr (rw (c, l, d) y.0, y.1)
          ]
        ]
      ]
    ]

    pub put_inners : (es : Entries) (p p' : Place) → Up p p' → EntriesFit defs kinds variables es p → InnersGo es p → pick w facts t es p n ≡ reduces r → InnersGo (put t r.mark r.news es) p'
    put_inners none p p' up fit i e = absurd (cc)
    put_inners (leaf id l rest) p p' up fit i e = elim (cases_Bool (eqb id t)) [
      | inl c ↦ (let s = leaf_step w.defs w.inputs w.state facts l p n in
          let q : s ≡ reduces r = sym (cond-true (eqb id t) s (pick w facts t rest p n) c) ∙ e in
          rw c (plain_inners p n r (subst (λ (o : PickOutcome). IsPlain facts p n o) q (leaf_plain facts p n w.defs w.inputs w.state l)) rest p' (inners_up rest p p' up i)))
      | inr c ↦ rw c (put_inners rest p p' up fit.1 i (sym (cond-false (eqb id t) (leaf_step w.defs w.inputs w.state facts l p n) (pick w facts t rest p n) c) ∙ e))
    ]
    put_inners (node id k h held g second rest) p p' up fit i e =
        let rest_on = inners_up rest p p' up (inners_rest id h held g second rest p k i) in
        let held_on = inners_up held (held_place k h held p) (held_place k h held p') (held_up k h h held held p p' up (λ x e. e)) (inners_held id h held g second rest p k i) in
        elim (cases_Bool (eqb id t)) [
          | inl c ↦ (let q = sym (pick_here w facts t id k h held g second rest p n c) ∙ e in
              rw c (subst (λ (o : PickOutcome). HolderInners o rest p') q (holder_inners k h held g second p p' id rest _ _ up fit.0 fit.1 i rest_on)))
          | inr c ↦ elim (cases_Bool (second_lives k && has t second)) [
            | inl l ↦ (let live = (and_parts (second_lives k) (has t second) l).0 in
                let r2 = second_place g second p in
                let q = sym (pick_second w facts t id k h held g second rest p n c l) ∙ e in
                let kept = subst (λ (o : PickOutcome). StatusKept t o second) q (status_put w facts t second r2 n) in
                let x = inners_second id h held g second rest p k live i in
                rw (c, l) (inners_make id h held (mark_at t r.mark g second) (put t r.mark r.news second) rest p' k
                (λ _. (
                  elim (x.0) [ inl y ↦ inl (held_up k h h held held p p' up (λ x e. e) Going y) | inr y ↦ inr y ],
                  put_inners second r2 (second_place (mark_at t r.mark g second) (put t r.mark r.news second) p')
                      (second_up g (mark_at t r.mark g second) second (put t r.mark r.news second) p p' up (λ u j. status_marked w facts t id k h held g second rest u r.mark g second (put t r.mark r.news second) (kept u) j))
                      (live_fits defs kinds variables k held _ _ _ live fit.0) x.1 q,
                ))
                held_on rest_on))
            | inr l ↦ elim (cases_Bool (has t held)) [
              | inl d ↦ (let q1 = held_place k h held p in
                  let q = sym (pick_first w facts t id k h held g second rest p n c l d) ∙ e in
                  let kept = subst (λ (o : PickOutcome). StatusKept t o held) q (status_put w facts t held q1 n) in
                  let h' = mark_at t r.mark h held in
                  let held' = put t r.mark r.news held in
                  let on = held_up k h h' held held' p p' up (λ u j. status_marked w facts t id k h held g second rest u r.mark h held held' (kept u) j) in
                  rw (c, l, d) (inners_make id h' held' g second rest p' k
                  (λ live. let x = inners_second id h held g second rest p k live i in (
                    elim (x.0) [
                      | inl y ↦ inl (on Going y)
                      | inr y ↦ elim (more_put held q1 q y) [
                        | inl z ↦ inr z
                        | inr z ↦ inl (or_right (sinks k Going && p'.is Going) _ (or_right (forced k Going) _ (or_left (marked Going h') _ (mark_at_set t r.mark Going h held z.0 z.1))))
                      ]
                    ],
                    inners_up second (second_place g second p) (second_place g second p') (second_up g g second second p p' up (λ x e. e)) x.1,
                  ))
                  (put_inners held q1 (held_place k h' held' p') on fit.1 (inners_held id h held g second rest p k i) q) rest_on))
              | inr d ↦ rw (c, l, d) (inners_make id h held g second (put t r.mark r.news rest) p' k
                  (λ live. let x = inners_second id h held g second rest p k live i in (
                    elim (x.0) [ inl y ↦ inl (held_up k h h held held p p' up (λ x e. e) Going y) | inr y ↦ inr y ],
                    inners_up second (second_place g second p) (second_place g second p') (second_up g g second second p p' up (λ x e. e)) x.1,
                  ))
                  held_on (put_inners rest p p' up fit.2 (inners_rest id h held g second rest p k i) (sym (pick_later w facts t id k h held g second rest p n c l d) ∙ e)))
            ]
          ]
        ]
