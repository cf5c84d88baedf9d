-- Replacing an item keeps a status that rises, and where picking leads.
use Rattle.std.proofs.Common.{◌≡◌, ℕ, Bool, true, false, ◌||◌, ◌&&◌, eqb, List, refl, inl, inr}
use Rattle.std.specs.Prelude.{Option, Some}
use Rattle.std.proofs.lemmas.Bool.{cond_both, cases_Bool, or_cases, or_left, or_right, both_ways, and_parts, and_from, cond-true, cond-false}
use Rattle.tp_value.specs.declared.path.Fact.{Fact}
use Rattle.tp_scene.specs.Scene.{Side, Ending, Going, Head, marked, Leaf, Holder, Split, SplitProject, Opened, Running, Entries, none, leaf, node, second_lives, has, has_here, append, new_head, rises, risen, Place, held_place, second_place}
use Rattle.tp_scene.specs.Step.{PickOutcome, reduces, waits, rests, clashes, misses, passes, Numbers, leaf_step, holder_step}
use Rattle.tp_scene.specs.Pick.{Setting, pick, mark_head, mark_at, put}
use Rattle.tp_scene.proofs.Frame.{region}

pub risen_append : (z : Side) (xs ys : Entries) → risen z ys ≡ true → risen z (append xs ys) ≡ true
risen_append z none ys e = e
risen_append z (leaf id l rest) ys e = risen_append z rest ys e
risen_append z (node id k h held g second rest) ys e =
    or_right (rises k z && (marked z h || risen z held)) _ (or_right (second_lives k && (marked z g || risen z second)) _ (risen_append z rest ys e))

abbrev pub StatusKept : ℕ → PickOutcome → Entries → Type 0
StatusKept t (reduces r) es = (z : Side) → risen z es ≡ true → risen z (put t r.mark r.news es) ≡ true
StatusKept t (waits first other) es = Unit {0}
StatusKept t rests es = Unit {0}
StatusKept t (clashes c) es = Unit {0}
StatusKept t (misses port) es = Unit {0}
StatusKept t (passes k) es = Unit {0}

-- the status of what stands in place of an item, before the same rest
abbrev PutHere : PickOutcome → Entries → Entries → Type 0
PutHere (reduces r) es rest = (z : Side) → risen z es ≡ true → risen z (append r.news rest) ≡ true
PutHere (waits first other) es rest = Unit {0}
PutHere rests es rest = Unit {0}
PutHere (clashes c) es rest = Unit {0}
PutHere (misses port) es rest = Unit {0}
PutHere (passes k) es rest = Unit {0}

leaf_kept : (id : ℕ) (l : Leaf) (rest : Entries) (o : PickOutcome) → PutHere o (leaf id l rest) rest
leaf_kept id l rest (reduces r) = λ z g. risen_append z r.news rest g
leaf_kept id l rest o = tt

here_leaf : (t id : ℕ) (l : Leaf) (rest : Entries) (o : PickOutcome) → eqb id t ≡ true → PutHere o (leaf id l rest) rest → StatusKept t o (leaf id l rest)
here_leaf t id l rest (reduces r) e q = rw e q
here_leaf t id l rest o e q = tt

later_leaf : (t id : ℕ) (l : Leaf) (rest : Entries) (o : PickOutcome) → eqb id t ≡ false → StatusKept t o rest → StatusKept t o (leaf id l rest)
later_leaf t id l rest (reduces r) e q = rw e q
later_leaf t id l rest o e q = tt

-- a left region that doesn't go makes nothing so
not_risen : (k : Side → Bool) (z : Side) (h : Head) (held : Entries) (r : Bool) → (k Ending ≡ false) → (h.goes || risen Going held) ≡ false → ((k z && (marked z h || risen z held)) || r) ≡ true → r ≡ true
not_risen k z h held r never e g = elim (or_cases (k z && (marked z h || risen z held)) r g) [
  | inl y ↦ (let u = and_parts (k z) (marked z h || risen z held) y in absurd (side z u.0 u.1))
  | inr y ↦ y
] where
  side : (z : Side) → k z ≡ true → (marked z h || risen z held) ≡ true → ⊥
  side Ending u v = both_ways (k Ending) never u
  side Going u v = both_ways (h.goes || risen Going held) e v

module _ (w : Setting) (facts : List Fact) where
  holder_kept : (k : Holder) (h : Head) (held : Entries) (g : Head) (second : Entries) (p : Place) (n : Numbers) (id : ℕ) (rest : Entries)
      → PutHere (holder_step w.defs w.inputs w.state facts k (region h held) (region g second) (held_place k h held p) n) (node id k h held g second rest) rest
  holder_kept (Split f env) h held g second p n id rest =
      cond_both ((held_place (Split f env) h held p).is Going) _ _ (λ o. PutHere o (node id (Split f env) h held g second rest) rest)
      (λ _. tt)
      (λ e. cond_both ((held_place (Split f env) h held p).is Ending) _ _ (λ o. PutHere o (node id (Split f env) h held g second rest) rest)
      (λ _ z x. not_risen (rises (Split f env)) z h held (risen z rest) refl e x)
      (λ _. tt))
  holder_kept (SplitProject f env) h held g second p n id rest =
      cond_both ((held_place (SplitProject f env) h held p).is Going) _ _ (λ o. PutHere o (node id (SplitProject f env) h held g second rest) rest)
      (λ _. tt)
      (λ e. cond_both ((held_place (SplitProject f env) h held p).is Ending) _ _ (λ o. PutHere o (node id (SplitProject f env) h held g second rest) rest)
      (λ _ z x. or_right (marked z g || risen z second) (risen z rest) (not_risen (rises (SplitProject f env)) z h held (risen z rest) refl e x))
      (λ _. tt))
  holder_kept (Opened f env) h held g second p n id rest =
      cond_both ((held_place (Opened f env) h held p).is Going) _ _ (λ o. PutHere o (node id (Opened f env) h held g second rest) rest)
      (λ _ z x. or_right (rises (Running f env) z && (marked z (new_head n.region) || risen z none)) _ x)
      (λ e. cond_both ((held_place (Opened f env) h held p).is Ending) _ _ (λ o. PutHere o (node id (Opened f env) h held g second rest) rest) (λ _. tt) (λ _. tt))
  holder_kept k h held g second p n id rest = tt

  module _ (t id : ℕ) (k : Holder) (h : Head) (held : Entries) (g : Head) (second rest : Entries) where
    here_node : (o : PickOutcome) → eqb id t ≡ true → PutHere o (node id k h held g second rest) rest → StatusKept t o (node id k h held g second rest)
    here_node (reduces r) e q = rw e q
    here_node o e q = tt

    later_node : (o : PickOutcome) → eqb id t ≡ false → (second_lives k && has t second) ≡ false → has t held ≡ false → StatusKept t o rest → StatusKept t o (node id k h held g second rest)
    later_node (reduces r) e l d q = rw (e, l, d) (λ z x.
        elim (or_cases (rises k z && (marked z h || risen z held)) _ x) [
          | inl y ↦ or_left (rises k z && (marked z h || risen z held)) _ y
          | inr y ↦ or_right (rises k z && (marked z h || risen z held)) _ (elim (or_cases (second_lives k && (marked z g || risen z second)) _ y) [
            | inl u ↦ or_left (second_lives k && (marked z g || risen z second)) _ u
            | inr u ↦ or_right (second_lives k && (marked z g || risen z second)) _ (q z u)
          ])
        ])
    later_node o e l d q = tt

    mark_keeps : (z : Side) (m : Option Side) (h : Head) → marked z h ≡ true → marked z (mark_head m h) ≡ true
    mark_keeps Ending (Some Ending) h e = refl
    mark_keeps Going (Some Going) h e = refl
    mark_keeps z m h e = e

    pub status_marked : (z : Side) (m : Option Side) (h : Head) (es fs : Entries) → (risen z es ≡ true → risen z fs ≡ true) → (marked z h || risen z es) ≡ true → (marked z (mark_at t m h es) || risen z fs) ≡ true
    status_marked z m h es fs k e = elim (or_cases (marked z h) (risen z es) e) [
      | inl y ↦ or_left (marked z (mark_at t m h es)) _ (cond_both (has_here t es) (mark_head m h) h (λ x. marked z x ≡ true) (λ _. mark_keeps z m h y) (λ _. y))
      | inr y ↦ or_right (marked z (mark_at t m h es)) _ (k y)
    ]

    first_node : (o : PickOutcome) → eqb id t ≡ false → (second_lives k && has t second) ≡ false → has t held ≡ true → StatusKept t o held → StatusKept t o (node id k h held g second rest)
    first_node (reduces r) e l d q = rw (e, l, d) (λ z x.
        elim (or_cases (rises k z && (marked z h || risen z held)) _ x) [
          | inl y ↦ (let u = and_parts (rises k z) (marked z h || risen z held) y in
              or_left (rises k z && (marked z (mark_at t r.mark h held) || risen z (put t r.mark r.news held))) _ (and_from (rises k z) _ u.0 (status_marked z r.mark h held (put t r.mark r.news held) (q z) u.1)))
          | inr y ↦ or_right (rises k z && (marked z (mark_at t r.mark h held) || risen z (put t r.mark r.news held))) _ y
        ])
    first_node o e l d q = tt

    second_node : (o : PickOutcome) → eqb id t ≡ false → (second_lives k && has t second) ≡ true → StatusKept t o second → StatusKept t o (node id k h held g second rest)
    second_node (reduces r) e l q = rw (e, l) (λ z x.
        elim (or_cases (rises k z && (marked z h || risen z held)) _ x) [
          | inl y ↦ or_left (rises k z && (marked z h || risen z held)) _ y
          | inr y ↦ or_right (rises k z && (marked z h || risen z held)) _ (elim (or_cases (second_lives k && (marked z g || risen z second)) _ y) [
            | inl u ↦ (let v = and_parts (second_lives k) (marked z g || risen z second) u in
                or_left (second_lives k && (marked z (mark_at t r.mark g second) || risen z (put t r.mark r.news second))) _ (and_from (second_lives k) _ v.0 (status_marked z r.mark g second (put t r.mark r.news second) (q z) v.1)))
            | inr u ↦ or_right (second_lives k && (marked z (mark_at t r.mark g second) || risen z (put t r.mark r.news second))) _ u
          ])
        ])
    second_node o e l q = tt

    -- where picking leads
    module _ (p : Place) (n : Numbers) where
      pub pick_here : eqb id t ≡ true → pick w facts t (node id k h held g second rest) p n ≡ holder_step w.defs w.inputs w.state facts k (region h held) (region g second) (held_place k h held p) n
      pick_here e = rw e

      pub pick_second : eqb id t ≡ false → (second_lives k && has t second) ≡ true → pick w facts t (node id k h held g second rest) p n ≡ pick w facts t second (second_place g second p) n
      pick_second e l = rw (e, l)

      pub pick_first : eqb id t ≡ false → (second_lives k && has t second) ≡ false → has t held ≡ true → pick w facts t (node id k h held g second rest) p n ≡ pick w facts t held (held_place k h held p) n
      pick_first e l d = rw (e, l, d)

      pub pick_later : eqb id t ≡ false → (second_lives k && has t second) ≡ false → has t held ≡ false → pick w facts t (node id k h held g second rest) p n ≡ pick w facts t rest p n
      pick_later e l d = rw (e, l, d)

  pub status_put : (t : ℕ) (es : Entries) (p : Place) (n : Numbers) → StatusKept t (pick w facts t es p n) es
  status_put t none p n = tt
  status_put t (leaf id x rest) p n =
      let step = leaf_step w.defs w.inputs w.state facts x p n in
      elim (cases_Bool (eqb id t)) [
        | inl e ↦ rw (cond-true (eqb id t) step (pick w facts t rest p n) e) (here_leaf t id x rest step e (leaf_kept id x rest step))
        | inr e ↦ rw (cond-false (eqb id t) step (pick w facts t rest p n) e) (later_leaf t id x rest (pick w facts t rest p n) e (status_put t rest p n))
      ]
  status_put t (node id k h held g second rest) p n =
      elim (cases_Bool (eqb id t)) [
        | inl e ↦ rw (pick_here t id k h held g second rest p n e) (here_node t id k h held g second rest _ e (holder_kept k h held g second p n id rest))
        | inr e ↦ elim (cases_Bool (second_lives k && has t second)) [
          | inl l ↦ rw (pick_second t id k h held g second rest p n e l) (second_node t id k h held g second rest _ e l (status_put t second (second_place g second p) n))
          | inr l ↦ elim (cases_Bool (has t held)) [
            | inl d ↦ rw (pick_first t id k h held g second rest p n e l d) (first_node t id k h held g second rest _ e l d (status_put t held (held_place k h held p) n))
            | inr d ↦ rw (pick_later t id k h held g second rest p n e l d) (later_node t id k h held g second rest _ e l d (status_put t rest p n))
          ]
        ]
      ]
