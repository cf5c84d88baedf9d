-- A reduction is an edit, and an item that is live in a scene whose numbers differ stands at one place.
use Rattle.std.proofs.Common.{◌≡◌, ℕ, Bool, true, false, cond, ◌||◌, ◌&&◌, eqb, List, refl, ap, sym, ◌∙◌}
use Rattle.std.specs.Prelude.{Option, Some, None}
use Rattle.std.proofs.lemmas.Bool.{cond_both, or_parts, and_from, cond-false}
use Rattle.tp_value.specs.declared.path.Fact.{Fact}
use Rattle.tp_scene.specs.Scene.{Side, Ending, Going, Head, Holder, Closed, Opened, Running, Entries, none, leaf, node, second_lives, has, has_here, append, Place, held_place}
use Rattle.tp_scene.specs.Step.{Reduction, PickOutcome, reduces, Numbers, leaf_step, holder_step}
use Rattle.tp_scene.specs.Pick.{Setting, pick, mark_head, mark_at, put}
use Rattle.tp_scene.proofs.Frame.{region}
use Rattle.tp_scene.proofs.Risen.{pick_here, pick_second, pick_first, pick_later}
use Rattle.tp_step_laws.specs.Edits.{Edit, is_side, marks, head_after, edited, single, Thing, of_leaf, of_holder, occurs, At, this_leaf, past_leaf, this_node, in_first, in_second, past_node, edit_of, PutIsEdit}
use Rattle.tp_step_laws.specs.Rows.{holder_make}
use Rattle.tp_step_laws.proofs.Stay.{absent_marks, absent_head, absent}

and_none : (a : Bool) → (a && false) ≡ false
and_none true = refl
and_none false = refl

-- what stands nowhere isn't live
pub not_live : (t : ℕ) (es : Entries) → occurs t es ≡ false → has t es ≡ false
not_live t none a = refl
not_live t (leaf id l rest) a = let d = or_parts (eqb id t) (occurs t rest) a in rw d.0 (not_live t rest d.1)
not_live t (node id k h i g s rest) a =
    let d = or_parts (eqb id t) _ a in let c = or_parts (occurs t i) _ d.1 in let b = or_parts (occurs t s) (occurs t rest) c.1 in
    rw (d.0, not_live t s b.0, not_live t i c.0, and_none (second_lives k)) (not_live t rest b.1)

pub at_live : (t : ℕ) (es : Entries) (x : Thing) (q p : Place) → At t x q es p → has t es ≡ true
at_live t none x q p at = elim at [ ]
at_live t (leaf id l rest) x q p (this_leaf a b) = rw a refl
at_live t (leaf id l rest) x q p (past_leaf a at) = rw a (at_live t rest x q p at)
at_live t (node id k h i g s rest) x q p (this_node a b d f) = rw a refl
at_live t (node id k h i g s rest) x q p (in_first a at d f) = rw (a, not_live t s d, and_none (second_lives k), at_live t i x q _ at) refl
at_live t (node id k h i g s rest) x q p (in_second a l b at f) = rw (a, l, at_live t s x q _ at) refl
at_live t (node id k h i g s rest) x q p (past_node a b d at) = rw (a, not_live t s d, and_none (second_lives k), not_live t i b) (at_live t rest x q p at)

or_none : (b : Bool) → (b || false) ≡ b
or_none true = refl
or_none false = refl

-- the marks of a region
head_is : (b : Bool) (m : Option Side) (h : Head) (f g : Bool) → f ≡ (b && is_side Ending m) → g ≡ (b && is_side Going m)
    → cond b (mark_head m h) h ≡ record { number = h.number; ends = h.ends || f; goes = h.goes || g }
head_is b m h f g e d = rw (e, d) (go b m h)
  where
    with_all : (b : Bool) → (b || true) ≡ true
    with_all true = refl
    with_all false = refl

    go : (b : Bool) (m : Option Side) (h : Head) → cond b (mark_head m h) h ≡ record { number = h.number; ends = h.ends || (b && is_side Ending m); goes = h.goes || (b && is_side Going m) }
    go true (Some Ending) h = λ i. record { number = h.number; ends = sym (with_all h.ends) i; goes = sym (or_none h.goes) i }
    go true (Some Going) h = λ i. record { number = h.number; ends = sym (or_none h.ends) i; goes = sym (with_all h.goes) i }
    go b m h = λ i. record { number = h.number; ends = sym (or_none h.ends) i; goes = sym (or_none h.goes) i }

module _ (t : ℕ) (e : Edit) where
  marks_here : (es : Entries) (x : Thing) (q p : Place) (z : Side) → At t x q es p → marks (single t e) z es ≡ (has_here t es && is_side z e.mark)
  marks_here none x q p z at = elim at [ ]
  marks_here (leaf id l rest) x q p z (this_leaf a b) = rw (a, absent_marks t e rest z b) (or_none (is_side z e.mark))
  marks_here (leaf id l rest) x q p z (past_leaf a at) = rw a (marks_here rest x q p z at)
  marks_here (node id k h i g s rest) x q p z (this_node a b d f) = rw (a, absent_marks t e rest z f) (or_none (is_side z e.mark))
  marks_here (node id k h i g s rest) x q p z (in_first a at d f) = rw (a, absent_marks t e rest z f, not_live t s d, and_none (second_lives k), at_live t i x q _ at) refl
  marks_here (node id k h i g s rest) x q p z (in_second a l b at f) = rw (a, absent_marks t e rest z f, l, at_live t s x q _ at) refl
  marks_here (node id k h i g s rest) x q p z (past_node a b d at) = rw (a, not_live t s d, and_none (second_lives k), not_live t i b) (marks_here rest x q p z at)

  pub mark_is : (m : Option Side) → m ≡ e.mark → (es : Entries) (x : Thing) (q p : Place) → At t x q es p → (h : Head) → mark_at t m h es ≡ head_after (single t e) es h
  mark_is m same es x q p at h = head_is (has_here t es) m h _ _ (marks_here es x q p Ending at ∙ ap (λ y. has_here t es && is_side Ending y) (sym same)) (marks_here es x q p Going at ∙ ap (λ y. has_here t es && is_side Going y) (sym same))

-- what a holder becomes
module _ (w : Setting) (facts : List Fact) (n : Numbers) (r : Reduction) (h : Head) (i : Entries) (g : Head) (s : Entries) where
  abbrev pub IsMade : Holder → PickOutcome → Type 0
  IsMade k o = o ≡ reduces r → (r.news ≡ holder_make k n h i g s) × (r.mark ≡ None)

  pub holder_made : (k : Holder) (q : Place) → IsMade k (holder_step w.defs w.inputs w.state facts k (region h i) (region g s) q n)
  holder_made Closed q = λ e. absurd (cc)
  holder_made (Opened f env) q = cond_both (q.is Going) _ _ (IsMade (Opened f env)) (λ _ e. (cc, cc)) (λ _. cond_both (q.is Ending) _ _ (IsMade (Opened f env)) (λ _ e. absurd (cc)) (λ _ e. absurd (cc)))
  holder_made (Running f env) q = λ e. absurd (cc)
  holder_made k q = cond_both (q.is Going) _ _ (IsMade k) (λ _ e. absurd (cc)) (λ _. cond_both (q.is Ending) _ _ (IsMade k) (λ _ e. (cc, cc)) (λ _ e. absurd (cc)))

module _ (w : Setting) (facts : List Fact) (t : ℕ) (n : Numbers) (r : Reduction) where
  abbrev Mark : Thing → Type 0
  Mark x = r.mark ≡ (edit_of x n r).mark

  -- the edit of a reduction has its mark
  mark_of : (es : Entries) (p : Place) (x : Thing) (q : Place) → At t x q es p → pick w facts t es p n ≡ reduces r → Mark x
  mark_of none p x q at e = elim at [ ]
  mark_of (leaf id l rest) p x q (this_leaf a b) e = refl
  mark_of (leaf id l rest) p x q (past_leaf a at) e = mark_of rest p x q at (sym (cond-false (eqb id t) (leaf_step w.defs w.inputs w.state facts l p n) (pick w facts t rest p n) a) ∙ e)
  mark_of (node id k h i g s rest) p x q (this_node a b d f) e = (holder_made w facts n r h i g s k (held_place k h i p) (sym (pick_here w facts t id k h i g s rest p n a) ∙ e)).1
  mark_of (node id k h i g s rest) p x q (in_first a at d f) e = mark_of i _ x q at (sym (pick_first w facts t id k h i g s rest p n a (rw (not_live t s d) (and_none (second_lives k))) (at_live t i x q _ at)) ∙ e)
  mark_of (node id k h i g s rest) p x q (in_second a l b at f) e = mark_of s _ x q at (sym (pick_second w facts t id k h i g s rest p n a (and_from (second_lives k) _ l (at_live t s x q _ at))) ∙ e)
  mark_of (node id k h i g s rest) p x q (past_node a b d at) e =
      mark_of rest p x q at (sym (pick_later w facts t id k h i g s rest p n a (rw (not_live t s d) (and_none (second_lives k))) (not_live t i b)) ∙ e)

  put_is : (es : Entries) (p : Place) (x : Thing) (q : Place) → At t x q es p → pick w facts t es p n ≡ reduces r → put t r.mark r.news es ≡ edited (single t (edit_of x n r)) es
  put_is none p x q at e = elim at [ ]
  put_is (leaf id l rest) p x q (this_leaf a b) e = rw (a, absent t (edit_of (of_leaf l) n r) rest b) refl
  put_is (leaf id l rest) p x q (past_leaf a at) e = rw a (ap (leaf id l) (put_is rest p x q at (sym (cond-false (eqb id t) (leaf_step w.defs w.inputs w.state facts l p n) (pick w facts t rest p n) a) ∙ e)))
  put_is (node id k h i g s rest) p x q (this_node a b d f) e =
      let c = edit_of (of_holder k (held_place k h i p)) n r in
      let m = (holder_made w facts n r h i g s k (held_place k h i p) (sym (pick_here w facts t id k h i g s rest p n a) ∙ e)).0 in
      rw (a, absent t c rest f, absent_head t c i h b, absent t c i b, absent_head t c s g d, absent t c s d) (ap (λ es. append es rest) m)
  put_is (node id k h i g s rest) p x q (in_first a at d f) e =
      let c = edit_of x n r in
      let no : (second_lives k && has t s) ≡ false = rw (not_live t s d) (and_none (second_lives k)) in
      let yes = at_live t i x q _ at in
      let e' = sym (pick_first w facts t id k h i g s rest p n a no yes) ∙ e in
      let m = mark_is t c r.mark (mark_of i _ x q at e') i x q _ at h in
      let q' = put_is i _ x q at e' in
      rw (a, no, yes, absent_head t c s g d, absent t c s d, absent t c rest f) (λ j. node id k (m j) (q' j) g s rest)
  put_is (node id k h i g s rest) p x q (in_second a l b at f) e =
      let c = edit_of x n r in
      let yes = and_from (second_lives k) _ l (at_live t s x q _ at) in
      let e' = sym (pick_second w facts t id k h i g s rest p n a yes) ∙ e in
      let m = mark_is t c r.mark (mark_of s _ x q at e') s x q _ at g in
      let q' = put_is s _ x q at e' in
      rw (a, yes, absent_head t c i h b, absent t c i b, absent t c rest f) (λ j. node id k h i (m j) (q' j) rest)
  put_is (node id k h i g s rest) p x q (past_node a b d at) e =
      let c = edit_of x n r in
      let no : (second_lives k && has t s) ≡ false = rw (not_live t s d) (and_none (second_lives k)) in
      let off = not_live t i b in
      let e' = sym (pick_later w facts t id k h i g s rest p n a no off) ∙ e in
      let q' = put_is rest p x q at e' in
      rw (a, no, off, absent_head t c s g d, absent t c s d, absent_head t c i h b, absent t c i b) (ap (node id k h i g s) q')

pub put_is_edit : PutIsEdit
put_is_edit w facts t n r es p x q at e = (put_is w facts t n r es p x q at e, λ h. mark_is t (edit_of x n r) r.mark (mark_of w facts t n r es p x q at e) es x q p at h)
