-- A live item of a scene whose numbers differ stands at one place; what it gives there; and what its edit owes of the others.
use Rattle.std.proofs.Common.{◌≡◌, ◌≢◌, ◌⊎◌, inl, inr, ℕ, suc, ◌<◌, Bool, true, false, ◌&&◌, eqb, List, [], ◌∷◌, ◌++◌, refl, ap, sym, ◌∙◌, subst}
use Rattle.std.proofs.lemmas.Bool.{cases_Bool, cond_both, or_cases, and_parts, eqb-true, false≢true, false_from_ne_true, cond-true, cond-false}
use Rattle.tp_value.specs.declared.path.Fact.{Fact}
use Rattle.tp_meaning.specs.Syntax.{Definition}
use Rattle.tp_store.specs.Known.{Variable}
use Rattle.tp_scene.specs.Scene.{Ending, Going, Head, Leaf, Holder, Split, SplitProject, Closed, Opened, Running, Entries, none, leaf, node, second_lives, has, Place, held_place, second_place}
use Rattle.tp_scene.specs.Step.{Reduction, PickOutcome, reduces, waits, rests, clashes, misses, passes, Numbers, leaf_step, holder_step}
use Rattle.tp_scene.specs.Pick.{Setting, pick}
use Rattle.tp_scene.specs.Fits.{IsNew, AreNumbers, item_numbers, IsCalm, EntriesFit}
use Rattle.tp_scene.proofs.Frame.{region}
use Rattle.tp_scene.proofs.Keep.{live_fits}
use Rattle.tp_scene.proofs.NewsFit.{entries_calm}
use Rattle.tp_scene.proofs.Plain.{FreshLeaves, Plain, IsPlain, leaf_plain}
use Rattle.tp_scene.proofs.Risen.{pick_here, pick_second, pick_first, pick_later}
use Rattle.tp_step_laws.specs.Edits.{Edit, single, Natural, Thing, of_leaf, of_holder, occurs, At, this_leaf, past_leaf, this_node, in_first, in_second, past_node, Carry, New, edit_of}
use Rattle.tp_step_laws.proofs.Stay.{made, absent_marks, absent, carries_closing, carries_closing_project, carries_running}
use Rattle.tp_step_laws.proofs.Bridge.{not_live, at_live}

abbrev pub Mem : ℕ → List ℕ → Type 0
Mem t [] = ⊥
Mem t (x ∷ xs) = (x ≡ t) ⊎ Mem t xs

mem_left : (t : ℕ) (xs ys : List ℕ) → Mem t xs → Mem t (xs ++ ys)
mem_left t [] ys m = absurd m
mem_left t (x ∷ xs) ys (inl e) = inl e
mem_left t (x ∷ xs) ys (inr m) = inr (mem_left t xs ys m)

mem_right : (t : ℕ) (xs ys : List ℕ) → Mem t ys → Mem t (xs ++ ys)
mem_right t [] ys m = m
mem_right t (x ∷ xs) ys m = inr (mem_right t xs ys m)

new_append : (n : ℕ) (xs ys : List ℕ) → IsNew n (xs ++ ys) → IsNew n xs × IsNew n ys
new_append n [] ys h = (tt, h)
new_append n (x ∷ xs) ys h = let r = new_append n xs ys h.1 in ((h.0, r.0), r.1)

new_mem : (x t : ℕ) (ys : List ℕ) → IsNew x ys → Mem t ys → t ≢ x
new_mem x t [] h m = absurd m
new_mem x t (y ∷ ys) h (inl e) = λ q. h.0 (sym q ∙ sym e)
new_mem x t (y ∷ ys) h (inr m) = new_mem x t ys h.1 m

pub record Apart (below : ℕ) (xs ys : List ℕ) : Type 0 where
  pub left : AreNumbers below xs
  pub right : AreNumbers below ys
  pub there : (t : ℕ) → Mem t xs → IsNew t ys
  pub back : (t : ℕ) → Mem t ys → IsNew t xs

pub apart_parts : (below : ℕ) (xs ys : List ℕ) → AreNumbers below (xs ++ ys) → Apart below xs ys
apart_parts below [] ys h = record { left = tt; right = h; there = λ t m. absurd m; back = λ t m. tt }
apart_parts below (x ∷ xs) ys h =
    let r = apart_parts below xs ys h.2 in
    let n = new_append x xs ys h.1 in
    record {
      left = (h.0, n.0, r.left);
      right = r.right;
      there = λ t m. elim m [ inl e ↦ subst (λ (y : ℕ). IsNew y ys) e n.1 | inr k ↦ r.there t k ];
      back = λ t m. (new_mem x t ys n.1 m, r.back t m);
    }

not_same : (a b : ℕ) → b ≢ a → eqb a b ≡ false
not_same a b ne = false_from_ne_true (eqb a b) (λ e. ne (sym (eqb-true a b e)))

absent_new : (t : ℕ) (es : Entries) → IsNew t (item_numbers es) → occurs t es ≡ false
absent_new t none h = refl
absent_new t (leaf id l rest) h = rw (not_same id t h.0) (absent_new t rest h.1)
absent_new t (node id k hd i g s rest) h =
    let a = new_append t (item_numbers i) (item_numbers s ++ item_numbers rest) h.1 in
    let b = new_append t (item_numbers s) (item_numbers rest) a.1 in
    rw (not_same id t h.0, absent_new t i a.0, absent_new t s b.0) (absent_new t rest b.1)

live_mem : (t : ℕ) (es : Entries) → has t es ≡ true → Mem t (item_numbers es)
live_mem t none h = absurd (false≢true h)
live_mem t (leaf id l rest) h = elim (or_cases (eqb id t) (has t rest) h) [ inl e ↦ inl (eqb-true id t e) | inr e ↦ inr (live_mem t rest e) ]
live_mem t (node id k hd i g s rest) h = elim (or_cases (eqb id t) _ h) [
  | inl e ↦ inl (eqb-true id t e)
  | inr e ↦ elim (or_cases (second_lives k && has t s) _ e) [
    | inl d ↦ inr (mem_right t (item_numbers i) _ (mem_left t (item_numbers s) _ (live_mem t s (and_parts (second_lives k) (has t s) d).1)))
    | inr d ↦ elim (or_cases (has t i) (has t rest) d) [
      | inl c ↦ inr (mem_left t (item_numbers i) _ (live_mem t i c))
      | inr c ↦ inr (mem_right t (item_numbers i) _ (mem_right t (item_numbers s) _ (live_mem t rest c)))
    ]
  ]
]

pub at_of : (below t : ℕ) (es : Entries) (p : Place) → AreNumbers below (item_numbers es) → has t es ≡ true → (x : Thing) × (q : Place) × At t x q es p
at_of below t none p n h = absurd (false≢true h)
at_of below t (leaf id l rest) p n h = elim (cases_Bool (eqb id t)) [
  | inl e ↦ (of_leaf l, p, this_leaf e (absent_new t rest (subst (λ (y : ℕ). IsNew y (item_numbers rest)) (eqb-true id t e) n.1)))
  | inr e ↦ (let r = at_of below t rest p n.2 (rw e at h) in (r.0, r.1, past_leaf e r.2))
]
at_of below t (node id k hd i g s rest) p n h =
    let A = apart_parts below (item_numbers i) (item_numbers s ++ item_numbers rest) n.2 in
    let B = apart_parts below (item_numbers s) (item_numbers rest) A.right in
    elim (cases_Bool (eqb id t)) [
      | inl e ↦ (let q = subst (λ (y : ℕ). IsNew y (item_numbers i ++ (item_numbers s ++ item_numbers rest))) (eqb-true id t e) n.1 in
          let a = new_append t (item_numbers i) _ q in let b = new_append t (item_numbers s) (item_numbers rest) a.1 in
          (of_holder k (held_place k hd i p), p, this_node e (absent_new t i a.0) (absent_new t s b.0) (absent_new t rest b.1)))
      | inr e ↦ elim (cases_Bool (second_lives k && has t s)) [
        | inl d ↦ (let l = and_parts (second_lives k) (has t s) d in let m = live_mem t s l.1 in
            let r = at_of below t s (second_place g s p) B.left l.1 in
            (r.0, r.1, in_second e l.0 (absent_new t i (A.back t (mem_left t (item_numbers s) _ m))) r.2 (absent_new t rest (B.there t m))))
        | inr d ↦ elim (cases_Bool (has t i)) [
          | inl c ↦ (let m = live_mem t i c in let a = new_append t (item_numbers s) (item_numbers rest) (A.there t m) in
              let r = at_of below t i (held_place k hd i p) A.left c in
              (r.0, r.1, in_first e r.2 (absent_new t s a.0) (absent_new t rest a.1)))
          | inr c ↦ (let l : has t rest ≡ true = rw (e, d, c) at h in let m = live_mem t rest l in
              let r = at_of below t rest p B.right l in
              (r.0, r.1, past_node e (absent_new t i (A.back t (mem_right t (item_numbers s) _ m))) (absent_new t s (B.back t m)) r.2))
        ]
      ]
    ]

-- a live item is below the next number
pub live_below : (below t : ℕ) (ns : List ℕ) → AreNumbers below ns → Mem t ns → t < below
live_below below t [] n m = absurd m
live_below below t (x ∷ ns) n (inl e) = subst (λ (y : ℕ). y < below) e n.0
live_below below t (x ∷ ns) n (inr m) = live_below below t ns n.2 m

pub item_below : (below t : ℕ) (es : Entries) → AreNumbers below (item_numbers es) → has t es ≡ true → t < below
item_below below t es n h = live_below below t (item_numbers es) n (live_mem t es h)

-- where it stands no region both ends and goes
abbrev pub CalmThing : Thing → Type 0
CalmThing (of_leaf l) = Unit {0}
CalmThing (of_holder k held) = IsCalm held

pub at_calm : (defs : List Definition) (kinds : List Bool) (variables : List Variable) (t : ℕ) (es : Entries) (x : Thing) (q p : Place) → At t x q es p → EntriesFit defs kinds variables es p → IsCalm q × CalmThing x
at_calm defs kinds variables t none x q p at fit = elim at [ ]
at_calm defs kinds variables t (leaf id l rest) x q p (this_leaf a b) fit = (entries_calm defs kinds variables rest p fit.1, tt)
at_calm defs kinds variables t (leaf id l rest) x q p (past_leaf a at) fit = at_calm defs kinds variables t rest x q p at fit.1
at_calm defs kinds variables t (node id k h i g s rest) x q p (this_node a b d f) fit = (entries_calm defs kinds variables rest p fit.2, entries_calm defs kinds variables i _ fit.1)
at_calm defs kinds variables t (node id k h i g s rest) x q p (in_first a at d f) fit = at_calm defs kinds variables t i x q _ at fit.1
at_calm defs kinds variables t (node id k h i g s rest) x q p (in_second a l b at f) fit = at_calm defs kinds variables t s x q _ at (live_fits defs kinds variables k i _ _ _ l fit.0)
at_calm defs kinds variables t (node id k h i g s rest) x q p (past_node a b d at) fit = at_calm defs kinds variables t rest x q p at fit.2

-- what picking it gives
module _ (w : Setting) (facts : List Fact) (n : Numbers) where
  abbrev pub Picked : Thing → Place → PickOutcome → Type 0
  Picked (of_leaf l) q o = o ≡ leaf_step w.defs w.inputs w.state facts l q n
  Picked (of_holder k held) q o = (h : Head) × (i : Entries) × (g : Head) × (s : Entries) × (o ≡ holder_step w.defs w.inputs w.state facts k (region h i) (region g s) held n)

  move : (x : Thing) (q : Place) (o u : PickOutcome) → u ≡ o → Picked x q o → Picked x q u
  move (of_leaf l) q o u e h = e ∙ h
  move (of_holder k held) q o u e h = (h.0, h.1, h.2, h.3, e ∙ h.4)

  pub picked : (t : ℕ) (es : Entries) (x : Thing) (q p : Place) → At t x q es p → Picked x q (pick w facts t es p n)
  picked t none x q p at = elim at [ ]
  picked t (leaf id l rest) x q p (this_leaf a b) = cond-true (eqb id t) (leaf_step w.defs w.inputs w.state facts l p n) (pick w facts t rest p n) a
  picked t (leaf id l rest) x q p (past_leaf a at) = move x q _ _ (cond-false (eqb id t) (leaf_step w.defs w.inputs w.state facts l p n) (pick w facts t rest p n) a) (picked t rest x q p at)
  picked t (node id k h i g s rest) x q p (this_node a b d f) = (h, i, g, s, pick_here w facts t id k h i g s rest p n a)
  picked t (node id k h i g s rest) x q p (in_first a at d f) = move x q _ _ (pick_first w facts t id k h i g s rest p n a (rw (not_live t s d) (no_and (second_lives k))) (at_live t i x q _ at)) (picked t i x q _ at)
    where
      no_and : (b : Bool) → (b && false) ≡ false
      no_and true = refl
      no_and false = refl
  picked t (node id k h i g s rest) x q p (in_second a l b at f) = move x q _ _ (pick_second w facts t id k h i g s rest p n a (rw (l, at_live t s x q _ at) refl)) (picked t s x q _ at)
  picked t (node id k h i g s rest) x q p (past_node a b d at) = move x q _ _ (pick_later w facts t id k h i g s rest p n a (rw (not_live t s d) (no_and (second_lives k))) (not_live t i b)) (picked t rest x q p at)
    where
      no_and : (b : Bool) → (b && false) ≡ false
      no_and true = refl
      no_and false = refl

-- The edit of a reduction makes nothing of another item's number, carries it along, and lets edits of it through.
module _ (w : Setting) (facts : List Fact) (n : Numbers) (u : ℕ) (fresh : (i : ℕ) → eqb (n.item i) u ≡ false) where
  fresh_leaves : (from to : ℕ) (es : Entries) → FreshLeaves n from es to → occurs u es ≡ false
  fresh_leaves from to none h = refl
  fresh_leaves from to (leaf id l es) h = let e : eqb id u ≡ false = ap (λ i. eqb i u) h.0 ∙ fresh from in rw e (fresh_leaves (suc from) to es h.1)
  fresh_leaves from to (node id k hd i g s es) h = elim h [ ]

  plain_absent : (p : Place) (r : Reduction) → Plain p n r → occurs u r.news ≡ false
  plain_absent p r h = elim (h.news) [
    | inl a ↦ fresh_leaves 0 r.items r.news a.0
    | inr a ↦ ap (occurs u) a.0.is ∙ rw (fresh 0, fresh 1) refl
  ]

  leaf_absent : (l : Leaf) (q : Place) (r : Reduction) → leaf_step w.defs w.inputs w.state facts l q n ≡ reduces r → occurs u r.news ≡ false
  leaf_absent l q r e = plain_absent q r (subst (λ (o : PickOutcome). IsPlain facts q n o) e (leaf_plain facts q n w.defs w.inputs w.state l))

  pub record Owed (x : Thing) (r : Reduction) : Type 0 where
    pub new : New u (edit_of x n r)
    pub carry : Carry u (edit_of x n r) x
    pub natural : (f : Edit) → Natural (single u f) (edit_of x n r)

  holder_new : (k : Holder) → New u (made k n)
  holder_new (Split f env) h i g s a b = rw (fresh 0, fresh 1, a) refl
  holder_new (SplitProject f env) h i g s a b = rw (fresh 0, fresh 1, a, b) refl
  holder_new (Opened f env) h i g s a b = rw (fresh 0, fresh 1, fresh 2, a) refl
  holder_new k h i g s a b = refl

  holder_natural : (k : Holder) (f : Edit) → Natural (single u f) (made k n)
  holder_natural (Split g env) f = record { carried = λ h i g s. rw (fresh 0, fresh 1) refl; unmarked = λ h i g s z. rw (fresh 0, fresh 1) refl }
  holder_natural (SplitProject g env) f = record { carried = λ h i g s. rw (fresh 0, fresh 1) refl; unmarked = λ h i g s z. rw (fresh 0, fresh 1) refl }
  holder_natural Closed f = record { carried = λ h i g s. refl; unmarked = λ h i g s z. refl }
  holder_natural (Opened g env) f = record { carried = λ h i g s. rw (fresh 0, fresh 1, fresh 2) refl; unmarked = λ h i g s z. rw (fresh 2) refl }
  holder_natural (Running g env) f = record { carried = λ h i g s. refl; unmarked = λ h i g s z. refl }

  -- a holder that has a step carries its regions
  abbrev Carried : Holder → Place → PickOutcome → Type 0
  Carried k held (reduces r) = Carry u (made k n) (of_holder k held)
  Carried k held (waits first other) = Unit {0}
  Carried k held rests = Unit {0}
  Carried k held (clashes c) = Unit {0}
  Carried k held (misses port) = Unit {0}
  Carried k held (passes limit) = Unit {0}

  holder_carries : (k : Holder) (h : Head) (i : Entries) (g : Head) (s : Entries) (held : Place) → Carried k held (holder_step w.defs w.inputs w.state facts k (region h i) (region g s) held n)
  holder_carries (Split f env) h i g s held = cond_both (held.is Going) _ _ (Carried (Split f env) held) (λ _. tt) (λ e. cond_both (held.is Ending) _ _ (Carried (Split f env) held) (λ _. carries_closing u n fresh f env held e) (λ _. tt))
  holder_carries (SplitProject f env) h i g s held = cond_both (held.is Going) _ _ (Carried (SplitProject f env) held) (λ _. tt) (λ e. cond_both (held.is Ending) _ _ (Carried (SplitProject f env) held) (λ _. carries_closing_project u n fresh f env held e) (λ _. tt))
  holder_carries (Opened f env) h i g s held = cond_both (held.is Going) _ _ (Carried (Opened f env) held) (λ _. carries_running u n fresh f env held) (λ _. cond_both (held.is Ending) _ _ (Carried (Opened f env) held) (λ _. tt) (λ _. tt))
  holder_carries k h i g s held = tt

  pub owed : (x : Thing) (q : Place) (o : PickOutcome) (r : Reduction) → Picked w facts n x q o → o ≡ reduces r → Owed x r
  owed (of_leaf l) q o r k e =
      let a = leaf_absent l q r (sym k ∙ e) in
      record { new = λ h i g s b c. a; carry = tt; natural = λ f. record { carried = λ h i g s. absent u f r.news a; unmarked = λ h i g s z. absent_marks u f r.news z a } }
  owed (of_holder k held) q o r x e = record {
    new = holder_new k;
    carry = subst (λ (y : PickOutcome). Carried k held y) (sym x.4 ∙ e) (holder_carries k x.0 x.1 x.2 x.3 held);
    natural = λ f. holder_natural k f;
  }
