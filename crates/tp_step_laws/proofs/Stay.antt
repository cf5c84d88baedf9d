-- An item stays live where another is picked, also inside a region that the other one carries along.
use Rattle.std.proofs.Common.{◌≡◌, ℕ, ◌+◌, Bool, true, false, ◌||◌, ◌&&◌, eqb, refl, ap, sym, ◌∙◌, inl, inr}
use Rattle.std.specs.Prelude.{None}
use Rattle.std.proofs.lemmas.Bool.{cases_Bool, or_parts, or_cases, or_left, or_right, and_parts, and_from, false≢true}
use Rattle.tp_meaning.specs.Syntax.{FormulaTree}
use Rattle.tp_scene.specs.Scene.{Bindings, Side, Ending, Going, Head, marked, Holder, Split, SplitProject, Closed, Opened, Entries, none, leaf, node, new_head, second_lives, append, rises, sinks, forced, risen, Place, held_place, second_place}
use Rattle.tp_scene.specs.Step.{Numbers}
use Rattle.tp_step_laws.specs.Edits.{Edit, Edits, marks, head_after, edited, single, Thing, of_leaf, of_holder, GrowsThing, occurs, At, this_leaf, past_leaf, this_node, in_first, in_second, past_node, Stays, CarriesRegions, Carry, New}
use Rattle.tp_step_laws.specs.Rows.{Grows, holder_make}
use Rattle.tp_step_laws.proofs.Fuse.{apart}

abbrev pub made : Holder → Numbers → Edit
made k n = record { mark = None; make = holder_make k n }

pub occurs_append : (t : ℕ) (xs ys : Entries) → occurs t xs ≡ false → occurs t ys ≡ false → occurs t (append xs ys) ≡ false
occurs_append t none ys a b = b
occurs_append t (leaf id l rest) ys a b = let e = or_parts (eqb id t) (occurs t rest) a in rw e.0 (occurs_append t rest ys e.1 b)
occurs_append t (node id k h i g s rest) ys a b =
    let e = or_parts (eqb id t) _ a in let d = or_parts (occurs t i) _ e.1 in let c = or_parts (occurs t s) (occurs t rest) d.1 in
    rw (e.0, d.0, c.0) (occurs_append t rest ys c.1 b)

at_append : (u : ℕ) (y : Thing) (r p : Place) (xs ys : Entries) → occurs u xs ≡ false → At u y r ys p → At u y r (append xs ys) p
at_append u y r p none ys a at = at
at_append u y r p (leaf id l rest) ys a at = let e = or_parts (eqb id u) (occurs u rest) a in past_leaf e.0 (at_append u y r p rest ys e.1 at)
at_append u y r p (node id k h i g s rest) ys a at =
    let e = or_parts (eqb id u) _ a in let d = or_parts (occurs u i) _ e.1 in let c = or_parts (occurs u s) (occurs u rest) d.1 in
    past_node e.0 d.0 c.0 (at_append u y r p rest ys c.1 at)

rewrap : {u : ℕ} {y : Thing} {r : Place} {es fs : Entries} {p q : Place} → Stays u y r es p → ((x : Thing) (b : Place) → At u x b es p → At u x b fs q) → Stays u y r fs q
rewrap z f = record { thing = z.thing; place = z.place; at = f z.thing z.place z.at; like = z.like; more = z.more }

or_grows : (a b c d : Bool) → (a ≡ true → c ≡ true) → (b ≡ true → d ≡ true) → (a || b) ≡ true → (c || d) ≡ true
or_grows a b c d f g e = elim (or_cases a b e) [ inl x ↦ or_left c d (f x) | inr x ↦ or_right c d (g x) ]

pub grows_same : (p : Place) → Grows p p
grows_same p = record { region = refl; depth = refl; sides = λ z e. e }

one_deeper : {a b : ℕ} → b ≡ a → b + 1 ≡ a + 1
one_deeper e = ap (λ d. d + 1) e

pub held_grows : (k : Holder) (h h' : Head) (i i' : Entries) (p q : Place) → Grows p q → h'.number ≡ h.number → ((z : Side) → marked z h ≡ true → marked z h' ≡ true) → ((z : Side) → risen z i ≡ true → risen z i' ≡ true)
    → Grows (held_place k h i p) (held_place k h' i' q)
held_grows k h h' i i' p q gr num m st = record { region = num; depth = one_deeper gr.depth; sides = sides }
  where
    sides : (z : Side) → (held_place k h i p).is z ≡ true → (held_place k h' i' q).is z ≡ true
    sides z e =
        or_grows (sinks k z && p.is z) (forced k z || (marked z h || risen z i)) (sinks k z && q.is z) (forced k z || (marked z h' || risen z i'))
        (λ x. let y = and_parts (sinks k z) (p.is z) x in and_from (sinks k z) (q.is z) y.0 (gr.sides z y.1))
        (or_grows (forced k z) (marked z h || risen z i) (forced k z) (marked z h' || risen z i') (λ x. x) (or_grows (marked z h) (risen z i) (marked z h') (risen z i') (m z) (st z))) e

pub second_grows : (g g' : Head) (s s' : Entries) (p q : Place) → Grows p q → g'.number ≡ g.number → ((z : Side) → marked z g ≡ true → marked z g' ≡ true) → ((z : Side) → risen z s ≡ true → risen z s' ≡ true)
    → Grows (second_place g s p) (second_place g' s' q)
second_grows g g' s s' p q gr num m st = record { region = num; depth = one_deeper gr.depth; sides = sides }
  where
    sides : (z : Side) → (second_place g s p).is z ≡ true → (second_place g' s' q).is z ≡ true
    sides z e = or_grows (p.is z) (marked z g || risen z s) (q.is z) (marked z g' || risen z s') (gr.sides z) (or_grows (marked z g) (risen z s) (marked z g') (risen z s') (m z) (st z)) e

pub like_same : (y : Thing) → GrowsThing y y
like_same (of_leaf l) = refl
like_same (of_holder k held) = (refl, grows_same held)

-- the same entries in a region of more status
at_more : (u : ℕ) (es : Entries) (y : Thing) (r p q : Place) → At u y r es p → Grows p q → Stays u y r es q
at_more u none y r p q at gr = elim at [ ]
at_more u (leaf id l rest) y r p q (this_leaf a b) gr = record { thing = of_leaf l; place = q; at = this_leaf a b; like = refl; more = gr }
at_more u (leaf id l rest) y r p q (past_leaf a at) gr = rewrap (at_more u rest y r p q at gr) (λ x b v. past_leaf a v)
at_more u (node id k h i g s rest) y r p q (this_node a b c d) gr =
    record { thing = of_holder k (held_place k h i q); place = q; at = this_node a b c d; like = (refl, held_grows k h h i i p q gr refl (λ z e. e) (λ z e. e)); more = gr }
at_more u (node id k h i g s rest) y r p q (in_first a at c d) gr =
    rewrap (at_more u i y r (held_place k h i p) (held_place k h i q) at (held_grows k h h i i p q gr refl (λ z e. e) (λ z e. e))) (λ x b v. in_first a v c d)
at_more u (node id k h i g s rest) y r p q (in_second a l b at d) gr =
    rewrap (at_more u s y r (second_place g s p) (second_place g s q) at (second_grows g g s s p q gr refl (λ z e. e) (λ z e. e))) (λ x c v. in_second a l b v d)
at_more u (node id k h i g s rest) y r p q (past_node a b c at) gr = rewrap (at_more u rest y r p q at gr) (λ x d v. past_node a b c v)

pub head_grows : (ρ : Edits) (es : Entries) (h : Head) (z : Side) → marked z h ≡ true → marked z (head_after ρ es h) ≡ true
head_grows ρ es h Ending e = or_left h.ends (marks ρ Ending es) e
head_grows ρ es h Going e = or_left h.goes (marks ρ Going es) e

module _ (t : ℕ) (e : Edit) where
  pub absent_marks : (es : Entries) (z : Side) → occurs t es ≡ false → marks (single t e) z es ≡ false
  absent_marks none z a = refl
  absent_marks (leaf id l rest) z a = let d = or_parts (eqb id t) (occurs t rest) a in rw d.0 (absent_marks rest z d.1)
  absent_marks (node id k h i g s rest) z a =
      let d = or_parts (eqb id t) _ a in let c = or_parts (occurs t i) _ d.1 in let b = or_parts (occurs t s) (occurs t rest) c.1 in
      rw d.0 (absent_marks rest z b.1)

  pub absent_head : (es : Entries) (h : Head) → occurs t es ≡ false → head_after (single t e) es h ≡ h
  absent_head es h a = λ x. record {
    number = h.number;
    ends = (ap (λ b. h.ends || b) (absent_marks es Ending a) ∙ or_none h.ends) x;
    goes = (ap (λ b. h.goes || b) (absent_marks es Going a) ∙ or_none h.goes) x;
  }
    where
      or_none : (b : Bool) → (b || false) ≡ b
      or_none true = refl
      or_none false = refl

  pub absent : (es : Entries) → occurs t es ≡ false → edited (single t e) es ≡ es
  absent none a = refl
  absent (leaf id l rest) a = let d = or_parts (eqb id t) (occurs t rest) a in rw d.0 (ap (leaf id l) (absent rest d.1))
  absent (node id k h i g s rest) a =
      let d = or_parts (eqb id t) _ a in let c = or_parts (occurs t i) _ d.1 in let b = or_parts (occurs t s) (occurs t rest) c.1 in
      rw d.0 (λ x. node id k (absent_head i h c.0 x) (absent i c.0 x) (absent_head s g b.0 x) (absent s b.0 x) (absent rest b.1 x))

module _ (t u : ℕ) (e : Edit) (new : New u e) where
  pub occurs_edited : (es : Entries) → occurs u es ≡ false → occurs u (edited (single t e) es) ≡ false
  occurs_edited none a = refl
  occurs_edited (leaf id l rest) a =
      let d = or_parts (eqb id u) (occurs u rest) a in
      elim (cases_Bool (eqb id t)) [
        | inl y ↦ rw y (occurs_append u (e.make (new_head 0) none (new_head 0) none) (edited (single t e) rest) (new (new_head 0) none (new_head 0) none refl refl) (occurs_edited rest d.1))
        | inr y ↦ simp (y, d.0) (occurs_edited rest d.1)
      ]
  occurs_edited (node id k h i g s rest) a =
      let d = or_parts (eqb id u) _ a in let c = or_parts (occurs u i) _ d.1 in let b = or_parts (occurs u s) (occurs u rest) c.1 in
      let oi = occurs_edited i c.0 in let os = occurs_edited s b.0 in let orr = occurs_edited rest b.1 in
      elim (cases_Bool (eqb id t)) [
        | inl y ↦ rw y (occurs_append u (e.make (head_after (single t e) i h) (edited (single t e) i) (head_after (single t e) s g) (edited (single t e) s)) (edited (single t e) rest) (new _ _ _ _ oi os) orr)
        | inr y ↦ simp (y, d.0, oi, os) orr
      ]

  -- no status is lost
  pub status_up : (es : Entries) (x : Thing) (q p : Place) → At t x q es p → Carry u e x → (z : Side) → risen z es ≡ true → risen z (edited (single t e) es) ≡ true
  status_up none x q p at c z st = elim at [ ]
  status_up (leaf id l rest) x q p (this_leaf a b) c z st =
      let r = absent t e rest b in rw (a, r) (later (e.make (new_head 0) none (new_head 0) none) rest st)
    where
      later : (xs ys : Entries) → risen z ys ≡ true → risen z (append xs ys) ≡ true
      later none ys m = m
      later (leaf id l rest) ys m = later rest ys m
      later (node id k h i g s rest) ys m = or_right (rises k z && (marked z h || risen z i)) _ (or_right (second_lives k && (marked z g || risen z s)) _ (later rest ys m))
  status_up (leaf id l rest) x q p (past_leaf a at) c z st = rw a (status_up rest x q p at c z st)
  status_up (node id k h i g s rest) x q p (this_node a b d f) c z st =
      let hi = absent_head t e i h b in let ei = absent t e i b in let hs = absent_head t e s g d in let es = absent t e s d in let er = absent t e rest f in
      rw (a, hi, ei, hs, es, er) (c.up h i g s rest z (λ m. or_right (sinks k z && p.is z) _ (or_right (forced k z) _ m)) st)
  status_up (node id k h i g s rest) x q p (in_first a at d f) c z st =
      let hs = absent_head t e s g d in let es = absent t e s d in let er = absent t e rest f in
      rw (a, hs, es, er) (or_grows (rises k z && (marked z h || risen z i)) _ (rises k z && (marked z (head_after (single t e) i h) || risen z (edited (single t e) i))) _
      (λ m. let y = and_parts (rises k z) _ m in and_from (rises k z) _ y.0 (or_grows (marked z h) (risen z i) (marked z (head_after (single t e) i h)) _ (head_grows (single t e) i h z) (status_up i x q (held_place k h i p) at c z) y.1))
      (λ m. m) st)
  status_up (node id k h i g s rest) x q p (in_second a l b at f) c z st =
      let hi = absent_head t e i h b in let ei = absent t e i b in let er = absent t e rest f in
      rw (a, hi, ei, er) (or_grows (rises k z && (marked z h || risen z i)) _ (rises k z && (marked z h || risen z i)) _ (λ m. m)
      (or_grows (second_lives k && (marked z g || risen z s)) (risen z rest) (second_lives k && (marked z (head_after (single t e) s g) || risen z (edited (single t e) s))) (risen z rest)
      (λ m. let y = and_parts (second_lives k) _ m in and_from (second_lives k) _ y.0 (or_grows (marked z g) (risen z s) (marked z (head_after (single t e) s g)) _ (head_grows (single t e) s g z) (status_up s x q (second_place g s p) at c z) y.1))
      (λ m. m)) st)
  status_up (node id k h i g s rest) x q p (past_node a b d at) c z st =
      let hi = absent_head t e i h b in let ei = absent t e i b in let hs = absent_head t e s g d in let es = absent t e s d in
      rw (a, hi, ei, hs, es) (or_grows (rises k z && (marked z h || risen z i)) _ (rises k z && (marked z h || risen z i)) _ (λ m. m)
      (or_grows (second_lives k && (marked z g || risen z s)) (risen z rest) (second_lives k && (marked z g || risen z s)) (risen z (edited (single t e) rest)) (λ m. m) (status_up rest x q p at c z)) st)

never : {A : Type 0} (id t u : ℕ) → eqb t u ≡ false → eqb id t ≡ true → eqb id u ≡ true → A
never id t u ne a b = absurd (false≢true (sym (apart id t u ne a) ∙ b))

module _ (t u : ℕ) (e : Edit) (tu : eqb t u ≡ false) (new : New u e) where
  new_append : (h : Head) (i : Entries) (g : Head) (s rest : Entries) (y : Thing) (r p : Place) → occurs u i ≡ false → occurs u s ≡ false → At u y r rest p → At u y r (append (e.make h i g s) rest) p
  new_append h i g s rest y r p a b at = at_append u y r p (e.make h i g s) rest (new h i g s a b) at

  pub remains : (es : Entries) (x : Thing) (q : Place) (y : Thing) (r : Place) (p p' : Place) → At t x q es p → Carry u e x → At u y r es p → Grows p p' → Stays u y r (edited (single t e) es) p'
  remains none x q y r p p' at c au gr = elim at [ ]
  remains (leaf id l rest) x q y r p p' (this_leaf a b) c (this_leaf m n) gr = never id t u tu a m
  remains (leaf id l rest) x q y r p p' (this_leaf a b) c (past_leaf m au) gr =
      let er = absent t e rest b in
      rw (a, er) (rewrap (at_more u rest y r p p' au gr) (λ z d v. new_append (new_head 0) none (new_head 0) none rest z d p' refl refl v))
  remains (leaf id l rest) x q y r p p' (past_leaf a at) c (this_leaf m n) gr =
      rw a (record { thing = of_leaf l; place = p'; at = this_leaf m (occurs_edited t u e new rest n); like = refl; more = gr })
  remains (leaf id l rest) x q y r p p' (past_leaf a at) c (past_leaf m au) gr =
      rw a (rewrap (remains rest x q y r p p' at c au gr) (λ z d v. past_leaf m v))
  remains (node id k h i g s rest) x q y r p p' (this_node a b d f) c (this_node m n o w) gr = never id t u tu a m
  remains (node id k h i g s rest) x q y r p p' (this_node a b d f) c (in_first m au o w) gr =
      let hi = absent_head t e i h b in let ei = absent t e i b in let hs = absent_head t e s g d in let es = absent t e s d in let er = absent t e rest f in
      rw (a, hi, ei, hs, es, er) (c.within y r h i g s rest p p' au gr o w)
  remains (node id k h i g s rest) x q y r p p' (this_node a b d f) c (in_second m l n au w) gr = absurd (false≢true (sym c.dead ∙ l))
  remains (node id k h i g s rest) x q y r p p' (this_node a b d f) c (past_node m n o au) gr =
      let hi = absent_head t e i h b in let ei = absent t e i b in let hs = absent_head t e s g d in let es = absent t e s d in let er = absent t e rest f in
      rw (a, hi, ei, hs, es, er) (rewrap (at_more u rest y r p p' au gr) (λ z v at. new_append h i g s rest z v p' n o at))
  remains (node id k h i g s rest) x q y r p p' (in_first a at d f) c (this_node m n o w) gr =
      let hs = absent_head t e s g d in let es = absent t e s d in let er = absent t e rest f in
      let up : Grows (held_place k h i p) (held_place k (head_after (single t e) i h) (edited (single t e) i) p') =
      held_grows k h (head_after (single t e) i h) i (edited (single t e) i) p p' gr refl (head_grows (single t e) i h) (λ z. status_up t u e new i x q (held_place k h i p) at c z) in
      rw (a, hs, es, er) (record { thing = of_holder k (held_place k (head_after (single t e) i h) (edited (single t e) i) p'); place = p'; at = this_node m (occurs_edited t u e new i n) o w; like = (refl, up); more = gr })
  remains (node id k h i g s rest) x q y r p p' (in_first a at d f) c (in_first m v o w) gr =
      let hs = absent_head t e s g d in let es = absent t e s d in let er = absent t e rest f in
      let up : Grows (held_place k h i p) (held_place k (head_after (single t e) i h) (edited (single t e) i) p') =
      held_grows k h (head_after (single t e) i h) i (edited (single t e) i) p p' gr refl (head_grows (single t e) i h) (λ z. status_up t u e new i x q (held_place k h i p) at c z) in
      rw (a, hs, es, er) (rewrap (remains i x q y r (held_place k h i p) (held_place k (head_after (single t e) i h) (edited (single t e) i) p') at c v up) (λ z b v. in_first m v o w))
  remains (node id k h i g s rest) x q y r p p' (in_first a at d f) c (in_second m l n v w) gr =
      let hs = absent_head t e s g d in let es = absent t e s d in let er = absent t e rest f in
      let up : Grows (held_place k h i p) (held_place k (head_after (single t e) i h) (edited (single t e) i) p') =
      held_grows k h (head_after (single t e) i h) i (edited (single t e) i) p p' gr refl (head_grows (single t e) i h) (λ z. status_up t u e new i x q (held_place k h i p) at c z) in
      rw (a, hs, es, er) (rewrap (at_more u s y r (second_place g s p) (second_place g s p') v (second_grows g g s s p p' gr refl (λ z e. e) (λ z e. e))) (λ z b v. in_second m l (occurs_edited t u e new i n) v w))
  remains (node id k h i g s rest) x q y r p p' (in_first a at d f) c (past_node m n o v) gr =
      let hs = absent_head t e s g d in let es = absent t e s d in let er = absent t e rest f in
      let up : Grows (held_place k h i p) (held_place k (head_after (single t e) i h) (edited (single t e) i) p') =
      held_grows k h (head_after (single t e) i h) i (edited (single t e) i) p p' gr refl (head_grows (single t e) i h) (λ z. status_up t u e new i x q (held_place k h i p) at c z) in
      rw (a, hs, es, er) (rewrap (at_more u rest y r p p' v gr) (λ z b v. past_node m (occurs_edited t u e new i n) o v))
  remains (node id k h i g s rest) x q y r p p' (in_second a l b at f) c (this_node m n o w) gr =
      let hi = absent_head t e i h b in let ei = absent t e i b in let er = absent t e rest f in
      let up : Grows (second_place g s p) (second_place (head_after (single t e) s g) (edited (single t e) s) p') =
      second_grows g (head_after (single t e) s g) s (edited (single t e) s) p p' gr refl (head_grows (single t e) s g) (λ z. status_up t u e new s x q (second_place g s p) at c z) in
      let ins : Grows (held_place k h i p) (held_place k h i p') = held_grows k h h i i p p' gr refl (λ z e. e) (λ z e. e) in
      rw (a, hi, ei, er) (record { thing = of_holder k (held_place k h i p'); place = p'; at = this_node m n (occurs_edited t u e new s o) w; like = (refl, ins); more = gr })
  remains (node id k h i g s rest) x q y r p p' (in_second a l b at f) c (in_first m v o w) gr =
      let hi = absent_head t e i h b in let ei = absent t e i b in let er = absent t e rest f in
      let up : Grows (second_place g s p) (second_place (head_after (single t e) s g) (edited (single t e) s) p') =
      second_grows g (head_after (single t e) s g) s (edited (single t e) s) p p' gr refl (head_grows (single t e) s g) (λ z. status_up t u e new s x q (second_place g s p) at c z) in
      let ins : Grows (held_place k h i p) (held_place k h i p') = held_grows k h h i i p p' gr refl (λ z e. e) (λ z e. e) in
      rw (a, hi, ei, er) (rewrap (at_more u i y r (held_place k h i p) (held_place k h i p') v ins) (λ z b v. in_first m v (occurs_edited t u e new s o) w))
  remains (node id k h i g s rest) x q y r p p' (in_second a l b at f) c (in_second m l' n v w) gr =
      let hi = absent_head t e i h b in let ei = absent t e i b in let er = absent t e rest f in
      let up : Grows (second_place g s p) (second_place (head_after (single t e) s g) (edited (single t e) s) p') =
      second_grows g (head_after (single t e) s g) s (edited (single t e) s) p p' gr refl (head_grows (single t e) s g) (λ z. status_up t u e new s x q (second_place g s p) at c z) in
      let ins : Grows (held_place k h i p) (held_place k h i p') = held_grows k h h i i p p' gr refl (λ z e. e) (λ z e. e) in
      rw (a, hi, ei, er) (rewrap (remains s x q y r (second_place g s p) (second_place (head_after (single t e) s g) (edited (single t e) s) p') at c v up) (λ z b v. in_second m l' n v w))
  remains (node id k h i g s rest) x q y r p p' (in_second a l b at f) c (past_node m n o v) gr =
      let hi = absent_head t e i h b in let ei = absent t e i b in let er = absent t e rest f in
      let up : Grows (second_place g s p) (second_place (head_after (single t e) s g) (edited (single t e) s) p') =
      second_grows g (head_after (single t e) s g) s (edited (single t e) s) p p' gr refl (head_grows (single t e) s g) (λ z. status_up t u e new s x q (second_place g s p) at c z) in
      let ins : Grows (held_place k h i p) (held_place k h i p') = held_grows k h h i i p p' gr refl (λ z e. e) (λ z e. e) in
      rw (a, hi, ei, er) (rewrap (at_more u rest y r p p' v gr) (λ z b v. past_node m n (occurs_edited t u e new s o) v))
  remains (node id k h i g s rest) x q y r p p' (past_node a b d at) c (this_node m n o w) gr =
      let hi = absent_head t e i h b in let ei = absent t e i b in let hs = absent_head t e s g d in let es = absent t e s d in
      let ins : Grows (held_place k h i p) (held_place k h i p') = held_grows k h h i i p p' gr refl (λ z e. e) (λ z e. e) in
      rw (a, hi, ei, hs, es) (record { thing = of_holder k (held_place k h i p'); place = p'; at = this_node m n o (occurs_edited t u e new rest w); like = (refl, ins); more = gr })
  remains (node id k h i g s rest) x q y r p p' (past_node a b d at) c (in_first m v o w) gr =
      let hi = absent_head t e i h b in let ei = absent t e i b in let hs = absent_head t e s g d in let es = absent t e s d in
      let ins : Grows (held_place k h i p) (held_place k h i p') = held_grows k h h i i p p' gr refl (λ z e. e) (λ z e. e) in
      rw (a, hi, ei, hs, es) (rewrap (at_more u i y r (held_place k h i p) (held_place k h i p') v ins) (λ z b v. in_first m v o (occurs_edited t u e new rest w)))
  remains (node id k h i g s rest) x q y r p p' (past_node a b d at) c (in_second m l n v w) gr =
      let hi = absent_head t e i h b in let ei = absent t e i b in let hs = absent_head t e s g d in let es = absent t e s d in
      let ins : Grows (held_place k h i p) (held_place k h i p') = held_grows k h h i i p p' gr refl (λ z e. e) (λ z e. e) in
      rw (a, hi, ei, hs, es) (rewrap (at_more u s y r (second_place g s p) (second_place g s p') v (second_grows g g s s p p' gr refl (λ z e. e) (λ z e. e))) (λ z b v. in_second m l n v (occurs_edited t u e new rest w)))
  remains (node id k h i g s rest) x q y r p p' (past_node a b d at) c (past_node m n o v) gr =
      let hi = absent_head t e i h b in let ei = absent t e i b in let hs = absent_head t e s g d in let es = absent t e s d in
      let ins : Grows (held_place k h i p) (held_place k h i p') = held_grows k h h i i p p' gr refl (λ z e. e) (λ z e. e) in
      rw (a, hi, ei, hs, es) (rewrap (remains rest x q y r p p' at c v gr) (λ z b v. past_node m n o v))

-- a region that is closed grows where it doesn't go
closed_grows : (k : Holder) (h : Head) (i : Entries) (p q : Place) → ((held_place k h i p).is Going ≡ true → (held_place Closed h i q).is Going ≡ true) → Grows p q → Grows (held_place k h i p) (held_place Closed h i q)
closed_grows k h i p q going gr = record { region = refl; depth = one_deeper gr.depth; sides = sides }
  where
    sides : (z : Side) → (held_place k h i p).is z ≡ true → (held_place Closed h i q).is z ≡ true
    sides Ending e = refl
    sides Going e = going e

-- The three edits that carry a region.

module _ (u : ℕ) (n : Numbers) (fresh : (i : ℕ) → eqb (n.item i) u ≡ false) where
  pub carries_closing : (f : FormulaTree) (env : Bindings) (held : Place) → held.is Going ≡ false → CarriesRegions u (made (Split f env) n) (Split f env) held
  carries_closing f env held no_go = record { dead = refl; up = up; within = within }
    where
      up : (h : Head) (i : Entries) (g : Head) (s rest : Entries) (z : Side) → ((marked z h || risen z i) ≡ true → held.is z ≡ true) → risen z (node 0 (Split f env) h i g s rest) ≡ true → risen z rest ≡ true
      up h i g s rest Ending m st = st
      up h i g s rest Going m st = elim (or_cases (h.goes || risen Going i) (risen Going rest) st) [ inl a ↦ absurd (false≢true (sym no_go ∙ m a)) | inr b ↦ b ]

      within : (y : Thing) (r : Place) (h : Head) (i : Entries) (g : Head) (s rest : Entries) (p q : Place) → At u y r i (held_place (Split f env) h i p) → Grows p q → occurs u s ≡ false → occurs u rest ≡ false →
          Stays u y r (append ((made (Split f env) n).make h i g s) rest) q
      within y r h i g s rest p q at gr a b =
          rewrap (at_more u i y r (held_place (Split f env) h i p) (held_place Closed h i q) at (closed_grows (Split f env) h i p q (λ e. e) gr)) (λ z d v. in_first (fresh 0) v refl (rw (fresh 1) b))

  pub carries_closing_project : (f : FormulaTree) (env : Bindings) (held : Place) → held.is Going ≡ false → CarriesRegions u (made (SplitProject f env) n) (SplitProject f env) held
  carries_closing_project f env held no_go = record { dead = refl; up = up; within = within }
    where
      up : (h : Head) (i : Entries) (g : Head) (s rest : Entries) (z : Side) → ((marked z h || risen z i) ≡ true → held.is z ≡ true) → risen z (node 0 (SplitProject f env) h i g s rest) ≡ true →
          risen z (append ((made (SplitProject f env) n).make h i g s) rest) ≡ true
      up h i g s rest Ending m st = or_right (g.ends || risen Ending s) _ st
      up h i g s rest Going m st = elim (or_cases (h.goes || risen Going i) (risen Going rest) st) [ inl a ↦ absurd (false≢true (sym no_go ∙ m a)) | inr b ↦ or_right (g.goes || risen Going s) _ b ]

      within : (y : Thing) (r : Place) (h : Head) (i : Entries) (g : Head) (s rest : Entries) (p q : Place) → At u y r i (held_place (SplitProject f env) h i p) → Grows p q → occurs u s ≡ false → occurs u rest ≡ false →
          Stays u y r (append ((made (SplitProject f env) n).make h i g s) rest) q
      within y r h i g s rest p q at gr a b =
          rewrap (at_more u i y r (held_place (SplitProject f env) h i p) (held_place Closed h i q) at (closed_grows (SplitProject f env) h i p q (λ e. e) gr)) (λ z d v. in_first (fresh 0) v refl (rw (fresh 1, a) b))

  pub carries_running : (f : FormulaTree) (env : Bindings) (held : Place) → CarriesRegions u (made (Opened f env) n) (Opened f env) held
  carries_running f env held = record { dead = refl; up = up; within = within }
    where
      up : (h : Head) (i : Entries) (g : Head) (s rest : Entries) (z : Side) → ((marked z h || risen z i) ≡ true → held.is z ≡ true) → risen z (node 0 (Opened f env) h i g s rest) ≡ true →
          risen z (append ((made (Opened f env) n).make h i g s) rest) ≡ true
      up h i g s rest Ending m st = st
      up h i g s rest Going m st = st

      grow : (h : Head) (i : Entries) (p q : Place) → Grows p q → Grows (held_place (Opened f env) h i p) (second_place h i q)
      grow h i p q gr = record { region = refl; depth = one_deeper gr.depth; sides = λ z e. or_grows (p.is z) (marked z h || risen z i) (q.is z) (marked z h || risen z i) (gr.sides z) (λ m. m) e }

      within : (y : Thing) (r : Place) (h : Head) (i : Entries) (g : Head) (s rest : Entries) (p q : Place) → At u y r i (held_place (Opened f env) h i p) → Grows p q → occurs u s ≡ false → occurs u rest ≡ false →
          Stays u y r (append ((made (Opened f env) n).make h i g s) rest) q
      within y r h i g s rest p q at gr a b =
          rewrap (at_more u i y r (held_place (Opened f env) h i p) (second_place h i q) at (grow h i p q gr)) (λ z d v. in_second (fresh 2) refl (rw (fresh 0, fresh 1) refl) v b)
