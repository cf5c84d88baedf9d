-- What a step gives is within the limits where bound values and inputs are.
use Rattle.std.proofs.Common.{◌≡◌, inl, inr, ℕ, nat_le, suc, ◌≤◌, true, ◌&&◌, eqb, List, [], ◌∷◌, refl, sym, ◌∙◌, subst, length, Option, Some, arith}
use Rattle.std.proofs.lemmas.Bool.{cond_both, and_parts, leb-true, ltb-false, cases_Bool, false≢true}
use Rattle.tp_value.specs.Tree.{Tree, Trees, num, truth, list, nil, cons, items_of}
use Rattle.tp_value.specs.Limits.{depth_of, items_in, items_within, length_limit}
use Rattle.tp_value.specs.Room.{IsWithinListLimit}
use Rattle.tp_value.specs.Limits as limits
use Rattle.tp_value.specs.declared.path.Path.{Path}
use Rattle.tp_value.specs.declared.path.Fact.{Fact}
use Rattle.tp_value.specs.declared.value.Shape.{Shape}
use Rattle.tp_value.specs.declared.value.Shape.TheVariants.{Num, Truth, Items}
use Rattle.tp_meaning.specs.Syntax.{FormulaTree, Definition}
use Rattle.tp_meaning.specs.Inputs.{InputTable}
use Rattle.tp_store.specs.Facts.{kept_shape, fact, facts_at, facts_of_items, item_path}
use Rattle.tp_store.specs.Known.{is_none}
use Rattle.tp_store.proofs.Members.{In, in_append, in_filter, kept_in}
use Rattle.tp_store.proofs.Adding.{adds_all}
use Rattle.tp_scene.specs.Scene.{Bindings, Side, Ending, Going, Head, Leaf, Do, Later, Shown, Holder, Split, SplitProject, Opened, Running, Entries, none, leaf, node, second_lives, has, append, new_head, no_region, Place}
use Rattle.tp_scene.specs.Step.{Reduction, PickOutcome, reduces, waits, rests, clashes, misses, passes, Numbers, by_status, leaf_step, holder_step}
use Rattle.tp_scene.specs.Pick.{Setting, pick, put}
use Rattle.tp_scene.proofs.Frame.{region}
use Rattle.tp_scene.proofs.Risen.{pick_here, pick_second, pick_first, pick_later}
use Rattle.tp_inputs.specs.Within.{InputsWithin}
use Rattle.tp_step_laws.specs.Within.{LengthsAreWithin, BindingWithin, BindingsWithin, LeafWithin, HolderWithin, SecondIsOwn, EntriesWithin, PicksStayWithin}
use Rattle.tp_step_laws.proofs.InputsWithin.{input_within}
use Rattle.tp_step_laws.proofs.Small.{ValueWithin, small, evaluates_small}
use Rattle.tp_scene.proofs.Told.{LeavesTold, HolderTold, RowsKeep, Told, formula_told}
use Rattle.tp_scene.proofs.Free.{free_parts}
use Rattle.tp_scene.proofs.Evaluated.{outcome_told, place_outcome_told}

-- a list of this shape is no longer than a length may be
abbrev IsShort : Shape → Type 0
IsShort (Num n) = Unit {0}
IsShort (Truth b) = Unit {0}
IsShort (Items n) = n ≤ length_limit

abbrev AreShort : List Fact → Type 0
AreShort fs = (f : Fact) → In f fs → IsShort f.shape

short_lengths : (fs : List Fact) → AreShort fs → LengthsAreWithin fs
short_lengths fs h p n e = h (fact p (Items n)) (kept_in fs p (Items n) e)

-- as many items as the value has, counted at every depth, or fewer
fewer : (ts : Trees) → length (items_of ts) ≤ items_within ts
fewer nil = omega arith
fewer (cons t ts) = let h = fewer ts in omega (arith, h)

one_fact : (f : Fact) → IsShort f.shape → AreShort (f ∷ [])
one_fact f h g (inl e) = subst (λ (x : Fact). IsShort x.shape) e h
one_fact f h g (inr i) = absurd i

mutual
  value_facts : (p : Path) (t : Tree) → items_in t ≤ limits.item_limit → AreShort (facts_at p t)
  value_facts p (num n) h f i = one_fact (fact p (Num n)) tt f i
  value_facts p (truth b) h f i = one_fact (fact p (Truth b)) tt f i
  value_facts p (list ts) h f (inl e) = subst (λ (x : Fact). IsShort x.shape) e (let k = fewer ts in omega (arith, k, h))
  value_facts p (list ts) h f (inr i) = items_facts p 0 ts h f i

  items_facts : (p : Path) (k : ℕ) (ts : Trees) → items_within ts ≤ limits.item_limit → AreShort (facts_of_items p k ts)
  items_facts p k nil h f i = absurd i
  items_facts p k (cons t ts) h f i = elim (in_append f (facts_at (item_path p k) t) (facts_of_items p (suc k) ts) i) [
    | inl j ↦ value_facts (item_path p k) t (omega arith) f j
    | inr j ↦ items_facts p (suc k) ts (omega arith) f j
  ]

within_items : (t : Tree) → IsWithinListLimit t → items_in t ≤ limits.item_limit
within_items t h = leb-true (items_in t) limits.item_limit (and_parts (nat_le (depth_of t) limits.value_depth_limit) (nat_le (items_in t) limits.item_limit) h).1

append_within : (es fs : Entries) → EntriesWithin es → EntriesWithin fs → EntriesWithin (append es fs)
append_within none fs h k = k
append_within (leaf id l rest) fs h k = (h.0, append_within rest fs h.1 k)
append_within (node id x i held g second rest) fs h k = (h.0, h.1, h.2, append_within rest fs h.3 k, h.4)

abbrev NewsWithin : PickOutcome → Type 0
NewsWithin (reduces r) = AreShort r.facts × EntriesWithin r.news
NewsWithin (waits first other) = Unit {0}
NewsWithin rests = Unit {0}
NewsWithin (clashes c) = Unit {0}
NewsWithin (misses port) = Unit {0}
NewsWithin (passes k) = Unit {0}

no_facts : AreShort []
no_facts f i = absurd i

status_news : (p : Place) (o o' : PickOutcome) → NewsWithin o → NewsWithin o' → NewsWithin (by_status p o o')
status_news p o o' h h' = cond_both (p.is Going) _ _ NewsWithin (λ _. h) (λ _. cond_both (p.is Ending) _ _ NewsWithin (λ _. h') (λ _. tt))

-- the shape that is kept of a path is short, and so is its fact at another one
kept_short : (facts : List Fact) → LengthsAreWithin facts → (p q : Path) (sh : Shape) → kept_shape facts q ≡ Some sh → AreShort (fact p sh ∷ [])
kept_short facts kept p q (Num n) e = one_fact (fact p (Num n)) tt
kept_short facts kept p q (Truth b) e = one_fact (fact p (Truth b)) tt
kept_short facts kept p q (Items k) e = one_fact (fact p (Items k)) (kept q k e)

module _ (facts : List Fact) (kept : LengthsAreWithin facts) (defs : List Definition) (inputs : InputTable) (state : ℕ) (within : InputsWithin inputs) (p : Place) (n : Numbers) where
  known : RowsKeep (small AreShort) defs inputs state facts n
  known = record {
    lists = (evaluates_small AreShort facts defs).lists;
    parts = λ g m h. free_parts BindingWithin ValueWithin AreShort (λ k. refl) g m;
    body = λ i d e. tt;
    value = λ e xs h k. outcome_told (small AreShort) facts defs (evaluates_small AreShort facts defs) e 0 xs tt k;
    place = λ e xs h k. place_outcome_told (small AreShort) facts defs (evaluates_small AreShort facts defs) e 0 xs tt k;
    read = λ port v e. input_within inputs state port v within e;
    value_bound = λ v u. u;
    local_bound = λ x l. tt;
    sets = λ q v h u. value_facts q v (within_items v u);
    lengthens = λ q k h l. one_fact (fact q (Items k)) (ltb-false length_limit k l);
    shared = λ q k i h e l. tt;
    shapes = λ p q sh h h' e. kept_short facts kept p q sh e;
    open_path = λ q h e a. tt;
  }

  leaves_within : (mark : Option Side) (from : ℕ) (es : Entries) (to : ℕ) → LeavesTold (small AreShort) facts p n mark from es to → EntriesWithin es
  leaves_within mark from none to h = tt
  leaves_within mark from (leaf id (Do f env) es) to h = (h.1.1, leaves_within mark (suc from) es to h.2)
  leaves_within mark from (leaf id (Later f env) es) to h = (h.1.0.1, leaves_within mark (suc from) es to h.2)
  leaves_within mark from (leaf id (Shown vs) es) to h = (tt, leaves_within mark (suc from) es to h.2)
  leaves_within mark from (node id k i held g second es) to h = absurd h

  region_within : (k : Holder) → HolderTold (small AreShort) facts p n k → (f : FormulaTree) (env : Bindings) → BindingsWithin env → EntriesWithin (node (n.item 1) k (new_head n.region) (leaf (n.item 0) (Do f env) none) no_region none none)
  region_within (Split f env) h g xs k = (h.1, (k, tt), tt, tt, refl)
  region_within (Opened f env) h g xs k = (h.1, (k, tt), tt, tt, refl)
  region_within x h g xs k = absurd h

  news_within : (o : PickOutcome) → Told (small AreShort) facts p n o → NewsWithin o
  news_within (reduces r) h = (
    elim h.facts_of [
      | inl e ↦ subst (λ (fs : List Fact). AreShort fs) (sym e) no_facts
      | inr x ↦ subst (λ (fs : List Fact). AreShort fs) ((adds_all facts x.0 r.facts x.2).new) (λ f i. x.1 f (in_filter (λ f. is_none (kept_shape facts f.path)) f x.0 i).0)
    ],
    elim (h.news tt) [
      | inl x ↦ leaves_within r.mark 0 r.news r.items x.0
      | inr x ↦ subst (λ (es : Entries). EntriesWithin es) (sym x.0.is) (region_within x.0.holder x.0.told x.0.item x.0.env x.0.phrase.1)
    ],
  )
  news_within o h = tt

module _ (w : Setting) (facts : List Fact) (kept : LengthsAreWithin facts) (within : InputsWithin w.inputs) (n : Numbers) where
  leaf_news : (l : Leaf) (p : Place) → LeafWithin l → NewsWithin (leaf_step w.defs w.inputs w.state facts l p n)
  leaf_news (Do f env) p h = news_within facts kept w.defs w.inputs w.state within p n _ (formula_told (small AreShort) w.defs w.inputs w.state facts n (known facts kept w.defs w.inputs w.state within p n) p f env (tt, h))
  leaf_news l p h = tt

  holder_news : (k : Holder) (h : Head) (held : Entries) (g : Head) (second : Entries) (q : Place) → HolderWithin k → EntriesWithin held → EntriesWithin second → NewsWithin (holder_step w.defs w.inputs w.state facts k (region h held) (region g second) q n)
  holder_news (Split f env) h held g second q a b c = status_news q _ _ tt (no_facts, (tt, b, tt, (a, tt), refl))
  holder_news (SplitProject f env) h held g second q a b c = status_news q _ _ tt (no_facts, (tt, b, tt, (a, c, tt, tt, refl), refl))
  holder_news (Opened f env) h held g second q a b c = status_news q _ _ (no_facts, (a, (a, (a, tt)), b, tt, tt)) tt
  holder_news k h held g second q a b c = tt

  live_own : (k : Holder) (s s' : Entries) → second_lives k ≡ true → SecondIsOwn k s'
  live_own (Running f env) s s' e = tt
  live_own k s s' e = absurd (false≢true e)

  module _ (t : ℕ) (r : Reduction) where
    abbrev Both : Entries → Type 0
    Both es = AreShort r.facts × EntriesWithin es

    given : (o : PickOutcome) → o ≡ reduces r → NewsWithin o → AreShort r.facts × EntriesWithin r.news
    given o e h = subst (λ (x : PickOutcome). NewsWithin x) e h

    pub put_within : (es : Entries) (p : Place) → EntriesWithin es → pick w facts t es p n ≡ reduces r → Both (put t r.mark r.news es)
    put_within none p h e = absurd (cc)
    put_within (leaf id l rest) p h e = elim (cases_Bool (eqb id t)) [
      | inl c ↦ (let x = given (leaf_step w.defs w.inputs w.state facts l p n) (rw c at e) (leaf_news l p h.0) in rw c (x.0, append_within r.news rest x.1 h.1))
      | inr c ↦ (let x = put_within rest p h.1 (rw c at e) in rw c (x.0, (h.0, x.1)))
    ]
    put_within (node id k i held g second rest) p h e = elim (cases_Bool (eqb id t)) [
      | inl c ↦ (let x = given _ (sym (pick_here w facts t id k i held g second rest p n c) ∙ e) (holder_news k i held g second _ h.0 h.1 h.2) in rw c (x.0, append_within r.news rest x.1 h.3))
      | inr c ↦ elim (cases_Bool (second_lives k && has t second)) [
        | inl l ↦ (let x = put_within second _ h.2 (sym (pick_second w facts t id k i held g second rest p n c l) ∙ e) in
            rw (c, l) (x.0, (h.0, h.1, x.1, h.3, live_own k second _ (and_parts (second_lives k) (has t second) l).0)))
        | inr d ↦ elim (cases_Bool (has t held)) [
          | inl l ↦ (let x = put_within held _ h.1 (sym (pick_first w facts t id k i held g second rest p n c d l) ∙ e) in rw (c, d, l) (x.0, (h.0, x.1, h.2, h.3, h.4)))
          | inr l ↦ (let x = put_within rest p h.3 (sym (pick_later w facts t id k i held g second rest p n c d l) ∙ e) in rw (c, d, l) (x.0, (h.0, h.1, h.2, x.1, h.4)))
        ]
      ]
    ]

pub picks_stay_within : PicksStayWithin
picks_stay_within w facts t es p n r within kept h e = let x = put_within w facts kept within n t r es p h e in (short_lengths r.facts x.0, x.1)
