-- At rest the item that settling names waits.
use Rattle.std.proofs.Common.{◌≡◌, ◌⊎◌, ℕ, ◌+◌, ◌≤◌, Bool, true, false, ◌&&◌, ◌||◌, eqb, List, [], ◌∷◌, ◌++◌, Option, refl, ap, sym, ◌∙◌, arith, inl, inr}
use Rattle.std.proofs.lemmas.Bool.{cases_Bool, cases_lt, or_cases, or_left, or_right, and_parts, and_from, eqb-true, eq-eqb, cond-true, cond-false, false_from_ne_true, false≢true}
use Rattle.tp_value.specs.declared.path.Fact.{Fact}
use Rattle.tp_store.specs.Known.{NoClash}
use Rattle.tp_scene.specs.declared.answer.Cell.{Cell}
use Rattle.tp_scene.specs.declared.answer.Cell.TheVariants.{End}
use Rattle.tp_scene.specs.Scene.{Ending, Going, Head, Leaf, Holder, Entries, none, leaf, node, second_lives, only_if, has, Place, root_place, held_place, second_place}
use Rattle.tp_scene.specs.Step.{PickOutcome, reduces, waits, rests, clashes, misses, passes, Numbers, leaf_step}
use Rattle.tp_scene.specs.Pick.{Setting, pick, outcome_of, numbers_of, IsIdle}
use Rattle.tp_scene.specs.Rest.{is_unsettled, holds_back, unsettled_items, Settled, waiting, end_open, ends, goes, settled_by}
use Rattle.tp_scene.specs.CellLaws.{NamedItemWaits, RestEndsGoesOrIsOpen}
use Rattle.tp_scene.specs.Fits.{item_numbers}
use Rattle.tp_scene.proofs.Frame.{region}
use Rattle.tp_scene.proofs.Risen.{pick_here, pick_second, pick_first, pick_later}
use Rattle.tp_scene.proofs.Count.{one_if, count, count_none, count_first, count_append, one_there, numbers_once}
use Rattle.tp_scene.proofs.PutNumbers.{items, items_leaf, items_node}
use Rattle.tp_scene.proofs.WaitRows.{Answers, leaf_answers, holder_answers}

-- a live item's number is one of the items'
pub live_counted : (t : ℕ) (es : Entries) → has t es ≡ true → 1 ≤ items t es
live_counted t none e = absurd (false≢true e)
live_counted t (leaf id l rest) e =
    let n = items_leaf t id l rest in
    elim (or_cases (eqb id t) (has t rest) e) [
      | inl u ↦ (let o = one_there t id (sym (eqb-true id t u)) in omega (arith, n, o))
      | inr u ↦ (let i = live_counted t rest u in omega (arith, n, i))
    ]
live_counted t (node id k h held g second rest) e =
    let n = items_node t id k h held g second rest in
    elim (or_cases (eqb id t) _ e) [
      | inl u ↦ (let o = one_there t id (sym (eqb-true id t u)) in omega (arith, n, o))
      | inr u ↦ elim (or_cases (second_lives k && has t second) _ u) [
        | inl v ↦ (let i = live_counted t second (and_parts (second_lives k) (has t second) v).1 in omega (arith, n, i))
        | inr v ↦ elim (or_cases (has t held) (has t rest) v) [
          | inl x ↦ (let i = live_counted t held x in omega (arith, n, i))
          | inr x ↦ (let i = live_counted t rest x in omega (arith, n, i))
        ]
      ]
    ]

pub not_live : (t : ℕ) (es : Entries) → items t es ≡ 0 → has t es ≡ false
not_live t es e = false_from_ne_true (has t es) (λ h. let i = live_counted t es h in absurd (omega (arith, i, e)))

pub another_item : (t id : ℕ) → one_if t id ≡ 0 → eqb id t ≡ false
another_item t id e = false_from_ne_true (eqb id t) (λ h. let o = one_there t id (sym (eqb-true id t h)) in absurd (omega (arith, o, e)))

pub not_second : (b c : Bool) → c ≡ false → (b && c) ≡ false
not_second true c e = e
not_second false c e = refl

-- it doesn't rest
abbrev pub IsBusy : PickOutcome → Type 0
IsBusy (reduces r) = Unit {0}
IsBusy (waits first other) = Unit {0}
IsBusy rests = ⊥
IsBusy (clashes c) = Unit {0}
IsBusy (misses port) = Unit {0}
IsBusy (passes k) = Unit {0}

busy_by : (facts : List Fact) (apart : NoClash facts) (b : Bool) (p : Place) (o : PickOutcome) → b ≡ true → Answers facts apart (b ≡ false) p o → IsBusy o
busy_by facts apart b p rests e h = absurd (false≢true (sym h ∙ e))
busy_by facts apart b p o e h = tt

-- one of at most one
one_of : (t id : ℕ) (b : Bool) → 1 ≤ count t (only_if b (id ∷ [])) → (b ≡ true) × (t ≡ id)
one_of t id true e = elim (cases_Bool (eqb t id)) [
  | inl u ↦ (refl, eqb-true t id u)
  | inr u ↦ absurd (let f = count_first t id [] in let n = count_none t in let o = cond-false {A = ℕ} (eqb t id) 1 0 u in omega (arith, e, f, n, o))
]
one_of t id false e = absurd (let n = count_none t in omega (arith, e, n))

-- the item lives and doesn't rest
pub record IsAwake (t : ℕ) (es : Entries) (o : PickOutcome) : Type 0 where
  pub lives : has t es ≡ true
  pub busy : IsBusy o

module _ (w : Setting) (facts : List Fact) (t : ℕ) (n : Numbers) where
  -- A live item stands once in these entries, and picking it is picking it in others of that place.
  pub record LeadsTo (es : Entries) (p : Place) (inner : Entries) (q : Place) : Type 0 where
    pub lives : has t es ≡ true
    pub once : items t inner ≤ 1
    pub same : pick w facts t es p n ≡ pick w facts t inner q n

  pub to_rest_leaf : (id : ℕ) (l : Leaf) (rest : Entries) (p : Place) → has t rest ≡ true → items t (leaf id l rest) ≤ 1 → LeadsTo (leaf id l rest) p rest p
  to_rest_leaf id l rest p lives most =
      let n1 = items_leaf t id l rest in
      let i = live_counted t rest lives in
      record {
        lives = or_right (eqb id t) (has t rest) lives;
        once = omega (arith, most, n1);
        same = cond-false (eqb id t) (leaf_step w.defs w.inputs w.state facts l p n) (pick w facts t rest p n) (another_item t id (omega (arith, most, n1, i)));
      }

  module _ (id : ℕ) (k : Holder) (h : Head) (held : Entries) (g : Head) (second rest : Entries) (p : Place) (most : items t (node id k h held g second rest) ≤ 1) where
    abbrev whole : Entries
    whole = node id k h held g second rest

    -- where it is neither the item itself nor in a second region
    to_later : (inner : Entries) (q : Place) → has t inner ≡ true → (has t held || has t rest) ≡ true → one_if t id + (items t second + items t inner) ≤ 1
        → (eqb id t ≡ false → (second_lives k && has t second) ≡ false → pick w facts t whole p n ≡ pick w facts t inner q n) → LeadsTo whole p inner q
    to_later inner q here lives few picked =
        let i = live_counted t inner here in
        record {
          lives = or_right (eqb id t) _ (or_right (second_lives k && has t second) _ lives);
          once = omega (arith, few);
          same = picked (another_item t id (omega (arith, few, i))) (not_second (second_lives k) (has t second) (not_live t second (omega (arith, few, i))));
        }

    pub to_rest_node : has t rest ≡ true → LeadsTo whole p rest p
    to_rest_node lives =
        let num = items_node t id k h held g second rest in
        let i = live_counted t rest lives in
        to_later rest p lives (or_right (has t held) _ lives) (omega (arith, most, num))
        (λ e l. pick_later w facts t id k h held g second rest p n e l (not_live t held (omega (arith, most, num, i))))

    pub to_held : has t held ≡ true → LeadsTo whole p held (held_place k h held p)
    to_held lives =
        let num = items_node t id k h held g second rest in
        to_later held (held_place k h held p) lives (or_left (has t held) _ lives) (omega (arith, most, num))
        (λ e l. pick_first w facts t id k h held g second rest p n e l lives)

    pub to_second : second_lives k ≡ true → has t second ≡ true → LeadsTo whole p second (second_place g second p)
    to_second live lives =
        let num = items_node t id k h held g second rest in
        let i = live_counted t second lives in
        let there = and_from (second_lives k) (has t second) live lives in
        record {
          lives = or_right (eqb id t) _ (or_left (second_lives k && has t second) _ there);
          once = omega (arith, most, num);
          same = pick_second w facts t id k h held g second rest p n (another_item t id (omega (arith, most, num, i))) there;
        }

  awake_through : (es : Entries) (p : Place) (inner : Entries) (q : Place) → LeadsTo es p inner q → IsBusy (pick w facts t inner q n) → IsAwake t es (pick w facts t es p n)
  awake_through es p inner q to busy = record { lives = to.lives; busy = rw to.same busy }

-- the unsettled items of a node's parts
unsettled_node : (t id : ℕ) (k : Holder) (h : Head) (held : Entries) (g : Head) (second rest : Entries) (p : Place)
    → count t (unsettled_items (node id k h held g second rest) p)
    ≡ (count t (only_if (second_lives k) (unsettled_items second (second_place g second p))) + count t (unsettled_items held (held_place k h held p)))
    + (count t (only_if (holds_back k (held_place k h held p)) (id ∷ [])) + count t (unsettled_items rest p))
unsettled_node t id k h held g second rest p =
    let seconds = only_if (second_lives k) (unsettled_items second (second_place g second p)) in
    let own = only_if (holds_back k (held_place k h held p)) (id ∷ []) in
    let inside = unsettled_items held (held_place k h held p) in
    let c = count_append t (seconds ++ inside) (own ++ unsettled_items rest p) in
    let c1 = count_append t seconds inside in
    let c2 = count_append t own (unsettled_items rest p) in
    omega (arith, c, c1, c2)

module _ (w : Setting) (facts : List Fact) (apart : NoClash facts) (t : ℕ) (n : Numbers) where
  -- an unsettled item is awake
  pub unsettled_awake : (es : Entries) (p : Place) → items t es ≤ 1 → 1 ≤ count t (unsettled_items es p) → IsAwake t es (pick w facts t es p n)
  unsettled_awake none p most e = absurd (let z = count_none t in omega (arith, e, z))
  unsettled_awake (leaf id l rest) p most e =
      let s = leaf_step w.defs w.inputs w.state facts l p n in
      let num = items_leaf t id l rest in
      let c = count_append t (only_if (is_unsettled l) (id ∷ [])) (unsettled_items rest p) in
      elim (cases_lt 0 (count t (only_if (is_unsettled l) (id ∷ [])))) [
        | inl u ↦ (let q = one_of t id (is_unsettled l) (omega (arith, u)) in
            let is : eqb id t ≡ true = eq-eqb id t (sym q.1) in
            record {
              lives = or_left (eqb id t) (has t rest) is;
              busy = rw (cond-true (eqb id t) s (pick w facts t rest p n) is) (busy_by facts apart (is_unsettled l) p s q.0 (leaf_answers facts apart w.defs w.inputs w.state l p n));
            })
        | inr u ↦ (let ih = unsettled_awake rest p (omega (arith, most, num)) (omega (arith, e, c, u)) in
            awake_through w facts t n (leaf id l rest) p rest p (to_rest_leaf w facts t n id l rest p ih.lives most) ih.busy)
      ]
  unsettled_awake (node id k h held g second rest) p most e =
      let num = items_node t id k h held g second rest in
      let q = held_place k h held p in
      let r = second_place g second p in
      let seconds = only_if (second_lives k) (unsettled_items second r) in
      let own = only_if (holds_back k q) (id ∷ []) in
      let c = unsettled_node t id k h held g second rest p in
      elim (cases_lt 0 (count t own)) [
        | inl u ↦ (let x = one_of t id (holds_back k q) (omega (arith, u)) in
            let is : eqb id t ≡ true = eq-eqb id t (sym x.1) in
            record {
              lives = or_left (eqb id t) _ is;
              busy = rw (pick_here w facts t id k h held g second rest p n is) (busy_by facts apart (holds_back k q) q _ x.0 (holder_answers facts apart w.defs w.inputs w.state k (region h held) (region g second) q n));
            })
        | inr u ↦ elim (cases_lt 0 (count t (unsettled_items held q))) [
          | inl v ↦ (let ih = unsettled_awake held q (omega (arith, most, num)) (omega (arith, v)) in
              awake_through w facts t n (node id k h held g second rest) p held q (to_held w facts t n id k h held g second rest p most ih.lives) ih.busy)
          | inr v ↦ elim (cases_lt 0 (count t (unsettled_items rest p))) [
            | inl x ↦ (let ih = unsettled_awake rest p (omega (arith, most, num)) (omega (arith, x)) in
                awake_through w facts t n (node id k h held g second rest) p rest p (to_rest_node w facts t n id k h held g second rest p most ih.lives) ih.busy)
            | inr x ↦ elim (cases_Bool (second_lives k)) [
              | inl live ↦ (let same : count t seconds ≡ count t (unsettled_items second r) = ap (λ b. count t (only_if b (unsettled_items second r))) live in
                  let ih = unsettled_awake second r (omega (arith, most, num)) (omega (arith, e, c, u, v, x, same)) in
                  awake_through w facts t n (node id k h held g second rest) p second r (to_second w facts t n id k h held g second rest p most live ih.lives) ih.busy)
              | inr sleeps ↦ absurd (let nothing : count t seconds ≡ 0 = ap (λ b. count t (only_if b (unsettled_items second r))) sleeps ∙ count_none t in omega (arith, e, c, u, v, x, nothing))
            ]
          ]
        ]
      ]

-- what is idle and doesn't rest, waits
waits_then : (o : PickOutcome) → IsIdle o → IsBusy o → (first : Cell) × (other : Option Cell) × (o ≡ waits first other)
waits_then (waits first other) idle busy = (first, other, refl)
waits_then rests idle busy = absurd busy
waits_then o idle busy = absurd idle

-- what settling comes to, by the unsettled items and the root's status
pub by_settling : (ts : List ℕ) (b c : Bool) (p : Place) → p.is Ending ≡ b → p.is Going ≡ c
    → ((t : ℕ) × (us : List ℕ) × (ts ≡ t ∷ us) × (settled_by ts p ≡ waiting t)) ⊎ ((settled_by ts p ≡ ends) ⊎ ((settled_by ts p ≡ goes) ⊎ (settled_by ts p ≡ end_open)))
by_settling (t ∷ ts) b c p u v = inl (t, ts, refl, refl)
by_settling [] true c p u v = inr (inl (cond-true {A = Settled} (p.is Ending) _ _ u))
by_settling [] false true p u v = inr (inr (inl (cond-false {A = Settled} (p.is Ending) _ _ u ∙ cond-true {A = Settled} (p.is Going) _ _ v)))
by_settling [] false false p u v = inr (inr (inr (cond-false {A = Settled} (p.is Ending) _ _ u ∙ cond-false {A = Settled} (p.is Going) _ _ v)))

first_named : (ts : List ℕ) (p : Place) (t : ℕ) → settled_by ts p ≡ waiting t → (us : List ℕ) × (ts ≡ t ∷ us)
first_named ts p t e = elim (by_settling ts (p.is Ending) (p.is Going) p refl refl) [
  | inl x ↦ (let same : waiting (x.0) ≡ waiting t = sym x.3 ∙ e in let i : x.0 ≡ t = cc in (x.1, x.2 ∙ ap (λ n. n ∷ x.1) i))
  | inr x ↦ absurd (elim x [
    | inl y ↦ (let q : ends ≡ waiting t = sym y ∙ e in cc)
    | inr y ↦ elim y [ inl z ↦ (let q : goes ≡ waiting t = sym z ∙ e in cc) | inr z ↦ (let q : end_open ≡ waiting t = sym z ∙ e in cc) ]
  ])
]

pub named_item_waits : NamedItemWaits
named_item_waits w kinds m t sound rest e =
    let p = root_place m.scene.root in
    let es = m.scene.root.entries in
    let x = first_named (unsettled_items es p) p t e in
    let once = numbers_once m.scene.next_item (item_numbers es) sound.moment.items in
    let f = count_first t t x.0 in
    let there = one_there t t refl in
    let same = ap (count t) x.1 in
    let most = once.once t in
    let awake = unsettled_awake w m.store.facts sound.store.no_clash t (numbers_of m.scene m.store.variables) es p most (omega (arith, f, there, same)) in
    let y = waits_then (outcome_of w m.store m.scene t) (rest t awake.lives) awake.busy in
    record { lives = awake.lives; first = y.0; other = y.1; outcome = y.2 }

pub rest_ends_goes_or_is_open : RestEndsGoesOrIsOpen
rest_ends_goes_or_is_open w kinds m sound rest =
    let p = root_place m.scene.root in
    elim (by_settling (unsettled_items m.scene.root.entries p) (p.is Ending) (p.is Going) p refl refl) [
      | inl x ↦ (let y = named_item_waits w kinds m x.0 sound rest x.3 in inr (inr (y.first, rw x.3 (y.other, y.outcome))))
      | inr x ↦ elim x [
        | inl y ↦ inl y
        | inr y ↦ elim y [ inl z ↦ inr (inl z) | inr z ↦ inr (inr (End m.scene.root.head.number 0, rw z refl)) ]
      ]
    ]
