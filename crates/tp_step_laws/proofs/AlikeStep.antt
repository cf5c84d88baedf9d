-- Moments that are alike have the same steps.
use Rattle.std.proofs.Common.{◌≡◌, inl, inr, ℕ, zero, suc, ◌+◌, ◌<◌, ◌≤◌, nat_lt, Bool, true, false, cond, not, ◌||◌, ◌&&◌, eqb, List, [], ◌∷◌, ◌++◌, length, slice_get, refl, ap, ap₂, sym, ◌∙◌, subst, arith}
use Rattle.std.specs.Prelude.{Option, Some, None}
use Rattle.std.proofs.lemmas.Bool.{cases_Bool, ltb-true, ltb-false}
use Rattle.std.proofs.lemmas.List.{length-append}
use Rattle.std.proofs.lemmas.Option.{slice_get_past}
use Rattle.tp_value.specs.declared.value.Shape.{Shape}
use Rattle.tp_value.specs.declared.path.Path.{Path}
use Rattle.tp_value.specs.declared.path.Fact.{Fact}
use Rattle.tp_store.specs.Facts.{kept_shape}
use Rattle.tp_store.specs.Known.{NoClash, Variable}
use Rattle.tp_scene.specs.Scene.{Side, Ending, Going, Head, Holder, SplitProject, Running, Entries, none, leaf, node, Region, Scene, second_lives, has, has_here, root_place}
use Rattle.tp_scene.specs.Step.{Reduction, PickOutcome, reduces, waits, rests, Numbers}
use Rattle.tp_scene.specs.Pick.{Setting, Moment, mark_head, mark_at, put, put_in, numbers_of, outcome_of, scene_after, with_local, IsIdle}
use Rattle.tp_scene.specs.Rest.{AtRest}
use Rattle.tp_step_laws.specs.Renaming.{FixesFrom, renamed_facts, renamed_leaf, renamed_holder, renamed_head, renamed_second, renamed_entries, renamed_region, renamed_reduction, IfRegion, IfLocal, NumbersRenamed, Renamed}
use Rattle.tp_step_laws.specs.Maps.{Permutation, Renaming, renamed_path}
use Rattle.tp_step_laws.specs.Alike.{AlikeBy}
use Rattle.tp_step_laws.specs.Orders.{IsOrderly, StepsTo, AlikeSteps, AlikeMomentsStep}
use Rattle.tp_step_laws.proofs.FactsGrow.{kept_before, kept_after}
use Rattle.tp_step_laws.proofs.Stay.{like_same, grows_same}
use Rattle.tp_step_laws.proofs.RenameFacts.{eqb_to, kept_to}
use Rattle.tp_step_laws.proofs.GivenAlike.{given_alike, lives_alike}
use Rattle.tp_step_laws.proofs.RenamePick.{lives_to, has_to}
use Rattle.tp_step_laws.proofs.Where.{at_of, at_calm, picked}
use Rattle.tp_step_laws.proofs.Again.{bad_anyhow, Again, thing_again}
use Rattle.tp_step_laws.proofs.Swap.{renamed_append}
use Rattle.tp_step_laws.proofs.Blocks.{get_left, get_next}

module _ (ρ : Renaming) where
  here_to : (t : ℕ) (es : Entries) → has_here (ρ.item.to t) (renamed_entries ρ es) ≡ has_here t es
  here_to t none = refl
  here_to t (leaf id l rest) = ap₂ (λ a b. a || b) (eqb_to ρ.item id t) (here_to t rest)
  here_to t (node id k h i g s rest) = λ j. eqb_to ρ.item id t j || (not ((lives_to ρ k j && has_to ρ t s j) || has_to ρ t i j) && here_to t rest j)

  mark_to : (m : Option Side) (h : Head) → renamed_head ρ (mark_head m h) ≡ mark_head m (renamed_head ρ h)
  mark_to None h = refl
  mark_to (Some Ending) h = refl
  mark_to (Some Going) h = refl

  at_to : (t : ℕ) (m : Option Side) (h : Head) (es : Entries) → renamed_head ρ (mark_at t m h es) ≡ mark_at (ρ.item.to t) m (renamed_head ρ h) (renamed_entries ρ es)
  at_to t m h es = go (has_here t es) ∙ ap (λ b. cond b (mark_head m (renamed_head ρ h)) (renamed_head ρ h)) (sym (here_to t es))
    where
      go : (b : Bool) → renamed_head ρ (cond b (mark_head m h) h) ≡ cond b (mark_head m (renamed_head ρ h)) (renamed_head ρ h)
      go true = mark_to m h
      go false = refl

  plain_at : (t : ℕ) (m : Option Side) (g : Head) (es : Entries) → mark_at t m g es ≡ mark_at (ρ.item.to t) m g (renamed_entries ρ es)
  plain_at t m g es = ap (λ b. cond b (mark_head m g) g) (sym (here_to t es))

  second_at : (k : Holder) (t : ℕ) (m : Option Side) (g : Head) (es : Entries) → renamed_second ρ k (mark_at t m g es) ≡ mark_at (ρ.item.to t) m (renamed_second ρ k g) (renamed_entries ρ es)
  second_at (SplitProject f env) t m g es = at_to t m g es
  second_at (Running f env) t m g es = at_to t m g es
  second_at k t m g es = plain_at t m g es

  cond_to : (b c : Bool) (x y x' y' : Entries) → c ≡ b → renamed_entries ρ x ≡ x' → renamed_entries ρ y ≡ y' → renamed_entries ρ (cond b x y) ≡ cond c x' y'
  cond_to b c x y x' y' e h k = go b ∙ ap (λ d. cond d x' y') (sym e)
    where
      go : (b : Bool) → renamed_entries ρ (cond b x y) ≡ cond b x' y'
      go true = h
      go false = k

  put_to : (t : ℕ) (m : Option Side) (news es : Entries) → renamed_entries ρ (put t m news es) ≡ put (ρ.item.to t) m (renamed_entries ρ news) (renamed_entries ρ es)
  put_to t m news none = refl
  put_to t m news (leaf id l rest) = cond_to (eqb id t) _ _ _ _ _ (eqb_to ρ.item id t) (renamed_append ρ news rest) (ap (leaf (ρ.item.to id) (renamed_leaf ρ l)) (put_to t m news rest))
  put_to t m news (node id k h i g s rest) = cond_to (eqb id t) _ _ _ _ _ (eqb_to ρ.item id t) (renamed_append ρ news rest)
      (cond_to (second_lives k && has t s) _ _ _ _ _ (λ j. lives_to ρ k j && has_to ρ t s j)
      (λ j. node (ρ.item.to id) (renamed_holder ρ k) (renamed_head ρ h) (renamed_entries ρ i) (second_at k t m g s j) (put_to t m news s j) (renamed_entries ρ rest))
      (cond_to (has t i) _ _ _ _ _ (has_to ρ t i)
      (λ j. node (ρ.item.to id) (renamed_holder ρ k) (at_to t m h i j) (put_to t m news i j) (renamed_second ρ k g) (renamed_entries ρ s) (renamed_entries ρ rest))
      (ap (node (ρ.item.to id) (renamed_holder ρ k) (renamed_head ρ h) (renamed_entries ρ i) (renamed_second ρ k g) (renamed_entries ρ s)) (put_to t m news rest))))

  put_in_to : (t : ℕ) (m : Option Side) (news : Entries) (r : Region) → renamed_region ρ (put_in t m news r) ≡ put_in (ρ.item.to t) m (renamed_entries ρ news) (renamed_region ρ r)
  put_in_to t m news r = λ j. record { head = at_to t m r.head r.entries j; entries = put_to t m news r.entries j }

idle_anyhow : (ρ : Renaming) (n n' : Numbers) (o u : PickOutcome) → Renamed ρ n n' o u → IsIdle o → IsIdle u
idle_anyhow ρ n n' (waits first other) u h i = subst (λ (x : PickOutcome). IsIdle x) (sym h) tt
idle_anyhow ρ n n' rests u h i = subst (λ (x : PickOutcome). IsIdle x) (sym h) tt
idle_anyhow ρ n n' o u h i = elim i [ ]

-- one more variable at the end of both lists
locals_to : (π : Permutation) (xs ys : List Variable) (o : Option Variable) → length ys ≡ length xs → ((i : ℕ) → slice_get ys (π.to i) ≡ slice_get xs i) → FixesFrom (length xs) π → (i : ℕ) → slice_get (with_local o ys) (π.to i) ≡ slice_get (with_local o xs) i
locals_to π xs ys None e h f i = h i
locals_to π xs ys (Some x) e h f i =
    let lx : length (xs ++ x ∷ []) ≡ length xs + 1 = length-append xs (x ∷ []) in
    let ly : length (ys ++ x ∷ []) ≡ length ys + 1 = length-append ys (x ∷ []) in
    elim (cases_Bool (nat_lt i (length xs))) [
      | inl a ↦ (let l = ltb-true i (length xs) a in
          get_left ys (x ∷ []) (π.to i) (small i l) ∙ h i ∙ sym (get_left xs (x ∷ []) i l))
      | inr a ↦ (let l = ltb-false i (length xs) a in ap (slice_get (ys ++ x ∷ [])) (f i l) ∙ elim (cases_Bool (nat_lt i (length xs + 1))) [
        | inl b ↦ (let k = ltb-true i (length xs + 1) b in let p : i ≡ length ys = omega (arith, l, k, e) in let q : i ≡ length xs = omega (arith, l, k) in
            ap (slice_get (ys ++ x ∷ [])) p ∙ get_next ys x [] ∙ sym (ap (slice_get (xs ++ x ∷ [])) q ∙ get_next xs x []))
        | inr b ↦ (let k = ltb-false i (length xs + 1) b in slice_get_past (ys ++ x ∷ []) i (omega (arith, k, ly, e)) ∙ sym (slice_get_past (xs ++ x ∷ []) i (omega (arith, k, lx))))
      ])
    ]
  where
    small : (i : ℕ) → i < length xs → π.to i < length ys
    small i l = elim (cases_Bool (nat_lt (π.to i) (length ys))) [
      | inl a ↦ ltb-true (π.to i) (length ys) a
      | inr a ↦ absurd (let g = ltb-false (π.to i) (length ys) a in
          let s : π.to i ≡ i = sym (π.undone (π.to i)) ∙ ap π.back (f (π.to i) (omega (arith, g, e))) ∙ π.undone i in omega (arith, g, s, l, e))
    ]

module _ (w : Setting) (kinds : List Bool) (m n : Moment) (ρ : Renaming) (om : IsOrderly w kinds m) (on : IsOrderly w kinds n) (a : AlikeBy (length kinds) ρ m n) where
  abbrev nm : Numbers
  nm = numbers_of m.scene m.store.variables

  abbrev nn : Numbers
  nn = numbers_of n.scene n.store.variables

  given : (t : ℕ) → Renamed ρ nm nn (outcome_of w m.store m.scene t) (outcome_of w n.store n.scene (ρ.item.to t))
  given t = given_alike w kinds m n ρ om.sound on.sound a t

  lives : (t : ℕ) → has (ρ.item.to t) n.scene.root.entries ≡ has t m.scene.root.entries
  lives t = lives_alike m n (length kinds) ρ a t

  numbers_agree : (r : Reduction) → NumbersRenamed ρ nm nn r
  numbers_agree r = record {
    items = λ i h. let e = a.next_item in let q : i + n.scene.next_item ≡ i + m.scene.next_item = omega (arith, e) in q ∙ sym (a.items_fixed (i + m.scene.next_item) (omega arith));
    region = region r.regions;
    local = local r.local;
  }
    where
      region : (k : ℕ) → IfRegion ρ nm nn k
      region zero = tt
      region (suc k) = a.next_region ∙ sym (a.regions_fixed m.scene.next_region (omega arith))

      local : (o : Option Variable) → IfLocal ρ nm nn o
      local None = tt
      local (Some x) = a.count ∙ sym (a.locals_fixed (length m.store.variables) (omega arith))

  -- an outcome's own facts clash with nothing
  own_apart : (t : ℕ) (r : Reduction) → has t n.scene.root.entries ≡ true → outcome_of w n.store n.scene t ≡ reduces r → NoClash (n.store.facts ++ r.facts)
  own_apart t r l e =
      let x = at_of n.scene.next_item t n.scene.root.entries (root_place n.scene.root) on.sound.moment.items l in
      let c = at_calm w.defs kinds n.store.variables t n.scene.root.entries x.0 x.1 (root_place n.scene.root) x.2 on.sound.moment.entries in
      let o = outcome_of w n.store n.scene t in
      let k = picked w n.store.facts nn t n.scene.root.entries x.0 x.1 (root_place n.scene.root) x.2 in
      let g : Again n.store.facts x.0 x.0 nn o o = thing_again w n.store.facts n.store.facts on.sound.store.no_clash on.sound.store.no_clash (λ p sh h. h) on.lengths nn x.0 x.0 x.1 x.1 (like_same x.0) (grows_same x.1) c.0 c.1 o o k k in
      let h : Again n.store.facts x.0 x.0 nn (reduces r) (reduces r) = subst (λ (y : PickOutcome). Again n.store.facts x.0 x.0 nn y y) e g in
      h.facts.apart

  facts_to : (fs : List Fact) (p : Path) → kept_shape (n.store.facts ++ renamed_facts ρ fs) (renamed_path ρ p) ≡ kept_shape (m.store.facts ++ fs) p
  facts_to fs p = go (kept_shape m.store.facts p) refl
    where
      go : (o : Option Shape) → kept_shape m.store.facts p ≡ o → kept_shape (n.store.facts ++ renamed_facts ρ fs) (renamed_path ρ p) ≡ kept_shape (m.store.facts ++ fs) p
      go (Some sh) e = kept_before n.store.facts (renamed_facts ρ fs) (renamed_path ρ p) sh (a.facts p ∙ e) ∙ sym (kept_before m.store.facts fs p sh e)
      go None e = kept_after n.store.facts (renamed_facts ρ fs) (renamed_path ρ p) (a.facts p ∙ e) ∙ kept_to ρ fs p ∙ sym (kept_after m.store.facts fs p e)

  steps : (t : ℕ) (next : Moment) → StepsTo w m t next → (next' : Moment) × StepsTo w n (ρ.item.to t) next' × AlikeBy (length kinds) ρ next next'
  steps t next x =
      let r = x.0 in
      let st = x.1 in
      let r' = renamed_reduction ρ r in
      let live : has (ρ.item.to t) n.scene.root.entries ≡ true = lives t ∙ st.lives in
      let out : outcome_of w n.store n.scene (ρ.item.to t) ≡ reduces r' =
      subst (λ (o : PickOutcome). Renamed ρ nm nn o (outcome_of w n.store n.scene (ρ.item.to t))) st.outcome (given t) (numbers_agree r) in
      let next' : Moment = record { scene = scene_after (ρ.item.to t) r' n.scene; store = record { facts = n.store.facts ++ r'.facts; variables = with_local r.local n.store.variables } } in
      let items : next.scene.next_item ≡ m.scene.next_item + r.items = ap (λ (s : Scene). s.next_item) st.scene in
      let regions : next.scene.next_region ≡ m.scene.next_region + r.regions = ap (λ (s : Scene). s.next_region) st.scene in
      let e1 = a.next_item in
      let e2 = a.next_region in
      let c : length next.store.variables ≡ length (with_local r.local m.store.variables) = ap length st.store.variables in (
        next',
        (r', record { lives = live; outcome = out; scene = refl; store = record { kept = λ p. refl; no_clash = own_apart (ρ.item.to t) r' live out; variables = refl } }),
        record {
          root = ap (put_in (ρ.item.to t) r.mark (renamed_entries ρ r.news)) a.root ∙ sym (put_in_to ρ t r.mark r.news m.scene.root) ∙ ap (λ (s : Scene). renamed_region ρ s.root) (sym st.scene);
          next_item = omega (arith, items, e1);
          next_region = omega (arith, regions, e2);
          count = longer r.local ∙ sym c;
          variables = λ i. locals_to ρ.local m.store.variables n.store.variables r.local a.count a.variables a.locals_fixed i ∙ ap (λ (l : List Variable). slice_get l i) (sym st.store.variables);
          facts = λ p. facts_to r.facts p ∙ sym (st.store.kept p);
          items_fixed = λ i h. a.items_fixed i (omega (arith, h, items));
          regions_fixed = λ i h. a.regions_fixed i (omega (arith, h, regions));
          locals_fixed = λ i h. a.locals_fixed i (let k = grows r.local in omega (arith, h, c, k));
          globals_fixed = a.globals_fixed;
        },
      )
    where
      longer : (o : Option Variable) → length (with_local o n.store.variables) ≡ length (with_local o m.store.variables)
      longer None = a.count
      longer (Some x) = length-append n.store.variables (x ∷ []) ∙ ap (λ k. k + 1) a.count ∙ sym (length-append m.store.variables (x ∷ []))

      grows : (o : Option Variable) → length m.store.variables ≤ length (with_local o m.store.variables)
      grows None = omega arith
      grows (Some x) = let q = length-append m.store.variables (x ∷ []) in let z : length (m.store.variables ++ x ∷ []) ≡ length m.store.variables + 1 = q in omega (arith, z)

  rest : AtRest w m → AtRest w n
  rest h t l =
      let b = ρ.item.back t in
      let e : ρ.item.to b ≡ t = ρ.item.redone t in
      let l' : has b m.scene.root.entries ≡ true = sym (lives b) ∙ ap (λ i. has i n.scene.root.entries) e ∙ l in
      subst (λ (i : ℕ). IsIdle (outcome_of w n.store n.scene i)) e (idle_anyhow ρ nm nn _ _ (given b) (h b l'))

  all : AlikeSteps w kinds m n ρ
  all = record { steps = steps; fails = λ t b. (lives t ∙ b.0, bad_anyhow ρ nm nn _ _ (given t) b.1); rest = rest }

pub alike_moments_step : AlikeMomentsStep
alike_moments_step w kinds m n ρ om on a = all w kinds m n ρ om on a
