-- The numbers of items and of regions after a step.
use Rattle.std.proofs.Common.{◌≡◌, ℕ, suc, ◌+◌, ◌-◌, ◌≤◌, ◌<◌, ◌&&◌, eqb, cond, List, [], ◌∷◌, ◌++◌, Option, Some, None, refl, ap, sym, ◌∙◌, subst, arith, inl, inr}
use Rattle.std.proofs.lemmas.Bool.{cond_both, cases_Bool, cases_lt, cond-true, cond-false, eqb-true, eq-eqb, both_ways}
use Rattle.tp_value.specs.declared.path.Fact.{Fact}
use Rattle.tp_meaning.specs.Syntax.{more}
use Rattle.tp_scene.specs.Scene.{Side, Ending, Going, Head, Leaf, Do, Holder, Split, SplitProject, Closed, Opened, Running, Entries, none, leaf, node, new_head, no_region, second_lives, has, has_here, append, Place, held_place, second_place}
use Rattle.tp_scene.specs.Step.{Reduction, PickOutcome, reduces, waits, rests, clashes, misses, passes, Numbers, leaf_step, holder_step}
use Rattle.tp_scene.specs.Pick.{Setting, pick, mark_head, mark_at, put}
use Rattle.tp_scene.specs.Fits.{item_numbers, second_number, region_numbers}
use Rattle.tp_scene.proofs.Frame.{region}
use Rattle.tp_scene.proofs.Risen.{pick_here, pick_second, pick_first, pick_later}
use Rattle.tp_scene.proofs.Count.{one_if, count, count_none, count_first, count_append, one_there, one_else}
use Rattle.tp_scene.proofs.Plain.{FreshLeaves, IsNewHolder, Plain, IsPlain, leaf_plain}

-- 1 for the numbers from a to below b, and 0 for others
pub between : (a b x : ℕ) → ℕ
between a b x = cond (eqb (suc x - a) 0) 0 (cond (eqb (b - x) 0) 0 1)

pub between_in : (a b x : ℕ) → a ≤ x → x < b → between a b x ≡ 1
unfolding between
between_in a b x u v = cond_both (eqb (suc x - a) 0) 0 (cond (eqb (b - x) 0) 0 1) (λ y. y ≡ 1) (λ e. absurd (let q = eqb-true (suc x - a) 0 e in omega (arith, q, u)))
    (λ _. cond_both (eqb (b - x) 0) 0 1 (λ y. y ≡ 1) (λ e. absurd (let q = eqb-true (b - x) 0 e in omega (arith, q, v))) (λ _. refl))

pub between_before : (a b x : ℕ) → x < a → between a b x ≡ 0
unfolding between
between_before a b x u = cond_both (eqb (suc x - a) 0) 0 (cond (eqb (b - x) 0) 0 1) (λ y. y ≡ 0) (λ _. refl) (λ e. absurd (both_ways (eqb (suc x - a) 0) e (eq-eqb (suc x - a) 0 (omega arith))))

pub between_after : (a b x : ℕ) → b ≤ x → between a b x ≡ 0
unfolding between
between_after a b x u = cond_both (eqb (suc x - a) 0) 0 (cond (eqb (b - x) 0) 0 1) (λ y. y ≡ 0) (λ _. refl)
    (λ _. cond_both (eqb (b - x) 0) 0 1 (λ y. y ≡ 0) (λ _. refl) (λ e. absurd (both_ways (eqb (b - x) 0) e (eq-eqb (b - x) 0 (omega arith)))))

pub between_first : (a b x : ℕ) → a < b → between a b x ≡ one_if x a + between (suc a) b x
between_first a b x l = elim (cases_lt x a) [
  | inl u ↦ (let p = between_before a b x u in let q = between_before (suc a) b x (omega arith) in let r = one_else x a (λ e. omega (arith, e, u)) in omega (arith, p, q, r))
  | inr u ↦ elim (cases_lt a x) [
    | inl v ↦ elim (cases_lt x b) [
      | inl w ↦ (let p = between_in a b x u w in let q = between_in (suc a) b x v w in let r = one_else x a (λ e. omega (arith, e, v)) in omega (arith, p, q, r))
      | inr w ↦ (let p = between_after a b x w in let q = between_after (suc a) b x w in let r = one_else x a (λ e. omega (arith, e, v)) in omega (arith, p, q, r))
    ]
    | inr v ↦ (let e : x ≡ a = omega arith in let p = between_in a b x u (omega (arith, e, l)) in let q = between_before (suc a) b x (omega (arith, e)) in let r = one_there x a e in omega (arith, p, q, r))
  ]
]

pub between_none : (a x : ℕ) → between a a x ≡ 0
between_none a x = elim (cases_lt x a) [ inl u ↦ between_before a a x u | inr u ↦ between_after a a x u ]

between_two : (a x : ℕ) → between a (a + 2) x ≡ one_if x (0 + a) + one_if x (1 + a)
between_two a x =
    let p = between_first a (a + 2) x (omega arith) in
    let q = between_first (suc a) (a + 2) x (omega arith) in
    let e : suc (suc a) ≡ a + 2 = omega arith in
    let r = ap (λ b. between b (a + 2) x) e ∙ between_none (a + 2) x in
    let f : 0 + a ≡ a = omega arith in
    let g : 1 + a ≡ suc a = omega arith in
    let s = ap (one_if x) f in
    let t = ap (one_if x) g in
    omega (arith, p, q, r, s, t)

between_three : (a x : ℕ) → between a (a + 3) x ≡ one_if x (0 + a) + (one_if x (1 + a) + one_if x (2 + a))
between_three a x =
    let p = between_first a (a + 3) x (omega arith) in
    let q = between_first (suc a) (a + 3) x (omega arith) in
    let q' = between_first (suc (suc a)) (a + 3) x (omega arith) in
    let e : suc (suc (suc a)) ≡ a + 3 = omega arith in
    let r = ap (λ b. between b (a + 3) x) e ∙ between_none (a + 3) x in
    let f : 0 + a ≡ a = omega arith in
    let g : 1 + a ≡ suc a = omega arith in
    let h : 2 + a ≡ suc (suc a) = omega arith in
    let s = ap (one_if x) f in
    let t = ap (one_if x) g in
    let u = ap (one_if x) h in
    omega (arith, p, q, q', r, s, t, u)

between_one : (a x : ℕ) → between a (a + 1) x ≡ one_if x a
between_one a x =
    let p = between_first a (a + 1) x (omega arith) in
    let e : suc a ≡ a + 1 = omega arith in
    let r = ap (λ b. between b (a + 1) x) e ∙ between_none (a + 1) x in
    omega (arith, p, r)

-- how often a number is that of an item, or of a region, of the entries
abbrev pub items : ℕ → Entries → ℕ
items x es = count x (item_numbers es)

abbrev pub regions : ℕ → Entries → ℕ
regions x es = count x (region_numbers es)

pub items_leaf : (x id : ℕ) (l : Leaf) (rest : Entries) → items x (leaf id l rest) ≡ one_if x id + items x rest
items_leaf x id l rest = count_first x id (item_numbers rest)

pub items_node : (x id : ℕ) (k : Holder) (h : Head) (held : Entries) (g : Head) (second rest : Entries) → items x (node id k h held g second rest) ≡ one_if x id + (items x held + (items x second + items x rest))
items_node x id k h held g second rest =
    let p = count_first x id (item_numbers held ++ (item_numbers second ++ item_numbers rest)) in
    let q = count_append x (item_numbers held) (item_numbers second ++ item_numbers rest) in
    let r = count_append x (item_numbers second) (item_numbers rest) in
    omega (arith, p, q, r)

pub regions_node : (x id : ℕ) (k : Holder) (h : Head) (held : Entries) (g : Head) (second rest : Entries)
    → regions x (node id k h held g second rest) ≡ one_if x h.number + (regions x held + (count x (second_number k g) + (regions x second + regions x rest)))
regions_node x id k h held g second rest =
    let p = count_first x h.number (region_numbers held ++ (second_number k g ++ (region_numbers second ++ region_numbers rest))) in
    let q = count_append x (region_numbers held) (second_number k g ++ (region_numbers second ++ region_numbers rest)) in
    let r = count_append x (second_number k g) (region_numbers second ++ region_numbers rest) in
    let s = count_append x (region_numbers second) (region_numbers rest) in
    omega (arith, p, q, r, s)

mark_number : (m : Option Side) (h : Head) → (mark_head m h).number ≡ h.number
mark_number None h = refl
mark_number (Some Ending) h = refl
mark_number (Some Going) h = refl

pub marked_number : (t : ℕ) (m : Option Side) (h : Head) (es : Entries) → (mark_at t m h es).number ≡ h.number
marked_number t m h es = cond_both (has_here t es) (mark_head m h) h (λ i. i.number ≡ h.number) (λ _. mark_number m h) (λ _. refl)

second_marked : (x t : ℕ) (m : Option Side) (k : Holder) (g : Head) (es : Entries) → count x (second_number k (mark_at t m g es)) ≡ count x (second_number k g)
second_marked x t m (SplitProject f env) g es = ap (λ (i : ℕ). count x (i ∷ [])) (marked_number t m g es)
second_marked x t m (Running f env) g es = ap (λ (i : ℕ). count x (i ∷ [])) (marked_number t m g es)
second_marked x t m k g es = refl

-- New items take the numbers from `i` on, and new regions those from `j` on.
module _ (w : Setting) (facts : List Fact) (n : Numbers) (i j : ℕ) (item_is : (k : ℕ) → n.item k ≡ k + i) (region_is : n.region ≡ j) (x : ℕ) where
  -- no more numbers than before, but for the new ones
  record Adds (r : Reduction) (news old : Entries) : Type 0 where
    item_count : items x news ≤ items x old + between i (i + r.items) x
    region_count : regions x news ≤ regions x old + between j (j + r.regions) x

  leaves_from : (from to : ℕ) (es : Entries) → FreshLeaves n from es to → from ≤ to
  leaves_from from to none h = omega (arith, h)
  leaves_from from to (leaf id l es) h = let q = leaves_from (suc from) to es h.1 in omega (arith, q)
  leaves_from from to (node id k hd held g second es) h = elim h [ ]

  leaves_items : (from to : ℕ) (es rest : Entries) → FreshLeaves n from es to → items x (append es rest) ≡ between (from + i) (to + i) x + items x rest
  leaves_items from to none rest h = let e : to + i ≡ from + i = omega (arith, h) in let q = ap (λ b. between (from + i) b x) e ∙ between_none (from + i) x in omega (arith, q)
  leaves_items from to (leaf id l es) rest h =
      let q = leaves_items (suc from) to es rest h.1 in
      let le = leaves_from (suc from) to es h.1 in
      let b = between_first (from + i) (to + i) x (omega (arith, le)) in
      let e = ap (one_if x) (h.0 ∙ item_is from) in
      let f : suc from + i ≡ suc (from + i) = omega arith in
      let s = ap (λ c. between c (to + i) x) f in
      let first = items_leaf x id l (append es rest) in
      omega (arith, q, b, e, s, first)
  leaves_items from to (node id k hd held g second es) rest h = elim h [ ]

  leaves_regions : (from to : ℕ) (es rest : Entries) → FreshLeaves n from es to → regions x (append es rest) ≡ regions x rest
  leaves_regions from to none rest h = refl
  leaves_regions from to (leaf id l es) rest h = leaves_regions (suc from) to es rest h.1
  leaves_regions from to (node id k hd held g second es) rest h = elim h [ ]

  new_second : (k : Holder) → IsNewHolder k → (g : Head) → count x (second_number k g) ≡ 0
  new_second (Split f env) h g = count_none x
  new_second (Opened f env) h g = count_none x
  new_second k h g = elim h [ ]

  new_items : (k : Holder) (l : Leaf) (rest : Entries) → items x (node (n.item 1) k (new_head n.region) (leaf (n.item 0) l none) no_region none rest) ≡ between i (i + 2) x + items x rest
  new_items k l rest =
      let p = items_node x (n.item 1) k (new_head n.region) (leaf (n.item 0) l none) no_region none rest in
      let q = items_leaf x (n.item 0) l none in
      let a = ap (one_if x) (item_is 0) in
      let b = ap (one_if x) (item_is 1) in
      let c = between_two i x in
      let d = count_none x in
      omega (arith, p, q, a, b, c, d)

  new_regions : (k : Holder) → IsNewHolder k → (l : Leaf) (rest : Entries) → regions x (node (n.item 1) k (new_head n.region) (leaf (n.item 0) l none) no_region none rest) ≡ between j (j + 1) x + regions x rest
  new_regions k h l rest =
      let p = regions_node x (n.item 1) k (new_head n.region) (leaf (n.item 0) l none) no_region none rest in
      let q = new_second k h no_region in
      let a = ap (one_if x) region_is in
      let b = between_one j x in
      let d = count_none x in
      omega (arith, p, q, a, b, d)

  plain_adds : (p : Place) (r : Reduction) → Plain p n r → (id : ℕ) (l : Leaf) (rest : Entries) → Adds r (append r.news rest) (leaf id l rest)
  plain_adds p r h id l rest = elim (h.news) [
    | inl u ↦ (let a = leaves_items 0 r.items r.news rest u.0 in
        let b = leaves_regions 0 r.items r.news rest u.0 in
        let e : 0 + i ≡ i = omega arith in
        let f : r.items + i ≡ i + r.items = omega arith in
        let c = ap (λ s. between s (r.items + i) x) e ∙ ap (λ s. between i s x) f in
        let first = items_leaf x id l rest in
        record { item_count = omega (arith, a, c, first); region_count = omega (arith, b) })
    | inr u ↦ (let is = u.0.is in
        let a = ap (λ (es : Entries). items x (append es rest)) is ∙ new_items u.0.holder u.0.item rest in
        let b = ap (λ (es : Entries). regions x (append es rest)) is ∙ new_regions u.0.holder u.0.is_new u.0.item rest in
        let c = ap (λ s. between i (i + s) x) u.1 in
        let d = ap (λ s. between j (j + s) x) u.2 in
        let first = items_leaf x id l rest in
        record { item_count = omega (arith, a, c, first); region_count = omega (arith, b, d) })
  ]

  abbrev HolderAdds : PickOutcome → Entries → Entries → Type 0
  HolderAdds (reduces r) es rest = Adds r (append r.news rest) es
  HolderAdds (waits first other) es rest = Unit {0}
  HolderAdds rests es rest = Unit {0}
  HolderAdds (clashes c) es rest = Unit {0}
  HolderAdds (misses port) es rest = Unit {0}
  HolderAdds (passes k) es rest = Unit {0}

  holder_adds : (k : Holder) (h : Head) (held : Entries) (g : Head) (second : Entries) (p : Place) (id : ℕ) (rest : Entries)
      → HolderAdds (holder_step w.defs w.inputs w.state facts k (region h held) (region g second) (held_place k h held p) n) (node id k h held g second rest) rest
  holder_adds (Split f env) h held g second p id rest =
      cond_both ((held_place (Split f env) h held p).is Going) _ _ (λ o. HolderAdds o (node id (Split f env) h held g second rest) rest) (λ _. tt)
      (λ _. cond_both ((held_place (Split f env) h held p).is Ending) _ _ (λ o. HolderAdds o (node id (Split f env) h held g second rest) rest)
      (λ _.
      let a = items_node x id (Split f env) h held g second rest in
      let b = items_node x (n.item 0) Closed h held no_region none (leaf (n.item 1) (Do f env) rest) in
      let c = items_leaf x (n.item 1) (Do f env) rest in
      let d = ap (one_if x) (item_is 0) in
      let e = ap (one_if x) (item_is 1) in
      let s = between_two i x in
      let z = count_none x in
      let a' = regions_node x id (Split f env) h held g second rest in
      let b' = regions_node x (n.item 0) Closed h held no_region none (leaf (n.item 1) (Do f env) rest) in
      record { item_count = omega (arith, a, b, c, d, e, s, z); region_count = omega (arith, a', b', z) })
      (λ _. tt))
  holder_adds (SplitProject f env) h held g second p id rest =
      cond_both ((held_place (SplitProject f env) h held p).is Going) _ _ (λ o. HolderAdds o (node id (SplitProject f env) h held g second rest) rest) (λ _. tt)
      (λ _. cond_both ((held_place (SplitProject f env) h held p).is Ending) _ _ (λ o. HolderAdds o (node id (SplitProject f env) h held g second rest) rest)
      (λ _.
      let a = items_node x id (SplitProject f env) h held g second rest in
      let b = items_node x (n.item 0) Closed h held no_region none (node (n.item 1) (Opened f env) g second no_region none rest) in
      let c = items_node x (n.item 1) (Opened f env) g second no_region none rest in
      let d = ap (one_if x) (item_is 0) in
      let e = ap (one_if x) (item_is 1) in
      let s = between_two i x in
      let z = count_none x in
      let a' = regions_node x id (SplitProject f env) h held g second rest in
      let b' = regions_node x (n.item 0) Closed h held no_region none (node (n.item 1) (Opened f env) g second no_region none rest) in
      let c' = regions_node x (n.item 1) (Opened f env) g second no_region none rest in
      let d' = count_first x g.number [] in
      record { item_count = omega (arith, a, b, c, d, e, s, z); region_count = omega (arith, a', b', c', d', z) })
      (λ _. tt))
  holder_adds (Opened f env) h held g second p id rest =
      cond_both ((held_place (Opened f env) h held p).is Going) _ _ (λ o. HolderAdds o (node id (Opened f env) h held g second rest) rest)
      (λ _.
      let inner = leaf (n.item 0) (Do f env) (leaf (n.item 1) (Do more env) none) in
      let a = items_node x id (Opened f env) h held g second rest in
      let b = items_node x (n.item 2) (Running f env) (new_head n.region) inner h held rest in
      let c = items_leaf x (n.item 0) (Do f env) (leaf (n.item 1) (Do more env) none) in
      let c2 = items_leaf x (n.item 1) (Do more env) none in
      let d = ap (one_if x) (item_is 0) in
      let e = ap (one_if x) (item_is 1) in
      let e2 = ap (one_if x) (item_is 2) in
      let s = between_three i x in
      let z = count_none x in
      let a' = regions_node x id (Opened f env) h held g second rest in
      let b' = regions_node x (n.item 2) (Running f env) (new_head n.region) inner h held rest in
      let c' = count_first x h.number [] in
      let d' = ap (one_if x) region_is in
      let s' = between_one j x in
      record { item_count = omega (arith, a, b, c, c2, d, e, e2, s, z); region_count = omega (arith, a', b', c', d', s', z) })
      (λ _. cond_both ((held_place (Opened f env) h held p).is Ending) _ _ (λ o. HolderAdds o (node id (Opened f env) h held g second rest) rest) (λ _. tt) (λ _. tt))
  holder_adds k h held g second p id rest = tt

  module _ (t : ℕ) (r : Reduction) where
    put_adds : (es : Entries) (p : Place) → pick w facts t es p n ≡ reduces r → Adds r (put t r.mark r.news es) es
    put_adds none p e = absurd (cc)
    put_adds (leaf id l rest) p e = elim (cases_Bool (eqb id t)) [
      | inl c ↦ (let s = leaf_step w.defs w.inputs w.state facts l p n in
          let q : s ≡ reduces r = sym (cond-true (eqb id t) s (pick w facts t rest p n) c) ∙ e in
          rw c (plain_adds p r (subst (λ (o : PickOutcome). IsPlain facts p n o) q (leaf_plain facts p n w.defs w.inputs w.state l)) id l rest))
      | inr c ↦ (let ih = put_adds rest p (sym (cond-false (eqb id t) (leaf_step w.defs w.inputs w.state facts l p n) (pick w facts t rest p n) c) ∙ e) in
          let a = items_leaf x id l rest in
          let b = items_leaf x id l (put t r.mark r.news rest) in
          let u = ih.item_count in
          let v = ih.region_count in
          let both : Adds r (leaf id l (put t r.mark r.news rest)) (leaf id l rest) = record { item_count = omega (arith, a, b, u); region_count = v } in
          rw c both)
    ]
    put_adds (node id k h held g second rest) p e =
        let a = items_node x id k h held g second rest in
        let a' = regions_node x id k h held g second rest in
        elim (cases_Bool (eqb id t)) [
          | inl c ↦ (let q = sym (pick_here w facts t id k h held g second rest p n c) ∙ e in
              rw c (subst (λ (o : PickOutcome). HolderAdds o (node id k h held g second rest) rest) q (holder_adds k h held g second p id rest)))
          | inr c ↦ elim (cases_Bool (second_lives k && has t second)) [
            | inl l ↦ (let ih = put_adds second (second_place g second p) (sym (pick_second w facts t id k h held g second rest p n c l) ∙ e) in
                let g' = mark_at t r.mark g second in
                let b = items_node x id k h held g' (put t r.mark r.news second) rest in
                let b' = regions_node x id k h held g' (put t r.mark r.news second) rest in
                let m = second_marked x t r.mark k g second in
                let u = ih.item_count in
                let v = ih.region_count in
                let both : Adds r (node id k h held g' (put t r.mark r.news second) rest) (node id k h held g second rest) = record { item_count = omega (arith, a, b, u); region_count = omega (arith, a', b', m, v) } in
                rw (c, l) both)
            | inr l ↦ elim (cases_Bool (has t held)) [
              | inl d ↦ (let ih = put_adds held (held_place k h held p) (sym (pick_first w facts t id k h held g second rest p n c l d) ∙ e) in
                  let h' = mark_at t r.mark h held in
                  let b = items_node x id k h' (put t r.mark r.news held) g second rest in
                  let b' = regions_node x id k h' (put t r.mark r.news held) g second rest in
                  let m = ap (one_if x) (marked_number t r.mark h held) in
                  let u = ih.item_count in
                  let v = ih.region_count in
                  let both : Adds r (node id k h' (put t r.mark r.news held) g second rest) (node id k h held g second rest) = record { item_count = omega (arith, a, b, u); region_count = omega (arith, a', b', m, v) } in
                  rw (c, l, d) both)
              | inr d ↦ (let ih = put_adds rest p (sym (pick_later w facts t id k h held g second rest p n c l d) ∙ e) in
                  let b = items_node x id k h held g second (put t r.mark r.news rest) in
                  let b' = regions_node x id k h held g second (put t r.mark r.news rest) in
                  let u = ih.item_count in
                  let v = ih.region_count in
                  let both : Adds r (node id k h held g second (put t r.mark r.news rest)) (node id k h held g second rest) = record { item_count = omega (arith, a, b, u); region_count = omega (arith, a', b', v) } in
                  rw (c, l, d) both)
            ]
          ]
        ]

    pub put_items : (es : Entries) (p : Place) → pick w facts t es p n ≡ reduces r → items x (put t r.mark r.news es) ≤ items x es + between i (i + r.items) x
    put_items es p e = (put_adds es p e).item_count

    pub put_regions : (es : Entries) (p : Place) → pick w facts t es p n ≡ reduces r → regions x (put t r.mark r.news es) ≤ regions x es + between j (j + r.regions) x
    put_regions es p e = (put_adds es p e).region_count
