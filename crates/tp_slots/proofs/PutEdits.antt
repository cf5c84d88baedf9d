-- Putting entries in a live item's place is an edit.
use Rattle.std.proofs.Common.{◌≡◌, ℕ, ◌+◌, ◌≤◌, ◌&&◌, Bool, true, false, cond, eqb, [], Option, refl, ap, sym, arith, inl, inr}
use Rattle.std.proofs.lemmas.Bool.{cases_Bool, eqb-true, eq-eqb, both_ways}
use Rattle.tp_scene.specs.Scene.{Side, Head, Holder, Split, SplitProject, Closed, Opened, Running, Entries, none, leaf, node, append, has, second_lives}
use Rattle.tp_scene.specs.Pick.{mark_head, mark_at, put}
use Rattle.tp_scene.specs.Fits.{second_number}
use Rattle.tp_scene.proofs.Count.{one_if, count, count_none, count_first, one_there}
use Rattle.tp_scene.proofs.PutNumbers.{items, regions, items_leaf, items_node, regions_node}
use Rattle.tp_slots.specs.Plain.{has_second}
use Rattle.tp_slots.specs.Edit.{edited_entries, one_place, one_mark, stands_in}

pub apart : (t id : ℕ) → one_if t id ≡ 0 → eqb id t ≡ false
apart t id z = elim (cases_Bool (eqb id t)) [
  | inl e ↦ absurd (let q = one_there t id (sym (eqb-true id t e)) in omega (arith, q, z))
  | inr e ↦ e
]

pub there : (t id : ℕ) → eqb id t ≡ true → one_if t id ≡ 1
there t id e = one_there t id (sym (eqb-true id t e))

pub both_so : (a b : Bool) → (a && b) ≡ true → (a ≡ true) × (b ≡ true)
both_so true true e = (refl, refl)
both_so true false e = absurd (both_ways false refl e)
both_so false b e = absurd (both_ways false refl e)

pub has_items : (t : ℕ) (es : Entries) → has t es ≡ true → 1 ≤ items t es
has_items t none h = absurd (both_ways false refl h)
has_items t (leaf id l rest) h =
    let c = items_leaf t id l rest in
    elim (cases_Bool (eqb id t)) [
      | inl e ↦ (let q = there t id e in omega (arith, c, q))
      | inr e ↦ (let q = has_items t rest (rw e at h) in omega (arith, c, q))
    ]
has_items t (node id k h held g second rest) y =
    let c = items_node t id k h held g second rest in
    elim (cases_Bool (eqb id t)) [
      | inl e ↦ (let q = there t id e in omega (arith, c, q))
      | inr e ↦ elim (cases_Bool (second_lives k && has t second)) [
        | inl b ↦ (let q = has_items t second (both_so (second_lives k) (has t second) b).1 in omega (arith, c, q))
        | inr b ↦ elim (cases_Bool (has t held)) [
          | inl d ↦ (let q = has_items t held d in omega (arith, c, q))
          | inr d ↦ (let q = has_items t rest (rw (e, b, d) at y) in omega (arith, c, q))
        ]
      ]
    ]

second_count : (x : ℕ) (k : Holder) (g : Head) → second_lives k ≡ true → count x (second_number k g) ≡ one_if x g.number
second_count x (Split f env) g h = absurd (both_ways false refl h)
second_count x (SplitProject f env) g h = absurd (both_ways false refl h)
second_count x Closed g h = absurd (both_ways false refl h)
second_count x (Opened f env) g h = absurd (both_ways false refl h)
second_count x (Running f env) g h = let a = count_first x g.number [] in let b = count_none x in omega (arith, a, b)

pub second_has : (k : Holder) → second_lives k ≡ true → has_second k ≡ true
second_has (Split f env) h = absurd (both_ways false refl h)
second_has (SplitProject f env) h = refl
second_has Closed h = absurd (both_ways false refl h)
second_has (Opened f env) h = absurd (both_ways false refl h)
second_has (Running f env) h = refl

module _ (t home : ℕ) (m : Option Side) (news : Entries) where
  unmarked : (h : Head) → one_if home h.number ≡ 0 → mark_head (one_mark home m h.number) h ≡ h
  unmarked h z = let e = apart home h.number z in rw e refl

  second_unmarked : (k : Holder) (g : Head) → count home (second_number k g) ≡ 0 → cond (has_second k) (mark_head (one_mark home m g.number) g) g ≡ g
  second_unmarked (Split f env) g z = refl
  second_unmarked (SplitProject f env) g z = let a = count_first home g.number [] in unmarked g (omega (arith, a, z))
  second_unmarked Closed g z = refl
  second_unmarked (Opened f env) g z = refl
  second_unmarked (Running f env) g z = let a = count_first home g.number [] in unmarked g (omega (arith, a, z))

  pub absent_edited : (es : Entries) → items t es ≡ 0 → regions home es ≡ 0 → edited_entries (one_place t news) (one_mark home m) es ≡ es
  absent_edited none a b = refl
  absent_edited (leaf id l rest) a b =
      let c = items_leaf t id l rest in
      let e = apart t id (omega (arith, a, c)) in
      let q = absent_edited rest (omega (arith, a, c)) b in
      rw e (ap (leaf id l) q)
  absent_edited (node id k h held g second rest) a b =
      let c = items_node t id k h held g second rest in
      let d = regions_node home id k h held g second rest in
      let e = apart t id (omega (arith, a, c)) in
      let u = unmarked h (omega (arith, b, d)) in
      let x = absent_edited held (omega (arith, a, c)) (omega (arith, b, d)) in
      let v = second_unmarked k g (omega (arith, b, d)) in
      let y = absent_edited second (omega (arith, a, c)) (omega (arith, b, d)) in
      let z = absent_edited rest (omega (arith, a, c)) (omega (arith, b, d)) in
      rw e (λ i. node id k (u i) (x i) (v i) (y i) (z i))

  -- the item's region is among these
  in_region : (es : Entries) (r : ℕ) → has t es ≡ true → stands_in t r es ≡ home → 1 ≤ one_if home r + regions home es
  in_region none r h s = absurd (both_ways false refl h)
  in_region (leaf id l rest) r h s = elim (cases_Bool (eqb id t)) [
    | inl e ↦ (let q = one_there home r (sym (rw e at s)) in omega (arith, q))
    | inr e ↦ in_region rest r (rw e at h) (rw e at s)
  ]
  in_region (node id k h held g second rest) r y s =
      let d = regions_node home id k h held g second rest in
      elim (cases_Bool (eqb id t)) [
        | inl e ↦ (let q = one_there home r (sym (rw e at s)) in omega (arith, q))
        | inr e ↦ elim (cases_Bool (second_lives k && has t second)) [
          | inl b ↦ (let p = both_so (second_lives k) (has t second) b in
              let q = in_region second g.number p.1 (rw (e, b) at s) in
              let c = second_count home k g p.0 in
              omega (arith, d, q, c))
          | inr b ↦ elim (cases_Bool (has t held)) [
            | inl i ↦ (let q = in_region held h.number i (rw (e, b, i) at s) in omega (arith, d, q))
            | inr i ↦ (let q = in_region rest r (rw (e, b, i) at y) (rw (e, b, i) at s) in omega (arith, d, q))
          ]
        ]
      ]

  pub record IsEdit (es : Entries) (h : Head) : Type 0 where
    pub entries : put t m news es ≡ edited_entries (one_place t news) (one_mark home m) es
    pub head : mark_at t m h es ≡ mark_head (one_mark home m h.number) h

  pub put_edited : (es : Entries) (h : Head) → has t es ≡ true → stands_in t h.number es ≡ home → items t es ≤ 1 → one_if home h.number + regions home es ≤ 1 → IsEdit es h
  put_edited none r h s a b = absurd (both_ways false refl h)
  put_edited (leaf id l rest) r y s a b =
      let c = items_leaf t id l rest in
      elim (cases_Bool (eqb id t)) [
        | inl e ↦ (let at : r.number ≡ home = rw e at s in
            let q = there t id e in
            let o = one_there home r.number (sym at) in
            let z = absent_edited rest (omega (arith, a, c, q)) (omega (arith, b, o)) in
            let n = eq-eqb r.number home at in
            record { entries = rw e (ap (append news) (sym z)); head = rw (e, n) refl })
        | inr e ↦ (let q = put_edited rest r (rw e at y) (rw e at s) (omega (arith, a, c)) b in
            record { entries = rw e (ap (leaf id l) q.entries); head = rw e q.head })
      ]
  put_edited (node id k h held g second rest) r y s a b =
      let c = items_node t id k h held g second rest in
      let d = regions_node home id k h held g second rest in
      elim (cases_Bool (eqb id t)) [
        | inl e ↦ (let at : r.number ≡ home = rw e at s in
            let q = there t id e in
            let o = one_there home r.number (sym at) in
            let z = absent_edited rest (omega (arith, a, c, q)) (omega (arith, b, d, o)) in
            let n = eq-eqb r.number home at in
            record { entries = rw e (ap (append news) (sym z)); head = rw (e, n) refl })
        | inr e ↦ elim (cases_Bool (second_lives k && has t second)) [
          | inl i ↦ (let p = both_so (second_lives k) (has t second) i in
              let place : stands_in t g.number second ≡ home = rw (e, i) at s in
              let u = has_items t second p.1 in
              let v = in_region second g.number p.1 place in
              let w = second_count home k g p.0 in
              let q = put_edited second g p.1 place (omega (arith, a, c)) (omega (arith, b, d, w)) in
              let x = unmarked h (omega (arith, b, d, v, w)) in
              let z = absent_edited held (omega (arith, a, c, u)) (omega (arith, b, d, v, w)) in
              let f = absent_edited rest (omega (arith, a, c, u)) (omega (arith, b, d, v, w)) in
              let o = unmarked r (omega (arith, b, d, v, w)) in
              let l = second_has k p.0 in
              let head = q.head in
              let entries = q.entries in
              record {
                entries = rw (e, i, l) (λ j. node id k (sym x j) (sym z j) (head j) (entries j) (sym f j));
                head = rw (e, i) (sym o);
              })
          | inr i ↦ elim (cases_Bool (has t held)) [
            | inl j ↦ (let place : stands_in t h.number held ≡ home = rw (e, i, j) at s in
                let u = has_items t held j in
                let v = in_region held h.number j place in
                let q = put_edited held h j place (omega (arith, a, c)) (omega (arith, b, d)) in
                let x = second_unmarked k g (omega (arith, b, d, v)) in
                let z = absent_edited second (omega (arith, a, c, u)) (omega (arith, b, d, v)) in
                let f = absent_edited rest (omega (arith, a, c, u)) (omega (arith, b, d, v)) in
                let o = unmarked r (omega (arith, b, d, v)) in
                let head = q.head in
                let entries = q.entries in
                record {
                  entries = rw (e, i, j) (λ n. node id k (head n) (entries n) (sym x n) (sym z n) (sym f n));
                  head = rw (e, i, j) (sym o);
                })
            | inr j ↦ (let place : stands_in t r.number rest ≡ home = rw (e, i, j) at s in
                let lives : has t rest ≡ true = rw (e, i, j) at y in
                let u = has_items t rest lives in
                let v = in_region rest r.number lives place in
                let q = put_edited rest r lives place (omega (arith, a, c)) (omega (arith, b, d)) in
                let n = unmarked h (omega (arith, b, d, v)) in
                let f = absent_edited held (omega (arith, a, c, u)) (omega (arith, b, d, v)) in
                let x = second_unmarked k g (omega (arith, b, d, v)) in
                let z = absent_edited second (omega (arith, a, c, u)) (omega (arith, b, d, v)) in
                let entries = q.entries in
                record {
                  entries = rw (e, i, j) (λ o. node id k (sym n o) (sym f o) (sym x o) (sym z o) (entries o));
                  head = rw (e, i, j) q.head;
                })
          ]
        ]
      ]
