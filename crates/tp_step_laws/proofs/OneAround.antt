-- The numbers of regions stand once: what is so of a live region by its number is so of each live region with that number.
use Rattle.std.proofs.Common.{◌≡◌, ◌⊎◌, inl, inr, ℕ, ◌+◌, ◌≤◌, Bool, true, false, List, ◌∷◌, eqb, refl, sym, ◌∙◌, subst, arith}
use Rattle.std.proofs.lemmas.Bool.{cases_Bool, both_ways, eqb-true, eq-eqb}
use Rattle.tp_scene.specs.Scene.{Side, Head, Entries, none, leaf, node, Scene, Place, root_place, held_place, second_place}
use Rattle.tp_scene.specs.Regions.{LiveRegion, the_root, the_held}
use Rattle.tp_scene.specs.RegionLaws.{computed_place}
use Rattle.tp_scene.specs.Pick.{Setting, Moment}
use Rattle.tp_scene.specs.Fits.{region_numbers}
use Rattle.tp_scene.specs.Laws.{IsSound}
use Rattle.tp_scene.proofs.Count.{one_if, count_first, one_there, numbers_once}
use Rattle.tp_scene.proofs.PutNumbers.{regions, regions_node}
use Rattle.tp_scene.proofs.Standing.{live_number, HeldIn, held_counted, held_around, standing_from_root}
use Rattle.tp_scene.proofs.KnownEnds.{KnownAt, number_in}
use Rattle.tp_step_laws.specs.Near.{StandsAround, OneStandsAround}

-- Said of a property of the place of a region around, and of that of the region held in it.
module _ (P : Place → Place → Type 0) where
  at_counted : (r : ℕ) → ((a q : Place) → P a q → q.region ≡ r) → (a q : Place) (es : Entries) → P a q ⊎ HeldIn P es q → 1 ≤ one_if r q.region + regions r es
  at_counted r of a q es (inl u) = let o = one_there r q.region (sym (of a q u)) in omega (arith, o)
  at_counted r of a q es (inr u) = let i = held_counted P r of es q u in omega (arith, i)

  -- what is so in a live region is so in the scene
  held_from_root : (s : Scene) (h : Head) (es : Entries) (x : LiveRegion s h es) → HeldIn P es (computed_place x) → HeldIn P s.root.entries (root_place s.root)
  held_from_root s _ _ the_root y = y
  held_from_root s _ _ (the_held {h = h} {es = es} {role = role} {i = i} {held = held} x in_it) y = held_from_root s h es x (held_around P (computed_place x) es role i held in_it (inr y))

-- Two properties that exclude each other aren't both of regions of one number that stands once.
module _ (P Q : Place → Place → Type 0) (r : ℕ) (of : (a q : Place) → P a q → q.region ≡ r) (also : (a q : Place) → Q a q → q.region ≡ r) (apart : (a b q : Place) → P a q → Q b q → a ≡ b → ⊥) where
  at_apart : (a q : Place) (es : Entries) → one_if r q.region + regions r es ≤ 1 → (HeldIn P es q → HeldIn Q es q → ⊥) → P a q ⊎ HeldIn P es q → Q a q ⊎ HeldIn Q es q → ⊥
  at_apart a q es most inside (inl u) (inl v) = apart a a q u v refl
  at_apart a q es most inside (inl u) (inr v) = let o = one_there r q.region (sym (of a q u)) in let i = held_counted Q r also es q v in absurd (omega (arith, o, i, most))
  at_apart a q es most inside (inr u) (inl v) = let o = one_there r q.region (sym (also a q v)) in let i = held_counted P r of es q u in absurd (omega (arith, o, i, most))
  at_apart a q es most inside (inr u) (inr v) = inside u v

  held_apart : (es : Entries) (p : Place) → regions r es ≤ 1 → HeldIn P es p → HeldIn Q es p → ⊥
  held_apart none p most x y = absurd x
  held_apart (leaf id l rest) p most x y = held_apart rest p most x y
  held_apart (node id k h held g second rest) p most x y =
      let n = regions_node r id k h held g second rest in
      let a = held_place k h held p in
      let b = second_place g second p in
      elim x [
        | inl u ↦ (let c = at_counted P r of p a held u in elim y [
          | inl v ↦ at_apart p a held (omega (arith, n, most)) (held_apart held a (omega (arith, n, most))) u v
          | inr w ↦ elim w [
            | inl v ↦ (let live = live_number r k g v.0 in let d = at_counted Q r also p b second v.1 in absurd (omega (arith, n, live, c, d, most)))
            | inr v ↦ (let d = held_counted Q r also rest p v in absurd (omega (arith, n, c, d, most)))
          ]
        ])
        | inr t ↦ elim t [
          | inl u ↦ (let live = live_number r k g u.0 in let c = at_counted P r of p b second u.1 in elim y [
            | inl v ↦ (let d = at_counted Q r also p a held v in absurd (omega (arith, n, live, c, d, most)))
            | inr w ↦ elim w [
              | inl v ↦ at_apart p b second (omega (arith, n, live, most)) (held_apart second b (omega (arith, n, most))) u.1 v.1
              | inr v ↦ (let d = held_counted Q r also rest p v in absurd (omega (arith, n, live, c, d, most)))
            ]
          ])
          | inr u ↦ (let c = held_counted P r of rest p u in elim y [
            | inl v ↦ (let d = at_counted Q r also p a held v in absurd (omega (arith, n, c, d, most)))
            | inr w ↦ elim w [
              | inl v ↦ (let live = live_number r k g v.0 in let d = at_counted Q r also p b second v.1 in absurd (omega (arith, n, live, c, d, most)))
              | inr v ↦ held_apart rest p (omega (arith, n, most)) u v
            ]
          ])
        ]
      ]

abbrev pub RegionsStandOnce : Scene → Type 0
RegionsStandOnce s = (r : ℕ) → one_if r s.root.head.number + regions r s.root.entries ≤ 1

pub regions_stand_once : (w : Setting) (kinds : List Bool) (m : Moment) → IsSound w kinds m → RegionsStandOnce m.scene
regions_stand_once w kinds m sound r =
    let n = m.scene.root.head.number in
    let f = count_first r n (region_numbers m.scene.root.entries) in
    let most = (numbers_once m.scene.next_region (n ∷ region_numbers m.scene.root.entries) sound.moment.regions).once r in
    omega (arith, f, most)

-- A live region has the status of its number.
module _ (s : Scene) (once : RegionsStandOnce s) (r : ℕ) (z : Side) where
  abbrev Has : Bool → Place → Type 0
  Has b q = (q.region ≡ r) × (q.is z ≡ b)

  pub status_of_number : KnownAt r z s.root.entries (root_place s.root) → (h : Head) (es : Entries) (x : LiveRegion s h es) → h.number ≡ r → (computed_place x).is z ≡ true
  status_of_number known h es x same = elim (cases_Bool ((computed_place x).is z)) [
    | inl e ↦ e
    | inr e ↦ (let root = root_place s.root in
        let most = once r in
        let stands = standing_from_root (Has false) s h es x (inl (number_in s h es x ∙ same, e)) in
        absurd (at_apart (λ a. Has true) (λ a. Has false) r (λ a q u. u.0) (λ a q u. u.0) (λ a b q u v _. both_ways (q.is z) v.1 u.1) root root s.root.entries most
        (held_apart (λ a. Has true) (λ a. Has false) r (λ a q u. u.0) (λ a q u. u.0) (λ a b q u v _. both_ways (q.is z) v.1 u.1) s.root.entries root (omega (arith, most)))
        known stands))
  ]

-- no region stands around itself
module _ (r : ℕ) where
  abbrev Itself : Place → Place → Type 0
  Itself a q = (q.region ≡ r) × (a.region ≡ r)

  not_itself : (es : Entries) (p : Place) → one_if r p.region + regions r es ≤ 1 → HeldIn Itself es p → ⊥
  not_itself none p most x = absurd x
  not_itself (leaf id l rest) p most x = not_itself rest p most x
  not_itself (node id k h held g second rest) p most x =
      let n = regions_node r id k h held g second rest in
      elim x [
        | inl y ↦ elim y [
          | inl u ↦ (let o = one_there r h.number (sym u.0) in let i = one_there r p.region (sym u.1) in absurd (omega (arith, n, o, i, most)))
          | inr u ↦ not_itself held (held_place k h held p) (omega (arith, n, most)) u
        ]
        | inr y ↦ elim y [
          | inl v ↦ (let live = live_number r k g v.0 in elim (v.1) [
            | inl u ↦ (let o = one_there r g.number (sym u.0) in let i = one_there r p.region (sym u.1) in absurd (omega (arith, n, live, o, i, most)))
            | inr u ↦ not_itself second (second_place g second p) (omega (arith, n, live, most)) u
          ])
          | inr v ↦ not_itself rest p (omega (arith, n, most)) v
        ]
      ]

module _ (s : Scene) (once : RegionsStandOnce s) (q : ℕ) where
  -- the region q, in one with the number p
  abbrev HeldAround : (ℕ → Type 0) → Place → Place → Type 0
  HeldAround N a o = (o.region ≡ q) × N a.region

  around_held : (N : ℕ → Type 0) (p : ℕ) → N p → StandsAround s q p → HeldIn (HeldAround N) s.root.entries (root_place s.root)
  around_held N p n x =
      let inside : LiveRegion s x.inner x.held = the_held x.around x.holds in
      held_from_root (HeldAround N) s x.head x.entries x.around (held_around (HeldAround N) (computed_place x.around) x.entries x.role x.inner x.held x.holds
      (inl (number_in s x.inner x.held inside ∙ x.named, subst N (sym (number_in s x.head x.entries x.around ∙ x.numbered)) n)))

  one_around : (p other : ℕ) → StandsAround s q p → StandsAround s q other → other ≡ p
  one_around p other x y = elim (cases_Bool (eqb other p)) [
    | inl e ↦ eqb-true other p e
    | inr e ↦ (let most = once q in
        absurd (held_apart (HeldAround (λ n. n ≡ p)) (HeldAround (λ n. n ≡ other)) q (λ a o u. u.0) (λ a o u. u.0) (λ a b o u v same. both_ways (eqb other p) e (eq-eqb other p (differ a b o u v same)))
        s.root.entries (root_place s.root) (omega (arith, most)) (around_held (λ n. n ≡ p) p refl x) (around_held (λ n. n ≡ other) other refl y)))
  ]
    where
      differ : (a b o : Place) → HeldAround (λ n. n ≡ p) a o → HeldAround (λ n. n ≡ other) b o → a ≡ b → other ≡ p
      differ a b o u v same = sym v.1 ∙ (let r : b.region ≡ a.region = λ i. (sym same i).region in r) ∙ u.1

pub one_stands_around : OneStandsAround
one_stands_around w kinds m sound q p x =
    let once = regions_stand_once w kinds m sound in
    ((λ same. not_itself q m.scene.root.entries (root_place m.scene.root) (once q) (around_held m.scene once q (λ n. n ≡ q) p (sym same) x)), (λ other y. one_around m.scene once q p other x y))
