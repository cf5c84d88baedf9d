-- Where no item is unsettled each rests, in a region of its side.
use Rattle.std.proofs.Common.{◌≡◌, ℕ, Bool, true, false, ◌||◌, ◌&&◌, not, List, [], ◌∷◌, ◌++◌, refl, inl, inr}
use Rattle.std.proofs.lemmas.Bool.{or_left, or_right, false_from_ne_true}
use Rattle.tp_meaning.specs.Syntax.{Definition}
use Rattle.tp_store.specs.Known.{Variable}
use Rattle.tp_scene.specs.Scene.{Side, Ending, Going, Head, marked, Do, Later, Shown, Holder, Split, SplitProject, Closed, Opened, Running, Entries, none, leaf, node, Scene, second_lives, only_if, rises, risen, Place, root_place, held_place, second_place}
use Rattle.tp_scene.specs.Rest.{unsettled_items, holds_back, end_open, ends, goes, settled_by, settled}
use Rattle.tp_scene.specs.Fits.{IsCalm, HasMore, EntriesFit, InnersGo}

-- the head has no mark of the other side
abbrev pub HeadIs : Side → Head → Type 0
HeadIs Ending h = h.goes ≡ false
HeadIs Going h = h.ends ≡ false

-- every item rests, in a region of that side
abbrev pub Rested : Side → Entries → Type 0
Rested z none = Unit {0}
Rested z (leaf id (Do f env) rest) = ⊥
Rested Ending (leaf id (Later f env) rest) = ⊥
Rested Going (leaf id (Later f env) rest) = Rested Going rest
Rested z (leaf id (Shown vs) rest) = Rested z rest
Rested Ending (node id (Split f env) h held g second rest) = ⊥
Rested Going (node id (Split f env) h held g second rest) = ((h.goes || risen Going held) ≡ true) × HeadIs Going h × Rested Going held × Rested Going rest
Rested Ending (node id (SplitProject f env) h held g second rest) = ⊥
Rested Going (node id (SplitProject f env) h held g second rest) = ((h.goes || risen Going held) ≡ true) × HeadIs Going h × Rested Going held × Rested Going rest
Rested z (node id Closed h held g second rest) = HeadIs Ending h × Rested Ending held × Rested z rest
Rested Ending (node id (Opened f env) h held g second rest) = HeadIs Ending h × Rested Ending held × Rested Ending rest
Rested Going (node id (Opened f env) h held g second rest) = ⊥
Rested Ending (node id (Running f env) h held g second rest) = ⊥
Rested Going (node id (Running f env) h held g second rest) = HeadIs Going h × HeadIs Going g × Rested Going held × Rested Going second × Rested Going rest

-- what rises from the entries is the region's
abbrev Covers : Place → Entries → Type 0
Covers p es = (z : Side) → risen z es ≡ true → p.is z ≡ true

nothing_left : {A : Type 0} (xs ys : List A) → xs ++ ys ≡ [] → xs ≡ []
nothing_left [] ys e = refl
nothing_left (x ∷ xs) ys e = absurd (cc)

nothing_right : {A : Type 0} (xs ys : List A) → xs ++ ys ≡ [] → ys ≡ []
nothing_right [] ys e = e
nothing_right (x ∷ xs) ys e = absurd (cc)

not_held_back : (b : Bool) (id : ℕ) (ids : List ℕ) → only_if (not b) (id ∷ []) ++ ids ≡ [] → b ≡ true
not_held_back true id ids e = refl
not_held_back false id ids e = absurd (cc)

no_more : (es : Entries) (p : Place) → HasMore es → unsettled_items es p ≡ [] → ⊥
no_more none p h e = elim h [ ]
no_more (leaf id (Do f env) rest) p h e = absurd (cc)
no_more (leaf id (Later f env) rest) p h e = no_more rest p h e
no_more (leaf id (Shown vs) rest) p h e = no_more rest p h e
no_more (node id k h held g second rest) p m e =
    no_more rest p m (nothing_right (only_if (holds_back k (held_place k h held p)) (id ∷ [])) _ (nothing_right (only_if (second_lives k) (unsettled_items second (second_place g second p)) ++ unsettled_items held (held_place k h held p)) _ e))

calm_mark : (q : Place) (h : Head) → IsCalm q → (z : Side) → q.is z ≡ true → ((y : Side) → marked y h ≡ true → q.is y ≡ true) → HeadIs z h
calm_mark q h calm Ending e up = false_from_ne_true h.goes (λ m. calm e (up Going m))
calm_mark q h calm Going e up = false_from_ne_true h.ends (λ m. calm (up Ending m) e)

module _ (k : Holder) (h : Head) (held : Entries) (p : Place) where
  held_marks : (z : Side) → marked z h ≡ true → (held_place k h held p).is z ≡ true
  held_marks z m = or_right _ _ (or_right _ _ (or_left (marked z h) (risen z held) m))

  held_covers : Covers (held_place k h held p) held
  held_covers z e = or_right _ _ (or_right _ _ (or_right (marked z h) (risen z held) e))

module _ (g : Head) (second : Entries) (p : Place) where
  second_marks : (z : Side) → marked z g ≡ true → (second_place g second p).is z ≡ true
  second_marks z m = or_right _ _ (or_left (marked z g) (risen z second) m)

  second_covers : Covers (second_place g second p) second
  second_covers z e = or_right _ _ (or_right (marked z g) (risen z second) e)

  second_is : (z : Side) → p.is z ≡ true → (second_place g second p).is z ≡ true
  second_is z e = or_left (p.is z) _ e

module _ (defs : List Definition) (kinds : List Bool) (variables : List Variable) where
  entries_calm : (es : Entries) (p : Place) → EntriesFit defs kinds variables es p → IsCalm p
  entries_calm none p fit = fit.0
  entries_calm (leaf id l rest) p fit = entries_calm rest p fit.1
  entries_calm (node id k h held g second rest) p fit = entries_calm rest p fit.2

  -- The region that an item holds, in a place of which that is known, and the entries behind it, where the item isn't held back on its side.
  module _ (q : Place) (h : Head) (held : Entries) (marks : (z : Side) → marked z h ≡ true → q.is z ≡ true) (fit : EntriesFit defs kinds variables held q) (id : ℕ) (rest : Entries) (p : Place) (z : Side)
      (e : unsettled_items held q ++ (only_if (not (q.is z)) (id ∷ []) ++ unsettled_items rest p) ≡ []) where
    on_its_side : q.is z ≡ true
    on_its_side = not_held_back (q.is z) id (unsettled_items rest p) (nothing_right (unsettled_items held q) _ e)

    held_rests : (unsettled_items held q ≡ [] → q.is z ≡ true → Rested z held) → (unsettled_items rest p ≡ [] → Rested z rest) → HeadIs z h × Rested z held × Rested z rest
    held_rests inside behind = (
      calm_mark q h (entries_calm held q fit) z on_its_side marks,
      inside (nothing_left (unsettled_items held q) _ e) on_its_side,
      behind (nothing_right (only_if (not (q.is z)) (id ∷ [])) _ (nothing_right (unsettled_items held q) _ e)),
    )

    left_rests : (unsettled_items held q ≡ [] → q.is z ≡ true → Rested z held) → (unsettled_items rest p ≡ [] → Rested z rest) → (q.is z ≡ true) × HeadIs z h × Rested z held × Rested z rest
    left_rests inside behind = let all = held_rests inside behind in (on_its_side, all.0, all.1, all.2)

  pub rested : (es : Entries) (p : Place) (z : Side) → EntriesFit defs kinds variables es p → InnersGo es p → Covers p es → unsettled_items es p ≡ [] → p.is z ≡ true → Rested z es
  rested none p z fit inners cov e is = tt
  rested (leaf id (Do f env) rest) p z fit inners cov e is = absurd (cc)
  rested (leaf id (Later f env) rest) p Ending fit inners cov e is = entries_calm rest p fit.1 is fit.0.1
  rested (leaf id (Later f env) rest) p Going fit inners cov e is = rested rest p Going fit.1 inners cov e is
  rested (leaf id (Shown vs) rest) p z fit inners cov e is = rested rest p z fit.1 inners cov e is
  rested (node id (Split f env) h held g second rest) p Ending fit inners cov e is =
      entries_calm rest p fit.2 is (cov Going (or_left (h.goes || risen Going held) _ (on_its_side (held_place (Split f env) h held p) h held (held_marks (Split f env) h held p) fit.1 id rest p Going e)))
  rested (node id (Split f env) h held g second rest) p Going fit inners cov e is = left_rests (held_place (Split f env) h held p) h held (held_marks (Split f env) h held p) fit.1 id rest p Going e
      (λ none on. rested held _ Going fit.1 inners.0 (held_covers (Split f env) h held p) none on)
      (λ none. rested rest p Going fit.2 inners.1 (λ z x. cov z (or_right (rises (Split f env) z && (marked z h || risen z held)) _ x)) none is)
  rested (node id (SplitProject f env) h held g second rest) p Ending fit inners cov e is =
      entries_calm rest p fit.2 is (cov Going (or_left (h.goes || risen Going held) _ (on_its_side (held_place (SplitProject f env) h held p) h held (held_marks (SplitProject f env) h held p) fit.1 id rest p Going e)))
  rested (node id (SplitProject f env) h held g second rest) p Going fit inners cov e is = left_rests (held_place (SplitProject f env) h held p) h held (held_marks (SplitProject f env) h held p) fit.1 id rest p Going e
      (λ none on. rested held _ Going fit.1 inners.0 (held_covers (SplitProject f env) h held p) none on)
      (λ none. rested rest p Going fit.2 inners.1 (λ z x. cov z (or_right (rises (SplitProject f env) z && (marked z h || risen z held)) _ x)) none is)
  rested (node id Closed h held g second rest) p z fit inners cov e is =
      let q = held_place Closed h held p in (
        calm_mark q h (entries_calm held q fit.1) Ending refl (held_marks Closed h held p),
        rested held q Ending fit.1 inners.0 (held_covers Closed h held p) (nothing_left (unsettled_items held q) _ e) refl,
        rested rest p z fit.2 inners.1 (λ y x. cov y x) (nothing_right (unsettled_items held q) _ e) is,
      )
  rested (node id (Opened f env) h held g second rest) p Ending fit inners cov e is = held_rests (held_place (Opened f env) h held p) h held (held_marks (Opened f env) h held p) fit.1 id rest p Ending e
      (λ none on. rested held _ Ending fit.1 inners.0 (held_covers (Opened f env) h held p) none on)
      (λ none. rested rest p Ending fit.2 inners.1 (λ z x. cov z (or_right (rises (Opened f env) z && (marked z h || risen z held)) _ x)) none is)
  rested (node id (Opened f env) h held g second rest) p Going fit inners cov e is =
      entries_calm held _ fit.1 (on_its_side (held_place (Opened f env) h held p) h held (held_marks (Opened f env) h held p) fit.1 id rest p Ending e) (or_left (p.is Going) _ is)
  rested (node id (Running f env) h held g second rest) p Ending fit inners cov e is =
      let q = held_place (Running f env) h held p in
      let both = nothing_left (unsettled_items second (second_place g second p) ++ unsettled_items held q) _ e in
      let left = nothing_right (unsettled_items second (second_place g second p)) _ both in
      elim (inners.0) [ inl up ↦ entries_calm held q fit.1 (or_left (p.is Ending) _ is) up | inr m ↦ no_more held q m left ]
  rested (node id (Running f env) h held g second rest) p Going fit inners cov e is =
      let q = held_place (Running f env) h held p in
      let r = second_place g second p in
      let both = nothing_left (unsettled_items second r ++ unsettled_items held q) _ e in
      let left = nothing_right (unsettled_items second r) _ both in
      let up : q.is Going ≡ true = elim (inners.0) [ inl up ↦ up | inr m ↦ absurd (no_more held q m left) ] in (
        calm_mark q h (entries_calm held q fit.1) Going up (held_marks (Running f env) h held p),
        calm_mark r g (entries_calm second r fit.0.1) Going (second_is g second p Going is) (second_marks g second p),
        rested held q Going fit.1 inners.2 (held_covers (Running f env) h held p) left up,
        rested second r Going fit.0.1 inners.1 (second_covers g second p) (nothing_left (unsettled_items second r) _ both) (second_is g second p Going is),
        rested rest p Going fit.2 inners.3 (λ z x. cov z (or_right (rises (Running f env) z && (marked z h || risen z held)) _ (or_right (marked z g || risen z second) _ x))) (nothing_right (unsettled_items second r ++ unsettled_items held q) _ e) is,
      )

-- A scene that goes on, or ends, has no unsettled item.
pub record IsAtSide (s : Scene) (z : Side) : Type 0 where
  pub is : (root_place s.root).is z ≡ true
  pub none_left : unsettled_items s.root.entries (root_place s.root) ≡ []

side_of_goes : (ids : List ℕ) (b c : Bool) (p : Place) → p.is Ending ≡ b → p.is Going ≡ c → settled_by ids p ≡ goes → (c ≡ true) × (ids ≡ [])
side_of_goes (i ∷ ids) b c p u v e = absurd (cc)
side_of_goes [] true c p u v e = absurd (let q : ends ≡ goes = rw u at e in cc)
side_of_goes [] false true p u v e = (refl, refl)
side_of_goes [] false false p u v e = absurd (let q : end_open ≡ goes = rw (u, v) at e in cc)

side_of_ends : (ids : List ℕ) (b c : Bool) (p : Place) → p.is Ending ≡ b → p.is Going ≡ c → settled_by ids p ≡ ends → (b ≡ true) × (ids ≡ [])
side_of_ends (i ∷ ids) b c p u v e = absurd (cc)
side_of_ends [] true c p u v e = (refl, refl)
side_of_ends [] false true p u v e = absurd (let q : goes ≡ ends = rw (u, v) at e in cc)
side_of_ends [] false false p u v e = absurd (let q : end_open ≡ ends = rw (u, v) at e in cc)

pub goes_at_side : (s : Scene) → settled s ≡ goes → IsAtSide s Going
goes_at_side s e = let p = root_place s.root in let x = side_of_goes (unsettled_items s.root.entries p) (p.is Ending) (p.is Going) p refl refl e in record { is = x.0; none_left = x.1 }

pub ends_at_side : (s : Scene) → settled s ≡ ends → IsAtSide s Ending
ends_at_side s e = let p = root_place s.root in let x = side_of_ends (unsettled_items s.root.entries p) (p.is Ending) (p.is Going) p refl refl e in record { is = x.0; none_left = x.1 }

-- in a scene that fits each item rests then, and the root has no other mark
pub root_rests : (defs : List Definition) (kinds : List Bool) (variables : List Variable) (s : Scene) (z : Side)
    → EntriesFit defs kinds variables s.root.entries (root_place s.root) → InnersGo s.root.entries (root_place s.root) → IsAtSide s z → HeadIs z s.root.head × Rested z s.root.entries
root_rests defs kinds variables s z fit inners at = (
  calm_mark (root_place s.root) s.root.head (entries_calm defs kinds variables s.root.entries (root_place s.root) fit) z at.is (λ y m. or_left (marked y s.root.head) _ m),
  rested defs kinds variables s.root.entries (root_place s.root) z fit inners (λ y x. or_right (marked y s.root.head) _ x) at.none_left at.is,
)
