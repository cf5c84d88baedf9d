-- What rises after a step: nothing of the other side, and the mark's side only where the region wasn't of the other one.
use Rattle.std.proofs.Common.{◌≡◌, ◌⊎◌, ℕ, suc, Bool, true, false, ◌||◌, ◌&&◌, eqb, List, Option, Some, None, refl, sym, ◌∙◌, subst, inl, inr}
use Rattle.std.proofs.lemmas.Bool.{cond_both, cases_Bool, or_cases, or_left, or_right, both_ways, and_parts, and_from, false≢true, cond-true, cond-false}
use Rattle.tp_meaning.specs.Syntax.{Definition}
use Rattle.tp_value.specs.declared.path.Fact.{Fact}
use Rattle.tp_store.specs.Known.{Variable}
use Rattle.tp_scene.specs.Scene.{Side, other_side, Ending, Going, Head, marked, Leaf, Do, Holder, Split, SplitProject, Closed, Opened, Running, Entries, none, leaf, node, new_head, no_region, second_lives, has, has_here, append, rises, sinks, forced, risen, Place, held_place, second_place}
use Rattle.tp_scene.specs.Step.{Reduction, PickOutcome, reduces, waits, rests, clashes, misses, passes, Numbers, leaf_step, holder_step}
use Rattle.tp_scene.specs.Pick.{Setting, pick, mark_head, mark_at, put}
use Rattle.tp_scene.specs.Fits.{IsCalm, Dormant, HolderFits, EntriesFit}
use Rattle.tp_scene.proofs.Frame.{region}
use Rattle.tp_scene.proofs.Risen.{pick_here, pick_second, pick_first, pick_later}
use Rattle.tp_scene.proofs.Keep.{live_fits}
use Rattle.tp_scene.proofs.NewsFit.{entries_calm}
use Rattle.tp_scene.proofs.Grown.{Covers, not_both, rises_sinks, covers_rest, covers_first, covers_second, held_covered, second_covered}
use Rattle.tp_scene.proofs.Plain.{FreshLeaves, IsNewHolder, Plain, IsPlain, leaf_plain}

-- the side of a mark, where there is one
abbrev pub side_of_mark : Option Side → Side
side_of_mark None = Going
side_of_mark (Some z) = z

mark_other : (m : Option Side) (h : Head) → marked (other_side (side_of_mark m)) (mark_head m h) ≡ marked (other_side (side_of_mark m)) h
mark_other None h = refl
mark_other (Some Ending) h = refl
mark_other (Some Going) h = refl

mark_new : (m : Option Side) (h : Head) → marked (side_of_mark m) (mark_head m h) ≡ true → (marked (side_of_mark m) h ≡ true) ⊎ (m ≡ Some (side_of_mark m))
mark_new None h e = inl e
mark_new (Some z) h e = inr refl

pub mark_at_other : (t : ℕ) (m : Option Side) (h : Head) (es : Entries) → marked (other_side (side_of_mark m)) (mark_at t m h es) ≡ true → marked (other_side (side_of_mark m)) h ≡ true
mark_at_other t m h es = cond_both (has_here t es) (mark_head m h) h (λ x. marked (other_side (side_of_mark m)) x ≡ true → marked (other_side (side_of_mark m)) h ≡ true) (λ _ e. sym (mark_other m h) ∙ e) (λ _ e. e)

pub mark_at_new : (t : ℕ) (m : Option Side) (h : Head) (es : Entries) → marked (side_of_mark m) (mark_at t m h es) ≡ true → (marked (side_of_mark m) h ≡ true) ⊎ ((has_here t es ≡ true) × (m ≡ Some (side_of_mark m)))
mark_at_new t m h es = cond_both (has_here t es) (mark_head m h) h (λ x. marked (side_of_mark m) x ≡ true → (marked (side_of_mark m) h ≡ true) ⊎ ((has_here t es ≡ true) × (m ≡ Some (side_of_mark m))))
    (λ i e. elim (mark_new m h e) [ inl u ↦ inl u | inr u ↦ inr (i, u) ]) (λ _ e. inl e)

set_mark : (m : Option Side) (x : Side) (h : Head) → m ≡ Some x → marked x (mark_head m h) ≡ true
set_mark None x h e = absurd (cc)
set_mark (Some Ending) Going h e = absurd (let q : Ending ≡ Going = cc in cc)
set_mark (Some Going) Ending h e = absurd (let q : Going ≡ Ending = cc in cc)
set_mark m z h e = refl

pub mark_at_set : (t : ℕ) (m : Option Side) (x : Side) (h : Head) (es : Entries) → has_here t es ≡ true → m ≡ Some x → marked x (mark_at t m h es) ≡ true
mark_at_set t m x h es i e = subst (λ (y : Head). marked x y ≡ true) (sym (cond-true (has_here t es) (mark_head m h) h i)) (set_mark m x h e)

-- no status rises from new items, or from a new region
no_mark : (x : Side) (n : ℕ) → marked x (new_head n) ≡ false
no_mark Ending n = refl
no_mark Going n = refl

leaves_rise : (n : Numbers) (from to : ℕ) (es rest : Entries) (x : Side) → FreshLeaves n from es to → risen x (append es rest) ≡ true → risen x rest ≡ true
leaves_rise n from to none rest x h e = e
leaves_rise n from to (leaf id l es) rest x h e = leaves_rise n (suc from) to es rest x h.1 e
leaves_rise n from to (node id k hd held g second es) rest x h e = elim h [ ]

new_rise : (k : Holder) → IsNewHolder k → (i id : ℕ) (l : Leaf) (m : ℕ) (rest : Entries) (x : Side) → risen x (node i k (new_head m) (leaf id l none) no_region none rest) ≡ true → risen x rest ≡ true
new_rise (Split f env) h i id l m rest x e = elim (or_cases (rises (Split f env) x && (marked x (new_head m) || false)) _ e) [
  | inl u ↦ absurd (both_ways (marked x (new_head m)) (no_mark x m) (elim (or_cases (marked x (new_head m)) false (and_parts (rises (Split f env) x) _ u).1) [ inl v ↦ v | inr v ↦ absurd (false≢true v) ]))
  | inr u ↦ u
]
new_rise (Opened f env) h i id l m rest x e = elim (or_cases (marked x (new_head m) || false) _ e) [
  | inl u ↦ absurd (both_ways (marked x (new_head m)) (no_mark x m) (elim (or_cases (marked x (new_head m)) false u) [ inl v ↦ v | inr v ↦ absurd (false≢true v) ]))
  | inr u ↦ u
]
new_rise k h i id l m rest x e = elim h [ ]

pub plain_rise : (p : Place) (n : Numbers) (r : Reduction) → Plain p n r → (rest : Entries) (x : Side) → risen x (append r.news rest) ≡ true → risen x rest ≡ true
plain_rise p n r h rest x e = elim (h.news) [
  | inl u ↦ leaves_rise n 0 r.items r.news rest x u.0 e
  | inr u ↦ new_rise u.0.holder u.0.is_new (n.item 1) (n.item 0) u.0.item n.region rest x (subst (λ (es : Entries). risen x (append es rest) ≡ true) u.0.is e)
]

-- in a dormant region nothing is marked
pub dormant_head : (h : Head) (es : Entries) → Dormant h es → (x : Side) → marked x h ≡ false
dormant_head h none d Ending = d.0
dormant_head h none d Going = d.1
dormant_head h (leaf id (Do f env) rest) d x = dormant_head h rest d x
dormant_head h (node id (Split f env) i held g second rest) d x = dormant_head h rest d.1 x
dormant_head h (node id (SplitProject f env) i held g second rest) d x = dormant_head h rest d.2 x
dormant_head h es d x = elim d [ ]

pub or_false : (a b : Bool) → a ≡ false → b ≡ false → (a || b) ≡ false
or_false true b e f = e
or_false false b e f = f

and_false : (a b : Bool) → b ≡ false → (a && b) ≡ false
and_false true b e = e
and_false false b e = refl

pub dormant_risen : (h : Head) (es : Entries) → Dormant h es → (x : Side) → risen x es ≡ false
dormant_risen h none d x = refl
dormant_risen h (leaf id (Do f env) rest) d x = dormant_risen h rest d x
dormant_risen h (node id (Split f env) i held g second rest) d x =
    or_false _ _ (and_false (rises (Split f env) x) _ (or_false (marked x i) _ (dormant_head i held d.0 x) (dormant_risen i held d.0 x))) (dormant_risen h rest d.1 x)
dormant_risen h (node id (SplitProject f env) i held g second rest) d x =
    or_false _ _ (and_false (rises (SplitProject f env) x) _ (or_false (marked x i) _ (dormant_head i held d.0 x) (dormant_risen i held d.0 x))) (dormant_risen h rest d.2 x)
dormant_risen h es d x = elim d [ ]

forced_rises : (k : Holder) (x : Side) → forced k x ≡ true → rises k x ≡ true → ⊥
forced_rises Closed Ending e u = false≢true u
forced_rises Closed Going e u = false≢true u
forced_rises k z e u = false≢true e

-- What rises from what a holder becomes rose from it; and it sets no mark.
module _ (w : Setting) (facts : List Fact) (defs : List Definition) (kinds : List Bool) (variables : List Variable) where
  abbrev HolderRises : PickOutcome → Entries → Entries → Type 0
  HolderRises (reduces r) es rest = ((x : Side) → risen x (append r.news rest) ≡ true → risen x es ≡ true) × (r.mark ≡ None)
  HolderRises (waits first other) es rest = Unit {0}
  HolderRises rests es rest = Unit {0}
  HolderRises (clashes c) es rest = Unit {0}
  HolderRises (misses port) es rest = Unit {0}
  HolderRises (passes k) es rest = Unit {0}

  holder_rises : (k : Holder) (h : Head) (held : Entries) (g : Head) (second : Entries) (p : Place) (n : Numbers) (id : ℕ) (rest : Entries) (q : Place) (X Y : Type 0)
      → HolderFits defs kinds variables k held q (Dormant g second × Y) X
      → HolderRises (holder_step w.defs w.inputs w.state facts k (region h held) (region g second) (held_place k h held p) n) (node id k h held g second rest) rest
  holder_rises (Split f env) h held g second p n id rest q X Y fit =
      cond_both ((held_place (Split f env) h held p).is Going) _ _ (λ o. HolderRises o (node id (Split f env) h held g second rest) rest) (λ _. tt)
      (λ _. cond_both ((held_place (Split f env) h held p).is Ending) _ _ (λ o. HolderRises o (node id (Split f env) h held g second rest) rest)
      (λ _. ((λ x e. or_right (rises (Split f env) x && (marked x h || risen x held)) _ e), refl)) (λ _. tt))
  holder_rises (SplitProject f env) h held g second p n id rest q X Y fit =
      cond_both ((held_place (SplitProject f env) h held p).is Going) _ _ (λ o. HolderRises o (node id (SplitProject f env) h held g second rest) rest) (λ _. tt)
      (λ _. cond_both ((held_place (SplitProject f env) h held p).is Ending) _ _ (λ o. HolderRises o (node id (SplitProject f env) h held g second rest) rest)
      (λ _. (
        (λ x e. elim (or_cases (marked x g || risen x second) (risen x rest) e) [
          | inl u ↦ absurd (both_ways (marked x g || risen x second) (or_false (marked x g) _ (dormant_head g second fit.1.0 x) (dormant_risen g second fit.1.0 x)) u)
          | inr u ↦ or_right (rises (SplitProject f env) x && (marked x h || risen x held)) _ u
        ]),
        refl,
      )) (λ _. tt))
  holder_rises (Opened f env) h held g second p n id rest q X Y fit =
      cond_both ((held_place (Opened f env) h held p).is Going) _ _ (λ o. HolderRises o (node id (Opened f env) h held g second rest) rest)
      (λ _. (
        (λ x e. elim (or_cases (rises (Running f env) x && (marked x (new_head n.region) || false)) _ e) [
          | inl u ↦ absurd (both_ways (marked x (new_head n.region)) (no_mark x n.region) (elim (or_cases (marked x (new_head n.region)) false (and_parts (rises (Running f env) x) _ u).1) [ inl v ↦ v | inr v ↦ absurd (false≢true v) ]))
          | inr u ↦ u
        ]),
        refl,
      ))
      (λ _. cond_both ((held_place (Opened f env) h held p).is Ending) _ _ (λ o. HolderRises o (node id (Opened f env) h held g second rest) rest) (λ _. tt) (λ _. tt))
  holder_rises k h held g second p n id rest q X Y fit = tt

  -- Said of picking the item t.
  module _ (t : ℕ) (n : Numbers) (r : Reduction) where
    abbrev z : Side
    z = side_of_mark r.mark

    abbrev y : Side
    y = other_side z

    -- the mark is on a region that isn't of the other side
    pub guarded : (es : Entries) (p : Place) → EntriesFit defs kinds variables es p → pick w facts t es p n ≡ reduces r → has_here t es ≡ true → r.mark ≡ Some z → p.is y ≡ true → ⊥
    guarded none p fit e i m f = absurd (cc)
    guarded (leaf id l rest) p fit e i m f = elim (cases_Bool (eqb id t)) [
      | inl c ↦ (let s = leaf_step w.defs w.inputs w.state facts l p n in
          let q : s ≡ reduces r = sym (cond-true (eqb id t) s (pick w facts t rest p n) c) ∙ e in
          (subst (λ (o : PickOutcome). IsPlain facts p n o) q (leaf_plain facts p n w.defs w.inputs w.state l)).mark z m f)
      | inr c ↦ guarded rest p fit.1 (sym (cond-false (eqb id t) (leaf_step w.defs w.inputs w.state facts l p n) (pick w facts t rest p n) c) ∙ e) (rw c at i) m f
    ]
    guarded (node id k h held g second rest) p fit e i m f = elim (cases_Bool (eqb id t)) [
      | inl c ↦ (let q = sym (pick_here w facts t id k h held g second rest p n c) ∙ e in
          let none = (subst (λ (o : PickOutcome). HolderRises o (node id k h held g second rest) rest) q (holder_rises k h held g second p n id rest _ _ _ fit.0)).1 in absurd (let x : None ≡ Some z = sym none ∙ m in cc))
      | inr c ↦ elim (cases_Bool (second_lives k && has t second)) [
        | inl l ↦ absurd (let x : false ≡ true = rw (c, l) at i in false≢true x)
        | inr l ↦ elim (cases_Bool (has t held)) [
          | inl d ↦ absurd (let x : false ≡ true = rw (c, l, d) at i in false≢true x)
          | inr d ↦ guarded rest p fit.2 (sym (pick_later w facts t id k h held g second rest p n c l d) ∙ e) (rw (c, l, d) at i) m f
        ]
      ]
    ]

    -- what rises after the step, in a region of that place
    pub record RisesAs (es : Entries) (p : Place) : Type 0 where
      pub other : risen y es ≡ true → p.is y ≡ true
      pub apart : risen z es ≡ true → p.is y ≡ true → ⊥

    same_rises : (es : Entries) (p : Place) → IsCalm p → ((x : Side) → risen x es ≡ true → p.is x ≡ true) → RisesAs es p
    same_rises es p calm up = record { other = up y; apart = λ e f. not_both z p calm (up z e) f }

    leaf_rises : (id : ℕ) (l : Leaf) (rest : Entries) (p : Place) → RisesAs rest p → RisesAs (leaf id l rest) p
    leaf_rises id l rest p h = record { other = h.other; apart = h.apart }

    module _ (id : ℕ) (k : Holder) (h : Head) (held : Entries) (g : Head) (second rest : Entries) (p : Place) (calm : IsCalm p) (cov : Covers p (node id k h held g second rest)) where
      abbrev First : (x : Side) → Type 0
      First x = (rises k x && (marked x h || risen x held)) ≡ true

      first_is : (x : Side) → First x → p.is x ≡ true
      first_is x u = let v = and_parts (rises k x) _ u in covers_first p id k h held g second rest cov x v.0 v.1

      second_is : (x : Side) → (second_lives k && (marked x g || risen x second)) ≡ true → p.is x ≡ true
      second_is x u = let v = and_parts (second_lives k) _ u in covers_second p id k h held g second rest cov x v.0 v.1

      from_second : (x : Side) → second_lives k ≡ true → (second_place g second p).is x ≡ true → p.is x ≡ true
      from_second x live e = elim (or_cases (p.is x) _ e) [ inl u ↦ u | inr u ↦ covers_second p id k h held g second rest cov x live u ]

      from_held : (x : Side) → rises k x ≡ true → (held_place k h held p).is x ≡ true → p.is x ≡ true
      from_held x up e = elim (or_cases (sinks k x && p.is x) _ e) [
        | inl u ↦ (and_parts (sinks k x) (p.is x) u).1
        | inr u ↦ elim (or_cases (forced k x) _ u) [ inl v ↦ absurd (forced_rises k x v up) | inr v ↦ covers_first p id k h held g second rest cov x up v ]
      ]

      rises_second : (g' : Head) (second' : Entries) → second_lives k ≡ true → (marked y g' ≡ true → marked y g ≡ true)
          → (marked z g' ≡ true → (second_place g second p).is y ≡ true → ⊥) → RisesAs second' (second_place g second p) → RisesAs (node id k h held g' second' rest) p
      rises_second g' second' live mo ma ih = record {
        other = λ e. elim (or_cases (rises k y && (marked y h || risen y held)) _ e) [
          | inl u ↦ first_is y u
          | inr u ↦ elim (or_cases (second_lives k && (marked y g' || risen y second')) _ u) [
            | inl v ↦ elim (or_cases (marked y g') _ (and_parts (second_lives k) _ v).1) [
              | inl m ↦ covers_second p id k h held g second rest cov y live (or_left (marked y g) _ (mo m))
              | inr i ↦ from_second y live (ih.other i)
            ]
            | inr v ↦ covers_rest p id k h held g second rest cov y v
          ]
        ];
        apart = λ e f. elim (or_cases (rises k z && (marked z h || risen z held)) _ e) [
          | inl u ↦ not_both z p calm (first_is z u) f
          | inr u ↦ elim (or_cases (second_lives k && (marked z g' || risen z second')) _ u) [
            | inl v ↦ elim (or_cases (marked z g') _ (and_parts (second_lives k) _ v).1) [
              | inl m ↦ ma m (or_left (p.is y) _ f)
              | inr i ↦ ih.apart i (or_left (p.is y) _ f)
            ]
            | inr v ↦ not_both z p calm (covers_rest p id k h held g second rest cov z v) f
          ]
        ];
      }

      rises_first : (h' : Head) (held' : Entries) → (marked y h' ≡ true → marked y h ≡ true)
          → (marked z h' ≡ true → (held_place k h held p).is y ≡ true → ⊥) → RisesAs held' (held_place k h held p) → RisesAs (node id k h' held' g second rest) p
      rises_first h' held' mo ma ih = record {
        other = λ e. elim (or_cases (rises k y && (marked y h' || risen y held')) _ e) [
          | inl u ↦ (let v = and_parts (rises k y) _ u in elim (or_cases (marked y h') _ v.1) [
            | inl m ↦ covers_first p id k h held g second rest cov y v.0 (or_left (marked y h) _ (mo m))
            | inr i ↦ from_held y v.0 (ih.other i)
          ])
          | inr u ↦ elim (or_cases (second_lives k && (marked y g || risen y second)) _ u) [ inl v ↦ second_is y v | inr v ↦ covers_rest p id k h held g second rest cov y v ]
        ];
        apart = λ e f. elim (or_cases (rises k z && (marked z h' || risen z held')) _ e) [
          | inl u ↦ (let v = and_parts (rises k z) _ u in
              let sunk : (held_place k h held p).is y ≡ true = or_left (sinks k y && p.is y) _ (and_from (sinks k y) (p.is y) (rises_sinks k z v.0) f) in
              elim (or_cases (marked z h') _ v.1) [ inl m ↦ ma m sunk | inr i ↦ ih.apart i sunk ])
          | inr u ↦ elim (or_cases (second_lives k && (marked z g || risen z second)) _ u) [ inl v ↦ not_both z p calm (second_is z v) f | inr v ↦ not_both z p calm (covers_rest p id k h held g second rest cov z v) f ]
        ];
      }

      rises_later : (rest' : Entries) → RisesAs rest' p → RisesAs (node id k h held g second rest') p
      rises_later rest' ih = record {
        other = λ e. elim (or_cases (rises k y && (marked y h || risen y held)) _ e) [
          | inl u ↦ first_is y u
          | inr u ↦ elim (or_cases (second_lives k && (marked y g || risen y second)) _ u) [ inl v ↦ second_is y v | inr v ↦ ih.other v ]
        ];
        apart = λ e f. elim (or_cases (rises k z && (marked z h || risen z held)) _ e) [
          | inl u ↦ not_both z p calm (first_is z u) f
          | inr u ↦ elim (or_cases (second_lives k && (marked z g || risen z second)) _ u) [ inl v ↦ not_both z p calm (second_is z v) f | inr v ↦ ih.apart v f ]
        ];
      }

    -- the mark on the region that holds the item
    pub marked_apart : (es : Entries) (q : Place) (h : Head) → EntriesFit defs kinds variables es q → pick w facts t es q n ≡ reduces r → (marked z h ≡ true → q.is z ≡ true)
        → marked z (mark_at t r.mark h es) ≡ true → q.is y ≡ true → ⊥
    marked_apart es q h fit e up m f = elim (mark_at_new t r.mark h es m) [
      | inl u ↦ not_both z q (entries_calm defs kinds variables es q fit) (up u) f
      | inr u ↦ guarded es q fit e u.0 u.1 f
    ]

    pub put_rises : (es : Entries) (p : Place) → EntriesFit defs kinds variables es p → Covers p es → pick w facts t es p n ≡ reduces r → RisesAs (put t r.mark r.news es) p
    put_rises none p fit cov e = absurd (cc)
    put_rises (leaf id l rest) p fit cov e = elim (cases_Bool (eqb id t)) [
      | inl c ↦ (let s = leaf_step w.defs w.inputs w.state facts l p n in
          let q : s ≡ reduces r = sym (cond-true (eqb id t) s (pick w facts t rest p n) c) ∙ e in
          let plain = subst (λ (o : PickOutcome). IsPlain facts p n o) q (leaf_plain facts p n w.defs w.inputs w.state l) in
          rw c (same_rises (append r.news rest) p (entries_calm defs kinds variables rest p fit.1) (λ x i. cov x (plain_rise p n r plain rest x i))))
      | inr c ↦ rw c (leaf_rises id l (put t r.mark r.news rest) p (put_rises rest p fit.1 cov (sym (cond-false (eqb id t) (leaf_step w.defs w.inputs w.state facts l p n) (pick w facts t rest p n) c) ∙ e)))
    ]
    put_rises (node id k h held g second rest) p fit cov e =
        let calm = entries_calm defs kinds variables rest p fit.2 in
        elim (cases_Bool (eqb id t)) [
          | inl c ↦ (let q = sym (pick_here w facts t id k h held g second rest p n c) ∙ e in
              let up = (subst (λ (o : PickOutcome). HolderRises o (node id k h held g second rest) rest) q (holder_rises k h held g second p n id rest _ _ _ fit.0)).0 in
              rw c (same_rises (append r.news rest) p calm (λ x i. cov x (up x i))))
          | inr c ↦ elim (cases_Bool (second_lives k && has t second)) [
            | inl l ↦ (let live = (and_parts (second_lives k) (has t second) l).0 in
                let q = sym (pick_second w facts t id k h held g second rest p n c l) ∙ e in
                let inside = live_fits defs kinds variables k held _ _ _ live fit.0 in
                rw (c, l) (rises_second id k h held g second rest p calm cov (mark_at t r.mark g second) (put t r.mark r.news second) live (mark_at_other t r.mark g second)
                (marked_apart second (second_place g second p) g inside q (λ m. second_covered g second p z (or_left (marked z g) _ m)))
                (put_rises second (second_place g second p) inside (λ x i. second_covered g second p x (or_right (marked x g) _ i)) q)))
            | inr l ↦ elim (cases_Bool (has t held)) [
              | inl d ↦ (let q = sym (pick_first w facts t id k h held g second rest p n c l d) ∙ e in
                  rw (c, l, d) (rises_first id k h held g second rest p calm cov (mark_at t r.mark h held) (put t r.mark r.news held) (mark_at_other t r.mark h held)
                  (marked_apart held (held_place k h held p) h fit.1 q (λ m. held_covered k h held p z (or_left (marked z h) _ m)))
                  (put_rises held (held_place k h held p) fit.1 (λ x i. held_covered k h held p x (or_right (marked x h) _ i)) q)))
              | inr d ↦ rw (c, l, d) (rises_later id k h held g second rest p calm cov (put t r.mark r.news rest)
                  (put_rises rest p fit.2 (covers_rest p id k h held g second rest cov) (sym (pick_later w facts t id k h held g second rest p n c l d) ∙ e)))
            ]
          ]
        ]
