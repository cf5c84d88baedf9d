-- At rest the item that settling names is the first that waits.
use Rattle.std.proofs.Common.{◌≡◌, ℕ, zero, suc, ◌<◌, ◌≤◌, Bool, true, false, ◌&&◌, not, eqb, List, [], ◌∷◌, ◌++◌, length, slice_index_or, Contains, Option, refl, ap, sym, ◌∙◌, subst, arith, inl, inr}
use Rattle.std.proofs.lemmas.Bool.{cond_both, cases_Bool, cond-true, cond-false, and_parts, eqb-true, false≢true}
use Rattle.tp_value.specs.declared.path.Fact.{Fact}
use Rattle.tp_scene.specs.declared.answer.Cell.{Cell}
use Rattle.tp_scene.specs.Scene.{Ending, Going, Leaf, Do, Later, Shown, Holder, Split, SplitProject, Closed, Opened, Running, Entries, none, leaf, node, Region, second_lives, only_if, has, Place, root_place, held_place, second_place}
use Rattle.tp_scene.specs.LiveItems.{live_items}
use Rattle.tp_scene.specs.Step.{Reduction, PickOutcome, reduces, waits, rests, by_status, Numbers, leaf_step, holder_step}
use Rattle.tp_scene.specs.Pick.{Setting, Moment, pick, numbers_of}
use Rattle.tp_scene.specs.Rest.{AtRest, is_unsettled, holds_back, unsettled_items, Settled, waiting, end_open, ends, goes, settled, settled_by}
use Rattle.tp_scene.specs.CellLaws.{ItemWaits}
use Rattle.tp_scene.specs.Laws.{IsSound}
use Rattle.tp_scene.specs.Fits.{item_numbers}
use Rattle.tp_scene.proofs.Frame.{region}
use Rattle.tp_scene.proofs.Risen.{pick_here, pick_second, pick_first, pick_later}
use Rattle.tp_scene.proofs.Count.{count, count_none, count_first, count_append, one_there, numbers_once}
use Rattle.tp_scene.proofs.PutNumbers.{items, items_leaf, items_node}
use Rattle.tp_scene.proofs.NamedItem.{named_item_waits}
use Rattle.tp_step.specs.Waiting.{WaitsFirst, FirstWaitingIsNamed, NoneNamedNoneWaits}

-- the first list is the second one without some of its elements
pub data Within : List ℕ → List ℕ → Type 0 where
  no_more : Within [] []
  takes : {xs ys : List ℕ} (x : ℕ) → Within xs ys → Within (x ∷ xs) (x ∷ ys)
  leaves_out : {xs ys : List ℕ} (y : ℕ) → Within xs ys → Within xs (y ∷ ys)

nothing_within : (ys : List ℕ) → Within [] ys
nothing_within [] = no_more
nothing_within (y ∷ ys) = leaves_out y (nothing_within ys)

all_within : (xs : List ℕ) → Within xs xs
all_within [] = no_more
all_within (x ∷ xs) = takes x (all_within xs)

both_within : {xs ys us vs : List ℕ} → Within xs ys → Within us vs → Within (xs ++ us) (ys ++ vs)
both_within no_more k = k
both_within (takes x h) k = takes x (both_within h k)
both_within (leaves_out y h) k = leaves_out y (both_within h k)

if_within : (b : Bool) {xs ys : List ℕ} → Within xs ys → Within (only_if b xs) ys
if_within true h = h
if_within false {ys = ys} h = nothing_within ys

both_if_within : (b : Bool) {xs ys : List ℕ} → Within xs ys → Within (only_if b xs) (only_if b ys)
both_if_within true h = h
both_if_within false h = no_more

-- it stands there as often at the most
fewer_within : (t : ℕ) {xs ys : List ℕ} → Within xs ys → count t xs ≤ count t ys
fewer_within t no_more = omega arith
fewer_within t (takes {xs = xs} {ys = ys} x h) = let i = fewer_within t h in let a = count_first t x xs in let b = count_first t x ys in omega (arith, i, a, b)
fewer_within t (leaves_out {ys = ys} y h) = let i = fewer_within t h in let b = count_first t y ys in omega (arith, i, b)

-- where the first element stands, and those after it
pub record FirstWithin (t : ℕ) (us ys : List ℕ) : Type 0 where
  pub before : List ℕ
  pub after : List ℕ
  pub split : ys ≡ before ++ t ∷ after
  pub rest : Within us after

first_within : (t : ℕ) {us ys : List ℕ} → Within (t ∷ us) ys → FirstWithin t us ys
first_within t (takes {ys = ys} x h) = record { before = []; after = ys; split = refl; rest = h }
first_within t (leaves_out y h) = let i = first_within t h in record { before = y ∷ i.before; after = i.after; split = ap (λ l. y ∷ l) i.split; rest = i.rest }

contains_counted : (xs : List ℕ) (t k : ℕ) → k < length xs → slice_index_or xs k t ≡ t → 1 ≤ count t xs
contains_counted [] t k l e = absurd (omega (arith, l))
contains_counted (x ∷ xs) t zero l e = let f = count_first t x xs in let o = one_there t x (sym e) in omega (arith, f, o)
contains_counted (x ∷ xs) t (suc k) l e = let f = count_first t x xs in let i = contains_counted xs t k (omega (arith, l)) e in omega (arith, f, i)

-- unsettled items are live
unsettled_within : (es : Entries) (p : Place) → Within (unsettled_items es p) (live_items es)
unsettled_within none p = no_more
unsettled_within (leaf id l rest) p = both_within (if_within (is_unsettled l) (all_within (id ∷ []))) (unsettled_within rest p)
unsettled_within (node id k h held g second rest) p =
    both_within (both_within (both_if_within (second_lives k) (unsettled_within second (second_place g second p))) (unsettled_within held (held_place k h held p)))
    (both_within (if_within (holds_back k (held_place k h held p)) (all_within (id ∷ []))) (unsettled_within rest p))

-- an item lives once at the most where it stands once at the most
live_most : (t : ℕ) (es : Entries) → count t (live_items es) ≤ items t es
live_most t none = let c = count_none t in omega (arith, c)
live_most t (leaf id l rest) = let c = count_first t id (live_items rest) in let n = items_leaf t id l rest in let i = live_most t rest in omega (arith, c, n, i)
live_most t (node id k h held g second rest) =
    let seconds = only_if (second_lives k) (live_items second) in
    let c = count_append t (seconds ++ live_items held) (id ∷ live_items rest) in
    let c1 = count_append t seconds (live_items held) in
    let c2 = count_first t id (live_items rest) in
    let n = items_node t id k h held g second rest in
    let a = fewer_within t (if_within (second_lives k) (all_within (live_items second))) in
    let i = live_most t second in
    let j = live_most t held in
    let r = live_most t rest in
    omega (arith, c, c1, c2, n, a, i, j, r)

-- What waits isn't done with the state.
module _ (w : Setting) (facts : List Fact) (t : ℕ) (n : Numbers) (first : Cell) (other : Option Cell) where
  abbrev IsUnsettledIf : Bool → PickOutcome → Type 0
  IsUnsettledIf b o = o ≡ waits first other → b ≡ true

  if_rests : (b : Bool) → IsUnsettledIf b rests
  if_rests b e = let q : rests ≡ waits first other = e in absurd (cc)

  if_reduces : (b : Bool) (r : Reduction) → IsUnsettledIf b (reduces r)
  if_reduces b r e = let q : reduces r ≡ waits first other = e in absurd (cc)

  if_by_status : (b : Bool) (p : Place) (o u : PickOutcome) → (p.is Going ≡ true → IsUnsettledIf b o) → (p.is Ending ≡ true → IsUnsettledIf b u)
      → (p.is Going ≡ false → p.is Ending ≡ false → b ≡ true) → IsUnsettledIf b (by_status p o u)
  if_by_status b p o u going ending neither = cond_both (p.is Going) _ _ (IsUnsettledIf b) going (λ g. cond_both (p.is Ending) _ _ (IsUnsettledIf b) ending (λ e q. neither g e))

  leaf_unsettled : (l : Leaf) (p : Place) → IsUnsettledIf (is_unsettled l) (leaf_step w.defs w.inputs w.state facts l p n)
  leaf_unsettled (Do f env) p e = refl
  leaf_unsettled (Later f env) p e = if_rests false e
  leaf_unsettled (Shown vs) p e = if_rests false e

  holder_unsettled : (k : Holder) (held second : Region) (q : Place) → IsUnsettledIf (holds_back k q) (holder_step w.defs w.inputs w.state facts k held second q n)
  holder_unsettled (Split f env) held second q = if_by_status (not (q.is Going)) q _ _ (λ g. if_rests (not (q.is Going))) (λ e. if_reduces (not (q.is Going)) _) (λ g e. rw g refl)
  holder_unsettled (SplitProject f env) held second q = if_by_status (not (q.is Going)) q _ _ (λ g. if_rests (not (q.is Going))) (λ e. if_reduces (not (q.is Going)) _) (λ g e. rw g refl)
  holder_unsettled Closed held second q = if_rests false
  holder_unsettled (Opened f env) held second q = if_by_status (not (q.is Ending)) q _ _ (λ g. if_reduces (not (q.is Ending)) _) (λ e. if_rests (not (q.is Ending))) (λ g e. rw e refl)
  holder_unsettled (Running f env) held second q = if_rests false

  counted_if : (id : ℕ) (b : Bool) → eqb id t ≡ true → b ≡ true → 1 ≤ count t (only_if b (id ∷ []))
  counted_if id b u e =
      let o = one_there t id (sym (eqb-true id t u)) in
      let f = count_first t id [] in
      let same : count t (only_if b (id ∷ [])) ≡ count t (id ∷ []) = ap (λ x. count t (only_if x (id ∷ []))) e in
      omega (arith, o, f, same)

  -- so it is one of the unsettled items
  waiting_unsettled : (es : Entries) (p : Place) → pick w facts t es p n ≡ waits first other → 1 ≤ count t (unsettled_items es p)
  waiting_unsettled none p e = absurd (false≢true (if_rests false e))
  waiting_unsettled (leaf id l rest) p e =
      let c = count_append t (only_if (is_unsettled l) (id ∷ [])) (unsettled_items rest p) in
      elim (cases_Bool (eqb id t)) [
        | inl u ↦ (let b = leaf_unsettled l p (sym (cond-true (eqb id t) (leaf_step w.defs w.inputs w.state facts l p n) (pick w facts t rest p n) u) ∙ e) in
            let o = counted_if id (is_unsettled l) u b in omega (arith, c, o))
        | inr u ↦ (let i = waiting_unsettled rest p (sym (cond-false (eqb id t) (leaf_step w.defs w.inputs w.state facts l p n) (pick w facts t rest p n) u) ∙ e) in omega (arith, c, i))
      ]
  waiting_unsettled (node id k h held g second rest) p e =
      let q = held_place k h held p in
      let r = second_place g second p in
      let seconds = only_if (second_lives k) (unsettled_items second r) in
      let own = only_if (holds_back k q) (id ∷ []) in
      let c = count_append t (seconds ++ unsettled_items held q) (own ++ unsettled_items rest p) in
      let c1 = count_append t seconds (unsettled_items held q) in
      let c2 = count_append t own (unsettled_items rest p) in
      elim (cases_Bool (eqb id t)) [
        | inl u ↦ (let b = holder_unsettled k (region h held) (region g second) q (sym (pick_here w facts t id k h held g second rest p n u) ∙ e) in
            let o = counted_if id (holds_back k q) u b in omega (arith, c, c2, o))
        | inr other_one ↦ elim (cases_Bool (second_lives k && has t second)) [
          | inl u ↦ (let live = (and_parts (second_lives k) (has t second) u).0 in
              let i = waiting_unsettled second r (sym (pick_second w facts t id k h held g second rest p n other_one u) ∙ e) in
              let same : count t seconds ≡ count t (unsettled_items second r) = ap (λ b. count t (only_if b (unsettled_items second r))) live in
              omega (arith, c, c1, i, same))
          | inr two ↦ elim (cases_Bool (has t held)) [
            | inl u ↦ (let i = waiting_unsettled held q (sym (pick_first w facts t id k h held g second rest p n other_one two u) ∙ e) in omega (arith, c, c1, i))
            | inr one ↦ (let i = waiting_unsettled rest p (sym (pick_later w facts t id k h held g second rest p n other_one two one) ∙ e) in omega (arith, c, c2, i))
          ]
        ]
      ]

waits_counted : (w : Setting) (m : Moment) (t : ℕ) → ItemWaits w m t → 1 ≤ count t (unsettled_items m.scene.root.entries (root_place m.scene.root))
waits_counted w m t x = waiting_unsettled w m.store.facts t (numbers_of m.scene m.store.variables) x.first x.other m.scene.root.entries (root_place m.scene.root) x.outcome

-- the item that settling names is the first that it finds
not_named : (p : Place) (t : ℕ) → settled_by [] p ≡ waiting t → ⊥
not_named p t =
    cond_both (p.is Ending) _ _ (λ (s : Settled). s ≡ waiting t → ⊥) (λ _ e. let q : ends ≡ waiting t = e in cc)
    (λ _. cond_both (p.is Going) _ _ (λ (s : Settled). s ≡ waiting t → ⊥) (λ _ e. let q : goes ≡ waiting t = e in cc) (λ _ e. let q : end_open ≡ waiting t = e in cc))

first_named : (ts : List ℕ) (p : Place) (t : ℕ) → settled_by ts p ≡ waiting t → (us : List ℕ) × (ts ≡ t ∷ us)
first_named [] p t e = absurd (not_named p t e)
first_named (x ∷ xs) p t e = let q : x ≡ t = cc in (xs, ap (λ n. n ∷ xs) q)

named_first : (w : Setting) (kinds : List Bool) (m : Moment) (t : ℕ) → IsSound w kinds m → AtRest w m → settled m.scene ≡ waiting t → WaitsFirst w m t
named_first w kinds m t sound rest e =
    let p = root_place m.scene.root in
    let es = m.scene.root.entries in
    let x = first_named (unsettled_items es p) p t e in
    let s = first_within t (subst (λ l. Within l (live_items es)) x.1 (unsettled_within es p)) in
    record {
      waits = named_item_waits w kinds m t sound rest e;
      before = s.before;
      after = s.after;
      walk = s.split;
      none_before = λ u c v.
          let counted = waits_counted w m u v in
          let is = ap (count u) x.1 in
          let named = count_first u t x.0 in
          let fewer = fewer_within u s.rest in
          let earlier = contains_counted s.before u c.0 c.1 c.2 in
          let walked = ap (count u) s.split in
          let parts = count_append u s.before (t ∷ s.after) in
          let later = count_first u t s.after in
          let live = live_most u es in
          let once = (numbers_once m.scene.next_item (item_numbers es) sound.moment.items).once u in
          omega (arith, counted, is, named, fewer, earlier, walked, parts, later, live, once);
    }

-- settling names one of the items that it finds
names_one : (ts : List ℕ) (p : Place) (t : ℕ) → 1 ≤ count t ts → (x : ℕ) × (settled_by ts p ≡ waiting x)
names_one [] p t l = absurd (let c = count_none t in omega (arith, c, l))
names_one (x ∷ xs) p t l = (x, refl)

-- where a list has two elements with neither before the other, they are one
one_place : (bs cs us vs : List ℕ) (t x : ℕ) → bs ++ t ∷ us ≡ cs ++ x ∷ vs → (Contains bs x → ⊥) → (Contains cs t → ⊥) → t ≡ x
one_place [] [] us vs t x e h k = cc
one_place [] (c ∷ cs) us vs t x e h k = let q : c ≡ t = cc in absurd (k (0, omega arith, q))
one_place (b ∷ bs) [] us vs t x e h k = let q : b ≡ x = cc in absurd (h (0, omega arith, q))
one_place (b ∷ bs) (c ∷ cs) us vs t x e h k =
    let q : bs ++ t ∷ us ≡ cs ++ x ∷ vs = cc in
    one_place bs cs us vs t x q (λ y. h (suc y.0, omega (arith, y.1), y.2)) (λ y. k (suc y.0, omega (arith, y.1), y.2))

first_named_is : (w : Setting) (kinds : List Bool) (m : Moment) (t : ℕ) → IsSound w kinds m → AtRest w m → WaitsFirst w m t → settled m.scene ≡ waiting t
first_named_is w kinds m t sound rest x =
    let y = names_one (unsettled_items m.scene.root.entries (root_place m.scene.root)) (root_place m.scene.root) t (waits_counted w m t x.waits) in
    let z = named_first w kinds m y.0 sound rest y.1 in
    let q = one_place x.before z.before x.after z.after t y.0 (sym x.walk ∙ z.walk) (λ c. x.none_before y.0 c z.waits) (λ c. z.none_before t c x.waits) in
    y.1 ∙ ap waiting (sym q)

pub first_waiting_is_named : FirstWaitingIsNamed
first_waiting_is_named w kinds m t sound rest = (named_first w kinds m t sound rest, first_named_is w kinds m t sound rest)

pub none_named_none_waits : NoneNamedNoneWaits
none_named_none_waits w kinds m sound rest never t x =
    let y = names_one (unsettled_items m.scene.root.entries (root_place m.scene.root)) (root_place m.scene.root) t (waits_counted w m t x) in
    never y.0 y.1
