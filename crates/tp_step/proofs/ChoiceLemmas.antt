-- What was chosen for an item stands for its outcome.
use Rattle.std.proofs.Common.{◌≡◌, ℕ, ◌&&◌, Bool, true, false, eqb, List, refl, ap, sym, ◌∙◌, subst, inl, inr, Option, Some, None}
use Rattle.std.specs.Prelude.{slice_index_or}
use Rattle.std.proofs.lemmas.Bool.{cases_Bool, eqb-true, both_ways}
use Rattle.tp_value.specs.declared.path.Fact.{Fact}
use Rattle.tp_meaning.specs.Syntax.{Definition, FormulaTree}
use Rattle.tp_store.specs.Known.{Contents, Variable}
use Rattle.tp_scene.specs.Scene as S
use Rattle.tp_scene.specs.Scene.{Bindings, Leaf, Holder, Entries, none, leaf, node, Region, has, second_lives, Place, root_place, held_place, second_place}
use Rattle.tp_scene.specs.Step.{Reduction, PickOutcome, Numbers, reduces, rests, leaf_step, holder_step}
use Rattle.tp_scene.specs.Pick.{Setting, outcome_of, numbers_of}
use Rattle.tp_scene.specs.Fits.{LeafFits, EntriesFit}
use Rattle.tp_scene.specs.Laws.{IsSound}
use Rattle.tp_decide.specs.declared.holder.HolderKind.{HolderKind}
use Rattle.tp_decide.specs.declared.holder.HolderDecision.{HolderDecision}
use Rattle.tp_decide.specs.declared.holder.HolderDecision.TheVariants.{Closes, Begins}
use Rattle.tp_decide.specs.Fits.{FitsStore}
use Rattle.tp_decide.specs.Holders.{IsOfKind, kind_of, holder_decided}
use Rattle.tp_slots.specs.declared.scene.Scene.{Scene}
use Rattle.tp_slots.specs.declared.scene.Slot.{Slot}
use Rattle.tp_slots.specs.Kept.{IsWellKept, Lives}
use Rattle.tp_slots.specs.Laws.{IsShallow}
use Rattle.tp_slots.specs.Picked.{item_place, what_step, held_step, IsHolding}
use Rattle.tp_slots.specs.Plain as plain
use Rattle.tp_slots.specs.Plain.{What, bare, holds, gone, Slots, slot_at, head_at, other_head, second_of, entries_at, IsLive, WhatFits}
use Rattle.tp_slots.specs.Read.{item_what, scene_of, slot_of, slots_of, what_of}
use Rattle.tp_slots.specs.Reductions.{CanMove, IsBare}
use Rattle.tp_slots.specs.Shown.{AreShown}
use Rattle.tp_slots.proofs.Changing.{lives_within}
use Rattle.tp_slots.proofs.Picking.{pick_shown}
use Rattle.tp_slots.proofs.Seeing.{slot_read}
use Rattle.tp_slots.proofs.PutEdits.{both_so}
use Rattle.tp_slots.proofs.Shallow.{second_fits, stands_shallow, holds_shallow}
use Rattle.tp_slots.proofs.Showing.{all_shown, has_shown}
use Rattle.tp_step.specs.Answers.{moment_of}
use Rattle.tp_step.specs.Chosen.{kind_in, IsDueIn, held_decided, FitsHolder, GivesItemsAlone}

-- what stands in a live item's slot
pub what_read : (s : Scene) (t : ℕ) (x : Slot) → IsWellKept s → Lives s t → x ≡ slice_index_or s.slots.items t x → item_what s t ≡ what_of x.what
what_read s t x kept lives e = sym (ap (λ (y : plain.Slot). y.what) (ap slot_of e ∙ slot_read s t x (lives_within s t kept.shape.ordered lives)))

-- A live item without a region fits where it stands.
module _ (defs : List Definition) (kinds : List Bool) (variables : List Variable) (s : Slots) (t : ℕ) where
  leaf_there : (r : ℕ) (es : Entries) (p : Place) → AreShown s r es → EntriesFit defs kinds variables es p → has t es ≡ true → (l : Leaf) → (slot_at s t).what ≡ bare l → LeafFits defs kinds variables l (item_place t p es)
  leaf_there r none p a f h l is = absurd (both_ways false refl h)
  leaf_there r (leaf id x rest) p a f h l is = elim (cases_Bool (eqb id t)) [
    | inl e ↦ (let at : slot_at s t ≡ record { home = r; what = bare x } = subst (λ n. slot_at s n ≡ record { home = r; what = bare x }) (eqb-true id t e) a.1 in
        rw e (subst (λ y. LeafFits defs kinds variables y p) (same x l (sym (ap (λ (y : plain.Slot). y.what) at) ∙ is)) f.0))
    | inr e ↦ rw e (leaf_there r rest p a.2 f.1 (rw e at h) l is)
  ]
    where
      same : (x l : Leaf) → bare x ≡ bare l → x ≡ l
      same x l h = cc
  leaf_there r (node id k h held g second rest) p a f y l is = elim (cases_Bool (eqb id t)) [
    | inl e ↦ absurd (other (sym (ap (λ (x : plain.Slot). x.what) (subst (λ n. slot_at s n ≡ record { home = r; what = holds k h.number a.1 }) (eqb-true id t e) a.2)) ∙ is))
    | inr e ↦ elim (cases_Bool (second_lives k && has t second)) [
      | inl b ↦ (let c = both_so (second_lives k) (has t second) b in rw (e, b) (leaf_there g.number second (second_place g second p) a.8 (second_fits defs kinds variables k h held g second id rest p f c.0) c.1 l is))
      | inr b ↦ elim (cases_Bool (has t held)) [
        | inl d ↦ rw (e, b, d) (leaf_there h.number held (held_place k h held p) a.7 f.1 d l is)
        | inr d ↦ rw (e, b, d) (leaf_there r rest p a.9 f.2 (rw (e, b, d) at y) l is)
      ]
    ]
  ]
    where
      other : {k : Holder} {r : ℕ} {q : Option ℕ} {l : Leaf} → holds k r q ≡ bare l → ⊥
      other h = cc

module _ (w : Setting) (kinds : List Bool) (k : Contents) (s : Scene) (t : ℕ) (sound : IsSound w kinds (moment_of s k)) (kept : IsWellKept s) (lives : Lives s t) where
  fits_there : (l : Leaf) → item_what s t ≡ bare l → (p : Place) × LeafFits w.defs kinds k.variables l p
  fits_there l is =
      let o = kept.shape.ordered in
      (_, leaf_there w.defs kinds k.variables (slots_of s) t 0 (entries_at (slots_of s) 0) (root_place (scene_of s).root) (all_shown (slots_of s) o 0 o.root) sound.moment.entries lives l is)

  pub phrase_fits : (f : FormulaTree) (env : Bindings) → item_what s t ≡ bare (S.Do f env) → FitsStore w.defs k.variables f env
  phrase_fits f env is = record { kinds = kinds; bound = (fits_there (S.Do f env) is).1; globals = sound.store.globals }

  pub shallow_there : IsShallow s t
  shallow_there =
      let h = kept.shape in record {
        stands = stands_shallow w.defs kinds k.variables (slots_of s) _ h.ordered h.held t sound.moment.entries lives;
        inside = holds_shallow w.defs kinds k.variables (slots_of s) _ h.ordered h.held t sound.moment.entries lives (item_what s t) refl;
      }

  -- what rests, rests
  pub rests_there : (l : Leaf) → item_what s t ≡ bare l → ((p : Place) → leaf_step w.defs w.inputs w.state k.facts l p (numbers_of (scene_of s) k.variables) ≡ rests) → outcome_of w k (scene_of s) t ≡ rests
  rests_there l is h =
      let o = kept.shape.ordered in
      let p = root_place (scene_of s).root in
      let es = entries_at (slots_of s) 0 in
      let n = numbers_of (scene_of s) k.variables in
      pick_shown w k.facts (slots_of s) n t 0 es p (all_shown (slots_of s) o 0 o.root) lives ∙ ap (λ x. what_step w k.facts (slots_of s) x (item_place t p es) n) is ∙ h (item_place t p es)

-- what holds no region, and what isn't gone
pub is_no_holder : (x : What) → kind_in x ≡ None → (k : Holder) (r : ℕ) (q : Option ℕ) → x ≡ holds k r q → ⊥
is_no_holder x h k r q e = let never : Some (kind_of k) ≡ None = sym (ap kind_in e) ∙ h in absurd (cc)

pub is_not_gone : (s : Scene) (t : ℕ) → IsWellKept s → Lives s t → (by : List ℕ) → item_what s t ≡ gone by → ⊥
is_not_gone s t kept lives by e =
    let o = kept.shape.ordered in
    let live = (has_shown (slots_of s) o t 0 (entries_at (slots_of s) 0) (all_shown (slots_of s) o 0 o.root) lives).2 in
    let never : IsLive (gone by) = subst IsLive e live in
    never

-- An item without a region rests where nothing is due.
pub rests_undue : (w : Setting) (kinds : List Bool) (k : Contents) (s : Scene) (t : ℕ) → IsSound w kinds (moment_of s k) → IsWellKept s → Lives s t → (x : What) → item_what s t ≡ x → kind_in (item_what s t) ≡ None → IsDueIn x None → IsBare (item_what s t) × (outcome_of w k (scene_of s) t ≡ rests)
rests_undue w kinds k s t sound kept lives (bare (S.Do f env)) is apart never = absurd (never f env refl)
rests_undue w kinds k s t sound kept lives (bare (S.Later f env)) is apart never = (subst IsBare (sym is) tt, rests_there w kinds k s t sound kept lives (S.Later f env) is (λ p. refl))
rests_undue w kinds k s t sound kept lives (bare (S.Shown vs)) is apart never = (subst IsBare (sym is) tt, rests_there w kinds k s t sound kept lives (S.Shown vs) is (λ p. refl))
rests_undue w kinds k s t sound kept lives (holds j r q) is apart never = absurd (is_no_holder (item_what s t) apart j r q is)
rests_undue w kinds k s t sound kept lives (gone by) is apart never = absurd (is_not_gone s t kept lives by is)

-- an item with a region
pub holds_one : (x : What) (kind : HolderKind) → kind_in x ≡ Some kind → IsHolding x
holds_one (bare l) kind h = absurd (none_some h)
  where
    none_some : None ≡ Some kind → ⊥
    none_some h = cc
holds_one (holds k r q) kind h = tt
holds_one (gone by) kind h = absurd (none_some h)
  where
    none_some : None ≡ Some kind → ⊥
    none_some h = cc

pub decision_fits : (x : What) (kind : HolderKind) (d : HolderDecision) → kind_in x ≡ Some kind → IsOfKind kind d → FitsHolder x d
decision_fits (bare l) kind d h f = absurd (holds_one (bare l) kind h)
decision_fits (holds k r q) kind d h f = let e : kind ≡ kind_of k = cc in subst (λ x. IsOfKind x d) e f
decision_fits (gone by) kind d h f = absurd (holds_one (gone by) kind h)

pub holder_is : (w : Setting) (facts : List Fact) (s : Slots) (x : What) (kind : HolderKind) (d : HolderDecision) (p : Place) (n : Numbers) → kind_in x ≡ Some kind
    → ((k : Holder) (held second : Region) → kind_of k ≡ kind → holder_decided k held second n d ≡ holder_step w.defs w.inputs w.state facts k held second p n)
    → held_step w facts s x p n ≡ held_decided s x n d
holder_is w facts s (bare l) kind d p n h f = absurd (holds_one (bare l) kind h)
holder_is w facts s (holds k r q) kind d p n h f =
    let e : kind_of k ≡ kind = cc in
    sym (f k (record { head = head_at s r; entries = entries_at s r }) (record { head = other_head s q; entries = second_of (entries_at s) q }) e)
holder_is w facts s (gone by) kind d p n h f = absurd (holds_one (gone by) kind h)

-- It is reduced to items and regions.
abbrev Gives : PickOutcome → Type 0
Gives o = (r : Reduction) × (o ≡ reduces r) × GivesItemsAlone r

pub closing_gives : (s : Slots) (x : What) (n : Numbers) → FitsHolder x Closes → Gives (held_decided s x n Closes)
closing_gives s (bare l) n f = absurd f
closing_gives s (holds (S.Split g env) r q) n f = (_, refl, record { local = refl; mark = refl; facts = refl })
closing_gives s (holds (S.SplitProject g env) r q) n f = (_, refl, record { local = refl; mark = refl; facts = refl })
closing_gives s _ n f = absurd f

pub beginning_gives : (s : Slots) (x : What) (n : Numbers) → FitsHolder x Begins → Gives (held_decided s x n Begins)
beginning_gives s (bare l) n f = absurd f
beginning_gives s (holds (S.Split g env) r q) n f = absurd f
beginning_gives s (holds (S.SplitProject g env) r q) n f = absurd f
beginning_gives s (holds S.Closed r q) n f = absurd f
beginning_gives s (holds (S.Opened g env) r q) n f = (_, refl, record { local = refl; mark = refl; facts = refl })
beginning_gives s (holds (S.Running g env) r q) n f = absurd f
beginning_gives s (gone by) n f = absurd f

-- and it can be
shape_moves : (s : Slots) (home t : ℕ) (x : What) → WhatFits s home t x → FitsHolder x Closes → CanMove x
shape_moves s home t (bare l) w f = absurd f
shape_moves s home t (holds (S.Split g env) r None) w f = tt
shape_moves s home t (holds (S.Split g env) r (Some q)) w f = absurd (both_ways false refl w.1.0)
shape_moves s home t (holds (S.SplitProject g env) r None) w f = absurd (both_ways true w.1 refl)
shape_moves s home t (holds (S.SplitProject g env) r (Some q)) w f = tt
shape_moves s home t _ w f = absurd f

shape_begins : (s : Slots) (home t : ℕ) (x : What) → WhatFits s home t x → FitsHolder x Begins → CanMove x
shape_begins s home t (bare l) w f = absurd f
shape_begins s home t (holds (S.Split g env) r q) w f = absurd f
shape_begins s home t (holds (S.SplitProject g env) r q) w f = absurd f
shape_begins s home t (holds S.Closed r q) w f = absurd f
shape_begins s home t (holds (S.Opened g env) r None) w f = tt
shape_begins s home t (holds (S.Opened g env) r (Some q)) w f = absurd (both_ways false refl w.1.0)
shape_begins s home t (holds (S.Running g env) r q) w f = absurd f
shape_begins s home t (gone by) w f = absurd f

module _ (s : Scene) (t : ℕ) (kept : IsWellKept s) (lives : Lives s t) where
  what_there : WhatFits (slots_of s) (slot_at (slots_of s) t).home t (item_what s t)
  what_there =
      let o = kept.shape.ordered in
      (o.items t (has_shown (slots_of s) o t 0 (entries_at (slots_of s) 0) (all_shown (slots_of s) o 0 o.root) lives).0).1

  pub can_close : FitsHolder (item_what s t) Closes → CanMove (item_what s t)
  can_close f = shape_moves (slots_of s) _ t (item_what s t) what_there f

  pub can_begin : FitsHolder (item_what s t) Begins → CanMove (item_what s t)
  can_begin f = shape_begins (slots_of s) _ t (item_what s t) what_there f
