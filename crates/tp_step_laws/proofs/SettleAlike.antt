-- Moments that are alike are settled alike.
use Rattle.std.proofs.Common.{◌≡◌, inl, inr, ℕ, nat_lt, Bool, true, false, cond, if◌then◌else◌, List, [], ◌∷◌, ◌++◌, map, filter, length, Option, Some, None, refl, ap, ap₂, sym, ◌∙◌, subst}
use Rattle.std.proofs.lemmas.Bool.{cases_Bool, ltb-true, cond-true, cond-false}
use Rattle.std.proofs.lemmas.List.{map-append}
use Rattle.tp_value.specs.declared.value.Shape.{Shape}
use Rattle.tp_value.specs.declared.path.Path.{Path}
use Rattle.tp_value.specs.declared.path.Fact.{Fact}
use Rattle.tp_store.specs.Facts.{same_path, kept_shape}
use Rattle.tp_store.specs.Known.{facts_below}
use Rattle.tp_store.specs.Changes.{HaveSameShapes}
use Rattle.tp_store.proofs.Paths.{same_path-decides}
use Rattle.tp_scene.specs.declared.answer.Cell.{Cell}
use Rattle.tp_scene.specs.declared.answer.Cell.TheVariants.{End}
use Rattle.tp_scene.specs.Scene.{Ending, Going, Head, Do, Later, Shown, Holder, Split, SplitProject, Closed, Opened, Running, Entries, none, leaf, node, Region, second_lives, only_if, Place, root_place, held_place, second_place}
use Rattle.tp_scene.specs.Step.{PickOutcome}
use Rattle.tp_scene.specs.Pick.{Setting, Moment, outcome_of, numbers_of}
use Rattle.tp_scene.specs.Rest.{holds_back, unsettled_items, Settled, waiting, end_open, ends, goes, settled_by, settled, IsOpenCell}
use Rattle.tp_scene.specs.Advance.{shown_in}
use Rattle.tp_scene.specs.Laws.{IsSound}
use Rattle.tp_step_laws.specs.Renaming.{renamed_holder, renamed_head, renamed_second, renamed_entries, renamed_region, renamed_place, renamed_if, Renamed}
use Rattle.tp_step_laws.specs.Maps.{Renaming, renamed_path, renamed_cell}
use Rattle.tp_step_laws.specs.Alike.{AlikeBy, AlikeMomentsSettle}
use Rattle.tp_step_laws.proofs.RenamePick.{held_to, second_place_to}
use Rattle.tp_step_laws.proofs.GivenAlike.{root_to, given_alike}

only_map : {A B : Type 0} (f : A → B) (b : Bool) (xs : List A) → only_if b (map f xs) ≡ map f (only_if b xs)
only_map f true xs = refl
only_map f false xs = refl

module _ (ρ : Renaming) where
  holds_to : (k : Holder) (p : Place) → holds_back (renamed_holder ρ k) (renamed_place ρ p) ≡ holds_back k p
  holds_to (Split f env) p = refl
  holds_to k p = refl

  abbrev live_second : Holder → Head → Entries → Place → List ℕ
  live_second k g s p = only_if (second_lives k) (unsettled_items s (second_place g s p))

  second_to : (k : Holder) (g : Head) (s : Entries) (p : Place) → ((q : Place) → unsettled_items (renamed_entries ρ s) (renamed_place ρ q) ≡ map ρ.item.to (unsettled_items s q))
      → live_second (renamed_holder ρ k) (renamed_second ρ k g) (renamed_entries ρ s) (renamed_place ρ p) ≡ map ρ.item.to (live_second k g s p)
  second_to (Running f env) g s p h = ap (unsettled_items (renamed_entries ρ s)) (second_place_to ρ (Running f env) g s p refl) ∙ h (second_place g s p)
  second_to k g s p h = refl

  unsettled_to : (es : Entries) (p : Place) → unsettled_items (renamed_entries ρ es) (renamed_place ρ p) ≡ map ρ.item.to (unsettled_items es p)
  unsettled_to none p = refl
  unsettled_to (leaf id (Do f env) rest) p = ap (λ xs. ρ.item.to id ∷ xs) (unsettled_to rest p)
  unsettled_to (leaf id (Later f env) rest) p = unsettled_to rest p
  unsettled_to (leaf id (Shown vs) rest) p = unsettled_to rest p
  unsettled_to (node id k h i g s rest) p =
      let q = held_place k h i p in
      let a : unsettled_items (renamed_entries ρ i) (held_place (renamed_holder ρ k) (renamed_head ρ h) (renamed_entries ρ i) (renamed_place ρ p)) ≡ map ρ.item.to (unsettled_items i q) =
      ap (unsettled_items (renamed_entries ρ i)) (held_to ρ k h i p) ∙ unsettled_to i q in
      let b : only_if (holds_back (renamed_holder ρ k) (held_place (renamed_holder ρ k) (renamed_head ρ h) (renamed_entries ρ i) (renamed_place ρ p))) (ρ.item.to id ∷ []) ≡ map ρ.item.to (only_if (holds_back k q) (id ∷ [])) =
      ap (λ x. only_if (holds_back (renamed_holder ρ k) x) (ρ.item.to id ∷ [])) (held_to ρ k h i p) ∙ ap (λ c. only_if c (ρ.item.to id ∷ [])) (holds_to k q) ∙ only_map ρ.item.to (holds_back k q) (id ∷ []) in
      ap₂ (λ x y. x ++ y) (ap₂ (λ x y. x ++ y) (second_to k g s p (unsettled_to s)) a ∙ sym (map-append ρ.item.to (live_second k g s p) (unsettled_items i q)))
      (ap₂ (λ x y. x ++ y) b (unsettled_to rest p) ∙ sym (map-append ρ.item.to (only_if (holds_back k q) (id ∷ [])) (unsettled_items rest p)))
      ∙ sym (map-append ρ.item.to (live_second k g s p ++ unsettled_items i q) (only_if (holds_back k q) (id ∷ []) ++ unsettled_items rest p))

  abbrev settled_to : Settled → Settled
  settled_to (waiting t) = waiting (ρ.item.to t)
  settled_to end_open = end_open
  settled_to ends = ends
  settled_to goes = goes

  settled_by_to : (ts : List ℕ) (p : Place) → settled_by (map ρ.item.to ts) (renamed_place ρ p) ≡ settled_to (settled_by ts p)
  settled_by_to (t ∷ ts) p = refl
  settled_by_to [] p = go (p.is Ending) (p.is Going)
    where
      go : (b c : Bool) → (if b then ends else (if c then goes else end_open)) ≡ settled_to (if b then ends else (if c then goes else end_open))
      go true c = refl
      go false true = refl
      go false false = refl

  root_settled : (r : Region) → settled_by (unsettled_items (renamed_entries ρ r.entries) (root_place (renamed_region ρ r))) (root_place (renamed_region ρ r)) ≡ settled_to (settled_by (unsettled_items r.entries (root_place r)) (root_place r))
  root_settled r =
      ap (λ x. settled_by (unsettled_items (renamed_entries ρ r.entries) x) x) (root_to ρ r)
      ∙ ap (λ ts. settled_by ts (renamed_place ρ (root_place r))) (unsettled_to r.entries (root_place r))
      ∙ settled_by_to (unsettled_items r.entries (root_place r)) (root_place r)

  shown_to : (es : Entries) → shown_in (renamed_entries ρ es) ≡ shown_in es
  shown_to none = refl
  shown_to (leaf id (Do f env) rest) = shown_to rest
  shown_to (leaf id (Later f env) rest) = shown_to rest
  shown_to (leaf id (Shown vs) rest) = ap (λ xs. vs ∷ xs) (shown_to rest)
  shown_to (node id (Split f env) h i g s rest) = ap₂ (λ x y. x ++ y) (shown_to i) (shown_to rest)
  shown_to (node id (SplitProject f env) h i g s rest) = ap₂ (λ x y. x ++ y) (shown_to i) (shown_to rest)
  shown_to (node id Closed h i g s rest) = ap₂ (λ x y. x ++ y) (shown_to i) (shown_to rest)
  shown_to (node id (Opened f env) h i g s rest) = ap₂ (λ x y. x ++ y) (shown_to i) (shown_to rest)
  shown_to (node id (Running f env) h i g s rest) = ap₂ (λ x y. x ++ y) (ap₂ (λ x y. x ++ y) (shown_to s) (shown_to i)) (shown_to rest)

-- the facts that a test of the variable's path lets through
module _ (keep : Path → Bool) where
  abbrev let_through : List Fact → List Fact
  let_through = filter (λ f. keep f.path)

  abbrev no_shape : Option Shape
  no_shape = None

  drop_nothing : (b : Bool) → cond b no_shape no_shape ≡ no_shape
  drop_nothing true = refl
  drop_nothing false = refl

  one_kept : (f : Fact) (fs : List Fact) (p : Path) (b : Bool) → same_path f.path p ≡ true → kept_shape (cond b (f ∷ fs) fs) p ≡ cond b (Some f.shape) (kept_shape fs p)
  one_kept f fs p true e = cond-true (same_path f.path p) _ _ e
  one_kept f fs p false e = refl

  one_past : (f : Fact) (fs : List Fact) (p : Path) (b : Bool) → same_path f.path p ≡ false → kept_shape (cond b (f ∷ fs) fs) p ≡ kept_shape fs p
  one_past f fs p true e = cond-false (same_path f.path p) _ _ e
  one_past f fs p false e = refl

  pub kept_through : (fs : List Fact) (p : Path) → kept_shape (let_through fs) p ≡ cond (keep p) (kept_shape fs p) None
  kept_through [] p = sym (drop_nothing (keep p))
  kept_through (f ∷ fs) p = elim (cases_Bool (same_path f.path p)) [
    | inl e ↦ (let q : f.path ≡ p = (same_path-decides f.path p).0 e in
        one_kept f (let_through fs) p (keep f.path) e ∙ ap (λ b. cond b (Some f.shape) (kept_shape (let_through fs) p)) (ap keep q) ∙ go f fs (keep p) refl (kept_through fs p)
        ∙ ap (λ o. cond (keep p) o None) (sym (cond-true (same_path f.path p) (Some f.shape) (kept_shape fs p) e)))
    | inr e ↦ one_past f (let_through fs) p (keep f.path) e ∙ kept_through fs p ∙ ap (λ o. cond (keep p) o None) (sym (cond-false (same_path f.path p) (Some f.shape) (kept_shape fs p) e))
  ]
    where
      go : (f : Fact) (fs : List Fact) (b : Bool) → keep p ≡ b → kept_shape (let_through fs) p ≡ cond (keep p) (kept_shape fs p) None → cond b (Some f.shape) (kept_shape (let_through fs) p) ≡ cond b (Some f.shape) None
      go f fs true q h = refl
      go f fs false q h = h ∙ cond-false (keep p) _ _ q

module _ (w : Setting) (kinds : List Bool) (m n : Moment) (ρ : Renaming) (sm : IsSound w kinds m) (sn : IsSound w kinds n) (a : AlikeBy (length kinds) ρ m n) where
  settled_alike : settled n.scene ≡ settled_to ρ (settled m.scene)
  settled_alike = ap (λ (r : Region). settled_by (unsettled_items r.entries (root_place r)) (root_place r)) a.root ∙ root_settled ρ m.scene.root

  open_by : (s : Settled) → settled m.scene ≡ s → settled n.scene ≡ settled_to ρ s → (c : Cell) → IsOpenCell w m c → IsOpenCell w n (renamed_cell ρ c)
  open_by (waiting t) e f c h =
      let x = rw e at h in
      rw f (renamed_if ρ x.0, subst (λ (o : PickOutcome). Renamed ρ (numbers_of m.scene m.store.variables) (numbers_of n.scene n.store.variables) o (outcome_of w n.store n.scene (ρ.item.to t))) x.1 (given_alike w kinds m n ρ sm sn a t))
  open_by end_open e f c h = let x = rw e at h in rw f (ap (renamed_cell ρ) x ∙ ap (λ (r : Region). End r.head.number 0) (sym a.root))
  open_by x e f c h = elim (rw e at h) [ ]

  -- what is kept of the globals
  global_facts : HaveSameShapes (facts_below (length kinds) n.store.facts) (facts_below (length kinds) m.store.facts)
  global_facts p =
      kept_through (λ q. nat_lt q.var.number (length kinds)) n.store.facts p ∙ go (nat_lt p.var.number (length kinds)) refl
      ∙ sym (kept_through (λ q. nat_lt q.var.number (length kinds)) m.store.facts p)
    where
      go : (b : Bool) → nat_lt p.var.number (length kinds) ≡ b → cond b (kept_shape n.store.facts p) None ≡ cond b (kept_shape m.store.facts p) None
      go false e = refl
      go true e = let q : renamed_path ρ p ≡ p = λ j. record { var = record { number = a.globals_fixed p.var.number (ltb-true p.var.number (length kinds) e) j; lasting = p.var.lasting }; at = p.at } in
          ap (kept_shape n.store.facts) (sym q) ∙ a.facts p

pub alike_moments_settle : AlikeMomentsSettle
alike_moments_settle w kinds m n ρ sm sn a = record {
  ends_too = λ e. settled_alike w kinds m n ρ sm sn a ∙ ap (settled_to ρ) e;
  goes_too = λ e. settled_alike w kinds m n ρ sm sn a ∙ ap (settled_to ρ) e;
  open_too = λ c h. open_by w kinds m n ρ sm sn a (settled m.scene) refl (settled_alike w kinds m n ρ sm sn a) c h;
  shows = ap (λ (r : Region). shown_in r.entries) a.root ∙ shown_to ρ m.scene.root.entries;
  facts = global_facts w kinds m n ρ sm sn a;
}
