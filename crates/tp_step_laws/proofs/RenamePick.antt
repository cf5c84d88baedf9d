-- Picking an item under a renaming.
use Rattle.std.proofs.Common.{◌≡◌, ℕ, ◌+◌, Bool, true, false, ◌&&◌, ◌||◌, cond, eqb, List, length, refl, ap₂, sym, subst}
use Rattle.std.proofs.lemmas.Bool.{and_parts}
use Rattle.tp_value.specs.declared.path.Fact.{Fact}
use Rattle.tp_meaning.specs.Fits.{DefinitionsFit}
use Rattle.tp_store.specs.Known.{NoClash, Variable}
use Rattle.tp_scene.specs.Scene.{Side, Ending, Going, Head, marked, Leaf, Do, Holder, Split, SplitProject, Closed, Running, Entries, none, leaf, node, second_lives, has, rises, sinks, forced, risen, Place, held_place, second_place}
use Rattle.tp_scene.specs.Step.{PickOutcome, Numbers, leaf_step, holder_step}
use Rattle.tp_scene.specs.Pick.{Setting, pick}
use Rattle.tp_scene.specs.Fits.{LeafFits, EntriesFit}
use Rattle.tp_scene.proofs.Keep.{live_fits}
use Rattle.tp_step_laws.specs.Renaming.{renamed_leaf, renamed_holder, renamed_head, renamed_second, renamed_entries, renamed_place, FactsAlike, Renamed, PicksRename}
use Rattle.tp_step_laws.specs.Maps.{Renaming, FixesBelow}
use Rattle.tp_step_laws.proofs.RenameFacts.{eqb_to}
use Rattle.tp_step_laws.proofs.RenameRows.{formula_row, holder_row}

module _ (ρ : Renaming) where
  pub lives_to : (k : Holder) → second_lives (renamed_holder ρ k) ≡ second_lives k
  lives_to (Split f env) = refl
  lives_to k = refl

  rises_to : (k : Holder) (z : Side) → rises (renamed_holder ρ k) z ≡ rises k z
  rises_to (Split f env) z = refl
  rises_to k z = refl

  sinks_to : (k : Holder) (z : Side) → sinks (renamed_holder ρ k) z ≡ sinks k z
  sinks_to (Split f env) z = refl
  sinks_to k z = refl

  forced_to : (k : Holder) (z : Side) → forced (renamed_holder ρ k) z ≡ forced k z
  forced_to (Split f env) z = refl
  forced_to k z = refl

  pub marked_to : (z : Side) (h : Head) → marked z (renamed_head ρ h) ≡ marked z h
  marked_to Ending h = refl
  marked_to Going h = refl

  pub second_to : (z : Side) (k : Holder) (g : Head) → marked z (renamed_second ρ k g) ≡ marked z g
  second_to z (SplitProject f env) g = marked_to z g
  second_to z (Running f env) g = marked_to z g
  second_to z k g = refl

  pub has_to : (t : ℕ) (es : Entries) → has (ρ.item.to t) (renamed_entries ρ es) ≡ has t es
  has_to t none = refl
  has_to t (leaf id l rest) = ap₂ (λ a b. a || b) (eqb_to ρ.item id t) (has_to t rest)
  has_to t (node id k h i g s rest) = λ j. eqb_to ρ.item id t j || ((lives_to k j && has_to t s j) || (has_to t i j || has_to t rest j))

  pub risen_to : (z : Side) (es : Entries) → risen z (renamed_entries ρ es) ≡ risen z es
  risen_to z none = refl
  risen_to z (leaf id l rest) = risen_to z rest
  risen_to z (node id k h i g s rest) = λ j. (rises_to k z j && (marked_to z h j || risen_to z i j)) || ((lives_to k j && (second_to z k g j || risen_to z s j)) || risen_to z rest j)

  pub held_to : (k : Holder) (h : Head) (i : Entries) (p : Place) → held_place (renamed_holder ρ k) (renamed_head ρ h) (renamed_entries ρ i) (renamed_place ρ p) ≡ renamed_place ρ (held_place k h i p)
  held_to k h i p = λ j. record { region = ρ.region.to h.number; depth = p.depth + 1; is = λ z. (sinks_to k z j && p.is z) || (forced_to k z j || (marked_to z h j || risen_to z i j)) }

  pub second_place_to : (k : Holder) (g : Head) (s : Entries) (p : Place) → second_lives k ≡ true → second_place (renamed_second ρ k g) (renamed_entries ρ s) (renamed_place ρ p) ≡ renamed_place ρ (second_place g s p)
  second_place_to (Running f env) g s p e = λ j. record { region = ρ.region.to g.number; depth = p.depth + 1; is = λ z. p.is z || (marked_to z g j || risen_to z s j) }
  second_place_to k g s p e = absurd (cc)

  second_is : (k : Holder) (g : Head) → (second_lives k ≡ true) → renamed_second ρ k g ≡ renamed_head ρ g
  second_is (SplitProject f env) g e = refl
  second_is (Running f env) g e = refl
  second_is k g e = absurd (cc)

  module _ (n n' : Numbers) where
    abbrev R : PickOutcome → PickOutcome → Type 0
    R = Renamed ρ n n'

    case_row : (b b' : Bool) (x x' y y' : PickOutcome) → b' ≡ b → (b ≡ true → R x x') → (b ≡ false → R y y') → R (cond b x y) (cond b' x' y')
    case_row b b' x x' y y' e h k = subst (λ (c : Bool). R (cond b x y) (cond c x' y')) (sym e) (go b h k)
      where
        go : (c : Bool) → (c ≡ true → R x x') → (c ≡ false → R y y') → R (cond c x y) (cond c x' y')
        go true h k = h refl
        go false h k = k refl

    module _ (w : Setting) (kinds : List Bool) (fit : DefinitionsFit w.defs kinds) (fixed : FixesBelow (length kinds) ρ.local) (fs gs : List Fact) (fc : NoClash fs) (gc : NoClash gs) (alike : FactsAlike ρ fs gs) (variables : List Variable) (t : ℕ) where
      leaf_to : (l : Leaf) (p : Place) → LeafFits w.defs kinds variables l p → R (leaf_step w.defs w.inputs w.state fs l p n) (leaf_step w.defs w.inputs w.state gs (renamed_leaf ρ l) (renamed_place ρ p) n')
      leaf_to (Do f env) p h = formula_row ρ n n' fs gs fc gc alike w kinds fit fixed env f p h.0
      leaf_to l p h = refl

      -- a holder's second region is looked at only where it has a number of its own
      holder_to : (k : Holder) (h : Head) (i : Entries) (g : Head) (s : Entries) (p : Place)
          → R (holder_step w.defs w.inputs w.state fs k (record { head = h; entries = i }) (record { head = g; entries = s }) (held_place k h i p) n)
          (holder_step w.defs w.inputs w.state gs (renamed_holder ρ k) (record { head = renamed_head ρ h; entries = renamed_entries ρ i }) (record { head = renamed_second ρ k g; entries = renamed_entries ρ s }) (held_place (renamed_holder ρ k) (renamed_head ρ h) (renamed_entries ρ i) (renamed_place ρ p)) n')
      holder_to k h i g s p = subst (λ (q : Place). R (holder_step w.defs w.inputs w.state fs k (record { head = h; entries = i }) (record { head = g; entries = s }) (held_place k h i p) n)
          (holder_step w.defs w.inputs w.state gs (renamed_holder ρ k) (record { head = renamed_head ρ h; entries = renamed_entries ρ i }) (record { head = renamed_second ρ k g; entries = renamed_entries ρ s }) q n'))
          (sym (held_to k h i p)) (go k)
        where
          go : (k : Holder) → R (holder_step w.defs w.inputs w.state fs k (record { head = h; entries = i }) (record { head = g; entries = s }) (held_place k h i p) n)
              (holder_step w.defs w.inputs w.state gs (renamed_holder ρ k) (record { head = renamed_head ρ h; entries = renamed_entries ρ i }) (record { head = renamed_second ρ k g; entries = renamed_entries ρ s }) (renamed_place ρ (held_place k h i p)) n')
          go (SplitProject f env) = holder_row ρ n n' fs gs fc gc alike w (SplitProject f env) h g i s (renamed_head ρ g) (held_place (SplitProject f env) h i p) refl
          go Closed = refl
          go (Running f env) = refl
          go k = holder_row ρ n n' fs gs fc gc alike w k h (record { number = ρ.region.back g.number; ends = g.ends; goes = g.goes }) i s g (held_place k h i p) (λ j. record { number = sym (ρ.region.redone g.number) j; ends = g.ends; goes = g.goes })

      pub pick_to : (es : Entries) (p : Place) → EntriesFit w.defs kinds variables es p → R (pick w fs t es p n) (pick w gs (ρ.item.to t) (renamed_entries ρ es) (renamed_place ρ p) n')
      pick_to none p h = refl
      pick_to (leaf id l rest) p h = case_row (eqb id t) _ _ _ _ _ (eqb_to ρ.item id t) (λ _. leaf_to l p h.0) (λ _. pick_to rest p h.1)
      pick_to (node id k x i g s rest) p h = case_row (eqb id t) _ _ _ _ _ (eqb_to ρ.item id t) (λ _. holder_to k x i g s p)
          (λ _. case_row (second_lives k && has t s) _ _ _ _ _ (λ j. lives_to k j && has_to t s j)
          (λ e. let live = (and_parts (second_lives k) (has t s) e).0 in
          subst (λ (q : Place). R (pick w fs t s (second_place g s p) n) (pick w gs (ρ.item.to t) (renamed_entries ρ s) q n')) (sym (second_place_to k g s p live))
          (pick_to s (second_place g s p) (live_fits w.defs kinds variables k i _ _ _ live h.0)))
          (λ _. case_row (has t i) _ _ _ _ _ (has_to t i)
          (λ _. subst (λ (q : Place). R (pick w fs t i (held_place k x i p) n) (pick w gs (ρ.item.to t) (renamed_entries ρ i) q n')) (sym (held_to k x i p)) (pick_to i (held_place k x i p) h.1))
          (λ _. pick_to rest p h.2)))

pub picks_rename : PicksRename
picks_rename ρ w kinds fit fixed fs gs fc gc alike variables es p h t n n' = pick_to ρ n n' w kinds fit fixed fs gs fc gc alike variables t es p h
