-- Where all regions are calm after an edit that sets a mark, the item's region wasn't of the other side.
use Rattle.std.proofs.Common.{◌≡◌, ℕ, Bool, true, ◌&&◌, List, refl, ◌∙◌, subst}
use Rattle.std.proofs.lemmas.Bool.{or_left, or_right}
use Rattle.tp_meaning.specs.Syntax.{Definition}
use Rattle.tp_store.specs.Known.{Variable}
use Rattle.tp_scene.specs.Scene.{Side, other_side, Ending, Going, Head, marked, Entries, none, leaf, node, second_lives, sinks, forced, Place, held_place, second_place}
use Rattle.tp_scene.specs.Fits.{IsCalm, EntriesFit}
use Rattle.tp_scene.proofs.Grown.{not_both}
use Rattle.tp_scene.proofs.Keep.{live_fits}
use Rattle.tp_step_laws.specs.Edits.{Edit, is_side, marks, head_after, edited, single, Thing, At, this_leaf, past_leaf, this_node, in_first, in_second, past_node, Carry, New}
use Rattle.tp_step_laws.specs.Rows.{Grows}
use Rattle.tp_step_laws.specs.Renaming.{renamed_entries, renamed_place}
use Rattle.tp_step_laws.specs.Maps.{Renaming}
use Rattle.tp_step_laws.proofs.Stay.{head_grows, status_up, held_grows, second_grows}
use Rattle.tp_step_laws.proofs.RenamePick.{lives_to, held_to, second_place_to}

abbrev pub AllCalm : Entries → Place → Type 0
AllCalm none p = IsCalm p
AllCalm (leaf id l rest) p = AllCalm rest p
AllCalm (node id k h i g s rest) p = AllCalm i (held_place k h i p) × (second_lives k ≡ true → AllCalm s (second_place g s p)) × AllCalm rest p

pub calm_fit : (defs : List Definition) (kinds : List Bool) (variables : List Variable) (es : Entries) (p : Place) → EntriesFit defs kinds variables es p → AllCalm es p
calm_fit defs kinds variables none p h = h.0
calm_fit defs kinds variables (leaf id l rest) p h = calm_fit defs kinds variables rest p h.1
calm_fit defs kinds variables (node id k hd i g s rest) p h = (calm_fit defs kinds variables i _ h.1, (λ l. calm_fit defs kinds variables s _ (live_fits defs kinds variables k i _ _ _ l h.0)), calm_fit defs kinds variables rest p h.2)

pub calm_back : (ρ : Renaming) (es : Entries) (p : Place) → AllCalm (renamed_entries ρ es) (renamed_place ρ p) → AllCalm es p
calm_back ρ none p h = h
calm_back ρ (leaf id l rest) p h = calm_back ρ rest p h
calm_back ρ (node id k hd i g s rest) p h = (
  calm_back ρ i (held_place k hd i p) (subst (λ (q : Place). AllCalm (renamed_entries ρ i) q) (held_to ρ k hd i p) h.0),
  (λ l. calm_back ρ s (second_place g s p) (subst (λ (q : Place). AllCalm (renamed_entries ρ s) q) (second_place_to ρ k g s p l) (h.1 (lives_to ρ k ∙ l)))),
  calm_back ρ rest p h.2,
)

pub calm_here : (es : Entries) (p : Place) → AllCalm es p → IsCalm p
calm_here none p h = h
calm_here (leaf id l rest) p h = calm_here rest p h
calm_here (node id k hd i g s rest) p h = calm_here rest p h.2

module _ (u v : ℕ) (f : Edit) (new : New v f) (z : Side) (mark : is_side z f.mark ≡ true) where
  pub marked_after : (es : Entries) (h : Head) → marks (single u f) z es ≡ true → marked z (head_after (single u f) es h) ≡ true
  marked_after es h e = go z e
    where
      go : (x : Side) → marks (single u f) x es ≡ true → marked x (head_after (single u f) es h) ≡ true
      go Ending e = or_right h.ends (marks (single u f) Ending es) e
      go Going e = or_right h.goes (marks (single u f) Going es) e

  here : (es : Entries) (p p' : Place) → AllCalm es p' → Grows p p' → p'.is z ≡ true → p.is (other_side z) ≡ true → ⊥
  here es p p' calm up e o = not_both z p' (calm_here es p' calm) e (up.sides (other_side z) o)

  pub marked_calm : (es : Entries) (y : Thing) (q p p' : Place) → At u y q es p → Carry v f y → AllCalm (edited (single u f) es) p' → Grows p p' → (marks (single u f) z es ≡ true → p'.is z ≡ true) → q.is (other_side z) ≡ true → ⊥
  marked_calm none y q p p' at carry calm up m o = elim at [ ]
  marked_calm (leaf id l rest) y q p p' (this_leaf a b) carry calm up m o = here (edited (single u f) (leaf id l rest)) p p' calm up (m (rw a (or_left (is_side z f.mark) _ mark))) o
  marked_calm (leaf id l rest) y q p p' (past_leaf a at) carry calm up m o = marked_calm rest y q p p' at carry (rw a at calm) up (λ e. m (rw a e)) o
  marked_calm (node id k h i g s rest) y q p p' (this_node a b c d) carry calm up m o = here (edited (single u f) (node id k h i g s rest)) p p' calm up (m (rw a (or_left (is_side z f.mark) _ mark))) o
  marked_calm (node id k h i g s rest) y q p p' (in_first a at c d) carry calm up m o =
      let h' = head_after (single u f) i h in
      let i' = edited (single u f) i in
      let x : AllCalm i' (held_place k h' i' p') = (rw a at calm).0 in
      marked_calm i y q (held_place k h i p) (held_place k h' i' p') at carry x
      (held_grows k h h' i i' p p' up refl (head_grows (single u f) i h) (λ x. status_up u v f new i y q (held_place k h i p) at carry x))
      (λ e. or_right (sinks k z && p'.is z) _ (or_right (forced k z) _ (or_left (marked z h') _ (marked_after i h e)))) o
  marked_calm (node id k h i g s rest) y q p p' (in_second a l b at d) carry calm up m o =
      let g' = head_after (single u f) s g in
      let s' = edited (single u f) s in
      let x : AllCalm s' (second_place g' s' p') = (rw a at calm).1 l in
      marked_calm s y q (second_place g s p) (second_place g' s' p') at carry x
      (second_grows g g' s s' p p' up refl (head_grows (single u f) s g) (λ x. status_up u v f new s y q (second_place g s p) at carry x))
      (λ e. or_right (p'.is z) _ (or_left (marked z g') _ (marked_after s g e))) o
  marked_calm (node id k h i g s rest) y q p p' (past_node a b c at) carry calm up m o = marked_calm rest y q p p' at carry (rw a at calm).2 up (λ e. m (rw a e)) o
