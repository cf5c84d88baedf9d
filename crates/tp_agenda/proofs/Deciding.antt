-- What a step decides is decided after it; and a cell that an item waits for and that is decided after it was so before, or the step decides it.
use Rattle.std.proofs.Common.{◌≡◌, ◌⊎◌, inl, inr, ℕ, Bool, true, false, List, ◌++◌, Option, Some, None, refl, ap, ◌∙◌, subst}
use Rattle.std.specs.List.{list_any}
use Rattle.std.specs.Option.{is_some}
use Rattle.std.proofs.lemmas.Bool.{or_cases, or_left, or_right, and_parts, and_from, false≢true}
use Rattle.std.proofs.lemmas.List.Folds.{list_any-from_Any}
use Rattle.tp_value.specs.declared.path.Path.{Path}
use Rattle.tp_value.specs.declared.path.Fact.{Fact}
use Rattle.tp_store.specs.Facts.{same_path, excludes, kept_shape}
use Rattle.tp_store.specs.Known.{NoClash}
use Rattle.tp_store.proofs.Paths.{same_path-decides}
use Rattle.tp_store.proofs.Members.{In, in_right, in_kept, kept_in, excluded_from}
use Rattle.tp_store.proofs.Adding.{NoClash-adds}
use Rattle.tp_store.proofs.Separate.{value_apart}
use Rattle.tp_scene.specs.declared.answer.Cell.{Cell}
use Rattle.tp_scene.specs.declared.answer.Cell.TheVariants.{Part, End}
use Rattle.tp_scene.specs.Scene.{Side, root_place}
use Rattle.tp_scene.specs.Step.{Reduction, PickOutcome}
use Rattle.tp_scene.specs.Pick.{Setting, Moment, Reduces, numbers_of}
use Rattle.tp_scene.specs.Cells.{IsKnownEnd, IsDecided}
use Rattle.tp_scene.specs.Decided.{decides_path}
use Rattle.tp_scene.specs.Seen.{NamesCell}
use Rattle.tp_scene.specs.Laws.{IsSound}
use Rattle.tp_scene.proofs.Apart.{AdditionsApart, IsApart, picked_apart}
use Rattle.tp_scene.proofs.Decided.{facts_decide_paths}
use Rattle.tp_scene.proofs.StepsFit.{steps_fit}
use Rattle.tp_step_laws.proofs.Unmarked.{unmarked_steps_end_nothing}
use Rattle.tp_slots.specs.declared.scene.Mark.{Mark}
use Rattle.tp_slots.specs.declared.scene.Mark.TheVariants.{Open, Ends, Goes}
use Rattle.tp_slots.specs.Status.{region_mark}
use Rattle.tp_slots.proofs.MarksTell.{marks_tell_status}
use Rattle.tp_agenda.specs.Decides.{fact_decides}
use Rattle.tp_agenda.specs.Marks.{is_known_mark, has_known_end}
use Rattle.tp_agenda.specs.Leaves.{step_decides}
use Rattle.tp_agenda.proofs.Given.{passing_fact}

-- The ends that marks tell are those that are known.
module _ (w : Setting) (kinds : List Bool) (m : Moment) (sound : IsSound w kinds m) (r : ℕ) where
  pub told_end : has_known_end m.scene r ≡ true → IsKnownEnd m.scene r
  told_end e = ((marks_tell_status w kinds m sound).1 r).known.0 (by_mark (region_mark r m.scene) refl e)
    where
      by_mark : (o : Option Mark) → region_mark r m.scene ≡ o → is_known_mark o ≡ true → (region_mark r m.scene ≡ Some Ends) ⊎ (region_mark r m.scene ≡ Some Goes)
      by_mark None x e = absurd (false≢true e)
      by_mark (Some Open) x e = absurd (false≢true e)
      by_mark (Some Ends) x e = inl x
      by_mark (Some Goes) x e = inr x

  pub end_told : IsKnownEnd m.scene r → has_known_end m.scene r ≡ true
  end_told k = elim (((marks_tell_status w kinds m sound).1 r).known.1 k) [ inl x ↦ ap is_known_mark x | inr x ↦ ap is_known_mark x ]

module _ (w : Setting) (kinds : List Bool) (m : Moment) (t : ℕ) (r : Reduction) (next : Moment) (sound : IsSound w kinds m) (step : Reduces w m t r next) where
  -- the new facts stand apart from those before, so each is kept
  facts_apart : NoClash (m.store.facts ++ r.facts)
  facts_apart =
      let k = sound.store.no_clash in
      let adding : AdditionsApart = λ kept facts news a b e. NoClash-adds kept facts news e a b in
      let picked = picked_apart value_apart adding w m.store.facts k t m.scene.root.entries (root_place m.scene.root) (numbers_of m.scene m.store.variables) in
      subst (λ (o : PickOutcome). IsApart m.store.facts k o) step.outcome picked

  kept_fact : (f : Fact) → In f r.facts → kept_shape next.store.facts f.path ≡ Some f.shape
  kept_fact f i = step.store.kept f.path ∙ in_kept (m.store.facts ++ r.facts) f facts_apart (in_right f m.store.facts r.facts i)

  -- and a fact decides its paths
  path_decided : (f : Fact) (p : Path) → In f r.facts → decides_path f p ≡ true → IsDecided next (Part p)
  path_decided f p i e = elim (or_cases (same_path f.path p) (excludes f p) e) [
    | inl same ↦ inl (f.shape, subst (λ (q : Path). kept_shape next.store.facts q ≡ Some f.shape) ((same_path-decides f.path p).0 same) (kept_fact f i))
    | inr out ↦ inr (excluded_from next.store.facts p f (kept_in next.store.facts f.path f.shape (kept_fact f i)) out)
  ]

  pub decided_after : (c : Cell) → step_decides r next c ≡ true → IsDecided next c
  decided_after (Part p) e = elim (or_cases (list_any (λ f. fact_decides f (Part p)) r.facts) _ e) [
    | inl x ↦ (let f = passing_fact (λ f. fact_decides f (Part p)) r.facts x in path_decided f.0 p f.1 f.2)
    | inr x ↦ absurd (false≢true (and_parts (is_some r.mark) false x).1)
  ]
  decided_after (End region depth) e = elim (or_cases (list_any (λ f. fact_decides f (End region depth)) r.facts) _ e) [
    | inl x ↦ (let f = passing_fact (λ f. fact_decides f (End region depth)) r.facts x in absurd (false≢true f.2))
    | inr x ↦ told_end w kinds next (steps_fit w kinds m t r next sound step) region (and_parts (is_some r.mark) (has_known_end next.scene region) x).1
  ]

  pub decided_newly : (c : Cell) → NamesCell m.scene c → IsDecided next c → IsDecided m c ⊎ (step_decides r next c ≡ true)
  decided_newly (Part p) named after = elim (facts_decide_paths w m t r next step p after) [
    | inl x ↦ inl x
    | inr x ↦ inr (or_left (list_any (λ f. fact_decides f (Part p)) r.facts) _ (list_any-from_Any (λ f. fact_decides f (Part p)) r.facts (x.1.0, x.0, x.1.1, x.1.2, x.2)))
  ]
  decided_newly (End region depth) named after = by_mark r.mark refl
    where
      by_mark : (o : Option Side) → r.mark ≡ o → IsDecided m (End region depth) ⊎ (step_decides r next (End region depth) ≡ true)
      by_mark None e = inl (unmarked_steps_end_nothing w kinds m t r next sound step e region depth named after)
      by_mark (Some z) e = inr (or_right (list_any (λ f. fact_decides f (End region depth)) r.facts) _
          (and_from (is_some r.mark) (has_known_end next.scene region) (ap is_some e) (end_told w kinds next (steps_fit w kinds m t r next sound step) region after)))
