-- Waits that are over by what is new.
use Rattle.std.proofs.Common.{◌≡◌, ℕ, ◌||◌, ◌&&◌, Bool, true, false, List, [], ◌∷◌, ◌++◌, Option, None, Some, refl, sym, ◌∙◌, inl, inr}
use Rattle.std.specs.Option.{is_some}
use Rattle.std.proofs.lemmas.Bool.{both_ways, or_cases, or_left, or_right}
use Rattle.std.proofs.lemmas.List.Folds.{list_any-append}
use Rattle.tp_value.specs.declared.path.Fact.{Fact}
use Rattle.tp_scene.specs.declared.answer.Cell.{Cell}
use Rattle.tp_step.specs.declared.tally.Wait.{Wait}
use Rattle.tp_agenda.specs.declared.index.Index.{Index}
use Rattle.tp_agenda.specs.Board.{facts_decide}
use Rattle.tp_agenda.specs.Decides.{fact_decides}
use Rattle.tp_agenda.specs.Index.{IsFiled}
use Rattle.tp_agenda.specs.Wakes.{WakesOnly, AreOver}
use Rattle.tp_agenda.proofs.Waking.{none_woken, both_woken, only_weaker, passing_cell, cell_passes}

-- waits that are over for one test stay so, and those for another are over too
module _ (waits : List Wait) (a b : Cell → Bool) (r o r1 o1 r2 o2 : List Bool) (h : WakesOnly waits a r o r1 o1) (all_a : AreOver waits a o1) (k : WakesOnly waits b r1 o1 r2 o2) (all_b : AreOver waits b o2) (test : Cell → Bool)
    (more_a : (c : Cell) → a c ≡ true → test c ≡ true) (more_b : (c : Cell) → b c ≡ true → test c ≡ true) (only : (c : Cell) → test c ≡ true → (a c || b c) ≡ true) where
  pub either_woken : WakesOnly waits test r o r2 o2
  either_woken = both_woken waits test r o r1 o1 r2 o2 (only_weaker waits a test r o r1 o1 more_a h) (only_weaker waits b test r1 o1 r2 o2 more_b k)

  pub either_over : AreOver waits test o2
  either_over i w at p =
      let found = passing_cell test w p in
      elim (or_cases (a found.0) (b found.0) (only found.0 found.2)) [
        | inl e ↦ k.over_kept i (all_a i w at (cell_passes a w found.0 found.1 e))
        | inr e ↦ all_b i w at (cell_passes b w found.0 found.1 e)
      ]

-- Each wait is over for what these facts decide.
pub record WakesFor (waits : List Wait) (x : Index) (facts : List Fact) (ready over ready' over' : List Bool) : Type 0 where
  pub filed : IsFiled x waits over'
  pub only : WakesOnly waits (facts_decide facts) ready over ready' over'
  pub all : AreOver waits (facts_decide facts) over'

pub for_none : (waits : List Wait) (x : Index) (ready over : List Bool) → IsFiled x waits over → WakesFor waits x [] ready over ready over
for_none waits x ready over filed = record {
  filed = filed;
  only = none_woken waits (facts_decide []) ready over;
  all = λ i w at p. (let found = passing_cell (facts_decide []) w p in absurd (both_ways false refl found.2));
}

pub for_more : (waits : List Wait) (x : Index) (facts : List Fact) (f : Fact) (r o r1 o1 r2 o2 : List Bool) → WakesFor waits x facts r o r1 o1
    → WakesOnly waits (fact_decides f) r1 o1 r2 o2 → AreOver waits (fact_decides f) o2 → IsFiled x waits o2 → WakesFor waits x (facts ++ f ∷ []) r o r2 o2
for_more waits x facts f r o r1 o1 r2 o2 h k all filed =
    let test = facts_decide (facts ++ f ∷ []) in
    let more_a : (c : Cell) → facts_decide facts c ≡ true → test c ≡ true = λ c e. split c ∙ or_left (facts_decide facts c) (fact_decides f c || false) e in
    let more_b : (c : Cell) → fact_decides f c ≡ true → test c ≡ true = λ c e. split c ∙ or_right (facts_decide facts c) (fact_decides f c || false) (or_left (fact_decides f c) false e) in
    let only : (c : Cell) → test c ≡ true → (facts_decide facts c || fact_decides f c) ≡ true = λ c e.
    elim (or_cases (facts_decide facts c) (fact_decides f c || false) (sym (split c) ∙ e)) [
      | inl t ↦ or_left (facts_decide facts c) (fact_decides f c) t
      | inr t ↦ or_right (facts_decide facts c) (fact_decides f c) (elim (or_cases (fact_decides f c) false t) [ inl s ↦ s | inr s ↦ absurd (both_ways false refl s) ])
    ] in
    record {
      filed = filed;
      only = either_woken waits (facts_decide facts) (fact_decides f) r o r1 o1 r2 o2 h.only h.all k all test more_a more_b only;
      all = either_over waits (facts_decide facts) (fact_decides f) r o r1 o1 r2 o2 h.only h.all k all test more_a more_b only;
    }
  where
    split : (c : Cell) → facts_decide (facts ++ f ∷ []) c ≡ (facts_decide facts c || (fact_decides f c || false))
    split c = list_any-append (λ g. fact_decides g c) facts (f ∷ [])

-- what the facts decide, and, where there is a mark, the ends
abbrev pub by_news : (facts ends : Cell → Bool) → (marked : Option ℕ) → Cell → Bool
by_news facts ends marked c = facts c || (is_some marked && ends c)

module _ (waits : List Wait) (facts ends : Cell → Bool) (r o r1 o1 : List Bool) (h : WakesOnly waits facts r o r1 o1) (all : AreOver waits facts o1) where
  pub unmarked_woken : WakesOnly waits (by_news facts ends None) r o r1 o1
  unmarked_woken = only_weaker waits facts (by_news facts ends None) r o r1 o1 (λ c e. or_left (facts c) false e) h

  pub unmarked_over : AreOver waits (by_news facts ends None) o1
  unmarked_over i w at p =
      let found = passing_cell (by_news facts ends None) w p in
      elim (or_cases (facts found.0) false found.2) [
        | inl e ↦ all i w at (cell_passes facts w found.0 found.1 e)
        | inr e ↦ absurd (both_ways false refl e)
      ]

  module _ (region : ℕ) (r2 o2 : List Bool) (k : WakesOnly waits ends r1 o1 r2 o2) (all_ends : AreOver waits ends o2) where
    more_facts : (c : Cell) → facts c ≡ true → by_news facts ends (Some region) c ≡ true
    more_facts c e = or_left (facts c) (ends c) e

    more_ends : (c : Cell) → ends c ≡ true → by_news facts ends (Some region) c ≡ true
    more_ends c e = or_right (facts c) (ends c) e

    pub marked_woken : WakesOnly waits (by_news facts ends (Some region)) r o r2 o2
    marked_woken = either_woken waits facts ends r o r1 o1 r2 o2 h all k all_ends (by_news facts ends (Some region)) more_facts more_ends (λ c e. e)

    pub marked_over : AreOver waits (by_news facts ends (Some region)) o2
    marked_over = either_over waits facts ends r o r1 o1 r2 o2 h all k all_ends (by_news facts ends (Some region)) more_facts more_ends (λ c e. e)
