-- The limit on reductions is met exactly where none is left for an item that would be reduced.
use Rattle.std.proofs.Common.{◌≡◌, inl, inr, ℕ, ◌+◌, Bool, List, ◌++◌, length, ap, sym, ◌∙◌, subst, arith, length-append}
use Rattle.tp_kernel.specs.declared.fault.LimitKind.{LimitKind}
use Rattle.tp_kernel.specs.declared.fault.LimitKind.TheVariants as limit
use Rattle.tp_scene.specs.Step.{Reduction, reduces, waits, rests, clashes, misses, passes}
use Rattle.tp_scene.specs.Pick.{Setting, Moment, outcome_of}
use Rattle.tp_scene.specs.Laws.{IsSound}
use Rattle.tp_step.specs.Answers.{Tries}
use Rattle.tp_step.specs.Closes.{Meets, ClosureEnds, ClosureAnswers}
use Rattle.tp_step.specs.Room.{TryKeepsRoom, ClosureKeepsRoom}
use Rattle.tp_step.specs.declared.answer.Tried.{Tried}
use Rattle.tp_step.specs.declared.answer.Tried.TheVariants as tried
use Rattle.tp_step.specs.declared.ending.Ending.{Ending}
use Rattle.tp_step.specs.declared.ending.Ending.TheVariants.{Rest, Clash, Missing, Over}
use Rattle.tp_step.proofs.KnownItems.{passes_other}

module _ (w : Setting) (kinds : List Bool) (m : Moment) (sound : IsSound w kinds m) where
  abbrev IsReducible : ℕ → Type 0
  IsReducible t = (r : Reduction) × (outcome_of w m.store m.scene t ≡ reduces r)

  over_tells : (room : ℕ) (t : ℕ) (next : Moment) → Tries w room m t next (tried.Over limit.Reductions) → (room ≡ 0) × IsReducible t
  over_tells room t next h = elim h.1 [
    | inl x ↦ absurd (passes_other w kinds m sound t limit.Reductions x)
    | inr y ↦ (y.2, (y.0, y.3))
  ]

  full_answers : (room : ℕ) (t : ℕ) (next : Moment) (a : Tried) → Tries w room m t next a → room ≡ 0 → IsReducible t → a ≡ tried.Over limit.Reductions
  full_answers room t next (tried.Reduced news) h none r = let some = h.1 in absurd (omega (arith, some, none))
  full_answers room t next (tried.Waits first other) h none r = let never : waits first other ≡ reduces r.0 = sym h.1 ∙ r.1 in absurd (cc)
  full_answers room t next tried.Rests h none r = let never : rests ≡ reduces r.0 = sym h.1 ∙ r.1 in absurd (cc)
  full_answers room t next (tried.Clash clash) h none r = let never : clashes clash ≡ reduces r.0 = sym h.1 ∙ r.1 in absurd (cc)
  full_answers room t next (tried.Missing port) h none r = let never : misses port ≡ reduces r.0 = sym h.1 ∙ r.1 in absurd (cc)
  full_answers room t next (tried.Over k) h none r = elim h.1 [
    | inl x ↦ (let never : passes k ≡ reduces r.0 = sym x ∙ r.1 in absurd (cc))
    | inr y ↦ ap tried.Over y.1
  ]

  pub tries_keep_room : (room : ℕ) (t : ℕ) (next : Moment) (a : Tried) → Tries w room m t next a → TryKeepsRoom w room m t a
  tries_keep_room room t next a h = (
    (λ e. over_tells room t next (subst (Tries w room m t next) e h)),
    (λ full. full_answers room t next a h full.0 full.1),
  )

  module _ (room : ℕ) (before after : List ℕ) where
    other_met : (k : LimitKind) (left : ℕ) → (k ≡ limit.Reductions → ⊥) → ClosureEnds w left m (Over k) → Meets w m (passes k)
    other_met k left another (inl h) = h
    other_met k left another (inr h) = absurd (another h.0)

    used_up : (left : ℕ) (picks : List ℕ) → after ≡ before ++ picks → room ≡ left + length picks → ClosureEnds w left m (Over limit.Reductions) → ClosureKeepsRoom w room m before after (Over limit.Reductions)
    used_up left picks appended spent (inl h) = absurd (passes_other w kinds m sound h.0 limit.Reductions h.2)
    used_up left picks appended spent (inr h) =
        let none = h.1 in
        let all : length after ≡ length before + length picks = ap length appended ∙ length-append before picks in
        (omega (arith, none, spent, all), h.2)

    keeps_room : (left : ℕ) (picks : List ℕ) → after ≡ before ++ picks → room ≡ left + length picks → (ending : Ending) → ClosureEnds w left m ending → ClosureKeepsRoom w room m before after ending
    keeps_room left picks appended spent Rest h = tt
    keeps_room left picks appended spent (Clash clash) h = tt
    keeps_room left picks appended spent (Missing port) h = tt
    keeps_room left picks appended spent (Over limit.Reductions) h = used_up left picks appended spent h
    keeps_room left picks appended spent (Over limit.Number) h = other_met limit.Number left (λ e. cc) h
    keeps_room left picks appended spent (Over limit.List) h = other_met limit.List left (λ e. cc) h
    keeps_room left picks appended spent (Over limit.Calls) h = other_met limit.Calls left (λ e. cc) h
    keeps_room left picks appended spent (Over limit.Nest) h = other_met limit.Nest left (λ e. cc) h

pub closures_keep_room : (w : Setting) (kinds : List Bool) (room : ℕ) (m last : Moment) (before after : List ℕ) (ending : Ending) → IsSound w kinds last → ClosureAnswers w room m last before after ending → ClosureKeepsRoom w room last before after ending
closures_keep_room w kinds room m last before after ending sound h = keeps_room w kinds last sound room before after h.left h.made.picks h.made.appended h.made.spent ending h.ends
