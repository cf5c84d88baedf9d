-- What a closure comes to, whichever items it tries.
use Rattle.std.specs.Prelude.{◌≡◌, ◌⊎◌, ℕ, suc, ◌+◌, Bool, true, false, List, [], ◌∷◌, ◌++◌, length, Option, None, Some}
use Rattle.tp_kernel.specs.declared.fault.LimitKind.TheVariants.{Reductions}
use Rattle.tp_scene.specs.Scene.{has}
use Rattle.tp_scene.specs.Step.{Reduction, PickOutcome, reduces, clashes, misses, passes}
use Rattle.tp_scene.specs.Pick.{Setting, Moment, Reduces, Leads, outcome_of, IsIdle}
use Rattle.tp_scene.specs.Rest.{AtRest}
use Rattle.tp_step.specs.Answers.{Tries}
use Rattle.tp_step.specs.declared.answer.Tried.{Tried}
use Rattle.tp_step.specs.declared.answer.Tried.TheVariants as tried
use Rattle.tp_step.specs.declared.ending.Ending.{Ending}
use Rattle.tp_step.specs.declared.ending.Ending.TheVariants.{Rest, Clash, Missing, Over}

-- some live item has this outcome
abbrev pub Meets : Setting → Moment → PickOutcome → Type 0
Meets w m o = (t : ℕ) × (has t m.scene.root.entries ≡ true) × (outcome_of w m.store m.scene t ≡ o)

-- with so many reductions left a closure ends here: at rest; or where some item meets a clash,
-- misses an input or passes a limit, or would be reduced and no reduction is left
abbrev pub ClosureEnds : Setting → (left : ℕ) → Moment → Ending → Type 0
ClosureEnds w left m Rest = AtRest w m
ClosureEnds w left m (Clash clash) = Meets w m (clashes clash)
ClosureEnds w left m (Missing port) = Meets w m (misses port)
ClosureEnds w left m (Over k) =
    Meets w m (passes k)
    ⊎ ((k ≡ Reductions) × (left ≡ 0) × ((r : Reduction) × Meets w m (reduces r)))

-- Picks lead from one moment to another; they were appended to those before, and each took one of
-- the reductions that were left.
pub record LedByPicks (w : Setting) (m next : Moment) (left left' : ℕ)
    (before after : List ℕ) : Type 0 where
  pub picks : List ℕ
  pub leads : Leads w m picks next
  pub appended : after ≡ before ++ picks
  pub spent : left ≡ left' + length picks

-- What a closure answers: its picks, of which there are at most `room`, and the end that is met
-- where they lead.
pub record ClosureAnswers (w : Setting) (room : ℕ) (m next : Moment) (before after : List ℕ)
    (ending : Ending) : Type 0 where
  pub left : ℕ
  pub made : LedByPicks w m next room left before after
  pub ends : ClosureEnds w left next ending

-- What a look at an item answers: of one that isn't live nothing; else what a try of it does.
abbrev pub LooksAt : Setting → (room : ℕ) → Moment → (item : ℕ) → Moment → Option Tried → Type 0
LooksAt w room m t next None = (has t m.scene.root.entries ≡ false) × (next ≡ m)
LooksAt w room m t next (Some tried) =
    (has t m.scene.root.entries ≡ true) × Tries w room m t next tried

-- where that ends a closure
abbrev pub ending_of : Option Tried → Option Ending
ending_of None = None
ending_of (Some (tried.Reduced news)) = None
ending_of (Some (tried.Waits first other)) = None
ending_of (Some tried.Rests) = None
ending_of (Some (tried.Clash clash)) = Some (Clash clash)
ending_of (Some (tried.Missing port)) = Some (Missing port)
ending_of (Some (tried.Over limit)) = Some (Over limit)

-- the item was reduced
abbrev pub is_pick : Option Tried → Bool
is_pick None = false
is_pick (Some (tried.Reduced news)) = true
is_pick (Some (tried.Waits first other)) = false
is_pick (Some tried.Rests) = false
is_pick (Some (tried.Clash clash)) = false
is_pick (Some (tried.Missing port)) = false
is_pick (Some (tried.Over limit)) = false

-- A pick takes one of the reductions that are left, and is appended to those before.
abbrev pub Counts : (picked : Bool) → (item : ℕ) → (left left' : ℕ) → (before after : List ℕ)
    → Type 0
Counts true t left left' before after = (left ≡ suc left') × (after ≡ before ++ t ∷ [])
Counts false t left left' before after = (left' ≡ left) × (after ≡ before)

-- One item was looked at: it was reduced, or nothing comes of it where it is live; or the closure
-- ends with it.
abbrev pub WasLookedAt : Setting → (item : ℕ) → (m next : Moment) → (left left' : ℕ)
    → (before after : List ℕ) → Option Ending → Type 0
WasLookedAt w t m next left left' before after None =
    ((r : Reduction) × Reduces w m t r next × (left ≡ suc left') × (after ≡ before ++ t ∷ []))
    ⊎ ((has t m.scene.root.entries ≡ true → IsIdle (outcome_of w m.store m.scene t)) × (next ≡ m)
    × (left' ≡ left) × (after ≡ before))
WasLookedAt w t m next left left' before after (Some ending) =
    ClosureEnds w left m ending × (next ≡ m) × (left' ≡ left) × (after ≡ before)
