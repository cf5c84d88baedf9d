-- When the limit on reductions is met.
use Rattle.std.specs.Prelude.{◌≡◌, ◌↔◌, ℕ, ◌+◌, List, length}
use Rattle.tp_kernel.specs.declared.fault.LimitKind.TheVariants as limit
use Rattle.tp_scene.specs.Step.{Reduction, reduces, passes}
use Rattle.tp_scene.specs.Pick.{Setting, Moment, outcome_of}
use Rattle.tp_step.specs.Closes.{Meets}
use Rattle.tp_step.specs.declared.answer.Tried.{Tried}
use Rattle.tp_step.specs.declared.answer.Tried.TheVariants as tried
use Rattle.tp_step.specs.declared.ending.Ending.{Ending}
use Rattle.tp_step.specs.declared.ending.Ending.TheVariants.{Rest, Clash, Missing, Over}

-- A try of the item t answers that this limit is met exactly where no reduction is left and the
-- item would be reduced.
abbrev pub TryKeepsRoom : Setting → (room : ℕ) → Moment → (t : ℕ) → Tried → Type 0
TryKeepsRoom w room m t answer =
    answer ≡ tried.Over limit.Reductions
    ↔ ((room ≡ 0) × ((r : Reduction) × (outcome_of w m.store m.scene t ≡ reduces r)))

-- A closure ends with it where it made as many picks as there may be, and some live item would be
-- reduced; and with another limit where some live item passes that.
abbrev pub ClosureKeepsRoom : Setting → (room : ℕ) → (last : Moment) → (before after : List ℕ)
    → Ending → Type 0
ClosureKeepsRoom w room last before after Rest = Unit {0}
ClosureKeepsRoom w room last before after (Clash clash) = Unit {0}
ClosureKeepsRoom w room last before after (Missing port) = Unit {0}
ClosureKeepsRoom w room last before after (Over limit.Reductions) =
    (length after ≡ length before + room) × ((r : Reduction) × Meets w last (reduces r))
ClosureKeepsRoom w room last before after (Over limit.Number) = Meets w last (passes limit.Number)
ClosureKeepsRoom w room last before after (Over limit.List) = Meets w last (passes limit.List)
ClosureKeepsRoom w room last before after (Over limit.Calls) = Meets w last (passes limit.Calls)
ClosureKeepsRoom w room last before after (Over limit.Nest) = Meets w last (passes limit.Nest)
