-- With which item a closure ends.
use Rattle.std.specs.Prelude.{◌≡◌, ◌⊎◌, ℕ}
use Rattle.tp_kernel.specs.declared.fault.LimitKind.TheVariants.{Reductions}
use Rattle.tp_scene.specs.Step.{Reduction, reduces, clashes, misses, passes}
use Rattle.tp_scene.specs.Pick.{Setting, Moment, outcome_of}
use Rattle.tp_step.specs.declared.ending.Ending.{Ending}
use Rattle.tp_step.specs.declared.ending.Ending.TheVariants.{Rest, Clash, Missing, Over}

-- with so many reductions left a closure ends with this item
abbrev pub EndsWithItem : Setting → (left : ℕ) → Moment → (item : ℕ) → Ending → Type 0
EndsWithItem w k m t Rest = ⊥
EndsWithItem w k m t (Clash clash) = outcome_of w m.store m.scene t ≡ clashes clash
EndsWithItem w k m t (Missing port) = outcome_of w m.store m.scene t ≡ misses port
EndsWithItem w k m t (Over kind) =
    (outcome_of w m.store m.scene t ≡ passes kind)
    ⊎ ((kind ≡ Reductions) × (k ≡ 0)
    × ((r : Reduction) × (outcome_of w m.store m.scene t ≡ reduces r)))
