-- Moments that are alike have one residual phrase: it names the locals, and doesn't number them.
use Rattle.std.specs.Prelude.{◌≡◌, Bool, List, length}
use Rattle.tp_meaning.specs.Syntax.{Definition}
use Rattle.tp_scene.specs.Pick.{Moment}
use Rattle.tp_scene.specs.Fits.{MomentFits}
use Rattle.tp_step_laws.specs.Alike.{Alike}
use Rattle.tp_residual.specs.Residual.{residual_phrase}

-- what is alike to a moment that fits the program has the residual phrase of this one
abbrev pub AlikeMomentsHaveOnePhrase : Type 0
AlikeMomentsHaveOnePhrase =
    (defs : List Definition) (kinds : List Bool) (m n : Moment) → MomentFits defs kinds m
    → Alike (length kinds) m n
    → residual_phrase n.store.variables defs n.scene
    ≡ residual_phrase m.store.variables defs m.scene
