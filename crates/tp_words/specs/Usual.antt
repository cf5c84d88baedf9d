-- Words that say a mode and a file alone.
use Rattle.std.specs.Prelude.{ℕ, List, None}
use Rattle.tp_step.specs.declared.order.Order.TheVariants.{First}
use Rattle.tp_words.specs.declared.beside.Beside.TheVariants.{Nothing}
use Rattle.tp_words.specs.declared.mode.Mode.{Mode}
use Rattle.tp_words.specs.Options.{usual_states, usual_reductions}
use Rattle.tp_words.specs.Words.{Wanted}

-- this mode with this file and nothing else said
abbrev pub usual_wanted : Mode → List ℕ → Wanted
usual_wanted mode file =
    record {
      mode = mode;
      file = file;
      inputs = None;
      other = None;
      states = usual_states;
      reductions = usual_reductions;
      order = First;
      beside = Nothing;
    }
