-- A command as what words ask for.
use Rattle.std.specs.Prelude.{option_map, string_bytes}
use Rattle.tp_words.specs.declared.command.Command.{Command}
use Rattle.tp_words.specs.Words.{Wanted}

-- what a command does, of whatever words
abbrev pub wanted_by : Command → Wanted
wanted_by c =
    record {
      mode = c.mode;
      file = string_bytes c.file;
      inputs = option_map string_bytes c.inputs;
      other = option_map string_bytes c.other;
      states = c.states;
      reductions = c.reductions;
      order = c.order;
      beside = c.beside;
    }
