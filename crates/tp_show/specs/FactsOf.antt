-- The facts of a text, and the text of several settled states.
use Rattle.std.specs.Prelude.{ℕ, List, map}
use Rattle.std.specs.List.{flat_map}
use Rattle.tp_value.specs.declared.path.Fact.{Fact}
use Rattle.tp_store.specs.Known.{NoClash, AreOfVariables, global_variable}
use Rattle.tp_show.specs.declared.turn.Picture.{Picture}
use Rattle.tp_show.specs.Line.{AreInOrder, picture_lines}

-- These are facts of the variables with these names, in order and without a clash.
pub record AreFactsOf (names : List (List ℕ)) (facts : List Fact) : Type 0 where
  pub order : AreInOrder facts
  pub no_clash : NoClash facts
  pub of_variables : AreOfVariables (map global_variable names) facts

-- the text of several settled states
abbrev pub pictures_text : (names : List (List ℕ)) → List Picture → List ℕ
pictures_text names pictures = flat_map (picture_lines names) pictures
