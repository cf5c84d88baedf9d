-- A cell and a clash that speak of these variables alone.
use Rattle.std.specs.Prelude.{List}
use Rattle.tp_store.specs.Known.{Variable, IsVariableOf}
use Rattle.tp_scene.specs.declared.answer.Cell.{Cell}
use Rattle.tp_scene.specs.declared.answer.Cell.TheVariants.{Part, End}
use Rattle.tp_scene.specs.declared.answer.Clash.{Clash}
use Rattle.tp_scene.specs.declared.answer.Clash.TheVariants.{Facts, Marks, False, NoValue}

abbrev pub CellIsOf : List Variable → Cell → Type 0
CellIsOf xs (Part path) = IsVariableOf xs path.var
CellIsOf xs (End region depth) = Unit {0}

abbrev pub ClashIsOf : List Variable → Clash → Type 0
ClashIsOf xs (Facts kept new) = IsVariableOf xs kept.path.var × IsVariableOf xs new.path.var
ClashIsOf xs (Marks depth) = Unit {0}
ClashIsOf xs False = Unit {0}
ClashIsOf xs (NoValue fault) = Unit {0}
