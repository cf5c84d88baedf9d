-- What a run begins with.
use Rattle.std.specs.Prelude.{ℕ, List, []}
use Rattle.tp_meaning.specs.Syntax.{FormulaTree}
use Rattle.tp_store.specs.Known.{new_store}
use Rattle.tp_scene.specs.Scene.{Do, none, leaf, new_head, Scene}
use Rattle.tp_scene.specs.Pick.{Moment}

-- a scene whose one item is the formula
abbrev pub started : FormulaTree → Scene
started main =
    record {
      root = record { head = new_head 0; entries = leaf 0 (Do main []) none };
      next_item = 1;
      next_region = 1;
    }

-- what a run begins with
abbrev pub first_moment : (names : List (List ℕ)) → FormulaTree → Moment
first_moment names main = record { scene = started main; store = new_store names }
