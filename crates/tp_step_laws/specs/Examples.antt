-- An example that shows why kept lengths have to be within the limit: a sound moment whose end
-- depends on the order of picks.
use Rattle.std.specs.Prelude.{◌≡◌, pos, Bool, false, List, [], ◌∷◌}
use Rattle.tp_value.specs.declared.value.Shape.TheVariants.{Items}
use Rattle.tp_value.specs.declared.path.VarId.{VarId}
use Rattle.tp_kernel.specs.declared.fault.LimitKind.TheVariants as limit
use Rattle.tp_meaning.specs.Syntax.{equation, global, numeral, size}
use Rattle.tp_store.specs.Facts.{fact}
use Rattle.tp_store.specs.Known.{Contents}
use Rattle.tp_scene.specs.Scene.{Do, none, leaf, new_head}
use Rattle.tp_scene.specs.Step.{passes}
use Rattle.tp_scene.specs.Pick.{Setting, Moment, Leads, outcome_of}
use Rattle.tp_scene.specs.Rest.{AtRest}
use Rattle.tp_scene.specs.Laws.{IsSound}

-- two variables, P and R
abbrev pub p_then_r : List Bool
p_then_r = false ∷ false ∷ []

abbrev pub variable_p : VarId
variable_p = record { number = 0; lasting = false }

abbrev pub variable_r : VarId
variable_r = record { number = 1; lasting = false }

abbrev pub no_program : Setting
no_program = record { defs = []; inputs = []; state = 0 }

-- P is kept to have 70000 items, which is past the limit of lengths, and R isn't known
abbrev pub long_store : Contents
long_store = record {
  facts = fact (record { var = variable_p; at = [] }) (Items 70000) ∷ [];
  variables = record { name = 80 ∷ []; lasting = false } ∷
      record { name = 82 ∷ []; lasting = false } ∷ [];
}

-- the items `|P| = R`, which is item 0, and `R = 70000`, which is item 1
abbrev pub length_then_value : Moment
length_then_value = record {
  scene = record {
    root = record {
      head = new_head 0;
      entries = leaf 0 (Do (equation (size (global variable_p)) (global variable_r)) [])
          (leaf 1 (Do (equation (global variable_r) (numeral (pos 70000))) []) none);
    };
    next_item = 2;
    next_region = 1;
  };
  store = long_store;
}

-- The moment is sound. Picking `|P| = R` first, and then `R = 70000`, leads to rest. Picking `R =
-- 70000` first makes `|P| = R` pass the limit.
pub record OrderDecides : Type 0 where
  pub sound : IsSound no_program p_then_r length_then_value
  pub rests : (last : Moment) × Leads no_program length_then_value (0 ∷ 1 ∷ []) last
      × AtRest no_program last
  pub fails : (last : Moment) × Leads no_program length_then_value (1 ∷ []) last
      × (outcome_of no_program last.store last.scene 0 ≡ passes limit.List)
