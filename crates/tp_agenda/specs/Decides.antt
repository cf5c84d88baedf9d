-- What decides the cells that items wait for.
use Rattle.std.specs.Prelude.{◌||◌, ◌&&◌, ℕ, Bool, true, false, eqb, List, [], ◌∷◌, Option, Some, None}
use Rattle.tp_value.specs.declared.path.VarId.{VarId}
use Rattle.tp_value.specs.declared.path.Path.{Path}
use Rattle.tp_value.specs.declared.path.Fact.{Fact}
use Rattle.tp_store.specs.Facts.{same_variable}
use Rattle.tp_scene.specs.declared.answer.Cell.{Cell}
use Rattle.tp_scene.specs.declared.answer.Cell.TheVariants.{Part, End}
use Rattle.tp_scene.specs.Decided.{decides_path}
use Rattle.tp_step.specs.declared.tally.Wait.{Wait}

-- a cell of it passes the test
abbrev pub other_passes : (Cell → Bool) → Option Cell → Bool
other_passes test None = false
other_passes test (Some c) = test c

abbrev pub has_passing : (Cell → Bool) → Wait → Bool
has_passing test w = test w.first || other_passes test w.other

-- Tests of cells: the fact decides the path; it is a place in this variable's value; it is the end
-- of this region.
abbrev pub fact_decides : Fact → Cell → Bool
fact_decides f (Part p) = decides_path f p
fact_decides f (End region depth) = false

abbrev pub is_place_of : VarId → Cell → Bool
is_place_of x (Part p) = same_variable x p.var
is_place_of x (End region depth) = false

abbrev pub is_end_of : ℕ → Cell → Bool
is_end_of r (Part p) = false
is_end_of r (End region depth) = eqb region r

-- it is the end of a region of which that is known
abbrev pub ends_decide : (ℕ → Bool) → Cell → Bool
ends_decide known (Part p) = false
ends_decide known (End region depth) = known region

-- The first of these indices are the others; a place within which the other one is, or that place
-- itself.
abbrev pub leads_into : List ℕ → List ℕ → Bool
leads_into [] ks = true
leads_into (j ∷ js) [] = false
leads_into (j ∷ js) (k ∷ ks) = eqb j k && leads_into js ks

abbrev pub holds_path : Path → Path → Bool
holds_path q p = same_variable q.var p.var && leads_into q.at p.at
