-- The places that the code holds.
use Rattle.tp_value.specs.Read.{tree}
use Rattle.tp_eval.specs.declared.places.PlaceFound.{PlaceFound}
use Rattle.tp_eval.specs.declared.places.PlaceFound.TheVariants.{At, Inside}
use Rattle.tp_eval.specs.Evaluate as evaluated

-- a place with its value's tree
abbrev pub place_in : PlaceFound → evaluated.PlaceFound
place_in (At p) = evaluated.at_path p
place_in (Inside v at) = evaluated.inside (tree v.value) at
