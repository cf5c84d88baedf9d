-- What a settled moment stands for, as every store without a clash has a state that agrees.
use Rattle.std.proofs.Common.{Bool, List, length}
use Rattle.tp_store.proofs.Members.{agrees_in}
use Rattle.tp_store.proofs.Chosen.{has_agreeing_state}
use Rattle.tp_scene.specs.Pick.{Setting, Moment}
use Rattle.tp_scene.specs.Laws.{IsSound, EndsStand, AdvancesKeep}
use Rattle.tp_scene.proofs.Stands.{LocalsHaveValues, ends_stand, advance_stands}

local_values : (w : Setting) (kinds : List Bool) (m : Moment) → IsSound w kinds m → LocalsHaveValues (length kinds) m.store.facts
local_values w kinds m sound = let x = has_agreeing_state m.store.variables m.store.facts sound.store.no_clash sound.store.facts in (x.0, (λ f i l. agrees_in x.0 m.store.facts x.1 f i))

pub all_ends_stand : EndsStand
all_ends_stand w kinds m sound e = ends_stand w kinds m sound (local_values w kinds m sound) e

pub all_advances_keep : AdvancesKeep
all_advances_keep w kinds m next sound e is on = advance_stands w kinds m sound (local_values w kinds m sound) next is on e
