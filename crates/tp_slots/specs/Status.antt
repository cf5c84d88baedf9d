-- The status of live regions by number.
use Rattle.std.specs.Prelude.{ℕ, eqb, Option, Some, None, if◌then◌else◌}
use Rattle.std.specs.Option.{option_map}
use Rattle.tp_scene.specs.Scene as S
use Rattle.tp_scene.specs.Scene.{Ending, Going, Entries, none, leaf, node, second_lives, Place, root_place, held_place, second_place}
use Rattle.tp_slots.specs.declared.scene.Mark.{Mark}
use Rattle.tp_slots.specs.declared.scene.Mark.TheVariants.{Open, Ends, Goes}

abbrev pub either_place : Option Place → Option Place → Option Place
either_place (Some p) o = Some p
either_place None o = o

-- the place of the items of the live region with this number, among those that entries of a region
-- of place p hold
abbrev pub place_found : ℕ → Entries → Place → Option Place
place_found r none p = None
place_found r (leaf id l rest) p = place_found r rest p
place_found r (node id k h held g second rest) p =
    either_place (if eqb h.number r then Some (held_place k h held p)
    else place_found r held (held_place k h held p))
    (either_place (if second_lives k
    then (if eqb g.number r then Some (second_place g second p)
    else place_found r second (second_place g second p)) else None)
    (place_found r rest p))

-- and of any live region of a scene
abbrev pub place_in_scene : ℕ → S.Scene → Option Place
place_in_scene r s =
    if eqb s.root.head.number r then Some (root_place s.root)
    else place_found r s.root.entries (root_place s.root)

-- what an item of that place sees of its region
abbrev pub status : Place → Mark
status p = if p.is Ending then Ends else (if p.is Going then Goes else Open)

-- and what each live region of a scene is
abbrev pub region_mark : ℕ → S.Scene → Option Mark
region_mark r s = option_map status (place_in_scene r s)
