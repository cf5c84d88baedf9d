use Rattle.std.proofs.Common.{sym, ◌∙◌}
use Rattle.tp_slots.specs.Kept.{region_place_of}
use Rattle.tp_slots.proofs.Marks.{status_ends, status_goes, status_open}
use Rattle.tp_slots.proofs.status.mark_within.Goals as goal

pub returns-then-sees : goal.returns-then-sees
returns-then-sees c = status_ends (region_place_of c.args.scene.now c.args.region) (sym c.sees.ensures ∙ c.if-sees.true)

pub returns-then-sees-2 : goal.returns-then-sees-2
returns-then-sees-2 c =
    status_goes (region_place_of c.args.scene.now c.args.region) (sym c.sees.ensures ∙ c.if-sees.false) (sym c.sees-else-sees.ensures ∙ c.if-sees-2.true)

pub returns-else-sees-2 : goal.returns-else-sees-2
returns-else-sees-2 c =
    status_open (region_place_of c.args.scene.now c.args.region) (sym c.sees.ensures ∙ c.if-sees.false) (sym c.sees-else-sees.ensures ∙ c.if-sees-2.false)
