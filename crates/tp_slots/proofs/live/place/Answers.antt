-- The place by its parts.
use Rattle.std.proofs.Common.{◌≡◌, ℕ, Bool, sym}
use Rattle.tp_scene.specs.Scene as S
use Rattle.tp_scene.specs.Scene.{Ending, Going}
use Rattle.tp_slots.specs.Places.{place_outward}
use Rattle.tp_slots.specs.Read.{holders_of, slots_of}
use Rattle.tp_slots.proofs.Seeing.{inside, region_is}
use Rattle.tp_slots.proofs.live.place.Goals as goal

by_parts : (r d : ℕ) (ends goes : Bool) (p : S.Place) → r ≡ p.region → d ≡ p.depth → ends ≡ p.is Ending → goes ≡ p.is Going → record { region = r; depth = d; is = λ z. S.marked z (record { number = r; ends = ends; goes = goes }) } ≡ p
by_parts r d ends goes p a b e g = λ i. record { region = a i; depth = b i; is = λ z. side z i }
  where
    side : (z : S.Side) → S.marked z (record { number = r; ends = ends; goes = goes }) ≡ p.is z
    side Ending = e
    side Going = g

pub returns : goal.returns
returns c =
    by_parts c.args.region c.depth-depth.result c.sees-ends.result c.sees-goes.result (place_outward (slots_of c.args.scene.now) (holders_of c.args.scene.now) c.args.region)
    (sym (region_is (slots_of c.args.scene.now) (holders_of c.args.scene.now) c.requires.kept.shape.ordered c.requires.kept.shape.held c.args.region (inside c.args.scene.now c.args.region c.requires.region)))
    c.depth-depth.ensures c.sees-ends.ensures c.sees-goes.ensures
