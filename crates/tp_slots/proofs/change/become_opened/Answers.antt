-- What holds the new region is an opened region's item.
use Rattle.std.proofs.Common.{◌≡◌, length, None, refl, rules}
use Rattle.tp_decide.specs.ReadBound.{env_of, formula_of}
use Rattle.tp_scene.specs.Scene as S
use Rattle.tp_slots.specs.Plain as plain
use Rattle.tp_slots.proofs.change.become_opened.Goals as goal

pub become_holder-requires-clause-one : goal.become_holder-requires-clause-one
become_holder-requires-clause-one c =
    let holder = S.Opened (formula_of c.args.piece) (env_of c.args.piece) in
    let number : c.len-outer.result ≡ length c.args.scene.now.regions.items = search rules in
    (holder, (λ i. plain.holds holder (number i) None), refl)
