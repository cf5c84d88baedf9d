use Rattle.std.proofs.Common.{sym, subst}
use Rattle.tp_meaning.specs.Interval.{kinds_of}
use Rattle.tp_kernel.specs.Read.{definitions_of}
use Rattle.tp_inputs.specs.Read.{inputs_of}
use Rattle.tp_scene.specs.Pick.{Setting}
use Rattle.tp_scene.specs.Laws.{IsSound}
use Rattle.tp_step.specs.Answers.{moment_of}
use Rattle.tp_tests.proofs.closing.begin.Goals as goal

pub returns-clause-sound : goal.returns-clause-sound
returns-clause-sound c =
    let names = c.args.program.now.globals in
    let kinds = kinds_of names in
    let w : Setting = record { defs = definitions_of c.args.program.now.defs; inputs = inputs_of c.args.inputs.now; state = 0 } in
    let sound = c.in_ok-scene.ensures.sound w names c.requires.defs c.requires.main in
    (kinds, subst (λ store. IsSound w kinds (moment_of c.in_ok-scene.scene store)) (sym c.in_ok-store.ensures) sound)
