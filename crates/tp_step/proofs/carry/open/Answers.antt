-- An outer region is begun, or no reduction is left.
use Rattle.std.proofs.Common.{refl, arith}
use Rattle.tp_decide.specs.declared.decision.Decision.TheVariants as decision
use Rattle.tp_decide.specs.ReadBound.{formula_of, env_of}
use Rattle.tp_slots.specs.Read.{scene_of}
use Rattle.tp_slots.specs.Reductions.{becomes_opened}
use Rattle.tp_step.proofs.CarryLemmas.{carried_decision, full_decision, nothing_added}
use Rattle.tp_step.proofs.carry.open.Goals as goal

pub returns-then-room-eq0-clause-ok : goal.returns-then-room-eq0-clause-ok
returns-then-room-eq0-clause-ok c = full_decision (decision.Opens c.args.outer c.args.piece) c.args.room c.args.scene.now c.args.item (becomes_opened (scene_of c.args.scene.now) (formula_of c.args.outer) (env_of c.args.outer) (formula_of c.args.piece) (env_of c.args.piece)) c.if-room-eq0.true (λ k. refl)

pub returns-clause-ok : goal.returns-clause-ok
returns-clause-ok c =
    carried_decision (decision.Opens c.args.outer c.args.piece) c.args.room c.args.scene.now c.become_opened.new.scene c.args.item (becomes_opened (scene_of c.args.scene.now) (formula_of c.args.outer) (env_of c.args.outer) (formula_of c.args.piece) (env_of c.args.piece)) _ _ c.reduced.ensures (omega (arith, c.if-room-eq0.false)) c.requires.lives (λ k. refl)
    c.in_ok-items.ensures.scene nothing_added (record { items = c.in_ok-items.ensures.news; facts = refl; marked = refl })
