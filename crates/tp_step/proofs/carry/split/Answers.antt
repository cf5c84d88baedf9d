-- A split is carried out, or none is left.
use Rattle.std.proofs.Common.{refl, arith}
use Rattle.tp_decide.specs.declared.decision.Decision.TheVariants as decision
use Rattle.tp_decide.specs.ReadBound.{formula_of, env_of}
use Rattle.tp_slots.specs.Read.{scene_of}
use Rattle.tp_slots.specs.Reductions.{becomes_split}
use Rattle.tp_step.proofs.CarryLemmas.{carried_decision, full_decision, nothing_added}
use Rattle.tp_step.proofs.carry.split.Goals as goal

pub returns-then-room-eq0-clause-ok : goal.returns-then-room-eq0-clause-ok
returns-then-room-eq0-clause-ok c = full_decision (decision.Splits c.args.first c.args.after) c.args.room c.args.scene.now c.args.item (becomes_split (scene_of c.args.scene.now) (formula_of c.args.first) (env_of c.args.first) (formula_of c.args.after) (env_of c.args.after)) c.if-room-eq0.true (λ k. refl)

pub returns-clause-ok : goal.returns-clause-ok
returns-clause-ok c =
    carried_decision (decision.Splits c.args.first c.args.after) c.args.room c.args.scene.now c.become_split.new.scene c.args.item (becomes_split (scene_of c.args.scene.now) (formula_of c.args.first) (env_of c.args.first) (formula_of c.args.after) (env_of c.args.after)) _ _ c.reduced.ensures (omega (arith, c.if-room-eq0.false)) c.requires.lives (λ k. refl)
    c.in_ok-items.ensures.scene nothing_added (record { items = c.in_ok-items.ensures.news; facts = refl; marked = refl })
