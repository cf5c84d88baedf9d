use Rattle.std.proofs.Common.{sym, ◌∙◌}
use Rattle.std.proofs.lemmas.Bool.{false_from_ne_true}
use Rattle.std.proofs.lemmas.Bool.Decides.{Decides-eqb}
use Rattle.tp_store.proofs.Room.{steps_past, steps_out, steps_apart}
use Rattle.tp_store.proofs.keeping.indices_behind.Goals.{then-loop-shared-test+then-shared-second+else-first-shared, then-loop-shared-test+else-shared-second, else-loop-shared-test}
use Rattle.tp_store.proofs.keeping.indices_behind.Goals as goal

pub returns : goal.returns
returns c = elim c.loop-shared-test.branch [
  | then-loop-shared-test+then-shared-second+else-first-shared w ↦ sym (steps_apart c.args.first.now c.args.second.now c.loop-shared.shared w.loop-shared-test.true w.if-shared-second.true (false_from_ne_true _ (λ e. w.if-first-shared.false ((Decides-eqb _ _).0 e)))) ∙ c.loop-shared.invariant.behind
  | then-loop-shared-test+else-shared-second w ↦ sym (steps_out c.args.first.now c.args.second.now c.loop-shared.shared w.if-shared-second.false) ∙ c.loop-shared.invariant.behind
  | else-loop-shared-test w ↦ sym (steps_past c.args.first.now c.args.second.now c.loop-shared.shared w.loop-shared-test.false) ∙ c.loop-shared.invariant.behind
]
