-- A step commutes with those of the other items, by the laws of orders.
use Rattle.std.proofs.Common.{ℕ}
use Rattle.tp_scene.specs.Pick.{Setting, Moment}
use Rattle.tp_step_laws.proofs.Again.{failures_stay}
use Rattle.tp_step_laws.proofs.Commute.{commute}
use Rattle.tp_step_laws.proofs.MutualFailures.{failures_are_mutual}
use Rattle.tp_step_laws.proofs.Orderly.{steps_stay_orderly}
use Rattle.tp_step.specs.Answers.{Tries}
use Rattle.tp_step.specs.OtherItems.{TryCommutes}
use Rattle.tp_step.specs.declared.answer.Tried.{Tried}
use Rattle.tp_step.specs.declared.answer.Tried.TheVariants as tried

pub tries_commute : (w : Setting) (room : ℕ) (m : Moment) (t : ℕ) (next : Moment) (a : Tried) → Tries w room m t next a → TryCommutes w m t next a
tries_commute w room m t next (tried.Reduced news) h = λ kinds orderly. record {
  orderly = steps_stay_orderly w kinds m t h.0 next orderly h.2;
  steps = λ u other apart step. commute failures_are_mutual w kinds m next other t u apart orderly (h.0, h.2) step;
  failures = λ u apart fails. failures_stay w kinds m next t u apart orderly (h.0, h.2) fails;
}
tries_commute w room m t next (tried.Waits first other) h = tt
tries_commute w room m t next _ h = tt
