use Rattle.std.proofs.Common.{refl, arith}
use Rattle.tp_show.specs.declared.turn.Turn.TheVariants.{Went, Finished, Undetermined}
use Rattle.tp_run.proofs.Tallies.{settled_tries}
use Rattle.tp_run.proofs.run.Settings.make_at_rest.Goals as goal

pub returns-in-Goes-clause-steps : goal.returns-in-Goes-clause-steps
returns-in-Goes-clause-steps g c = settled_tries Went refl _ _ c.go_on.ensures.turn

pub returns-in-Ends-clause-steps : goal.returns-in-Ends-clause-steps
returns-in-Ends-clause-steps g c = settled_tries (Finished _) refl _ _ c.finish.ensures.turn

pub returns-in-EndOpen-clause-steps : goal.returns-in-EndOpen-clause-steps
returns-in-EndOpen-clause-steps g c = settled_tries (Undetermined _ _) (omega arith) _ _ c.stop-in-EndOpen.ensures.turn
