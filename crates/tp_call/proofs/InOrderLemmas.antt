-- A call names the failure that the order of the words meets.
use Rattle.std.proofs.Common.{◌≡◌, inl, inr, ℕ, List, Option, None, sym, subst}
use Rattle.tp_io.specs.Held.{Held}
use Rattle.tp_step.specs.declared.order.Order.{Order}
use Rattle.tp_run.specs.History.{Plan}
use Rattle.tp_call.specs.declared.run.Task.{Task}
use Rattle.tp_call.specs.declared.status.Status.{Status}
use Rattle.tp_call.specs.declared.status.Status.TheVariants.{Finished, Done, Contradictory, Undetermined, StateLimit, ReductionLimit, NumberLimit, ListLimit, CallLimit, NestLimit, InputMissing}
use Rattle.tp_call.specs.Task.{plan_of, IsTaskFor}
use Rattle.tp_call.specs.Run.{IsEndOfRun}
use Rattle.tp_call.specs.Answer.{Refuses}
use Rattle.tp_call.specs.Parts.{IsProgramRefusal, ClosesText}
use Rattle.tp_call.specs.InOrder.{StatusInOrder, FailsInOrder}
use Rattle.tp_call.proofs.EndKinds.{EndsRun}
use Rattle.tp_call.proofs.TurnLemmas.{end_seen}
use Rattle.tp_call.proofs.EveryOrderLemmas.{one_plan}
use Rattle.tp_call.proofs.OrderLemmas.{no_end_in_order, closes_with}

module _ (words : List (List ℕ)) (held : Option Held) where
  -- a run of the task that is asked for
  pub task_in_order : (task : Task) → IsTaskFor words held task → (result : Status) → StatusInOrder (plan_of task) task.order result → FailsInOrder words held result
  task_in_order task is result named = λ files told plan asked.
      let same : plan ≡ plan_of task = one_plan words held None None files told plan (plan_of task) asked is.asked_for in
      let order : asked.wanted.order ≡ task.order = is.order asked.wanted asked.accepted in
      let here : StatusInOrder plan task.order result = subst (λ (p : Plan). StatusInOrder p task.order result) (sym same) named in
      subst (λ (o : Order). StatusInOrder plan o result) (sym order) here

  -- no run ended
  no_run_in_order : (result : Status) → (EndsRun result → ⊥) → FailsInOrder words held result
  no_run_in_order result never = λ files told plan asked. no_end_in_order plan asked.wanted.order result never

  -- a refusal isn't the end of a run
  refuses_no_run : (status : Status) → EndsRun status → Refuses words held status → ⊥
  refuses_no_run (Finished length) end r = r
  refuses_no_run (Contradictory state clash) end r = r
  refuses_no_run (Undetermined state cell) end r = r
  refuses_no_run (StateLimit states) end r = r
  refuses_no_run (ReductionLimit state) end r = r
  refuses_no_run (NumberLimit state) end r = r
  refuses_no_run (ListLimit state) end r = r
  refuses_no_run (CallLimit state) end r = r
  refuses_no_run (NestLimit state) end r = r
  refuses_no_run (InputMissing state port) end r = r
  refuses_no_run status end r = end

  refusal_no_run : (status : Status) → IsProgramRefusal words held status → EndsRun status → ⊥
  refusal_no_run status (inl memory) end = subst EndsRun memory end
  refusal_no_run status (inr refused) end = refuses_no_run status end refused

  refused_no_run : (status result : Status) (line : List ℕ) (old new : Option (List ℕ)) → IsProgramRefusal words held status → ClosesText line status old new result → EndsRun result → ⊥
  refused_no_run status result line old new refused c end = refusal_no_run status refused (subst EndsRun (closes_with line status old new result c end) end)

  -- so nothing was tried for it
  pub refused_untried : (status result : Status) (line : List ℕ) (old new : Option (List ℕ)) → IsProgramRefusal words held status → ClosesText line status old new result → IsEndOfRun result → ⊥
  refused_untried status result line old new refused c end = refused_no_run status result line old new refused c (end_seen result end)

  pub refused_in_order : (status result : Status) (line : List ℕ) (old new : Option (List ℕ)) → IsProgramRefusal words held status → ClosesText line status old new result
      → FailsInOrder words held result
  refused_in_order status result line old new refused c =
      no_run_in_order result (refused_no_run status result line old new refused c)

  -- a source that was printed isn't either
  printed_no_run : (result : Status) (line : List ℕ) (old new : Option (List ℕ)) → ClosesText line Done old new result → EndsRun result → ⊥
  printed_no_run result line old new c end = subst EndsRun (closes_with line Done old new result c end) end

  pub printed_untried : (result : Status) (line : List ℕ) (old new : Option (List ℕ)) → ClosesText line Done old new result → IsEndOfRun result → ⊥
  printed_untried result line old new c end = printed_no_run result line old new c (end_seen result end)

  pub printed_in_order : (result : Status) (line : List ℕ) (old new : Option (List ℕ)) → ClosesText line Done old new result → FailsInOrder words held result
  printed_in_order result line old new c = no_run_in_order result (printed_no_run result line old new c)
