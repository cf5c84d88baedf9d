-- A failure of a state is the one that its order meets.
use Rattle.std.proofs.Common.{◌≡◌, ℕ, List, [], subst}
use Rattle.tp_scene.specs.Pick.{Setting, Moment}
use Rattle.tp_store.specs.Known.{Contents}
use Rattle.tp_step.specs.declared.order.Order.{Order}
use Rattle.tp_step.specs.declared.ending.Ending.{Ending}
use Rattle.tp_step.specs.declared.tally.Wait.{Wait}
use Rattle.tp_agenda.specs.Agenda.{FollowsAgenda}
use Rattle.tp_show.specs.declared.turn.Picture.{Picture}
use Rattle.tp_show.specs.declared.turn.Turn.{Turn}
use Rattle.tp_show.specs.declared.turn.Turn.TheVariants.{Went, Finished, Contradictory, Undetermined, StateLimit, InputMissing, Over}
use Rattle.tp_run.specs.declared.run.Run.{Run}
use Rattle.tp_run.specs.History.{Plan, setting}
use Rattle.tp_run.specs.Standing.{Standing, open_at}
use Rattle.tp_run.specs.Runs.{IsRunOf, RestTurns}
use Rattle.tp_run.specs.Ordered.{EndsInOrder, IsNamedInOrder}
use Rattle.tp_run.proofs.Becomes.{read_with, run_setting}

-- what a closure in this order ended with, where nothing was picked before it
pub ends_in_order : (w : Setting) (order o : Order) (room k : ℕ) (m last : Moment) (before after : List ℕ) (ws : List Wait) (rs : List ℕ) (end e : Ending)
    → FollowsAgenda w o k m last before after ws rs e → o ≡ order → k ≡ room → before ≡ [] → e ≡ end → EndsInOrder w order room m end
ends_in_order w order o room k m last before after ws rs end e h a b c d =
    let f : FollowsAgenda w order k m last before after ws rs e = subst (λ x. FollowsAgenda w x k m last before after ws rs e) a h in
    let g : FollowsAgenda w order room m last before after ws rs e = subst (λ x. FollowsAgenda w order x m last before after ws rs e) b f in
    let i : FollowsAgenda w order room m last [] after ws rs e = subst (λ x. FollowsAgenda w order room m last x after ws rs e) c g in
    (last, after, ws, rs, subst (λ x. FollowsAgenda w order room m last [] after ws rs x) d i)

-- a state at rest fails in nothing
pub rest_named : (w v : Setting) (order : Order) (room globals k : ℕ) (m n : Moment) (old new : Picture) (standing : Standing) (store : Contents) (turn : Turn)
    → RestTurns v globals k n old new standing store turn → IsNamedInOrder w order room m turn
rest_named w v order room globals k m n old new standing store Went h = tt
rest_named w v order room globals k m n old new standing store (Finished length) h = tt
rest_named w v order room globals k m n old new standing store (Contradictory state clash) h = absurd h
rest_named w v order room globals k m n old new standing store (Undetermined state cell) h = tt
rest_named w v order room globals k m n old new standing store (StateLimit states) h = tt
rest_named w v order room globals k m n old new standing store (InputMissing state port) h = absurd h
rest_named w v order room globals k m n old new standing store (Over state limit) h = absurd h

-- as its plan says, where a run reads it
pub named_by_plan : (plan : Plan) (run : Run) (m n : Moment) (turn : Turn) → IsRunOf plan run → open_at n ≡ open_at m
    → IsNamedInOrder (read_with run) run.order run.limits.reductions n turn → IsNamedInOrder (setting plan run.state) run.order plan.reductions m turn
named_by_plan plan run m n turn h at named =
    let same : n ≡ m = cc in
    let a = subst (λ w. IsNamedInOrder w run.order run.limits.reductions n turn) (run_setting plan run h) named in
    let b = subst (λ k. IsNamedInOrder (setting plan run.state) run.order k n turn) h.reductions a in
    subst (λ z. IsNamedInOrder (setting plan run.state) run.order plan.reductions z turn) same b
