-- What the store of a run keeps.
use Rattle.std.proofs.Common.{◌≡◌, ℕ, List, [], ◌∷◌, ◌++◌, Option, Some, None, refl, ap, sym, ◌∙◌, subst, append_assoc}
use Rattle.std.proofs.lemmas.List.{append-nil}
use Rattle.tp_store.specs.Known.{Contents, Variable}
use Rattle.tp_store.specs.Stock.{contents_in}
use Rattle.tp_scene.specs.Pick.{Setting, Moment, Leads, with_local}
use Rattle.tp_slots.specs.declared.scene.Scene.{Scene}
use Rattle.tp_step.specs.Answers.{moment_of}
use Rattle.tp_run.specs.declared.run.Run.{Run}
use Rattle.tp_run.specs.declared.run.Stand.{Stand}
use Rattle.tp_run.specs.declared.run.Stand.TheVariants.{Open, Answered, Spent}
use Rattle.tp_show.specs.declared.turn.Picture.{Picture}
use Rattle.tp_show.specs.declared.turn.Turn.{Turn}
use Rattle.tp_show.specs.declared.turn.Turn.TheVariants.{Went, Finished, Contradictory, Undetermined, StateLimit, InputMissing, Over}
use Rattle.tp_kernel.specs.declared.fault.LimitKind.TheVariants as kind
use Rattle.tp_kernel.specs.declared.fault.LimitKind.{LimitKind}
use Rattle.tp_run.specs.History.{Plan, setting, ReachesLimit, limit_moment}
use Rattle.tp_run.specs.Standing.{Standing, open_at, answered, StateBecomes}
use Rattle.tp_run.specs.Runs.{stands_at, HasFirst}

-- where a run stands before a state, its store is what the state begins with
pub store_before : (stand : Stand) (store : Contents) (m : Moment) → stands_at stand store ≡ open_at m → store ≡ m.store
store_before (Open scene) store m h = let same : moment_of scene store ≡ m = cc in ap (λ (z : Moment). z.store) same
store_before (Answered turn scene) store m h = absurd (cc)
store_before Spent store m h = absurd (cc)

-- at a run's end its scene and its store are the moment that it stands at
pub moment_at_end : (stand : Stand) (store : Contents) (turn : Turn) (m : Moment) → stands_at stand store ≡ answered turn m
    → (scene : Scene) × (stand ≡ Answered turn scene) × (moment_of scene store ≡ m)
moment_at_end (Open scene) store turn m h = absurd (cc)
moment_at_end (Answered last scene) store turn m h =
    let same : last ≡ turn = cc in
    (scene, ap (λ (t : Turn). Answered t scene) same, cc)
moment_at_end Spent store turn m h = absurd (cc)

-- the first variables stay, and picks make more
first_all : (xs ys : List Variable) → ys ≡ xs → HasFirst xs ys
first_all xs ys e = ([], e ∙ sym (append-nil xs))

first_on : (xs ys zs : List Variable) → HasFirst xs ys → HasFirst ys zs → HasFirst xs zs
first_on xs ys zs h g = (h.0 ++ g.0, g.1 ∙ ap (λ us. us ++ g.0) h.1 ∙ append_assoc xs h.0 g.0)

first_local : (o : Option Variable) (xs ys : List Variable) → ys ≡ with_local o xs → HasFirst xs ys
first_local None xs ys e = first_all xs ys e
first_local (Some x) xs ys e = (x ∷ [], e)

picks_make_more : (w : Setting) (picks : List ℕ) (m last : Moment) → Leads w m picks last → HasFirst m.store.variables last.store.variables
picks_make_more w [] m last h = first_all m.store.variables last.store.variables (ap (λ (z : Moment). z.store.variables) h)
picks_make_more w (t ∷ ts) m last h =
    first_on m.store.variables h.1.store.variables last.store.variables (first_local h.0.local m.store.variables h.1.store.variables h.2.store.variables) (picks_make_more w ts h.1 last h.3)

module _ (plan : Plan) (n : ℕ) (m : Moment) (old new : Picture) (standing : Standing) (store : Contents) where
  led : (picks : List ℕ) (last : Moment) → Leads (setting plan n) m picks last → store ≡ last.store → HasFirst m.store.variables store.variables
  led picks last leads e = subst (λ (k : Contents). HasFirst m.store.variables k.variables) (sym e) (picks_make_more (setting plan n) picks m last leads)

  reached : (k : LimitKind) (end : ReachesLimit (setting plan n) plan.reductions m k) → store ≡ (limit_moment (setting plan n) plan.reductions m k end).store → HasFirst m.store.variables store.variables
  reached kind.Reductions end e = led end.picks end.last end.leads e
  reached kind.Number end e = led end.picks end.last end.leads e
  reached kind.List end e = led end.picks end.last end.leads e
  reached kind.Calls end e = led end.picks end.last end.leads e
  reached kind.Nest end e = led end.picks end.last end.leads e

  pub first_stay : (turn : Turn) → StateBecomes plan n m old new standing store turn → HasFirst m.store.variables store.variables
  first_stay Went h =
      let more = picks_make_more (setting plan n) h.1.picks m h.1.last h.1.goes.closes.leads in
      first_on m.store.variables h.1.last.store.variables store.variables more (first_all h.1.last.store.variables store.variables (ap (λ (k : Contents). k.variables) h.3 ∙ h.1.goes.store.variables))
  first_stay (Finished length) h = led h.0.picks h.0.last h.0.ends.closes.leads h.3
  first_stay (Contradictory state clash) h = led h.0.picks h.0.last h.0.leads h.5
  first_stay (Undetermined state cell) h = led h.0.picks h.0.last h.0.closes.leads h.5
  first_stay (StateLimit states) h = first_all m.store.variables store.variables (ap (λ (k : Contents). k.variables) h.4)
  first_stay (InputMissing state port) h = led h.0.picks h.0.last h.0.leads h.5
  first_stay (Over state limit) h = reached limit h.0 h.5

-- a store that stays
pub all_stay : (k : Contents) → HasFirst k.variables k.variables
all_stay k = first_all k.variables k.variables refl

-- the same of a run that stood before this state
module _ (plan : Plan) (run : Run) (m : Moment) (same : m.store ≡ contents_in run.store) (old new : Picture) (standing : Standing) (store : Contents) (turn : Turn)
    (becomes : StateBecomes plan run.state m old new standing store turn) where
  pub leaves_variables : HasFirst run.store.variables store.variables
  leaves_variables = subst (λ (k : Contents). HasFirst k.variables store.variables) same (first_stay plan run.state m old new standing store turn becomes)
