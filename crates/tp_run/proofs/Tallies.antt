-- The tally of a state is that of the closure by which it got its answer, and counts its tries.
use Rattle.std.proofs.Common.{◌≡◌, ℕ, ◌+◌, ◌≤◌, ◌<◌, List, [], ◌++◌, length, Result, Ok, Err, IfOk, refl, ap, sym, ◌∙◌, subst, arith}
use Rattle.tp_decide.specs.Decided.{setting_of}
use Rattle.tp_store.specs.Known.{Contents}
use Rattle.tp_scene.specs.Pick.{Setting, Moment}
use Rattle.tp_step.specs.declared.tally.Tally.{Tally}
use Rattle.tp_step.specs.declared.ending.Ending.{Ending}
use Rattle.tp_step.specs.declared.ending.Ending.TheVariants as ending
use Rattle.tp_agenda.specs.Agenda.{FollowsAgenda, IsThrifty}
use Rattle.tp_agenda.specs.Counted.{CountsTries, last_tries}
use Rattle.tp_run.specs.declared.run.Made.{Made}
use Rattle.tp_run.specs.declared.run.Settings.{Settings}
use Rattle.tp_show.specs.declared.turn.Picture.{Picture}
use Rattle.tp_show.specs.declared.turn.Turn.{Turn}
use Rattle.tp_show.specs.declared.turn.Turn.TheVariants.{Went, Finished, Contradictory, Undetermined, StateLimit, InputMissing, Over}
use Rattle.tp_run.specs.declared.run.Run.{Run}
use Rattle.tp_run.specs.History.{Plan, setting}
use Rattle.tp_run.specs.Standing.{Standing, open_at}
use Rattle.tp_run.specs.Runs.{IsSettingsOf, IsRunOf, standing_of}
use Rattle.tp_run.specs.Ordered.{waits_in, TriesBeyond}
use Rattle.tp_run.specs.StateTries.{IsEndingFor, IsTallyOf, CountsStateTries, BeginsNoState}
use Rattle.tp_run.proofs.Becomes.{BecomesBy, same_setting}

-- the tally of the closure by whose picks the state becomes so
module _ (plan : Plan) (settings : Settings) (is : IsSettingsOf plan settings) (m last : Moment) (old new : Picture) (standing : Standing) (store : Contents) (turn : Turn) (tally : Tally)
    (before : List ℕ) (found : Ending) where
  abbrev n : ℕ
  n = settings.setting.state

  abbrev Follows : Setting → ℕ → Moment → List ℕ → Type 0
  Follows w room z xs = FollowsAgenda w settings.order room m z xs tally.picks (waits_in tally) tally.rests found

  pub is_tally : BecomesBy plan n m old new standing store turn tally.picks last found → before ≡ [] → Follows (setting_of settings.setting) settings.limits.reductions last before
      → IsThrifty (waits_in tally) tally.rests → IsTallyOf plan settings.order n m old new standing store turn tally
  is_tally by first follows thrifty =
      let here = subst (λ (w : Setting). Follows w settings.limits.reductions last before) (same_setting plan settings is) follows in
      let most = subst (λ k. Follows (setting plan n) k last before) is.reductions here in
      let alone = subst (λ (xs : List ℕ). Follows (setting plan n) plan.reductions last xs) first most in
      record {
        becomes = by.becomes;
        found = found;
        ends = by.ends;
        closes = record {
          picks_are = by.picks_are;
          agenda = subst (λ (z : Moment). Follows (setting plan n) plan.reductions z []) (sym by.leads_to) alone;
          thrifty = thrifty;
        };
      }

-- a closure that isn't at rest ends with a try that no tally records
pub stop_beyond : (turn : Turn) (end : Ending) → IsEndingFor turn end → last_tries end ≡ 1 → TriesBeyond turn 1
stop_beyond Went end is one = let none : last_tries end ≡ 0 = ap last_tries is in absurd (omega (arith, one, none))
stop_beyond (Finished length) end is one = let none : last_tries end ≡ 0 = ap last_tries is in absurd (omega (arith, one, none))
stop_beyond (Contradictory state clash) end is one = refl
stop_beyond (Undetermined state cell) end is one = omega arith
stop_beyond (StateLimit states) end is one = absurd is
stop_beyond (InputMissing state port) end is one = refl
stop_beyond (Over state kind) end is one = refl

-- the count of tries rises by what the closure counts, and by what is tried after it
module _ (old mid new more : ℕ) (before : List ℕ) (tally : Tally) (turn : Turn) (end : Ending) (counts : CountsTries old mid before tally.picks (waits_in tally) tally.rests end) (first : before ≡ []) where
  pub counts_state : TriesBeyond turn (last_tries end + more) → new ≡ mid + more → CountsStateTries old new tally turn
  counts_state beyond rose =
      let own : tally.picks ≡ counts.picks = counts.appended ∙ ap (λ (xs : List ℕ). xs ++ counts.picks) first in
      let size : length tally.picks ≡ length counts.picks = ap (λ (xs : List ℕ). length xs) own in
      record { more = last_tries end + more; beyond = beyond; counted = omega (arith, counts.counted, size, rose) }

-- at rest nothing was tried beyond the tally until then
pub counts_rest : (old mid new more : ℕ) (before : List ℕ) (tally : Tally) (turn : Turn) (end : Ending) → CountsTries old mid before tally.picks (waits_in tally) tally.rests end → before ≡ [] → end ≡ ending.Rest
    → TriesBeyond turn more → new ≡ mid + more → CountsStateTries old new tally turn
counts_rest old mid new more before tally turn end counts first is beyond rose =
    let none : last_tries end ≡ 0 = ap last_tries is in
    let all : more ≡ last_tries end + more = omega (arith, none) in
    counts_state old mid new more before tally turn end counts first (subst (TriesBeyond turn) all beyond) rose

-- else the item that ended the closure
pub counts_stop : (old new : ℕ) (before : List ℕ) (tally : Tally) (turn last : Turn) (found end : Ending) → CountsTries old new before tally.picks (waits_in tally) tally.rests found → before ≡ [] → turn ≡ last → found ≡ end
    → IsEndingFor last found → last_tries end ≡ 1 → CountsStateTries old new tally turn
counts_stop old new before tally turn last found end counts first same is ends one =
    let tried : last_tries found ≡ 1 = ap last_tries is ∙ one in
    let all : 1 ≡ last_tries found + 0 = omega (arith, tried) in
    let beyond = subst (λ t. TriesBeyond t 1) (sym same) (stop_beyond last found ends tried) in
    counts_state old new new 0 before tally turn found counts first (subst (TriesBeyond turn) all beyond) (omega arith)

-- a state that was settled takes no try beyond the tally
pub settled_tries : {E : Type 0} (turn : Turn) → TriesBeyond turn 0 → (result : Result Made E) (k : ℕ) → IfOk result (λ made. made.turn ≡ turn)
    → IfOk result (λ made. (more : ℕ) × TriesBeyond made.turn more × (k ≡ k + more))
settled_tries turn none (Ok made) k is = (0, subst (λ t. TriesBeyond t 0) (sym is) none, omega arith)
settled_tries turn none (Err error) k is = tt

-- a state below the limit of its plan is one below that of the run
pub within_limits : (plan : Plan) (run : Run) → IsRunOf plan run → run.state < plan.states → run.state < run.limits.states
within_limits plan run h less = omega (arith, less, h.states)

-- a run that stands at the limit of its states begins none
pub at_limit : (plan : Plan) (run : Run) (m : Moment) → IsRunOf plan run → open_at m ≡ standing_of run → BeginsNoState plan run.state (standing_of run) → run.limits.states ≤ run.state
at_limit plan run m h there none =
    let most : plan.states ≤ run.state = subst (BeginsNoState plan run.state) (sym there) none in
    omega (arith, most, h.states)

-- as its plan says, where a run tells it
pub tried_by_plan : (plan : Plan) (run : Run) (m n : Moment) (old new : Picture) (standing : Standing) (store : Contents) (turn : Turn) (tally : Tally) → IsRunOf plan run → open_at n ≡ open_at m → run.state < plan.states
    → (run.state < run.limits.states → IsTallyOf plan run.order run.state n old new standing store turn tally) → IsTallyOf plan run.order run.state m old new standing store turn tally
tried_by_plan plan run m n old new standing store turn tally h at less tried =
    let same : n ≡ m = cc in
    subst (λ z. IsTallyOf plan run.order run.state z old new standing store turn tally) same (tried (within_limits plan run h less))
