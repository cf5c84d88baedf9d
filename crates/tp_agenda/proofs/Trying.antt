-- Tries one after the other.
use Rattle.std.proofs.Common.{◌≡◌, ℕ, zero, suc, ◌+◌, List, [], ◌∷◌, ◌++◌, length, length-append, refl, ap, sym, ◌∙◌, subst, inl, inr, arith, append_assoc}
use Rattle.std.specs.Prelude.{Bool}
use Rattle.std.specs.List.{Contains}
use Rattle.std.proofs.lemmas.List.{append-nil}
use Rattle.std.proofs.lemmas.List.Elements.{Contains-append_cases}
use Rattle.tp_scene.specs.Step.{Reduction, waits, rests}
use Rattle.tp_scene.specs.Pick.{Setting, Moment, Reduces, Leads, outcome_of}
use Rattle.tp_scene.specs.Laws.{IsSound}
use Rattle.tp_scene.proofs.StepsFit.{steps_fit}
use Rattle.tp_scene.proofs.KnownEnds.{waits_are_for_undecided}
use Rattle.tp_step.specs.declared.tally.Wait.{Wait}
use Rattle.tp_step.specs.declared.order.Order.{Order}
use Rattle.tp_step.specs.declared.ending.Ending.{Ending}
use Rattle.tp_step.specs.Closes.{LedByPicks}
use Rattle.tp_step.proofs.Picks.{leads_more}
use Rattle.tp_agenda.specs.Ready.{IsReady}
use Rattle.tp_agenda.specs.Agenda.{TriesNext, TriesSoFar, no_try_yet, one_pick, one_wait, one_rest, EndsTries, FollowsAgenda}
use Rattle.tp_agenda.specs.Counted.{CountsTries, last_tries, WaitedWithin, WaitedForUndecided}
use Rattle.tp_agenda.proofs.Movers.{mover_lives}
use Rattle.tp_agenda.proofs.Turns.{turn_is_ready}

module _ (w : Setting) (m : Moment) (order : Order) where
  -- the picks lead there
  pub tries_lead : {ts rs : List ℕ} {ws : List Wait} {here : Moment} {between : Order} → TriesSoFar w m order ts ws rs here between → Leads w m ts here
  tries_lead no_try_yet = refl
  tries_lead (one_pick h turn reduces) = leads_more w m _ _ _ _ _ (tries_lead h) reduces
  tries_lead (one_wait x h turn answer) = tries_lead h
  tries_lead (one_rest t h turn answer) = tries_lead h

  waited_more : (ts : List ℕ) (t : ℕ) (x : Wait) → WaitedWithin w m ts x → WaitedWithin w m (ts ++ t ∷ []) x
  waited_more ts t x a = record {
    made = a.made;
    later = a.later ++ t ∷ [];
    within = ap (λ xs. xs ++ t ∷ []) a.within ∙ append_assoc a.made a.later (t ∷ []);
    there = a.there;
    leads = a.leads;
    lives = a.lives;
    answer = a.answer;
    undecided = a.undecided;
  }

  module _ (kinds : List Bool) (sound : IsSound w kinds m) where
    pub tries_fit : {ts rs : List ℕ} {ws : List Wait} {here : Moment} {between : Order} → TriesSoFar w m order ts ws rs here between → IsSound w kinds here
    tries_fit no_try_yet = sound
    tries_fit (one_pick h turn reduces) = steps_fit w kinds _ _ _ _ (tries_fit h) reduces
    tries_fit (one_wait x h turn answer) = tries_fit h
    tries_fit (one_rest t h turn answer) = tries_fit h

    waited_last : (ts rs : List ℕ) (ws : List Wait) (here : Moment) (between after : Order) (x : Wait) → TriesSoFar w m order ts ws rs here between
        → TriesNext (IsReady here ws rs) between after x.item → outcome_of w here.store here.scene x.item ≡ waits x.first x.other
        → ((y : Wait) → Contains ws y → WaitedWithin w m ts y) → (y : Wait) → Contains (ws ++ x ∷ []) y → WaitedWithin w m ts y
    waited_last ts rs ws here between after x h turn answer earlier y c = elim (Contains-append_cases ws (x ∷ []) y c) [
      | inl before ↦ earlier y before
      | inr last ↦ subst (WaitedWithin w m ts) (sym (only_wait y last)) (record {
        made = ts;
        later = [];
        within = sym (append-nil ts);
        there = here;
        leads = tries_lead h;
        lives = mover_lives x.item here.scene.root.entries (turn_is_ready (IsReady here ws rs) between after x.item turn).moves;
        answer = answer;
        undecided = waits_are_for_undecided w kinds here x.item x.first x.other (tries_fit h) answer;
      })
    ]
      where
        only_wait : (y : Wait) → Contains (x ∷ []) y → y ≡ x
        only_wait y (zero, less, e) = sym e
        only_wait y (suc k, less, e) = absurd (omega (arith, less))

    -- and each wait was for cells that weren't decided
    pub waited : {ts rs : List ℕ} {ws : List Wait} {here : Moment} {between : Order} → TriesSoFar w m order ts ws rs here between
        → (x : Wait) → Contains ws x → WaitedWithin w m ts x
    waited no_try_yet x c = absurd (let l = c.1 in omega (arith, l))
    waited (one_pick h turn reduces) x c = waited_more _ _ x (waited h x c)
    waited (one_wait x h turn answer) y c = waited_last _ _ _ _ _ _ x h turn answer (waited h) y c
    waited (one_rest t h turn answer) x c = waited h x c

-- Tries so far: their picks were appended to those before, each took one of the reductions that were left, and each try was counted.
pub record AgendaSoFar (w : Setting) (m here : Moment) (order between : Order) (room left : ℕ) (before now : List ℕ) (ws : List Wait) (rs : List ℕ) (old new : ℕ) : Type 0 where
  pub picks : List ℕ
  pub tries : TriesSoFar w m order picks ws rs here between
  pub appended : now ≡ before ++ picks
  pub spent : room ≡ left + length picks
  pub counted : new ≡ old + (length picks + (length ws + length rs))

pub agenda_begins : (w : Setting) (m : Moment) (order : Order) (room : ℕ) (before : List ℕ) (old : ℕ) → AgendaSoFar w m m order order room room before before [] [] old old
agenda_begins w m order room before old = record { picks = []; tries = no_try_yet; appended = sym (append-nil before); spent = omega arith; counted = omega arith }

module _ (w : Setting) (m here : Moment) (order between : Order) (room left : ℕ) (before now : List ℕ) (ws : List Wait) (rs : List ℕ) (old new : ℕ)
    (h : AgendaSoFar w m here order between room left before now ws rs old new) where
  pub agenda_picks : (after : Order) (t : ℕ) (r : Reduction) (next : Moment) (left' : ℕ) (now' : List ℕ) (new' : ℕ) → TriesNext (IsReady here ws rs) between after t → Reduces w here t r next
      → left ≡ suc left' → now' ≡ now ++ t ∷ [] → new' ≡ new + 1 → AgendaSoFar w m next order after room left' before now' ws rs old new'
  agenda_picks after t r next left' now' new' turn reduces one more counts =
      let longer = length-append h.picks (t ∷ []) in
      record {
        picks = h.picks ++ t ∷ [];
        tries = one_pick h.tries turn reduces;
        appended = more ∙ ap (λ xs. xs ++ t ∷ []) h.appended ∙ append_assoc before h.picks (t ∷ []);
        spent = omega (arith, h.spent, one, longer);
        counted = omega (arith, h.counted, counts, longer);
      }

  -- a try that picks nothing
  tried_idly : (after : Order) (ws' : List Wait) (rs' : List ℕ) (left' : ℕ) (now' : List ℕ) (new' : ℕ) → TriesSoFar w m order h.picks ws' rs' here after
      → length ws' + length rs' ≡ suc (length ws + length rs) → left' ≡ left → now' ≡ now → new' ≡ new + 1 → AgendaSoFar w m here order after room left' before now' ws' rs' old new'
  tried_idly after ws' rs' left' now' new' tries longer same still counts = record {
    picks = h.picks;
    tries = tries;
    appended = still ∙ h.appended;
    spent = omega (arith, h.spent, same);
    counted = omega (arith, h.counted, counts, longer);
  }

  pub agenda_waits : (after : Order) (x : Wait) (left' : ℕ) (now' : List ℕ) (new' : ℕ) → TriesNext (IsReady here ws rs) between after x.item → outcome_of w here.store here.scene x.item ≡ waits x.first x.other
      → left' ≡ left → now' ≡ now → new' ≡ new + 1 → AgendaSoFar w m here order after room left' before now' (ws ++ x ∷ []) rs old new'
  agenda_waits after x left' now' new' turn answer =
      let longer = length-append ws (x ∷ []) in
      tried_idly after (ws ++ x ∷ []) rs left' now' new' (one_wait x h.tries turn answer) (omega (arith, longer))

  pub agenda_rests : (after : Order) (t left' : ℕ) (now' : List ℕ) (new' : ℕ) → TriesNext (IsReady here ws rs) between after t → outcome_of w here.store here.scene t ≡ rests
      → left' ≡ left → now' ≡ now → new' ≡ new + 1 → AgendaSoFar w m here order after room left' before now' ws (rs ++ t ∷ []) old new'
  agenda_rests after t left' now' new' turn answer =
      let longer = length-append rs (t ∷ []) in
      tried_idly after ws (rs ++ t ∷ []) left' now' new' (one_rest t h.tries turn answer) (omega (arith, longer))

  pub agenda_made : LedByPicks w m here room left before now
  agenda_made = record { picks = h.picks; leads = tries_lead w m order h.tries; appended = h.appended; spent = h.spent }

  pub agenda_waited : (kinds : List Bool) → IsSound w kinds m → WaitedForUndecided w m before now ws
  agenda_waited kinds sound = record { picks = h.picks; appended = h.appended; each = waited w m order kinds sound h.tries }

  pub agenda_sound : (kinds : List Bool) → IsSound w kinds m → IsSound w kinds here
  agenda_sound kinds sound = tries_fit w m order kinds sound h.tries

  pub agenda_follows : (ending : Ending) → EndsTries w left here ws rs between ending → FollowsAgenda w order room m here before now ws rs ending
  agenda_follows ending ends = record { picks = h.picks; between = between; tries = h.tries; appended = h.appended; left = left; spent = h.spent; ends = ends }

  pub agenda_counts : (ending : Ending) (new' : ℕ) → new' ≡ new + last_tries ending → CountsTries old new' before now ws rs ending
  agenda_counts ending new' counts = record { picks = h.picks; appended = h.appended; counted = omega (arith, h.counted, counts) }
