-- One try of a closure by an agenda, and its end.
use Rattle.std.proofs.Common.{◌≡◌, ℕ, zero, suc, ◌+◌, ◌*◌, ◌^◌, ◌<◌, ◌⊎◌, Bool, true, false, List, [], ◌∷◌, ◌++◌, length, length-set, get_or, slice_get, slice_set, count_by, Option, Some, None, refl, ap, sym, ◌∙◌, subst, inl, inr, arith}
use Rattle.std.specs.List.{All}
use Rattle.std.proofs.lemmas.Bool.{both_ways}
use Rattle.std.proofs.lemmas.List.Sums.{count_by-le-length}
use Rattle.tp_scene.specs.declared.answer.Cell.{Cell}
use Rattle.tp_scene.specs.Scene.{has}
use Rattle.tp_kernel.specs.declared.fault.LimitKind.{LimitKind}
use Rattle.tp_kernel.specs.declared.fault.LimitKind.TheVariants.{Reductions}
use Rattle.tp_scene.specs.Step.{Reduction, reduces, waits, rests, passes}
use Rattle.tp_scene.specs.Pick.{Setting, Moment, Reduces, outcome_of}
use Rattle.tp_scene.specs.Laws.{IsSound}
use Rattle.tp_scene.proofs.KnownEnds.{waits_are_for_undecided}
use Rattle.tp_step.specs.declared.answer.News.{News}
use Rattle.tp_step.specs.declared.tally.Wait.{Wait}
use Rattle.tp_step.specs.declared.order.Order.{Order}
use Rattle.tp_step.specs.declared.ending.Ending.{Ending}
use Rattle.tp_step.specs.declared.ending.Ending.TheVariants.{Rest, Clash, Missing, Over}
use Rattle.tp_step.specs.declared.answer.Tried.{Tried}
use Rattle.tp_step.specs.declared.answer.Tried.TheVariants as tried
use Rattle.tp_step.specs.Answers.{AreNews, Tries}
use Rattle.tp_step.specs.Closes.{ClosureAnswers, ClosureEnds, Counts, LedByPicks, is_pick}
use Rattle.tp_step.specs.EndsWith.{EndsWithItem}
use Rattle.tp_step.proofs.Picks.{made_more}
use Rattle.tp_step.proofs.EveryRest.{closures_commute}
use Rattle.tp_step.proofs.Room.{closures_keep_room}
use Rattle.tp_lanes.specs.Planes.{flag}
use Rattle.tp_agenda.specs.declared.board.Board.{Board}
use Rattle.tp_agenda.specs.Agenda.{TriesNext, EndsAtTry, EndsTries}
use Rattle.tp_agenda.specs.Counted.{ClosesWith, last_tries}
use Rattle.tp_agenda.specs.Board.{FitsBoard, HasFlags, TakenAreKnown, TakesIn, TakesNews, TakesWait}
use Rattle.tp_agenda.specs.Held.{IsHeld, IsTakenUp, nothing_due}
use Rattle.tp_agenda.specs.Ready.{IsReady}
use Rattle.tp_agenda.proofs.Held.{held_tells_ready, waits_keep_held, rests_keep_held}
use Rattle.tp_slots.proofs.NumberSets.{count_without}
use Rattle.tp_agenda.proofs.Movers.{mover_lives, live_was}
use Rattle.tp_agenda.proofs.Near.{known_stays}
use Rattle.tp_agenda.proofs.Leaving.{held_comes_to_rest}
use Rattle.tp_agenda.proofs.TakingNews.{news_held}
use Rattle.tp_agenda.proofs.Trying.{AgendaSoFar, agenda_begins, agenda_picks, agenda_waits, agenda_rests, agenda_made, agenda_waited, agenda_sound, agenda_follows, agenda_counts}
use Rattle.tp_agenda.proofs.Turns.{IsFlagged, turn_alike, turn_is_ready}

-- the item was taken out of the board
abbrev pub without : Board → ℕ → Board
without b t = record { alloc = b.alloc; bound = b.bound; ready = slice_set b.ready t false; over = b.over; index = b.index; taken = b.taken }

-- The tries so far, with what is held where they lead, and the ready item whose turn it is, which was taken out.
module _ (w : Setting) (first here : Moment) (order between after : Order) (room left : ℕ) (before now : List ℕ) (ws : List Wait) (rs : List ℕ) (old new : ℕ)
    (so_far : AgendaSoFar w first here order between room left before now ws rs old new)
    (board taken : Board) (held : IsHeld w here ws rs board.over.items board.ready nothing_due) (t : ℕ) (turn : TriesNext (IsFlagged board.ready) between after t) (without_it : taken ≡ without board t) where
  pub its_turn : TriesNext (IsReady here ws rs) between after t
  its_turn = turn_alike (IsFlagged board.ready) (IsReady here ws rs) (held_tells_ready w here ws rs board.over.items board.ready held) between after t turn

  flagged : flag board.ready t ≡ true
  flagged = turn_is_ready (IsFlagged board.ready) between after t turn

  pub turn_lives : has t here.scene.root.entries ≡ true
  turn_lives = mover_lives t here.scene.root.entries (held.ready_moves t flagged)

  pub one_fewer : count_by (λ b. b) taken.ready < count_by (λ b. b) board.ready
  one_fewer =
      let e = count_without board.ready t flagged in
      let same : count_by (λ b. b) taken.ready ≡ count_by (λ b. b) (slice_set board.ready t false) = ap (λ (b : Board). count_by (λ x. x) b.ready) without_it in
      omega (arith, e, same)

  taken_up : IsTakenUp w here ws rs taken.over.items taken.ready t
  taken_up = record {
    before = board.ready;
    held = subst (λ (b : Board). IsHeld w here ws rs b.over.items board.ready nothing_due) (sym without_it) held;
    is_ready = flagged;
    now = ap (λ (b : Board). b.ready) without_it;
  }

  module _ (kinds : List Bool) (sound : IsSound w kinds here) where
    -- it was reduced
    module _ (next : Moment) (r : Reduction) (news : News) (reduces : Reduces w here t r next) (are : AreNews here.scene t r next.scene news) where
      pub reduced_held : (board' : Board) → TakesNews next.scene news ws taken board' → IsHeld w next ws rs board'.over.items board'.ready nothing_due
      reduced_held board' takes = news_held w kinds here next t r news sound reduces are ws rs taken board' taken_up takes

      pub reduced_so_far : (left' : ℕ) (now' : List ℕ) (new' : ℕ) → left ≡ suc left' → now' ≡ now ++ t ∷ [] → new' ≡ new + 1
          → AgendaSoFar w first next order after room left' before now' ws rs old new'
      reduced_so_far left' now' new' = agenda_picks w first here order between room left before now ws rs old new so_far after t r next left' now' new' its_turn reduces

    -- it waits
    module _ (next : Moment) (same : next ≡ here) (c : Cell) (o : Option Cell) (answer : outcome_of w here.store here.scene t ≡ waits c o) (ws' : List Wait) (recorded : ws' ≡ ws ++ record { item = t; first = c; other = o } ∷ []) where
      pub waiting_held : (board' : Board) → board'.over.items ≡ taken.over.items ++ false ∷ [] → board'.ready ≡ taken.ready
          → IsHeld w next ws' rs board'.over.items board'.ready nothing_due
      waiting_held board' over ready =
          let h = waits_keep_held w here ws rs taken.over.items taken.ready (record { item = t; first = c; other = o }) taken_up answer (waits_are_for_undecided w kinds here t c o sound answer) (live_was w kinds here sound t turn_lives) in
          subst (λ (m : Moment). IsHeld w m ws' rs board'.over.items board'.ready nothing_due) (sym same)
          (subst (λ (xs : List Wait). IsHeld w here xs rs board'.over.items board'.ready nothing_due) (sym recorded)
          (subst (λ (bs : List Bool). IsHeld w here (ws ++ record { item = t; first = c; other = o } ∷ []) rs bs board'.ready nothing_due) (sym over)
          (subst (λ (bs : List Bool). IsHeld w here (ws ++ record { item = t; first = c; other = o } ∷ []) rs (taken.over.items ++ false ∷ []) bs nothing_due) (sym ready) h)))

      pub waiting_so_far : (left' : ℕ) (now' : List ℕ) (new' : ℕ) → left' ≡ left → now' ≡ now → new' ≡ new + 1
          → AgendaSoFar w first next order after room left' before now' ws' rs old new'
      waiting_so_far left' now' new' l n s =
          let h = agenda_waits w first here order between room left before now ws rs old new so_far after (record { item = t; first = c; other = o }) left' now' new' its_turn answer l n s in
          subst (λ (m : Moment). AgendaSoFar w first m order after room left' before now' ws' rs old new') (sym same)
          (subst (λ (xs : List Wait). AgendaSoFar w first here order after room left' before now' xs rs old new') (sym recorded) h)

    -- it rests
    module _ (next : Moment) (same : next ≡ here) (answer : outcome_of w here.store here.scene t ≡ rests) (rs' : List ℕ) (recorded : rs' ≡ rs ++ t ∷ []) where
      pub resting_held : IsHeld w next ws rs' taken.over.items taken.ready nothing_due
      resting_held =
          subst (λ (m : Moment). IsHeld w m ws rs' taken.over.items taken.ready nothing_due) (sym same)
          (subst (λ (xs : List ℕ). IsHeld w here ws xs taken.over.items taken.ready nothing_due) (sym recorded)
          (rests_keep_held w here ws rs taken.over.items taken.ready t taken_up answer))

      pub resting_so_far : (left' : ℕ) (now' : List ℕ) (new' : ℕ) → left' ≡ left → now' ≡ now → new' ≡ new + 1
          → AgendaSoFar w first next order after room left' before now' ws rs' old new'
      resting_so_far left' now' new' l n s =
          subst (λ (m : Moment). AgendaSoFar w first m order after room left' before now' ws rs' old new') (sym same)
          (subst (λ (xs : List ℕ). AgendaSoFar w first here order after room left' before now' ws xs old new') (sym recorded)
          (agenda_rests w first here order between room left before now ws rs old new so_far after t left' now' new' its_turn answer l n s))

pub closes_with : (w : Setting) (first last : Moment) (order between : Order) (room left : ℕ) (before now : List ℕ) (ws : List Wait) (rs : List ℕ) (old new new' : ℕ) (ending : Ending)
    → AgendaSoFar w first last order between room left before now ws rs old new → (over ready : List Bool) → IsHeld w last ws rs over ready nothing_due
    → (kinds : List Bool) → IsSound w kinds first → EndsTries w left last ws rs between ending → ClosureEnds w left last ending → new' ≡ new + last_tries ending
    → ClosesWith w first last order room before now ws rs old new' ending
closes_with w first last order between room left before now ws rs old new new' ending h over ready held kinds sound tries ends counts =
    let closes : ClosureAnswers w room first last before now ending = record {
      left = left;
      made = agenda_made w first last order between room left before now ws rs old new h;
      ends = ends;
    } in
    record {
      closes = closes;
      order = agenda_follows w first last order between room left before now ws rs old new h ending tries;
      sound = λ ks k. agenda_sound w first last order between room left before now ws rs old new h ks k;
      commutes = closures_commute w room first last before now ending closes;
      room = closures_keep_room w kinds room first last before now ending (agenda_sound w first last order between room left before now ws rs old new h kinds sound) closes;
      thrifty = record { waits_once = held.once; rests_once = held.rest_once };
      undecided = agenda_waited w first last order between room left before now ws rs old new h kinds sound;
      steps = agenda_counts w first last order between room left before now ws rs old new h ending new' counts;
    }

-- at rest: no item is ready
pub rests_with : (w : Setting) (first last : Moment) (order between : Order) (room left : ℕ) (before now : List ℕ) (ws : List Wait) (rs : List ℕ) (old new : ℕ)
    → AgendaSoFar w first last order between room left before now ws rs old new → (over ready : List Bool) → IsHeld w last ws rs over ready nothing_due
    → (kinds : List Bool) → IsSound w kinds first → ((t : ℕ) → flag ready t ≡ false)
    → ClosesWith w first last order room before now ws rs old new Rest
rests_with w first last order between room left before now ws rs old new h over ready held kinds sound none =
    closes_with w first last order between room left before now ws rs old new new Rest h over ready held kinds sound
    (λ t r. both_ways (flag ready t) (none t) ((held_tells_ready w last ws rs over ready held t).1 r))
    (held_comes_to_rest w kinds last ws rs over ready (agenda_sound w first last order between room left before now ws rs old new h kinds sound) held none)
    (omega arith)

-- an item ends the closure
item_ends : (w : Setting) (left : ℕ) (m : Moment) (t : ℕ) (ending : Ending) → has t m.scene.root.entries ≡ true → EndsWithItem w left m t ending → ClosureEnds w left m ending
item_ends w left m t Rest lives h = absurd h
item_ends w left m t (Clash clash) lives h = (t, lives, h)
item_ends w left m t (Missing port) lives h = (t, lives, h)
item_ends w left m t (Over kind) lives (inl h) = inl (t, lives, h)
item_ends w left m t (Over kind) lives (inr h) = inr (h.0, h.1, (h.2.0, (t, lives, h.2.1)))

ends_at : (w : Setting) (left : ℕ) (m : Moment) (ws : List Wait) (rs : List ℕ) (order : Order) (ending : Ending) (t : ℕ) → EndsWithItem w left m t ending → EndsAtTry w left m ws rs order ending → EndsTries w left m ws rs order ending
ends_at w left m ws rs order Rest t h e = absurd h
ends_at w left m ws rs order (Clash clash) t h e = e
ends_at w left m ws rs order (Missing port) t h e = e
ends_at w left m ws rs order (Over kind) t h e = e

module _ (w : Setting) (first here : Moment) (order between after : Order) (room left : ℕ) (before now : List ℕ) (ws : List Wait) (rs : List ℕ) (old new : ℕ)
    (h : AgendaSoFar w first here order between room left before now ws rs old new)
    (board : Board) (held : IsHeld w here ws rs board.over.items board.ready nothing_due) (t : ℕ) (turn : TriesNext (IsFlagged board.ready) between after t) where
  pub item_ends_with : (next : Moment) (left' : ℕ) (now' : List ℕ) (new' : ℕ) (ending : Ending) (kinds : List Bool) → IsSound w kinds first → next ≡ here → left' ≡ left → now' ≡ now
      → EndsWithItem w left here t ending → new' ≡ new + 1 → last_tries ending ≡ 1 → ClosesWith w first next order room before now' ws rs old new' ending
  item_ends_with next left' now' new' ending kinds sound same less still ends counts one =
      let ready : TriesNext (IsReady here ws rs) between after t = turn_alike (IsFlagged board.ready) (IsReady here ws rs) (held_tells_ready w here ws rs board.over.items board.ready held) between after t turn in
      let lives = mover_lives t here.scene.root.entries (held.ready_moves t (turn_is_ready (IsFlagged board.ready) between after t turn)) in
      subst (λ (m : Moment). ClosesWith w first m order room before now' ws rs old new' ending) (sym same)
      (subst (λ xs. ClosesWith w first here order room before xs ws rs old new' ending) (sym still)
      (closes_with w first here order between room left before now ws rs old new new' ending h board.over.items board.ready held kinds sound
      (ends_at w left here ws rs between ending t ends (t, after, ready, ends)) (item_ends w left here t ending lives ends) (let c : new' ≡ new + last_tries ending = counts ∙ ap (λ n. new + n) (sym one) in c)))

-- The measure: a pick takes one of the reductions that are left, and every other try one of the ready items.
pub less_room : (l l' : ℕ) (ready ready' : List Bool) → l ≡ suc l' → length ready' < 2 ^ 64 → l' * 2 ^ 64 + count_by (λ b. b) ready' < l * 2 ^ 64 + count_by (λ b. b) ready
less_room l l' ready ready' e small = let n = count_by-le-length (λ b. b) ready' in less l l' (count_by (λ b. b) ready) (count_by (λ b. b) ready') e (omega (arith, n, small))
  where
    less : (l l' a b : ℕ) → l ≡ suc l' → b < 2 ^ 64 → l' * 2 ^ 64 + b < l * 2 ^ 64 + a
    less l l' a b e s = omega (arith, e, s)

pub less_ready : (l l' a b : ℕ) → l' ≡ l → b < a → l' * 2 ^ 64 + b < l * 2 ^ 64 + a
less_ready l l' a b e s = omega (arith, e, s)

at_get : {A : Type 0} (xs : List A) (k : ℕ) (d : A) → k < length xs → slice_get xs k ≡ Some (get_or xs k d)
at_get [] k d l = absurd (omega (arith, l))
at_get (y ∷ ys) zero d l = refl
at_get (y ∷ ys) (suc k) d l = at_get ys k d (omega (arith, l))

-- the waits' items have flags
pub waits_below : (w : Setting) (m : Moment) (ws : List Wait) (rs : List ℕ) (over ready : List Bool) → IsHeld w m ws rs over ready nothing_due → (n : ℕ) → n ≡ length ready → All (λ (x : Wait). x.item < n) ws
waits_below w m ws rs over ready held n same k d l = let b = (held.was k (get_or ws k d) (at_get ws k d l)).1 in omega (arith, b, same)

-- so it is of the board without the item
pub still_fits : (ws : List Wait) (board taken : Board) (t : ℕ) → taken ≡ without board t → FitsBoard ws board → FitsBoard ws taken
still_fits ws board taken t e h =
    let l = length-set board.ready t false in
    let b = h.bound in
    let s = h.small in
    subst (FitsBoard ws) (sym e) (record { bound = omega (arith, l, b); small = omega (arith, l, s); sizes = h.sizes; filed = h.filed })

pub same_size : (board taken : Board) (t : ℕ) → taken ≡ without board t → length taken.ready ≡ length board.ready
same_size board taken t e = ap (λ (b : Board). length b.ready) e ∙ length-set board.ready t false

made_still : (w : Setting) (first here next : Moment) (room left left' : ℕ) (before now now' : List ℕ) → LedByPicks w first here room left before now → next ≡ here → left' ≡ left → now' ≡ now → LedByPicks w first next room left' before now'
made_still w first here next room left left' before now now' h same l n =
    subst (λ (m : Moment). LedByPicks w first m room left' before now') (sym same) (subst (λ k. LedByPicks w first here room k before now') (sym l) (subst (λ xs. LedByPicks w first here room left before xs) (sym n) h))

-- the picks that were made, also where what came of the last one isn't taken in
pub tried_made : (w : Setting) (first here next : Moment) (t room left left' : ℕ) (before now now' : List ℕ) (o : Tried) → LedByPicks w first here room left before now
    → Tries w left here t next o → Counts (is_pick (Some o)) t left left' now now' → LedByPicks w first next room left' before now'
tried_made w first here next t room left left' before now now' (tried.Reduced news) h x c = made_more w first here next room left left' before now now' t x.0 h x.2 c.0 c.1
tried_made w first here next t room left left' before now now' (tried.Waits f o) h x c = made_still w first here next room left left' before now now' h x.0 c.0 c.1
tried_made w first here next t room left left' before now now' tried.Rests h x c = made_still w first here next room left left' before now now' h x.0 c.0 c.1
tried_made w first here next t room left left' before now now' (tried.Clash k) h x c = made_still w first here next room left left' before now now' h x.0 c.0 c.1
tried_made w first here next t room left left' before now now' (tried.Missing k) h x c = made_still w first here next room left left' before now now' h x.0 c.0 c.1
tried_made w first here next t room left left' before now now' (tried.Over k) h x c = made_still w first here next room left left' before now now' h x.0 c.0 c.1

-- a try is counted as a reduction only where one is left
pub picks_have_room : (w : Setting) (t room : ℕ) (m next : Moment) (o : Tried) → Tries w room m t next o → is_pick (Some o) ≡ true → 0 < room
picks_have_room w t room m next (tried.Reduced news) h p = h.1
picks_have_room w t room m next (tried.Waits f o) h p = absurd (both_ways false refl p)
picks_have_room w t room m next tried.Rests h p = absurd (both_ways false refl p)
picks_have_room w t room m next (tried.Clash k) h p = absurd (both_ways false refl p)
picks_have_room w t room m next (tried.Missing k) h p = absurd (both_ways false refl p)
picks_have_room w t room m next (tried.Over k) h p = absurd (both_ways false refl p)

-- What holds after a try with which the closure goes on.
pub record GoesOn (w : Setting) (first next : Moment) (order after : Order) (room left left' : ℕ) (before now : List ℕ) (ws : List Wait) (rs : List ℕ) (old new : ℕ) (board board' : Board) : Type 0 where
  pub so_far : AgendaSoFar w first next order after room left' before now ws rs old new
  pub held : IsHeld w next ws rs board'.over.items board'.ready nothing_due
  pub fits : FitsBoard ws board'
  pub flags : HasFlags next.scene board'
  pub taken : TakenAreKnown next.scene board'
  pub smaller : left' * 2 ^ 64 + count_by (λ b. b) board'.ready < left * 2 ^ 64 + count_by (λ b. b) board.ready

-- What holds after any try, which the closure goes on with or ends.
pub record ComesOf (w : Setting) (first next : Moment) (order after : Order) (room left left' : ℕ) (before now : List ℕ) (ws : List Wait) (rs : List ℕ) (old new : ℕ) (board board' : Board) (ended : Option Ending) : Type 0 where
  pub goes_on : ended ≡ None → GoesOn w first next order after room left left' before now ws rs old new board board'
  pub ends : (ending : Ending) → ended ≡ Some ending → ClosesWith w first next order room before now ws rs old new ending

module _ (w : Setting) (first here : Moment) (order between after : Order) (room left : ℕ) (before now : List ℕ) (ws : List Wait) (rs : List ℕ) (old new : ℕ)
    (so_far : AgendaSoFar w first here order between room left before now ws rs old new)
    (board taken : Board) (held : IsHeld w here ws rs board.over.items board.ready nothing_due) (t : ℕ) (turn : TriesNext (IsFlagged board.ready) between after t) (without_it : taken ≡ without board t)
    (fits : FitsBoard ws board) (flags : HasFlags here.scene board) (known : TakenAreKnown here.scene board) (kinds : List Bool) (sound : IsSound w kinds first)
    (next : Moment) (left' : ℕ) (now' : List ℕ) (new' : ℕ) (counts : new' ≡ new + 1) (board' : Board) (ws' : List Wait) (rs' : List ℕ) where
  sound_here : IsSound w kinds here
  sound_here = agenda_sound w first here order between room left before now ws rs old new so_far kinds sound

  fewer : count_by (λ b. b) taken.ready < count_by (λ b. b) board.ready
  fewer = one_fewer w first here order between after room left before now ws rs old new so_far board taken held t turn without_it

  known_still : TakenAreKnown here.scene taken
  known_still q e = known q (sym (ap (λ (b : Board). flag b.taken.items q) without_it) ∙ e)

  known_here : next ≡ here → TakenAreKnown next.scene taken
  known_here same = subst (λ (m : Moment). TakenAreKnown m.scene taken) (sym same) known_still

  abbrev Goes : List Wait → List ℕ → Type 0
  Goes xs ts = GoesOn w first next order after room left left' before now' xs ts old new' board board'

  goes_reduced : (r : Reduction) (news : News) → Reduces w here t r next → AreNews here.scene t r next.scene news → left ≡ suc left' → now' ≡ now ++ t ∷ [] → TakesNews next.scene news ws taken board' → Goes ws rs
  goes_reduced r news step are one more takes = record {
    so_far = reduced_so_far w first here order between after room left before now ws rs old new so_far board taken held t turn without_it kinds sound_here next r news step are left' now' new' one more counts;
    held = reduced_held w first here order between after room left before now ws rs old new so_far board taken held t turn without_it kinds sound_here next r news step are board' takes;
    fits = takes.fits;
    flags = takes.flags;
    taken = λ q e. elim (takes.taken q e) [
      | inl before ↦ known_stays w kinds here next t r sound_here step q (known_still q before)
      | inr now ↦ now
    ];
    smaller = less_room left left' board.ready board'.ready one takes.fits.small;
  }

  goes_waiting : (f : Cell) (o : Option Cell) → next ≡ here → outcome_of w here.store here.scene t ≡ waits f o → left' ≡ left → now' ≡ now
      → TakesWait (record { item = t; first = f; other = o }) taken board' ws ws' → Goes ws' rs
  goes_waiting f o same answer l n takes = record {
    so_far = waiting_so_far w first here order between after room left before now ws rs old new so_far board taken held t turn without_it kinds sound_here next same f o answer ws' takes.recorded left' now' new' l n counts;
    held = waiting_held w first here order between after room left before now ws rs old new so_far board taken held t turn without_it kinds sound_here next same f o answer ws' takes.recorded board' takes.over takes.ready;
    fits = takes.fits;
    flags = (let size = ap (λ (bs : List Bool). length bs) takes.ready ∙ same_size board taken t without_it in
        let scene = ap (λ (m : Moment). m.scene.next_item) same in
        omega (arith, size, scene, flags));
    taken = λ q e. known_here same q (sym (ap (λ v. flag v.items q) takes.taken) ∙ e);
    smaller = (let e : count_by (λ b. b) board'.ready ≡ count_by (λ b. b) taken.ready = ap (count_by (λ b. b)) takes.ready in
        less_ready left left' (count_by (λ b. b) board.ready) (count_by (λ b. b) board'.ready) l (omega (arith, e, fewer)));
  }

  goes_resting : next ≡ here → outcome_of w here.store here.scene t ≡ rests → left' ≡ left → now' ≡ now → board' ≡ taken → rs' ≡ rs ++ t ∷ [] → Goes ws rs'
  goes_resting same answer l n is recorded =
      subst (λ (b : Board). GoesOn w first next order after room left left' before now' ws rs' old new' board b) (sym is) (record {
        so_far = resting_so_far w first here order between after room left before now ws rs old new so_far board taken held t turn without_it kinds sound_here next same answer rs' recorded left' now' new' l n counts;
        held = resting_held w first here order between after room left before now ws rs old new so_far board taken held t turn without_it kinds sound_here next same answer rs' recorded;
        fits = still_fits ws board taken t without_it fits;
        flags = (let size = same_size board taken t without_it in let scene = ap (λ (m : Moment). m.scene.next_item) same in omega (arith, size, scene, flags));
        taken = known_here same;
        smaller = less_ready left left' (count_by (λ b. b) board.ready) (count_by (λ b. b) taken.ready) l fewer;
      })

  -- the closure goes on
  goes_on : (o : Tried) → Tries w left here t next o → Counts (is_pick (Some o)) t left left' now now' → TakesIn next.scene t o taken board' ws ws' rs rs' None → Goes ws' rs'
  goes_on (tried.Reduced news) x c k =
      subst (λ (xs : List Wait). Goes xs rs') (sym k.2) (subst (λ (ts : List ℕ). Goes ws ts) (sym k.3) (goes_reduced x.0 news x.2 x.3 c.0 c.1 k.1))
  goes_on (tried.Waits f o) x c k = subst (λ (ts : List ℕ). Goes ws' ts) (sym k.2) (goes_waiting f o x.0 x.1 c.0 c.1 k.1)
  goes_on tried.Rests x c k = subst (λ (xs : List Wait). Goes xs rs') (sym k.2) (goes_resting x.0 x.1 c.0 c.1 k.1 k.3)
  goes_on (tried.Clash e) x c k = absurd (let z = k.0 in cc)
  goes_on (tried.Missing e) x c k = absurd (let z = k.0 in cc)
  goes_on (tried.Over e) x c k = absurd (let z = k.0 in cc)

  abbrev Ends : List Wait → List ℕ → Ending → Type 0
  Ends xs ts ending = ClosesWith w first next order room before now' xs ts old new' ending

  ends_so : (ending : Ending) → next ≡ here → left' ≡ left → now' ≡ now → EndsWithItem w left here t ending → last_tries ending ≡ 1 → Ends ws rs ending
  ends_so ending same l n ends one =
      item_ends_with w first here order between after room left before now ws rs old new so_far board held t turn next left' now' new' ending kinds sound same l n ends counts one

  ends_over : (k : LimitKind) → (outcome_of w here.store here.scene t ≡ passes k) ⊎ ((r : Reduction) × (k ≡ Reductions) × (left ≡ 0) × (outcome_of w here.store here.scene t ≡ reduces r)) → EndsWithItem w left here t (Over k)
  ends_over k (inl e) = inl e
  ends_over k (inr h) = inr (h.1, h.2, (h.0, h.3))

  recorded_too : (ending ended : Ending) → Some ending ≡ Some ended → ws' ≡ ws → rs' ≡ rs → Ends ws rs ended → Ends ws' rs' ending
  recorded_too ending ended e x y h =
      let same : ended ≡ ending = cc in
      subst (λ (xs : List Wait). Ends xs rs' ending) (sym x) (subst (λ (ts : List ℕ). Ends ws ts ending) (sym y) (subst (Ends ws rs) same h))

  -- the closure ends with the item
  ends_with : (o : Tried) (ending : Ending) → Tries w left here t next o → Counts (is_pick (Some o)) t left left' now now' → TakesIn next.scene t o taken board' ws ws' rs rs' (Some ending) → Ends ws' rs' ending
  ends_with (tried.Reduced news) ending x c k = absurd (let z = k.0 in cc)
  ends_with (tried.Waits f o) ending x c k = absurd (let z = k.0 in cc)
  ends_with tried.Rests ending x c k = absurd (let z = k.0 in cc)
  ends_with (tried.Clash e) ending x c k = recorded_too ending (Clash e) k.0 k.1 k.2 (ends_so (Clash e) x.0 c.0 c.1 x.1 refl)
  ends_with (tried.Missing e) ending x c k = recorded_too ending (Missing e) k.0 k.1 k.2 (ends_so (Missing e) x.0 c.0 c.1 x.1 refl)
  ends_with (tried.Over e) ending x c k = recorded_too ending (Over e) k.0 k.1 k.2 (ends_so (Over e) x.0 c.0 c.1 (ends_over e x.1) refl)

  -- the same, with what else is known of the tally's lists
  module _ (ws1 : List Wait) (rs1 : List ℕ) (same_waits : ws1 ≡ ws) (same_rests : rs1 ≡ rs) (picks : List ℕ) (same_picks : picks ≡ now') (o : Tried) (tries : Tries w left here t next o) (counted : Counts (is_pick (Some o)) t left left' now now')
      (ended : Option Ending) (takes : TakesIn next.scene t o taken board' ws1 ws' rs1 rs' ended) where
    takes_in : (e : Option Ending) → ended ≡ e → TakesIn next.scene t o taken board' ws ws' rs rs' e
    takes_in e is =
        subst (λ (z : Option Ending). TakesIn next.scene t o taken board' ws ws' rs rs' z) is
        (subst (λ (ts : List ℕ). TakesIn next.scene t o taken board' ws ws' ts rs' ended) same_rests
        (subst (λ (xs : List Wait). TakesIn next.scene t o taken board' xs ws' rs1 rs' ended) same_waits takes))

    pub comes_of : ComesOf w first next order after room left left' before picks ws' rs' old new' board board' ended
    comes_of = record {
      goes_on = λ is. subst (λ xs. GoesOn w first next order after room left left' before xs ws' rs' old new' board board') (sym same_picks) (goes_on o tries counted (takes_in None is));
      ends = λ ending is. subst (λ xs. ClosesWith w first next order room before xs ws' rs' old new' ending) (sym same_picks) (ends_with o ending tries counted (takes_in (Some ending) is));
    }

pub agenda_starts : (w : Setting) (m : Moment) (order : Order) (room : ℕ) (before : List ℕ) (ws : List Wait) (rs : List ℕ) (old : ℕ) → ws ≡ [] → rs ≡ [] → AgendaSoFar w m m order order room room before before ws rs old old
agenda_starts w m order room before ws rs old a b =
    subst (λ (xs : List Wait). AgendaSoFar w m m order order room room before before xs rs old old) (sym a)
    (subst (λ (ts : List ℕ). AgendaSoFar w m m order order room room before before [] ts old old) (sym b) (agenda_begins w m order room before old))
