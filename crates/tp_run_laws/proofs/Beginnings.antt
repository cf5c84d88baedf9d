-- Where a run has an end that isn't a failure, every beginning goes on to it.
use Rattle.std.proofs.Common.{◌≡◌, ℕ, suc, ◌+◌, ◌<◌, List, [], ◌∷◌, ◌++◌, length, refl, ap, sym, ◌∙◌, subst, arith, append-nil, append_assoc, length-append}
use Rattle.tp_value.specs.declared.path.Fact.{Fact}
use Rattle.tp_store.specs.Known.{Contents, NoClash, lasting_facts}
use Rattle.tp_store.proofs.Members.{NoClash-filter}
use Rattle.tp_scene.specs.declared.answer.Cell.{Cell}
use Rattle.tp_scene.specs.Pick.{Moment, Leads}
use Rattle.tp_scene.specs.Advance.{advanced, StoreGoesOn}
use Rattle.tp_scene.specs.Replay.{IsOpen}
use Rattle.tp_step.proofs.Picks.{leads_on}
use Rattle.tp_show.specs.declared.turn.Picture.{Picture}
use Rattle.tp_show.specs.declared.turn.Turn.{Turn}
use Rattle.tp_show.specs.declared.turn.Turn.TheVariants.{Went, Finished, Contradictory, Undetermined, StateLimit, InputMissing, Over}
use Rattle.tp_run.specs.History.{RunEndsWith, picks_led, beginning_of, picks_before, picks_of_run, Plan, setting, IsPictureOf, StateGoesOn, StateEnds, StatesLead, LeadsTo}
use Rattle.tp_step_laws.specs.Maps.{renamed_cell}
use Rattle.tp_step_laws.specs.Alike.{Alike}
use Rattle.tp_step_laws.proofs.AdvanceAlike.{alike_moments_advance}
use Rattle.tp_step_laws.proofs.CloseOneWay.{leads_orderly}
use Rattle.tp_step_laws.proofs.Rest.{one_rest_of}
use Rattle.tp_run.specs.Same.{EndTheSame, FailsNowhere}
use Rattle.tp_run_laws.specs.Agree.{IsOrderlyPlan}
use Rattle.tp_run_laws.specs.Beginnings.{RunGoesOnFrom, BeginningsGoOn}
use Rattle.tp_run.proofs.OneState.{SameKind, kinds, Orderly, ClosesBy, EndsAt, one_way, end_alike, settle, cant_go, next_orderly, first_orderly, itself}
use Rattle.tp_run_laws.proofs.Walk.{end_at}
use Rattle.tp_run_laws.proofs.Agree.{Parts, parts, agree}
use Rattle.tp_run_laws.proofs.AlikeRuns.{same_end}

-- the store with which the next state may begin
next_store : Contents → Contents
next_store k = record { facts = lasting_facts k.facts; variables = k.variables }

store_goes_on : (k : Contents) → NoClash k.facts → StoreGoesOn k (next_store k)
unfolding next_store
store_goes_on k h = record { kept = λ p. refl; no_clash = NoClash-filter (λ (f : Fact). f.path.var.lasting) k.facts h; variables = refl }

module _ (plan : Plan) where
  -- One state, where some picks close it, of a run and of a beginning that is alike: the picks that were made go on to close it.
  module _ (n : ℕ) (m m' : Moment) (om : Orderly plan n m) (om' : Orderly plan n m') (a : Alike (length (kinds plan)) m m') (begun : List ℕ)
      (there : Moment) (led : Leads (setting plan n) m' begun there) where
    record Closed (picks : List ℕ) (end : Moment) : Type 0 where
      more : List ℕ
      last : Moment
      closes : ClosesBy plan n m' (begun ++ more) last

    close : (picks : List ℕ) (end : Moment) → ClosesBy plan n m picks end → Closed picks end
    close picks end c =
        let can = (one_way plan n m m' om om' a picks end c).can in
        let g = one_rest_of (setting plan n) (kinds plan) m' can.1 there can.0 begun om' can.2.leads can.2.rest led in
        let w = can.2.within in
        let k = g.count in
        record {
          more = g.more;
          last = g.last;
          closes = record {
            leads = leads_on (setting plan n) m' there g.last begun g.more led g.leads;
            within = omega (arith, w, k, length-append begun g.more);
            rest = g.rest;
          };
        }

    -- the picture of the run's state is one of the state that is closed so
    closed_picture : (picks : List ℕ) (end : Moment) (c : ClosesBy plan n m picks end) (x : Closed picks end) (p : Picture)
        → IsPictureOf plan n picks end p → IsPictureOf plan n (begun ++ x.more) x.last p
    closed_picture picks end c x p h =
        let s = settle plan n m m' om om' a picks end (begun ++ x.more) x.last c x.closes in
        record {
          state = h.state;
          facts = record { order = h.facts.order; no_clash = h.facts.no_clash; same = λ path. h.facts.same path ∙ sym (s.facts path) };
          parts = h.parts;
          shows = h.shows ∙ sym s.shows;
          reductions = h.reductions ∙ sym ((one_way plan n m m' om om' a picks end c).count (begun ++ x.more) x.last x.closes);
        }

    record GoesToo (p : Picture) (next : Moment) : Type 0 where
      next' : Moment
      goes : StateGoesOn plan n m' p next'
      more : List ℕ
      picks_are : goes.picks ≡ begun ++ more
      alike : Alike (length (kinds plan)) next next'

    goes_too : (p : Picture) (next : Moment) → StateGoesOn plan n m p next → GoesToo p next
    goes_too p next g =
        let c = g.goes.closes in
        let x = close g.picks g.last c in
        let s = settle plan n m m' om om' a g.picks g.last (begun ++ x.more) x.last c x.closes in
        let clash_free = (leads_orderly (setting plan n) (kinds plan) (begun ++ x.more) m' x.last om' x.closes.leads).sound.store.no_clash in
        let next' : Moment = record { scene = advanced x.last.scene; store = next_store x.last.store } in
        let on = store_goes_on x.last.store clash_free in
        record {
          next' = next';
          goes = record {
            within = g.within;
            picks = begun ++ x.more;
            last = x.last;
            goes = record { closes = x.closes; settles = s.goes_too g.goes.settles; scene = refl; store = on };
            picture_is = closed_picture g.picks g.last c x p g.picture_is;
          };
          more = x.more;
          picks_are = refl;
          alike = alike_moments_advance (length (kinds plan)) g.last x.last next next'
              (end_alike plan n m m' om om' a g.picks g.last (begun ++ x.more) x.last c x.closes) g.goes.scene g.goes.store refl on;
        }

    record EndsToo (p : Picture) : Type 0 where
      ends : StateEnds plan n m' p
      more : List ℕ
      picks_are : ends.picks ≡ begun ++ more

    ends_too : (p : Picture) → StateEnds plan n m p → EndsToo p
    ends_too p e =
        let c = e.ends.closes in
        let x = close e.picks e.last c in
        let s = settle plan n m m' om om' a e.picks e.last (begun ++ x.more) x.last c x.closes in
        record {
          ends = record {
            within = e.within;
            picks = begun ++ x.more;
            last = x.last;
            ends = record { closes = x.closes; settles = s.ends_too e.ends.settles };
            picture_is = closed_picture e.picks e.last c x p e.picture_is;
          };
          more = x.more;
          picks_are = refl;
        }

    record OpenToo : Type 0 where
      cell : Cell
      is_open : IsOpen (setting plan n) plan.reductions m' cell
      more : List ℕ
      picks_are : is_open.picks ≡ begun ++ more

    open_too : (cell : Cell) → IsOpen (setting plan n) plan.reductions m cell → OpenToo
    open_too cell o =
        let x = close o.picks o.last o.closes in
        let b = end_alike plan n m m' om om' a o.picks o.last (begun ++ x.more) x.last o.closes x.closes in
        record {
          cell = renamed_cell b.0 cell;
          is_open = record {
            picks = begun ++ x.more;
            last = x.last;
            closes = x.closes;
            cell_is = (settle plan n m m' om om' a o.picks o.last (begun ++ x.more) x.last o.closes x.closes).open_too cell o.cell_is;
          };
          more = x.more;
          picks_are = refl;
        }

  -- the picks of the state that a run ends in, where it begins one
  abbrev last_picks : (k : ℕ) (last : Moment) (tail : List Picture) (turn : Turn) → FailsNowhere turn → EndsAt plan k last tail turn → List (List ℕ)
  last_picks k last tail Went safe x = []
  last_picks k last tail (Finished length) safe x = x.2.picks ∷ []
  last_picks k last tail (Contradictory state clash) safe x = []
  last_picks k last tail (Undetermined state cell) safe x = x.1.picks ∷ []
  last_picks k last tail (StateLimit states) safe x = []
  last_picks k last tail (InputMissing state port) safe x = []
  last_picks k last tail (Over state l) safe x = []

  -- What is left of a run from state n on, which begins with this moment.
  record Further (n : ℕ) (m : Moment) : Type 0 where
    before : List Picture
    last : Moment
    leads : StatesLead plan n m before last
    count : ℕ
    counts : count ≡ length before + n
    tail : List Picture
    turn : Turn
    safe : FailsNowhere turn
    end : EndsAt plan count last tail turn

  abbrev further_picks : (n : ℕ) (m : Moment) → Further n m → List (List ℕ)
  further_picks n m f = picks_led plan n m f.before f.last f.leads ++ last_picks f.count f.last f.tail f.turn f.safe f.end

  none_before : (n : ℕ) → n ≡ length {A = Picture} [] + n
  none_before n = omega arith

  -- a run that ends in this state
  abbrev ends_at_once : (n : ℕ) (m : Moment) (tail : List Picture) (turn : Turn) → FailsNowhere turn → EndsAt plan n m tail turn → Further n m
  ends_at_once n m tail turn safe end = record {
    before = [];
    last = m;
    leads = refl;
    count = n;
    counts = none_before n;
    tail = tail;
    turn = turn;
    safe = safe;
    end = end;
  }

  -- one of which the first picks begin with these
  record Onward (n : ℕ) (m : Moment) (begun : List ℕ) : Type 0 where
    further : Further n m
    more : List ℕ
    picks_later : List (List ℕ)
    picks : further_picks n m further ≡ (begun ++ more) ∷ picks_later

  module _ (n : ℕ) (m m' : Moment) (om : Orderly plan n m) (om' : Orderly plan n m') (a : Alike (length (kinds plan)) m m') (begun : List ℕ)
      (there : Moment) (led : Leads (setting plan n) m' begun there) where
    end_onward : (tail : List Picture) (turn : Turn) → FailsNowhere turn → EndsAt plan n m tail turn → n < plan.states → Onward n m' begun
    end_onward tail Went safe x l = absurd safe
    end_onward tail (Finished k) safe x l =
        let e = ends_too n m m' om om' a begun there led x.0 x.2 in
        record {
          further = ends_at_once n m' (x.0 ∷ []) (Finished n) tt (x.0, refl, e.ends, refl);
          more = e.more;
          picks_later = [];
          picks = ap (λ ps. ps ∷ []) e.picks_are;
        }
    end_onward tail (Contradictory state clash) safe x l = absurd safe
    end_onward tail (Undetermined state cell) safe x l =
        let o = open_too n m m' om om' a begun there led cell x.1 in
        record {
          further = ends_at_once n m' [] (Undetermined n o.cell) tt (refl, o.is_open, refl, l);
          more = o.more;
          picks_later = [];
          picks = ap (λ ps. ps ∷ []) o.picks_are;
        }
    end_onward tail (StateLimit states) safe x l = let e = x.2 in absurd (omega (arith, l, e))
    end_onward tail (InputMissing state port) safe x l = absurd safe
    end_onward tail (Over state k) safe x l = absurd safe

    step_onward : (p : Picture) (next : Moment) → StateGoesOn plan n m p next
        → ((next' : Moment) → Orderly plan (suc n) next' → Alike (length (kinds plan)) next next' → Further (suc n) next') → Onward n m' begun
    step_onward p next g rest =
        let x = goes_too n m m' om om' a begun there led p next g in
        let f = rest x.next' (next_orderly plan n m' x.next' p om' x.goes) x.alike in
        let c = f.counts in
        record {
          further = record {
            before = p ∷ f.before;
            last = f.last;
            leads = (x.next', x.goes, f.leads);
            count = f.count;
            counts = omega (arith, c);
            tail = f.tail;
            turn = f.turn;
            safe = f.safe;
            end = f.end;
          };
          more = x.more;
          picks_later = further_picks (suc n) x.next' f;
          picks = ap (λ ps. ps ∷ further_picks (suc n) x.next' f) x.picks_are;
        }

  -- the end of a run, from where it stands, of a state that begins alike
  ends_further : (n : ℕ) (m m' : Moment) → Orderly plan n m → Orderly plan n m' → Alike (length (kinds plan)) m m'
      → (tail : List Picture) (turn : Turn) → FailsNowhere turn → EndsAt plan n m tail turn → Further n m'
  ends_further n m m' om om' a tail Went safe x = absurd safe
  ends_further n m m' om om' a tail (Finished k) safe x = (end_onward n m m' om om' a [] m' refl tail (Finished k) safe x x.2.within).further
  ends_further n m m' om om' a tail (Contradictory state clash) safe x = absurd safe
  ends_further n m m' om om' a tail (Undetermined state cell) safe x =
      (end_onward n m m' om om' a [] m' refl tail (Undetermined state cell) safe x x.3).further
  ends_further n m m' om om' a tail (StateLimit states) safe x = ends_at_once n m' [] (StateLimit n) tt (refl, refl, x.2)
  ends_further n m m' om om' a tail (InputMissing state port) safe x = absurd safe
  ends_further n m m' om om' a tail (Over state l) safe x = absurd safe

  follow : (rs : List Picture) (n : ℕ) (m m' last : Moment) → Orderly plan n m → Orderly plan n m' → Alike (length (kinds plan)) m m'
      → StatesLead plan n m rs last → (k : ℕ) → k ≡ length rs + n
      → (tail : List Picture) (turn : Turn) → FailsNowhere turn → EndsAt plan k last tail turn → Further n m'
  follow [] n m m' last om om' a h k e tail turn safe x = ends_further n m m' om om' a tail turn safe (end_at plan n k e m last h tail turn x)
  follow (p ∷ rs) n m m' last om om' a h k e tail turn safe x =
      (step_onward n m m' om om' a [] m' refl p h.0 h.1
      (λ next' on b. follow rs (suc n) h.0 next' last (next_orderly plan n m h.0 p om h.1) on b h.2 k (omega (arith, e)) tail turn safe x)).further

  onward : (rs : List Picture) (n : ℕ) (m m' last : Moment) → Orderly plan n m → Orderly plan n m' → Alike (length (kinds plan)) m m'
      → StatesLead plan n m rs last → (k : ℕ) → k ≡ length rs + n
      → (tail : List Picture) (turn : Turn) → FailsNowhere turn → EndsAt plan k last tail turn
      → n < plan.states → (begun : List ℕ) (there : Moment) → Leads (setting plan n) m' begun there → Onward n m' begun
  onward [] n m m' last om om' a h k e tail turn safe x l begun there led = end_onward n m m' om om' a begun there led tail turn safe
      (end_at plan n k e m last h tail turn x) l
  onward (p ∷ rs) n m m' last om om' a h k e tail turn safe x l begun there led =
      step_onward n m m' om om' a begun there led p h.0 h.1
      (λ next' on b. follow rs (suc n) h.0 next' last (next_orderly plan n m h.0 p om h.1) on b h.2 k (omega (arith, e)) tail turn safe x)

  -- The state of a run that has the number of the one that a beginning leads to; it begins alike.
  record Aligned (j : ℕ) (last' last : Moment) (k : ℕ) : Type 0 where
    at : Moment
    orderly : Orderly plan j at
    orderly' : Orderly plan j last'
    alike : Alike (length (kinds plan)) at last'
    rest : List Picture
    leads : StatesLead plan j at rest last
    counts : k ≡ length rest + j

  align : (ps rs : List Picture) (n : ℕ) (m m' last last' : Moment) → Orderly plan n m → Orderly plan n m' → Alike (length (kinds plan)) m m'
      → StatesLead plan n m rs last → StatesLead plan n m' ps last'
      → (k : ℕ) → k ≡ length rs + n → (j : ℕ) → j ≡ length ps + n → (tail : List Picture) (turn : Turn) → EndsAt plan k last tail turn
      → Aligned j last' last k
  align [] rs n m m' last last' om om' a h leads k e j d tail turn x =
      let f : n ≡ j = omega (arith, d) in
      record {
        at = m;
        orderly = subst (λ (i : ℕ). Orderly plan i m) f om;
        orderly' = subst (λ (i : ℕ). Orderly plan i last') f (subst (λ (z : Moment). Orderly plan n z) (sym leads) om');
        alike = subst (λ (z : Moment). Alike (length (kinds plan)) m z) (sym leads) a;
        rest = rs;
        leads = subst (λ (i : ℕ). StatesLead plan i m rs last) f h;
        counts = omega (arith, e, d);
      }
  align (p ∷ ps) [] n m m' last last' om om' a h leads k e j d tail turn x =
      absurd (cant_go plan n m m' om om' a tail turn (end_at plan n k e m last h tail turn x) p leads.0 leads.1)
  align (p ∷ ps) (r ∷ rs) n m m' last last' om om' a h leads k e j d tail turn x =
      let g = h.1 in
      let g' = leads.1 in
      let b = end_alike plan n m m' om om' a g.picks g.last g'.picks g'.last g.goes.closes g'.goes.closes in
      let next = alike_moments_advance (length (kinds plan)) g.last g'.last h.0 leads.0 b g.goes.scene g.goes.store g'.goes.scene g'.goes.store in
      align ps rs (suc n) h.0 leads.0 last last' (next_orderly plan n m h.0 r om g) (next_orderly plan n m' leads.0 p om' g') next h.2 leads.2 k
      (omega (arith, e)) j (omega (arith, d)) tail turn x

  -- states after states, with their picks
  lead_on : (ps : List Picture) (n : ℕ) (m mid : Moment) (leads : StatesLead plan n m ps mid) (k : ℕ) → k ≡ length ps + n
      → (rs : List Picture) (last : Moment) (h : StatesLead plan k mid rs last)
      → (on : StatesLead plan n m (ps ++ rs) last)
      × (picks_led plan n m (ps ++ rs) last on ≡ picks_led plan n m ps mid leads ++ picks_led plan k mid rs last h)
  lead_on [] n m mid leads k e rs last h =
      let f : n ≡ k = omega (arith, e) in
      subst (λ (z : Moment). (g : StatesLead plan k z rs last)
      → (on : StatesLead plan n m rs last) × (picks_led plan n m rs last on ≡ picks_led plan k z rs last g)) (sym leads)
      (subst (λ (i : ℕ). (g : StatesLead plan i m rs last)
      → (on : StatesLead plan n m rs last) × (picks_led plan n m rs last on ≡ picks_led plan i m rs last g)) f (λ g. (g, refl))) h
  lead_on (p ∷ ps) n m mid leads k e rs last h =
      let r = lead_on ps (suc n) leads.0 mid leads.2 k (omega (arith, e)) rs last h in
      ((leads.0, leads.1, r.0), ap (λ xs. leads.1.picks ∷ xs) r.1)

  -- a whole run, of the states that lead to its end
  record Whole (before : List Picture) (last : Moment) (leads : LeadsTo plan before last) (tail : List Picture) (turn : Turn)
      (picks : List (List ℕ)) : Type 0 where
    pictures : List Picture
    states : pictures ≡ before ++ tail
    run : RunEndsWith plan pictures turn
    picks_are : picks_of_run plan pictures turn run ≡ picks_before plan before last leads ++ picks

  whole_here : (before : List Picture) (last : Moment) (leads : LeadsTo plan before last) (tail : List Picture) (turn : Turn)
      (safe : FailsNowhere turn) (x : EndsAt plan (length before) last tail turn)
      → Whole before last leads tail turn (last_picks (length before) last tail turn safe x)
  whole_here before last leads tail Went safe x = absurd safe
  whole_here before last leads tail (Finished k) safe x =
      record {
        pictures = before ++ x.0 ∷ [];
        states = ap (λ ps. before ++ ps) (sym x.1);
        run = record { before = before; final = x.0; moment = last; pictures = refl; leads = leads; ends = x.2; count = x.3 };
        picks_are = refl;
      }
  whole_here before last leads tail (Contradictory state clash) safe x = absurd safe
  whole_here before last leads tail (Undetermined state cell) safe x =
      let r = subst (λ (i : ℕ). (run : RunEndsWith plan before (Undetermined i cell))
      × (picks_of_run plan before (Undetermined i cell) run ≡ picks_before plan before last leads ++ x.1.picks ∷ [])) (sym x.2)
      ((last, leads, x.1, refl, x.3), refl) in
      record { pictures = before; states = sym (append-nil before) ∙ ap (λ ps. before ++ ps) (sym x.0); run = r.0; picks_are = r.1 }
  whole_here before last leads tail (StateLimit states) safe x =
      record {
        pictures = before;
        states = sym (append-nil before) ∙ ap (λ ps. before ++ ps) (sym x.0);
        run = (last, leads, x.1, x.1 ∙ x.2);
        picks_are = sym (append-nil _);
      }
  whole_here before last leads tail (InputMissing state port) safe x = absurd safe
  whole_here before last leads tail (Over state l) safe x = absurd safe

  whole : (before : List Picture) (last : Moment) (leads : LeadsTo plan before last) (k : ℕ) → k ≡ length before
      → (tail : List Picture) (turn : Turn) (safe : FailsNowhere turn) (x : EndsAt plan k last tail turn)
      → Whole before last leads tail turn (last_picks k last tail turn safe x)
  whole before last leads k e tail turn safe =
      subst (λ (i : ℕ). (x : EndsAt plan i last tail turn) → Whole before last leads tail turn (last_picks i last tail turn safe x)) (sym e)
      (whole_here before last leads tail turn safe)

  fails_nowhere_too : (turn other : Turn) → FailsNowhere turn → SameKind turn other → FailsNowhere other
  fails_nowhere_too Went other safe same = absurd safe
  fails_nowhere_too (Finished n) other safe same = subst FailsNowhere (sym same) tt
  fails_nowhere_too (Contradictory state clash) other safe same = absurd safe
  fails_nowhere_too (Undetermined state cell) other safe same = subst FailsNowhere (sym same.1) tt
  fails_nowhere_too (StateLimit states) other safe same = subst FailsNowhere (sym same) tt
  fails_nowhere_too (InputMissing state port) other safe same = absurd safe
  fails_nowhere_too (Over state l) other safe same = absurd safe

  module _ (o : IsOrderlyPlan plan) (ps : List Picture) (turn : Turn) (run : RunEndsWith plan ps turn) (safe : FailsNowhere turn) where
    abbrev mine : Parts plan ps turn
    mine = parts plan ps turn run

    module _ (qs : List Picture) (m : Moment) (leads : LeadsTo plan qs m) (l : length qs < plan.states) (begun : List ℕ) (there : Moment)
        (led : Leads (setting plan (length qs)) m begun there) where
      aligned : Aligned (length qs) m mine.moment (length mine.before)
      aligned =
          let begins = first_orderly plan o.program o.inputs in
          align qs mine.before 0 (beginning_of plan) (beginning_of plan) mine.moment m begins begins
          (itself plan 0 (beginning_of plan) begins) mine.leads leads (length mine.before) (omega arith) (length qs)
          (omega arith) mine.tail turn mine.end

      on : Onward (length qs) m begun
      on = onward aligned.rest (length qs) aligned.at m mine.moment aligned.orderly aligned.orderly' aligned.alike aligned.leads
          (length mine.before) aligned.counts mine.tail turn safe mine.end l begun there led

      goes_on : RunGoesOnFrom plan qs (picks_before plan qs m leads) begun (EndTheSame plan ps turn run)
      goes_on =
          let f = on.further in
          let c = f.counts in
          let r = lead_on qs 0 (beginning_of plan) m leads (length qs) (omega arith) f.before f.last f.leads in
          let w = whole (qs ++ f.before) f.last r.0 f.count (omega (arith, c, length-append qs f.before)) f.tail f.turn f.safe f.end in
          record {
            pictures = w.pictures;
            end = f.turn;
            run = w.run;
            later = f.before ++ f.tail;
            states = w.states ∙ append_assoc qs f.before f.tail;
            more = on.more;
            picks_later = on.picks_later;
            picks = w.picks_are ∙ ap (λ xs. xs ++ last_picks f.count f.last f.tail f.turn f.safe f.end) r.1
                ∙ append_assoc (picks_before plan qs m leads) (picks_led plan (length qs) m f.before f.last f.leads)
                (last_picks f.count f.last f.tail f.turn f.safe f.end)
                ∙ ap (λ xs. picks_before plan qs m leads ++ xs) on.picks;
            comes_to = same_end plan o ps turn run w.pictures f.turn w.run;
          }

pub beginnings_go_on : (plan : Plan) → BeginningsGoOn plan
beginnings_go_on plan o ps turn run safe = record {
  run_goes_on = λ qs m leads l begun there led. goes_on plan o ps turn run safe qs m leads l begun there led;
  no_failure = λ qs other another. fails_nowhere_too plan turn other safe (agree plan o ps turn run qs other another).1;
}
