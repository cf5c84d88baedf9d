-- A closure follows its order.
use Rattle.std.proofs.Common.{◌≡◌, ℕ, ◌+◌, ◌<◌, true, List, [], ◌∷◌, ◌++◌, length, Option, None, Some, refl, ap, sym, ◌∙◌, subst, arith, inl, inr, append_assoc, length-append}
use Rattle.std.proofs.lemmas.Bool.{cases_lt}
use Rattle.std.proofs.lemmas.List.{append-nil}
use Rattle.tp_scene.specs.Scene.{has}
use Rattle.tp_scene.specs.Pick.{Setting, Moment}
use Rattle.tp_step.specs.declared.ending.Ending.{Ending}
use Rattle.tp_step.specs.declared.ending.Ending.TheVariants.{Rest, Clash, Missing, Over}
use Rattle.tp_step.specs.declared.order.Order.{Order}
use Rattle.tp_step.specs.declared.answer.Tried.{Tried}
use Rattle.tp_step.specs.declared.answer.Tried.TheVariants as tried
use Rattle.tp_pass.specs.declared.sweep.Sweep.{Sweep}
use Rattle.tp_pass.specs.Sweeps.{BeginsSweep, TakesTurn}
use Rattle.tp_step.specs.EndsWith.{EndsWithItem}
use Rattle.tp_step.specs.Closes.{LooksAt, WasLookedAt, Counts, ending_of, is_pick}
use Rattle.tp_pass.specs.Follows.{Turns, no_turn_yet, one_pick, no_pick, PassSoFar, WholePasses, no_pass_yet, whole_pass, EndsAtTurn, PassTurns, EndsLastPass, FollowsOrder}

-- Picks that were made so, appended to those before, of which each took one of the reductions that were left.
pub record PicksSoFar (AreMade : List ℕ → Type 0) (l0 l1 : ℕ) (b0 b1 : List ℕ) : Type 0 where
  pub picks : List ℕ
  pub made : AreMade picks
  pub appended : b1 ≡ b0 ++ picks
  pub spent : l0 ≡ l1 + length picks

no_pick_yet : (AreMade : List ℕ → Type 0) (left : ℕ) (before : List ℕ) → AreMade [] → PicksSoFar AreMade left left before before
no_pick_yet AreMade left before made = record { picks = []; made = made; appended = sym (append-nil before); spent = omega arith }

more_picks : (AreMade AreMadeNow : List ℕ → Type 0) (l0 l1 l2 : ℕ) (b0 b1 b2 us : List ℕ) (h : PicksSoFar AreMade l0 l1 b0 b1)
    → AreMadeNow (h.picks ++ us) → b2 ≡ b1 ++ us → l1 ≡ l2 + length us → PicksSoFar AreMadeNow l0 l2 b0 b2
more_picks AreMade AreMadeNow l0 l1 l2 b0 b1 b2 us h made more less = record {
  picks = h.picks ++ us;
  made = made;
  appended = more ∙ ap (λ xs. xs ++ us) h.appended ∙ append_assoc b0 h.picks us;
  spent = omega (arith, h.spent, less, length-append h.picks us);
}

same_picks : (AreMade AreMadeNow : List ℕ → Type 0) (l0 l1 l2 : ℕ) (b0 b1 b2 : List ℕ) (h : PicksSoFar AreMade l0 l1 b0 b1)
    → AreMadeNow h.picks → b2 ≡ b1 → l2 ≡ l1 → PicksSoFar AreMadeNow l0 l2 b0 b2
same_picks AreMade AreMadeNow l0 l1 l2 b0 b1 b2 h made still same =
    record { picks = h.picks; made = made; appended = still ∙ h.appended; spent = omega (arith, h.spent, same) }

-- the turns of a pass so far, from those that its sweep begins with
abbrev pub TurnsSoFar : Setting → (m here : Moment) → (first left : Sweep) → (l0 l1 : ℕ) → (b0 b1 : List ℕ) → Type 0
TurnsSoFar w m here first left = PicksSoFar (λ picks. Turns w m first picks here left)

pub turns_begin : (w : Setting) (m : Moment) (sweep : Sweep) (left : ℕ) (before : List ℕ) → TurnsSoFar w m m sweep sweep left left before before
turns_begin w m sweep left before = no_pick_yet (λ picks. Turns w m sweep picks m sweep) left before no_turn_yet

-- one turn more
pub turns_go_on : (w : Setting) (m here next : Moment) (first sweep gone : Sweep) (l0 l1 l2 : ℕ) (b0 b1 b2 : List ℕ) (item : ℕ)
    → TurnsSoFar w m here first sweep l0 l1 b0 b1 → TakesTurn here.scene.next_item sweep gone (Some item) → WasLookedAt w item here next l1 l2 b1 b2 None
    → TurnsSoFar w m next first gone l0 l2 b0 b2
turns_go_on w m here next first sweep gone l0 l1 l2 b0 b1 b2 item h turn (inl x) =
    more_picks (λ picks. Turns w m first picks here sweep) (λ picks. Turns w m first picks next gone) l0 l1 l2 b0 b1 b2 (item ∷ []) h (one_pick h.made turn x.1) x.3 (omega (arith, x.2))
turns_go_on w m here next first sweep gone l0 l1 l2 b0 b1 b2 item h turn (inr x) =
    subst (λ (z : Moment). TurnsSoFar w m z first gone l0 l2 b0 b2) (sym x.1)
    (same_picks (λ picks. Turns w m first picks here sweep) (λ picks. Turns w m first picks here gone) l0 l1 l2 b0 b1 b2 h (no_pick item h.made turn x.0) x.3 x.2)

-- they are those of a pass that begins in this order
pub pass_of : (w : Setting) (m here : Moment) (order after now : Order) (first left : Sweep) (l0 l1 : ℕ) (b0 b1 : List ℕ)
    → BeginsSweep m.scene.root.entries order after first → now ≡ after → TurnsSoFar w m here first left l0 l1 b0 b1 → PassSoFar w m here order now l0 l1 b0 b1 left
pass_of w m here order after now first left l0 l1 b0 b1 begins same h = record {
  picks = h.picks;
  pass = record { sweep = first; begins = subst (λ o. BeginsSweep m.scene.root.entries order o first) (sym same) begins; turns = h.made };
  appended = h.appended;
  spent = h.spent;
}

-- that the closure ends with the item, where it ends
abbrev pub MayEndWith : Setting → ℕ → Moment → ℕ → Option Ending → Type 0
MayEndWith w k m t None = Unit {0}
MayEndWith w k m t (Some ending) = (has t m.scene.root.entries ≡ true) × EndsWithItem w k m t ending

pub may_end : (w : Setting) (t : ℕ) (m next : Moment) (l l' : ℕ) (b a : List ℕ) (o : Option Tried) → LooksAt w l m t next o → Counts (is_pick o) t l l' b a
    → MayEndWith w l' m t (ending_of o)
may_end w t m next l l' b a None h c = tt
may_end w t m next l l' b a (Some (tried.Reduced news)) h c = tt
may_end w t m next l l' b a (Some (tried.Waits first other)) h c = tt
may_end w t m next l l' b a (Some tried.Rests) h c = tt
may_end w t m next l l' b a (Some (tried.Clash clash)) h c = (h.0, h.1.1)
may_end w t m next l l' b a (Some (tried.Missing port)) h c = (h.0, h.1.1)
may_end w t m next l l' b a (Some (tried.Over limit)) h c = (h.0, elim (h.1.1) [ inl x ↦ inl x | inr x ↦ inr (x.1, c.0 ∙ x.2, (x.0, x.3)) ])

-- the closure ends at a turn
pub turns_end : (w : Setting) (m here next : Moment) (first sweep gone : Sweep) (l0 l1 l2 : ℕ) (b0 b1 b2 : List ℕ) (item : ℕ) (ending : Ending)
    → TurnsSoFar w m here first sweep l0 l1 b0 b1 → TakesTurn here.scene.next_item sweep gone (Some item) → WasLookedAt w item here next l1 l2 b1 b2 (Some ending)
    → MayEndWith w l2 here item (Some ending) → TurnsSoFar w m next first sweep l0 l2 b0 b2 × EndsAtTurn w l2 next sweep ending
turns_end w m here next first sweep gone l0 l1 l2 b0 b1 b2 item ending h turn x ends =
    let still = same_picks (λ picks. Turns w m first picks here sweep) (λ picks. Turns w m first picks here sweep) l0 l1 l2 b0 b1 b2 h h.made x.3 x.2 in
    let at : EndsAtTurn w l2 here sweep ending = (item, (gone, turn), ends.0, ends.1) in
    (subst (λ (z : Moment). TurnsSoFar w m z first sweep l0 l2 b0 b2) (sym x.1) still, subst (λ (z : Moment). EndsAtTurn w l2 z sweep ending) (sym x.1) at)

-- the passes of a closure so far
abbrev pub PassesSoFar : Setting → (m here : Moment) → (order between : Order) → (l0 l1 : ℕ) → (b0 b1 : List ℕ) → Type 0
PassesSoFar w m here order between = PicksSoFar (λ picks. WholePasses w m order picks here between)

pub passes_begin : (w : Setting) (m : Moment) (order : Order) (left : ℕ) (before : List ℕ) → PassesSoFar w m m order order left left before before
passes_begin w m order left before = no_pick_yet (λ picks. WholePasses w m order picks m order) left before no_pass_yet

pub passes_go_on : (w : Setting) (m here next : Moment) (order between after : Order) (l0 l1 l2 : ℕ) (b0 b1 b2 : List ℕ) → PassesSoFar w m here order between l0 l1 b0 b1
    → PassTurns w here next between after l1 l2 b1 b2 None → (l2 ≡ l1 → ⊥) → PassesSoFar w m next order after l0 l2 b0 b2
passes_go_on w m here next order between after l0 l1 l2 b0 b1 b2 h g some =
    let p = g.1 in
    let picked : 0 < length p.picks = elim (cases_lt 0 (length p.picks)) [ inl u ↦ u | inr u ↦ absurd (some (omega (arith, u, p.spent))) ] in
    more_picks (λ picks. WholePasses w m order picks here between) (λ picks. WholePasses w m order picks next after) l0 l1 l2 b0 b1 b2 p.picks h (whole_pass h.made p.pass g.2 picked) p.appended p.spent

no_picks : (xs : List ℕ) → length xs ≡ 0 → xs ≡ []
no_picks [] e = refl
no_picks (x ∷ xs) e = absurd (omega (arith, e))

-- and its last one
last_pass : (w : Setting) (m here next : Moment) (order between after : Order) (l0 l1 l2 : ℕ) (b0 b1 b2 : List ℕ) (sweep : Sweep) (ending : Ending)
    → PassesSoFar w m here order between l0 l1 b0 b1 → (p : PassSoFar w here next between after l1 l2 b1 b2 sweep) → EndsLastPass w l2 next sweep p.picks ending
    → FollowsOrder w order l0 m next b0 b2 ending
unfolding more_picks
last_pass w m here next order between after l0 l1 l2 b0 b1 b2 sweep ending h p ends =
    let all = more_picks (λ picks. WholePasses w m order picks here between) (λ picks. Unit {0}) l0 l1 l2 b0 b1 b2 p.picks h tt p.appended p.spent in
    record {
      earlier = h.picks;
      later = p.picks;
      middle = here;
      between = between;
      passes = h.made;
      gone_on = after;
      sweep = sweep;
      last_pass = p.pass;
      appended = all.appended;
      left = l2;
      spent = all.spent;
      ends = ends;
    }

pub closure_rests : (w : Setting) (m here next : Moment) (order between after : Order) (l0 l1 l2 : ℕ) (b0 b1 b2 : List ℕ) → PassesSoFar w m here order between l0 l1 b0 b1
    → PassTurns w here next between after l1 l2 b1 b2 None → l2 ≡ l1 → FollowsOrder w order l0 m next b0 b2 Rest
closure_rests w m here next order between after l0 l1 l2 b0 b1 b2 h g same =
    last_pass w m here next order between after l0 l1 l2 b0 b1 b2 g.0 Rest h g.1 (g.2, no_picks g.1.picks (omega (arith, same, g.1.spent)))

ends_last : (w : Setting) (k : ℕ) (m : Moment) (sweep : Sweep) (picks : List ℕ) (ending : Ending) → EndsAtTurn w k m sweep ending → EndsLastPass w k m sweep picks ending
ends_last w k m sweep picks Rest h = absurd h.3
ends_last w k m sweep picks (Clash clash) h = h
ends_last w k m sweep picks (Missing port) h = h
ends_last w k m sweep picks (Over kind) h = h

pub closure_ends : (w : Setting) (m here next : Moment) (order between after : Order) (l0 l1 l2 : ℕ) (b0 b1 b2 : List ℕ) (ending : Ending)
    → PassesSoFar w m here order between l0 l1 b0 b1 → PassTurns w here next between after l1 l2 b1 b2 (Some ending) → FollowsOrder w order l0 m next b0 b2 ending
closure_ends w m here next order between after l0 l1 l2 b0 b1 b2 ending h g =
    last_pass w m here next order between after l0 l1 l2 b0 b1 b2 g.0 ending h g.1 (ends_last w l2 next g.0 g.1.picks ending g.2)
