-- What may move, by its slot.
use Rattle.std.proofs.Common.{◌≡◌, ℕ, ◌||◌, ◌&&◌, Bool, true, false, eqb, refl, sym, ◌∙◌, subst, inl, inr}
use Rattle.std.proofs.lemmas.Bool.{cases_Bool, eqb-true, both_ways, and_from, or_cases, or_left, or_right}
use Rattle.tp_scene.specs.Scene.{Entries, none, leaf, node, has, second_lives}
use Rattle.tp_scene.specs.Rest.{is_unsettled}
use Rattle.tp_slots.specs.Plain.{bare, holds, Slot, Slots, slot_at}
use Rattle.tp_slots.specs.Shown.{AreShown}
use Rattle.tp_slots.proofs.PutEdits.{both_so}
use Rattle.tp_agenda.specs.Ready.{holder_moves, may_move, what_moves}
use Rattle.tp_agenda.proofs.Movers.{mover_lives}

-- one of four
first_of : (a b c d : Bool) → a ≡ true → (a || (b || (c || d))) ≡ true
first_of a b c d e = or_left a (b || (c || d)) e

second_of_four : (a b c d : Bool) → b ≡ true → (a || (b || (c || d))) ≡ true
second_of_four a b c d e = or_right a (b || (c || d)) (or_left b (c || d) e)

third_of : (a b c d : Bool) → c ≡ true → (a || (b || (c || d))) ≡ true
third_of a b c d e = or_right a (b || (c || d)) (or_right b (c || d) (or_left c d e))

fourth_of : (a b c d : Bool) → d ≡ true → (a || (b || (c || d))) ≡ true
fourth_of a b c d e = or_right a (b || (c || d)) (or_right b (c || d) (or_right c d e))

-- what may move, its slot says so
module _ (s : Slots) (t : ℕ) where
  pub moving_shown : (r : ℕ) (es : Entries) → AreShown s r es → may_move t es ≡ true → what_moves (slot_at s t).what ≡ true
  moving_shown r none a h = absurd (both_ways false refl h)
  moving_shown r (leaf id l rest) a h = elim (or_cases (eqb id t && is_unsettled l) (may_move t rest) h) [
    | inl b ↦ (let both = both_so (eqb id t) (is_unsettled l) b in
        let at : slot_at s t ≡ record { home = r; what = bare l } = subst (λ x. slot_at s x ≡ record { home = r; what = bare l }) (eqb-true id t both.0) a.1 in
        subst (λ (x : Slot). what_moves x.what ≡ true) (sym at) both.1)
    | inr b ↦ moving_shown r rest a.2 b
  ]
  moving_shown r (node id k h held g second rest) a e =
      elim (or_cases (eqb id t && holder_moves k) ((second_lives k && may_move t second) || (may_move t held || may_move t rest)) e) [
        | inl b ↦ (let both = both_so (eqb id t) (holder_moves k) b in
            let at : slot_at s t ≡ record { home = r; what = holds k h.number a.1 } = subst (λ x. slot_at s x ≡ record { home = r; what = holds k h.number a.1 }) (eqb-true id t both.0) a.2 in
            subst (λ (x : Slot). what_moves x.what ≡ true) (sym at) both.1)
        | inr b ↦ elim (or_cases (second_lives k && may_move t second) (may_move t held || may_move t rest) b) [
          | inl c ↦ moving_shown g.number second a.8 (both_so (second_lives k) (may_move t second) c).1
          | inr c ↦ elim (or_cases (may_move t held) (may_move t rest) c) [
            | inl d ↦ moving_shown h.number held a.7 d
            | inr d ↦ moving_shown r rest a.9 d
          ]
        ]
      ]

  -- and what it says is so where the item is live
  pub shown_moving : (r : ℕ) (es : Entries) → AreShown s r es → has t es ≡ true → what_moves (slot_at s t).what ≡ true → may_move t es ≡ true
  shown_moving r none a lives m = absurd (both_ways false refl lives)
  shown_moving r (leaf id l rest) a lives m = elim (cases_Bool (eqb id t)) [
    | inl e ↦ (let at : slot_at s t ≡ record { home = r; what = bare l } = subst (λ x. slot_at s x ≡ record { home = r; what = bare l }) (eqb-true id t e) a.1 in
        or_left (eqb id t && is_unsettled l) (may_move t rest) (and_from (eqb id t) (is_unsettled l) e (subst (λ (x : Slot). what_moves x.what ≡ true) at m)))
    | inr e ↦ or_right (eqb id t && is_unsettled l) (may_move t rest) (shown_moving r rest a.2 (rw e at lives) m)
  ]
  shown_moving r (node id k h held g second rest) a lives m =
      let here = eqb id t && holder_moves k in
      let inside = second_lives k && may_move t second in
      elim (or_cases (eqb id t) ((second_lives k && has t second) || (has t held || has t rest)) lives) [
        | inl e ↦ (let at : slot_at s t ≡ record { home = r; what = holds k h.number a.1 } = subst (λ x. slot_at s x ≡ record { home = r; what = holds k h.number a.1 }) (eqb-true id t e) a.2 in
            first_of here inside (may_move t held) (may_move t rest) (and_from (eqb id t) (holder_moves k) e (subst (λ (x : Slot). what_moves x.what ≡ true) at m)))
        | inr b ↦ elim (or_cases (second_lives k && has t second) (has t held || has t rest) b) [
          | inl c ↦ (let d = both_so (second_lives k) (has t second) c in
              second_of_four here inside (may_move t held) (may_move t rest) (and_from (second_lives k) (may_move t second) d.0 (shown_moving g.number second a.8 d.1 m)))
          | inr c ↦ elim (or_cases (has t held) (has t rest) c) [
            | inl d ↦ third_of here inside (may_move t held) (may_move t rest) (shown_moving h.number held a.7 d m)
            | inr d ↦ fourth_of here inside (may_move t held) (may_move t rest) (shown_moving r rest a.9 d m)
          ]
        ]
      ]

-- so the two tests agree on live items, and what isn't live doesn't move
pub says_moving : (s : Slots) (r t : ℕ) (es : Entries) → AreShown s r es → has t es ≡ true → what_moves (slot_at s t).what ≡ may_move t es
says_moving s r t es shown lives = elim (cases_Bool (may_move t es)) [
  | inl e ↦ moving_shown s t r es shown e ∙ sym e
  | inr e ↦ elim (cases_Bool (what_moves (slot_at s t).what)) [
    | inl m ↦ absurd (both_ways (may_move t es) e (shown_moving s t r es shown lives m))
    | inr m ↦ m ∙ sym e
  ]
]

pub gone_stays : (t : ℕ) (es : Entries) → has t es ≡ false → may_move t es ≡ false
gone_stays t es gone = elim (cases_Bool (may_move t es)) [ inl e ↦ absurd (both_ways (has t es) gone (mover_lives t es e)) | inr e ↦ e ]
