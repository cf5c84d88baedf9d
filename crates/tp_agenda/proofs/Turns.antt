-- Whose turn it is among the ready items.
use Rattle.std.proofs.Common.{◌≡◌, ◌↔◌, ℕ, ◌%◌, Bool, true, List, length, slice_get, count_by, Some, refl, ap, sym, ◌∙◌, subst}
use Rattle.tp_step.specs.declared.order.Order.{Order}
use Rattle.tp_step.specs.declared.order.Order.TheVariants.{First, Last, Seed}
use Rattle.tp_step.specs.Seeds.{word_after, choice_of}
use Rattle.tp_lanes.specs.Planes.{flag, IsFirstMember, IsLastMember, IsNthMember}
use Rattle.tp_agenda.specs.Agenda.{TriesNext}
use Rattle.tp_agenda.proofs.Held.{contains}
use Rattle.tp_agenda.proofs.Members.{members_of}

-- the flagged items are ready
abbrev pub IsFlagged : List Bool → ℕ → Type 0
IsFlagged xs t = flag xs t ≡ true

pub first_turn : (xs : List Bool) (t : ℕ) → IsFirstMember xs t → TriesNext (IsFlagged xs) First First t
first_turn xs t h = (refl, h.member, h.least)

pub last_turn : (xs : List Bool) (t : ℕ) → IsLastMember xs t → TriesNext (IsFlagged xs) Last Last t
last_turn xs t h = (refl, h.member, h.greatest)

pub chosen_turn : (xs : List Bool) (word after count place t : ℕ) → count ≡ count_by (λ b. b) xs → place ≡ choice_of word % count → after ≡ word_after word
    → IsNthMember xs place t → TriesNext (IsFlagged xs) (Seed word) (Seed after) t
chosen_turn xs word after count place t many chosen goes h =
    let ms = members_of xs in
    let m = ms.1 in
    let at : place ≡ choice_of word % length ms.0 = chosen ∙ ap (λ n. choice_of word % n) (many ∙ sym m.count) in
    (ap Seed goes, (ms.0, record { rising = m.rising; each = λ u. (m.member u, m.each u) }, subst (λ p. slice_get ms.0 p ≡ Some t) (h.before ∙ at) (m.placed t h.member)))

module _ (P Q : ℕ → Type 0) (same : (u : ℕ) → P u ↔ Q u) where
  -- a turn among the same items
  pub turn_alike : (order after : Order) (t : ℕ) → TriesNext P order after t → TriesNext Q order after t
  turn_alike First after t h = (h.0, (same t).0 h.1, λ u q. h.2 u ((same u).1 q))
  turn_alike Last after t h = (h.0, (same t).0 h.1, λ u q. h.2 u ((same u).1 q))
  turn_alike (Seed x) after t h =
      let ms = h.1.1 in
      (h.0, (h.1.0, record { rising = ms.rising; each = λ u. (λ c. (same u).0 ((ms.each u).0 c), λ q. (ms.each u).1 ((same u).1 q)) }, h.1.2))

-- whose turn it is, is ready
pub turn_is_ready : (P : ℕ → Type 0) (order after : Order) (t : ℕ) → TriesNext P order after t → P t
turn_is_ready P First after t h = h.1
turn_is_ready P Last after t h = h.1
turn_is_ready P (Seed x) after t h = (h.1.1.each t).0 (contains h.1.0 t (choice_of x % length h.1.0, h.1.2))
