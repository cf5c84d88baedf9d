-- One region after the other is taken.
use Rattle.std.proofs.Common.{◌≡◌, ◌⊎◌, ℕ, ◌+◌, ◌*◌, ◌^◌, ◌<◌, ◌≤◌, Bool, true, false, cond, List, [], ◌∷◌, ◌++◌, length, length-set, slice_set, count_by, refl, ap, sym, ◌∙◌, subst, inl, inr, arith}
use Rattle.std.specs.Prelude.{not}
use Rattle.std.proofs.lemmas.Bool.{both_ways, cases_Bool, cases_eq, cases_lt, and_from, not_from_false, false≢true}
use Rattle.std.proofs.lemmas.Bool.Decides.{Decides-eqb}
use Rattle.std.proofs.lemmas.List.{get_or-set_same, get_or-set_other}
use Rattle.std.proofs.lemmas.List.Sums.{sum_by-set}
use Rattle.tp_scene.specs.declared.answer.Cell.{Cell}
use Rattle.tp_scene.specs.declared.answer.Cell.TheVariants.{Part, End}
use Rattle.tp_step.specs.declared.tally.Wait.{Wait}
use Rattle.tp_slots.specs.Kept.{IsWellKept}
use Rattle.tp_slots.specs.Own.{own_inside}
use Rattle.tp_slots.specs.Read.{scene_of}
use Rattle.tp_slots.specs.declared.scene.Scene.{Scene}
use Rattle.tp_slots.proofs.Marks.{mark_beyond}
use Rattle.tp_slots.proofs.Seeing.{inside}
use Rattle.tp_lanes.specs.Planes.{flag}
use Rattle.tp_agenda.specs.declared.board.Board.{Board}
use Rattle.tp_agenda.specs.Board.{FitsBoard}
use Rattle.tp_agenda.specs.Decides.{is_end_of, ends_decide}
use Rattle.tp_agenda.specs.Ready.{WaitsFor}
use Rattle.tp_agenda.specs.Held.{IsAmong}
use Rattle.tp_agenda.specs.Index.{IsFiled}
use Rattle.tp_agenda.specs.Marks.{is_known_mark, has_known_end}
use Rattle.tp_agenda.specs.Outward.{region_around, is_due, LeadsThrough, is_there, goes_out, WaitsAreNear, held_by_items}
use Rattle.tp_agenda.specs.Taking.{TakesRegions}
use Rattle.tp_agenda.specs.Wakes.{AreOver, WakesOnly}
use Rattle.tp_agenda.proofs.Around.{among_left, among_right, inside_listed}
use Rattle.tp_agenda.proofs.Outward.{due_parts, first_due, leads_on}
use Rattle.tp_agenda.proofs.Places.{at_cases}
use Rattle.tp_agenda.proofs.Waking.{set_kept, none_woken, both_woken, only_weaker, end_is_known, passing_cell, cell_passes, filed_on}

-- The measure: a region that is taken is one of those that weren't, and each other one leaves the list.
pub count_untaken : (xs : List Bool) (t : ℕ) → flag xs t ≡ false → t < length xs → count_by not (slice_set xs t true) + 1 ≡ count_by not xs
count_untaken xs t e l =
    let h = sum_by-set (λ b. cond (not b) 1 0) xs t true false l in
    let one : ◌≡◌ {A = ℕ} (cond (not (flag xs t)) 1 0) 1 = ap (λ a. cond (not a) 1 0) e in
    omega (arith, h, one)

pub fewer_left : (n m k l : ℕ) → m + 1 ≡ n → k < 2 ^ 64 → m * 2 ^ 64 + k < n * 2 ^ 64 + l
fewer_left n m k l e s = omega (arith, e, s)

-- what the code reads of a region
pub due_read : (s : Scene) (taken read : List Bool) (r : ℕ) (b x : Bool) → read ≡ taken → b ≡ is_due s read r → b ≡ x → is_due s taken r ≡ x
due_read s taken read r b x same is e = ap (λ xs. is_due s xs r) (sym same) ∙ (sym is ∙ e)

module _ (s : Scene) (kept : IsWellKept s) where
  -- a region whose end is known is there
  pub known_within : (r : ℕ) → has_known_end (scene_of s) r ≡ true → r < length s.regions.items
  known_within r e = elim (cases_lt r (length s.regions.items)) [
    | inl l ↦ l
    | inr past ↦ absurd (false≢true (ap is_known_mark (mark_beyond s kept r past) ∙ e))
  ]

  pub due_within : (taken : List Bool) (r : ℕ) → is_due s taken r ≡ true → r < length s.regions.items
  due_within taken r e = known_within r (due_parts s taken r e).1

  pub due_room : (taken old : List Bool) (r : ℕ) → is_due s taken r ≡ true → length s.regions.items ≤ length old → length taken ≡ length old → r < length taken
  due_room taken old r e room size = let l = due_within taken r e in omega (arith, l, room, size)

  module _ (waits : List Wait) where
    abbrev pub known : ℕ → Bool
    known = has_known_end (scene_of s)

    pub none_taken : (left : List ℕ) (b : Board) → TakesRegions s waits left b b
    none_taken left b = record {
      index = refl;
      bound = refl;
      size = refl;
      only = none_woken waits (ends_decide known) b.ready b.over.items;
      known = λ r e. inl e;
      kept = λ r e. e;
      over = λ r e. inl e;
      inside = λ r above isnt is_so k. absurd (both_ways (flag b.taken.items (region_around s r)) isnt is_so);
    }

    module _ (left : List ℕ) (at : ℕ) (old b : Board) (h : TakesRegions s waits (left ++ at ∷ []) old b) where
      -- it isn't due
      module _ (isnt : is_due s b.taken.items at ≡ false) where
        already : known at ≡ true → flag b.taken.items at ≡ true
        already k = elim (cases_Bool (flag b.taken.items at)) [
          | inl e ↦ e
          | inr e ↦ absurd (both_ways (is_due s b.taken.items at) isnt (and_from (not (flag b.taken.items at)) (known at) (not_from_false (flag b.taken.items at) e) k))
        ]

        pub left_over : (r : ℕ) → known r ≡ true → (flag b.taken.items r ≡ true) ⊎ IsAmong (left ++ at ∷ []) r → (flag b.taken.items r ≡ true) ⊎ IsAmong left r
        left_over r k (inl t) = inl t
        left_over r k (inr a) = elim (at_cases left at a.0 r a.1) [
          | inl x ↦ inr (a.0, x)
          | inr y ↦ inl (subst (λ q. flag b.taken.items q ≡ true) y.1 (already (subst (λ q. known q ≡ true) (sym y.1) k)))
        ]

        pub one_passed : TakesRegions s waits left old b
        one_passed = record {
          index = h.index;
          bound = h.bound;
          size = h.size;
          only = h.only;
          known = h.known;
          kept = h.kept;
          over = h.over;
          inside = λ r above o n k. left_over r k (h.inside r above o n k);
        }

      -- it is taken, and those inside it are left
      module _ (due : is_due s b.taken.items at ≡ true) (next : Board) (index : next.index ≡ b.index) (bound : next.bound ≡ b.bound) (within : at < length b.taken.items) (taken : next.taken.items ≡ slice_set b.taken.items at true)
          (only : WakesOnly waits (is_end_of at) b.ready b.over.items next.ready next.over.items) (all : AreOver waits (is_end_of at) next.over.items) where
        here : flag next.taken.items at ≡ true
        here = ap (λ xs. flag xs at) taken ∙ get_or-set_same b.taken.items at true false within

        stays : (r : ℕ) → flag b.taken.items r ≡ true → flag next.taken.items r ≡ true
        stays r e = ap (λ xs. flag xs r) taken ∙ set_kept b.taken.items at r within e

        before : (r : ℕ) → (r ≡ at → ⊥) → flag next.taken.items r ≡ true → flag b.taken.items r ≡ true
        before r other e = sym (get_or-set_other b.taken.items at r true false other) ∙ (sym (ap (λ xs. flag xs r) taken) ∙ e)

        end_known : known at ≡ true
        end_known = (due_parts s b.taken.items at due).1

        pub left_on : (r : ℕ) → (flag b.taken.items r ≡ true) ⊎ IsAmong (left ++ at ∷ []) r → (flag next.taken.items r ≡ true) ⊎ IsAmong (left ++ held_by_items s (own_inside s at)) r
        left_on r (inl t) = inl (stays r t)
        left_on r (inr a) = elim (at_cases left at a.0 r a.1) [
          | inl x ↦ inr (among_left left (held_by_items s (own_inside s at)) r (a.0, x))
          | inr y ↦ inl (subst (λ q. flag next.taken.items q ≡ true) y.1 here)
        ]

        pub one_taken : TakesRegions s waits (left ++ held_by_items s (own_inside s at)) old next
        one_taken = record {
          index = index ∙ h.index;
          bound = bound ∙ h.bound;
          size = ap (λ xs. length xs) taken ∙ (length-set b.taken.items at true ∙ h.size);
          only = both_woken waits (ends_decide known) old.ready old.over.items b.ready b.over.items next.ready next.over.items h.only
              (only_weaker waits (is_end_of at) (ends_decide known) b.ready b.over.items next.ready next.over.items (end_is_known known at end_known) only);
          known = λ r e. elim (cases_eq r at) [
            | inl same ↦ inr (subst (λ q. known q ≡ true) (sym same) end_known)
            | inr other ↦ h.known r (before r other e)
          ];
          kept = λ r e. stays r (h.kept r e);
          over = λ r e. elim (cases_eq r at) [
            | inl same ↦ inr (subst (λ q. AreOver waits (is_end_of q) next.over.items) (sym same) all)
            | inr other ↦ elim (h.over r (before r other e)) [
              | inl x ↦ inl x
              | inr y ↦ inr (λ i w is p. only.over_kept i (y i w is p))
            ]
          ];
          inside = λ r above o n k. elim (cases_eq (region_around s r) at) [
            | inl same ↦ (let listed = inside_listed s kept r above (inside s r (known_within r k)) in
                inr (among_right left (held_by_items s (own_inside s at)) r (subst (λ q. IsAmong (held_by_items s (own_inside s q)) r) same listed)))
            | inr other ↦ left_on r (h.inside r above o (before (region_around s r) other n) k)
          ];
        }

    pub takes_fits : (left : List ℕ) (old new : Board) → TakesRegions s waits left old new → FitsBoard waits old → FitsBoard waits new
    takes_fits left old new h fits =
        let room = h.only.room in
        let sizes = h.only.sizes in
        record {
          bound = h.bound ∙ (fits.bound ∙ sym room);
          small = (let l = fits.small in omega (arith, l, room));
          sizes = sizes ∙ fits.sizes;
          filed = subst (λ x. IsFiled x waits new.over.items) (sym h.index) (filed_on old.index waits old.over.items new.over.items fits.filed h.only.over_kept);
        }

    -- Where none is left, all is over that was to be.
    module _ (taken : List Bool) (old new : Board) (same : (r : ℕ) → flag old.taken.items r ≡ flag taken r) (h : TakesRegions s waits [] old new) where
      pub along : (r top : ℕ) → LeadsThrough s taken r top → flag new.taken.items top ≡ true → flag new.taken.items r ≡ true
      along r _ (is_there e) n = n
      along r top (goes_out e above x) n =
          let outer = (due_parts s taken (region_around s r) (first_due s taken (region_around s r) top x)).0 in
          elim (h.inside r above (same (region_around s r) ∙ outer) (along (region_around s r) top x n) (due_parts s taken r e).1) [
            | inl t ↦ t
            | inr a ↦ absurd (none_among a)
          ]
        where
          none_among : {q : ℕ} → IsAmong [] q → ⊥
          none_among (i, e) = cc

      pub near_over : (marked out : ℕ) → ((top : ℕ) → LeadsThrough s taken marked top → LeadsThrough s taken top out) → flag new.taken.items out ≡ true
          → WaitsAreNear s taken marked waits old.over.items → AreOver waits (ends_decide known) new.over.items
      near_over marked out leads there near i w at p =
          let found = passing_cell (ends_decide known) w p in
          elim (cases_Bool (flag new.over.items i)) [ inl is_so ↦ is_so | inr isnt ↦ by_cell isnt found.0 found.1 found.2 ]
        where
          open_before : flag new.over.items i ≡ false → flag old.over.items i ≡ false
          open_before isnt = elim (cases_Bool (flag old.over.items i)) [
            | inl e ↦ absurd (both_ways (flag new.over.items i) isnt (h.only.over_kept i e))
            | inr e ↦ e
          ]

          by_cell : flag new.over.items i ≡ false → (c : Cell) → WaitsFor w c → ends_decide known c ≡ true → flag new.over.items i ≡ true
          by_cell isnt (Part q) has t = absurd (false≢true t)
          by_cell isnt (End r d) has t =
              let m = near i w r d at (open_before isnt) has t in
              let x = leads_on s taken r m.top out m.second (leads m.top m.first) in
              elim (h.over r (along r out x there)) [
                | inl e ↦ absurd (both_ways (flag taken r) (due_parts s taken r (first_due s taken r out x)).0 (sym (same r) ∙ e))
                | inr y ↦ y i w at (cell_passes (is_end_of r) w (End r d) has ((Decides-eqb r r).1 refl))
              ]

  -- where the marked region isn't due, nothing is near it
  pub none_near : (waits : List Wait) (taken over : List Bool) (marked : ℕ) → is_due s taken marked ≡ false → WaitsAreNear s taken marked waits over → AreOver waits (ends_decide (has_known_end (scene_of s))) over
  none_near waits taken over marked isnt near i w at p =
      let found = passing_cell (ends_decide (has_known_end (scene_of s))) w p in
      elim (cases_Bool (flag over i)) [ inl is_so ↦ is_so | inr lasts ↦ absurd (by_cell lasts found.0 found.1 found.2) ]
    where
      by_cell : flag over i ≡ false → (c : Cell) → WaitsFor w c → ends_decide (has_known_end (scene_of s)) c ≡ true → ⊥
      by_cell lasts (Part q) has t = false≢true t
      by_cell lasts (End r d) has t =
          let m = near i w r d at lasts has t in
          both_ways (is_due s taken marked) isnt (first_due s taken marked m.top m.first)
