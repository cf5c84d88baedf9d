-- What each answer of a try leaves of what a closure by an agenda keeps.
use Rattle.std.proofs.Common.{◌≡◌, ◌≢◌, ◌⊎◌, ℕ, ◌+◌, ◌<◌, Bool, true, false, List, [], ◌∷◌, ◌++◌, length, length-append, length-set, slice_get, slice_set, refl, ap, sym, ◌∙◌, subst, inl, inr, arith, Some}
use Rattle.std.proofs.lemmas.Bool.{both_ways, cases_Bool, cases_eq}
use Rattle.std.proofs.lemmas.List.{get_or-set_same, get_or-set_other}
use Rattle.tp_scene.specs.declared.answer.Cell.{Cell}
use Rattle.tp_scene.specs.Step.{waits, rests}
use Rattle.tp_scene.specs.Pick.{Setting, Moment, outcome_of}
use Rattle.tp_scene.specs.Cells.{IsDecided}
use Rattle.tp_scene.specs.CellLaws.{AreUndecided}
use Rattle.tp_step_laws.specs.LiveOnce.{WasLive}
use Rattle.tp_step.specs.declared.tally.Wait.{Wait}
use Rattle.tp_lanes.specs.Planes.{flag}
use Rattle.tp_agenda.specs.Ready.{WaitsFor, NoneTwice}
use Rattle.tp_agenda.specs.Wakes.{WakesOnly, AreOver}
use Rattle.tp_agenda.specs.Held.{IsAmong, MayMove, nothing_due, IsHeld, StepLeaves}
use Rattle.tp_slots.proofs.NumberSets.{flag_past, flag_within}
use Rattle.tp_agenda.proofs.Places.{at_one, at_left, at_last, at_cases, flag_push}
use Rattle.tp_agenda.proofs.Waking.{passing_cell, cell_passes}

twice_push : {A : Type 0} (xs : List A) (y : A) → NoneTwice xs → (IsAmong xs y → ⊥) → NoneTwice (xs ++ y ∷ [])
twice_push {A} xs y once new i j x a b = elim (at_cases xs y i x a) [
  | inl p ↦ elim (at_cases xs y j x b) [
    | inl q ↦ once i j x p q
    | inr q ↦ absurd (new (i, subst (λ z. slice_get xs i ≡ Some z) (sym q.1) p))
  ]
  | inr p ↦ elim (at_cases xs y j x b) [
    | inl q ↦ absurd (new (j, subst (λ z. slice_get xs j ≡ Some z) (sym p.1) q))
    | inr q ↦ p.0 ∙ sym q.0
  ]
]

-- what is still ready when t was taken out
taken_cases : (before : List Bool) (t u : ℕ) → flag before t ≡ true → flag (slice_set before t false) u ≡ true → (u ≢ t) × (flag before u ≡ true)
taken_cases before t u is_ready e = elim (cases_eq u t) [
  | inl same ↦ absurd (both_ways (flag (slice_set before t false) u) (subst (λ k. flag (slice_set before t false) k ≡ false) (sym same) (get_or-set_same before t false false (flag_within before t is_ready))) e)
  | inr other ↦ (other, sym (get_or-set_other before t u false false other) ∙ e)
]

module _ (w : Setting) (m : Moment) (ws : List Wait) (rs : List ℕ) (over : List Bool) where
  pub open_undecided : (ready : List Bool) → IsHeld w m ws rs over ready nothing_due → (i : ℕ) (x : Wait) → slice_get ws i ≡ Some x → flag over i ≡ false → AreUndecided m x.first x.other
  open_undecided ready h i x at lasts = record {
    not_first = λ d. both_ways false refl (h.only_due i x at lasts x.first (inl refl) d);
    not_other = λ c e d. both_ways false refl (h.only_due i x at lasts c (inr e) d);
  }

  module _ (t : ℕ) (before ready : List Bool) (h : IsHeld w m ws rs over before nothing_due) (is_ready : flag before t ≡ true) (now : ready ≡ slice_set before t false) where
    taken : (u : ℕ) → flag ready u ≡ true → (u ≢ t) × (flag before u ≡ true)
    taken u e = taken_cases before t u is_ready (subst (λ b. flag b u ≡ true) now e)

    remains : (u : ℕ) → u ≢ t → flag before u ≡ true → flag ready u ≡ true
    remains u ne e = subst (λ b. flag b u ≡ true) (sym now) (get_or-set_other before t u false false ne ∙ e)

    same_room : length ready ≡ length before
    same_room = ap length now ∙ length-set before t false

    other_waits : (i : ℕ) (x : Wait) → slice_get ws i ≡ Some x → flag over i ≡ false → x.item ≢ t
    other_waits i x at lasts e = both_ways (flag over i) lasts (h.ready_over t is_ready i x at e)

    other_rests : (u : ℕ) → IsAmong rs u → u ≢ t
    other_rests u r e = h.ready_apart t is_ready (subst (IsAmong rs) e r)

    -- after a step: what is new is ready too, and what it decides is due
    pub step_keeps : (after : List Bool) (next : Moment) (news : List ℕ) (decides : Cell → Bool) → StepLeaves w m t next news decides → length ready < length after + 1
        → ((u : ℕ) → flag ready u ≡ true → flag after u ≡ true) → ((u : ℕ) → flag after u ≡ true → (flag ready u ≡ true) ⊎ IsAmong news u) → ((u : ℕ) → IsAmong news u → flag after u ≡ true)
        → IsHeld w next ws rs over after decides
    step_keeps after next news decides s larger kept only all = record {
      sizes = h.sizes;
      ready_moves = λ u e. elim (only u e) [ inl x ↦ (let y = taken u x in s.kept u y.0 (h.ready_moves u y.1)) | inr n ↦ (s.fresh u n).0 ];
      ready_apart = λ u e r. elim (only u e) [
        | inl x ↦ h.ready_apart u (taken u x).1 r
        | inr n ↦ (s.fresh u n).1 (s.live u (h.rests_on u r).0)
      ];
      ready_over = λ u e i x at it. elim (only u e) [
        | inl z ↦ h.ready_over u (taken u z).1 i x at it
        | inr n ↦ absurd ((s.fresh u n).1 (subst (WasLive m) it (h.was i x at).0))
      ];
      over_is = λ i x at e. let o = h.over_is i x at e in record { cell = o.cell; is_for = o.is_for; decided = s.stays o.cell o.decided };
      complete = λ u l. elim (s.new u l) [
        | inl lv ↦ (let ne : u ≢ t = λ e. s.gone (subst (MayMove next) e l) in
            elim (h.complete u lv) [ inl rd ↦ inl (kept u (remains u ne rd)) | inr x ↦ inr x ])
        | inr n ↦ inl (all u n)
      ];
      only_due = λ i x at lasts c has dec. elim (s.newly x (h.waits_move i x at lasts) (h.waits_on i x at lasts (open_undecided before h i x at lasts)) c has dec) [
        | inl y ↦ absurd (both_ways false refl (h.only_due i x at lasts c has y))
        | inr n ↦ n
      ];
      waits_move = λ i x at lasts. s.kept x.item (other_waits i x at lasts) (h.waits_move i x at lasts);
      waits_on = λ i x at lasts und. s.waits_on x.item x (other_waits i x at lasts) refl (h.waits_move i x at lasts) (h.waits_on i x at lasts (open_undecided before h i x at lasts)) und;
      one_open = h.one_open;
      rests_apart = h.rests_apart;
      rests_on = λ u r. let z = h.rests_on u r in (s.kept u (other_rests u r) z.0, s.rests_on u (other_rests u r) z.0 z.1);
      was = λ i x at. let z = h.was i x at in (s.was x.item z.0, (let a = z.1 in let b = same_room in omega (arith, a, b, larger)));
      once = h.once;
      rest_once = h.rest_once;
    }

    -- t waits
    pub wait_keeps : (new : Wait) → new.item ≡ t → outcome_of w m.store m.scene t ≡ waits new.first new.other → AreUndecided m new.first new.other → WasLive m t
        → IsHeld w m (ws ++ new ∷ []) rs (over ++ false ∷ []) ready nothing_due
    wait_keeps new it answer und was_t =
        let len = h.sizes in
        let last : flag (over ++ false ∷ []) (length ws) ≡ false = flag_push over (length ws) ∙ flag_past over (length ws) (omega (arith, len)) in
        record {
          sizes = let a = length-append over (false ∷ []) in let b = length-append ws (new ∷ []) in omega (arith, a, b, len);
          ready_moves = λ u e. h.ready_moves u (taken u e).1;
          ready_apart = λ u e. h.ready_apart u (taken u e).1;
          ready_over = λ u e i x at its. elim (at_cases ws new i x at) [
            | inl a ↦ flag_push over i ∙ h.ready_over u (taken u e).1 i x a its
            | inr b ↦ absurd ((taken u e).0 (sym its ∙ sym (ap (λ (z : Wait). z.item) b.1) ∙ it))
          ];
          over_is = λ i x at e. elim (at_cases ws new i x at) [
            | inl a ↦ h.over_is i x a (sym (flag_push over i) ∙ e)
            | inr b ↦ absurd (both_ways (flag (over ++ false ∷ []) i) (subst (λ k. flag (over ++ false ∷ []) k ≡ false) (sym b.0) last) e)
          ];
          complete = λ u l. elim (h.complete u l) [
            | inl rd ↦ elim (cases_eq u t) [
              | inl same ↦ inr (inr (record { place = length ws; wait = new; at = at_last ws new; of_item = it ∙ sym same; lasts = last }))
              | inr ne ↦ inl (remains u ne rd)
            ]
            | inr x ↦ inr (elim x [
              | inl r ↦ inl r
              | inr p ↦ inr (record { place = p.place; wait = p.wait; at = at_left ws new p.place p.wait p.at; of_item = p.of_item; lasts = flag_push over p.place ∙ p.lasts })
            ])
          ];
          only_due = λ i x at lasts c has dec. elim (at_cases ws new i x at) [
            | inl a ↦ h.only_due i x a (sym (flag_push over i) ∙ lasts) c has dec
            | inr b ↦ absurd (undecided_cell new und c (subst (λ (z : Wait). WaitsFor z c) (sym b.1) has) dec)
          ];
          waits_move = λ i x at lasts. elim (at_cases ws new i x at) [
            | inl a ↦ h.waits_move i x a (sym (flag_push over i) ∙ lasts)
            | inr b ↦ subst (λ (z : Wait). MayMove m z.item) b.1 (subst (MayMove m) (sym it) (h.ready_moves t is_ready))
          ];
          waits_on = λ i x at lasts u. elim (at_cases ws new i x at) [
            | inl a ↦ h.waits_on i x a (sym (flag_push over i) ∙ lasts) u
            | inr b ↦ subst (λ (z : Wait). outcome_of w m.store m.scene z.item ≡ waits z.first z.other) b.1 (ap (outcome_of w m.store m.scene) it ∙ answer)
          ];
          one_open = λ i j x y at bt oi oj same. elim (at_cases ws new i x at) [
            | inl a ↦ elim (at_cases ws new j y bt) [
              | inl b ↦ h.one_open i j x y a b (sym (flag_push over i) ∙ oi) (sym (flag_push over j) ∙ oj) same
              | inr b ↦ absurd (other_waits i x a (sym (flag_push over i) ∙ oi) (same ∙ sym (ap (λ (z : Wait). z.item) b.1) ∙ it))
            ]
            | inr a ↦ elim (at_cases ws new j y bt) [
              | inl b ↦ absurd (other_waits j y b (sym (flag_push over j) ∙ oj) (sym same ∙ sym (ap (λ (z : Wait). z.item) a.1) ∙ it))
              | inr b ↦ a.0 ∙ sym b.0
            ]
          ];
          rests_apart = λ i x at lasts r. elim (at_cases ws new i x at) [
            | inl a ↦ h.rests_apart i x a (sym (flag_push over i) ∙ lasts) r
            | inr b ↦ other_rests x.item r (sym (ap (λ (z : Wait). z.item) b.1) ∙ it)
          ];
          rests_on = h.rests_on;
          was = λ i x at. elim (at_cases ws new i x at) [
            | inl a ↦ (let z = h.was i x a in (z.0, subst (λ n. x.item < n) (sym same_room) z.1))
            | inr b ↦ subst (λ (z : Wait). WasLive m z.item × (z.item < length ready)) b.1 (subst (λ k. WasLive m k × (k < length ready)) (sym it) (was_t, subst (λ n. t < n) (sym same_room) (flag_within before t is_ready)))
          ];
          once = twice_push ws new h.once (λ p. let o = h.over_is p.0 new p.1 (h.ready_over t is_ready p.0 new p.1 it) in undecided_cell new und o.cell o.is_for o.decided);
          rest_once = h.rest_once;
        }
      where
        undecided_cell : (x : Wait) → AreUndecided m x.first x.other → (c : Cell) → WaitsFor x c → IsDecided m c → ⊥
        undecided_cell x und c has d = elim has [ inl e ↦ und.not_first (subst (IsDecided m) (sym e) d) | inr e ↦ und.not_other c e d ]

    -- t rests
    pub rest_keeps : outcome_of w m.store m.scene t ≡ rests → IsHeld w m ws (rs ++ t ∷ []) over ready nothing_due
    rest_keeps answer = record {
      sizes = h.sizes;
      ready_moves = λ u e. h.ready_moves u (taken u e).1;
      ready_apart = λ u e r. elim (at_cases rs t r.0 u r.1) [
        | inl a ↦ h.ready_apart u (taken u e).1 (r.0, a)
        | inr b ↦ (taken u e).0 (sym b.1)
      ];
      ready_over = λ u e. h.ready_over u (taken u e).1;
      over_is = h.over_is;
      complete = λ u l. elim (h.complete u l) [
        | inl rd ↦ elim (cases_eq u t) [
          | inl same ↦ inr (inl (length rs, subst (λ z. slice_get (rs ++ t ∷ []) (length rs) ≡ Some z) (sym same) (at_last rs t)))
          | inr ne ↦ inl (remains u ne rd)
        ]
        | inr x ↦ inr (elim x [ inl r ↦ inl (r.0, at_left rs t r.0 u r.1) | inr p ↦ inr p ])
      ];
      only_due = h.only_due;
      waits_move = h.waits_move;
      waits_on = h.waits_on;
      one_open = h.one_open;
      rests_apart = λ i x at lasts r. elim (at_cases rs t r.0 x.item r.1) [
        | inl a ↦ h.rests_apart i x at lasts (r.0, a)
        | inr b ↦ other_waits i x at lasts (sym b.1)
      ];
      rests_on = λ u r. elim (at_cases rs t r.0 u r.1) [
        | inl a ↦ h.rests_on u (r.0, a)
        | inr b ↦ subst (λ k. MayMove m k × (outcome_of w m.store m.scene k ≡ rests)) b.1 (h.ready_moves t is_ready, answer)
      ];
      was = λ i x at. let z = h.was i x at in (z.0, subst (λ n. x.item < n) (sym same_room) z.1);
      once = h.once;
      rest_once = twice_push rs t h.rest_once (h.ready_apart t is_ready);
    }

  -- less is due, where the waits are over for what passes a test
  module _ (ready ready' over' : List Bool) (test due due' : Cell → Bool) (h : IsHeld w m ws rs over ready due) (k : WakesOnly ws test ready over ready' over')
      (all : AreOver ws test over') (decided : (c : Cell) → test c ≡ true → IsDecided m c) (split : (c : Cell) → due c ≡ true → (test c ≡ true) ⊎ (due' c ≡ true)) where
    was_open : (i : ℕ) → flag over' i ≡ false → flag over i ≡ false
    was_open i e = elim (cases_Bool (flag over i)) [ inl is_so ↦ absurd (both_ways (flag over' i) e (k.over_kept i is_so)) | inr isnt ↦ isnt ]

    pub wake_keeps : IsHeld w m ws rs over' ready' due'
    wake_keeps = record {
      sizes = k.sizes ∙ h.sizes;
      ready_moves = λ t e. elim (k.only_ready t e) [
        | inl x ↦ h.ready_moves t x
        | inr d ↦ subst (MayMove m) d.of_item (h.waits_move d.place d.wait d.at d.lasts)
      ];
      ready_apart = λ t e r. elim (k.only_ready t e) [
        | inl x ↦ h.ready_apart t x r
        | inr d ↦ h.rests_apart d.place d.wait d.at d.lasts (subst (IsAmong rs) (sym d.of_item) r)
      ];
      ready_over = λ t e i x at it. elim (k.only_ready t e) [
        | inl r ↦ k.over_kept i (h.ready_over t r i x at it)
        | inr d ↦ elim (cases_Bool (flag over i)) [
          | inl is_so ↦ k.over_kept i is_so
          | inr isnt ↦ (let same : i ≡ d.place = h.one_open i d.place x d.wait at d.at isnt d.lasts (it ∙ sym d.of_item) in
              all i d.wait (subst (λ j. slice_get ws j ≡ Some d.wait) (sym same) d.at) d.passes)
        ]
      ];
      over_is = λ i x at e. elim (k.only_over i e) [
        | inl o ↦ h.over_is i x at o
        | inr n ↦ (let found = passing_cell test n.wait n.passes in
            record { cell = found.0; is_for = subst (λ (z : Wait). WaitsFor z found.0) (at_one ws i n.wait x n.at at) found.1; decided = decided found.0 found.2 })
      ];
      complete = λ t l. elim (h.complete t l) [
        | inl r ↦ inl (k.ready_kept t r)
        | inr x ↦ elim x [
          | inl r ↦ inr (inl r)
          | inr p ↦ elim (cases_Bool (flag over' p.place)) [
            | inl is_so ↦ elim (k.only_over p.place is_so) [
              | inl o ↦ absurd (both_ways (flag over p.place) p.lasts o)
              | inr n ↦ inl (subst (λ u. flag ready' u ≡ true) (ap (λ (z : Wait). z.item) (at_one ws p.place n.wait p.wait n.at p.at) ∙ p.of_item) n.is_ready)
            ]
            | inr isnt ↦ inr (inr (record { place = p.place; wait = p.wait; at = p.at; of_item = p.of_item; lasts = isnt }))
          ]
        ]
      ];
      only_due = λ i x at lasts c has dec. elim (split c (h.only_due i x at (was_open i lasts) c has dec)) [
        | inl now ↦ absurd (both_ways (flag over' i) lasts (all i x at (cell_passes test x c has now)))
        | inr later ↦ later
      ];
      waits_move = λ i x at lasts. h.waits_move i x at (was_open i lasts);
      waits_on = λ i x at lasts. h.waits_on i x at (was_open i lasts);
      one_open = λ i j x y at bt oi oj. h.one_open i j x y at bt (was_open i oi) (was_open j oj);
      rests_apart = λ i x at lasts. h.rests_apart i x at (was_open i lasts);
      rests_on = h.rests_on;
      was = λ i x at. let z = h.was i x at in (z.0, subst (λ n. x.item < n) (sym k.room) z.1);
      once = h.once;
      rest_once = h.rest_once;
    }
