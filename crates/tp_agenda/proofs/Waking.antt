-- One wait after the other is over.
use Rattle.std.proofs.Common.{◌≡◌, ◌⊎◌, ℕ, zero, suc, ◌<◌, ◌≤◌, ◌||◌, Bool, true, false, List, [], ◌∷◌, length, length-set, get_or, slice_get, slice_set, Option, Some, None, refl, ap, sym, ◌∙◌, subst, inl, inr, arith}
use Rattle.std.proofs.lemmas.Bool.{both_ways, cases_Bool, cases_eq, or_cases, and_from}
use Rattle.std.proofs.lemmas.Bool.Decides.{Decides-eqb}
use Rattle.std.proofs.Math.Seq.{take-length}
use Rattle.std.proofs.lemmas.List.{get_or-set_same, get_or-set_other}
use Rattle.tp_value.specs.declared.path.Path.{Path}
use Rattle.tp_value.specs.declared.path.Fact.{Fact}
use Rattle.tp_store.specs.Facts.{same_variable, same_path, excludes}
use Rattle.tp_store.specs.Nodes.{path_along}
use Rattle.tp_store.proofs.Paths.{same_path-decides}
use Rattle.tp_store.proofs.FactMapLemmas.{excluded_at}
use Rattle.tp_scene.specs.Decided.{decides_path}
use Rattle.tp_scene.specs.declared.answer.Cell.{Cell}
use Rattle.tp_scene.specs.declared.answer.Cell.TheVariants.{Part, End}
use Rattle.tp_step.specs.declared.tally.Wait.{Wait}
use Rattle.tp_lanes.specs.Planes.{flag}
use Rattle.tp_agenda.specs.declared.index.Link.{Link}
use Rattle.tp_agenda.specs.declared.index.Index.{Index}
use Rattle.tp_agenda.specs.declared.wake.Cause.{Cause}
use Rattle.tp_agenda.specs.declared.wake.Cause.TheVariants.{Known, Given, Marked}
use Rattle.tp_agenda.specs.Decides.{holds_path, leads_into, has_passing, other_passes, fact_decides, is_place_of, is_end_of, ends_decide}
use Rattle.tp_agenda.specs.Ready.{WaitsFor}
use Rattle.tp_agenda.specs.Index.{no_link, places_named, IsChained, IsPlaceIn, IsFiled, newest_at, newest_for}
use Rattle.tp_agenda.specs.Wakes.{is_decided_by, newest_by, WakesOnly, AreOverAt, AreOver}
use Rattle.tp_agenda.proofs.Outer.{outer_holds}
use Rattle.tp_agenda.proofs.Links.{LeadBack, enough}

pub set_kept : (xs : List Bool) (i t : ℕ) → i < length xs → flag xs t ≡ true → flag (slice_set xs i true) t ≡ true
set_kept xs i t l e = elim (cases_eq t i) [
  | inl same ↦ subst (λ k. flag (slice_set xs i true) k ≡ true) (sym same) (get_or-set_same xs i true false l)
  | inr other ↦ get_or-set_other xs i t true false other ∙ e
]

pub flag_read : (xs : List Bool) (i : ℕ) (x : Bool) → slice_get xs i ≡ Some x → flag xs i ≡ x
flag_read [] i x h = absurd (cc)
flag_read (y ∷ ys) zero x h = cc
flag_read (y ∷ ys) (suc i) x h = flag_read ys i x h

module _ (waits : List Wait) (test : Cell → Bool) where
  pub none_woken : (ready over : List Bool) → WakesOnly waits test ready over ready over
  none_woken ready over = record {
    sizes = refl;
    room = refl;
    ready_kept = λ t e. e;
    only_ready = λ t e. inl e;
    over_kept = λ i e. e;
    only_over = λ i e. inl e;
  }

  -- the wait at a place is over
  pub one_woken : (place : ℕ) (w : Wait) (ready over : List Bool) → slice_get waits place ≡ Some w → has_passing test w ≡ true → flag over place ≡ false
      → place < length over → w.item < length ready → WakesOnly waits test ready over (slice_set ready w.item true) (slice_set over place true)
  one_woken place w ready over at passes lasts within below = record {
    sizes = length-set over place true;
    room = length-set ready w.item true;
    ready_kept = λ t e. set_kept ready w.item t below e;
    only_ready = λ t e. elim (cases_eq t w.item) [
      | inl same ↦ inr (record { place = place; wait = w; at = at; passes = passes; lasts = lasts; of_item = sym same })
      | inr other ↦ inl (sym (get_or-set_other ready w.item t true false other) ∙ e)
    ];
    over_kept = λ i e. set_kept over place i within e;
    only_over = λ i e. elim (cases_eq i place) [
      | inl same ↦ inr (record { wait = w; at = subst (λ j. slice_get waits j ≡ Some w) (sym same) at; passes = passes; is_ready = get_or-set_same ready w.item true false below })
      | inr other ↦ inl (sym (get_or-set_other over place i true false other) ∙ e)
    ];
  }

  pub both_woken : (r o r1 o1 r2 o2 : List Bool) → WakesOnly waits test r o r1 o1 → WakesOnly waits test r1 o1 r2 o2 → WakesOnly waits test r o r2 o2
  both_woken r o r1 o1 r2 o2 a b = record {
    sizes = b.sizes ∙ a.sizes;
    room = b.room ∙ a.room;
    ready_kept = λ t e. b.ready_kept t (a.ready_kept t e);
    only_ready = λ t e. elim (b.only_ready t e) [
      | inl x ↦ a.only_ready t x
      | inr y ↦ inr (record { place = y.place; wait = y.wait; at = y.at; passes = y.passes; of_item = y.of_item; lasts = elim (cases_Bool (flag o y.place)) [ inl is_so ↦ absurd (both_ways (flag o1 y.place) y.lasts (a.over_kept y.place is_so)) | inr isnt ↦ isnt ] })
    ];
    over_kept = λ i e. b.over_kept i (a.over_kept i e);
    only_over = λ i e. elim (b.only_over i e) [
      | inl x ↦ elim (a.only_over i x) [ inl y ↦ inl y | inr y ↦ inr (record { wait = y.wait; at = y.at; passes = y.passes; is_ready = b.ready_kept y.wait.item y.is_ready }) ]
      | inr y ↦ inr y
    ];
  }

  -- The links from `at` on are left of those from the newest one on.
  pub record WakesSo (links : List Link) (newest at : ℕ) (ready over ready' over' : List Bool) : Type 0 where
    pub only : WakesOnly waits test ready over ready' over'
    pub fits : at ≤ length links
    pub done : (i : ℕ) (w : Wait) → IsPlaceIn (places_named newest links newest) i → slice_get waits i ≡ Some w → has_passing test w ≡ true
        → (flag over' i ≡ true) ⊎ IsPlaceIn (places_named at links at) i

  pub so_far : (links : List Link) (newest : ℕ) (ready over : List Bool) → newest ≤ length links → WakesSo links newest newest ready over ready over
  so_far links newest ready over l = record { only = none_woken ready over; fits = l; done = λ i w z at p. inr z }

  pub one_so_far : (links : List Link) (newest n : ℕ) (r o r1 o1 r2 o2 : List Bool) → LeadBack links → WakesSo links newest (suc n) r o r1 o1
      → WakesOnly waits test r1 o1 r2 o2 → AreOverAt ((get_or links n no_link).place ∷ []) waits test o2
      → WakesSo links newest (get_or links n no_link).next r o r2 o2
  one_so_far links newest n r o r1 o1 r2 o2 back h k here =
      let x = get_or links n no_link in
      let l = h.fits in
      let fit = back n (omega (arith, l)) in
      let tail : places_named n links x.next ≡ places_named x.next links x.next = enough links back n x.next x.next fit (omega arith) (omega (arith, fit, l)) in
      record {
        only = both_woken r o r1 o1 r2 o2 h.only k;
        fits = omega (arith, fit, l);
        done = λ i w z at p. elim (h.done i w z at p) [
          | inl y ↦ inl (k.over_kept i y)
          | inr y ↦ elim y [
            | inl this ↦ inl (here i w (inl this) at p)
            | inr later ↦ inr (subst (λ xs. IsPlaceIn xs i) tail later)
          ]
        ];
      }

  pub all_so_far : (links : List Link) (newest at : ℕ) (r o r1 o1 : List Bool) → at ≡ 0 → WakesSo links newest at r o r1 o1 → AreOverAt (places_named newest links newest) waits test o1
  all_so_far links newest at r o r1 o1 e h i w z there p = elim (h.done i w z there p) [
    | inl y ↦ y
    | inr y ↦ absurd (subst (λ n. IsPlaceIn (places_named n links n) i) e y)
  ]

-- a cell that passes
pub passing_cell : (test : Cell → Bool) (w : Wait) → has_passing test w ≡ true → (c : Cell) × WaitsFor w c × (test c ≡ true)
passing_cell test w h = elim (or_cases (test w.first) (other_passes test w.other) h) [
  | inl e ↦ (w.first, inl refl, e)
  | inr e ↦ by_other w.other refl e
]
  where
    by_other : (o : Option Cell) → w.other ≡ o → other_passes test o ≡ true → (c : Cell) × WaitsFor w c × (test c ≡ true)
    by_other None e t = absurd (cc)
    by_other (Some c) e t = (c, inr e, t)

-- and back
pub cell_passes : (test : Cell → Bool) (w : Wait) (c : Cell) → WaitsFor w c → test c ≡ true → has_passing test w ≡ true
cell_passes test w c has t = elim has [
  | inl e ↦ ap (λ b. b || other_passes test w.other) (ap test e ∙ t)
  | inr e ↦ or_right (test w.first) (ap (other_passes test) e ∙ t)
]
  where
    or_right : (a : Bool) {b : Bool} → b ≡ true → (a || b) ≡ true
    or_right true e = refl
    or_right false e = e

-- what a weaker test ends
pub only_weaker : (waits : List Wait) (test test' : Cell → Bool) (r o r' o' : List Bool) → ((c : Cell) → test c ≡ true → test' c ≡ true)
    → WakesOnly waits test r o r' o' → WakesOnly waits test' r o r' o'
only_weaker waits test test' r o r' o' more h = record {
  sizes = h.sizes;
  room = h.room;
  ready_kept = h.ready_kept;
  only_ready = λ t e. elim (h.only_ready t e) [ inl x ↦ inl x | inr y ↦ inr (record { place = y.place; wait = y.wait; at = y.at; passes = weaker y.wait y.passes; lasts = y.lasts; of_item = y.of_item }) ];
  over_kept = h.over_kept;
  only_over = λ i e. elim (h.only_over i e) [ inl x ↦ inl x | inr y ↦ inr (record { wait = y.wait; at = y.at; passes = weaker y.wait y.passes; is_ready = y.is_ready }) ];
}
  where
    weaker : (w : Wait) → has_passing test w ≡ true → has_passing test' w ≡ true
    weaker w e = let f = passing_cell test w e in cell_passes test' w f.0 f.1 (more f.0 f.2)

-- and what a stronger one ends
pub over_stronger : (waits : List Wait) (test test' : Cell → Bool) (over : List Bool) → ((c : Cell) → test' c ≡ true → test c ≡ true) → AreOver waits test over → AreOver waits test' over
over_stronger waits test test' over less h i w at p = let found = passing_cell test' w p in h i w at (cell_passes test w found.0 found.1 (less found.0 found.2))

-- an end that is known passes
pub end_is_known : (known : ℕ → Bool) (region : ℕ) → known region ≡ true → (c : Cell) → is_end_of region c ≡ true → ends_decide known c ≡ true
end_is_known known region k (Part p) e = absurd (cc)
end_is_known known region k (End r d) e = subst (λ n. known n ≡ true) (sym ((Decides-eqb r region).0 e)) k

-- a fact that decides a path is of one that this lies within
pub decides_holds : (f : Fact) (p : Path) → decides_path f p ≡ true → holds_path f.path p ≡ true
decides_holds f p h = elim (or_cases (same_path f.path p) (excludes f p) h) [
  | inl same ↦ subst (λ (q : Path). holds_path q p ≡ true) (sym ((same_path-decides f.path p).0 same)) (whole p)
  | inr out ↦ subst (λ (q : Path). holds_path q p ≡ true) (sym (excluded_at f p out).path) (outer_holds p (length f.path.at))
]
  where
    whole : (q : Path) → holds_path q q ≡ true
    whole q = subst (λ at. holds_path (record { var = q.var; at = at }) q ≡ true) (take-length q.at) (outer_holds q (length q.at))

pub newest_fits : (x : Index) → IsChained x → (o : Cause) → newest_by x o ≤ length x.links.items
newest_fits x h (Known f) = h.paths_fit f.path
newest_fits x h (Given v) = h.paths_fit (path_along v [])
newest_fits x h (Marked r) = h.ends_fit r

-- where those that the cause's links name are over, all are
pub all_over : (x : Index) (waits : List Wait) (cause : Cause) (ready over ready' over' : List Bool) → IsFiled x waits over
    → WakesOnly waits (is_decided_by cause) ready over ready' over'
    → AreOverAt (places_named (newest_by x cause) x.links.items (newest_by x cause)) waits (is_decided_by cause) over' → AreOver waits (is_decided_by cause) over'
all_over x waits (Known f) ready over ready' over' filed only among i w at p =
    let found = passing_cell (fact_decides f) w p in
    among i w (by_cell found.0 found.1 found.2) at p
  where
    by_cell : (c : Cell) → WaitsFor w c → fact_decides f c ≡ true → IsPlaceIn (places_named (newest_at x f.path) x.links.items (newest_at x f.path)) i
    by_cell (Part q) has t = filed.paths i w q f.path at has (decides_holds f q t)
    by_cell (End r d) has t = absurd (cc)
all_over x waits (Given v) ready over ready' over' filed only among i w at p =
    let found = passing_cell (is_place_of v) w p in
    among i w (by_cell found.0 found.1 found.2) at p
  where
    by_cell : (c : Cell) → WaitsFor w c → is_place_of v c ≡ true → IsPlaceIn (places_named (newest_at x (path_along v [])) x.links.items (newest_at x (path_along v []))) i
    by_cell (Part q) has t = filed.paths i w q (path_along v []) at has (and_from (same_variable v q.var) (leads_into [] q.at) t refl)
    by_cell (End r d) has t = absurd (cc)
all_over x waits (Marked r) ready over ready' over' filed only among i w at p =
    let found = passing_cell (is_end_of r) w p in
    elim (cases_Bool (flag over i)) [
      | inl is_so ↦ only.over_kept i is_so
      | inr isnt ↦ among i w (by_cell isnt found.0 found.1 found.2) at p
    ]
  where
    by_cell : flag over i ≡ false → (c : Cell) → WaitsFor w c → is_end_of r c ≡ true → IsPlaceIn (places_named (newest_for x r) x.links.items (newest_for x r)) i
    by_cell isnt (Part q) has t = absurd (cc)
    by_cell isnt (End q d) has t = filed.ends i w r d at isnt (subst (λ n. WaitsFor w (End n d)) ((Decides-eqb q r).0 t) has)

-- what is filed stays so where more waits are over
pub filed_on : (x : Index) (waits : List Wait) (over over' : List Bool) → IsFiled x waits over → ((i : ℕ) → flag over i ≡ true → flag over' i ≡ true) → IsFiled x waits over'
filed_on x waits over over' h kept = record {
  chained = h.chained;
  within = h.within;
  paths = h.paths;
  ends = λ i w r d at lasts has. h.ends i w r d at (elim (cases_Bool (flag over i)) [ inl is_so ↦ absurd (both_ways (flag over' i) lasts (kept i is_so)) | inr isnt ↦ isnt ]) has;
}
