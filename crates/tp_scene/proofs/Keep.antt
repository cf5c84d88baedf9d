-- A step anywhere in a scene keeps what the scene says.
use Rattle.std.proofs.Common.{◌≡◌, ℕ, Bool, true, false, ◌&&◌, eqb, List, length, sym, subst, inl, inr}
use Rattle.std.proofs.lemmas.Bool.{cases_Bool, and_parts, cond-true, cond-false, false≢true}
use Rattle.tp_meaning.specs.Syntax.{Definition}
use Rattle.tp_meaning.specs.Course.{Course}
use Rattle.tp_value.specs.declared.path.Fact.{Fact}
use Rattle.tp_store.specs.Known.{Contents, Variable}
use Rattle.tp_scene.specs.Scene.{Leaf, Head, Holder, Running, Entries, none, leaf, node, Region, second_lives, has, rises, sinks, forced, Place, held_place, second_place}
use Rattle.tp_scene.specs.Says.{Claim, Says, LeafSays, HolderSays, RegionSays}
use Rattle.tp_scene.specs.Step.{PickOutcome, reduces, rests, clashes, misses, Numbers, leaf_step, holder_step}
use Rattle.tp_scene.specs.Pick.{Setting, pick, mark_at, put}
use Rattle.tp_scene.specs.StandsFor.{context_of}
use Rattle.tp_scene.specs.Fits.{LeafFits, HolderFits, EntriesFit}
use Rattle.tp_scene.proofs.Below.{LeafBelow, HolderBelow, IfSecond, if_second, Below, entries_below}
use Rattle.tp_scene.proofs.Carry.{Carried, leaf_carried, holder_carried, region_carried}
use Rattle.tp_scene.proofs.Lens.{each_side, no_side, first_lens, second_lens}
use Rattle.tp_scene.proofs.Frame.{IsOf, region, Never, Keeps, KeepsIn, here_swap, later_swap, node_swap, descend, descend_never}
use Rattle.tp_scene.proofs.Parts.{picked_has}
use Rattle.tp_scene.proofs.Asked.{LeavesKeep, HoldersKeep}
use Rattle.tp_scene.proofs.Risen.{StatusKept, status_put, pick_here, pick_second, pick_first, pick_later}

-- what is asked of a second region that is live
pub live_fits : (defs : List Definition) (kinds : List Bool) (variables : List Variable) (k : Holder) (held : Entries) (q : Place) (X Y : Type 0) → second_lives k ≡ true → HolderFits defs kinds variables k held q X Y → Y
live_fits defs kinds variables (Running f env) held q X Y e h = h.1
live_fits defs kinds variables k held q X Y e h = absurd (false≢true e)

-- what the rows of items that fit have, what is picked among them has
pub picked_fit : (P : PickOutcome → Type 0) (w : Setting) (facts : List Fact) (t : ℕ) (n : Numbers) (kinds : List Bool) (variables : List Variable) → P rests
    → ((l : Leaf) (p : Place) → LeafFits w.defs kinds variables l p → P (leaf_step w.defs w.inputs w.state facts l p n))
    → ((k : Holder) (held second : Region) (q : Place) → P (holder_step w.defs w.inputs w.state facts k held second q n))
    → (es : Entries) (p : Place) → EntriesFit w.defs kinds variables es p → P (pick w facts t es p n)
picked_fit P w facts t n kinds variables resting leaves holders = picked_has P w facts t n (EntriesFit w.defs kinds variables) resting (λ id l rest p fit. (leaves l p fit.0, fit.1))
    (λ id k h held g second rest p fit. (holders k (region h held) (region g second) (held_place k h held p), (λ e. live_fits w.defs kinds variables k held _ _ _ e fit.0), fit.1, fit.2))

module _ (w : Setting) (kinds : List Bool) (store : Contents) (nn : Numbers) (e : ℕ) (local : nn.local ≡ length store.variables)
    (leaves : LeavesKeep w kinds store nn e) (holders : HoldersKeep w kinds store nn e) where
  abbrev n : ℕ
  n = nn.local

  -- a step keeps what these entries say, on this interval
  abbrev Kept : ℕ → PickOutcome → Entries → Course → ℕ → ℕ → Type 0
  Kept = KeepsIn (context_of w) (length kinds) store.facts n e

  abbrev HolderOf : Holder → Head → Entries → Head → Entries → Claim
  HolderOf k h held g second = HolderSays (context_of w) (length kinds) k (RegionSays (context_of w) (length kinds) (region h held)) (RegionSays (context_of w) (length kinds) (region g second))

  here : (t id : ℕ) (x : Leaf) (rest : Entries) → Below n rest → (o : PickOutcome) (s : Course) (a b : ℕ) → eqb id t ≡ true → Keeps (context_of w) (length kinds) store.facts n e o (LeafSays (context_of w) (length kinds) x) s a b → Kept t o (leaf id x rest) s a b
  here t id x rest below (reduces r) s a b y k = rw y (here_swap (context_of w) (length kinds) store.facts n e (LeafSays (context_of w) (length kinds) x) r.news rest below r.local r.mark r.facts s a b k)
  here t id x rest below (clashes c) s a b y k = λ d σ S ag h. k d σ h.0 ag h.2
  here t id x rest below (misses port) s a b y k = λ d σ S ag h. k d σ h.0 ag h.2
  here t id x rest below o s a b y k = tt

  later : (t id : ℕ) (x : Leaf) (rest : Entries) → LeafBelow n x → (o : PickOutcome) (s : Course) (a b : ℕ) → eqb id t ≡ false → Kept t o rest s a b → Kept t o (leaf id x rest) s a b
  later t id x rest below (reduces r) s a b y k =
      rw y (later_swap (context_of w) (length kinds) store.facts n e (LeafSays (context_of w) (length kinds) x) (leaf_carried (context_of w) (length kinds) n x below) rest (put t r.mark r.news rest) r.local _ r.facts s a b k)
  later t id x rest below (clashes c) s a b y k = λ d σ S ag h. k d σ h.1 ag h.3
  later t id x rest below (misses port) s a b y k = λ d σ S ag h. k d σ h.1 ag h.3
  later t id x rest below o s a b y k = tt

  module _ (t id : ℕ) (k : Holder) (h : Head) (held : Entries) (g : Head) (second rest : Entries) (below : Below n (node id k h held g second rest)) (p : Place) (s : Course) (a b : ℕ) (is : IsOf w.state p s a b) where
    held_up : Carried (context_of w) (length kinds) n (RegionSays (context_of w) (length kinds) (region h held))
    held_up = region_carried (context_of w) (length kinds) n h held below.1

    second_up : IfSecond k (Carried (context_of w) (length kinds) n (RegionSays (context_of w) (length kinds) (region g second)))
    second_up = if_second k _ _ (λ u. region_carried (context_of w) (length kinds) n g second u) below.2

    node_here : (o : PickOutcome) → eqb id t ≡ true → Keeps (context_of w) (length kinds) store.facts n e o (HolderOf k h held g second) s a b → Kept t o (node id k h held g second rest) s a b
    node_here (reduces r) y q = rw y (here_swap (context_of w) (length kinds) store.facts n e (HolderOf k h held g second) r.news rest below.3 r.local r.mark r.facts s a b q)
    node_here (clashes c) y q = λ d σ S ag x. q d σ x.0 ag x.2
    node_here (misses port) y q = λ d σ S ag x. q d σ x.0 ag x.2
    node_here o y q = tt

    node_later : (o : PickOutcome) → eqb id t ≡ false → (second_lives k && has t second) ≡ false → has t held ≡ false → Kept t o rest s a b → Kept t o (node id k h held g second rest) s a b
    node_later (reduces r) y l d q = rw (y, l, d) (later_swap (context_of w) (length kinds) store.facts n e (HolderOf k h held g second)
        (holder_carried (context_of w) (length kinds) n k (RegionSays (context_of w) (length kinds) (region h held)) (RegionSays (context_of w) (length kinds) (region g second)) below.0 held_up second_up)
        rest (put t r.mark r.news rest) r.local _ r.facts s a b q)
    node_later (clashes c) y l d q = λ d σ S ag x. q d σ x.1 ag x.3
    node_later (misses port) y l d q = λ d σ S ag x. q d σ x.1 ag x.3
    node_later o y l d q = tt

    first_never : ((s : Course) (i j : ℕ) → IsOf w.state (held_place k h held p) s i j → Never (context_of w) (length kinds) store.facts n e (Says (context_of w) (length kinds) held) s i j) → Never (context_of w) (length kinds) store.facts n e (Says (context_of w) (length kinds) (node id k h held g second rest)) s a b
    first_never ih dd σ S ag x = descend_never (context_of w) (length kinds) store.facts n e w.state t h held p (held_place k h held p) _ (sinks k) (forced k) (rises k) (λ P. HolderSays (context_of w) (length kinds) k P (RegionSays (context_of w) (length kinds) (region g second)))
        (first_lens (context_of w) (length kinds) n k (RegionSays (context_of w) (length kinds) (region g second))) (below.0, second_up) (λ z u. u) ih s a b is dd σ x.0 ag x.2

    node_first : (o : PickOutcome) → eqb id t ≡ false → (second_lives k && has t second) ≡ false → has t held ≡ true → StatusKept t o held
        → ((s : Course) (i j : ℕ) → IsOf w.state (held_place k h held p) s i j → Kept t o held s i j) → Kept t o (node id k h held g second rest) s a b
    node_first (reduces r) y l d kept ih = rw (y, l, d) (node_swap (context_of w) (length kinds) store.facts n e
        (HolderOf k h held g second) (HolderOf k (mark_at t r.mark h held) (put t r.mark r.news held) g second) rest below.3 r.local r.mark r.facts s a b
        (descend (context_of w) (length kinds) store.facts n e w.state t h held p (held_place k h held p) _ (sinks k) (forced k) (rises k) (λ P. HolderSays (context_of w) (length kinds) k P (RegionSays (context_of w) (length kinds) (region g second)))
        (first_lens (context_of w) (length kinds) n k (RegionSays (context_of w) (length kinds) (region g second))) (below.0, second_up) (λ z u. u) r.news r.local r.mark r.facts kept ih s a b is))
    node_first (clashes c) y l d kept ih = first_never ih
    node_first (misses port) y l d kept ih = first_never ih
    node_first o y l d kept ih = tt

    -- the second region is live
    module _ (live : second_lives k ≡ true) where
      second_safe : HolderBelow n k × Carried (context_of w) (length kinds) n (RegionSays (context_of w) (length kinds) (region h held))
      second_safe = (below.0, held_up)

      second_never : ((s : Course) (i j : ℕ) → IsOf w.state (second_place g second p) s i j → Never (context_of w) (length kinds) store.facts n e (Says (context_of w) (length kinds) second) s i j) → Never (context_of w) (length kinds) store.facts n e (Says (context_of w) (length kinds) (node id k h held g second rest)) s a b
      second_never ih dd σ S ag x = descend_never (context_of w) (length kinds) store.facts n e w.state t g second p (second_place g second p) _ each_side no_side each_side (λ P. HolderSays (context_of w) (length kinds) k (RegionSays (context_of w) (length kinds) (region h held)) P)
          (second_lens (context_of w) (length kinds) n k (RegionSays (context_of w) (length kinds) (region h held)) live) second_safe (λ z u. u) ih s a b is dd σ x.0 ag x.2

      node_second : (o : PickOutcome) → eqb id t ≡ false → (second_lives k && has t second) ≡ true → StatusKept t o second
          → ((s : Course) (i j : ℕ) → IsOf w.state (second_place g second p) s i j → Kept t o second s i j) → Kept t o (node id k h held g second rest) s a b
      node_second (reduces r) y l kept ih = rw (y, l) (node_swap (context_of w) (length kinds) store.facts n e
          (HolderOf k h held g second) (HolderOf k h held (mark_at t r.mark g second) (put t r.mark r.news second)) rest below.3 r.local r.mark r.facts s a b
          (descend (context_of w) (length kinds) store.facts n e w.state t g second p (second_place g second p) _ each_side no_side each_side (λ P. HolderSays (context_of w) (length kinds) k (RegionSays (context_of w) (length kinds) (region h held)) P)
          (second_lens (context_of w) (length kinds) n k (RegionSays (context_of w) (length kinds) (region h held)) live) second_safe (λ z u. u) r.news r.local r.mark r.facts kept ih s a b is))
      node_second (clashes c) y l kept ih = second_never ih
      node_second (misses port) y l kept ih = second_never ih
      node_second o y l kept ih = tt

  fits_below : (es : Entries) (p : Place) → EntriesFit w.defs kinds store.variables es p → Below n es
  fits_below es p fit = subst (λ (i : ℕ). Below i es) (sym local) (entries_below store.variables w.defs kinds es p fit)

  pub frame : (t : ℕ) (es : Entries) (p : Place) → EntriesFit w.defs kinds store.variables es p → (s : Course) (a b : ℕ) → IsOf w.state p s a b → Kept t (pick w store.facts t es p nn) es s a b
  frame t none p fit s a b is = tt
  frame t (leaf id x rest) p fit s a b is =
      let step = leaf_step w.defs w.inputs w.state store.facts x p nn in
      let below = fits_below (leaf id x rest) p fit in
      elim (cases_Bool (eqb id t)) [
        | inl y ↦ rw (cond-true (eqb id t) step (pick w store.facts t rest p nn) y) (here t id x rest below.1 step s a b y (leaves x p fit.0 s a b is))
        | inr y ↦ rw (cond-false (eqb id t) step (pick w store.facts t rest p nn) y) (later t id x rest below.0 (pick w store.facts t rest p nn) s a b y (frame t rest p fit.1 s a b is))
      ]
  frame t (node id k h held g second rest) p fit s a b is =
      let below = fits_below (node id k h held g second rest) p fit in
      elim (cases_Bool (eqb id t)) [
        | inl y ↦ rw (pick_here w store.facts t id k h held g second rest p nn y) (node_here t id k h held g second rest below p s a b is _ y (holders k h held g second below.0 below.1 below.2 p s a b is))
        | inr y ↦ elim (cases_Bool (second_lives k && has t second)) [
          | inl l ↦ (let live = (and_parts (second_lives k) (has t second) l).0 in
              rw (pick_second w store.facts t id k h held g second rest p nn y l) (node_second t id k h held g second rest below p s a b is live (pick w store.facts t second (second_place g second p) nn) y l
              (status_put w store.facts t second (second_place g second p) nn) (λ s i j is. frame t second (second_place g second p) (live_fits w.defs kinds store.variables k held _ _ _ live fit.0) s i j is)))
          | inr l ↦ elim (cases_Bool (has t held)) [
            | inl d ↦ rw (pick_first w store.facts t id k h held g second rest p nn y l d) (node_first t id k h held g second rest below p s a b is (pick w store.facts t held (held_place k h held p) nn) y l d
                (status_put w store.facts t held (held_place k h held p) nn) (λ s i j is. frame t held (held_place k h held p) fit.1 s i j is))
            | inr d ↦ rw (pick_later w store.facts t id k h held g second rest p nn y l d) (node_later t id k h held g second rest below p s a b is (pick w store.facts t rest p nn) y l d (frame t rest p fit.2 s a b is))
          ]
        ]
      ]
