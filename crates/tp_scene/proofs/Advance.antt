-- Going on to the next state, and ending.
use Rattle.std.proofs.Common.{◌≡◌, ℕ, zero, suc, true, ◌+◌, ◌≤◌, ◌<◌, ◌||◌, List, [], ◌∷◌, ◌++◌, refl, ap, sym, ◌∙◌, subst, arith, eqb, inl, inr}
use Rattle.std.specs.Prelude.{◌↔◌}
use Rattle.std.proofs.lemmas.Bool.{cond_both, eqb-true, both_ways, false≢true, or_cases}
use Rattle.tp_value.specs.Tree.{Tree}
use Rattle.tp_meaning.specs.Syntax.{FormulaTree}
use Rattle.tp_meaning.specs.Course.{Course, Shows, blank, ◌⊕◌, shown_at, woven, Rising}
use Rattle.tp_meaning.specs.Bindings.{Locals, meanings_of}
use Rattle.tp_meaning.specs.Holds.{Context, Holds, Joined}
use Rattle.tp_meaning.proofs.Shows.{join-assoc, join-blank}
use Rattle.tp_meaning.proofs.Rising.{rises_less}
use Rattle.tp_scene.specs.Scene.{Bindings, Ending, Going, Head, Do, Later, Shown, Split, SplitProject, Closed, Opened, Running, Entries, none, leaf, node, risen}
use Rattle.tp_scene.specs.Says.{at_cuts, locals_at_cuts, MarksHold, Claim, LeafSays, OpenedSays, SplitSays, HolderSays, Says, RegionSays}
use Rattle.tp_scene.specs.Advance.{unmarked, due, shown_in}
use Rattle.tp_scene.proofs.Frame.{region, status_means}
use Rattle.tp_scene.proofs.Quiet.{Before, Quiet, says_quiet, holder_quiet, leaf_quiet}
use Rattle.tp_scene.proofs.MoveScene.{region_moved}
use Rattle.tp_scene.proofs.RunOn.{GoesOn, runs_on, nil_after, shown_join, shown_now}
use Rattle.tp_scene.proofs.Rested.{HeadIs, Rested}

shown_nil_at : (a j : ℕ) → shown_at a [] j ≡ []
shown_nil_at a j = cond_both (eqb j a) [] [] (λ x. x ≡ []) (λ _. refl) (λ _. refl)

shown_nil : (a : ℕ) → shown_at a [] ≡ blank
shown_nil a = λ i j. shown_nil_at a j i

shown_two : (a : ℕ) (vs us : List (List Tree)) → shown_at a vs ⊕ shown_at a us ≡ shown_at a (vs ++ us)
shown_two a vs us = λ i j. sym (shown_join a vs us j) i

swap_at : (a : ℕ) (vs : List (List Tree)) (T : Shows) → Before (suc a) T → (j : ℕ) → T j ++ shown_at a vs j ≡ shown_at a vs j ++ T j
swap_at a vs T q j = cond_both (eqb j a) vs [] (λ x. T j ++ x ≡ x ++ T j)
    (λ e. let z : j < suc a = (let y = eqb-true j a e in omega (arith, y)) in (λ i. q j z i ++ vs) ∙ sym (nil_after vs) ∙ (λ i. vs ++ sym (q j z) i))
    (λ e. nil_after (T j))

swap_shown : (a : ℕ) (vs : List (List Tree)) (T : Shows) → Before (suc a) T → T ⊕ shown_at a vs ≡ shown_at a vs ⊕ T
swap_shown a vs T q = λ i j. swap_at a vs T q j i

-- two that are each shown first
both_first : (a : ℕ) (vs us : List (List Tree)) (T U : Shows) → Before (suc a) T → (shown_at a vs ⊕ T) ⊕ (shown_at a us ⊕ U) ≡ shown_at a (vs ++ us) ⊕ (T ⊕ U)
both_first a vs us T U q =
    join-assoc (shown_at a vs) T (shown_at a us ⊕ U)
    ∙ (λ i. shown_at a vs ⊕ sym (join-assoc T (shown_at a us) U) i)
    ∙ (λ i. shown_at a vs ⊕ (swap_shown a us T q i ⊕ U))
    ∙ (λ i. shown_at a vs ⊕ join-assoc (shown_at a us) T U i)
    ∙ sym (join-assoc (shown_at a vs) (shown_at a us) (T ⊕ U))
    ∙ (λ i. shown_two a vs us i ⊕ (T ⊕ U))

abbrev Pair : Claim → Claim → Claim
Pair P R d σ s = Joined (P d σ s) (R d σ s)

pair_on : (P R P' R' : Claim) (vs us : List (List Tree)) → Quiet P' → GoesOn P vs P' → GoesOn R us R' → GoesOn (Pair P R) (vs ++ us) (Pair P' R')
pair_on P R P' R' vs us q p r = (
  (λ d σ s a b S l z. let x = p.0 d σ s a b z.0 l z.2 in let y = r.0 d σ s a b z.1 l z.3 in
      (x.0 ⊕ y.0, (x.0, y.0, x.1, y.1, refl), z.4 ∙ (λ i. x.2 i ⊕ y.2 i) ∙ both_first a vs us x.0 y.0 (q d σ s (suc a) b x.0 l x.1))),
  (λ d σ s a b U l z. (
    shown_at a vs ⊕ z.0,
    shown_at a us ⊕ z.1,
    p.1 d σ s a b z.0 l z.2,
    r.1 d σ s a b z.1 l z.3,
    (λ i. shown_at a (vs ++ us) ⊕ z.4 i) ∙ sym (both_first a vs us z.0 z.1 (q d σ s (suc a) b z.0 l z.2)),
  )),
)

-- what P says is that this is shown
abbrev Only : Claim → List (List Tree) → Type 0
Only P vs = (d : ℕ) (σ : Locals) (s : Course) (a b : ℕ) (S : Shows) → P d σ s a b S ↔ (S ≡ shown_at a vs)

only_on : (P R R' : Claim) (vs us : List (List Tree)) → Only P vs → GoesOn R us R' → GoesOn (Pair P R) (vs ++ us) R'
only_on P R R' vs us p r = (
  (λ d σ s a b S l z. let y = r.0 d σ s a b z.1 l z.3 in
      (y.0, y.1, z.4 ∙ (λ i. (p d σ s a b z.0).0 z.2 i ⊕ y.2 i) ∙ sym (join-assoc (shown_at a vs) (shown_at a us) y.0) ∙ (λ i. shown_two a vs us i ⊕ y.0))),
  (λ d σ s a b U l z. (
    shown_at a vs,
    shown_at a us ⊕ U,
    (p d σ s a b (shown_at a vs)).1 refl,
    r.1 d σ s a b U l z,
    (λ i. sym (shown_two a vs us) i ⊕ U) ∙ join-assoc (shown_at a vs) (shown_at a us) U,
  )),
)

-- the same at the end
abbrev EndsAs : Claim → List (List Tree) → Type 0
EndsAs P vs = (d : ℕ) (σ : Locals) (s : Course) (a : ℕ) (S : Shows) → P d σ s a a S ↔ (S ≡ shown_at a vs)

pair_ends : (P R : Claim) (vs us : List (List Tree)) → EndsAs P vs → EndsAs R us → EndsAs (Pair P R) (vs ++ us)
pair_ends P R vs us p r d σ s a S = (
  (λ z. z.4 ∙ (λ i. (p d σ s a z.0).0 z.2 i ⊕ (r d σ s a z.1).0 z.3 i) ∙ shown_two a vs us),
  (λ e. (shown_at a vs, shown_at a us, (p d σ s a (shown_at a vs)).1 refl, (r d σ s a (shown_at a us)).1 refl, e ∙ sym (shown_two a vs us))),
)

ending_marks : (h : Head) (a : ℕ) → HeadIs Ending h → MarksHold h a a
ending_marks h a e Ending t = refl
ending_marks h a e Going t = absurd (both_ways h.goes e t)

going_marks : (h : Head) (a b : ℕ) → HeadIs Going h → a < b → MarksHold h a b
going_marks h a b e l Ending t = absurd (both_ways h.ends e t)
going_marks h a b e l Going t = l

pub no_marks : (h : Head) (a b : ℕ) → MarksHold (unmarked h) a b
no_marks h a b Ending t = absurd (false≢true t)
no_marks h a b Going t = absurd (false≢true t)

module _ (w : Context) (globals : ℕ) where
  region_ends : (h : Head) (es : Entries) → HeadIs Ending h → EndsAs (Says w globals es) (shown_in es) → EndsAs (RegionSays w globals (region h es)) (shown_in es)
  region_ends h es m p d σ s a S = ((λ z. (p d σ s a S).0 z.1), (λ e. (ending_marks h a m, (p d σ s a S).1 e)))

  opened_end : (f : FormulaTree) (env : Bindings) (O : Claim) (vs : List (List Tree)) → EndsAs O vs → (d : ℕ) (σ : Locals) (s : Course) (a : ℕ) (S : Shows) (c : ℕ → ℕ) (m : ℕ) (V : Shows) (T : ℕ → Shows)
      → Rising c → c 0 ≡ a → c m ≡ a → O d (locals_at_cuts c σ) (at_cuts c s) 0 m V → S ≡ woven m 0 c V T → S ≡ shown_at a vs
  opened_end f env O vs p d σ s a S c zero V T r u v o q = q ∙ (λ i. shown_at (u i) ((p d (locals_at_cuts c σ) (at_cuts c s) 0 V).0 o i 0)) ∙ ap (shown_at a) (shown_now 0 vs)
  opened_end f env O vs p d σ s a S c (suc m) V T r u v o q = absurd (let z = rises_less c r 0 (suc m) (omega arith) in omega (arith, z, u, v))

  from_rises : (a : ℕ) → Rising (λ j. j + a)
  from_rises a j = omega arith

  opened_ends : (f : FormulaTree) (env : Bindings) (O : Claim) (vs : List (List Tree)) → EndsAs O vs → EndsAs (OpenedSays w globals f env O) vs
  opened_ends f env O vs p d σ s a S = (
    (λ z. opened_end f env O vs p d σ s a S z.0 z.1 z.2 z.3 z.4 z.5 z.6 z.8 z.9),
    (λ e. let c = λ (j : ℕ). j + a in let u : 0 + a ≡ a = omega arith in (
      c,
      0,
      shown_at 0 vs,
      (λ _. blank),
      from_rises a,
      u,
      u,
      (λ j v. absurd (omega arith)),
      (p d (locals_at_cuts c σ) (at_cuts c s) 0 (shown_at 0 vs)).1 refl,
      e ∙ sym ((λ i. shown_at (u i) (shown_now 0 vs i))),
    )),
  )

  pub ends_here : (es : Entries) → Rested Ending es → EndsAs (Says w globals es) (shown_in es)
  ends_here none r = λ d σ s a S. ((λ e. e ∙ sym (shown_nil a)), (λ e. e ∙ shown_nil a))
  ends_here (leaf id (Shown vs) rest) r = pair_ends (LeafSays w globals (Shown vs)) (Says w globals rest) (vs ∷ []) (shown_in rest) (λ d σ s a S. ((λ e. e), (λ e. e))) (ends_here rest r)
  ends_here (node id Closed h held g second rest) r = pair_ends (HolderSays w globals Closed (RegionSays w globals (region h held)) (RegionSays w globals (region g second))) (Says w globals rest) (shown_in held) (shown_in rest)
      (region_ends h held r.0 (ends_here held r.1)) (ends_here rest r.2)
  ends_here (node id (Opened f env) h held g second rest) r = pair_ends (HolderSays w globals (Opened f env) (RegionSays w globals (region h held)) (RegionSays w globals (region g second))) (Says w globals rest) (shown_in held) (shown_in rest)
      (opened_ends f env (RegionSays w globals (region h held)) (shown_in held) (region_ends h held r.0 (ends_here held r.1))) (ends_here rest r.2)
  ends_here es r = elim r [ ]

  region_on : (h : Head) (es : Entries) → HeadIs Going h → GoesOn (Says w globals es) (shown_in es) (Says w globals (due es)) → GoesOn (RegionSays w globals (region h es)) (shown_in es) (RegionSays w globals (region (unmarked h) (due es)))
  region_on h es m p = (
    (λ d σ s a b S l z. let x = p.0 d σ s a b S l z.1 in (x.0, (no_marks h (suc a) b, x.1), x.2)),
    (λ d σ s a b U l z. (going_marks h a b m l, p.1 d σ s a b U l z.1)),
  )

  later_on : (f : FormulaTree) (env : Bindings) → GoesOn (LeafSays w globals (Later f env)) [] (LeafSays w globals (Do f env))
  later_on f env = (
    (λ d σ s a b S l z. (S, z.1, (λ i. sym (shown_nil a) i ⊕ S))),
    (λ d σ s a b U l z. (l, subst (λ (X : Shows). Holds w d f (meanings_of globals s σ env) s (suc a) b X) (λ i. sym (shown_nil a) i ⊕ U) z)),
  )

  split_on : (I I' A : Claim) (vs : List (List Tree)) → GoesOn I vs I' → ((d : ℕ) (σ : Locals) (s : Course) (a i : ℕ) (T : Shows) → a ≤ i → I d σ s a i T → a < i) → GoesOn (SplitSays w globals I A) vs (SplitSays w globals I' A)
  split_on I I' A vs p going = (
    (λ d σ s a b S l z. let o = going d σ s a z.0 z.1 z.3 z.5 in let x = p.0 d σ s a z.0 z.1 o z.5 in
        (x.0 ⊕ z.2, (z.0, x.0, z.2, o, z.4, x.1, z.6, refl), z.7 ∙ (λ i. x.2 i ⊕ z.2) ∙ join-assoc (shown_at a vs) x.0 z.2)),
    (λ d σ s a b U l z. let o = z.3 in (
      z.0,
      shown_at a vs ⊕ z.1,
      z.2,
      omega (arith, o),
      z.4,
      p.1 d σ s a z.0 z.1 o z.5,
      z.6,
      (λ i. shown_at a vs ⊕ z.7 i) ∙ sym (join-assoc (shown_at a vs) z.1 z.2),
    )),
  )

  region_goes : (h : Head) (es : Entries) → (h.goes || risen Going es) ≡ true → (d : ℕ) (σ : Locals) (s : Course) (a i : ℕ) (T : Shows) → a ≤ i → RegionSays w globals (region h es) d σ s a i T → a < i
  region_goes h es e d σ s a i T le z = elim (or_cases h.goes (risen Going es) e) [ inl y ↦ z.0 Going y | inr y ↦ status_means w globals es Going d σ s a i T le z.1 y ]

  region_quiet : (h : Head) (es : Entries) → Quiet (RegionSays w globals (region h es))
  region_quiet h es d σ s a b S le z = says_quiet w globals es d σ s a b S le z.1

  closed_only : (h : Head) (held : Entries) (O : Claim) → HeadIs Ending h → Rested Ending held → Only (HolderSays w globals Closed (RegionSays w globals (region h held)) O) (shown_in held)
  closed_only h held O m r d σ s a b S = region_ends h held m (ends_here held r) d σ s a S

  pub goes_on : (es : Entries) → Rested Going es → GoesOn (Says w globals es) (shown_in es) (Says w globals (due es))
  goes_on none r = (
    (λ d σ s a b S l z. (blank, refl, z ∙ sym (shown_nil a) ∙ sym (join-blank (shown_at a [])))),
    (λ d σ s a b U l z. (λ i. shown_nil a i ⊕ z i)),
  )
  goes_on (leaf id (Later f env) rest) r = pair_on (LeafSays w globals (Later f env)) (Says w globals rest) (LeafSays w globals (Do f env)) (Says w globals (due rest)) [] (shown_in rest) (leaf_quiet w globals (Do f env)) (later_on f env) (goes_on rest r)
  goes_on (leaf id (Shown vs) rest) r = only_on (LeafSays w globals (Shown vs)) (Says w globals rest) (Says w globals (due rest)) (vs ∷ []) (shown_in rest) (λ d σ s a b S. ((λ e. e), (λ e. e))) (goes_on rest r)
  goes_on (node id (Split f env) h held g second rest) r =
      pair_on (HolderSays w globals (Split f env) (RegionSays w globals (region h held)) (RegionSays w globals (region g second))) (Says w globals rest) (HolderSays w globals (Split f env) (RegionSays w globals (region (unmarked h) (due held))) (RegionSays w globals (region g second))) (Says w globals (due rest)) (shown_in held) (shown_in rest)
      (holder_quiet w globals (Split f env) (RegionSays w globals (region (unmarked h) (due held))) (RegionSays w globals (region g second)) (region_quiet (unmarked h) (due held)))
      (split_on (RegionSays w globals (region h held)) (RegionSays w globals (region (unmarked h) (due held))) _ (shown_in held) (region_on h held r.1 (goes_on held r.2)) (region_goes h held r.0)) (goes_on rest r.3)
  goes_on (node id (SplitProject f env) h held g second rest) r =
      pair_on (HolderSays w globals (SplitProject f env) (RegionSays w globals (region h held)) (RegionSays w globals (region g second))) (Says w globals rest) (HolderSays w globals (SplitProject f env) (RegionSays w globals (region (unmarked h) (due held))) (RegionSays w globals (region g second))) (Says w globals (due rest)) (shown_in held) (shown_in rest)
      (holder_quiet w globals (SplitProject f env) (RegionSays w globals (region (unmarked h) (due held))) (RegionSays w globals (region g second)) (region_quiet (unmarked h) (due held)))
      (split_on (RegionSays w globals (region h held)) (RegionSays w globals (region (unmarked h) (due held))) _ (shown_in held) (region_on h held r.1 (goes_on held r.2)) (region_goes h held r.0)) (goes_on rest r.3)
  goes_on (node id Closed h held g second rest) r =
      only_on (HolderSays w globals Closed (RegionSays w globals (region h held)) (RegionSays w globals (region g second))) (Says w globals rest) (Says w globals (due rest)) (shown_in held) (shown_in rest) (closed_only h held (RegionSays w globals (region g second)) r.0 r.1) (goes_on rest r.2)
  goes_on (node id (Running f env) h held g second rest) r =
      pair_on (HolderSays w globals (Running f env) (RegionSays w globals (region h held)) (RegionSays w globals (region g second))) (Says w globals rest) (HolderSays w globals (SplitProject f env) (RegionSays w globals (region (unmarked h) (due held))) (RegionSays w globals (region (unmarked g) (due second)))) (Says w globals (due rest)) (shown_in second ++ shown_in held) (shown_in rest)
      (holder_quiet w globals (SplitProject f env) (RegionSays w globals (region (unmarked h) (due held))) (RegionSays w globals (region (unmarked g) (due second))) (region_quiet (unmarked h) (due held)))
      (runs_on w globals f env (RegionSays w globals (region h held)) (RegionSays w globals (region g second)) (RegionSays w globals (region (unmarked h) (due held))) (RegionSays w globals (region (unmarked g) (due second))) (shown_in held) (shown_in second)
      (region_on h held r.0 (goes_on held r.2)) (region_on g second r.1 (goes_on second r.3)) (region_quiet (unmarked g) (due second)) (region_moved w globals (unmarked g) (due second)))
      (goes_on rest r.4)
  goes_on es r = elim r [ ]

-- a settled region that goes on
pub region_goes_on : (w : Context) (globals : ℕ) (h : Head) (es : Entries) → HeadIs Going h → Rested Going es
    → GoesOn (RegionSays w globals (region h es)) (shown_in es) (RegionSays w globals (region (unmarked h) (due es)))
region_goes_on w globals h es m rested = region_on w globals h es m (goes_on w globals es rested)

-- and one that ends
pub region_ends_here : (w : Context) (globals : ℕ) (h : Head) (es : Entries) → HeadIs Ending h → Rested Ending es
    → (d : ℕ) (σ : Locals) (s : Course) (a : ℕ) (S : Shows) → RegionSays w globals (region h es) d σ s a a S ↔ (S ≡ shown_at a (shown_in es))
region_ends_here w globals h es m rested = region_ends w globals h es m (ends_here w globals es rested)
