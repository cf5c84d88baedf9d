-- What a `Running` item leaves for the next state: its first piece goes on as a left region, and the projection from there.
use Rattle.std.proofs.Common.{◌≡◌, ℕ, zero, suc, Bool, true, false, ◌≤◌, ◌<◌, List, [], ◌∷◌, ◌++◌, refl, ap, sym, ◌∙◌, subst, arith, cond, eqb}
use Rattle.std.proofs.lemmas.Bool.{cond_both, eqb-true, eq-eqb, cond-true, both_ways}
use Rattle.tp_value.specs.Tree.{Tree}
use Rattle.tp_meaning.specs.Syntax.{FormulaTree}
use Rattle.tp_meaning.specs.Course.{Course, Shows, blank, ◌⊕◌, shown_at, woven, Rising}
use Rattle.tp_meaning.specs.Bindings.{Locals, meanings_of}
use Rattle.tp_meaning.specs.Holds.{Context, Holds}
use Rattle.tp_meaning.proofs.Shows.{join-assoc}
use Rattle.tp_meaning.proofs.Rising.{rises_less}
use Rattle.tp_meaning.proofs.Move.{Move}
use Rattle.tp_scene.specs.Scene.{Bindings}
use Rattle.tp_scene.specs.Says.{at_cuts, locals_at_cuts, Claim, OpenedSays, RunningSays, SplitSays}
use Rattle.tp_scene.proofs.Quiet.{Quiet}
use Rattle.tp_scene.proofs.MoveScene.{ClaimMoved}

-- one position later
abbrev pub later_shows : Shows → Shows
later_shows S zero = []
later_shows S (suc j) = S j

pub later_blank_at : (j : ℕ) → later_shows blank j ≡ []
later_blank_at zero = refl
later_blank_at (suc j) = refl

pub later_join_at : (S T : Shows) (j : ℕ) → later_shows (S ⊕ T) j ≡ (later_shows S ⊕ later_shows T) j
later_join_at S T zero = refl
later_join_at S T (suc j) = refl

pub succ_eqb : (a : ℕ) (vs : List (List Tree)) (j : ℕ) → cond (eqb j a) vs [] ≡ cond (eqb (suc j) (suc a)) vs []
succ_eqb a vs j = cond_both (eqb j a) vs [] (λ x. x ≡ cond (eqb (suc j) (suc a)) vs [])
    (λ e. sym (cond-true (eqb (suc j) (suc a)) vs [] (eq-eqb (suc j) (suc a) (ap suc (eqb-true j a e)))))
    (λ e. cond_both (eqb (suc j) (suc a)) vs [] (λ x. [] ≡ x) (λ y. absurd (let q = eqb-true (suc j) (suc a) y in let z : j ≡ a = omega (arith, q) in both_ways (eqb j a) e (eq-eqb j a z))) (λ _. refl))

pub later_at_at : (a : ℕ) (vs : List (List Tree)) (j : ℕ) → later_shows (shown_at a vs) j ≡ shown_at (suc a) vs j
later_at_at a vs zero = cond_both (eqb 0 (suc a)) vs [] (λ x. [] ≡ x) (λ e. absurd (let q = eqb-true 0 (suc a) e in omega (arith, q))) (λ _. refl)
later_at_at a vs (suc j) = cond_both (eqb j a) vs [] (λ x. x ≡ cond (eqb (suc j) (suc a)) vs [])
    (λ e. sym (cond-true (eqb (suc j) (suc a)) vs [] (eq-eqb (suc j) (suc a) (ap suc (eqb-true j a e)))))
    (λ e. cond_both (eqb (suc j) (suc a)) vs [] (λ x. [] ≡ x) (λ y. absurd (let q = eqb-true (suc j) (suc a) y in let z : j ≡ a = omega (arith, q) in both_ways (eqb j a) e (eq-eqb j a z))) (λ _. refl))

abbrev pub later_move : Move
later_move = record {
  low = 0;
  at = suc;
  step = λ j u. refl;
  push = later_shows;
  push_blank = λ i j. later_blank_at j i;
  push_join = λ S T i j. later_join_at S T j i;
  push_at = λ a u vs i j. later_at_at a vs j i;
}

-- one position earlier, from position 1 on
abbrev before : ℕ → ℕ
before zero = zero
before (suc j) = j

before_step : (j : ℕ) → 1 ≤ j → before (suc j) ≡ suc (before j)
before_step zero u = absurd (omega arith)
before_step (suc j) u = refl

before_at_at : (a : ℕ) → 1 ≤ a → (vs : List (List Tree)) → (λ (j : ℕ). shown_at a vs (suc j)) ≡ shown_at (before a) vs
before_at_at zero u vs = absurd (omega arith)
before_at_at (suc a) u vs = λ i j. sym (succ_eqb a vs j) i

abbrev earlier_move : Move
earlier_move = record {
  low = 1;
  at = before;
  step = before_step;
  push = λ S j. S (suc j);
  push_blank = refl;
  push_join = λ S T. refl;
  push_at = before_at_at;
}

-- a position before the others
abbrev then_cuts : ℕ → (ℕ → ℕ) → ℕ → ℕ
then_cuts a c zero = a
then_cuts a c (suc j) = c j

then_rises : (a : ℕ) (c : ℕ → ℕ) → Rising c → a < c 0 → Rising (then_cuts a c)
then_rises a c r h zero = h
then_rises a c r h (suc j) = r j

abbrev then_shows : Shows → (ℕ → Shows) → ℕ → Shows
then_shows T U zero = T
then_shows T U (suc j) = U j

woven_cong : (m k : ℕ) (c : ℕ → ℕ) (V W : Shows) (T : ℕ → Shows) → ((j : ℕ) → k ≤ j → V j ≡ W j) → woven m k c V T ≡ woven m k c W T
woven_cong zero k c V W T h = λ i. shown_at (c k) (h k (omega arith) i)
woven_cong (suc m) k c V W T h = λ i. shown_at (c k) (h k (omega arith) i) ⊕ (T k ⊕ woven_cong m (suc k) c V W T (λ j u. h j (omega arith)) i)

-- the same weave, numbered one earlier
woven_shift : (m k : ℕ) (c : ℕ → ℕ) (V : Shows) (T : ℕ → Shows) → woven m (suc k) c V T ≡ woven m k (λ j. c (suc j)) (λ j. V (suc j)) (λ j. T (suc j))
woven_shift zero k c V T = refl
woven_shift (suc m) k c V T = λ i. shown_at (c (suc k)) (V (suc k)) ⊕ (T (suc k) ⊕ woven_shift m (suc k) c V T i)

pub shown_join : (a : ℕ) (vs us : List (List Tree)) (j : ℕ) → shown_at a (vs ++ us) j ≡ (shown_at a vs ⊕ shown_at a us) j
shown_join a vs us j = go (eqb j a) where
  go : (q : Bool) → cond q (vs ++ us) [] ≡ cond q vs [] ++ cond q us []
  go true = refl
  go false = refl

shown_none : (a j : ℕ) (vs : List (List Tree)) → a < j → shown_at a vs j ≡ []
shown_none a j vs u = cond_both (eqb j a) vs [] (λ x. x ≡ []) (λ e. absurd (let q = eqb-true j a e in omega arith)) (λ _. refl)

pub shown_now : (a : ℕ) (vs : List (List Tree)) → shown_at a vs a ≡ vs
shown_now a vs = cond-true (eqb a a) vs [] (eq-eqb a a refl)

pub nil_after : (xs : List (List Tree)) → xs ++ [] ≡ xs
nil_after [] = refl
nil_after (x ∷ xs) = ap (λ ys. x ∷ ys) (nil_after xs)

second_below : (c : ℕ → ℕ) → Rising c → (m b : ℕ) → c (suc m) ≡ b → c 1 ≤ b
second_below c r zero b e = omega (arith, e)
second_below c r (suc m) b e = let q = rises_less c r 1 (suc (suc m)) (omega arith) in omega (arith, q, e)

back_local : (c : ℕ → ℕ) (σ : Locals) (y j : ℕ) → 1 ≤ j → σ y (c (suc (before j))) ≡ σ y (c j)
back_local c σ y zero u = absurd (omega arith)
back_local c σ y (suc j) u = refl

back_state : (c : ℕ → ℕ) (s : Course) (j : ℕ) → 1 ≤ j → s (c (suc (before j))) ≡ s (c j)
back_state c s zero u = absurd (omega arith)
back_state c s (suc j) u = refl

gather : (a e : ℕ) → e ≡ a → (os is : List (List Tree)) (T R : Shows) → shown_at a os ⊕ ((shown_at e is ⊕ T) ⊕ R) ≡ shown_at a (os ++ is) ⊕ (T ⊕ R)
gather a e q os is T R =
    (λ i. shown_at a os ⊕ ((shown_at (q i) is ⊕ T) ⊕ R))
    ∙ (λ i. shown_at a os ⊕ join-assoc (shown_at a is) T R i)
    ∙ sym (join-assoc (shown_at a os) (shown_at a is) (T ⊕ R))
    ∙ (λ i j. sym (shown_join a os is j) i ++ (T ⊕ R) j)

-- P now: these lists at its first position, and then what P' says from the next position on
abbrev pub GoesOn : Claim → List (List Tree) → Claim → Type 0
GoesOn P vs P' =
    ((d : ℕ) (σ : Locals) (s : Course) (a b : ℕ) (S : Shows) → a < b → P d σ s a b S → (U : Shows) × P' d σ s (suc a) b U × (S ≡ shown_at a vs ⊕ U))
    × ((d : ℕ) (σ : Locals) (s : Course) (a b : ℕ) (U : Shows) → a < b → P' d σ s (suc a) b U → P d σ s a b (shown_at a vs ⊕ U))

module _ (w : Context) (globals : ℕ) (f : FormulaTree) (env : Bindings) (I O I' O' : Claim) (is os : List (List Tree)) (held : GoesOn I is I') (outer : GoesOn O os O') (quiet : Quiet O') (moved : ClaimMoved w globals O') where
  there : (d : ℕ) (σ : Locals) (s : Course) (a b : ℕ) (S : Shows) → RunningSays w globals f env I O d σ s a b S
      → (U : Shows) × SplitSays w globals I' (OpenedSays w globals f env O') d σ s (suc a) b U × (S ≡ shown_at a (os ++ is) ⊕ U)
  there d σ s a b S z =
      let c = z.0 in
      let rising = z.4 in
      let first = held.0 d σ s (c 0) (c 1) (z.3 0) (rising 0) z.7 in
      let on = outer.0 d (locals_at_cuts c σ) (at_cuts c s) 0 (suc z.1) z.2 (omega arith) z.9 in
      let rest = woven z.1 0 (λ j. c (suc j)) (λ j. on.0 (suc j)) (λ j. z.3 (suc j)) in
      let low = rising 0 in
      let high = second_below c rising z.1 b z.6 in
      let at0 : z.2 0 ≡ os = (λ i. on.2 i 0) ∙ (λ i. shown_now 0 os i ++ quiet d (locals_at_cuts c σ) (at_cuts c s) 1 (suc z.1) on.0 (omega arith) on.1 0 (omega arith) i) ∙ nil_after os in
      let later : woven z.1 1 c z.2 z.3 ≡ rest = woven_cong z.1 1 c z.2 on.0 z.3 (λ j u. (λ i. on.2 i j) ∙ (λ i. shown_none 0 j os u i ++ on.0 j)) ∙ woven_shift z.1 0 c on.0 z.3 in (
        first.0 ⊕ rest,
        (
          c 1,
          first.0,
          rest,
          omega (arith, low, z.5),
          high,
          subst (λ (k : ℕ). I' d σ s k (c 1) first.0) (ap suc z.5) first.1,
          (
            (λ j. c (suc j)),
            z.1,
            (λ j. on.0 (suc j)),
            (λ j. z.3 (suc j)),
            (λ j. rising (suc j)),
            refl,
            z.6,
            (λ j u. z.8 (suc j) (omega arith) (omega arith)),
            moved earlier_move d (locals_at_cuts c σ) (locals_at_cuts (λ j. c (suc j)) σ) (at_cuts c s) (at_cuts (λ j. c (suc j)) s) 1 (suc z.1) on.0 (omega arith) (omega arith)
                (λ y j u v. back_local c σ y j u) (λ j u v. back_state c s j u) on.1,
            refl,
          ),
          refl,
        ),
        z.10 ∙ (λ i. shown_at (z.5 i) (at0 i) ⊕ (first.2 i ⊕ later i)) ∙ gather a (c 0) z.5 os is first.0 rest,
      )

  later_pieces : (d : ℕ) (σ : Locals) (s : Course) (a m : ℕ) (c : ℕ → ℕ) (T : Shows) (P : ℕ → Shows) → ((j : ℕ) → j < m → Holds w d f (meanings_of globals s σ env) s (c j) (c (suc j)) (P j))
      → (j : ℕ) → 0 < j → j < suc m → Holds w d f (meanings_of globals s σ env) s (then_cuts a c j) (then_cuts a c (suc j)) (then_shows T P j)
  later_pieces d σ s a m c T P h zero u v = absurd (omega arith)
  later_pieces d σ s a m c T P h (suc j) u v = h j (omega arith)

  back : (d : ℕ) (σ : Locals) (s : Course) (a b : ℕ) (U : Shows) → a < b → SplitSays w globals I' (OpenedSays w globals f env O') d σ s (suc a) b U → RunningSays w globals f env I O d σ s a b (shown_at a (os ++ is) ⊕ U)
  back d σ s a b U l x =
      let z = x.6 in
      let c = z.0 in
      let up = x.3 in
      let T0 = shown_at a is ⊕ x.1 in
      let V = shown_at 0 os ⊕ later_shows z.2 in
      let at0 : V 0 ≡ os = (λ i. shown_now 0 os i ++ []) ∙ nil_after os in
      let rest : woven z.1 1 (then_cuts a c) V (then_shows T0 z.3) ≡ x.2 =
      woven_shift z.1 0 (then_cuts a c) V (then_shows T0 z.3) ∙ woven_cong z.1 0 c (λ j. V (suc j)) z.2 z.3 (λ j u i. shown_none 0 (suc j) os (omega arith) i ++ z.2 j) ∙ sym z.9 in (
        then_cuts a c,
        z.1,
        V,
        then_shows T0 z.3,
        then_rises a c z.4 (omega (arith, up, z.5)),
        refl,
        z.6,
        subst (λ (k : ℕ). I d σ s a k T0) (sym z.5) (held.1 d σ s a x.0 x.1 (omega (arith, up)) x.5),
        later_pieces d σ s a z.1 c T0 z.3 z.7,
        outer.1 d (locals_at_cuts (then_cuts a c) σ) (at_cuts (then_cuts a c) s) 0 (suc z.1) (later_shows z.2) (omega arith)
            (moved later_move d (locals_at_cuts c σ) (locals_at_cuts (then_cuts a c) σ) (at_cuts c s) (at_cuts (then_cuts a c) s) 0 z.1 z.2 (omega arith) (omega arith) (λ y j u v. refl) (λ j u v. refl) z.8),
        (λ i. shown_at a (os ++ is) ⊕ x.7 i) ∙ sym (gather a a refl os is x.1 x.2) ∙ (λ i. shown_at a (sym at0 i) ⊕ (T0 ⊕ sym rest i)),
      )

  -- the `Running` item goes on as the split of its held region, and then the projection from there
  pub runs_on : GoesOn (RunningSays w globals f env I O) (os ++ is) (SplitSays w globals I' (OpenedSays w globals f env O'))
  runs_on = ((λ d σ s a b S l z. there d σ s a b S z), back)
