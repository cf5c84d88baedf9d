-- What a scene says is said at greater depths, and with values that are alike on its variables.
use Rattle.std.proofs.Common.{◌≡◌, ℕ, suc, ◌≤◌, ◌<◌, Bool, true, false, cond, eqb, nat_lt, List, [], ◌∷◌, refl, ap, sym, subst, arith, if◌then◌else◌}
use Rattle.std.proofs.lemmas.Bool.{cond_both, eqb-true, both_ways, eq-eqb}
use Rattle.tp_value.specs.Tree.{Tree}
use Rattle.tp_value.specs.Shape.{item_at}
use Rattle.tp_meaning.specs.Syntax.{FormulaTree, BindingTree, place_binding, known_binding}
use Rattle.tp_meaning.specs.Course.{Course, Shows}
use Rattle.tp_meaning.specs.Value.{Meaning, varying}
use Rattle.tp_meaning.specs.Bindings.{Locals, meaning_of, meanings_of}
use Rattle.tp_meaning.specs.Holds.{Context, Holds}
use Rattle.tp_meaning.proofs.DeeperHolds.{holds_deeper}
use Rattle.tp_meaning.proofs.Move.{projected_as}
use Rattle.tp_scene.specs.Scene.{Bindings, Head, Leaf, Do, Later, Shown, Holder, Split, SplitProject, Closed, Opened, Running, Entries, none, leaf, node}
use Rattle.tp_scene.specs.Says.{at_cuts, locals_at_cuts, Claim, FormulaSays, LeafSays, OpenedSays, RunningSays, SplitSays, HolderSays, Says, RegionSays}
use Rattle.tp_scene.proofs.Below.{BindingBelow, AllBelow, LeafBelow, HolderBelow, IfSecond, if_second, Below}

-- the same values of the variables below n
abbrev pub Like : ℕ → Locals → Locals → Type 0
Like n σ τ = (y : ℕ) → y < n → τ y ≡ σ y

pub like_self : (n : ℕ) (σ : Locals) → Like n σ σ
like_self n σ y h = refl

pub like_at_cuts : (n : ℕ) (c : ℕ → ℕ) (σ τ : Locals) → Like n σ τ → Like n (locals_at_cuts c σ) (locals_at_cuts c τ)
like_at_cuts n c σ τ l y h = λ i k. l y h i (c k)

meaning_like : (globals n : ℕ) (s : Course) (σ τ : Locals) → Like n σ τ → (b : BindingTree) → BindingBelow n b → meaning_of globals s τ b ≡ meaning_of globals s σ b
meaning_like globals n s σ τ l (place_binding p) h = λ i. varying (λ j. item_at p.at (if nat_lt p.var.number globals then (s j).values p.var.number else l p.var.number h i j))
meaning_like globals n s σ τ l (known_binding t) h = refl

pub meanings_like : (globals n : ℕ) (s : Course) (σ τ : Locals) → Like n σ τ → (env : Bindings) → AllBelow n env → meanings_of globals s τ env ≡ meanings_of globals s σ env
meanings_like globals n s σ τ l [] h = refl
meanings_like globals n s σ τ l (b ∷ env) h = λ i. meaning_like globals n s σ τ l b h.0 i ∷ meanings_like globals n s σ τ l env h.1 i

module _ (w : Context) (globals n : ℕ) where
  -- a claim is carried to greater depths and like values
  abbrev pub Carried : Claim → Type 0
  Carried P = (d d' : ℕ) (σ τ : Locals) → d ≤ d' → Like n σ τ → (s : Course) (a b : ℕ) (S : Shows) → P d σ s a b S → P d' τ s a b S

  pub formula_carried : (f : FormulaTree) (env : Bindings) → AllBelow n env → Carried (FormulaSays w globals f env)
  formula_carried f env below d d' σ τ le l s a b S h =
      subst (λ (E : List Meaning). Holds w d' f E s a b S) (sym (meanings_like globals n s σ τ l env below)) (holds_deeper w d d' le f (meanings_of globals s σ env) s a b S h)

  pub leaf_carried : (l : Leaf) → LeafBelow n l → Carried (LeafSays w globals l)
  leaf_carried (Do f env) below = formula_carried f env below
  leaf_carried (Later f env) below = λ d d' σ τ le l s a b S h. (h.0, formula_carried f env below d d' σ τ le l s (suc a) b S h.1)
  leaf_carried (Shown vs) below = λ d d' σ τ le l s a b S h. h

  pub opened_carried : (f : FormulaTree) (env : Bindings) (O : Claim) → AllBelow n env → Carried O → Carried (OpenedSays w globals f env O)
  opened_carried f env O below up d d' σ τ le l s a b = projected_as (FormulaSays w globals f env d σ s) (FormulaSays w globals f env d' τ s)
      (λ c. O d (locals_at_cuts c σ) (at_cuts c s)) (λ c. O d' (locals_at_cuts c τ) (at_cuts c s))
      (λ i j T. formula_carried f env below d d' σ τ le l s i j T)
      (λ c m V. up d d' (locals_at_cuts c σ) (locals_at_cuts c τ) le (like_at_cuts n c σ τ l) (at_cuts c s) 0 m V) a b

  -- with another first piece, and another outer part
  pub running_again : (f : FormulaTree) (env : Bindings) (I I' O O' : Claim) → AllBelow n env → (d d' : ℕ) (σ τ : Locals) → d ≤ d' → Like n σ τ → (s : Course) (a b : ℕ) (S : Shows) → (h : RunningSays w globals f env I O d σ s a b S)
      → I' d' τ s (h.0 0) (h.0 1) (h.3 0) → O' d' (locals_at_cuts h.0 τ) (at_cuts h.0 s) 0 (suc h.1) h.2 → RunningSays w globals f env I' O' d' τ s a b S
  running_again f env I I' O O' below d d' σ τ le l s a b S h first outer =
      (h.0, h.1, h.2, h.3, h.4, h.5, h.6, first, (λ j u v. formula_carried f env below d d' σ τ le l s _ _ _ (h.8 j u v)), outer, h.10)

  pub running_carried : (f : FormulaTree) (env : Bindings) (I O : Claim) → AllBelow n env → Carried I → Carried O → Carried (RunningSays w globals f env I O)
  running_carried f env I O below upi up d d' σ τ le l s a b S h =
      running_again f env I I O O below d d' σ τ le l s a b S h (upi d d' σ τ le l s _ _ _ h.7) (up d d' (locals_at_cuts h.0 σ) (locals_at_cuts h.0 τ) le (like_at_cuts n h.0 σ τ l) (at_cuts h.0 s) _ _ h.2 h.9)

  pub split_carried : (I A : Claim) → Carried I → Carried A → Carried (SplitSays w globals I A)
  split_carried I A upi up d d' σ τ le l s a b S h = (h.0, h.1, h.2, h.3, h.4, upi d d' σ τ le l s a h.0 h.1 h.5, up d d' σ τ le l s h.0 b h.2 h.6, h.7)

  pub holder_carried : (k : Holder) (I O : Claim) → HolderBelow n k → Carried I → IfSecond k (Carried O) → Carried (HolderSays w globals k I O)
  holder_carried (Split f env) I O below upi up = split_carried I _ upi (formula_carried f env below)
  holder_carried (SplitProject f env) I O below upi up = split_carried I _ upi (opened_carried f env O below up)
  holder_carried Closed I O below upi up = λ d d' σ τ le l s a b S h. upi d d' σ τ le l s a a S h
  holder_carried (Opened f env) I O below upi up = opened_carried f env I below upi
  holder_carried (Running f env) I O below upi up = running_carried f env I O below upi up

  pub says_carried : (es : Entries) → Below n es → Carried (Says w globals es)
  says_carried none below d d' σ τ le l s a b S h = h
  says_carried (leaf id x rest) below d d' σ τ le l s a b S h =
      (h.0, h.1, leaf_carried x below.0 d d' σ τ le l s a b h.0 h.2, says_carried rest below.1 d d' σ τ le l s a b h.1 h.3, h.4)
  says_carried (node id k hd held g second rest) below d d' σ τ le l s a b S h = (
    h.0,
    h.1,
    holder_carried k _ _ below.0
        (λ d d' σ τ le l s i j V x. (x.0, says_carried held below.1 d d' σ τ le l s i j V x.1))
        (if_second k _ _ (λ (u : Below n second) d d' σ τ le l s i j V x. (x.0, says_carried second u d d' σ τ le l s i j V x.1)) below.2)
        d d' σ τ le l s a b h.0 h.2,
    says_carried rest below.3 d d' σ τ le l s a b h.1 h.3,
    h.4,
  )

  pub region_carried : (hd : Head) (es : Entries) → Below n es → Carried (RegionSays w globals (record { head = hd; entries = es }))
  region_carried hd es below d d' σ τ le l s a b S h = (h.0, says_carried es below d d' σ τ le l s a b S h.1)

-- values changed at one variable
abbrev pub update : Locals → ℕ → (ℕ → Tree) → Locals
update σ n v = λ y. cond (eqb y n) v (σ y)

pub like_update : (n : ℕ) (σ : Locals) (v : ℕ → Tree) → Like n σ (update σ n v)
like_update n σ v y h = cond_both (eqb y n) v (σ y) (λ x. x ≡ σ y) (λ e. absurd (let q = eqb-true y n e in omega arith)) (λ _. refl)

update_self_at : (n : ℕ) (σ : Locals) (y : ℕ) → update σ n (σ n) y ≡ σ y
update_self_at n σ y = cond_both (eqb y n) (σ n) (σ y) (λ x. x ≡ σ y) (λ e. ap σ (sym (eqb-true y n e))) (λ _. refl)

pub update_self : (n : ℕ) (σ : Locals) → update σ n (σ n) ≡ σ
update_self n σ = λ i y. update_self_at n σ y i

pub update_there : (n : ℕ) (σ : Locals) (v : ℕ → Tree) → update σ n v n ≡ v
update_there n σ v = cond_both (eqb n n) v (σ n) (λ x. x ≡ v) (λ _. refl) (λ e. absurd (both_ways (eqb n n) e (eq-eqb n n refl)))

update_at_cuts_at : (n : ℕ) (σ : Locals) (v : ℕ → Tree) (c r : ℕ → ℕ) → ((j : ℕ) → r (c j) ≡ j) → (y : ℕ) → locals_at_cuts c (update σ n (λ j. v (r j))) y ≡ update (locals_at_cuts c σ) n v y
update_at_cuts_at n σ v c r undo y = go (eqb y n) where
  go : (q : Bool) → (λ k. cond q (λ j. v (r j)) (σ y) (c k)) ≡ cond q v (λ k. σ y (c k))
  go true = λ i k. v (undo k i)
  go false = refl

pub update_at_cuts : (n : ℕ) (σ : Locals) (v : ℕ → Tree) (c r : ℕ → ℕ) → ((j : ℕ) → r (c j) ≡ j) → locals_at_cuts c (update σ n (λ j. v (r j))) ≡ update (locals_at_cuts c σ) n v
update_at_cuts n σ v c r undo = λ i y. update_at_cuts_at n σ v c r undo y i
