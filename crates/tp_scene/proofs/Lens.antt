-- A held region, seen from the region where its holder stands.
use Rattle.std.proofs.Common.{◌≡◌, ℕ, zero, suc, ◌≤◌, Bool, true, false, refl, ap, arith}
use Rattle.std.specs.Prelude.{IsTrue}
use Rattle.std.proofs.lemmas.Bool.{false≢true}
use Rattle.tp_meaning.specs.Syntax.{FormulaTree}
use Rattle.tp_meaning.specs.Course.{Course, Shows, Rising}
use Rattle.tp_meaning.specs.Bindings.{Locals}
use Rattle.tp_meaning.specs.Holds.{Context}
use Rattle.tp_meaning.proofs.Rising.{rises_less}
use Rattle.tp_scene.specs.Scene.{Bindings, Side, Ending, Going, Holder, Split, SplitProject, Closed, Opened, Running, second_lives, rises, sinks, forced}
use Rattle.tp_scene.specs.Says.{at_cuts, locals_at_cuts, IsSo, Claim, OpenedSays, RunningSays, SplitSays, HolderSays}
use Rattle.tp_scene.proofs.Below.{HolderBelow, IfSecond}
use Rattle.tp_scene.proofs.Carry.{Like, like_at_cuts, Carried, formula_carried, opened_carried, running_again}
use Rattle.tp_scene.proofs.Cuts.{number_at, number_undoes}

-- `Whole P` says that the held region, of which `P` speaks, says so on the course of the cuts from one number to another, with something
-- besides that is carried along.
pub record Lens (n : ℕ) (Safe : Type 0) (sk fk rk : Side → Bool) (Whole : Claim → Claim) (P : Claim) (d : ℕ) (σ : Locals) (s : Course) (a b : ℕ) (S : Shows) : Type 1 where
  pub cuts : ℕ → ℕ
  pub back : ℕ → ℕ
  pub undo : (j : ℕ) → back (cuts j) ≡ j
  pub from : ℕ
  pub to : ℕ
  pub shows : Shows
  pub start : cuts from ≡ a
  pub order : from ≤ to
  pub sunk : (z : Side) → IsTrue (sk z) → IsSo z a b → IsSo z from to
  pub must : (z : Side) → IsTrue (fk z) → IsSo z from to
  pub risen : (z : Side) → IsTrue (rk z) → IsSo z from to → IsSo z a b
  pub said : P d (locals_at_cuts cuts σ) (at_cuts cuts s) from to shows
  pub again : Safe → (d' : ℕ) (τ : Locals) → d ≤ d' → Like n σ τ → (Q : Claim) → Q d' (locals_at_cuts cuts τ) (at_cuts cuts s) from to shows → Whole Q d' τ s a b S

abbrev pub HasLens : ℕ → Type 0 → (Side → Bool) → (Side → Bool) → (Side → Bool) → (Claim → Claim) → Type 1
HasLens n Safe sk fk rk Whole = (P : Claim) (d : ℕ) (σ : Locals) (s : Course) (a b : ℕ) (S : Shows) → a ≤ b → Whole P d σ s a b S → Lens n Safe sk fk rk Whole P d σ s a b S

abbrev pub ends_alone : Side → Bool
ends_alone Ending = true
ends_alone Going = false

abbrev pub goes_alone : Side → Bool
goes_alone Ending = false
goes_alone Going = true

abbrev pub no_side : Side → Bool
no_side z = false

abbrev pub each_side : Side → Bool
each_side z = true

pub left_sunk : (k : Side → Bool) → (IsTrue (k Going) → ⊥) → (z : Side) (a i b : ℕ) → a ≤ i → i ≤ b → IsTrue (k z) → IsSo z a b → IsSo z a i
left_sunk k never Ending a i b u v t e = omega arith
left_sunk k never Going a i b u v t e = absurd (never t)

pub left_risen : (k : Side → Bool) → (IsTrue (k Ending) → ⊥) → (z : Side) (a i b : ℕ) → i ≤ b → IsTrue (k z) → IsSo z a i → IsSo z a b
left_risen k never Ending a i b v t e = absurd (never t)
left_risen k never Going a i b v t e = omega arith

pub closed_ends : (k : Side → Bool) → (IsTrue (k Going) → ⊥) → (z : Side) (a : ℕ) → IsTrue (k z) → IsSo z a a
closed_ends k never Ending a t = refl
closed_ends k never Going a t = absurd (never t)

pub inner_sunk : (c : ℕ → ℕ) → Rising c → (k : Side → Bool) → (IsTrue (k Going) → ⊥) → (z : Side) (m a b : ℕ) → c 0 ≡ a → c (suc m) ≡ b → IsTrue (k z) → IsSo z a b → IsSo z (c 0) (c 1)
inner_sunk c r k never Ending m a b u v t e = absurd (let q = rises_less c r 0 (suc m) (omega arith) in omega (arith, q, u, v, e))
inner_sunk c r k never Going m a b u v t e = absurd (never t)

pub inner_risen : (c : ℕ → ℕ) → Rising c → (k : Side → Bool) → (IsTrue (k Ending) → ⊥) → (z : Side) (m a b : ℕ) → c 0 ≡ a → c (suc m) ≡ b → IsTrue (k z) → IsSo z (c 0) (c 1) → IsSo z a b
inner_risen c r k never Ending m a b u v t e = absurd (never t)
inner_risen c r k never Going m a b u v t e = let q = rises_less c r 0 (suc m) (omega arith) in omega (arith, q, u, v)

pub outer_sunk : (c : ℕ → ℕ) → Rising c → (z : Side) (m a b : ℕ) → c 0 ≡ a → c m ≡ b → IsSo z a b → IsSo z 0 m
outer_sunk c r Ending zero a b u v e = refl
outer_sunk c r Ending (suc m) a b u v e = absurd (let q = rises_less c r 0 (suc m) (omega arith) in omega (arith, q, u, v, e))
outer_sunk c r Going zero a b u v e = absurd (omega (arith, u, v, e))
outer_sunk c r Going (suc m) a b u v e = omega arith

pub outer_risen : (c : ℕ → ℕ) → Rising c → (z : Side) (m a b : ℕ) → c 0 ≡ a → c m ≡ b → IsSo z 0 m → IsSo z a b
outer_risen c r Ending m a b u v e = let q = ap c e in omega (arith, q, u, v)
outer_risen c r Going m a b u v e = let q = rises_less c r 0 m e in omega (arith, q, u, v)

module _ (w : Context) (globals n : ℕ) where
  -- `k` says which lens it is: the holder's own sides, of which these hold
  abbrev pub split_lens : (sk fk rk : Side → Bool) → (IsTrue (sk Going) → ⊥) → ((z : Side) → IsTrue (fk z) → ⊥) → (IsTrue (rk Ending) → ⊥) → (A : Claim) (Safe : Type 0) → (Safe → Carried w globals n A) → HasLens n Safe sk fk rk (λ P. SplitSays w globals P A)
  split_lens sk fk rk no_sk no_fk no_rk A Safe up P d σ s a b S le h = record {
    cuts = λ k. k;
    back = λ k. k;
    undo = λ j. refl;
    from = a;
    to = h.0;
    shows = h.1;
    start = refl;
    order = h.3;
    sunk = λ z t e. left_sunk sk no_sk z a h.0 b h.3 h.4 t e;
    must = λ z t. absurd (no_fk z t);
    risen = λ z t e. left_risen rk no_rk z a h.0 b h.4 t e;
    said = h.5;
    again = λ safe d' τ le l Q q. (h.0, h.1, h.2, h.3, h.4, q, up safe d d' σ τ le l s h.0 b h.2 h.6, h.7);
  }

  abbrev pub opened_lens : (f : FormulaTree) (env : Bindings) (X : Type 0) → HasLens n (HolderBelow n (Opened f env) × X) (sinks (Opened f env)) (forced (Opened f env)) (rises (Opened f env)) (OpenedSays w globals f env)
  opened_lens f env X P d σ s a b S le h = record {
    cuts = h.0;
    back = number_at h.0;
    undo = number_undoes h.0 h.4;
    from = 0;
    to = h.1;
    shows = h.2;
    start = h.5;
    order = omega arith;
    sunk = λ z t e. outer_sunk h.0 h.4 z h.1 a b h.5 h.6 e;
    must = λ z t. absurd (false≢true t);
    risen = λ z t e. outer_risen h.0 h.4 z h.1 a b h.5 h.6 e;
    said = h.8;
    again = λ safe d' τ le l Q q.
        (h.0, h.1, h.2, h.3, h.4, h.5, h.6, (λ j v. formula_carried w globals n f env safe.0 d d' σ τ le l s _ _ _ (h.7 j v)), q, h.9);
  }

  abbrev pub closed_lens : (Safe : Type 0) → HasLens n Safe (sinks Closed) (forced Closed) (rises Closed) (λ P d σ s a b S. P d σ s a a S)
  closed_lens Safe P d σ s a b S le h = record {
    cuts = λ k. k;
    back = λ k. k;
    undo = λ j. refl;
    from = a;
    to = a;
    shows = S;
    start = refl;
    order = omega arith;
    sunk = λ z t e. absurd (false≢true t);
    must = λ z t. closed_ends (forced Closed) (λ x. false≢true x) z a t;
    risen = λ z t e. absurd (false≢true t);
    said = h;
    again = λ safe d' τ le l Q q. q;
  }

  abbrev pub inner_lens : (f : FormulaTree) (env : Bindings) (O : Claim) → HasLens n (HolderBelow n (Running f env) × Carried w globals n O) (sinks (Running f env)) (forced (Running f env)) (rises (Running f env)) (λ P. RunningSays w globals f env P O)
  inner_lens f env O P d σ s a b S le h = record {
    cuts = λ k. k;
    back = λ k. k;
    undo = λ j. refl;
    from = h.0 0;
    to = h.0 1;
    shows = h.3 0;
    start = h.5;
    order = let q = h.4 0 in omega (arith, q);
    sunk = λ z t e. inner_sunk h.0 h.4 (sinks (Running f env)) (λ x. false≢true x) z h.1 a b h.5 h.6 t e;
    must = λ z t. absurd (false≢true t);
    risen = λ z t e. inner_risen h.0 h.4 (rises (Running f env)) (λ x. false≢true x) z h.1 a b h.5 h.6 t e;
    said = h.7;
    again = λ safe d' τ le l Q q.
        running_again w globals n f env P Q O O safe.0 d d' σ τ le l s a b S h q (safe.1 d d' (locals_at_cuts h.0 σ) (locals_at_cuts h.0 τ) le (like_at_cuts n h.0 σ τ l) (at_cuts h.0 s) _ _ h.2 h.9);
  }

  abbrev pub outer_lens : (f : FormulaTree) (env : Bindings) (I : Claim) → HasLens n (HolderBelow n (Running f env) × Carried w globals n I) each_side no_side each_side (λ P. RunningSays w globals f env I P)
  outer_lens f env I P d σ s a b S le h = record {
    cuts = h.0;
    back = number_at h.0;
    undo = number_undoes h.0 h.4;
    from = 0;
    to = suc h.1;
    shows = h.2;
    start = h.5;
    order = omega arith;
    sunk = λ z t e. outer_sunk h.0 h.4 z (suc h.1) a b h.5 h.6 e;
    must = λ z t. absurd (false≢true t);
    risen = λ z t e. outer_risen h.0 h.4 z (suc h.1) a b h.5 h.6 e;
    said = h.9;
    again = λ safe d' τ le l Q q. running_again w globals n f env I I P Q safe.0 d d' σ τ le l s a b S h (safe.1 d d' σ τ le l s _ _ _ h.7) q;
  }

  -- of the first region of each holder
  abbrev pub first_lens : (k : Holder) (O : Claim) → HasLens n (HolderBelow n k × IfSecond k (Carried w globals n O)) (sinks k) (forced k) (rises k) (λ P. HolderSays w globals k P O)
  first_lens (Split f env) O = split_lens _ _ _ (λ x. false≢true x) (λ z x. false≢true x) (λ x. false≢true x) _ _ (λ safe. formula_carried w globals n f env safe.0)
  first_lens (SplitProject f env) O = split_lens _ _ _ (λ x. false≢true x) (λ z x. false≢true x) (λ x. false≢true x) _ _ (λ safe. opened_carried w globals n f env O safe.0 safe.1)
  first_lens Closed O = closed_lens _
  first_lens (Opened f env) O = opened_lens f env _
  first_lens (Running f env) O = inner_lens f env O

  -- of the second region, where that is live
  pub second_lens : (k : Holder) (I : Claim) → second_lives k ≡ true → HasLens n (HolderBelow n k × Carried w globals n I) each_side no_side each_side (λ P. HolderSays w globals k I P)
  second_lens (Running f env) I e = outer_lens f env I
  second_lens k I e = absurd (false≢true e)
