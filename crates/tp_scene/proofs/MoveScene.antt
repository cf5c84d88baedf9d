-- A scene says the same of a part of a course where that part is moved to.
use Rattle.std.proofs.Common.{◌≡◌, ℕ, suc, ◌≤◌, [], ◌∷◌, nat_lt, refl, ap, ◌∙◌, subst, arith, if◌then◌else◌}
use Rattle.tp_value.specs.Shape.{item_at}
use Rattle.tp_meaning.specs.Syntax.{FormulaTree, BindingTree, place_binding, known_binding}
use Rattle.tp_meaning.specs.Course.{Course, Shows}
use Rattle.tp_meaning.specs.Bindings.{Locals, meaning_of, meanings_of}
use Rattle.tp_meaning.specs.Holds.{Context, Holds}
use Rattle.tp_meaning.specs.Moving.{MeaningMoved, EnvMoved, CourseMoved}
use Rattle.tp_meaning.proofs.Move.{Move, stay, at_le, at_less, cut_low, cut_within, projected_moved, holds_moved}
use Rattle.tp_scene.specs.Scene.{Bindings, Side, Ending, Going, Head, Leaf, Do, Later, Shown, Holder, Split, SplitProject, Closed, Opened, Running, Entries, none, leaf, node}
use Rattle.tp_scene.specs.Says.{at_cuts, locals_at_cuts, IsSo, Claim, LeafSays, OpenedSays, RunningSays, SplitSays, HolderSays, Says, RegionSays}
use Rattle.tp_scene.proofs.Frame.{region}

abbrev pub LocalsMoved : (ℕ → ℕ) → ℕ → ℕ → Locals → Locals → Type 0
LocalsMoved f a b σ τ = (y j : ℕ) → a ≤ j → j ≤ b → τ y (f j) ≡ σ y j

meaning_moved : (globals : ℕ) (f : ℕ → ℕ) (a b : ℕ) (s t : Course) (σ τ : Locals) → CourseMoved f a b s t → LocalsMoved f a b σ τ → (x : BindingTree) → MeaningMoved f a b (meaning_of globals s σ x) (meaning_of globals t τ x)
meaning_moved globals f a b s t σ τ c l (place_binding p) = λ j u v i. item_at p.at (if nat_lt p.var.number globals then (c j u v i).values p.var.number else l p.var.number j u v i)
meaning_moved globals f a b s t σ τ c l (known_binding x) = refl

pub meanings_moved : (globals : ℕ) (f : ℕ → ℕ) (a b : ℕ) (s t : Course) (σ τ : Locals) → CourseMoved f a b s t → LocalsMoved f a b σ τ → (env : Bindings) → EnvMoved f a b (meanings_of globals s σ env) (meanings_of globals t τ env)
meanings_moved globals f a b s t σ τ c l [] = tt
meanings_moved globals f a b s t σ τ c l (x ∷ env) = (meaning_moved globals f a b s t σ τ c l x, meanings_moved globals f a b s t σ τ c l env)

module _ (w : Context) (globals : ℕ) where
  abbrev pub ClaimMoved : Claim → Type 0
  ClaimMoved P = (M : Move) (d : ℕ) (σ τ : Locals) (s t : Course) (a b : ℕ) (S : Shows) → M.low ≤ a → a ≤ b → LocalsMoved M.at a b σ τ → CourseMoved M.at a b s t → P d σ s a b S → P d τ t (M.at a) (M.at b) (M.push S)

  pub do_moved : (f : FormulaTree) (env : Bindings) → ClaimMoved (λ d σ s a b S. Holds w d f (meanings_of globals s σ env) s a b S)
  do_moved f env M d σ τ s t a b S lo le l c z = holds_moved w d f M (meanings_of globals s σ env) (meanings_of globals t τ env) s t a b S lo le (meanings_moved globals M.at a b s t σ τ c l env) c z

  later_moved : (f : FormulaTree) (env : Bindings) → ClaimMoved (LeafSays w globals (Later f env))
  later_moved f env M d σ τ s t a b S lo le l c z = let o = z.0 in (
    at_less M a b lo o,
    subst (λ (k : ℕ). Holds w d f (meanings_of globals t τ env) t k (M.at b) (M.push S)) (M.step a lo)
        (do_moved f env M d σ τ s t (suc a) b S (omega arith) o (λ y j u v. l y j (omega arith) v) (λ j u v. c j (omega arith) v) z.1),
  )

  leaf_moved : (x : Leaf) → ClaimMoved (LeafSays w globals x)
  leaf_moved (Do f env) = do_moved f env
  leaf_moved (Later f env) = later_moved f env
  leaf_moved (Shown vs) = λ M d σ τ s t a b S lo le l c z. ap M.push z ∙ M.push_at a lo (vs ∷ [])

  pub opened_moved : (f : FormulaTree) (env : Bindings) (O : Claim) → ClaimMoved O → ClaimMoved (OpenedSays w globals f env O)
  opened_moved f env O mo M d σ τ s t a b S lo le l c z = projected_moved M a b lo (Holds w d f (meanings_of globals s σ env) s) (Holds w d f (meanings_of globals t τ env) t)
      (λ cuts. O d (locals_at_cuts cuts σ) (at_cuts cuts s)) (λ cuts. O d (locals_at_cuts cuts τ) (at_cuts cuts t))
      (λ i j T u o v q. do_moved f env M d σ τ s t i j T (omega (arith, lo, u)) o (λ y k m n. l y k (omega (arith, m, u)) (omega (arith, n, v))) (λ k m n. c k (omega (arith, m, u)) (omega (arith, n, v))) q)
      (λ cuts m V within q. mo stay d (locals_at_cuts cuts σ) (locals_at_cuts (λ j. M.at (cuts j)) τ) (at_cuts cuts s) (at_cuts (λ j. M.at (cuts j)) t) 0 m V (omega arith) (omega arith)
      (λ y j u v. l y (cuts j) (within j u v).0 (within j u v).1) (λ j u v. c (cuts j) (within j u v).0 (within j u v).1) q)
      S z

  running_moved : (f : FormulaTree) (env : Bindings) (I O : Claim) → ClaimMoved I → ClaimMoved O → ClaimMoved (RunningSays w globals f env I O)
  running_moved f env I O mi mo M d σ τ s t a b S lo le l c z =
      let within = cut_within z.0 z.4 0 (suc z.1) a b z.5 z.6 in
      -- what is moved besides the pieces
      let whole = projected_moved M a b lo (λ i j T. Unit {0}) (λ i j T. Unit {0})
      (λ cuts. O d (locals_at_cuts cuts σ) (at_cuts cuts s)) (λ cuts. O d (locals_at_cuts cuts τ) (at_cuts cuts t))
      (λ i j T u o v q. tt)
      (λ cuts m V in_it q. mo stay d (locals_at_cuts cuts σ) (locals_at_cuts (λ j. M.at (cuts j)) τ) (at_cuts cuts s) (at_cuts (λ j. M.at (cuts j)) t) 0 m V (omega arith) (omega arith)
      (λ y j u v. l y (cuts j) (in_it j u v).0 (in_it j u v).1) (λ j u v. c (cuts j) (in_it j u v).0 (in_it j u v).1) q)
      S (z.0, suc z.1, z.2, z.3, z.4, z.5, z.6, (λ j v. tt), z.9, z.10) in (
        whole.0,
        z.1,
        whole.2,
        whole.3,
        whole.4,
        whole.5,
        whole.6,
        (let p = (within 0 (omega arith) (omega arith)).0 in let q = (within 1 (omega arith) (omega arith)).1 in let r = z.4 0 in
            mi M d σ τ s t (z.0 0) (z.0 1) (z.3 0) (cut_low M z.0 z.4 a z.5 lo 0) (omega (arith, r)) (λ y i m n. l y i (omega (arith, m, p)) (omega (arith, n, q))) (λ i m n. c i (omega (arith, m, p)) (omega (arith, n, q))) z.7),
        (λ j u v. let p = (within j (omega arith) (omega arith)).0 in let q = (within (suc j) (omega arith) v).1 in let r = z.4 j in
            do_moved f env M d σ τ s t (z.0 j) (z.0 (suc j)) (z.3 j) (cut_low M z.0 z.4 a z.5 lo j) (omega (arith, r)) (λ y i m n. l y i (omega (arith, m, p)) (omega (arith, n, q))) (λ i m n. c i (omega (arith, m, p)) (omega (arith, n, q))) (z.8 j u v)),
        whole.8,
        whole.9,
      )

  split_moved : (I A : Claim) → ClaimMoved I → ClaimMoved A → ClaimMoved (SplitSays w globals I A)
  split_moved I A mi ma M d σ τ s t a b S lo le l c z = let u = z.3 in let v = z.4 in (
    M.at z.0,
    M.push z.1,
    M.push z.2,
    at_le M a z.0 lo u,
    at_le M z.0 b (omega (arith, lo, u)) v,
    mi M d σ τ s t a z.0 z.1 lo u (λ y j p q. l y j p (omega (arith, q, v))) (λ j p q. c j p (omega (arith, q, v))) z.5,
    ma M d σ τ s t z.0 b z.2 (omega (arith, lo, u)) v (λ y j p q. l y j (omega (arith, p, u)) q) (λ j p q. c j (omega (arith, p, u)) q) z.6,
    ap M.push z.7 ∙ M.push_join z.1 z.2,
  )

  closed_moved : (I O : Claim) → ClaimMoved I → ClaimMoved (HolderSays w globals Closed I O)
  closed_moved I O mi M d σ τ s t a b S lo le l c z = mi M d σ τ s t a a S lo (omega arith) (λ y j p q. l y j p (omega arith)) (λ j p q. c j p (omega arith)) z

  holder_moved : (k : Holder) (I O : Claim) → ClaimMoved I → ClaimMoved O → ClaimMoved (HolderSays w globals k I O)
  holder_moved (Split f env) I O mi mo = split_moved I _ mi (do_moved f env)
  holder_moved (SplitProject f env) I O mi mo = split_moved I _ mi (opened_moved f env O mo)
  holder_moved Closed I O mi mo = closed_moved I O mi
  holder_moved (Opened f env) I O mi mo = opened_moved f env I mi
  holder_moved (Running f env) I O mi mo = running_moved f env I O mi mo

  so_moved : (M : Move) (z : Side) (a b : ℕ) → M.low ≤ a → IsSo z a b → IsSo z (M.at a) (M.at b)
  so_moved M Ending a b lo e = ap M.at e
  so_moved M Going a b lo e = at_less M a b lo e

  pub says_moved : (es : Entries) → ClaimMoved (Says w globals es)
  says_moved none M d σ τ s t a b S lo le l c z = ap M.push z ∙ M.push_blank
  says_moved (leaf id x rest) M d σ τ s t a b S lo le l c z =
      (M.push z.0, M.push z.1, leaf_moved x M d σ τ s t a b z.0 lo le l c z.2, says_moved rest M d σ τ s t a b z.1 lo le l c z.3, ap M.push z.4 ∙ M.push_join z.0 z.1)
  says_moved (node id k h held g second rest) M d σ τ s t a b S lo le l c z = (
    M.push z.0,
    M.push z.1,
    holder_moved k (RegionSays w globals (region h held)) (RegionSays w globals (region g second))
        (λ M d σ τ s t a b S lo le l c q. ((λ x y. so_moved M x a b lo (q.0 x y)), says_moved held M d σ τ s t a b S lo le l c q.1))
        (λ M d σ τ s t a b S lo le l c q. ((λ x y. so_moved M x a b lo (q.0 x y)), says_moved second M d σ τ s t a b S lo le l c q.1))
        M d σ τ s t a b z.0 lo le l c z.2,
    says_moved rest M d σ τ s t a b z.1 lo le l c z.3,
    ap M.push z.4 ∙ M.push_join z.0 z.1,
  )

  pub region_moved : (h : Head) (es : Entries) → ClaimMoved (RegionSays w globals (region h es))
  region_moved h es M d σ τ s t a b S lo le l c q = ((λ x y. so_moved M x a b lo (q.0 x y)), says_moved es M d σ τ s t a b S lo le l c q.1)
