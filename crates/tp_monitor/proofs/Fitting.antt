-- The wider formula that a phrase is fits the variables that it was read with.
use Rattle.std.proofs.Common.{subst, ◌≡◌, ℕ, Bool, ◌⊎◌, inl, inr, ◌||◌, ◌&&◌, List, [], Option, Some, None, IfSome, IfOk, Result, Ok, Err}
use Rattle.std.proofs.lemmas.Result.{IfOk-at_ok}
use Rattle.tp_tree.specs.declared.operator.Op.TheVariants as op
use Rattle.tp_tree.specs.declared.operator.Form.TheVariants as f
use Rattle.tp_tree.specs.Tree as k
use Rattle.tp_tree.specs.Tree.{PhraseTree, phrase, KindTree, PhraseTrees, no_phrase, phrase_then}
use Rattle.tp_meaning.specs.Syntax as m
use Rattle.tp_meaning.specs.Syntax.{ExprTree, FormulaTree, FormulaTrees, trivial, test, equation, next_equation, empty, more, next, weak_next, if_more, if_empty, always, conjunction, branch, len, assign, chop, while, for_from, forall_from, project, exists, call, input, display, no_formula, formula_then}
use Rattle.tp_meaning.specs.Value.{◌>>=◌}
use Rattle.tp_meaning.specs.Interval.{kinds_of}
use Rattle.tp_meaning.specs.Fits.{ExprFits, FormulaFits, FormulasFit}
use Rattle.tp_scope.specs.Scope.{Names, VisibleNames}
use Rattle.tp_scope.specs.Phrases.{is_place_phrase}
use Rattle.tp_check.specs.Outcome.{CheckOutcome}
use Rattle.tp_check.specs.Answers.{AnswersCheck}
use Rattle.tp_check.specs.declared.refusal.CheckRefusal.{CheckRefusal}
use Rattle.tp_check.specs.Program.{outermost}
use Rattle.tp_check.specs.Positions.{expr_of, formula_of_kind, is_state_in}
use Rattle.tp_check.proofs.Fitting.{Known, mapped_ok, both_ok, three_ok, if_ok, expr_fits, formula_kind_fits}
use Rattle.tp_verdict.specs.Wide as wide
use Rattle.tp_verdict.specs.Wide.{WideTree, WideTrees, IsExprOf, IsExprOfSome, wide_formulas_of}
use Rattle.tp_verdict.specs.Widened.{widened, all_widened}
use Rattle.tp_verdict.specs.Trace.{WideFits}
use Rattle.tp_verdict.specs.Read.{wide_tree}
use Rattle.tp_monitor.specs.declared.wide.Wide.{Wide}
use Rattle.tp_monitor.specs.Seen.{wide_seen}
use Rattle.tp_monitor.specs.WideOf.{NamedWide, wide_or_not, as_wide, run_widely, repeated_until, wide_of, wide_of_kind, wide_in, wide_over}

one_of_two : {A B C : Type 0} → (A → C) → (B → C) → A ⊎ B → C
one_of_two g h (inl a) = g a
one_of_two g h (inr b) = h b

-- what goes on with what fits
goes_on : {A B : Type 0} (o : Option A) (g : A → Option B) (P : A → Type 0) (Q : B → Type 0) → IfSome o P → ((a : A) → P a → IfSome (g a) Q) → IfSome (o >>= g) Q
goes_on None g P Q p h = tt
goes_on (Some a) g P Q p h = h a p

module _ (kinds : List Bool) where
  abbrev Fit : ExprTree → Type 0
  Fit e = ExprFits [] kinds e 0

  abbrev AllFit : WideTrees → Type 0
  AllFit ws = (e : ExprTree) → IsExprOfSome ws e → Fit e

  is_fit : (x e : ExprTree) → Fit x → x ≡ e → Fit e
  is_fit x e h same = subst Fit same h

  two_fit : (x y e : ExprTree) → Fit x → Fit y → (x ≡ e) ⊎ (y ≡ e) → Fit e
  two_fit x y e h t = one_of_two (is_fit x e h) (is_fit y e t)

  choice_fits : (x : ExprTree) (w v : WideTree) → Fit x → WideFits kinds w → WideFits kinds v → WideFits kinds (wide.branch x w v)
  choice_fits x w v h g t e = one_of_two (is_fit x e h) (one_of_two (g e) (t e))

  loop_fits : (x : ExprTree) (w : WideTree) → Fit x → WideFits kinds w → WideFits kinds (wide.while x w)
  loop_fits x w h g e = one_of_two (is_fit x e h) (g e)

  parts_fit : (w v : WideTree) → WideFits kinds w → WideFits kinds v → WideFits kinds (wide.chop w v)
  parts_fit w v h t e = one_of_two (h e) (t e)

  -- ---- of formulas that can be run

  mutual
    widened_fits : (g : FormulaTree) → FormulaFits [] kinds g 0 → IfSome (widened g) (WideFits kinds)
    widened_fits trivial h = λ e is. absurd is
    widened_fits (test x) h = λ e is. is_fit x e h is
    widened_fits (equation l r) h = λ e is. two_fit l r e h.0 h.1 is
    widened_fits (next_equation n t x) h = λ e is. two_fit t x e h.0 h.1 is
    widened_fits empty h = λ e is. absurd is
    widened_fits more h = λ e is. absurd is
    widened_fits (next g) h = goes_on (widened g) _ (WideFits kinds) (WideFits kinds) (widened_fits g h) (λ w t. t)
    widened_fits (weak_next g) h = tt
    widened_fits (if_more g) h = goes_on (widened g) _ (WideFits kinds) (WideFits kinds) (widened_fits g h) (λ w t. t)
    widened_fits (if_empty g) h = goes_on (widened g) _ (WideFits kinds) (WideFits kinds) (widened_fits g h) (λ w t. t)
    widened_fits (always g) h = goes_on (widened g) _ (WideFits kinds) (WideFits kinds) (widened_fits g h) (λ w t. t)
    widened_fits (conjunction gs) h = goes_on (all_widened gs) _ AllFit (WideFits kinds) (all_widened_fit gs h) (λ ws t. t)
    widened_fits (branch x g i) h =
        goes_on (widened g) _ (WideFits kinds) (WideFits kinds) (widened_fits g h.1)
        (λ w a. goes_on (widened i) _ (WideFits kinds) (WideFits kinds) (widened_fits i h.2) (λ v b. choice_fits x w v h.0 a b))
    widened_fits (len x) h = λ e is. is_fit x e h is
    widened_fits (assign t x) h = λ e is. two_fit t x e h.0 h.1 is
    widened_fits (chop g i) h =
        goes_on (widened g) _ (WideFits kinds) (WideFits kinds) (widened_fits g h.0)
        (λ w a. goes_on (widened i) _ (WideFits kinds) (WideFits kinds) (widened_fits i h.1) (λ v b. parts_fit w v a b))
    widened_fits (while x g) h = goes_on (widened g) _ (WideFits kinds) (WideFits kinds) (widened_fits g h.1) (λ w a. loop_fits x w h.0 a)
    widened_fits (for_from name n x g) h = tt
    widened_fits (forall_from name n x g) h = tt
    widened_fits (project g i) h = tt
    widened_fits (exists name lasting g) h = tt
    widened_fits (call p es) h = tt
    widened_fits (input x port) h = tt
    widened_fits (display es) h = tt

    all_widened_fit : (gs : FormulaTrees) → FormulasFit [] kinds gs 0 → IfSome (all_widened gs) AllFit
    all_widened_fit no_formula h = λ e is. absurd is
    all_widened_fit (formula_then g gs) h =
        goes_on (widened g) _ (WideFits kinds) AllFit (widened_fits g h.0)
        (λ w a. goes_on (all_widened gs) _ AllFit AllFit (all_widened_fit gs h.1) (λ ws b. λ e. one_of_two (a e) (b e)))

  or_not_fits : (at : ℕ) (o : Option WideTree) → IfSome o (WideFits kinds) → IfOk (wide_or_not at o) (WideFits kinds)
  or_not_fits at (Some w) h = h
  or_not_fits at None h = tt

  as_wide_fits : (at : ℕ) (o : CheckOutcome FormulaTree) → IfOk o (λ g. FormulaFits [] kinds g 0) → IfOk (as_wide at o) (WideFits kinds)
  as_wide_fits at (Ok g) h = or_not_fits at (widened g) (widened_fits g h)
  as_wide_fits at (Err e) h = tt

-- ---- of phrases

module _ (globals : Names) where
  -- outside of all binders, with no definitions
  abbrev here : VisibleNames
  here = outermost [] globals

  known : Known [] here
  known x c e = absurd cc

  abbrev Good : WideTree → Type 0
  Good w = WideFits (kinds_of globals) w

  abbrev AllGood : List WideTree → Type 0
  AllGood ws = AllFit (kinds_of globals) (wide_formulas_of ws)

  abbrev GoodExpr : ExprTree → Type 0
  GoodExpr e = Fit (kinds_of globals) e

  run_fits : (at : ℕ) (kind : KindTree) → IfOk (run_widely here at kind) Good
  run_fits at kind = as_wide_fits (kinds_of globals) at (formula_of_kind here at kind) (formula_kind_fits [] here known at kind)

  condition_fits : (p : PhraseTree) → IfOk (expr_of here p) GoodExpr
  condition_fits p = expr_fits [] here known p

  mutual
    phrase_fits : (p : PhraseTree) → IfOk (wide_of here p) Good
    phrase_fits (phrase at kind) = kind_fits at kind

    kind_fits : (at : ℕ) (kind : KindTree) → IfOk (wide_of_kind here at kind) Good
    kind_fits at (k.conjunction ps) = mapped_ok _ (wide_in here ps) AllGood Good (phrases_fit ps) (λ ws h. h)
    kind_fits at (k.negation p) =
        if_ok (is_place_phrase p || is_state_in here p) _ _ Good (λ is. run_fits at (k.negation p)) (mapped_ok _ (wide_of here p) Good Good (phrase_fits p) (λ w h. h))
    kind_fits at (k.binary op.Or l r) =
        if_ok (is_state_in here l && is_state_in here r) _ _ Good (λ is. run_fits at (k.binary op.Or l r))
        (both_ok _ (wide_of here l) (wide_of here r) Good Good Good (phrase_fits l) (phrase_fits r) (λ w v a b. parts_fit (kinds_of globals) w v a b))
    kind_fits at (k.binary op.Chop l r) = both_ok _ (wide_of here l) (wide_of here r) Good Good Good (phrase_fits l) (phrase_fits r) (λ w v a b. parts_fit (kinds_of globals) w v a b)
    kind_fits at (k.binary op.Proj l r) = tt
    kind_fits at (k.binary op.Equal l r) = run_fits at (k.binary op.Equal l r)
    kind_fits at (k.binary op.Differs l r) = run_fits at (k.binary op.Differs l r)
    kind_fits at (k.binary op.Less l r) = run_fits at (k.binary op.Less l r)
    kind_fits at (k.binary op.LessEqual l r) = run_fits at (k.binary op.LessEqual l r)
    kind_fits at (k.binary op.Greater l r) = run_fits at (k.binary op.Greater l r)
    kind_fits at (k.binary op.GreaterEqual l r) = run_fits at (k.binary op.GreaterEqual l r)
    kind_fits at (k.binary op.Gets l r) = run_fits at (k.binary op.Gets l r)
    kind_fits at (k.binary op.Arrow l r) = run_fits at (k.binary op.Arrow l r)
    kind_fits at (k.binary op.Becomes l r) = run_fits at (k.binary op.Becomes l r)
    kind_fits at (k.binary op.Plus l r) = run_fits at (k.binary op.Plus l r)
    kind_fits at (k.binary op.Minus l r) = run_fits at (k.binary op.Minus l r)
    kind_fits at (k.binary op.Times l r) = run_fits at (k.binary op.Times l r)
    kind_fits at (k.binary op.Div l r) = run_fits at (k.binary op.Div l r)
    kind_fits at (k.binary op.Mod l r) = run_fits at (k.binary op.Mod l r)
    kind_fits at (k.next p) = mapped_ok _ (wide_of here p) Good Good (phrase_fits p) (λ w h. h)
    kind_fits at (k.form f.Always (phrase_then p no_phrase)) = mapped_ok _ (wide_of here p) Good Good (phrase_fits p) (λ w h. h)
    kind_fits at (k.form f.Sometimes (phrase_then p no_phrase)) = mapped_ok _ (wide_of here p) Good Good (phrase_fits p) (λ w h. h)
    kind_fits at (k.form f.Keep (phrase_then p no_phrase)) = mapped_ok _ (wide_of here p) Good Good (phrase_fits p) (λ w h. h)
    kind_fits at (k.form f.Fin (phrase_then p no_phrase)) = mapped_ok _ (wide_of here p) Good Good (phrase_fits p) (λ w h. h)
    kind_fits at (k.form f.Input ps) = tt
    kind_fits at (k.form f.Display ps) = tt
    kind_fits at (k.form f.Always ps) = run_fits at (k.form f.Always ps)
    kind_fits at (k.form f.Sometimes ps) = run_fits at (k.form f.Sometimes ps)
    kind_fits at (k.form f.Keep ps) = run_fits at (k.form f.Keep ps)
    kind_fits at (k.form f.Fin ps) = run_fits at (k.form f.Fin ps)
    kind_fits at (k.form f.Halt ps) = run_fits at (k.form f.Halt ps)
    kind_fits at (k.form f.Stable ps) = run_fits at (k.form f.Stable ps)
    kind_fits at (k.form f.Len ps) = run_fits at (k.form f.Len ps)
    kind_fits at (k.form f.List ps) = run_fits at (k.form f.List ps)
    kind_fits at (k.choice b p) =
        both_ok _ (expr_of here b) (wide_of here p) GoodExpr Good Good (condition_fits b) (phrase_fits p) (λ x w a h. choice_fits (kinds_of globals) x w wide.trivial a h (λ e is. absurd is))
    kind_fits at (k.choice_else b p q) =
        three_ok _ (expr_of here b) (wide_of here p) (wide_of here q) GoodExpr Good Good Good (condition_fits b) (phrase_fits p) (phrase_fits q) (λ x w v a h t. choice_fits (kinds_of globals) x w v a h t)
    kind_fits at (k.while b p) = both_ok _ (expr_of here b) (wide_of here p) GoodExpr Good Good (condition_fits b) (phrase_fits p) (λ x w a h. loop_fits (kinds_of globals) x w a h)
    kind_fits at (k.repeat p b) =
        both_ok repeated_until (wide_of here p) (expr_of here b) Good GoodExpr Good (phrase_fits p) (condition_fits b)
        (λ w x h a. parts_fit (kinds_of globals) w (wide.while (m.negation x) w) h (loop_fits (kinds_of globals) (m.negation x) w a h))
    kind_fits at (k.for x e p) = tt
    kind_fits at (k.forall x e p) = tt
    kind_fits at (k.exists xs p) = tt
    kind_fits at (k.number n) = run_fits at (k.number n)
    kind_fits at (k.truth b) = run_fits at (k.truth b)
    kind_fits at (k.name x) = run_fits at (k.name x)
    kind_fits at (k.list ps) = run_fits at (k.list ps)
    kind_fits at (k.size p) = run_fits at (k.size p)
    kind_fits at (k.index p i) = run_fits at (k.index p i)
    kind_fits at (k.minus p) = run_fits at (k.minus p)
    kind_fits at (k.bare word) = run_fits at (k.bare word)
    kind_fits at (k.call x ps) = run_fits at (k.call x ps)

    phrases_fit : (ps : PhraseTrees) → IfOk (wide_in here ps) AllGood
    phrases_fit no_phrase = λ e is. absurd is
    phrases_fit (phrase_then p ps) = both_ok _ (wide_of here p) (wide_in here ps) Good AllGood AllGood (phrase_fits p) (phrases_fit ps) (λ w ws h t. λ e. one_of_two (h e) (t e))

-- the wider formula over these variables fits them
over_fits : (globals : Names) (p : PhraseTree) → IfOk (wide_over globals p) (λ (w : NamedWide). WideFits (kinds_of w.globals) w.formula)
over_fits globals p =
    mapped_ok _ (wide_of (outermost [] globals) p) (WideFits (kinds_of globals)) (λ (w : NamedWide). WideFits (kinds_of w.globals) w.formula) (phrase_fits globals p) (λ w h. h)

pub answer_fits : (globals : Names) (p : PhraseTree) (r : Result Wide CheckRefusal) → AnswersCheck wide_seen (wide_over globals p) r
    → IfOk r (λ w. WideFits (kinds_of w.globals) (wide_tree w.formula))
answer_fits globals p (Ok w) e = IfOk-at_ok (λ (n : NamedWide). WideFits (kinds_of n.globals) n.formula) e (over_fits globals p)
answer_fits globals p (Err x) e = tt
