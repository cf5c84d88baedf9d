-- The wider formula that a source is.
use Rattle.std.specs.Prelude.{ℕ, ◌||◌, ◌&&◌, List, [], ◌∷◌, if◌then◌else◌, Option, Some, None, Ok, Err}
use Rattle.tp_tree.specs.declared.operator.Op.TheVariants as op
use Rattle.tp_tree.specs.declared.operator.Form.TheVariants as f
use Rattle.tp_tree.specs.Tree.{PhraseTree, phrase, KindTree, PhraseTrees, no_phrase, phrase_then, DefinitionTree, SourceTree}
use Rattle.tp_tree.specs.Tree as k
use Rattle.tp_meaning.specs.Syntax as m
use Rattle.tp_meaning.specs.Syntax.{ExprTree, FormulaTree}
use Rattle.tp_scope.specs.Scope.{Names, VisibleNames}
use Rattle.tp_scope.specs.Names.{names_of}
use Rattle.tp_scope.specs.Phrases.{is_place_phrase}
use Rattle.tp_check.specs.declared.refusal.CheckRefusal.TheVariants.{NotExecutable}
use Rattle.tp_check.specs.Outcome.{CheckOutcome, not_run, mapped, both, three}
use Rattle.tp_check.specs.Program.{outermost}
use Rattle.tp_check.specs.Positions.{refusal_of, expr_of, formula_of_kind, is_state_in}
use Rattle.tp_verdict.specs.Wide.{WideTree, trivial, next, if_more, if_empty, always, conjunction, branch, chop, while, disjunction, negation, sometimes, wide_formulas_of}
use Rattle.tp_verdict.specs.Widened.{widened}

-- a formula that can be run, from the phrase at this place, as a wider one; some are none
abbrev pub wide_or_not : (at : ℕ) → Option WideTree → CheckOutcome WideTree
wide_or_not at (Some w) = Ok w
wide_or_not at None = not_run at

abbrev pub as_wide : (at : ℕ) → CheckOutcome FormulaTree → CheckOutcome WideTree
as_wide at (Ok g) = wide_or_not at (widened g)
as_wide at (Err e) = Err e

-- the formula that the phrase is where it is run, as a wider one
abbrev pub run_widely : VisibleNames → (at : ℕ) → KindTree → CheckOutcome WideTree
run_widely names at kind = as_wide at (formula_of_kind names at kind)

-- repeat w until b
abbrev pub repeated_until : WideTree → ExprTree → WideTree
repeated_until w b = chop w (while (m.negation b) w)

-- A phrase as a wider formula, where these names can be read. One whose parts are formulas is made
-- of wider formulas; any other is the formula that it is where it is run. `proj`, `for`, `forall`,
-- `exists`, `input` and `display` are no wider formulas.
abbrev mutual
  pub wide_of : VisibleNames → PhraseTree → CheckOutcome WideTree
  wide_of names (phrase at kind) = wide_of_kind names at kind

  pub wide_of_kind : VisibleNames → (at : ℕ) → KindTree → CheckOutcome WideTree
  wide_of_kind names at (k.conjunction ps) =
      mapped (λ ws. conjunction (wide_formulas_of ws)) (wide_in names ps)
  wide_of_kind names at (k.negation p) =
      if is_place_phrase p || is_state_in names p then run_widely names at (k.negation p)
      else mapped negation (wide_of names p)
  wide_of_kind names at (k.binary op.Or l r) =
      if is_state_in names l && is_state_in names r
      then run_widely names at (k.binary op.Or l r)
      else both disjunction (wide_of names l) (wide_of names r)
  wide_of_kind names at (k.binary op.Chop l r) = both chop (wide_of names l) (wide_of names r)
  wide_of_kind names at (k.binary op.Proj l r) = not_run at
  wide_of_kind names at (k.binary op.Equal l r) = run_widely names at (k.binary op.Equal l r)
  wide_of_kind names at (k.binary op.Differs l r) = run_widely names at (k.binary op.Differs l r)
  wide_of_kind names at (k.binary op.Less l r) = run_widely names at (k.binary op.Less l r)
  wide_of_kind names at (k.binary op.LessEqual l r) =
      run_widely names at (k.binary op.LessEqual l r)
  wide_of_kind names at (k.binary op.Greater l r) = run_widely names at (k.binary op.Greater l r)
  wide_of_kind names at (k.binary op.GreaterEqual l r) =
      run_widely names at (k.binary op.GreaterEqual l r)
  wide_of_kind names at (k.binary op.Gets l r) = run_widely names at (k.binary op.Gets l r)
  wide_of_kind names at (k.binary op.Arrow l r) = run_widely names at (k.binary op.Arrow l r)
  wide_of_kind names at (k.binary op.Becomes l r) = run_widely names at (k.binary op.Becomes l r)
  wide_of_kind names at (k.binary op.Plus l r) = run_widely names at (k.binary op.Plus l r)
  wide_of_kind names at (k.binary op.Minus l r) = run_widely names at (k.binary op.Minus l r)
  wide_of_kind names at (k.binary op.Times l r) = run_widely names at (k.binary op.Times l r)
  wide_of_kind names at (k.binary op.Div l r) = run_widely names at (k.binary op.Div l r)
  wide_of_kind names at (k.binary op.Mod l r) = run_widely names at (k.binary op.Mod l r)
  wide_of_kind names at (k.next p) = mapped next (wide_of names p)
  wide_of_kind names at (k.form f.Always (phrase_then p no_phrase)) =
      mapped always (wide_of names p)
  wide_of_kind names at (k.form f.Sometimes (phrase_then p no_phrase)) =
      mapped sometimes (wide_of names p)
  wide_of_kind names at (k.form f.Keep (phrase_then p no_phrase)) =
      mapped (λ w. always (if_more w)) (wide_of names p)
  wide_of_kind names at (k.form f.Fin (phrase_then p no_phrase)) =
      mapped (λ w. always (if_empty w)) (wide_of names p)
  wide_of_kind names at (k.form f.Input ps) =
      Err (refusal_of names at (k.form f.Input ps) (NotExecutable at))
  wide_of_kind names at (k.form f.Display ps) =
      Err (refusal_of names at (k.form f.Display ps) (NotExecutable at))
  -- these four have a wrong number of operands
  wide_of_kind names at (k.form f.Always ps) = run_widely names at (k.form f.Always ps)
  wide_of_kind names at (k.form f.Sometimes ps) = run_widely names at (k.form f.Sometimes ps)
  wide_of_kind names at (k.form f.Keep ps) = run_widely names at (k.form f.Keep ps)
  wide_of_kind names at (k.form f.Fin ps) = run_widely names at (k.form f.Fin ps)
  -- and these have no formulas for operands
  wide_of_kind names at (k.form f.Halt ps) = run_widely names at (k.form f.Halt ps)
  wide_of_kind names at (k.form f.Stable ps) = run_widely names at (k.form f.Stable ps)
  wide_of_kind names at (k.form f.Len ps) = run_widely names at (k.form f.Len ps)
  wide_of_kind names at (k.form f.List ps) = run_widely names at (k.form f.List ps)
  wide_of_kind names at (k.choice b p) =
      both (λ c w. branch c w trivial) (expr_of names b) (wide_of names p)
  wide_of_kind names at (k.choice_else b p q) =
      three branch (expr_of names b) (wide_of names p) (wide_of names q)
  wide_of_kind names at (k.while b p) = both while (expr_of names b) (wide_of names p)
  wide_of_kind names at (k.repeat p b) =
      both repeated_until (wide_of names p) (expr_of names b)
  wide_of_kind names at (k.for x e p) = not_run at
  wide_of_kind names at (k.forall x e p) = not_run at
  wide_of_kind names at (k.exists xs p) = not_run at
  wide_of_kind names at (k.number n) = run_widely names at (k.number n)
  wide_of_kind names at (k.truth b) = run_widely names at (k.truth b)
  wide_of_kind names at (k.name x) = run_widely names at (k.name x)
  wide_of_kind names at (k.list ps) = run_widely names at (k.list ps)
  wide_of_kind names at (k.size p) = run_widely names at (k.size p)
  wide_of_kind names at (k.index p i) = run_widely names at (k.index p i)
  wide_of_kind names at (k.minus p) = run_widely names at (k.minus p)
  wide_of_kind names at (k.bare word) = run_widely names at (k.bare word)
  wide_of_kind names at (k.call x ps) = run_widely names at (k.call x ps)

  -- of each of the phrases
  pub wide_in : VisibleNames → PhraseTrees → CheckOutcome (List WideTree)
  wide_in names no_phrase = Ok []
  wide_in names (phrase_then p ps) = both (λ w ws. w ∷ ws) (wide_of names p) (wide_in names ps)

-- a wider formula, with the names of its variables
pub record NamedWide : Type 0 where
  pub globals : Names
  pub formula : WideTree

-- over the variables of the main phrase, where there are no definitions
abbrev pub wide_over : Names → PhraseTree → CheckOutcome NamedWide
wide_over globals main =
    mapped (λ w. record { globals = globals; formula = w }) (wide_of (outermost [] globals) main)

-- What a source is as a wider formula: it has no definition, and its first one refuses it before
-- anything else.
abbrev pub wide_of_source : SourceTree → CheckOutcome NamedWide
wide_of_source source = without (source.definitions)
  where
    without : List DefinitionTree → CheckOutcome NamedWide
    without [] = wide_over (names_of source) source.main
    without (d ∷ ds) = not_run d.at
