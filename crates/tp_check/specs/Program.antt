-- The program that a source is.
use Rattle.std.specs.Prelude.{◌≡◌, ℕ, Bool, true, false, List, [], ◌∷◌, Option, Some, None, Ok, Err}
use Rattle.tp_tree.specs.Tree.{PhraseTree, DefinitionTree, SourceTree}
use Rattle.tp_meaning.specs.Syntax.{ExprTree, FormulaTree, Definition}
use Rattle.tp_meaning.specs.Interval.{ProgramTree}
use Rattle.tp_check.specs.declared.refusal.CheckRefusal.TheVariants.{Twice}
use Rattle.tp_scope.specs.Scope.{Names, Signature, VisibleNames, with_binders}
use Rattle.tp_scope.specs.Names.{twice_defined, names_of, signatures_of, AreStates}
use Rattle.tp_check.specs.Outcome.{CheckOutcome, mapped, both}
use Rattle.tp_check.specs.Positions.{expr_of, formula_of}

-- the body as an expression, where it is that of a state definition
abbrev pub expr_where : (is_state : Bool) → VisibleNames → PhraseTree
    → CheckOutcome (Option ExprTree)
expr_where true names body = mapped Some (expr_of names body)
expr_where false names body = Ok None

-- a definition with its body as a formula and as an expression
abbrev pub definition_with : DefinitionTree → FormulaTree → Option ExprTree → Definition
definition_with d f e = record { name = d.name; parameters = d.parameters; formula = f; expr = e }

-- where these names can be read, but for the parameters
abbrev pub definition_in : VisibleNames → DefinitionTree → (is_state : Bool)
    → CheckOutcome Definition
definition_in names d is_state =
    both (definition_with d) (formula_of (with_binders d.parameters names) d.body)
    (expr_where is_state (with_binders d.parameters names) d.body)

abbrev pub definitions_in : VisibleNames → List DefinitionTree → (states : List Bool)
    → CheckOutcome (List Definition)
definitions_in names (d ∷ ds) (b ∷ bs) =
    both (λ x xs. x ∷ xs) (definition_in names d b) (definitions_in names ds bs)
definitions_in names [] bs = Ok []
definitions_in names (d ∷ ds) [] = Ok []

-- what can be read outside of all binders, with these variables
abbrev pub outermost : List Signature → Names → VisibleNames
outermost definitions globals = record { definitions = definitions; globals = globals; scope = [] }

-- The program over these variables, where `states` says of each definition whether it is a state
-- definition: first the bodies in the order of the text, then the main phrase.
abbrev pub program_over : Names → (states : List Bool) → SourceTree → CheckOutcome ProgramTree
program_over globals states source =
    let names = outermost (signatures_of source.definitions states) globals in
    both (λ ds main. record { defs = ds; main = main; globals = globals })
    (definitions_in names source.definitions states) (formula_of names source.main)

-- What becomes of a source: a name or a parameter that is defined twice refuses it before anything
-- else.
abbrev pub ChecksTo : SourceTree → CheckOutcome ProgramTree → Type 0
ChecksTo source o = by_twice (twice_defined [] source.definitions)
  where
    by_twice : Option ℕ → Type 0
    by_twice (Some at) = o ≡ Err (Twice at)
    by_twice None =
        (states : List Bool) × AreStates source.definitions states
        × (program_over (names_of source) states source ≡ o)
