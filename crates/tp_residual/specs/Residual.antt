-- The residual phrase of a scene with which a state begins, and the trace lines of a state.
use Rattle.std.specs.Prelude.{ℕ, List, [], ◌++◌, map, Option, Some, None, codes}
use Rattle.std.specs.Option.{option_map}
use Rattle.std.specs.Fmt.{decimal}
use Rattle.tp_tree.specs.declared.operator.Op.TheVariants as op
use Rattle.tp_tree.specs.Tree.{KindTree, name, PhraseTrees, no_phrase, phrase_then}
use Rattle.tp_tree.specs.Spelling.{kind_spelling}
use Rattle.tp_meaning.specs.Syntax.{Definition}
use Rattle.tp_store.specs.Known.{Variable}
use Rattle.tp_scene.specs.Scene.{Bindings, Leaf, Do, Later, Shown, Holder, Split, SplitProject, Closed, Opened, Running, Entries, none, leaf, node, Scene}
use Rattle.tp_residual.specs.Phrases.{Vocabulary, stands_for, placeless, infix_kind, all_kind, formula_kind}

-- `variables` are those of a store, and `definitions` the program's
module _ (variables : List Variable) (definitions : List Definition) where
  -- by what a formula's names are spelled where its bound names stand for these
  abbrev pub words_with : Bindings → Vocabulary
  words_with env =
      record { variables = variables; definitions = definitions; bound = map stands_for env }

  -- Entries as phrases. Those of such a scene have no other kinds than `Do` and the two of `Split`:
  -- left ; after, and left ; piece proj outer.
  abbrev pub due_kind : Leaf → KindTree
  due_kind (Do w env) = formula_kind (words_with env) w
  due_kind (Later w env) = name []
  due_kind (Shown vs) = name []

  abbrev pub split_kind : Holder → (left outer : KindTree) → KindTree
  split_kind (Split w env) left outer = infix_kind op.Chop left (formula_kind (words_with env) w)
  split_kind (SplitProject w env) left outer =
      infix_kind op.Chop left (infix_kind op.Proj (formula_kind (words_with env) w) outer)
  split_kind Closed left outer = name []
  split_kind (Opened w env) left outer = name []
  split_kind (Running w env) left outer = name []

  abbrev pub entries_phrases : Entries → PhraseTrees
  entries_phrases none = no_phrase
  entries_phrases (leaf id l rest) = phrase_then (placeless (due_kind l)) (entries_phrases rest)
  entries_phrases (node id k h held g second rest) =
      phrase_then (placeless
      (split_kind k (all_kind (entries_phrases held)) (all_kind (entries_phrases second))))
      (entries_phrases rest)

  -- The residual phrase: what is still to hold from the next state on.
  abbrev pub residual_phrase : Scene → List ℕ
  residual_phrase s = kind_spelling (all_kind (entries_phrases s.root.entries))

  -- where there is a next state
  abbrev pub residual_of : Option Scene → Option (List ℕ)
  residual_of carried = option_map residual_phrase carried

-- the lines of a state, as reductions 8 and residual: len(2)
abbrev pub reductions_line : ℕ → List ℕ
reductions_line n = codes "reductions " ++ decimal n ++ codes "\n"

abbrev pub residual_line : List ℕ → List ℕ
residual_line phrase = codes "residual: " ++ phrase ++ codes "\n"

-- how many reductions a state took, and the residual phrase where the run goes on
abbrev pub trace_lines : (reductions : ℕ) → (residual : Option (List ℕ)) → List ℕ
trace_lines n None = reductions_line n
trace_lines n (Some phrase) = reductions_line n ++ residual_line phrase
