-- Phrases, definitions and sources as plain trees.
use Rattle.std.specs.Prelude.{ℕ, ℤ, Bool, List, [], ◌∷◌}
use Rattle.tp_tree.specs.declared.operator.Op.{Op}
use Rattle.tp_tree.specs.declared.operator.Bare.{Bare}
use Rattle.tp_tree.specs.declared.operator.Form.{Form}

mutual
  -- a phrase: the place of its first byte, and what it is
  pub data PhraseTree : Type 0 where
    phrase : (at : ℕ) → (kind : KindTree) → PhraseTree

  pub data KindTree : Type 0 where
    number : ℤ → KindTree
    truth : Bool → KindTree
    name : List ℕ → KindTree
    list : PhraseTrees → KindTree
    size : PhraseTree → KindTree
    index : (whole at : PhraseTree) → KindTree
    minus : PhraseTree → KindTree
    next : PhraseTree → KindTree
    negation : PhraseTree → KindTree
    binary : Op → (left right : PhraseTree) → KindTree
    conjunction : PhraseTrees → KindTree
    choice : (condition first : PhraseTree) → KindTree
    choice_else : (condition first second : PhraseTree) → KindTree
    while : (condition body : PhraseTree) → KindTree
    repeat : (body condition : PhraseTree) → KindTree
    for : List ℕ → (bound body : PhraseTree) → KindTree
    forall : List ℕ → (bound body : PhraseTree) → KindTree
    exists : List (List ℕ) → PhraseTree → KindTree
    bare : Bare → KindTree
    form : Form → PhraseTrees → KindTree
    call : List ℕ → PhraseTrees → KindTree

  pub data PhraseTrees : Type 0 where
    no_phrase : PhraseTrees
    phrase_then : PhraseTree → PhraseTrees → PhraseTrees

-- phrases in order
abbrev pub phrases_of : List PhraseTree → PhraseTrees
phrases_of [] = no_phrase
phrases_of (p ∷ ps) = phrase_then p (phrases_of ps)

-- a definition: its name, the place of its first byte, its parameters' names and its body
pub record DefinitionTree : Type 0 where
  pub name : List ℕ
  pub at : ℕ
  pub parameters : List (List ℕ)
  pub body : PhraseTree

-- a source: its definitions in the order of the text, and the phrase after `run`
pub record SourceTree : Type 0 where
  pub definitions : List DefinitionTree
  pub main : PhraseTree
