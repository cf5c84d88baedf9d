-- Which phrases are states and places, how many operands a form takes, and what stands behind
-- `next`.
use Rattle.std.specs.Prelude.{ℕ, suc, ◌+◌, ◌&&◌, Bool, true, false, nat_eq, nat_lt, List, [], ◌++◌, ◌∷◌}
use Rattle.tp_value.specs.Globals.{is_lower}
use Rattle.tp_tree.specs.declared.operator.Op.{Op}
use Rattle.tp_tree.specs.declared.operator.Op.TheVariants.{Chop, Proj, Gets, Arrow, Becomes, Or, Equal, Differs, Less, LessEqual, Greater, GreaterEqual, Plus, Minus, Times, Div, Mod}
use Rattle.tp_tree.specs.declared.operator.Form.{Form}
use Rattle.tp_tree.specs.declared.operator.Form.TheVariants as f
use Rattle.tp_tree.specs.Tree.{PhraseTree, phrase, KindTree, number, truth, name, list, size, index, minus, next, negation, binary, conjunction, choice, choice_else, while, repeat, for, forall, exists, bare, form, call, PhraseTrees, no_phrase, phrase_then}

-- an operator that a state phrase may have
abbrev pub is_state_operator : Op → Bool
is_state_operator Chop = false
is_state_operator Proj = false
is_state_operator Gets = false
is_state_operator Arrow = false
is_state_operator Becomes = false
is_state_operator Or = true
is_state_operator Equal = true
is_state_operator Differs = true
is_state_operator Less = true
is_state_operator LessEqual = true
is_state_operator Greater = true
is_state_operator GreaterEqual = true
is_state_operator Plus = true
is_state_operator Minus = true
is_state_operator Times = true
is_state_operator Div = true
is_state_operator Mod = true

-- A state phrase says something of one state: it has none of `;`, `proj`, `gets`, `<-`, `:=`,
-- `next`, loops, `for`, `forall`, `exists`, bare words, forms and `if` without `else`, and calls
-- only what may be called from it.
module _ (may_call : List ℕ → Bool) where
  abbrev mutual
    pub is_state_phrase : PhraseTree → Bool
    is_state_phrase (phrase at kind) = is_state_kind kind

    pub is_state_kind : KindTree → Bool
    is_state_kind (number n) = true
    is_state_kind (truth b) = true
    is_state_kind (name x) = true
    is_state_kind (list ps) = are_state_phrases ps
    is_state_kind (size p) = is_state_phrase p
    is_state_kind (index p i) = is_state_phrase p && is_state_phrase i
    is_state_kind (minus p) = is_state_phrase p
    is_state_kind (negation p) = is_state_phrase p
    is_state_kind (binary o l r) = is_state_operator o && (is_state_phrase l && is_state_phrase r)
    is_state_kind (conjunction ps) = are_state_phrases ps
    is_state_kind (choice_else b p q) =
        is_state_phrase b && (is_state_phrase p && is_state_phrase q)
    is_state_kind (call x ps) = may_call x && are_state_phrases ps
    is_state_kind (next p) = false
    is_state_kind (choice b p) = false
    is_state_kind (while b p) = false
    is_state_kind (repeat p b) = false
    is_state_kind (for x e p) = false
    is_state_kind (forall x e p) = false
    is_state_kind (exists xs p) = false
    is_state_kind (bare w) = false
    is_state_kind (form f ps) = false

    pub are_state_phrases : PhraseTrees → Bool
    are_state_phrases no_phrase = true
    are_state_phrases (phrase_then p ps) = is_state_phrase p && are_state_phrases ps

-- the names that are called in a phrase
abbrev mutual
  pub calls_in : PhraseTree → List (List ℕ)
  calls_in (phrase at kind) = calls_in_kind kind

  pub calls_in_kind : KindTree → List (List ℕ)
  calls_in_kind (number n) = []
  calls_in_kind (truth b) = []
  calls_in_kind (name x) = []
  calls_in_kind (list ps) = calls_in_all ps
  calls_in_kind (size p) = calls_in p
  calls_in_kind (index p i) = calls_in p ++ calls_in i
  calls_in_kind (minus p) = calls_in p
  calls_in_kind (next p) = calls_in p
  calls_in_kind (negation p) = calls_in p
  calls_in_kind (binary o l r) = calls_in l ++ calls_in r
  calls_in_kind (conjunction ps) = calls_in_all ps
  calls_in_kind (choice b p) = calls_in b ++ calls_in p
  calls_in_kind (choice_else b p q) = (calls_in b ++ calls_in p) ++ calls_in q
  calls_in_kind (while b p) = calls_in b ++ calls_in p
  calls_in_kind (repeat p b) = calls_in p ++ calls_in b
  calls_in_kind (for x e p) = calls_in e ++ calls_in p
  calls_in_kind (forall x e p) = calls_in e ++ calls_in p
  calls_in_kind (exists xs p) = calls_in p
  calls_in_kind (bare w) = []
  calls_in_kind (form f ps) = calls_in_all ps
  calls_in_kind (call x ps) = x ∷ calls_in_all ps

  pub calls_in_all : PhraseTrees → List (List ℕ)
  calls_in_all no_phrase = []
  calls_in_all (phrase_then p ps) = calls_in p ++ calls_in_all ps

-- a name followed by any number of indices
abbrev mutual
  pub is_place_phrase : PhraseTree → Bool
  is_place_phrase (phrase at kind) = is_place_kind kind

  pub is_place_kind : KindTree → Bool
  is_place_kind (name x) = true
  is_place_kind (index p i) = is_place_phrase p
  is_place_kind kind = false

-- a port is a lower-case name
abbrev pub is_port_kind : KindTree → Bool
is_port_kind (name x) = is_lower x
is_port_kind kind = false

-- a form takes one operand, but `list` and `input` two, and `display` one at least
abbrev pub takes : Form → (count : ℕ) → Bool
takes f.List n = nat_eq n 2
takes f.Input n = nat_eq n 2
takes f.Display n = nat_lt 0 n
takes f.Always n = nat_eq n 1
takes f.Keep n = nat_eq n 1
takes f.Fin n = nat_eq n 1
takes f.Halt n = nat_eq n 1
takes f.Stable n = nat_eq n 1
takes f.Sometimes n = nat_eq n 1
takes f.Len n = nat_eq n 1

abbrev pub phrase_count : PhraseTrees → ℕ
phrase_count no_phrase = 0
phrase_count (phrase_then p ps) = suc (phrase_count ps)

-- how many `next` stand in front of a phrase, and the phrase behind them
abbrev mutual
  pub nexts_of : PhraseTree → ℕ
  nexts_of (phrase at kind) = nexts_of_kind kind

  pub nexts_of_kind : KindTree → ℕ
  nexts_of_kind (next p) = nexts_of p + 1
  nexts_of_kind kind = 0

abbrev mutual
  pub behind_nexts : PhraseTree → PhraseTree
  behind_nexts (phrase at kind) = behind_nexts_of at kind

  pub behind_nexts_of : ℕ → KindTree → PhraseTree
  behind_nexts_of at (next p) = behind_nexts p
  behind_nexts_of at kind = phrase at kind

abbrev pub at_of : PhraseTree → ℕ
at_of (phrase at kind) = at
