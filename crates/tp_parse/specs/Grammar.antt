-- The grammar. In `Parses k ts a rest` the tokens ts begin with the phrase a of level k, and rest
-- is what follows it. Levels count up from the primaries, 0, to `;`, 10. A phrase, a list and a
-- chain reach as far to the right as the next token lets them.
use Rattle.std.specs.Prelude.{ℕ, ◌+◌, max, List, [], ◌∷◌, ◌≡◌, ◌≢◌, suc, ◌-◌, ◌≤◌, ◌⊎◌, drop, Some}
use Rattle.tp_tree.specs.declared.operator.Op.{Op}
use Rattle.tp_tree.specs.Tree as t
use Rattle.tp_tree.specs.Tree.{PhraseTree, phrase, KindTree, PhraseTrees, no_phrase, phrases_of, DefinitionTree, SourceTree}
use Rattle.tp_parse.specs.declared.mark.Prefix.{Prefix}
use Rattle.tp_parse.specs.declared.mark.Prefix.TheVariants as prefix
use Rattle.tp_parse.specs.declared.mark.Enclosure.{Enclosure}
use Rattle.tp_parse.specs.declared.mark.Enclosure.TheVariants as e
use Rattle.tp_parse.specs.declared.head.Atom.{Atom}
use Rattle.tp_parse.specs.declared.head.Atom.TheVariants as a
use Rattle.tp_parse.specs.declared.head.Listed.{Listed}
use Rattle.tp_parse.specs.declared.head.Listed.TheVariants as l
use Rattle.tp_parse.specs.declared.head.Pair.{Pair}
use Rattle.tp_parse.specs.declared.head.Pair.TheVariants as p
use Rattle.tp_lex.specs.declared.token.Word.TheVariants as word
use Rattle.tp_lex.specs.declared.token.Symbol.TheVariants as symbol
use Rattle.tp_tree.specs.declared.operator.Grouping.TheVariants.{Left, Single, Right}
use Rattle.tp_tree.specs.Levels.{chop_level, grouping}
use Rattle.tp_tree.specs.declared.operator.Bare.{Bare}
use Rattle.tp_tree.specs.declared.operator.Form.{Form}
use Rattle.tp_parse.specs.declared.mark.TokenMark.{TokenMark}
use Rattle.tp_parse.specs.declared.mark.TokenMark.TheVariants as m
use Rattle.tp_parse.specs.declared.mark.TokenRole.TheVariants.{Ends, Infix, Opens, Joins}
use Rattle.tp_parse.specs.declared.mark.Start.{Start}
use Rattle.tp_parse.specs.declared.mark.Start.TheVariants as s
use Rattle.tp_parse.specs.declared.head.PrimaryHead.{PrimaryHead}
use Rattle.tp_parse.specs.declared.head.PrimaryHead.TheVariants as h
use Rattle.tp_parse.specs.Marks.{prefix_at, role_at, start_of, comma, listed_level, listed_close, enclosed_level, enclosed_close, middle, Tokens, mark, from, first_name, mark_due, past}
use Rattle.tp_parse.specs.Marks as marks

-- ---- a phrase with its height, and how phrases are made of their operands

-- a phrase, and its height with its parentheses
pub record Found : Type 0 where
  pub tree : PhraseTree
  pub height : ℕ

abbrev pub found : PhraseTree → ℕ → Found
found t h = record { tree = t; height = h }

-- operands in order, and the greatest of their heights, or 0
pub record Operands : Type 0 where
  pub trees : List PhraseTree
  pub height : ℕ

abbrev pub operands_of : List PhraseTree → ℕ → Operands
operands_of ts h = record { trees = ts; height = h }

abbrev pub no_operand : Operands
no_operand = operands_of [] 0

-- an operand and those after it
abbrev pub operand_then : Found → Operands → Operands
operand_then a all = operands_of (a.tree ∷ all.trees) (max a.height all.height)

-- A phrase is 1 higher than its highest operand, and so are parentheses than what they stand round.

abbrev pub atom_kind : Atom → KindTree
atom_kind (a.Number n) = t.number n
atom_kind (a.Truth b) = t.truth b
atom_kind (a.Name x) = t.name x
atom_kind (a.Bare w) = t.bare w
atom_kind a.EmptyList = t.list no_phrase

abbrev pub of_atom : ℕ → Atom → Found
of_atom at a = found (phrase at (atom_kind a)) 1

abbrev pub listed_kind : Listed → PhraseTrees → KindTree
listed_kind l.List ps = t.list ps
listed_kind (l.Form f) ps = t.form f ps
listed_kind (l.Call x) ps = t.call x ps

abbrev pub of_operands : ℕ → Listed → Operands → Found
of_operands at l all = found (phrase at (listed_kind l (phrases_of all.trees))) (all.height + 1)

abbrev pub enclosed_tree : ℕ → Enclosure → PhraseTree → PhraseTree
enclosed_tree at e.Round a = a
enclosed_tree at e.Curly a = a
enclosed_tree at e.Size a = phrase at (t.size a)

abbrev pub of_enclosed : ℕ → Enclosure → Found → Found
of_enclosed at e a = found (enclosed_tree at e a.tree) (a.height + 1)

abbrev pub of_choice : ℕ → Found → Found → Found
of_choice at b p = found (phrase at (t.choice b.tree p.tree)) (max b.height p.height + 1)

abbrev pub of_choice_else : ℕ → Found → Found → Found → Found
of_choice_else at b p q =
    found (phrase at (t.choice_else b.tree p.tree q.tree))
    (max (max b.height p.height) q.height + 1)

abbrev pub pair_kind : Pair → PhraseTree → PhraseTree → KindTree
pair_kind p.While a b = t.while a b
pair_kind p.Repeat a b = t.repeat a b
pair_kind (p.For x) a b = t.for x a b
pair_kind (p.Forall x) a b = t.forall x a b

abbrev pub of_pair : ℕ → Pair → Found → Found → Found
of_pair at p a b = found (phrase at (pair_kind p a.tree b.tree)) (max a.height b.height + 1)

abbrev pub of_exists : ℕ → List (List ℕ) → Found → Found
of_exists at xs a = found (phrase at (t.exists xs a.tree)) (a.height + 1)

abbrev pub prefixed_kind : Prefix → PhraseTree → KindTree
prefixed_kind prefix.Not a = t.negation a
prefixed_kind prefix.Minus a = t.minus a
prefixed_kind prefix.Next a = t.next a

abbrev pub of_prefix : ℕ → Prefix → Found → Found
of_prefix at o a = found (phrase at (prefixed_kind o a.tree)) (a.height + 1)

abbrev pub of_infix : ℕ → Op → Found → Found → Found
of_infix at o a b = found (phrase at (t.binary o a.tree b.tree)) (max a.height b.height + 1)

abbrev pub of_index : ℕ → Found → Found → Found
of_index at a i = found (phrase at (t.index a.tree i.tree)) (max a.height i.height + 1)

abbrev pub of_chain : ℕ → Operands → Found
of_chain at all = found (phrase at (t.conjunction (phrases_of all.trees))) (all.height + 1)

-- the greatest height of a phrase
abbrev pub limit : ℕ
limit = 200

abbrev pub defined : List ℕ → ℕ → List (List ℕ) → PhraseTree → DefinitionTree
defined x at xs body = record { name = x; at = at; parameters = xs; body = body }

abbrev pub source_of : List DefinitionTree → PhraseTree → SourceTree
source_of ds main = record { definitions = ds; main = main }

-- ---- which tokens are which phrase

abbrev pub start : Tokens → Start
start ts = start_of (mark ts)

abbrev pub open_round : TokenMark
open_round = m.Symbol symbol.OpenRound

abbrev pub close_round : TokenMark
close_round = m.Symbol symbol.CloseRound

abbrev pub colon : TokenMark
colon = m.Symbol symbol.Colon

-- name { "," name }
pub data ReadsNames : Tokens → List (List ℕ) → Tokens → Type 0 where
  last_name : {ts : Tokens} → (mark ts ≡ m.Upper) ⊎ (mark ts ≡ m.Lower) → mark (drop 1 ts) ≢ comma
      → ReadsNames ts (first_name ts ∷ []) (drop 1 ts)
  name_then : {ts rest : Tokens} {xs : List (List ℕ)} → (mark ts ≡ m.Upper) ⊎ (mark ts ≡ m.Lower)
      → mark (drop 1 ts) ≡ comma → ReadsNames (drop 1 (drop 1 ts)) xs rest
      → ReadsNames ts (first_name ts ∷ xs) rest

-- what a primary begins with: itself, where it has no operands, and else all up to its first
-- operand
pub data BeginsPrimary : Tokens → PrimaryHead → Tokens → Type 0 where
  number : {ts : Tokens} → start ts ≡ s.Number
      → BeginsPrimary ts (h.Atom (a.Number (marks.first_number ts))) (drop 1 ts)
  truth : {ts : Tokens} {b : _} → start ts ≡ s.Truth b
      → BeginsPrimary ts (h.Atom (a.Truth b)) (drop 1 ts)
  upper_name : {ts : Tokens} → start ts ≡ s.Name
      → BeginsPrimary ts (h.Atom (a.Name (first_name ts))) (drop 1 ts)
  lower_name : {ts : Tokens} → start ts ≡ s.NameOrCall → mark (drop 1 ts) ≢ open_round
      → BeginsPrimary ts (h.Atom (a.Name (first_name ts))) (drop 1 ts)
  call : {ts : Tokens} → start ts ≡ s.NameOrCall → mark (drop 1 ts) ≡ open_round
      → BeginsPrimary ts (h.Listed (l.Call (first_name ts))) (drop 1 (drop 1 ts))
  bare : {ts : Tokens} {w : Bare} → start ts ≡ s.Bare w
      → BeginsPrimary ts (h.Atom (a.Bare w)) (drop 1 ts)
  form : {ts : Tokens} {f : Form} → start ts ≡ s.Form f → mark_due (drop 1 ts) ≡ open_round
      → BeginsPrimary ts (h.Listed (l.Form f)) (past (drop 1 ts))
  empty_list : {ts : Tokens} → start ts ≡ s.EmptyList
      → BeginsPrimary ts (h.Atom a.EmptyList) (drop 1 ts)
  list : {ts : Tokens} → start ts ≡ s.List → BeginsPrimary ts (h.Listed l.List) (past ts)
  enclosure : {ts : Tokens} {e : Enclosure} → start ts ≡ s.Enclosed e
      → BeginsPrimary ts (h.Enclosed e) (drop 1 ts)
  if : {ts : Tokens} → start ts ≡ s.If → BeginsPrimary ts h.If (drop 1 ts)
  while : {ts : Tokens} → start ts ≡ s.While → BeginsPrimary ts (h.Paired p.While) (drop 1 ts)
  repeat : {ts : Tokens} → start ts ≡ s.Repeat → BeginsPrimary ts (h.Paired p.Repeat) (drop 1 ts)
  for : {ts : Tokens} → start ts ≡ s.For → mark (drop 1 ts) ≡ m.Lower
      → mark_due (drop 1 (drop 1 ts)) ≡ m.Symbol symbol.Less
      → BeginsPrimary ts (h.Paired (p.For (first_name (drop 1 ts)))) (past (drop 1 (drop 1 ts)))
  forall : {ts : Tokens} → start ts ≡ s.Forall → mark (drop 1 ts) ≡ m.Lower
      → mark_due (drop 1 (drop 1 ts)) ≡ m.Symbol symbol.Less
      → BeginsPrimary ts (h.Paired (p.Forall (first_name (drop 1 ts)))) (past (drop 1 (drop 1 ts)))
  exists : {ts mid : Tokens} {xs : List (List ℕ)} → start ts ≡ s.Exists
      → ReadsNames (drop 1 ts) xs mid → mark_due mid ≡ colon
      → BeginsPrimary ts (h.Exists xs) (past mid)

mutual
  pub data Parses : ℕ → Tokens → Found → Tokens → Type 0 where
    atom : {ts rest : Tokens} {x : Atom} → BeginsPrimary ts (h.Atom x) rest
        → Parses 0 ts (of_atom (from ts) x) rest
    listed : {ts mid rest : Tokens} {x : Listed} {all : Operands}
        → BeginsPrimary ts (h.Listed x) mid → Listing (listed_level x) (listed_close x) mid all rest
        → Parses 0 ts (of_operands (from ts) x all) rest
    enclosed : {ts mid end : Tokens} {e : Enclosure} {x : Found}
        → BeginsPrimary ts (h.Enclosed e) mid → Parses (enclosed_level e) mid x end
        → mark_due end ≡ enclosed_close e
        → Parses 0 ts (of_enclosed (from ts) e x) (past end)
    if_then : {ts mid then rest : Tokens} {b x : Found} → BeginsPrimary ts h.If mid
        → Parses chop_level mid b then → mark_due then ≡ m.Word word.Then
        → Parses chop_level (past then) x rest → mark rest ≢ m.Word word.Else
        → Parses 0 ts (of_choice (from ts) b x) rest
    if_else : {ts mid then else rest : Tokens} {b x y : Found} → BeginsPrimary ts h.If mid
        → Parses chop_level mid b then
        → mark_due then ≡ m.Word word.Then → Parses chop_level (past then) x else
        → mark else ≡ m.Word word.Else → Parses chop_level (drop 1 else) y rest
        → Parses 0 ts (of_choice_else (from ts) b x y) rest
    paired : {ts mid next rest : Tokens} {q : Pair} {x y : Found}
        → BeginsPrimary ts (h.Paired q) mid → Parses chop_level mid x next
        → mark_due next ≡ middle q → Parses chop_level (past next) y rest
        → Parses 0 ts (of_pair (from ts) q x y) rest
    quantified : {ts mid rest : Tokens} {xs : List (List ℕ)} {x : Found}
        → BeginsPrimary ts (h.Exists xs) mid → Parses chop_level mid x rest
        → Parses 0 ts (of_exists (from ts) xs x) rest
    prefixed : {k : ℕ} {ts rest : Tokens} {o : Prefix} {x : Found}
        → prefix_at (suc k) (mark ts) ≡ Some o → Parses (suc k) (drop 1 ts) x rest
        → Parses (suc k) ts (of_prefix (from ts) o x) rest
    level : {k : ℕ} {ts mid rest : Tokens} {x t : Found} → Parses k ts x mid
        → Goes (suc k) (from ts) x mid t rest → Parses (suc k) ts t rest

  -- At this level a phrase that begins at the place goes on from the operand x to the phrase t.
  pub data Goes : ℕ → ℕ → Found → Tokens → Found → Tokens → Type 0 where
    ends : {k at : ℕ} {x : Found} {ts : Tokens} → role_at k (mark ts) ≡ Ends → Goes k at x ts x ts
    left : {k at : ℕ} {o : Op} {x y t : Found} {ts mid rest : Tokens}
        → role_at k (mark ts) ≡ Infix o → grouping o ≡ Left
        → Parses (k - 1) (drop 1 ts) y mid → Goes k at (of_infix at o x y) mid t rest
        → Goes k at x ts t rest
    single : {k at : ℕ} {o : Op} {x y : Found} {ts rest : Tokens} → role_at k (mark ts) ≡ Infix o
        → grouping o ≡ Single
        → Parses (k - 1) (drop 1 ts) y rest → Goes k at x ts (of_infix at o x y) rest
    right : {k at : ℕ} {o : Op} {x y : Found} {ts rest : Tokens} → role_at k (mark ts) ≡ Infix o
        → grouping o ≡ Right
        → Parses k (drop 1 ts) y rest → Goes k at x ts (of_infix at o x y) rest
    indexed : {k at : ℕ} {x i t : Found} {ts end rest : Tokens} → role_at k (mark ts) ≡ Opens
        → Parses chop_level (drop 1 ts) i end
        → mark_due end ≡ m.Symbol symbol.CloseSquare → Goes k at (of_index at x i) (past end) t rest
        → Goes k at x ts t rest
    joins : {k at : ℕ} {x : Found} {all : Operands} {ts rest : Tokens} → role_at k (mark ts) ≡ Joins
        → Others (k - 1) (m.Word word.And) ts all rest
        → Goes k at x ts (of_chain at (operand_then x all)) rest

  -- { separator operand }
  pub data Others : ℕ → TokenMark → Tokens → Operands → Tokens → Type 0 where
    no_more : {k : ℕ} {separator : TokenMark} {ts : Tokens} → mark ts ≢ separator
        → Others k separator ts no_operand ts
    one_more : {k : ℕ} {separator : TokenMark} {x : Found} {all : Operands} {ts mid rest : Tokens}
        → mark ts ≡ separator → Parses k (drop 1 ts) x mid
        → Others k separator mid all rest → Others k separator ts (operand_then x all) rest

  -- [ operand { "," operand } ] close
  pub data Listing : ℕ → TokenMark → Tokens → Operands → Tokens → Type 0 where
    no_operands : {k : ℕ} {close : TokenMark} {ts : Tokens} → mark_due ts ≡ close
        → Listing k close ts no_operand (past ts)
    operands : {k : ℕ} {close : TokenMark} {x : Found} {all : Operands} {ts mid end : Tokens}
        → Parses k ts x mid → Others k comma mid all end → mark_due end ≡ close
        → Listing k close ts (operand_then x all) (past end)

-- [ name { "," name } ] ")"
pub data Parameters : Tokens → List (List ℕ) → Tokens → Type 0 where
  no_parameters : {ts : Tokens} → mark ts ≡ close_round → Parameters ts [] (drop 1 ts)
  parameters : {ts mid : Tokens} {xs : List (List ℕ)} → ReadsNames ts xs mid
      → mark_due mid ≡ close_round → Parameters ts xs (past mid)

-- a phrase of any kind, and the `.` after it
pub data Sentence : Tokens → Found → Tokens → Type 0 where
  sentence : {ts end : Tokens} {x : Found} → Parses chop_level ts x end
      → mark_due end ≡ m.Symbol symbol.Stop → Sentence ts x (past end)

-- a definition, and the height of its body
pub data Defines : Tokens → DefinitionTree → ℕ → Tokens → Type 0 where
  defines : {ts mid rest : Tokens} {xs : List (List ℕ)} {x : Found} → mark ts ≡ m.Word word.Define
      → mark (drop 1 ts) ≡ m.Lower → mark_due (drop 1 (drop 1 ts)) ≡ open_round
      → Parameters (past (drop 1 (drop 1 ts))) xs mid → mark_due mid ≡ m.Symbol symbol.Equal
      → Sentence (past mid) x rest
      → Defines ts (defined (first_name (drop 1 ts)) (from ts) xs x.tree) x.height rest

-- definitions in order, and the greatest height of their bodies, or 0
pub data Definitions : Tokens → List DefinitionTree → ℕ → Tokens → Type 0 where
  no_definition : {ts : Tokens} → mark ts ≢ m.Word word.Define → Definitions ts [] 0 ts
  definition_then : {ts mid rest : Tokens} {d : DefinitionTree} {ds : List DefinitionTree} {i j : ℕ}
      → Defines ts d i mid → Definitions mid ds j rest
      → Definitions ts (d ∷ ds) (max i j) rest

-- all of the tokens are this source, whose highest phrase has this height
pub data IsSource : Tokens → SourceTree → ℕ → Type 0 where
  source : {ts mid rest : Tokens} {ds : List DefinitionTree} {x : Found} {i : ℕ}
      → Definitions ts ds i mid → mark_due mid ≡ m.Word word.Run → Sentence (past mid) x rest
      → rest ≡ []
      → IsSource ts (source_of ds x.tree) (max i x.height)

-- the tokens are this source, and no phrase of it is too high
pub record Accepts (ts : Tokens) (s : SourceTree) : Type 0 where
  pub height : ℕ
  pub source : IsSource ts s height
  pub low : height ≤ limit
