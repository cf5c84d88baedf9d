-- Phrases from tokens, from left to right.
use Rattle.std.specs.Prelude.{ℕ, zero, suc, ◌-◌, Bool, if◌then◌else◌, nat_le, [], ◌∷◌, length, true, false, Ok, Err, Option, Some, None}
use Rattle.tp_lex.specs.declared.token.Word.TheVariants as word
use Rattle.tp_lex.specs.declared.token.Symbol.TheVariants as symbol
use Rattle.tp_tree.specs.declared.operator.Op.{Op}
use Rattle.tp_tree.specs.declared.operator.Grouping.{Grouping}
use Rattle.tp_tree.specs.declared.operator.Grouping.TheVariants.{Left, Single, Right}
use Rattle.tp_tree.specs.Levels.{chop_level, grouping, right_level}
use Rattle.tp_parse.specs.declared.mark.TokenMark.{TokenMark}
use Rattle.tp_parse.specs.declared.mark.TokenMark.TheVariants as m
use Rattle.tp_parse.specs.declared.mark.Prefix.{Prefix}
use Rattle.tp_parse.specs.declared.mark.TokenRole.{TokenRole}
use Rattle.tp_parse.specs.declared.mark.TokenRole.TheVariants.{Ends, Infix, Opens, Joins}
use Rattle.tp_parse.specs.declared.head.PrimaryHead.{PrimaryHead}
use Rattle.tp_parse.specs.declared.head.PrimaryHead.TheVariants as h
use Rattle.tp_parse.specs.Marks.{before, prefix_at, role_at, start_of, same, comma, listed_level, listed_close, enclosed_level, enclosed_close, middle, mark, from, mark_due, past}
use Rattle.tp_parse.specs.Readers.{TokenReader, ◌>>=◌, pure, too_deep, sees, take, expect, deepen}
use Rattle.tp_parse.specs.Head.{head_by, admit, unfit}
use Rattle.tp_parse.specs.Grammar.{Found, Operands, no_operand, operands_of, of_atom, of_operands, of_enclosed, of_choice, of_choice_else, of_pair, of_exists, of_prefix, of_infix, of_index, of_chain}
use Rattle.tp_parse.specs.Seen.{then_operand}

-- whether more operators of the level may follow
abbrev pub goes_on : Grouping → Bool
goes_on Left = true
goes_on Single = false
goes_on Right = false

-- the level at which the operator before the phrase stands, where it is no higher than k
abbrev pub start_level : ℕ → TokenMark → ℕ
start_level k x = if nat_le (before x) k then before x else 0

-- whether an operator may stand after an operand of a height, where operands have this room
unfoldable pub fits : ℕ → ℕ → TokenReader (Unit {0})
fits zero left = too_deep
fits (suc n) left = λ ts. if nat_le left (suc n) then Ok (tt, ts) else too_deep ts

-- `inner` reads an operand of a level, and `room` is the greatest height that it may have
module _ (inner : ℕ → TokenReader Found) (room : ℕ) where
  -- a phrase, and the mark after it
  unfoldable pub part : ℕ → TokenMark → TokenReader Found
  part k close = do
    a ← inner k
    _closed ← expect close
    pure a

  -- the operands after those that were read, each after a separator
  unfoldable pub others_from : ℕ → TokenMark → ℕ → Operands → TokenReader Operands
  others_from k separator zero all = pure all
  others_from k separator (suc n) all = λ ts. if sees separator ts then (do
    _separator ← take
    a ← inner k
    others_from k separator n (then_operand all a)) ts else pure all ts

  unfoldable pub others : ℕ → TokenMark → Found → TokenReader Operands
  others k separator first =
      λ ts. others_from k separator (length ts) (operands_of (first.tree ∷ []) first.height) ts

  -- any number of operands, with commas between them and the mark after them
  unfoldable pub operands : ℕ → TokenMark → TokenReader Operands
  operands k close = λ ts. if same (mark_due ts) close then Ok (no_operand, past ts) else (do
    first ← inner k
    all ← others k comma first
    _closed ← expect close
    pure all) ts

  -- after the first two parts
  unfoldable pub else_part : ℕ → Found → Found → TokenReader Found
  else_part at b p = λ ts. if sees (m.Word word.Else) ts then (do
    _else ← take
    q ← inner chop_level
    pure (of_choice_else at b p q)) ts else pure (of_choice at b p) ts

  unfoldable pub choice : ℕ → TokenReader Found
  choice at = do
    b ← part chop_level (m.Word word.Then)
    p ← inner chop_level
    else_part at b p

  -- what follows a head
  abbrev pub primary_by : ℕ → PrimaryHead → TokenReader Found
  primary_by at (h.Atom a) = pure (of_atom at a)
  primary_by at (h.Listed l) = do
    all ← operands (listed_level l) (listed_close l)
    pure (of_operands at l all)
  primary_by at (h.Enclosed e) = do
    a ← part (enclosed_level e) (enclosed_close e)
    pure (of_enclosed at e a)
  primary_by at h.If = choice at
  primary_by at (h.Paired p) = do
    a ← part chop_level (middle p)
    b ← inner chop_level
    pure (of_pair at p a b)
  primary_by at (h.Exists xs) = do
    a ← inner chop_level
    pure (of_exists at xs a)

  unfoldable pub primary : TokenReader Found
  primary = λ ts. (do
    _admitted ← admit room (start_of (mark ts))
    head ← head_by (start_of (mark ts))
    primary_by (from ts) head) ts

  unfoldable pub operated : Op → ℕ → Found → TokenReader Found
  operated o at left = do
    _fits ← fits room left.height
    _operator ← take
    right ← inner (right_level o)
    pure (of_infix at o left right)

  unfoldable pub indexed : ℕ → Found → TokenReader Found
  indexed at left = do
    _fits ← fits room left.height
    _open ← take
    i ← part chop_level (m.Symbol symbol.CloseSquare)
    pure (of_index at left i)

  unfoldable pub chained : ℕ → ℕ → Found → TokenReader Found
  chained k at left = do
    _fits ← fits room left.height
    all ← others (k - 1) (m.Word word.And) left
    pure (of_chain at all)

  -- what goes on with an operand, and whether more may
  abbrev pub turn_by : ℕ → ℕ → Found → TokenRole → TokenReader (Found × Bool)
  turn_by k at left Ends = pure (left, false)
  turn_by k at left (Infix o) = operated o at left >>= λ x. pure (x, goes_on (grouping o))
  turn_by k at left Opens = indexed at left >>= λ x. pure (x, true)
  turn_by k at left Joins = chained k at left >>= λ x. pure (x, false)

  unfoldable pub turn : ℕ → ℕ → Found → TokenReader (Found × Bool)
  turn k at left = λ ts. turn_by k at left (role_at k (mark ts)) ts

  unfoldable pub go : ℕ → ℕ → ℕ → Found → TokenReader Found
  go k at zero left = pure left
  go k at (suc n) left = do
    x ← turn k at left
    if x.1 then go k at n x.0 else pure x.0

  unfoldable pub operations : ℕ → ℕ → Found → TokenReader Found
  operations k at left = λ ts. go k at (length ts) left ts

  -- an operator before its operand, and that operand
  unfoldable pub prefixed : ℕ → Prefix → TokenReader Found
  prefixed k o = λ ts. (do
    _deeper ← deepen room
    _operator ← take
    a ← inner k
    pure (of_prefix (from ts) o a)) ts

  -- an operator of this level and its operand, or else what the level below reads and what goes on
  -- with it
  abbrev pub level_by : ℕ → TokenReader Found → Option Prefix → TokenReader Found
  level_by k lower None = λ ts. (lower >>= operations k (from ts)) ts
  level_by k lower (Some o) = prefixed k o

  unfoldable pub level : ℕ → TokenReader Found → TokenReader Found
  level k lower = λ ts. level_by k lower (prefix_at k (mark ts)) ts

  unfoldable pub levels : ℕ → TokenReader Found
  levels zero = primary
  levels (suc k) = level (suc k) (levels k)

  abbrev pub first_by : ℕ → Option Prefix → TokenReader Found
  first_by k None = primary
  first_by k (Some o) = prefixed k o

  -- an operator of this level and its operand, or else a primary
  unfoldable pub first : ℕ → TokenReader Found
  first k = λ ts. first_by k (prefix_at k (mark ts)) ts

-- a phrase of a level, no higher than the room
unfoldable pub read : ℕ → ℕ → TokenReader Found
read zero k = λ ts. Err (unfit k ts)
read (suc room) k = levels (read room) room k
