-- The first token of a name or a number, and the tokens that are left behind a name and a head.
use Rattle.std.proofs.Common.{◌≡◌, Option, None, Some, List, ℕ, drop, refl}
use Rattle.tp_lex.specs.declared.token.Word.{Word}
use Rattle.tp_lex.specs.declared.token.Word.TheVariants as word
use Rattle.tp_lex.specs.declared.token.Symbol.{Symbol}
use Rattle.tp_lex.specs.declared.token.Symbol.TheVariants as symbol
use Rattle.tp_parse.specs.declared.mark.TokenMark.{TokenMark}
use Rattle.tp_parse.specs.declared.mark.TokenMark.TheVariants as m
use Rattle.tp_parse.specs.declared.mark.Start.{Start}
use Rattle.tp_parse.specs.declared.mark.Start.TheVariants as s
use Rattle.tp_parse.specs.declared.head.PrimaryHead.{PrimaryHead}
use Rattle.tp_parse.specs.Marks.{start_of, Tokens, past}
use Rattle.tp_parse.specs.Grammar as g
use Rattle.tp_parse.specs.Grammar.{ReadsNames, BeginsPrimary}

-- the mark of the token that starts so, where that is a name or a number
abbrev pub mark_of_start : Start → Option TokenMark
mark_of_start s.Name = Some m.Upper
mark_of_start s.NameOrCall = Some m.Lower
mark_of_start s.Number = Some m.Number
mark_of_start _ = None

word_starts_none : (w : Word) → mark_of_start (start_of (m.Word w)) ≡ None
word_starts_none word.If = refl
word_starts_none _ = refl

symbol_starts_none : (x : Symbol) → mark_of_start (start_of (m.Symbol x)) ≡ None
symbol_starts_none symbol.Bar = refl
symbol_starts_none _ = refl

pub started : (x y : TokenMark) → mark_of_start (start_of x) ≡ Some y → x ≡ y
started m.Upper y e = cc
started m.Lower y e = cc
started m.Number y e = cc
started m.End y e = absurd cc
started (m.Word w) y e = let none = word_starts_none w in absurd cc
started (m.Symbol x) y e = let none = symbol_starts_none x in absurd cc

-- what holds of tokens, and of those that are left of them
module _ (Q : Tokens → Type 0) (dropped : (ts : Tokens) → Q ts → Q (drop 1 ts)) (passed : (ts : Tokens) → Q ts → Q (past ts)) where
  pub names_left : {ts rest : Tokens} {xs : List (List ℕ)} → ReadsNames ts xs rest → Q ts → Q rest
  names_left {ts} (g.last_name n e) is = dropped ts is
  names_left {ts} (g.name_then n e d) is = names_left d (dropped (drop 1 ts) (dropped ts is))

  counter_left : (ts : Tokens) → Q ts → Q (past (drop 1 (drop 1 ts)))
  counter_left ts is = passed (drop 1 (drop 1 ts)) (dropped (drop 1 ts) (dropped ts is))

  pub head_left : {ts rest : Tokens} {x : PrimaryHead} → BeginsPrimary ts x rest → Q ts → Q rest
  head_left {ts} (g.number e) is = dropped ts is
  head_left {ts} (g.truth e) is = dropped ts is
  head_left {ts} (g.upper_name e) is = dropped ts is
  head_left {ts} (g.lower_name e f) is = dropped ts is
  head_left {ts} (g.call e f) is = dropped (drop 1 ts) (dropped ts is)
  head_left {ts} (g.bare e) is = dropped ts is
  head_left {ts} (g.form e f) is = passed (drop 1 ts) (dropped ts is)
  head_left {ts} (g.empty_list e) is = dropped ts is
  head_left {ts} (g.list e) is = passed ts is
  head_left {ts} (g.enclosure e) is = dropped ts is
  head_left {ts} (g.if e) is = dropped ts is
  head_left {ts} (g.while e) is = dropped ts is
  head_left {ts} (g.repeat e) is = dropped ts is
  head_left {ts} (g.for e f l) is = counter_left ts is
  head_left {ts} (g.forall e f l) is = counter_left ts is
  head_left {ts} (g.exists {mid = mid} e d f) is = passed mid (names_left d (dropped ts is))
