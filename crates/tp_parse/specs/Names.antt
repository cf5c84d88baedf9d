-- The names of a source stand among its tokens.
use Rattle.std.specs.Prelude.{All, Contains}
use Rattle.tp_lex.specs.Names.{token_names}
use Rattle.tp_tree.specs.Tree.{SourceTree}
use Rattle.tp_tree.specs.Names.{source_names}
use Rattle.tp_parse.specs.Marks.{Tokens}
use Rattle.tp_parse.specs.Grammar.{Accepts}

-- each name that stands in a source of the grammar is the text of a token that is a name
abbrev pub NamesAreTokens : Type 0
NamesAreTokens =
    (ts : Tokens) (s : SourceTree) → Accepts ts s → All (Contains (token_names ts)) (source_names s)
