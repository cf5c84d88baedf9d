-- Which source of the grammar, which program and which wider formula a text is, or where and why it
-- is refused.
use Rattle.std.specs.Prelude.{◌≡◌, ℕ, List, ◌⊎◌, length, Option, None, Some, slice_get, Ok, Err}
use Rattle.tp_lex.specs.declared.token.Token.{Token}
use Rattle.tp_lex.specs.Tokens.{AreTokens, IsRefused}
use Rattle.tp_tree.specs.Tree.{SourceTree}
use Rattle.tp_tree.specs.Spelling.{source_spelling}
use Rattle.tp_tree.specs.Places.{IsSameUpToPlaces}
use Rattle.tp_parse.specs.Grammar.{IsSource, Accepts}
use Rattle.tp_lex.specs.declared.refusal.LexRefusal.{LexRefusal}
use Rattle.tp_lex.specs.declared.refusal.LexRefusal.TheVariants as lex
use Rattle.tp_lex.specs.Place.{place_of}
use Rattle.tp_parse.specs.declared.refusal.ParseRefusal.{ParseRefusal}
use Rattle.tp_parse.specs.declared.refusal.ParseRefusal.TheVariants as parse
use Rattle.tp_parse.specs.Place.{BlamesFirst, BlamesFirstInText}
use Rattle.tp_meaning.specs.Interval.{ProgramTree}
use Rattle.tp_check.specs.Program.{ChecksTo}
use Rattle.tp_check.specs.declared.refusal.CheckRefusal.{CheckRefusal}
use Rattle.tp_check.specs.declared.refusal.CheckRefusal.TheVariants as check
use Rattle.tp_monitor.specs.WideOf.{NamedWide, wide_of_source}
use Rattle.tp_words.specs.declared.mode.Mode.{Mode}
use Rattle.tp_words.specs.declared.mode.Mode.TheVariants.{Run, Print, Convert, Check, Drill}
use Rattle.tp_call.specs.declared.status.SourceKind.{SourceKind}
use Rattle.tp_call.specs.declared.status.SourceKind.TheVariants.{BadByte, OpenComment, NumberTooLarge, NameTooLong, Unexpected, Unfinished, TooDeep, DefinedTwice, UnknownName, WrongCount, NotExpression, NotPlace, NotPort, NotExecutable}
use Rattle.tp_call.specs.declared.status.Refused.{Refused}

-- The tree's canonical spelling has tokens, and these are a source of the grammar that is this tree
-- up to places, and no other. It is as high as its parentheses make it.
pub record IsReadFromSpelling (tree : SourceTree) : Type 0 where
  pub tokens : List Token
  pub are_tokens : AreTokens (source_spelling tree) tokens
  pub again : SourceTree
  pub height : ℕ
  pub is_source : IsSource tokens again height
  pub same : IsSameUpToPlaces again tree
  pub only : (other : SourceTree) → Accepts tokens other → other ≡ again

-- this text is a source of the grammar, and has this tree
pub record IsSourceText (source : List ℕ) (tree : SourceTree) : Type 0 where
  pub tokens : List Token
  pub are_tokens : AreTokens source tokens
  pub accepted : Accepts tokens tree

-- This text is this program: its tokens are a source of the grammar, which the checker makes the
-- program.
pub record IsProgram (source : List ℕ) (program : ProgramTree) : Type 0 where
  pub tokens : List Token
  pub tree : SourceTree
  pub are_tokens : AreTokens source tokens
  pub accepted : Accepts tokens tree
  pub checked : ChecksTo tree (Ok program)

-- this text is a source of the grammar that is this wider formula
pub record IsWideText (source : List ℕ) (wide : NamedWide) : Type 0 where
  pub tree : SourceTree
  pub is_source : IsSourceText source tree
  pub wide_is : wide_of_source tree ≡ Ok wide

-- the line and column of the byte, with the kind of refusal there
abbrev pub refused_at : List ℕ → ℕ → SourceKind → Refused
refused_at source at kind = let place = place_of source at in
    record { line = place.line; column = place.column; kind = kind }

abbrev pub lexer_refusal : List ℕ → LexRefusal → Option Refused
lexer_refusal source (lex.BadByte at) = Some (refused_at source at BadByte)
lexer_refusal source (lex.OpenComment at) = Some (refused_at source at OpenComment)
lexer_refusal source (lex.NumberTooLarge at) = Some (refused_at source at NumberTooLarge)
lexer_refusal source (lex.NameTooLong at) = Some (refused_at source at NameTooLong)
lexer_refusal source lex.NoMemory = None

abbrev pub at_token : SourceKind → Option Token → Option Refused
at_token kind None = None
at_token kind (Some t) = Some (record { line = t.line; column = t.column; kind = kind })

-- a source that isn't finished is refused behind its last byte
abbrev pub parser_refusal : List ℕ → List Token → ParseRefusal → Option Refused
parser_refusal source tokens (parse.Unexpected i) = at_token Unexpected (slice_get tokens i)
parser_refusal source tokens parse.Unfinished = Some (refused_at source (length source) Unfinished)
parser_refusal source tokens (parse.TooDeep i) = at_token TooDeep (slice_get tokens i)
parser_refusal source tokens parse.NoMemory = None

abbrev pub checker_refusal : List ℕ → CheckRefusal → Option Refused
checker_refusal source (check.Twice at) = Some (refused_at source at DefinedTwice)
checker_refusal source (check.Unknown at) = Some (refused_at source at UnknownName)
checker_refusal source (check.WrongCount at) = Some (refused_at source at WrongCount)
checker_refusal source (check.NotExpression at) = Some (refused_at source at NotExpression)
checker_refusal source (check.NotPlace at) = Some (refused_at source at NotPlace)
checker_refusal source (check.NotPort at) = Some (refused_at source at NotPort)
checker_refusal source (check.NotExecutable at) = Some (refused_at source at NotExecutable)
checker_refusal source check.NoMemory = None

-- the text has no tokens, since it is refused so
pub record HasNoTokens (source : List ℕ) (refused : Refused) : Type 0 where
  pub refusal : LexRefusal
  pub is_refused : IsRefused source refusal
  pub answer : lexer_refusal source refusal ≡ Some refused

-- the text has tokens that are no source of the grammar, and this is where they went wrong
pub record HasNoTree (source : List ℕ) (refused : Refused) : Type 0 where
  pub tokens : List Token
  pub refusal : ParseRefusal
  pub are_tokens : AreTokens source tokens
  pub place : BlamesFirst tokens refusal
  pub text : BlamesFirstInText source tokens refusal
  pub answer : parser_refusal source tokens refusal ≡ Some refused

-- the text is a source of the grammar that isn't run
pub record IsNotRun (source : List ℕ) (refused : Refused) : Type 0 where
  pub tokens : List Token
  pub tree : SourceTree
  pub refusal : CheckRefusal
  pub are_tokens : AreTokens source tokens
  pub accepted : Accepts tokens tree
  pub outcome : ChecksTo tree (Err refusal)
  pub answer : checker_refusal source refusal ≡ Some refused

-- the text is a source of the grammar that is no wider formula
pub record IsNotWide (source : List ℕ) (refused : Refused) : Type 0 where
  pub tree : SourceTree
  pub is_source : IsSourceText source tree
  pub refusal : CheckRefusal
  pub outcome : wide_of_source tree ≡ Err refusal
  pub answer : checker_refusal source refusal ≡ Some refused

-- This text is no source of the grammar, and is refused at this place for this cause: the lexer's
-- refusal comes before the parser's.
abbrev pub IsOutsideGrammar : List ℕ → Refused → Type 0
IsOutsideGrammar source refused = HasNoTokens source refused ⊎ HasNoTree source refused

-- This text is refused at this place, for this cause: to be printed it has to be a source of the
-- grammar, and to be run it has to be a program, for which it is checked last; to check a trace by
-- it, it has to be a wider formula, which is looked at last. To convert inputs, no source is read.
-- A drill runs a source that no file holds.
abbrev pub IsRefusedAt : Mode → List ℕ → Refused → Type 0
IsRefusedAt Print source refused = IsOutsideGrammar source refused
IsRefusedAt Convert source refused = ⊥
IsRefusedAt Run source refused = IsOutsideGrammar source refused ⊎ IsNotRun source refused
IsRefusedAt Check source refused = IsOutsideGrammar source refused ⊎ IsNotWide source refused
IsRefusedAt (Drill size) source refused = IsOutsideGrammar source refused ⊎ IsNotRun source refused
