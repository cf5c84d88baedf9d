-- What the grammar accepts is whole: its chains have two operands at least, and each `exists` a name.
use Rattle.std.proofs.Common.{◌≡◌, ℕ, Bool, true, false, cond, eqb, List, ◌∷◌, refl}
use Rattle.tp_lex.specs.declared.token.Word.{Word}
use Rattle.tp_lex.specs.declared.token.Word.TheVariants as word
use Rattle.tp_lex.specs.declared.token.Symbol.{Symbol}
use Rattle.tp_lex.specs.declared.token.Symbol.TheVariants as symbol
use Rattle.tp_tree.specs.Tree.{PhraseTree, PhraseTrees, phrases_of, DefinitionTree, SourceTree}
use Rattle.tp_parse.specs.declared.mark.TokenMark.{TokenMark}
use Rattle.tp_parse.specs.declared.mark.TokenMark.TheVariants as m
use Rattle.tp_parse.specs.declared.mark.TokenRole.TheVariants.{Ends, Joins}
use Rattle.tp_parse.specs.declared.mark.Prefix.{Prefix}
use Rattle.tp_parse.specs.declared.mark.Prefix.TheVariants as prefix
use Rattle.tp_parse.specs.declared.mark.Enclosure.{Enclosure}
use Rattle.tp_parse.specs.declared.mark.Enclosure.TheVariants.{Round, Curly, Size}
use Rattle.tp_parse.specs.declared.head.Atom.{Atom}
use Rattle.tp_parse.specs.declared.head.Atom.TheVariants as atom
use Rattle.tp_parse.specs.declared.head.Listed.{Listed}
use Rattle.tp_parse.specs.declared.head.Listed.TheVariants as listed
use Rattle.tp_parse.specs.declared.head.Pair.{Pair}
use Rattle.tp_parse.specs.declared.head.Pair.TheVariants as pair
use Rattle.tp_parse.specs.declared.head.PrimaryHead.TheVariants as h
use Rattle.tp_parse.specs.Marks.{role_of, role_at, level_of, Tokens, mark, from}
use Rattle.tp_parse.specs.Grammar.{Found, Operands, atom_kind, listed_kind, enclosed_tree, pair_kind, prefixed_kind, ReadsNames, BeginsPrimary, Parses, Goes, Others, Listing, Sentence, Defines, Definitions, IsSource, Accepts}
use Rattle.tp_parse.specs.Grammar as g
use Rattle.tp_parse.specs.Spelled.{HasTwo, HasName, IsWhole, IsWholeKind, AreWhole, AreWholeBodies, SourcesAreWhole}

atom_whole : (x : Atom) → IsWholeKind (atom_kind x)
atom_whole (atom.Number n) = tt
atom_whole (atom.Truth b) = tt
atom_whole (atom.Name x) = tt
atom_whole (atom.Bare w) = tt
atom_whole atom.EmptyList = tt

listed_whole : (x : Listed) (ps : PhraseTrees) → AreWhole ps → IsWholeKind (listed_kind x ps)
listed_whole listed.List ps w = w
listed_whole (listed.Form f) ps w = w
listed_whole (listed.Call x) ps w = w

enclosed_whole : (at : ℕ) (e : Enclosure) (a : PhraseTree) → IsWhole a → IsWhole (enclosed_tree at e a)
enclosed_whole at Size a w = w
enclosed_whole at Round a w = w
enclosed_whole at Curly a w = w

pair_whole : (x : Pair) (a b : PhraseTree) → IsWhole a → IsWhole b → IsWholeKind (pair_kind x a b)
pair_whole pair.While a b v w = (v, w)
pair_whole pair.Repeat a b v w = (v, w)
pair_whole (pair.For x) a b v w = (v, w)
pair_whole (pair.Forall x) a b v w = (v, w)

prefixed_whole : (o : Prefix) (a : PhraseTree) → IsWhole a → IsWholeKind (prefixed_kind o a)
prefixed_whole prefix.Not a w = w
prefixed_whole prefix.Minus a w = w
prefixed_whole prefix.Next a w = w

some_names : {ts rest : Tokens} {xs : List (List ℕ)} → ReadsNames ts xs rest → HasName xs
some_names (g.last_name n e) = tt
some_names (g.name_then n e d) = tt

exists_named : {ts rest : Tokens} {xs : List (List ℕ)} → BeginsPrimary ts (h.Exists xs) rest → HasName xs
exists_named (g.exists e d f) = some_names d

-- only `and` joins
word_joins : (w : Word) → role_of (m.Word w) ≡ Joins → w ≡ word.And
word_joins word.And e = refl
word_joins _ e = absurd cc

symbol_joins : (x : Symbol) → role_of (m.Symbol x) ≡ Joins → m.Symbol x ≡ m.Word word.And
symbol_joins symbol.Bar e = absurd cc
symbol_joins _ e = absurd cc

mark_joins : (x : TokenMark) → role_of x ≡ Joins → x ≡ m.Word word.And
mark_joins (m.Word w) e = let q = word_joins w e in cc
mark_joins (m.Symbol x) e = symbol_joins x e
mark_joins m.End e = absurd cc
mark_joins m.Upper e = absurd cc
mark_joins m.Lower e = absurd cc
mark_joins m.Number e = absurd cc

joins_and : (k : ℕ) (x : TokenMark) → role_at k x ≡ Joins → x ≡ m.Word word.And
unfolding role_at
joins_and k x e = by (eqb (level_of (role_of x)) k) e
  where
    by : (b : Bool) → cond b (role_of x) Ends ≡ Joins → x ≡ m.Word word.And
    by true q = mark_joins x q
    by false q = absurd cc

two : {k : ℕ} {separator : TokenMark} {all : Operands} {ts rest : Tokens} (a : PhraseTree) → mark ts ≡ separator → Others k separator ts all rest → HasTwo (phrases_of (a ∷ all.trees))
two a e (g.no_more n) = absurd (n e)
two a e (g.one_more q d o) = tt

mutual
  phrase_whole : {k : ℕ} {ts rest : Tokens} {x : Found} → Parses k ts x rest → IsWhole x.tree
  phrase_whole (g.atom {x = x} b) = atom_whole x
  phrase_whole (g.listed {x = x} {all = all} b o) = listed_whole x (phrases_of all.trees) (listing_whole o)
  phrase_whole {ts = ts} (g.enclosed {e = e} {x = x} b d f) = enclosed_whole (from ts) e x.tree (phrase_whole d)
  phrase_whole (g.if_then b d t e n) = (phrase_whole d, phrase_whole e)
  phrase_whole (g.if_else b d t e n f) = (phrase_whole d, phrase_whole e, phrase_whole f)
  phrase_whole (g.paired {q = q} {x = x} {y = y} b d f e) = pair_whole q x.tree y.tree (phrase_whole d) (phrase_whole e)
  phrase_whole (g.quantified b d) = (exists_named b, phrase_whole d)
  phrase_whole (g.prefixed {o = o} {x = x} e d) = prefixed_whole o x.tree (phrase_whole d)
  phrase_whole (g.level d f) = goes_whole (phrase_whole d) f

  goes_whole : {k at : ℕ} {a t : Found} {ts rest : Tokens} → IsWhole a.tree → Goes k at a ts t rest → IsWhole t.tree
  goes_whole w (g.ends e) = w
  goes_whole w (g.left e way d f) = goes_whole (w, phrase_whole d) f
  goes_whole w (g.single e way d) = (w, phrase_whole d)
  goes_whole w (g.right e way d) = (w, phrase_whole d)
  goes_whole w (g.indexed e d c f) = goes_whole (w, phrase_whole d) f
  goes_whole {k = k} {a = a} {ts = ts} w (g.joins e o) = (two a.tree (joins_and k (mark ts) e) o, (w, others_whole o))

  others_whole : {k : ℕ} {separator : TokenMark} {all : Operands} {ts rest : Tokens} → Others k separator ts all rest → AreWhole (phrases_of all.trees)
  others_whole (g.no_more e) = tt
  others_whole (g.one_more e d o) = (phrase_whole d, others_whole o)

  listing_whole : {k : ℕ} {close : TokenMark} {all : Operands} {ts rest : Tokens} → Listing k close ts all rest → AreWhole (phrases_of all.trees)
  listing_whole (g.no_operands e) = tt
  listing_whole (g.operands d o e) = (phrase_whole d, others_whole o)

sentence_whole : {ts rest : Tokens} {x : Found} → Sentence ts x rest → IsWhole x.tree
sentence_whole (g.sentence d e) = phrase_whole d

defines_whole : {ts rest : Tokens} {d : DefinitionTree} {i : ℕ} → Defines ts d i rest → IsWhole d.body
defines_whole (g.defines e n o ps q b) = sentence_whole b

definitions_whole : {ts rest : Tokens} {ds : List DefinitionTree} {i : ℕ} → Definitions ts ds i rest → AreWholeBodies ds
definitions_whole (g.no_definition e) = tt
definitions_whole (g.definition_then f e) = (defines_whole f, definitions_whole e)

source_whole : {ts : Tokens} {s : SourceTree} {i : ℕ} → IsSource ts s i → AreWholeBodies s.definitions × IsWhole s.main
source_whole (g.source d r b e) = (definitions_whole d, sentence_whole b)

pub sources_are_whole : SourcesAreWhole
sources_are_whole ts s is = source_whole is.source
