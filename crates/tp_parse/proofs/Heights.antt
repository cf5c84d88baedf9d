-- No tree is higher than what was read with its parentheses.
use Rattle.std.proofs.Common.{ℕ, ◌+◌, ◌≤◌, max, List, arith}
use Rattle.tp_tree.specs.Tree.{PhraseTree, phrases_of, DefinitionTree, SourceTree}
use Rattle.tp_tree.specs.Height.{height, under, greatest, highest, source_height}
use Rattle.tp_parse.specs.declared.mark.TokenMark.{TokenMark}
use Rattle.tp_parse.specs.declared.mark.Prefix.{Prefix}
use Rattle.tp_parse.specs.declared.mark.Prefix.TheVariants as prefix
use Rattle.tp_parse.specs.declared.mark.Enclosure.{Enclosure}
use Rattle.tp_parse.specs.declared.mark.Enclosure.TheVariants.{Round, Curly, Size}
use Rattle.tp_parse.specs.declared.head.Atom.{Atom}
use Rattle.tp_parse.specs.declared.head.Atom.TheVariants as atom
use Rattle.tp_parse.specs.declared.head.Listed.{Listed}
use Rattle.tp_parse.specs.declared.head.Listed.TheVariants as listed
use Rattle.tp_parse.specs.declared.head.Pair.{Pair}
use Rattle.tp_parse.specs.declared.head.Pair.TheVariants as pair
use Rattle.tp_parse.specs.Marks.{Tokens, from}
use Rattle.tp_parse.specs.Grammar.{Found, Operands, atom_kind, listed_kind, enclosed_tree, pair_kind, prefixed_kind, limit, Parses, Goes, Others, Listing, Sentence, Defines, Definitions, IsSource, Accepts}
use Rattle.tp_parse.specs.Grammar as g

atom_under : (x : Atom) → under (atom_kind x) ≤ 0
atom_under (atom.Number n) = omega arith
atom_under (atom.Truth b) = omega arith
atom_under (atom.Name x) = omega arith
atom_under (atom.Bare x) = omega arith
atom_under atom.EmptyList = omega arith

listed_under : (x : Listed) (ps : List PhraseTree) → under (listed_kind x (phrases_of ps)) ≤ greatest (phrases_of ps)
listed_under listed.List ps = omega arith
listed_under (listed.Form f) ps = omega arith
listed_under (listed.Call x) ps = omega arith

enclosed_low : (at : ℕ) (e : Enclosure) (a : PhraseTree) → height (enclosed_tree at e a) ≤ height a + 1
enclosed_low at Size a = omega arith
enclosed_low at Round a = omega arith
enclosed_low at Curly a = omega arith

pair_under : (p : Pair) (a b : PhraseTree) → under (pair_kind p a b) ≤ max (height a) (height b)
pair_under pair.While a b = omega arith
pair_under pair.Repeat a b = omega arith
pair_under (pair.For x) a b = omega arith
pair_under (pair.Forall x) a b = omega arith

prefixed_under : (o : Prefix) (a : PhraseTree) → under (prefixed_kind o a) ≤ height a
prefixed_under prefix.Not a = omega arith
prefixed_under prefix.Minus a = omega arith
prefixed_under prefix.Next a = omega arith

mutual
  phrase_low : {k : ℕ} {ts rest : Tokens} {x : Found} → Parses k ts x rest → height x.tree ≤ x.height
  phrase_low (g.atom {x = x} b) = omega (arith, atom_under x)
  phrase_low (g.listed {x = x} {all = all} b o) = omega (arith, listed_under x all.trees, listing_low o)
  phrase_low {ts = ts} (g.enclosed {e = e} {x = x} b d f) = omega (arith, enclosed_low (from ts) e x.tree, phrase_low d)
  phrase_low (g.if_then b d f h i) = omega (arith, phrase_low d, phrase_low h)
  phrase_low (g.if_else b d f h i j) = omega (arith, phrase_low d, phrase_low h, phrase_low j)
  phrase_low (g.paired {q = q} {x = x} {y = y} b d f h) = omega (arith, pair_under q x.tree y.tree, phrase_low d, phrase_low h)
  phrase_low (g.quantified b d) = omega (arith, phrase_low d)
  phrase_low (g.prefixed {o = o} {x = x} e d) = omega (arith, prefixed_under o x.tree, phrase_low d)
  phrase_low (g.level d h) = goes_low (phrase_low d) h

  goes_low : {k at : ℕ} {a t : Found} {ts rest : Tokens} → height a.tree ≤ a.height → Goes k at a ts t rest → height t.tree ≤ t.height
  goes_low low (g.ends e) = low
  goes_low low (g.left e way d h) = goes_low (omega (arith, phrase_low d)) h
  goes_low low (g.single e way d) = omega (arith, phrase_low d)
  goes_low low (g.right e way d) = omega (arith, phrase_low d)
  goes_low low (g.indexed e d f h) = goes_low (omega (arith, phrase_low d)) h
  goes_low low (g.joins e o) = omega (arith, others_low o)

  others_low : {k : ℕ} {separator : TokenMark} {all : Operands} {ts rest : Tokens} → Others k separator ts all rest → greatest (phrases_of all.trees) ≤ all.height
  others_low (g.no_more e) = omega arith
  others_low (g.one_more e d o) = omega (arith, phrase_low d, others_low o)

  listing_low : {k : ℕ} {close : TokenMark} {all : Operands} {ts rest : Tokens} → Listing k close ts all rest → greatest (phrases_of all.trees) ≤ all.height
  listing_low (g.no_operands e) = omega arith
  listing_low (g.operands d o e) = omega (arith, phrase_low d, others_low o)

sentence_low : {ts rest : Tokens} {x : Found} → Sentence ts x rest → height x.tree ≤ x.height
sentence_low (g.sentence d e) = phrase_low d

body_low : {ts rest : Tokens} {d : DefinitionTree} {i : ℕ} → Defines ts d i rest → height d.body ≤ i
body_low (g.defines e n o xs q b) = sentence_low b

definitions_low : {ts rest : Tokens} {ds : List DefinitionTree} {i : ℕ} → Definitions ts ds i rest → highest ds ≤ i
definitions_low (g.no_definition e) = omega arith
definitions_low (g.definition_then d e) = omega (arith, body_low d, definitions_low e)

source_low : {ts : Tokens} {s : SourceTree} {i : ℕ} → IsSource ts s i → source_height s ≤ i
source_low (g.source d r b e) = omega (arith, definitions_low d, sentence_low b)

pub accepted_low : (ts : Tokens) (s : SourceTree) → Accepts ts s → source_height s ≤ limit
accepted_low ts s is = omega (arith, source_low is.source, is.low)
