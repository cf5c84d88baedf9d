-- A source in the tokens of its canonical spelling.
use Rattle.std.proofs.Common.{◌≡◌, ◌≢◌, inl, ℕ, max, List, [], ◌∷◌, drop, map, refl, sym, ap₂, ◌∙◌}
use Rattle.tp_lex.specs.declared.token.Kind.{Kind}
use Rattle.tp_lex.specs.declared.token.Kind.TheVariants as kind
use Rattle.tp_lex.specs.declared.token.Word.TheVariants as word
use Rattle.tp_lex.specs.declared.token.Symbol.TheVariants as symbol
use Rattle.tp_tree.specs.Tree as t
use Rattle.tp_tree.specs.Tree.{PhraseTree, phrase, KindTree, PhraseTrees, no_phrase, phrase_then, DefinitionTree, SourceTree}
use Rattle.tp_tree.specs.Places.{unplaced, unplaced_definition}
use Rattle.tp_parse.specs.declared.mark.TokenMark.TheVariants as m
use Rattle.tp_parse.specs.Marks.{Tokens, past}
use Rattle.tp_parse.specs.Grammar.{Found, source_of, Parses, Sentence, Parameters, Defines, Definitions, IsSource, Accepts}
use Rattle.tp_parse.specs.Grammar as g
use Rattle.tp_parse.specs.Spelled.{token_kinds, close_kind, open_kind, phrase_kinds, name_kinds, definition_kinds, definitions_kinds, IsWhole, IsWholeKind, AreWhole, AreWholeBodies, SpellingsAreReadBack}
use Rattle.tp_parse.proofs.Exact.{accepted_read}
use Rattle.tp_parse.proofs.OneTree.{source_one}
use Rattle.tp_parse.proofs.SpelledTokens.{next_is, next_mark, mark_next, passed_whole, EndsBefore}
use Rattle.tp_parse.proofs.SpelledParts.{IsOperand, AreOperands, IsKind, bare_reads, operand_is, names_are}
use Rattle.tp_parse.proofs.SpelledKinds.{number_is, truth_is, name_is, list_is, size_is, index_is, minus_is, next_phrase_is, negation_is, binary_is, conjunction_is, choice_is, choice_else_is, while_is, repeat_is, for_is, forall_is, exists_is, bare_is, form_is, call_is}

mutual
  operand : (p : PhraseTree) → IsWhole p → IsOperand p
  operand (phrase at k) w = operand_is at k (kind_is k w)

  operands : (ps : PhraseTrees) → AreWhole ps → AreOperands ps
  operands no_phrase w = tt
  operands (phrase_then p ps) w = (operand p w.0, operands ps w.1)

  kind_is : (k : KindTree) → IsWholeKind k → IsKind k
  kind_is (t.number n) w = number_is n
  kind_is (t.truth b) w = truth_is b
  kind_is (t.name x) w = name_is x
  kind_is (t.list ps) w = list_is ps (operands ps w)
  kind_is (t.size p) w = size_is p (operand p w)
  kind_is (t.index p q) w = index_is p q (operand p w.0) (operand q w.1)
  kind_is (t.minus p) w = minus_is p (operand p w)
  kind_is (t.next p) w = next_phrase_is p (operand p w)
  kind_is (t.negation p) w = negation_is p (operand p w)
  kind_is (t.binary o p q) w = binary_is o p q (operand p w.0) (operand q w.1)
  kind_is (t.conjunction ps) w = conjunction_is ps w.0 (operands ps w.1)
  kind_is (t.choice b p) w = choice_is b p (operand b w.0) (operand p w.1)
  kind_is (t.choice_else b p q) w = choice_else_is b p q (operand b w.0) (operand p w.1) (operand q w.2)
  kind_is (t.while b p) w = while_is b p (operand b w.0) (operand p w.1)
  kind_is (t.repeat p b) w = repeat_is p b (operand p w.0) (operand b w.1)
  kind_is (t.for x e p) w = for_is x e p (operand e w.0) (operand p w.1)
  kind_is (t.forall x e p) w = forall_is x e p (operand e w.0) (operand p w.1)
  kind_is (t.exists xs p) w = exists_is xs p w.0 (operand p w.1)
  kind_is (t.bare x) w = bare_is x
  kind_is (t.form f ps) w = form_is f ps (operands ps w)
  kind_is (t.call x ps) w = call_is x ps (operands ps w)

stop_ends : (l : ℕ) (ks : List Kind) → EndsBefore l (kind.Symbol symbol.Stop ∷ ks)
stop_ends l ks = record { role = inl refl; bare = λ e. cc; last = λ h e. cc }

-- a phrase and the `.` after it
record SentenceAs (ts : Tokens) (p : PhraseTree) (ks : List Kind) : Type 0 where
  found : Found
  rest : Tokens
  sentence : Sentence ts found rest
  left : token_kinds rest ≡ ks
  same : unplaced found.tree ≡ unplaced p

sentence_is : (p : PhraseTree) → IsWhole p → (ts : Tokens) (ks : List Kind) → token_kinds ts ≡ phrase_kinds p (kind.Symbol symbol.Stop ∷ ks) → SentenceAs ts p ks
sentence_is (phrase at k) w ts ks e =
    let is = kind_is k w in
    let r = bare_reads is 11 ts (kind.Symbol symbol.Stop ∷ ks) is.low e (stop_ends 11 ks) in
    let c = passed_whole r.rest (kind.Symbol symbol.Stop) ks r.left refl in
    record { found = r.found; rest = past r.rest; sentence = g.sentence r.parses c.0; left = c.1; same = r.same }

-- the parameters and the `)` after them
record ParametersAs (ts : Tokens) (xs : List (List ℕ)) (ks : List Kind) : Type 0 where
  rest : Tokens
  parameters : Parameters ts xs rest
  left : token_kinds rest ≡ ks

parameters_are : (xs : List (List ℕ)) (ts : Tokens) (ks : List Kind) → token_kinds ts ≡ name_kinds xs (close_kind ∷ ks) → ParametersAs ts xs ks
parameters_are [] ts ks e = let h = next_is ts close_kind ks e in record { rest = drop 1 ts; parameters = g.no_parameters h.mark; left = h.later }
parameters_are (x ∷ xs) ts ks e =
    let n = names_are x xs ts (close_kind ∷ ks) e (λ q. cc) in
    let c = passed_whole n.rest close_kind ks n.left refl in
    record { rest = past n.rest; parameters = g.parameters n.names c.0; left = c.1 }

record DefinesAs (ts : Tokens) (d : DefinitionTree) (ks : List Kind) : Type 0 where
  tree : DefinitionTree
  height : ℕ
  rest : Tokens
  defines : Defines ts tree height rest
  left : token_kinds rest ≡ ks
  same : unplaced_definition tree ≡ unplaced_definition d

definition_is : (d : DefinitionTree) → IsWhole d.body → (ts : Tokens) (ks : List Kind) → token_kinds ts ≡ definition_kinds d ks → DefinesAs ts d ks
definition_is d w ts ks e =
    let h = next_is ts (kind.Word word.Define) _ e in
    let n = next_is (drop 1 ts) (kind.Lower d.name) _ h.later in
    let o = passed_whole (drop 1 (drop 1 ts)) open_kind _ n.later refl in
    let q = parameters_are d.parameters (past (drop 1 (drop 1 ts))) _ o.1 in
    let c = passed_whole q.rest (kind.Symbol symbol.Equal) _ q.left refl in
    let b = sentence_is d.body w (past q.rest) ks c.1 in
    record {
      tree = _;
      height = _;
      rest = b.rest;
      defines = g.defines h.mark n.mark o.0 q.parameters c.0 b.sentence;
      left = b.left;
      same = ap₂ (λ x u. record { name = x; at = 0; parameters = d.parameters; body = u }) n.name b.same;
    }

record DefinitionsAs (ts : Tokens) (ds : List DefinitionTree) (ks : List Kind) : Type 0 where
  trees : List DefinitionTree
  height : ℕ
  rest : Tokens
  definitions : Definitions ts trees height rest
  left : token_kinds rest ≡ ks
  same : map unplaced_definition trees ≡ map unplaced_definition ds

definitions_are : (ds : List DefinitionTree) → AreWholeBodies ds → (ts : Tokens) (ks : List Kind) → next_mark ks ≢ m.Word word.Define → token_kinds ts ≡ definitions_kinds ds ks → DefinitionsAs ts ds ks
definitions_are [] w ts ks other e = record { trees = []; height = 0; rest = ts; definitions = g.no_definition (λ q. other (sym (mark_next ts ks e) ∙ q)); left = e; same = refl }
definitions_are (d ∷ ds) w ts ks other e =
    let a = definition_is d w.0 ts _ e in
    let b = definitions_are ds w.1 a.rest ks other a.left in
    record { trees = _; height = _; rest = b.rest; definitions = g.definition_then a.defines b.definitions; left = b.left; same = ap₂ (λ x xs. x ∷ xs) a.same b.same }

none_left : (ts : Tokens) → token_kinds ts ≡ [] → ts ≡ []
none_left [] e = refl
none_left (t ∷ ts) e = absurd cc

pub spellings_are_read_back : SpellingsAreReadBack
spellings_are_read_back us s w e =
    let ds = definitions_are s.definitions w.0 us _ (λ q. cc) e in
    let r = passed_whole ds.rest (kind.Word word.Run) _ ds.left refl in
    let b = sentence_is s.main w.1 (past ds.rest) [] r.1 in
    let is : IsSource us (source_of ds.trees b.found.tree) (max ds.height b.found.height) = g.source ds.definitions r.0 b.sentence (none_left b.rest b.left) in
    record {
      tree = _;
      height = _;
      source = is;
      same = ap₂ (λ xs u. record { definitions = xs; main = u }) ds.same b.same;
      only = λ u a. source_one a.source is;
      parsed = λ low. accepted_read us _ (record { height = _; source = is; low = low });
    }
