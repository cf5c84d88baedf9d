-- A source is read back from its canonical spelling, which has no places in it.
use Rattle.std.proofs.Common.{◌≡◌, ℕ, cond, nat_le, List, [], ◌∷◌, ◌++◌, map, codes, refl, sym, ap, ap₂, ◌∙◌, subst, Result, Ok, Err, inl, inr}
use Rattle.tp_tree.specs.Tree as t
use Rattle.tp_tree.specs.Tree.{PhraseTree, phrase, KindTree, PhraseTrees, no_phrase, phrase_then, DefinitionTree, SourceTree}
use Rattle.tp_tree.specs.Levels.{kind_level, left_level, right_level}
use Rattle.tp_tree.specs.Places.{unplaced, unplaced_kind, unplaced_all, unplaced_definition, unplaced_source}
use Rattle.tp_tree.specs.Spelling.{op_spelling, form_spelling, names_spelling, operand_spelling, operands_spelling, kind_spelling, phrase_spelling, definitions_spelling, source_spelling}
use Rattle.std.proofs.lemmas.Bool.{cases_lt}
use Rattle.tp_lex.specs.Tokens.{AreTokens}
use Rattle.tp_lex.proofs.LawLemmas.{one_list}
use Rattle.tp_tree.specs.declared.phrase.Source.{Source}
use Rattle.tp_tree.specs.Read.{source_tree}
use Rattle.tp_parse.specs.declared.refusal.ParseRefusal.{ParseRefusal}
use Rattle.tp_parse.specs.Marks.{Tokens}
use Rattle.tp_parse.specs.Grammar.{limit, Accepts}
use Rattle.tp_parse.specs.Source.{parse_outcome, IsOutcome}
use Rattle.tp_parse.specs.Spelled.{ReadsBack}
use Rattle.tp_parse.proofs.Exact.{read_accepted}
use Rattle.tp_parse.specs.SpelledText.{PrintedIsReadBack, OneSpelling, ParsesPrinted}
use Rattle.tp_parse.proofs.SpelledSources.{spellings_are_read_back}
use Rattle.tp_parse.proofs.SpelledWhole.{sources_are_whole}
use Rattle.tp_parse.proofs.TextSources.{spellings_have_their_tokens}
use Rattle.tp_parse.proofs.TextNames.{sources_are_spellable}

pub printed_is_read_back : PrintedIsReadBack
printed_is_read_back bytes ts s are is =
    let whole = sources_are_whole ts s is in
    let read = spellings_have_their_tokens s whole (sources_are_spellable bytes ts s are is) in
    (read.0, read.1, spellings_are_read_back read.0 s whole read.2)

level_unplaced : (k : KindTree) → kind_level (unplaced_kind k) ≡ kind_level k
level_unplaced (t.number n) = refl
level_unplaced _ = refl

mutual
  operand_unplaced : (level : ℕ) (p : PhraseTree) → operand_spelling level (unplaced p) ≡ operand_spelling level p
  operand_unplaced level (phrase at k) = ap₂ (λ i z. cond (nat_le i level) z (codes "(" ++ z ++ codes ")")) (level_unplaced k) (kind_unplaced k)

  operands_unplaced : (opening separator : List ℕ) (level : ℕ) (ps : PhraseTrees) → operands_spelling opening separator level (unplaced_all ps) ≡ operands_spelling opening separator level ps
  operands_unplaced opening separator level no_phrase = refl
  operands_unplaced opening separator level (phrase_then p ps) = ap₂ (λ y z. opening ++ y ++ z) (operand_unplaced level p) (operands_unplaced separator separator level ps)

  kind_unplaced : (k : KindTree) → kind_spelling (unplaced_kind k) ≡ kind_spelling k
  kind_unplaced (t.number n) = refl
  kind_unplaced (t.truth x) = refl
  kind_unplaced (t.name x) = refl
  kind_unplaced (t.list ps) = ap (λ y. codes "<" ++ y ++ codes ">") (operands_unplaced [] (codes ", ") 4 ps)
  kind_unplaced (t.size p) = ap (λ y. codes "|" ++ y ++ codes "|") (operand_unplaced 4 p)
  kind_unplaced (t.index p q) = ap₂ (λ y z. y ++ codes "[" ++ z ++ codes "]") (operand_unplaced 1 p) (operand_unplaced 11 q)
  kind_unplaced (t.minus p) = ap (λ y. codes "-" ++ y) (operand_unplaced 2 p)
  kind_unplaced (t.next p) = ap (λ y. codes "next " ++ y) (operand_unplaced 2 p)
  kind_unplaced (t.negation p) = ap (λ y. codes "not " ++ y) (operand_unplaced 6 p)
  kind_unplaced (t.binary o p q) = ap₂ (λ y z. y ++ codes " " ++ op_spelling o ++ codes " " ++ z) (operand_unplaced (left_level o) p) (operand_unplaced (right_level o) q)
  kind_unplaced (t.conjunction ps) = operands_unplaced [] (codes " and ") 6 ps
  kind_unplaced (t.choice p q) = ap₂ (λ y z. codes "if " ++ y ++ codes " then " ++ z) (operand_unplaced 11 p) (operand_unplaced 10 q)
  kind_unplaced (t.choice_else p q v) =
      ap₂ (λ y z. codes "if " ++ y ++ codes " then " ++ z ++ codes " else " ++ operand_spelling 11 (unplaced v)) (operand_unplaced 11 p) (operand_unplaced 10 q)
      ∙ ap (λ y. codes "if " ++ operand_spelling 11 p ++ codes " then " ++ operand_spelling 10 q ++ codes " else " ++ y) (operand_unplaced 11 v)
  kind_unplaced (t.while p q) = ap₂ (λ y z. codes "while " ++ y ++ codes " do " ++ z) (operand_unplaced 11 p) (operand_unplaced 11 q)
  kind_unplaced (t.repeat p q) = ap₂ (λ y z. codes "repeat " ++ y ++ codes " until " ++ z) (operand_unplaced 11 p) (operand_unplaced 11 q)
  kind_unplaced (t.for x p q) = ap₂ (λ y z. (codes "for " ++ x ++ codes " < " ++ y) ++ codes " do " ++ z) (operand_unplaced 11 p) (operand_unplaced 11 q)
  kind_unplaced (t.forall x p q) = ap₂ (λ y z. (codes "forall " ++ x ++ codes " < " ++ y) ++ codes " : " ++ z) (operand_unplaced 11 p) (operand_unplaced 11 q)
  kind_unplaced (t.exists xs p) = ap (λ y. codes "exists " ++ names_spelling [] xs ++ codes " : " ++ y) (operand_unplaced 11 p)
  kind_unplaced (t.bare w) = refl
  kind_unplaced (t.form x ps) = ap (λ y. form_spelling x ++ codes "(" ++ y ++ codes ")") (operands_unplaced [] (codes ", ") 11 ps)
  kind_unplaced (t.call x ps) = ap (λ y. x ++ codes "(" ++ y ++ codes ")") (operands_unplaced [] (codes ", ") 11 ps)

phrase_unplaced : (p : PhraseTree) → phrase_spelling (unplaced p) ≡ phrase_spelling p
phrase_unplaced (phrase at k) = kind_unplaced k

definitions_unplaced : (ds : List DefinitionTree) → definitions_spelling (map unplaced_definition ds) ≡ definitions_spelling ds
definitions_unplaced [] = refl
definitions_unplaced (d ∷ ds) =
    ap₂ (λ y z. (codes "define " ++ d.name ++ codes "(" ++ names_spelling [] d.parameters ++ codes ") = " ++ y ++ codes ".\n") ++ z) (phrase_unplaced d.body) (definitions_unplaced ds)

source_unplaced : (s : SourceTree) → source_spelling (unplaced_source s) ≡ source_spelling s
source_unplaced s = ap₂ (λ y z. y ++ codes "run " ++ z ++ codes ".\n") (definitions_unplaced s.definitions) (phrase_unplaced s.main)

pub one_spelling : OneSpelling
one_spelling s u same = sym (source_unplaced s) ∙ (ap source_spelling same ∙ source_unplaced u)

-- ---- what `parse` answers for what `print` wrote

read_printed : (us bytes_tokens : Tokens) (bytes : List ℕ) (s : SourceTree) → AreTokens bytes bytes_tokens → Accepts bytes_tokens s → AreTokens (source_spelling s) us → ReadsBack us s
read_printed us ts bytes s are is printed =
    let read = printed_is_read_back bytes ts s are is in
    subst (λ vs. ReadsBack vs s) (one_list (source_spelling s) read.0 us read.1 printed) read.2

pub printed_parsed : (us : Tokens) (result : Result Source ParseRefusal) → IsOutcome (parse_outcome us) result → ParsesPrinted us result
printed_parsed us (Ok x) outcome bytes ts s are is printed =
    let back = read_printed us ts bytes s are is printed in
    ap unplaced_source (back.only (source_tree x) (read_accepted us (source_tree x) outcome)) ∙ back.same
printed_parsed us (Err e) outcome bytes ts s are is printed =
    let back = read_printed us ts bytes s are is printed in
    λ some. (
      back.tree,
      back.height,
      back.source,
      elim (cases_lt limit back.height) [
        | inl high ↦ high
        | inr low ↦ (let refused = outcome some in let parsed = back.parsed low in absurd (let w = sym refused ∙ parsed in cc))
      ],
    )
