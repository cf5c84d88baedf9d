-- Tokens with the same marks are as much a source: texts, numbers and places go into the tree alone.
use Rattle.std.proofs.Common.{◌≡◌, ◌≢◌, ◌⊎◌, ℕ, suc, true, false, cond, List, [], ◌∷◌, ◌++◌, drop, refl, sym, ap, subst, ◌∙◌}
use Rattle.tp_lex.specs.declared.token.Token.{Token}
use Rattle.tp_lex.specs.declared.token.Kind.{Kind}
use Rattle.tp_lex.specs.declared.token.Kind.TheVariants as kind
use Rattle.tp_tree.specs.Tree.{PhraseTree, DefinitionTree, SourceTree}
use Rattle.tp_parse.specs.declared.mark.TokenMark.{TokenMark}
use Rattle.tp_parse.specs.declared.mark.TokenMark.TheVariants as m
use Rattle.tp_parse.specs.declared.mark.Enclosure.{Enclosure}
use Rattle.tp_parse.specs.declared.head.Atom.{Atom}
use Rattle.tp_parse.specs.declared.head.Listed.{Listed}
use Rattle.tp_parse.specs.declared.head.Pair.{Pair}
use Rattle.tp_parse.specs.declared.head.PrimaryHead.TheVariants as h
use Rattle.tp_parse.specs.Marks.{kind_mark, same, prefix_at, role_at, start_of, comma, listed_level, listed_close, middle, Tokens, mark, from, half_mark, mark_due, without_half, past, left_of}
use Rattle.tp_parse.specs.Readers.{mark_without_half}
use Rattle.tp_parse.specs.Grammar.{Found, found, Operands, operands_of, of_infix, of_index, start, ReadsNames, BeginsPrimary, Parses, Goes, Others, Listing, Parameters, Sentence, Defines, Definitions, IsSource}
use Rattle.tp_parse.specs.Grammar as g

-- the same marks in the same order
pub data SameMarks : Tokens → Tokens → Type 0 where
  none : SameMarks [] []
  one : {t u : Token} {ts us : Tokens} → kind_mark u.kind ≡ kind_mark t.kind → SameMarks ts us → SameMarks (t ∷ ts) (u ∷ us)

pub behind_same : (front : Tokens) {ts us : Tokens} → SameMarks ts us → SameMarks (front ++ ts) (front ++ us)
behind_same [] l = l
behind_same (t ∷ front) l = one refl (behind_same front l)

-- ---- the next token

on : {ts us : Tokens} → SameMarks ts us → mark us ≡ mark ts
unfolding mark
on none = refl
on (one e l) = e

due : {ts us : Tokens} → SameMarks ts us → mark_due us ≡ mark_due ts
due l = ap half_mark (on l)

begun : {ts us : Tokens} → SameMarks ts us → start us ≡ start ts
begun l = ap start_of (on l)

other : {ts us : Tokens} {x : TokenMark} → SameMarks ts us → mark ts ≢ x → mark us ≢ x
other l n q = n (sym (on l) ∙ q)

later : {ts us : Tokens} → SameMarks ts us → SameMarks (drop 1 ts) (drop 1 us)
later none = none
later (one e l) = l

half_is : (k : Kind) → kind_mark (without_half k) ≡ mark_without_half (kind_mark k)
half_is (kind.Symbol x) = refl
half_is (kind.Word w) = refl
half_is (kind.Number n) = refl
half_is (kind.Upper x) = refl
half_is (kind.Lower x) = refl

halves : {ts us : Tokens} → SameMarks ts us → SameMarks (left_of true ts) (left_of true us)
halves none = none
halves (one {t = t} {u = u} e l) = one (half_is u.kind ∙ (ap mark_without_half e ∙ sym (half_is t.kind))) l

passed : {ts us : Tokens} → SameMarks ts us → SameMarks (past ts) (past us)
unfolding past
passed {ts} {us} l =
    subst (λ x. SameMarks (past ts) (cond (same (half_mark x) x) (drop 1 us) (left_of true us))) (sym (on l))
    (elim (same (mark_due ts) (mark ts)) as (λ b. SameMarks (cond b (drop 1 ts) (left_of true ts)) (cond b (drop 1 us) (left_of true us))) [ true ↦ later l | false ↦ halves l ])

-- ---- names and heads

named : {ts us : Tokens} → SameMarks ts us → (mark ts ≡ m.Upper) ⊎ (mark ts ≡ m.Lower) → (mark us ≡ m.Upper) ⊎ (mark us ≡ m.Lower)
named l n = subst (λ x. (x ≡ m.Upper) ⊎ (x ≡ m.Lower)) (sym (on l)) n

names_same : {ts us rest : Tokens} {xs : List (List ℕ)} → SameMarks ts us → ReadsNames ts xs rest → (ys : List (List ℕ)) × (end : Tokens) × ReadsNames us ys end × SameMarks rest end
names_same l (g.last_name n e) = (_, _, g.last_name (named l n) (other (later l) e), later l)
names_same l (g.name_then n e d) = let more = names_same (later (later l)) d in (_, _, g.name_then (named l n) (on (later l) ∙ e) more.2, more.3)

atom_same : {ts us mid : Tokens} {x : Atom} → SameMarks ts us → BeginsPrimary ts (h.Atom x) mid → (y : Atom) × (end : Tokens) × BeginsPrimary us (h.Atom y) end × SameMarks mid end
atom_same l (g.number e) = (_, _, g.number (begun l ∙ e), later l)
atom_same l (g.truth e) = (_, _, g.truth (begun l ∙ e), later l)
atom_same l (g.upper_name e) = (_, _, g.upper_name (begun l ∙ e), later l)
atom_same l (g.lower_name e f) = (_, _, g.lower_name (begun l ∙ e) (other (later l) f), later l)
atom_same l (g.bare e) = (_, _, g.bare (begun l ∙ e), later l)
atom_same l (g.empty_list e) = (_, _, g.empty_list (begun l ∙ e), later l)

listed_same : {ts us mid : Tokens} {x : Listed} → SameMarks ts us → BeginsPrimary ts (h.Listed x) mid
    → (y : Listed) × (end : Tokens) × BeginsPrimary us (h.Listed y) end × SameMarks mid end × (listed_level y ≡ listed_level x) × (listed_close y ≡ listed_close x)
listed_same l (g.call e f) = (_, _, g.call (begun l ∙ e) (on (later l) ∙ f), later (later l), refl, refl)
listed_same l (g.form e f) = (_, _, g.form (begun l ∙ e) (due (later l) ∙ f), passed (later l), refl, refl)
listed_same l (g.list e) = (_, _, g.list (begun l ∙ e), passed l, refl, refl)

enclosed_same : {ts us mid : Tokens} {x : Enclosure} → SameMarks ts us → BeginsPrimary ts (h.Enclosed x) mid → (end : Tokens) × BeginsPrimary us (h.Enclosed x) end × SameMarks mid end
enclosed_same l (g.enclosure e) = (_, g.enclosure (begun l ∙ e), later l)

if_same : {ts us mid : Tokens} → SameMarks ts us → BeginsPrimary ts h.If mid → (end : Tokens) × BeginsPrimary us h.If end × SameMarks mid end
if_same l (g.if e) = (_, g.if (begun l ∙ e), later l)

pair_same : {ts us mid : Tokens} {x : Pair} → SameMarks ts us → BeginsPrimary ts (h.Paired x) mid
    → (y : Pair) × (end : Tokens) × BeginsPrimary us (h.Paired y) end × SameMarks mid end × (middle y ≡ middle x)
pair_same l (g.while e) = (_, _, g.while (begun l ∙ e), later l, refl)
pair_same l (g.repeat e) = (_, _, g.repeat (begun l ∙ e), later l, refl)
pair_same l (g.for e n f) = (_, _, g.for (begun l ∙ e) (on (later l) ∙ n) (due (later (later l)) ∙ f), passed (later (later l)), refl)
pair_same l (g.forall e n f) = (_, _, g.forall (begun l ∙ e) (on (later l) ∙ n) (due (later (later l)) ∙ f), passed (later (later l)), refl)

exists_same : {ts us mid : Tokens} {xs : List (List ℕ)} → SameMarks ts us → BeginsPrimary ts (h.Exists xs) mid
    → (ys : List (List ℕ)) × (end : Tokens) × BeginsPrimary us (h.Exists ys) end × SameMarks mid end
exists_same l (g.exists e d f) = let n = names_same (later l) d in (_, _, g.exists (begun l ∙ e) n.2 (due n.3 ∙ f), passed n.3)

-- ---- phrases

-- a phrase of the same height, and what is left of the same marks
abbrev Again : ℕ → Tokens → ℕ → Tokens → Type 0
Again k us height rest = (t : PhraseTree) × (end : Tokens) × Parses k us (found t height) end × SameMarks rest end

mutual
  phrase_same : {k : ℕ} {ts us rest : Tokens} {x : Found} → SameMarks ts us → Parses k ts x rest → Again k us x.height rest
  phrase_same l (g.atom b) = let a = atom_same l b in (_, _, g.atom a.2, a.3)
  phrase_same l (g.listed b o) =
      let a = listed_same l b in
      let c = listing_same a.4 a.5 a.3 o in
      (_, _, g.listed a.2 c.2, c.3)
  phrase_same l (g.enclosed b d f) =
      let a = enclosed_same l b in
      let p = phrase_same a.2 d in
      (_, _, g.enclosed a.1 p.2 (due p.3 ∙ f), passed p.3)
  phrase_same l (g.if_then b d f c n) =
      let a = if_same l b in
      let p = phrase_same a.2 d in
      let q = phrase_same (passed p.3) c in
      (_, _, g.if_then a.1 p.2 (due p.3 ∙ f) q.2 (other q.3 n), q.3)
  phrase_same l (g.if_else b d f c e i) =
      let a = if_same l b in
      let p = phrase_same a.2 d in
      let q = phrase_same (passed p.3) c in
      let r = phrase_same (later q.3) i in
      (_, _, g.if_else a.1 p.2 (due p.3 ∙ f) q.2 (on q.3 ∙ e) r.2, r.3)
  phrase_same l (g.paired b d f c) =
      let a = pair_same l b in
      let p = phrase_same a.3 d in
      let q = phrase_same (passed p.3) c in
      (_, _, g.paired a.2 p.2 (due p.3 ∙ (f ∙ sym a.4)) q.2, q.3)
  phrase_same l (g.quantified b d) =
      let a = exists_same l b in
      let p = phrase_same a.3 d in
      (_, _, g.quantified a.2 p.2, p.3)
  phrase_same l (g.prefixed {k = k} e d) = let p = phrase_same (later l) d in (_, _, g.prefixed (ap (prefix_at (suc k)) (on l) ∙ e) p.2, p.3)
  phrase_same {us = us} l (g.level d c) =
      let p = phrase_same l d in
      let q = goes_same p.3 (from us) p.0 c in
      (_, _, g.level p.2 q.2, q.3)

  goes_same : {k at : ℕ} {x y : Found} {ts us rest : Tokens} → SameMarks ts us → (to : ℕ) (t : PhraseTree) → Goes k at x ts y rest
      → (u : PhraseTree) × (end : Tokens) × Goes k to (found t x.height) us (found u y.height) end × SameMarks rest end
  goes_same {k = k} l to t (g.ends e) = (t, _, g.ends (ap (role_at k) (on l) ∙ e), l)
  goes_same {k = k} {x = x} l to t (g.left {o = o} {y = y} e w d c) =
      let p = phrase_same (later l) d in
      let q = goes_same p.3 to (of_infix to o (found t x.height) (found p.0 y.height)).tree c in
      (_, _, g.left (ap (role_at k) (on l) ∙ e) w p.2 q.2, q.3)
  goes_same {k = k} l to t (g.single e w d) = let p = phrase_same (later l) d in (_, _, g.single (ap (role_at k) (on l) ∙ e) w p.2, p.3)
  goes_same {k = k} l to t (g.right e w d) = let p = phrase_same (later l) d in (_, _, g.right (ap (role_at k) (on l) ∙ e) w p.2, p.3)
  goes_same {k = k} {x = x} l to t (g.indexed {i = i} e d f c) =
      let p = phrase_same (later l) d in
      let q = goes_same (passed p.3) to (of_index to (found t x.height) (found p.0 i.height)).tree c in
      (_, _, g.indexed (ap (role_at k) (on l) ∙ e) p.2 (due p.3 ∙ f) q.2, q.3)
  goes_same {k = k} l to t (g.joins e o) = let p = others_same l o in (_, _, g.joins (ap (role_at k) (on l) ∙ e) p.2, p.3)

  others_same : {k : ℕ} {separator : TokenMark} {all : Operands} {ts us rest : Tokens} → SameMarks ts us → Others k separator ts all rest
      → (xs : List PhraseTree) × (end : Tokens) × Others k separator us (operands_of xs all.height) end × SameMarks rest end
  others_same l (g.no_more n) = (_, _, g.no_more (other l n), l)
  others_same l (g.one_more e d o) =
      let p = phrase_same (later l) d in
      let q = others_same p.3 o in
      (_, _, g.one_more (on l ∙ e) p.2 q.2, q.3)

  listing_same : {k j : ℕ} {close shut : TokenMark} {all : Operands} {ts us rest : Tokens} → j ≡ k → shut ≡ close → SameMarks ts us → Listing k close ts all rest
      → (xs : List PhraseTree) × (end : Tokens) × Listing j shut us (operands_of xs all.height) end × SameMarks rest end
  listing_same same_level same_close l (g.no_operands e) = (_, _, g.no_operands (due l ∙ (e ∙ sym same_close)), passed l)
  listing_same {us = us} same_level same_close l (g.operands {x = x} {all = all} d o e) =
      let p = phrase_same l d in
      let q = others_same p.3 o in
      let first = subst (λ i. Parses i us (found p.0 x.height) p.1) (sym same_level) p.2 in
      let more = subst (λ i. Others i comma p.1 (operands_of q.0 all.height) q.1) (sym same_level) q.2 in
      (_, _, g.operands first more (due q.3 ∙ (e ∙ sym same_close)), passed q.3)

-- ---- sources

sentence_same : {ts us rest : Tokens} {x : Found} → SameMarks ts us → Sentence ts x rest → (t : PhraseTree) × (end : Tokens) × Sentence us (found t x.height) end × SameMarks rest end
sentence_same l (g.sentence d e) = let p = phrase_same l d in (_, _, g.sentence p.2 (due p.3 ∙ e), passed p.3)

parameters_same : {ts us rest : Tokens} {xs : List (List ℕ)} → SameMarks ts us → Parameters ts xs rest → (ys : List (List ℕ)) × (end : Tokens) × Parameters us ys end × SameMarks rest end
parameters_same l (g.no_parameters e) = (_, _, g.no_parameters (on l ∙ e), later l)
parameters_same l (g.parameters d e) = let n = names_same l d in (_, _, g.parameters n.2 (due n.3 ∙ e), passed n.3)

defines_same : {ts us rest : Tokens} {d : DefinitionTree} {i : ℕ} → SameMarks ts us → Defines ts d i rest → (c : DefinitionTree) × (end : Tokens) × Defines us c i end × SameMarks rest end
defines_same l (g.defines begins n o xs e b) =
    let next = later (later l) in
    let p = parameters_same (passed next) xs in
    let q = sentence_same (passed p.3) b in
    (_, _, g.defines (on l ∙ begins) (on (later l) ∙ n) (due next ∙ o) p.2 (due p.3 ∙ e) q.2, q.3)

definitions_same : {ts us rest : Tokens} {ds : List DefinitionTree} {i : ℕ} → SameMarks ts us → Definitions ts ds i rest
    → (cs : List DefinitionTree) × (end : Tokens) × Definitions us cs i end × SameMarks rest end
definitions_same l (g.no_definition n) = (_, _, g.no_definition (other l n), l)
definitions_same l (g.definition_then d e) =
    let p = defines_same l d in
    let q = definitions_same p.3 e in
    (_, _, g.definition_then p.2 q.2, q.3)

ends_same : {ts us : Tokens} → SameMarks ts us → ts ≡ [] → us ≡ []
ends_same none e = refl
ends_same (one f l) e = absurd cc

pub source_same : {ts us : Tokens} {x : SourceTree} {i : ℕ} → SameMarks ts us → IsSource ts x i → (y : SourceTree) × IsSource us y i
source_same l (g.source d e b none_left) =
    let p = definitions_same l d in
    let q = sentence_same (passed p.3) b in
    (_, g.source p.2 (due p.3 ∙ e) q.2 (ends_same q.3 none_left))
