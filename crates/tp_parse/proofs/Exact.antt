-- Sources: what is read is accepted, and what is accepted is read.
use Rattle.std.proofs.Common.{◌≡◌, ◌≢◌, ℕ, zero, suc, ◌<◌, ◌≤◌, max, inl, inr, List, [], ◌∷◌, ◌++◌, length, drop, Ok, Err, refl, sym, ap, subst, ◌∙◌, arith, append_assoc}
use Rattle.std.proofs.lemmas.List.{append-nil}
use Rattle.tp_lex.specs.declared.token.Word.TheVariants as word
use Rattle.tp_lex.specs.declared.token.Symbol.TheVariants as symbol
use Rattle.tp_tree.specs.Tree.{PhraseTree, DefinitionTree, SourceTree}
use Rattle.tp_parse.specs.declared.mark.TokenMark.TheVariants as m
use Rattle.tp_parse.specs.declared.stop.Refusal.{Refusal}
use Rattle.tp_parse.specs.declared.stop.Refusal.TheVariants.{Unexpected, Unfinished, TooDeep, NoMemory}
use Rattle.tp_parse.specs.declared.refusal.ParseRefusal.{ParseRefusal}
use Rattle.tp_tree.specs.Levels.{chop_level}
use Rattle.tp_parse.specs.Marks.{Tokens, mark, from, past, first_name}
use Rattle.tp_parse.specs.Readers.{ReadOutcome, TokenReader, and_then, sees, names}
use Rattle.tp_parse.specs.Grammar.{Found, limit, defined, source_of, ReadsNames, last_name, name_then, Parameters, no_parameters, parameters, Sentence, sentence, Defines, defines, Definitions, no_definition, definition_then, IsSource, source, Accepts}
use Rattle.tp_parse.specs.Reading.{read}
use Rattle.tp_parse.specs.Source as s
use Rattle.tp_parse.proofs.Marks.{same_is, same_not, same_yes, same_no}
use Rattle.tp_parse.proofs.Shapes.{taken, dropped, passed, shorter, names_shorter}
use Rattle.tp_parse.proofs.Heads.{bind_ok, fine, ok_is, chosen, expect_then, expect_is, lower_then, lower_is, names_sound, names_complete}
use Rattle.tp_parse.proofs.Sound.{read_sound}
use Rattle.tp_parse.proofs.Complete.{read_complete}
use Rattle.tp_parse.proofs.Within.{Names as Leaves, Within, refusal_within, source_within}

-- a sentence whose phrase is low enough
abbrev LowSentence : Tokens → Found → Tokens → Type 0
LowSentence ts x rest = Sentence ts x rest × (x.height ≤ limit)

sentence_then : {B : Type 0} (ts : Tokens) (f : PhraseTree → TokenReader B) (y : B × Tokens) → and_then (s.sentence ts) f ≡ Ok y
    → (x : Found) × (rest : Tokens) × LowSentence ts x rest × (f x.tree rest ≡ Ok y)
unfolding s.sentence
sentence_then ts f y e =
    let a = bind_ok (s.sentence ts) f y e in
    let b = bind_ok (read limit chop_level ts) _ a.0 a.1 in
    let is = read_sound limit chop_level ts b.0 b.1 in
    let c = expect_then (m.Symbol symbol.Stop) b.0.1 _ a.0 b.2 in
    let made = ok_is (b.0.0.tree, past b.0.1) a.0 c.1 in
    (b.0.0, past b.0.1, (sentence is.0 c.0, is.1), ap (λ (q : PhraseTree × Tokens). f q.0 q.1) made ∙ a.2)

sentence_is : {ts rest : Tokens} {x : Found} → Sentence ts x rest → x.height ≤ limit → s.sentence ts ≡ Ok (x.tree, rest)
unfolding s.sentence
sentence_is {ts} (sentence {end = end} {x = x} d e) low = rw (read_complete limit chop_level ts x end d low, expect_is (m.Symbol symbol.Stop) end e) refl

pub parameters_sound : (ts : Tokens) (q : List (List ℕ) × Tokens) → s.parameters ts ≡ Ok q → Parameters ts q.0 q.1
unfolding s.parameters
parameters_sound ts q e =
    elim (chosen (sees (m.Symbol symbol.CloseRound) ts) _ _ _ e) [
      | inl w ↦ subst (λ (z : List (List ℕ) × Tokens). Parameters ts z.0 z.1) (ok_is ([], drop 1 ts) q w.1) (no_parameters (same_is _ _ w.0))
      | inr w ↦
          let xs = bind_ok (names ts) _ q w.1 in
          let d = expect_then (m.Symbol symbol.CloseRound) xs.0.1 _ q xs.2 in
          subst (λ (z : List (List ℕ) × Tokens). Parameters ts z.0 z.1) (ok_is (xs.0.0, past xs.0.1) q d.1) (parameters (names_sound ts xs.0 xs.1) d.0)
    ]

names_open : {ts rest : Tokens} {xs : List (List ℕ)} → ReadsNames ts xs rest → mark ts ≢ m.Symbol symbol.CloseRound
names_open (last_name (inl n) e) q = absurd cc
names_open (last_name (inr n) e) q = absurd cc
names_open (name_then (inl n) e d) q = absurd cc
names_open (name_then (inr n) e d) q = absurd cc

pub parameters_is : {ts rest : Tokens} {xs : List (List ℕ)} → Parameters ts xs rest → s.parameters ts ≡ Ok (xs, rest)
unfolding s.parameters
parameters_is {ts} (no_parameters e) = rw (same_yes (mark ts) (m.Symbol symbol.CloseRound) e) refl
parameters_is {ts} (parameters {mid = mid} d e) =
    rw (same_no (mark ts) (m.Symbol symbol.CloseRound) (names_open d), names_complete d, expect_is (m.Symbol symbol.CloseRound) mid e) refl

abbrev pub LowDefines : Tokens → DefinitionTree → ℕ → Tokens → Type 0
LowDefines ts d h rest = Defines ts d h rest × (h ≤ limit)

pub definition_then_is : {B : Type 0} (ts : Tokens) (f : DefinitionTree → TokenReader B) (y : B × Tokens) → mark ts ≡ m.Word word.Define → and_then (s.definition ts) f ≡ Ok y
    → (d : DefinitionTree) × (h : ℕ) × (rest : Tokens) × LowDefines ts d h rest × (f d rest ≡ Ok y)
unfolding s.definition
definition_then_is ts f y begins e =
    let a = bind_ok (s.definition ts) f y e in
    let x = lower_then (drop 1 ts) _ a.0 a.1 in
    let o = expect_then (m.Symbol symbol.OpenRound) (drop 1 (drop 1 ts)) _ a.0 x.1 in
    let xs = bind_ok (s.parameters (past (drop 1 (drop 1 ts)))) _ a.0 o.1 in
    let q = expect_then (m.Symbol symbol.Equal) xs.0.1 _ a.0 xs.2 in
    let b = sentence_then (past xs.0.1) _ a.0 q.1 in
    let d = defined (first_name (drop 1 ts)) (from ts) xs.0.0 b.0.tree in
    let made = ok_is (d, b.1) a.0 b.3 in
    (d, b.0.height, b.1, (defines begins x.0 o.0 (parameters_sound _ xs.0 xs.1) q.0 b.2.0, b.2.1), ap (λ (z : DefinitionTree × Tokens). f z.0 z.1) made ∙ a.2)

definition_is : {ts rest : Tokens} {d : DefinitionTree} {h : ℕ} → Defines ts d h rest → h ≤ limit → s.definition ts ≡ Ok (d, rest)
unfolding s.definition
definition_is {ts} (defines {mid = mid} begins n o xs q b) low =
    rw (lower_is (drop 1 ts) n, expect_is (m.Symbol symbol.OpenRound) (drop 1 (drop 1 ts)) o, parameters_is xs, expect_is (m.Symbol symbol.Equal) mid q, sentence_is b low) refl

parameters_shorter : {ts rest : Tokens} {xs : List (List ℕ)} → Parameters ts xs rest → length rest ≤ length ts
parameters_shorter {ts} (no_parameters e) = dropped ts
parameters_shorter (parameters {mid = mid} d e) = omega (arith, names_shorter d, passed mid)

sentence_shorter : {ts rest : Tokens} {x : Found} → Sentence ts x rest → length rest ≤ length ts
sentence_shorter (sentence {end = end} d e) = omega (arith, shorter d, passed end)

pub defines_shorter : {ts rest : Tokens} {d : DefinitionTree} {h : ℕ} → Defines ts d h rest → length rest < length ts
defines_shorter {ts} (defines {mid = mid} begins n o xs q b) =
    omega (arith, taken ts _ begins (λ z. cc), dropped (drop 1 ts), passed (drop 1 (drop 1 ts)), parameters_shorter xs, passed mid, sentence_shorter b)

pub definitions_sound : (n : ℕ) (ds : List DefinitionTree) (ts : Tokens) (q : List DefinitionTree × Tokens) → length ts ≤ n → s.definitions_from n ds ts ≡ Ok q
    → (more : List DefinitionTree) × (h : ℕ) × Definitions ts more h q.1 × (q.0 ≡ ds ++ more) × (h ≤ limit)
unfolding s.definitions_from
definitions_sound zero ds ts q few e =
    let is = ok_is (ds, ts) q e in (
      [],
      0,
      subst (λ (z : List DefinitionTree × Tokens). Definitions ts [] 0 z.1) is (no_definition (λ at. absurd (omega (arith, taken ts _ at (λ w. cc))))),
      ap (λ (z : List DefinitionTree × Tokens). z.0) (sym is) ∙ sym (append-nil ds),
      omega arith,
    )
definitions_sound (suc n) ds ts q few e =
    elim (chosen (sees (m.Word word.Define) ts) _ _ _ e) [
      | inl w ↦
          let d = definition_then_is ts _ q (same_is _ _ w.0) w.1 in
          let others = definitions_sound n (ds ++ d.0 ∷ []) d.2 q (omega (arith, defines_shorter d.3.0)) d.4 in
          (d.0 ∷ others.0, max d.1 others.1, definition_then d.3.0 others.2, others.3 ∙ append_assoc ds (d.0 ∷ []) others.0, omega (arith, d.3.1, others.4))
      | inr w ↦
          let is = ok_is (ds, ts) q w.1 in (
            [],
            0,
            subst (λ (z : List DefinitionTree × Tokens). Definitions ts [] 0 z.1) is (no_definition (same_not _ _ w.0)),
            ap (λ (z : List DefinitionTree × Tokens). z.0) (sym is) ∙ sym (append-nil ds),
            omega arith,
          )
    ]

definitions_complete : {ts rest : Tokens} {more : List DefinitionTree} {h : ℕ} → Definitions ts more h rest → h ≤ limit → (n : ℕ) (ds : List DefinitionTree) → length ts ≤ n
    → s.definitions_from n ds ts ≡ Ok (ds ++ more, rest)
unfolding s.definitions_from
definitions_complete {ts} (no_definition e) low zero ds few = ap (λ z. fine (z, ts)) (sym (append-nil ds))
definitions_complete {ts} (no_definition e) low (suc n) ds few = rw (same_no (mark ts) (m.Word word.Define) e) (ap (λ z. fine (z, ts)) (sym (append-nil ds)))
definitions_complete (definition_then d e) low zero ds few = absurd (omega (arith, defines_shorter d))
definitions_complete {ts} {rest} (definition_then {d = x} {ds = more} d e) low (suc n) ds few =
    let others = definitions_complete e (omega arith) n (ds ++ x ∷ []) (omega (arith, defines_shorter d)) in
    rw (same_yes (mark ts) (m.Word word.Define) (begins d), definition_is d (omega arith)) (others ∙ ap (λ z. fine (z, rest)) (append_assoc ds (x ∷ []) more))
  where
    begins : {us end : Tokens} {z : DefinitionTree} {h : ℕ} → Defines us z h end → mark us ≡ m.Word word.Define
    begins (defines at n o xs q b) = at

ended_ok : (x : SourceTree) (ts : Tokens) (q : SourceTree × Tokens) → s.ended x ts ≡ Ok q → (ts ≡ []) × (q ≡ (x, []))
unfolding s.ended
ended_ok x [] q e = (refl, sym (ok_is (x, []) q e))
ended_ok x (t ∷ ts) q e = absurd cc

pub source_sound : (ts : Tokens) (q : SourceTree × Tokens) → s.source ts ≡ Ok q → Accepts ts q.0
unfolding s.source s.definitions
source_sound ts q e =
    let a = bind_ok (s.definitions_from (length ts) [] ts) _ q e in
    let ds = definitions_sound (length ts) [] ts a.0 (omega arith) a.1 in
    let r = expect_then (m.Word word.Run) a.0.1 _ q a.2 in
    let b = sentence_then (past a.0.1) _ q r.1 in
    let end = ended_ok (source_of a.0.0 b.0.tree) b.1 q b.3 in
    let same : source_of ds.0 b.0.tree ≡ q.0 = ap (λ z. source_of z b.0.tree) (sym ds.3) ∙ ap (λ (z : SourceTree × Tokens). z.0) (sym end.1) in
    subst (Accepts ts) same (record { height = max ds.1 b.0.height; source = source ds.2 r.0 b.2.0 end.0; low = omega (arith, ds.4, b.2.1) })

source_is : {ts : Tokens} {x : SourceTree} {h : ℕ} → IsSource ts x h → h ≤ limit → s.source ts ≡ Ok (x, [])
unfolding s.source s.definitions s.ended
source_is {ts} (source {mid = mid} d r b e) low =
    rw (definitions_complete d (omega arith) (length ts) [] (omega arith), expect_is (m.Word word.Run) mid r, sentence_is b (omega arith), e) refl

pub source_complete : (ts : Tokens) (x : SourceTree) → Accepts ts x → s.source ts ≡ Ok (x, [])
source_complete ts x is = source_is is.source is.low

-- ---- the outcome

pub read_accepted : (ts : Tokens) (x : SourceTree) → s.parse_outcome ts ≡ Ok x → Accepts ts x
read_accepted ts x e = by (s.source ts) refl e
  where
    by : (o : ReadOutcome SourceTree) → s.source ts ≡ o → s.outcome_by (length ts) o ≡ Ok x → Accepts ts x
    by (Ok q) is made = let same : q.0 ≡ x = cc in subst (Accepts ts) same (source_sound ts q is)
    by (Err d) is made = absurd cc

pub accepted_read : (ts : Tokens) (x : SourceTree) → Accepts ts x → s.parse_outcome ts ≡ Ok x
accepted_read ts x is = ap (s.outcome_by (length ts)) (source_complete ts x is)

named_token : (n : ℕ) (e : Refusal) → Leaves n e → s.NamesToken n (s.named n e)
named_token n (Unexpected k) is = omega (arith, is.0, is.1)
named_token n (TooDeep k) is = omega (arith, is.0, is.1)
named_token n Unfinished is = tt
named_token n NoMemory is = tt

pub refusal_named : (ts : Tokens) (e : ParseRefusal) → s.parse_outcome ts ≡ Err e → s.NamesToken (length ts) e
refusal_named ts e is = by (s.source ts) (source_within ts) is
  where
    by : (o : ReadOutcome SourceTree) → Within ts o → s.outcome_by (length ts) o ≡ Err e → s.NamesToken (length ts) e
    by (Ok q) w made = absurd cc
    by (Err d) w made = let same : s.named (length ts) d ≡ e = cc in subst (s.NamesToken (length ts)) same (named_token (length ts) d (refusal_within w))
