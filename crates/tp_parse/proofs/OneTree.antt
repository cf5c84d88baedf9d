-- Tokens are one source of the grammar at most, however high its phrases are.
use Rattle.std.proofs.Common.{◌≡◌, ◌≢◌, ◌⊎◌, inl, inr, ℕ, max, List, ◌∷◌, drop, refl, sym, ap, ap₂, subst, ◌∙◌, arith}
use Rattle.tp_lex.specs.declared.token.Word.TheVariants as word
use Rattle.tp_tree.specs.Tree.{DefinitionTree, SourceTree}
use Rattle.tp_parse.specs.declared.mark.TokenMark.TheVariants as m
use Rattle.tp_parse.specs.Marks.{Tokens, mark, from, first_name, past}
use Rattle.tp_parse.specs.Grammar.{Found, defined, source_of, ReadsNames, Parses, Parameters, Sentence, Defines, Definitions, IsSource}
use Rattle.tp_parse.specs.Grammar as g
use Rattle.tp_parse.proofs.Heads.{ok_is}
use Rattle.tp_parse.proofs.Complete.{read_complete}

phrase_one : {k : ℕ} {ts r q : Tokens} {x y : Found} → Parses k ts x r → Parses k ts y q → (x ≡ y) × (r ≡ q)
phrase_one {k} {ts} {r} {q} {x} {y} d e =
    let room = max x.height y.height in
    let one = read_complete room k ts x r d (omega arith) in
    let other = read_complete room k ts y q e (omega arith) in
    let same = ok_is (x, r) (y, q) (sym one ∙ other) in
    (ap (λ (z : Found × Tokens). z.0) same, ap (λ (z : Found × Tokens). z.1) same)

names_one : {ts r q : Tokens} {xs ys : List (List ℕ)} → ReadsNames ts xs r → ReadsNames ts ys q → (xs ≡ ys) × (r ≡ q)
names_one (g.last_name n e) (g.last_name o f) = (refl, refl)
names_one (g.last_name n e) (g.name_then o f d) = absurd (e f)
names_one (g.name_then n e d) (g.last_name o f) = absurd (f e)
names_one {ts = ts} (g.name_then n e d) (g.name_then o f c) = let same = names_one d c in (ap (λ zs. first_name ts ∷ zs) same.0, same.1)

name_begins : {ts r : Tokens} {xs : List (List ℕ)} → ReadsNames ts xs r → (mark ts ≡ m.Upper) ⊎ (mark ts ≡ m.Lower)
name_begins (g.last_name n e) = n
name_begins (g.name_then n e d) = n

no_close : (ts : Tokens) → (mark ts ≡ m.Upper) ⊎ (mark ts ≡ m.Lower) → mark ts ≢ g.close_round
no_close ts (inl e) q = let w = sym e ∙ q in cc
no_close ts (inr e) q = let w = sym e ∙ q in cc

parameters_one : {ts r q : Tokens} {xs ys : List (List ℕ)} → Parameters ts xs r → Parameters ts ys q → (xs ≡ ys) × (r ≡ q)
parameters_one (g.no_parameters e) (g.no_parameters f) = (refl, refl)
parameters_one {ts = ts} (g.no_parameters e) (g.parameters d c) = absurd (no_close ts (name_begins d) e)
parameters_one {ts = ts} (g.parameters d c) (g.no_parameters e) = absurd (no_close ts (name_begins d) e)
parameters_one (g.parameters d c) (g.parameters e f) = let same = names_one d e in (same.0, ap past same.1)

pub sentence_one : {ts r q : Tokens} {x y : Found} → Sentence ts x r → Sentence ts y q → (x ≡ y) × (r ≡ q)
sentence_one (g.sentence d e) (g.sentence c f) = let same = phrase_one d c in (same.0, ap past same.1)

defines_one : {ts r q : Tokens} {d e : DefinitionTree} {i j : ℕ} → Defines ts d i r → Defines ts e j q → (d ≡ e) × (r ≡ q)
defines_one {ts = ts} {q = q} (g.defines a n o xs c b) (g.defines {x = y} a2 n2 o2 ys c2 b2) =
    let bound = parameters_one xs ys in
    let body = sentence_one b (subst (λ z. Sentence (past z) y q) (sym bound.1) b2) in
    (ap₂ (λ zs (z : Found). defined (first_name (drop 1 ts)) (from ts) zs z.tree) bound.0 body.0, body.1)

defines_begins : {ts r : Tokens} {d : DefinitionTree} {i : ℕ} → Defines ts d i r → mark ts ≡ m.Word word.Define
defines_begins (g.defines a n o xs c b) = a

pub definitions_one : {ts r q : Tokens} {ds es : List DefinitionTree} {i j : ℕ} → Definitions ts ds i r → Definitions ts es j q → (ds ≡ es) × (r ≡ q)
definitions_one (g.no_definition e) (g.no_definition f) = (refl, refl)
definitions_one (g.no_definition e) (g.definition_then d c) = absurd (e (defines_begins d))
definitions_one (g.definition_then d c) (g.no_definition e) = absurd (e (defines_begins d))
definitions_one {q = q} (g.definition_then d c) (g.definition_then {ds = es} {j = j} e f) =
    let first = defines_one d e in
    let others = definitions_one c (subst (λ z. Definitions z es j q) (sym first.1) f) in
    (ap₂ (λ x xs. x ∷ xs) first.0 others.0, others.1)

pub source_one : {ts : Tokens} {s u : SourceTree} {i j : ℕ} → IsSource ts s i → IsSource ts u j → s ≡ u
source_one (g.source d r b e) (g.source {rest = rest} {x = y} c q a f) =
    let defined = definitions_one d c in
    let main = sentence_one b (subst (λ z. Sentence (past z) y rest) (sym defined.1) a) in
    ap₂ (λ zs (z : Found). source_of zs z.tree) defined.0 main.0
