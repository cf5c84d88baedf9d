-- What holds of each name among the tokens of a source holds of each name that stands in the source.
use Rattle.std.proofs.Common.{◌≡◌, ◌⊎◌, inl, inr, ℕ, true, false, cond, List, [], ◌∷◌, ◌++◌, drop, All, Contains, refl, sym, subst, ap}
use Rattle.std.proofs.lemmas.List.Elements.{All-nil, All-cons, All-append, All-head, All-tail, All-contains_itself}
use Rattle.tp_lex.specs.declared.token.Kind.{Kind}
use Rattle.tp_lex.specs.declared.token.Kind.TheVariants as kind
use Rattle.tp_lex.specs.Names.{own_names, token_names}
use Rattle.tp_tree.specs.Tree.{PhraseTree, PhraseTrees, phrases_of, DefinitionTree, SourceTree}
use Rattle.tp_tree.specs.Names.{phrase_names, kind_names, operand_names, definition_names, names_in_definitions, source_names}
use Rattle.tp_parse.specs.declared.mark.TokenMark.{TokenMark}
use Rattle.tp_parse.specs.declared.mark.TokenMark.TheVariants as m
use Rattle.tp_parse.specs.declared.mark.Prefix.{Prefix}
use Rattle.tp_parse.specs.declared.mark.Prefix.TheVariants as prefix
use Rattle.tp_parse.specs.declared.mark.Enclosure.{Enclosure}
use Rattle.tp_parse.specs.declared.mark.Enclosure.TheVariants.{Round, Curly, Size}
use Rattle.tp_parse.specs.declared.mark.Start.TheVariants as s
use Rattle.tp_parse.specs.declared.head.Listed.{Listed}
use Rattle.tp_parse.specs.declared.head.Listed.TheVariants as listed
use Rattle.tp_parse.specs.declared.head.Pair.{Pair}
use Rattle.tp_parse.specs.declared.head.Pair.TheVariants as pair
use Rattle.tp_parse.specs.declared.head.PrimaryHead.{PrimaryHead}
use Rattle.tp_parse.specs.declared.head.PrimaryHead.TheVariants as h
use Rattle.tp_parse.specs.Marks.{same, start_of, kind_mark, Tokens, mark, from, first_name, mark_due, past, left_of, without_half, kind_name}
use Rattle.tp_parse.specs.Grammar.{Found, Operands, atom_kind, listed_kind, enclosed_tree, pair_kind, prefixed_kind, ReadsNames, BeginsPrimary, Parses, Goes, Others, Listing, Parameters, Sentence, Defines, Definitions, IsSource, Accepts}
use Rattle.tp_parse.specs.Grammar as g
use Rattle.tp_parse.specs.Names.{NamesAreTokens}
use Rattle.tp_parse.proofs.HeadTokens.{mark_of_start, started, head_left}

-- where an operand is due, a name begins with the mark of one
starts_name : (x : TokenMark) → (start_of x ≡ s.Name) ⊎ (start_of x ≡ s.NameOrCall) → (x ≡ m.Upper) ⊎ (x ≡ m.Lower)
starts_name x (inl e) = inl (started x m.Upper (ap mark_of_start e))
starts_name x (inr e) = inr (started x m.Lower (ap mark_of_start e))

-- a token without its first half is no name, as before
halved_names : (ts : Tokens) → token_names (left_of true ts) ≡ token_names ts
halved_names [] = refl
halved_names (t ∷ ts) = by t.kind
  where
    by : (k : Kind) → own_names (without_half k) ++ token_names ts ≡ own_names k ++ token_names ts
    by (kind.Upper x) = refl
    by (kind.Lower x) = refl
    by (kind.Number n) = refl
    by (kind.Word w) = refl
    by (kind.Symbol x) = refl

-- the name that a head has of its own
abbrev listed_own : Listed → List (List ℕ)
listed_own listed.List = []
listed_own (listed.Form f) = []
listed_own (listed.Call x) = x ∷ []

abbrev pair_own : Pair → List (List ℕ)
pair_own pair.While = []
pair_own pair.Repeat = []
pair_own (pair.For x) = x ∷ []
pair_own (pair.Forall x) = x ∷ []

abbrev head_own : PrimaryHead → List (List ℕ)
head_own (h.Atom x) = kind_names (atom_kind x)
head_own (h.Listed x) = listed_own x
head_own (h.Enclosed e) = []
head_own h.If = []
head_own (h.Paired x) = pair_own x
head_own (h.Exists xs) = xs

-- what is made of a head and its operands has their names
listed_names : (x : Listed) (ps : PhraseTrees) → kind_names (listed_kind x ps) ≡ listed_own x ++ operand_names ps
listed_names listed.List ps = refl
listed_names (listed.Form f) ps = refl
listed_names (listed.Call x) ps = refl

pair_names : (x : Pair) (a b : PhraseTree) → kind_names (pair_kind x a b) ≡ pair_own x ++ (phrase_names a ++ phrase_names b)
pair_names pair.While a b = refl
pair_names pair.Repeat a b = refl
pair_names (pair.For x) a b = refl
pair_names (pair.Forall x) a b = refl

enclosed_names : (at : ℕ) (e : Enclosure) (a : PhraseTree) → phrase_names (enclosed_tree at e a) ≡ phrase_names a
enclosed_names at Size a = refl
enclosed_names at Round a = refl
enclosed_names at Curly a = refl

prefixed_names : (o : Prefix) (a : PhraseTree) → kind_names (prefixed_kind o a) ≡ phrase_names a
prefixed_names prefix.Not a = refl
prefixed_names prefix.Minus a = refl
prefixed_names prefix.Next a = refl

module _ (P : List ℕ → Type 0) where
  -- what is asked of tokens, and of what is read from them
  abbrev Named : Tokens → Type 0
  Named ts = All P (token_names ts)

  abbrev Holds : PhraseTree → Type 0
  Holds t = All P (phrase_names t)

  none : All P []
  none = All-nil P

  one : (x : List ℕ) → P x → All P (x ∷ [])
  one x is = All-cons P x [] is none

  join : (xs ys : List (List ℕ)) → All P xs → All P ys → All P (xs ++ ys)
  join = All-append P

  front : (xs ys : List (List ℕ)) → All P (xs ++ ys) → All P xs
  front [] ys are = none
  front (x ∷ xs) ys are = All-cons P x xs (All-head P x (xs ++ ys) are) (front xs ys (All-tail P x (xs ++ ys) are))

  rest_of : (xs ys : List (List ℕ)) → All P (xs ++ ys) → All P ys
  rest_of [] ys are = are
  rest_of (x ∷ xs) ys are = rest_of xs ys (All-tail P x (xs ++ ys) are)

  -- ---- tokens

  dropped : (ts : Tokens) → Named ts → Named (drop 1 ts)
  dropped [] are = are
  dropped (t ∷ ts) are = rest_of (own_names t.kind) (token_names ts) are

  passed : (ts : Tokens) → Named ts → Named (past ts)
  unfolding past
  passed ts are = elim (same (mark_due ts) (mark ts)) as (λ b. Named (cond b (drop 1 ts) (left_of true ts))) [
    | true ↦ dropped ts are
    | false ↦ subst (All P) (sym (halved_names ts)) are
  ]

  kind_held : (k : Kind) (names : List (List ℕ)) → All P (own_names k ++ names) → (kind_mark k ≡ m.Upper) ⊎ (kind_mark k ≡ m.Lower) → P (kind_name k)
  kind_held (kind.Upper x) names are e = All-head P x names are
  kind_held (kind.Lower x) names are e = All-head P x names are
  kind_held _ names are (inl e) = absurd cc
  kind_held _ names are (inr e) = absurd cc

  name_held : (ts : Tokens) → Named ts → (mark ts ≡ m.Upper) ⊎ (mark ts ≡ m.Lower) → P (first_name ts)
  unfolding mark first_name
  name_held [] are (inl e) = absurd cc
  name_held [] are (inr e) = absurd cc
  name_held (t ∷ ts) are e = kind_held t.kind (token_names ts) are e

  names_held : {ts rest : Tokens} {xs : List (List ℕ)} → ReadsNames ts xs rest → Named ts → All P xs × Named rest
  names_held {ts} (g.last_name n e) are = (one (first_name ts) (name_held ts are n), dropped ts are)
  names_held {ts} (g.name_then {xs = xs} n e d) are =
      let later = names_held d (dropped (drop 1 ts) (dropped ts are)) in
      (All-cons P (first_name ts) xs (name_held ts are n) later.0, later.1)

  -- ---- heads

  starts_held : (ts : Tokens) → Named ts → (start_of (mark ts) ≡ s.Name) ⊎ (start_of (mark ts) ≡ s.NameOrCall) → All P (first_name ts ∷ [])
  starts_held ts are e = one (first_name ts) (name_held ts are (starts_name (mark ts) e))

  counter_held : (ts : Tokens) → Named ts → mark (drop 1 ts) ≡ m.Lower → All P (first_name (drop 1 ts) ∷ [])
  counter_held ts are e = one (first_name (drop 1 ts)) (name_held (drop 1 ts) (dropped ts are) (inr e))

  own_held : {ts rest : Tokens} {x : PrimaryHead} → BeginsPrimary ts x rest → Named ts → All P (head_own x)
  own_held {ts} (g.upper_name e) are = starts_held ts are (inl e)
  own_held {ts} (g.lower_name e f) are = starts_held ts are (inr e)
  own_held {ts} (g.call e f) are = starts_held ts are (inr e)
  own_held {ts} (g.for e f l) are = counter_held ts are f
  own_held {ts} (g.forall e f l) are = counter_held ts are f
  own_held {ts} (g.exists e d f) are = (names_held d (dropped ts are)).0
  own_held _ are = none

  begins_held : {ts rest : Tokens} {x : PrimaryHead} → BeginsPrimary ts x rest → Named ts → All P (head_own x) × Named rest
  begins_held b are = (own_held b are, head_left Named dropped passed b are)

  -- ---- phrases

  mutual
    phrase_held : {k : ℕ} {ts rest : Tokens} {x : Found} → Parses k ts x rest → Named ts → Holds x.tree × Named rest
    phrase_held (g.atom b) are = begins_held b are
    phrase_held (g.listed {x = x} {all = all} b o) are =
        let head = begins_held b are in
        let operands = listing_held o head.1 in
        let ps = phrases_of all.trees in
        (subst (All P) (sym (listed_names x ps)) (join (listed_own x) (operand_names ps) head.0 operands.0), operands.1)
    phrase_held {ts = ts} (g.enclosed {end = end} {e = e} {x = x} b d f) are =
        let inside = phrase_held d (begins_held b are).1 in
        (subst (All P) (sym (enclosed_names (from ts) e x.tree)) inside.0, passed end inside.1)
    phrase_held (g.if_then {then = then} {b = b} {x = x} h d t e n) are =
        let first = phrase_held d (begins_held h are).1 in
        let second = phrase_held e (passed then first.1) in
        (join (phrase_names b.tree) (phrase_names x.tree) first.0 second.0, second.1)
    phrase_held (g.if_else {then = then} {else = else} {b = b} {x = x} {y = y} h d t e n f) are =
        let first = phrase_held d (begins_held h are).1 in
        let second = phrase_held e (passed then first.1) in
        let third = phrase_held f (dropped else second.1) in
        let both = join (phrase_names x.tree) (phrase_names y.tree) second.0 third.0 in
        (join (phrase_names b.tree) (phrase_names x.tree ++ phrase_names y.tree) first.0 both, third.1)
    phrase_held (g.paired {next = next} {q = q} {x = x} {y = y} b d f e) are =
        let head = begins_held b are in
        let first = phrase_held d head.1 in
        let second = phrase_held e (passed next first.1) in
        let both = join (phrase_names x.tree) (phrase_names y.tree) first.0 second.0 in
        (subst (All P) (sym (pair_names q x.tree y.tree)) (join (pair_own q) (phrase_names x.tree ++ phrase_names y.tree) head.0 both), second.1)
    phrase_held (g.quantified {xs = xs} {x = x} b d) are =
        let head = begins_held b are in
        let body = phrase_held d head.1 in
        (join xs (phrase_names x.tree) head.0 body.0, body.1)
    phrase_held {ts = ts} (g.prefixed {o = o} {x = x} e d) are =
        let operand = phrase_held d (dropped ts are) in
        (subst (All P) (sym (prefixed_names o x.tree)) operand.0, operand.1)
    phrase_held (g.level d f) are = let first = phrase_held d are in goes_held first.0 f first.1

    goes_held : {k at : ℕ} {a t : Found} {ts rest : Tokens} → Holds a.tree → Goes k at a ts t rest → Named ts → Holds t.tree × Named rest
    goes_held held (g.ends e) are = (held, are)
    goes_held {a = a} {ts = ts} held (g.left {y = y} e way d f) are =
        let operand = phrase_held d (dropped ts are) in
        goes_held (join (phrase_names a.tree) (phrase_names y.tree) held operand.0) f operand.1
    goes_held {a = a} {ts = ts} held (g.single {y = y} e way d) are =
        let operand = phrase_held d (dropped ts are) in
        (join (phrase_names a.tree) (phrase_names y.tree) held operand.0, operand.1)
    goes_held {a = a} {ts = ts} held (g.right {y = y} e way d) are =
        let operand = phrase_held d (dropped ts are) in
        (join (phrase_names a.tree) (phrase_names y.tree) held operand.0, operand.1)
    goes_held {a = a} {ts = ts} held (g.indexed {i = i} {end = end} e d c f) are =
        let operand = phrase_held d (dropped ts are) in
        goes_held (join (phrase_names a.tree) (phrase_names i.tree) held operand.0) f (passed end operand.1)
    goes_held {a = a} held (g.joins {all = all} e o) are =
        let others = others_held o are in
        (join (phrase_names a.tree) (operand_names (phrases_of all.trees)) held others.0, others.1)

    others_held : {k : ℕ} {separator : TokenMark} {all : Operands} {ts rest : Tokens} → Others k separator ts all rest → Named ts → All P (operand_names (phrases_of all.trees)) × Named rest
    others_held (g.no_more e) are = (none, are)
    others_held {ts = ts} (g.one_more {x = x} {all = all} e d o) are =
        let first = phrase_held d (dropped ts are) in
        let others = others_held o first.1 in
        (join (phrase_names x.tree) (operand_names (phrases_of all.trees)) first.0 others.0, others.1)

    listing_held : {k : ℕ} {close : TokenMark} {all : Operands} {ts rest : Tokens} → Listing k close ts all rest → Named ts → All P (operand_names (phrases_of all.trees)) × Named rest
    listing_held {ts = ts} (g.no_operands e) are = (none, passed ts are)
    listing_held (g.operands {x = x} {all = all} {end = end} d o e) are =
        let first = phrase_held d are in
        let others = others_held o first.1 in
        (join (phrase_names x.tree) (operand_names (phrases_of all.trees)) first.0 others.0, passed end others.1)

  -- ---- sources

  sentence_held : {ts rest : Tokens} {x : Found} → Sentence ts x rest → Named ts → Holds x.tree × Named rest
  sentence_held (g.sentence {end = end} d e) are = let read = phrase_held d are in (read.0, passed end read.1)

  parameters_held : {ts rest : Tokens} {xs : List (List ℕ)} → Parameters ts xs rest → Named ts → All P xs × Named rest
  parameters_held {ts} (g.no_parameters e) are = (none, dropped ts are)
  parameters_held (g.parameters {mid = mid} d e) are = let read = names_held d are in (read.0, passed mid read.1)

  defines_held : {ts rest : Tokens} {d : DefinitionTree} {i : ℕ} → Defines ts d i rest → Named ts → All P (definition_names d) × Named rest
  defines_held {ts} (g.defines {mid = mid} {xs = xs} {x = x} e n o ps q b) are =
      let on = dropped ts are in
      let own = name_held (drop 1 ts) on (inr n) in
      let bound = parameters_held ps (passed (drop 1 (drop 1 ts)) (dropped (drop 1 ts) on)) in
      let body = sentence_held b (passed mid bound.1) in
      (All-cons P (first_name (drop 1 ts)) (xs ++ phrase_names x.tree) own (join xs (phrase_names x.tree) bound.0 body.0), body.1)

  definitions_held : {ts rest : Tokens} {ds : List DefinitionTree} {i : ℕ} → Definitions ts ds i rest → Named ts → All P (names_in_definitions ds) × Named rest
  definitions_held (g.no_definition e) are = (none, are)
  definitions_held (g.definition_then {d = d} {ds = ds} f e) are =
      let first = defines_held f are in
      let others = definitions_held e first.1 in
      (join (definition_names d) (names_in_definitions ds) first.0 others.0, others.1)

  source_held : {ts : Tokens} {s : SourceTree} {i : ℕ} → IsSource ts s i → Named ts → All P (source_names s)
  source_held (g.source {mid = mid} {ds = ds} {x = x} d r b e) are =
      let first = definitions_held d are in
      let main = sentence_held b (passed mid first.1) in
      join (names_in_definitions ds) (phrase_names x.tree) first.0 main.0

pub names_are_tokens : NamesAreTokens
names_are_tokens ts s is = source_held (Contains (token_names ts)) is.source (All-contains_itself (token_names ts))
