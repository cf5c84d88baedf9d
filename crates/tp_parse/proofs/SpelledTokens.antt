-- Tokens of given kinds, and what ends a phrase.
use Rattle.std.proofs.Common.{◌≡◌, ◌≢◌, ℕ, zero, suc, ◌+◌, ◌-◌, ◌<◌, ◌≤◌, ◌⊎◌, inl, inr, true, false, cond, eqb, List, [], ◌∷◌, drop, refl, sym, ap, subst, ◌∙◌, arith}
use Rattle.std.proofs.lemmas.Bool.{eqb-true}
use Rattle.tp_lex.specs.declared.token.Kind.{Kind}
use Rattle.tp_lex.specs.declared.token.Kind.TheVariants as kind
use Rattle.tp_lex.specs.declared.token.Word.TheVariants as word
use Rattle.tp_lex.specs.declared.token.Symbol.TheVariants as symbol
use Rattle.tp_tree.specs.Tree.{PhraseTree}
use Rattle.tp_tree.specs.Places.{unplaced}
use Rattle.tp_parse.specs.declared.mark.TokenMark.{TokenMark}
use Rattle.tp_parse.specs.declared.mark.TokenMark.TheVariants as m
use Rattle.tp_parse.specs.declared.mark.TokenRole.TheVariants.{Ends}
use Rattle.tp_parse.specs.declared.mark.Start.TheVariants as s
use Rattle.tp_parse.specs.Marks.{kind_mark, role_of, role_at, level_of, start_of, Tokens, mark, from, first_number, first_name, kind_number, kind_name, mark_due, half_mark, past, left_of, without_half}
use Rattle.tp_parse.specs.Grammar.{Found, Parses, level, Goes, ends, open_round}
use Rattle.tp_parse.specs.Spelled.{token_kinds, list_opened}
use Rattle.tp_parse.proofs.Marks.{same_yes, same_no}

-- ---- the next token

-- the next token is of this kind, and those after it are of these
pub record Next (ts : Tokens) (k : Kind) (ks : List Kind) : Type 0 where
  pub mark : mark ts ≡ kind_mark k
  pub later : token_kinds (drop 1 ts) ≡ ks
  pub number : first_number ts ≡ kind_number k
  pub name : first_name ts ≡ kind_name k

pub next_is : (ts : Tokens) (k : Kind) (ks : List Kind) → token_kinds ts ≡ k ∷ ks → Next ts k ks
unfolding mark first_number first_name
next_is [] k ks e = absurd cc
next_is (t ∷ ts) k ks e =
    let same : t.kind ≡ k = cc in
    let later : token_kinds ts ≡ ks = cc in
    record { mark = ap kind_mark same; later = later; number = ap kind_number same; name = ap kind_name same }

abbrev pub next_mark : List Kind → TokenMark
next_mark [] = m.End
next_mark (k ∷ ks) = kind_mark k

pub mark_next : (ts : Tokens) (ks : List Kind) → token_kinds ts ≡ ks → mark ts ≡ next_mark ks
unfolding mark
mark_next [] ks e = ap next_mark e
mark_next (t ∷ ts) ks e = ap next_mark e

-- a token that is not read as two is passed as a whole
pub passed_whole : (ts : Tokens) (k : Kind) (ks : List Kind) → token_kinds ts ≡ k ∷ ks → half_mark (kind_mark k) ≡ kind_mark k → (mark_due ts ≡ kind_mark k) × (token_kinds (past ts) ≡ ks)
unfolding past
passed_whole ts k ks e whole =
    let h = next_is ts k ks e in
    let due : mark_due ts ≡ kind_mark k = ap half_mark h.mark ∙ whole in
    let one = same_yes (mark_due ts) (mark ts) (due ∙ sym h.mark) in
    (due, ap (λ b. token_kinds (cond b (drop 1 ts) (left_of true ts))) one ∙ h.later)

less_kind : Kind
less_kind = kind.Symbol symbol.Less

arrow_halved : (ts : Tokens) (ks : List Kind) → token_kinds ts ≡ kind.Symbol symbol.Arrow ∷ ks → token_kinds (left_of true ts) ≡ kind.Symbol symbol.Minus ∷ ks
arrow_halved [] ks e = absurd cc
arrow_halved (t ∷ ts) ks e =
    let same : t.kind ≡ kind.Symbol symbol.Arrow = cc in
    let later : token_kinds ts ≡ ks = cc in
    ap (λ k. without_half k ∷ token_kinds ts) same ∙ ap (λ xs. kind.Symbol symbol.Minus ∷ xs) later

arrow_passed : (ts : Tokens) (ks : List Kind) → token_kinds ts ≡ kind.Symbol symbol.Arrow ∷ ks → token_kinds (past ts) ≡ kind.Symbol symbol.Minus ∷ ks
unfolding past
arrow_passed ts ks e =
    let h = next_is ts (kind.Symbol symbol.Arrow) ks e in
    let due : mark_due ts ≡ m.Symbol symbol.Less = ap half_mark h.mark in
    let two = same_no (mark_due ts) (mark ts) (λ q. let w = sym due ∙ (q ∙ h.mark) in cc) in
    ap (λ b. token_kinds (cond b (drop 1 ts) (left_of true ts))) two ∙ arrow_halved ts ks e

-- where a list opens
pub opened_is : (ts : Tokens) (ks : List Kind) → token_kinds ts ≡ list_opened ks → (start_of (mark ts) ≡ s.List) × (token_kinds (past ts) ≡ ks)
opened_is ts [] e = (ap start_of (next_is ts _ _ e).mark, (passed_whole ts (kind.Symbol symbol.Less) [] e refl).1)
opened_is ts (kind.Symbol symbol.Minus ∷ ks) e = (ap start_of (next_is ts _ _ e).mark, arrow_passed ts ks e)
opened_is ts (kind.Symbol _ ∷ ks) e = (ap start_of (next_is ts _ _ e).mark, (passed_whole ts (kind.Symbol symbol.Less) _ e refl).1)
opened_is ts (kind.Word w ∷ ks) e = (ap start_of (next_is ts _ _ e).mark, (passed_whole ts (kind.Symbol symbol.Less) _ e refl).1)
opened_is ts (kind.Number n ∷ ks) e = (ap start_of (next_is ts _ _ e).mark, (passed_whole ts (kind.Symbol symbol.Less) _ e refl).1)
opened_is ts (kind.Upper x ∷ ks) e = (ap start_of (next_is ts _ _ e).mark, (passed_whole ts (kind.Symbol symbol.Less) _ e refl).1)
opened_is ts (kind.Lower x ∷ ks) e = (ap start_of (next_is ts _ _ e).mark, (passed_whole ts (kind.Symbol symbol.Less) _ e refl).1)

-- ---- what ends a phrase

-- tokens of these kinds end a phrase of the level
pub record EndsBefore (l : ℕ) (ks : List Kind) : Type 0 where
  pub role : (role_of (next_mark ks) ≡ Ends) ⊎ (l < level_of (role_of (next_mark ks)))
  pub bare : next_mark ks ≢ open_round
  pub last : 11 ≤ l → next_mark ks ≢ m.Word word.Else

pub lower_ends : {l : ℕ} {ks : List Kind} (k : ℕ) → k ≤ l → EndsBefore l ks → EndsBefore k ks
lower_ends {l} {ks} k h e = record {
  role = elim e.role [ inl q ↦ inl q | inr q ↦ inr (omega (arith, q)) ];
  bare = e.bare;
  last = λ high. e.last (omega arith);
}

pub role_ends : (l : ℕ) (ks : List Kind) → EndsBefore l ks → (j : ℕ) → j ≤ l → role_at j (next_mark ks) ≡ Ends
unfolding role_at
role_ends l ks e j h = elim e.role [
  | inl q ↦ elim (eqb (level_of (role_of (next_mark ks))) j) as (λ b. cond b (role_of (next_mark ks)) Ends ≡ Ends) [ true ↦ q | false ↦ refl ]
  | inr q ↦ elim (eqb (level_of (role_of (next_mark ks))) j) as (λ b. eqb (level_of (role_of (next_mark ks))) j ≡ b → cond b (role_of (next_mark ks)) Ends ≡ Ends) [
    | true ↦ λ w. absurd (omega (arith, eqb-true _ _ w, q))
    | false ↦ λ w. refl
  ] refl
]

-- ---- phrases that were read

-- a phrase of the level stands here, the same up to places, and what follows it is of these kinds
pub record ReadAs (g : ℕ) (ts : Tokens) (u : PhraseTree) (ks : List Kind) : Type 0 where
  pub found : Found
  pub rest : Tokens
  pub parses : Parses g ts found rest
  pub left : token_kinds rest ≡ ks
  pub same : unplaced found.tree ≡ u

-- the phrase begins one of the level above g, which goes on behind it
pub record OpensAs (g : ℕ) (ts : Tokens) (u : PhraseTree) (ks : List Kind) : Type 0 where
  pub found : Found
  pub rest : Tokens
  pub left : token_kinds rest ≡ ks
  pub same : unplaced found.tree ≡ u
  pub goes : (y : Found) (end : Tokens) → Goes (suc g) (from ts) found rest y end → Parses (suc g) ts y end

-- a phrase of a level is one of each higher level
raised : (d g a : ℕ) {ts rest : Tokens} {x : Found} → g ≡ a + d → Parses a ts x rest → ((j : ℕ) → j ≤ g → role_at j (mark rest) ≡ Ends) → Parses g ts x rest
raised zero g a {ts} {rest} {x} e p q = let one : a ≡ g = omega arith in subst (λ n. Parses n ts x rest) one p
raised (suc d) zero a e p q = absurd (omega arith)
raised (suc d) (suc g) a e p q = level (raised d g a (omega arith) p (λ j h. q j (omega arith))) (ends (q (suc g) (omega arith)))

pub raise : (a g : ℕ) {ts : Tokens} {u : PhraseTree} {ks : List Kind} → a ≤ g → ((j : ℕ) → j ≤ g → role_at j (next_mark ks) ≡ Ends) → ReadAs a ts u ks → ReadAs g ts u ks
raise a g {ts} {u} {ks} h q r = record {
  found = r.found;
  rest = r.rest;
  parses = raised (g - a) g a (omega arith) r.parses (λ j low. ap (role_at j) (mark_next r.rest ks r.left) ∙ q j low);
  left = r.left;
  same = r.same;
}

-- and one that is read may begin a phrase of the level above
pub begins_above : (g : ℕ) {ts : Tokens} {u : PhraseTree} {ks : List Kind} → ReadAs g ts u ks → OpensAs g ts u ks
begins_above g r = record { found = r.found; rest = r.rest; left = r.left; same = r.same; goes = λ y end q. level r.parses q }

-- one that begins a phrase is it, where nothing goes on
pub stays : (g : ℕ) {ts : Tokens} {u : PhraseTree} {ks : List Kind} → role_at (suc g) (next_mark ks) ≡ Ends → OpensAs g ts u ks → ReadAs (suc g) ts u ks
stays g {ts} {u} {ks} q o = record {
  found = o.found;
  rest = o.rest;
  parses = o.goes o.found o.rest (ends (ap (role_at (suc g)) (mark_next o.rest ks o.left) ∙ q));
  left = o.left;
  same = o.same;
}
