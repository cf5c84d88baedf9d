-- Parts of phrases in the tokens of the canonical spelling: operands, lists of them and names.
use Rattle.std.proofs.Common.{◌≡◌, ◌≢◌, ℕ, zero, suc, ◌<◌, ◌≤◌, ◌⊎◌, inl, inr, Bool, true, false, cond, nat_le, List, [], ◌∷◌, drop, slice_index, refl, sym, ap, ap₂, subst, ◌∙◌, arith}
use Rattle.std.specs.Prelude.{◌==◌, ◌||◌}
use Rattle.std.specs.Char.{is_ascii_uppercase}
use Rattle.std.proofs.lemmas.Bool.{leb-true, le-leb}
use Rattle.tp_lex.specs.declared.token.Kind.{Kind}
use Rattle.tp_lex.specs.declared.token.Kind.TheVariants as kind
use Rattle.tp_tree.specs.Tree.{PhraseTree, phrase, KindTree, PhraseTrees, no_phrase, phrase_then, phrases_of}
use Rattle.tp_tree.specs.Levels.{kind_level}
use Rattle.tp_tree.specs.Places.{unplaced, unplaced_kind, unplaced_all}
use Rattle.tp_parse.specs.declared.mark.TokenMark.TheVariants as m
use Rattle.tp_parse.specs.declared.mark.Enclosure.TheVariants as enclosure
use Rattle.tp_parse.specs.Marks.{kind_mark, start_of, comma, Tokens, mark, first_name, half_mark, past}
use Rattle.tp_parse.specs.Grammar.{Operands, no_operand, operand_then, Parses, Others, Listing, ReadsNames, open_round}
use Rattle.tp_parse.specs.Grammar as g
use Rattle.tp_parse.specs.Spelled.{token_kinds, comma_kind, open_kind, close_kind, variable_kind, more_names, operand_kinds, more_operands, operands_kinds, kind_kinds}
use Rattle.tp_parse.proofs.SpelledTokens.{next_is, next_mark, mark_next, passed_whole, EndsBefore, lower_ends, role_ends, ReadAs, OpensAs, raise, begins_above}

-- the level of the grammar at which a phrase of a level is read
abbrev pub grammar_level : ℕ → ℕ
grammar_level l = cond (nat_le l 10) l 10

-- and that at which it begins
abbrev pub base_level : ℕ → ℕ
base_level l = cond (nat_le l 10) l 0

-- levels that group to the left
abbrev pub is_left : ℕ → Bool
is_left n = n == 1 || n == 3 || n == 4 || n == 8

-- ---- what is known of a phrase

-- an operand is read at any level
abbrev pub Reads : ℕ → PhraseTree → Type 0
Reads l p = (ts : Tokens) (ks : List Kind) → token_kinds ts ≡ operand_kinds l p ks → EndsBefore l ks → ReadAs (grammar_level l) ts (unplaced p) ks

-- and begins a phrase of the next level, where that groups to the left
abbrev pub Opens : ℕ → PhraseTree → Type 0
Opens g p = (ts : Tokens) (ks : List Kind) → token_kinds ts ≡ operand_kinds (suc g) p ks → EndsBefore g ks → OpensAs g ts (unplaced p) ks

pub record IsOperand (p : PhraseTree) : Type 0 where
  pub reads : (l : ℕ) → Reads l p
  pub opens : (g : ℕ) → suc g ≤ 10 → is_left (suc g) ≡ true → Opens g p

abbrev pub KindReads : KindTree → Type 0
KindReads k = (ts : Tokens) (ks : List Kind) → token_kinds ts ≡ kind_kinds k ks → EndsBefore (kind_level k) ks → ReadAs (base_level (kind_level k)) ts (phrase 0 (unplaced_kind k)) ks

abbrev pub KindOpens : ℕ → KindTree → Type 0
KindOpens zero k = Unit {0}
KindOpens (suc g) k = is_left (suc g) ≡ true → (ts : Tokens) (ks : List Kind) → token_kinds ts ≡ kind_kinds k ks → EndsBefore g ks → OpensAs g ts (phrase 0 (unplaced_kind k)) ks

pub record IsKind (k : KindTree) : Type 0 where
  pub low : kind_level k ≤ 11
  pub reads : KindReads k
  pub opens : KindOpens (kind_level k) k

-- ---- an operand

base_low : (a l : ℕ) → a ≤ l → base_level a ≤ grammar_level l
base_low a l h = elim (nat_le a 10) as (λ b. nat_le a 10 ≡ b → cond b a 0 ≤ grammar_level l) [
  | true ↦ λ e. elim (nat_le l 10) as (λ c. a ≤ cond c l 10) [ true ↦ h | false ↦ leb-true _ _ e ]
  | false ↦ λ e. omega arith
] refl

level_low : (l : ℕ) → grammar_level l ≤ l
level_low l = elim (nat_le l 10) as (λ b. nat_le l 10 ≡ b → cond b l 10 ≤ l) [
  | true ↦ λ e. omega arith
  | false ↦ λ e. elim (nat_cases 10 l) [ inl h ↦ h | inr h ↦ absurd (let w = le-leb l 10 (omega (arith, h)) in cc) ]
] refl
  where
    nat_cases : (a b : ℕ) → (a ≤ b) ⊎ (b < a)
    nat_cases zero b = inl (omega arith)
    nat_cases (suc a) zero = inr (omega arith)
    nat_cases (suc a) (suc b) = elim (nat_cases a b) [ inl h ↦ inl (omega (arith, h)) | inr h ↦ inr (omega (arith, h)) ]

close_ends : (l : ℕ) (ks : List Kind) → EndsBefore l (close_kind ∷ ks)
close_ends l ks = record { role = inl refl; bare = λ e. cc; last = λ h e. cc }

pub bare_reads : {k : KindTree} → IsKind k → (l : ℕ) (ts : Tokens) (ks : List Kind) → kind_level k ≤ l → token_kinds ts ≡ kind_kinds k ks → EndsBefore l ks → ReadAs (grammar_level l) ts (phrase 0 (unplaced_kind k)) ks
bare_reads {k} is l ts ks low e st =
    raise (base_level (kind_level k)) (grammar_level l) (base_low _ _ low) (λ j h. role_ends l ks st j (omega (arith, h, level_low l))) (is.reads ts ks e (lower_ends (kind_level k) low st))

round_reads : {k : KindTree} → IsKind k → (ts : Tokens) (ks : List Kind) → token_kinds ts ≡ open_kind ∷ kind_kinds k (close_kind ∷ ks) → ReadAs 0 ts (phrase 0 (unplaced_kind k)) ks
round_reads {k} is ts ks e =
    let h = next_is ts open_kind _ e in
    let r = bare_reads is 11 (drop 1 ts) (close_kind ∷ ks) is.low h.later (close_ends 11 ks) in
    let c = passed_whole r.rest close_kind ks r.left refl in
    record { found = _; rest = past r.rest; parses = g.enclosed (g.enclosure {e = enclosure.Round} (ap start_of h.mark)) r.parses c.0; left = c.1; same = r.same }

pub operand_is : (at : ℕ) (k : KindTree) → IsKind k → IsOperand (phrase at k)
operand_is at k is = record { reads = reads; opens = opens }
  where
    reads : (l : ℕ) → Reads l (phrase at k)
    reads l ts ks e st = elim (nat_le (kind_level k) l) as (λ b. nat_le (kind_level k) l ≡ b → token_kinds ts ≡ cond b (kind_kinds k ks) (open_kind ∷ kind_kinds k (close_kind ∷ ks)) → ReadAs (grammar_level l) ts (phrase 0 (unplaced_kind k)) ks) [
      | true ↦ λ low q. bare_reads is l ts ks (leb-true _ _ low) q st
      | false ↦ λ low q. raise 0 (grammar_level l) (omega arith) (λ j h. role_ends l ks st j (omega (arith, h, level_low l))) (round_reads is ts ks q)
    ] refl e

    opens_bare : (g n : ℕ) → kind_level k ≡ n → n ≤ suc g → suc g ≤ 10 → is_left (suc g) ≡ true → (ts : Tokens) (ks : List Kind) → token_kinds ts ≡ kind_kinds k ks → EndsBefore g ks → OpensAs g ts (phrase 0 (unplaced_kind k)) ks
    opens_bare g n same low high lf ts ks q st = elim (meets n (suc g) low) [
      | inl one ↦ subst (λ i. KindOpens i k) (same ∙ one) is.opens lf ts ks q st
      | inr less ↦ begins_above g (raise (base_level (kind_level k)) g (omega (arith, base_low (kind_level k) g (omega (arith, same, less)), level_low g)) (role_ends g ks st) (is.reads ts ks q (lower_ends (kind_level k) (omega (arith, same, less)) st)))
    ]
      where
        meets : (a b : ℕ) → a ≤ b → (a ≡ b) ⊎ (a < b)
        meets zero zero h = inl refl
        meets zero (suc b) h = inr (omega arith)
        meets (suc a) zero h = absurd (omega arith)
        meets (suc a) (suc b) h = elim (meets a b (omega arith)) [ inl e ↦ inl (ap suc e) | inr e ↦ inr (omega (arith, e)) ]

    opens : (g : ℕ) → suc g ≤ 10 → is_left (suc g) ≡ true → Opens g (phrase at k)
    opens g high lf ts ks e st = elim (nat_le (kind_level k) (suc g)) as (λ b. nat_le (kind_level k) (suc g) ≡ b → token_kinds ts ≡ cond b (kind_kinds k ks) (open_kind ∷ kind_kinds k (close_kind ∷ ks)) → OpensAs g ts (phrase 0 (unplaced_kind k)) ks) [
      | true ↦ λ low q. opens_bare g (kind_level k) refl (leb-true _ _ low) high lf ts ks q st
      | false ↦ λ low q. begins_above g (raise 0 g (omega arith) (role_ends g ks st) (round_reads is ts ks q))
    ] refl e

-- ---- several operands

abbrev pub AreOperands : PhraseTrees → Type 0
AreOperands no_phrase = Unit {0}
AreOperands (phrase_then p ps) = IsOperand p × AreOperands ps

-- operands were read, the same up to places
pub record OperandsAs (Read : Operands → Tokens → Type 0) (ps : PhraseTrees) (ks : List Kind) : Type 0 where
  pub all : Operands
  pub rest : Tokens
  pub read : Read all rest
  pub left : token_kinds rest ≡ ks
  pub same : unplaced_all (phrases_of all.trees) ≡ unplaced_all ps

-- each behind a separator
abbrev pub OthersAs : (l : ℕ) (separator : Kind) (ts : Tokens) → PhraseTrees → List Kind → Type 0
OthersAs l separator ts = OperandsAs (Others (grammar_level l) (kind_mark separator) ts)

-- what follows an operand is a separator, or what follows them all
more_ends : (l : ℕ) (separator : Kind) (ps : PhraseTrees) (ks : List Kind) → EndsBefore l ks → ((xs : List Kind) → EndsBefore l (separator ∷ xs)) → EndsBefore l (more_operands separator l ps ks)
more_ends l separator no_phrase ks st sep = st
more_ends l separator (phrase_then p ps) ks st sep = sep _

pub others_are : (l : ℕ) (separator : Kind) (ps : PhraseTrees) → AreOperands ps → (ts : Tokens) (ks : List Kind) → token_kinds ts ≡ more_operands separator l ps ks → EndsBefore l ks → next_mark ks ≢ kind_mark separator
    → ((xs : List Kind) → EndsBefore l (separator ∷ xs)) → OthersAs l separator ts ps ks
others_are l separator no_phrase is ts ks e st other sep = record { all = no_operand; rest = ts; read = g.no_more (λ q. other (sym (mark_next ts ks e) ∙ q)); left = e; same = refl }
others_are l separator (phrase_then p ps) is ts ks e st other sep =
    let h = next_is ts separator _ e in
    let r = is.0.reads l (drop 1 ts) (more_operands separator l ps ks) h.later (more_ends l separator ps ks st sep) in
    let o = others_are l separator ps is.1 r.rest ks r.left st other sep in
    record { all = operand_then r.found o.all; rest = o.rest; read = g.one_more h.mark r.parses o.read; left = o.left; same = ap₂ phrase_then r.same o.same }

-- with commas between them, and what closes them
abbrev pub ListingAs : (l : ℕ) (close : Kind) (ts : Tokens) → PhraseTrees → List Kind → Type 0
ListingAs l close ts = OperandsAs (Listing (grammar_level l) (kind_mark close) ts)

pub comma_ends : (l : ℕ) (ks : List Kind) → EndsBefore l (comma_kind ∷ ks)
comma_ends l ks = record { role = inl refl; bare = λ e. cc; last = λ h e. cc }

pub listing_is : (l : ℕ) (close : Kind) (ps : PhraseTrees) → AreOperands ps → (ts : Tokens) (ks : List Kind) → token_kinds ts ≡ operands_kinds comma_kind l ps (close ∷ ks) → EndsBefore l (close ∷ ks) → kind_mark close ≢ comma
    → half_mark (kind_mark close) ≡ kind_mark close → ListingAs l close ts ps ks
listing_is l close no_phrase is ts ks e st other whole =
    let c = passed_whole ts close ks e whole in
    record { all = no_operand; rest = past ts; read = g.no_operands c.0; left = c.1; same = refl }
listing_is l close (phrase_then p ps) is ts ks e st other whole =
    let r = is.0.reads l ts (more_operands comma_kind l ps (close ∷ ks)) e (more_ends l comma_kind ps (close ∷ ks) st (comma_ends l)) in
    let o = others_are l comma_kind ps is.1 r.rest (close ∷ ks) r.left st other (comma_ends l) in
    let c = passed_whole o.rest close ks o.left whole in
    record { all = operand_then r.found o.all; rest = past o.rest; read = g.operands r.parses o.read c.0; left = c.1; same = ap₂ phrase_then r.same o.same }

-- ---- names

pub variable_is : (ts : Tokens) (x : List ℕ) (ks : List Kind) → token_kinds ts ≡ variable_kind x ∷ ks → ((mark ts ≡ m.Upper) ⊎ (mark ts ≡ m.Lower)) × (first_name ts ≡ x) × (token_kinds (drop 1 ts) ≡ ks)
variable_is ts x ks e = by (is_ascii_uppercase (slice_index x 0)) e
  where
    by : (b : Bool) → token_kinds ts ≡ cond b (kind.Upper x) (kind.Lower x) ∷ ks → ((mark ts ≡ m.Upper) ⊎ (mark ts ≡ m.Lower)) × (first_name ts ≡ x) × (token_kinds (drop 1 ts) ≡ ks)
    by true q = let h = next_is ts (kind.Upper x) ks q in (inl h.mark, h.name, h.later)
    by false q = let h = next_is ts (kind.Lower x) ks q in (inr h.mark, h.name, h.later)

pub record NamesAs (ts : Tokens) (xs : List (List ℕ)) (ks : List Kind) : Type 0 where
  pub rest : Tokens
  pub names : ReadsNames ts xs rest
  pub left : token_kinds rest ≡ ks

pub names_are : (x : List ℕ) (xs : List (List ℕ)) (ts : Tokens) (ks : List Kind) → token_kinds ts ≡ variable_kind x ∷ more_names xs ks → next_mark ks ≢ comma → NamesAs ts (x ∷ xs) ks
names_are x [] ts ks e other =
    let v = variable_is ts x ks e in
    record { rest = drop 1 ts; names = subst (λ y. ReadsNames ts (y ∷ []) (drop 1 ts)) v.1 (g.last_name v.0 (λ q. other (sym (mark_next (drop 1 ts) ks v.2) ∙ q))); left = v.2 }
names_are x (y ∷ ys) ts ks e other =
    let v = variable_is ts x _ e in
    let h = next_is (drop 1 ts) comma_kind _ v.2 in
    let n = names_are y ys (drop 1 (drop 1 ts)) ks h.later other in
    record { rest = n.rest; names = subst (λ z. ReadsNames ts (z ∷ (y ∷ ys)) n.rest) v.1 (g.name_then v.0 h.mark n.names); left = n.left }
