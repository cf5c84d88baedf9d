-- Tests of marks, and what begins a phrase.
use Rattle.std.proofs.Common.{◌≡◌, ◌≢◌, ℕ, suc, ◌⊎◌, inl, inr, Option, Some, None, true, false, cond, eqb, refl, sym, ap, ap₂, ◌∙◌, rules, arith}
use Rattle.std.proofs.lemmas.Bool.{eqb-true, ne_eqb, eq-eqb}
use denote.Enum.Bare.{same_true, true_same}
use Rattle.tp_lex.specs.contracts.token.Word as word_type
use Rattle.tp_lex.specs.contracts.token.Symbol as symbol_type
use Rattle.tp_lex.specs.declared.token.Word.{Word}
use Rattle.tp_lex.specs.declared.token.Word.TheVariants as word
use Rattle.tp_lex.specs.declared.token.Symbol.{Symbol}
use Rattle.tp_lex.specs.declared.token.Symbol.TheVariants as symbol
use Rattle.tp_tree.specs.declared.operator.Op.{Op}
use Rattle.tp_tree.specs.declared.operator.Grouping.{Grouping}
use Rattle.tp_tree.specs.Levels.{op_level, grouping, level_right_of, right_level}
use Rattle.tp_parse.specs.declared.mark.TokenMark.{TokenMark}
use Rattle.tp_parse.specs.declared.mark.TokenMark.TheVariants as m
use Rattle.tp_parse.specs.declared.mark.Prefix.{Prefix}
use Rattle.tp_parse.specs.declared.mark.Prefix.TheVariants.{Not, Minus, Next}
use Rattle.tp_parse.specs.declared.mark.TokenRole.TheVariants.{Ends, Infix}
use Rattle.tp_parse.specs.declared.mark.Start.TheVariants as s
use Rattle.tp_parse.specs.Marks.{same, prefix_of, level_before, before, prefix_at, role_of, level_of, role_at, start_of, half_mark}

pub same_is : (a b : TokenMark) → same a b ≡ true → a ≡ b
unfolding same
same_is (m.Word v) (m.Word w) e = ap m.Word (same_true word_type.the_type (search rules) _ _ e)
same_is (m.Symbol v) (m.Symbol w) e = ap m.Symbol (same_true symbol_type.the_type (search rules) _ _ e)
same_is m.End m.End e = refl
same_is m.Upper m.Upper e = refl
same_is m.Lower m.Lower e = refl
same_is m.Number m.Number e = refl
same_is _ _ e = absurd cc

pub same_yes : (a b : TokenMark) → a ≡ b → same a b ≡ true
unfolding same
same_yes (m.Word v) (m.Word w) e = let q : v ≡ w = cc in true_same word_type.the_type v w q
same_yes (m.Symbol v) (m.Symbol w) e = let q : v ≡ w = cc in true_same symbol_type.the_type v w q
same_yes m.End m.End e = refl
same_yes m.Upper m.Upper e = refl
same_yes m.Lower m.Lower e = refl
same_yes m.Number m.Number e = refl
same_yes _ _ e = absurd cc

pub same_not : (a b : TokenMark) → same a b ≡ false → a ≢ b
same_not a b e is = let yes = same_yes a b is in cc

pub same_no : (a b : TokenMark) → a ≢ b → same a b ≡ false
same_no a b not = elim (same a b) as (λ r. same a b ≡ r → r ≡ false) [ true ↦ λ e. absurd (not (same_is a b e)) | false ↦ λ e. refl ] refl

-- an operator before an operand stands at its own level
pub prefix_level_is : (k : ℕ) (x : TokenMark) (o : Prefix) → prefix_at k x ≡ Some o → before x ≡ k
unfolding prefix_at
prefix_level_is k x o e = elim (eqb (before x) k) as (λ b. eqb (before x) k ≡ b → cond b (prefix_of x) None ≡ Some o → before x ≡ k) [
  | true ↦ λ q f. eqb-true _ _ q
  | false ↦ λ q f. absurd cc
] refl e

pub no_prefix_at : (k : ℕ) (x : TokenMark) → before x ≢ k → prefix_at k x ≡ None
unfolding prefix_at
no_prefix_at k x other = rw (ne_eqb (before x) k other) refl

no_prefix : (p : Option Prefix) → level_before p ≡ 0 → p ≡ None
no_prefix None e = refl
no_prefix (Some Not) e = absurd (omega (arith, e))
no_prefix (Some Minus) e = absurd (omega (arith, e))
no_prefix (Some Next) e = absurd (omega (arith, e))

pub some_prefix_at : (k : ℕ) (x : TokenMark) → before x ≡ suc k → prefix_at (suc k) x ≢ None
unfolding prefix_at
some_prefix_at k x own none =
    let is : prefix_of x ≡ None = rw (eq-eqb (before x) (suc k) own) at none in
    absurd (omega (arith, own, ap level_before is))

-- none stands at level 0
pub no_prefix_at_zero : (x : TokenMark) → prefix_at 0 x ≡ None
unfolding prefix_at
no_prefix_at_zero x = elim (eqb (before x) 0) as (λ b. eqb (before x) 0 ≡ b → cond b (prefix_of x) None ≡ None) [
  | true ↦ λ q. no_prefix (prefix_of x) (eqb-true _ _ q)
  | false ↦ λ q. refl
] refl

pub prefix_end : (k : ℕ) → prefix_at k m.End ≡ None
unfolding prefix_at
prefix_end k = elim (eqb 0 k) as (λ b. cond b (prefix_of m.End) None ≡ None) [ true ↦ refl | false ↦ refl ]

-- an operator stands at its own level
role_level : (k : ℕ) (x : TokenMark) (o : Op) → role_at k x ≡ Infix o → op_level o ≡ k
unfolding role_at
role_level k x o e = elim (eqb (level_of (role_of x)) k) as (λ b. eqb (level_of (role_of x)) k ≡ b → cond b (role_of x) Ends ≡ Infix o → op_level o ≡ k) [
  | true ↦ λ q f. sym (ap level_of f) ∙ eqb-true _ _ q
  | false ↦ λ q f. absurd cc
] refl e

-- and its right operand is of a level that goes by this one
pub right_is : (k : ℕ) (x : TokenMark) (o : Op) (way : Grouping) → role_at k x ≡ Infix o → grouping o ≡ way → level_right_of way k ≡ right_level o
right_is k x o way e w = ap₂ level_right_of (sym w) (sym (role_level k x o e))

-- what begins a primary is no operator before an operand
word_start_plain : (w : Word) → start_of (m.Word w) ≢ s.Nothing → before (m.Word w) ≡ 0
word_start_plain word.Not some = absurd (some refl)
word_start_plain word.Next some = absurd (some refl)
word_start_plain _ some = refl

symbol_start_plain : (x : Symbol) → start_of (m.Symbol x) ≢ s.Nothing → before (m.Symbol x) ≡ 0
symbol_start_plain symbol.Minus some = absurd (some refl)
symbol_start_plain _ some = refl

pub start_plain : (x : TokenMark) → start_of x ≢ s.Nothing → before x ≡ 0
start_plain (m.Word w) some = word_start_plain w some
start_plain (m.Symbol x) some = symbol_start_plain x some
start_plain _ some = refl

-- no phrase begins with the mark
abbrev pub BeginsNone : TokenMark → Type 0
BeginsNone x = (start_of x ≡ s.Nothing) × (before x ≡ 0)

close_begins_none : (x : Symbol) → (half_mark (m.Symbol x) ≡ m.Symbol symbol.Greater) ⊎ (half_mark (m.Symbol x) ≡ m.Symbol symbol.CloseRound) → BeginsNone (m.Symbol x)
close_begins_none symbol.Greater e = (refl, refl)
close_begins_none symbol.GreaterEqual e = (refl, refl)
close_begins_none symbol.CloseRound e = (refl, refl)
close_begins_none _ (inl e) = absurd cc
close_begins_none _ (inr e) = absurd cc

-- no phrase begins where the end of a list or of operands in parentheses is due
pub due_begins_none : (x : TokenMark) → (half_mark x ≡ m.Symbol symbol.Greater) ⊎ (half_mark x ≡ m.Symbol symbol.CloseRound) → BeginsNone x
due_begins_none (m.Symbol x) e = close_begins_none x e
due_begins_none _ (inl e) = absurd cc
due_begins_none _ (inr e) = absurd cc
