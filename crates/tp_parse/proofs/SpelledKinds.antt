-- Each kind of phrase in the tokens of its canonical spelling.
use Rattle.std.proofs.Common.{◌≡◌, ◌≢◌, ℕ, suc, ◌-◌, ◌≤◌, inl, inr, ℤ, Bool, true, false, cond, List, [], ◌∷◌, drop, slice_index, Some, refl, sym, ap, ap₂, subst, ◌∙◌, arith}
use Rattle.std.specs.Char.{is_ascii_uppercase}
use Rattle.tp_lex.specs.declared.token.Kind.{Kind}
use Rattle.tp_lex.specs.declared.token.Kind.TheVariants as kind
use Rattle.tp_lex.specs.declared.token.Word.TheVariants as word
use Rattle.tp_lex.specs.declared.token.Symbol.TheVariants as symbol
use Rattle.tp_tree.specs.declared.operator.Op.{Op}
use Rattle.tp_tree.specs.declared.operator.Op.TheVariants as op
use Rattle.tp_tree.specs.declared.operator.Bare.{Bare}
use Rattle.tp_tree.specs.declared.operator.Bare.TheVariants as b
use Rattle.tp_tree.specs.declared.operator.Form.{Form}
use Rattle.tp_tree.specs.declared.operator.Form.TheVariants as f
use Rattle.tp_tree.specs.Tree as t
use Rattle.tp_tree.specs.Tree.{PhraseTree, phrase, KindTree, PhraseTrees, no_phrase, phrase_then, phrases_of}
use Rattle.tp_tree.specs.declared.operator.Grouping.TheVariants.{Left, Single, Right}
use Rattle.tp_tree.specs.Levels.{op_level, grouping}
use Rattle.tp_tree.specs.Places.{unplaced, unplaced_kind}
use Rattle.tp_parse.specs.declared.mark.TokenMark.TheVariants as m
use Rattle.tp_parse.specs.declared.mark.Prefix.{Prefix}
use Rattle.tp_parse.specs.declared.mark.Prefix.TheVariants as prefix
use Rattle.tp_parse.specs.declared.mark.Enclosure.TheVariants as enclosure
use Rattle.tp_parse.specs.declared.mark.TokenRole.TheVariants.{Ends, Infix, Opens, Joins}
use Rattle.tp_parse.specs.declared.mark.Start.TheVariants as s
use Rattle.tp_parse.specs.declared.head.Pair.{Pair}
use Rattle.tp_parse.specs.declared.head.Pair.TheVariants as pair
use Rattle.tp_parse.specs.declared.head.PrimaryHead.TheVariants as h
use Rattle.tp_parse.specs.Marks.{kind_mark, middle, prefix_at, role_of, role_at, level_of, start_of, Tokens, mark, mark_due, half_mark, first_name, past}
use Rattle.tp_parse.specs.Grammar.{Found, prefixed_kind, pair_kind, BeginsPrimary, Parses, open_round}
use Rattle.tp_parse.specs.Grammar as g
use Rattle.tp_parse.specs.Spelled.{token_kinds, op_kind, bare_kind, form_kind, open_kind, close_kind, operand_kinds, more_operands, HasTwo, HasName}
use Rattle.tp_parse.proofs.SpelledTokens.{next_is, next_mark, mark_next, passed_whole, opened_is, EndsBefore, lower_ends, role_ends, ReadAs, OpensAs, stays}
use Rattle.tp_parse.proofs.SpelledParts.{grammar_level, is_left, IsOperand, AreOperands, IsKind, KindReads, others_are, listing_is, names_are}

-- ---- what has no operands

pub number_is : (n : ℤ) → IsKind (t.number n)
number_is n = record {
  low = omega arith;
  reads = λ ts ks e st. (let h = next_is ts (kind.Number n) ks e in
      record { found = _; rest = drop 1 ts; parses = g.atom (g.number (ap start_of h.mark)); left = h.later; same = ap (λ i. phrase 0 (t.number i)) h.number });
  opens = tt;
}

pub truth_is : (x : Bool) → IsKind (t.truth x)
truth_is true = record {
  low = omega arith;
  reads = λ ts ks e st. (let h = next_is ts (kind.Word word.True) ks e in
      record { found = _; rest = drop 1 ts; parses = g.atom (g.truth {b = true} (ap start_of h.mark)); left = h.later; same = refl });
  opens = tt;
}
truth_is false = record {
  low = omega arith;
  reads = λ ts ks e st. (let h = next_is ts (kind.Word word.False) ks e in
      record { found = _; rest = drop 1 ts; parses = g.atom (g.truth {b = false} (ap start_of h.mark)); left = h.later; same = refl });
  opens = tt;
}

pub name_is : (x : List ℕ) → IsKind (t.name x)
name_is x = record { low = omega arith; reads = λ ts ks e st. by (is_ascii_uppercase (slice_index x 0)) ts ks e st; opens = tt }
  where
    by : (b : Bool) (ts : Tokens) (ks : List Kind) → token_kinds ts ≡ cond b (kind.Upper x) (kind.Lower x) ∷ ks → EndsBefore 0 ks → ReadAs 0 ts (phrase 0 (t.name x)) ks
    by true ts ks e st =
        let h = next_is ts (kind.Upper x) ks e in
        record { found = _; rest = drop 1 ts; parses = g.atom (g.upper_name (ap start_of h.mark)); left = h.later; same = ap (λ y. phrase 0 (t.name y)) h.name }
    by false ts ks e st =
        let h = next_is ts (kind.Lower x) ks e in
        record { found = _; rest = drop 1 ts; parses = g.atom (g.lower_name (ap start_of h.mark) (λ q. st.bare (sym (mark_next (drop 1 ts) ks h.later) ∙ q))); left = h.later; same = ap (λ y. phrase 0 (t.name y)) h.name }

bare_starts : (w : Bare) → start_of (kind_mark (bare_kind w)) ≡ s.Bare w
bare_starts b.Empty = refl
bare_starts _ = refl

pub bare_is : (w : Bare) → IsKind (t.bare w)
bare_is w = record {
  low = omega arith;
  reads = λ ts ks e st. (let h = next_is ts (bare_kind w) ks e in
      record { found = _; rest = drop 1 ts; parses = g.atom (g.bare {w = w} (ap start_of h.mark ∙ bare_starts w)); left = h.later; same = refl });
  opens = tt;
}

-- ---- what has operands in brackets

close_ends : (l : ℕ) (ks : List Kind) → EndsBefore l (close_kind ∷ ks)
close_ends l ks = record { role = inl refl; bare = λ e. cc; last = λ h e. cc }

form_starts : (x : Form) → start_of (kind_mark (form_kind x)) ≡ s.Form x
form_starts f.Always = refl
form_starts _ = refl

pub form_is : (x : Form) (ps : PhraseTrees) → AreOperands ps → IsKind (t.form x ps)
form_is x ps is = record {
  low = omega arith;
  reads = λ ts ks e st. (let h = next_is ts (form_kind x) _ e in
      let o = passed_whole (drop 1 ts) open_kind _ h.later refl in
      let r = listing_is 11 close_kind ps is (past (drop 1 ts)) ks o.1 (close_ends 11 ks) (λ q. cc) refl in
      record { found = _; rest = r.rest; parses = g.listed (g.form {f = x} (ap start_of h.mark ∙ form_starts x) o.0) r.read; left = r.left; same = ap (λ us. phrase 0 (t.form x us)) r.same });
  opens = tt;
}

pub call_is : (x : List ℕ) (ps : PhraseTrees) → AreOperands ps → IsKind (t.call x ps)
call_is x ps is = record {
  low = omega arith;
  reads = λ ts ks e st. (let h = next_is ts (kind.Lower x) _ e in
      let o = next_is (drop 1 ts) open_kind _ h.later in
      let r = listing_is 11 close_kind ps is (drop 1 (drop 1 ts)) ks o.later (close_ends 11 ks) (λ q. cc) refl in
      record { found = _; rest = r.rest; parses = g.listed (g.call (ap start_of h.mark) o.mark) r.read; left = r.left; same = ap₂ (λ y us. phrase 0 (t.call y us)) h.name r.same });
  opens = tt;
}

greater_ends : (ks : List Kind) → EndsBefore 4 (kind.Symbol symbol.Greater ∷ ks)
greater_ends ks = record { role = inr (omega arith); bare = λ e. cc; last = λ h e. cc }

pub list_is : (ps : PhraseTrees) → AreOperands ps → IsKind (t.list ps)
list_is ps is = record { low = omega arith; reads = reads ps is; opens = tt }
  where
    reads : (ps : PhraseTrees) → AreOperands ps → KindReads (t.list ps)
    reads no_phrase is ts ks e st =
        let h = next_is ts (kind.Symbol symbol.Differs) ks e in
        record { found = _; rest = drop 1 ts; parses = g.atom (g.empty_list (ap start_of h.mark)); left = h.later; same = refl }
    reads (phrase_then p ps) is ts ks e st =
        let h = opened_is ts _ e in
        let r = listing_is 4 (kind.Symbol symbol.Greater) (phrase_then p ps) is (past ts) ks h.1 (greater_ends ks) (λ q. cc) refl in
        record { found = _; rest = r.rest; parses = g.listed (g.list h.0) r.read; left = r.left; same = ap (λ us. phrase 0 (t.list us)) r.same }

bar_ends : (l : ℕ) (ks : List Kind) → EndsBefore l (kind.Symbol symbol.Bar ∷ ks)
bar_ends l ks = record { role = inl refl; bare = λ e. cc; last = λ h e. cc }

pub size_is : (x : PhraseTree) → IsOperand x → IsKind (t.size x)
size_is x is = record {
  low = omega arith;
  reads = λ ts ks e st. (let h = next_is ts (kind.Symbol symbol.Bar) _ e in
      let r = is.reads 4 (drop 1 ts) (kind.Symbol symbol.Bar ∷ ks) h.later (bar_ends 4 ks) in
      let c = passed_whole r.rest (kind.Symbol symbol.Bar) ks r.left refl in
      record { found = _; rest = past r.rest; parses = g.enclosed (g.enclosure {e = enclosure.Size} (ap start_of h.mark)) r.parses c.0; left = c.1; same = ap (λ u. phrase 0 (t.size u)) r.same });
  opens = tt;
}

-- ---- operators before an operand

unplaced_prefixed : (o : Prefix) (a : PhraseTree) → unplaced_kind (prefixed_kind o a) ≡ prefixed_kind o (unplaced a)
unplaced_prefixed prefix.Not a = refl
unplaced_prefixed _ a = refl

prefix_reads : (o : Prefix) (k : Kind) (l : ℕ) (x : PhraseTree) → prefix_at (suc l) (kind_mark k) ≡ Some o → grammar_level (suc l) ≡ suc l → IsOperand x
    → (ts : Tokens) (ks : List Kind) → token_kinds ts ≡ k ∷ operand_kinds (suc l) x ks → EndsBefore (suc l) ks → ReadAs (suc l) ts (phrase 0 (prefixed_kind o (unplaced x))) ks
prefix_reads o k l x at level is ts ks e st =
    let h = next_is ts k _ e in
    let r = is.reads (suc l) (drop 1 ts) ks h.later st in
    record {
      found = _;
      rest = r.rest;
      parses = g.prefixed (ap (prefix_at (suc l)) h.mark ∙ at) (subst (λ n. Parses n (drop 1 ts) r.found r.rest) level r.parses);
      left = r.left;
      same = ap (phrase 0) (unplaced_prefixed o r.found.tree ∙ ap (prefixed_kind o) r.same);
    }

pub minus_is : (x : PhraseTree) → IsOperand x → IsKind (t.minus x)
unfolding prefix_at
minus_is x is = record { low = omega arith; reads = prefix_reads prefix.Minus (kind.Symbol symbol.Minus) 1 x refl refl is; opens = λ lf ts ks e st. absurd cc }

pub next_phrase_is : (x : PhraseTree) → IsOperand x → IsKind (t.next x)
unfolding prefix_at
next_phrase_is x is = record { low = omega arith; reads = prefix_reads prefix.Next (kind.Word word.Next) 1 x refl refl is; opens = λ lf ts ks e st. absurd cc }

pub negation_is : (x : PhraseTree) → IsOperand x → IsKind (t.negation x)
unfolding prefix_at
negation_is x is = record { low = omega arith; reads = prefix_reads prefix.Not (kind.Word word.Not) 5 x refl refl is; opens = λ lf ts ks e st. absurd cc }

-- ---- indices, and operators between operands

square_ends : (ks : List Kind) → EndsBefore 0 (kind.Symbol symbol.OpenSquare ∷ ks)
square_ends ks = record { role = inr (omega arith); bare = λ e. cc; last = λ h e. cc }

close_square_ends : (l : ℕ) (ks : List Kind) → EndsBefore l (kind.Symbol symbol.CloseSquare ∷ ks)
close_square_ends l ks = record { role = inl refl; bare = λ e. cc; last = λ h e. cc }

square_role : role_at 1 (m.Symbol symbol.OpenSquare) ≡ Opens
unfolding role_at
square_role = refl

pub index_is : (x y : PhraseTree) → IsOperand x → IsOperand y → IsKind (t.index x y)
index_is x y left right = record { low = omega arith; reads = λ ts ks e st. stays 0 (role_ends 1 ks st 1 (omega arith)) (opens ts ks e (lower_ends 0 (omega arith) st)); opens = λ lf. opens }
  where
    opens : (ts : Tokens) (ks : List Kind) → token_kinds ts ≡ operand_kinds 1 x (kind.Symbol symbol.OpenSquare ∷ operand_kinds 11 y (kind.Symbol symbol.CloseSquare ∷ ks)) → EndsBefore 0 ks → OpensAs 0 ts (phrase 0 (t.index (unplaced x) (unplaced y))) ks
    opens ts ks e st =
        let o = left.opens 0 (omega arith) refl ts _ e (square_ends _) in
        let h = next_is o.rest (kind.Symbol symbol.OpenSquare) _ o.left in
        let r = right.reads 11 (drop 1 o.rest) (kind.Symbol symbol.CloseSquare ∷ ks) h.later (close_square_ends 11 ks) in
        let c = passed_whole r.rest (kind.Symbol symbol.CloseSquare) ks r.left refl in
        record { found = _; rest = past r.rest; left = c.1; same = ap₂ (λ u v. phrase 0 (t.index u v)) o.same r.same; goes = λ z end q. o.goes z end (g.indexed (ap (role_at 1) h.mark ∙ square_role) r.parses c.0 q) }

-- an operator of the level, which ends operands of lower levels
abbrev IsOpAt : ℕ → Op → Type 0
IsOpAt i o = (ks : List Kind) → EndsBefore i (op_kind o ∷ ks)

left_is : (o : Op) (i : ℕ) (x y : PhraseTree) → suc i ≤ 10 → is_left (suc i) ≡ true → IsOpAt i o → grammar_level i ≡ i → role_at (suc i) (kind_mark (op_kind o)) ≡ Infix o → grouping o ≡ Left → IsOperand x → IsOperand y
    → (ts : Tokens) (ks : List Kind) → token_kinds ts ≡ operand_kinds (suc i) x (op_kind o ∷ operand_kinds i y ks) → EndsBefore i ks → OpensAs i ts (phrase 0 (t.binary o (unplaced x) (unplaced y))) ks
left_is o i x y high lf at low role way left right ts ks e st =
    let w = left.opens i high lf ts _ e (at _) in
    let h = next_is w.rest (op_kind o) _ w.left in
    let r = right.reads i (drop 1 w.rest) ks h.later st in
    let down : grammar_level i ≡ suc i - 1 = low ∙ omega arith in
    record {
      found = _;
      rest = r.rest;
      left = r.left;
      same = ap₂ (λ u v. phrase 0 (t.binary o u v)) w.same r.same;
      goes = λ z end q. w.goes z end (g.left (ap (role_at (suc i)) h.mark ∙ role) way (subst (λ n. Parses n (drop 1 w.rest) r.found r.rest) down r.parses) q);
    }

-- where the operator groups to the left
left_kind : (o : Op) (i : ℕ) (x y : PhraseTree) → suc i ≤ 10 → is_left (suc i) ≡ true → IsOpAt i o → grammar_level i ≡ i → role_at (suc i) (kind_mark (op_kind o)) ≡ Infix o → grouping o ≡ Left → IsOperand x → IsOperand y
    → (ts : Tokens) (ks : List Kind) → token_kinds ts ≡ operand_kinds (suc i) x (op_kind o ∷ operand_kinds i y ks) → EndsBefore (suc i) ks → ReadAs (suc i) ts (phrase 0 (t.binary o (unplaced x) (unplaced y))) ks
left_kind o i x y high lf at low role way left right ts ks e st =
    stays i (role_ends (suc i) ks st (suc i) (omega arith)) (left_is o i x y high lf at low role way left right ts ks e (lower_ends i (omega arith) st))

-- where it groups to the right
right_kind : (o : Op) (i : ℕ) (x y : PhraseTree) → IsOpAt i o → grammar_level i ≡ i → grammar_level (suc i) ≡ suc i → role_at (suc i) (kind_mark (op_kind o)) ≡ Infix o → grouping o ≡ Right → IsOperand x → IsOperand y
    → (ts : Tokens) (ks : List Kind) → token_kinds ts ≡ operand_kinds i x (op_kind o ∷ operand_kinds (suc i) y ks) → EndsBefore (suc i) ks → ReadAs (suc i) ts (phrase 0 (t.binary o (unplaced x) (unplaced y))) ks
right_kind o i x y at low high role way left right ts ks e st =
    let w = left.reads i ts _ e (at _) in
    let h = next_is w.rest (op_kind o) _ w.left in
    let r = right.reads (suc i) (drop 1 w.rest) ks h.later st in
    record {
      found = _;
      rest = r.rest;
      parses = g.level (subst (λ n. Parses n ts w.found w.rest) low w.parses) (g.right (ap (role_at (suc i)) h.mark ∙ role) way (subst (λ n. Parses n (drop 1 w.rest) r.found r.rest) high r.parses));
      left = r.left;
      same = ap₂ (λ u v. phrase 0 (t.binary o u v)) w.same r.same;
    }

-- where it doesn't group
single_kind : (o : Op) (x y : PhraseTree) → IsOpAt 4 o → role_at 5 (kind_mark (op_kind o)) ≡ Infix o → grouping o ≡ Single → IsOperand x → IsOperand y
    → (ts : Tokens) (ks : List Kind) → token_kinds ts ≡ operand_kinds 4 x (op_kind o ∷ operand_kinds 4 y ks) → EndsBefore 5 ks → ReadAs 5 ts (phrase 0 (t.binary o (unplaced x) (unplaced y))) ks
single_kind o x y at role way left right ts ks e st =
    let w = left.reads 4 ts _ e (at _) in
    let h = next_is w.rest (op_kind o) _ w.left in
    let r = right.reads 4 (drop 1 w.rest) ks h.later (lower_ends 4 (omega arith) st) in
    record {
      found = _;
      rest = r.rest;
      parses = g.level w.parses (g.single (ap (role_at 5) h.mark ∙ role) way r.parses);
      left = r.left;
      same = ap₂ (λ u v. phrase 0 (t.binary o u v)) w.same r.same;
    }

op_ends : (o : Op) (g : ℕ) → suc g ≡ op_level o → IsOpAt g o
op_ends op.Chop g e ks = record { role = inr (omega (arith, e)); bare = λ q. cc; last = λ h q. cc }
op_ends _ g e ks = record { role = inr (omega (arith, e)); bare = λ q. cc; last = λ h q. cc }

pub binary_is : (o : Op) (x y : PhraseTree) → IsOperand x → IsOperand y → IsKind (t.binary o x y)
unfolding role_at
binary_is op.Chop x y left right = record { low = omega arith; reads = right_kind op.Chop 9 x y (op_ends op.Chop 9 refl) refl refl refl refl left right; opens = λ lf ts ks e st. absurd cc }
binary_is op.Proj x y left right = record { low = omega arith; reads = right_kind op.Proj 8 x y (op_ends op.Proj 8 refl) refl refl refl refl left right; opens = λ lf ts ks e st. absurd cc }
binary_is op.Or x y left right = record { low = omega arith; reads = left_kind op.Or 7 x y (omega arith) refl (op_ends op.Or 7 refl) refl refl refl left right; opens = λ lf. left_is op.Or 7 x y (omega arith) refl (op_ends op.Or 7 refl) refl refl refl left right }
binary_is op.Plus x y left right = record { low = omega arith; reads = left_kind op.Plus 3 x y (omega arith) refl (op_ends op.Plus 3 refl) refl refl refl left right; opens = λ lf. left_is op.Plus 3 x y (omega arith) refl (op_ends op.Plus 3 refl) refl refl refl left right }
binary_is op.Minus x y left right = record { low = omega arith; reads = left_kind op.Minus 3 x y (omega arith) refl (op_ends op.Minus 3 refl) refl refl refl left right; opens = λ lf. left_is op.Minus 3 x y (omega arith) refl (op_ends op.Minus 3 refl) refl refl refl left right }
binary_is op.Times x y left right = record { low = omega arith; reads = left_kind op.Times 2 x y (omega arith) refl (op_ends op.Times 2 refl) refl refl refl left right; opens = λ lf. left_is op.Times 2 x y (omega arith) refl (op_ends op.Times 2 refl) refl refl refl left right }
binary_is op.Div x y left right = record { low = omega arith; reads = left_kind op.Div 2 x y (omega arith) refl (op_ends op.Div 2 refl) refl refl refl left right; opens = λ lf. left_is op.Div 2 x y (omega arith) refl (op_ends op.Div 2 refl) refl refl refl left right }
binary_is op.Mod x y left right = record { low = omega arith; reads = left_kind op.Mod 2 x y (omega arith) refl (op_ends op.Mod 2 refl) refl refl refl left right; opens = λ lf. left_is op.Mod 2 x y (omega arith) refl (op_ends op.Mod 2 refl) refl refl refl left right }
binary_is op.Equal x y left right = record { low = omega arith; reads = single_kind op.Equal x y (op_ends op.Equal 4 refl) refl refl left right; opens = λ lf ts ks e st. absurd cc }
binary_is op.Differs x y left right = record { low = omega arith; reads = single_kind op.Differs x y (op_ends op.Differs 4 refl) refl refl left right; opens = λ lf ts ks e st. absurd cc }
binary_is op.Less x y left right = record { low = omega arith; reads = single_kind op.Less x y (op_ends op.Less 4 refl) refl refl left right; opens = λ lf ts ks e st. absurd cc }
binary_is op.LessEqual x y left right = record { low = omega arith; reads = single_kind op.LessEqual x y (op_ends op.LessEqual 4 refl) refl refl left right; opens = λ lf ts ks e st. absurd cc }
binary_is op.Greater x y left right = record { low = omega arith; reads = single_kind op.Greater x y (op_ends op.Greater 4 refl) refl refl left right; opens = λ lf ts ks e st. absurd cc }
binary_is op.GreaterEqual x y left right = record { low = omega arith; reads = single_kind op.GreaterEqual x y (op_ends op.GreaterEqual 4 refl) refl refl left right; opens = λ lf ts ks e st. absurd cc }
binary_is op.Gets x y left right = record { low = omega arith; reads = single_kind op.Gets x y (op_ends op.Gets 4 refl) refl refl left right; opens = λ lf ts ks e st. absurd cc }
binary_is op.Arrow x y left right = record { low = omega arith; reads = single_kind op.Arrow x y (op_ends op.Arrow 4 refl) refl refl left right; opens = λ lf ts ks e st. absurd cc }
binary_is op.Becomes x y left right = record { low = omega arith; reads = single_kind op.Becomes x y (op_ends op.Becomes 4 refl) refl refl left right; opens = λ lf ts ks e st. absurd cc }

-- ---- chains

and_ends : (ks : List Kind) → EndsBefore 6 (kind.Word word.And ∷ ks)
and_ends ks = record { role = inr (omega arith); bare = λ e. cc; last = λ h e. cc }

-- what ends a chain is no `and`
ends_no_and : (ks : List Kind) → EndsBefore 7 ks → next_mark ks ≢ m.Word word.And
ends_no_and ks st e = elim st.role [
  | inl q ↦ let w = sym (ap role_of e) ∙ q in cc
  | inr q ↦ let w : level_of (role_of (next_mark ks)) ≡ 7 = ap (λ x. level_of (role_of x)) e in absurd (omega (arith, q, w))
]

and_role : role_at 7 (m.Word word.And) ≡ Joins
unfolding role_at
and_role = refl

pub conjunction_is : (ps : PhraseTrees) → HasTwo ps → AreOperands ps → IsKind (t.conjunction ps)
conjunction_is no_phrase two is = absurd two
conjunction_is (phrase_then x no_phrase) two is = absurd two
conjunction_is (phrase_then x (phrase_then y ps)) two is = record { low = omega arith; reads = reads; opens = λ lf ts ks e st. absurd cc }
  where
    reads : KindReads (t.conjunction (phrase_then x (phrase_then y ps)))
    reads ts ks e st =
        let w = is.0.reads 6 ts (more_operands (kind.Word word.And) 6 (phrase_then y ps) ks) e (and_ends _) in
        let h = next_is w.rest (kind.Word word.And) _ w.left in
        let o = others_are 6 (kind.Word word.And) (phrase_then y ps) is.1 w.rest ks w.left (lower_ends 6 (omega arith) st) (ends_no_and ks st) and_ends in
        record { found = _; rest = o.rest; parses = g.level w.parses (g.joins (ap (role_at 7) h.mark ∙ and_role) o.read); left = o.left; same = ap₂ (λ u us. phrase 0 (t.conjunction (phrase_then u us))) w.same o.same }

-- ---- what reaches to the right

word_ends : (l : ℕ) (k : Kind) (ks : List Kind) → role_of (kind_mark k) ≡ Ends → kind_mark k ≢ open_round → kind_mark k ≢ m.Word word.Else → EndsBefore l (k ∷ ks)
word_ends l k ks e f h = record { role = inl e; bare = f; last = λ i. h }

else_ends : (ks : List Kind) → EndsBefore 10 (kind.Word word.Else ∷ ks)
else_ends ks = record { role = inl refl; bare = λ e. cc; last = λ h. absurd (omega (arith, h)) }

-- an `if`, its condition and the `then`
record IfThen (ts : Tokens) (x : PhraseTree) (ks : List Kind) : Type 0 where
  condition : Found
  then : Tokens
  begins : BeginsPrimary ts h.If (drop 1 ts)
  parses : Parses 10 (drop 1 ts) condition then
  due : mark_due then ≡ m.Word word.Then
  left : token_kinds (past then) ≡ ks
  same : unplaced condition.tree ≡ unplaced x

if_then : (x : PhraseTree) → IsOperand x → (ts : Tokens) (ks : List Kind) → token_kinds ts ≡ kind.Word word.If ∷ operand_kinds 11 x (kind.Word word.Then ∷ ks) → IfThen ts x ks
if_then x is ts ks e =
    let h = next_is ts (kind.Word word.If) _ e in
    let r = is.reads 11 (drop 1 ts) _ h.later (word_ends 11 (kind.Word word.Then) _ refl (λ q. cc) (λ q. cc)) in
    let c = passed_whole r.rest (kind.Word word.Then) _ r.left refl in
    record { condition = r.found; then = r.rest; begins = g.if (ap start_of h.mark); parses = r.parses; due = c.0; left = c.1; same = r.same }

pub choice_is : (x y : PhraseTree) → IsOperand x → IsOperand y → IsKind (t.choice x y)
choice_is x y first second = record {
  low = omega arith;
  reads = λ ts ks e st. (let c = if_then x first ts _ e in
      let w = second.reads 10 (past c.then) ks c.left (lower_ends 10 (omega arith) st) in
      record { found = _; rest = w.rest; parses = g.if_then c.begins c.parses c.due w.parses (λ q. st.last (omega arith) (sym (mark_next w.rest ks w.left) ∙ q)); left = w.left; same = ap₂ (λ u v. phrase 0 (t.choice u v)) c.same w.same });
  opens = λ lf ts ks e st. absurd cc;
}

pub choice_else_is : (x y z : PhraseTree) → IsOperand x → IsOperand y → IsOperand z → IsKind (t.choice_else x y z)
choice_else_is x y z first second third = record {
  low = omega arith;
  reads = λ ts ks e st. (let c = if_then x first ts _ e in
      let w = second.reads 10 (past c.then) _ c.left (else_ends _) in
      let d = next_is w.rest (kind.Word word.Else) _ w.left in
      let v = third.reads 11 (drop 1 w.rest) ks d.later st in
      record { found = _; rest = v.rest; parses = g.if_else c.begins c.parses c.due w.parses d.mark v.parses; left = v.left; same = ap₂ (λ a b. phrase 0 (t.choice_else a b (unplaced v.found.tree))) c.same w.same ∙ ap (λ b. phrase 0 (t.choice_else (unplaced x) (unplaced y) b)) v.same });
  opens = λ lf ts ks e st. absurd cc;
}

-- two operands, with a word or a symbol between them
unplaced_pair : (q : Pair) (a b : PhraseTree) → unplaced_kind (pair_kind q a b) ≡ pair_kind q (unplaced a) (unplaced b)
unplaced_pair pair.While a b = refl
unplaced_pair _ a b = refl

pair_reads : {ts mid : Tokens} (q : Pair) (v : Kind) (x y : PhraseTree) → BeginsPrimary ts (h.Paired q) mid → kind_mark v ≡ middle q → half_mark (kind_mark v) ≡ kind_mark v → ((xs : List Kind) → EndsBefore 11 (v ∷ xs)) → IsOperand x → IsOperand y
    → (ks : List Kind) → token_kinds mid ≡ operand_kinds 11 x (v ∷ operand_kinds 11 y ks) → EndsBefore 11 ks → ReadAs 0 ts (phrase 0 (pair_kind q (unplaced x) (unplaced y))) ks
pair_reads {mid = mid} q v x y b between whole ends first second ks e st =
    let r = first.reads 11 mid _ e (ends _) in
    let c = passed_whole r.rest v _ r.left whole in
    let w = second.reads 11 (past r.rest) ks c.1 st in
    record { found = _; rest = w.rest; parses = g.paired b r.parses (c.0 ∙ between) w.parses; left = w.left; same = ap (phrase 0) (unplaced_pair q r.found.tree w.found.tree ∙ ap₂ (pair_kind q) r.same w.same) }

do_ends : (ks : List Kind) → EndsBefore 11 (kind.Word word.Do ∷ ks)
do_ends ks = word_ends 11 (kind.Word word.Do) ks refl (λ q. cc) (λ q. cc)

pub while_is : (x y : PhraseTree) → IsOperand x → IsOperand y → IsKind (t.while x y)
while_is x y first second = record {
  low = omega arith;
  reads = λ ts ks e st. (let n = next_is ts (kind.Word word.While) _ e in
      pair_reads pair.While (kind.Word word.Do) x y (g.while (ap start_of n.mark)) refl refl do_ends first second ks n.later st);
  opens = λ lf ts ks e st. absurd cc;
}

pub repeat_is : (x y : PhraseTree) → IsOperand x → IsOperand y → IsKind (t.repeat x y)
repeat_is x y first second = record {
  low = omega arith;
  reads = λ ts ks e st. (let n = next_is ts (kind.Word word.Repeat) _ e in
      pair_reads pair.Repeat (kind.Word word.Until) x y (g.repeat (ap start_of n.mark)) refl refl (λ xs. word_ends 11 (kind.Word word.Until) xs refl (λ q. cc) (λ q. cc)) first second ks n.later st);
  opens = λ lf ts ks e st. absurd cc;
}

-- a word, a name and a `<`
record Counts (ts : Tokens) (k : Kind) (z : List ℕ) (ks : List Kind) : Type 0 where
  first : mark ts ≡ kind_mark k
  lower : mark (drop 1 ts) ≡ m.Lower
  less : mark_due (drop 1 (drop 1 ts)) ≡ m.Symbol symbol.Less
  name : first_name (drop 1 ts) ≡ z
  left : token_kinds (past (drop 1 (drop 1 ts))) ≡ ks

counts : (ts : Tokens) (k : Kind) (z : List ℕ) (ks : List Kind) → token_kinds ts ≡ k ∷ kind.Lower z ∷ kind.Symbol symbol.Less ∷ ks → Counts ts k z ks
counts ts k z ks e =
    let a = next_is ts k _ e in
    let n = next_is (drop 1 ts) (kind.Lower z) _ a.later in
    let d = passed_whole (drop 1 (drop 1 ts)) (kind.Symbol symbol.Less) _ n.later refl in
    record { first = a.mark; lower = n.mark; less = d.0; name = n.name; left = d.1 }

pub for_is : (z : List ℕ) (x y : PhraseTree) → IsOperand x → IsOperand y → IsKind (t.for z x y)
for_is z x y first second = record {
  low = omega arith;
  reads = λ ts ks e st. (let c = counts ts (kind.Word word.For) z _ e in
      subst (λ a. ReadAs 0 ts (phrase 0 (t.for a (unplaced x) (unplaced y))) ks) c.name (pair_reads (pair.For (first_name (drop 1 ts))) (kind.Word word.Do) x y (g.for (ap start_of c.first) c.lower c.less) refl refl do_ends first second ks c.left st));
  opens = λ lf ts ks e st. absurd cc;
}

pub forall_is : (z : List ℕ) (x y : PhraseTree) → IsOperand x → IsOperand y → IsKind (t.forall z x y)
forall_is z x y first second = record {
  low = omega arith;
  reads = λ ts ks e st. (let c = counts ts (kind.Word word.Forall) z _ e in
      subst (λ a. ReadAs 0 ts (phrase 0 (t.forall a (unplaced x) (unplaced y))) ks) c.name (pair_reads (pair.Forall (first_name (drop 1 ts))) (kind.Symbol symbol.Colon) x y (g.forall (ap start_of c.first) c.lower c.less) refl refl (λ xs. word_ends 11 (kind.Symbol symbol.Colon) xs refl (λ q. cc) (λ q. cc)) first second ks c.left st));
  opens = λ lf ts ks e st. absurd cc;
}

pub exists_is : (xs : List (List ℕ)) (x : PhraseTree) → HasName xs → IsOperand x → IsKind (t.exists xs x)
exists_is [] x some is = absurd some
exists_is (z ∷ zs) x some is = record {
  low = omega arith;
  reads = λ ts ks e st. (let h = next_is ts (kind.Word word.Exists) _ e in
      let n = names_are z zs (drop 1 ts) _ h.later (λ q. cc) in
      let d = passed_whole n.rest (kind.Symbol symbol.Colon) _ n.left refl in
      let w = is.reads 11 (past n.rest) ks d.1 st in
      record { found = _; rest = w.rest; parses = g.quantified (g.exists (ap start_of h.mark) n.names d.0) w.parses; left = w.left; same = ap (λ u. phrase 0 (t.exists (z ∷ zs) u)) w.same });
  opens = λ lf ts ks e st. absurd cc;
}
