-- What is in the grammar is read.
use Rattle.std.proofs.Common.{◌≡◌, ◌≢◌, ℕ, zero, suc, ◌-◌, ◌<◌, ◌≤◌, true, ◌⊎◌, inl, inr, [], ◌∷◌, length, drop, Ok, refl, sym, ap, subst, ◌∙◌, arith}
use Rattle.tp_lex.specs.declared.token.Word.TheVariants as word
use Rattle.tp_lex.specs.declared.token.Symbol.TheVariants as symbol
use Rattle.tp_tree.specs.declared.operator.Op.{Op}
use Rattle.tp_tree.specs.declared.operator.Grouping.{Grouping}
use Rattle.tp_tree.specs.declared.operator.Grouping.TheVariants.{Left, Single, Right}
use Rattle.tp_tree.specs.Levels.{chop_level, grouping, level_right_of, right_level}
use Rattle.tp_parse.specs.declared.mark.TokenMark.{TokenMark}
use Rattle.tp_parse.specs.declared.mark.TokenMark.TheVariants as m
use Rattle.tp_parse.specs.declared.mark.TokenRole.{TokenRole}
use Rattle.tp_parse.specs.declared.mark.TokenRole.TheVariants.{Ends, Infix, Opens, Joins}
use Rattle.tp_parse.specs.declared.head.Listed.{Listed}
use Rattle.tp_parse.specs.declared.head.Listed.TheVariants as l
use Rattle.tp_parse.specs.declared.head.PrimaryHead.{PrimaryHead}
use Rattle.tp_parse.specs.declared.head.PrimaryHead.TheVariants as h
use Rattle.tp_parse.specs.Marks.{role_at, start_of, listed_close, enclosed_close, middle, Tokens, mark, from, mark_due, past}
use Rattle.tp_parse.specs.Readers.{TokenReader}
use Rattle.tp_parse.specs.Head.{is_high}
use Rattle.tp_parse.specs.Grammar.{Found, Operands, operand_then, operands_of, of_infix, of_index, of_chain, BeginsPrimary, number, truth, upper_name, lower_name, call, bare, form, empty_list, list, enclosure, if, while, repeat, for, forall, exists, Parses, atom, listed, enclosed, if_then, if_else, paired, quantified, prefixed, level, Goes, ends, left, single, right, indexed, joins, Others, no_more, one_more, Listing, no_operands, operands}
use Rattle.tp_parse.specs.Seen.{then_operand}
use Rattle.tp_parse.specs.Reading as r
use Rattle.tp_parse.proofs.Marks.{no_prefix_at, same_yes, same_no, right_is, due_begins_none}
use Rattle.tp_parse.proofs.Shapes.{tall, taken, role_taken, shorter, passed, low_before, begins_some}
use Rattle.tp_parse.proofs.Heads.{fine, expect_is, deepen_is, fits_is, admit_is, head_complete}
use Rattle.tp_parse.proofs.Sound.{joined, joined_none, joined_more}

mutual
  grows : {k at : ℕ} {a t : Found} {ts rest : Tokens} → Goes k at a ts t rest → a.height ≤ t.height
  grows (ends e) = omega arith
  grows (left e w d g) = omega (arith, grows g)
  grows (single e w d) = omega arith
  grows (right e w d) = omega arith
  grows (indexed e d f g) = omega (arith, grows g)
  grows (joins e o) = omega arith

-- where a list or operands may end, no operand begins
close_due : (x : Listed) (t : TokenMark) → t ≡ listed_close x → (t ≡ m.Symbol symbol.Greater) ⊎ (t ≡ m.Symbol symbol.CloseRound)
close_due l.List t e = inl e
close_due (l.Form f) t e = inr e
close_due (l.Call x) t e = inr e

not_closed : {k : ℕ} {ts rest : Tokens} {a : Found} (x : Listed) → Parses k ts a rest → mark_due ts ≢ listed_close x
not_closed {ts = ts} x d e = begins_some d (due_begins_none (mark ts) (close_due x (mark_due ts) e))

-- an atom's token, and that of operands, asks for no room
begins_low : {ts rest : Tokens} {x : PrimaryHead} → BeginsPrimary ts x rest → is_high (start_of (mark ts)) ≡ true → ((a : _) → x ≢ h.Atom a) × ((a : _) → x ≢ h.Listed a)
begins_low (number e) high = absurd cc
begins_low (truth e) high = absurd cc
begins_low (upper_name e) high = absurd cc
begins_low (lower_name e f) high = absurd cc
begins_low (call e f) high = absurd cc
begins_low (bare e) high = absurd cc
begins_low (form e f) high = absurd cc
begins_low (empty_list e) high = absurd cc
begins_low (list e) high = absurd cc
begins_low (enclosure e) high = (λ a q. cc, λ a q. cc)
begins_low (if e) high = (λ a q. cc, λ a q. cc)
begins_low (while e) high = (λ a q. cc, λ a q. cc)
begins_low (repeat e) high = (λ a q. cc, λ a q. cc)
begins_low (for e f g) high = (λ a q. cc, λ a q. cc)
begins_low (forall e f g) high = (λ a q. cc, λ a q. cc)
begins_low (exists e d f) high = (λ a q. cc, λ a q. cc)

module _ (inner : ℕ → TokenReader Found) (room : ℕ) (complete : (k : ℕ) (ts : Tokens) (x : Found) (rest : Tokens) → Parses k ts x rest → x.height ≤ room → inner k ts ≡ Ok (x, rest)) where
  part_is : {k : ℕ} {ts end : Tokens} {a : Found} (close : TokenMark) → Parses k ts a end → a.height ≤ room → mark_due end ≡ close → r.part inner room k close ts ≡ Ok (a, past end)
  unfolding r.part
  part_is {k} {ts} {end} {a} close d low e = rw (complete k ts a end d low, expect_is close end e) refl

  operated_is : (k : ℕ) (way : Grouping) (o : Op) (at : ℕ) (a b : Found) (ts rest : Tokens) → role_at k (mark ts) ≡ Infix o → grouping o ≡ way → a.height ≤ room → b.height ≤ room
      → Parses (level_right_of way k) (drop 1 ts) b rest → r.operated inner room o at a ts ≡ Ok (of_infix at o a b, rest)
  unfolding r.operated
  operated_is k way o at a b ts rest e w low low2 d =
      let operand = subst (λ n. Parses n (drop 1 ts) b rest) (right_is k (mark ts) o way e w) d in
      rw (fits_is room a.height ts (omega (arith, tall d)) low, complete (right_level o) (drop 1 ts) b rest operand low2) refl

  indexed_is : (at : ℕ) (a i : Found) (ts end : Tokens) → a.height ≤ room → i.height ≤ room → Parses chop_level (drop 1 ts) i end → mark_due end ≡ m.Symbol symbol.CloseSquare
      → r.indexed inner room at a ts ≡ Ok (of_index at a i, past end)
  unfolding r.indexed
  indexed_is at a i ts end low low2 d f =
      rw (fits_is room a.height ts (omega (arith, tall d)) low, part_is (m.Symbol symbol.CloseSquare) d low2 f) refl

  others_complete : {k : ℕ} {separator : TokenMark} {more : Operands} {ts rest : Tokens} → separator ≢ m.End → Others k separator ts more rest → (n : ℕ) (all : Operands) → length ts ≤ n → more.height ≤ room
      → r.others_from inner room k separator n all ts ≡ Ok (joined all more, rest)
  unfolding r.others_from
  others_complete {ts = ts} some (no_more e) zero all few low = ap (λ q. fine (q, ts)) (sym (joined_none all))
  others_complete {separator = separator} {ts = ts} some (no_more e) (suc n) all few low = rw (same_no (mark ts) separator e) (ap (λ q. fine (q, ts)) (sym (joined_none all)))
  others_complete {ts = ts} some (one_more e d o) zero all few low = absurd (omega (arith, taken ts _ e some))
  others_complete {k} {separator} {ts = ts} {rest = rest} some (one_more {x = x} {all = more} {mid = mid} e d o) (suc n) all few low =
      let read : inner k (drop 1 ts) ≡ Ok (x, mid) = complete k (drop 1 ts) x mid d (omega arith) in
      let others = others_complete some o n (then_operand all x) (omega (arith, taken ts _ e some, shorter d)) (omega arith) in
      rw (same_yes (mark ts) separator e, read) (others ∙ ap (λ q. fine (q, rest)) (joined_more all x more))

  operands_is : {k : ℕ} {all : Operands} {ts rest : Tokens} (x : Listed) → Listing k (listed_close x) ts all rest → all.height ≤ room
      → r.operands inner room k (listed_close x) ts ≡ Ok (all, rest)
  unfolding r.operands r.others
  operands_is {ts = ts} x (no_operands e) low = rw (same_yes (mark_due ts) (listed_close x) e) refl
  operands_is {k} {ts = ts} x (operands {x = a} {all = more} {mid = mid} {end = end} d o e) low =
      let others = others_complete (λ q. cc) o (length mid) (operands_of (a.tree ∷ []) a.height) (omega arith) (omega arith) in
      rw (same_no (mark_due ts) (listed_close x) (not_closed x d), complete k ts a mid d (omega arith), others, expect_is (listed_close x) end e) refl

  chained_is : (k at : ℕ) (a : Found) {all : Operands} {ts rest : Tokens} → Others (k - 1) (m.Word word.And) ts all rest → 0 < a.height → a.height ≤ room → all.height ≤ room
      → r.chained inner room k at a ts ≡ Ok (of_chain at (operand_then a all), rest)
  unfolding r.chained r.others
  chained_is k at a {ts = ts} o some low low2 =
      rw (fits_is room a.height ts (omega arith) low, others_complete (λ q. cc) o (length ts) (operands_of (a.tree ∷ []) a.height) (omega arith) low2) refl

  turn_is : (k at : ℕ) (a : Found) (ts : Tokens) (role : TokenRole) → role_at k (mark ts) ≡ role → r.turn inner room k at a ts ≡ r.turn_by inner room k at a role ts
  unfolding r.turn
  turn_is k at a ts role e = ap (λ q. r.turn_by inner room k at a q ts) e

  go_complete : {k at : ℕ} {a t : Found} {ts rest : Tokens} → Goes k at a ts t rest → (n : ℕ) → length ts ≤ n → 0 < a.height → t.height ≤ suc room
      → r.go inner room k at n a ts ≡ Ok (t, rest)
  unfolding r.go
  go_complete (ends e) zero few some low = refl
  go_complete {k} {at} {a} {ts = ts} (ends e) (suc n) few some low = rw (turn_is k at a ts Ends e) refl
  go_complete {k} {ts = ts} (left e w d g) zero few some low = absurd (omega (arith, role_taken k ts _ e (λ q. cc)))
  go_complete {k} {at} {a} {ts = ts} (left {o = o} {y = b} {mid = mid} e w d g) (suc n) few some low =
      let grown = grows g in
      rw (turn_is k at a ts (Infix o) e, operated_is k Left o at a b ts mid e w (omega arith) (omega arith) d, w)
      (go_complete g n (omega (arith, shorter d, role_taken k ts _ e (λ q. cc))) (omega arith) low)
  go_complete {k} {ts = ts} (single e w d) zero few some low = absurd (omega (arith, role_taken k ts _ e (λ q. cc)))
  go_complete {k} {at} {a} {ts = ts} {rest = rest} (single {o = o} {y = b} e w d) (suc n) few some low =
      rw (turn_is k at a ts (Infix o) e, operated_is k Single o at a b ts rest e w (omega arith) (omega arith) d, w) refl
  go_complete {k} {ts = ts} (right e w d) zero few some low = absurd (omega (arith, role_taken k ts _ e (λ q. cc)))
  go_complete {k} {at} {a} {ts = ts} {rest = rest} (right {o = o} {y = b} e w d) (suc n) few some low =
      rw (turn_is k at a ts (Infix o) e, operated_is k Right o at a b ts rest e w (omega arith) (omega arith) d, w) refl
  go_complete {k} {ts = ts} (indexed e d f g) zero few some low = absurd (omega (arith, role_taken k ts _ e (λ q. cc)))
  go_complete {k} {at} {a} {ts = ts} (indexed {i = i} {end = end} e d f g) (suc n) few some low =
      let grown = grows g in
      rw (turn_is k at a ts Opens e, indexed_is at a i ts end (omega arith) (omega arith) d f)
      (go_complete g n (omega (arith, shorter d, role_taken k ts _ e (λ q. cc), passed end)) (omega arith) low)
  go_complete {k} {ts = ts} (joins e o) zero few some low = absurd (omega (arith, role_taken k ts _ e (λ q. cc)))
  go_complete {k} {at} {a} {ts = ts} (joins e o) (suc n) few some low =
      rw (turn_is k at a ts Joins e, chained_is k at a o some (omega arith) (omega arith)) refl

  -- a primary by its head
  primary_is : {ts mid : Tokens} {x : PrimaryHead} → BeginsPrimary ts x mid → (is_high (start_of (mark ts)) ≡ true → 0 < room)
      → r.primary inner room ts ≡ r.primary_by inner room (from ts) x mid
  unfolding r.primary
  primary_is {ts} b some = rw (admit_is room (start_of (mark ts)) ts some, head_complete b) refl

  levels_complete : {k : ℕ} {ts rest : Tokens} {x : Found} → Parses k ts x rest → x.height ≤ suc room → r.levels inner room k ts ≡ Ok (x, rest)
  unfolding r.levels r.choice r.else_part r.level r.prefixed r.operations
  levels_complete (atom b) low = primary_is b (λ q. absurd ((begins_low b q).0 _ refl))
  levels_complete (listed {mid = mid} {x = x} b o) low = primary_is b (λ q. absurd ((begins_low b q).1 _ refl)) ∙ rw (operands_is x o (omega arith)) refl
  levels_complete (enclosed {e = e} b d f) low = primary_is b (λ q. omega (arith, tall d)) ∙ rw (part_is (enclosed_close e) d (omega arith) f) refl
  levels_complete {rest = rest} (if_then {then = then} {x = x} b d f g i) low =
      primary_is b (λ q. omega (arith, tall d)) ∙ rw (part_is (m.Word word.Then) d (omega arith) f, complete chop_level (past then) x rest g (omega arith), same_no (mark rest) (m.Word word.Else) i) refl
  levels_complete {rest = rest} (if_else {then = then} {else = else} {x = x} {y = y} b d f g i j) low =
      primary_is b (λ q. omega (arith, tall d)) ∙ rw (
        part_is (m.Word word.Then) d (omega arith) f,
        complete chop_level (past then) x else g (omega arith),
        same_yes (mark else) (m.Word word.Else) i,
        complete chop_level (drop 1 else) y rest j (omega arith),
      ) refl
  levels_complete {rest = rest} (paired {next = next} {q = q} {y = y} b d f g) low =
      primary_is b (λ z. omega (arith, tall d)) ∙ rw (part_is (middle q) d (omega arith) f, complete chop_level (past next) y rest g (omega arith)) refl
  levels_complete {rest = rest} (quantified {mid = mid} {x = x} b d) low = primary_is b (λ q. omega (arith, tall d)) ∙ rw (complete chop_level mid x rest d (omega arith)) refl
  levels_complete {ts = ts} {rest = rest} (prefixed {k = k} {x = x} e d) low =
      rw (e, deepen_is room ts (omega (arith, tall d)), complete (suc k) (drop 1 ts) x rest d (omega arith)) refl
  levels_complete {ts = ts} {rest = rest} (level {k = k} {mid = mid} {x = x} d g) low =
      let grown = grows g in
      rw (no_prefix_at (suc k) (mark ts) (λ q. absurd (omega (arith, low_before d, q))), levels_complete d (omega arith)) (go_complete g (length mid) (omega arith) (tall d) low)

pub read_complete : (room k : ℕ) (ts : Tokens) (x : Found) (rest : Tokens) → Parses k ts x rest → x.height ≤ room → r.read room k ts ≡ Ok (x, rest)
unfolding r.read
read_complete zero k ts x rest d low = absurd (omega (arith, tall d))
read_complete (suc room) k ts x rest d low = levels_complete (r.read room) room (read_complete room) d low
