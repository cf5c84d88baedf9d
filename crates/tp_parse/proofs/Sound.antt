-- What is read is in the grammar.
use Rattle.std.proofs.Common.{◌≡◌, ◌≢◌, ℕ, zero, suc, ◌-◌, ◌<◌, ◌≤◌, max, Bool, true, false, inl, inr, [], ◌∷◌, ◌++◌, length, drop, Ok, Some, None, refl, sym, ap, subst, ◌∙◌, arith, append_assoc}
use Rattle.std.proofs.lemmas.List.{append-nil}
use Rattle.tp_lex.specs.declared.token.Word.TheVariants as word
use Rattle.tp_lex.specs.declared.token.Symbol.TheVariants as symbol
use Rattle.tp_tree.specs.declared.operator.Op.{Op}
use Rattle.tp_tree.specs.declared.operator.Grouping.{Grouping}
use Rattle.tp_tree.specs.declared.operator.Grouping.TheVariants.{Left, Single, Right}
use Rattle.tp_tree.specs.Levels.{chop_level, grouping, level_right_of, right_level}
use Rattle.tp_parse.specs.declared.mark.TokenMark.{TokenMark}
use Rattle.tp_parse.specs.declared.mark.TokenMark.TheVariants as m
use Rattle.tp_parse.specs.declared.mark.TokenRole.{TokenRole}
use Rattle.tp_parse.specs.declared.mark.TokenRole.TheVariants.{Ends, Infix, Opens, Joins}
use Rattle.tp_parse.specs.declared.head.PrimaryHead.{PrimaryHead}
use Rattle.tp_parse.specs.declared.head.PrimaryHead.TheVariants as h
use Rattle.tp_parse.specs.Marks.{role_at, prefix_at, same, start_of, comma, listed_level, listed_close, enclosed_level, enclosed_close, middle, Tokens, mark, from, mark_due, past}
use Rattle.tp_parse.specs.Readers.{TokenReader, and_then, ◌>>=◌, pure, sees}
use Rattle.tp_parse.specs.Head.{head_by}
use Rattle.tp_parse.specs.Grammar.{Found, Operands, no_operand, operand_then, operands_of, of_atom, of_operands, of_enclosed, of_choice, of_choice_else, of_pair, of_exists, of_prefix, of_infix, of_index, of_chain, BeginsPrimary, Parses, atom, listed, enclosed, if_then, if_else, paired, quantified, prefixed, level, Goes, ends, left, single, right, indexed, joins, Others, no_more, one_more, Listing, no_operands, operands}
use Rattle.tp_parse.specs.Seen.{then_operand}
use Rattle.tp_parse.specs.Reading as r
use Rattle.tp_parse.specs.Reading.{goes_on}
use Rattle.tp_parse.proofs.Marks.{same_is, same_not, right_is}
use Rattle.tp_parse.proofs.Shapes.{taken, role_end, role_taken, shorter, passed}
use Rattle.tp_parse.proofs.Heads.{bind_ok, fine, ok_is, chosen, chosen_at, expect_then, deepen_then, fits_then, admit_then, head_sound}

-- what was read is a phrase of the level, no higher than the room
abbrev pub Is : ℕ → ℕ → Tokens → Found × Tokens → Type 0
Is room k ts p = Parses k ts p.0 p.1 × (p.0.height ≤ room)

moved : {room k : ℕ} {ts : Tokens} (x y : Found × Tokens) → fine x ≡ fine y → Is room k ts x → Is room k ts y
moved {room} {k} {ts} x y e is = subst (Is room k ts) (ok_is x y e) is

end_role : (k : ℕ) → role_at k (mark []) ≡ Ends
unfolding mark
end_role k = role_end k

-- operands that were read, and those after them
abbrev pub joined : Operands → Operands → Operands
joined all more = operands_of (all.trees ++ more.trees) (max all.height more.height)

pub joined_none : (all : Operands) → joined all no_operand ≡ all
joined_none all = let same : max all.height 0 ≡ all.height = omega arith in rw (append-nil all.trees, same) refl

pub joined_more : (all : Operands) (a : Found) (more : Operands) → joined (then_operand all a) more ≡ joined all (operand_then a more)
joined_more all a more =
    let same : max (max all.height a.height) more.height ≡ max all.height (max a.height more.height) = omega arith in
    rw (append_assoc all.trees (a.tree ∷ []) more.trees, same) refl

module _ (inner : ℕ → TokenReader Found) (room : ℕ) (sound : (k : ℕ) (ts : Tokens) (p : Found × Tokens) → inner k ts ≡ Ok p → Is room k ts p) where
  -- a phrase, and the mark that is due after it
  part_then : {B : Type 0} (k : ℕ) (close : TokenMark) (ts : Tokens) (f : Found → TokenReader B) (y : B × Tokens) → and_then (r.part inner room k close ts) f ≡ Ok y
      → (p : Found × Tokens) × Is room k ts p × (mark_due p.1 ≡ close) × (f p.0 (past p.1) ≡ Ok y)
  unfolding r.part
  part_then k close ts f y e =
      let a = bind_ok (r.part inner room k close ts) f y e in
      let b = bind_ok (inner k ts) _ a.0 a.1 in
      let c = expect_then close b.0.1 _ a.0 b.2 in
      let is = ok_is (b.0.0, past b.0.1) a.0 c.1 in
      (b.0, sound k ts b.0 b.1, c.0, ap (λ (q : Found × Tokens). f q.0 q.1) is ∙ a.2)

  pub others_sound : (k : ℕ) (separator : TokenMark) (n : ℕ) (all : Operands) (ts : Tokens) (p : Operands × Tokens) → separator ≢ m.End → length ts ≤ n → all.height ≤ room
      → r.others_from inner room k separator n all ts ≡ Ok p → (more : Operands) × Others k separator ts more p.1 × (p.0 ≡ joined all more) × (more.height ≤ room)
  unfolding r.others_from
  others_sound k separator zero all ts p some few low e =
      let is = ok_is (all, ts) p e in (
        no_operand,
        subst (λ (q : Operands × Tokens). Others k separator ts no_operand q.1) is (no_more (λ at. absurd (omega (arith, taken ts _ at some)))),
        ap (λ (q : Operands × Tokens). q.0) (sym is) ∙ sym (joined_none all),
        omega arith,
      )
  others_sound k separator (suc n) all ts p some few low e =
      elim (chosen (sees separator ts) _ _ _ e) [
        | inl w ↦
            let b = bind_ok (inner k (drop 1 ts)) _ p w.1 in
            let is = sound k (drop 1 ts) b.0 b.1 in
            let here = same_is _ _ w.0 in
            let rest = others_sound k separator n (then_operand all b.0.0) b.0.1 p some (omega (arith, shorter is.0, taken ts _ here some)) (omega (arith, is.1)) b.2 in
            (operand_then b.0.0 rest.0, one_more here is.0 rest.1, rest.2 ∙ joined_more all b.0.0 rest.0, omega (arith, is.1, rest.3))
        | inr w ↦
            let is = ok_is (all, ts) p w.1 in (
              no_operand,
              subst (λ (q : Operands × Tokens). Others k separator ts no_operand q.1) is (no_more (same_not _ _ w.0)),
              ap (λ (q : Operands × Tokens). q.0) (sym is) ∙ sym (joined_none all),
              omega arith,
            )
      ]

  operands_sound : (k : ℕ) (close : TokenMark) (ts : Tokens) (p : Operands × Tokens) → r.operands inner room k close ts ≡ Ok p → Listing k close ts p.0 p.1 × (p.0.height ≤ room)
  unfolding r.operands r.others
  operands_sound k close ts p e =
      elim (chosen (same (mark_due ts) close) _ _ _ e) [
        | inl w ↦ subst (λ (q : Operands × Tokens). Listing k close ts q.0 q.1 × (q.0.height ≤ room)) (ok_is (no_operand, past ts) p w.1) (no_operands (same_is _ _ w.0), omega arith)
        | inr w ↦
            let a = bind_ok (inner k ts) _ p w.1 in
            let is = sound k ts a.0 a.1 in
            let b = bind_ok (r.others_from inner room k comma (length a.0.1) (operands_of (a.0.0.tree ∷ []) a.0.0.height) a.0.1) _ p a.2 in
            let all = others_sound k comma (length a.0.1) (operands_of (a.0.0.tree ∷ []) a.0.0.height) a.0.1 b.0 (λ q. cc) (omega arith) is.1 b.1 in
            let c = expect_then close b.0.1 _ p b.2 in
            subst (λ (q : Operands × Tokens). Listing k close ts q.0 q.1 × (q.0.height ≤ room)) (ap (λ (o : Operands). (o, past b.0.1)) (sym all.2) ∙ ok_is (b.0.0, past b.0.1) p c.1)
            (operands is.0 all.1 c.0, omega (arith, is.1, all.3))
      ]

  choice_sound : (ts mid : Tokens) (p : Found × Tokens) → BeginsPrimary ts h.If mid → r.choice inner room (from ts) mid ≡ Ok p → Is (suc room) 0 ts p
  unfolding r.choice r.else_part
  choice_sound ts mid p begins e =
      let b = part_then chop_level (m.Word word.Then) mid _ p e in
      let d = bind_ok (inner chop_level (past b.0.1)) _ p b.3 in
      let yes = sound chop_level (past b.0.1) d.0 d.1 in
      elim (chosen (sees (m.Word word.Else) d.0.1) _ _ _ d.2) [
        | inl w ↦
            let v = bind_ok (inner chop_level (drop 1 d.0.1)) _ p w.1 in
            let no = sound chop_level (drop 1 d.0.1) v.0 v.1 in
            moved (of_choice_else (from ts) b.0.0 d.0.0 v.0.0, v.0.1) p v.2 (if_else begins b.1.0 b.2 yes.0 (same_is _ _ w.0) no.0, omega (arith, b.1.1, yes.1, no.1))
        | inr w ↦
            moved (of_choice (from ts) b.0.0 d.0.0, d.0.1) p w.1 (if_then begins b.1.0 b.2 yes.0 (same_not _ _ w.0), omega (arith, b.1.1, yes.1))
      ]

  primary_by_sound : (x : PrimaryHead) (ts mid : Tokens) (p : Found × Tokens) → BeginsPrimary ts x mid → r.primary_by inner room (from ts) x mid ≡ Ok p → Is (suc room) 0 ts p
  primary_by_sound (h.Atom x) ts mid p begins e = moved (of_atom (from ts) x, mid) p e (atom begins, omega arith)
  primary_by_sound (h.Listed x) ts mid p begins e =
      let a = bind_ok (r.operands inner room (listed_level x) (listed_close x) mid) _ p e in
      let is = operands_sound (listed_level x) (listed_close x) mid a.0 a.1 in
      moved (of_operands (from ts) x a.0.0, a.0.1) p a.2 (listed begins is.0, omega (arith, is.1))
  primary_by_sound (h.Enclosed x) ts mid p begins e =
      let a = part_then (enclosed_level x) (enclosed_close x) mid _ p e in
      moved (of_enclosed (from ts) x a.0.0, past a.0.1) p a.3 (enclosed begins a.1.0 a.2, omega (arith, a.1.1))
  primary_by_sound h.If ts mid p begins e = choice_sound ts mid p begins e
  primary_by_sound (h.Paired x) ts mid p begins e =
      let a = part_then chop_level (middle x) mid _ p e in
      let b = bind_ok (inner chop_level (past a.0.1)) _ p a.3 in
      let is = sound chop_level (past a.0.1) b.0 b.1 in
      moved (of_pair (from ts) x a.0.0 b.0.0, b.0.1) p b.2 (paired begins a.1.0 a.2 is.0, omega (arith, a.1.1, is.1))
  primary_by_sound (h.Exists xs) ts mid p begins e =
      let a = bind_ok (inner chop_level mid) _ p e in
      let is = sound chop_level mid a.0 a.1 in
      moved (of_exists (from ts) xs a.0.0, a.0.1) p a.2 (quantified begins is.0, omega (arith, is.1))

  primary_sound : (ts : Tokens) (p : Found × Tokens) → r.primary inner room ts ≡ Ok p → Is (suc room) 0 ts p
  unfolding r.primary
  primary_sound ts p e =
      let a = admit_then room (start_of (mark ts)) ts _ p e in
      let b = bind_ok (head_by (start_of (mark ts)) ts) _ p a in
      primary_by_sound b.0.0 ts b.0.1 p (head_sound (start_of (mark ts)) ts b.0 refl b.1) b.2

  -- one turn: the phrase ends with it, or goes on after it
  pub record Turned (k at : ℕ) (a : Found) (ts : Tokens) (x : Found × Bool) (rest : Tokens) : Type 0 where
    stops : x.1 ≡ false → Goes k at a ts x.0 rest
    goes : x.1 ≡ true → (t : Found) (last : Tokens) → Goes k at x.0 rest t last → Goes k at a ts t last
    fewer : x.1 ≡ true → length rest < length ts
    pub low : a.height ≤ suc room → x.0.height ≤ suc room

  abbrev pub HasTurned : ℕ → ℕ → Found → Tokens → (Found × Bool) × Tokens → Type 0
  HasTurned k at a ts p = Turned k at a ts p.0 p.1

  operated_sound : (k : ℕ) (o : Op) (at : ℕ) (a : Found) (ts : Tokens) (p : (Found × Bool) × Tokens) → role_at k (mark ts) ≡ Infix o
      → (r.operated inner room o at a >>= λ x. pure (x, goes_on (grouping o))) ts ≡ Ok p → HasTurned k at a ts p
  unfolding r.operated
  operated_sound k o at a ts p role e =
      let x = bind_ok (r.operated inner room o at a ts) _ p e in
      let f = fits_then room a.height ts _ x.0 x.1 in
      let b = bind_ok (inner (right_level o) (drop 1 ts)) _ x.0 f.1 in
      let is = sound (right_level o) (drop 1 ts) b.0 b.1 in
      let made = ok_is (of_infix at o a b.0.0, b.0.1) x.0 b.2 in
      subst (HasTurned k at a ts) (ap (λ (q : Found × Tokens). ((q.0, goes_on (grouping o)), q.1)) made ∙ ok_is _ p x.2) (by (grouping o) refl (operand (grouping o) refl is.0) is.1 f.0)
    where
      operand : (way : Grouping) {b : Found} {rest : Tokens} → grouping o ≡ way → Parses (right_level o) (drop 1 ts) b rest → Parses (level_right_of way k) (drop 1 ts) b rest
      operand way {b} {rest} w d = subst (λ n. Parses n (drop 1 ts) b rest) (sym (right_is k (mark ts) o way role w)) d

      by : (way : Grouping) {b : Found} {rest : Tokens} → grouping o ≡ way → Parses (level_right_of way k) (drop 1 ts) b rest → b.height ≤ room → a.height ≤ room
          → HasTurned k at a ts ((of_infix at o a b, goes_on way), rest)
      by Left w d low low2 = record { stops = λ q. absurd cc; goes = λ q t last g. left role w d g; fewer = λ q. omega (arith, shorter d, role_taken k ts _ role (λ q. cc)); low = λ q. omega arith }
      by Single w d low low2 = record { stops = λ q. single role w d; goes = λ q. absurd cc; fewer = λ q. absurd cc; low = λ q. omega arith }
      by Right w d low low2 = record { stops = λ q. right role w d; goes = λ q. absurd cc; fewer = λ q. absurd cc; low = λ q. omega arith }

  indexed_sound : (k at : ℕ) (a : Found) (ts : Tokens) (p : (Found × Bool) × Tokens) → role_at k (mark ts) ≡ Opens
      → (r.indexed inner room at a >>= λ x. pure (x, true)) ts ≡ Ok p → HasTurned k at a ts p
  unfolding r.indexed
  indexed_sound k at a ts p role e =
      let x = bind_ok (r.indexed inner room at a ts) _ p e in
      let f = fits_then room a.height ts _ x.0 x.1 in
      let i = part_then chop_level (m.Symbol symbol.CloseSquare) (drop 1 ts) _ x.0 f.1 in
      let made = ok_is (of_index at a i.0.0, past i.0.1) x.0 i.3 in
      subst (HasTurned k at a ts) (ap (λ (q : Found × Tokens). ((q.0, true), q.1)) made ∙ ok_is _ p x.2) (record {
        stops = λ q. absurd cc;
        goes = λ q t last g. indexed role i.1.0 i.2 g;
        fewer = λ q. omega (arith, shorter i.1.0, role_taken k ts _ role (λ q. cc), passed i.0.1);
        low = λ q. omega (arith, i.1.1, f.0);
      })

  chained_sound : (k at : ℕ) (a : Found) (ts : Tokens) (p : (Found × Bool) × Tokens) → role_at k (mark ts) ≡ Joins
      → (r.chained inner room k at a >>= λ x. pure (x, false)) ts ≡ Ok p → HasTurned k at a ts p
  unfolding r.chained r.others
  chained_sound k at a ts p role e =
      let x = bind_ok (r.chained inner room k at a ts) _ p e in
      let f = fits_then room a.height ts _ x.0 x.1 in
      let first = operands_of (a.tree ∷ []) a.height in
      let all = bind_ok (r.others_from inner room (k - 1) (m.Word word.And) (length ts) first ts) _ x.0 f.1 in
      let are = others_sound (k - 1) (m.Word word.And) (length ts) first ts all.0 (λ q. cc) (omega arith) f.0 all.1 in
      let made = ap (λ (o : Operands). (of_chain at o, all.0.1)) (sym are.2) ∙ ok_is (of_chain at all.0.0, all.0.1) x.0 all.2 in
      subst (HasTurned k at a ts) (ap (λ (q : Found × Tokens). ((q.0, false), q.1)) made ∙ ok_is _ p x.2) (record {
        stops = λ q. joins role are.1;
        goes = λ q. absurd cc;
        fewer = λ q. absurd cc;
        low = λ q. omega (arith, f.0, are.3);
      })

  turn_by_sound : (k at : ℕ) (a : Found) (role : TokenRole) (ts : Tokens) (p : (Found × Bool) × Tokens) → role_at k (mark ts) ≡ role → r.turn_by inner room k at a role ts ≡ Ok p → HasTurned k at a ts p
  turn_by_sound k at a Ends ts p is e =
      subst (HasTurned k at a ts) (ok_is ((a, false), ts) p e) (record { stops = λ q. ends is; goes = λ q. absurd cc; fewer = λ q. absurd cc; low = λ q. q })
  turn_by_sound k at a (Infix o) ts p is e = operated_sound k o at a ts p is e
  turn_by_sound k at a Opens ts p is e = indexed_sound k at a ts p is e
  turn_by_sound k at a Joins ts p is e = chained_sound k at a ts p is e

  pub turn_sound : (k at : ℕ) (a : Found) (ts : Tokens) (p : (Found × Bool) × Tokens) → r.turn inner room k at a ts ≡ Ok p → HasTurned k at a ts p
  unfolding r.turn
  turn_sound k at a ts p e = turn_by_sound k at a (role_at k (mark ts)) ts p refl e

  -- where more may follow, the turn took a token
  pub turn_fewer : (k at : ℕ) (a : Found) (ts : Tokens) (p : (Found × Bool) × Tokens) → r.turn inner room k at a ts ≡ Ok p → p.0.1 ≡ true → length p.1 < length ts
  turn_fewer k at a ts p e more = (turn_sound k at a ts p e).fewer more

  go_sound : (k at n : ℕ) (a : Found) (ts : Tokens) (p : Found × Tokens) → length ts ≤ n → a.height ≤ suc room → r.go inner room k at n a ts ≡ Ok p
      → Goes k at a ts p.0 p.1 × (p.0.height ≤ suc room)
  unfolding r.go
  go_sound k at zero a [] p few low e = subst (λ (q : Found × Tokens). Goes k at a [] q.0 q.1 × (q.0.height ≤ suc room)) (ok_is (a, []) p e) (ends (end_role k), low)
  go_sound k at zero a (t ∷ ts) p few low e = absurd (omega arith)
  go_sound k at (suc n) a ts p few low e =
      let x = bind_ok (r.turn inner room k at a ts) _ p e in
      let is = turn_sound k at a ts x.0 x.1 in
      elim (chosen_at x.0.0.1 (r.go inner room k at n x.0.0.0) (pure x.0.0.0) x.0.1 (Ok p) x.2) [
        | inl w ↦
            let rest = go_sound k at n x.0.0.0 x.0.1 p (omega (arith, is.fewer w.0)) (is.low low) w.1 in
            (is.goes w.0 p.0 p.1 rest.0, rest.1)
        | inr w ↦ subst (λ (q : Found × Tokens). Goes k at a ts q.0 q.1 × (q.0.height ≤ suc room)) (ok_is (x.0.0.0, x.0.1) p w.1) (is.stops w.0, is.low low)
      ]

  pub levels_sound : (k : ℕ) (ts : Tokens) (p : Found × Tokens) → r.levels inner room k ts ≡ Ok p → Is (suc room) k ts p
  unfolding r.levels r.level r.prefixed r.operations
  levels_sound zero ts p e = primary_sound ts p e
  levels_sound (suc k) ts p e =
      elim (prefix_at (suc k) (mark ts)) as (λ q. prefix_at (suc k) (mark ts) ≡ q → r.level_by inner room (suc k) (r.levels inner room k) q ts ≡ Ok p → Is (suc room) (suc k) ts p) [
        | Some o ↦ λ own w.
            let a = deepen_then room ts _ p w in
            let b = bind_ok (inner (suc k) (drop 1 ts)) _ p a in
            let is = sound (suc k) (drop 1 ts) b.0 b.1 in
            moved (of_prefix (from ts) o b.0.0, b.0.1) p b.2 (prefixed own is.0, omega (arith, is.1))
        | None ↦ λ own w.
            let a = bind_ok (r.levels inner room k ts) _ p w in
            let is = levels_sound k ts a.0 a.1 in
            let goes = go_sound (suc k) (from ts) (length a.0.1) a.0.0 a.0.1 p (omega arith) is.1 a.2 in
            (level is.0 goes.0, goes.1)
      ] refl e

pub read_sound : (room k : ℕ) (ts : Tokens) (p : Found × Tokens) → r.read room k ts ≡ Ok p → Is room k ts p
unfolding r.read
read_sound zero k ts p e = absurd cc
read_sound (suc room) k ts p e = levels_sound (r.read room) room (read_sound room) k ts p e
