-- A source that is refused is refused by the tokens up to the one that the refusal names.
use Rattle.std.proofs.Common.{◌≡◌, ◌≢◌, ℕ, zero, suc, ◌+◌, ◌-◌, ◌<◌, ◌≤◌, true, false, cond, List, [], ◌∷◌, ◌++◌, length, take, drop, Ok, Err, Some, None, refl, sym, ap, subst, ◌∙◌, arith}
use Rattle.tp_lex.specs.declared.token.Word.TheVariants as word
use Rattle.tp_lex.specs.declared.token.Symbol.TheVariants as symbol
use Rattle.tp_tree.specs.declared.operator.Op.{Op}
use Rattle.tp_tree.specs.Levels.{chop_level, right_level}
use Rattle.tp_tree.specs.Tree.{DefinitionTree, SourceTree}
use Rattle.tp_parse.specs.declared.mark.TokenMark.{TokenMark}
use Rattle.tp_parse.specs.declared.mark.TokenMark.TheVariants as m
use Rattle.tp_parse.specs.declared.mark.Prefix.{Prefix}
use Rattle.tp_parse.specs.declared.mark.TokenRole.{TokenRole}
use Rattle.tp_parse.specs.declared.mark.TokenRole.TheVariants.{Ends, Infix, Opens, Joins}
use Rattle.tp_parse.specs.declared.mark.Start.{Start}
use Rattle.tp_parse.specs.declared.mark.Start.TheVariants as s
use Rattle.tp_parse.specs.declared.head.PrimaryHead.{PrimaryHead}
use Rattle.tp_parse.specs.declared.head.PrimaryHead.TheVariants as h
use Rattle.tp_parse.specs.declared.head.Atom.TheVariants as atom
use Rattle.tp_parse.specs.declared.head.Listed.TheVariants as listed
use Rattle.tp_parse.specs.Marks.{same, kind_mark, prefix_at, role_at, start_of, comma, listed_level, listed_close, enclosed_level, enclosed_close, middle, Tokens, mark, from, first_number, first_name, mark_due, half_mark}
use Rattle.tp_parse.specs.Readers as readers
use Rattle.tp_parse.specs.Readers.{ReadOutcome, TokenReader, and_then, ◌>>=◌, pure, sees, lower, any_name, names, names_from, expect, deepen}
use Rattle.tp_parse.specs.Head.{name_or_call, counter, head_by, is_high, admit, begins, unfit}
use Rattle.tp_parse.specs.Grammar.{Found, Operands, operands_of, of_choice, of_choice_else, of_infix, of_index, of_chain, of_pair, of_prefix, limit, defined, source_of, Accepts}
use Rattle.tp_parse.specs.Seen.{then_operand}
use Rattle.tp_parse.specs.Reading as r
use Rattle.tp_parse.specs.Reading.{goes_on, fits}
use Rattle.tp_parse.proofs.Marks.{same_no}
use Rattle.tp_parse.proofs.Shapes.{role_end}
use Rattle.tp_parse.proofs.Within as w
use Rattle.tp_parse.proofs.Within.{Within, left_over}
use Rattle.tp_parse.proofs.Sound.{Is, turn_fewer, read_sound}
use Rattle.tp_parse.specs.Source as source
use Rattle.tp_parse.proofs.Exact.{source_complete}
use Rattle.tp_parse.specs.declared.stop.Refusal.TheVariants.{Unexpected, TooDeep}
use Rattle.tp_lex.specs.declared.token.Token.{Token}
use Rattle.tp_parse.proofs.Alike.{Agrees, unseen, ended, agreed, Alike, beyond, goes, unexpected, deep, both, same_first, refused_alike, stays_alike, took_alike, passed_alike, chosen_alike, after_take, expected_alike, deepened_alike, fitted_alike, saw_alike, lowered_alike, any_named_alike}

short : {A : Type 0} {ts r : Tokens} {x : A} (o : ReadOutcome A) → Within ts o → o ≡ Ok (x, r) → length r ≤ length ts
short o is e = left_over (subst (Within _) e is)

-- ---- names

names_end : (i : ℕ) (xs : List (List ℕ)) → names_from i xs [] ≡ Ok (xs, [])
unfolding names_from mark
names_end zero xs = refl
names_end (suc i) xs = rw (same_no m.End comma (λ q. cc)) refl

named_from : (i j : ℕ) (xs : List (List ℕ)) {n : ℕ} {ts us : Tokens} → 0 < n → Agrees n ts us → length ts ≤ i → length us ≤ j → Alike n ts us (names_from i xs ts) (names_from j xs us)
unfolding names_from
named_from i j xs some unseen few few2 = absurd (omega arith)
named_from i j xs some ended few few2 = rw (names_end i xs, names_end j xs) (stays_alike some ended)
named_from zero j xs some (agreed a) few few2 = absurd (omega arith)
named_from (suc i) zero xs some (agreed a) few few2 = absurd (omega arith)
named_from (suc i) (suc j) xs {ts = ts} {us = us} some (agreed a) few few2 =
    chosen_alike (sees comma ts) (sees comma us) (saw_alike comma some (agreed a))
    (after_take some (agreed a) (w.bind _ (w.any_named (drop 1 ts)) (λ x vs. w.named_from i (xs ++ x ∷ []) vs)) (λ k pos b e.
    both _ _ (any_named_alike pos b) (λ x vs. w.named_from i (xs ++ x ∷ []) vs) (λ x l r q eq lens pos2 b2.
    let le = short (any_name (drop 1 ts)) (w.any_named (drop 1 ts)) eq in named_from i j (xs ++ x ∷ []) pos2 b2 (omega arith) (omega arith))))
    (stays_alike some (agreed a))

named : {n : ℕ} {ts us : Tokens} → 0 < n → Agrees n ts us → Alike n ts us (names ts) (names us)
unfolding names
named {ts = ts} some a = both _ _ (any_named_alike some a) (λ x vs. w.named_from (length vs) (x ∷ []) vs) (λ x l r q eq lens pos b. named_from (length r) (length q) (x ∷ []) pos b (omega arith) (omega arith))

-- ---- heads

counted : {n : ℕ} {ts us : Tokens} → 0 < n → Agrees n ts us → Alike n ts us (counter ts) (counter us)
unfolding counter
counted {ts = ts} some a =
    after_take some a (w.bind _ (w.lowered (drop 1 ts)) (λ x vs. w.bind _ (w.expected (m.Symbol symbol.Less) vs) (λ u ws. w.stays {x = x} ws))) (λ k pos b e.
    both _ _ (lowered_alike pos b) (λ x vs. w.bind _ (w.expected (m.Symbol symbol.Less) vs) (λ u ws. w.stays {x = x} ws)) (λ x l r q eq lens pos2 b2.
    both _ _ (expected_alike (m.Symbol symbol.Less) pos2 b2) (λ u ws. w.stays {x = x} ws) (λ u l2 r2 q2 eq2 lens2 pos3 b3. stays_alike {x = x} pos3 b3)))

number_head : {n : ℕ} {ts us : Tokens} → 0 < n → Agrees n ts us → Alike n ts us (head_by s.Number ts) (head_by s.Number us)
number_head {n} {ts} {us} some a = rw (sym (same_first some a).number) (took_alike {x = h.Atom (atom.Number (first_number ts))} some a)

name_head : {n : ℕ} {ts us : Tokens} → 0 < n → Agrees n ts us → Alike n ts us (head_by s.Name ts) (head_by s.Name us)
name_head {n} {ts} {us} some a = rw (sym (same_first some a).name) (took_alike {x = h.Atom (atom.Name (first_name ts))} some a)

call_head : {n : ℕ} {ts us : Tokens} → 0 < n → Agrees n ts us → Alike n ts us (name_or_call ts) (name_or_call us)
unfolding name_or_call
call_head {n} {ts} {us} some a = rw (sym (same_first some a).name)
    (after_take some a (w.choose (sees (m.Symbol symbol.OpenRound) (drop 1 ts)) (w.took {x = h.Listed (listed.Call (first_name ts))} (drop 1 ts)) (w.stays {x = h.Atom (atom.Name (first_name ts))} (drop 1 ts))) (λ k pos b e.
    chosen_alike (sees (m.Symbol symbol.OpenRound) (drop 1 ts)) (sees (m.Symbol symbol.OpenRound) (drop 1 us)) (saw_alike (m.Symbol symbol.OpenRound) pos b)
    (took_alike {x = h.Listed (listed.Call (first_name ts))} pos b) (stays_alike {x = h.Atom (atom.Name (first_name ts))} pos b)))

headed : (x : Start) {n : ℕ} {ts us : Tokens} → 0 < n → Agrees n ts us → Alike n ts us (head_by x ts) (head_by x us)
headed s.Nothing some a = refused_alike some a
headed s.Number some a = number_head some a
headed s.Name some a = name_head some a
headed s.NameOrCall some a = call_head some a
headed (s.Truth b) some a = took_alike some a
headed (s.Bare x) some a = took_alike some a
headed s.EmptyList some a = took_alike some a
headed s.List some a = passed_alike some a
headed (s.Form f) {ts = ts} some a =
    after_take some a (w.bind _ (w.expected (m.Symbol symbol.OpenRound) (drop 1 ts)) (λ u vs. w.stays {x = h.Listed (listed.Form f)} vs)) (λ k pos b e.
    both _ _ (expected_alike (m.Symbol symbol.OpenRound) pos b) (λ u vs. w.stays {x = h.Listed (listed.Form f)} vs) (λ u l r q eq lens pos2 b2. stays_alike {x = h.Listed (listed.Form f)} pos2 b2))
headed (s.Enclosed x) some a = took_alike some a
headed s.If some a = took_alike some a
headed s.While some a = took_alike some a
headed s.Repeat some a = took_alike some a
headed s.For some a = both _ _ (counted some a) (λ x vs. w.stays vs) (λ x l r q eq lens pos b. stays_alike pos b)
headed s.Forall some a = both _ _ (counted some a) (λ x vs. w.stays vs) (λ x l r q eq lens pos b. stays_alike pos b)
headed s.Exists {ts = ts} some a =
    after_take some a (w.bind _ (w.named (drop 1 ts)) (λ xs vs. w.bind _ (w.expected (m.Symbol symbol.Colon) vs) (λ u ws. w.stays {x = h.Exists xs} ws))) (λ k pos b e.
    both _ _ (named pos b) (λ xs vs. w.bind _ (w.expected (m.Symbol symbol.Colon) vs) (λ u ws. w.stays {x = h.Exists xs} ws)) (λ xs l r q eq lens pos2 b2.
    both _ _ (expected_alike (m.Symbol symbol.Colon) pos2 b2) (λ u ws. w.stays {x = h.Exists xs} ws) (λ u l2 r2 q2 eq2 lens2 pos3 b3. stays_alike {x = h.Exists xs} pos3 b3)))

admitted : (room : ℕ) (x : Start) {n : ℕ} {ts us : Tokens} → 0 < n → Agrees n ts us → Alike n ts us (admit room x ts) (admit room x us)
unfolding admit
admitted room x {n} {ts} {us} some a = elim (is_high x) as (λ b. Alike n ts us (cond b (deepen room) (pure tt) ts) (cond b (deepen room) (pure tt) us)) [ true ↦ deepened_alike room some a | false ↦ stays_alike some a ]

-- ---- phrases

unfit_alike : {A : Type 0} (k : ℕ) {n : ℕ} {ts us : Tokens} → 0 < n → Agrees n ts us → Alike {A = A} n ts us (Err (unfit k ts)) (Err (unfit k us))
unfolding unfit mark readers.refusal
unfit_alike k some unseen = absurd (omega arith)
unfit_alike {A} k some (ended {n = n}) = elim (begins k m.End) as (λ b. Alike {A = A} (suc n) [] [] (Err (cond b (TooDeep 0) (readers.refusal []))) (Err (cond b (TooDeep 0) (readers.refusal [])))) [
  | true ↦ deep (omega arith)
  | false ↦ beyond tt
]
unfit_alike {A} k some (agreed {n = n} {t = t} {ts = ts} {us = us} a) =
    elim (begins k (kind_mark t.kind)) as (λ b. Alike {A = A} (suc n) (t ∷ ts) (t ∷ us) (Err (cond b (TooDeep (length (t ∷ ts))) (readers.refusal (t ∷ ts)))) (Err (cond b (TooDeep (length (t ∷ us))) (readers.refusal (t ∷ us))))) [
      | true ↦ deep (omega arith)
      | false ↦ unexpected (omega arith)
    ]

module _ (inner : ℕ → TokenReader Found) (room : ℕ) (within : (k : ℕ) (ts : Tokens) → Within ts (inner k ts)) (sound : (k : ℕ) (ts : Tokens) (p : Found × Tokens) → inner k ts ≡ Ok p → Is room k ts p)
    (alike : (k n : ℕ) (ts us : Tokens) → 0 < n → Agrees n ts us → Alike n ts us (inner k ts) (inner k us)) where
  parted : (k : ℕ) (close : TokenMark) {n : ℕ} {ts us : Tokens} → 0 < n → Agrees n ts us → Alike n ts us (r.part inner room k close ts) (r.part inner room k close us)
  unfolding r.part
  parted k close some a = both _ _ (alike k _ _ _ some a) (λ x vs. w.bind _ (w.expected close vs) (λ u ws. w.stays {x = x} ws)) (λ x l r q eq lens pos b.
      both _ _ (expected_alike close pos b) (λ u ws. w.stays {x = x} ws) (λ u l2 r2 q2 eq2 lens2 pos2 b2. stays_alike {x = x} pos2 b2))

  others_end : (k : ℕ) (separator : TokenMark) (i : ℕ) (all : Operands) → separator ≢ m.End → r.others_from inner room k separator i all [] ≡ Ok (all, [])
  unfolding r.others_from mark
  others_end k separator zero all some = refl
  others_end k separator (suc i) all some = rw (same_no m.End separator (λ q. some (sym q))) refl

  othered : (k : ℕ) (separator : TokenMark) (i j : ℕ) (all : Operands) {n : ℕ} {ts us : Tokens} → separator ≢ m.End → 0 < n → Agrees n ts us → length ts ≤ i → length us ≤ j
      → Alike n ts us (r.others_from inner room k separator i all ts) (r.others_from inner room k separator j all us)
  unfolding r.others_from
  othered k separator i j all real some unseen few few2 = absurd (omega arith)
  othered k separator i j all real some ended few few2 = rw (others_end k separator i all real, others_end k separator j all real) (stays_alike some ended)
  othered k separator zero j all real some (agreed a) few few2 = absurd (omega arith)
  othered k separator (suc i) zero all real some (agreed a) few few2 = absurd (omega arith)
  othered k separator (suc i) (suc j) all {ts = ts} {us = us} real some (agreed a) few few2 =
      chosen_alike (sees separator ts) (sees separator us) (saw_alike separator some (agreed a))
      (after_take some (agreed a) (w.bind _ (within k (drop 1 ts)) (λ x vs. w.othered inner room within k separator i (then_operand all x) vs)) (λ c pos b e.
      both _ _ (alike k _ _ _ pos b) (λ x vs. w.othered inner room within k separator i (then_operand all x) vs) (λ x l r q eq lens pos2 b2.
      let le = short (inner k (drop 1 ts)) (within k (drop 1 ts)) eq in othered k separator i j (then_operand all x) real pos2 b2 (omega arith) (omega arith))))
      (stays_alike some (agreed a))

  operanded : (k : ℕ) (close : TokenMark) {n : ℕ} {ts us : Tokens} → 0 < n → Agrees n ts us → Alike n ts us (r.operands inner room k close ts) (r.operands inner room k close us)
  unfolding r.operands r.others
  operanded k close {ts = ts} {us = us} some a =
      chosen_alike (same (mark_due ts) close) (same (mark_due us) close) (ap (λ q. same (half_mark q) close) (same_first some a).mark) (passed_alike some a)
      (both _ _ (alike k _ _ _ some a) (λ x vs. w.bind _ (w.othered inner room within k comma (length vs) (operands_of (x.tree ∷ []) x.height) vs) (λ all ws. w.bind _ (w.expected close ws) (λ u zs. w.stays {x = all} zs))) (λ x l r q eq lens pos b.
      both _ _ (othered k comma (length r) (length q) (operands_of (x.tree ∷ []) x.height) (λ z. cc) pos b (omega arith) (omega arith)) (λ all ws. w.bind _ (w.expected close ws) (λ u zs. w.stays {x = all} zs)) (λ all l2 r2 q2 eq2 lens2 pos2 b2.
      both _ _ (expected_alike close pos2 b2) (λ u zs. w.stays {x = all} zs) (λ u l3 r3 q3 eq3 lens3 pos3 b3. stays_alike {x = all} pos3 b3))))

  elsed : (at : ℕ) (b x : Found) {n : ℕ} {ts us : Tokens} → 0 < n → Agrees n ts us → Alike n ts us (r.else_part inner room at b x ts) (r.else_part inner room at b x us)
  unfolding r.else_part
  elsed at b x {ts = ts} {us = us} some a =
      chosen_alike (sees (m.Word word.Else) ts) (sees (m.Word word.Else) us) (saw_alike (m.Word word.Else) some a)
      (after_take some a (w.bind _ (within chop_level (drop 1 ts)) (λ y zs. w.stays {x = of_choice_else at b x y} zs)) (λ c pos d e.
      both _ _ (alike chop_level _ _ _ pos d) (λ y zs. w.stays {x = of_choice_else at b x y} zs) (λ y l r q eq lens pos2 d2. stays_alike {x = of_choice_else at b x y} pos2 d2)))
      (stays_alike {x = of_choice at b x} some a)

  chosen : (at : ℕ) {n : ℕ} {ts us : Tokens} → 0 < n → Agrees n ts us → Alike n ts us (r.choice inner room at ts) (r.choice inner room at us)
  unfolding r.choice
  chosen at some a =
      both _ _ (parted chop_level (m.Word word.Then) some a) (λ b vs. w.bind _ (within chop_level vs) (λ x zs. w.elsed inner room within at b x zs)) (λ b l r q eq lens pos c.
      both _ _ (alike chop_level _ _ _ pos c) (λ x zs. w.elsed inner room within at b x zs) (λ x l2 r2 q2 eq2 lens2 pos2 c2. elsed at b x pos2 c2))

  primary_by_alike : (at : ℕ) (x : PrimaryHead) {n : ℕ} {ts us : Tokens} → 0 < n → Agrees n ts us → Alike n ts us (r.primary_by inner room at x ts) (r.primary_by inner room at x us)
  primary_by_alike at (h.Atom x) some a = stays_alike some a
  primary_by_alike at (h.Listed x) some a = both _ _ (operanded (listed_level x) (listed_close x) some a) (λ all vs. w.stays vs) (λ all l r q eq lens pos b. stays_alike pos b)
  primary_by_alike at (h.Enclosed e) some a = both _ _ (parted (enclosed_level e) (enclosed_close e) some a) (λ x vs. w.stays vs) (λ x l r q eq lens pos b. stays_alike pos b)
  primary_by_alike at h.If some a = chosen at some a
  primary_by_alike at (h.Paired p) some a = both _ _ (parted chop_level (middle p) some a) (λ x vs. w.bind _ (within chop_level vs) (λ y zs. w.stays {x = of_pair at p x y} zs)) (λ x l r q eq lens pos b.
      both _ _ (alike chop_level _ _ _ pos b) (λ y zs. w.stays {x = of_pair at p x y} zs) (λ y l2 r2 q2 eq2 lens2 pos2 b2. stays_alike {x = of_pair at p x y} pos2 b2))
  primary_by_alike at (h.Exists xs) some a = both _ _ (alike chop_level _ _ _ some a) (λ x vs. w.stays vs) (λ x l r q eq lens pos b. stays_alike pos b)

  -- a primary that begins so
  abbrev begun : ℕ → Start → TokenReader Found
  begun at x = λ ts. and_then (admit room x ts) (λ u us. and_then (head_by x us) (λ head vs. r.primary_by inner room at head vs))

  begun_alike : (at : ℕ) (x : Start) {n : ℕ} {ts us : Tokens} → 0 < n → Agrees n ts us → Alike n ts us (begun at x ts) (begun at x us)
  begun_alike at x some a =
      both _ _ (admitted room x some a) (λ u vs. w.bind _ (w.headed x vs) (λ head zs. w.primary_by_within inner room within at head zs)) (λ u l r q eq lens pos b.
      both _ _ (headed x pos b) (λ head zs. w.primary_by_within inner room within at head zs) (λ head l2 r2 q2 eq2 lens2 pos2 b2. primary_by_alike at head pos2 b2))

  primary_alike : {n : ℕ} {ts us : Tokens} → 0 < n → Agrees n ts us → Alike n ts us (r.primary inner room ts) (r.primary inner room us)
  unfolding r.primary
  primary_alike {n} {ts} {us} some a =
      subst (λ (q : ℕ). Alike n ts us (begun (from ts) (start_of (mark ts)) ts) (begun q (start_of (mark us)) us)) (same_first some a).from
      (subst (λ (q : TokenMark). Alike n ts us (begun (from ts) (start_of (mark ts)) ts) (begun (from ts) (start_of q) us)) (same_first some a).mark (begun_alike (from ts) (start_of (mark ts)) some a))

  operated_alike : (o : Op) (at : ℕ) (left : Found) {n : ℕ} {ts us : Tokens} → 0 < n → Agrees n ts us
      → Alike n ts us (r.operated inner room o at left ts) (r.operated inner room o at left us)
  unfolding r.operated
  operated_alike o at left some a =
      both _ _ (fitted_alike room left.height some a) (λ u vs. w.bind _ (w.took_one vs) (λ v zs. w.bind _ (within (right_level o) zs) (λ x ys. w.stays {x = of_infix at o left x} ys))) (λ u l r q eq lens pos b.
      after_take pos b (w.bind _ (within (right_level o) (drop 1 r)) (λ x ys. w.stays {x = of_infix at o left x} ys)) (λ c pos2 d e.
      both _ _ (alike (right_level o) _ _ _ pos2 d) (λ x ys. w.stays {x = of_infix at o left x} ys) (λ x l2 r2 q2 eq2 lens2 pos3 b3. stays_alike {x = of_infix at o left x} pos3 b3)))

  indexed_alike : (at : ℕ) (left : Found) {n : ℕ} {ts us : Tokens} → 0 < n → Agrees n ts us → Alike n ts us (r.indexed inner room at left ts) (r.indexed inner room at left us)
  unfolding r.indexed
  indexed_alike at left some a =
      both _ _ (fitted_alike room left.height some a) (λ u vs. w.bind _ (w.took_one vs) (λ v zs. w.bind _ (w.parted inner room within chop_level (m.Symbol symbol.CloseSquare) zs) (λ x ys. w.stays {x = of_index at left x} ys))) (λ u l r q eq lens pos b.
      after_take pos b (w.bind _ (w.parted inner room within chop_level (m.Symbol symbol.CloseSquare) (drop 1 r)) (λ x ys. w.stays {x = of_index at left x} ys)) (λ c pos2 d e.
      both _ _ (parted chop_level (m.Symbol symbol.CloseSquare) pos2 d) (λ x ys. w.stays {x = of_index at left x} ys) (λ x l2 r2 q2 eq2 lens2 pos3 b3. stays_alike {x = of_index at left x} pos3 b3)))

  chained_alike : (k at : ℕ) (left : Found) {n : ℕ} {ts us : Tokens} → 0 < n → Agrees n ts us → Alike n ts us (r.chained inner room k at left ts) (r.chained inner room k at left us)
  unfolding r.chained r.others
  chained_alike k at left some a =
      both _ _ (fitted_alike room left.height some a) (λ u vs. w.bind _ (w.othered inner room within (k - 1) (m.Word word.And) (length vs) (operands_of (left.tree ∷ []) left.height) vs) (λ all zs. w.stays {x = of_chain at all} zs)) (λ u l r q eq lens pos b.
      both _ _ (othered (k - 1) (m.Word word.And) (length r) (length q) (operands_of (left.tree ∷ []) left.height) (λ z. cc) pos b (omega arith) (omega arith)) (λ all zs. w.stays {x = of_chain at all} zs)
      (λ all l2 r2 q2 eq2 lens2 pos2 b2. stays_alike {x = of_chain at all} pos2 b2))

  turn_by_alike : (k at : ℕ) (left : Found) (role : TokenRole) {n : ℕ} {ts us : Tokens} → 0 < n → Agrees n ts us → Alike n ts us (r.turn_by inner room k at left role ts) (r.turn_by inner room k at left role us)
  turn_by_alike k at left Ends some a = stays_alike some a
  turn_by_alike k at left (Infix o) some a = both _ _ (operated_alike o at left some a) (λ x vs. w.stays vs) (λ x l r q eq lens pos b. stays_alike pos b)
  turn_by_alike k at left Opens some a = both _ _ (indexed_alike at left some a) (λ x vs. w.stays vs) (λ x l r q eq lens pos b. stays_alike pos b)
  turn_by_alike k at left Joins some a = both _ _ (chained_alike k at left some a) (λ x vs. w.stays vs) (λ x l r q eq lens pos b. stays_alike pos b)

  turn_alike : (k at : ℕ) (left : Found) {n : ℕ} {ts us : Tokens} → 0 < n → Agrees n ts us → Alike n ts us (r.turn inner room k at left ts) (r.turn inner room k at left us)
  unfolding r.turn
  turn_alike k at left {n} {ts} {us} some a =
      subst (λ (q : TokenMark). Alike n ts us (r.turn_by inner room k at left (role_at k (mark ts)) ts) (r.turn_by inner room k at left (role_at k q) us)) (same_first some a).mark (turn_by_alike k at left (role_at k (mark ts)) some a)

  go_end : (k at i : ℕ) (left : Found) → r.go inner room k at i left [] ≡ Ok (left, [])
  unfolding r.go r.turn mark
  go_end k at zero left = refl
  go_end k at (suc i) left = rw (role_end k) refl

  go_alike : (k at i j : ℕ) (left : Found) {n : ℕ} {ts us : Tokens} → 0 < n → Agrees n ts us → length ts ≤ i → length us ≤ j → Alike n ts us (r.go inner room k at i left ts) (r.go inner room k at j left us)
  unfolding r.go
  go_alike k at i j left some unseen few few2 = absurd (omega arith)
  go_alike k at i j left some ended few few2 = rw (go_end k at i left, go_end k at j left) (stays_alike some ended)
  go_alike k at zero j left some (agreed a) few few2 = absurd (omega arith)
  go_alike k at (suc i) zero left some (agreed a) few few2 = absurd (omega arith)
  go_alike k at (suc i) (suc j) left {ts = ts} {us = us} some (agreed a) few few2 =
      both _ _ (turn_alike k at left some (agreed a)) (λ x vs. w.choose_at x.1 (r.go inner room k at i x.0) (pure x.0) (w.go_within inner room within k at i x.0 vs) (w.stays {x = x.0} vs)) (λ x l v z eq lens pos b.
      elim x.1 as (λ c. (c ≡ true → length v < length ts) → Alike l v z (cond c (r.go inner room k at i x.0) (pure x.0) v) (cond c (r.go inner room k at j x.0) (pure x.0) z)) [
        | true ↦ λ fewer. let less = fewer refl in go_alike k at i j x.0 pos b (omega arith) (omega arith)
        | false ↦ λ fewer. stays_alike {x = x.0} pos b
      ] (turn_fewer inner room sound k at left ts (x, v) eq))

  -- an operator before its operand, at a place
  abbrev before_at : ℕ → Prefix → ℕ → TokenReader Found
  before_at at x i = λ vs. and_then (deepen room vs) (λ u ws. and_then (inner i (drop 1 ws)) (λ y zs. Ok (of_prefix at x y, zs)))

  before_alike : (at : ℕ) (x : Prefix) (i : ℕ) {n : ℕ} {ts us : Tokens} → 0 < n → Agrees n ts us → Alike n ts us (before_at at x i ts) (before_at at x i us)
  before_alike at x i some a =
      both _ _ (deepened_alike room some a) (λ u vs. w.bind _ (w.took_one vs) (λ v zs. w.bind _ (within i zs) (λ y ys. w.stays {x = of_prefix at x y} ys))) (λ u l r q eq lens pos b.
      after_take pos b (w.bind _ (within i (drop 1 r)) (λ y ys. w.stays {x = of_prefix at x y} ys)) (λ c pos2 d e.
      both _ _ (alike i _ _ _ pos2 d) (λ y ys. w.stays {x = of_prefix at x y} ys) (λ y l2 r2 q2 eq2 lens2 pos3 b3. stays_alike {x = of_prefix at x y} pos3 b3)))

  prefixed_alike : (i : ℕ) (o : Prefix) {n : ℕ} {ts us : Tokens} → 0 < n → Agrees n ts us → Alike n ts us (r.prefixed inner room i o ts) (r.prefixed inner room i o us)
  unfolding r.prefixed
  prefixed_alike i o {n} {ts} {us} some a =
      subst (λ (q : ℕ). Alike n ts us (before_at (from ts) o i ts) (before_at q o i us)) (same_first some a).from (before_alike (from ts) o i some a)

  levels_alike : (k : ℕ) {n : ℕ} {ts us : Tokens} → 0 < n → Agrees n ts us → Alike n ts us (r.levels inner room k ts) (r.levels inner room k us)
  unfolding r.levels r.level r.operations
  levels_alike zero some a = primary_alike some a
  levels_alike (suc k) {n} {ts} {us} some a =
      let lower = r.levels inner room k in
      subst (λ (q : TokenMark). Alike n ts us (r.level_by inner room (suc k) lower (prefix_at (suc k) (mark ts)) ts) (r.level_by inner room (suc k) lower (prefix_at (suc k) q) us)) (same_first some a).mark
      (elim (prefix_at (suc k) (mark ts)) as (λ p. Alike n ts us (r.level_by inner room (suc k) lower p ts) (r.level_by inner room (suc k) lower p us)) [
        | Some o ↦ prefixed_alike (suc k) o some a
        | None ↦ both _ _ (levels_alike k some a) (λ x vs. w.go_within inner room within (suc k) (from ts) (length vs) x vs) (λ x l v z eq lens pos b.
            subst (λ (at : ℕ). Alike l v z (r.go inner room (suc k) (from ts) (length v) x v) (r.go inner room (suc k) at (length z) x z)) (same_first some a).from (go_alike (suc k) (from ts) (length v) (length z) x pos b (omega arith) (omega arith)))
      ])

read_alike : (room k : ℕ) {n : ℕ} {ts us : Tokens} → 0 < n → Agrees n ts us → Alike n ts us (r.read room k ts) (r.read room k us)
unfolding r.read
read_alike zero k some a = unfit_alike k some a
read_alike (suc room) k some a = levels_alike (r.read room) room (w.read_within room) (read_sound room) (λ i n ts us pos b. read_alike room i pos b) k some a

-- ---- sources

sentence_alike : {n : ℕ} {ts us : Tokens} → 0 < n → Agrees n ts us → Alike n ts us (source.sentence ts) (source.sentence us)
unfolding source.sentence
sentence_alike some a = both _ _ (read_alike limit chop_level some a) (λ x vs. w.bind _ (w.expected (m.Symbol symbol.Stop) vs) (λ u zs. w.stays {x = x.tree} zs)) (λ x l r q eq lens pos b.
    both _ _ (expected_alike (m.Symbol symbol.Stop) pos b) (λ u zs. w.stays {x = x.tree} zs) (λ u l2 r2 q2 eq2 lens2 pos2 b2. stays_alike {x = x.tree} pos2 b2))

parameters_alike : {n : ℕ} {ts us : Tokens} → 0 < n → Agrees n ts us → Alike n ts us (source.parameters ts) (source.parameters us)
unfolding source.parameters
parameters_alike {ts = ts} {us = us} some a =
    chosen_alike (sees (m.Symbol symbol.CloseRound) ts) (sees (m.Symbol symbol.CloseRound) us) (saw_alike (m.Symbol symbol.CloseRound) some a) (took_alike some a)
    (both _ _ (named some a) (λ xs vs. w.bind _ (w.expected (m.Symbol symbol.CloseRound) vs) (λ u zs. w.stays {x = xs} zs)) (λ xs l r q eq lens pos b.
    both _ _ (expected_alike (m.Symbol symbol.CloseRound) pos b) (λ u zs. w.stays {x = xs} zs) (λ u l2 r2 q2 eq2 lens2 pos2 b2. stays_alike {x = xs} pos2 b2)))

abbrev body_at : ℕ → List ℕ → List (List ℕ) → TokenReader DefinitionTree
body_at at x xs = λ ts. and_then (source.sentence ts) (λ b bs. Ok (defined x at xs b, bs))

abbrev equal_at : ℕ → List ℕ → List (List ℕ) → TokenReader DefinitionTree
equal_at at x xs = λ ts. and_then (expect (m.Symbol symbol.Equal) ts) (λ u us. body_at at x xs us)

abbrev parameters_at : ℕ → List ℕ → TokenReader DefinitionTree
parameters_at at x = λ ts. and_then (source.parameters ts) (λ xs us. equal_at at x xs us)

abbrev open_at : ℕ → List ℕ → TokenReader DefinitionTree
open_at at x = λ ts. and_then (expect (m.Symbol symbol.OpenRound) ts) (λ u us. parameters_at at x us)

-- what follows the word `define`
abbrev name_at : ℕ → TokenReader DefinitionTree
name_at at = λ ts. and_then (lower ts) (λ x us. open_at at x us)

body_within : (at : ℕ) (x : List ℕ) (xs : List (List ℕ)) (ts : Tokens) → Within ts (body_at at x xs ts)
body_within at x xs ts = w.bind _ (w.sentence_within ts) (λ b bs. w.stays {x = defined x at xs b} bs)

equal_within : (at : ℕ) (x : List ℕ) (xs : List (List ℕ)) (ts : Tokens) → Within ts (equal_at at x xs ts)
equal_within at x xs ts = w.bind _ (w.expected (m.Symbol symbol.Equal) ts) (λ u us. body_within at x xs us)

parameters_within : (at : ℕ) (x : List ℕ) (ts : Tokens) → Within ts (parameters_at at x ts)
parameters_within at x ts = w.bind _ (w.parameters_within ts) (λ xs us. equal_within at x xs us)

open_within : (at : ℕ) (x : List ℕ) (ts : Tokens) → Within ts (open_at at x ts)
open_within at x ts = w.bind _ (w.expected (m.Symbol symbol.OpenRound) ts) (λ u us. parameters_within at x us)

name_within : (at : ℕ) (ts : Tokens) → Within ts (name_at at ts)
name_within at ts = w.bind _ (w.lowered ts) (λ x us. open_within at x us)

body_alike : (at : ℕ) (x : List ℕ) (xs : List (List ℕ)) {n : ℕ} {ts us : Tokens} → 0 < n → Agrees n ts us → Alike n ts us (body_at at x xs ts) (body_at at x xs us)
body_alike at x xs some a = both _ _ (sentence_alike some a) (λ b bs. w.stays {x = defined x at xs b} bs) (λ b l r q eq lens pos d. stays_alike {x = defined x at xs b} pos d)

equal_alike : (at : ℕ) (x : List ℕ) (xs : List (List ℕ)) {n : ℕ} {ts us : Tokens} → 0 < n → Agrees n ts us → Alike n ts us (equal_at at x xs ts) (equal_at at x xs us)
equal_alike at x xs some a = both _ _ (expected_alike (m.Symbol symbol.Equal) some a) (λ u us. body_within at x xs us) (λ u l r q eq lens pos b. body_alike at x xs pos b)

parameters_at_alike : (at : ℕ) (x : List ℕ) {n : ℕ} {ts us : Tokens} → 0 < n → Agrees n ts us → Alike n ts us (parameters_at at x ts) (parameters_at at x us)
parameters_at_alike at x some a = both _ _ (parameters_alike some a) (λ xs us. equal_within at x xs us) (λ xs l r q eq lens pos b. equal_alike at x xs pos b)

open_alike : (at : ℕ) (x : List ℕ) {n : ℕ} {ts us : Tokens} → 0 < n → Agrees n ts us → Alike n ts us (open_at at x ts) (open_at at x us)
open_alike at x some a = both _ _ (expected_alike (m.Symbol symbol.OpenRound) some a) (λ u us. parameters_within at x us) (λ u l r q eq lens pos b. parameters_at_alike at x pos b)

name_alike : (at : ℕ) {n : ℕ} {ts us : Tokens} → 0 < n → Agrees n ts us → Alike n ts us (name_at at ts) (name_at at us)
name_alike at some a = both _ _ (lowered_alike some a) (λ x us. open_within at x us) (λ x l r q eq lens pos b. open_alike at x pos b)

definition_alike : {n : ℕ} {ts us : Tokens} → 0 < n → Agrees n ts us → Alike n ts us (source.definition ts) (source.definition us)
unfolding source.definition
definition_alike {n} {ts} {us} some a =
    subst (λ (q : ℕ). Alike n ts us (name_at (from ts) (drop 1 ts)) (name_at q (drop 1 us))) (same_first some a).from
    (after_take some a (name_within (from ts) (drop 1 ts)) (λ k pos b e. name_alike (from ts) pos b))

definition_within : (ts : Tokens) → Within (drop 1 ts) (source.definition ts)
unfolding source.definition
definition_within ts = name_within (from ts) (drop 1 ts)

definitions_end : (i : ℕ) (ds : List DefinitionTree) → source.definitions_from i ds [] ≡ Ok (ds, [])
unfolding source.definitions_from mark
definitions_end zero ds = refl
definitions_end (suc i) ds = rw (same_no m.End (m.Word word.Define) (λ q. cc)) refl

definitions_alike : (i j : ℕ) (ds : List DefinitionTree) {n : ℕ} {ts us : Tokens} → 0 < n → Agrees n ts us → length ts ≤ i → length us ≤ j
    → Alike n ts us (source.definitions_from i ds ts) (source.definitions_from j ds us)
unfolding source.definitions_from
definitions_alike i j ds some unseen few few2 = absurd (omega arith)
definitions_alike i j ds some ended few few2 = rw (definitions_end i ds, definitions_end j ds) (stays_alike some ended)
definitions_alike zero j ds some (agreed a) few few2 = absurd (omega arith)
definitions_alike (suc i) zero ds some (agreed a) few few2 = absurd (omega arith)
definitions_alike (suc i) (suc j) ds {ts = ts} {us = us} some (agreed a) few few2 =
    chosen_alike (sees (m.Word word.Define) ts) (sees (m.Word word.Define) us) (saw_alike (m.Word word.Define) some (agreed a))
    (both _ _ (definition_alike some (agreed a)) (λ d vs. w.definitions_within i (ds ++ d ∷ []) vs) (λ d l r q eq lens pos b.
    let le = short (source.definition ts) (definition_within ts) eq in definitions_alike i j (ds ++ d ∷ []) pos b (omega arith) (omega arith)))
    (stays_alike some (agreed a))

ended_alike : (x : SourceTree) {n : ℕ} {ts us : Tokens} → 0 < n → Agrees n ts us → Alike n ts us (source.ended x ts) (source.ended x us)
unfolding source.ended readers.refusal
ended_alike x some unseen = absurd (omega arith)
ended_alike x some ended = stays_alike some ended
ended_alike x some (agreed a) = unexpected (omega arith)

pub source_alike : {n : ℕ} {ts us : Tokens} → 0 < n → Agrees n ts us → Alike n ts us (source.source ts) (source.source us)
unfolding source.source source.definitions
source_alike {ts = ts} {us = us} some a =
    both _ _ (definitions_alike (length ts) (length us) [] some a (omega arith) (omega arith)) (λ ds vs. w.bind _ (w.expected (m.Word word.Run) vs) (λ u zs. w.bind _ (w.sentence_within zs) (λ x ys. w.ended_within (source_of ds x) ys))) (λ ds l r q eq lens pos b.
    both _ _ (expected_alike (m.Word word.Run) pos b) (λ u zs. w.bind _ (w.sentence_within zs) (λ x ys. w.ended_within (source_of ds x) ys)) (λ u l2 r2 q2 eq2 lens2 pos2 b2.
    both _ _ (sentence_alike pos2 b2) (λ x ys. w.ended_within (source_of ds x) ys) (λ x l3 r3 q3 eq3 lens3 pos3 b3. ended_alike (source_of ds x) pos3 b3)))

-- ---- no source goes on with the token

pub agrees : (n : ℕ) (ts us : Tokens) → take n ts ≡ take n us → Agrees n ts us
agrees zero ts us e = unseen
agrees (suc n) [] [] e = ended
agrees (suc n) [] (u ∷ us) e = absurd cc
agrees (suc n) (t ∷ ts) [] e = absurd cc
agrees (suc n) (t ∷ ts) (u ∷ us) e =
    let head : t ≡ u = cc in
    let rest : take n ts ≡ take n us = cc in
    subst (λ (v : Token). Agrees (suc n) (t ∷ ts) (v ∷ us)) head (agreed (agrees n ts us rest))

-- a refusal that names the token i
pub data Names (i : ℕ) (ts : Tokens) : ReadOutcome SourceTree → Type 0 where
  unexpected_at : {k : ℕ} → k + i ≡ length ts → Names i ts (Err (Unexpected k))
  too_deep_at : {k : ℕ} → k + i ≡ length ts → Names i ts (Err (TooDeep k))

refused : {i : ℕ} {ts us : Tokens} {x : SourceTree} {o p : ReadOutcome SourceTree} → Alike (suc i) ts us o p → Names i ts o → p ≡ Ok (x, []) → ⊥
refused (beyond is) (unexpected_at e) q = absurd (omega (arith, is))
refused (beyond is) (too_deep_at e) q = absurd (omega (arith, is))
refused (goes k pos a f g) n q = elim n [ ]
refused (unexpected f) n q = absurd cc
refused (deep f) n q = absurd cc

pub none_goes_on : (i : ℕ) (ts us : Tokens) (x : SourceTree) → Names i ts (source.source ts) → take (i + 1) us ≡ take (i + 1) ts → ¬ Accepts us x
none_goes_on i ts us x named e is =
    let one : i + 1 ≡ suc i = omega arith in
    let front : take (suc i) ts ≡ take (suc i) us = ap (λ n. take n ts) (sym one) ∙ sym e ∙ ap (λ n. take n us) one in
    refused (source_alike (omega arith) (agrees (suc i) ts us front)) named (source_complete us x is)
