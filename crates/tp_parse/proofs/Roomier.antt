-- With more room the same is read, or less room was too deep: nothing else that is refused is read with more room.
use Rattle.std.proofs.Common.{◌≡◌, ◌≢◌, ℕ, zero, suc, ◌-◌, ◌<◌, ◌≤◌, max, Bool, true, false, cond, not, eqb, leb, Some, None, List, [], ◌∷◌, ◌++◌, length, drop, Ok, Err, refl, ap, subst, arith, append_assoc}
use Rattle.std.proofs.lemmas.Bool.{eqb-true, leb-true, leb-false, le-leb, eq-eqb}
use Rattle.std.proofs.lemmas.List.{append-nil}
use Rattle.tp_lex.specs.declared.token.Word.TheVariants as word
use Rattle.tp_lex.specs.declared.token.Symbol.TheVariants as symbol
use Rattle.tp_tree.specs.declared.operator.Op.{Op}
use Rattle.tp_tree.specs.Levels.{chop_level, right_level}
use Rattle.tp_tree.specs.Tree.{DefinitionTree, SourceTree}
use Rattle.tp_parse.specs.declared.stop.Refusal.TheVariants.{TooDeep}
use Rattle.tp_parse.specs.declared.mark.TokenMark.{TokenMark}
use Rattle.tp_parse.specs.declared.mark.TokenMark.TheVariants as m
use Rattle.tp_parse.specs.declared.mark.TokenRole.{TokenRole}
use Rattle.tp_parse.specs.declared.mark.TokenRole.TheVariants.{Ends, Infix, Opens, Joins}
use Rattle.tp_parse.specs.declared.mark.Start.{Start}
use Rattle.tp_parse.specs.declared.mark.Start.TheVariants as s
use Rattle.tp_parse.specs.declared.head.PrimaryHead.{PrimaryHead}
use Rattle.tp_parse.specs.declared.head.PrimaryHead.TheVariants as h
use Rattle.tp_parse.specs.Marks.{before, prefix_at, role_at, start_of, comma, listed_level, listed_close, enclosed_level, enclosed_close, middle, same as is_mark, Tokens, mark, from, mark_due}
use Rattle.tp_parse.specs.Readers as readers
use Rattle.tp_parse.specs.Readers.{ReadOutcome, TokenReader, and_then, ◌>>=◌, pure, refuse, sees, expect, deepen}
use Rattle.tp_parse.specs.Head.{is_high, is_nothing, admit, begins, unfit}
use Rattle.tp_parse.specs.Grammar.{Found, Operands, operands_of, limit, source_of, Sentence, Defines, Definitions, IsSource}
use Rattle.tp_parse.specs.Seen.{then_operand}
use Rattle.tp_parse.specs.Reading as r
use Rattle.tp_parse.specs.Reading.{goes_on, fits}
use Rattle.tp_parse.specs.Source as source
use Rattle.tp_parse.specs.Grammar as g
use Rattle.tp_parse.proofs.Marks.{same_yes, same_no, no_prefix_at, start_plain}
use Rattle.tp_parse.proofs.Heads.{lower_is, expect_is}
use Rattle.tp_parse.proofs.Complete.{read_complete}
use Rattle.tp_parse.proofs.Exact.{parameters_is, defines_shorter}

-- one answer, or too deep in the first
pub data Roomier {A : Type 0} : ReadOutcome A → ReadOutcome A → Type 0 where
  same : {o : ReadOutcome A} → Roomier o o
  deep : {n : ℕ} {p : ReadOutcome A} → Roomier (Err (TooDeep n)) p

both : {A B : Type 0} {o p : ReadOutcome A} (f q : A → TokenReader B) → Roomier o p → ((x : A) (us : Tokens) → Roomier (f x us) (q x us)) → Roomier (and_then o f) (and_then p q)
both f q (same {o = Ok z}) next = next z.0 z.1
both f q (same {o = Err e}) next = same
both f q deep next = deep

chosen : {A : Type 0} {x y z w : ReadOutcome A} (b : Bool) → Roomier x z → Roomier y w → Roomier (cond b x y) (cond b z w)
chosen true one other = one
chosen false one other = other

deepened : (low high : ℕ) (ts : Tokens) → low ≤ high → Roomier (deepen low ts) (deepen high ts)
unfolding deepen
deepened zero high ts le = deep
deepened (suc low) zero ts le = absurd (omega arith)
deepened (suc low) (suc high) ts le = same

fitted : (low high left : ℕ) (ts : Tokens) → low ≤ high → Roomier (fits low left ts) (fits high left ts)
unfolding fits
fitted zero high left ts le = deep
fitted (suc low) zero left ts le = absurd (omega arith)
fitted (suc low) (suc high) left ts le =
    elim (leb left (suc low)) as (λ b. leb left (suc low) ≡ b → Roomier (cond b (Ok (tt {0}, ts)) (Err (TooDeep (length ts)))) (cond (leb left (suc high)) (Ok (tt {0}, ts)) (Err (TooDeep (length ts))))) [
      | true ↦ λ e. let more : left ≤ suc high = omega (arith, leb-true left (suc low) e) in rw (le-leb left (suc high) more) same
      | false ↦ λ e. deep
    ] refl

admitted : (low high : ℕ) (x : Start) (ts : Tokens) → low ≤ high → Roomier (admit low x ts) (admit high x ts)
unfolding admit
admitted low high x ts le = elim (is_high x) as (λ b. Roomier (cond b (deepen low) (pure tt) ts) (cond b (deepen high) (pure tt) ts)) [ true ↦ deepened low high ts le | false ↦ same ]

-- ---- where no phrase of a level begins

nothing_is : (x : Start) → is_nothing x ≡ true → x ≡ s.Nothing
nothing_is s.Nothing e = refl
nothing_is _ e = absurd cc

-- no phrase of a level begins so
abbrev BeginsNot : ℕ → TokenMark → Type 0
BeginsNot k x = (start_of x ≡ s.Nothing) × ((0 < before x) → k < before x)

begins_not : (k : ℕ) (x : TokenMark) → begins k x ≡ false → BeginsNot k x
unfolding begins
begins_not k x e =
    elim (eqb (before x) 0) as (λ b. eqb (before x) 0 ≡ b → cond b (not (is_nothing (start_of x))) (leb (before x) k) ≡ false → BeginsNot k x) [
      | true ↦ λ plain no. (nothing (is_nothing (start_of x)) refl no, λ some. absurd (omega (arith, some, eqb-true (before x) 0 plain)))
      | false ↦ λ own no. (plainly (is_nothing (start_of x)) refl own, λ some. above no)
    ] refl e
  where
    nothing : (b : Bool) → is_nothing (start_of x) ≡ b → not b ≡ false → start_of x ≡ s.Nothing
    nothing true is f = nothing_is (start_of x) is
    nothing false is f = absurd cc

    plainly : (b : Bool) → is_nothing (start_of x) ≡ b → eqb (before x) 0 ≡ false → start_of x ≡ s.Nothing
    plainly true is own = nothing_is (start_of x) is
    plainly false is own =
        let some : start_of x ≢ s.Nothing = λ q. let no : is_nothing (start_of x) ≡ true = ap is_nothing q in absurd cc in
        let yes = eq-eqb (before x) 0 (start_plain x some) in
        absurd cc

    above : leb (before x) k ≡ false → k < before x
    above e2 = omega (arith, leb-false (before x) k e2)

module _ (inner : ℕ → TokenReader Found) (room : ℕ) where
  none_begins : (k : ℕ) (ts : Tokens) → BeginsNot k (mark ts) → r.levels inner room k ts ≡ Err (readers.refusal ts)
  unfolding r.levels r.level r.primary admit
  none_begins zero ts not = rw not.0 refl
  none_begins (suc k) ts not =
      rw (no_prefix_at (suc k) (mark ts) (λ q. absurd (omega (arith, q, not.1 (omega (arith, q))))), none_begins k ts (not.0, λ some. omega (arith, not.1 some))) refl

-- ---- phrases

module _ (inner wider : ℕ → TokenReader Found) (low high : ℕ) (le : low ≤ high) (roomier : (k : ℕ) (ts : Tokens) → Roomier (inner k ts) (wider k ts)) where
  parted : (k : ℕ) (close : TokenMark) (ts : Tokens) → Roomier (r.part inner low k close ts) (r.part wider high k close ts)
  unfolding r.part
  parted k close ts = both _ _ (roomier k ts) (λ x us. same)

  othered : (k : ℕ) (separator : TokenMark) (n : ℕ) (all : Operands) (ts : Tokens) → Roomier (r.others_from inner low k separator n all ts) (r.others_from wider high k separator n all ts)
  unfolding r.others_from
  othered k separator zero all ts = same
  othered k separator (suc n) all ts = chosen (sees separator ts) (both _ _ (roomier k (drop 1 ts)) (λ x us. othered k separator n (then_operand all x) us)) same

  operanded : (k : ℕ) (close : TokenMark) (ts : Tokens) → Roomier (r.operands inner low k close ts) (r.operands wider high k close ts)
  unfolding r.operands r.others
  operanded k close ts = chosen (is_mark (mark_due ts) close) same (both _ _ (roomier k ts) (λ x us. both _ _ (othered k comma (length us) (operands_of (x.tree ∷ []) x.height) us) (λ all vs. same)))

  elsed : (at : ℕ) (b x : Found) (ts : Tokens) → Roomier (r.else_part inner low at b x ts) (r.else_part wider high at b x ts)
  unfolding r.else_part
  elsed at b x ts = chosen (sees (m.Word word.Else) ts) (both _ _ (roomier chop_level (drop 1 ts)) (λ y us. same)) same

  chose : (at : ℕ) (ts : Tokens) → Roomier (r.choice inner low at ts) (r.choice wider high at ts)
  unfolding r.choice
  chose at ts = both _ _ (parted chop_level (m.Word word.Then) ts) (λ b us. both _ _ (roomier chop_level us) (λ x vs. elsed at b x vs))

  primary_by_roomier : (at : ℕ) (x : PrimaryHead) (ts : Tokens) → Roomier (r.primary_by inner low at x ts) (r.primary_by wider high at x ts)
  primary_by_roomier at (h.Atom x) ts = same
  primary_by_roomier at (h.Listed x) ts = both _ _ (operanded (listed_level x) (listed_close x) ts) (λ all us. same)
  primary_by_roomier at (h.Enclosed x) ts = both _ _ (parted (enclosed_level x) (enclosed_close x) ts) (λ a us. same)
  primary_by_roomier at h.If ts = chose at ts
  primary_by_roomier at (h.Paired x) ts = both _ _ (parted chop_level (middle x) ts) (λ a us. both _ _ (roomier chop_level us) (λ b vs. same))
  primary_by_roomier at (h.Exists xs) ts = both _ _ (roomier chop_level ts) (λ a us. same)

  primary_roomier : (ts : Tokens) → Roomier (r.primary inner low ts) (r.primary wider high ts)
  unfolding r.primary
  primary_roomier ts = both _ _ (admitted low high (start_of (mark ts)) ts le) (λ u us. both _ _ same (λ x vs. primary_by_roomier (from ts) x vs))

  operated_roomier : (o : Op) (at : ℕ) (left : Found) (ts : Tokens) → Roomier (r.operated inner low o at left ts) (r.operated wider high o at left ts)
  unfolding r.operated
  operated_roomier o at left ts = both _ _ (fitted low high left.height ts le) (λ u us. both _ _ (roomier (right_level o) (drop 1 us)) (λ x vs. same))

  indexed_roomier : (at : ℕ) (left : Found) (ts : Tokens) → Roomier (r.indexed inner low at left ts) (r.indexed wider high at left ts)
  unfolding r.indexed
  indexed_roomier at left ts = both _ _ (fitted low high left.height ts le) (λ u us. both _ _ (parted chop_level (m.Symbol symbol.CloseSquare) (drop 1 us)) (λ x vs. same))

  chained_roomier : (k at : ℕ) (left : Found) (ts : Tokens) → Roomier (r.chained inner low k at left ts) (r.chained wider high k at left ts)
  unfolding r.chained r.others
  chained_roomier k at left ts = both _ _ (fitted low high left.height ts le) (λ u us. both _ _ (othered (k - 1) (m.Word word.And) (length us) (operands_of (left.tree ∷ []) left.height) us) (λ all vs. same))

  turn_by_roomier : (k at : ℕ) (left : Found) (role : TokenRole) (ts : Tokens) → Roomier (r.turn_by inner low k at left role ts) (r.turn_by wider high k at left role ts)
  turn_by_roomier k at left Ends ts = same
  turn_by_roomier k at left (Infix o) ts = both _ _ (operated_roomier o at left ts) (λ x us. same)
  turn_by_roomier k at left Opens ts = both _ _ (indexed_roomier at left ts) (λ x us. same)
  turn_by_roomier k at left Joins ts = both _ _ (chained_roomier k at left ts) (λ x us. same)

  turn_roomier : (k at : ℕ) (left : Found) (ts : Tokens) → Roomier (r.turn inner low k at left ts) (r.turn wider high k at left ts)
  unfolding r.turn
  turn_roomier k at left ts = turn_by_roomier k at left (role_at k (mark ts)) ts

  go_roomier : (k at n : ℕ) (left : Found) (ts : Tokens) → Roomier (r.go inner low k at n left ts) (r.go wider high k at n left ts)
  unfolding r.go
  go_roomier k at zero left ts = same
  go_roomier k at (suc n) left ts = both _ _ (turn_roomier k at left ts) (λ x us.
      elim x.1 as (λ b. Roomier (cond b (r.go inner low k at n x.0) (pure x.0) us) (cond b (r.go wider high k at n x.0) (pure x.0) us)) [ true ↦ go_roomier k at n x.0 us | false ↦ same ])

  levels_roomier : (k : ℕ) (ts : Tokens) → Roomier (r.levels inner low k ts) (r.levels wider high k ts)
  unfolding r.levels r.level r.prefixed r.operations
  levels_roomier zero ts = primary_roomier ts
  levels_roomier (suc k) ts = elim (prefix_at (suc k) (mark ts)) as (λ q. Roomier (r.level_by inner low (suc k) (r.levels inner low k) q ts) (r.level_by wider high (suc k) (r.levels wider high k) q ts)) [
    | Some o ↦ both _ _ (deepened low high ts le) (λ u us. both _ _ (roomier (suc k) (drop 1 us)) (λ x vs. same))
    | None ↦ both _ _ (levels_roomier k ts) (λ x us. go_roomier (suc k) (from ts) (length us) x us)
  ]

unfit_roomier : (high k : ℕ) (ts : Tokens) → Roomier (r.read 0 k ts) (r.read high k ts)
unfolding r.read unfit
unfit_roomier zero k ts = same
unfit_roomier (suc high) k ts =
    elim (begins k (mark ts)) as (λ b. begins k (mark ts) ≡ b → Roomier (Err (cond b (TooDeep (length ts)) (readers.refusal ts))) (r.levels (r.read high) high k ts)) [
      | true ↦ λ yes. deep
      | false ↦ λ no. rw (none_begins (r.read high) high k ts (begins_not k (mark ts) no)) same
    ] refl

pub read_roomier : (low high k : ℕ) (ts : Tokens) → low ≤ high → Roomier (r.read low k ts) (r.read high k ts)
unfolding r.read
read_roomier zero high k ts le = unfit_roomier high k ts
read_roomier (suc low) zero k ts le = absurd (omega arith)
read_roomier (suc low) (suc high) k ts le = levels_roomier (r.read low) (r.read high) low high (omega arith) (λ i us. read_roomier low high i us (omega arith)) k ts

-- ---- sources

after_ok : {A B : Type 0} {o : ReadOutcome A} {x : A} {us : Tokens} {p : ReadOutcome B} (f : A → TokenReader B) → Roomier o (Ok (x, us)) → Roomier (f x us) p → Roomier (and_then o f) p
after_ok f same next = next
after_ok f deep next = deep

sentence_roomier : {ts rest : Tokens} {x : Found} → Sentence ts x rest → Roomier (source.sentence ts) (Ok (x.tree, rest))
unfolding source.sentence
sentence_roomier {ts} (g.sentence {end = end} {x = x} d e) =
    let room = max limit x.height in
    let read : r.read room chop_level ts ≡ Ok (x, end) = read_complete room chop_level ts x end d (omega arith) in
    let more : Roomier (r.read limit chop_level ts) (Ok (x, end)) = subst (Roomier (r.read limit chop_level ts)) read (read_roomier limit room chop_level ts (omega arith)) in
    after_ok _ more (rw (expect_is (m.Symbol symbol.Stop) end e) same)

definition_roomier : {ts rest : Tokens} {d : DefinitionTree} {i : ℕ} → Defines ts d i rest → Roomier (source.definition ts) (Ok (d, rest))
unfolding source.definition
definition_roomier {ts} (g.defines {mid = mid} {xs = xs} {x = x} begins n o ps q b) =
    rw (lower_is (drop 1 ts) n, expect_is (m.Symbol symbol.OpenRound) (drop 1 (drop 1 ts)) o, parameters_is ps, expect_is (m.Symbol symbol.Equal) mid q) (after_ok _ (sentence_roomier b) same)

definitions_roomier : {ts rest : Tokens} {more : List DefinitionTree} {i : ℕ} → Definitions ts more i rest → (n : ℕ) (ds : List DefinitionTree) → length ts ≤ n
    → Roomier (source.definitions_from n ds ts) (Ok (ds ++ more, rest))
unfolding source.definitions_from
definitions_roomier {ts} (g.no_definition e) zero ds few = rw (append-nil ds) same
definitions_roomier {ts} (g.no_definition e) (suc n) ds few = rw (append-nil ds, same_no (mark ts) (m.Word word.Define) e) same
definitions_roomier (g.definition_then d e) zero ds few = absurd (omega (arith, defines_shorter d))
definitions_roomier {ts} {rest} (g.definition_then {mid = mid} {d = x} {ds = more} d e) (suc n) ds few =
    let others = definitions_roomier e n (ds ++ x ∷ []) (omega (arith, defines_shorter d)) in
    let joined = subst (λ zs. Roomier (source.definitions_from n (ds ++ x ∷ []) mid) (Ok (zs, rest))) (append_assoc ds (x ∷ []) more) others in
    rw (same_yes (mark ts) (m.Word word.Define) (begins d)) (after_ok _ (definition_roomier d) joined)
  where
    begins : {us end : Tokens} {z : DefinitionTree} {j : ℕ} → Defines us z j end → mark us ≡ m.Word word.Define
    begins (g.defines at names o xs q b) = at

-- a source of the grammar is read, or found too deep
pub source_roomier : {ts : Tokens} {x : SourceTree} {i : ℕ} → IsSource ts x i → Roomier (source.source ts) (Ok (x, []))
unfolding source.source source.definitions source.ended
source_roomier {ts} (g.source {mid = mid} {rest = rest} {ds = ds} {x = x} d e b none) =
    let end : Roomier (source.ended (source_of ds x.tree) rest) (Ok (source_of ds x.tree, [])) = rw none same in
    after_ok _ (definitions_roomier d (length ts) [] (omega arith)) (rw (expect_is (m.Word word.Run) mid e) (after_ok _ (sentence_roomier b) end))
