-- A phrase has a height, and leaves no more tokens than there were.
use Rattle.std.proofs.Common.{◌≡◌, ◌≢◌, ℕ, suc, ◌<◌, ◌≤◌, true, false, cond, eqb, List, [], ◌∷◌, length, drop, refl, sym, ◌∙◌, arith}
use Rattle.tp_parse.specs.declared.mark.TokenMark.{TokenMark}
use Rattle.tp_parse.specs.declared.mark.TokenMark.TheVariants as m
use Rattle.tp_parse.specs.declared.mark.TokenRole.{TokenRole}
use Rattle.tp_parse.specs.declared.mark.TokenRole.TheVariants.{Ends}
use Rattle.tp_parse.specs.declared.mark.Start.TheVariants as s
use Rattle.tp_parse.specs.declared.head.PrimaryHead.{PrimaryHead}
use Rattle.tp_parse.specs.Marks.{role_at, before, start_of, same, Tokens, mark, mark_due, past, left_of}
use Rattle.tp_parse.specs.Grammar.{Found, Operands, ReadsNames, last_name, name_then, BeginsPrimary, number, truth, upper_name, lower_name, call, bare, form, empty_list, list, enclosure, if, while, repeat, for, forall, exists, Parses, atom, listed, enclosed, if_then, if_else, paired, quantified, prefixed, level, Goes, ends, left, single, right, indexed, joins, Others, no_more, one_more, Listing, no_operands, operands}
use Rattle.tp_parse.proofs.Marks.{prefix_level_is, start_plain, BeginsNone}

mutual
  pub tall : {k : ℕ} {ts rest : Tokens} {x : Found} → Parses k ts x rest → 0 < x.height
  tall (atom b) = omega arith
  tall (listed b o) = omega arith
  tall (enclosed b d f) = omega arith
  tall (if_then b d f g i) = omega arith
  tall (if_else b d f g i j) = omega arith
  tall (paired b d f g) = omega arith
  tall (quantified b d) = omega arith
  tall (prefixed e d) = omega arith
  tall (level d g) = goes_tall (tall d) g

  goes_tall : {k at : ℕ} {a t : Found} {ts rest : Tokens} → 0 < a.height → Goes k at a ts t rest → 0 < t.height
  goes_tall some (ends e) = some
  goes_tall some (left e w d g) = goes_tall (omega arith) g
  goes_tall some (single e w d) = omega arith
  goes_tall some (right e w d) = omega arith
  goes_tall some (indexed e d f g) = goes_tall (omega arith) g
  goes_tall some (joins e o) = omega arith

-- ---- what is left

pub dropped : (ts : Tokens) → length (drop 1 ts) ≤ length ts
dropped [] = omega arith
dropped (t ∷ ts) = omega arith

pub passed : (ts : Tokens) → length (past ts) ≤ length ts
unfolding past
passed ts = elim (same (mark_due ts) (mark ts)) as (λ b. length (cond b (drop 1 ts) (left_of true ts)) ≤ length ts) [ true ↦ dropped ts | false ↦ halved_length ts ]
  where
    halved_length : (us : Tokens) → length (left_of true us) ≤ length us
    halved_length [] = omega arith
    halved_length (t ∷ us) = omega arith

pub taken : (ts : Tokens) (x : TokenMark) → mark ts ≡ x → x ≢ m.End → length (drop 1 ts) < length ts
unfolding mark
taken [] x e some = absurd (some (sym e))
taken (t ∷ ts) x e some = omega arith

pub role_end : (k : ℕ) → role_at k m.End ≡ Ends
unfolding role_at
role_end k = elim (eqb 0 k) as (λ b. cond b Ends Ends ≡ Ends) [ true ↦ refl | false ↦ refl ]

pub role_taken : (k : ℕ) (ts : Tokens) (r : TokenRole) → role_at k (mark ts) ≡ r → r ≢ Ends → length (drop 1 ts) < length ts
unfolding mark
role_taken k [] r e some = absurd (some (sym e ∙ role_end k))
role_taken k (t ∷ ts) r e some = omega arith

pub names_shorter : {ts rest : Tokens} {xs : List (List ℕ)} → ReadsNames ts xs rest → length rest ≤ length ts
names_shorter {ts} (last_name n e) = dropped ts
names_shorter {ts} (name_then n e d) = omega (arith, dropped ts, dropped (drop 1 ts), names_shorter d)

begins_shorter : {ts rest : Tokens} {x : PrimaryHead} → BeginsPrimary ts x rest → length rest ≤ length ts
begins_shorter {ts} (number e) = dropped ts
begins_shorter {ts} (truth e) = dropped ts
begins_shorter {ts} (upper_name e) = dropped ts
begins_shorter {ts} (lower_name e f) = dropped ts
begins_shorter {ts} (call e f) = omega (arith, dropped ts, dropped (drop 1 ts))
begins_shorter {ts} (bare e) = dropped ts
begins_shorter {ts} (form e f) = omega (arith, dropped ts, passed (drop 1 ts))
begins_shorter {ts} (empty_list e) = dropped ts
begins_shorter {ts} (list e) = passed ts
begins_shorter {ts} (enclosure e) = dropped ts
begins_shorter {ts} (if e) = dropped ts
begins_shorter {ts} (while e) = dropped ts
begins_shorter {ts} (repeat e) = dropped ts
begins_shorter {ts} (for e f g) = omega (arith, dropped ts, dropped (drop 1 ts), passed (drop 1 (drop 1 ts)))
begins_shorter {ts} (forall e f g) = omega (arith, dropped ts, dropped (drop 1 ts), passed (drop 1 (drop 1 ts)))
begins_shorter {ts} (exists {mid = mid} e d f) = omega (arith, dropped ts, names_shorter d, passed mid)

mutual
  pub shorter : {k : ℕ} {ts rest : Tokens} {x : Found} → Parses k ts x rest → length rest ≤ length ts
  shorter (atom b) = begins_shorter b
  shorter (listed b o) = omega (arith, begins_shorter b, listing_shorter o)
  shorter (enclosed {end = end} b d f) = omega (arith, begins_shorter b, shorter d, passed end)
  shorter (if_then {then = then} b d f g i) = omega (arith, begins_shorter b, shorter d, passed then, shorter g)
  shorter (if_else {then = then} {else = else} b d f g i j) = omega (arith, begins_shorter b, shorter d, passed then, shorter g, dropped else, shorter j)
  shorter (paired {next = next} b d f g) = omega (arith, begins_shorter b, shorter d, passed next, shorter g)
  shorter (quantified b d) = omega (arith, begins_shorter b, shorter d)
  shorter {ts = ts} (prefixed e d) = omega (arith, dropped ts, shorter d)
  shorter (level d g) = omega (arith, shorter d, goes_shorter g)

  pub goes_shorter : {k at : ℕ} {a t : Found} {ts rest : Tokens} → Goes k at a ts t rest → length rest ≤ length ts
  goes_shorter (ends e) = omega arith
  goes_shorter {ts = ts} (left e w d g) = omega (arith, dropped ts, shorter d, goes_shorter g)
  goes_shorter {ts = ts} (single e w d) = omega (arith, dropped ts, shorter d)
  goes_shorter {ts = ts} (right e w d) = omega (arith, dropped ts, shorter d)
  goes_shorter {ts = ts} (indexed {end = end} e d f g) = omega (arith, dropped ts, shorter d, passed end, goes_shorter g)
  goes_shorter (joins e o) = others_shorter o

  pub others_shorter : {k : ℕ} {separator : TokenMark} {all : Operands} {ts rest : Tokens} → Others k separator ts all rest → length rest ≤ length ts
  others_shorter (no_more e) = omega arith
  others_shorter {ts = ts} (one_more e d o) = omega (arith, dropped ts, shorter d, others_shorter o)

  listing_shorter : {k : ℕ} {close : TokenMark} {all : Operands} {ts rest : Tokens} → Listing k close ts all rest → length rest ≤ length ts
  listing_shorter {ts = ts} (no_operands e) = passed ts
  listing_shorter (operands {end = end} d o e) = omega (arith, shorter d, others_shorter o, passed end)

-- ---- what a phrase begins with

pub begins_start : {ts rest : Tokens} {x : PrimaryHead} → BeginsPrimary ts x rest → start_of (mark ts) ≢ s.Nothing
begins_start (number e) nothing = absurd cc
begins_start (truth e) nothing = absurd cc
begins_start (upper_name e) nothing = absurd cc
begins_start (lower_name e f) nothing = absurd cc
begins_start (call e f) nothing = absurd cc
begins_start (bare e) nothing = absurd cc
begins_start (form e f) nothing = absurd cc
begins_start (empty_list e) nothing = absurd cc
begins_start (list e) nothing = absurd cc
begins_start (enclosure e) nothing = absurd cc
begins_start (if e) nothing = absurd cc
begins_start (while e) nothing = absurd cc
begins_start (repeat e) nothing = absurd cc
begins_start (for e f g) nothing = absurd cc
begins_start (forall e f g) nothing = absurd cc
begins_start (exists e d f) nothing = absurd cc

-- a phrase of a level begins with no operator of a higher one
pub low_before : {k : ℕ} {ts rest : Tokens} {x : Found} → Parses k ts x rest → before (mark ts) ≤ k
low_before (atom b) = omega (arith, start_plain _ (begins_start b))
low_before (listed b o) = omega (arith, start_plain _ (begins_start b))
low_before (enclosed b d f) = omega (arith, start_plain _ (begins_start b))
low_before (if_then b d f g i) = omega (arith, start_plain _ (begins_start b))
low_before (if_else b d f g i j) = omega (arith, start_plain _ (begins_start b))
low_before (paired b d f g) = omega (arith, start_plain _ (begins_start b))
low_before (quantified b d) = omega (arith, start_plain _ (begins_start b))
low_before {ts = ts} (prefixed {k = k} {o = o} e d) = omega (arith, prefix_level_is (suc k) (mark ts) o e)
low_before (level d g) = omega (arith, low_before d)

-- a phrase begins with what begins one
pub begins_some : {k : ℕ} {ts rest : Tokens} {x : Found} → Parses k ts x rest → BeginsNone (mark ts) → ⊥
begins_some (atom b) none = begins_start b none.0
begins_some (listed b o) none = begins_start b none.0
begins_some (enclosed b d f) none = begins_start b none.0
begins_some (if_then b d f g i) none = begins_start b none.0
begins_some (if_else b d f g i j) none = begins_start b none.0
begins_some (paired b d f g) none = begins_start b none.0
begins_some (quantified b d) none = begins_start b none.0
begins_some {ts = ts} (prefixed {k = k} {o = o} e d) none = absurd (omega (arith, prefix_level_is (suc k) (mark ts) o e, none.1))
begins_some (level d g) none = begins_some d none
