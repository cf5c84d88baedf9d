-- A reader leaves no more tokens than there were, and a refusal names one of them.
use Rattle.std.proofs.Common.{◌≡◌, ◌≢◌, ℕ, zero, suc, ◌-◌, ◌<◌, ◌≤◌, Bool, true, false, cond, ◌||◌, leb, List, [], ◌∷◌, ◌++◌, length, drop, Ok, Err, Some, None, refl, arith}
use Rattle.tp_lex.specs.declared.token.Word.TheVariants as word
use Rattle.tp_lex.specs.declared.token.Symbol.TheVariants as symbol
use Rattle.tp_tree.specs.Tree.{DefinitionTree, SourceTree}
use Rattle.tp_tree.specs.declared.operator.Op.{Op}
use Rattle.tp_tree.specs.Levels.{chop_level, right_level}
use Rattle.tp_parse.specs.declared.stop.Refusal.{Refusal}
use Rattle.tp_parse.specs.declared.stop.Refusal.TheVariants.{Unexpected, Unfinished, TooDeep, NoMemory}
use Rattle.tp_parse.specs.declared.mark.TokenMark.{TokenMark}
use Rattle.tp_parse.specs.declared.mark.TokenMark.TheVariants as m
use Rattle.tp_parse.specs.declared.mark.TokenRole.{TokenRole}
use Rattle.tp_parse.specs.declared.mark.TokenRole.TheVariants.{Ends, Infix, Opens, Joins}
use Rattle.tp_parse.specs.declared.mark.Start.{Start}
use Rattle.tp_parse.specs.declared.mark.Start.TheVariants as s
use Rattle.tp_parse.specs.declared.head.PrimaryHead.{PrimaryHead}
use Rattle.tp_parse.specs.declared.head.PrimaryHead.TheVariants as h
use Rattle.tp_parse.specs.declared.head.Atom.TheVariants as atom
use Rattle.tp_parse.specs.declared.head.Listed.TheVariants as listed
use Rattle.tp_parse.specs.Marks.{same, prefix_at, role_at, start_of, comma, listed_level, listed_close, enclosed_level, enclosed_close, middle, Tokens, mark, from, mark_due}
use Rattle.tp_parse.specs.Readers as readers
use Rattle.tp_parse.specs.Readers.{ReadOutcome, TokenReader, and_then, ◌>>=◌, pure, refuse, too_deep, sees, take, taken_name, lower, any_name, names, names_from, expect, deepen}
use Rattle.tp_parse.specs.Head.{name_or_call, counter, head_by, is_high, admit, begins, unfit}
use Rattle.tp_parse.specs.Grammar.{Found, Operands, operands_of, of_choice, of_choice_else, of_infix, of_index, of_prefix, limit, defined, source_of}
use Rattle.tp_parse.specs.Seen.{then_operand}
use Rattle.tp_parse.specs.Reading as r
use Rattle.tp_parse.specs.Reading.{fits, goes_on}
use Rattle.tp_parse.specs.Source as source
use Rattle.tp_parse.proofs.Shapes.{dropped, passed, role_end}
use Rattle.tp_parse.proofs.Marks.{prefix_end}

-- a refusal where so many tokens are left
abbrev pub Names : ℕ → Refusal → Type 0
Names n (Unexpected k) = (0 < k) × (k ≤ n)
Names n (TooDeep k) = (0 < k) × (k ≤ n)
Names n Unfinished = Unit {0}
Names n NoMemory = ⊥

pub data Within {A : Type 0} (ts : Tokens) : ReadOutcome A → Type 0 where
  ok : {x : A} {rest : Tokens} → length rest ≤ length ts → Within ts (Ok (x, rest))
  err : {e : Refusal} → Names (length ts) e → Within ts (Err e)

pub refusal_within : {A : Type 0} {ts : Tokens} {e : Refusal} → Within {A = A} ts (Err e) → Names (length ts) e
refusal_within (err is) = is

pub left_over : {A : Type 0} {ts rest : Tokens} {x : A} → Within ts (Ok (x, rest)) → length rest ≤ length ts
left_over (ok is) = is

pub names_more : (k n : ℕ) (e : Refusal) → k ≤ n → Names k e → Names n e
names_more k n (Unexpected i) le is = (is.0, omega (arith, is.1))
names_more k n (TooDeep i) le is = (is.0, omega (arith, is.1))
names_more k n Unfinished le is = tt
names_more k n NoMemory le is = is

pub more : {A : Type 0} {o : ReadOutcome A} {ts us : Tokens} → length us ≤ length ts → Within us o → Within ts o
more le (ok is) = ok (omega arith)
more {ts = ts} {us = us} le (err {e = e} is) = err (names_more (length us) (length ts) e le is)

pub bind : {A B : Type 0} {o : ReadOutcome A} {ts : Tokens} (f : A → TokenReader B) → Within ts o → ((x : A) (us : Tokens) → Within us (f x us)) → Within ts (and_then o f)
bind f (ok {x = x} {rest = rest} is) then = more is (then x rest)
bind f (err is) then = err is

pub refused : {A : Type 0} (ts : Tokens) → Within {A = A} ts (refuse ts)
unfolding readers.refusal
refused [] = err tt
refused (t ∷ ts) = err (omega arith, omega arith)

pub deep : {A : Type 0} (ts : Tokens) → 0 < length ts → Within {A = A} ts (too_deep ts)
deep ts some = err (some, omega arith)

pub choose : {A : Type 0} {ts : Tokens} (b : Bool) {x y : ReadOutcome A} → Within ts x → Within ts y → Within ts (cond b x y)
choose true p q = p
choose false p q = q

pub took : {A : Type 0} {x : A} (ts : Tokens) → Within ts (Ok (x, drop 1 ts))
took ts = ok (dropped ts)

pub choose_at : {A : Type 0} {ts : Tokens} (b : Bool) (f g : TokenReader A) → Within ts (f ts) → Within ts (g ts) → Within ts (cond b f g ts)
choose_at true f g p q = p
choose_at false f g p q = q

pub took_one : (ts : Tokens) → Within ts (take ts)
took_one ts = took ts

pub took_name : (ts : Tokens) → Within ts (taken_name ts)
took_name ts = took ts

pub stays : {A : Type 0} {x : A} (ts : Tokens) → Within ts (Ok (x, ts))
stays ts = ok (omega arith)

pub expected : (x : TokenMark) (ts : Tokens) → Within ts (expect x ts)
unfolding expect
expected x ts = choose (same (mark_due ts) x) (ok (passed ts)) (refused ts)

pub deepened : (room : ℕ) (ts : Tokens) → 0 < length ts → Within ts (deepen room ts)
unfolding deepen
deepened zero ts some = deep ts some
deepened (suc n) ts some = stays ts

pub fitted : (room left : ℕ) (ts : Tokens) → 0 < length ts → Within ts (fits room left ts)
unfolding fits
fitted zero left ts some = deep ts some
fitted (suc n) left ts some = choose (leb left (suc n)) (stays ts) (deep ts some)

pub lowered : (ts : Tokens) → Within ts (lower ts)
unfolding lower
lowered ts = choose (sees m.Lower ts) (took ts) (refused ts)

pub any_named : (ts : Tokens) → Within ts (any_name ts)
unfolding any_name
any_named ts = choose (sees m.Upper ts || sees m.Lower ts) (took ts) (refused ts)

pub named_from : (n : ℕ) (xs : List (List ℕ)) (ts : Tokens) → Within ts (names_from n xs ts)
unfolding names_from
named_from zero xs ts = stays ts
named_from (suc n) xs ts = choose (sees comma ts) (bind _ (took_one ts) (λ u us. bind _ (any_named us) (λ x vs. named_from n (xs ++ x ∷ []) vs))) (stays ts)

pub named : (ts : Tokens) → Within ts (names ts)
unfolding names
named ts = bind _ (any_named ts) (λ x us. named_from (length us) (x ∷ []) us)

-- ---- heads

pub some_by_start : (ts : Tokens) → start_of (mark ts) ≢ s.Nothing → 0 < length ts
unfolding mark
some_by_start [] not = absurd (not refl)
some_by_start (t ∷ ts) not = omega arith

pub counted : (ts : Tokens) → Within ts (counter ts)
unfolding counter
counted ts = bind _ (took_one ts) (λ u us. bind _ (lowered us) (λ x vs. bind _ (expected (m.Symbol symbol.Less) vs) (λ w ws. stays {x = x} ws)))

pub headed : (x : Start) (ts : Tokens) → Within ts (head_by x ts)
unfolding name_or_call
headed s.Nothing ts = refused ts
headed s.Number ts = took ts
headed s.Name ts = took ts
headed s.NameOrCall ts = bind _ (took_name ts) (λ x us. choose (sees (m.Symbol symbol.OpenRound) us) (took {x = h.Listed (listed.Call x)} us) (stays {x = h.Atom (atom.Name x)} us))
headed (s.Truth b) ts = took ts
headed (s.Bare w) ts = took ts
headed s.EmptyList ts = took ts
headed s.List ts = ok (passed ts)
headed (s.Form f) ts = bind _ (took_one ts) (λ u us. bind _ (expected (m.Symbol symbol.OpenRound) us) (λ w ws. stays {x = h.Listed (listed.Form f)} ws))
headed (s.Enclosed e) ts = took ts
headed s.If ts = took ts
headed s.While ts = took ts
headed s.Repeat ts = took ts
headed s.For ts = bind _ (counted ts) (λ x us. stays us)
headed s.Forall ts = bind _ (counted ts) (λ x us. stays us)
headed s.Exists ts = bind _ (took_one ts) (λ u us. bind _ (named us) (λ xs vs. bind _ (expected (m.Symbol symbol.Colon) vs) (λ w ws. stays {x = h.Exists xs} ws)))

pub high_some : (x : Start) → is_high x ≡ true → x ≢ s.Nothing
high_some s.Nothing e q = absurd cc
high_some _ e q = absurd cc

pub admitted : (room : ℕ) (ts : Tokens) → Within ts (admit room (start_of (mark ts)) ts)
unfolding admit
admitted room ts = elim (is_high (start_of (mark ts))) as (λ b. (b ≡ true → 0 < length ts) → Within ts (cond b (deepen room) (pure tt) ts)) [
  | true ↦ λ some. deepened room ts (some refl)
  | false ↦ λ some. stays ts
] (λ q. some_by_start ts (high_some (start_of (mark ts)) q))

pub unfitted : {A : Type 0} (k : ℕ) (ts : Tokens) → Within {A = A} ts (Err (unfit k ts))
unfolding unfit begins mark readers.refusal
unfitted k [] = err tt
unfitted {A} k (t ∷ ts) = elim (begins k (mark (t ∷ ts))) as (λ b. Within {A = A} (t ∷ ts) (Err (cond b (TooDeep (length (t ∷ ts))) (readers.refusal (t ∷ ts))))) [
  | true ↦ err (omega arith, omega arith)
  | false ↦ err (omega arith, omega arith)
]

-- ---- phrases

pub some_by_role : (k : ℕ) (ts : Tokens) → role_at k (mark ts) ≢ Ends → 0 < length ts
unfolding mark
some_by_role k [] not = absurd (not (role_end k))
some_by_role k (t ∷ ts) not = omega arith

pub some_by_prefix : (k : ℕ) (ts : Tokens) → prefix_at k (mark ts) ≢ None → 0 < length ts
unfolding mark
some_by_prefix k [] some = absurd (some (prefix_end k))
some_by_prefix k (t ∷ ts) some = omega arith

module _ (inner : ℕ → TokenReader Found) (room : ℕ) (within : (k : ℕ) (ts : Tokens) → Within ts (inner k ts)) where
  pub parted : (k : ℕ) (close : TokenMark) (ts : Tokens) → Within ts (r.part inner room k close ts)
  unfolding r.part
  parted k close ts = bind _ (within k ts) (λ x us. bind _ (expected close us) (λ w ws. stays ws))

  pub othered : (k : ℕ) (separator : TokenMark) (n : ℕ) (all : Operands) (ts : Tokens) → Within ts (r.others_from inner room k separator n all ts)
  unfolding r.others_from
  othered k separator zero all ts = stays ts
  othered k separator (suc n) all ts = choose (sees separator ts) (bind _ (took_one ts) (λ u us. bind _ (within k us) (λ x vs. othered k separator n (then_operand all x) vs))) (stays ts)

  pub operanded : (k : ℕ) (close : TokenMark) (ts : Tokens) → Within ts (r.operands inner room k close ts)
  unfolding r.operands r.others
  operanded k close ts = choose (same (mark_due ts) close) (ok (passed ts))
      (bind _ (within k ts) (λ x us. bind _ (othered k comma (length us) (operands_of (x.tree ∷ []) x.height) us) (λ all vs. bind _ (expected close vs) (λ w ws. stays ws))))

  pub elsed : (at : ℕ) (b x : Found) (ts : Tokens) → Within ts (r.else_part inner room at b x ts)
  unfolding r.else_part
  elsed at b x ts = choose (sees (m.Word word.Else) ts) (bind _ (took_one ts) (λ u ws. bind _ (within chop_level ws) (λ y zs. stays {x = of_choice_else at b x y} zs))) (stays {x = of_choice at b x} ts)

  pub chosen : (at : ℕ) (ts : Tokens) → Within ts (r.choice inner room at ts)
  unfolding r.choice
  chosen at ts = bind _ (parted chop_level (m.Word word.Then) ts) (λ b us. bind _ (within chop_level us) (λ x vs. elsed at b x vs))

  pub primary_by_within : (at : ℕ) (x : PrimaryHead) (ts : Tokens) → Within ts (r.primary_by inner room at x ts)
  primary_by_within at (h.Atom a) ts = stays ts
  primary_by_within at (h.Listed l) ts = bind _ (operanded (listed_level l) (listed_close l) ts) (λ all us. stays us)
  primary_by_within at (h.Enclosed e) ts = bind _ (parted (enclosed_level e) (enclosed_close e) ts) (λ x us. stays us)
  primary_by_within at h.If ts = chosen at ts
  primary_by_within at (h.Paired p) ts = bind _ (parted chop_level (middle p) ts) (λ x us. bind _ (within chop_level us) (λ y vs. stays vs))
  primary_by_within at (h.Exists xs) ts = bind _ (within chop_level ts) (λ x us. stays us)

  pub primary_within : (ts : Tokens) → Within ts (r.primary inner room ts)
  unfolding r.primary
  primary_within ts = bind _ (admitted room ts) (λ u us. bind _ (headed (start_of (mark ts)) us) (λ x vs. primary_by_within (from ts) x vs))

  pub operated_within : (o : Op) (at : ℕ) (left : Found) (ts : Tokens) → 0 < length ts → Within ts (r.operated inner room o at left ts)
  unfolding r.operated
  operated_within o at left ts some = bind _ (fitted room left.height ts some) (λ u us. bind _ (took_one us) (λ v vs. bind _ (within (right_level o) vs) (λ x ws. stays {x = of_infix at o left x} ws)))

  pub indexed_within : (at : ℕ) (left : Found) (ts : Tokens) → 0 < length ts → Within ts (r.indexed inner room at left ts)
  unfolding r.indexed
  indexed_within at left ts some = bind _ (fitted room left.height ts some) (λ u us. bind _ (took_one us) (λ v vs. bind _ (parted chop_level (m.Symbol symbol.CloseSquare) vs) (λ x ws. stays {x = of_index at left x} ws)))

  pub chained_within : (k at : ℕ) (left : Found) (ts : Tokens) → 0 < length ts → Within ts (r.chained inner room k at left ts)
  unfolding r.chained r.others
  chained_within k at left ts some =
      bind _ (fitted room left.height ts some) (λ u us. bind _ (othered (k - 1) (m.Word word.And) (length us) (operands_of (left.tree ∷ []) left.height) us) (λ all vs. stays vs))

  pub turn_by_within : (k at : ℕ) (left : Found) (role : TokenRole) (ts : Tokens) → (role ≢ Ends → 0 < length ts) → Within ts (r.turn_by inner room k at left role ts)
  turn_by_within k at left Ends ts some = stays ts
  turn_by_within k at left (Infix o) ts some = bind _ (operated_within o at left ts (some (λ q. cc))) (λ x us. stays us)
  turn_by_within k at left Opens ts some = bind _ (indexed_within at left ts (some (λ q. cc))) (λ x us. stays us)
  turn_by_within k at left Joins ts some = bind _ (chained_within k at left ts (some (λ q. cc))) (λ x us. stays us)

  pub go_within : (k at n : ℕ) (left : Found) (ts : Tokens) → Within ts (r.go inner room k at n left ts)
  unfolding r.go r.turn
  go_within k at zero left ts = stays ts
  go_within k at (suc n) left ts = bind _ (turn_by_within k at left (role_at k (mark ts)) ts (some_by_role k ts)) (λ x us.
      elim x.1 as (λ b. Within us (cond b (r.go inner room k at n x.0) (pure x.0) us)) [ true ↦ go_within k at n x.0 us | false ↦ stays us ])

  pub levels_within : (k : ℕ) (ts : Tokens) → Within ts (r.levels inner room k ts)
  unfolding r.levels r.level r.prefixed r.operations
  levels_within zero ts = primary_within ts
  levels_within (suc k) ts = elim (prefix_at (suc k) (mark ts)) as (λ p. (p ≢ None → 0 < length ts) → Within ts (r.level_by inner room (suc k) (r.levels inner room k) p ts)) [
    | Some o ↦ λ some. bind _ (deepened room ts (some (λ q. cc))) (λ u us. bind _ (took_one us) (λ v vs. bind _ (within (suc k) vs) (λ x ws. stays {x = of_prefix (from ts) o x} ws)))
    | None ↦ λ some. bind _ (levels_within k ts) (λ x us. go_within (suc k) (from ts) (length us) x us)
  ] (some_by_prefix (suc k) ts)

pub read_within : (room k : ℕ) (ts : Tokens) → Within ts (r.read room k ts)
unfolding r.read
read_within zero k ts = unfitted k ts
read_within (suc room) k ts = levels_within (r.read room) room (read_within room) k ts

-- ---- sources

pub sentence_within : (ts : Tokens) → Within ts (source.sentence ts)
unfolding source.sentence
sentence_within ts = bind _ (read_within limit chop_level ts) (λ x us. bind _ (expected (m.Symbol symbol.Stop) us) (λ w ws. stays {x = x.tree} ws))

pub parameters_within : (ts : Tokens) → Within ts (source.parameters ts)
unfolding source.parameters
parameters_within ts = choose (sees (m.Symbol symbol.CloseRound) ts) (took ts) (bind _ (named ts) (λ xs us. bind _ (expected (m.Symbol symbol.CloseRound) us) (λ w ws. stays {x = xs} ws)))

pub definition_within : (ts : Tokens) → Within ts (source.definition ts)
unfolding source.definition
definition_within ts = bind _ (took_one ts) (λ u us. bind _ (lowered us) (λ x vs. bind _ (expected (m.Symbol symbol.OpenRound) vs) (λ o ws. bind _ (parameters_within ws) (λ xs ps.
    bind _ (expected (m.Symbol symbol.Equal) ps) (λ q qs. bind _ (sentence_within qs) (λ b bs. stays {x = defined x (from ts) xs b} bs))))))

pub definitions_within : (n : ℕ) (ds : List DefinitionTree) (ts : Tokens) → Within ts (source.definitions_from n ds ts)
unfolding source.definitions_from
definitions_within zero ds ts = stays ts
definitions_within (suc n) ds ts = choose (sees (m.Word word.Define) ts) (bind _ (definition_within ts) (λ d us. definitions_within n (ds ++ d ∷ []) us)) (stays ts)

pub ended_within : (x : SourceTree) (ts : Tokens) → Within ts (source.ended x ts)
unfolding source.ended
ended_within x [] = stays []
ended_within x (t ∷ ts) = refused (t ∷ ts)

pub source_within : (ts : Tokens) → Within ts (source.source ts)
unfolding source.source source.definitions
source_within ts = bind _ (definitions_within (length ts) [] ts) (λ ds us. bind _ (expected (m.Word word.Run) us) (λ u vs. bind _ (sentence_within vs) (λ x ws. ended_within (source_of ds x) ws)))
