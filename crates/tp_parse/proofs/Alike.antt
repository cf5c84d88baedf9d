-- Runs over tokens that agree at the front: a refusal rests on the tokens up to the one that it names.
use Rattle.std.proofs.Common.{◌≡◌, ℕ, zero, suc, ◌+◌, ◌<◌, ◌≤◌, Bool, true, false, cond, ◌||◌, leb, List, [], ◌∷◌, length, drop, Ok, Err, refl, ap, subst, arith}
use Rattle.tp_lex.specs.declared.token.Token.{Token}
use Rattle.tp_parse.specs.declared.stop.Refusal.{Refusal}
use Rattle.tp_parse.specs.declared.stop.Refusal.TheVariants.{Unexpected, Unfinished, TooDeep, NoMemory}
use Rattle.tp_parse.specs.declared.mark.TokenMark.{TokenMark}
use Rattle.tp_parse.specs.declared.mark.TokenMark.TheVariants as m
use Rattle.tp_parse.specs.Marks.{same, kind_mark, Tokens, mark, from, first_number, first_name, half_mark, mark_due, past, left_of}
use Rattle.tp_parse.specs.Readers as readers
use Rattle.tp_parse.specs.Readers.{ReadOutcome, TokenReader, and_then, refuse, too_deep, sees, lower, any_name, expect, deepen}
use Rattle.tp_parse.specs.Reading.{fits}
use Rattle.tp_parse.proofs.Within.{Within, ok, err}

-- the first n tokens are the same; where a list ends before, both do
pub data Agrees : ℕ → Tokens → Tokens → Type 0 where
  unseen : {ts us : Tokens} → Agrees 0 ts us
  ended : {n : ℕ} → Agrees (suc n) [] []
  agreed : {n : ℕ} {t : Token} {ts us : Tokens} → Agrees n ts us → Agrees (suc n) (t ∷ ts) (t ∷ us)

-- a refusal that names a token after so many
abbrev PastRefusal : ℕ → Tokens → Refusal → Type 0
PastRefusal n ts (Unexpected k) = k + n ≤ length ts
PastRefusal n ts (TooDeep k) = k + n ≤ length ts
PastRefusal n ts Unfinished = Unit {0}
PastRefusal n ts NoMemory = Unit {0}

-- all of the first n tokens were taken
abbrev pub Past : {A : Type 0} → ℕ → Tokens → ReadOutcome A → Type 0
Past n ts (Ok p) = length p.1 + n ≤ length ts
Past n ts (Err e) = PastRefusal n ts e

-- two runs, over tokens of which the first n agree: one that takes them all, or runs with one answer
pub data Alike {A : Type 0} (n : ℕ) (ts us : Tokens) : ReadOutcome A → ReadOutcome A → Type 0 where
  beyond : {o p : ReadOutcome A} → Past n ts o → Alike n ts us o p
  goes : {x : A} {r s : Tokens} (k : ℕ) → 0 < k → Agrees k r s → k + length ts ≡ n + length r → length us + length r ≡ length ts + length s → Alike n ts us (Ok (x, r)) (Ok (x, s))
  unexpected : {k j : ℕ} → length us + k ≡ length ts + j → Alike n ts us (Err (Unexpected k)) (Err (Unexpected j))
  deep : {k j : ℕ} → length us + k ≡ length ts + j → Alike n ts us (Err (TooDeep k)) (Err (TooDeep j))

past_later : {B : Type 0} (n : ℕ) (ts : Tokens) {r : Tokens} {q : ReadOutcome B} → length r + n ≤ length ts → Within r q → Past n ts q
past_later n ts le (ok is) = omega arith
past_later n ts le (err {e = Unexpected k} is) = omega (arith, is.1)
past_later n ts le (err {e = TooDeep k} is) = omega (arith, is.1)
past_later n ts le (err {e = Unfinished} is) = tt
past_later n ts le (err {e = NoMemory} is) = tt

past_then : {A B : Type 0} (n : ℕ) (ts : Tokens) (o : ReadOutcome A) (f : A → TokenReader B) → Past n ts o → ((x : A) (r : Tokens) → Within r (f x r)) → Past n ts (and_then o f)
past_then n ts (Ok p) f is within = past_later n ts is (within p.0 p.1)
past_then n ts (Err e) f is within = is

-- what holds of the rest holds of the whole
pub lifted : {A : Type 0} {n k : ℕ} {ts us r s : Tokens} {q p : ReadOutcome A} → k + length ts ≡ n + length r → length us + length r ≡ length ts + length s → Alike k r s q p → Alike n ts us q p
lifted e f (beyond {o = Ok p} is) = beyond {o = Ok p} (omega (arith, is))
lifted e f (beyond {o = Err (Unexpected i)} is) = beyond {o = Err (Unexpected i)} (omega (arith, is))
lifted e f (beyond {o = Err (TooDeep i)} is) = beyond {o = Err (TooDeep i)} (omega (arith, is))
lifted e f (beyond {o = Err Unfinished} is) = beyond {o = Err Unfinished} tt
lifted e f (beyond {o = Err NoMemory} is) = beyond {o = Err NoMemory} tt
lifted e f (goes k some a g h) = goes k some a (omega arith) (omega arith)
lifted e f (unexpected g) = unexpected (omega arith)
lifted e f (deep g) = deep (omega arith)

-- one run after another, on both sides
pub both : {A B : Type 0} {n : ℕ} {ts us : Tokens} {o p : ReadOutcome A} (f g : A → TokenReader B) → Alike n ts us o p → ((x : A) (r : Tokens) → Within r (f x r))
    → ((x : A) (k : ℕ) (r s : Tokens) → o ≡ Ok (x, r) → length us + length r ≡ length ts + length s → 0 < k → Agrees k r s → Alike k r s (f x r) (g x s))
    → Alike n ts us (and_then o f) (and_then p g)
both {n = n} {ts = ts} {o = o} f g (beyond is) within next = beyond (past_then n ts o f is within)
both f g (goes {x = x} {r = r} {s = s} k some a e h) within next = lifted e h (next x k r s refl h some a)
both f g (unexpected e) within next = unexpected e
both f g (deep e) within next = deep e

-- ---- steps

-- what is read of the first token
pub record SameFirst (ts us : Tokens) : Type 0 where
  pub mark : mark ts ≡ mark us
  pub from : from ts ≡ from us
  pub number : first_number ts ≡ first_number us
  pub name : first_name ts ≡ first_name us

pub same_first : {n : ℕ} {ts us : Tokens} → 0 < n → Agrees n ts us → SameFirst ts us
unfolding mark from first_number first_name
same_first some unseen = absurd (omega arith)
same_first some ended = record { mark = refl; from = refl; number = refl; name = refl }
same_first some (agreed a) = record { mark = refl; from = refl; number = refl; name = refl }

pub refused_alike : {A : Type 0} {n : ℕ} {ts us : Tokens} → 0 < n → Agrees n ts us → Alike {A = A} n ts us (refuse ts) (refuse us)
unfolding readers.refusal
refused_alike some unseen = absurd (omega arith)
refused_alike some ended = beyond tt
refused_alike some (agreed a) = unexpected (omega arith)

pub deep_alike : {A : Type 0} {n : ℕ} {ts us : Tokens} → Agrees n ts us → Alike {A = A} n ts us (too_deep ts) (too_deep us)
deep_alike a = deep (omega arith)

pub stays_alike : {A : Type 0} {x : A} {n : ℕ} {ts us : Tokens} → 0 < n → Agrees n ts us → Alike n ts us (Ok (x, ts)) (Ok (x, us))
stays_alike {n = n} some a = goes n some a (omega arith) (omega arith)

pub took_alike : {A : Type 0} {x : A} {n : ℕ} {ts us : Tokens} → 0 < n → Agrees n ts us → Alike n ts us (Ok (x, drop 1 ts)) (Ok (x, drop 1 us))
took_alike some unseen = absurd (omega arith)
took_alike some (ended {n = n}) = goes (suc n) (omega arith) ended (omega arith) (omega arith)
took_alike some (agreed {n = zero} a) = beyond (omega arith)
took_alike some (agreed {n = suc n} a) = goes (suc n) (omega arith) a (omega arith) (omega arith)

pub passed_alike : {A : Type 0} {x : A} {n : ℕ} {ts us : Tokens} → 0 < n → Agrees n ts us → Alike n ts us (Ok (x, past ts)) (Ok (x, past us))
unfolding past mark
passed_alike some unseen = absurd (omega arith)
passed_alike {x = x} some (ended {n = n}) =
    elim (same (mark_due []) (mark [])) as (λ b. Alike (suc n) [] [] (Ok (x, cond b (drop 1 []) (left_of true []))) (Ok (x, cond b (drop 1 []) (left_of true [])))) [
      | true ↦ goes (suc n) (omega arith) ended (omega arith) (omega arith)
      | false ↦ goes (suc n) (omega arith) ended (omega arith) (omega arith)
    ]
passed_alike {x = x} some (agreed {n = n} {t = t} {ts = ts} {us = us} a) =
    elim (same (half_mark (kind_mark t.kind)) (kind_mark t.kind)) as (λ b. Alike (suc n) (t ∷ ts) (t ∷ us) (Ok (x, cond b (drop 1 (t ∷ ts)) (left_of true (t ∷ ts)))) (Ok (x, cond b (drop 1 (t ∷ us)) (left_of true (t ∷ us))))) [
      | true ↦ took_alike some (agreed a)
      | false ↦ goes (suc n) some (agreed a) (omega arith) (omega arith)
    ]

pub chosen_alike : {A : Type 0} {n : ℕ} {ts us : Tokens} {x y z w : ReadOutcome A} (b c : Bool) → b ≡ c → Alike n ts us x z → Alike n ts us y w → Alike n ts us (cond b x y) (cond c z w)
chosen_alike true true e p q = p
chosen_alike false false e p q = q
chosen_alike true false e p q = absurd cc
chosen_alike false true e p q = absurd cc

-- after the next token was taken
pub after_take : {A : Type 0} {n : ℕ} {ts us : Tokens} {q p : ReadOutcome A} → 0 < n → Agrees n ts us → Within (drop 1 ts) q
    → ((k : ℕ) → 0 < k → Agrees k (drop 1 ts) (drop 1 us) → length us + length (drop 1 ts) ≡ length ts + length (drop 1 us) → Alike k (drop 1 ts) (drop 1 us) q p) → Alike n ts us q p
after_take some unseen within next = absurd (omega arith)
after_take some (ended {n = n}) within next = next (suc n) some ended (omega arith)
after_take some (agreed {n = zero} {t = t} {ts = ts} a) within next = beyond (past_later 1 (t ∷ ts) {r = ts} (omega arith) within)
after_take some (agreed {n = suc n} {ts = ts} {us = us} a) within next = lifted {r = ts} {s = us} (omega arith) (omega arith) (next (suc n) (omega arith) a (omega arith))

pub expected_alike : (x : TokenMark) {n : ℕ} {ts us : Tokens} → 0 < n → Agrees n ts us → Alike n ts us (expect x ts) (expect x us)
unfolding expect
expected_alike x {ts = ts} {us = us} some a = chosen_alike (same (mark_due ts) x) (same (mark_due us) x) (ap (λ q. same (half_mark q) x) (same_first some a).mark) (passed_alike some a) (refused_alike some a)

pub deepened_alike : (room : ℕ) {n : ℕ} {ts us : Tokens} → 0 < n → Agrees n ts us → Alike n ts us (deepen room ts) (deepen room us)
unfolding deepen
deepened_alike zero some a = deep_alike a
deepened_alike (suc k) some a = stays_alike some a

pub fitted_alike : (room left : ℕ) {n : ℕ} {ts us : Tokens} → 0 < n → Agrees n ts us → Alike n ts us (fits room left ts) (fits room left us)
unfolding fits
fitted_alike zero left some a = deep_alike a
fitted_alike (suc k) left some a = chosen_alike (leb left (suc k)) (leb left (suc k)) refl (stays_alike some a) (deep_alike a)

pub saw_alike : (x : TokenMark) {n : ℕ} {ts us : Tokens} → 0 < n → Agrees n ts us → sees x ts ≡ sees x us
saw_alike x some a = ap (λ q. same q x) (same_first some a).mark

pub took_name_alike : {n : ℕ} {ts us : Tokens} → 0 < n → Agrees n ts us → Alike n ts us (Ok (first_name ts, drop 1 ts)) (Ok (first_name us, drop 1 us))
took_name_alike {n} {ts} {us} some a = subst (λ (q : List ℕ). Alike n ts us (Ok (first_name ts, drop 1 ts)) (Ok (q, drop 1 us))) (same_first some a).name (took_alike some a)

pub lowered_alike : {n : ℕ} {ts us : Tokens} → 0 < n → Agrees n ts us → Alike n ts us (lower ts) (lower us)
unfolding lower
lowered_alike {ts = ts} {us = us} some a = chosen_alike (sees m.Lower ts) (sees m.Lower us) (saw_alike m.Lower some a) (took_name_alike some a) (refused_alike some a)

pub any_named_alike : {n : ℕ} {ts us : Tokens} → 0 < n → Agrees n ts us → Alike n ts us (any_name ts) (any_name us)
unfolding any_name
any_named_alike {ts = ts} {us = us} some a =
    chosen_alike (sees m.Upper ts || sees m.Lower ts) (sees m.Upper us || sees m.Lower us) (ap (λ q. same q m.Upper || same q m.Lower) (same_first some a).mark) (took_name_alike some a) (refused_alike some a)
