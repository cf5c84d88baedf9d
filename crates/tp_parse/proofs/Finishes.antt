-- A phrase whose reading came to the end of the tokens, or found no room at the last one, can be finished.
use Rattle.std.proofs.Common.{◌≡◌, ◌≢◌, ℕ, zero, suc, ◌<◌, ◌≤◌, true, false, cond, leb, ◌⊎◌, inl, inr, List, [], ◌∷◌, ◌++◌, length, drop, Ok, Err, refl, sym, ap, subst, ◌∙◌, arith}
use Rattle.std.proofs.lemmas.Bool.{leb-true}
use Rattle.std.proofs.Common.{◌||◌}
use Rattle.tp_lex.specs.declared.token.Token.{Token}
use Rattle.tp_lex.specs.declared.token.Symbol.TheVariants as symbol
use Rattle.tp_parse.specs.declared.stop.Refusal.{Refusal}
use Rattle.tp_parse.specs.declared.stop.Refusal.TheVariants.{Unexpected, Unfinished, TooDeep, NoMemory}
use Rattle.tp_parse.specs.declared.mark.TokenMark.{TokenMark}
use Rattle.tp_parse.specs.declared.mark.TokenMark.TheVariants as m
use Rattle.tp_parse.specs.declared.mark.Start.{Start}
use Rattle.tp_parse.specs.declared.mark.Start.TheVariants as s
use Rattle.tp_parse.specs.declared.head.Atom.TheVariants as a
use Rattle.tp_parse.specs.declared.head.PrimaryHead.{PrimaryHead}
use Rattle.tp_parse.specs.declared.head.PrimaryHead.TheVariants as h
use Rattle.tp_parse.specs.declared.head.Listed.TheVariants as l
use Rattle.tp_parse.specs.declared.head.Pair.{Pair}
use Rattle.tp_parse.specs.declared.head.Pair.TheVariants as p
use Rattle.tp_tree.specs.declared.operator.Form.{Form}
use Rattle.tp_parse.specs.Marks.{same, start_of, comma, Tokens, mark, first_name, mark_due, past}
use Rattle.tp_parse.specs.Readers as readers
use Rattle.tp_parse.specs.Readers.{ReadOutcome, TokenReader, and_then, ◌>>=◌, pure, sees, lower, any_name, names, names_from, expect, deepen}
use Rattle.tp_parse.specs.Head.{name_or_call, counter, head_by, is_high, admit, begins}
use Rattle.tp_parse.specs.Reading.{fits}
use Rattle.tp_parse.specs.Grammar as g
use Rattle.tp_parse.specs.Grammar.{ReadsNames, BeginsPrimary, Parses, Goes, Others, Listing}
use Rattle.tp_parse.proofs.Marks.{same_is}
use Rattle.tp_parse.proofs.Heads.{ok_is, chosen, lower_then, IsName, any_name_then, names_sound}
use Rattle.tp_parse.proofs.Extended.{mark_on, names_on}
use Rattle.tp_parse.proofs.Fresh.{symbol_token, name_token, lower_token, past_whole, HeadRoom}

-- the tokens ended, or the last one found no room
abbrev pub Ended : Refusal → Type 0
Ended Unfinished = Unit {0}
Ended (TooDeep n) = n ≤ 1
Ended (Unexpected n) = ⊥
Ended NoMemory = ⊥

abbrev pub failed : {A : Type 0} → Refusal → ReadOutcome A
failed e = Err e

pub failed_is : {A : Type 0} (d e : Refusal) → failed {A = A} d ≡ Err e → d ≡ e
failed_is d e is = cc

pub bind_err : {A B : Type 0} (o : ReadOutcome A) (f : A → TokenReader B) (e : Refusal) → and_then o f ≡ Err e
    → (o ≡ Err e) ⊎ ((q : A × Tokens) × (o ≡ Ok q) × (f q.0 q.1 ≡ Err e))
bind_err (Ok q) f e is = inr (q, refl, is)
bind_err (Err d) f e is = let same : d ≡ e = cc in inl (ap failed same)

refusal_ends : (ts : Tokens) → Ended (readers.refusal ts) → ts ≡ []
unfolding readers.refusal
refusal_ends [] end = refl
refusal_ends (t ∷ ts) end = absurd end

pub refused_end : {A : Type 0} (ts : Tokens) (e : Refusal) → failed {A = A} (readers.refusal ts) ≡ Err e → Ended e → ts ≡ []
refused_end ts e is end = refusal_ends ts (subst Ended (sym (failed_is _ e is)) end)

pub expect_err : (x : TokenMark) (ts : Tokens) (e : Refusal) → expect x ts ≡ Err e → Ended e → ts ≡ []
unfolding expect
expect_err x ts e is end = elim (chosen (same (mark_due ts) x) _ _ _ is) [ inl w ↦ absurd cc | inr w ↦ refused_end ts e w.1 end ]

pub lower_err : (ts : Tokens) (e : Refusal) → lower ts ≡ Err e → Ended e → ts ≡ []
unfolding lower
lower_err ts e is end = elim (chosen (sees m.Lower ts) _ _ _ is) [ inl w ↦ absurd cc | inr w ↦ refused_end ts e w.1 end ]

any_name_err : (ts : Tokens) (e : Refusal) → any_name ts ≡ Err e → Ended e → ts ≡ []
unfolding any_name
any_name_err ts e is end = elim (chosen (sees m.Upper ts || sees m.Lower ts) _ _ _ is) [ inl w ↦ absurd cc | inr w ↦ refused_end ts e w.1 end ]

-- there is one token, and no room for what follows it
abbrev pub Last : Tokens → Refusal → Type 0
Last ts e = (t : Token) × (ts ≡ t ∷ []) × (e ≢ Unfinished)

pub deep_last : {A : Type 0} (ts : Tokens) (e : Refusal) → failed {A = A} (TooDeep (length ts)) ≡ Err e → Ended e → 0 < length ts → Last ts e
deep_last [] e is end some = absurd (omega arith)
deep_last (t ∷ []) e is end some = (t, refl, λ u. let same = failed_is _ e is in cc)
deep_last (t ∷ u ∷ ts) e is end some = let one : length (t ∷ u ∷ ts) ≤ 1 = subst Ended (sym (failed_is _ e is)) end in absurd (omega arith)

pub deepen_err : (room : ℕ) (ts : Tokens) (e : Refusal) → deepen room ts ≡ Err e → failed {A = Unit {0}} (TooDeep (length ts)) ≡ Err e
unfolding deepen
deepen_err zero ts e is = is
deepen_err (suc n) ts e is = absurd cc

pub deepen_room : (room : ℕ) (ts : Tokens) (q : Unit {0} × Tokens) → deepen room ts ≡ Ok q → (0 < room) × (q.1 ≡ ts)
unfolding deepen
deepen_room zero ts q is = absurd cc
deepen_room (suc n) ts q is = (omega arith, ap (λ (z : Unit {0} × Tokens). z.1) (sym (ok_is (tt, ts) q is)))

pub fits_err : (room left : ℕ) (ts : Tokens) (e : Refusal) → fits room left ts ≡ Err e → failed {A = Unit {0}} (TooDeep (length ts)) ≡ Err e
unfolding fits
fits_err zero left ts e is = is
fits_err (suc n) left ts e is = elim (chosen (leb left (suc n)) _ _ _ is) [ inl w ↦ absurd cc | inr w ↦ w.1 ]

pub fits_room : (room left : ℕ) (ts : Tokens) (q : Unit {0} × Tokens) → fits room left ts ≡ Ok q → (0 < room) × (left ≤ room) × (q.1 ≡ ts)
unfolding fits
fits_room zero left ts q is = absurd cc
fits_room (suc n) left ts q is = elim (chosen (leb left (suc n)) _ _ _ is) [
  | inl w ↦ (omega arith, leb-true _ _ w.0, ap (λ (z : Unit {0} × Tokens). z.1) (sym (ok_is (tt, ts) q w.1)))
  | inr w ↦ absurd cc
]

pub admit_err : (room : ℕ) (x : Start) (ts : Tokens) (e : Refusal) → admit room x ts ≡ Err e → (is_high x ≡ true) × (failed {A = Unit {0}} (TooDeep (length ts)) ≡ Err e)
unfolding admit
admit_err room x ts e is = elim (is_high x) as (λ b. is_high x ≡ b → cond b (deepen room) (pure tt) ts ≡ Err e → (is_high x ≡ true) × (failed {A = Unit {0}} (TooDeep (length ts)) ≡ Err e)) [
  | true ↦ λ high w. (high, deepen_err room ts e w)
  | false ↦ λ high w. absurd cc
] refl is

pub admit_room : (room : ℕ) (x : Start) (ts : Tokens) (q : Unit {0} × Tokens) → admit room x ts ≡ Ok q → (is_high x ≡ true → 0 < room) × (q.1 ≡ ts)
unfolding admit
admit_room room x ts q is = elim (is_high x) as (λ b. is_high x ≡ b → cond b (deepen room) (pure tt) ts ≡ Ok q → (is_high x ≡ true → 0 < room) × (q.1 ≡ ts)) [
  | true ↦ λ high w. let got = deepen_room room ts q w in (λ z. got.0, got.1)
  | false ↦ λ high w. (λ z. absurd cc, ap (λ (z : Unit {0} × Tokens). z.1) (sym (ok_is (tt, ts) q w)))
] refl is

-- ---- names and heads

-- names that are finished by one more
abbrev pub NamesEnding : Tokens → Type 0
NamesEnding ts = (xs : List (List ℕ)) × ((ys : Tokens) → mark ys ≢ comma → ReadsNames (ts ++ name_token ∷ ys) xs ys)

named_one : (ts : Tokens) → ts ≡ [] → NamesEnding ts
unfolding mark first_name
named_one [] e = ((65 ∷ []) ∷ [], λ ys other. g.last_name {ts = name_token ∷ ys} (inl refl) other)
named_one (t ∷ ts) e = absurd cc

named_then : (t u : Token) (us : Tokens) → IsName (t ∷ u ∷ us) → mark (u ∷ us) ≡ comma → NamesEnding us → NamesEnding (t ∷ u ∷ us)
unfolding mark first_name
named_then t u us n at more = (first_name (t ∷ u ∷ us) ∷ more.0, λ ys other. g.name_then {ts = t ∷ u ∷ us ++ name_token ∷ ys} n at (more.1 ys other))

named_is : (ts : Tokens) (q : List ℕ × Tokens) → any_name ts ≡ Ok q → IsName ts × (q.1 ≡ drop 1 ts)
named_is ts q e =
    let got = any_name_then ts (λ x us. Ok (x, us)) q (ap (λ o. and_then o (λ x us. Ok (x, us))) e) in
    (got.0, ap (λ (z : List ℕ × Tokens). z.1) (sym (ok_is (first_name ts, drop 1 ts) q got.1)))

names_from_finish : (n : ℕ) (xs : List (List ℕ)) (ts : Tokens) (e : Refusal) → IsName ts → names_from n xs (drop 1 ts) ≡ Err e → Ended e → NamesEnding ts
unfolding names_from mark
names_from_finish zero xs ts e is w end = absurd cc
names_from_finish (suc n) xs [] e (inl is) w end = absurd cc
names_from_finish (suc n) xs [] e (inr is) w end = absurd cc
names_from_finish (suc n) xs (t ∷ []) e is w end = elim (chosen (sees comma []) _ _ _ w) [ inl v ↦ let at = same_is _ _ v.0 in absurd cc | inr v ↦ absurd cc ]
names_from_finish (suc n) xs (t ∷ u ∷ us) e is w end =
    elim (chosen (sees comma (u ∷ us)) _ _ _ w) [
      | inl v ↦
          let at = same_is _ _ v.0 in
          elim (bind_err (any_name us) _ e v.1) [
            | inl z ↦ named_then t u us is at (named_one us (any_name_err us e z end))
            | inr z ↦
                let got = named_is us z.0 z.1 in
                let later : names_from n (xs ++ z.0.0 ∷ []) (drop 1 us) ≡ Err e = subst (λ vs. names_from n (xs ++ z.0.0 ∷ []) vs ≡ Err e) got.1 z.2 in
                named_then t u us is at (names_from_finish n (xs ++ z.0.0 ∷ []) us e got.0 later end)
          ]
      | inr v ↦ absurd cc
    ]

pub names_finish : (ts : Tokens) (e : Refusal) → names ts ≡ Err e → Ended e → NamesEnding ts
unfolding names
names_finish ts e is end =
    elim (bind_err (any_name ts) _ e is) [
      | inl w ↦ named_one ts (any_name_err ts e w end)
      | inr w ↦
          let got = named_is ts w.0 w.1 in
          names_from_finish (length w.0.1) (w.0.0 ∷ []) ts e got.0 (subst (λ us. names_from (length w.0.1) (w.0.0 ∷ []) us ≡ Err e) got.1 w.2) end
    ]

-- what finishes a head
pub record HeadEnding (x : Start) (ts : Tokens) : Type 0 where
  pub head : PrimaryHead
  pub next : Tokens → Tokens
  pub begun : (ys : Tokens) → BeginsPrimary (ts ++ next ys) head ys
  pub room : (n : ℕ) → (is_high x ≡ true → 0 < n) → HeadRoom n head

none_yet : (x : Start) (ts : Tokens) → ts ≡ [] → HeadEnding x ts
unfolding mark first_name
none_yet x [] e = record { head = h.Atom (a.Name (65 ∷ [])); next = λ ys. name_token ∷ ys; begun = λ ys. g.upper_name {ts = name_token ∷ ys} refl; room = λ n r. tt }
none_yet x (t ∷ ts) e = absurd cc

form_open : (ts : Tokens) (f : Form) → start_of (mark ts) ≡ s.Form f → drop 1 ts ≡ [] → HeadEnding (s.Form f) ts
unfolding mark
form_open [] f at none = absurd cc
form_open (t ∷ []) f at none =
    let round = symbol_token symbol.OpenRound in
    record {
      head = h.Listed (l.Form f);
      next = λ ys. round ∷ ys;
      begun = λ ys. subst (λ us. BeginsPrimary (t ∷ round ∷ ys) (h.Listed (l.Form f)) us) (past_whole round ys refl) (g.form {ts = t ∷ round ∷ ys} at refl);
      room = λ n r. tt;
    }
form_open (t ∷ u ∷ us) f at none = absurd cc

-- a loop's variable and the `<` after it
pub record Counted (ts : Tokens) (x : List ℕ) (ys : Tokens) : Type 0 where
  pub variable : mark (drop 1 ts) ≡ m.Lower
  pub less : mark_due (drop 1 (drop 1 ts)) ≡ m.Symbol symbol.Less
  pub name : first_name (drop 1 ts) ≡ x
  pub rest : past (drop 1 (drop 1 ts)) ≡ ys

abbrev CounterEnding : Tokens → Type 0
CounterEnding ts = (x : List ℕ) × (next : Tokens → Tokens) × ((ys : Tokens) → Counted (ts ++ next ys) x ys)

no_variable : (ts : Tokens) → 0 < length ts → drop 1 ts ≡ [] → CounterEnding ts
unfolding mark first_name
no_variable [] some none = absurd (omega arith)
no_variable (t ∷ []) some none =
    let less = symbol_token symbol.Less in
    (97 ∷ [], λ ys. lower_token ∷ less ∷ ys, λ ys. record { variable = refl; less = refl; name = refl; rest = past_whole less ys refl })
no_variable (t ∷ u ∷ us) some none = absurd cc

no_less : (ts : Tokens) → mark (drop 1 ts) ≡ m.Lower → drop 1 (drop 1 ts) ≡ [] → CounterEnding ts
unfolding mark first_name
no_less [] at none = absurd cc
no_less (t ∷ []) at none = absurd cc
no_less (t ∷ u ∷ []) at none =
    let less = symbol_token symbol.Less in
    (first_name (u ∷ []), λ ys. less ∷ ys, λ ys. record { variable = at; less = refl; name = refl; rest = past_whole less ys refl })
no_less (t ∷ u ∷ v ∷ us) at none = absurd cc

lower_ok : (ts : Tokens) (q : List ℕ × Tokens) → lower ts ≡ Ok q → (mark ts ≡ m.Lower) × (q.1 ≡ drop 1 ts)
lower_ok ts q e =
    let got = lower_then ts (λ x us. Ok (x, us)) q (ap (λ o. and_then o (λ x us. Ok (x, us))) e) in
    (got.0, ap (λ (z : List ℕ × Tokens). z.1) (sym (ok_is (first_name ts, drop 1 ts) q got.1)))

counter_finish : (ts : Tokens) (e : Refusal) → 0 < length ts → counter ts ≡ Err e → Ended e → CounterEnding ts
unfolding counter
counter_finish ts e some is end =
    elim (bind_err (lower (drop 1 ts)) _ e is) [
      | inl w ↦ no_variable ts some (lower_err (drop 1 ts) e w end)
      | inr w ↦
          let got = lower_ok (drop 1 ts) w.0 w.1 in
          elim (bind_err (expect (m.Symbol symbol.Less) w.0.1) _ e w.2) [
            | inl v ↦ no_less ts got.0 (sym got.1 ∙ expect_err (m.Symbol symbol.Less) w.0.1 e v end)
            | inr v ↦ absurd cc
          ]
    ]

-- the head of a loop that counts, from what finishes it
abbrev Counting : (List ℕ → Pair) → Start → Type 0
Counting pair x = (ts : Tokens) → start_of (mark ts) ≡ x → mark (drop 1 ts) ≡ m.Lower → mark_due (drop 1 (drop 1 ts)) ≡ m.Symbol symbol.Less
    → BeginsPrimary ts (h.Paired (pair (first_name (drop 1 ts)))) (past (drop 1 (drop 1 ts)))

counting : (pair : List ℕ → Pair) (x : Start) (ts : Tokens) → Counting pair x → is_high x ≡ true → start_of (mark ts) ≡ x → 0 < length ts → CounterEnding ts → HeadEnding x ts
counting pair x ts begins high at some c = record {
  head = h.Paired (pair c.0);
  next = c.1;
  begun = λ ys.
      let all = ts ++ c.1 ys in
      let made = c.2 ys in
      let begun = begins all (ap start_of (mark_on ts (c.1 ys) some) ∙ at) made.variable made.less in
      subst (λ us. BeginsPrimary all (h.Paired (pair c.0)) us) made.rest (subst (λ n. BeginsPrimary all (h.Paired (pair n)) (past (drop 1 (drop 1 all)))) made.name begun);
  room = λ n r. r high;
}

pub some_start : (ts : Tokens) → start_of (mark ts) ≢ s.Nothing → 0 < length ts
unfolding mark
some_start [] real = absurd (real refl)
some_start (t ∷ ts) real = omega arith

bound : (ts : Tokens) (xs : List (List ℕ)) (next : Tokens → Tokens) → start_of (mark ts) ≡ s.Exists
    → ((ys : Tokens) → ReadsNames (drop 1 ts ++ next (symbol_token symbol.Colon ∷ ys)) xs (symbol_token symbol.Colon ∷ ys)) → HeadEnding s.Exists ts
unfolding mark
bound [] xs next at names = absurd cc
bound (t ∷ us) xs next at names =
    let colon = symbol_token symbol.Colon in
    record {
      head = h.Exists xs;
      next = λ ys. next (colon ∷ ys);
      begun = λ ys. subst (λ zs. BeginsPrimary (t ∷ us ++ next (colon ∷ ys)) (h.Exists xs) zs) (past_whole colon ys refl) (g.exists {ts = t ∷ us ++ next (colon ∷ ys)} {mid = colon ∷ ys} at (names ys) refl);
      room = λ n r. r refl;
    }

exists_finish : (ts : Tokens) (e : Refusal) → start_of (mark ts) ≡ s.Exists → head_by s.Exists ts ≡ Err e → Ended e → HeadEnding s.Exists ts
unfolding mark
exists_finish ts e at is end =
    elim (bind_err (names (drop 1 ts)) _ e is) [
      | inl w ↦ let more = names_finish (drop 1 ts) e w end in bound ts more.0 (λ zs. name_token ∷ zs) at (λ ys. more.1 (symbol_token symbol.Colon ∷ ys) (λ q. cc))
      | inr w ↦
          elim (bind_err (expect (m.Symbol symbol.Colon) w.0.1) _ e w.2) [
            | inl v ↦
                let none = expect_err (m.Symbol symbol.Colon) w.0.1 e v end in
                let read = names_sound (drop 1 ts) w.0 w.1 in
                bound ts w.0.0 (λ zs. zs) at (λ ys.
                let colon = symbol_token symbol.Colon in
                subst (λ us. ReadsNames (drop 1 ts ++ colon ∷ ys) w.0.0 (us ++ colon ∷ ys)) none (names_on (colon ∷ ys) read (λ z q. absurd cc)))
            | inr v ↦ absurd cc
          ]
    ]

pub head_finish : (x : Start) (ts : Tokens) (e : Refusal) → start_of (mark ts) ≡ x → head_by x ts ≡ Err e → Ended e → HeadEnding x ts
unfolding name_or_call
head_finish s.Nothing ts e at is end = none_yet s.Nothing ts (refused_end ts e is end)
head_finish s.Number ts e at is end = absurd cc
head_finish s.Name ts e at is end = absurd cc
head_finish s.NameOrCall ts e at is end = elim (chosen (sees (m.Symbol symbol.OpenRound) (drop 1 ts)) _ _ _ is) [ inl w ↦ absurd cc | inr w ↦ absurd cc ]
head_finish (s.Truth b) ts e at is end = absurd cc
head_finish (s.Bare w) ts e at is end = absurd cc
head_finish s.EmptyList ts e at is end = absurd cc
head_finish s.List ts e at is end = absurd cc
head_finish (s.Form f) ts e at is end = elim (bind_err (expect (m.Symbol symbol.OpenRound) (drop 1 ts)) _ e is) [
  | inl w ↦ form_open ts f at (expect_err (m.Symbol symbol.OpenRound) (drop 1 ts) e w end)
  | inr w ↦ absurd cc
]
head_finish (s.Enclosed x) ts e at is end = absurd cc
head_finish s.If ts e at is end = absurd cc
head_finish s.While ts e at is end = absurd cc
head_finish s.Repeat ts e at is end = absurd cc
head_finish s.For ts e at is end = elim (bind_err (counter ts) _ e is) [
  | inl w ↦ let some = some_start ts (λ q. absurd cc) in counting p.For s.For ts (λ us f n d. g.for f n d) refl at some (counter_finish ts e some w end)
  | inr w ↦ absurd cc
]
head_finish s.Forall ts e at is end = elim (bind_err (counter ts) _ e is) [
  | inl w ↦ let some = some_start ts (λ q. absurd cc) in counting p.Forall s.Forall ts (λ us f n d. g.forall f n d) refl at some (counter_finish ts e some w end)
  | inr w ↦ absurd cc
]
head_finish s.Exists ts e at is end = exists_finish ts e at is end
