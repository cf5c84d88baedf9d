-- The steps of readers, backwards and forwards, and what primaries begin with.
use Rattle.std.proofs.Common.{◌≡◌, ℕ, zero, suc, ◌<◌, ◌≤◌, Bool, true, false, cond, ◌||◌, ◌⊎◌, inl, inr, leb, List, [], ◌∷◌, ◌++◌, length, drop, Ok, Err, refl, sym, ap, subst, ◌∙◌, arith, append_assoc}
use Rattle.std.proofs.lemmas.Bool.{leb-true, le-leb}
use Rattle.tp_lex.specs.declared.token.Symbol.TheVariants as symbol
use Rattle.tp_parse.specs.declared.stop.Refusal.{Refusal}
use Rattle.tp_parse.specs.declared.mark.TokenMark.{TokenMark}
use Rattle.tp_parse.specs.declared.mark.TokenMark.TheVariants as m
use Rattle.tp_parse.specs.declared.mark.Start.{Start}
use Rattle.tp_parse.specs.declared.mark.Start.TheVariants as s
use Rattle.tp_parse.specs.declared.head.PrimaryHead.{PrimaryHead}
use Rattle.tp_parse.specs.Marks.{same, start_of, comma, Tokens, mark, mark_due, past, first_name}
use Rattle.tp_parse.specs.Readers as readers
use Rattle.tp_parse.specs.Readers.{ReadOutcome, TokenReader, and_then, ◌>>=◌, pure, sees, taken_name, lower, any_name, names, names_from, expect, deepen}
use Rattle.tp_parse.specs.Head.{name_or_call, counter, head_by, is_high, admit}
use Rattle.tp_parse.specs.Reading.{fits}
use Rattle.tp_parse.specs.Grammar.{ReadsNames, last_name, name_then, BeginsPrimary, number, truth, upper_name, lower_name, call, bare, form, empty_list, list, enclosure, if, while, repeat, for, forall, exists}
use Rattle.tp_parse.proofs.Marks.{same_is, same_not, same_yes, same_no}
use Rattle.tp_parse.proofs.Shapes.{taken, dropped}

pub bind_ok : {A B : Type 0} (r : ReadOutcome A) (f : A → TokenReader B) (y : B × Tokens) → and_then r f ≡ Ok y → (q : A × Tokens) × (r ≡ Ok q) × (f q.0 q.1 ≡ Ok y)
bind_ok (Ok q) f y e = (q, refl, e)
bind_ok (Err d) f y e = absurd cc

abbrev pub fine : {A : Type 0} → A × Tokens → ReadOutcome A
fine x = Ok x

pub ok_is : {A : Type 0} (x y : A × Tokens) → fine x ≡ fine y → x ≡ y
ok_is x y e = cc

pub chosen : {X : Type 0} (b : Bool) (x y z : X) → cond b x y ≡ z → ((b ≡ true) × (x ≡ z)) ⊎ ((b ≡ false) × (y ≡ z))
chosen true x y z e = inl (refl, e)
chosen false x y z e = inr (refl, e)

pub chosen_at : {X Y : Type 0} (b : Bool) (f g : X → Y) (x : X) (z : Y) → cond b f g x ≡ z → ((b ≡ true) × (f x ≡ z)) ⊎ ((b ≡ false) × (g x ≡ z))
chosen_at true f g x z e = inl (refl, e)
chosen_at false f g x z e = inr (refl, e)

-- where a test fails, the refusal is the answer
gate : {A B : Type 0} (b : Bool) (x : A × Tokens) (d : Refusal) (f : A → TokenReader B) (y : B × Tokens) → and_then (cond b (Ok x) (Err d)) f ≡ Ok y → (b ≡ true) × (f x.0 x.1 ≡ Ok y)
gate true x d f y e = (refl, e)
gate false x d f y e = absurd cc

passes : {A : Type 0} (b : Bool) (x : A × Tokens) (d : Refusal) (y : A × Tokens) → cond b (Ok x) (Err d) ≡ Ok y → (b ≡ true) × (x ≡ y)
passes true x d y e = (refl, cc)
passes false x d y e = absurd cc

pub expect_then : {B : Type 0} (x : TokenMark) (ts : Tokens) (f : Unit {0} → TokenReader B) (y : B × Tokens) → and_then (expect x ts) f ≡ Ok y → (mark_due ts ≡ x) × (f tt (past ts) ≡ Ok y)
unfolding expect
expect_then x ts f y e = let g = gate (same (mark_due ts) x) (tt, past ts) _ f y e in (same_is _ _ g.0, g.1)

pub expect_is : (x : TokenMark) (ts : Tokens) → mark_due ts ≡ x → expect x ts ≡ Ok (tt, past ts)
unfolding expect
expect_is x ts e = rw (same_yes (mark_due ts) x e) refl

pub deepen_then : {B : Type 0} (room : ℕ) (ts : Tokens) (f : Unit {0} → TokenReader B) (y : B × Tokens) → and_then (deepen room ts) f ≡ Ok y → f tt ts ≡ Ok y
unfolding deepen
deepen_then zero ts f y e = absurd cc
deepen_then (suc n) ts f y e = e

pub deepen_is : (room : ℕ) (ts : Tokens) → 0 < room → deepen room ts ≡ Ok (tt, ts)
unfolding deepen
deepen_is zero ts some = absurd (omega arith)
deepen_is (suc n) ts some = refl

pub fits_then : {B : Type 0} (room left : ℕ) (ts : Tokens) (f : Unit {0} → TokenReader B) (y : B × Tokens) → and_then (fits room left ts) f ≡ Ok y → (left ≤ room) × (f tt ts ≡ Ok y)
unfolding fits
fits_then zero left ts f y e = absurd cc
fits_then (suc n) left ts f y e = let g = gate (leb left (suc n)) (tt, ts) _ f y e in (leb-true _ _ g.0, g.1)

pub fits_is : (room left : ℕ) (ts : Tokens) → 0 < room → left ≤ room → fits room left ts ≡ Ok (tt, ts)
unfolding fits
fits_is zero left ts some low = absurd (omega arith)
fits_is (suc n) left ts some low = rw (le-leb left (suc n) low) refl

pub admit_then : {B : Type 0} (room : ℕ) (x : Start) (ts : Tokens) (f : Unit {0} → TokenReader B) (y : B × Tokens) → and_then (admit room x ts) f ≡ Ok y → f tt ts ≡ Ok y
unfolding admit
admit_then room x ts f y e = elim (is_high x) as (λ b. and_then (cond b (deepen room) (pure tt) ts) f ≡ Ok y → f tt ts ≡ Ok y) [ true ↦ λ q. deepen_then room ts f y q | false ↦ λ q. q ] e

pub admit_is : (room : ℕ) (x : Start) (ts : Tokens) → (is_high x ≡ true → 0 < room) → admit room x ts ≡ Ok (tt, ts)
unfolding admit
admit_is room x ts some = elim (is_high x) as (λ b. (b ≡ true → 0 < room) → cond b (deepen room) (pure tt) ts ≡ Ok (tt, ts)) [ true ↦ λ q. deepen_is room ts (q refl) | false ↦ λ q. refl ] some

-- ---- names

abbrev pub IsName : Tokens → Type 0
IsName ts = (mark ts ≡ m.Upper) ⊎ (mark ts ≡ m.Lower)

or_is : (b c : Bool) → (b || c) ≡ true → (b ≡ true) ⊎ (c ≡ true)
or_is true c e = inl refl
or_is false c e = inr e

pub any_name_then : {B : Type 0} (ts : Tokens) (f : List ℕ → TokenReader B) (y : B × Tokens) → and_then (any_name ts) f ≡ Ok y → IsName ts × (f (first_name ts) (drop 1 ts) ≡ Ok y)
unfolding any_name
any_name_then ts f y e =
    let g = gate (sees m.Upper ts || sees m.Lower ts) (first_name ts, drop 1 ts) _ f y e in
    (elim (or_is (sees m.Upper ts) (sees m.Lower ts) g.0) [ inl q ↦ inl (same_is _ _ q) | inr q ↦ inr (same_is _ _ q) ], g.1)

pub any_name_is : (ts : Tokens) → IsName ts → any_name ts ≡ Ok (first_name ts, drop 1 ts)
unfolding any_name
any_name_is ts (inl e) = rw (same_yes (mark ts) m.Upper e) refl
any_name_is ts (inr e) = elim (sees m.Upper ts) as (λ b. cond (b || sees m.Lower ts) (taken_name ts) (Err (readers.refusal ts)) ≡ Ok (first_name ts, drop 1 ts)) [
  | true ↦ refl
  | false ↦ rw (same_yes (mark ts) m.Lower e) refl
]

pub lower_then : {B : Type 0} (ts : Tokens) (f : List ℕ → TokenReader B) (y : B × Tokens) → and_then (lower ts) f ≡ Ok y → (mark ts ≡ m.Lower) × (f (first_name ts) (drop 1 ts) ≡ Ok y)
unfolding lower
lower_then ts f y e = let g = gate (sees m.Lower ts) (first_name ts, drop 1 ts) _ f y e in (same_is _ _ g.0, g.1)

pub lower_is : (ts : Tokens) → mark ts ≡ m.Lower → lower ts ≡ Ok (first_name ts, drop 1 ts)
unfolding lower
lower_is ts e = rw (same_yes (mark ts) m.Lower e) refl

names_from_sound : (n : ℕ) (xs : List (List ℕ)) (ts : Tokens) (q : List (List ℕ) × Tokens) → IsName ts → length (drop 1 ts) ≤ n
    → names_from n (xs ++ first_name ts ∷ []) (drop 1 ts) ≡ Ok q → (ys : List (List ℕ)) × ReadsNames ts ys q.1 × (q.0 ≡ xs ++ ys)
unfolding names_from
names_from_sound zero xs ts q n few e =
    let is = ok_is (xs ++ first_name ts ∷ [], drop 1 ts) q e in
    let end = last_name n (λ at. absurd (omega (arith, taken (drop 1 ts) _ at (λ w. cc)))) in
    (first_name ts ∷ [], subst (λ (z : List (List ℕ) × Tokens). ReadsNames ts (first_name ts ∷ []) z.1) is end, ap (λ (z : List (List ℕ) × Tokens). z.0) (sym is))
names_from_sound (suc k) xs ts q n few e =
    elim (chosen (sees comma (drop 1 ts)) _ _ _ e) [
      | inl w ↦
          let at = same_is _ _ w.0 in
          let one = any_name_then (drop 1 (drop 1 ts)) _ q w.1 in
          let shorter = taken (drop 1 ts) _ at (λ z. cc) in
          let others = names_from_sound k (xs ++ first_name ts ∷ []) (drop 1 (drop 1 ts)) q one.0 (omega (arith, dropped (drop 1 (drop 1 ts)))) one.1 in
          (first_name ts ∷ others.0, name_then n at others.1, others.2 ∙ append_assoc xs (first_name ts ∷ []) others.0)
      | inr w ↦
          let is = ok_is (xs ++ first_name ts ∷ [], drop 1 ts) q w.1 in
          let end = last_name n (same_not _ _ w.0) in
          (first_name ts ∷ [], subst (λ (z : List (List ℕ) × Tokens). ReadsNames ts (first_name ts ∷ []) z.1) is end, ap (λ (z : List (List ℕ) × Tokens). z.0) (sym is))
    ]

pub names_sound : (ts : Tokens) (q : List (List ℕ) × Tokens) → names ts ≡ Ok q → ReadsNames ts q.0 q.1
unfolding names
names_sound ts q e =
    let one = any_name_then ts _ q e in
    let all = names_from_sound (length (drop 1 ts)) [] ts q one.0 (omega arith) one.1 in
    subst (λ (z : List (List ℕ)). ReadsNames ts z q.1) (sym all.2) all.1

names_from_complete : {ts rest : Tokens} {xs : List (List ℕ)} → IsName ts → ReadsNames ts xs rest → (n : ℕ) (ys : List (List ℕ)) → length (drop 1 ts) ≤ n
    → names_from n (ys ++ first_name ts ∷ []) (drop 1 ts) ≡ Ok (ys ++ xs, rest)
unfolding names_from
names_from_complete is (last_name n e) zero ys few = refl
names_from_complete {ts} is (last_name n e) (suc k) ys few = rw (same_no (mark (drop 1 ts)) comma e) refl
names_from_complete {ts} is (name_then n e d) zero ys few = absurd (omega (arith, taken (drop 1 ts) _ e (λ w. cc)))
names_from_complete {ts} {rest} is (name_then {xs = xs} n e d) (suc k) ys few =
    let first : IsName (drop 1 (drop 1 ts)) = names_begin d in
    let others = names_from_complete first d k (ys ++ first_name ts ∷ []) (omega (arith, taken (drop 1 ts) _ e (λ w. cc), dropped (drop 1 (drop 1 ts)))) in
    rw (same_yes (mark (drop 1 ts)) comma e, any_name_is (drop 1 (drop 1 ts)) first) (others ∙ ap (λ z. fine (z, rest)) (append_assoc ys (first_name ts ∷ []) xs))
  where
    names_begin : {us end : Tokens} {zs : List (List ℕ)} → ReadsNames us zs end → IsName us
    names_begin (last_name n e) = n
    names_begin (name_then n e d) = n

pub names_complete : {ts rest : Tokens} {xs : List (List ℕ)} → ReadsNames ts xs rest → names ts ≡ Ok (xs, rest)
unfolding names
names_complete {ts} (last_name n e) = rw (any_name_is ts n) (names_from_complete n (last_name n e) (length (drop 1 ts)) [] (omega arith))
names_complete {ts} (name_then n e d) = rw (any_name_is ts n) (names_from_complete n (name_then n e d) (length (drop 1 ts)) [] (omega arith))

-- ---- heads

moved : {ts : Tokens} (x y : PrimaryHead × Tokens) → fine x ≡ fine y → BeginsPrimary ts x.0 x.1 → BeginsPrimary ts y.0 y.1
moved {ts} x y e is = subst (λ (q : PrimaryHead × Tokens). BeginsPrimary ts q.0 q.1) (ok_is x y e) is

counter_then : {B : Type 0} (ts : Tokens) (f : List ℕ → TokenReader B) (y : B × Tokens) → and_then (counter ts) f ≡ Ok y
    → (mark (drop 1 ts) ≡ m.Lower) × (mark_due (drop 1 (drop 1 ts)) ≡ m.Symbol symbol.Less) × (f (first_name (drop 1 ts)) (past (drop 1 (drop 1 ts))) ≡ Ok y)
unfolding counter
counter_then ts f y e =
    let c = bind_ok (counter ts) f y e in
    let x = lower_then (drop 1 ts) _ c.0 c.1 in
    let d = expect_then (m.Symbol symbol.Less) (drop 1 (drop 1 ts)) _ c.0 x.1 in
    let is = ok_is (first_name (drop 1 ts), past (drop 1 (drop 1 ts))) c.0 d.1 in
    (x.0, d.0, ap (λ (q : List ℕ × Tokens). f q.0 q.1) is ∙ c.2)

counter_is : (ts : Tokens) → mark (drop 1 ts) ≡ m.Lower → mark_due (drop 1 (drop 1 ts)) ≡ m.Symbol symbol.Less → counter ts ≡ Ok (first_name (drop 1 ts), past (drop 1 (drop 1 ts)))
unfolding counter
counter_is ts e d = rw (lower_is (drop 1 ts) e, expect_is (m.Symbol symbol.Less) (drop 1 (drop 1 ts)) d) refl

pub head_sound : (x : Start) (ts : Tokens) (y : PrimaryHead × Tokens) → start_of (mark ts) ≡ x → head_by x ts ≡ Ok y → BeginsPrimary ts y.0 y.1
unfolding name_or_call
head_sound s.Nothing ts y is e = absurd cc
head_sound s.Number ts y is e = moved _ y e (number is)
head_sound s.Name ts y is e = moved _ y e (upper_name is)
head_sound s.NameOrCall ts y is e = elim (chosen (sees (m.Symbol symbol.OpenRound) (drop 1 ts)) _ _ _ e) [
  | inl w ↦ moved _ y w.1 (call is (same_is _ _ w.0))
  | inr w ↦ moved _ y w.1 (lower_name is (same_not _ _ w.0))
]
head_sound (s.Truth b) ts y is e = moved _ y e (truth is)
head_sound (s.Bare w) ts y is e = moved _ y e (bare is)
head_sound s.EmptyList ts y is e = moved _ y e (empty_list is)
head_sound s.List ts y is e = moved _ y e (list is)
head_sound (s.Form f) ts y is e = let d = expect_then (m.Symbol symbol.OpenRound) (drop 1 ts) _ y e in moved _ y d.1 (form is d.0)
head_sound (s.Enclosed x) ts y is e = moved _ y e (enclosure is)
head_sound s.If ts y is e = moved _ y e (if is)
head_sound s.While ts y is e = moved _ y e (while is)
head_sound s.Repeat ts y is e = moved _ y e (repeat is)
head_sound s.For ts y is e = let d = counter_then ts _ y e in moved _ y d.2 (for is d.0 d.1)
head_sound s.Forall ts y is e = let d = counter_then ts _ y e in moved _ y d.2 (forall is d.0 d.1)
head_sound s.Exists ts y is e =
    let xs = bind_ok (names (drop 1 ts)) _ y e in
    let d = expect_then (m.Symbol symbol.Colon) xs.0.1 _ y xs.2 in
    moved _ y d.1 (exists is (names_sound (drop 1 ts) xs.0 xs.1) d.0)

head_at : (ts : Tokens) (x : Start) → start_of (mark ts) ≡ x → head_by (start_of (mark ts)) ts ≡ head_by x ts
head_at ts x e = ap (λ q. head_by q ts) e

pub head_complete : {ts rest : Tokens} {x : PrimaryHead} → BeginsPrimary ts x rest → head_by (start_of (mark ts)) ts ≡ Ok (x, rest)
unfolding name_or_call
head_complete {ts} (number e) = head_at ts _ e
head_complete {ts} (truth e) = head_at ts _ e
head_complete {ts} (upper_name e) = head_at ts _ e
head_complete {ts} (lower_name e f) = head_at ts _ e ∙ rw (same_no (mark (drop 1 ts)) (m.Symbol symbol.OpenRound) f) refl
head_complete {ts} (call e f) = head_at ts _ e ∙ rw (same_yes (mark (drop 1 ts)) (m.Symbol symbol.OpenRound) f) refl
head_complete {ts} (bare e) = head_at ts _ e
head_complete {ts} (form e f) = head_at ts _ e ∙ rw (expect_is (m.Symbol symbol.OpenRound) (drop 1 ts) f) refl
head_complete {ts} (empty_list e) = head_at ts _ e
head_complete {ts} (list e) = head_at ts _ e
head_complete {ts} (enclosure e) = head_at ts _ e
head_complete {ts} (if e) = head_at ts _ e
head_complete {ts} (while e) = head_at ts _ e
head_complete {ts} (repeat e) = head_at ts _ e
head_complete {ts} (for e f g) = head_at ts _ e ∙ rw (counter_is ts f g) refl
head_complete {ts} (forall e f g) = head_at ts _ e ∙ rw (counter_is ts f g) refl
head_complete {ts} (exists {mid = mid} e d f) = head_at ts _ e ∙ rw (names_complete d, expect_is (m.Symbol symbol.Colon) mid f) refl
