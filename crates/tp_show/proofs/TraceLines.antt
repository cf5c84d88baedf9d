-- What a line begins with.
use Rattle.std.proofs.Common.{◌≡◌, ◌≢◌, ℕ, ◌+◌, ◌<◌, ◌^◌, ◌%◌, true, false, ◌||◌, ◌&&◌, nat_eq, inl, inr, List, [], ◌∷◌, ◌++◌, length, take, drop, position, Option, Some, None, MatchOption, Bor, refl, sym, ap, ◌∙◌, subst, arith, tests, append_assoc, codes}
use Rattle.std.specs.Cmp.Lexicographic.{pointwise}
use Rattle.std.specs.Str.Lines.{lines, strip_carriage_return}
use Rattle.std.specs.Fmt.{decimal}
use Rattle.std.proofs.lemmas.Fmt.{decimal_by_steps}
use Rattle.std.proofs.lemmas.List.{append_cancel_left}
use Rattle.std.proofs.lemmas.Bool.{or_cases}
use Rattle.tp_lex.proofs.FeedLemmas.{feed, line_to_feed, line_to_end}
use Rattle.tp_lex.proofs.Lists.{begins_from}
use Rattle.tp_show.specs.declared.named_fact.NamedFact.{NamedFact}
use Rattle.tp_show.specs.Trace.{TracePart, parts_facts, have_clash, SpellsParts, IsStateLine, state_opening, is_passed_over, ends_trace}
use Rattle.tp_show.proofs.TraceSpelled.{parts_unique}

pub some_line : (z : List ℕ) → 0 < length z → (m : List ℕ) × (ms : List (List ℕ)) × (lines z ≡ m ∷ ms)
some_line z some = by (position feed z) refl
  where
    by : (o : Option ℕ) → position feed z ≡ o → (m : List ℕ) × (ms : List (List ℕ)) × (lines z ≡ m ∷ ms)
    by (Some i) e = (strip_carriage_return (take i z), lines (drop (i + 1) z), line_to_feed z i e)
    by None e = (z, [], line_to_end z (λ f. let none : length z ≡ 0 = ap length f in omega (arith, none, some)) e)

-- ---- what follows a front

pub behind_both : (z a b y : List ℕ) (o : Option (Bor (List ℕ))) → z ≡ a ++ y → MatchOption o ((r : List ℕ) → y ≢ b ++ r) (λ r. y ≡ b ++ r.now) → MatchOption o ((r : List ℕ) → z ≢ (a ++ b) ++ r) (λ r. z ≡ (a ++ b) ++ r.now)
behind_both z a b y (Some r) e m = e ∙ (ap (λ x. a ++ x) m ∙ sym (append_assoc a b r.now))
behind_both z a b y None e m = λ r f. m r (append_cancel_left a y (b ++ r) (sym e ∙ (f ∙ append_assoc a b r)))

pub behind_none : (z a b : List ℕ) → ((r : List ℕ) → z ≢ a ++ r) → (r : List ℕ) → z ≢ (a ++ b) ++ r
behind_none z a b never r e = never (b ++ r) (e ∙ append_assoc a b r)

-- ---- lines of one kind are of no other

abbrev BeginsLow : List ℕ → Type 0
BeginsLow [] = ⊥
BeginsLow (c ∷ cs) = c < 58

still_low : (ds : List ℕ) (c : ℕ) → BeginsLow ds → BeginsLow (ds ++ c ∷ [])
still_low [] c h = absurd h
still_low (d ∷ ds) c h = h

decimal_begins_low : (n : ℕ) → n < 2 ^ 64 → BeginsLow (decimal n)
decimal_begins_low n h = decimal_by_steps (λ n ds. BeginsLow ds) (λ n low. omega arith) (λ n ds high p. still_low ds (48 + n % 10) p) n h

state_no_end : (ds rest : List ℕ) → BeginsLow ds → ends_trace (codes "state " ++ (ds ++ rest)) ≡ false
state_no_end [] rest low = absurd low
state_no_end (d ∷ ds) rest low =
    let k : nat_eq 108 d ≡ false = grind (arith, tests, low) in
    ap (λ c. ((c && pointwise nat_eq (codes "imit:") (take 5 (ds ++ rest))) || false) || false) k

pub state_no_other : (n : ℕ) (line : List ℕ) (facts : List NamedFact) → n < 2 ^ 64 → IsStateLine n line facts → (is_passed_over line ≡ false) × (ends_trace line ≡ false)
state_no_other n line facts small s =
    let all : line ≡ codes "state " ++ (decimal n ++ (codes ":" ++ s.rest)) = s.opening ∙ ap (λ x. codes "state " ++ x) (append_assoc (decimal n) (codes ":") s.rest) in
    (ap is_passed_over all, ap ends_trace all ∙ state_no_end (decimal n) (codes ":" ++ s.rest) (decimal_begins_low n small))

pub passed_no_end : (line : List ℕ) → is_passed_over line ≡ true → ends_trace line ≡ false
passed_no_end line e = elim (or_cases _ _ e) [
  | inl t ↦ (let b = begins_from line (codes "show") t in ap ends_trace b.1)
  | inr u ↦ elim (or_cases _ _ u) [
    | inl t ↦ (let b = begins_from line (codes "reductions ") t in ap ends_trace b.1)
    | inr v ↦ elim (or_cases _ _ v) [
      | inl t ↦ (let b = begins_from line (codes "residual: ") t in ap ends_trace b.1)
      | inr none ↦ absurd (cc none)
    ]
  ]
]

-- the line of a state gives one list of facts
pub state_unique : (n : ℕ) (line : List ℕ) (facts other : List NamedFact) → IsStateLine n line facts → IsStateLine n line other → facts ≡ other
state_unique n line facts other s t =
    let rest : s.rest ≡ t.rest = append_cancel_left (state_opening n) s.rest t.rest (sym s.opening ∙ t.opening) in
    s.given ∙ (ap parts_facts (parts_unique (subst (λ (z : List ℕ). SpellsParts z s.parts) rest s.spelled) t.spelled) ∙ sym t.given)

pub no_parts_there : (n : ℕ) (line rest : List ℕ) → line ≡ state_opening n ++ rest → ((ps : List TracePart) → ¬ SpellsParts rest ps) → (facts : List NamedFact) → ¬ IsStateLine n line facts
no_parts_there n line rest e never facts s =
    let same : s.rest ≡ rest = append_cancel_left (state_opening n) s.rest rest (sym s.opening ∙ e) in
    never s.parts (subst (λ (z : List ℕ). SpellsParts z s.parts) same s.spelled)

pub clash_there : (n : ℕ) (line rest : List ℕ) (ps : List TracePart) → line ≡ state_opening n ++ rest → SpellsParts rest ps → have_clash (parts_facts ps) ≡ true → (facts : List NamedFact) → ¬ IsStateLine n line facts
clash_there n line rest ps e spelled clash facts s =
    let same : s.rest ≡ rest = append_cancel_left (state_opening n) s.rest rest (sym s.opening ∙ e) in
    let parts : s.parts ≡ ps = parts_unique (subst (λ (z : List ℕ). SpellsParts z s.parts) same s.spelled) spelled in
    let bad : have_clash facts ≡ true = ap have_clash s.given ∙ (ap (λ qs. have_clash (parts_facts qs)) parts ∙ clash) in
    let good = s.no_clash in
    cc (sym bad ∙ good)
