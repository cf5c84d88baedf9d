-- Lines of a text by which its last line is told from the lines of its states.
use Rattle.std.proofs.Common.{◌≡◌, ◌+◌, ◌<◌, ◌%◌, ◌/◌, ◌==◌, ◌||◌, ℕ, zero, suc, ltb, Bool, true, false, cond, nat_eq, List, [], ◌∷◌, ◌++◌, drop, map, length, All, codes, refl, sym, ap, ap₂, ◌∙◌, subst, append_assoc, append-nil, arith, tests}
use Rattle.std.specs.List.{flat_map, starts_with}
use Rattle.std.specs.Fmt.{digits, digits_onto, digit_glyph, decimal}
use Rattle.std.proofs.Math.Nat.{mod-lt}
use Rattle.std.proofs.lemmas.Bool.Decides.{Decides-eqb}
use Rattle.std.proofs.lemmas.Slice.Eq.{starts_is}
use Rattle.std.proofs.lemmas.Grind.{flat_map-append}
use Rattle.std.proofs.lemmas.List.Elements.{All-nil, All-cons, All-append, All-head, All-tail}
use Rattle.tp_value.specs.Tree.{Tree}
use Rattle.tp_show.specs.Line.{ToldState, IsOneLine, fed_line}
use Rattle.tp_show.specs.Trace.{opens_with_one}
use Rattle.tp_show.proofs.TraceDigits.{AllPass}
use Rattle.tp_call.specs.Text.{IsTraceLine, last_openings, EndsInLine}
use Rattle.tp_call.proofs.TracedOnce.{first_feed, fed_first, no_line, state_words, show_words, told_words}

pub never : {X : Type 0} → false ≡ true → X
never e = absurd (cc e)

-- ---- the lines of a text, and of one that it begins with

-- lines with which a text begins are the first of its lines
among : (xs ys : List (List ℕ)) (rest : List ℕ) → All IsOneLine xs → All IsOneLine ys → flat_map fed_line xs ++ rest ≡ flat_map fed_line ys → (zs : List (List ℕ)) × (ys ≡ xs ++ zs) × (rest ≡ flat_map fed_line zs)
among [] ys rest h k e = (ys, refl, e)
among (x ∷ xs) [] rest h k e = absurd (no_line x (flat_map fed_line xs ++ rest) (sym (append_assoc (fed_line x) (flat_map fed_line xs) rest) ∙ e))
among (x ∷ xs) (y ∷ ys) rest h k e =
    let front = flat_map fed_line xs in
    let back = flat_map fed_line ys in
    let whole : x ++ 10 ∷ (front ++ rest) ≡ y ++ 10 ∷ back = sym (fed_first x (front ++ rest)) ∙ (sym (append_assoc (fed_line x) front rest) ∙ (e ∙ fed_first y back)) in
    let both = first_feed x y (front ++ rest) back (All-head IsOneLine x xs h) (All-head IsOneLine y ys k) whole in
    let more = among xs ys rest (All-tail IsOneLine x xs h) (All-tail IsOneLine y ys k) both.1 in
    (more.0, ap₂ (λ a b. a ∷ b) (sym both.0) more.1, more.2)

-- the last line of a text stands among the lines of what the text begins
pub stands_there : (ys : List (List ℕ)) (text line whole rest : List ℕ) → All IsOneLine ys → whole ≡ flat_map fed_line ys → text ++ rest ≡ whole → (ends : EndsInLine text line)
    → (zs : List (List ℕ)) × (ys ≡ ends.before ++ line ∷ zs) × (rest ≡ flat_map fed_line zs)
stands_there ys text line whole rest one is begins ends =
    let lines = ends.before ++ line ∷ [] in
    let text_is : text ≡ flat_map fed_line lines =
    ends.whole ∙ (ap (λ l. flat_map fed_line ends.before ++ l) (sym (append-nil (fed_line line))) ∙ sym (flat_map-append fed_line ends.before (line ∷ []))) in
    let each = All-append IsOneLine ends.before (line ∷ []) ends.lines (All-cons IsOneLine line [] ends.last (All-nil IsOneLine)) in
    let found = among lines ys rest each one (ap (λ t. t ++ rest) (sym text_is) ∙ (begins ∙ is)) in
    (found.0, found.1 ∙ append_assoc ends.before (line ∷ []) found.0, found.2)

-- ---- lines that begin as no end line does

abbrev pub IsNoEnd : List ℕ → Type 0
IsNoEnd line = opens_with_one last_openings line ≡ false

at_place : (xs zs : List (List ℕ)) (line : List ℕ) → All IsNoEnd (xs ++ line ∷ zs) → IsNoEnd line
at_place [] zs line h = All-head IsNoEnd line zs h
at_place (x ∷ xs) zs line h = at_place xs zs line (All-tail IsNoEnd x (xs ++ line ∷ zs) h)

pub no_end_there : {X : Type 0} (ys xs zs : List (List ℕ)) (line : List ℕ) → All IsNoEnd ys → ys ≡ xs ++ line ∷ zs → opens_with_one last_openings line ≡ true → X
no_end_there ys xs zs line h e opens = never (sym (at_place xs zs line (subst (All IsNoEnd) e h)) ∙ opens)

-- behind the one line that may begin so there is none
pub nothing_behind : (ss xs zs : List (List ℕ)) (e line : List ℕ) → All IsNoEnd ss → ss ++ e ∷ [] ≡ xs ++ line ∷ zs → opens_with_one last_openings line ≡ true → zs ≡ []
nothing_behind [] [] zs e line h is opens = cc is
nothing_behind [] (x ∷ []) zs e line h is opens = absurd (cc is)
nothing_behind [] (x ∷ y ∷ xs) zs e line h is opens = absurd (cc is)
nothing_behind (s ∷ ss) [] zs e line h is opens =
    let same : s ≡ line = cc is in
    never (sym (All-head IsNoEnd s ss h) ∙ (ap (opens_with_one last_openings) same ∙ opens))
nothing_behind (s ∷ ss) (x ∷ xs) zs e line h is opens = nothing_behind ss xs zs e line (All-tail IsNoEnd s ss h) (cc is) opens

-- ---- the lines of states

-- a digit isn't the letter `l`
abbrev is_low : ℕ → Bool
is_low b = ltb b 108

glyph_low : (d : ℕ) → d < 10 → ltb (cond (ltb d 10) (48 + d) (87 + d)) 108 ≡ true
glyph_low d l = by (ltb d 10) refl
  where
    by : (c : Bool) → ltb d 10 ≡ c → ltb (cond c (48 + d) (87 + d)) 108 ≡ true
    by true e = grind (arith, tests, l)
    by false e = grind (arith, tests, l)

onto_low : (k n : ℕ) (acc : List ℕ) → AllPass is_low acc → AllPass is_low (digits_onto k 10 false n acc)
onto_low zero n acc h = h
onto_low (suc k) n acc h =
    let first : AllPass is_low (digit_glyph false (n % 10) ∷ acc) = (glyph_low (n % 10) (mod-lt n (omega arith)), h) in
    by (n / 10 == 0) first (onto_low k (n / 10) (digit_glyph false (n % 10) ∷ acc) first)
  where
    by : (c : Bool) → AllPass is_low (digit_glyph false (n % 10) ∷ acc) → AllPass is_low (digits_onto k 10 false (n / 10) (digit_glyph false (n % 10) ∷ acc))
        → AllPass is_low (cond c (digit_glyph false (n % 10) ∷ acc) (digits_onto k 10 false (n / 10) (digit_glyph false (n % 10) ∷ acc)))
    by true one more = one
    by false one more = more

decimal_low : (n : ℕ) → AllPass is_low (decimal n)
unfolding digits
decimal_low n = onto_low 64 n [] tt

-- what a line begins with
begins_so : (line front : List ℕ) → starts_with nat_eq line front ≡ true → line ≡ front ++ drop (length front) line
begins_so line front e = (starts_is Decides-eqb line front true (sym e)).0 refl

-- the line of a state
abbrev of_state : (ds rest : List ℕ) → List ℕ
of_state ds rest = (codes "state " ++ (ds ++ codes ":")) ++ rest

low_no_end : (ds rest : List ℕ) → AllPass is_low ds → IsNoEnd (of_state ds rest)
low_no_end [] rest h = refl
low_no_end (d ∷ ds) rest h = by (starts_with nat_eq (of_state (d ∷ ds) rest) (codes "state limit: ")) refl
  where
    by : (c : Bool) → starts_with nat_eq (of_state (d ∷ ds) rest) (codes "state limit: ") ≡ c → IsNoEnd (of_state (d ∷ ds) rest)
    by true e =
        let tail : d ∷ ((ds ++ codes ":") ++ rest) ≡ codes "limit: " ++ drop 13 (of_state (d ∷ ds) rest) = ap (drop 6) (begins_so (of_state (d ∷ ds) rest) (codes "state limit: ") e) in
        let same : d ≡ 108 = cc tail in
        never (subst (λ (b : ℕ). ltb b 108 ≡ true) same h.0)
    by false e = subst (λ (b : Bool). (b || false) ≡ false) (sym e) refl

state_no_end : (names : List (List ℕ)) (told : ToldState) → IsNoEnd (state_words names told)
state_no_end names told = low_no_end (decimal told.state) _ (decimal_low told.state)

shows_no_end : (shows : List (List Tree)) → All IsNoEnd (map show_words shows)
shows_no_end [] = All-nil IsNoEnd
shows_no_end (ts ∷ shows) = All-cons IsNoEnd (show_words ts) (map show_words shows) refl (shows_no_end shows)

-- a trace line
trace_no_end : (line : List ℕ) → IsTraceLine line → IsNoEnd line
trace_no_end line h = by (starts_with nat_eq line (codes "reductions ")) (starts_with nat_eq line (codes "residual: ")) refl refl h.1
  where
    by : (a b : Bool) → starts_with nat_eq line (codes "reductions ") ≡ a → starts_with nat_eq line (codes "residual: ") ≡ b → (a || (b || false)) ≡ true → IsNoEnd line
    by true b e f opens = subst IsNoEnd (sym (begins_so line (codes "reductions ") e)) refl
    by false true e f opens = subst IsNoEnd (sym (begins_so line (codes "residual: ") f)) refl
    by false false e f opens = never opens

pub told_no_end : (names : List (List ℕ)) (told : ToldState) → All IsNoEnd (told_words names told)
told_no_end names told = All-cons IsNoEnd (state_words names told) (map show_words told.shows) (state_no_end names told) (shows_no_end told.shows)

pub further_no_end : (lines : List (List ℕ)) → All IsTraceLine lines → All IsNoEnd lines
further_no_end [] h = All-nil IsNoEnd
further_no_end (l ∷ ls) h = All-cons IsNoEnd l ls (trace_no_end l (All-head IsTraceLine l ls h)) (further_no_end ls (All-tail IsTraceLine l ls h))
