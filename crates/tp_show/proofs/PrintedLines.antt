-- The lines of a run's printed text: those of states, those that are passed over, and the end line.
use Rattle.std.proofs.Common.{◌≡◌, ◌≢◌, inl, inr, ◌+◌, ◌-◌, ℕ, suc, Bool, true, false, not, cond, ◌==◌, nat_eq, ◌&&◌, List, [], ◌∷◌, ◌++◌, map, length, slice_index, take, drop, All, codes, refl, sym, ap, ap₂, ◌∙◌, subst, arith, tests, append_assoc}
use Rattle.std.specs.List.{flat_map, starts_with}
use Rattle.std.specs.Str.Lines.{lines, lines_of_parts, strip_carriage_return}
use Rattle.std.proofs.lemmas.Bool.{or_cases, or_left, or_right, and_parts}
use Rattle.std.proofs.lemmas.List.{drop_more, drop_all, take-append-drop}
use Rattle.std.proofs.lemmas.List.Splits.{slice_split_at}
use Rattle.std.proofs.lemmas.List.Elements.{All-weaker, All-nil, All-cons, All-head, All-tail}
use Rattle.tp_value.specs.Tree.{Tree}
use Rattle.tp_value.specs.Written.{text_of}
use Rattle.tp_lex.specs.Pieces.{BeginsWith}
use Rattle.tp_lex.proofs.FeedLemmas.{feed, more_parts}
use Rattle.tp_lex.proofs.Lists.{begins_from, starts_from}
use Rattle.tp_kernel.specs.declared.fault.LimitKind.{LimitKind}
use Rattle.tp_kernel.specs.declared.fault.LimitKind.TheVariants as limit
use Rattle.tp_store.specs.Known.{Variable}
use Rattle.tp_show.specs.declared.turn.Turn.{Turn}
use Rattle.tp_show.specs.declared.turn.Turn.TheVariants.{Went, Finished, Contradictory, Undetermined, StateLimit, InputMissing, Over}
use Rattle.tp_show.specs.declared.named_fact.NamedFact.{NamedFact}
use Rattle.tp_show.specs.Line.{shown_value, show_line, IsOneLine, fed_line}
use Rattle.tp_show.specs.Texts.{last_words, end_line}
use Rattle.tp_show.specs.Trace.{opens_with_one, passed_openings, run_end_openings, refusal_openings, ends_trace, GoesOnWith, stop, passed, end}
use Rattle.tp_show.specs.TraceOfRun.{IsFurtherLine, IsEnding}
use Rattle.tp_show.proofs.PrintedBytes.{is_plain, ArePlain, plain_append, text_plain}

-- a line and its line feed, and what follows
pub line_at : (xs ys : List ℕ) → IsOneLine xs → lines (xs ++ 10 ∷ ys) ≡ strip_carriage_return xs ∷ lines ys
line_at xs ys one =
    let apart : (b : ℕ) → b ≢ 10 → feed b ≡ false = λ b h. grind (arith, tests, h) in
    ap lines_of_parts (slice_split_at feed xs 10 ys (All-weaker (λ b. b ≢ 10) (λ b. feed b ≡ false) apart xs one) refl) ∙ more_parts xs ys

-- ---- a carriage return at a line's end changes nothing of how the line begins

-- no byte is a carriage return
abbrev lacks_return : List ℕ → Bool
lacks_return [] = true
lacks_return (b ∷ z) = not (b == 13) && lacks_return z

abbrev lack_returns : List (List ℕ) → Bool
lack_returns [] = true
lack_returns (z ∷ zs) = lacks_return z && lack_returns zs

-- the last byte of some bytes, and those before it
last_split : (b : ℕ) (z : List ℕ) → b ∷ z ≡ take (length (b ∷ z) - 1) (b ∷ z) ++ slice_index (b ∷ z) (length (b ∷ z) - 1) ∷ []
last_split b z =
    let n = length (b ∷ z) - 1 in
    let none : drop (n + 1) (b ∷ z) ≡ [] = drop_all (n + 1) (b ∷ z) (omega arith) in
    sym (take-append-drop n (b ∷ z)) ∙ ap (λ y. take n (b ∷ z) ++ y) (drop_more (b ∷ z) n 0 (omega arith) ∙ ap (λ y. slice_index (b ∷ z) n ∷ y) none)

still_begins : (z front rest : List ℕ) → lacks_return front ≡ true → z ++ 13 ∷ [] ≡ front ++ rest → BeginsWith z front
still_begins z [] rest h e = (z, refl)
still_begins [] (c ∷ front) rest h e =
    let same : 13 ≡ c = cc in
    let bad = (and_parts (not (c == 13)) (lacks_return front) h).0 in
    let good : not (c == 13) ≡ false = subst (λ (x : ℕ). not (x == 13) ≡ false) same refl in
    absurd (cc (sym bad ∙ good))
still_begins (b ∷ z) (c ∷ front) rest h e =
    let same : b ≡ c = cc in
    let tail : z ++ 13 ∷ [] ≡ front ++ rest = cc in
    let more = still_begins z front rest (and_parts (not (c == 13)) (lacks_return front) h).1 tail in
    (more.0, ap₂ (λ x xs. x ∷ xs) same more.1)

strip_begins : (z front : List ℕ) → lacks_return front ≡ true → BeginsWith z front → BeginsWith (strip_carriage_return z) front
strip_begins [] front h begins = begins
strip_begins (b ∷ z) front h begins = by (slice_index (b ∷ z) (length (b ∷ z) - 1) == 13) refl
  where
    by : (c : Bool) → (slice_index (b ∷ z) (length (b ∷ z) - 1) == 13) ≡ c → BeginsWith (cond c (take (length (b ∷ z) - 1) (b ∷ z)) (b ∷ z)) front
    by true e =
        let last : slice_index (b ∷ z) (length (b ∷ z) - 1) ≡ 13 = grind (arith, tests, e) in
        let whole : take (length (b ∷ z) - 1) (b ∷ z) ++ 13 ∷ [] ≡ front ++ begins.0 = ap (λ k. take (length (b ∷ z) - 1) (b ∷ z) ++ k ∷ []) (sym last) ∙ (sym (last_split b z) ∙ begins.1) in
        still_begins (take (length (b ∷ z) - 1) (b ∷ z)) front begins.0 h whole
    by false e = begins

strip_opens : (openings : List (List ℕ)) (line : List ℕ) → lack_returns openings ≡ true → opens_with_one openings line ≡ true → opens_with_one openings (strip_carriage_return line) ≡ true
strip_opens [] line h e = e
strip_opens (o ∷ openings) line h e =
    let free = and_parts (lacks_return o) (lack_returns openings) h in
    elim (or_cases (starts_with nat_eq line o) (opens_with_one openings line) e) [
      | inl t ↦ or_left (starts_with nat_eq (strip_carriage_return line) o) (opens_with_one openings (strip_carriage_return line)) (starts_from (strip_carriage_return line) o (strip_begins line o free.0 (begins_from line o t)))
      | inr t ↦ or_right (starts_with nat_eq (strip_carriage_return line) o) (opens_with_one openings (strip_carriage_return line)) (strip_opens openings line free.1 t)
    ]

-- ---- lines that are passed over

further_pass : (n : ℕ) (further : List (List ℕ)) (rest : List ℕ) (states : List (List NamedFact)) → All IsFurtherLine further → GoesOnWith (suc n) (lines rest) states → GoesOnWith (suc n) (lines (flat_map fed_line further ++ rest)) states
further_pass n [] rest states h g = g
further_pass n (line ∷ further) rest states h g =
    let one = All-head IsFurtherLine line further h in
    let more = further_pass n further rest states (All-tail IsFurtherLine line further h) g in
    let later = flat_map fed_line further ++ rest in
    let text : (line ++ 10 ∷ flat_map fed_line further) ++ rest ≡ line ++ 10 ∷ later = append_assoc line (10 ∷ flat_map fed_line further) rest in
    let whole : fed_line line ++ flat_map fed_line further ≡ line ++ 10 ∷ flat_map fed_line further = append_assoc line (10 ∷ []) (flat_map fed_line further) in
    let split : lines ((fed_line line ++ flat_map fed_line further) ++ rest) ≡ strip_carriage_return line ∷ lines later = ap (λ z. lines (z ++ rest)) whole ∙ (ap lines text ∙ line_at line later one.0) in
    subst (λ (ts : List (List ℕ)). GoesOnWith (suc n) ts states) (sym split) (passed (strip_opens passed_openings line refl one.1) more)

-- a list of values that is shown, without its line feed
abbrev show_words : List Tree → List ℕ
show_words ts = codes "show" ++ flat_map shown_value ts

values_plain : (ts : List Tree) → ArePlain (flat_map shown_value ts)
values_plain [] = tt
values_plain (t ∷ ts) = (refl, plain_append (text_of t) (flat_map shown_value ts) (text_plain t) (values_plain ts))

pub plain_one : (z : List ℕ) → ArePlain z → IsOneLine z
plain_one [] h = All-nil (λ b. b ≢ 10)
plain_one (b ∷ z) h = All-cons (λ c. c ≢ 10) b z (λ e. let plain : is_plain b ≡ true = h.0 in let bad : is_plain 10 ≡ true = subst (λ (x : ℕ). is_plain x ≡ true) e plain in absurd (cc bad)) (plain_one z h.1)

shows_fed : (shows : List (List Tree)) → flat_map show_line shows ≡ flat_map fed_line (map show_words shows)
shows_fed [] = refl
shows_fed (ts ∷ shows) = ap₂ (λ a b. a ++ b) (sym (append_assoc (codes "show") (flat_map shown_value ts) (codes "\n"))) (shows_fed shows)

shows_further : (shows : List (List Tree)) → All IsFurtherLine (map show_words shows)
shows_further [] = All-nil IsFurtherLine
shows_further (ts ∷ shows) = All-cons IsFurtherLine (show_words ts) (map show_words shows) (plain_one (show_words ts) (refl, (refl, (refl, (refl, values_plain ts)))), refl) (shows_further shows)

-- what is shown, the further lines, and what follows
pub passed_lines : (n : ℕ) (shows : List (List Tree)) (further : List (List ℕ)) (rest : List ℕ) (states : List (List NamedFact)) → All IsFurtherLine further → GoesOnWith (suc n) (lines rest) states
    → GoesOnWith (suc n) (lines (flat_map show_line shows ++ (flat_map fed_line further ++ rest))) states
passed_lines n shows further rest states h g =
    let later = flat_map fed_line further ++ rest in
    let both = further_pass n (map show_words shows) later states (shows_further shows) (further_pass n further rest states h g) in
    subst (λ (z : List ℕ). GoesOnWith (suc n) (lines (z ++ later)) states) (sym (shows_fed shows)) both

-- ---- the end line

words_end : (globals : List (List ℕ)) (known : List Variable) (reductions state : ℕ) (kind : LimitKind) → opens_with_one run_end_openings (last_words globals known reductions (Over state kind)) ≡ true
words_end globals known reductions state limit.Reductions = refl
words_end globals known reductions state limit.Number = refl
words_end globals known reductions state limit.List = refl
words_end globals known reductions state limit.Calls = refl
words_end globals known reductions state limit.Nest = refl

-- a last line with these words
line_ends : (n : ℕ) (words : List ℕ) → IsOneLine words → opens_with_one run_end_openings words ≡ true → GoesOnWith (suc n) (lines (words ++ codes "\n")) []
line_ends n words one opens =
    let ends : ends_trace (strip_carriage_return words) ≡ true = or_left (opens_with_one run_end_openings (strip_carriage_return words)) (opens_with_one refusal_openings (strip_carriage_return words)) (strip_opens run_end_openings words refl opens) in
    subst (λ (ts : List (List ℕ)). GoesOnWith (suc n) ts []) (sym (line_at words [] one)) (end ends)

turn_ends : (n : ℕ) (globals : List (List ℕ)) (known : List Variable) (reductions : ℕ) (turn : Turn) → IsOneLine (last_words globals known reductions turn) → GoesOnWith (suc n) (lines (end_line globals known reductions turn)) []
turn_ends n globals known reductions Went one = stop
turn_ends n globals known reductions (Finished length) one = line_ends n (last_words globals known reductions (Finished length)) one refl
turn_ends n globals known reductions (Contradictory state clash) one = line_ends n (last_words globals known reductions (Contradictory state clash)) one refl
turn_ends n globals known reductions (Undetermined state cell) one = line_ends n (last_words globals known reductions (Undetermined state cell)) one refl
turn_ends n globals known reductions (StateLimit states) one = line_ends n (last_words globals known reductions (StateLimit states)) one refl
turn_ends n globals known reductions (InputMissing state port) one = line_ends n (last_words globals known reductions (InputMissing state port)) one refl
turn_ends n globals known reductions (Over state kind) one = line_ends n (last_words globals known reductions (Over state kind)) one (words_end globals known reductions state kind)

pub ending_ends : (n : ℕ) (globals : List (List ℕ)) (text : List ℕ) → IsEnding globals text → GoesOnWith (suc n) (lines text) []
ending_ends n globals text (known, reductions, turn, one, is) = subst (λ (z : List ℕ). GoesOnWith (suc n) (lines z) []) (sym is) (turn_ends n globals known reductions turn one)
