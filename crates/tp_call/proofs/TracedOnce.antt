-- A text with trace lines is read in one way only.
use Rattle.std.proofs.Common.{◌≡◌, ◌≢◌, ℕ, Bool, true, false, not, cond, List, [], ◌∷◌, ◌++◌, map, filter, All, IsTrue, codes, refl, sym, ap, ap₂, ◌∙◌, subst, append_assoc, append-nil}
use Rattle.std.specs.List.{flat_map}
use Rattle.std.specs.Fmt.{decimal}
use Rattle.std.proofs.lemmas.Grind.{flat_map-append}
use Rattle.std.proofs.lemmas.List.Elements.{All-nil, All-cons, All-append, All-head, All-tail}
use Rattle.tp_value.specs.Tree.{Tree}
use Rattle.tp_value.specs.Written.{text_of}
use Rattle.tp_value.specs.declared.path.Path.{Path}
use Rattle.tp_kernel.specs.declared.fault.LimitKind.{LimitKind}
use Rattle.tp_kernel.specs.declared.fault.LimitKind.TheVariants as limit
use Rattle.tp_store.specs.Known.{Variable, IsVariableOf, global_variable}
use Rattle.tp_show.specs.declared.turn.Turn.{Turn}
use Rattle.tp_show.specs.declared.turn.Turn.TheVariants.{Went, Finished, Contradictory, Undetermined, StateLimit, InputMissing, Over}
use Rattle.tp_show.specs.Texts.{global_name, index_text, path_text, last_words, end_line}
use Rattle.tp_show.specs.Line.{LinePartTree, valued, measured, part_text, spaced_text, ToldState, shown_value, show_line, told_lines, told_text, IsOneLine, fed_line}
use Rattle.tp_show.specs.Told.{is_word_byte, IsWord, AreNames, IsPartOf, IsToldOf, IsLastTurn, IsEndLine}
use Rattle.tp_show.specs.Trace.{state_opening, opens_with_one}
use Rattle.tp_show.proofs.PartLemmas.{named}
use Rattle.tp_show.proofs.PrintedBytes.{text_plain, indices_plain}
use Rattle.tp_show.proofs.PrintedLines.{plain_one}
use Rattle.tp_show.proofs.ReadBackLemmas.{texts_tell}
use Rattle.tp_run_laws.proofs.Phrases.{written_out, joined, decimal_one}
use Rattle.tp_call.specs.Text.{trace_openings, IsTraceLine, TracedState, traced_text, IsTraced, IsOneEndLine, ReadsTracedAs}

-- ---- lines told apart

abbrev NotFeed : ℕ → Type 0
NotFeed b = b ≢ 10

-- what stands up to the first line feed, and behind it
pub first_feed : (xs ys r s : List ℕ) → IsOneLine xs → IsOneLine ys → xs ++ 10 ∷ r ≡ ys ++ 10 ∷ s → (xs ≡ ys) × (r ≡ s)
first_feed [] [] r s h k e = (refl, cc e)
first_feed [] (y ∷ ys) r s h k e = absurd (All-head NotFeed y ys k (let same : 10 ≡ y = cc e in sym same))
first_feed (x ∷ xs) [] r s h k e = absurd (All-head NotFeed x xs h (let same : x ≡ 10 = cc e in same))
first_feed (x ∷ xs) (y ∷ ys) r s h k e =
    let same : x ≡ y = cc e in
    let tail : xs ++ 10 ∷ r ≡ ys ++ 10 ∷ s = cc e in
    let more = first_feed xs ys r s (All-tail NotFeed x xs h) (All-tail NotFeed y ys k) tail in
    (ap₂ (λ a b. a ∷ b) same more.0, more.1)

-- a line with its feed, and what follows
pub fed_first : (line rest : List ℕ) → fed_line line ++ rest ≡ line ++ 10 ∷ rest
fed_first line rest = append_assoc line (10 ∷ []) rest

pub no_line : (line rest : List ℕ) → fed_line line ++ rest ≡ [] → ⊥
no_line [] rest e = cc e
no_line (b ∷ line) rest e = cc e

same_lines : (xs ys : List (List ℕ)) → All IsOneLine xs → All IsOneLine ys → flat_map fed_line xs ≡ flat_map fed_line ys → xs ≡ ys
same_lines [] [] h k e = refl
same_lines [] (y ∷ ys) h k e = absurd (no_line y (flat_map fed_line ys) (sym e))
same_lines (x ∷ xs) [] h k e = absurd (no_line x (flat_map fed_line xs) e)
same_lines (x ∷ xs) (y ∷ ys) h k e =
    let both = first_feed x y (flat_map fed_line xs) (flat_map fed_line ys) (All-head IsOneLine x xs h) (All-head IsOneLine y ys k) (sym (fed_first x (flat_map fed_line xs)) ∙ (e ∙ fed_first y (flat_map fed_line ys))) in
    ap₂ (λ a b. a ∷ b) both.0 (same_lines xs ys (All-tail IsOneLine x xs h) (All-tail IsOneLine y ys k) both.1)

-- ---- the lines of a state

-- without their line feeds
abbrev pub state_words : (names : List (List ℕ)) → ToldState → List ℕ
state_words names told = state_opening told.state ++ flat_map (spaced_text names) told.parts

abbrev pub show_words : List Tree → List ℕ
show_words ts = codes "show" ++ flat_map shown_value ts

abbrev pub told_words : (names : List (List ℕ)) → ToldState → List (List ℕ)
told_words names told = state_words names told ∷ map show_words told.shows

abbrev pub all_words : (names : List (List ℕ)) → TracedState → List (List ℕ)
all_words names s = told_words names s.told ++ s.further

shows_fed : (shows : List (List Tree)) → flat_map show_line shows ≡ flat_map fed_line (map show_words shows)
shows_fed [] = refl
shows_fed (ts ∷ shows) = ap (λ l. show_line ts ++ l) (shows_fed shows)

told_fed : (names : List (List ℕ)) (told : ToldState) → told_lines names told ≡ flat_map fed_line (told_words names told)
told_fed names told = ap₂ (λ a b. a ++ b) (pieces (decimal told.state) (flat_map (spaced_text names) told.parts)) (shows_fed told.shows)
  where
    pieces : (number parts : List ℕ) → codes "state " ++ number ++ codes ":" ++ parts ++ codes "\n" ≡ ((codes "state " ++ (number ++ codes ":")) ++ parts) ++ codes "\n"
    pieces number parts = simp append_assoc

pub traced_fed : (names : List (List ℕ)) (states : List TracedState) → traced_text names states ≡ flat_map fed_line (flat_map (all_words names) states)
traced_fed names [] = refl
traced_fed names (s ∷ states) =
    ap₂ (λ a b. a ++ b) (ap (λ l. l ++ flat_map fed_line s.further) (told_fed names s.told) ∙ sym (flat_map-append fed_line (told_words names s.told) s.further)) (traced_fed names states)
    ∙ sym (flat_map-append fed_line (all_words names s) (flat_map (all_words names) states))

-- ---- each is one line

nothing : IsOneLine []
nothing = All-nil NotFeed

word_one : (x : List ℕ) → IsWord x → IsOneLine x
word_one [] h = nothing
word_one (c ∷ cs) h = All-cons NotFeed c cs (λ e. let bad : is_word_byte 10 ≡ true = subst (λ b. IsTrue (is_word_byte b)) e h.0 in absurd (cc bad)) (word_one cs h.1)

module _ (names : List (List ℕ)) (are : AreNames names) where
  path_one : (p : Path) → IsVariableOf (map global_variable names) p.var → IsOneLine (path_text names p)
  path_one p of = joined (global_name names p.var.number) (flat_map index_text p.at) (word_one (global_name names p.var.number) (are.words p.var.number (named names p.var.number p.var.lasting of))) (plain_one (flat_map index_text p.at) (indices_plain p.at))

  part_one : (a : LinePartTree) → IsPartOf names a → IsOneLine (part_text names a)
  part_one (valued p t) of = joined (path_text names p) (codes "=" ++ text_of t) (path_one p of) (joined (codes "=") (text_of t) (written_out (codes "=") refl) (plain_one (text_of t) (text_plain t)))
  part_one (measured p n) of =
      let opened = codes "|" ++ path_text names p in
      joined (opened ++ codes "|=") (decimal n) (joined opened (codes "|=") (joined (codes "|") (path_text names p) (written_out (codes "|") refl) (path_one p of)) (written_out (codes "|=") refl)) (decimal_one n)

  parts_one : (parts : List LinePartTree) → All (IsPartOf names) parts → IsOneLine (flat_map (spaced_text names) parts)
  parts_one [] of = nothing
  parts_one (a ∷ parts) of =
      joined (spaced_text names a) (flat_map (spaced_text names) parts) (joined (codes " ") (part_text names a) (written_out (codes " ") refl) (part_one a (All-head (IsPartOf names) a parts of))) (parts_one parts (All-tail (IsPartOf names) a parts of))

  pub state_one : (told : ToldState) → All (IsPartOf names) told.parts → IsOneLine (state_words names told)
  state_one told of =
      joined (state_opening told.state) (flat_map (spaced_text names) told.parts)
      (joined (codes "state ") (decimal told.state ++ codes ":") (written_out (codes "state ") refl) (joined (decimal told.state) (codes ":") (decimal_one told.state) (written_out (codes ":") refl)))
      (parts_one told.parts of)

  values_one : (ts : List Tree) → IsOneLine (flat_map shown_value ts)
  values_one [] = nothing
  values_one (t ∷ ts) = joined (shown_value t) (flat_map shown_value ts) (joined (codes " ") (text_of t) (written_out (codes " ") refl) (plain_one (text_of t) (text_plain t))) (values_one ts)

  pub shows_one : (shows : List (List Tree)) → All IsOneLine (map show_words shows)
  shows_one [] = All-nil IsOneLine
  shows_one (ts ∷ shows) = All-cons IsOneLine (show_words ts) (map show_words shows) (joined (codes "show") (flat_map shown_value ts) (written_out (codes "show") refl) (values_one ts)) (shows_one shows)

  pub further_one : (lines : List (List ℕ)) → All IsTraceLine lines → All IsOneLine lines
  further_one [] h = All-nil IsOneLine
  further_one (l ∷ ls) h = All-cons IsOneLine l ls (All-head IsTraceLine l ls h).0 (further_one ls (All-tail IsTraceLine l ls h))

  words_one : (states : List TracedState) → All (IsTraced names) states → All IsOneLine (flat_map (all_words names) states)
  words_one [] h = All-nil IsOneLine
  words_one (s ∷ states) h =
      let one = All-head (IsTraced names) s states h in
      All-append IsOneLine (all_words names s) (flat_map (all_words names) states)
      (All-append IsOneLine (told_words names s.told) s.further (All-cons IsOneLine (state_words names s.told) (map show_words s.told.shows) (state_one s.told one.told.variables) (shows_one s.told.shows)) (further_one s.further one.further))
      (words_one states (All-tail (IsTraced names) s states h))

-- ---- what is left without the trace lines

abbrev is_other : List ℕ → Bool
is_other line = not (opens_with_one trace_openings line)

abbrev others : List (List ℕ) → List (List ℕ)
others lines = filter is_other lines

others_append : (xs ys : List (List ℕ)) → others (xs ++ ys) ≡ others xs ++ others ys
others_append [] ys = refl
others_append (x ∷ xs) ys = go (is_other x) (others_append xs ys)
  where
    go : (b : Bool) → others (xs ++ ys) ≡ others xs ++ others ys → cond b (x ∷ others (xs ++ ys)) (others (xs ++ ys)) ≡ cond b (x ∷ others xs) (others xs) ++ others ys
    go true e = ap (λ l. x ∷ l) e
    go false e = e

others_of_shows : (shows : List (List Tree)) → others (map show_words shows) ≡ map show_words shows
others_of_shows [] = refl
others_of_shows (ts ∷ shows) = ap (λ l. show_words ts ∷ l) (others_of_shows shows)

others_of_told : (names : List (List ℕ)) (told : ToldState) → others (told_words names told) ≡ told_words names told
others_of_told names told = ap (λ l. state_words names told ∷ l) (others_of_shows told.shows)

others_of_further : (lines : List (List ℕ)) → All IsTraceLine lines → others lines ≡ []
others_of_further [] h = refl
others_of_further (l ∷ ls) h = ap (λ b. cond (not b) (l ∷ others ls) (others ls)) (All-head IsTraceLine l ls h).1 ∙ others_of_further ls (All-tail IsTraceLine l ls h)

abbrev pub told_of_traced : TracedState → ToldState
told_of_traced s = s.told

others_of_states : (names : List (List ℕ)) (states : List TracedState) → All (IsTraced names) states → others (flat_map (all_words names) states) ≡ flat_map (told_words names) (map told_of_traced states)
others_of_states names [] h = refl
others_of_states names (s ∷ states) h =
    let one = All-head (IsTraced names) s states h in
    let here : others (all_words names s) ≡ told_words names s.told =
    others_append (told_words names s.told) s.further ∙ (ap₂ (λ a b. a ++ b) (others_of_told names s.told) (others_of_further s.further one.further) ∙ append-nil (told_words names s.told)) in
    others_append (all_words names s) (flat_map (all_words names) states) ∙ ap₂ (λ a b. a ++ b) here (others_of_states names states (All-tail (IsTraced names) s states h))

told_all_fed : (names : List (List ℕ)) (told : List ToldState) → flat_map fed_line (flat_map (told_words names) told) ≡ told_text names told
told_all_fed names [] = refl
told_all_fed names (t ∷ told) = flat_map-append fed_line (told_words names t) (flat_map (told_words names) told) ∙ ap₂ (λ a b. a ++ b) (sym (told_fed names t)) (told_all_fed names told)

-- ---- the end line

limit_other : (globals : List (List ℕ)) (known : List Variable) (reductions state : ℕ) (kind : LimitKind) → is_other (last_words globals known reductions (Over state kind)) ≡ true
limit_other globals known reductions state limit.Reductions = refl
limit_other globals known reductions state _ = refl

-- an end line as a line
pub record EndWords (end : List ℕ) : Type 0 where
  pub words : List ℕ
  pub one : IsOneLine words
  pub other : is_other words ≡ true
  pub fed : end ≡ fed_line words

pub end_words : (names : List (List ℕ)) (end : List ℕ) → IsOneEndLine names end → EndWords end
end_words names end (known, reductions, answer, last, one, is) = by answer last one is
  where
    made : (words : List ℕ) → IsOneLine words → is_other words ≡ true → end ≡ fed_line words → EndWords end
    made words a b c = record { words = words; one = a; other = b; fed = c }

    by : (answer : Turn) → IsLastTurn answer → IsOneLine (last_words names known reductions answer) → end ≡ end_line names known reductions answer → EndWords end
    by Went last one is = absurd last
    by (Finished n) last one is = made (last_words names known reductions (Finished n)) one refl is
    by (Contradictory state clash) last one is = made (last_words names known reductions (Contradictory state clash)) one refl is
    by (Undetermined state cell) last one is = made (last_words names known reductions (Undetermined state cell)) one refl is
    by (StateLimit states) last one is = made (last_words names known reductions (StateLimit states)) one refl is
    by (InputMissing state port) last one is = made (last_words names known reductions (InputMissing state port)) one refl is
    by (Over state kind) last one is = made (last_words names known reductions (Over state kind)) one (limit_other names known reductions state kind) is

-- ---- one reading

module _ (names : List (List ℕ)) (are : AreNames names) (text : List ℕ) where
  -- all lines of a reading
  abbrev pub reading_lines : (told : List ToldState) (end : List ℕ) → ReadsTracedAs names text told end → List (List ℕ)
  reading_lines told end r = flat_map (all_words names) r.states ++ (end_words names end r.last).words ∷ []

  pub lines_one : (told : List ToldState) (end : List ℕ) (r : ReadsTracedAs names text told end) → All IsOneLine (reading_lines told end r)
  lines_one told end r =
      let last = end_words names end r.last in
      All-append IsOneLine (flat_map (all_words names) r.states) (last.words ∷ []) (words_one names are r.states r.are) (All-cons IsOneLine last.words [] last.one (All-nil IsOneLine))

  pub lines_fed : (told : List ToldState) (end : List ℕ) (r : ReadsTracedAs names text told end) → text ≡ flat_map fed_line (reading_lines told end r)
  lines_fed told end r =
      let last = end_words names end r.last in
      r.whole ∙ (ap₂ (λ a b. a ++ b) (traced_fed names r.states) (last.fed ∙ sym (append-nil (fed_line last.words))) ∙ sym (flat_map-append fed_line (flat_map (all_words names) r.states) (last.words ∷ [])))

  -- what is left of them
  lines_left : (told : List ToldState) (end : List ℕ) (r : ReadsTracedAs names text told end) → flat_map fed_line (others (reading_lines told end r)) ≡ told_text names told ++ end
  lines_left told end r =
      let last = end_words names end r.last in
      let front : others (flat_map (all_words names) r.states) ≡ flat_map (told_words names) told = others_of_states names r.states r.are ∙ ap (flat_map (told_words names)) (sym r.told_is) in
      let back : others (last.words ∷ []) ≡ last.words ∷ [] = ap (λ b. cond b (last.words ∷ []) []) last.other in
      ap (flat_map fed_line) (others_append (flat_map (all_words names) r.states) (last.words ∷ []) ∙ ap₂ (λ a b. a ++ b) front back)
      ∙ (flat_map-append fed_line (flat_map (told_words names) told) (last.words ∷ []) ∙ ap₂ (λ a b. a ++ b) (told_all_fed names told) (append-nil (fed_line last.words) ∙ sym last.fed))

  told_is_of : (told : List ToldState) (end : List ℕ) → ReadsTracedAs names text told end → All (IsToldOf names) told
  told_is_of told end r = subst (All (IsToldOf names)) (sym r.told_is) (go r.states r.are)
    where
      go : (states : List TracedState) → All (IsTraced names) states → All (IsToldOf names) (map told_of_traced states)
      go [] h = All-nil (IsToldOf names)
      go (s ∷ states) h = All-cons (IsToldOf names) s.told (map told_of_traced states) (All-head (IsTraced names) s states h).told (go states (All-tail (IsTraced names) s states h))

  end_of : (end : List ℕ) → IsOneEndLine names end → IsEndLine names end
  end_of end (known, reductions, answer, last, one, is) = (known, reductions, answer, last, is)

  pub traced_once : (told other : List ToldState) (end last : List ℕ) → ReadsTracedAs names text told end → ReadsTracedAs names text other last → (told ≡ other) × (end ≡ last)
  traced_once told other end last r s =
      let same = same_lines (reading_lines told end r) (reading_lines other last s) (lines_one told end r) (lines_one other last s) (sym (lines_fed told end r) ∙ lines_fed other last s) in
      let left : told_text names told ++ end ≡ told_text names other ++ last = sym (lines_left told end r) ∙ (ap (λ l. flat_map fed_line (others l)) same ∙ lines_left other last s) in
      texts_tell.once names are told other (told_is_of told end r) (told_is_of other last s) end last (end_of end r.last) (end_of last s.last) left
