-- Reading a run's text back: its lines end where a line feed comes.
use Rattle.std.proofs.Common.{◌≡◌, ◌<◌, ◌^◌, ℕ, eqb, false, List, [], ◌∷◌, ◌++◌, drop, map, All, codes, refl, sym, ap, ap₂, ◌∙◌, subst, arith, append_assoc}
use Rattle.std.specs.Fmt.{decimal}
use Rattle.std.specs.List.{flat_map}
use Rattle.std.proofs.lemmas.List.Elements.{All-nil, All-cons, All-head, All-tail}
use Rattle.std.proofs.lemmas.Fmt.{decimal_injective}
use Rattle.tp_value.specs.Tree.{Tree}
use Rattle.tp_value.specs.Range.{HasMachineNumbers}
use Rattle.tp_value.specs.declared.path.Fact.{Fact}
use Rattle.tp_kernel.specs.declared.fault.LimitKind.{LimitKind}
use Rattle.tp_kernel.specs.declared.fault.LimitKind.TheVariants as limit
use Rattle.tp_store.specs.Known.{Variable}
use Rattle.tp_decide.specs.Read.{shows_of}
use Rattle.tp_show.specs.declared.turn.Picture.{Picture}
use Rattle.tp_show.specs.declared.turn.Turn.{Turn}
use Rattle.tp_show.specs.declared.turn.Turn.TheVariants.{Went, Finished, Contradictory, Undetermined, StateLimit, InputMissing, Over}
use Rattle.tp_show.specs.Line.{LinePartTree, spaced_text, ToldState, shown_value, show_line, told_lines, told_text, told_of, picture_lines}
use Rattle.tp_show.specs.FactsOf.{pictures_text}
use Rattle.tp_show.specs.Texts.{end_line}
use Rattle.tp_show.specs.Told.{AreNames, AreShowsInRange, IsToldOf, IsLastTurn, IsEndLine}
use Rattle.tp_show.proofs.ReadWordLemmas.{word_read, is_low, decimal_is_word, rest_is, decimal_low, low_apart, heads_apart}
use Rattle.tp_show.specs.ToldLaws.{IsStateOf, Shown, TextShowsStates, TextsAreReadOnce, TextsTell, shown_states}
use Rattle.tp_show.proofs.PartLemmas.{parts_read, values_read}
use Rattle.tp_show.proofs.ToldLemmas.{same_facts, parts_tell_facts, parts_of_variables}

-- the text does not begin as a line that is shown does: 104 is the `h` of `show`
abbrev EndsShows : List ℕ → Type 0
EndsShows [] = Unit {0}
EndsShows (c ∷ []) = Unit {0}
EndsShows (c ∷ d ∷ cs) = eqb d 104 ≡ false

-- a line that is shown, in pieces
show_is : (ts : List Tree) (later r : List ℕ) → (show_line ts ++ later) ++ r ≡ codes "show" ++ (flat_map shown_value ts ++ (10 ∷ (later ++ r)))
show_is ts later r = simp append_assoc

-- no text that ends the shows is a line that is shown
shows_apart : (r xs : List ℕ) → EndsShows r → r ≡ 115 ∷ 104 ∷ xs → ⊥
shows_apart [] xs h e = absurd (cc e)
shows_apart (c ∷ []) xs h e = let bad : [] ≡ 104 ∷ xs = rest_is _ _ _ _ e in absurd (cc bad)
shows_apart (c ∷ d ∷ cs) xs h e = heads_apart d 104 cs xs h (rest_is _ _ _ _ e)

-- the lines that are shown, and what follows them
shows_read : (a b : List (List Tree)) (r s : List ℕ) → AreShowsInRange a → AreShowsInRange b → EndsShows r → EndsShows s → flat_map show_line a ++ r ≡ flat_map show_line b ++ s → (a ≡ b) × (r ≡ s)
shows_read [] [] r s h k v w e = (refl, e)
shows_read [] (u ∷ b) r s h k v w e = absurd (shows_apart r _ v (e ∙ show_is u (flat_map show_line b) s))
shows_read (t ∷ a) [] r s h k v w e = absurd (shows_apart s _ w (sym e ∙ show_is t (flat_map show_line a) r))
shows_read (t ∷ a) (u ∷ b) r s h k v w e =
    let Of = All HasMachineNumbers in
    let pieces = sym (show_is t (flat_map show_line a) r) ∙ (e ∙ show_is u (flat_map show_line b) s) in
    let one = values_read t u _ _ (All-head Of t a h) (All-head Of u b k) (ap (drop 4) pieces) in
    let more = shows_read a b r s (All-tail Of t a h) (All-tail Of u b k) v w one.1 in
    (ap₂ (λ x xs. x ∷ xs) one.0 more.0, more.1)

-- what is told of a state, in pieces
told_is : (names : List (List ℕ)) (t : ToldState) (r : List ℕ) → told_lines names t ++ r ≡ codes "state " ++ (decimal t.state ++ (58 ∷ (flat_map (spaced_text names) t.parts ++ (10 ∷ (flat_map show_line t.shows ++ r)))))
told_is names t r = pieces (decimal t.state) (flat_map (spaced_text names) t.parts) (flat_map show_line t.shows) where
  pieces : (number parts shows : List ℕ) → ((codes "state " ++ number ++ codes ":" ++ parts ++ codes "\n") ++ shows) ++ r ≡ codes "state " ++ (number ++ (58 ∷ (parts ++ (10 ∷ (shows ++ r)))))
  pieces number parts shows = simp append_assoc

-- a state's text, and what follows it
told_read : (names : List (List ℕ)) (t u : ToldState) (r s : List ℕ) → AreNames names → IsToldOf names t → IsToldOf names u → EndsShows r → EndsShows s → told_lines names t ++ r ≡ told_lines names u ++ s → (t ≡ u) × (r ≡ s)
told_read names t u r s are h k v w e =
    let pieces = sym (told_is names t r) ∙ (e ∙ told_is names u s) in
    let number = word_read (decimal t.state) (decimal u.state) _ _ (decimal_is_word t.state (is_low t.state h.range.state)) (decimal_is_word u.state (is_low u.state k.range.state)) refl refl (ap (drop 6) pieces) in
    let parts = parts_read names t.parts u.parts _ _ are h.variables k.variables h.range.parts k.range.parts (rest_is _ _ _ _ number.1) in
    let shows = shows_read t.shows u.shows r s h.range.shows k.range.shows v w parts.1 in
    let make : ℕ → List LinePartTree → List (List Tree) → ToldState = λ n ps ss. record { state = n; parts = ps; shows = ss } in
    (ap₂ (λ n ps. make n ps t.shows) (decimal_injective t.state u.state h.range.state k.range.state number.0) parts.0 ∙ ap (make u.state u.parts) shows.0, shows.1)

-- An end line is no state's line, which begins with `state ` and a number, and no line that is shown.

abbrev IsApart : (names : List (List ℕ)) → List ℕ → Type 0
IsApart names end = EndsShows end × ((t : ToldState) (r : List ℕ) → t.state < 2 ^ 64 → end ≡ told_lines names t ++ r → ⊥)

-- it begins with another letter than `s`
other_letter : (names : List (List ℕ)) (c d : ℕ) (cs : List ℕ) → eqb d 104 ≡ false → eqb c 115 ≡ false → IsApart names (c ∷ d ∷ cs)
other_letter names c d cs h k = (h, λ t r low e. heads_apart c 115 _ _ k (e ∙ told_is names t r))

limit_apart : (names : List (List ℕ)) (known : List Variable) (reductions state : ℕ) (kind : LimitKind) → IsApart names (end_line names known reductions (Over state kind))
limit_apart names known reductions state limit.Reductions = other_letter names _ _ _ refl refl
limit_apart names known reductions state limit.Number = other_letter names _ _ _ refl refl
limit_apart names known reductions state limit.List = other_letter names _ _ _ refl refl
limit_apart names known reductions state limit.Calls = other_letter names _ _ _ refl refl
limit_apart names known reductions state limit.Nest = other_letter names _ _ _ refl refl

turn_apart : (names : List (List ℕ)) (known : List Variable) (reductions : ℕ) (turn : Turn) → IsLastTurn turn → IsApart names (end_line names known reductions turn)
turn_apart names known reductions Went h = absurd h
turn_apart names known reductions (Finished n) h = other_letter names _ _ _ refl refl
turn_apart names known reductions (Contradictory n clash) h = other_letter names _ _ _ refl refl
turn_apart names known reductions (Undetermined n cell) h = other_letter names _ _ _ refl refl
turn_apart names known reductions (InputMissing n port) h = other_letter names _ _ _ refl refl
turn_apart names known reductions (Over n kind) h = limit_apart names known reductions n kind
-- 108 is the `l` of `state limit`, where a state's line has a digit
turn_apart names known reductions (StateLimit n) h = (refl, λ t r low e. low_apart (decimal t.state) _ _ 108 (decimal_low t.state (is_low t.state low)) (omega arith) (sym (ap (drop 6) (e ∙ told_is names t r))))

end_apart : (names : List (List ℕ)) (end : List ℕ) → IsEndLine names end → IsApart names end
end_apart names end h = subst (IsApart names) (sym h.4) (turn_apart names h.0 h.1 h.2 h.3)

-- what follows the lines of a state ends its shows
rest_ends : (names : List (List ℕ)) (told : List ToldState) (end : List ℕ) → EndsShows end → EndsShows (told_text names told ++ end)
rest_ends names [] end h = h
rest_ends names (t ∷ told) end h = refl

pub texts_are_read_once : TextsAreReadOnce
texts_are_read_once names are [] [] n m end last h k e = (refl, e)
texts_are_read_once names are [] (u ∷ other) n m end last h k e =
    absurd ((end_apart names end h).1 u _ (All-head (IsToldOf names) u other m).range.state (e ∙ append_assoc (told_lines names u) (told_text names other) last))
texts_are_read_once names are (t ∷ told) [] n m end last h k e =
    absurd ((end_apart names last k).1 t _ (All-head (IsToldOf names) t told n).range.state (sym e ∙ append_assoc (told_lines names t) (told_text names told) end))
texts_are_read_once names are (t ∷ told) (u ∷ other) n m end last h k e =
    let Of = IsToldOf names in
    let whole = sym (append_assoc (told_lines names t) (told_text names told) end) ∙ (e ∙ append_assoc (told_lines names u) (told_text names other) last) in
    let one = told_read names t u _ _ are (All-head Of t told n) (All-head Of u other m) (rest_ends names told end (end_apart names end h).0) (rest_ends names other last (end_apart names last k).0) whole in
    let more = texts_are_read_once names are told other (All-tail Of t told n) (All-tail Of u other m) end last h k one.1 in
    (ap₂ (λ x xs. x ∷ xs) one.0 more.0, more.1)

pub texts_tell : TextsTell
texts_tell = record { once = texts_are_read_once; facts = parts_tell_facts }

-- Pictures with one text have the same states.

pub pictures_told : (names : List (List ℕ)) (ps : List Picture) → pictures_text names ps ≡ told_text names (map told_of ps)
pictures_told names [] = refl
pictures_told names (p ∷ ps) = ap (λ l. picture_lines names p ++ l) (pictures_told names ps)

pub are_told : (names : List (List ℕ)) (ps : List Picture) → All (IsStateOf names) ps → All (IsToldOf names) (map told_of ps)
are_told names [] h = All-nil (IsToldOf names)
are_told names (p ∷ ps) h =
    let first = All-head (IsStateOf names) p ps h in
    All-cons (IsToldOf names) (told_of p) (map told_of ps) (record { range = first.range; variables = parts_of_variables names p.facts first.facts.of_variables }) (are_told names ps (All-tail (IsStateOf names) p ps h))

same_states : (names : List (List ℕ)) (ps qs : List Picture) → All (IsStateOf names) ps → All (IsStateOf names) qs → map told_of ps ≡ map told_of qs → shown_states ps ≡ shown_states qs
same_states names [] [] h k e = refl
same_states names [] (q ∷ qs) h k e = absurd (cc e)
same_states names (p ∷ ps) [] h k e = absurd (cc e)
same_states names (p ∷ ps) (q ∷ qs) h k e =
    let Of = IsStateOf names in
    let told : told_of p ≡ told_of q = cc e in
    let later : map told_of ps ≡ map told_of qs = cc e in
    let facts = same_facts names p.facts q.facts (All-head Of p ps h).facts (All-head Of q qs k).facts (ap (λ (t : ToldState). t.parts) told) in
    let make : ℕ → List Fact → List (List Tree) → Shown = λ n fs ss. record { state = n; facts = fs; shows = ss } in
    let first : make p.state p.facts (shows_of p.shows) ≡ make q.state q.facts (shows_of q.shows) =
    ap₂ (λ n fs. make n fs (shows_of p.shows)) (ap (λ (t : ToldState). t.state) told) facts ∙ ap (make q.state q.facts) (ap (λ (t : ToldState). t.shows) told) in
    ap₂ (λ x xs. x ∷ xs) first (same_states names ps qs (All-tail Of p ps h) (All-tail Of q qs k) later)

pub text_shows_states : TextShowsStates
text_shows_states names are ps qs h k end last v w e =
    let whole : told_text names (map told_of ps) ++ end ≡ told_text names (map told_of qs) ++ last =
    ap (λ l. l ++ end) (sym (pictures_told names ps)) ∙ (e ∙ ap (λ l. l ++ last) (pictures_told names qs)) in
    let read = texts_are_read_once names are (map told_of ps) (map told_of qs) (are_told names ps h) (are_told names qs k) end last v w whole in
    (same_states names ps qs h k read.0, read.1)
