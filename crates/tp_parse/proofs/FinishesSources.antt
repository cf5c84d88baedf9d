-- A source whose reading came to the end of the tokens, or found no room at the last one, can be finished.
use Rattle.std.proofs.Common.{◌≡◌, ◌≢◌, ℕ, zero, suc, ◌≤◌, max, Bool, true, false, cond, ◌⊎◌, inl, inr, List, [], ◌∷◌, ◌++◌, length, drop, Ok, Err, refl, sym, ap, subst, arith}
use Rattle.tp_lex.specs.declared.token.Token.{Token}
use Rattle.tp_lex.specs.declared.token.Word.TheVariants as word
use Rattle.tp_lex.specs.declared.token.Symbol.TheVariants as symbol
use Rattle.tp_tree.specs.Levels.{chop_level}
use Rattle.tp_tree.specs.Tree.{DefinitionTree, SourceTree}
use Rattle.tp_parse.specs.declared.stop.Refusal.{Refusal}
use Rattle.tp_parse.specs.declared.stop.Refusal.TheVariants.{Unfinished}
use Rattle.tp_parse.specs.declared.mark.TokenMark.{TokenMark}
use Rattle.tp_parse.specs.declared.mark.TokenMark.TheVariants as m
use Rattle.tp_parse.specs.Marks.{same, comma, Tokens, mark, from, first_name, mark_due, past}
use Rattle.tp_parse.specs.Readers.{TokenReader, and_then, sees, lower, names, expect}
use Rattle.tp_parse.specs.Grammar.{Found, limit, Parses, Parameters, Sentence, Defines, Definitions, IsSource}
use Rattle.tp_parse.specs.Reading.{read}
use Rattle.tp_parse.specs.Source as s
use Rattle.tp_parse.specs.Grammar as g
use Rattle.tp_parse.proofs.Marks.{same_is}
use Rattle.tp_parse.proofs.Heads.{chosen, names_sound, ok_is}
use Rattle.tp_parse.proofs.Sound.{read_sound}
use Rattle.tp_parse.proofs.Exact.{parameters_sound, definition_then_is, LowDefines, definitions_sound}
use Rattle.tp_parse.proofs.Extended.{some_due, due_on, past_on, phrase_on, names_on, parameters_on, defines_on, definitions_on}
use Rattle.tp_parse.proofs.Fresh.{symbol_token, word_token, name_token, lower_token, name_found, a_name, past_whole, Closing, due_close, past_close, stops_close, by_symbol}
use Rattle.tp_parse.proofs.Finishes.{Ended, failed, bind_err, refused_end, names_finish}
use Rattle.tp_parse.proofs.FinishesPhrases.{read_finish}

-- ---- steps

gate_err : {A B : Type 0} (b : Bool) (x : A × Tokens) (d : Refusal) (f : A → TokenReader B) (e : Refusal) → and_then (cond b (Ok x) (Err d)) f ≡ Err e
    → (failed {A = B} d ≡ Err e) ⊎ ((b ≡ true) × (f x.0 x.1 ≡ Err e))
gate_err true x d f e is = inr (refl, is)
gate_err false x d f e is = inl is

expect_then_err : {B : Type 0} (x : TokenMark) (ts : Tokens) (f : Unit {0} → TokenReader B) (e : Refusal) → and_then (expect x ts) f ≡ Err e → Ended e
    → (ts ≡ []) ⊎ ((mark_due ts ≡ x) × (f tt (past ts) ≡ Err e))
unfolding expect
expect_then_err x ts f e is end = elim (gate_err (same (mark_due ts) x) (tt, past ts) _ f e is) [ inl w ↦ inl (refused_end ts e w end) | inr w ↦ inr (same_is _ _ w.0, w.1) ]

lower_then_err : {B : Type 0} (ts : Tokens) (f : List ℕ → TokenReader B) (e : Refusal) → and_then (lower ts) f ≡ Err e → Ended e
    → (ts ≡ []) ⊎ ((mark ts ≡ m.Lower) × (f (first_name ts) (drop 1 ts) ≡ Err e))
unfolding lower
lower_then_err ts f e is end = elim (gate_err (sees m.Lower ts) (first_name ts, drop 1 ts) _ f e is) [ inl w ↦ inl (refused_end ts e w end) | inr w ↦ inr (same_is _ _ w.0, w.1) ]

-- ---- sentences

stop_plain : m.Symbol symbol.Stop ≢ g.open_round
stop_plain q = absurd cc

abbrev stop : Closing (m.Symbol symbol.Stop)
stop = by_symbol symbol.Stop refl refl stop_plain

abbrev SentenceEnding : Tokens → Refusal → Type 0
SentenceEnding ts e = (next : Tokens → Tokens) × ((ys : Tokens) → (x : Found) × Sentence (ts ++ next ys) x ys × (e ≡ Unfinished → x.height ≤ limit))

stopped : {ts : Tokens} {x : Found} (ys : Tokens) → Parses chop_level ts x (stop.close ∷ ys) → Sentence ts x ys
stopped {ts} {x} ys d = subst (Sentence ts x) (past_close stop ys) (g.sentence d (due_close stop ys))

sentence_finish : (ts : Tokens) (e : Refusal) → s.sentence ts ≡ Err e → Ended e → SentenceEnding ts e
unfolding s.sentence
sentence_finish ts e is end =
    elim (bind_err (read limit chop_level ts) _ e is) [
      | inl w ↦
          let f = read_finish limit chop_level ts e w end in
          (λ ys. f.next (stop.close ∷ ys), λ ys. let made = f.finished (stop.close ∷ ys) (stops_close stop ys) in (made.0, stopped ys made.1, λ u. made.2 u (omega arith)))
      | inr w ↦
          let got = read_sound limit chop_level ts w.0 w.1 in
          elim (expect_then_err (m.Symbol symbol.Stop) w.0.1 _ e w.2 end) [
            | inl none ↦ (
              λ ys. stop.close ∷ ys,
              λ ys.
                  let more = phrase_on (stop.close ∷ ys) got.0 (record { stops = λ q. stops_close stop ys }) in
                  (w.0.0, stopped ys (subst (λ us. Parses chop_level (ts ++ stop.close ∷ ys) w.0.0 (us ++ stop.close ∷ ys)) none more), λ u. got.1),
            )
            | inr v ↦ absurd cc
          ]
    ]

-- `A.`
abbrev body : Tokens → Tokens
body ys = name_token ∷ symbol_token symbol.Stop ∷ ys

a_sentence : (ys : Tokens) → Sentence (body ys) name_found ys
a_sentence ys = stopped ys (a_name chop_level (stop.close ∷ ys) (stops_close stop ys))

-- ---- definitions

abbrev ParametersEnding : Tokens → Type 0
ParametersEnding ts = (xs : List (List ℕ)) × (next : Tokens → Tokens) × ((ys : Tokens) → Parameters (ts ++ next ys) xs ys)

close_plain : m.Symbol symbol.CloseRound ≢ g.open_round
close_plain q = absurd cc

abbrev close : Closing (m.Symbol symbol.CloseRound)
close = by_symbol symbol.CloseRound refl refl close_plain

close_named : {ts : Tokens} {xs : List (List ℕ)} (ys : Tokens) → g.ReadsNames ts xs (close.close ∷ ys) → Parameters ts xs ys
close_named {ts} {xs} ys d = subst (Parameters ts xs) (past_close close ys) (g.parameters d (due_close close ys))

close_other : (ys : Tokens) → mark (close.close ∷ ys) ≢ comma
unfolding mark
close_other ys q = absurd cc

parameters_finish : (ts : Tokens) (e : Refusal) → s.parameters ts ≡ Err e → Ended e → ParametersEnding ts
unfolding s.parameters
parameters_finish ts e is end =
    elim (chosen (sees (m.Symbol symbol.CloseRound) ts) _ _ _ is) [
      | inl w ↦ absurd cc
      | inr w ↦ elim (bind_err (names ts) _ e w.1) [
        | inl v ↦ let more = names_finish ts e v end in (more.0, λ ys. name_token ∷ close.close ∷ ys, λ ys. close_named ys (more.1 (close.close ∷ ys) (close_other ys)))
        | inr v ↦ elim (expect_then_err (m.Symbol symbol.CloseRound) v.0.1 _ e v.2 end) [
          | inl none ↦ (
            v.0.0,
            λ ys. close.close ∷ ys,
            λ ys.
                let more = names_on (close.close ∷ ys) (names_sound ts v.0 v.1) (λ q. close_other ys) in
                close_named ys (subst (λ us. g.ReadsNames (ts ++ close.close ∷ ys) v.0.0 (us ++ close.close ∷ ys)) none more),
          )
          | inr z ↦ absurd cc
        ]
      ]
    ]

abbrev DefinesEnding : Tokens → Refusal → Type 0
DefinesEnding ts e = (next : Tokens → Tokens) × ((ys : Tokens) → (d : DefinitionTree) × (h : ℕ) × Defines (ts ++ next ys) d h ys × (e ≡ Unfinished → h ≤ limit))

-- `= A.`, and `() = A.`
abbrev equal_body : Tokens → Tokens
equal_body ys = symbol_token symbol.Equal ∷ body ys

abbrev rest_of : Tokens → Tokens
rest_of ys = symbol_token symbol.OpenRound ∷ symbol_token symbol.CloseRound ∷ equal_body ys

equal_due : (ys : Tokens) → mark_due (equal_body ys) ≡ m.Symbol symbol.Equal
unfolding mark
equal_due ys = refl

equal_sentence : (ys : Tokens) → Sentence (past (equal_body ys)) name_found ys
equal_sentence ys = subst (λ us. Sentence us name_found ys) (sym (past_whole (symbol_token symbol.Equal) (body ys) refl)) (a_sentence ys)

-- a definition of which the name is the last token
of_name : (t u : Token) (ys : Tokens) → mark (t ∷ []) ≡ m.Word word.Define → mark (u ∷ []) ≡ m.Lower → (d : DefinitionTree) × (h : ℕ) × Defines (t ∷ u ∷ rest_of ys) d h ys × (h ≤ 1)
unfolding mark
of_name t u ys begins name =
    let round = symbol_token symbol.CloseRound in
    let none : Parameters (round ∷ equal_body ys) [] (equal_body ys) = g.no_parameters {ts = round ∷ equal_body ys} refl in
    let inside = subst (λ us. Parameters us [] (equal_body ys)) (sym (past_whole (symbol_token symbol.OpenRound) (round ∷ equal_body ys) refl)) none in
    (_, _, g.defines {ts = t ∷ u ∷ rest_of ys} begins name refl inside (equal_due ys) (equal_sentence ys), omega arith)

definition_finish : (ts : Tokens) (e : Refusal) → mark ts ≡ m.Word word.Define → s.definition ts ≡ Err e → Ended e → DefinesEnding ts e
unfolding s.definition mark from first_name
definition_finish [] e begins is end = absurd cc
definition_finish (t ∷ []) e begins is end = (λ ys. lower_token ∷ rest_of ys, λ ys. let made = of_name t lower_token ys begins refl in (made.0, made.1, made.2, λ u. omega (arith, made.3)))
definition_finish (t ∷ u ∷ []) e begins is end =
    elim (lower_then_err (u ∷ []) _ e is end) [
      | inl none ↦ absurd cc
      | inr w ↦ (rest_of, λ ys. let made = of_name t u ys begins w.0 in (made.0, made.1, made.2, λ q. omega (arith, made.3)))
    ]
definition_finish (t ∷ u ∷ v ∷ vs) e begins is end =
    elim (lower_then_err (u ∷ v ∷ vs) _ e is end) [
      | inl none ↦ absurd cc
      | inr w ↦ elim (expect_then_err (m.Symbol symbol.OpenRound) (v ∷ vs) _ e w.1 end) [
        | inl none ↦ absurd cc
        | inr x ↦ elim (bind_err (s.parameters (past (v ∷ vs))) _ e x.1) [
          | inl y ↦
              let f = parameters_finish (past (v ∷ vs)) e y end in (
                λ ys. f.1 (equal_body ys),
                λ ys.
                    let ws = f.1 (equal_body ys) in
                    let inside = subst (λ us. Parameters us f.0 (equal_body ys)) (sym (past_on (v ∷ vs) ws (omega arith))) (f.2 (equal_body ys)) in
                    (_, _, g.defines {ts = t ∷ u ∷ v ∷ vs ++ ws} begins w.0 x.0 inside (equal_due ys) (equal_sentence ys), λ q. omega arith),
              )
          | inr y ↦
              let read = parameters_sound (past (v ∷ vs)) y.0 y.1 in
              elim (expect_then_err (m.Symbol symbol.Equal) y.0.1 _ e y.2 end) [
                | inl none ↦ (
                  equal_body,
                  λ ys.
                      let ws = equal_body ys in
                      let more = subst (λ us. Parameters (past (v ∷ vs) ++ ws) y.0.0 (us ++ ws)) none (parameters_on ws read) in
                      let inside = subst (λ us. Parameters us y.0.0 ws) (sym (past_on (v ∷ vs) ws (omega arith))) more in
                      (_, _, g.defines {ts = t ∷ u ∷ v ∷ vs ++ ws} begins w.0 x.0 inside (equal_due ys) (equal_sentence ys), λ q. omega arith),
                )
                | inr z ↦
                    let some = some_due y.0.1 _ z.0 (λ q. cc) in
                    elim (bind_err (s.sentence (past y.0.1)) _ e z.1) [
                      | inl a ↦
                          let f = sentence_finish (past y.0.1) e a end in (
                            f.0,
                            λ ys.
                                let ws = f.0 ys in
                                let made = f.1 ys in
                                let inside = subst (λ us. Parameters us y.0.0 (y.0.1 ++ ws)) (sym (past_on (v ∷ vs) ws (omega arith))) (parameters_on ws read) in
                                let main = subst (λ us. Sentence us made.0 ys) (sym (past_on y.0.1 ws some)) made.1 in
                                (_, _, g.defines {ts = t ∷ u ∷ v ∷ vs ++ ws} begins w.0 x.0 inside (due_on y.0.1 ws _ z.0 (λ q. cc)) main, made.2),
                          )
                      | inr a ↦ absurd cc
                    ]
              ]
        ]
      ]
    ]

abbrev DefinitionsEnding : Tokens → Refusal → Type 0
DefinitionsEnding ts e =
    (next : Tokens → Tokens) × ((ys : Tokens) → mark ys ≢ m.Word word.Define → (ds : List DefinitionTree) × (h : ℕ) × Definitions (ts ++ next ys) ds h ys × (e ≡ Unfinished → h ≤ limit))

definition_ok : (ts : Tokens) (q : DefinitionTree × Tokens) → mark ts ≡ m.Word word.Define → s.definition ts ≡ Ok q → (h : ℕ) × LowDefines ts q.0 h q.1
definition_ok ts q begins e =
    let got = definition_then_is ts (λ d us. Ok (d, us)) q begins (ap (λ o. and_then o (λ d us. Ok (d, us))) e) in
    (got.1, subst (λ (z : DefinitionTree × Tokens). LowDefines ts z.0 got.1 z.1) (ok_is (got.0, got.2) q got.4) got.3)

definitions_finish : (n : ℕ) (ds : List DefinitionTree) (ts : Tokens) (e : Refusal) → s.definitions_from n ds ts ≡ Err e → Ended e → DefinitionsEnding ts e
unfolding s.definitions_from
definitions_finish zero ds ts e is end = absurd cc
definitions_finish (suc n) ds ts e is end =
    elim (chosen (sees (m.Word word.Define) ts) _ _ _ is) [
      | inl w ↦
          let begins = same_is _ _ w.0 in
          elim (bind_err (s.definition ts) _ e w.1) [
            | inl v ↦
                let f = definition_finish ts e begins v end in
                (f.0, λ ys other. let made = f.1 ys in (made.0 ∷ [], max made.1 0, g.definition_then made.2 (g.no_definition other), λ u. omega (arith, made.3 u)))
            | inr v ↦
                let got = definition_ok ts v.0 begins v.1 in
                let f = definitions_finish n (ds ++ v.0.0 ∷ []) v.0.1 e v.2 end in
                (f.0, λ ys other. let made = f.1 ys other in (v.0.0 ∷ made.0, max got.0 made.1, g.definition_then (defines_on (f.0 ys) got.1.0) made.2, λ u. omega (arith, got.1.1, made.3 u)))
          ]
      | inr w ↦ absurd cc
    ]

-- ---- sources

-- an accepted source that the tokens begin, or one that may be higher where the last token found no room
abbrev pub SourceEnding : Tokens → Refusal → Type 0
SourceEnding ts e = (more : Tokens) × (x : SourceTree) × (h : ℕ) × IsSource (ts ++ more) x h × (e ≡ Unfinished → h ≤ limit)

-- `run A.`
abbrev run_body : Tokens
run_body = word_token word.Run ∷ body []

run_due : mark_due run_body ≡ m.Word word.Run
unfolding mark
run_due = refl

run_other : mark run_body ≢ m.Word word.Define
unfolding mark
run_other q = absurd cc

run_sentence : Sentence (past run_body) name_found []
run_sentence = subst (λ us. Sentence us name_found []) (sym (past_whole (word_token word.Run) (body []) refl)) (a_sentence [])

ended_err : (x : SourceTree) (ts : Tokens) (e : Refusal) → s.ended x ts ≡ Err e → Ended e → ⊥
unfolding s.ended
ended_err x [] e is end = absurd cc
ended_err x (t ∷ ts) e is end = let none = refused_end (t ∷ ts) e is end in absurd cc

pub source_finish : (ts : Tokens) (e : Refusal) → s.source ts ≡ Err e → Ended e → SourceEnding ts e
unfolding s.source s.definitions
source_finish ts e is end =
    elim (bind_err (s.definitions_from (length ts) [] ts) _ e is) [
      | inl w ↦
          let f = definitions_finish (length ts) [] ts e w end in
          let made = f.1 run_body run_other in
          (f.0 run_body, _, _, g.source made.2 run_due run_sentence refl, λ u. omega (arith, made.3 u))
      | inr w ↦
          let ds = definitions_sound (length ts) [] ts w.0 (omega arith) w.1 in
          elim (expect_then_err (m.Word word.Run) w.0.1 _ e w.2 end) [
            | inl none ↦
                let more = subst (λ us. Definitions (ts ++ run_body) ds.0 ds.1 (us ++ run_body)) none (definitions_on run_body ds.2 (λ q. run_other)) in
                (run_body, _, _, g.source more run_due run_sentence refl, λ u. omega (arith, ds.4))
            | inr v ↦
                let some = some_due w.0.1 _ v.0 (λ q. cc) in
                elim (bind_err (s.sentence (past w.0.1)) _ e v.1) [
                  | inl z ↦
                      let f = sentence_finish (past w.0.1) e z end in
                      let ws = f.0 [] in
                      let made = f.1 [] in
                      let more = definitions_on ws ds.2 (λ q. absurd (omega (arith, some, q))) in
                      let main = subst (λ us. Sentence us made.0 []) (sym (past_on w.0.1 ws some)) made.1 in
                      (ws, _, _, g.source more (due_on w.0.1 ws _ v.0 (λ q. cc)) main refl, λ u. omega (arith, ds.4, made.2 u))
                  | inr z ↦ absurd (ended_err _ _ e z.2 end)
                ]
          ]
    ]
