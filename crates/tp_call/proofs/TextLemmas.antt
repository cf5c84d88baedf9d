-- What the text of a run says to whoever has it alone.
use Rattle.std.proofs.Common.{◌≡◌, ◌↔◌, ◌<◌, ◌^◌, ℕ, suc, List, [], ◌∷◌, ◌++◌, length, map, drop, All, Option, refl, sym, ap, ◌∙◌, subst, arith, codes, append_assoc}
use Rattle.std.specs.Fmt.{decimal}
use Rattle.std.proofs.lemmas.List.{length-map, append-nil}
use Rattle.std.proofs.lemmas.List.Elements.{All-nil, All-cons, All-head, All-tail}
use Rattle.std.proofs.lemmas.Fmt.{decimal_injective}
use Rattle.std.proofs.lemmas.Grind.{flat_map-append}
use Rattle.tp_io.specs.Held.{Held}
use Rattle.tp_meaning.specs.Course.{Course, Shows, ◌⊕◌, shown_at}
use Rattle.tp_meaning.specs.Fits.{ProgramFits}
use Rattle.tp_decide.specs.Read.{shows_of}
use Rattle.tp_show.specs.declared.turn.Picture.{Picture}
use Rattle.tp_show.specs.declared.turn.Turn.{Turn}
use Rattle.tp_show.specs.declared.turn.Turn.TheVariants as turn
use Rattle.tp_show.specs.FactsOf.{AreFactsOf, pictures_text}
use Rattle.tp_show.specs.Line.{ToldState, told_of, told_text, picture_lines}
use Rattle.tp_show.specs.Texts.{end_line}
use Rattle.tp_show.specs.Told.{IsPictureInRange, FitsIn64Bits, IsEndLine, IsLastTurn, AgreesWithTold, told_shows}
use Rattle.tp_show.specs.ToldLaws.{IsStateOf}
use Rattle.tp_show.proofs.ReadBackLemmas.{texts_tell, pictures_told, are_told}
use Rattle.tp_scene.specs.Pick.{Moment}
use Rattle.tp_scene.specs.Beginning.{first_moment}
use Rattle.tp_run.specs.History.{Plan, StatesLead, LeadsTo, RunEndsWith, AgreesWithPictures, shown_from, SatisfiedExactly, ContinuesEach}
use Rattle.tp_call.specs.declared.status.Status.{Status}
use Rattle.tp_call.specs.Run.{known_at_end, states_text, lead_text, ended_text}
use Rattle.tp_call.specs.Answer.{Prints, run_text}
use Rattle.tp_call.specs.Text.{ReadsAs, finished_line, SatisfiedAsTold, ContinuesTold, TextTells}
use Rattle.tp_call.proofs.FactLemmas.{run_facts}
use Rattle.tp_words.specs.declared.beside.Beside.TheVariants.{Nothing}

-- what is told of pictures, one after the other
abbrev pub told_all : List Picture → List ToldState
told_all pictures = map told_of pictures

shows_told : (a : ℕ) (ps : List Picture) → shown_from a ps ≡ told_shows a (told_all ps)
shows_told a [] = refl
shows_told a (p ∷ ps) = ap (λ (T : Shows). shown_at a (shows_of p.shows) ⊕ T) (shows_told (suc a) ps)

pub all_states_of : (names : List (List ℕ)) (ps : List Picture) → All (λ (p : Picture). AreFactsOf names p.facts) ps → All IsPictureInRange ps → All (IsStateOf names) ps
all_states_of names [] f r = All-nil (IsStateOf names)
all_states_of names (p ∷ ps) f r =
    let Facts : Picture → Type 0 = λ (q : Picture). AreFactsOf names q.facts in
    All-cons (IsStateOf names) p ps
    (record { facts = All-head Facts p ps f; range = All-head IsPictureInRange p ps r })
    (all_states_of names ps (All-tail Facts p ps f) (All-tail IsPictureInRange p ps r))

-- states agree with pictures exactly where they agree with what is told of them
agree_told : (names : List (List ℕ)) (s : Course) (a : ℕ) (ps : List Picture) → All (λ (p : Picture). AreFactsOf names p.facts) ps → AgreesWithPictures s a ps ↔ AgreesWithTold s a (told_all ps)
agree_told names s a [] f = (λ h. h, λ h. h)
agree_told names s a (p ∷ ps) f =
    let Facts : Picture → Type 0 = λ (q : Picture). AreFactsOf names q.facts in
    let one = texts_tell.facts names p.facts (All-head Facts p ps f) (s a).values in
    let more = agree_told names s (suc a) ps (All-tail Facts p ps f) in
    (λ h. (one.0 h.0, more.0 h.1), λ h. (one.1 h.0, more.1 h.1))

module _ (plan : Plan) (names : List (List ℕ)) (ps : List Picture) (facts : All (λ (p : Picture). AreFactsOf names p.facts) ps) where
  pub exactly_told : (n : ℕ) → SatisfiedExactly plan ps n → SatisfiedAsTold plan (told_all ps) n
  exactly_told n h s a b S =
      let both = agree_told names s a ps facts in (
        λ x. let y = (h s a b S).0 x in (y.0, y.1, both.0 y.2, y.3 ∙ shows_told a ps),
        λ y. (h s a b S).1 (y.0, y.1, both.1 y.2, y.3 ∙ sym (shows_told a ps)),
      )

  pub continues_told : ContinuesEach plan ps → ContinuesTold plan (told_all ps)
  continues_told h s a b S x =
      let y = h s a b S x in
      let count : length (told_all ps) ≡ length ps = length-map ps told_of in (
        omega (arith, y.0, count),
        (agree_told names s a ps facts).0 y.1,
        λ j less. y.2 j (omega (arith, less, count)) ∙ ap (λ (T : Shows). T j) (shows_told a ps),
      )

-- the last lines of two lengths
pub finished_length : (m n : ℕ) → m < 2 ^ 64 → n < 2 ^ 64 → finished_line m ≡ finished_line n → m ≡ n
finished_length m n p q e = decimal_injective m n p q (drop_end (decimal m) (decimal n) (ap (drop 17) e)) where
  drop_end : (a b : List ℕ) → a ++ codes "\n" ≡ b ++ codes "\n" → a ≡ b
  drop_end [] [] h = refl
  drop_end [] (y ∷ []) h = absurd (cc)
  drop_end [] (y ∷ z ∷ b) h = absurd (cc)
  drop_end (x ∷ []) [] h = absurd (cc)
  drop_end (x ∷ z ∷ a) [] h = absurd (cc)
  drop_end (x ∷ a) (y ∷ b) h = let head : x ≡ y = cc in let tail : a ≡ b = drop_end a b (cc) in cc

-- with nothing beside them the text of states is that of their pictures
lines_more : (names : List (List ℕ)) (pictures : List Picture) (picture : Picture) → pictures_text names (pictures ++ picture ∷ []) ≡ pictures_text names pictures ++ picture_lines names picture
lines_more names pictures picture =
    flat_map-append (picture_lines names) pictures (picture ∷ []) ∙ ap (λ l. pictures_text names pictures ++ l) (append-nil (picture_lines names picture))

untraced_states : (plan : Plan) (n : ℕ) (m : Moment) (ps : List Picture) (last : Moment) (leads : StatesLead plan n m ps last) → states_text Nothing plan n m ps last leads ≡ pictures_text plan.program.globals ps
untraced_states plan n m [] last leads = refl
untraced_states plan n m (p ∷ ps) last leads = ap (λ l. picture_lines plan.program.globals p ++ l) (untraced_states plan (suc n) leads.0 ps last leads.2)

pub untraced_end : (plan : Plan) (ps : List Picture) (answer : Turn) (end : RunEndsWith plan ps answer) → ended_text Nothing plan ps answer end ≡ pictures_text plan.program.globals ps
untraced_end plan ps answer end = by answer end where
  lead : (m : Moment) (leads : LeadsTo plan ps m) → lead_text Nothing plan ps m leads ≡ pictures_text plan.program.globals ps
  lead m leads = untraced_states plan 0 (first_moment plan.program.globals plan.program.main) ps m leads

  by : (turn : Turn) (end : RunEndsWith plan ps turn) → ended_text Nothing plan ps turn end ≡ pictures_text plan.program.globals ps
  by turn.Went end = absurd end
  by (turn.Finished n) end =
      let names = plan.program.globals in
      let before = untraced_states plan 0 (first_moment names plan.program.main) end.before end.moment end.leads in
      ap (λ l. l ++ picture_lines names end.final) before ∙ (sym (lines_more names end.before end.final) ∙ ap (pictures_text names) (sym end.pictures))
  by (turn.Contradictory state clash) end = lead end.0 end.1
  by (turn.Undetermined state cell) end = lead end.0 end.1
  by (turn.StateLimit states) end = lead end.0 end.1
  by (turn.InputMissing state port) end = lead end.0 end.1
  by (turn.Over state limit) end = lead end.0 end.1

-- a run's text can be read, and is read as its states and its end line alone
module _ (words : List (List ℕ)) (held : Option Held) (old new : Option (List ℕ)) (status : Status) (P : Plan → List Picture → Type 0) (prints : Prints words held old new status P) (plain : prints.asked.wanted.beside ≡ Nothing) (fits : ProgramFits prints.plan.program) (last : IsLastTurn prints.run.answer) where
  abbrev globals : List (List ℕ)
  globals = prints.plan.program.globals

  facts : All (λ (p : Picture). AreFactsOf globals p.facts) prints.pictures
  facts = run_facts prints.plan prints.pictures prints.run.answer fits prints.run.run

  abbrev own_end : List ℕ
  own_end = end_line globals (known_at_end prints.run) prints.plan.reductions prints.run.answer

  is_end : IsEndLine globals own_end
  is_end = (known_at_end prints.run, prints.plan.reductions, prints.run.answer, last, refl)

  abbrev own_text : List ℕ
  own_text = run_text prints.asked.wanted.beside prints.run

  whole : own_text ≡ told_text globals (told_all prints.pictures) ++ own_end
  whole =
      let states = untraced_end prints.plan prints.pictures prints.run.answer prints.run.run ∙ pictures_told globals prints.pictures in
      ap (λ t. ended_text t prints.plan prints.pictures prints.run.answer prints.run.run ++ own_end) plain ∙ ap (λ l. l ++ own_end) states

  own : ReadsAs globals own_text (told_all prints.pictures) own_end
  own = record { states = are_told globals prints.pictures (all_states_of globals prints.pictures facts prints.range); last = is_end; whole = whole }

  once : (other : List ToldState) (end : List ℕ) → ReadsAs globals own_text other end → (told_all prints.pictures ≡ other) × (own_end ≡ end)
  once other end r = texts_tell.once globals prints.names (told_all prints.pictures) other own.states r.states own_end end is_end r.last (sym own.whole ∙ r.whole)

  pub text_tells : (Q : Plan → List ToldState → List ℕ → Type 0) → Q prints.plan (told_all prints.pictures) own_end → TextTells words held old new Q
  text_tells Q h = record {
    plan = prints.plan;
    asked = prints.asked;
    text = own_text;
    appended = prints.appended;
    told = told_all prints.pictures;
    end = own_end;
    reads = own;
    means = λ other end r. let e = once other end r in subst (λ t. Q prints.plan t end) e.0 (subst (λ l. Q prints.plan (told_all prints.pictures) l) e.1 h);
  }

  pub tells_open : ContinuesEach prints.plan prints.pictures → TextTells words held old new (λ plan told end. ContinuesTold plan told)
  tells_open h = text_tells (λ plan told end. ContinuesTold plan told) (continues_told prints.plan globals prints.pictures facts h)

  pub tells_finished : (n : ℕ) → prints.run.answer ≡ turn.Finished n → n < 2 ^ 64 → SatisfiedExactly prints.plan prints.pictures n
      → TextTells words held old new (λ plan told end. (m : ℕ) → FitsIn64Bits m → end ≡ finished_line m → SatisfiedAsTold plan told m)
  tells_finished n answer small h =
      let told = exactly_told prints.plan globals prints.pictures facts n h in
      let line : own_end ≡ finished_line n = ap (end_line globals (known_at_end prints.run) prints.plan.reductions) answer ∙ append_assoc (codes "finished: length ") (decimal n) (codes "\n") in
      text_tells (λ plan told end. (m : ℕ) → FitsIn64Bits m → end ≡ finished_line m → SatisfiedAsTold plan told m)
      (λ m fit e. subst (SatisfiedAsTold prints.plan (told_all prints.pictures)) (finished_length n m small fit (sym line ∙ e)) told)
