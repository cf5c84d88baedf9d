-- The lines of a trace so far.
use Rattle.std.proofs.Common.{◌≡◌, ℕ, zero, suc, ◌+◌, ◌<◌, ◌^◌, true, false, inl, inr, ◌⊎◌, List, [], ◌∷◌, ◌++◌, length, refl, sym, ap, ◌∙◌, subst, arith, append_assoc, append-nil, codes, length-append}
use Rattle.std.specs.Fmt.{decimal}
use Rattle.std.specs.Str.Lines.{lines}
use Rattle.std.proofs.lemmas.Fmt.{decimal_by_steps}
use Rattle.std.proofs.lemmas.List.{nil_from_length}
use Rattle.tp_show.specs.declared.named_fact.NamedFact.{NamedFact}
use Rattle.tp_show.specs.declared.trace_line.LineKind.{LineKind}
use Rattle.tp_show.specs.TraceReading.{IsKindOf}
use Rattle.tp_show.specs.Trace.{none, IsStateLine, is_passed_over, ends_trace, GoesOnWith, stop, state, passed, end, IsTrace, BeginsTrace, IsFirstBadLine, no_line, not_allowed}
use Rattle.tp_show.proofs.TraceLines.{state_no_other, passed_no_end, state_unique}

abbrev pub Lines : Type 0
Lines = List (List ℕ)

abbrev pub States : Type 0
States = List (List NamedFact)

-- ---- what the next line is

pub record NextState (n : ℕ) (line : List ℕ) (texts : Lines) (states : States) : Type 0 where
  pub facts : List NamedFact
  pub more : States
  pub is_line : IsStateLine n line facts
  pub later : GoesOnWith (suc n) texts more
  pub all : states ≡ facts ∷ more

pub record NextPassed (n : ℕ) (line : List ℕ) (texts : Lines) (states : States) : Type 0 where
  pub some : 0 < n
  pub is_line : is_passed_over line ≡ true
  pub later : GoesOnWith n texts states

pub record NextEnd (n : ℕ) (line : List ℕ) (texts : Lines) (states : States) : Type 0 where
  pub some : 0 < n
  pub is_line : ends_trace line ≡ true
  pub last : texts ≡ []
  pub none_more : states ≡ []

abbrev pub Next : ℕ → Lines → States → Type 0
Next n [] states = states ≡ []
Next n (line ∷ texts) states = NextState n line texts states ⊎ (NextPassed n line texts states ⊎ NextEnd n line texts states)

pub next : {n : ℕ} {texts : Lines} {states : States} → GoesOnWith n texts states → Next n texts states
next stop = refl
next (state {facts = facts} {states = states} s g) = inl (record { facts = facts; more = states; is_line = s; later = g; all = refl })
next (passed p g) = inr (inl (record { some = omega arith; is_line = p; later = g }))
next (end e) = inr (inr (record { some = omega arith; is_line = e; last = refl; none_more = refl }))

one_more : (n : ℕ) → 0 < n → (m : ℕ) × (n ≡ suc m)
one_more zero h = absurd (omega (arith, h))
one_more (suc m) h = (m, refl)

goes_passed : (n : ℕ) (line : List ℕ) (texts : Lines) (states : States) → 0 < n → is_passed_over line ≡ true → GoesOnWith n texts states → GoesOnWith n (line ∷ texts) states
goes_passed n line texts states some p g =
    let m = one_more n some in
    subst (λ (k : ℕ). GoesOnWith k (line ∷ texts) states) (sym m.1) (passed p (subst (λ (k : ℕ). GoesOnWith k texts states) m.1 g))

goes_end : (n : ℕ) (line : List ℕ) → 0 < n → ends_trace line ≡ true → GoesOnWith n (line ∷ []) []
goes_end n line some e = let m = one_more n some in subst (λ (k : ℕ). GoesOnWith k (line ∷ []) []) (sym m.1) (end e)

goes_state : (n : ℕ) (m : ℕ) (line : List ℕ) (texts : Lines) (facts : List NamedFact) (states : States) → m ≡ suc n → IsStateLine n line facts → GoesOnWith m texts states → GoesOnWith n (line ∷ texts) (facts ∷ states)
goes_state n m line texts facts states e s g = state s (subst (λ (k : ℕ). GoesOnWith k texts states) e g)

-- ---- the lines so far

-- of all lines those before the rest have been read, with these states, and the next one has this number
pub record TraceSoFar (all rest : Lines) (line : ℕ) (states : States) : Type 0 where
  pub done : Lines
  pub split : all ≡ done ++ rest
  pub number : line ≡ suc (length done)
  pub first : length states ≡ 0 → done ≡ []
  pub back : (tail : Lines) (more : States) → GoesOnWith (length states) tail more → GoesOnWith 0 (done ++ tail) (states ++ more)
  pub ahead : (tail : Lines) (every : States) → GoesOnWith 0 (done ++ tail) every → (more : States) × GoesOnWith (length states) tail more × (every ≡ states ++ more)

pub so_far_start : (all : Lines) → TraceSoFar all all 1 []
so_far_start all = record { done = []; split = refl; number = refl; first = λ e. refl; back = λ tail more g. g; ahead = λ tail every g. (every, g, refl) }

-- a line that is read behind the lines so far
pub record LineRead (all rest : Lines) (text : List ℕ) (line : ℕ) (states : States) (kind : LineKind) : Type 0 where
  pub so_far : TraceSoFar all (text ∷ rest) line states
  pub small : length states < 2 ^ 64
  pub told : IsKindOf (length states) text kind

pub line_read : (all rest left : Lines) (text : List ℕ) (line : ℕ) (states : States) (kind : LineKind) (count : ℕ) → TraceSoFar all left line states → left ≡ text ∷ rest → count ≡ length states → count < 2 ^ 64 → IsKindOf count text kind
    → LineRead all rest text line states kind
line_read all rest left text line states kind count z split number small told = record {
  so_far = subst (λ (ls : Lines). TraceSoFar all ls line states) split z;
  small = omega (arith, number, small);
  told = subst (λ (k : ℕ). IsKindOf k text kind) number told;
}

-- where no byte is left all lines have been read
pub all_read : (all : Lines) (bytes : List ℕ) (line : ℕ) (states : States) → length bytes ≡ 0 → TraceSoFar all (lines bytes) line states → TraceSoFar all [] line states
all_read all bytes line states empty = subst (λ (ls : Lines). TraceSoFar all ls line states) (ap lines (nil_from_length bytes empty))

module _ (all rest : Lines) (text : List ℕ) (line : ℕ) (states : States) (small : length states < 2 ^ 64) (z : TraceSoFar all (text ∷ rest) line states) where
  joined : (tail : Lines) → (z.done ++ text ∷ []) ++ tail ≡ z.done ++ text ∷ tail
  joined tail = append_assoc z.done (text ∷ []) tail

  longer : line + 1 ≡ suc (length (z.done ++ text ∷ []))
  longer = let n = z.number in let l = length-append z.done (text ∷ []) in omega (arith, n, l)

  pub so_far_state : (facts : List NamedFact) → IsStateLine (length states) text facts → TraceSoFar all rest (line + 1) (states ++ facts ∷ [])
  so_far_state facts s = record {
    done = z.done ++ text ∷ [];
    split = z.split ∙ sym (joined rest);
    number = longer;
    first = λ e. let l = length-append states (facts ∷ []) in absurd (omega (arith, e, l));
    back = λ tail more g.
        let h : GoesOnWith 0 (z.done ++ text ∷ tail) (states ++ facts ∷ more) = z.back (text ∷ tail) (facts ∷ more) (goes_state (length states) (length (states ++ facts ∷ [])) text tail facts more (length-append states (facts ∷ []) ∙ omega arith) s g) in
        subst (λ (ts : Lines). GoesOnWith 0 ts ((states ++ facts ∷ []) ++ more)) (sym (joined tail)) (subst (λ (ss : States). GoesOnWith 0 (z.done ++ text ∷ tail) ss) (sym (append_assoc states (facts ∷ []) more)) h);
    ahead = λ tail every g. (let a = z.ahead (text ∷ tail) every (subst (λ (ts : Lines). GoesOnWith 0 ts every) (joined tail) g) in onward tail every a.0 a.2 (next a.1));
  }
    where
      onward : (tail : Lines) (every more : States) → every ≡ states ++ more → Next (length states) (text ∷ tail) more → (later : States) × GoesOnWith (length (states ++ facts ∷ [])) tail later × (every ≡ (states ++ facts ∷ []) ++ later)
      onward tail every more same (inl t) =
          let one : t.facts ≡ facts = state_unique (length states) text t.facts facts t.is_line s in (
            t.more,
            subst (λ (k : ℕ). GoesOnWith k tail t.more) (sym (length-append states (facts ∷ []) ∙ omega arith)) t.later,
            same ∙ (ap (λ (x : States). states ++ x) (t.all ∙ ap (λ (f : List NamedFact). f ∷ t.more) one) ∙ sym (append_assoc states (facts ∷ []) t.more)),
          )
      onward tail every more same (inr (inl p)) = let no = (state_no_other (length states) text facts small s).0 in absurd (cc (sym p.is_line ∙ no))
      onward tail every more same (inr (inr e)) = let no = (state_no_other (length states) text facts small s).1 in absurd (cc (sym e.is_line ∙ no))

  pub so_far_passed : 0 < length states → is_passed_over text ≡ true → TraceSoFar all rest (line + 1) states
  so_far_passed some p = record {
    done = z.done ++ text ∷ [];
    split = z.split ∙ sym (joined rest);
    number = longer;
    first = λ e. absurd (omega (arith, e, some));
    back = λ tail more g. subst (λ (ts : Lines). GoesOnWith 0 ts (states ++ more)) (sym (joined tail)) (z.back (text ∷ tail) more (goes_passed (length states) text tail more some p g));
    ahead = λ tail every g. (let a = z.ahead (text ∷ tail) every (subst (λ (ts : Lines). GoesOnWith 0 ts every) (joined tail) g) in onward tail every a.0 a.2 (next a.1));
  }
    where
      onward : (tail : Lines) (every more : States) → every ≡ states ++ more → Next (length states) (text ∷ tail) more → (later : States) × GoesOnWith (length states) tail later × (every ≡ states ++ later)
      onward tail every more same (inl t) = let no = (state_no_other (length states) text t.facts small t.is_line).0 in absurd (cc (sym p ∙ no))
      onward tail every more same (inr (inl q)) = (more, q.later, same)
      onward tail every more same (inr (inr e)) = let no = passed_no_end text p in absurd (cc (sym e.is_line ∙ no))

  some_states : (every more : States) → every ≡ states ++ more → 0 < length states → 0 < length every
  some_states every more e some = let l = ap length e in let k = length-append states more in omega (arith, l, k, some)

  pub end_whole : rest ≡ [] → 0 < length states → ends_trace text ≡ true → IsTrace all states
  end_whole last some e =
      let whole : z.done ++ text ∷ [] ≡ all = sym (z.split ∙ ap (λ (ts : Lines). z.done ++ text ∷ ts) last) in
      let h : GoesOnWith 0 (z.done ++ text ∷ []) (states ++ []) = z.back (text ∷ []) [] (goes_end (length states) text some e) in
      record { lines_told = subst (λ (ts : Lines). GoesOnWith 0 ts states) whole (subst (λ (ss : States). GoesOnWith 0 (z.done ++ text ∷ []) ss) (append-nil states) h); some_state = some }

bad_from : (all before after : Lines) (text : List ℕ) (n : ℕ) → all ≡ before ++ text ∷ after → n ≡ suc (length before) → BeginsTrace before → ¬ BeginsTrace (before ++ text ∷ []) → IsFirstBadLine all n
bad_from all before after text n split number begins never =
    subst (λ (ts : Lines). IsFirstBadLine ts n) (sym split) (subst (λ (k : ℕ). IsFirstBadLine (before ++ text ∷ after) k) (sym number) (not_allowed before text after begins never))

zero_is : decimal 0 ≡ codes "0"
zero_is =
    let P : ℕ → List ℕ → Type 0 = λ n ds. n ≡ 0 → ds ≡ codes "0" in
    decimal_by_steps P (λ n low e. ap (λ (k : ℕ). (48 + k) ∷ []) e) (λ n ds high p e. absurd (omega (arith, high, e))) 0 (omega arith) refl

first_line_is : IsStateLine 0 (codes "state 0:") []
first_line_is = record { rest = []; opening = ap (λ (x : List ℕ). (codes "state " ++ (x ++ codes ":")) ++ []) (sym zero_is); parts = []; spelled = none; given = refl; no_clash = refl }

pub begins_with_nothing : BeginsTrace []
begins_with_nothing = (codes "state 0:" ∷ [], [] ∷ [], record { lines_told = state first_line_is stop; some_state = omega arith })

-- a trace begins with the lines so far
begins_so_far : (all rest : Lines) (line : ℕ) (states : States) → (z : TraceSoFar all rest line states) → BeginsTrace z.done
begins_so_far all rest line [] z = subst BeginsTrace (sym (z.first refl)) begins_with_nothing
begins_so_far all rest line (facts ∷ more) z =
    let h : GoesOnWith 0 (z.done ++ []) ((facts ∷ more) ++ []) = z.back [] [] stop in
    ([], facts ∷ more, record { lines_told = subst (λ (ss : States). GoesOnWith 0 (z.done ++ []) ss) (append-nil (facts ∷ more)) h; some_state = omega arith })

pub bad_here : (all rest : Lines) (text : List ℕ) (line : ℕ) (states : States) → TraceSoFar all (text ∷ rest) line states → ((facts : List NamedFact) → ¬ IsStateLine (length states) text facts)
    → (0 < length states → (is_passed_over text ≡ false) × (ends_trace text ≡ false)) → IsFirstBadLine all line
bad_here all rest text line states z no_state no_other =
    bad_from all z.done rest text line z.split z.number (begins_so_far all (text ∷ rest) line states z) (λ b.
    (let a = z.ahead (text ∷ b.0) b.1 (subst (λ (ts : Lines). GoesOnWith 0 ts b.1) (append_assoc z.done (text ∷ []) b.0) b.2.lines_told) in onward b.0 a.0 (next a.1)))
  where
    onward : (tail : Lines) (more : States) → Next (length states) (text ∷ tail) more → ⊥
    onward tail more (inl t) = no_state t.facts t.is_line
    onward tail more (inr (inl p)) = let no = (no_other p.some).0 in cc (sym p.is_line ∙ no)
    onward tail more (inr (inr e)) = let no = (no_other e.some).1 in cc (sym e.is_line ∙ no)

-- a line comes behind the one that ends the trace
pub bad_behind_end : (all rest : Lines) (text next_text : List ℕ) (line : ℕ) (states : States) → length states < 2 ^ 64 → TraceSoFar all (text ∷ (next_text ∷ rest)) line states → 0 < length states → ends_trace text ≡ true → IsFirstBadLine all (line + 1)
bad_behind_end all rest text next_text line states small z some e =
    bad_from all (z.done ++ text ∷ []) rest next_text (line + 1) (z.split ∙ sym (append_assoc z.done (text ∷ []) (next_text ∷ rest))) longer begins (λ b.
    (let joined : ((z.done ++ text ∷ []) ++ next_text ∷ []) ++ b.0 ≡ z.done ++ text ∷ (next_text ∷ b.0) = append_assoc (z.done ++ text ∷ []) (next_text ∷ []) b.0 ∙ append_assoc z.done (text ∷ []) (next_text ∷ b.0) in
    let a = z.ahead (text ∷ (next_text ∷ b.0)) b.1 (subst (λ (ts : Lines). GoesOnWith 0 ts b.1) joined b.2.lines_told) in onward b.0 a.0 (next a.1)))
  where
    longer : line + 1 ≡ suc (length (z.done ++ text ∷ []))
    longer = let n = z.number in let l = length-append z.done (text ∷ []) in omega (arith, n, l)

    begins : BeginsTrace (z.done ++ text ∷ [])
    begins =
        let h : GoesOnWith 0 (z.done ++ text ∷ []) (states ++ []) = z.back (text ∷ []) [] (goes_end (length states) text some e) in
        ([], states, record { lines_told = subst (λ (ts : Lines). GoesOnWith 0 ts states) (sym (append-nil (z.done ++ text ∷ []))) (subst (λ (ss : States). GoesOnWith 0 (z.done ++ text ∷ []) ss) (append-nil states) h); some_state = some })

    onward : (tail : Lines) (more : States) → Next (length states) (text ∷ (next_text ∷ tail)) more → ⊥
    onward tail more (inl t) = let no = (state_no_other (length states) text t.facts small t.is_line).1 in cc (sym e ∙ no)
    onward tail more (inr (inl p)) = let no = passed_no_end text p.is_line in cc (sym e ∙ no)
    onward tail more (inr (inr q)) = cc q.last

pub stop_whole : (all : Lines) (line : ℕ) (states : States) → TraceSoFar all [] line states → 0 < length states → IsTrace all states
stop_whole all line states z some =
    let h : GoesOnWith 0 (z.done ++ []) (states ++ []) = z.back [] [] stop in
    record { lines_told = subst (λ (ts : Lines). GoesOnWith 0 ts states) (sym z.split) (subst (λ (ss : States). GoesOnWith 0 (z.done ++ []) ss) (append-nil states) h); some_state = some }

pub stop_bad : (all : Lines) (line : ℕ) (states : States) → TraceSoFar all [] line states → length states ≡ 0 → IsFirstBadLine all 1
stop_bad all line states z none_there =
    let nothing : all ≡ [] = z.split ∙ (append-nil z.done ∙ z.first none_there) in
    subst (λ (ts : Lines). IsFirstBadLine ts 1) (sym nothing) no_line
