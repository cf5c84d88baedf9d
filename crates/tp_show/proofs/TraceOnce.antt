-- A text is one trace, or has one first bad line.
use Rattle.std.proofs.Common.{◌≡◌, ℕ, suc, ◌+◌, ◌<◌, ◌^◌, inl, inr, ◌⊎◌, List, [], ◌∷◌, ◌++◌, length, refl, sym, ap, ◌∙◌, subst, arith, append_assoc}
use Rattle.tp_show.specs.declared.named_fact.NamedFact.{NamedFact}
use Rattle.tp_show.specs.Trace.{GoesOnWith, IsTrace, BeginsTrace, IsFirstBadLine, no_line, not_allowed}
use Rattle.tp_show.specs.TraceLaws.{OneTrace, OneBadLine, NoBadTrace}
use Rattle.tp_show.proofs.TraceLines.{state_no_other, passed_no_end, state_unique}
use Rattle.tp_show.proofs.TraceRuns.{Lines, States, Next, next}

goes_by : (text : List ℕ) (texts : Lines) (n : ℕ) (ss ts : States) → n < 2 ^ 64 → ((m : ℕ) (xs ys : States) → (m ≡ n) ⊎ (m ≡ suc n) → GoesOnWith m texts xs → GoesOnWith m texts ys → xs ≡ ys)
    → Next n (text ∷ texts) ss → Next n (text ∷ texts) ts → ss ≡ ts
goes_by text texts n ss ts low later (inl a) (inl b) =
    let one : a.facts ≡ b.facts = state_unique n text a.facts b.facts a.is_line b.is_line in
    let rest : a.more ≡ b.more = later (suc n) a.more b.more (inr refl) a.later b.later in
    a.all ∙ (ap (λ (f : List NamedFact). f ∷ a.more) one ∙ ap (λ (xs : States). b.facts ∷ xs) rest) ∙ sym b.all
goes_by text texts n ss ts low later (inl a) (inr (inl p)) = let no = (state_no_other n text a.facts low a.is_line).0 in absurd (cc (sym p.is_line ∙ no))
goes_by text texts n ss ts low later (inl a) (inr (inr e)) = let no = (state_no_other n text a.facts low a.is_line).1 in absurd (cc (sym e.is_line ∙ no))
goes_by text texts n ss ts low later (inr (inl p)) (inl b) = let no = (state_no_other n text b.facts low b.is_line).0 in absurd (cc (sym p.is_line ∙ no))
goes_by text texts n ss ts low later (inr (inl p)) (inr (inl q)) = later n ss ts (inl refl) p.later q.later
goes_by text texts n ss ts low later (inr (inl p)) (inr (inr e)) = let no = passed_no_end text p.is_line in absurd (cc (sym e.is_line ∙ no))
goes_by text texts n ss ts low later (inr (inr e)) (inl b) = let no = (state_no_other n text b.facts low b.is_line).1 in absurd (cc (sym e.is_line ∙ no))
goes_by text texts n ss ts low later (inr (inr e)) (inr (inl q)) = let no = passed_no_end text q.is_line in absurd (cc (sym e.is_line ∙ no))
goes_by text texts n ss ts low later (inr (inr e)) (inr (inr f)) = e.none_more ∙ sym f.none_more

goes_once : (texts : Lines) (n : ℕ) (ss ts : States) → n + length texts < 2 ^ 64 → GoesOnWith n texts ss → GoesOnWith n texts ts → ss ≡ ts
goes_once [] n ss ts small g h = next g ∙ sym (next h)
goes_once (text ∷ texts) n ss ts small g h =
    goes_by text texts n ss ts (omega (arith, small)) (λ m xs ys near x y. goes_once texts m xs ys (elim near [ inl e ↦ omega (arith, small, e) | inr e ↦ omega (arith, small, e) ]) x y) (next g) (next h)

pub one_trace : OneTrace
one_trace texts small states other a b = goes_once texts 0 states other (omega (arith, small)) a.lines_told b.lines_told

pub no_bad_trace : NoBadTrace
no_bad_trace texts states line t no_line = let none = next t.lines_told in let some = t.some_state in let l = ap length none in omega (arith, some, l)
no_bad_trace texts states line t (not_allowed before text after begins never) = never (after, states, subst (λ (ts : Lines). IsTrace ts states) (sym (append_assoc before (text ∷ []) after)) t)

line_tail : (x y : List ℕ) (xs ys : Lines) → x ∷ xs ≡ y ∷ ys → xs ≡ ys
line_tail x y xs ys e = cc

line_head : (x y : List ℕ) (xs ys : Lines) → x ∷ xs ≡ y ∷ ys → x ≡ y
line_head x y xs ys e = cc

no_begin : (texts before : Lines) (text : List ℕ) (after : Lines) (more : Lines) (text_two : List ℕ) → BeginsTrace ((before ++ text ∷ []) ++ more) → BeginsTrace (before ++ text ∷ [])
no_begin texts before text after more text_two b = (more ++ b.0, b.1, subst (λ (ts : Lines). IsTrace ts b.1) (append_assoc (before ++ text ∷ []) more b.0) b.2)

-- two splits of one list
placed : (before other : Lines) (text : List ℕ) (second : List ℕ) (after rest : Lines) → before ++ text ∷ after ≡ other ++ second ∷ rest
    → (length before ≡ length other) ⊎ (((more : Lines) × (other ≡ (before ++ text ∷ []) ++ more)) ⊎ ((more : Lines) × (before ≡ (other ++ second ∷ []) ++ more)))
placed [] [] text second after rest e = inl refl
placed [] (y ∷ other) text second after rest e = inr (inl (other, ap (λ (z : List ℕ). z ∷ other) (sym (line_head text y after (other ++ second ∷ rest) e))))
placed (x ∷ before) [] text second after rest e = inr (inr (before, ap (λ (z : List ℕ). z ∷ before) (line_head x second (before ++ text ∷ after) rest e)))
placed (x ∷ before) (y ∷ other) text second after rest e =
    let head : x ≡ y = line_head x y (before ++ text ∷ after) (other ++ second ∷ rest) e in
    elim (placed before other text second after rest (line_tail x y (before ++ text ∷ after) (other ++ second ∷ rest) e)) [
      | inl l ↦ inl (ap suc l)
      | inr m ↦ elim m [
        | inl p ↦ inr (inl (p.0, ap (λ (z : List ℕ). z ∷ other) (sym head) ∙ ap (λ (zs : Lines). x ∷ zs) p.1))
        | inr q ↦ inr (inr (q.0, ap (λ (z : List ℕ). z ∷ before) head ∙ ap (λ (zs : Lines). y ∷ zs) q.1))
      ]
    ]

one_place : (texts : Lines) (n : ℕ) → IsFirstBadLine texts n → (before : Lines) (text : List ℕ) (after : Lines) → texts ≡ before ++ text ∷ after → BeginsTrace before → ¬ BeginsTrace (before ++ text ∷ []) → n ≡ suc (length before)
one_place texts n no_line [] text after e begins never = absurd (cc e)
one_place texts n no_line (x ∷ before) text after e begins never = absurd (cc e)
one_place texts n (not_allowed other second rest b fails) before text after e begins never =
    elim (placed before other text second after rest (sym e)) [
      | inl l ↦ ap suc (sym l)
      | inr m ↦ elim m [
        | inl p ↦ absurd (never (no_begin texts before text after p.0 second (subst BeginsTrace p.1 b)))
        | inr q ↦ absurd (fails (no_begin texts other second rest q.0 text (subst BeginsTrace q.1 begins)))
      ]
    ]

pub one_bad_line : OneBadLine
one_bad_line texts line other a no_line = by line a
  where
    at : (ts : Lines) (n : ℕ) → ts ≡ [] → IsFirstBadLine ts n → n ≡ 1
    at ts n e no_line = refl
    at ts n e (not_allowed [] text after begins never) = refl
    at ts n e (not_allowed (x ∷ before) text after begins never) = absurd (cc e)

    by : (n : ℕ) → IsFirstBadLine [] n → n ≡ 1
    by n b = at [] n refl b
one_bad_line texts line other a (not_allowed before text after begins never) = one_place (before ++ text ∷ after) line a before text after refl begins never
