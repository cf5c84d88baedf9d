-- A scene fits after a step.
use Rattle.std.proofs.Common.{◌≡◌, ℕ, ◌+◌, Bool, true, false, ◌||◌, ◌&&◌, eqb, List, Option, Some, None, refl, ap, sym, ◌∙◌, subst, arith, inl, inr}
use Rattle.std.proofs.lemmas.Bool.{cond_both, cases_Bool, or_cases, or_left, or_right, both_ways, and_parts, false≢true, cond-true, cond-false}
use Rattle.tp_meaning.specs.Syntax.{Definition, more}
use Rattle.tp_meaning.specs.Fits.{DefinitionsFit, IsVariable}
use Rattle.tp_value.specs.declared.path.Fact.{Fact}
use Rattle.tp_value.specs.declared.path.VarId.{VarId}
use Rattle.tp_store.specs.Known.{Variable}
use Rattle.tp_scene.specs.Scene.{Side, other_side, Ending, Going, Head, marked, Do, Holder, Split, SplitProject, Closed, Opened, Running, Entries, none, leaf, node, new_head, second_lives, has, has_here, sinks, risen, Place, held_place, second_place}
use Rattle.tp_scene.specs.Step.{Reduction, PickOutcome, by_status, reduces, rests, Numbers, leaf_step, holder_step}
use Rattle.tp_scene.specs.Pick.{Setting, pick, mark_at, put}
use Rattle.tp_scene.specs.Fits.{kinds_in, IsCalm, Dormant, HolderFits, EntriesFit}
use Rattle.tp_scene.proofs.Frame.{region}
use Rattle.tp_scene.proofs.Keep.{live_fits}
use Rattle.tp_scene.proofs.Risen.{StatusKept, status_put, status_marked, pick_here, pick_second, pick_first, pick_later}
use Rattle.tp_scene.proofs.FitsTold.{LocalIn}
use Rattle.tp_scene.proofs.NewsFit.{entries_calm, entries_depth, MarkIn, IsMore, FitsAs, leaf_fits}
use Rattle.tp_scene.proofs.Grown.{Covers, not_both, Grown, grown_calm, grown_held, grown_second, covers_rest, covers_first, covers_second, held_covered, second_covered, same_held, same_second, leaf_grown, holder_grown, fits_grown}
use Rattle.tp_scene.proofs.PutStatus.{side_of_mark, mark_at_other, mark_at_set, dormant_head, dormant_risen, or_false, marked_apart, put_rises}

no_side_new : (x : Side) (b : Bool) (n : ℕ) → (b || (false || (marked x (new_head n) || false))) ≡ true → b ≡ true
no_side_new x true n e = refl
no_side_new Ending false n e = absurd (false≢true e)
no_side_new Going false n e = absurd (false≢true e)

dormant_is : (a b c : Bool) → b ≡ false → c ≡ false → (a || (false || (b || c))) ≡ true → a ≡ true
dormant_is true b c u v e = refl
dormant_is false b c u v e = absurd (both_ways (b || c) (or_false b c u v) e)

module _ (defs : List Definition) (kinds : List Bool) (variables : List Variable) where
  -- a dormant region's entries fit in a live one
  awaken : (h : Head) (es : Entries) (p p' : Place) → Dormant h es → EntriesFit defs kinds variables es p → p'.depth ≡ p.depth → IsCalm p' → EntriesFit defs kinds variables es p'
  awaken h none p p' d fit e calm = (calm, (let l = fit.1 in omega (arith, e, l)))
  awaken h (leaf id (Do f env) rest) p p' d fit e calm = (fit.0, awaken h rest p p' d fit.1 e calm)
  awaken h (node id (Split f env) i held g second rest) p p' d fit e calm = (
    fit.0,
    awaken i held _ (held_place (Split f env) i held p') d.0 fit.1 (ap (λ j. j + 1) e)
        (λ u v. false≢true (dormant_is (sinks (Split f env) Going && p'.is Going) (marked Going i) (risen Going held) (dormant_head i held d.0 Going) (dormant_risen i held d.0 Going) v)),
    awaken h rest p p' d.1 fit.2 e calm,
  )
  awaken h (node id (SplitProject f env) i held g second rest) p p' d fit e calm = (
    (fit.0.0, (fit.0.1.0, subst (λ (j : ℕ). EntriesFit defs kinds variables second (record { region = g.number; depth = j + 1; is = λ z. false })) (sym e) fit.0.1.1)),
    awaken i held _ (held_place (SplitProject f env) i held p') d.0 fit.1 (ap (λ j. j + 1) e)
        (λ u v. false≢true (dormant_is (sinks (SplitProject f env) Going && p'.is Going) (marked Going i) (risen Going held) (dormant_head i held d.0 Going) (dormant_risen i held d.0 Going) v)),
    awaken h rest p p' d.2 fit.2 e calm,
  )
  awaken h es p p' d fit e calm = elim d [ ]

  -- a region that ends fits when it is closed
  closed_fits : (h : Head) (held : Entries) (q p' : Place) → q.depth ≡ p'.depth + 1 → q.is Ending ≡ true → Covers q held → ((x : Side) → marked x h ≡ true → q.is x ≡ true) → EntriesFit defs kinds variables held q
      → EntriesFit defs kinds variables held (held_place Closed h held p')
  closed_fits h held q p' depth ending cov up fit =
      let calm = entries_calm defs kinds variables held q fit in
      fits_grown defs kinds variables Ending held q (held_place Closed h held p') (record {
        more = record { depth = sym depth; sides = closed_side calm };
        other = λ e. elim (or_cases (marked Going h) (risen Going held) e) [ inl m ↦ up Going m | inr i ↦ cov Going i ];
        apart = λ e f. calm ending f;
      }) cov fit
    where
      closed_side : IsCalm q → (x : Side) → q.is x ≡ true → (held_place Closed h held p').is x ≡ true
      closed_side calm Ending e = refl
      closed_side calm Going e = absurd (calm ending e)

module _ (w : Setting) (facts : List Fact) (kinds : List Bool) (definitions : DefinitionsFit w.defs kinds) (variables : List Variable) (among : (x : VarId) → IsVariable kinds x → IsVariable (kinds_in variables) x) (n : Numbers) where
  abbrev defs : List Definition
  defs = w.defs

  abbrev As : PickOutcome → Place → Type 0
  As = FitsAs w.defs kinds definitions variables among w.inputs w.state facts n

  -- what a holder becomes
  module _ (z : Side) (h : Head) (held : Entries) (g : Head) (second : Entries) (p p' : Place) (grown : Grown z p p') where
    -- a left region rests where it goes
    left_fits : (q : Place) (o : PickOutcome) → (q.is Ending ≡ true → As o p') → As (by_status q rests o) p'
    left_fits q o fits = cond_both (q.is Going) _ _ (λ o. As o p') (λ _. tt) (λ _. cond_both (q.is Ending) _ _ (λ o. As o p') fits (λ _. tt))

    held_fits : (k : Holder) (id : ℕ) (rest : Entries) → Covers p (node id k h held g second rest)
        → HolderFits defs kinds variables k held (held_place k h held p) (Dormant g second × EntriesFit defs kinds variables second (record { region = g.number; depth = p.depth + 1; is = λ z. false })) (EntriesFit defs kinds variables second (second_place g second p))
        → EntriesFit defs kinds variables held (held_place k h held p) → As (holder_step w.defs w.inputs w.state facts k (region h held) (region g second) (held_place k h held p) n) p'
    held_fits (Split f env) id rest cov hf fit =
        left_fits (held_place (Split f env) h held p) _ (λ e m l rest r. (
          tt,
          closed_fits defs kinds variables h held (held_place (Split f env) h held p) p' (ap (λ i. i + 1) (sym grown.more.depth)) e (λ x i. held_covered (Split f env) h held p x (or_right (marked x h) _ i)) (λ x i. held_covered (Split f env) h held p x (or_left (marked x h) _ i)) fit,
          (hf, r),
        ))
    held_fits (SplitProject f env) id rest cov hf fit =
        left_fits (held_place (SplitProject f env) h held p) _ (λ e m l rest r. (
          tt,
          closed_fits defs kinds variables h held (held_place (SplitProject f env) h held p) p' (ap (λ i. i + 1) (sym grown.more.depth)) e (λ x i. held_covered (SplitProject f env) h held p x (or_right (marked x h) _ i)) (λ x i. held_covered (SplitProject f env) h held p x (or_left (marked x h) _ i)) fit,
          (
            hf.0,
            awaken defs kinds variables g second _ (held_place (Opened f env) g second p') hf.1.0 hf.1.1 (ap (λ i. i + 1) grown.more.depth)
                (λ u v. grown_calm z p p' grown
                (dormant_is (p'.is Ending) (marked Ending g) (risen Ending second) (dormant_head g second hf.1.0 Ending) (dormant_risen g second hf.1.0 Ending) u)
                (dormant_is (p'.is Going) (marked Going g) (risen Going second) (dormant_head g second hf.1.0 Going) (dormant_risen g second hf.1.0 Going) v)),
            r,
          ),
        ))
    held_fits (Opened f env) id rest0 cov hf fit =
        let q = held_place (Opened f env) h held p in
        let calm = entries_calm defs kinds variables held q fit in
        let y = other_side z in
        let inner = leaf (n.item 0) (Do f env) (leaf (n.item 1) (Do more env) none) in
        cond_both (q.is Going) _ _ (λ o. As o p')
        (λ _ m l rest r. (
          (
            hf,
            fits_grown defs kinds variables z held q (second_place h held p') (record {
              more = record { depth = ap (λ i. i + 1) grown.more.depth; sides = λ x e. elim (or_cases (p.is x) _ e) [ inl u ↦ or_left (p'.is x) _ (grown.more.sides x u) | inr u ↦ or_right (p'.is x) _ u ] };
              other = λ e. elim (or_cases (p'.is y) _ e) [ inl u ↦ or_left (p.is y) _ (grown.other u) | inr u ↦ or_right (p.is y) _ u ];
              apart = λ e v. elim (or_cases (p'.is z) _ e) [
                | inl u ↦ elim (or_cases (p.is y) _ v) [ inl c ↦ grown.apart u c | inr c ↦ grown.apart u (covers_first p id (Opened f env) h held g second rest0 cov y refl c) ]
                | inr u ↦ not_both z q calm (or_right (p.is z) _ u) v
              ];
            }) (λ x e. held_covered (Opened f env) h held p x (or_right (marked x h) _ e)) fit,
          ),
          (hf, ((tt, hf.1), ((λ u v. false≢true (no_side_new Going (sinks (Running f env) Going && p'.is Going) n.region v)), (let d = entries_depth defs kinds variables held q fit in let e = grown.more.depth in omega (arith, d, e))))),
          r,
        ))
        (λ _. cond_both (q.is Ending) _ _ (λ o. As o p') (λ _. tt) (λ _. tt))
    held_fits k id rest cov hf fit = tt

  -- a dormant region has no status of its own
  dormant_on : (g : Head) (second : Entries) (p p' : Place) → IsMore p p' → Dormant g second × EntriesFit defs kinds variables second (record { region = g.number; depth = p.depth + 1; is = λ z. false })
      → Dormant g second × EntriesFit defs kinds variables second (record { region = g.number; depth = p'.depth + 1; is = λ z. false })
  dormant_on g second p p' m x = (x.0, subst (λ (d : ℕ). EntriesFit defs kinds variables second (record { region = g.number; depth = d + 1; is = λ z. false })) (sym m.depth) x.1)

  -- a live second region in place of another
  live_holder : (k : Holder) → second_lives k ≡ true → (held : Entries) (q q' : Place) (X X' Y Y' : Type 0) → HolderFits defs kinds variables k held q X Y → Y' → HolderFits defs kinds variables k held q' X' Y'
  live_holder (Running f env) e held q q' X X' Y Y' h u = (h.0, u)
  live_holder k e held q q' X X' Y Y' h u = absurd (false≢true e)

  module _ (t : ℕ) (r : Reduction) (local : LocalIn r.local variables n.local) where
    abbrev z : Side
    z = side_of_mark r.mark

    abbrev y : Side
    y = other_side z

    pub marks_in : (es : Entries) (h : Head) (p' : Place) → ((x : Side) → marked x (mark_at t r.mark h es) ≡ true → p'.is x ≡ true) → has_here t es ≡ true → MarkIn r.mark p'
    marks_in es h p' up i = go r.mark refl where
      go : (m : Option Side) → r.mark ≡ m → MarkIn m p'
      go None e = tt
      go (Some x) e = up x (mark_at_set t r.mark x h es i e)

    pub put_fits : (es : Entries) (p p' : Place) → Grown z p p' → Covers p es → EntriesFit defs kinds variables es p → pick w facts t es p n ≡ reduces r → (has_here t es ≡ true → MarkIn r.mark p')
        → EntriesFit defs kinds variables (put t r.mark r.news es) p'
    put_fits none p p' g cov fit e mark = absurd (cc)
    put_fits (leaf id l rest) p p' g cov fit e mark = elim (cases_Bool (eqb id t)) [
      | inl c ↦ (let s = leaf_step w.defs w.inputs w.state facts l p n in
          let q : s ≡ reduces r = sym (cond-true (eqb id t) s (pick w facts t rest p n) c) ∙ e in
          let news = subst (λ (o : PickOutcome). As o p') q (leaf_fits w.defs kinds definitions variables among w.inputs w.state facts n p p' g.more l fit.0) in
          rw c (news (mark (or_left (eqb id t) _ c)) local rest (fits_grown defs kinds variables z rest p p' g (λ x i. cov x i) fit.1)))
      | inr c ↦ rw c (
        leaf_grown defs kinds variables z l p p' g.more fit.0,
        put_fits rest p p' g (λ x i. cov x i) fit.1 (sym (cond-false (eqb id t) (leaf_step w.defs w.inputs w.state facts l p n) (pick w facts t rest p n) c) ∙ e) (λ i. mark (or_right (eqb id t) _ i)),
      )
    ]
    put_fits (node id k h held g2 second rest) p p' g cov fit e mark =
        let rest_fits = fits_grown defs kinds variables z rest p p' g (covers_rest p id k h held g2 second rest cov) fit.2 in
        let calm = entries_calm defs kinds variables held (held_place k h held p) fit.1 in
        elim (cases_Bool (eqb id t)) [
          | inl c ↦ (let q = sym (pick_here w facts t id k h held g2 second rest p n c) ∙ e in
              let news = subst (λ (o : PickOutcome). As o p') q (held_fits z h held g2 second p p' g k id rest cov fit.0 fit.1) in
              rw c (news (mark (or_left (eqb id t) _ c)) local rest rest_fits))
          | inr c ↦ elim (cases_Bool (second_lives k && has t second)) [
            | inl l ↦ (let live = (and_parts (second_lives k) (has t second) l).0 in
                let q = sym (pick_second w facts t id k h held g2 second rest p n c l) ∙ e in
                let r2 = second_place g2 second p in
                let inside = live_fits defs kinds variables k held _ _ _ live fit.0 in
                let calm2 = entries_calm defs kinds variables second r2 inside in
                let kept = subst (λ (o : PickOutcome). StatusKept t o second) q (status_put w facts t second r2 n) in
                let up = put_rises w facts defs kinds variables t n r second r2 inside (λ x i. second_covered g2 second p x (or_right (marked x g2) _ i)) q in
                let there = grown_second z g2 (mark_at t r.mark g2 second) second (put t r.mark r.news second) p p' g
                (covers_second p id k h held g2 second rest cov y live)
                (λ x i. status_marked w facts t id k h held g2 second rest x r.mark g2 second (put t r.mark r.news second) (kept x) i)
                (λ i. elim (or_cases (marked y (mark_at t r.mark g2 second)) _ i) [ inl m ↦ second_covered g2 second p y (or_left (marked y g2) _ (mark_at_other t r.mark g2 second m)) | inr j ↦ up.other j ])
                (λ i v. elim (or_cases (marked z (mark_at t r.mark g2 second)) _ i) [
                  | inl m ↦ marked_apart w facts defs kinds variables t n r second r2 g2 inside q (λ m. second_covered g2 second p z (or_left (marked z g2) _ m)) m v
                  | inr j ↦ up.apart j v
                ]) in
                rw (c, l) (
                  live_holder k live held (held_place k h held p) (held_place k h held p') _ _ _ _ fit.0
                      (put_fits second r2 (second_place (mark_at t r.mark g2 second) (put t r.mark r.news second) p') there (λ x i. second_covered g2 second p x (or_right (marked x g2) _ i)) inside q
                      (marks_in second g2 _ (λ x i. second_covered (mark_at t r.mark g2 second) (put t r.mark r.news second) p' x (or_left (marked x (mark_at t r.mark g2 second)) _ i)))),
                  fits_grown defs kinds variables z held (held_place k h held p) (held_place k h held p') (same_held defs kinds variables z k h held p p' g calm (covers_first p id k h held g2 second rest cov y))
                      (λ x i. held_covered k h held p x (or_right (marked x h) _ i)) fit.1,
                  rest_fits,
                ))
            | inr l ↦ elim (cases_Bool (has t held)) [
              | inl d ↦ (let q = sym (pick_first w facts t id k h held g2 second rest p n c l d) ∙ e in
                  let q1 = held_place k h held p in
                  let kept = subst (λ (o : PickOutcome). StatusKept t o held) q (status_put w facts t held q1 n) in
                  let up = put_rises w facts defs kinds variables t n r held q1 fit.1 (λ x i. held_covered k h held p x (or_right (marked x h) _ i)) q in
                  let there = grown_held z k h (mark_at t r.mark h held) held (put t r.mark r.news held) p p' g calm (covers_first p id k h held g2 second rest cov y)
                  (λ x i. status_marked w facts t id k h held g2 second rest x r.mark h held (put t r.mark r.news held) (kept x) i)
                  (λ i. elim (or_cases (marked y (mark_at t r.mark h held)) _ i) [ inl m ↦ held_covered k h held p y (or_left (marked y h) _ (mark_at_other t r.mark h held m)) | inr j ↦ up.other j ])
                  (λ i v. elim (or_cases (marked z (mark_at t r.mark h held)) _ i) [
                    | inl m ↦ marked_apart w facts defs kinds variables t n r held q1 h fit.1 q (λ m. held_covered k h held p z (or_left (marked z h) _ m)) m v
                    | inr j ↦ up.apart j v
                  ]) in
                  rw (c, l, d) (
                    holder_grown defs kinds variables z k held (put t r.mark r.news held) _ _ _ _ _ _ (dormant_on g2 second p p' g.more)
                        (λ live x. fits_grown defs kinds variables z second (second_place g2 second p) (second_place g2 second p')
                        (same_second defs kinds variables z g2 second p p' g (entries_calm defs kinds variables second (second_place g2 second p) x) (covers_second p id k h held g2 second rest cov y live))
                        (λ u i. second_covered g2 second p u (or_right (marked u g2) _ i)) x)
                        fit.0,
                    put_fits held q1 (held_place k (mark_at t r.mark h held) (put t r.mark r.news held) p') there (λ x i. held_covered k h held p x (or_right (marked x h) _ i)) fit.1 q
                        (marks_in held h _ (λ x i. held_covered k (mark_at t r.mark h held) (put t r.mark r.news held) p' x (or_left (marked x (mark_at t r.mark h held)) _ i))),
                    rest_fits,
                  ))
              | inr d ↦ rw (c, l, d) (
                holder_grown defs kinds variables z k held held _ _ _ _ _ _ (dormant_on g2 second p p' g.more)
                    (λ live x. fits_grown defs kinds variables z second (second_place g2 second p) (second_place g2 second p')
                    (same_second defs kinds variables z g2 second p p' g (entries_calm defs kinds variables second (second_place g2 second p) x) (covers_second p id k h held g2 second rest cov y live))
                    (λ u i. second_covered g2 second p u (or_right (marked u g2) _ i)) x)
                    fit.0,
                fits_grown defs kinds variables z held (held_place k h held p) (held_place k h held p') (same_held defs kinds variables z k h held p p' g calm (covers_first p id k h held g2 second rest cov y))
                    (λ x i. held_covered k h held p x (or_right (marked x h) _ i)) fit.1,
                put_fits rest p p' g (covers_rest p id k h held g2 second rest cov) fit.2 (sym (pick_later w facts t id k h held g2 second rest p n c l d) ∙ e) (λ i. mark (rw (c, l, d) i)),
              )
            ]
          ]
        ]
