-- A wait is filed for each of its cells.
use Rattle.std.proofs.Common.{◌≡◌, ℕ, Bool, true, false, cond, nat_eq, List, [], ◌∷◌, ◌++◌, length, length-append, Some, None, refl, ap, sym, ◌∙◌, subst, inl, inr, arith}
use Rattle.std.proofs.lemmas.Bool.Decides.{Decides-eqb}
use Rattle.tp_value.specs.declared.path.Path.{Path}
use Rattle.tp_scene.specs.declared.answer.Cell.{Cell}
use Rattle.tp_scene.specs.declared.answer.Cell.TheVariants.{Part, End}
use Rattle.tp_step.specs.declared.tally.Wait.{Wait}
use Rattle.tp_agenda.specs.declared.index.Index.{Index}
use Rattle.tp_agenda.specs.Decides.{holds_path}
use Rattle.tp_agenda.specs.Ready.{WaitsFor}
use Rattle.tp_agenda.specs.Index.{filed_at, filed_for, IsChained, HasFiled, IsPushed, IsPlaceIn, IsFiled, is_filed_under, is_filed_for}
use Rattle.tp_agenda.proofs.Outer.{more_pushed}
use Rattle.tp_agenda.proofs.Places.{at_cases, flag_push}

kept_in : (b : Bool) (place : ℕ) (xs ys : List ℕ) (i : ℕ) → ys ≡ cond b (place ∷ xs) xs → IsPlaceIn xs i → IsPlaceIn ys i
kept_in true place xs ys i e h = subst (λ zs. IsPlaceIn zs i) (sym e) (inr h)
kept_in false place xs ys i e h = subst (λ zs. IsPlaceIn zs i) (sym e) h

put_in : (b : Bool) (place : ℕ) (xs ys : List ℕ) → ys ≡ cond b (place ∷ xs) xs → b ≡ true → IsPlaceIn ys place
put_in true place xs ys e h = subst (λ zs. IsPlaceIn zs place) (sym e) (inl refl)
put_in false place xs ys e h = absurd (cc)

-- the place is filed for the cell
abbrev IsThere : Index → (place : ℕ) → Cell → Type 0
IsThere x place (Part p) = (q : Path) → holds_path q p ≡ true → IsPlaceIn (filed_at x q) place
IsThere x place (End r d) = IsPlaceIn (filed_for x r) place

-- what was filed stays so
record StaysFiled (old new : Index) : Type 0 where
  paths : (q : Path) (i : ℕ) → IsPlaceIn (filed_at old q) i → IsPlaceIn (filed_at new q) i
  ends : (r i : ℕ) → IsPlaceIn (filed_for old r) i → IsPlaceIn (filed_for new r) i

module _ (old new : Index) (place : ℕ) (cell : Cell) (h : HasFiled old new place (is_filed_under cell) (is_filed_for cell)) where
  one_stays : StaysFiled old new
  one_stays = record {
    paths = λ q i z. kept_in (is_filed_under cell q) place (filed_at old q) (filed_at new q) i (h.paths q) z;
    ends = λ r i z. kept_in (is_filed_for cell r) place (filed_for old r) (filed_for new r) i (h.ends r) z;
  }

one_there : (old new : Index) (place : ℕ) (cell : Cell) → HasFiled old new place (is_filed_under cell) (is_filed_for cell) → IsThere new place cell
one_there old new place (Part p) h = λ q e. put_in (holds_path q p) place (filed_at old q) (filed_at new q) (h.paths q) e
one_there old new place (End r d) h = put_in (nat_eq r r) place (filed_for old r) (filed_for new r) (h.ends r) ((Decides-eqb r r).1 refl)

still_filed_there : (old new : Index) (place : ℕ) (cell : Cell) → StaysFiled old new → IsThere old place cell → IsThere new place cell
still_filed_there old new place (Part p) s h = λ q e. s.paths q place (h q e)
still_filed_there old new place (End r d) s h = s.ends r place h

-- one more wait, which is filed for each of its cells
wait_filed : (old new : Index) (waits : List Wait) (over : List Bool) (w : Wait) (place : ℕ) → length waits ≡ place → IsFiled old waits over
    → IsChained new → IsPushed old new place → StaysFiled old new → ((c : Cell) → WaitsFor w c → IsThere new place c)
    → IsFiled new (waits ++ w ∷ []) (over ++ false ∷ [])
wait_filed old new waits over w place len h chained pushed s there = record {
  chained = chained;
  within = λ k less. (let a = length-append waits (w ∷ []) in elim (pushed k less) [
    | inl x ↦ (let b = h.within k x.0 in let e = ap (λ z. z.place) x.1 in omega (arith, a, b, e))
    | inr e ↦ omega (arith, a, e, len)
  ]);
  paths = λ i x p q at has e. elim (at_cases waits w i x at) [
    | inl b ↦ s.paths q i (h.paths i x p q b has e)
    | inr b ↦ subst (IsPlaceIn (filed_at new q)) (sym len ∙ sym b.0) (there (Part p) (subst (λ (z : Wait). WaitsFor z (Part p)) (sym b.1) has) q e)
  ];
  ends = λ i x r d at lasts has. elim (at_cases waits w i x at) [
    | inl b ↦ s.ends r i (h.ends i x r d b (sym (flag_push over i) ∙ lasts) has)
    | inr b ↦ subst (IsPlaceIn (filed_for new r)) (sym len ∙ sym b.0) (there (End r d) (subst (λ (z : Wait). WaitsFor z (End r d)) (sym b.1) has))
  ];
}

pub filed_once : (old new : Index) (waits : List Wait) (over : List Bool) (w : Wait) (place : ℕ) → length waits ≡ place → IsFiled old waits over
    → HasFiled old new place (is_filed_under w.first) (is_filed_for w.first) → IsPushed old new place → w.other ≡ None
    → IsFiled new (waits ++ w ∷ []) (over ++ false ∷ [])
filed_once old new waits over w place len h f pushed none = wait_filed old new waits over w place len h f.chained pushed (one_stays old new place w.first f)
    (λ c has. elim has [ inl e ↦ subst (IsThere new place) e (one_there old new place w.first f) | inr e ↦ absurd (cc) ])

pub filed_twice : (old mid new : Index) (waits : List Wait) (over : List Bool) (w : Wait) (place : ℕ) (second : Cell) → length waits ≡ place → IsFiled old waits over
    → HasFiled old mid place (is_filed_under w.first) (is_filed_for w.first) → IsPushed old mid place
    → HasFiled mid new place (is_filed_under second) (is_filed_for second) → IsPushed mid new place → w.other ≡ Some second
    → IsFiled new (waits ++ w ∷ []) (over ++ false ∷ [])
filed_twice old mid new waits over w place second len h f pushed g pushed' other =
    let a = one_stays old mid place w.first f in
    let b = one_stays mid new place second g in
    wait_filed old new waits over w place len h g.chained (more_pushed old mid new place pushed pushed')
    (record { paths = λ q i z. b.paths q i (a.paths q i z); ends = λ r i z. b.ends r i (a.ends r i z) })
    (λ c has. elim has [
      | inl e ↦ still_filed_there mid new place c b (subst (IsThere mid place) e (one_there old mid place w.first f))
      | inr e ↦ subst (IsThere new place) (let same : second ≡ c = cc in same) (one_there mid new place second g)
    ])
