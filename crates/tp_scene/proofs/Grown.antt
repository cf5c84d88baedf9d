-- The status of regions after a step: what a mark on one side makes so, no region of the other side becomes.
use Rattle.std.proofs.Common.{◌≡◌, ℕ, ◌+◌, Bool, true, false, ◌||◌, ◌&&◌, List, refl, ap, sym, subst, arith, inl, inr}
use Rattle.std.proofs.lemmas.Bool.{or_cases, or_left, or_right, and_parts, and_from, false≢true}
use Rattle.tp_meaning.specs.Syntax.{Definition}
use Rattle.tp_store.specs.Known.{Variable}
use Rattle.tp_scene.specs.Scene.{Side, other_side, Ending, Going, Head, marked, Leaf, Do, Later, Shown, Holder, Split, SplitProject, Closed, Running, Entries, none, leaf, node, second_lives, rises, sinks, forced, risen, Place, held_place, second_place}
use Rattle.tp_scene.specs.Fits.{IsCalm, LeafFits, HolderFits, EntriesFit}
use Rattle.tp_scene.proofs.NewsFit.{entries_calm, IsMore}

-- what rises from the entries is the region's
abbrev pub Covers : Place → Entries → Type 0
Covers p es = (x : Side) → risen x es ≡ true → p.is x ≡ true

pub not_both : (z : Side) (p : Place) → IsCalm p → p.is z ≡ true → p.is (other_side z) ≡ true → ⊥
not_both Ending p calm e g = calm e g
not_both Going p calm g e = calm e g

calm_from : (z : Side) (p : Place) → (p.is z ≡ true → p.is (other_side z) ≡ true → ⊥) → IsCalm p
calm_from Ending p h = h
calm_from Going p h = λ e g. h g e

-- what sinks on one side rises on the other, and the other way round
sinks_rises : (k : Holder) (z : Side) → sinks k z ≡ true → rises k (other_side z) ≡ true
sinks_rises (Split f env) Going e = absurd (false≢true e)
sinks_rises (SplitProject f env) Going e = absurd (false≢true e)
sinks_rises (Running f env) Going e = absurd (false≢true e)
sinks_rises Closed z e = absurd (false≢true e)
sinks_rises k z e = refl

pub rises_sinks : (k : Holder) (z : Side) → rises k z ≡ true → sinks k (other_side z) ≡ true
rises_sinks (Split f env) Ending e = absurd (false≢true e)
rises_sinks (SplitProject f env) Ending e = absurd (false≢true e)
rises_sinks (Running f env) Ending e = absurd (false≢true e)
rises_sinks Closed z e = absurd (false≢true e)
rises_sinks k z e = refl

-- a region that is forced takes nothing
forced_sinks : (k : Holder) (x z : Side) → forced k x ≡ true → sinks k z ≡ true → ⊥
forced_sinks (Split f env) Ending z e s = false≢true e
forced_sinks Closed x Ending e s = false≢true s
forced_sinks Closed x Going e s = false≢true s
forced_sinks k x z e s = false≢true e

-- A region's place before and after something became so on the side z somewhere: it keeps what it is, takes nothing of the other side, and takes
-- z only where it wasn't of the other side.
pub record Grown (z : Side) (p p' : Place) : Type 0 where
  pub more : IsMore p p'
  pub other : p'.is (other_side z) ≡ true → p.is (other_side z) ≡ true
  pub apart : p'.is z ≡ true → p.is (other_side z) ≡ true → ⊥

pub grown_calm : (z : Side) (p p' : Place) → Grown z p p' → IsCalm p'
grown_calm z p p' g = calm_from z p' (λ e f. g.apart e (g.other f))

-- a held region's place, where the region itself became `h'` and `held'`
module _ (z : Side) (k : Holder) (h h' : Head) (held held' : Entries) (p p' : Place) (g : Grown z p p')
    (calm : IsCalm (held_place k h held p))
    (covers : rises k (other_side z) ≡ true → (marked (other_side z) h || risen (other_side z) held) ≡ true → p.is (other_side z) ≡ true)
    (more : (x : Side) → (marked x h || risen x held) ≡ true → (marked x h' || risen x held') ≡ true)
    (other : (marked (other_side z) h' || risen (other_side z) held') ≡ true → (held_place k h held p).is (other_side z) ≡ true)
    (apart : (marked z h' || risen z held') ≡ true → (held_place k h held p).is (other_side z) ≡ true → ⊥) where
  abbrev q : Place
  q = held_place k h held p

  held_more : (x : Side) → q.is x ≡ true → (held_place k h' held' p').is x ≡ true
  held_more x e = elim (or_cases (sinks k x && p.is x) _ e) [
    | inl u ↦ (let v = and_parts (sinks k x) (p.is x) u in or_left (sinks k x && p'.is x) _ (and_from (sinks k x) (p'.is x) v.0 (g.more.sides x v.1)))
    | inr u ↦ or_right (sinks k x && p'.is x) _ (elim (or_cases (forced k x) _ u) [ inl v ↦ or_left (forced k x) _ v | inr v ↦ or_right (forced k x) _ (more x v) ])
  ]

  held_other : (held_place k h' held' p').is (other_side z) ≡ true → q.is (other_side z) ≡ true
  held_other e = elim (or_cases (sinks k (other_side z) && p'.is (other_side z)) _ e) [
    | inl u ↦ (let v = and_parts (sinks k (other_side z)) (p'.is (other_side z)) u in or_left (sinks k (other_side z) && p.is (other_side z)) _ (and_from (sinks k (other_side z)) (p.is (other_side z)) v.0 (g.other v.1)))
    | inr u ↦ elim (or_cases (forced k (other_side z)) _ u) [ inl v ↦ or_right (sinks k (other_side z) && p.is (other_side z)) _ (or_left (forced k (other_side z)) _ v) | inr v ↦ other v ]
  ]

  -- where z sinks from the region around
  sunk_apart : sinks k z ≡ true → p'.is z ≡ true → q.is (other_side z) ≡ true → ⊥
  sunk_apart s e f = elim (or_cases (sinks k (other_side z) && p.is (other_side z)) _ f) [
    | inl u ↦ g.apart e (and_parts (sinks k (other_side z)) (p.is (other_side z)) u).1
    | inr u ↦ elim (or_cases (forced k (other_side z)) _ u) [ inl v ↦ forced_sinks k (other_side z) z v s | inr v ↦ g.apart e (covers (sinks_rises k z s) v) ]
  ]

  held_apart : (held_place k h' held' p').is z ≡ true → q.is (other_side z) ≡ true → ⊥
  held_apart e f = elim (or_cases (sinks k z && p'.is z) _ e) [
    | inl u ↦ (let v = and_parts (sinks k z) (p'.is z) u in sunk_apart v.0 v.1 f)
    | inr u ↦ elim (or_cases (forced k z) _ u) [ inl v ↦ not_both z q calm (or_right (sinks k z && p.is z) _ (or_left (forced k z) _ v)) f | inr v ↦ apart v f ]
  ]

  pub grown_held : Grown z q (held_place k h' held' p')
  grown_held = record { more = record { depth = ap (λ i. i + 1) g.more.depth; sides = held_more }; other = held_other; apart = held_apart }

-- a second region's place
module _ (z : Side) (h h' : Head) (held held' : Entries) (p p' : Place) (g : Grown z p p')
    (covers : (marked (other_side z) h || risen (other_side z) held) ≡ true → p.is (other_side z) ≡ true)
    (more : (x : Side) → (marked x h || risen x held) ≡ true → (marked x h' || risen x held') ≡ true)
    (other : (marked (other_side z) h' || risen (other_side z) held') ≡ true → (second_place h held p).is (other_side z) ≡ true)
    (apart : (marked z h' || risen z held') ≡ true → (second_place h held p).is (other_side z) ≡ true → ⊥) where
  abbrev r : Place
  r = second_place h held p

  second_more : (x : Side) → r.is x ≡ true → (second_place h' held' p').is x ≡ true
  second_more x e = elim (or_cases (p.is x) _ e) [ inl u ↦ or_left (p'.is x) _ (g.more.sides x u) | inr u ↦ or_right (p'.is x) _ (more x u) ]

  second_other : (second_place h' held' p').is (other_side z) ≡ true → r.is (other_side z) ≡ true
  second_other e = elim (or_cases (p'.is (other_side z)) _ e) [ inl u ↦ or_left (p.is (other_side z)) _ (g.other u) | inr u ↦ other u ]

  second_apart : (second_place h' held' p').is z ≡ true → r.is (other_side z) ≡ true → ⊥
  second_apart e f = elim (or_cases (p'.is z) _ e) [
    | inl u ↦ elim (or_cases (p.is (other_side z)) _ f) [ inl v ↦ g.apart u v | inr v ↦ g.apart u (covers v) ]
    | inr u ↦ apart u f
  ]

  pub grown_second : Grown z r (second_place h' held' p')
  grown_second = record { more = record { depth = ap (λ i. i + 1) g.more.depth; sides = second_more }; other = second_other; apart = second_apart }

-- what a holder's regions make of the region around
pub covers_rest : (p : Place) (id : ℕ) (k : Holder) (h : Head) (held : Entries) (g : Head) (second rest : Entries) → Covers p (node id k h held g second rest) → Covers p rest
covers_rest p id k h held g second rest c x e = c x (or_right (rises k x && (marked x h || risen x held)) _ (or_right (second_lives k && (marked x g || risen x second)) _ e))

pub covers_first : (p : Place) (id : ℕ) (k : Holder) (h : Head) (held : Entries) (g : Head) (second rest : Entries) → Covers p (node id k h held g second rest) → (x : Side) → rises k x ≡ true → (marked x h || risen x held) ≡ true → p.is x ≡ true
covers_first p id k h held g second rest c x r e = c x (or_left (rises k x && (marked x h || risen x held)) _ (and_from (rises k x) _ r e))

pub covers_second : (p : Place) (id : ℕ) (k : Holder) (h : Head) (held : Entries) (g : Head) (second rest : Entries) → Covers p (node id k h held g second rest) → (x : Side) → second_lives k ≡ true → (marked x g || risen x second) ≡ true → p.is x ≡ true
covers_second p id k h held g second rest c x r e = c x (or_right (rises k x && (marked x h || risen x held)) _ (or_left (second_lives k && (marked x g || risen x second)) _ (and_from (second_lives k) _ r e)))

pub held_covered : (k : Holder) (h : Head) (held : Entries) (p : Place) (x : Side) → (marked x h || risen x held) ≡ true → (held_place k h held p).is x ≡ true
held_covered k h held p x e = or_right (sinks k x && p.is x) _ (or_right (forced k x) _ e)

pub second_covered : (h : Head) (held : Entries) (p : Place) (x : Side) → (marked x h || risen x held) ≡ true → (second_place h held p).is x ≡ true
second_covered h held p x e = or_right (p.is x) _ e

-- What doesn't hold the item fits still.
module _ (defs : List Definition) (kinds : List Bool) (variables : List Variable) (z : Side) where
  pub same_held : (k : Holder) (h : Head) (held : Entries) (p p' : Place) → Grown z p p' → IsCalm (held_place k h held p)
      → (rises k (other_side z) ≡ true → (marked (other_side z) h || risen (other_side z) held) ≡ true → p.is (other_side z) ≡ true) → Grown z (held_place k h held p) (held_place k h held p')
  same_held k h held p p' g calm covers = grown_held z k h h held held p p' g calm covers (λ x e. e) (held_covered k h held p (other_side z))
      (λ e f. not_both z (held_place k h held p) calm (held_covered k h held p z e) f)

  pub same_second : (h : Head) (held : Entries) (p p' : Place) → Grown z p p' → IsCalm (second_place h held p)
      → ((marked (other_side z) h || risen (other_side z) held) ≡ true → p.is (other_side z) ≡ true) → Grown z (second_place h held p) (second_place h held p')
  same_second h held p p' g calm covers = grown_second z h h held held p p' g covers (λ x e. e) (second_covered h held p (other_side z))
      (λ e f. not_both z (second_place h held p) calm (second_covered h held p z e) f)

  pub leaf_grown : (l : Leaf) (p p' : Place) → IsMore p p' → LeafFits defs kinds variables l p → LeafFits defs kinds variables l p'
  leaf_grown (Do f env) p p' m h = h
  leaf_grown (Later f env) p p' m h = (h.0, m.sides Going h.1)
  leaf_grown (Shown vs) p p' m h = tt

  pub holder_grown : (k : Holder) (held held' : Entries) (q q' : Place) (X X' Y Y' : Type 0) → (X → X') → (second_lives k ≡ true → Y → Y') → HolderFits defs kinds variables k held q X Y → HolderFits defs kinds variables k held' q' X' Y'
  holder_grown (SplitProject f env) held held' q q' X X' Y Y' x y h = (h.0, x h.1)
  holder_grown Closed held held' q q' X X' Y Y' x y h = tt
  holder_grown (Running f env) held held' q q' X X' Y Y' x y h = (h.0, y refl h.1)
  holder_grown k held held' q q' X X' Y Y' x y h = h

  pub fits_grown : (es : Entries) (p p' : Place) → Grown z p p' → Covers p es → EntriesFit defs kinds variables es p → EntriesFit defs kinds variables es p'
  fits_grown none p p' g cov fit = (grown_calm z p p' g, (let d = g.more.depth in let l = fit.1 in omega (arith, d, l)))
  fits_grown (leaf id l rest) p p' g cov fit = (leaf_grown l p p' g.more fit.0, fits_grown rest p p' g (λ x e. cov x e) fit.1)
  fits_grown (node id k h held g2 second rest) p p' g cov fit = (
    holder_grown k held held _ _ _ _ _ _
        (λ x. (x.0, subst (λ (d : ℕ). EntriesFit defs kinds variables second (record { region = g2.number; depth = d + 1; is = λ z. false })) (sym g.more.depth) x.1))
        (λ live y. fits_grown second (second_place g2 second p) (second_place g2 second p')
        (same_second g2 second p p' g (entries_calm defs kinds variables second (second_place g2 second p) y) (covers_second p id k h held g2 second rest cov (other_side z) live))
        (λ x e. second_covered g2 second p x (or_right (marked x g2) _ e)) y)
        fit.0,
    fits_grown held (held_place k h held p) (held_place k h held p')
        (same_held k h held p p' g (entries_calm defs kinds variables held (held_place k h held p) fit.1) (covers_first p id k h held g2 second rest cov (other_side z)))
        (λ x e. held_covered k h held p x (or_right (marked x h) _ e)) fit.1,
    fits_grown rest p p' g (covers_rest p id k h held g2 second rest cov) fit.2,
  )
