-- What becomes live by a step.
use Rattle.std.proofs.Common.{◌≡◌, ℕ, zero, suc, ◌+◌, ◌≤◌, ◌&&◌, Bool, true, false, eqb, List, [], ◌∷◌, ◌++◌, length, Option, refl, ap, ◌∙◌, arith, inl, inr}
use Rattle.std.specs.Prelude.{not}
use Rattle.std.specs.List.{filter, range_with_len}
use Rattle.std.proofs.lemmas.Bool.{cases_Bool, eq-eqb, or_left, or_right, and_from, false≢true}
use Rattle.std.proofs.lemmas.List.{append-nil}
use Rattle.std.proofs.lemmas.List.Elements.{filter-append}
use Rattle.tp_scene.specs.Scene as S
use Rattle.tp_scene.specs.Scene.{Side, Entries, none, leaf, node, append, has, only_if, second_lives}
use Rattle.tp_scene.specs.LiveItems.{live_items}
use Rattle.tp_scene.specs.Step.{Reduction}
use Rattle.tp_scene.specs.Pick.{put, scene_after}
use Rattle.tp_slots.specs.Plain.{What}
use Rattle.tp_slots.specs.Reductions.{leaves_from}
use Rattle.tp_slots.specs.News.{new_items}
use Rattle.tp_slots.proofs.PutEdits.{both_so}
use Rattle.tp_slots.proofs.Walking.{live_append}

module _ (fresh : ℕ → Bool) where
  -- The test fails for each live item.
  abbrev pub AreOld : Entries → Type 0
  AreOld es = (u : ℕ) → has u es ≡ true → fresh u ≡ false

  -- or it holds for each
  abbrev pub AreFresh : Entries → Type 0
  AreFresh es = (u : ℕ) → has u es ≡ true → fresh u ≡ true

  kept_parts : (a b c : List ℕ) → filter fresh ((a ++ b) ++ c) ≡ (filter fresh a ++ filter fresh b) ++ filter fresh c
  kept_parts a b c = filter-append fresh (a ++ b) c ∙ ap (λ l. l ++ filter fresh c) (filter-append fresh a b)

  old_first : (x : ℕ) (xs : List ℕ) → fresh x ≡ false → filter fresh (x ∷ xs) ≡ filter fresh xs
  old_first x xs e = rw e refl

  fresh_first : (x : ℕ) (xs : List ℕ) → fresh x ≡ true → filter fresh (x ∷ xs) ≡ x ∷ filter fresh xs
  fresh_first x xs e = rw e refl

  pub none_new : (es : Entries) → AreOld es → filter fresh (live_items es) ≡ []
  none_new none a = refl
  none_new (leaf id l rest) a = old_first id (live_items rest) (a id (or_left (eqb id id) _ (eq-eqb id id refl))) ∙ none_new rest (λ u h. a u (or_right (eqb id u) _ h))
  none_new (node id k h held g second rest) a =
      let x = by_side (second_lives k) (λ b. none_new second (λ u y. a u (or_right (eqb id u) _ (or_left (second_lives k && has u second) _ (and_from (second_lives k) (has u second) b y))))) in
      let y = none_new held (λ u y. a u (or_right (eqb id u) _ (or_right (second_lives k && has u second) _ (or_left (has u held) _ y)))) in
      let z = old_first id (live_items rest) (a id (or_left (eqb id id) _ (eq-eqb id id refl))) ∙ none_new rest (λ u y. a u (or_right (eqb id u) _ (or_right (second_lives k && has u second) _ (or_right (has u held) _ y)))) in
      kept_parts (only_if (second_lives k) (live_items second)) (live_items held) (id ∷ live_items rest) ∙ (λ i. (x i ++ y i) ++ z i)
    where
      by_side : (b : Bool) → (b ≡ true → filter fresh (live_items second) ≡ []) → filter fresh (only_if b (live_items second)) ≡ []
      by_side true h = h refl
      by_side false h = refl

  pub all_new : (es : Entries) → AreFresh es → filter fresh (live_items es) ≡ live_items es
  all_new none a = refl
  all_new (leaf id l rest) a = fresh_first id (live_items rest) (a id (or_left (eqb id id) _ (eq-eqb id id refl))) ∙ ap (λ ns. id ∷ ns) (all_new rest (λ u h. a u (or_right (eqb id u) _ h)))
  all_new (node id k h held g second rest) a =
      let x = by_side (second_lives k) (λ b. all_new second (λ u y. a u (or_right (eqb id u) _ (or_left (second_lives k && has u second) _ (and_from (second_lives k) (has u second) b y))))) in
      let y = all_new held (λ u y. a u (or_right (eqb id u) _ (or_right (second_lives k && has u second) _ (or_left (has u held) _ y)))) in
      let z = fresh_first id (live_items rest) (a id (or_left (eqb id id) _ (eq-eqb id id refl))) ∙ ap (λ ns. id ∷ ns) (all_new rest (λ u y. a u (or_right (eqb id u) _ (or_right (second_lives k && has u second) _ (or_right (has u held) _ y))))) in
      kept_parts (only_if (second_lives k) (live_items second)) (live_items held) (id ∷ live_items rest) ∙ (λ i. (x i ++ y i) ++ z i)
    where
      by_side : (b : Bool) → (b ≡ true → filter fresh (live_items second) ≡ live_items second) → filter fresh (only_if b (live_items second)) ≡ only_if b (live_items second)
      by_side true h = h refl
      by_side false h = refl

  -- numbers from n on
  pub range_new : (n c : ℕ) → ((u : ℕ) → n ≤ u → fresh u ≡ true) → filter fresh (range_with_len n c) ≡ range_with_len n c
  range_new n zero a = refl
  range_new n (suc c) a = fresh_first n (range_with_len (n + 1) c) (a n (omega arith)) ∙ ap (λ ns. n ∷ ns) (range_new (n + 1) c (λ u l. a u (omega (arith, l))))

  module _ (t : ℕ) (m : Option Side) (news : Entries) where
    at_item : (rest : Entries) → AreOld rest → filter fresh (live_items (append news rest)) ≡ filter fresh (live_items news)
    at_item rest a =
        let e = none_new rest a in
        ap (filter fresh) (live_append news rest) ∙ (filter-append fresh (live_items news) (live_items rest) ∙ (ap (λ l. filter fresh (live_items news) ++ l) e ∙ append-nil (filter fresh (live_items news))))

    -- What the rest of the entries has was had.
    pub put_new : (es : Entries) → has t es ≡ true → AreOld es → filter fresh (live_items (put t m news es)) ≡ filter fresh (live_items news)
    put_new none h a = absurd (false≢true h)
    put_new (leaf id l rest) h a =
        let b : AreOld rest = λ u h. a u (or_right (eqb id u) _ h) in
        let c = a id (or_left (eqb id id) _ (eq-eqb id id refl)) in
        elim (cases_Bool (eqb id t)) [
          | inl e ↦ rw e (at_item rest b)
          | inr e ↦ (let q = old_first id (live_items (put t m news rest)) c in rw e (q ∙ put_new rest (rw e at h) b))
        ]
    put_new (node id k hd held g second rest) y a =
        let b : AreOld rest = λ u h. a u (or_right (eqb id u) _ (or_right (second_lives k && has u second) _ (or_right (has u held) _ h))) in
        let c = a id (or_left (eqb id id) _ (eq-eqb id id refl)) in
        let d : AreOld held = λ u h. a u (or_right (eqb id u) _ (or_right (second_lives k && has u second) _ (or_left (has u held) _ h))) in
        let f : second_lives k ≡ true → AreOld second = λ v u h. a u (or_right (eqb id u) _ (or_left (second_lives k && has u second) _ (and_from (second_lives k) (has u second) v h))) in
        let sides = by_side (second_lives k) (λ v. none_new second (f v)) in
        let helds = none_new held d in
        let rests = old_first id (live_items rest) c ∙ none_new rest b in
        elim (cases_Bool (eqb id t)) [
          | inl e ↦ rw e (at_item rest b)
          | inr e ↦ elim (cases_Bool (second_lives k && has t second)) [
            | inl i ↦ (let p = both_so (second_lives k) (has t second) i in
                let q = put_new second p.1 (f p.0) in
                let only = λ (b : Bool) (l : b ≡ true). ap (λ b. filter fresh (only_if b (live_items (put t m news second)))) l in
                let first = only (second_lives k) p.0 ∙ q in
                let all = kept_parts (only_if (second_lives k) (live_items (put t m news second))) (live_items held) (id ∷ live_items rest) in
                rw (e, i) (all ∙ ((λ j. (first j ++ helds j) ++ rests j) ∙ ends (filter fresh (live_items news)))))
            | inr i ↦ elim (cases_Bool (has t held)) [
              | inl j ↦ (let q = put_new held j d in
                  let all = kept_parts (only_if (second_lives k) (live_items second)) (live_items (put t m news held)) (id ∷ live_items rest) in
                  rw (e, i, j) (all ∙ ((λ n. (sides n ++ q n) ++ rests n) ∙ append-nil (filter fresh (live_items news)))))
              | inr j ↦ (let q = old_first id (live_items (put t m news rest)) c ∙ put_new rest (rw (e, i, j) at y) b in
                  let all = kept_parts (only_if (second_lives k) (live_items second)) (live_items held) (id ∷ live_items (put t m news rest)) in
                  rw (e, i, j) (all ∙ (λ n. (sides n ++ helds n) ++ q n)))
            ]
          ]
        ]
      where
        by_side : (b : Bool) → (b ≡ true → filter fresh (live_items second) ≡ []) → filter fresh (only_if b (live_items second)) ≡ []
        by_side true h = h refl
        by_side false h = refl

        ends : (l : List ℕ) → (l ++ []) ++ [] ≡ l
        ends l = append-nil (l ++ []) ∙ append-nil l

-- the items that aren't live in a scene
abbrev pub not_in : S.Scene → ℕ → Bool
not_in s u = not (has u s.root.entries)

-- What becomes live by a reduction is among its news.
pub news_after : (s : S.Scene) (t : ℕ) (r : Reduction) → has t s.root.entries ≡ true → new_items s (scene_after t r s) ≡ filter (not_in s) (live_items r.news)
news_after s t r h = put_new (not_in s) t r.mark r.news s.root.entries h (λ u e. ap not e)

-- the numbers of leaves
pub leaves_live : (n : ℕ) (ws : List What) → live_items (leaves_from n ws) ≡ range_with_len n (length ws)
leaves_live n [] = refl
leaves_live n (w ∷ ws) = ap (λ ns. n ∷ ns) (leaves_live (n + 1) ws)
