-- What becomes live by each kind of step.
use Rattle.std.proofs.Common.{◌≡◌, ℕ, ◌+◌, ◌≤◌, Bool, false, List, [], ◌∷◌, ◌++◌, length, true, Option, Some, None, refl, ap, sym, ◌∙◌, subst, arith}
use Rattle.std.specs.Prelude.{not}
use Rattle.std.specs.List.{filter, range_with_len}
use Rattle.std.proofs.lemmas.List.{append_assoc}
use Rattle.std.proofs.lemmas.List.Elements.{filter-append}
use Rattle.tp_meaning.specs.Syntax.{FormulaTree}
use Rattle.tp_store.specs.Known.{Contents}
use Rattle.tp_scene.specs.Scene as S
use Rattle.tp_scene.specs.Scene.{Bindings, Side, Split, SplitProject, Closed, Opened, Running, leaf, none, new_head, has, only_if, second_lives, closed_then, opened_then, running_then, held_place}
use Rattle.tp_scene.specs.LiveItems.{live_items}
use Rattle.tp_scene.specs.Step.{Reduction, reduces}
use Rattle.tp_scene.specs.Pick.{Setting, outcome_of, scene_after}
use Rattle.tp_decide.specs.declared.decision.Leaf.{Leaf}
use Rattle.tp_slots.specs.Plain.{What, bare, holds, gone, slot_at, head_at, entries_at, WhatFits}
use Rattle.tp_slots.specs.Places.{HeldBy}
use Rattle.tp_slots.specs.Lives.{lives_in}
use Rattle.tp_slots.specs.Kept.{IsWellKept}
use Rattle.tp_slots.specs.News.{new_items, bare_leaves, moved_news}
use Rattle.tp_slots.specs.Reductions.{AreBare, CanMove, IsReduced, IsAfter, becomes_leaves, becomes_holder}
use Rattle.tp_slots.specs.Read.{slots_of, scene_of, holders_of}
use Rattle.tp_slots.proofs.Living.{home_lives, first_lives}
use Rattle.tp_slots.proofs.Moving.{asleep_second, at_place, begins, closes, opened_reduced, project_reduced, same_reduction, split_reduced, stepped_as, within}
use Rattle.tp_slots.proofs.News.{all_new, leaves_live, news_after, none_new, not_in, range_new}
use Rattle.tp_slots.proofs.Waking.{awake, dormant, has_no_next}
use Rattle.tp_slots.specs.declared.scene.Scene.{Scene}

pub leaves_bare : (ls : List Leaf) → AreBare (bare_leaves ls)
leaves_bare [] = tt
leaves_bare (l ∷ ls) = (tt, leaves_bare ls)

pub two_numbers : (n : ℕ) → (0 + n) ∷ (1 + n) ∷ [] ≡ range_with_len n 2
two_numbers n = let a : 0 + n ≡ n = omega arith in let b : 1 + n ≡ n + 1 = omega arith in λ i. a i ∷ b i ∷ []

three_numbers : (n : ℕ) → (0 + n) ∷ (1 + n) ∷ (2 + n) ∷ [] ≡ range_with_len n 3
three_numbers n = let a : 0 + n ≡ n = omega arith in let b : 1 + n ≡ n + 1 = omega arith in let d : 2 + n ≡ n + 1 + 1 = omega arith in λ i. a i ∷ b i ∷ d i ∷ []

module _ (s : Scene) (t : ℕ) (kept : IsWellKept s) (lives : has t (scene_of s).root.entries ≡ true) where
  abbrev n : ℕ
  n = length (slots_of s).slots

  abbrev fresh : ℕ → Bool
  fresh = not_in (scene_of s)

  next_is : (u : ℕ) → n ≤ u → fresh u ≡ true
  next_is u l = ap not (has_no_next (slots_of s) kept.shape.ordered u l)

  -- consecutive numbers from the next one on
  numbered : (c : ℕ) → filter fresh (range_with_len n c) ≡ range_with_len n c
  numbered c = range_new fresh n c next_is

  pub leaves_news : (ws : List What) (m : Option Side) → new_items (scene_of s) (scene_after t (becomes_leaves (scene_of s) ws m) (scene_of s)) ≡ range_with_len n (length ws)
  leaves_news ws m = news_after (scene_of s) t (becomes_leaves (scene_of s) ws m) lives ∙ (ap (filter fresh) (leaves_live n ws) ∙ numbered (length ws))

  pub holder_news : (f : FormulaTree) (e : Bindings) (k : S.Holder) (p : ℕ) → second_lives k ≡ false → new_items (scene_of s) (scene_after t (becomes_holder (scene_of s) f e (holds k p None)) (scene_of s)) ≡ range_with_len n 2
  holder_news f e k p asleep =
      news_after (scene_of s) t (becomes_holder (scene_of s) f e (holds k p None)) lives
      ∙ (ap (λ b. filter fresh ((only_if b [] ++ (0 + n) ∷ []) ++ (1 + n) ∷ [])) asleep ∙ (ap (filter fresh) (two_numbers n) ∙ numbered 2))

  -- what a region that the item holds has
  fits : (v : What) → (slot_at (slots_of s) t).what ≡ v → WhatFits (slots_of s) (slot_at (slots_of s) t).home t v
  fits v is = subst (λ v. WhatFits (slots_of s) (slot_at (slots_of s) t).home t v) is (kept.shape.ordered.items t (within s t kept lives)).1

  held_lives : (k : S.Holder) (p : ℕ) (o : Option ℕ) → (slot_at (slots_of s) t).what ≡ holds k p o → lives_in (slots_of s) (holders_of s) p ≡ true
  held_lives k p o is =
      first_lives (slots_of s) (holders_of s) kept.shape.ordered kept.shape.held t (slot_at (slots_of s) t).home p k o (within s t kept lives) (λ i. record { home = (slot_at (slots_of s) t).home; what = is i })
      (home_lives (slots_of s) (holders_of s) kept.shape.ordered kept.shape.held t lives)

  had : (k : S.Holder) (p : ℕ) (o : Option ℕ) → (slot_at (slots_of s) t).what ≡ holds k p o → filter fresh (live_items (entries_at (slots_of s) p)) ≡ []
  had k p o is =
      none_new fresh (entries_at (slots_of s) p)
      (λ u h. ap not (awake (slots_of s) (holders_of s) kept.shape.ordered kept.shape.held kept.shape.own p (fits (holds k p o) is).0.1 u h (held_lives k p o is)))

  module _ (w : Setting) (k : Contents) (r : Reduction) (e : outcome_of w k (scene_of s) t ≡ reduces r) where
    split_moved : (f : FormulaTree) (env : Bindings) (p : ℕ) → (slot_at (slots_of s) t).what ≡ holds (Split f env) p None → filter fresh (live_items r.news) ≡ range_with_len n 2
    split_moved f env p is =
        let made : Reduction = split_reduced (slots_of s) f env p in
        let q = closes (held_place (Split f env) (head_at (slots_of s) p) (entries_at (slots_of s) p) (at_place s t kept lives)) (reduces made) r (sym (stepped_as s t kept lives w k (holds (Split f env) p None) is) ∙ e) in
        ap (λ (x : Reduction). filter fresh (live_items x.news)) (sym (same_reduction made r q.2))
        ∙ (filter-append fresh (live_items (entries_at (slots_of s) p)) ((0 + n) ∷ (1 + n) ∷ [])
        ∙ ((λ i. had (Split f env) p None is i ++ filter fresh (two_numbers n i)) ∙ numbered 2))

    project_moved : (f : FormulaTree) (env : Bindings) (p q : ℕ) → (slot_at (slots_of s) t).what ≡ holds (SplitProject f env) p (Some q) → filter fresh (live_items r.news) ≡ n ∷ live_items (entries_at (slots_of s) q) ++ (n + 1) ∷ []
    project_moved f env p q is =
        let made : Reduction = project_reduced (slots_of s) f env p q in
        let x = closes (held_place (SplitProject f env) (head_at (slots_of s) p) (entries_at (slots_of s) p) (at_place s t kept lives)) (reduces made) r (sym (stepped_as s t kept lives w k (holds (SplitProject f env) p (Some q)) is) ∙ e) in
        let fit = fits (holds (SplitProject f env) p (Some q)) is in
        let by = subst (λ v. HeldBy (holders_of s) t v) is (kept.shape.held.by t (within s t kept lives)) in
        let above = fit.1.1.0 in
        let sleeps = asleep_second s t kept lives f env p q is by.1.0 by.1.1 fit.1.1.1 (omega (arith, above)) in
        let woken = all_new fresh (entries_at (slots_of s) q) (λ u h. ap not (dormant (slots_of s) (holders_of s) kept.shape.ordered kept.shape.held kept.shape.own q fit.1.1.1 u h sleeps)) in
        let a : 0 + n ≡ n = omega arith in
        let b : 1 + n ≡ n + 1 = omega arith in
        ap (λ (x : Reduction). filter fresh (live_items x.news)) (sym (same_reduction made r x.2))
        ∙ (filter-append fresh (live_items (entries_at (slots_of s) p)) ((0 + n) ∷ live_items (entries_at (slots_of s) q) ++ (1 + n) ∷ [])
        ∙ ((λ i. had (SplitProject f env) p (Some q) is i ++ filter fresh (a i ∷ live_items (entries_at (slots_of s) q) ++ b i ∷ []))
        ∙ (fresh_next n (live_items (entries_at (slots_of s) q) ++ (n + 1) ∷ []) (next_is n (omega arith))
        ∙ ap (λ l. n ∷ l)
        (filter-append fresh (live_items (entries_at (slots_of s) q)) ((n + 1) ∷ [])
        ∙ (λ i. woken i ++ fresh_next (n + 1) [] (next_is (n + 1) (omega arith)) i)))))
      where
        fresh_next : (x : ℕ) (xs : List ℕ) → fresh x ≡ true → filter fresh (x ∷ xs) ≡ x ∷ filter fresh xs
        fresh_next x xs e = rw e refl

    opened_moved : (f : FormulaTree) (env : Bindings) (q : ℕ) → (slot_at (slots_of s) t).what ≡ holds (Opened f env) q None → filter fresh (live_items r.news) ≡ range_with_len n 3
    opened_moved f env q is =
        let made : Reduction = opened_reduced (slots_of s) f env q in
        let x = begins (held_place (Opened f env) (head_at (slots_of s) q) (entries_at (slots_of s) q) (at_place s t kept lives)) (reduces made) r (sym (stepped_as s t kept lives w k (holds (Opened f env) q None) is) ∙ e) in
        ap (λ (x : Reduction). filter fresh (live_items x.news)) (sym (same_reduction made r x))
        ∙ (ap (filter fresh) (append_assoc (live_items (entries_at (slots_of s) q)) ((0 + n) ∷ (1 + n) ∷ []) ((2 + n) ∷ []))
        ∙ (filter-append fresh (live_items (entries_at (slots_of s) q)) ((0 + n) ∷ (1 + n) ∷ (2 + n) ∷ [])
        ∙ ((λ i. had (Opened f env) q None is i ++ filter fresh (three_numbers n i)) ∙ numbered 3)))

    news_moved : (v : What) → (slot_at (slots_of s) t).what ≡ v → CanMove v → filter fresh (live_items r.news) ≡ moved_news (slots_of s) v
    news_moved (bare l) is can = absurd can
    news_moved (gone by) is can = absurd can
    news_moved (holds (Split f env) p None) is can = split_moved f env p is
    news_moved (holds (Split f env) p (Some q)) is can = absurd can
    news_moved (holds (SplitProject f env) p None) is can = absurd can
    news_moved (holds (SplitProject f env) p (Some q)) is can = project_moved f env p q is
    news_moved (holds Closed p o) is can = absurd can
    news_moved (holds (Opened f env) p None) is can = opened_moved f env p is
    news_moved (holds (Opened f env) p (Some q)) is can = absurd can
    news_moved (holds (Running f env) p o) is can = absurd can

  -- What becomes live where the item is reduced is as its slot says.
  pub moved_news_are : (next : Scene) → CanMove (slot_at (slots_of s) t).what → IsReduced (scene_of s) t → IsAfter t (scene_of s) (scene_of next) → moved_news (slots_of s) (slot_at (slots_of s) t).what ≡ new_items (scene_of s) (scene_of next)
  moved_news_are next can red after =
      sym (ap (new_items (scene_of s)) (after red.0 red.1 red.2 red.3)
      ∙ (news_after (scene_of s) t red.2 lives
      ∙ news_moved red.0 red.1 red.2 red.3 (slot_at (slots_of s) t).what refl can))
