-- What waits for a path waits for it where more is known, but not of that path.
use Rattle.std.proofs.Common.{◌≡◌, ℕ, zero, suc, ◌+◌, Bool, true, false, not, ◌&&◌, ◌||◌, cond, eqb, List, [], ◌∷◌, ◌++◌, Option, Some, None, refl, ap, ap₂, sym, ◌∙◌, subst, if◌then◌else◌, arith}
use Rattle.std.proofs.lemmas.Bool.{both_ways, and_parts, false_from_ne_true}
use Rattle.tp_value.specs.Tree.{Tree}
use Rattle.tp_value.specs.declared.value.Shape.{Shape}
use Rattle.tp_value.specs.declared.value.Shape.TheVariants.{Num, Truth, Items}
use Rattle.tp_value.specs.declared.path.Path.{Path}
use Rattle.tp_value.specs.declared.path.Fact.{Fact}
use Rattle.tp_value.specs.Shape.{item_at}
use Rattle.tp_kernel.specs.declared.fault.FaultKind.TheVariants.{NoElement}
use Rattle.tp_meaning.specs.Syntax.{ExprTree, Definition, BindingTree}
use Rattle.tp_store.specs.Facts.{same_variable, leaves_out, kept_shape, is_excluded, item_path}
use Rattle.tp_store.specs.Known.{NoClash, is_none, Whole, known, open_at, WholeItems, all_known, item_open_at, and_items, list_of_items, items_known, with_shape, whole, deepest, Full, absent, undecided, too_long, value, limited, full}
use Rattle.tp_store.proofs.Members.{excluded_by, excluded_from}
use Rattle.tp_eval.specs.Reached.{Stop, Reached, reaches, stops, waits, faults, passes, fault}
use Rattle.tp_eval.specs.Evaluate as ev
use Rattle.tp_eval.specs.Evaluate.{PlaceFound, at_path, inside, of_full, length_in, evaluate, find_place, depth_limit}
use Rattle.tp_eval.specs.Outcome as found
use Rattle.tp_eval.specs.Outcome.{outcome, place_outcome, outcome_reached, place_reached}
use Rattle.tp_step_laws.specs.Outcomes.{KnowsMore, StaysKnown, GrownFull}
use Rattle.tp_step_laws.specs.WaitingRows.{IsUndecided, OutcomesWait}
use Rattle.tp_step_laws.proofs.FactsGrow.{deep_more, whole_more, deeper_known, facts_grow}
use Rattle.tp_step_laws.proofs.OutcomesGrow.{IfNot, More, same_more, row_more, place_more}

-- what leaves out an element leaves out all in it
left_out_more : (at : List ℕ) (sh : Shape) (b c : List ℕ) → leaves_out at sh b ≡ true → leaves_out at sh (b ++ c) ≡ true
left_out_more [] sh [] c h = absurd (cc h)
left_out_more [] sh (k ∷ ks) c h = h
left_out_more (j ∷ js) sh [] c h = absurd (cc h)
left_out_more (j ∷ js) sh (k ∷ ks) c h =
    let r = and_parts (eqb j k) (leaves_out js sh ks) h in
    ap₂ (λ (a b : Bool). a && b) r.0 (left_out_more js sh ks c r.1)

excluded_item : (gs : List Fact) (p : Path) (k : ℕ) → is_excluded gs p ≡ true → is_excluded gs (item_path p k) ≡ true
excluded_item gs p k h =
    let r = excluded_by gs p h in
    let f = r.0 in
    let x = and_parts (same_variable f.path.var p.var) (leaves_out f.path.at f.shape p.at) r.2 in
    excluded_from gs (item_path p k) f r.1 (ap₂ (λ (a b : Bool). a && b) x.0 (left_out_more f.path.at f.shape p.at (k ∷ []) x.1))

-- the path that keeps items from being known keeps one of them from it
open_item : (f : Path → Whole) (p q : Path) (m k : ℕ) → items_known f p m k ≡ item_open_at q → (j : ℕ) × (f (item_path p j) ≡ open_at q)
open_item f p q zero k e = absurd (cc e)
open_item f p q (suc m) k e = go (open_item f p q m (suc k)) (f (item_path p k)) (items_known f p m (suc k)) refl refl e
  where
    go : (items_known f p m (suc k) ≡ item_open_at q → (j : ℕ) × (f (item_path p j) ≡ open_at q)) → (a : Whole) (b : WholeItems) → f (item_path p k) ≡ a → items_known f p m (suc k) ≡ b → and_items a b ≡ item_open_at q → (j : ℕ) × (f (item_path p j) ≡ open_at q)
    go up (open_at r) b x y z = let s : r ≡ q = cc z in (k, x ∙ ap open_at s)
    go up (known t) (item_open_at r) x y z = up (y ∙ z)
    go up (known t) (all_known us) x y z = absurd (cc z)

-- and goes on to do so by a reading that knows each that is known, and not that path
items_wait : (f g : Path → Whole) (p q : Path) → ((x : Path) (t : Tree) → f x ≡ known t → g x ≡ known t) → ((x : Path) → f x ≡ open_at q → g x ≡ open_at q) → (m k : ℕ) → items_known f p m k ≡ item_open_at q → items_known g p m k ≡ item_open_at q
items_wait f g p q h o zero k e = absurd (cc e)
items_wait f g p q h o (suc m) k e = go (items_wait f g p q h o m (suc k)) (f (item_path p k)) (items_known f p m (suc k)) refl refl e
  where
    go : (items_known f p m (suc k) ≡ item_open_at q → items_known g p m (suc k) ≡ item_open_at q) → (a : Whole) (b : WholeItems) → f (item_path p k) ≡ a → items_known f p m (suc k) ≡ b → and_items a b ≡ item_open_at q → and_items (g (item_path p k)) (items_known g p m (suc k)) ≡ item_open_at q
    go up (open_at r) b x y z = let s : r ≡ q = cc z in ap (λ (w : Whole). and_items w (items_known g p m (suc k))) (o (item_path p k) (x ∙ ap open_at s))
    go up (known t) (item_open_at r) x y z = ap₂ and_items (h (item_path p k) t x) (up (y ∙ z))
    go up (known t) (all_known us) x y z = absurd (cc z)

open_list : (w : WholeItems) (q : Path) → list_of_items w ≡ open_at q → w ≡ item_open_at q
open_list (all_known ts) q e = absurd (cc e)
open_list (item_open_at r) q e = let s : r ≡ q = cc e in ap item_open_at s

module _ (fs gs : List Fact) (fc : NoClash fs) (gc : NoClash gs) (more : KnowsMore fs gs) (q : Path) where
  -- what is excluded has all in it excluded
  excluded_open : (d : ℕ) (p : Path) → whole d fs p ≡ open_at q → is_excluded gs p ≡ true → is_excluded gs q ≡ true
  excluded_open zero p e h = let s : p ≡ q = cc e in subst (λ (x : Path). is_excluded gs x ≡ true) s h
  excluded_open (suc d) p e h = go (λ k x. excluded_open d (item_path p k) x (excluded_item gs p k h)) (kept_shape fs p) e
    where
      go : ((k : ℕ) → whole d fs (item_path p k) ≡ open_at q → is_excluded gs q ≡ true) → (o : Option Shape) → with_shape (whole d fs) p o ≡ open_at q → is_excluded gs q ≡ true
      go up None x = let s : p ≡ q = cc x in subst (λ (x : Path). is_excluded gs x ≡ true) s h
      go up (Some (Num n)) x = absurd (cc x)
      go up (Some (Truth b)) x = absurd (cc x)
      go up (Some (Items n)) x =
          let i = open_item (whole d fs) p q n 0 (open_list (items_known (whole d fs) p n 0) q x) in
          up i.0 i.1

  module _ (undecided_there : IsUndecided gs q) where
    -- the path is open where it has no shape
    open_here : (d : ℕ) (p : Path) → p ≡ q → whole d gs p ≡ open_at q
    open_here zero p s = ap open_at s
    open_here (suc d) p s = ap (with_shape (whole d gs) p) (ap (kept_shape gs) s ∙ undecided_there.0) ∙ ap open_at s

    open_more : (m d : ℕ) (p : Path) → whole d fs p ≡ open_at q → whole (m + d) gs p ≡ open_at q
    open_more m zero p e = let s : p ≡ q = cc e in open_here (m + zero) p s
    open_more m (suc d) p e = let n : m + suc d ≡ suc (m + d) = omega arith in ap (λ x. whole x gs p) n ∙ go (open_more m d) (kept_shape fs p) refl e
      where
        stay : (x : Path) (t : Tree) → whole d fs x ≡ known t → whole (m + d) gs x ≡ known t
        stay x t y = deeper_known fs gs fc gc more m d x t (whole_more fs gs fc gc more d x t y)

        go : ((x : Path) → whole d fs x ≡ open_at q → whole (m + d) gs x ≡ open_at q) → (o : Option Shape) → kept_shape fs p ≡ o → with_shape (whole d fs) p o ≡ open_at q → whole (suc (m + d)) gs p ≡ open_at q
        go up None x y = let s : p ≡ q = cc y in open_here (suc (m + d)) p s
        go up (Some (Num n)) x y = absurd (cc y)
        go up (Some (Truth b)) x y = absurd (cc y)
        go up (Some (Items n)) x y = ap (with_shape (whole (m + d) gs) p) (more p (Items n) x)
            ∙ ap list_of_items (items_wait (whole d fs) (whole (m + d) gs) p q stay up n 0 (open_list (items_known (whole d fs) p n 0) q y))

    pub full_waits : (p : Path) → full fs p ≡ undecided q → full gs p ≡ undecided q
    full_waits p e = go (is_excluded fs p) (whole (suc (deepest fs)) fs p) refl e
      where
        limits : (b : Bool) (t : Tree) → cond b (value t) too_long ≡ undecided q → ⊥
        limits true t h = cc
        limits false t h = cc

        go : (b : Bool) (o : Whole) → whole (suc (deepest fs)) fs p ≡ o → cond b absent (limited o) ≡ undecided q → full gs p ≡ undecided q
        go true o x y = absurd (cc y)
        go false (known t) x y = absurd (limits _ t y)
        go false (open_at r) x y =
            let s : r ≡ q = cc y in
            let from = x ∙ ap open_at s in
            let a = deepest fs in
            let b = deepest gs in
            let swap : a + suc b ≡ b + suc a = omega arith in
            let there : whole (suc b) gs p ≡ open_at q = deep_more a (suc b) gs p (omega arith) ∙ ap (λ n. whole n gs p) swap ∙ open_more b (suc a) p from in
            let allowed : is_excluded gs p ≡ false = false_from_ne_true (is_excluded gs p) (λ h. both_ways (is_excluded gs q) undecided_there.1 (excluded_open (suc a) p from h)) in
            ap₂ (λ (b : Bool) (o : Whole). cond b absent (limited o)) allowed there

-- the path has a shape, or is excluded
abbrev pub is_decided : List Fact → Path → Bool
is_decided gs p = not (is_none (kept_shape gs p)) || is_excluded gs p

pub not_decided : (gs : List Fact) (p : Path) → IsUndecided gs p → is_decided gs p ≡ false
not_decided gs p u = ap₂ (λ (o : Option Shape) (b : Bool). not (is_none o) || b) u.0 u.1

pub undecided_is : (gs : List Fact) (p : Path) → is_decided gs p ≡ false → IsUndecided gs p
undecided_is gs p e = go (kept_shape gs p) (is_excluded gs p) e
  where
    go : (o : Option Shape) (b : Bool) → not (is_none o) || b ≡ false → (o ≡ None) × (b ≡ false)
    go None b e = (refl, e)
    go (Some sh) b e = absurd (cc e)

module _ (fs gs : List Fact) (fc : NoClash fs) (gc : NoClash gs) (more : KnowsMore fs gs) where
  -- what waits for a path may become anything where that is decided
  abbrev free : Stop → Bool
  free (waits p) = is_decided gs p
  free (faults k) = false
  free (passes k) = false

  abbrev stays : StaysKnown fs gs
  stays = facts_grow fs gs fc gc more

  if_open : (b : Bool) (X : Type 0) → (b ≡ false → X) → IfNot b X
  if_open true X h = tt
  if_open false X h = h refl

  value_waits : (p : PlaceFound) (c : ℕ) → More free (ev.value_at fs p c) (ev.value_at gs p c)
  value_waits (inside t at) c = same_more free _
  value_waits (at_path p) c = go (full fs p) refl (stays.wholes p)
    where
      go : (o : Full) → full fs p ≡ o → GrownFull o (full gs p) → More free (of_full o c) (of_full (full gs p) c)
      go absent x h = ap (λ (o : Full). of_full o c) h
      go (undecided q) x h = if_open (is_decided gs q) _ (λ u. ap (λ (o : Full). of_full o c) (full_waits fs gs fc gc more q (undecided_is gs q u) p x))
      go too_long x h = ap (λ (o : Full). of_full o c) h
      go (value t) x h = ap (λ (o : Full). of_full o c) h

  abbrev by_shape : Path → ℕ → Bool → Option Shape → Reached Tree
  by_shape p c b o = (if b then fault NoElement else length_in p o) c

  size_waits : (p : PlaceFound) (c : ℕ) → More free (ev.size_at fs p c) (ev.size_at gs p c)
  size_waits (inside t at) c = same_more free _
  size_waits (at_path p) c = go (is_excluded fs p) (kept_shape fs p) refl refl
    where
      go : (b : Bool) (o : Option Shape) → is_excluded fs p ≡ b → kept_shape fs p ≡ o → More free (by_shape p c b o) (ev.size_at gs (at_path p) c)
      go true o e h = ap (λ b. by_shape p c b (kept_shape gs p)) (stays.excluded p e)
      go false None e h = if_open (is_decided gs p) _ (λ u. let there = undecided_is gs p u in ap₂ (by_shape p c) there.1 there.0)
      go false (Some sh) e h = subst (λ (r : Reached Tree). More free (length_in p (Some sh) c) r) (ap₂ (by_shape p c) (sym (stays.allowed p sh h)) (sym (more p sh h))) (same_more free _)

  module _ (defs : List Definition) where
    evaluate_waits : (d : ℕ) → ((e : ExprTree) (env : List BindingTree) (c : ℕ) → More free (evaluate fs defs d e env c) (evaluate gs defs d e env c)) × ((e : ExprTree) (env : List BindingTree) (c : ℕ) → More free (find_place fs defs d e env c) (find_place gs defs d e env c))
    evaluate_waits zero = (λ e env c. refl, λ e env c. refl)
    evaluate_waits (suc d) = let ih = evaluate_waits d in (
      (λ e env c. row_more free fs gs value_waits size_waits _ _ (λ x c. ih.0 x env c) _ _ (λ x c. ih.1 x env c) env defs _ _ (λ x args c. ih.0 x args c) e c),
      (λ e env c. place_more free fs gs value_waits size_waits _ _ (λ x c. ih.0 x env c) _ _ (λ x c. ih.1 x env c) env e c),
    )

  module _ (p : Path) (u : IsUndecided gs p) where
    held : (X : Type 0) → IfNot (is_decided gs p) X → X
    held X h = subst (λ (b : Bool). IfNot b X) (not_decided gs p u) h

    outcome_waits : (r r' : Reached Tree) → More free r r' → outcome_reached r ≡ found.wait p → outcome_reached r' ≡ found.wait p
    outcome_waits (reaches x c) r' h e = absurd (cc e)
    outcome_waits (stops (waits o)) r' h e = let s : o ≡ p = cc e in
        ap outcome_reached (held _ (subst (λ (x : Path). IfNot (is_decided gs x) (r' ≡ stops (waits x))) s h))
    outcome_waits (stops (faults k)) r' h e = absurd (cc e)
    outcome_waits (stops (passes k)) r' h e = absurd (cc e)

    element_found : (o : Option Tree) (c : ℕ) → found.other (outcome_reached (ev.element_in o c)) ≡ found.other (found.wait p) → ⊥
    element_found (Some t) c e = cc
    element_found None c e = cc

    place_waits : (r r' : Reached PlaceFound) → More free r r' → place_reached fs r ≡ found.other (found.wait p) → place_reached gs r' ≡ found.other (found.wait p)
    place_waits (reaches (at_path o) c) r' h e = absurd (cc e)
    place_waits (reaches (inside t at) c) r' h e = absurd (element_found (item_at at t) c e)
    place_waits (stops (waits o)) r' h e = let s : o ≡ p = cc e in
        ap (place_reached gs) (held _ (subst (λ (x : Path). IfNot (is_decided gs x) (r' ≡ stops (waits x))) s h))
    place_waits (stops (faults k)) r' h e = absurd (cc e)
    place_waits (stops (passes k)) r' h e = absurd (cc e)

pub outcomes_wait : OutcomesWait
unfolding outcome place_outcome
outcomes_wait fs gs fc gc more defs e env p u =
    let ih = evaluate_waits fs gs fc gc more defs depth_limit in
    (outcome_waits fs gs fc gc more p u _ _ (ih.0 e env 0), place_waits fs gs fc gc more p u _ _ (ih.1 e env 0))
