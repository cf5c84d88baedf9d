-- Values that are found are within the limits on items and depth, where bound ones are.
use Rattle.std.proofs.Common.{◌≡◌, ℕ, zero, suc, nat_le, ◌≤◌, Bool, true, false, List, Some, refl, subst, slice_get, if◌then◌else◌, arith}
use Rattle.std.proofs.lemmas.Bool.{and_parts, leb-true, le-leb}
use Rattle.tp_value.specs.Tree.{Tree, Trees, list, nil, cons, items_of}
use Rattle.tp_value.specs.Limits.{items_in, depth_of, is_within_list_limit}
use Rattle.tp_value.specs.Room.{IsWithinListLimit}
use Rattle.tp_value.specs.Limits as limits
use Rattle.tp_value.specs.declared.path.Path.{Path}
use Rattle.tp_value.specs.declared.path.Fact.{Fact}
use Rattle.tp_meaning.specs.Syntax.{ExprTree, known, index, either, binary, choice, Definition}
use Rattle.tp_store.specs.Facts.{is_excluded}
use Rattle.tp_store.specs.Known as store
use Rattle.tp_store.specs.Known.{Whole, full, whole, deepest}
use Rattle.tp_eval.specs.Outcome as found
use Rattle.tp_eval.specs.Outcome.{PlaceOutcome}
use Rattle.tp_scene.proofs.Told.{Bundle, PlaceHas}
use Rattle.tp_scene.proofs.Free.{free, free_lists}
use Rattle.tp_scene.proofs.Evaluated.{ExprPartsOf, Evaluates, outcome_told, place_outcome_told}
use Rattle.tp_step_laws.specs.Within.{BindingWithin, ValuesWithin}

-- an item of a value has no more items, and is no deeper
record Inside (t u : Tree) : Type 0 where
  items : items_in u ≤ items_in t
  depth : depth_of u ≤ depth_of t

in_list : (ts : Trees) (k : ℕ) (u : Tree) → slice_get (items_of ts) k ≡ Some u → Inside (list ts) u
in_list nil k u e = absurd (cc)
in_list (cons t ts) zero u e = let q : t ≡ u = cc in subst (λ (v : Tree). Inside (list (cons t ts)) v) q (record { items = omega arith; depth = omega arith })
in_list (cons t ts) (suc k) u e = let i = in_list ts k u e in record { items = omega (arith, i.items); depth = omega (arith, i.depth) }

small_inside : (t u : Tree) → Inside t u → IsWithinListLimit t → IsWithinListLimit u
small_inside t u i h =
    let a = and_parts (nat_le (depth_of t) limits.value_depth_limit) (nat_le (items_in t) limits.item_limit) h in
    let b = leb-true (depth_of t) limits.value_depth_limit a.0 in
    let c = leb-true (items_in t) limits.item_limit a.1 in
    rw (le-leb (depth_of u) limits.value_depth_limit (omega (arith, b, i.depth)), le-leb (items_in u) limits.item_limit (omega (arith, c, i.items))) refl

pub full_small : (facts : List Fact) (p : Path) (t : Tree) → full facts p ≡ store.value t → IsWithinListLimit t
full_small facts p t = go (is_excluded facts p) (whole (suc (deepest facts)) facts p)
  where
    limit : (b : Bool) (u : Tree) → is_within_list_limit u ≡ b → (if b then store.value u else store.too_long) ≡ store.value t → IsWithinListLimit t
    limit true u h e = let q : u ≡ t = cc in subst (λ (v : Tree). IsWithinListLimit v) q h
    limit false u h e = absurd (cc)

    go : (b : Bool) (o : Whole) → (if b then store.absent else store.limited o) ≡ store.value t → IsWithinListLimit t
    go false (store.known u) e = limit (is_within_list_limit u) u refl e
    go false (store.open_at q) e = absurd (cc)
    go true o e = absurd (cc)

-- an outcome with a value within the limits, if any
abbrev pub ValueWithin : found.Outcome → Type 0
ValueWithin (found.value t) = IsWithinListLimit t
ValueWithin (found.wait p) = Unit {0}
ValueWithin (found.fault k) = Unit {0}
ValueWithin (found.over k) = Unit {0}

abbrev pub small : (List Fact → Type 0) → Bundle
small N = free BindingWithin ValueWithin N

module _ (N : List Fact → Type 0) (facts : List Fact) (defs : List Definition) where
  parts_small : (e : ExprTree) (m : ℕ) → ExprPartsOf (small N) e m
  parts_small (known t) m = λ e. e
  parts_small (index e i) m = (tt, tt)
  parts_small (either x y) m = (tt, tt)
  parts_small (binary o x y) m = (tt, tt)
  parts_small (choice c x y) m = (tt, tt, tt)
  parts_small e m = tt

  pub evaluates_small : Evaluates (small N) defs facts
  evaluates_small = record {
    lists = free_lists BindingWithin ValueWithin N (λ k. refl);
    parts = λ e m h. parts_small e m;
    body = λ i d e p q. tt;
    number = λ n e. refl;
    truths = λ c. refl;
    listed = λ ts h e. e;
    item = λ ts k t h e. small_inside (list ts) t (in_list ts k t e) h;
    sized = λ ts h. refl;
    kept_size = λ q n e. refl;
    kept = λ q t e. full_small facts q t e;
    value_bound = λ t h. h;
    bound_value = λ t h. h;
    farther = λ q k h i l. tt;
    waiting = λ q h. tt;
    undecided = λ q p h e. tt;
    fault = λ k. tt;
    limits = (tt, tt, tt);
  }

pub values_within : ValuesWithin
values_within facts defs e env h =
    let N : List Fact → Type 0 = λ fs. Unit {0} in
    record {
      value = λ v x. subst ValueWithin x (outcome_told (small N) facts defs (evaluates_small N facts defs) e 0 env tt h);
      of_place = λ v x. subst (PlaceHas (small N)) x (place_outcome_told (small N) facts defs (evaluates_small N facts defs) e 0 env tt h);
    }
