-- What an evaluation waits for is of the variable whose value is asked for; and the limits that it passes aren't that on reductions.
use Rattle.std.proofs.Common.{◌≡◌, refl, ℕ, zero, suc, Bool, true, false, cond, List, Option, Some, None, subst}
use Rattle.tp_value.specs.Tree.{Tree}
use Rattle.tp_value.specs.Limits.{is_within_list_limit}
use Rattle.tp_value.specs.declared.value.Shape.{Shape}
use Rattle.tp_value.specs.declared.value.Shape.TheVariants.{Num, Truth, Items}
use Rattle.tp_value.specs.declared.path.VarId.{VarId}
use Rattle.tp_value.specs.declared.path.Path.{Path}
use Rattle.tp_value.specs.declared.path.Fact.{Fact}
use Rattle.tp_kernel.specs.declared.fault.LimitKind.{LimitKind}
use Rattle.tp_kernel.specs.declared.fault.LimitKind.TheVariants as limit
use Rattle.tp_store.specs.Facts.{kept_shape, is_excluded, item_path}
use Rattle.tp_store.specs.Known as store
use Rattle.tp_store.specs.Known.{full}
use Rattle.tp_eval.specs.Outcome as found

-- another limit than that on reductions
abbrev pub IsOther : LimitKind → Type 0
IsOther limit.Reductions = ⊥
IsOther limit.Number = Unit {0}
IsOther limit.List = Unit {0}
IsOther limit.Calls = Unit {0}
IsOther limit.Nest = Unit {0}

-- the first path without a shape is of the variable whose value is asked for
abbrev WholeOf : VarId → store.Whole → Type 0
WholeOf x (store.known t) = Unit {0}
WholeOf x (store.open_at q) = q.var ≡ x

abbrev ItemsOf : VarId → store.WholeItems → Type 0
ItemsOf x (store.all_known ts) = Unit {0}
ItemsOf x (store.item_open_at q) = q.var ≡ x

and_items_of : (x : VarId) (w : store.Whole) (ws : store.WholeItems) → WholeOf x w → ItemsOf x ws → ItemsOf x (store.and_items w ws)
and_items_of x (store.open_at q) ws h g = h
and_items_of x (store.known t) (store.item_open_at q) h g = g
and_items_of x (store.known t) (store.all_known ts) h g = tt

items_of_one : (item : Path → store.Whole) → ((q : Path) → WholeOf q.var (item q)) → (p : Path) (m k : ℕ) → ItemsOf p.var (store.items_known item p m k)
items_of_one item go p zero k = tt
items_of_one item go p (suc m) k = and_items_of p.var (item (item_path p k)) (store.items_known item p m (suc k)) (go (item_path p k)) (items_of_one item go p m (suc k))

list_of_one : (x : VarId) (ws : store.WholeItems) → ItemsOf x ws → WholeOf x (store.list_of_items ws)
list_of_one x (store.all_known ts) h = tt
list_of_one x (store.item_open_at q) h = h

shape_of_one : (item : Path → store.Whole) → ((q : Path) → WholeOf q.var (item q)) → (p : Path) (o : Option Shape) → WholeOf p.var (store.with_shape item p o)
shape_of_one item go p None = refl
shape_of_one item go p (Some (Num n)) = tt
shape_of_one item go p (Some (Truth b)) = tt
shape_of_one item go p (Some (Items n)) = list_of_one p.var (store.items_known item p n 0) (items_of_one item go p n 0)

whole_of_one : (d : ℕ) (facts : List Fact) (p : Path) → WholeOf p.var (store.whole d facts p)
whole_of_one zero facts p = refl
whole_of_one (suc d) facts p = shape_of_one (store.whole d facts) (whole_of_one d facts) p (kept_shape facts p)

pub undecided_of : (facts : List Fact) (p q : Path) → full facts p ≡ store.undecided q → q.var ≡ p.var
undecided_of facts p q = go (is_excluded facts p) (store.whole (suc (store.deepest facts)) facts p) (whole_of_one (suc (store.deepest facts)) facts p)
  where
    limit : (b : Bool) (t : Tree) → cond b (store.value t) store.too_long ≡ store.undecided q → q.var ≡ p.var
    limit true t e = absurd (cc)
    limit false t e = absurd (cc)

    go : (b : Bool) (w : store.Whole) → WholeOf p.var w → cond b store.absent (store.limited w) ≡ store.undecided q → q.var ≡ p.var
    go true w h e = absurd (cc)
    go false (store.open_at r) h e = let s : r ≡ q = cc in subst (λ (x : Path). x.var ≡ p.var) s h
    go false (store.known t) h e = limit (is_within_list_limit t) t e

-- an outcome that waits for no other variable, and passes no limit on reductions
abbrev pub WaitsThere : (VarId → Type 0) → found.Outcome → Type 0
WaitsThere P (found.value t) = Unit {0}
WaitsThere P (found.wait p) = P p.var
WaitsThere P (found.fault k) = Unit {0}
WaitsThere P (found.over k) = IsOther k
