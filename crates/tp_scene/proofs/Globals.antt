-- The facts of globals, of static variables, of locals, and of a value at a path.
use Rattle.std.proofs.Common.{◌≡◌, ℕ, zero, suc, ◌+◌, ◌-◌, ◌<◌, ◌≤◌, nat_lt, Bool, List, [], ◌∷◌, ◌++◌, drop, map, slice_get, Some, refl, ap, sym, ◌∙◌, subst, arith, inl, inr, if◌then◌else◌}
use Rattle.std.proofs.lemmas.Bool.{cases_lt, ltb-true, lt-ltb, le-ltb}
use Rattle.tp_value.specs.Tree.{Tree, Trees, list, nil, cons}
use Rattle.tp_value.specs.Shape.{shape_at_path}
use Rattle.tp_value.specs.declared.path.Path.{Path}
use Rattle.tp_value.specs.declared.path.Fact.{Fact}
use Rattle.tp_meaning.specs.Course.{Course}
use Rattle.tp_meaning.specs.Bindings.{Locals}
use Rattle.tp_meaning.specs.Holds.{Lasts}
use Rattle.tp_store.specs.Facts.{AgreesWith, AgreesWithAll, facts_at, facts_of_items, item_path}
use Rattle.tp_store.specs.Known.{AreOfVariables, Variable, IsVariableOf, facts_below}
use Rattle.tp_store.proofs.Members.{In, in_filter, filter_in, agrees_in, agrees_from}
use Rattle.tp_eval.specs.Right.{values_at}
use Rattle.tp_scene.specs.StandsFor.{AllLast, locals_of, AgreesWithGlobals}

-- at one variable the same value, so the same agreement
pub agrees_same : (v u : ℕ → Tree) (f : Fact) → u f.path.var.number ≡ v f.path.var.number → AgreesWith v f → AgreesWith u f
agrees_same v u f e h = ap (shape_at_path f.path.at) e ∙ h

module _ (globals : ℕ) (s : Course) (σ : Locals) (a y : ℕ) where
  pub at_global : y < globals → values_at globals s σ a y ≡ (s a).values y
  at_global l = ap (λ b. if b then (s a).values y else σ y a) (lt-ltb y globals l)

  pub at_local : globals ≤ y → values_at globals s σ a y ≡ σ y a
  at_local l = ap (λ b. if b then (s a).values y else σ y a) (le-ltb y globals l)

-- what agrees with all agrees with those of globals
pub globals_agree : (globals : ℕ) (s : Course) (σ : Locals) (a : ℕ) (facts : List Fact) → AgreesWithAll (values_at globals s σ a) facts → AgreesWithGlobals globals s a facts
globals_agree globals s σ a facts h = agrees_from (s a).values (facts_below globals facts) (λ f i.
    let x = in_filter (λ (f : Fact). nat_lt f.path.var.number globals) f facts i in
    agrees_same (values_at globals s σ a) (s a).values f (sym (at_global globals s σ a f.path.var.number (ltb-true f.path.var.number globals x.1))) (agrees_in (values_at globals s σ a) facts h f x.0))

-- and with all where the locals agree with theirs
pub all_agree : (globals : ℕ) (s : Course) (σ : Locals) (a : ℕ) (facts : List Fact) → AgreesWithGlobals globals s a facts
    → ((f : Fact) → In f facts → globals ≤ f.path.var.number → AgreesWith (λ y. σ y a) f) → AgreesWithAll (values_at globals s σ a) facts
all_agree globals s σ a facts h locals = agrees_from (values_at globals s σ a) facts (λ f i. elim (cases_lt f.path.var.number globals) [
  | inl l ↦ agrees_same (s a).values (values_at globals s σ a) f (at_global globals s σ a f.path.var.number l)
      (agrees_in (s a).values (facts_below globals facts) h f (filter_in (λ (f : Fact). nat_lt f.path.var.number globals) f facts i (lt-ltb f.path.var.number globals l)))
  | inr l ↦ agrees_same (λ y. σ y a) (values_at globals s σ a) f (at_local globals s σ a f.path.var.number l) (locals f i l)
])

pub of_variables_in : (xs : List Variable) (facts : List Fact) → AreOfVariables xs facts → (f : Fact) → In f facts → IsVariableOf xs f.path.var
of_variables_in xs [] h f i = elim i [ ]
of_variables_in xs (g ∷ gs) h f (inl e) = subst (λ (x : Fact). IsVariableOf xs x.path.var) e h.0
of_variables_in xs (g ∷ gs) h f (inr i) = of_variables_in xs gs h.1 f i

pub in_of_variables : (xs : List Variable) (facts : List Fact) → ((f : Fact) → In f facts → IsVariableOf xs f.path.var) → AreOfVariables xs facts
in_of_variables xs [] h = tt
in_of_variables xs (g ∷ gs) h = (h g (inl refl), in_of_variables xs gs (λ f i. h f (inr i)))

pub of_append : (xs : List Variable) (fs gs : List Fact) → AreOfVariables xs fs → AreOfVariables xs gs → AreOfVariables xs (fs ++ gs)
of_append xs [] gs h k = k
of_append xs (f ∷ fs) gs h k = (h.0, of_append xs fs gs h.1 k)

mutual
  pub facts_of_value : (xs : List Variable) (p : Path) (t : Tree) → IsVariableOf xs p.var → AreOfVariables xs (facts_at p t)
  facts_of_value xs p (list ts) h = (h, facts_of_parts xs p 0 ts h)
  facts_of_value xs p t h = (h, tt)

  facts_of_parts : (xs : List Variable) (p : Path) (k : ℕ) (ts : Trees) → IsVariableOf xs p.var → AreOfVariables xs (facts_of_items p k ts)
  facts_of_parts xs p k nil h = tt
  facts_of_parts xs p k (cons t ts) h = of_append xs (facts_at (item_path p k) t) (facts_of_items p (suc k) ts) (facts_of_value xs (item_path p k) t h) (facts_of_parts xs p (suc k) ts h)

-- the local with that number is one of the locals
last_at : (xs : List Variable) (n k : ℕ) (σ : Locals) (b : Bool) → AllLast xs n σ → slice_get (map (λ (x : Variable). x.lasting) xs) k ≡ Some b → Lasts b (σ (k + n))
last_at [] n k σ b h e = absurd (cc)
last_at (x ∷ xs) n zero σ b h e = let q : x.lasting ≡ b = (let z : Some x.lasting ≡ Some b = e in cc) in
    let m : n ≡ 0 + n = omega arith in subst (λ (c : Bool). Lasts c (σ (0 + n))) q (subst (λ (i : ℕ). Lasts x.lasting (σ i)) m h.0)
last_at (x ∷ xs) n (suc k) σ b h e = let m : k + suc n ≡ suc k + n = omega arith in subst (λ (i : ℕ). Lasts b (σ i)) m (last_at xs (suc n) k σ b h.1 e)

drop_get : (n : ℕ) (xs : List Variable) (k : ℕ) → slice_get (map (λ (x : Variable). x.lasting) (drop n xs)) k ≡ slice_get (map (λ (x : Variable). x.lasting) xs) (n + k)
drop_get zero xs k = let m : k ≡ 0 + k = omega arith in ap (slice_get (map (λ (x : Variable). x.lasting) xs)) m
drop_get (suc n) [] k = refl
drop_get (suc n) (x ∷ xs) k = drop_get n xs k ∙ (let m : suc (n + k) ≡ suc n + k = omega arith in ap (slice_get (map (λ (x : Variable). x.lasting) (x ∷ xs))) m)

pub local_lasts : (globals : ℕ) (xs : List Variable) (σ : Locals) (y : ℕ) (b : Bool) → AllLast (locals_of globals xs) globals σ → globals ≤ y → slice_get (map (λ (x : Variable). x.lasting) xs) y ≡ Some b → Lasts b (σ y)
local_lasts globals xs σ y b h l e =
    let m : globals + (y - globals) ≡ y = omega arith in
    let n : (y - globals) + globals ≡ y = omega arith in
    subst (λ (i : ℕ). Lasts b (σ i)) n (last_at (locals_of globals xs) globals (y - globals) σ b h (drop_get globals xs (y - globals) ∙ ap (slice_get (map (λ (x : Variable). x.lasting) xs)) m ∙ e))

-- each local lasts where those of static ones are constant
pub all_lasts : (xs : List Variable) (n : ℕ) (σ : Locals) → ((k : ℕ) (b : Bool) → slice_get (map (λ (x : Variable). x.lasting) xs) k ≡ Some b → Lasts b (σ (k + n))) → AllLast xs n σ
all_lasts [] n σ h = tt
all_lasts (x ∷ xs) n σ h = (
  (let m : 0 + n ≡ n = omega arith in subst (λ (i : ℕ). Lasts x.lasting (σ i)) m (h 0 x.lasting refl)),
  all_lasts xs (suc n) σ (λ k b e. let m : suc k + n ≡ k + suc n = omega arith in subst (λ (i : ℕ). Lasts b (σ i)) m (h (suc k) b e)),
)

pub locals_last : (globals : ℕ) (xs : List Variable) (σ : Locals) → ((y : ℕ) (b : Bool) → globals ≤ y → slice_get (map (λ (x : Variable). x.lasting) xs) y ≡ Some b → Lasts b (σ y)) → AllLast (locals_of globals xs) globals σ
locals_last globals xs σ h = all_lasts (locals_of globals xs) globals σ (λ k b e.
    let m : globals + k ≡ k + globals = omega arith in
    h (k + globals) b (omega arith) (ap (slice_get (map (λ (x : Variable). x.lasting) xs)) (sym m) ∙ sym (drop_get globals xs k) ∙ e))
