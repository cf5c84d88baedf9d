-- Values that are found are within the limits on numbers, items and depth, and places that are found within those on paths, where all that they are
-- made of is.
use Rattle.std.proofs.Common.{◌≡◌, ℤ, pos, ℕ, zero, suc, ◌≤◌, Bool, List, [], ◌∷◌, Option, Some, IfSome, subst, length, slice_get, All, arith}
use Rattle.std.proofs.lemmas.Bool.{leb-true, le-leb, ltb-true}
use Rattle.std.proofs.lemmas.List.{length-append}
use Rattle.std.proofs.lemmas.List.Elements.{All-nil, All-cons, All-append, All-head, All-tail}
use Rattle.tp_value.specs.Tree.{Tree, Trees, num, truth, list, nil, cons, items_of, of_items}
use Rattle.tp_value.specs.Number.{number_limit, IsNumber}
use Rattle.tp_value.specs.Limits.{index_limit, path_limit, length_limit, items_within, HaveNumbers, IsWithinLimits}
use Rattle.tp_value.specs.declared.value.Shape.TheVariants.{Items}
use Rattle.tp_value.specs.declared.path.Fact.{Fact}
use Rattle.tp_meaning.specs.Syntax.{ExprTree, known, global, Definition}
use Rattle.tp_eval.specs.Outcome as found
use Rattle.tp_scene.proofs.Told.{Bundle, Lists}
use Rattle.tp_scene.proofs.Evaluated.{Values, ExprPartsOf, Evaluates}
use Rattle.tp_show.specs.TraceOfRun.{IsWithinIndexLimit}
use Rattle.tp_show.specs.Line.{IsOneLine}
use Rattle.tp_run_laws.specs.Printable.{ExprIsPrintable, ExprsArePrintable, FormulaIsPrintable, FormulasArePrintable, DefinitionIsPrintable, BindingIsPrintable}
use Rattle.tp_run_laws.proofs.Kept.{FactsArePrintable, limits_of, full_within}

in_list : (ts : Trees) (k : ℕ) (u : Tree) → slice_get (items_of ts) k ≡ Some u → IsWithinLimits (list ts) → IsWithinLimits u
in_list nil k u e h = absurd (cc)
in_list (cons t ts) zero u e h =
    let q : t ≡ u = cc in
    let items = h.items in
    let depth = h.depth in
    subst (λ (v : Tree). IsWithinLimits v) q (record { items = omega (arith, items); depth = omega (arith, depth); numbers = h.numbers.0 })
in_list (cons t ts) (suc k) u e h =
    let items = h.items in
    let depth = h.depth in
    in_list ts k u e (record { items = omega (arith, items); depth = omega (arith, depth); numbers = h.numbers.1 })

pub number_value : (n : ℤ) → IsNumber n → IsWithinLimits (num n)
number_value n h = record { items = omega arith; depth = omega arith; numbers = h }

pub truth_value : (b : Bool) → IsWithinLimits (truth b)
truth_value b = record { items = omega arith; depth = omega arith; numbers = tt }

natural_value : (n : ℕ) → n ≤ length_limit → IsWithinLimits (num (pos n))
natural_value n h = number_value (pos n) (within n h)
  where
    within : (m : ℕ) → m ≤ length_limit → IsNumber (pos m)
    within m k = le-leb m number_limit (omega (arith, k))

items_few : (ts : Trees) → length (items_of ts) ≤ items_within ts
items_few nil = omega arith
items_few (cons t ts) = let h = items_few ts in omega (arith, h)

pub definition_at : (defs : List Definition) (p : ℕ) → All DefinitionIsPrintable defs → IfSome (slice_get defs p) DefinitionIsPrintable
definition_at [] p h = tt
definition_at (d ∷ ds) zero h = All-head DefinitionIsPrintable d ds h
definition_at (d ∷ ds) (suc p) h = definition_at ds p (All-tail DefinitionIsPrintable d ds h)

-- an outcome with a value within the limits, if any
abbrev pub ValueIsGood : found.Outcome → Type 0
ValueIsGood (found.value t) = IsWithinLimits t
ValueIsGood (found.wait p) = Unit {0}
ValueIsGood (found.fault k) = Unit {0}
ValueIsGood (found.over k) = Unit {0}

-- what is printable, where this is asked of new facts
abbrev pub good : (List Fact → Type 0) → Bundle
good N = record {
  formula = λ f m. FormulaIsPrintable f;
  formulas = λ fs m. FormulasArePrintable fs;
  expr = λ e m. ExprIsPrintable e;
  exprs = λ es m. ExprsArePrintable es;
  binding = BindingIsPrintable;
  evaluated = ValueIsGood;
  new_facts = N;
  name = IsOneLine;
  local = λ x. Unit {0};
}

module _ (N : List Fact → Type 0) where
  pub lists_good : Lists (good N)
  lists_good = record {
    first_formula = λ g gs m h. h.0;
    other_formulas = λ g gs m h. h.1;
    first_expr = λ e es m h. h.0;
    other_exprs = λ e es m h. h.1;
    sized = λ e m h. h;
  }

  have_numbers : (ts : List Tree) → Values (good N) ts → HaveNumbers (of_items ts)
  have_numbers [] h = tt
  have_numbers (t ∷ ts) h = (h.0.numbers, have_numbers ts h.1)

  parts_good : (e : ExprTree) (m : ℕ) → ExprIsPrintable e → ExprPartsOf (good N) e m
  parts_good (known t) m h = λ small. limits_of t small h
  parts_good (global x) m h = record { few = omega arith; indices = All-nil IsWithinIndexLimit }
  parts_good e m h = h

  -- where what is kept and the definitions are printable
  pub evaluates_good : (facts : List Fact) → FactsArePrintable facts → (defs : List Definition) → All DefinitionIsPrintable defs → Evaluates (good N) defs facts
  evaluates_good facts kept defs definitions = record {
    lists = lists_good;
    parts = parts_good;
    body = λ i d e is q.
        let k : IfSome (Some d) DefinitionIsPrintable = subst (λ (o : Option Definition). IfSome o DefinitionIsPrintable) is (definition_at defs i definitions) in
        let j : IfSome (Some e) ExprIsPrintable = subst (λ (o : Option ExprTree). IfSome o ExprIsPrintable) q k.expr in
        j;
    number = number_value;
    truths = truth_value;
    listed = λ ts h e. limits_of (list (of_items ts)) e (have_numbers ts h);
    item = λ ts k t h e. in_list ts k t e h;
    sized = λ ts h. natural_value (length (items_of ts)) (let items = h.items in let few = items_few ts in omega (arith, items, few));
    kept_size = λ q n e. natural_value n (kept q (Items n) e).shape;
    kept = λ q t e. full_within facts q t kept e;
    value_bound = λ t h. h;
    bound_value = λ t h. h;
    farther = λ q k h i l.
        let e = length-append q.at (k ∷ []) in
        let m = ltb-true (length q.at) path_limit l in
        record {
          few = omega (arith, e, m);
          indices = All-append IsWithinIndexLimit q.at (k ∷ []) h.indices (All-cons IsWithinIndexLimit k [] (leb-true k index_limit i) (All-nil IsWithinIndexLimit));
        };
    waiting = λ q h. tt;
    undecided = λ q p h e. tt;
    fault = λ k. tt;
    limits = (tt, tt, tt);
  }
