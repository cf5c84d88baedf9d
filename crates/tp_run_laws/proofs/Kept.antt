-- What is kept of a state so that all that is written of it is within the limits.
use Rattle.std.proofs.Common.{◌≡◌, ◌⊎◌, inl, inr, ◌+◌, ◌≤◌, ℤ, ℕ, suc, nat_le, Bool, true, false, not, ◌&&◌, ◌||◌, cond, List, [], ◌∷◌, ◌++◌, filter, length, slice_get, All, Option, Some, None, refl, sym, ap, ◌∙◌, subst, arith, append_assoc}
use Rattle.std.proofs.lemmas.Bool.{and_parts, or_parts, leb-true, le-leb}
use Rattle.std.proofs.lemmas.List.Elements.{All-nil, All-cons, All-append}
use Rattle.tp_value.specs.Tree.{Tree, Trees, num, truth, list, nil, cons, items_of}
use Rattle.tp_value.specs.Number.{IsNumber}
use Rattle.tp_value.specs.Limits.{index_limit, path_limit, item_limit, value_depth_limit, items_in, items_within, depth_of, is_within_list_limit, HasNumbers, HaveNumbers, IsWithinLimits}
use Rattle.tp_value.specs.Room.{IsWithinListLimit}
use Rattle.tp_value.specs.Shape.{shape_at_path, at_item}
use Rattle.tp_value.specs.declared.path.VarId.{VarId}
use Rattle.tp_value.specs.declared.path.Path.{Path}
use Rattle.tp_value.specs.declared.path.Fact.{Fact}
use Rattle.tp_value.specs.declared.value.Shape.{Shape}
use Rattle.tp_value.specs.declared.value.Shape.TheVariants.{Num, Truth, Items}
use Rattle.tp_store.specs.Facts.{kept_shape, is_excluded, item_path, fact, facts_at, facts_of_items, same_path, same_shape, excludes, clash}
use Rattle.tp_store.specs.Known.{NoClash, is_none, adds, new_facts, addition, Whole, known, open_at, absent, too_long, value, whole, deepest, limited, full}
use Rattle.tp_store.specs.FactMap.{AreOf}
use Rattle.tp_store.proofs.Paths.{same_path-refl, same_shape-decides}
use Rattle.tp_store.proofs.Members.{In, in_append, in_filter, filter_in, kept_in, in_kept, NoClash-filter}
use Rattle.tp_store.proofs.Adding.{AddsAll, adds_all}
use Rattle.tp_store.proofs.Separate.{value_apart, value_of_variable}
use Rattle.tp_step_laws.proofs.FactsGrow.{kept_after, kept_before}
use Rattle.tp_step_laws.proofs.SettleAlike.{kept_through}
use Rattle.tp_show.specs.TraceOfRun.{IsWithinIndexLimit, IsPathWithinLimits, IsShapeWithinLimits}
use Rattle.tp_show.proofs.ToldLemmas.{beyond, value_kept}

-- each fact of the value is kept
abbrev pub KeepsValue : List Fact → Path → Tree → Type 0
KeepsValue facts q v = (g : Fact) → In g (facts_at q v) → kept_shape facts g.path ≡ Some g.shape

-- the path is inside of a value that is kept as a whole, at a path that isn't too long
pub record IsCovered (facts : List Fact) (p : Path) : Type 0 where
  pub outer : Path
  pub whole_value : Tree
  pub few : length outer.at ≤ path_limit
  pub small : IsWithinListLimit whole_value
  pub kept : KeepsValue facts outer whole_value
  pub first : ℕ
  pub rest : List ℕ
  pub inside : p ≡ beyond outer (first ∷ rest)

-- A kept shape: it and the indices of its path are within the limits; the path isn't too long, or is inside of a whole value.
pub record KeptIsPrintable (facts : List Fact) (p : Path) (sh : Shape) : Type 0 where
  pub indices : All IsWithinIndexLimit p.at
  pub shape : IsShapeWithinLimits sh
  pub reached : (length p.at ≤ path_limit) ⊎ IsCovered facts p

abbrev pub FactsArePrintable : List Fact → Type 0
FactsArePrintable facts = (p : Path) (sh : Shape) → kept_shape facts p ≡ Some sh → KeptIsPrintable facts p sh

-- ---- where as much is kept, or more

abbrev KeepsMore : List Fact → List Fact → Type 0
KeepsMore fs gs = (p : Path) (sh : Shape) → kept_shape fs p ≡ Some sh → kept_shape gs p ≡ Some sh

covered_more : (fs gs : List Fact) → KeepsMore fs gs → (p : Path) → IsCovered fs p → IsCovered gs p
covered_more fs gs more p c = record {
  outer = c.outer;
  whole_value = c.whole_value;
  few = c.few;
  small = c.small;
  kept = λ g i. more g.path g.shape (c.kept g i);
  first = c.first;
  rest = c.rest;
  inside = c.inside;
}

printable_more : (fs gs : List Fact) → KeepsMore fs gs → (p : Path) (sh : Shape) → KeptIsPrintable fs p sh → KeptIsPrintable gs p sh
printable_more fs gs more p sh k = record {
  indices = k.indices;
  shape = k.shape;
  reached = elim k.reached [ inl few ↦ inl few | inr c ↦ inr (covered_more fs gs more p c) ];
}

-- where the same is kept
pub printable_same : (fs gs : List Fact) → ((p : Path) → kept_shape gs p ≡ kept_shape fs p) → FactsArePrintable fs → FactsArePrintable gs
printable_same fs gs same h p sh e = printable_more fs gs (λ q s k. same q ∙ k) p sh (h p sh (sym (same p) ∙ e))

-- where the facts of some variables are kept
module _ (keep : VarId → Bool) where
  abbrev let_through : List Fact → List Fact
  let_through fs = filter (λ f. keep f.path.var) fs

  kept_of : (fs : List Fact) (p : Path) → kept_shape (let_through fs) p ≡ cond (keep p.var) (kept_shape fs p) None
  kept_of fs p = kept_through (λ q. keep q.var) fs p

  kept_where : (fs : List Fact) (p : Path) (sh : Shape) → keep p.var ≡ true → kept_shape fs p ≡ Some sh → kept_shape (let_through fs) p ≡ Some sh
  kept_where fs p sh k e = kept_of fs p ∙ (ap (λ b. cond b (kept_shape fs p) None) k ∙ e)

  kept_was : (fs : List Fact) (p : Path) (sh : Shape) → kept_shape (let_through fs) p ≡ Some sh → (keep p.var ≡ true) × (kept_shape fs p ≡ Some sh)
  kept_was fs p sh e = go (keep p.var) refl (sym (kept_of fs p) ∙ e)
    where
      go : (b : Bool) → keep p.var ≡ b → cond b (kept_shape fs p) None ≡ Some sh → (keep p.var ≡ true) × (kept_shape fs p ≡ Some sh)
      go true k h = (k, h)
      go false k h = absurd (cc h)

  variable_of_value : (q : Path) (v : Tree) (g : Fact) → In g (facts_at q v) → g.path.var ≡ q.var
  variable_of_value q v = each q.var (facts_at q v) (value_of_variable q v)
    where
      each : (x : VarId) (fs : List Fact) → AreOf x fs → (f : Fact) → In f fs → f.path.var ≡ x
      each x [] h f i = absurd i
      each x (g ∷ fs) h f (inl e) = ap (λ (y : Fact). y.path.var) (sym e) ∙ h.0
      each x (g ∷ fs) h f (inr i) = each x fs h.1 f i

  pub printable_through : (fs : List Fact) → FactsArePrintable fs → FactsArePrintable (let_through fs)
  printable_through fs h p sh e =
      let was = kept_was fs p sh e in
      let k = h p sh was.1 in
      record { indices = k.indices; shape = k.shape; reached = elim k.reached [ inl few ↦ inl few | inr c ↦ inr (covered c was.0) ] }
    where
      covered : IsCovered fs p → keep p.var ≡ true → IsCovered (let_through fs) p
      covered c k =
          let outer : keep c.outer.var ≡ true = sym (ap (λ (x : Path). keep x.var) c.inside) ∙ k in
          record {
            outer = c.outer;
            whole_value = c.whole_value;
            few = c.few;
            small = c.small;
            kept = λ g i. kept_where fs g.path g.shape (ap keep (variable_of_value c.outer c.whole_value g i) ∙ outer) (c.kept g i);
            first = c.first;
            rest = c.rest;
            inside = c.inside;
          }

-- ---- a value that is set at a path

-- a fact of the value at a path: there, or inside of it, and within the limits
record FactOfValue (p : Path) (f : Fact) : Type 0 where
  at : (f.path ≡ p) ⊎ ((k : ℕ) × (rest : List ℕ) × (f.path ≡ beyond p (k ∷ rest)))
  indices : All IsWithinIndexLimit f.path.at
  shape : IsShapeWithinLimits f.shape

one_fact : (p : Path) (sh : Shape) → All IsWithinIndexLimit p.at → IsShapeWithinLimits sh → (f : Fact) → fact p sh ≡ f → FactOfValue p f
one_fact p sh indices small f e = subst (FactOfValue p) e (record { at = inl refl; indices = indices; shape = small })

item_indices : (p : Path) (k : ℕ) → All IsWithinIndexLimit p.at → k ≤ index_limit → All IsWithinIndexLimit (item_path p k).at
item_indices p k indices small = All-append IsWithinIndexLimit p.at (k ∷ []) indices (All-cons IsWithinIndexLimit k [] small (All-nil IsWithinIndexLimit))

of_item : (p : Path) (k : ℕ) (f : Fact) → FactOfValue (item_path p k) f → (j : ℕ) × (rest : List ℕ) × (f.path ≡ beyond p (j ∷ rest))
of_item p k f h = elim h.at [
  | inl e ↦ (k, [], e)
  | inr d ↦ (k, d.0 ∷ d.1, d.2 ∙ ap (λ (is : List ℕ). let q : Path = record { var = p.var; at = is } in q) (append_assoc p.at (k ∷ []) (d.0 ∷ d.1)))
]

items_few : (ts : Trees) → length (items_of ts) ≤ items_within ts
items_few nil = omega arith
items_few (cons t ts) = let h = items_few ts in omega (arith, h)

mutual
  value_facts : (p : Path) (t : Tree) → items_in t ≤ item_limit → HasNumbers t → All IsWithinIndexLimit p.at → (f : Fact) → In f (facts_at p t) → FactOfValue p f
  value_facts p (num n) small numbers indices f (inl e) = one_fact p (Num n) indices numbers f e
  value_facts p (num n) small numbers indices f (inr i) = absurd i
  value_facts p (truth b) small numbers indices f (inl e) = one_fact p (Truth b) indices tt f e
  value_facts p (truth b) small numbers indices f (inr i) = absurd i
  value_facts p (list ts) small numbers indices f (inl e) = one_fact p (Items (length (items_of ts))) indices (let h = items_few ts in omega (arith, h, small)) f e
  value_facts p (list ts) small numbers indices f (inr i) = items_facts p 0 ts (omega (arith, small)) numbers indices f i

  items_facts : (p : Path) (k : ℕ) (ts : Trees) → k + items_within ts ≤ item_limit → HaveNumbers ts → All IsWithinIndexLimit p.at → (f : Fact) → In f (facts_of_items p k ts) → FactOfValue p f
  items_facts p k nil small numbers indices f i = absurd i
  items_facts p k (cons t ts) small numbers indices f i = elim (in_append f (facts_at (item_path p k) t) (facts_of_items p (suc k) ts) i) [
    | inl j ↦ (let h = value_facts (item_path p k) t (omega (arith, small)) numbers.0 (item_indices p k indices (omega (arith, small))) f j in
        record { at = inr (of_item p k f h); indices = h.indices; shape = h.shape })
    | inr j ↦ items_facts p (suc k) ts (omega (arith, small)) numbers.1 indices f j
  ]

-- facts that are added to what is kept
module _ (old facts news : List Fact) (adding : addition old facts ≡ adds news) where
  all_added : AddsAll old facts news
  all_added = adds_all old facts news adding

  new_in : (f : Fact) → In f news → In f facts
  new_in f i = (in_filter (λ g. is_none (kept_shape old g.path)) f facts (subst (In f) (sym all_added.new) i)).0

  -- what was kept of an added fact's path is its shape
  same_kept_shape : (g : Fact) → In g facts → (sh : Shape) → kept_shape old g.path ≡ Some sh → sh ≡ g.shape
  same_kept_shape g i sh e =
      let apart : clash (fact g.path sh) g ≡ false = all_added.apart (fact g.path sh) g (kept_in old g.path sh e) i in
      let differ = (or_parts (same_path g.path g.path && not (same_shape sh g.shape)) (excludes (fact g.path sh) g.path || excludes g g.path) apart).0 in
      let other : not (same_shape sh g.shape) ≡ false = sym (ap (λ b. b && not (same_shape sh g.shape)) (same_path-refl g.path)) ∙ differ in
      (same_shape-decides sh g.shape).0 (twice (same_shape sh g.shape) other)
    where
      twice : (b : Bool) → not b ≡ false → b ≡ true
      twice true e = refl
      twice false e = absurd (cc e)

  added_kept : NoClash facts → (g : Fact) → In g facts → kept_shape (old ++ news) g.path ≡ Some g.shape
  added_kept apart g i = go (kept_shape old g.path) refl
    where
      go : (o : Option Shape) → kept_shape old g.path ≡ o → kept_shape (old ++ news) g.path ≡ Some g.shape
      go (Some sh) e = kept_before old news g.path sh e ∙ ap Some (same_kept_shape g i sh e)
      go None e =
          let there : In g (new_facts old facts) = filter_in (λ (f : Fact). is_none (kept_shape old f.path)) g facts i (ap is_none e) in
          let free : NoClash news = subst NoClash all_added.new (NoClash-filter (λ (f : Fact). is_none (kept_shape old f.path)) facts apart) in
          kept_after old news g.path e ∙ in_kept news g free (subst (In g) all_added.new there)

  -- the facts are printable where the old ones are, and the added ones are with what is kept then
  printable_added : FactsArePrintable old → ((f : Fact) → In f facts → KeptIsPrintable (old ++ news) f.path f.shape) → FactsArePrintable (old ++ news)
  printable_added h each p sh e = go (kept_shape old p) refl
    where
      go : (o : Option Shape) → kept_shape old p ≡ o → KeptIsPrintable (old ++ news) p sh
      go (Some s) k =
          let both : Some s ≡ Some sh = sym (kept_before old news p s k) ∙ e in
          printable_more old (old ++ news) (λ q s x. kept_before old news q s x) p sh (h p sh (k ∙ both))
      go None k = each (fact p sh) (new_in (fact p sh) (kept_in news p sh (sym (kept_after old news p k) ∙ e)))

small_value : (t : Tree) → IsWithinLimits t → IsWithinListLimit t
small_value t h = rw (le-leb (depth_of t) value_depth_limit h.depth, le-leb (items_in t) item_limit h.items) refl

pub value_added : (old news : List Fact) (p : Path) (t : Tree) → FactsArePrintable old → IsPathWithinLimits p → IsWithinLimits t → addition old (facts_at p t) ≡ adds news → FactsArePrintable (old ++ news)
value_added old news p t h path small e =
    printable_added old (facts_at p t) news e h (λ f i.
    let v = value_facts p t small.items small.numbers path.indices f i in
    record {
      indices = v.indices;
      shape = v.shape;
      reached = elim v.at [
        | inl at ↦ inl (subst (λ (q : Path). length q.at ≤ path_limit) (sym at) path.few)
        | inr d ↦ inr (record {
          outer = p;
          whole_value = t;
          few = path.few;
          small = small_value t small;
          kept = λ g j. added_kept old (facts_at p t) news e (value_apart p t) g j;
          first = d.0;
          rest = d.1;
          inside = d.2;
        })
      ];
    })

pub shape_added : (old news : List Fact) (p : Path) (sh : Shape) → FactsArePrintable old → IsPathWithinLimits p → IsShapeWithinLimits sh → addition old (fact p sh ∷ []) ≡ adds news → FactsArePrintable (old ++ news)
shape_added old news p sh h path small e =
    printable_added old (fact p sh ∷ []) news e h (λ f i. elim i [
      | inl s ↦ subst (λ (g : Fact). KeptIsPrintable (old ++ news) g.path g.shape) s (record { indices = path.indices; shape = small; reached = inl path.few })
      | inr i ↦ absurd i
    ])

-- ---- a value that is known as a whole

mutual
  numbers_at : (t : Tree) → ((at : List ℕ) (n : ℤ) → shape_at_path at t ≡ Some (Num n) → IsNumber n) → HasNumbers t
  numbers_at (num n) h = h [] n refl
  numbers_at (truth b) h = tt
  numbers_at (list ts) h = numbers_in ts (λ k at n e. h (k ∷ at) n e)

  numbers_in : (ts : Trees) → ((k : ℕ) (at : List ℕ) (n : ℤ) → at_item (slice_get (items_of ts) k) (shape_at_path at) ≡ Some (Num n) → IsNumber n) → HaveNumbers ts
  numbers_in nil h = tt
  numbers_in (cons t ts) h = (numbers_at t (λ at n e. h 0 at n e), numbers_in ts (λ k at n e. h (suc k) at n e))

pub limits_of : (t : Tree) → IsWithinListLimit t → HasNumbers t → IsWithinLimits t
limits_of t small numbers =
    let both = and_parts (nat_le (depth_of t) value_depth_limit) (nat_le (items_in t) item_limit) small in
    record { items = leb-true (items_in t) item_limit both.1; depth = leb-true (depth_of t) value_depth_limit both.0; numbers = numbers }

full_small : (out : Bool) (w : Whole) (t : Tree) → cond out absent (limited w) ≡ value t → IsWithinListLimit t
full_small true w t e = absurd (cc e)
full_small false (open_at q) t e = absurd (cc e)
full_small false (known u) t e = go (is_within_list_limit u) refl e
  where
    go : (b : Bool) → is_within_list_limit u ≡ b → cond b (value u) too_long ≡ value t → IsWithinListLimit t
    go true small e = let same : u ≡ t = cc e in subst (λ (v : Tree). is_within_list_limit v ≡ true) same small
    go false small e = absurd (cc e)

-- it is within the limits
pub full_within : (facts : List Fact) (p : Path) (t : Tree) → FactsArePrintable facts → full facts p ≡ value t → IsWithinLimits t
full_within facts p t h e = limits_of t (full_small (is_excluded facts p) (whole (suc (deepest facts)) facts p) t e)
    (numbers_at t (λ at n k. (h (beyond p at) (Num n) (value_kept facts p t e at (Num n) k)).shape))
