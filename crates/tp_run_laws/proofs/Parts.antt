-- What is written of kept facts is within the limits.
use Rattle.std.proofs.Common.{◌≡◌, ◌⊎◌, inl, inr, ◌+◌, ◌≤◌, ◌<◌, ℕ, zero, suc, Bool, true, false, not, ◌&&◌, cond, eqb, ltb, List, [], ◌∷◌, ◌++◌, map, length, All, IsTrue, Option, Some, None, refl, sym, ap, ap₂, ◌∙◌, subst, arith, tests, append_assoc, length-append}
use Rattle.std.specs.List.{starts_with}
use Rattle.std.proofs.lemmas.Bool.{and_parts, both_ways, or_right, or_left, false_from_ne_true}
use Rattle.std.proofs.lemmas.Bool.Decides.{Decides-eqb}
use Rattle.std.proofs.lemmas.List.Elements.{All-nil, All-cons}
use Rattle.std.proofs.lemmas.Slice.Eq.{starts_is}
use Rattle.tp_value.specs.Tree.{Tree, Trees, num, truth, list, nil, cons, items_of, of_items}
use Rattle.tp_value.specs.Limits.{path_limit}
use Rattle.tp_value.specs.Room.{IsWithinListLimit}
use Rattle.tp_value.specs.Shape.{shape_of}
use Rattle.tp_value.specs.declared.path.VarId.{VarId}
use Rattle.tp_value.specs.declared.path.Path.{Path}
use Rattle.tp_value.specs.declared.path.Fact.{Fact}
use Rattle.tp_value.specs.declared.value.Shape.{Shape}
use Rattle.tp_value.specs.declared.value.Shape.TheVariants.{Num, Truth, Items}
use Rattle.tp_store.specs.Facts.{same_variable, same_path, same_shape, kept_shape, is_excluded, excludes, clash, item_path, fact, facts_at, facts_of_items}
use Rattle.tp_store.specs.Known.{NoClash, global_variable, known, all_known, and_items, list_of_items, items_known, with_shape, whole, deepest, Full, absent, too_long, value, limited, full}
use Rattle.tp_store.proofs.Paths.{same_variable-decides}
use Rattle.tp_store.proofs.Members.{In, in_left, in_right, kept_in, in_kept, apart_in, excluded_by}
use Rattle.tp_scene.proofs.Globals.{of_variables_in}
use Rattle.tp_show.specs.Line.{is_before, AreInOrder, is_deeper, is_inside, is_written, is_value, shape_part, known_part, parts_by, line_parts}
use Rattle.tp_show.specs.FactsOf.{AreFactsOf}
use Rattle.tp_show.specs.TraceOfRun.{IsPathWithinLimits, IsPartWithinLimits, IsShapeWithinLimits}
use Rattle.tp_show.proofs.FactOrder.{is_before-order}
use Rattle.tp_show.proofs.PartLemmas.{one_variable}
use Rattle.tp_show.proofs.PathOrder.{IsPast, lesser_deeper, past_then_before, past_outside, before_by, before_past}
use Rattle.tp_show.proofs.ToldLemmas.{beyond, all_in}
use Rattle.tp_run_laws.proofs.Kept.{KeepsValue, FactsArePrintable, full_within}
use Rattle.tp_run_laws.proofs.Found.{number_value, truth_value}

-- ---- a value of which each fact is kept is known as a whole

in_deepest : (fs : List Fact) (f : Fact) → In f fs → length f.path.at ≤ deepest fs
in_deepest [] f i = absurd i
in_deepest (g ∷ fs) f (inl e) = let l : length g.path.at ≡ length f.path.at = ap (λ (x : Fact). length x.path.at) e in omega (arith, l)
in_deepest (g ∷ fs) f (inr i) = let h = in_deepest fs f i in omega (arith, h)

first_in : (q : Path) (v : Tree) → In (fact q (shape_of v)) (facts_at q v)
first_in q (num n) = inl refl
first_in q t = inl refl

same_items : (ts : Trees) → of_items (items_of ts) ≡ ts
same_items nil = refl
same_items (cons t ts) = ap (cons t) (same_items ts)

module _ (facts : List Fact) where
  not_shallow : (q : Path) (v : Tree) → KeepsValue facts q v → deepest facts < length q.at + 0 → ⊥
  not_shallow q v kept deep = let h = in_deepest facts (fact q (shape_of v)) (kept_in facts q (shape_of v) (kept (fact q (shape_of v)) (first_in q v))) in omega (arith, h, deep)

  mutual
    whole_from : (d : ℕ) (q : Path) (v : Tree) → KeepsValue facts q v → deepest facts < length q.at + d → whole d facts q ≡ known v
    whole_from zero q v kept deep = absurd (not_shallow q v kept deep)
    whole_from (suc d) q (num n) kept deep = ap (with_shape (whole d facts) q) (kept (fact q (Num n)) (inl refl))
    whole_from (suc d) q (truth b) kept deep = ap (with_shape (whole d facts) q) (kept (fact q (Truth b)) (inl refl))
    whole_from (suc d) q (list ts) kept deep =
        ap (with_shape (whole d facts) q) (kept (fact q (Items (length (items_of ts)))) (inl refl))
        ∙ (ap list_of_items (items_from d q 0 ts (λ g i. kept g (inr i)) (omega (arith, deep))) ∙ ap (λ us. known (list us)) (same_items ts))

    items_from : (d : ℕ) (q : Path) (k : ℕ) (ts : Trees) → ((g : Fact) → In g (facts_of_items q k ts) → kept_shape facts g.path ≡ Some g.shape) → deepest facts < length q.at + suc d
        → items_known (whole d facts) q (length (items_of ts)) k ≡ all_known (items_of ts)
    items_from d q k nil kept deep = refl
    items_from d q k (cons t ts) kept deep =
        let long = length-append q.at (k ∷ []) in
        ap₂ and_items
        (whole_from d (item_path q k) t (λ g i. kept g (in_left g (facts_at (item_path q k) t) (facts_of_items q (suc k) ts) i)) (omega (arith, deep, long)))
        (items_from d q (suc k) ts (λ g i. kept g (in_right g (facts_at (item_path q k) t) (facts_of_items q (suc k) ts) i)) deep)

  not_excluded : NoClash facts → (q : Path) (sh : Shape) → kept_shape facts q ≡ Some sh → is_excluded facts q ≡ false
  not_excluded apart q sh h = false_from_ne_true (is_excluded facts q) (λ e.
      let r = excluded_by facts q e in
      both_ways (clash r.0 (fact q sh)) (apart_in facts r.0 (fact q sh) apart r.1 (kept_in facts q sh h)) (or_right (same_path r.0.path q && not (same_shape r.0.shape sh)) _ (or_left (excludes r.0 q) _ r.2)))

  full_from : NoClash facts → (q : Path) (v : Tree) → KeepsValue facts q v → IsWithinListLimit v → full facts q ≡ value v
  full_from apart q v kept small =
      let there = kept (fact q (shape_of v)) (first_in q v) in
      ap₂ (λ b w. cond b absent (limited w)) (not_excluded apart q (shape_of v) there) (whole_from (suc (deepest facts)) q v kept (omega arith))
      ∙ ap (λ b. cond b (value v) too_long) small

-- ---- the order of paths

never_both : (f g : Fact) → is_before f g ≡ true → is_before g f ≡ true → ⊥
never_both f g a b = both_ways (is_before g f) (is_before-order.one_way f g a) b

deeper_inside : (q : Path) (k : ℕ) (rest : List ℕ) → is_inside q (beyond q (k ∷ rest)) ≡ true
deeper_inside q k rest =
    let long = length-append q.at (k ∷ rest) in
    let longer : ltb (length q.at) (length (q.at ++ k ∷ rest)) ≡ true = grind (arith, tests, long) in
    let begins : starts_with eqb (q.at ++ k ∷ rest) q.at ≡ true = (starts_is Decides-eqb (q.at ++ k ∷ rest) q.at (starts_with eqb (q.at ++ k ∷ rest) q.at) refl).1 (k ∷ rest) refl in
    let same : same_variable q.var q.var ≡ true = (same_variable-decides q.var q.var).1 refl in
    ap₂ (λ a b. a && b) same (ap₂ (λ a b. a && b) longer begins)

-- what is inside of a path goes on from it
record GoesOn (p q : Path) : Type 0 where
  first : ℕ
  rest : List ℕ
  is : q ≡ beyond p (first ∷ rest)

goes_on : (p q : Path) → is_inside p q ≡ true → GoesOn p q
goes_on p q h =
    let parts = and_parts (same_variable p.var q.var) (is_deeper p.at q.at) h in
    let deep = and_parts (ltb (length p.at) (length q.at)) (starts_with eqb q.at p.at) parts.1 in
    let var : p.var ≡ q.var = (same_variable-decides p.var q.var).0 parts.0 in
    let at = (starts_is Decides-eqb q.at p.at (starts_with eqb q.at p.at) refl).0 deep.1 in
    go var _ at deep.0
  where
    go : p.var ≡ q.var → (rest : List ℕ) → q.at ≡ p.at ++ rest → ltb (length p.at) (length q.at) ≡ true → GoesOn p q
    go var [] at longer =
        let l : length q.at ≡ length p.at + 0 = ap length at ∙ length-append p.at [] in
        absurd (grind (arith, tests, l, longer))
    go var (k ∷ rest) at longer =
        let make : VarId → List ℕ → Path = λ x is. record { var = x; at = is } in
        record { first = k; rest = rest; is = ap₂ make (sym var) at }

inside_of_inside : (p q r : Path) → is_inside p q ≡ true → is_inside q r ≡ true → is_inside p r ≡ true
inside_of_inside p q r h k =
    let a = goes_on p q h in
    let b = goes_on q r k in
    let at : r ≡ beyond p (a.first ∷ (a.rest ++ (b.first ∷ b.rest))) =
    b.is ∙ (ap (λ (x : Path). beyond x (b.first ∷ b.rest)) a.is ∙ ap (λ (is : List ℕ). let x : Path = record { var = p.var; at = is } in x) (append_assoc p.at (a.first ∷ a.rest) (b.first ∷ b.rest))) in
    subst (λ (x : Path). is_inside p x ≡ true) (sym at) (deeper_inside p a.first (a.rest ++ (b.first ∷ b.rest)))

-- an outer fact is before those inside of it
inside_after : (f g : Fact) → is_inside f.path g.path ≡ true → is_before f g ≡ true
inside_after f g h =
    let a = goes_on f.path g.path h in
    let P : Path → Type 0 = λ q. is_before f (fact q g.shape) ≡ true in
    subst P (sym a.is) (before_by f (fact (beyond f.path (a.first ∷ a.rest)) g.shape) refl (lesser_deeper f.path.at a.first a.rest))

-- ---- parts

module _ (names : List (List ℕ)) (facts : List Fact) (are : AreFactsOf names facts) (kept : FactsArePrintable facts) where
  one_of : (f g : Fact) → In f facts → In g facts → f.path.var.number ≡ g.path.var.number → f.path.var ≡ g.path.var
  one_of f g i j e =
      let xs = map global_variable names in
      one_variable xs f.path.var g.path.var (of_variables_in xs facts are.of_variables f i) (of_variables_in xs facts are.of_variables g j) e

  -- what lies between an outer fact and one inside of it is inside of it too
  between : (o f h : Fact) → In o facts → In f facts → is_before o f ≡ true → is_before f h ≡ true → is_inside o.path h.path ≡ true → is_inside o.path f.path ≡ false → ⊥
  between o f h i j before after inside outside =
      let past : IsPast o.path h.path = past_then_before o.path f h (past_outside o f (one_of o f i j) before outside) after in
      let a = goes_on o.path h.path inside in
      let again : is_before h h ≡ true = before_past o.path h h (a.first ∷ a.rest) a.is past in
      never_both h h again again

  abbrev IsWhole : Fact → Type 0
  IsWhole f = is_value (full facts f.path) ≡ true

  -- The path isn't too long, or it is inside of the value that was written last, or of one that comes.
  abbrev IsReached : Option Path → List Fact → Fact → Type 0
  IsReached last fs f = (length f.path.at ≤ path_limit) ⊎ (is_written last f.path ≡ true) ⊎ ((g : Fact) × In g fs × (is_inside g.path f.path ≡ true) × IsWhole g)

  -- the value that was written last is of a fact before these
  abbrev LastIsBefore : Option Path → List Fact → Type 0
  LastIsBefore None fs = Unit {0}
  LastIsBefore (Some p) fs = (o : Fact) × (o.path ≡ p) × In o facts × ((f : Fact) → In f fs → is_before o f ≡ true)

  path_within : (f : Fact) → In f facts → length f.path.at ≤ path_limit → IsPathWithinLimits f.path
  path_within f i few = record { few = few; indices = (kept f.path f.shape (in_kept facts f are.no_clash i)).indices }

  shape_within : (f : Fact) → In f facts → IsPathWithinLimits f.path → (sh : Shape) → f.shape ≡ sh → IsPartWithinLimits (shape_part f.path sh)
  shape_within f i path (Num n) e = (path, number_value n (subst IsShapeWithinLimits e (kept f.path f.shape (in_kept facts f are.no_clash i)).shape))
  shape_within f i path (Truth b) e = (path, truth_value b)
  shape_within f i path (Items n) e = (path, subst IsShapeWithinLimits e (kept f.path f.shape (in_kept facts f are.no_clash i)).shape)

  part_within : (f : Fact) → In f facts → length f.path.at ≤ path_limit → (k : Full) → full facts f.path ≡ k → IsPartWithinLimits (known_part f k)
  part_within f i few (value t) e = (path_within f i few, full_within facts f.path t kept e)
  part_within f i few x e = shape_within f i (path_within f i few) f.shape refl

  -- the parts of such facts, whatever was written last
  abbrev PartsWithin : List Fact → Type 0
  PartsWithin fs = (last : Option Path) → ((f : Fact) → In f fs → IsReached last fs f) → LastIsBefore last fs → All IsPartWithinLimits (parts_by (full facts) last fs)

  parts_within : (last : Option Path) (fs : List Fact) → AreInOrder fs → ((f : Fact) → In f fs → In f facts) → ((f : Fact) → In f fs → IsReached last fs f) → LastIsBefore last fs → All IsPartWithinLimits (parts_by (full facts) last fs)
  parts_within last [] order there reached before = All-nil IsPartWithinLimits
  parts_within last (f ∷ fs) order there reached before = go (λ l r b. parts_within l fs order.1 (λ h i. there h (inr i)) r b) (is_written last f.path) refl
    where
      here : In f facts
      here = there f (inl refl)

      after : (h : Fact) → In h fs → is_before f h ≡ true
      after = all_in (λ h. IsTrue (is_before f h)) fs order.0

      later : (last : Option Path) → LastIsBefore last (f ∷ fs) → LastIsBefore last fs
      later None b = tt
      later (Some p) b = (b.0, b.1, b.2, λ h i. b.3 h (inr i))

      -- it is written
      skipped : is_written last f.path ≡ true → (h : Fact) → In h fs → IsReached last fs h
      skipped w h i = elim (reached h (inr i)) [
        | inl few ↦ inl few
        | inr (inl written) ↦ inr (inl written)
        | inr (inr (g, inl same, inside, is)) ↦ inr (inl (inner last w (subst (λ (x : Fact). is_inside x.path h.path ≡ true) (sym same) inside)))
        | inr (inr (g, inr j, inside, is)) ↦ inr (inr (g, j, inside, is))
      ]
        where
          inner : (last : Option Path) → is_written last f.path ≡ true → is_inside f.path h.path ≡ true → is_written last h.path ≡ true
          inner None a b = absurd (cc a)
          inner (Some p) a b = inside_of_inside p f.path h.path a b

      -- it isn't, and so its path isn't too long
      own_few : is_written last f.path ≡ false → length f.path.at ≤ path_limit
      own_few w = elim (reached f (inl refl)) [
        | inl few ↦ few
        | inr (inl written) ↦ absurd (both_ways (is_written last f.path) w written)
        | inr (inr (g, inl same, inside, is)) ↦ absurd (let b = inside_after g f inside in let c = subst (λ (x : Fact). is_before x f ≡ true) (sym same) b in never_both f f c c)
        | inr (inr (g, inr j, inside, is)) ↦ absurd (never_both f g (after g j) (inside_after g f inside))
      ]

      rest_open : is_value (full facts f.path) ≡ false → (h : Fact) → In h fs → IsReached last fs h
      rest_open not_whole h i = elim (reached h (inr i)) [
        | inl few ↦ inl few
        | inr (inl written) ↦ inr (inl written)
        | inr (inr (g, inl same, inside, is)) ↦ absurd (both_ways (is_value (full facts f.path)) not_whole (subst IsWhole (sym same) is))
        | inr (inr (g, inr j, inside, is)) ↦ inr (inr (g, j, inside, is))
      ]

      rest_whole : is_written last f.path ≡ false → (h : Fact) → In h fs → IsReached (Some f.path) fs h
      rest_whole w h i = elim (reached h (inr i)) [
        | inl few ↦ inl few
        | inr (inl written) ↦ absurd (passed last before w written)
        | inr (inr (g, inl same, inside, is)) ↦ inr (inl (subst (λ (x : Fact). is_inside x.path h.path ≡ true) (sym same) inside))
        | inr (inr (g, inr j, inside, is)) ↦ inr (inr (g, j, inside, is))
      ]
        where
          passed : (last : Option Path) → LastIsBefore last (f ∷ fs) → is_written last f.path ≡ false → is_written last h.path ≡ true → ⊥
          passed None b w inside = absurd (cc inside)
          passed (Some p) b w inside =
              between b.0 f h b.2 here (b.3 f (inl refl)) (after h i) (subst (λ (q : Path). is_inside q h.path ≡ true) (sym b.1) inside) (subst (λ (q : Path). is_inside q f.path ≡ false) (sym b.1) w)

      told : PartsWithin fs → is_written last f.path ≡ false → (k : Full) → full facts f.path ≡ k → All IsPartWithinLimits (known_part f k ∷ parts_by (full facts) (cond (is_value k) (Some f.path) last) fs)
      told more w (value t) e = All-cons IsPartWithinLimits _ _ (part_within f here (own_few w) (value t) e) (more (Some f.path) (rest_whole w) (f, refl, here, after))
      told more w x e = All-cons IsPartWithinLimits _ _ (part_within f here (own_few w) x e) (more last (rest_open (ap is_value e)) (later last before))

      go : PartsWithin fs → (b : Bool) → is_written last f.path ≡ b → All IsPartWithinLimits (cond b (parts_by (full facts) last fs) (known_part f (full facts f.path) ∷ parts_by (full facts) (cond (is_value (full facts f.path)) (Some f.path) last) fs))
      go more true w = more last (skipped w) (later last before)
      go more false w = told more w (full facts f.path) refl

  first_reached : (f : Fact) → In f facts → IsReached None facts f
  first_reached f i = elim (kept f.path f.shape (in_kept facts f are.no_clash i)).reached [
    | inl few ↦ inl few
    | inr c ↦ (let o = fact c.outer (shape_of c.whole_value) in
        let whole_there : full facts c.outer ≡ value c.whole_value = full_from facts are.no_clash c.outer c.whole_value c.kept c.small in
        inr (inr (
          o,
          kept_in facts c.outer (shape_of c.whole_value) (c.kept o (first_in c.outer c.whole_value)),
          subst (λ (q : Path). is_inside c.outer q ≡ true) (sym c.inside) (deeper_inside c.outer c.first c.rest),
          ap is_value whole_there,
        )))
  ]

-- what is written of facts of the variables with these names is within the limits
pub written_within : (names : List (List ℕ)) (facts : List Fact) → AreFactsOf names facts → FactsArePrintable facts → All IsPartWithinLimits (line_parts facts)
written_within names facts are kept = parts_within names facts are kept None facts are.order (λ f i. i) (first_reached names facts are kept) tt
