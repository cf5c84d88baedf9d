-- The facts of a store's globals, in order.
use Rattle.std.proofs.Common.{◌≡◌, inl, inr, map, nat_lt, slice_get, ℕ, zero, suc, ◌+◌, ◌<◌, ◌≤◌, Bool, true, false, ◌&&◌, ◌||◌, cond, ltb, eqb, List, [], ◌∷◌, ◌++◌, length, get_or, All, IsTrue, Some, None, refl, ap, ap₂, sym, ◌∙◌, subst, arith}
use Rattle.std.specs.List.{sum_by, AllByRecursion}
use Rattle.std.specs.List.Sorted.{IsPermutation, IsSortedBy}
use Rattle.std.proofs.lemmas.Bool.{both_ways, false_from_ne_true, true_from_ne_false, ltb-true, lt-ltb}
use Rattle.std.proofs.lemmas.Bool.Decides.{nat_tests}
use Rattle.std.proofs.lemmas.List.Elements.{recursion_from_All}
use Rattle.std.proofs.lemmas.List.Sorted.{sorted_far, All-permutation, IsPermutation-sym, sum_by-IsPermutation}
use Rattle.std.proofs.lemmas.List.Sums.{sum_by-cons}
use Rattle.tp_value.specs.declared.path.VarId.{VarId}
use Rattle.tp_value.specs.declared.path.Path.{Path}
use Rattle.tp_value.specs.declared.path.Fact.{Fact}
use Rattle.tp_store.specs.Facts.{same_path, clash, kept_shape, fact}
use Rattle.tp_store.specs.Known.{Contents, Variable, NoClash, is_lesser, facts_below, full, IsVariableOf}
use Rattle.tp_store.specs.Changes.{IsSoundStore, HaveSameShapes, HasAppended}
use Rattle.tp_store.proofs.Paths.{same_path-decides, same_path-refl}
use Rattle.tp_store.proofs.Members.{In, in_filter, filter_in, NoClash-filter, kept_in, in_kept, kept_none, none_kept, meets_none, apart_in}
use Rattle.tp_store.proofs.Same.{same_kept, same_full}
use Rattle.tp_show.specs.Line.{parts_by, line_parts, is_before, AreInOrder}
use Rattle.tp_show.proofs.LineLemmas.{parts_same}
use Rattle.tp_scene.proofs.Globals.{of_variables_in}
use Rattle.tp_show.proofs.FactOrder.{is_before-order}
use Rattle.tp_run.specs.History.{AreGlobals}

neither_lesser : (a b : List ℕ) → is_lesser a b ≡ false → is_lesser b a ≡ false → a ≡ b
neither_lesser [] [] h k = refl
neither_lesser [] (y ∷ ys) h k = absurd (cc)
neither_lesser (x ∷ xs) [] h k = absurd (cc)
neither_lesser (x ∷ xs) (y ∷ ys) h k =
    let heads : x ≡ y = grind (arith, nat_tests) in
    let left : is_lesser xs ys ≡ false = grind (arith, nat_tests) in
    let right : is_lesser ys xs ≡ false = grind (arith, nat_tests) in
    ap₂ (λ z zs. z ∷ zs) heads (neither_lesser xs ys left right)

-- two facts of which neither is before the other have one number and the same indices
record SamePlace (f g : Fact) : Type 0 where
  number : f.path.var.number ≡ g.path.var.number
  indices : f.path.at ≡ g.path.at

neither_number : (m n : ℕ) (p q : Bool) → (ltb m n || (eqb m n && p)) ≡ false → (ltb n m || (eqb n m && q)) ≡ false → (m ≡ n) × (p ≡ false) × (q ≡ false)
neither_number m n p q h k = (grind (arith, nat_tests), grind (arith, nat_tests), grind (arith, nat_tests))

neither_before : (f g : Fact) → is_before f g ≡ false → is_before g f ≡ false → SamePlace f g
neither_before f g h k =
    let r = neither_number f.path.var.number g.path.var.number (is_lesser f.path.at g.path.at) (is_lesser g.path.at f.path.at) h k in
    record { number = r.0; indices = neither_lesser f.path.at g.path.at r.1 r.2 }

-- variables of one number have one kind
same_variable : (xs : List Variable) (x y : VarId) → IsVariableOf xs x → IsVariableOf xs y → x.number ≡ y.number → x ≡ y
same_variable xs x y h k e =
    let kinds = map (λ (v : Variable). v.lasting) xs in
    let some : Some x.lasting ≡ Some y.lasting = sym h ∙ ap (slice_get kinds) e ∙ k in
    let make : ℕ → Bool → VarId = λ n b. record { number = n; lasting = b } in
    ap₂ make e (cc some)

-- of two facts with two paths one is before the other
before_or_same : (xs : List Variable) (f g : Fact) → IsVariableOf xs f.path.var → IsVariableOf xs g.path.var → is_before g f ≡ false → same_path g.path f.path ≡ false → is_before f g ≡ true
before_or_same xs f g h k later apart =
    let make : VarId → List ℕ → Path = λ x at. record { var = x; at = at } in
    let path : SamePlace f g → g.path ≡ f.path = λ p. ap₂ make (sym (same_variable xs f.path.var g.path.var h k p.number)) (sym p.indices) in
    true_from_ne_false (is_before f g) (λ e. both_ways (same_path g.path f.path) apart ((same_path-decides g.path f.path).1 (path (neither_before f g e later))))

in_at : (fs : List Fact) (i : ℕ) (d : Fact) → i < length fs → In (get_or fs i d) fs
in_at [] i d h = absurd (omega arith)
in_at (f ∷ fs) zero d h = inl refl
in_at (f ∷ fs) (suc i) d h = inr (in_at fs i d (omega arith))

-- no fact is before one that stands in front of it
abbrev NoneIsEarly : List Fact → Type 0
NoneIsEarly fs = (i j : ℕ) (d : Fact) → i ≤ j → j < length fs → is_before (get_or fs j d) (get_or fs i d) ≡ false

first_before : (xs : List Variable) (f : Fact) (fs : List Fact) → ((g : Fact) → In g (f ∷ fs) → IsVariableOf xs g.path.var) → NoClash (f ∷ fs) → NoneIsEarly (f ∷ fs) → All (λ g. IsTrue (is_before f g)) fs
first_before xs f fs h n up k d l =
    let g = get_or fs k d in
    let i : In g fs = in_at fs k d l in
    before_or_same xs f g (h f (inl refl)) (h g (inr i)) (up 0 (suc k) d (omega arith) (omega arith)) (none_kept fs f.path n.0 g i)

in_order : (xs : List Variable) (fs : List Fact) → ((f : Fact) → In f fs → IsVariableOf xs f.path.var) → NoClash fs → NoneIsEarly fs → AreInOrder fs
in_order xs [] h n up = tt
in_order xs (f ∷ fs) h n up = (first_before xs f fs h n up, in_order xs fs (λ g i. h g (inr i)) n.2 (λ i j d le l. up (suc i) (suc j) d (omega arith) (omega arith)))

-- how often a path stands in facts: once more with a fact of it
abbrev at_path : Path → Fact → ℕ
at_path p f = cond (same_path f.path p) 1 0

absent : (fs : List Fact) (p : Path) → kept_shape fs p ≡ None → sum_by (at_path p) fs ≡ 0
absent [] p h = refl
absent (f ∷ fs) p h =
    let off : same_path f.path p ≡ false = none_kept (f ∷ fs) p h f (inl refl) in
    let rest : sum_by (at_path p) fs ≡ 0 = absent fs p (kept_none fs p (λ g i. none_kept (f ∷ fs) p h g (inr i))) in
    let none : at_path p f ≡ 0 = ap (λ b. cond b 1 0) off in
    let both = sum_by-cons (at_path p) f fs in
    omega arith

absent_back : (fs : List Fact) (p : Path) → sum_by (at_path p) fs ≡ 0 → kept_shape fs p ≡ None
absent_back [] p h = refl
absent_back (f ∷ fs) p h =
    let both = sum_by-cons (at_path p) f fs in
    let off : same_path f.path p ≡ false = false_from_ne_true (same_path f.path p) (λ t. let one : at_path p f ≡ 1 = ap (λ b. cond b 1 0) t in omega arith) in
    ap (λ b. cond b (Some f.shape) (kept_shape fs p)) off ∙ absent_back fs p (omega arith)

one_at_most : (b : Bool) (n : ℕ) → (b ≡ true → n ≡ 0) → n ≤ 1 → cond b 1 0 + n ≤ 1
one_at_most true n none h = let e = none refl in omega arith
one_at_most false n none h = omega arith

-- in facts without a clash at most once
at_most_once : (fs : List Fact) (p : Path) → NoClash fs → sum_by (at_path p) fs ≤ 1
at_most_once [] p n = omega arith
at_most_once (f ∷ fs) p n =
    let none : same_path f.path p ≡ true → sum_by (at_path p) fs ≡ 0 = λ t. absent fs p (ap (kept_shape fs) (sym ((same_path-decides f.path p).0 t)) ∙ n.0) in
    let bound = one_at_most (same_path f.path p) (sum_by (at_path p) fs) none (at_most_once fs p n.2) in
    let both = sum_by-cons (at_path p) f fs in
    omega arith

no_clash_from : (fs : List Fact) → ((p : Path) → sum_by (at_path p) fs ≤ 1) → ((f g : Fact) → In f fs → In g fs → clash f g ≡ false) → NoClash fs
no_clash_from [] once apart = tt
no_clash_from (f ∷ fs) once apart =
    let rest : (p : Path) → sum_by (at_path p) fs ≤ 1 = λ p. let both = sum_by-cons (at_path p) f fs in let whole = once p in omega arith in
    let own : at_path f.path f ≡ 1 = ap (λ b. cond b 1 0) (same_path-refl f.path) in
    let both = sum_by-cons (at_path f.path) f fs in
    let whole = once f.path in
    let none : kept_shape fs f.path ≡ None = absent_back fs f.path (omega arith) in
    (none, meets_none fs f (λ g i. apart g f (inr i) (inl refl)), no_clash_from fs rest (λ g h i j. apart g h (inr i) (inr j)))

in_all : (xs : List Fact) (P : Fact → Type 0) → AllByRecursion P xs → (f : Fact) → In f xs → P f
in_all [] P h f i = absurd i
in_all (x ∷ xs) P h f (inl e) = subst P e h.0
in_all (x ∷ xs) P h f (inr i) = in_all xs P h.1 f i

in_permuted : (xs ys : List Fact) → IsPermutation xs ys → (f : Fact) → In f ys → In f xs
in_permuted xs ys moved f i = in_all ys (λ g. In g xs) (recursion_from_All (λ g. In g xs) ys (All-permutation (λ g. In g xs) xs ys moved (in_at xs))) f i

no_clash_permuted : (xs ys : List Fact) → IsPermutation xs ys → NoClash xs → NoClash ys
no_clash_permuted xs ys moved n =
    let back = in_permuted xs ys moved in
    let once : (p : Path) → sum_by (at_path p) ys ≤ 1 = λ p. let same = sum_by-IsPermutation (at_path p) xs ys moved in let most = at_most_once xs p n in omega arith in
    no_clash_from ys once (λ f g i j. apart_in xs f g n (back f i) (back g j))

-- a fact of the globals is of a variable of the store's
global_in : (globals : ℕ) (s : Contents) (xs : List Fact) → IsSoundStore s → NoClash xs → HaveSameShapes xs (facts_below globals s.facts) → (f : Fact) → In f xs → IsVariableOf s.variables f.path.var
global_in globals s xs sound n same f i =
    let shape : kept_shape (facts_below globals s.facts) f.path ≡ Some f.shape = sym (same f.path) ∙ in_kept xs f n i in
    let below = in_filter (λ g. nat_lt g.path.var.number globals) (fact f.path f.shape) s.facts (kept_in (facts_below globals s.facts) f.path f.shape shape) in
    of_variables_in s.variables s.facts sound.of_variables (fact f.path f.shape) below.0

sorted_globals : (globals : ℕ) (s : Contents) (xs ys : List Fact) → IsSoundStore s → NoClash xs → HaveSameShapes xs (facts_below globals s.facts) → IsPermutation xs ys → IsSortedBy is_before ys → AreGlobals globals s.facts ys
sorted_globals globals s xs ys sound n same moved sorted =
    let back = in_permuted xs ys moved in
    let there = in_permuted ys xs (IsPermutation-sym xs ys moved) in
    let apart : NoClash ys = no_clash_permuted xs ys moved n in
    record {
      order = in_order s.variables ys (λ f i. global_in globals s xs sound n same f (back f i)) apart (sorted_far is_before is_before-order ys sorted);
      no_clash = apart;
      same = λ p. same_kept ys xs p n (record { there = λ f e i. back f i; back = λ f e i. there f i }) ∙ same p;
    }

-- The facts of the globals that a store appended to none, sorted, are its globals in order.
pub appended_sorted : (globals : ℕ) (s : Contents) (old new xs ys : List Fact) → IsSoundStore s → HasAppended (facts_below globals s.facts) old new → old ≡ [] → xs ≡ new → IsPermutation xs ys → IsSortedBy is_before ys → AreGlobals globals s.facts ys
appended_sorted globals s old new xs ys sound more empty is moved sorted =
    let all : xs ≡ more.appended = is ∙ more.list ∙ ap (λ l. l ++ more.appended) empty in
    sorted_globals globals s more.appended ys sound more.no_clash more.shapes (subst (λ l. IsPermutation l ys) all moved) sorted

-- a fact that a store keeps of a global is one of them
kept_global : (globals : ℕ) (kept facts : List Fact) (g : Fact) → NoClash kept → AreGlobals globals kept facts → g.path.var.number < globals → In g kept → In g facts
kept_global globals kept facts g n are low i =
    let below = filter_in (λ (f : Fact). nat_lt f.path.var.number globals) g kept i (lt-ltb g.path.var.number globals low) in
    let shape : kept_shape facts g.path ≡ Some g.shape = are.same g.path ∙ in_kept (facts_below globals kept) g (NoClash-filter (λ (f : Fact). nat_lt f.path.var.number globals) kept n) below in
    kept_in facts g.path g.shape shape

-- and the other way round
global_kept : (globals : ℕ) (kept facts : List Fact) (g : Fact) → AreGlobals globals kept facts → In g facts → In g kept × (nat_lt g.path.var.number globals ≡ true)
global_kept globals kept facts g are i =
    let shape : kept_shape (facts_below globals kept) g.path ≡ Some g.shape = sym (are.same g.path) ∙ in_kept facts g are.no_clash i in
    in_filter (λ f. nat_lt f.path.var.number globals) (fact g.path g.shape) kept (kept_in (facts_below globals kept) g.path g.shape shape)

-- what a store knows of its globals is known of these
pub parts_are : (globals : ℕ) (kept facts : List Fact) → NoClash kept → AreGlobals globals kept facts → parts_by (full kept) None facts ≡ line_parts facts
parts_are globals kept facts n are = parts_same (full kept) (full facts) None facts (λ f i.
    let low = ltb-true f.path.var.number globals (global_kept globals kept facts f are i).1 in
    same_full kept facts f.path are.no_clash (record {
      there = λ g e j. kept_global globals kept facts g n are (subst (λ (x : VarId). x.number < globals) (sym e) low) j;
      back = λ g e j. (global_kept globals kept facts g are j).0;
    }))
