-- The parts of a line give the facts that they come from, in order.
use Rattle.std.proofs.Common.{◌≡◌, inl, inr, ◌+◌, ℕ, zero, suc, Bool, true, false, cond, List, [], ◌∷◌, ◌++◌, length, slice_get, All, IsTrue, Option, None, Some, map, refl, sym, ap, ◌∙◌, subst, arith, append_assoc}
use Rattle.std.specs.List.{flat_map}
use Rattle.std.proofs.lemmas.List.Elements.{All-nil, All-cons, All-head, All-tail}
use Rattle.tp_value.specs.Tree.{Tree, Trees, num, truth, list, nil, cons, items_of}
use Rattle.tp_value.specs.Shape.{at_item, shape_at_path}
use Rattle.tp_value.specs.declared.path.Path.{Path}
use Rattle.tp_value.specs.declared.path.Fact.{Fact}
use Rattle.tp_value.specs.declared.value.Shape.{Shape}
use Rattle.tp_value.specs.declared.value.Shape.TheVariants.{Num, Truth, Items}
use Rattle.tp_store.specs.Facts.{item_path, fact, facts_at, facts_of_items}
use Rattle.tp_store.specs.Known.{is_lesser, Variable, IsVariableOf, global_variable, Full, absent, undecided, too_long, value, full}
use Rattle.tp_store.proofs.Paths.{fact_from}
use Rattle.tp_store.proofs.Members.{In, in_left, in_right, in_append}
use Rattle.tp_scene.proofs.Globals.{of_variables_in}
use Rattle.tp_show.specs.Line.{is_before, AreInOrder, is_inside, is_written, is_value, LinePartTree, valued, measured, shape_part, known_part, parts_by, line_parts}
use Rattle.tp_show.specs.FactsOf.{AreFactsOf}
use Rattle.tp_show.proofs.PartLemmas.{one_variable}
use Rattle.tp_show.proofs.ToldLemmas.{beyond, here, HasFact, Tells, AreTelling, all_told, told_in, all_in, in_order_same}
use Rattle.tp_show.proofs.PathOrder.{IsPast, later_item, lesser_deeper, is_past_more, past_then_before, past_outside, before_by, before_more, before_past}

-- the facts that a part gives
abbrev pub facts_told : LinePartTree → List Fact
facts_told (valued p t) = facts_at p t
facts_told (measured p n) = fact p (Items n) ∷ []

-- ---- a value's facts are those of the shapes in it

mutual
  fact_there : (p : Path) (t : Tree) (rest : List ℕ) (sh : Shape) → shape_at_path rest t ≡ Some sh → In (fact (beyond p rest) sh) (facts_at p t)
  fact_there p (num n) [] sh e = let same : Num n ≡ sh = cc e in inl (fact_from (fact p (Num n)) (fact (beyond p []) sh) (here p) same)
  fact_there p (num n) (j ∷ js) sh e = absurd (cc e)
  fact_there p (truth b) [] sh e = let same : Truth b ≡ sh = cc e in inl (fact_from (fact p (Truth b)) (fact (beyond p []) sh) (here p) same)
  fact_there p (truth b) (j ∷ js) sh e = absurd (cc e)
  fact_there p (list ts) [] sh e = let same : Items (length (items_of ts)) ≡ sh = cc e in inl (fact_from (fact p (Items (length (items_of ts)))) (fact (beyond p []) sh) (here p) same)
  fact_there p (list ts) (j ∷ js) sh e =
      let at : p.at ++ (j ∷ js) ≡ (p.at ++ (0 + j) ∷ []) ++ js = ap (λ k. p.at ++ (k ∷ js)) (omega arith) ∙ sym (append_assoc p.at ((0 + j) ∷ []) js) in
      inr (subst (λ (is : List ℕ). In (fact (record { var = p.var; at = is }) sh) (facts_of_items p 0 ts)) (sym at) (item_there p 0 ts j js sh e))

  item_there : (p : Path) (k : ℕ) (ts : Trees) (j : ℕ) (js : List ℕ) (sh : Shape) → at_item (slice_get (items_of ts) j) (shape_at_path js) ≡ Some sh → In (fact (beyond (item_path p (k + j)) js) sh) (facts_of_items p k ts)
  item_there p k nil zero js sh e = absurd (cc e)
  item_there p k nil (suc j) js sh e = absurd (cc e)
  item_there p k (cons t ts) zero js sh e =
      let n : k ≡ k + zero = omega arith in
      in_left (fact (beyond (item_path p (k + zero)) js) sh) (facts_at (item_path p k) t) (facts_of_items p (suc k) ts) (subst (λ (m : ℕ). In (fact (beyond (item_path p m) js) sh) (facts_at (item_path p k) t)) n (fact_there (item_path p k) t js sh e))
  item_there p k (cons t ts) (suc j) js sh e =
      let n : suc k + j ≡ k + suc j = omega arith in
      in_right (fact (beyond (item_path p (k + suc j)) js) sh) (facts_at (item_path p k) t) (facts_of_items p (suc k) ts) (subst (λ (m : ℕ). In (fact (beyond (item_path p m) js) sh) (facts_of_items p (suc k) ts)) n (item_there p (suc k) ts j js sh e))

-- a fact of the items from index k on
record IsOfItem (p : Path) (k : ℕ) (ts : Trees) (f : Fact) : Type 0 where
  index : ℕ
  rest : List ℕ
  path : f.path ≡ beyond (item_path p (k + index)) rest
  shape : at_item (slice_get (items_of ts) index) (shape_at_path rest) ≡ Some f.shape

first_fact : (p : Path) (sh : Shape) (t : Tree) (f : Fact) → shape_at_path [] t ≡ Some sh → fact p sh ≡ f → HasFact p t f
first_fact p sh t f s e = record { rest = []; path = ap (λ (x : Fact). x.path) (sym e) ∙ here p; shape = s ∙ ap (λ (x : Fact). Some x.shape) e }

mutual
  of_value : (p : Path) (t : Tree) (f : Fact) → In f (facts_at p t) → HasFact p t f
  of_value p (num n) f (inl e) = first_fact p (Num n) (num n) f refl e
  of_value p (num n) f (inr i) = absurd i
  of_value p (truth b) f (inl e) = first_fact p (Truth b) (truth b) f refl e
  of_value p (truth b) f (inr i) = absurd i
  of_value p (list ts) f (inl e) = first_fact p (Items (length (items_of ts))) (list ts) f refl e
  of_value p (list ts) f (inr i) =
      let w = of_items p 0 ts f i in
      let at : (p.at ++ (0 + w.index) ∷ []) ++ w.rest ≡ p.at ++ (w.index ∷ w.rest) = append_assoc p.at ((0 + w.index) ∷ []) w.rest ∙ ap (λ k. p.at ++ (k ∷ w.rest)) (omega arith) in
      record { rest = w.index ∷ w.rest; path = w.path ∙ ap (λ (is : List ℕ). let q : Path = record { var = p.var; at = is } in q) at; shape = w.shape }

  of_items : (p : Path) (k : ℕ) (ts : Trees) (f : Fact) → In f (facts_of_items p k ts) → IsOfItem p k ts f
  of_items p k nil f i = absurd i
  of_items p k (cons t ts) f i = elim (in_append f (facts_at (item_path p k) t) (facts_of_items p (suc k) ts) i) [
    | inl j ↦ (let u = of_value (item_path p k) t f j in let n : k ≡ k + 0 = omega arith in
        record { index = 0; rest = u.rest; path = u.path ∙ ap (λ m. beyond (item_path p m) u.rest) n; shape = u.shape })
    | inr j ↦ (let w = of_items p (suc k) ts f j in let n : suc k + w.index ≡ k + suc w.index = omega arith in
        record { index = suc w.index; rest = w.rest; path = w.path ∙ ap (λ m. beyond (item_path p m) w.rest) n; shape = w.shape })
  ]

-- ---- in order

in_order_append : (xs ys : List Fact) → AreInOrder xs → AreInOrder ys → ((f g : Fact) → In f xs → In g ys → is_before f g ≡ true) → AreInOrder (xs ++ ys)
in_order_append [] ys o q before = q
in_order_append (x ∷ xs) ys o q before = (all_after xs ys o.0 (λ g i. before x g (inl refl) i), in_order_append xs ys o.1 q (λ f g i j. before f g (inr i) j))
  where
    all_after : (us vs : List Fact) → All (λ g. IsTrue (is_before x g)) us → ((g : Fact) → In g vs → is_before x g ≡ true) → All (λ g. IsTrue (is_before x g)) (us ++ vs)
    all_after [] [] h k = All-nil (λ g. IsTrue (is_before x g))
    all_after [] (v ∷ vs) h k = All-cons (λ g. IsTrue (is_before x g)) v vs (k v (inl refl)) (all_after [] vs h (λ g i. k g (inr i)))
    all_after (u ∷ us) vs h k = All-cons (λ g. IsTrue (is_before x g)) u (us ++ vs) (All-head (λ g. IsTrue (is_before x g)) u us h) (all_after us vs (All-tail (λ g. IsTrue (is_before x g)) u us h) k)

all_from : (f : Fact) (gs : List Fact) → ((g : Fact) → In g gs → is_before f g ≡ true) → All (λ g. IsTrue (is_before f g)) gs
all_from f [] h = All-nil (λ g. IsTrue (is_before f g))
all_from f (g ∷ gs) h = All-cons (λ g. IsTrue (is_before f g)) g gs (h g (inl refl)) (all_from f gs (λ x i. h x (inr i)))

item_after : (p : Path) (sh : Shape) (k : ℕ) (ts : Trees) (f : Fact) → IsOfItem p k ts f → is_before (fact p sh) f ≡ true
item_after p sh k ts f w =
    let deeper = subst (λ (is : List ℕ). is_lesser p.at is ≡ true) (sym (append_assoc p.at ((k + w.index) ∷ []) w.rest)) (lesser_deeper p.at (k + w.index) w.rest) in
    let there : is_before (fact p sh) (fact (beyond (item_path p (k + w.index)) w.rest) sh) ≡ true = before_by (fact p sh) (fact (beyond (item_path p (k + w.index)) w.rest) sh) refl deeper in
    subst (λ (q : Path). is_before (fact p sh) (fact q sh) ≡ true) (sym w.path) there

mutual
  value_in_order : (p : Path) (t : Tree) → AreInOrder (facts_at p t)
  value_in_order p (num n) = (All-nil (λ g. IsTrue (is_before (fact p (Num n)) g)), tt)
  value_in_order p (truth b) = (All-nil (λ g. IsTrue (is_before (fact p (Truth b)) g)), tt)
  value_in_order p (list ts) =
      let sh = Items (length (items_of ts)) in
      (all_from (fact p sh) (facts_of_items p 0 ts) (λ g i. item_after p sh 0 ts g (of_items p 0 ts g i)), items_in_order p 0 ts)

  items_in_order : (p : Path) (k : ℕ) (ts : Trees) → AreInOrder (facts_of_items p k ts)
  items_in_order p k nil = tt
  items_in_order p k (cons t ts) =
      in_order_append (facts_at (item_path p k) t) (facts_of_items p (suc k) ts) (value_in_order (item_path p k) t) (items_in_order p (suc k) ts) (λ f g i j.
      let u = of_value (item_path p k) t f i in
      let w = of_items p (suc k) ts g j in
      let past : IsPast (item_path p k) (item_path p (suc k + w.index)) = inr (refl, later_item p.at k (suc k + w.index) (omega arith)) in
      before_past (item_path p k) f g u.rest u.path (subst (IsPast (item_path p k)) (sym w.path) (is_past_more (item_path p k) (item_path p (suc k + w.index)) w.rest past)))

-- ---- what the parts give

part_in_order : (a : LinePartTree) → AreInOrder (facts_told a)
part_in_order (valued p t) = value_in_order p t
part_in_order (measured p n) = (All-nil (λ g. IsTrue (is_before (fact p (Items n)) g)), tt)

-- the one fact of a part that isn't known as a whole
shape_gives : (f : Fact) (sh : Shape) → f.shape ≡ sh → facts_told (shape_part f.path sh) ≡ f ∷ []
shape_gives f (Num n) e = ap (λ x. x ∷ []) (fact_from (fact f.path (Num n)) f refl (sym e))
shape_gives f (Truth b) e = ap (λ x. x ∷ []) (fact_from (fact f.path (Truth b)) f refl (sym e))
shape_gives f (Items n) e = ap (λ x. x ∷ []) (fact_from (fact f.path (Items n)) f refl (sym e))

-- each fact of a part is at the path or inside of it
abbrev IsAround : Path → Fact → Type 0
IsAround p x = (r : List ℕ) × (x.path ≡ beyond p r)

one_around : (f x : Fact) (xs : List Fact) → xs ≡ f ∷ [] → In x xs → IsAround f.path x
one_around f x xs e i = elim (subst (In x) e i) [ inl s ↦ ([], ap (λ (y : Fact). y.path) (sym s) ∙ here f.path) | inr n ↦ absurd n ]

part_around : (f : Fact) (k : Full) (x : Fact) → In x (facts_told (known_part f k)) → IsAround f.path x
part_around f absent x i = one_around f x _ (shape_gives f f.shape refl) i
part_around f (undecided p) x i = one_around f x _ (shape_gives f f.shape refl) i
part_around f too_long x i = one_around f x _ (shape_gives f f.shape refl) i
part_around f (value t) x i = let h = of_value f.path t x i in (h.rest, h.path)

module _ (k : Path → Full) where
  -- what holds of the facts, and of each fact inside of one for which it holds, holds of what the parts give
  given_all : (Q : Fact → Type 0) → ((g x : Fact) → Q g → IsAround g.path x → Q x) → (last : Option Path) (fs : List Fact) → ((g : Fact) → In g fs → Q g) → (x : Fact) → In x (flat_map facts_told (parts_by k last fs)) → Q x
  given_all Q around last [] each x i = absurd i
  given_all Q around last (g ∷ gs) each x i =
      let next : Option Path = cond (is_value (k g.path)) (Some g.path) last in
      let more : (h : Fact) → In h gs → Q h = λ h j. each h (inr j) in
      let P : Bool → Type 0 = λ b. In x (flat_map facts_told (cond b (parts_by k last gs) (known_part g (k g.path) ∷ parts_by k next gs))) → Q x in
      let inside : P true = λ j. given_all Q around last gs more x j in
      let apart : P false = λ j. elim (in_append x (facts_told (known_part g (k g.path))) (flat_map facts_told (parts_by k next gs)) j) [
        | inl a ↦ around g x (each g (inl refl)) (part_around g (k g.path) x a)
        | inr b ↦ given_all Q around next gs more x b
      ] in
      let cases : P (is_written last g.path) = elim (is_written last g.path) as P [ true ↦ inside | false ↦ apart ] in
      cases i

  -- behind a value that was told comes nothing that is inside of it
  given_past : (xs : List Variable) (f : Fact) → IsVariableOf xs f.path.var → (fs : List Fact) → AreInOrder fs → ((g : Fact) → In g fs → IsVariableOf xs g.path.var) → ((g : Fact) → In g fs → is_before f g ≡ true)
      → (x : Fact) → In x (flat_map facts_told (parts_by k (Some f.path) fs)) → IsPast f.path x.path
  given_past xs f of [] o each after x i = absurd i
  given_past xs f of (g ∷ gs) o each after x i =
      let next : Option Path = cond (is_value (k g.path)) (Some g.path) (Some f.path) in
      let P : Bool → Type 0 = λ b. is_inside f.path g.path ≡ b → In x (flat_map facts_told (cond b (parts_by k (Some f.path) gs) (known_part g (k g.path) ∷ parts_by k next gs))) → IsPast f.path x.path in
      let past_around : (h y : Fact) → IsPast f.path h.path → IsAround h.path y → IsPast f.path y.path = λ h y p r. subst (IsPast f.path) (sym r.1) (is_past_more f.path h.path r.0 p) in
      let inside : P true = λ e j. given_past xs f of gs o.1 (λ h l. each h (inr l)) (λ h l. after h (inr l)) x j in
      let apart : P false = λ e j.
      let first : IsPast f.path g.path = past_outside f g (λ n. one_variable xs f.path.var g.path.var of (each g (inl refl)) n) (after g (inl refl)) e in
      elim (in_append x (facts_told (known_part g (k g.path))) (flat_map facts_told (parts_by k next gs)) j) [
        | inl a ↦ past_around g x first (part_around g (k g.path) x a)
        | inr b ↦ given_all (λ (h : Fact). IsPast f.path h.path) past_around next gs (λ h l. past_then_before f.path g h first (all_in (λ y. IsTrue (is_before g y)) gs o.0 h l)) x b
      ] in
      let cases : P (is_inside f.path g.path) = elim (is_inside f.path g.path) as P [ true ↦ inside | false ↦ apart ] in
      cases refl i

  -- what a part gives is before what the later parts give
  part_before : (xs : List Variable) (last : Option Path) (g : Fact) (gs : List Fact) → AreInOrder (g ∷ gs) → ((h : Fact) → In h (g ∷ gs) → IsVariableOf xs h.path.var) → (w : Full) (f h : Fact) → In f (facts_told (known_part g w))
      → In h (flat_map facts_told (parts_by k (cond (is_value w) (Some g.path) last) gs)) → is_before f h ≡ true
  part_before xs last g gs o each w f h i j = by w i j
    where
      after : (h : Fact) → In h gs → is_before g h ≡ true
      after = all_in (λ x. IsTrue (is_before g x)) gs o.0

      later : In h (flat_map facts_told (parts_by k last gs)) → is_before g h ≡ true
      later = given_all (λ x. is_before g x ≡ true) (λ y x b r. before_more g y x r.0 r.1 b) last gs after h

      one : (ys : List Fact) → ys ≡ g ∷ [] → In f ys → In h (flat_map facts_told (parts_by k last gs)) → is_before f h ≡ true
      one ys e a b = elim (subst (In f) e a) [ inl s ↦ subst (λ (x : Fact). is_before x h ≡ true) s (later b) | inr n ↦ absurd n ]

      by : (w : Full) → In f (facts_told (known_part g w)) → In h (flat_map facts_told (parts_by k (cond (is_value w) (Some g.path) last) gs)) → is_before f h ≡ true
      by absent a b = one _ (shape_gives g g.shape refl) a b
      by (undecided p) a b = one _ (shape_gives g g.shape refl) a b
      by too_long a b = one _ (shape_gives g g.shape refl) a b
      by (value t) a b =
          let r = of_value g.path t f a in
          before_past g.path f h r.rest r.path (given_past xs g (each g (inl refl)) gs o.1 (λ x l. each x (inr l)) after h b)

  parts_in_order : (xs : List Variable) (last : Option Path) (fs : List Fact) → AreInOrder fs → ((g : Fact) → In g fs → IsVariableOf xs g.path.var) → AreInOrder (flat_map facts_told (parts_by k last fs))
  parts_in_order xs last [] o each = tt
  parts_in_order xs last (g ∷ gs) o each =
      let next : Option Path = cond (is_value (k g.path)) (Some g.path) last in
      let more : (h : Fact) → In h gs → IsVariableOf xs h.path.var = λ h i. each h (inr i) in
      let P : Bool → Type 0 = λ b. AreInOrder (flat_map facts_told (cond b (parts_by k last gs) (known_part g (k g.path) ∷ parts_by k next gs))) in
      let apart : P false = in_order_append (facts_told (known_part g (k g.path))) (flat_map facts_told (parts_by k next gs)) (part_in_order (known_part g (k g.path))) (parts_in_order xs next gs o.1 more) (part_before xs last g gs o each (k g.path)) in
      elim (is_written last g.path) as P [ true ↦ parts_in_order xs last gs o.1 more | false ↦ apart ]

-- ---- a part gives what it tells

tells_in : (a : LinePartTree) (f : Fact) → Tells a f → In f (facts_told a)
tells_in (valued p t) f h = subst (λ (x : Fact). In x (facts_at p t)) (fact_from (fact (beyond p h.rest) f.shape) f (sym h.path) refl) (fact_there p t h.rest f.shape h.shape)
tells_in (measured p n) f h = inl (sym h)

in_tells : (a : LinePartTree) (f : Fact) → In f (facts_told a) → Tells a f
in_tells (valued p t) f i = of_value p t f i
in_tells (measured p n) f (inl e) = sym e
in_tells (measured p n) f (inr i) = absurd i

telling_in : (parts : List LinePartTree) (f : Fact) → AreTelling parts f → In f (flat_map facts_told parts)
telling_in [] f h = absurd h
telling_in (a ∷ parts) f (inl t) = in_left f (facts_told a) (flat_map facts_told parts) (tells_in a f t)
telling_in (a ∷ parts) f (inr t) = in_right f (facts_told a) (flat_map facts_told parts) (telling_in parts f t)

in_telling : (parts : List LinePartTree) (f : Fact) → In f (flat_map facts_told parts) → AreTelling parts f
in_telling [] f i = absurd i
in_telling (a ∷ parts) f i = elim (in_append f (facts_told a) (flat_map facts_told parts) i) [ inl j ↦ inl (in_tells a f j) | inr j ↦ inr (in_telling parts f j) ]

-- the parts of a line give the facts that they come from
pub parts_give_facts : (names : List (List ℕ)) (facts : List Fact) → AreFactsOf names facts → flat_map facts_told (line_parts facts) ≡ facts
parts_give_facts names facts are =
    let parts = parts_by (full facts) None facts in
    let order = parts_in_order (full facts) (map global_variable names) None facts are.order (of_variables_in (map global_variable names) facts are.of_variables) in
    in_order_same (flat_map facts_told parts) facts order are.order
    (λ f i. told_in facts are.no_clash None facts (λ g j. j) f (in_telling parts f i))
    (λ f i. elim (all_told names facts are None tt facts (λ g j. j) f i) [ inl t ↦ telling_in parts f t | inr t ↦ absurd t ])
