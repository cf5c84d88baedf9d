-- The facts that are kept at the nodes of a tree.
use Rattle.std.proofs.Common.{◌≡◌, ◌⊎◌, inl, inr, ℕ, zero, suc, ◌+◌, ◌-◌, ◌<◌, ◌≤◌, Bool, true, false, not, cond, List, [], ◌∷◌, ◌++◌, length, get_or, drop, Option, Some, None, refl, ap, ap₂, sym, ◌∙◌, subst, arith, append-nil, append_assoc}
use Rattle.std.specs.List.{IsDistinct}
use Rattle.std.proofs.lemmas.Bool.{false_from_ne_true}
use Rattle.std.proofs.lemmas.Option.{slice_get_within}
use Rattle.tp_value.specs.declared.value.Shape.{Shape}
use Rattle.tp_value.specs.declared.path.Path.{Path}
use Rattle.tp_value.specs.declared.path.Fact.{Fact}
use Rattle.tp_store.specs.Facts.{same_path, clash, kept_shape, fact}
use Rattle.tp_store.specs.Known.{NoClash, clashes_with_some}
use Rattle.tp_store.specs.FactMap.{is_among, facts_asked}
use Rattle.tp_store.specs.declared.copies.AskedVariables.{AskedVariables}
use Rattle.tp_store.specs.declared.nodes.Edge.{Edge}
use Rattle.tp_store.specs.declared.nodes.Node.{Node}
use Rattle.tp_store.specs.Nodes.{bare_node, same_edge, child, node_or_none, node_from, routes, IsRooted, path_along, path_of, way_of, fact_where, facts_along, shape_among, shape_found, beyond_among, with_node, with_shape_at}
use Rattle.tp_store.proofs.Paths.{same_path-decides, same_path-sym, clash-sym, fact_from}
use Rattle.tp_store.proofs.Members.{In, in_left, in_right, in_append, kept_none, none_kept, meets_none, none_meets}
use Rattle.tp_store.proofs.Routes.{route_after, routes_more, length_of_routes, root_route, inner_routes, node_route, node_back, child_found}

kept_past : (b : Bool) (r : List ℕ) (o : Option Shape) (fs : List Fact) (q : Path) → same_path (path_of b r) q ≡ false → kept_shape (fact_where b r o ++ fs) q ≡ kept_shape fs q
kept_past b r None fs q h = refl
kept_past b r (Some sh) fs q h = ap (λ b. cond b (Some sh) (kept_shape fs q)) h

kept_here : (b : Bool) (r : List ℕ) (o : Option Shape) (fs : List Fact) (q : Path) → same_path (path_of b r) q ≡ true → kept_shape fs q ≡ None → kept_shape (fact_where b r o ++ fs) q ≡ o
kept_here b r None fs q h n = n
kept_here b r (Some sh) fs q h n = ap (λ b. cond b (Some sh) (kept_shape fs q)) h

pub kept_nowhere : (b : Bool) (rs : List (List ℕ)) (ns : List Node) (q : Path) → ((j : ℕ) → j < length rs → same_path (path_of b (get_or rs j [])) q ≡ false)
    → kept_shape (facts_along b rs ns) q ≡ None
kept_nowhere b [] ns q h = refl
kept_nowhere b (r ∷ rs) [] q h = refl
kept_nowhere b (r ∷ rs) (n ∷ ns) q h =
    kept_past b r n.shape (facts_along b rs ns) q (h 0 (omega arith)) ∙ kept_nowhere b rs ns q (λ j l. h (suc j) (omega arith))

kept_there : (b : Bool) (rs : List (List ℕ)) (ns : List Node) (q : Path) (j : ℕ) → j < length rs → length ns ≡ length rs
    → same_path (path_of b (get_or rs j [])) q ≡ true
    → ((i : ℕ) → i < length rs → (i ≡ j → ⊥) → same_path (path_of b (get_or rs i [])) q ≡ false)
    → kept_shape (facts_along b rs ns) q ≡ shape_among ns j
kept_there b [] ns q j l e t f = absurd (omega arith)
kept_there b (r ∷ rs) [] q j l e t f = absurd (omega arith)
kept_there b (r ∷ rs) (n ∷ ns) q zero l e t f =
    kept_here b r n.shape (facts_along b rs ns) q t (kept_nowhere b rs ns q (λ i m. f (suc i) (omega arith) (λ z. absurd (omega (arith, z)))))
kept_there b (r ∷ rs) (n ∷ ns) q (suc j) l e t f =
    kept_past b r n.shape (facts_along b rs ns) q (f 0 (omega arith) (λ z. absurd (omega (arith, z))))
    ∙ kept_there b rs ns q j (omega arith) (omega arith) t (λ i m d. f (suc i) (omega arith) (λ z. d (omega (arith, z))))

-- a path of a variable of this kind, and the indices that lead to its node
pub path_back : (b : Bool) (q : Path) → q.var.lasting ≡ b → path_of b (way_of q) ≡ q
path_back b q v = ap (λ k. path_along (record { number = q.var.number; lasting = k }) q.at) (sym v)

pub way_back : (b : Bool) (r : List ℕ) (q : Path) → q.var.lasting ≡ b → path_of b r ≡ q → r ≡ way_of q
way_back b [] q v e = absurd (other_kind b (ap (λ (p : Path). p.var.lasting) e ∙ v))
  where
    other_kind : (k : Bool) → not k ≡ k → ⊥
    other_kind true h = cc h
    other_kind false h = cc h
way_back b (k ∷ ks) q v e = ap₂ (λ (n : ℕ) (ns : List ℕ). n ∷ ns) (ap (λ (p : Path). p.var.number) e) (ap (λ (p : Path). p.at) e)

-- one index more behind the path of a node below the root
pub path_on : (b : Bool) (es : List Edge) (n k : ℕ) → 0 < n → n < suc (length es) → (p q : Path) → p ≡ path_of b (get_or (routes es) n []) → q ≡ path_along p.var (p.at ++ k ∷ []) → q ≡ path_of b (get_or (routes es) n [] ++ k ∷ [])
path_on b es n k low high p q e h =
    let long = length_of_routes es in
    let m : n ≡ suc (n - 1) = omega (arith, low) in
    h ∙ ap (λ (o : Path). path_along o.var (o.at ++ k ∷ [])) e
    ∙ on (get_or (routes es) n []) (λ none. inner_routes es (n - 1) (omega (arith, low, high, long)) (ap (λ i. get_or (routes es) i []) (sym m) ∙ none))
  where
    on : (r : List ℕ) → (r ≡ [] → ⊥) → path_along (path_of b r).var ((path_of b r).at ++ k ∷ []) ≡ path_of b (r ++ k ∷ [])
    on [] h = absurd (h refl)
    on (v ∷ ks) h = refl

-- a way leads to a node of the tree
pub node_within : (es : List Edge) (ks : List ℕ) (n m : ℕ) → n < suc (length es) → node_from es ks n ≡ Some m → m < suc (length es)
node_within es [] n m l h = let e : n ≡ m = cc h in omega (arith, e)
node_within es (k ∷ ks) n m l h = by (λ c i e. node_within es ks c m i e) (child es n k) refl h
  where
    by : ((c : ℕ) → c < suc (length es) → node_from es ks c ≡ Some m → m < suc (length es)) → (o : Option ℕ) → child es n k ≡ o → node_or_none o (node_from es ks) ≡ Some m → m < suc (length es)
    by rest None p e = absurd (cc e)
    by rest (Some c) p e =
        let f = child_found es n k c p in
        let low = slice_get_within es f.place _ f.there in
        rest c (omega (arith, low, f.number)) e

module _ (b : Bool) (es : List Edge) (ns : List Node) (r : IsRooted 1 es) (d : IsDistinct same_edge es) (long : length ns ≡ suc (length es)) where
  -- the route of a node is the way to it
  pub route_is : (ks : List ℕ) (n : ℕ) → node_from es ks 0 ≡ Some n → get_or (routes es) n [] ≡ ks
  route_is ks n e = node_route es ks 0 n r e ∙ ap (λ p. p ++ ks) (root_route es)

  pub kept_is : (q : Path) → q.var.lasting ≡ b → kept_shape (facts_along b (routes es) ns) q ≡ shape_found ns (node_from es (way_of q) 0)
  kept_is q v = by (node_from es (way_of q) 0) refl
    where
      other : (o : Option ℕ) → node_from es (way_of q) 0 ≡ o → (j : ℕ) → j < length (routes es) → (o ≡ Some j → ⊥) → same_path (path_of b (get_or (routes es) j [])) q ≡ false
      other o e j l n =
          false_from_ne_true _ (λ t.
          let same : path_of b (get_or (routes es) j []) ≡ q = (same_path-decides (path_of b (get_or (routes es) j [])) q).0 t in
          let at : get_or (routes es) j [] ≡ way_of q = way_back b (get_or (routes es) j []) q v same in
          let long_all = length_of_routes es in
          n (sym e ∙ ap (λ p. node_from es p 0) (sym at) ∙ node_back es (suc j) j r d (omega arith) (omega (arith, l, long_all))))

      by : (o : Option ℕ) → node_from es (way_of q) 0 ≡ o → kept_shape (facts_along b (routes es) ns) q ≡ shape_found ns o
      by None e = kept_nowhere b (routes es) ns q (λ j l. other None e j l (λ z. absurd (cc z)))
      by (Some n) e =
          let low = node_within es (way_of q) 0 n (omega arith) e in
          let long_all = length_of_routes es in
          let hit : same_path (path_of b (get_or (routes es) n [])) q ≡ true =
          (same_path-decides (path_of b (get_or (routes es) n [])) q).1 (ap (path_of b) (route_is (way_of q) n e) ∙ path_back b q v) in
          kept_there b (routes es) ns q n (omega (arith, low, long_all)) (omega (arith, long, long_all)) hit
          (λ i l m. other (Some n) e i l (λ z. let s : n ≡ i = cc z in m (omega (arith, s))))

-- each fact is at a node
pub record IsAtNode (b : Bool) (rs : List (List ℕ)) (f : Fact) : Type 0 where
  pub node : ℕ
  pub within : node < length rs
  pub path : f.path ≡ path_of b (get_or rs node [])

pub at_node : (b : Bool) (rs : List (List ℕ)) (ns : List Node) (f : Fact) → In f (facts_along b rs ns) → IsAtNode b rs f
at_node b [] ns f i = absurd i
at_node b (r ∷ rs) [] f i = absurd i
at_node b (r ∷ rs) (n ∷ ns) f i =
    let later : In f (facts_along b rs ns) → IsAtNode b (r ∷ rs) f = λ j.
    (let t = at_node b rs ns f j in record { node = suc t.node; within = omega (arith, t.within); path = t.path }) in
    let P : Option Shape → Type 0 = λ o. In f (fact_where b r o ++ facts_along b rs ns) → IsAtNode b (r ∷ rs) f in
    let here : (sh : Shape) → P (Some sh) = λ sh j. elim j [
      | inl e ↦ record { node = 0; within = omega arith; path = ap (λ (g : Fact). g.path) (sym e) }
      | inr k ↦ later k
    ] in
    let cases : P n.shape = elim n.shape as P [ None ↦ later | Some sh ↦ here sh ] in
    cases i

-- each fact below the root is of a variable of this kind
pub of_tree : (b : Bool) (es : List Edge) (ns : List Node) (f : Fact) → In f (facts_along b (routes es) (bare_node ∷ ns)) → f.path.var.lasting ≡ b
of_tree b es ns f i = by (routes es) (root_route es) (length_of_routes es) (inner_routes es) i
  where
    lasting_of : (r : List ℕ) → (r ≡ [] → ⊥) → (path_of b r).var.lasting ≡ b
    lasting_of [] h = absurd (h refl)
    lasting_of (k ∷ ks) h = refl

    by : (rs : List (List ℕ)) → get_or rs 0 [] ≡ [] → length rs ≡ suc (length es) → ((j : ℕ) → suc j < length rs → get_or rs (suc j) [] ≡ [] → ⊥)
        → In f (facts_along b rs (bare_node ∷ ns)) → f.path.var.lasting ≡ b
    by [] first long inner j = absurd (omega arith)
    by (r ∷ rs) first long inner j =
        let at = at_node b rs ns f j in
        ap (λ (p : Path). p.var.lasting) at.path ∙ lasting_of (get_or rs at.node []) (inner at.node (omega (arith, at.within)))

-- no fact is of a variable of the other kind
pub kept_other : (b : Bool) (es : List Edge) (ns : List Node) (q : Path) → (q.var.lasting ≡ b → ⊥) → kept_shape (facts_along b (routes es) (bare_node ∷ ns)) q ≡ None
kept_other b es ns q h =
    let fs = facts_along b (routes es) (bare_node ∷ ns) in
    kept_none fs q (λ g i. false_from_ne_true (same_path g.path q) (λ t. h (sym (ap (λ (p : Path). p.var.lasting) ((same_path-decides g.path q).0 t)) ∙ of_tree b es ns g i)))

facts_more : (b : Bool) (rs : List (List ℕ)) (ns : List Node) (r : List ℕ) (n : Node) → length rs ≡ length ns → facts_along b (rs ++ r ∷ []) (ns ++ n ∷ []) ≡ facts_along b rs ns ++ fact_where b r n.shape
facts_more b [] [] r n e = append-nil (fact_where b r n.shape)
facts_more b [] (m ∷ ns) r n e = absurd (omega arith)
facts_more b (q ∷ rs) [] r n e = absurd (omega arith)
facts_more b (q ∷ rs) (m ∷ ns) r n e =
    ap (λ fs. fact_where b q m.shape ++ fs) (facts_more b rs ns r n (omega arith)) ∙ sym (append_assoc (fact_where b q m.shape) (facts_along b rs ns) (fact_where b r n.shape))

-- a node without a shape is no fact
pub facts_grown : (b : Bool) (es : List Edge) (ns : List Node) (e : Edge) (n : Node) → length ns ≡ suc (length es) → n.shape ≡ None
    → facts_along b (routes (es ++ e ∷ [])) (ns ++ n ∷ []) ≡ facts_along b (routes es) ns
facts_grown b es ns e n long bare =
    let long_all = length_of_routes es in
    ap (λ rs. facts_along b rs (ns ++ n ∷ [])) (routes_more ([] ∷ []) es e)
    ∙ facts_more b (routes es) ns (route_after (routes es) e) n (omega (arith, long, long_all))
    ∙ ap (λ o. facts_along b (routes es) ns ++ fact_where b (route_after (routes es) e) o) bare ∙ append-nil (facts_along b (routes es) ns)

-- nor is a change of a bound
pub facts_same : (b : Bool) (rs : List (List ℕ)) (ns : List Node) (i : ℕ) (v : Node) → v.shape ≡ shape_among ns i → facts_along b rs (with_node ns i v) ≡ facts_along b rs ns
facts_same b [] ns i v h = refl
facts_same b (r ∷ rs) [] i v h = refl
facts_same b (r ∷ rs) (n ∷ ns) zero v h = ap (λ o. fact_where b r o ++ facts_along b rs ns) h
facts_same b (r ∷ rs) (n ∷ ns) (suc i) v h = ap (λ fs. fact_where b r n.shape ++ fs) (facts_same b rs ns i v h)

-- One fact stands among the old ones.
pub record AddsFact (old : List Fact) (f : Fact) (new : List Fact) : Type 0 where
  pub front : List Fact
  pub back : List Fact
  pub was : old ≡ front ++ back
  pub is : new ≡ front ++ f ∷ back

split_at : (b : Bool) (rs : List (List ℕ)) (ns : List Node) (i : ℕ) (v : Node) (sh : Shape) → length rs ≡ length ns → i < length ns → shape_among ns i ≡ None → v.shape ≡ Some sh
    → AddsFact (facts_along b rs ns) (fact (path_of b (get_or rs i [])) sh) (facts_along b rs (with_node ns i v))
split_at b [] [] i v sh e l n t = absurd (omega arith)
split_at b [] (m ∷ ns) i v sh e l n t = absurd (omega arith)
split_at b (r ∷ rs) [] i v sh e l n t = absurd (omega arith)
split_at b (r ∷ rs) (m ∷ ns) zero v sh e l n t = record {
  front = [];
  back = facts_along b rs ns;
  was = ap (λ o. fact_where b r o ++ facts_along b rs ns) n;
  is = ap (λ o. fact_where b r o ++ facts_along b rs ns) t;
}
split_at b (r ∷ rs) (m ∷ ns) (suc i) v sh e l n t =
    let rest = split_at b rs ns i v sh (omega arith) (omega arith) n t in
    let a = fact_where b r m.shape in
    record {
      front = a ++ rest.front;
      back = rest.back;
      was = ap (λ fs. a ++ fs) rest.was ∙ sym (append_assoc a rest.front rest.back);
      is = ap (λ fs. a ++ fs) rest.is ∙ sym (append_assoc a rest.front (fact (path_of b (get_or rs i [])) sh ∷ rest.back));
    }

-- a shape that is kept at a node that had none is one more fact
pub fact_added : (b : Bool) (es : List Edge) (ns : List Node) (f : Fact) (n : ℕ) → IsRooted 1 es → IsDistinct same_edge es → length ns ≡ suc (length es) → f.path.var.lasting ≡ b
    → node_from es (way_of f.path) 0 ≡ Some n → kept_shape (facts_along b (routes es) ns) f.path ≡ None
    → AddsFact (facts_along b (routes es) ns) f (facts_along b (routes es) (with_shape_at ns n f.shape))
fact_added b es ns f n r d long v way none =
    let low = node_within es (way_of f.path) 0 n (omega arith) way in
    let long_all = length_of_routes es in
    let bare : shape_among ns n ≡ None = sym (kept_is b es ns r d long f.path v ∙ ap (shape_found ns) way) ∙ none in
    let path : path_of b (get_or (routes es) n []) ≡ f.path = ap (path_of b) (route_is b es ns r d long (way_of f.path) n way) ∙ path_back b f.path v in
    let same : fact (path_of b (get_or (routes es) n [])) f.shape ≡ f = fact_from (fact (path_of b (get_or (routes es) n [])) f.shape) f path refl in
    let P : Fact → Type 0 = λ g. AddsFact (facts_along b (routes es) ns) g (facts_along b (routes es) (with_shape_at ns n f.shape)) in
    subst P same (split_at b (routes es) ns n (record { shape = Some f.shape; beyond = beyond_among ns n }) f.shape (omega (arith, long, long_all)) (omega (arith, low, long)) bare refl)

-- a fact that is new and clashes with none may stand anywhere
pub NoClash-insert : (xs ys : List Fact) (f : Fact) → NoClash (xs ++ ys) → kept_shape (xs ++ ys) f.path ≡ None → clashes_with_some (xs ++ ys) f ≡ false
    → NoClash (xs ++ f ∷ ys)
NoClash-insert [] ys f n k c = (k, c, n)
NoClash-insert (x ∷ xs) ys f n k c =
    let all = x ∷ (xs ++ ys) in
    let moved : (g : Fact) → In g (xs ++ f ∷ ys) → In g (xs ++ ys) ⊎ (f ≡ g) = λ g i.
    elim (in_append g xs (f ∷ ys) i) [
      | inl a ↦ inl (in_left g xs ys a)
      | inr (inl e) ↦ inr e
      | inr (inr b) ↦ inl (in_right g xs ys b)
    ] in
    let rest_kept : kept_shape (xs ++ ys) f.path ≡ None = kept_none (xs ++ ys) f.path (λ g i. none_kept all f.path k g (inr i)) in
    let rest_meets : clashes_with_some (xs ++ ys) f ≡ false = meets_none (xs ++ ys) f (λ g i. none_meets all f c g (inr i)) in
    let first : kept_shape (xs ++ f ∷ ys) x.path ≡ None = kept_none (xs ++ f ∷ ys) x.path (λ g i.
    elim (moved g i) [
      | inl a ↦ none_kept (xs ++ ys) x.path n.0 g a
      | inr e ↦ ap (λ (h : Fact). same_path h.path x.path) (sym e) ∙ same_path-sym f.path x.path ∙ none_kept all f.path k x (inl refl)
    ]) in
    let second : clashes_with_some (xs ++ f ∷ ys) x ≡ false = meets_none (xs ++ f ∷ ys) x (λ g i.
    elim (moved g i) [
      | inl a ↦ none_meets (xs ++ ys) x n.1 g a
      | inr e ↦ ap (λ (h : Fact). clash h x) (sym e) ∙ clash-sym f x ∙ none_meets all f c x (inl refl)
    ]) in
    (first, second, NoClash-insert xs ys f n.2 rest_kept rest_meets)

-- one node more of those that are left
pub facts_next : (b : Bool) (rs : List (List ℕ)) (ns : List Node) (i : ℕ) → i < length rs → length ns ≡ length rs
    → facts_along b (drop i rs) (drop i ns) ≡ fact_where b (get_or rs i []) (shape_among ns i) ++ facts_along b (drop (i + 1) rs) (drop (i + 1) ns)
facts_next b [] ns i l e = absurd (omega arith)
facts_next b (r ∷ rs) [] i l e = absurd (omega arith)
facts_next b (r ∷ rs) (n ∷ ns) zero l e = refl
facts_next b (r ∷ rs) (n ∷ ns) (suc i) l e =
    let m : suc i + 1 ≡ suc (i + 1) = omega arith in
    facts_next b rs ns i (omega arith) (omega arith) ∙ ap (λ j. fact_where b (get_or rs i []) (shape_among ns i) ++ facts_along b (drop j (r ∷ rs)) (drop j (n ∷ ns))) (sym m)

pub facts_end : (b : Bool) (rs : List (List ℕ)) (ns : List Node) (i : ℕ) → length rs ≤ i → facts_along b (drop i rs) (drop i ns) ≡ []
facts_end b [] ns zero l = refl
facts_end b [] ns (suc i) l = refl
facts_end b (r ∷ rs) ns zero l = absurd (omega arith)
facts_end b (r ∷ rs) [] (suc i) l = none_left (drop i rs)
  where
    none_left : (qs : List (List ℕ)) → facts_along b qs [] ≡ []
    none_left [] = refl
    none_left (q ∷ qs) = refl
facts_end b (r ∷ rs) (n ∷ ns) (suc i) l = facts_end b rs ns i (omega arith)

-- a fact that is asked for, and one that isn't
pub asked_for : (which : AskedVariables) (b : Bool) (r : List ℕ) (sh : Shape) (fs : List Fact) → is_among which (path_of b r).var.number ≡ true
    → facts_asked which (fact_where b r (Some sh) ++ fs) ≡ fact (path_of b r) sh ∷ facts_asked which fs
asked_for which b r sh fs h = ap (λ t. cond t (fact (path_of b r) sh ∷ facts_asked which fs) (facts_asked which fs)) h

pub not_asked_for : (which : AskedVariables) (b : Bool) (r : List ℕ) (sh : Shape) (fs : List Fact) → is_among which (path_of b r).var.number ≡ false
    → facts_asked which (fact_where b r (Some sh) ++ fs) ≡ facts_asked which fs
not_asked_for which b r sh fs h = ap (λ t. cond t (fact (path_of b r) sh ∷ facts_asked which fs) (facts_asked which fs)) h
